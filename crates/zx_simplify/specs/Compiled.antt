-- What is said of the answers of `compile`, a circuit or that there is none, and of a diagram's graph-like form.
use Rattle.std.specs.Prelude.{Vec, ℕ}
use Rattle.std.specs.Global.{Global}
use Rattle.zx_calculus.specs.Graph.{Graph}
use Rattle.zx_diagram.specs.Diagram.{Diagram}
use Rattle.graph_like.specs.LikeForm.{IsLikeForm}
use Rattle.zx_gates.specs.Circuit as gates
use Rattle.zx_simplify.specs.declared.compiling.Compiled.{Compiled}
use Rattle.zx_simplify.specs.declared.compiling.Compiled.TheVariants.{Circuit, NoFlow}

-- where a circuit was made
abbrev pub IfCircuit : Compiled → (gates.Circuit → Type 0) → Type 0
IfCircuit (Circuit circuit) P = P circuit
IfCircuit (NoFlow left) P = Unit {0}

-- where there is no flow
abbrev pub IfNoFlow : Compiled → (Vec ℕ Global → Type 0) → Type 0
IfNoFlow (Circuit circuit) P = Unit {0}
IfNoFlow (NoFlow left) P = P left

-- the diagram has a graph-like form, of which P holds; it has no other form
abbrev pub HasForm : Diagram → (Graph → Type 0) → Type 0
HasForm d P = (form : Graph) × IsLikeForm d form × P form
