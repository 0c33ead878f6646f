-- What the answer to a comparison of two circuits says.
use Rattle.std.specs.Prelude.{◌≡◌, ◌≤◌, ◌<◌, ◌+◌, true, false, List, length}
use Rattle.zx_model.specs.Proportional.{Proportional}
use Rattle.zx_calculus.specs.Graph.{Graph}
use Rattle.zx_calculus.specs.Reduced.{IsReduced}
use Rattle.zx_calculus.specs.Steps as calculus
use Rattle.zx_calculus.specs.Steps.{IsRun}
use Rattle.zx_gates.specs.Circuit.{Circuit, gate_odd_phases}
use Rattle.zx_gates.specs.Maps.{amp}
use Rattle.zx_peephole.specs.Tidy.{IsTidy}
use Rattle.circuit_graph.specs.Translation.{translated}
use Rattle.graph_rewrites.specs.declared.step.Step.{Step}
use Rattle.zx_extract.specs.Simplified.{gate_bound}
use Rattle.zx_same.specs.Bare.{has_only_ends, is_bare}
use Rattle.zx_identities.specs.Inverse.{undone_by}
use Rattle.zx_same.specs.declared.comparing.Sameness.{Sameness}
use Rattle.zx_same.specs.declared.comparing.Sameness.TheVariants.{Same, NotShown}

-- a fact where the answer is that they are the same
abbrev pub IfSame : Type 0 → Sameness → Type 0
IfSame fact Same = fact
IfSame fact (NotShown left trace reduced) = Unit {0}

-- a fact of the circuit, the steps and the graph that are left where it isn't shown
abbrev pub IfNotShown : (Circuit → List Step → Graph → Type 0) → Sameness → Type 0
IfNotShown fact Same = Unit {0}
IfNotShown fact (NotShown left trace reduced) = fact left trace.steps reduced.graph

-- the answer is that they are the same
abbrev pub IsSame : Sameness → Type 0
IsSame answer = answer ≡ Same

-- Steps lead from the graph of the first circuit, followed by the inverse of the second, to a reduced graph that isn't
-- just wires; where no vertex of it is interior, the maps differ. What is left in the end is a circuit of their map
-- that isn't empty, and in which no gates cancel or merge.
pub record IsLeftOfBoth (one other left : Circuit) (steps : List calculus.Step) (end : Graph) : Type 0 where
  pub run : IsRun (translated (undone_by one other)) steps end
  pub reduced : IsReduced end
  pub not_bare : is_bare end ≡ false
  pub decides : has_only_ends end ≡ true → Proportional one.qubits one.qubits (amp one.gates) (amp other.gates) → ⊥
  pub qubits : left.qubits ≡ one.qubits
  pub map : Proportional one.qubits one.qubits (amp (undone_by one other).gates) (amp left.gates)
  pub tidy : IsTidy left.gates
  pub some : 0 < length left.gates
  pub odd : gate_odd_phases left.gates ≤ gate_odd_phases one.gates + gate_odd_phases other.gates
  pub few : length left.gates ≤ gate_bound one.qubits (gate_odd_phases one.gates + gate_odd_phases other.gates)

-- some steps lead there
pub record IsLeft (one other left : Circuit) : Type 0 where
  pub steps : List calculus.Step
  pub end : Graph
  pub is_left : IsLeftOfBoth one other left steps end
