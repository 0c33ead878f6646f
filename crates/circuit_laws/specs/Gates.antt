-- Lists of gates that stand for parts of a graph.
use Rattle.std.specs.Prelude.{ℕ, suc, if◌then◌else◌, List, [], ◌∷◌, ◌++◌}
use Rattle.zx_calculus.specs.Graph.{End}
use Rattle.zx_gates.specs.declared.gate.Gate.{Gate}
use Rattle.zx_gates.specs.declared.gate.Gate.TheVariants.{H, Cx}
use Rattle.zx_gates.specs.Lowering.{phase_gates}

-- H for each end that carries a Hadamard, the first end on the qubit q and so on
abbrev pub hadamards_from : ℕ → List End → List Gate
hadamards_from q [] = []
hadamards_from q (e ∷ es) = if e.hadamard then H q ∷ hadamards_from (suc q) es else hadamards_from (suc q) es

-- the exchange of two qubits
abbrev pub exchange_gates : ℕ → ℕ → List Gate
exchange_gates p q = Cx p q ∷ Cx q p ∷ Cx p q ∷ []

-- a phase gate on the target, to which the bits of the other qubits are added before, and taken off again
abbrev pub gadget_on : ℕ → ℕ → List ℕ → List Gate
gadget_on k target [] = phase_gates target k
gadget_on k target (q ∷ qs) = Cx q target ∷ (gadget_on k target qs ++ Cx q target ∷ [])

-- a phase gadget: the phase k where the bits of the qubits add up to 1
abbrev pub gadget_gates : ℕ → List ℕ → List Gate
gadget_gates k [] = []
gadget_gates k (target ∷ others) = gadget_on k target others

-- the gadget with its first qubit turned by H before and after
abbrev pub linked_gadget_gates : ℕ → ℕ → List ℕ → List Gate
linked_gadget_gates k link others = H link ∷ (gadget_on k link others ++ H link ∷ [])
