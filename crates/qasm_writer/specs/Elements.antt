-- What the lines of a circuit's text come to through the header that it includes, in the two gates that are built into
-- OpenQASM 2.0 (Cross, Bishop, Smolin and Gambetta, "Open quantum assembly language", arXiv 1707.03429): there h is
-- U(pi/2,0,pi), x is U(pi,0,pi), z, s, sdg, t, tdg and u1 are U(0,0,lambda), and cz is h, cx and h.
use Rattle.std.specs.Prelude.{ℕ, List, [], ◌∷◌}
use Rattle.std.specs.List.{flat_map}
use Rattle.zx_model.specs.Phase.{half_turn, quarter_turn}
use Rattle.zx_gates.specs.declared.elementary.ElementaryGate.{ElementaryGate}
use Rattle.zx_gates.specs.declared.elementary.ElementaryGate.TheVariants as elementary
use Rattle.zx_gates.specs.declared.gate.Gate.{Gate}
use Rattle.zx_gates.specs.declared.gate.Gate.TheVariants.{H, Phase, Cz, Cx, Not}

abbrev pub h : ℕ → ElementaryGate
h q = elementary.U q quarter_turn 0 half_turn

-- the built-in gates of a gate, the first to act first
abbrev pub elements : Gate → List ElementaryGate
elements (H q) = h q ∷ []
elements (Phase q k) = elementary.U q 0 0 k ∷ []
elements (Cz q r) = h r ∷ elementary.Cx q r ∷ h r ∷ []
elements (Cx control target) = elementary.Cx control target ∷ []
elements (Not q) = elementary.U q half_turn 0 half_turn ∷ []

abbrev pub elements_of : List Gate → List ElementaryGate
elements_of gates = flat_map elements gates

-- the gates with each CZ written as H on the target, CX and H
abbrev pub gate_without_cz : Gate → List Gate
gate_without_cz (H q) = H q ∷ []
gate_without_cz (Phase q k) = Phase q k ∷ []
gate_without_cz (Cz q r) = H r ∷ Cx q r ∷ H r ∷ []
gate_without_cz (Cx control target) = Cx control target ∷ []
gate_without_cz (Not q) = Not q ∷ []

abbrev pub without_cz : List Gate → List Gate
without_cz gates = flat_map gate_without_cz gates
