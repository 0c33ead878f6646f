-- What `==` says of lists of gates.
use Rattle.std.proofs.Common.{◌≡◌, ℕ, Bool, true, false, ◌&&◌, eqb, List, Decides, refl, ap, ap₂, subst}
use Rattle.std.specs.Cmp.Lexicographic.{pointwise}
use Rattle.std.proofs.lemmas.Bool.{eqb-true, eq-eqb}
use Rattle.std.proofs.lemmas.Slice.Eq.{slice_eq-Decides}
use Rattle.zx_calculus.proofs.Ids.{and-left, and-right}
use Rattle.zx_gates.specs.declared.gate.Gate.{Gate}
use Rattle.zx_gates.specs.declared.gate.Gate.TheVariants.{H, Phase, Cz, Cx, Not}
use Rattle.zx_gates.specs.contracts.gate.GatePartialEq.TheImpl.{eq-value}

equal_gates : (g h : Gate) → eq-value.it g h ≡ true → g ≡ h
equal_gates (H q) (H r) e = ap H (eqb-true q r e)
equal_gates (Phase q j) (Phase r k) e = ap₂ Phase (eqb-true q r (and-left (eqb q r) (eqb j k) e)) (eqb-true j k (and-right (eqb q r) (eqb j k) e))
equal_gates (Cz p q) (Cz r s) e = ap₂ Cz (eqb-true p r (and-left (eqb p r) (eqb q s) e)) (eqb-true q s (and-right (eqb p r) (eqb q s) e))
equal_gates (Cx p q) (Cx r s) e = ap₂ Cx (eqb-true p r (and-left (eqb p r) (eqb q s) e)) (eqb-true q s (and-right (eqb p r) (eqb q s) e))
equal_gates (Not q) (Not r) e = ap Not (eqb-true q r e)
equal_gates g h e = absurd (let f : false ≡ true = e in cc)

both : (p q : ℕ) → (eqb p p && eqb q q) ≡ true
both p q = ap₂ (λ s t. s && t) (eq-eqb p p refl) (eq-eqb q q refl)

gate_itself : (g : Gate) → eq-value.it g g ≡ true
gate_itself (H q) = eq-eqb q q refl
gate_itself (Phase q k) = both q k
gate_itself (Cz p q) = both p q
gate_itself (Cx p q) = both p q
gate_itself (Not q) = eq-eqb q q refl

pub gates-Decides : (gates others : List Gate) (r : Bool) → r ≡ pointwise eq-value.it gates others → Decides r (gates ≡ others)
gates-Decides = slice_eq-Decides (λ g h. (equal_gates g h, λ e. subst (λ k. eq-value.it g k ≡ true) e (gate_itself g)))
