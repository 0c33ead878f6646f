-- A walk goes on by a gate.
use Rattle.std.proofs.Common.{◌≡◌, ◌<◌, ◌+◌, inl, inr, ℕ, Bool, true, false, ◌||◌, not, eqb, List, [], ◌∷◌, ◌++◌, length, get_or, refl, sym, ap, ◌∙◌, subst, arith, OnOk}
use Rattle.std.specs.Prelude.{Result, Ok, Err}
use Rattle.std.specs.List.{list_all}
use Rattle.std.proofs.lemmas.Bool.{eqb-true, or_cases, both_ways}
use Rattle.std.proofs.lemmas.List.{get_or_default, length-append}
use Rattle.zx_gates.specs.declared.gate.Gate.{Gate}
use Rattle.zx_gates.specs.declared.gate.Gate.TheVariants.{H, Phase, Cz, Cx, Not}
use Rattle.zx_peephole.specs.Commuting.{is_on, are_apart}
use Rattle.piece_laws.proofs.Reorderings.{apart_all, taken, passed_over}
use Rattle.zx_peephole.specs.Internal.Chains.{first_qubit, second_qubit}
use Rattle.zx_pieces.specs.Internal.Walking.{IsBlocking, AreWalked}

or_same : (b : Bool) → b ≡ (b || b)
or_same true = refl
or_same false = refl

on_qubits : (gate : Gate) (q : ℕ) → is_on q gate ≡ (eqb (first_qubit gate) q || eqb (second_qubit gate) q)
on_qubits (H p) q = or_same (eqb p q)
on_qubits (Phase p k) q = or_same (eqb p q)
on_qubits (Cz p r) q = refl
on_qubits (Cx p r) q = refl
on_qubits (Not p) q = or_same (eqb p q)

-- a gate on qubits that aren't blocked is apart from those that were passed over
pub free_all : (blocked : List Bool) (passed : List Gate) (gate : Gate) → get_or blocked (first_qubit gate) true ≡ false
    → get_or blocked (second_qubit gate) true ≡ false → IsBlocking blocked passed → list_all (are_apart gate) passed ≡ true
free_all blocked passed gate first second blocking =
    apart_all gate passed (λ q on. blocking q (at q (sym (on_qubits gate q) ∙ on)))
  where
    at : (q : ℕ) → (eqb (first_qubit gate) q || eqb (second_qubit gate) q) ≡ true → get_or blocked q true ≡ false
    at q on =
        elim (or_cases (eqb (first_qubit gate) q) (eqb (second_qubit gate) q) on) [
          | inl e ↦ subst (λ p. get_or blocked p true ≡ false) (eqb-true (first_qubit gate) q e) first
          | inr e ↦ subst (λ p. get_or blocked p true ≡ false) (eqb-true (second_qubit gate) q e) second
        ]

longer : (xs : List Gate) (x : Gate) → 0 < length (xs ++ x ∷ [])
longer xs x = let e : length (xs ++ x ∷ []) ≡ length xs + 1 = length-append xs (x ∷ []) in omega arith

pub after_taken : (seen piece passed : List Gate) (blocked : List Bool) (gate : Gate) → AreWalked seen piece passed blocked
    → list_all (are_apart gate) passed ≡ true → AreWalked (seen ++ gate ∷ []) (piece ++ gate ∷ []) passed blocked
after_taken seen piece passed blocked gate w apart = record {
  order = taken seen piece passed gate w.order apart;
  blocking = w.blocking;
  first = λ none. absurd (let some : 0 < length (piece ++ gate ∷ []) = longer piece gate in omega arith);
  some = λ h. longer piece gate;
}

pub after_passed : (seen piece passed : List Gate) (blocked more : List Bool) (gate : Gate) → AreWalked seen piece passed blocked
    → 0 < length piece → IsBlocking more (passed ++ gate ∷ []) → AreWalked (seen ++ gate ∷ []) piece (passed ++ gate ∷ []) more
after_passed seen piece passed blocked more gate w some blocking = record {
  order = passed_over seen piece passed gate w.order;
  blocking = blocking;
  first = λ none. absurd (omega arith);
  some = λ h. some;
}

pub unset_by : (b : Bool) → not b ≡ true → b ≡ false
unset_by false e = refl
unset_by true e = absurd (both_ways false refl e)

-- a flag that is read as not set
pub read_off : (flags : List Bool) (i q : ℕ) (read : Bool) → read ≡ get_or flags i read → i ≡ q → q < length flags → read ≡ false → get_or flags q true ≡ false
read_off flags i q read is same within off =
    get_or_default flags q true read within ∙ ap (λ p. get_or flags p read) (sym same) ∙ sym is ∙ off

pub walked_same : (seen piece piece' passed passed' : List Gate) (blocked blocked' : List Bool) → piece ≡ piece' → passed ≡ passed' → blocked ≡ blocked'
    → AreWalked seen piece passed blocked → AreWalked seen piece' passed' blocked'
walked_same seen piece piece' passed passed' blocked blocked' one two three w =
    subst (λ p. AreWalked seen p passed' blocked') one (subst (λ p. AreWalked seen piece p blocked') two (subst (AreWalked seen piece passed) three w))

pub on_both : {T E : Type 0} (P Q : Type 0) (r : Result T E) → OnOk r P → OnOk r Q → OnOk r (P × Q)
on_both P Q (Ok x) p q = (p, q)
on_both P Q (Err e) p q = p
