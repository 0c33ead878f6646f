-- What a walk has taken and passed over, from gate to gate.
use Rattle.std.proofs.Common.{◌≡◌, ◌≤◌, ◌<◌, ◌+◌, ℕ, zero, suc, Bool, true, false, ◌&&◌, ◌||◌, eqb, leb, List, [], ◌∷◌, ◌++◌, append_assoc, length, take, drop, refl, sym, ap, ◌∙◌, subst, arith}
use Rattle.std.specs.List.{fold, list_all}
use Rattle.std.proofs.lemmas.Bool.{and_parts, leb-true, le-leb, eqb-true}
use Rattle.std.proofs.lemmas.List.{append-nil, length-append, take-append-drop}
use Rattle.std.proofs.lemmas.List.Sorted.{length_permutation}
use Rattle.zx_model.specs.Bits.{one_if}
use Rattle.zx_gates.specs.declared.gate.Gate.{Gate}
use Rattle.zx_gates.specs.declared.gate.Gate.TheVariants.{H, Phase, Cz, Cx, Not}
use Rattle.zx_peephole.specs.Commuting.{are_apart}
use Rattle.piece_laws.specs.Reordering.{gates_on, IsReordered}
use Rattle.piece_laws.specs.Walks.{Walk, no_gates, count_below, width, is_taken, with_gate, one_more, gathered, behind}
use Rattle.piece_laws.proofs.Reorderings.{reordered-append, taken, passed_over, reordered_gates}

-- ---- order
one_more_at : (n most : ℕ) (seen : List Gate) (walk : Walk) (gate : Gate) (b : Bool) → is_taken n most walk gate ≡ b → IsReordered seen (walk.piece ++ walk.passed)
    → IsReordered (seen ++ gate ∷ []) ((with_gate b walk gate).piece ++ (with_gate b walk gate).passed)
one_more_at n most seen walk gate true on same =
    taken seen walk.piece walk.passed gate same (and_parts (leb (width n (walk.piece ++ gate ∷ [])) most) (list_all (are_apart gate) walk.passed) on).1
one_more_at n most seen walk gate false off same = passed_over seen walk.piece walk.passed gate same

walks_on : (n most : ℕ) (seen : List Gate) (walk : Walk) (gates : List Gate) → IsReordered seen (walk.piece ++ walk.passed)
    → IsReordered (seen ++ gates) ((fold (one_more n most) walk gates).piece ++ (fold (one_more n most) walk gates).passed)
walks_on n most seen walk [] same q = ap (gates_on q) (append-nil seen) ∙ same q
walks_on n most seen walk (gate ∷ gates) same q =
    ap (gates_on q) (sym (append_assoc seen (gate ∷ []) gates))
    ∙ walks_on n most (seen ++ gate ∷ []) (one_more n most walk gate) gates (one_more_at n most seen walk gate (is_taken n most walk gate) refl same) q

pub gathered_order : (n most reach : ℕ) (gates : List Gate) → IsReordered gates ((gathered n most reach gates).piece ++ behind n most reach gates)
gathered_order n most reach gates q =
    let walk : Walk = gathered n most reach gates in
    ap (gates_on q) (sym (take-append-drop reach gates))
    ∙ reordered-append (take reach gates) (walk.piece ++ walk.passed) (drop reach gates) (drop reach gates)
    (walks_on n most [] no_gates (take reach gates) (λ r. refl)) (λ r. refl) q
    ∙ ap (gates_on q) (append_assoc walk.piece walk.passed (drop reach gates))

-- ---- width
one_more_width : (n most : ℕ) (walk : Walk) (gate : Gate) (b : Bool) → is_taken n most walk gate ≡ b → width n walk.piece ≤ most
    → width n (with_gate b walk gate).piece ≤ most
one_more_width n most walk gate true on narrow =
    leb-true (width n (walk.piece ++ gate ∷ [])) most (and_parts (leb (width n (walk.piece ++ gate ∷ [])) most) (list_all (are_apart gate) walk.passed) on).0
one_more_width n most walk gate false off narrow = narrow

width_on : (n most : ℕ) (walk : Walk) (gates : List Gate) → width n walk.piece ≤ most → width n (fold (one_more n most) walk gates).piece ≤ most
width_on n most walk [] narrow = narrow
width_on n most walk (gate ∷ gates) narrow =
    width_on n most (one_more n most walk gate) gates (one_more_width n most walk gate (is_taken n most walk gate) refl narrow)

no_width : (n : ℕ) → width n [] ≡ 0
no_width zero = refl
no_width (suc n) = let e : width n [] ≡ 0 = no_width n in omega arith

pub gathered_width : (n most reach : ℕ) (gates : List Gate) → width n (gathered n most reach gates).piece ≤ most
gathered_width n most reach gates = width_on n most no_gates (take reach gates) (let e : width n [] ≡ 0 = no_width n in omega arith)

-- ---- the first gate is taken
one_below : (p n : ℕ) → (n ≤ p → count_below n (λ q. eqb p q || false) ≡ 0) × (count_below n (λ q. eqb p q || false) ≤ 1)
one_below p zero = (λ h. refl, omega arith)
one_below p (suc n) =
    let rest = one_below p n in at (eqb p n) refl (count_below n (λ q. eqb p q || false)) rest.0 rest.1
  where
    at : (b : Bool) → eqb p n ≡ b → (k : ℕ) → (n ≤ p → k ≡ 0) → k ≤ 1
        → (suc n ≤ p → one_if (b || false) + k ≡ 0) × (one_if (b || false) + k ≤ 1)
    at true same k none few =
        let e : p ≡ n = eqb-true p n same in
        let z : k ≡ 0 = none (omega arith) in
        (λ h. absurd (omega arith), omega arith)
    at false other k none few = (λ h. (let z : k ≡ 0 = none (omega arith) in omega arith), omega arith)

two_below : (p r n : ℕ) → count_below n (λ q. (eqb p q || eqb r q) || false) ≤ count_below n (λ q. eqb p q || false) + count_below n (λ q. eqb r q || false)
two_below p r zero = omega arith
two_below p r (suc n) = at (eqb p n) (eqb r n) _ _ _ (two_below p r n)
  where
    at : (a b : Bool) (k l m : ℕ) → k ≤ l + m → one_if ((a || b) || false) + k ≤ (one_if (a || false) + l) + (one_if (b || false) + m)
    at true true k l m less = omega arith
    at true false k l m less = omega arith
    at false true k l m less = omega arith
    at false false k l m less = omega arith

two_at_most : (p r n : ℕ) → count_below n (λ q. (eqb p q || eqb r q) || false) ≤ 2
two_at_most p r n = sum_at_most _ _ _ (two_below p r n) (one_below p n).1 (one_below r n).1
  where
    sum_at_most : (k l m : ℕ) → k ≤ l + m → l ≤ 1 → m ≤ 1 → k ≤ 2
    sum_at_most k l m less one other = omega arith

rises : (k : ℕ) → k ≤ 1 → k ≤ 2
rises k less = omega arith

gate_width : (n : ℕ) (gate : Gate) → width n (gate ∷ []) ≤ 2
gate_width n (H p) = rises (width n (H p ∷ [])) (one_below p n).1
gate_width n (Phase p k) = rises (width n (Phase p k ∷ [])) (one_below p n).1
gate_width n (Not p) = rises (width n (Not p ∷ [])) (one_below p n).1
gate_width n (Cz p r) = two_at_most p r n
gate_width n (Cx p r) = two_at_most p r n

one_more_longer : (walk : Walk) (gate : Gate) (b : Bool) → length walk.piece ≤ length (with_gate b walk gate).piece
one_more_longer walk gate true = let e : length (walk.piece ++ gate ∷ []) ≡ length walk.piece + 1 = length-append walk.piece (gate ∷ []) in omega arith
one_more_longer walk gate false = omega arith

at_least : (n most : ℕ) (walk : Walk) (gates : List Gate) → length walk.piece ≤ length (fold (one_more n most) walk gates).piece
at_least n most walk [] = omega arith
at_least n most walk (gate ∷ gates) =
    le-trans (length walk.piece) (length (one_more n most walk gate).piece) _
    (one_more_longer walk gate (is_taken n most walk gate)) (at_least n most (one_more n most walk gate) gates)
  where
    le-trans : (k l m : ℕ) → k ≤ l → l ≤ m → k ≤ m
    le-trans k l m less more = omega arith

first_taken : (n most : ℕ) (gate : Gate) → 2 ≤ most → one_more n most no_gates gate ≡ record { piece = gate ∷ []; passed = [] }
first_taken n most gate wide =
    ap (λ b. with_gate (b && true) no_gates gate)
    (le-leb (width n (gate ∷ [])) most (let h : width n (gate ∷ []) ≤ 2 = gate_width n gate in omega arith))

pub behind_fewer : (n most reach : ℕ) (gate : Gate) (gates : List Gate) → 2 ≤ most → 1 ≤ reach → length (behind n most reach (gate ∷ gates)) < length (gate ∷ gates)
behind_fewer n most zero gate gates wide far = absurd (omega arith)
behind_fewer n most (suc reach) gate gates wide far =
    fewer (length walk.piece) _ _ some
    (sym (length-append walk.piece (behind n most (suc reach) (gate ∷ gates)))
    ∙ length_permutation (gate ∷ gates) (walk.piece ++ behind n most (suc reach) (gate ∷ gates))
    (reordered_gates _ _ (gathered_order n most (suc reach) (gate ∷ gates))))
  where
    walk : Walk
    walk = gathered n most (suc reach) (gate ∷ gates)

    some : 1 ≤ length walk.piece
    some =
        subst (λ w. 1 ≤ length (fold (one_more n most) w (take reach gates)).piece) (sym (first_taken n most gate wide))
        (at_least n most (record { piece = gate ∷ []; passed = [] }) (take reach gates))

    fewer : (p b all : ℕ) → 1 ≤ p → p + b ≡ all → b < all
    fewer p b all more sum = omega arith
