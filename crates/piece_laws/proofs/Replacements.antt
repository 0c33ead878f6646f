-- Lists of gates of which a part is replaced.
use Rattle.std.proofs.Common.{◌≡◌, ◌≤◌, ◌<◌, ◌+◌, ◌⊎◌, inl, inr, ℕ, cond, List, [], ◌∷◌, ◌++◌, append_assoc, length, refl, sym, ap, ◌∙◌, subst, arith}
use Rattle.std.specs.List.{All, sum_by}
use Rattle.std.specs.List.Sorted.{IsPermutation}
use Rattle.std.proofs.lemmas.List.{length-append}
use Rattle.std.proofs.lemmas.List.Elements.{All-append, All-cons, All-head, All-nil, All-tail}
use Rattle.std.proofs.lemmas.List.Sums.{sum_by-append}
use Rattle.std.proofs.lemmas.List.Sorted.{All-permutation, length_permutation, sum_by-IsPermutation}
use Rattle.zx_model.specs.Proportional.{Proportional}
use Rattle.zx_model.proofs.ProportionalLemmas.{proportional_refl, proportional_trans}
use Rattle.zx_gates.specs.Circuit.{IsGateOn, is_odd_phase, gate_odd_phases}
use Rattle.zx_gates.specs.Counting.{is_two_qubit}
use Rattle.zx_gates.specs.Maps.{amp}
use Rattle.zx_gates.specs.declared.gate.Gate.{Gate}
use Rattle.piece_laws.specs.Reordering.{gates_on, IsReordered}
use Rattle.piece_laws.specs.Replacement.{two_qubit_gates, IsNoLarger, IsReplacement}
use Rattle.piece_laws.proofs.Matrices.{replaced_map}
use Rattle.piece_laws.proofs.Reorderings.{reordered-append, reordered_map, reordered_gates}

-- ---- counts
abbrev odd_weight : Gate → ℕ
odd_weight gate = cond (is_odd_phase gate) 1 0

abbrev two_weight : Gate → ℕ
two_weight gate = cond (is_two_qubit gate) 1 0

sum-part : (weight : Gate → ℕ) (before middle after : List Gate)
    → sum_by weight (before ++ middle ++ after) ≡ sum_by weight before + sum_by weight middle + sum_by weight after
sum-part weight before middle after =
    sum_by-append weight (before ++ middle) after ∙ ap (λ k. k + sum_by weight after) (sum_by-append weight before middle)

length-part : (before middle after : List Gate) → length (before ++ middle ++ after) ≡ length before + length middle + length after
length-part before middle after = length-append (before ++ middle) after ∙ ap (λ k. k + length after) (length-append before middle)

no_more : (b m m' a s s' : ℕ) → s ≡ b + m + a → s' ≡ b + m' + a → m' ≤ m → s' ≤ s
no_more b m m' a s s' e e' less = omega arith

fewer : (b m m' a s s' : ℕ) → s ≡ b + m + a → s' ≡ b + m' + a → m' < m → s' < s
fewer b m m' a s s' e e' less = omega arith

-- of pairs of numbers, of which the first decide
abbrev NoLarger : ℕ → ℕ → ℕ → ℕ → Type 0
NoLarger s k t l = (s < t) ⊎ ((s ≡ t) × (k ≤ l))

counts-trans : (s k t l u m : ℕ) → NoLarger s k t l → NoLarger t l u m → NoLarger s k u m
counts-trans s k t l u m (inl less) (inl more) = inl (omega arith)
counts-trans s k t l u m (inl less) (inr same) = inl (let e : t ≡ u = same.0 in omega arith)
counts-trans s k t l u m (inr same) (inl more) = inl (let e : s ≡ t = same.0 in omega arith)
counts-trans s k t l u m (inr same) (inr again) = inr (same.0 ∙ again.0, (let a : k ≤ l = same.1 in let b : l ≤ m = again.1 in omega arith))

pub no_larger-trans : (a b c : List Gate) → IsNoLarger a b → IsNoLarger b c → IsNoLarger a c
no_larger-trans a b c = counts-trans (two_qubit_gates a) (length a) (two_qubit_gates b) (length b) (two_qubit_gates c) (length c)

no_larger_part : (before old new after : List Gate) → IsNoLarger new old → IsNoLarger (before ++ new ++ after) (before ++ old ++ after)
no_larger_part before old new after (inl less) =
    inl (fewer (two_qubit_gates before) (two_qubit_gates old) (two_qubit_gates new) (two_qubit_gates after) _ _
    (sum-part two_weight before old after) (sum-part two_weight before new after) less)
no_larger_part before old new after (inr same) =
    inr (
      sum-part two_weight before new after
          ∙ ap (λ k. two_qubit_gates before + k + two_qubit_gates after) same.0
          ∙ sym (sum-part two_weight before old after),
      no_more (length before) (length old) (length new) (length after) _ _ (length-part before old after) (length-part before new after) same.1,
    )

-- ---- what holds of each gate
pub All-parts : (P : Gate → Type 0) (xs ys : List Gate) → All P (xs ++ ys) → All P xs × All P ys
All-parts P [] ys all = (All-nil P, all)
All-parts P (x ∷ xs) ys all =
    let rest = All-parts P xs ys (All-tail P x (xs ++ ys) all) in (All-cons P x xs (All-head P x (xs ++ ys) all) rest.0, rest.1)

All_part : (P : Gate → Type 0) (before old new after : List Gate) → All P (before ++ old ++ after) → All P new → All P (before ++ new ++ after)
All_part P before old new after all more =
    let outer = All-parts P (before ++ old) after all in
    All-append P (before ++ new) after (All-append P before new (All-parts P before old outer.0).0 more) outer.1

-- ---- replacements
pub replaced : (n : ℕ) (before old new after : List Gate) → IsReplacement n old new → All (IsGateOn n) (before ++ old ++ after)
    → IsReplacement n (before ++ old ++ after) (before ++ new ++ after)
replaced n before old new after r all = record {
  on_qubits = All_part (IsGateOn n) before old new after all r.on_qubits;
  map = replaced_map n before old new after r.map;
  odd =
      no_more (gate_odd_phases before) (gate_odd_phases old) (gate_odd_phases new) (gate_odd_phases after) _ _
      (sum-part odd_weight before old after) (sum-part odd_weight before new after) r.odd;
  size = no_larger_part before old new after r.size;
}

pub replacement-trans : (n : ℕ) (a b c : List Gate) → IsReplacement n a b → IsReplacement n b c → IsReplacement n a c
replacement-trans n a b c first second = record {
  on_qubits = second.on_qubits;
  map = proportional_trans n n (amp a) (amp b) (amp c) first.map second.map;
  odd = at_most-trans (gate_odd_phases c) (gate_odd_phases b) (gate_odd_phases a) second.odd first.odd;
  size = no_larger-trans c b a second.size first.size;
}
  where
    at_most-trans : (s t u : ℕ) → s ≤ t → t ≤ u → s ≤ u
    at_most-trans s t u less more = omega arith

-- the same gates in another order
pub replaced_by_order : (n : ℕ) (gates others : List Gate) → IsReordered gates others → All (IsGateOn n) gates → IsReplacement n gates others
replaced_by_order n gates others same all = record {
  on_qubits = All-permutation (IsGateOn n) gates others moved all;
  map = subst (λ m. Proportional n n (amp gates) m) (reordered_map gates others same) (proportional_refl n n (amp gates));
  odd = of_same (gate_odd_phases others) (gate_odd_phases gates) (sum_by-IsPermutation odd_weight gates others moved);
  size = inr (sum_by-IsPermutation two_weight gates others moved, of_same (length others) (length gates) (length_permutation gates others moved));
}
  where
    moved : IsPermutation gates others
    moved = reordered_gates gates others same

    of_same : (k l : ℕ) → k ≡ l → k ≤ l
    of_same k l e = omega arith

pub replacement-refl : (n : ℕ) (gates : List Gate) → All (IsGateOn n) gates → IsReplacement n gates gates
replacement-refl n gates all = replaced_by_order n gates gates (λ q. refl) all

-- a part that another order brings to the front of what is left is replaced there
pub replaced_in_front : (n : ℕ) (done left piece rest new : List Gate) → IsReplacement n piece new → All (IsGateOn n) (done ++ left)
    → IsReordered left (piece ++ rest) → IsReplacement n (done ++ left) (done ++ new ++ rest)
replaced_in_front n done left piece rest new r all same =
    replacement-trans n (done ++ left) (done ++ piece ++ rest) (done ++ new ++ rest) first (replaced n done piece new rest r first.on_qubits)
  where
    first : IsReplacement n (done ++ left) (done ++ piece ++ rest)
    first =
        replaced_by_order n (done ++ left) (done ++ piece ++ rest)
        (λ q. reordered-append done done left (piece ++ rest) (λ p. refl) same q ∙ ap (gates_on q) (sym (append_assoc done piece rest))) all
