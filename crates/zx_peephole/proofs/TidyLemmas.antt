-- What keeps a list of gates tidy.
use Rattle.std.proofs.Common.{◌≡◌, inl, inr, ℕ, ◌+◌, true, List, [], ◌∷◌, ◌++◌, append_assoc, length, refl, sym, ap}
use Rattle.std.proofs.Common.{ap₂, ◌∙◌}
use Rattle.std.specs.List.{list_all}
use Rattle.std.proofs.lemmas.Bool.{not_from_false}
use Rattle.std.proofs.lemmas.List.{append-nil}
use Rattle.zx_gates.specs.declared.gate.Gate.{Gate}
use Rattle.zx_gates.specs.declared.gate.Gate.TheVariants.{H}
use Rattle.zx_peephole.specs.Commuting.{commutes}
use Rattle.zx_peephole.specs.Tidy.{cancels_or_merges, is_turned, is_off, IsTidy}
use Rattle.zx_peephole.specs.Internal.Changes.{EndsPair, EndsTriple}
use Rattle.zx_peephole.proofs.Cuts.{cut_cases, cut_one, cut_none, all_at, all_with}
use Rattle.zx_peephole.proofs.CommutingLemmas.{alike, commutes_comm, commutes_off}

-- ---- no gate
pub tidy-none : IsTidy []
tidy-none = record {
  no_pair = λ before between after first second cut merge commute.
      cut_none first before (between ++ second ∷ after) cut;
  no_triple = λ q before left right after middle cut turned left_off right_off.
      cut_none (H q) before (left ++ middle ∷ (right ++ H q ∷ after)) cut;
}

-- ---- a gate goes that commutes with all behind it
-- The gates around it were a pair or triple before, with this gate among those between.
module _ (front middle : List Gate) (g : Gate) (tidy : IsTidy (front ++ g ∷ middle))
    (free : list_all (commutes g) middle ≡ true) where
  no_pair_without : (before between after : List Gate) (a b : Gate)
      → front ++ middle ≡ before ++ a ∷ (between ++ b ∷ after)
      → cancels_or_merges a b ≡ true → list_all (commutes a) between ≡ true → ⊥
  no_pair_without before between after a b cut merge commute =
      elim (cut_cases front middle before (between ++ b ∷ after) a cut) [
        | inl c ↦ elim (cut_cases c.rest middle between after b (sym c.second)) [
          | inl d ↦ tidy.no_pair before between (d.rest ++ g ∷ middle) a b
              (ap (λ xs. xs ++ g ∷ middle) (c.first ∙ ap (λ xs. before ++ a ∷ xs) d.first)
              ∙ simp append_assoc) merge commute
          | inr d ↦
              let passes : commutes a g ≡ true =
              alike a b merge g ∙ commutes_comm b g ∙ all_at (commutes g) middle d.rest after b d.second free in
              tidy.no_pair before (c.rest ++ g ∷ d.rest) after a b
              (ap₂ (λ xs ys. xs ++ g ∷ ys) c.first d.second ∙ simp append_assoc) merge
              (all_with (commutes a) c.rest d.rest g (ap (list_all (commutes a)) (sym d.first) ∙ commute) passes)
        ]
        | inr c ↦ tidy.no_pair (front ++ g ∷ c.rest) between after a b
            (ap (λ ys. front ++ g ∷ ys) c.second ∙ simp append_assoc) merge commute
      ]

  -- H behind it shows that it isn't on the qubit
  off : (q : ℕ) (xs ys : List Gate) → middle ≡ xs ++ H q ∷ ys → is_off q g ≡ true
  off q xs ys e = not_from_false _
      (commutes_off q g (commutes_comm (H q) g ∙ all_at (commutes g) middle xs ys (H q) e free))

  no_triple_without : (q : ℕ) (before left right after : List Gate) (a : Gate)
      → front ++ middle ≡ before ++ H q ∷ (left ++ a ∷ (right ++ H q ∷ after)) → is_turned q a ≡ true
      → list_all (is_off q) left ≡ true → list_all (is_off q) right ≡ true → ⊥
  no_triple_without q before left right after a cut turned left_off right_off =
      elim (cut_cases front middle before (left ++ a ∷ (right ++ H q ∷ after)) (H q) cut) [
        | inl c ↦ elim (cut_cases c.rest middle left (right ++ H q ∷ after) a (sym c.second)) [
          | inl d ↦ elim (cut_cases d.rest middle right after (H q) (sym d.second)) [
            | inl e ↦ tidy.no_triple q before left right (e.rest ++ g ∷ middle) a
                (ap (λ xs. xs ++ g ∷ middle)
                (c.first ∙ ap (λ xs. before ++ H q ∷ xs) (d.first ∙ ap (λ xs. left ++ a ∷ xs) e.first))
                ∙ simp append_assoc)
                turned left_off right_off
            | inr e ↦ tidy.no_triple q before left (d.rest ++ g ∷ e.rest) after a
                (ap₂ (λ xs ys. xs ++ g ∷ ys) (c.first ∙ ap (λ xs. before ++ H q ∷ xs) d.first) e.second
                ∙ simp append_assoc) turned left_off
                (all_with (is_off q) d.rest e.rest g (ap (list_all (is_off q)) (sym e.first) ∙ right_off)
                (off q e.rest after e.second))
          ]
          | inr d ↦ tidy.no_triple q before (c.rest ++ g ∷ d.rest) right after a
              (ap₂ (λ xs ys. xs ++ g ∷ ys) c.first d.second ∙ simp append_assoc) turned
              (all_with (is_off q) c.rest d.rest g (ap (list_all (is_off q)) (sym d.first) ∙ left_off)
              (off q (d.rest ++ a ∷ right) after (d.second ∙ simp append_assoc))) right_off
        ]
        | inr c ↦ tidy.no_triple q (front ++ g ∷ c.rest) left right after a
            (ap (λ ys. front ++ g ∷ ys) c.second ∙ simp append_assoc) turned left_off right_off
      ]

  pub tidy-without : IsTidy (front ++ middle)
  tidy-without = record { no_pair = no_pair_without; no_triple = no_triple_without }

-- ---- one more gate
pub tidy-more : (front : List Gate) (g : Gate) → ((i : ℕ) → EndsPair front g i → ⊥)
    → ((i j : ℕ) → EndsTriple front g i j → ⊥) → IsTidy front → IsTidy (front ++ g ∷ [])
tidy-more front g no_pair no_triple tidy = record { no_pair = pair; no_triple = triple }
  where
    pair : (before between after : List Gate) (a b : Gate) → front ++ g ∷ [] ≡ before ++ a ∷ (between ++ b ∷ after)
        → cancels_or_merges a b ≡ true → list_all (commutes a) between ≡ true → ⊥
    pair before between after a b cut merge commute =
        elim (cut_cases front (g ∷ []) (before ++ a ∷ between) after b (cut ∙ simp append_assoc)) [
          | inl c ↦ tidy.no_pair before between c.rest a b (c.first ∙ simp append_assoc) merge commute
          | inr c ↦
              let one = cut_one g b c.rest after c.second in
              no_pair (length before) (record {
                before = before;
                at = refl;
                first = a;
                between = between;
                cut = sym (c.first ∙ ap (λ r. front ++ r) one.0 ∙ append-nil front);
                merge = ap (cancels_or_merges a) one.1 ∙ merge;
                commute = commute;
              })
        ]

    triple : (q : ℕ) (before left right after : List Gate) (a : Gate)
        → front ++ g ∷ [] ≡ before ++ H q ∷ (left ++ a ∷ (right ++ H q ∷ after)) → is_turned q a ≡ true
        → list_all (is_off q) left ≡ true → list_all (is_off q) right ≡ true → ⊥
    triple q before left right after a cut turned left_off right_off =
        elim (cut_cases front (g ∷ []) (before ++ H q ∷ (left ++ a ∷ right)) after (H q) (cut ∙ simp append_assoc)) [
          | inl c ↦ tidy.no_triple q before left right c.rest a (c.first ∙ simp append_assoc) turned left_off right_off
          | inr c ↦
              let one = cut_one g (H q) c.rest after c.second in
              no_triple (length before) (length before + 1 + length left) (record {
                at_first = refl;
                at_middle = refl;
                qubit = q;
                before = before;
                left = left;
                middle = a;
                right = right;
                is = one.1;
                cut = sym (c.first ∙ ap (λ r. front ++ r) one.0 ∙ append-nil front);
                turned = turned;
                left_off = left_off;
                right_off = right_off;
              })
        ]
