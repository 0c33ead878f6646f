-- Two stuck sets together are one: what a set corrects while more is left, it corrects while less is.
use Rattle.std.proofs.Common.{◌≡◌, sym, ◌∙◌, ap, ℕ, Bool, true, not, ◌&&◌, ◌||◌, List, ◌++◌, true≢false}
use Rattle.zx_model.specs.Bits.{member}
use Rattle.zx_calculus.specs.Graph.{Graph}
use Rattle.zx_calculus.proofs.Booleans.{or-true}
use Rattle.zx_calculus.proofs.Ids.{by_test, member-append}
use Rattle.zx_calculus.proofs.Extensionality.{rising_ext}
use Rattle.gflow_laws.specs.Seen.{Seen, seen}
use Rattle.gflow_laws.proofs.Tables.{Corrects-later}
use Rattle.flow_find.specs.Stuck.{after_those, HasSet, IsStuck, IsLargestStuck}

gone_before : (few more : ℕ → Bool) → ((w : ℕ) → few w ≡ true → more w ≡ true) → (w : ℕ) → not (more w) ≡ true → not (few w) ≡ true
gone_before few more within w gone = by_test (few w)
    (λ t. absurd (true≢false (sym gone ∙ ap not (within w t))))
    (λ f. ap not f)

pub still_corrected : (s : Seen) (few more : ℕ → Bool) (v : ℕ) → ((w : ℕ) → few w ≡ true → more w ≡ true) → HasSet s more v → HasSet s few v
still_corrected s few more v within has = record {
  set = has.set;
  corrects = Corrects-later s (after_those more) (after_those few) v has.set (gone_before few more within) has.corrects;
}

module _ (one other : List ℕ) where
  in_first : (v : ℕ) → member v one ≡ true → member v (one ++ other) ≡ true
  in_first v there = member-append v one other ∙ ap (λ b. b || member v other) there

  in_second : (v : ℕ) → member v other ≡ true → member v (one ++ other) ≡ true
  in_second v there = member-append v one other ∙ ap (λ b. member v one || b) there ∙ or-true (member v one)

  -- what both sets have, both together have
  of_either : (P : ℕ → Type 0) → ((v : ℕ) → member v one ≡ true → P v) → ((v : ℕ) → member v other ≡ true → P v) →
      (v : ℕ) → member v (one ++ other) ≡ true → P v
  of_either P first second v there = by_test (member v one)
      (λ t. first v t)
      (λ f. second v (sym (member-append v one other ∙ ap (λ b. b || member v other) f) ∙ there))

  pub both_stuck : (g : Graph) → IsStuck g one → IsStuck g other → IsStuck g (one ++ other)
  both_stuck g a b = record {
    non_outputs = of_either (λ v. (member v (seen g).ids && not ((seen g).output v)) ≡ true) a.non_outputs b.non_outputs;
    uncorrectable = of_either (λ v. HasSet (seen g) (λ w. member w (one ++ other)) v → ⊥)
        (λ v there has. a.uncorrectable v there (still_corrected (seen g) (λ w. member w one) (λ w. member w (one ++ other)) v in_first has))
        (λ v there has. b.uncorrectable v there (still_corrected (seen g) (λ w. member w other) (λ w. member w (one ++ other)) v in_second has));
  }

  pub one_largest : (g : Graph) → IsLargestStuck g one → IsLargestStuck g other → one ≡ other
  one_largest g a b = rising_ext one other a.rising b.rising (λ v. by_test (member v one)
      (λ t. t ∙ sym (b.holds one a.stuck v t))
      (λ f. by_test (member v other)
      (λ t. absurd (true≢false (sym (a.holds other b.stuck v t) ∙ f)))
      (λ n. f ∙ sym n)))
