use Rattle.std.proofs.Common.{sym, ◌∙◌, refl, ap, subst, ℕ, ◌<◌, ◌^◌, List, length, get_or, arith}
use Rattle.std.proofs.lemmas.Bool.Decides.{Decides-eqb}
use Rattle.std.proofs.lemmas.Slice.Eq.{slice_eq-Decides}
use Rattle.std.proofs.lemmas.Bool.{false≢true}
use Rattle.zx_bits.proofs.WindowLemmas.{same_places, same_before, same_next, same_at_last, same_words, same_items, same_by_items}
use Rattle.zx_bits.proofs.window.Window.is_same.Goals as goal

pub loop-number-init : goal.loop-number-init
loop-number-init c v lt = same_before c.args.self.now c.args.other.now v (omega (arith, c.min-number.ensures))

pub loop-number-preserved : goal.loop-number-preserved
loop-number-preserved c =
    same_next c.args.self.now c.args.other.now c.loop-number.number c.loop-number.invariant
    (sym c.word.ensures ∙ c.if-word.false ∙ c.word-in-loop-number.ensures)

pub returns-then-ours-theirs : goal.returns-then-ours-theirs
returns-then-ours-theirs c =
    let ours = c.args.self.now in
    let theirs = c.args.other.now in
    let decides = slice_eq-Decides Decides-eqb c.as_slice-ours.result.now c.as_slice-theirs.result.now c.eq.result c.eq.ensures in (
      λ e. same_by_items ours theirs c.if-self-other.true (sym c.as_slice-ours.ensures ∙ decides.0 e ∙ c.as_slice-theirs.ensures),
      λ same. decides.1
          (c.as_slice-ours.ensures
          ∙ same_items ours theirs c.if-self-other.true (sym (ap length c.as_slice-ours.ensures) ∙ omega arith ∙ ap length c.as_slice-theirs.ensures)
          (subst (λ (l : List ℕ). (i : ℕ) → get_or l i 0 < 2 ^ 64) c.as_slice-ours.ensures (λ i. grind arith))
          (subst (λ (l : List ℕ). (i : ℕ) → get_or l i 0 < 2 ^ 64) c.as_slice-theirs.ensures (λ i. grind arith))
          same
          ∙ sym c.as_slice-theirs.ensures),
    )

pub returns-then-word : goal.returns-then-word
returns-then-word c = (
  λ e. absurd (false≢true e),
  λ same. absurd (c.if-word.true
      (same_words c.args.self.now c.args.other.now c.loop-number.number c.word.result c.word-in-loop-number.result
      c.word.ensures c.word-in-loop-number.ensures (omega arith) (omega arith) same)),
)

pub returns : goal.returns
returns c = (
  λ e. same_places c.args.other.now c.args.self.now
      (same_at_last c.args.self.now c.args.other.now c.loop-number.number c.loop-number.invariant (omega (arith, c.end.ensures, c.end-2.ensures, c.max-number-end.ensures))),
  λ same. refl,
)
