use Rattle.std.proofs.Common.{◌≡◌, refl, sym, ◌∙◌, ap, inl, inr, ℕ, ◌+◌, List, get_or, ltb, if◌then◌else◌, ◌==◌, lt-ltb, arith}
use Rattle.std.specs.Int.RustNames.{bit_xor}
use Rattle.std.specs.Int.Bits.{xor_zero_r}
use Rattle.std.proofs.lemmas.Bool.{cases_lt, cond-true, cond-false, le-ltb}
use Rattle.zx_bits.specs.Internal.Windows.{word_from}
use Rattle.zx_bits.proofs.WindowLemmas.{words_next, words_whole}
use Rattle.zx_bits.proofs.window.add_words.Goals as goal

none_yet : (start v : ℕ) (added : List ℕ) → (if ltb v (start + 0) then word_from start added v else 0) ≡ 0
none_yet start v added =
    elim (cases_lt v (start + 0)) [
      | inl l ↦ cond-true (ltb v (start + 0)) _ 0 (lt-ltb _ _ l) ∙ cond-true (ltb v start) 0 _ (lt-ltb _ _ (omega arith))
      | inr g ↦ cond-false (ltb v (start + 0)) _ 0 (le-ltb _ _ g)
    ]

-- so many words are added, and one more is
step : (first self next added : List ℕ) (start i j : ℕ) → j ≡ i + 1 →
    ((v : ℕ) → get_or self v 0 ≡ bit_xor (get_or first v 0) (if ltb v (start + i) then word_from start added v else 0)) →
    ((v : ℕ) → get_or next v 0 ≡ bit_xor (get_or self v 0) (if v == start + i then word_from start added (start + i) else 0)) →
    (v : ℕ) → get_or next v 0 ≡ bit_xor (get_or first v 0) (if ltb v (start + j) then word_from start added v else 0)
step first self next added start i j e before last v =
    let more : start + i + 1 ≡ start + j = omega (arith, e) in
    words_next (λ w. get_or first w 0) (λ w. get_or self w 0) (λ w. get_or next w 0) (word_from start added) (start + i) before last v
    ∙ ap (λ n. bit_xor (get_or first v 0) (if ltb v n then word_from start added v else 0)) more

pub fours-init : goal.fours-init
fours-init c = record {
  within = omega arith;
  size = refl;
  words = λ v. sym (xor_zero_r _) ∙ ap (bit_xor (get_or c.args.words.now v 0)) (sym (none_yet c.args.start v c.args.added.now));
}

pub fours-preserved : goal.fours-preserved
fours-preserved c =
    let i = c.fours.i in
    let first = c.args.words.now in
    let added = c.args.added.now in
    let start = c.args.start in
    record {
      within = omega arith;
      size = c.add_word-in-fours-3.ensures.size ∙ c.add_word-in-fours-2.ensures.size ∙ c.add_word-in-fours.ensures.size ∙ c.add_word.ensures.size ∙ c.fours.invariant.size;
      words = step first c.add_word-in-fours-2.new.words c.add_word-in-fours-3.new.words added start (i + 3) (i + 4) (omega arith)
          (step first c.add_word-in-fours.new.words c.add_word-in-fours-2.new.words added start (i + 2) (i + 3) (omega arith)
          (step first c.add_word.new.words c.add_word-in-fours.new.words added start (i + 1) (i + 2) (omega arith)
          (step first c.fours.words c.add_word.new.words added start i (i + 1) refl c.fours.invariant.words c.add_word.ensures.words)
          c.add_word-in-fours.ensures.words) c.add_word-in-fours-2.ensures.words) c.add_word-in-fours-3.ensures.words;
    }

pub rest-init : goal.rest-init
rest-init c = c.fours.invariant

pub rest-preserved : goal.rest-preserved
rest-preserved c = record {
  within = omega arith;
  size = c.add_word-in-rest.ensures.size ∙ c.rest.invariant.size;
  words = step c.args.words.now c.rest.words c.add_word-in-rest.new.words c.args.added.now c.args.start c.rest.i (c.rest.i + 1) refl
      c.rest.invariant.words c.add_word-in-rest.ensures.words;
}

pub returns-clause-words : goal.returns-clause-words
returns-clause-words c v =
    c.rest.invariant.words v ∙ ap (bit_xor (get_or c.args.words.now v 0)) (words_whole c.args.start c.args.added.now v (c.args.start + c.rest.i) (omega arith))
