use Rattle.std.proofs.Common.{sym, ◌∙◌, ap, subst, ℕ, ◌+◌, ◌*◌, ◌%◌, ◌^◌, ◌<◌, ◌-◌, ◌&&◌, leb, List, length, get_or, ◌≡◌, Some, arith}
use Rattle.std.specs.Int.{w64, trailing_zeros}
use Rattle.std.specs.Int.RustNames.{bit_and}
use Rattle.std.proofs.lemmas.Nat.{and_le_l}
use Rattle.zx_bits.specs.Rows.{IsFirstFrom}
use Rattle.zx_bits.specs.Internal.Words.{digit}
use Rattle.zx_bits.specs.Internal.Windows.{word_at, is_set}
use Rattle.zx_bits.proofs.WindowLemmas.{word_kept, IsRest, digit-rest, first_in_rest, none_in_rest, first_in_word, none_in_word, none_at_all}
use Rattle.zx_bits.proofs.window.Window.first_from.Goals as goal

pub returns-then-rest-ne0 : goal.returns-then-rest-ne0
returns-then-rest-ne0 c =
    let rest : ℕ = bit_and c.word.result ((2 ^ 64 - 1) * 2 ^ (c.args.place % 64) % 2 ^ 64) in
    let is : IsRest c.args.self.now c.args.place rest = λ i lt. digit-rest c.word.result (c.args.place % 64) i (omega arith) lt ∙ ap (λ n. digit n i && leb (c.args.place % 64) i) c.word.ensures in
    let fits : c.word.result < 2 ^ 64 = omega arith in
    first_in_rest c.args.self.now c.args.place rest is (omega arith) (omega (arith, and_le_l c.word.result ((2 ^ 64 - 1) * 2 ^ (c.args.place % 64) % 2 ^ 64)))

pub loop-index-init : goal.loop-index-init
loop-index-init c other le lt =
    let rest : ℕ = bit_and c.word.result ((2 ^ 64 - 1) * 2 ^ (c.args.place % 64) % 2 ^ 64) in
    let is : IsRest c.args.self.now c.args.place rest = λ i lt. digit-rest c.word.result (c.args.place % 64) i (omega arith) lt ∙ ap (λ n. digit n i && leb (c.args.place % 64) i) c.word.ensures in
    none_in_rest c.args.self.now c.args.place rest is (omega arith) other le (omega (arith, c.saturating_sub-index.ensures))

pub returns-then-word-ne0 : goal.returns-then-word-ne0
returns-then-word-ne0 c =
    let w = c.args.self.now in
    let number = w.offset + c.loop-index.index in
    let here : get_or c.as_slice-words.result.now c.loop-index.index 0 ≡ word_at w number = ap (λ (l : List ℕ). get_or l c.loop-index.index 0) c.as_slice-words.ensures ∙ sym (word_kept w.offset w.words.items c.loop-index.index) in
    let fits : get_or c.as_slice-words.result.now c.loop-index.index 0 < 2 ^ 64 = omega arith in
    subst (λ word. IsFirstFrom (is_set w) c.args.place (Some (number * 64 + trailing_zeros w64 word))) (sym here)
    (first_in_word w c.args.place number (omega (arith, c.saturating_sub-index.ensures)) c.loop-index.invariant
    (subst (λ word. 0 < word) here (omega arith)) (subst (λ word. word < 2 ^ 64) here fits))

pub loop-index-preserved : goal.loop-index-preserved
loop-index-preserved c other le lt =
    let w = c.args.self.now in
    let here = ap (λ (l : List ℕ). get_or l c.loop-index.index 0) c.as_slice-words.ensures ∙ sym (word_kept w.offset w.words.items c.loop-index.index) in
    none_in_word w c.args.place (w.offset + c.loop-index.index) c.loop-index.invariant (sym here ∙ omega arith) other le (omega arith)

pub returns : goal.returns
returns c = none_at_all c.args.self.now c.args.place (c.args.self.now.offset + c.loop-index.index) c.loop-index.invariant (omega (arith, ap length c.as_slice-words.ensures))
