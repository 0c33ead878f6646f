use Rattle.std.proofs.Common.{◌≡◌, sym, ◌∙◌, ap, ap₂, inl, inr, ℕ, ◌+◌, ◌<◌, List, get_or, slice_set, length, if◌then◌else◌, ◌==◌, eqb, eq-eqb, ne_eqb, arith}
use Rattle.std.specs.Int.RustNames.{bit_xor}
use Rattle.std.specs.Int.Bits.{xor_zero_r}
use Rattle.std.proofs.lemmas.Bool.{cases_eq, cond-true, cond-false}
use Rattle.std.proofs.lemmas.Grind.{get_or-set_at}
use Rattle.std.proofs.lemmas.List.{get_or-set_other}
use Rattle.zx_bits.proofs.WindowLemmas.{word_kept}
use Rattle.zx_bits.proofs.window.add_word.Goals as goal

one_more : (xs : List ℕ) (j m n v : ℕ) → j < length xs → m ≡ n →
    get_or (slice_set xs j (bit_xor (get_or xs j 0) m)) v 0 ≡ bit_xor (get_or xs v 0) (if v == j then n else 0)
one_more xs j m n v lt same =
    elim (cases_eq v j) [
      | inl e ↦
          get_or-set_at xs j v _ 0 e lt ∙ ap₂ bit_xor (ap (λ i. get_or xs i 0) (sym e)) same
          ∙ ap (bit_xor (get_or xs v 0)) (sym (cond-true (eqb v j) n 0 (eq-eqb v j e)))
      | inr apart ↦
          get_or-set_other xs j v _ 0 apart ∙ sym (xor_zero_r _)
          ∙ ap (bit_xor (get_or xs v 0)) (sym (cond-false (eqb v j) n 0 (ne_eqb v j apart)))
    ]

pub returns-clause-words : goal.returns-clause-words
returns-clause-words c v =
    one_more c.args.words.now (c.args.start + c.args.i) (get_or c.args.added.now c.args.i 0) _ v (omega (arith, c.requires.one, c.requires.within))
    (sym (word_kept c.args.start c.args.added.now c.args.i))
