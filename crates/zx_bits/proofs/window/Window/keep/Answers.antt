use Rattle.std.proofs.Common.{refl, ◌∙◌, ap, ◌+◌, List, ℕ, get_or, length}
use Rattle.std.specs.Int.RustNames.{bit_and}
use Rattle.zx_bits.specs.Internal.Windows.{word_at}
use Rattle.std.specs.List.{refill}
use Rattle.zx_bits.specs.declared.window.Window.{Window}
use Rattle.zx_bits.proofs.WindowLemmas.{kept_places, refilled}
use Rattle.zx_bits.proofs.window.Window.keep.Goals as goal

pub returns-clause-places : goal.returns-clause-places
returns-clause-places c =
    let old = c.args.self.now in
    let row = c.args.other.now in
    let kept = refilled (length old.words.items) old.words.items c.keep_words.new.words (c.keep_words.ensures.size ∙ ap length c.as_mut_slice.ensures.value) in
    let new : Window = record {
      offset = old.offset;
      words = record { items = refill (length old.words.items) old.words.items c.keep_words.new.words; capacity = old.words.capacity };
    } in
    kept_places old new row refl
    (λ i. ap (λ (l : List ℕ). get_or l i 0) kept ∙ c.keep_words.ensures.words i
    ∙ ap (λ (l : List ℕ). bit_and (get_or l i 0) (word_at row (old.offset + i))) c.as_mut_slice.ensures.value)
