use Rattle.std.proofs.Common.{◌≡◌, refl, ◌∙◌, ap, subst, ℕ, ◌+◌, ◌-◌, ◌<◌, List, take, drop, get_or, length, arith}
use Rattle.std.proofs.lemmas.List.{length-take-le}
use Rattle.zx_bits.proofs.WindowLemmas.{trimmed, front_lost}
use Rattle.zx_bits.proofs.window.Window.cut.Goals as goal

pub returns-then-start-gt0-clause-words : goal.returns-then-start-gt0-clause-words
returns-then-start-gt0-clause-words c =
    let items = c.args.self.now.words.items in
    let end = c.args.end in
    let k = c.args.start in
    let cut = c.truncate.new.self.items in
    let kept : cut ≡ take end items = c.truncate.ensures.items in
    let count : length cut ≡ end = ap length kept ∙ length-take-le end items c.requires.within in
    let size = c.move_front.ensures.len ∙ ap length c.as_mut_slice.ensures.value in
    trimmed c.args.self.now (record { offset = c.args.self.now.offset + k; words = c.truncate-then-start-gt0.new.self }) end k c.requires.within c.requires.order
    c.requires.after c.requires.before refl
    (c.truncate-then-start-gt0.ensures.items
    ∙ front_lost cut c.move_front.new.words k (end - k) (length cut) (omega (arith, count, c.requires.order)) (omega (arith, count)) size size
    (subst (λ (l : List ℕ). (i : ℕ) → k + i < length l → get_or c.move_front.new.words i 0 ≡ get_or l (k + i) 0) c.as_mut_slice.ensures.value c.move_front.ensures.moved)
    ∙ ap (drop k) kept)
