use Rattle.std.proofs.Common.{max, min, ◌≡◌, refl, ◌∙◌, ap, ap₂, ℕ, ◌+◌, ◌-◌, ◌≤◌, ◌++◌, List, get_or, ltb, if◌then◌else◌, take, length, replicate, arith}
use Rattle.std.specs.List.{AllClonesOf}
use Rattle.std.proofs.lemmas.List.{take_all}
use Rattle.smallvec.proofs.Lists.{clones_same}
use Rattle.zx_bits.specs.Internal.Windows.{span}
use Rattle.zx_bits.proofs.WindowLemmas.{covered, refilled, span_from}
use Rattle.zx_bits.proofs.window.Window.extend.Goals as goal

filled : (old kept new : List ℕ) (n : ℕ) → kept ≡ old → length old ≤ n →
    (more : (ys : List ℕ) × (new ≡ take n kept ++ ys) × AllClonesOf (λ x y. y ≡ x) 0 ys) → new ≡ old ++ replicate (length more.0) 0
filled old kept new n same le more =
    more.1 ∙ ap₂ (λ (a b : List ℕ). a ++ b) (ap (take n) same ∙ take_all n old le) (clones_same (λ x y. y ≡ x) 0 more.0 more.2 (λ y e. e))

pub returns-clause-ok : goal.returns-clause-ok
returns-clause-ok c =
    let total : c.span-total.result ≡ max (c.start-start.result + length c.args.self.now.words.items) c.args.end - min c.start-start.result c.args.first =
    c.span-total.ensures ∙ ap (λ n. span c.args.self.now.offset n c.args.first c.args.end) c.len.ensures.value
    ∙ span_from c.args.self.now.offset (length c.args.self.now.words.items) c.start-start.result c.args.first c.args.end
    c.start-start.ensures.kept c.start-start.ensures.none c.requires.some in
    let count : length c.resize.new.self.items ≡ max (c.start-start.result + length c.args.self.now.words.items) c.args.end - c.min-offset.result =
    omega (arith, c.in_ok-resize.ensures.len, total, c.min-offset.ensures) in
    let shift = c.start-start.result - c.min-offset.result in
    let long = ap length c.as_mut_slice.ensures.value in
    let kept = refilled (length c.resize.new.self.items) c.resize.new.self.items c.move_back.new.words (c.move_back.ensures.len ∙ long) in
    covered c.args.self.now _ c.resize.new.self.items c.args.first c.args.end c.start-start.result c.min-offset.result (length c.in_ok-resize.ensures.ok.0)
    c.start-start.ensures.kept c.start-start.ensures.none c.min-offset.ensures c.requires.some
    (filled c.args.self.now.words.items c.reserve.new.self.items c.resize.new.self.items _ c.in_ok-reserve.ensures.items (omega (arith, total)) c.in_ok-resize.ensures.ok)
    count refl
    (ap length kept ∙ c.move_back.ensures.len ∙ long)
    (λ i lt. ap (λ (l : List ℕ). get_or l i 0) kept ∙ c.move_back.ensures.moved i (omega (arith, long))
    ∙ ap (λ (l : List ℕ). if ltb i shift then 0 else get_or l (i - shift) 0) c.as_mut_slice.ensures.value)
    (omega (arith, c.in_ok-reserve.ensures.capacity, c.in_ok-resize.ensures.capacity))
