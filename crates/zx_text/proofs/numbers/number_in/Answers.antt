-- The number that a text spells.
use Rattle.std.proofs.Common.{◌≡◌, ◌∙◌, Ok, true, bytes_eq, decimal, sym, ap}
use Rattle.std.proofs.lemmas.Slice.Eq.{bytes_eq-Decides}
use Rattle.zx_text.proofs.PieceLemmas.{too_large}
use Rattle.zx_text.proofs.numbers.number_in.Goals as goal

pub returns-else-eq-clause-none : goal.returns-else-eq-clause-none
returns-else-eq-clause-none c =
    λ n same. too_large n c.args.text.now c.parse.result c.parse.ensures.value.0 same
    (λ ok.
    let is : c.parse.result ≡ Ok c.in-Ok.number = cc in
    let equal : c.in-Ok.number ≡ n = cc in
    let passes : true ≡ bytes_eq c.format.result.now c.args.text.now =
    sym ((bytes_eq-Decides c.format.result.now c.args.text.now).1 (c.format.ensures.text ∙ (ap decimal equal ∙ sym same))) in
    cc (passes, c.if-eq.ensures))

pub returns-in-Err-clause-none : goal.returns-in-Err-clause-none
returns-in-Err-clause-none c =
    λ n same. too_large n c.args.text.now c.parse.result c.parse.ensures.value.0 same (λ ok. cc)
