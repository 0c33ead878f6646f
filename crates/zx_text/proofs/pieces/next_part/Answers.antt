-- A part is the first piece.
use Rattle.std.proofs.Common.{◌≡◌, ◌∙◌, ◌∷◌, ◌++◌, false, ap, rules}
use Rattle.zx_model.specs.Bits.{member}
use Rattle.zx_text.specs.Pieces.{pieces}
use Rattle.zx_text.proofs.PieceLemmas.{pieces-cut, pieces-whole}
use Rattle.zx_text.proofs.pieces.next_part.Goals as goal

pub returns-in-Some-clause-parts : goal.returns-in-Some-clause-parts
returns-in-Some-clause-parts c =
    let whole : c.args.text.now ≡ c.in-Some.part.now ++ 32 ∷ c.in-Some.rest.now = search rules in
    let none : member 32 c.in-Some.part.now ≡ false = search rules in
    ap (pieces 32) whole ∙ pieces-cut 32 c.in-Some.part.now c.in-Some.rest.now none

pub returns-in-None-clause-parts : goal.returns-in-None-clause-parts
returns-in-None-clause-parts c = pieces-whole 32 c.args.text.now c.in-None.ensures.none
