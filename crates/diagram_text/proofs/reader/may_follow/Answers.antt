-- The edge before is the last one.
use Rattle.std.proofs.Common.{sym, ap, ◌∙◌}
use Rattle.std.specs.Option.{option_copied}
use Rattle.diagram_text.proofs.EdgeLemmas.{last_follows}
use Rattle.diagram_text.proofs.reader.may_follow.Goals as goal

pub returns-in-Some : goal.returns-in-Some
returns-in-Some c =
    c.comes_before.ensures
    ∙ last_follows c.args.edges.now c.in-Some.last.now c.args.wire.now (sym c.last.ensures.value ∙ ap option_copied c.in-Some.is)
