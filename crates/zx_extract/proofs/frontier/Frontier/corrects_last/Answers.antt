-- Membership of the last set.
use Rattle.std.proofs.Common.{◌∙◌, ap, sym}
use Rattle.zx_extract.specs.Internal.Lists.{last_set}
use Rattle.zx_extract.proofs.Places.{one_vertex}
use Rattle.zx_extract.proofs.Lasts.{last_set-entry}
use Rattle.zx_extract.proofs.frontier.Frontier.corrects_last.Goals as goal

pub returns : goal.returns
returns c = λ u at_q.
    let last = c.requires.last.1 in
    c.last_has.ensures last.before last.entry last.split
    ∙ sym (last_set-entry c.args.self.now.flow.flow c.requires.last.0 last c.present.result)
    ∙ ap (last_set c.args.self.now.flow.flow) (one_vertex c.args.self.now.graph.graph c.args.q c.present.result u
    c.present.ensures at_q)
