-- The step that the toggled sets are.
use Rattle.std.proofs.lemmas.Result.{on_ok_weaker}
use Rattle.zx_extract.specs.Internal.Frontiers.{remainder_of}
use Rattle.zx_extract.proofs.BesideRow.{set_added}
use Rattle.zx_extract.proofs.frontier.Frontier.add_set.Goals as goal

pub returns : goal.returns
returns c = on_ok_weaker c.write.result (λ written.
    set_added (remainder_of c.args.self.now) c.args.c c.args.t c.present-added.result c.present-to.result
    c.add_row.new.self.flow (remainder_of c.write.new.self) c.present-added.ensures c.present-to.ensures
    c.in_ok-add_row.ensures written) c.write.ensures
