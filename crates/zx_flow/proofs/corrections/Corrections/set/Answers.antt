use Rattle.std.proofs.Common.{◌∙◌}
use Rattle.zx_flow.proofs.TableChanges.{set_told}
use Rattle.zx_flow.proofs.corrections.Corrections.set.Goals as goal

pub returns : goal.returns
returns c = c.get.ensures ∙ set_told c.self.invariant c.self.view_is c.args.v c.requires
