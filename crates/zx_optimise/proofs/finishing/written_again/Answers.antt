-- A list that is too long stays as it is.
use Rattle.zx_optimise.specs.Bounds.{most_root2_of_fewer}
use Rattle.zx_optimise.proofs.Made.{made_of_itself}
use Rattle.zx_optimise.proofs.finishing.written_again.Goals as goal

pub returns-then-gates-gt-MOST_WHOLE : goal.returns-then-gates-gt-MOST_WHOLE
returns-then-gates-gt-MOST_WHOLE c =
    made_of_itself most_root2_of_fewer c.args.list.now c.in_ok-copy.field-0 c.one.result c.in_ok-copy.ensures c.one.ensures
