use Rattle.graph_like.proofs.LikeSum.{like_proportional}
use Rattle.graph_like.proofs.laws.like_form_keeps_sum.Goals as goal

pub returns : goal.returns
returns c = like_proportional
