use Rattle.graph_like.proofs.LikeSum.{one_like_form}
use Rattle.graph_like.proofs.laws.diagrams_have_one_like_form.Goals as goal

pub returns : goal.returns
returns c = one_like_form
