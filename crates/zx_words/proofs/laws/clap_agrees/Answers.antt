use Rattle.zx_words.proofs.ClapAgrees.{clap_agrees}
use Rattle.zx_words.proofs.laws.clap_agrees.Goals as goal

pub returns : goal.returns
returns c = clap_agrees
