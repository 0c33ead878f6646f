-- The numbered graph is one of a file.
use Rattle.std.proofs.Common.{refl}
use Rattle.zx_text.specs.Files.{Two}
use Rattle.zx_text.proofs.NumberedLemmas.{numbered_file}
use Rattle.zx_text.proofs.laws.files_spell_numbered_graphs.Goals as goal

pub returns : goal.returns
returns c = record {
  spells = λ g flow valid few_inputs few_outputs good. record {
    version = Two;
    file = numbered_file g flow valid few_inputs few_outputs good;
    bytes = refl;
  };
}
