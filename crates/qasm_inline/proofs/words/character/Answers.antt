-- The characters are those whose codes rise from 32.
use Rattle.std.proofs.Common.{refl, arith}
use Rattle.qasm_inline.proofs.Characters.{character_at}
use Rattle.qasm_inline.proofs.words.character.Goals as goal

pub returns : goal.returns
returns c = character_at _ c.args.byte c.from-place.result refl c.requires.0 c.requires.1 (omega (arith, c.from-place.ensures))
