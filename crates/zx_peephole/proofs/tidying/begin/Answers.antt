-- No gate is in a chain yet.
use Rattle.std.proofs.Common.{refl, arith}
use Rattle.zx_peephole.proofs.SoundLemmas.{sound_begun}
use Rattle.zx_peephole.proofs.tidying.begin.Goals as goal

pub returns-clause-sound : goal.returns-clause-sound
returns-clause-sound c =
    let room = c.requires.room in
    sound_begun _ _ (record {
      circuit = room.circuit;
      few_gates = room.few_gates;
      enough = room.enough;
      linked = λ some. omega (arith, c.fill.ensures.len, room.linked some);
      marked = λ some. omega (arith, c.fill-2.ensures.len, room.marked some);
    }) c.requires.some (c.fill.ensures.items (λ y e. e)) refl
