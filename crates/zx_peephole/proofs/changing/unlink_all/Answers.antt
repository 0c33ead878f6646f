-- A gate on one qubit is unlinked once.
use Rattle.std.proofs.Common.{◌≡◌, ◌<◌, length, sym, ap, ◌∙◌, arith}
use Rattle.zx_peephole.specs.Internal.Chains.{gate_at, first_qubit, second_qubit}
use Rattle.zx_peephole.proofs.LeftLemmas.{read_at}
use Rattle.zx_peephole.proofs.SoundLemmas.{unlinked_one, unlinked_two}
use Rattle.zx_peephole.proofs.changing.unlink_all.Goals as goal

pub returns-then-second-first : goal.returns-then-second-first
returns-then-second-first c =
    let w = c.args.work.now in
    let within : c.args.place < length w.gates.items =
    omega (arith, c.requires.kept.before, c.requires.sound.places.within) in
    unlinked_two w c.unlink.new.work c.args.place c.first_qubit-first.result c.requires.sound c.unlink.ensures
    c.unlink-then-second-first.new.work c.second_qubit-second.result c.unlink-then-second-first.ensures
    c.if-second-first.true
    (c.first_qubit-first.ensures ∙ ap first_qubit (read_at w.gates.items c.args.place c.index.result.now within c.index.ensures))
    (c.second_qubit-second.ensures ∙ ap second_qubit (read_at w.gates.items c.args.place c.index-2.result.now within c.index-2.ensures))

pub returns-else-second-first : goal.returns-else-second-first
returns-else-second-first c =
    let w = c.args.work.now in
    let within : c.args.place < length w.gates.items =
    omega (arith, c.requires.kept.before, c.requires.sound.places.within) in
    let first : c.first_qubit-first.result ≡ first_qubit (gate_at w.gates.items c.args.place) =
    c.first_qubit-first.ensures ∙ ap first_qubit (read_at w.gates.items c.args.place c.index.result.now within c.index.ensures) in
    let second : c.second_qubit-second.result ≡ second_qubit (gate_at w.gates.items c.args.place) =
    c.second_qubit-second.ensures ∙ ap second_qubit (read_at w.gates.items c.args.place c.index-2.result.now within c.index-2.ensures) in
    unlinked_one w c.unlink.new.work c.args.place c.first_qubit-first.result c.requires.sound c.unlink.ensures
    first (sym c.if-second-first.false ∙ second)
