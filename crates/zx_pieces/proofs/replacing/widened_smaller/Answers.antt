-- What replaces the piece on its own qubits does so on the larger circuit's.
use Rattle.std.proofs.Common.{length, sym, subst}
use Rattle.std.proofs.lemmas.List.Elements.{All-append}
use Rattle.zx_gates.specs.Circuit.{IsGateOn}
use Rattle.piece_laws.specs.Places.{placed}
use Rattle.piece_laws.specs.Replacement.{AreScaled, IsReplacement}
use Rattle.piece_laws.proofs.Placements.{placed_replacement}
use Rattle.piece_laws.proofs.Scaling.{scaled_placed}
use Rattle.zx_pieces.proofs.replacing.widened_smaller.Goals as goal

pub returns-in_ok-widened-in-Some-clause-replacement : goal.returns-in_ok-widened-in-Some-clause-replacement
returns-in_ok-widened-in-Some-clause-replacement c =
    let small = c.args.small.now.gates in
    let places = c.args.places.now in
    let new = c.in-Some.made.gates.gates in
    let found = rw c.in-Some.is at c.in_ok-made.ensures.replacement in
    subst (IsReplacement c.args.qubits (placed places small)) (sym c.in_ok-widened-in-Some.ensures.gates)
    (placed_replacement c.args.qubits places small new c.requires.places c.requires.gates
    (subst (λ n. IsReplacement n small new) c.requires.small found))

pub returns-in_ok-widened-in-Some-clause-scaled : goal.returns-in_ok-widened-in-Some-clause-scaled
returns-in_ok-widened-in-Some-clause-scaled c =
    let small = c.args.small.now.gates in
    let places = c.args.places.now in
    let made = c.in-Some.made in
    let found = rw c.in-Some.is at c.in_ok-made.ensures.replacement in
    let scaled = rw c.in-Some.is at c.in_ok-made.ensures.scaled in
    let on = (subst (λ n. IsReplacement n small made.gates.gates) c.requires.small found).on_qubits in
    subst (AreScaled c.args.qubits (placed places small) made.scalar) (sym c.in_ok-widened-in-Some.ensures.gates)
    (scaled_placed c.args.qubits places small made.gates.gates made.scalar c.requires.places
    (All-append (IsGateOn (length places)) small made.gates.gates c.requires.gates on)
    (subst (λ n. AreScaled n small made.scalar made.gates.gates) c.requires.small scaled))
