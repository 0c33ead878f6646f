-- There is no place yet.
use Rattle.std.proofs.Common.{rules, sym, subst}
use Rattle.piece_laws.specs.Places.{ArePlaces}
use Rattle.zx_pieces.proofs.Places.{no_places}
use Rattle.zx_pieces.proofs.walking.begin.Goals as goal

pub returns-clause-wide : goal.returns-clause-wide
returns-clause-wide c = record {
  places = subst (ArePlaces c.new.result.qubits) (sym c.new-2.ensures.items) (no_places c.new.result.qubits);
  blocked = search rules;
}
