-- The place wasn't among them.
use Rattle.std.proofs.Common.{rules, ◌≡◌, false, eqb, sym, subst}
use Rattle.std.specs.List.{list_any}
use Rattle.piece_laws.specs.Places.{ArePlaces}
use Rattle.zx_pieces.proofs.Places.{places_more}
use Rattle.zx_pieces.proofs.walking.Walk.hold.Goals as goal

pub returns-in_ok-push-clause-places : goal.returns-in_ok-push-clause-places
returns-in_ok-push-clause-places c =
    let walk = c.args.self.now in
    let none : list_any (λ p. eqb p c.args.q) walk.places.items ≡ false = search rules in
    subst (ArePlaces walk.piece.qubits) (sym c.in_ok-push.ensures.items)
    (places_more walk.piece.qubits walk.places.items c.args.q c.requires.places none c.requires.below)
