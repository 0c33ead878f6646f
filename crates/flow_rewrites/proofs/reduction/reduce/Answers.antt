-- What the moves come to, which are counted once all of them are made.
use Rattle.std.proofs.Common.{subst, IsOk, arith}
use Rattle.std.proofs.lemmas.Bool.{false≢true}
use Rattle.zx_moves.proofs.MovesMade.{counted_later, gained_run, gained_few_moves, gained_few_steps, gained_ends, gained_keeps}
use Rattle.flow_rewrites.proofs.reduction.reduce.Goals as goal

pub returns-clause-map : goal.returns-clause-map
returns-clause-map g c =
    (gained_keeps c.in_ok-made.ensures.made.moves c.args.f.now.flow c.reduce_graph.ensures.was_valid c.requires.flow).proportional

pub returns-clause-odd : goal.returns-clause-odd
returns-clause-odd g c =
    (gained_keeps c.in_ok-made.ensures.made.moves c.args.f.now.flow c.reduce_graph.ensures.was_valid c.requires.flow).no_more_odd

pub returns-clause-inputs : goal.returns-clause-inputs
returns-clause-inputs g c = (gained_ends c.in_ok-made.ensures.made.moves).0

pub returns-clause-outputs : goal.returns-clause-outputs
returns-clause-outputs g c = (gained_ends c.in_ok-made.ensures.made.moves).1

pub returns-clause-run : goal.returns-clause-run
returns-clause-run g c = gained_run c.in_ok-made.ensures.made.moves

pub returns-clause-moves : goal.returns-clause-moves
returns-clause-moves g c = counted_later c.count.ensures c.in_ok-made.ensures.made.moves

pub returns-clause-few_moves : goal.returns-clause-few_moves
returns-clause-few_moves g c =
    let few = gained_few_moves c.in_ok-made.ensures.made.moves c.reduce_graph.ensures.was_valid in omega (arith, c.count.ensures, few)

pub returns-clause-few_steps : goal.returns-clause-few_steps
returns-clause-few_steps g c = let few = gained_few_steps c.in_ok-made.ensures.made.moves in omega (arith, c.count.ensures, few)

pub returns-in_err-made-clause-has_room : goal.returns-in_err-made-clause-has_room
returns-in_err-made-clause-has_room g c room =
    absurd (false≢true (subst IsOk c.in_err-made.was (c.reduce_graph.ensures.has_room room)))
