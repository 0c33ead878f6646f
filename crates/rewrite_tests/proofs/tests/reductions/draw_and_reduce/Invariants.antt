-- The ledger of the blank.
use Rattle.rewrite_tests.proofs.tests.reductions.draw_and_reduce.Given as goal

abbrev pub ghosts-reduce_counted : goal.ghosts-reduce_counted
ghosts-reduce_counted _ a = record { name = a.blank.name; parts = a.blank.parts }
