-- The ledger of the blank.
use Rattle.round_trips.proofs.tests.trips.reduce_traced.Given as goal

abbrev pub ghosts-reduce_counted : goal.ghosts-reduce_counted
ghosts-reduce_counted a = record { name = a.blank.name; parts = a.blank.parts }
