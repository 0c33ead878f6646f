-- The answer with which something is written.
use Rattle.std.specs.Prelude.{Bool, true, false}
use Rattle.zx_run.specs.declared.status.Status.{Status}
use Rattle.zx_run.specs.declared.status.Status.TheVariants.{Done, No}

-- where what is written says no, or not
abbrev pub answer_with : Bool → Status
answer_with false = Done
answer_with true = No
