-- The exit status by which the program tells how it ended.
use Rattle.std.specs.Prelude.{ℕ, Result, Ok, Err}
use Rattle.zx_run.specs.declared.status.Status.{Status}
use Rattle.zx_run.specs.declared.status.Status.TheVariants.{NoMemory}
use Rattle.zx_run.specs.Numbers.{status_number}
use Rattle.zxopt.specs.declared.ending.NoRun.{NoRun}
use Rattle.zxopt.specs.declared.ending.NoRun.TheVariants as none

-- of an answer, or where nothing was run: without memory for the words, or where the system doesn't give them
abbrev pub exit_status : Result Status NoRun → ℕ
exit_status (Ok status) = status_number status
exit_status (Err none.NoMemory) = status_number NoMemory
exit_status (Err none.NoWords) = 7
