use Rattle.std.proofs.Common.{None}
use Rattle.std.proofs.lemmas.List.Elements.{All-replicate}
use Rattle.qasm_unroll.specs.Internal.Recents.{IsRow}
use Rattle.qasm_unroll.proofs.plain.Recent.new.Goals as goal

pub returns : goal.returns
returns c = λ symbols. record { gates = All-replicate (IsRow symbols) 64 None tt; register = tt }
