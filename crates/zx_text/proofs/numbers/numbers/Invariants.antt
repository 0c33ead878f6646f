-- The numbers so far, and the parts that are left.
use Rattle.std.proofs.Common.{◌≡◌, true, ◌+◌, ◌++◌, [], map, length, decimal}
use Rattle.std.specs.List.{list_all}
use Rattle.std.specs.Option.{option_map_or}
use Rattle.zx_text.specs.Pieces.{pieces}
use Rattle.zx_text.specs.Internal.SmallNumbers.{is_small}
use Rattle.zx_text.proofs.numbers.numbers.Given as goal

abbrev pub invariant-loop-rest : goal.invariant-loop-rest
invariant-loop-rest l = (map decimal l.numbers.items ++ option_map_or (λ rest. pieces 32 rest.now) l.rest [] ≡ option_map_or (λ rest. pieces 32 rest.now) l.fn.parts []) × (list_all is_small l.numbers.items ≡ true)

abbrev pub decreases-loop-rest : goal.decreases-loop-rest
decreases-loop-rest l = option_map_or (λ rest. length rest.now + 1) l.rest 0
