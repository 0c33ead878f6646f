-- The line names the vertices so far.
use Rattle.std.proofs.Common.{◌≡◌, ◌++◌, codes, decimal, take}
use Rattle.std.specs.List.{flat_map}
use Rattle.zx_run.proofs.compilation.no_flow_line.Given as goal

abbrev pub invariant-loop-v : goal.invariant-loop-v
invariant-loop-v l = l.line.items ≡ codes "no flow" ++ flat_map (λ v. codes " " ++ decimal v) (take l.v-index l.left)
