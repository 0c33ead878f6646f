-- The vertices so far are turned over, and of the next one the members so far.
use Rattle.std.proofs.Common.{◌≡◌, ◌++◌, take}
use Rattle.zx_extract.proofs.HoldersTurning.{IsTurned, IsTurning}
use Rattle.zx_extract.proofs.holders.Holders.of_flow.Given as goal

abbrev pub invariant-loop-v : goal.invariant-loop-v
invariant-loop-v l = IsTurned l.f.flow (take l.v-index l.vertices) l.held.lists

abbrev pub invariant-loop-s : goal.invariant-loop-s
invariant-loop-s l = record {
  all : l.yielded ++ l.s-iterator ≡ l.initial.s-iterator;
  turning : IsTurning l.f.flow (take l.v-index l.vertices) l.v l.yielded l.held.lists;
}
