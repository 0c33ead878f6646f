use Rattle.std.proofs.Common.{◌≡◌, map, take}
use Rattle.qasm_names.specs.Internal.HeaderTable.{angle_tree}
use Rattle.qasm_names.proofs.header.exprs.Given as goal

abbrev pub invariant-loop-angle : goal.invariant-loop-angle
invariant-loop-angle l = l.exprs.items ≡ map angle_tree (take l.angle-index l.angles)
