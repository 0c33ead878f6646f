-- So far each two ends are those of a wire.
use Rattle.std.proofs.Common.{◌≡◌, true, take}
use Rattle.std.specs.List.{list_all, zip}
use Rattle.zx_same.specs.Bare.{is_bare_wire}
use Rattle.zx_same.proofs.bare.are_bare_wires.Given as goal

abbrev pub invariant-loop-i : goal.invariant-loop-i
invariant-loop-i l = list_all (is_bare_wire l.g.graph) (take l.i (zip l.g.graph.inputs l.g.graph.outputs)) ≡ true
