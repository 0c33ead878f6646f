-- Neither qubit is blocked.
use Rattle.std.proofs.Common.{rules}
use Rattle.zx_peephole.specs.Internal.Chains.{first_qubit, second_qubit}
use Rattle.zx_pieces.proofs.Walks.{free_all, read_off, unset_by}
use Rattle.zx_pieces.proofs.walking.Walk.is_free.Goals as goal

pub returns-then-not-index : goal.returns-then-not-index
returns-then-not-index c = λ free blocking.
    let walk = c.args.self.now in
    let gate = c.args.gate.now in
    let blocked = walk.blocked.items in
    free_all blocked walk.passed.items gate
    (read_off blocked c.from.result (first_qubit gate) c.index.result.now c.index.ensures (search rules) (search rules) c.if-not-index.true)
    (read_off blocked c.from-then-not-index.result (second_qubit gate) c.index-then-not-index.result.now c.index-then-not-index.ensures
    (search rules) (search rules) (unset_by c.index-then-not-index.result.now free))
    blocking
