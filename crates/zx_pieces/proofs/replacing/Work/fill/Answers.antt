-- The window gets the next gates.
use Rattle.std.proofs.Common.{rules, ◌≡◌, ◌≤◌, ◌+◌, ◌-◌, ◌++◌, length, take, drop, ap, ◌∙◌, arith}
use Rattle.std.proofs.lemmas.List.{length-drop, take_all}
use Rattle.zx_pieces.proofs.Works.{filled}
use Rattle.zx_pieces.proofs.replacing.Work.fill.Goals as goal

pub returns-clause-same : goal.returns-clause-same
returns-clause-same c =
    let work = c.args.self.now in
    let gates = c.args.gates.now in
    let count = c.min-count.result in
    let rest = drop work.next gates in
    let short : length rest ≤ length gates - work.next = omega (arith, length-drop work.next gates) in
    let more : c.extend_from_slice.new.self.items ≡ work.passed.items ++ take count (take (length gates - work.next) rest) = search rules in
    ap (λ window. window ++ drop (work.next + count) gates) (more ∙ ap (λ r. work.passed.items ++ take count r) (take_all (length gates - work.next) rest short))
    ∙ filled work.passed.items gates work.next count
