-- The piece is replaced, or stays.
use Rattle.std.proofs.Common.{◌≡◌, ◌++◌, OnOk, ◌-◌, ◌<◌, ◌∙◌, length, get_or, take, drop, refl, sym, ap, subst, arith}
use Rattle.zx_optimise.specs.Bounds.{most_root2_of_fewer}
use Rattle.zx_optimise.specs.Internal.Making.{IsMadeOf}
use Rattle.zx_optimise.proofs.Pieces.{piece_stays_if, piece_replaced}
use Rattle.zx_optimise.proofs.long_lists.add_piece.Goals as goal

pub returns-in-Some-product : goal.returns-in-Some-product
returns-in-Some-product c =
    let end = c.in-Some.end.now in
    let item = c.in-Some.ensures.item in
    let some = subst (λ xs. 0 < length xs) c.deref.ensures.value item.3.0 in
    let first = item.1 ∙ ap (λ xs. get_or xs 0 end) c.deref.ensures.value in
    piece_replaced c.args.list.now.qubits c.args.start c.args.end c.args.list.now.gates c.args.made.now c.requires.made
    (omega (arith, c.requires.some)) c.requires.within c.in_ok-piece.piece.gates
    (c.in_ok-piece.ensures.gates ∙ ap (λ xs. take (c.args.end - c.args.start) (drop c.args.start xs)) c.gates.ensures.value)
    c.in_ok-piece.piece end c.in-Some-product.scalar c.push_all.new.made (c.in_ok-piece.ensures.qubits ∙ c.qubits.ensures.value) refl
    (subst (IsMadeOf most_root2_of_fewer c.in_ok-piece.piece) (sym first) (c.in_ok-ends.ensures 0 end some))
    c.in-Some-product.ensures.value c.in-Some-product.ensures.within c.in_ok-push_all.ensures.qubits
    (c.in_ok-push_all.ensures.gates ∙ ap (λ xs. c.args.made.now.gates.gates ++ xs) c.gates-in-Some-product.ensures.value)

pub returns : goal.returns
returns c =
    piece_stays_if c.args.list.now.qubits c.args.start c.args.end c.args.list.now.gates c.args.made.now c.requires.made
    (omega (arith, c.requires.some)) c.requires.within c.in_ok-piece.piece.gates
    (c.in_ok-piece.ensures.gates ∙ ap (λ xs. take (c.args.end - c.args.start) (drop c.args.start xs)) c.gates.ensures.value)
    c.push_all-2.new.made c.push_all-2.result c.push_all-2.ensures.qubits
    (subst (λ xs. OnOk c.push_all-2.result (c.push_all-2.new.made.gates ≡ c.args.made.now.gates.gates ++ xs)) c.gates-2.ensures.value
    c.push_all-2.ensures.gates)
