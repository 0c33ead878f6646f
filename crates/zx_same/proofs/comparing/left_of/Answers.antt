-- Equal lists have one map, and so have circuits of which one undoes the other.
use Rattle.std.proofs.Common.{sym, ◌∙◌, subst, []}
use Rattle.zx_model.specs.Proportional.{Proportional}
use Rattle.zx_model.proofs.ProportionalLemmas.{proportional_refl, proportional_trans}
use Rattle.zx_gates.specs.Maps.{amp}
use Rattle.zx_same.specs.Internal.Simplifying.{Leaves}
use Rattle.zx_same.proofs.Comparisons.{same_undone}
use Rattle.zx_same.proofs.Leaving.{left_map, left_qubits, is_left, none_left}
use Rattle.zx_same.proofs.comparing.left_of.Goals as goal

pub returns-then-are_equal-clause-same_map : goal.returns-then-are_equal-clause-same_map
returns-then-are_equal-clause-same_map c =
    let a = c.args.a.now in
    subst (λ gates. Proportional a.qubits a.qubits (amp a.gates) (amp gates)) (sym c.gates.ensures.value ∙ c.are_equal.ensures.0 c.if-are_equal.true ∙ c.gates-2.ensures.value)
    (proportional_refl a.qubits a.qubits (amp a.gates))

pub returns-in_default-clause-same_map : goal.returns-in_default-clause-same_map
returns-in_default-clause-same_map c =
    same_undone c.args.a.now c.args.b.now c.in_ok-both.both c.requires.qubits c.gates-2.ensures.valid c.in_ok-both.ensures
    (rw c.in_default.is at c.in_ok-left.ensures.identity)

pub returns-then-branch-clause-same_map : goal.returns-then-branch-clause-same_map
returns-then-branch-clause-same_map c =
    let both = c.in_ok-both.both in
    let n = both.qubits in
    let left = c.in-Some.left in
    let leaves : Leaves both left = rw c.in-Some.is at c.in_ok-left.ensures.left in
    same_undone c.args.a.now c.args.b.now both c.requires.qubits c.gates-2.ensures.valid c.in_ok-both.ensures
    (proportional_trans n n (amp both.gates) (amp left.gates) (amp []) (left_map both left c.in_ok-left.ensures.on_qubits leaves)
    (subst (λ m. Proportional m m (amp left.gates) (amp [])) (left_qubits both left c.in_ok-left.ensures.on_qubits leaves) (c.in_ok-vanishes.ensures c.if-branch.true)))

pub returns-clause-left : goal.returns-clause-left
returns-clause-left c =
    is_left c.args.a.now c.args.b.now c.in_ok-both.both c.in-Some.left c.requires.qubits c.gates-2.ensures.valid c.in_ok-both.ensures
    c.in_ok-left.ensures.on_qubits (rw c.in-Some.is at c.in_ok-left.ensures.left)

pub returns-clause-clifford : goal.returns-clause-clifford
returns-clause-clifford c = λ none nothing one_map.
    absurd (none_left c.args.a.now c.args.b.now c.in_ok-both.both c.in-Some.left c.requires.qubits c.gates-2.ensures.valid c.in_ok-both.ensures
    c.in_ok-left.ensures.on_qubits (rw c.in-Some.is at c.in_ok-left.ensures.left) none nothing one_map)
