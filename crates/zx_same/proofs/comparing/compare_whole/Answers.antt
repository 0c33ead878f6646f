-- What is left of both tells it.
use Rattle.std.proofs.Common.{sym, ◌∙◌}
use Rattle.zx_same.proofs.Comparisons.{same_seen}
use Rattle.zx_same.proofs.Deciding.{is_left_of_both}
use Rattle.zx_same.proofs.comparing.compare_whole.Goals as goal

pub returns-then-is_identity-clause-same_map : goal.returns-then-is_identity-clause-same_map
returns-then-is_identity-clause-same_map c =
    same_seen c.args.a.now c.args.b.now c.in_ok-both.both c.in_ok-found.found c.requires.qubits c.gates.ensures.valid
    c.in_ok-both.ensures c.in_ok-found.ensures (sym c.is_identity.ensures ∙ c.if-is_identity.true)

pub returns-clause-left : goal.returns-clause-left
returns-clause-left c =
    is_left_of_both c.args.a.now c.args.b.now c.in_ok-both.both c.in_ok-found.found c.requires.qubits c.gates.ensures.valid c.in_ok-both.ensures
    c.in_ok-found.ensures (sym c.is_identity.ensures ∙ c.if-is_identity.false)
