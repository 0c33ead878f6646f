-- From the walk to the map.
use Rattle.std.proofs.Common.{◌+◌, ◌-◌, inl, inr, sym, ◌∙◌, subst, arith}
use Rattle.zx_identities.specs.Internal.Packing.{AreZero}
use Rattle.zx_identities.proofs.Deciding.{Counts, is_identity_map, zero_where_kept}
use Rattle.zx_identities.proofs.checking.is_identity.Goals as goal
use Rattle.zx_identities.proofs.checking.is_identity.Goals.{then-are_by_eighths, else-are_by_eighths}

pub returns-after-are_by_eighths : goal.returns-after-are_by_eighths
returns-after-are_by_eighths c =
    let n = c.from-qubits.result in
    let at = c.from-qubits.ensures ∙ c.qubits.ensures.value in
    let reading = rw c.in-Some.is at c.in_ok-terms.ensures.reading in
    let counts = subst (Counts (n + 1) c.in_ok-groups-in-Some.groups.items) c.deref.ensures.value c.in_ok-groups-in-Some.ensures in
    record {
      map = λ same.
          is_identity_map c.args.list.now c.gates-gates.result.now n (n + 1 - 1) c.if-are_by_eighths.most c.in-Some.terms.items c.in_ok-groups-in-Some.groups.items
          c.gates-gates.ensures.valid c.gates-gates.ensures.value at (omega arith)
          (elim c.if-are_by_eighths.branch [
            | then-are_by_eighths w ↦ inl (sym c.are_by_eighths.ensures ∙ w.if-are_by_eighths.true, w.most-is)
            | else-are_by_eighths w ↦ inr w.most-is
          ])
          (sym c.are_without_h.ensures ∙ c.if-not-are_without_h.false)
          reading counts
          (subst (λ gs. AreZero gs 1 (n + 1 - 1) c.if-are_by_eighths.most) c.deref_mut.ensures.value (c.are_zero.ensures.zero.0 same));
      all = λ without few kept.
          c.are_zero.ensures.zero.1
          (subst (λ gs. AreZero gs 1 (n + 1 - 1) c.if-are_by_eighths.most) (sym c.deref_mut.ensures.value)
          (zero_where_kept c.args.list.now c.gates-gates.result.now n (n + 1 - 1) c.if-are_by_eighths.most c.in-Some.terms.items c.in_ok-groups-in-Some.groups.items
          c.gates-gates.ensures.value at (omega arith) reading counts kept));
    }
