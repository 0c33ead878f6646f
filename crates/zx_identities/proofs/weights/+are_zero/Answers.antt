-- From the ways on.
use Rattle.std.proofs.Common.{◌≡◌, ◌+◌, ◌-◌, true, suc, map, inl, inr, ap, ◌∙◌, subst, arith}
use Rattle.std.specs.Prelude.{◌↔◌, nat_eq}
use Rattle.zx_identities.specs.Internal.Packing.{flipped, AreZero}
use Rattle.zx_identities.proofs.Walks.{zero_test, ended, refuted, unused, answered, flipped_back}
use Rattle.zx_identities.proofs.weights.+are_zero.Goals as goal
use Rattle.zx_identities.proofs.weights.+are_zero.Goals.{then-most-eq0-via-then-most-eq0, then-most-eq0-via-else-most-eq0+then-place-bits}

pub returns-then-most-eq0-clause-zero : goal.returns-then-most-eq0-clause-zero
returns-then-most-eq0-clause-zero t c =
    ended c.args.groups.now c.args.place (c.args.bits - c.args.place) c.args.most (nat_eq c.phase_here.result 0)
    (elim c.then-most-eq0.branch [
      | then-most-eq0-via-then-most-eq0 w ↦ inr w.if-most-eq0.true
      | then-most-eq0-via-else-most-eq0+then-place-bits w ↦ inl (omega (arith, w.if-place-bits.true))
    ])
    (zero_test c.phase_here.result _ c.phase_here.ensures)

pub returns-then-not-are_zero-clause-zero : goal.returns-then-not-are_zero-clause-zero
returns-then-not-are_zero-clause-zero t c =
    refuted c.args.groups.now c.args.place (c.args.bits - c.args.place) (c.args.bits - (c.args.place + 1)) c.args.most c.are_zero.result (omega arith)
    c.if-not-are_zero.true c.are_zero.ensures.zero

pub returns-then-not-is_used-clause-zero : goal.returns-then-not-is_used-clause-zero
returns-then-not-is_used-clause-zero t c =
    unused c.args.groups.now c.args.place (c.args.bits - c.args.place) (c.args.bits - (c.args.place + 1)) c.args.most c.are_zero.result (omega arith)
    c.if-not-are_zero.false c.are_zero.ensures.zero
    (subst (λ gs. map (flipped c.args.place) gs ≡ gs) c.are_zero.ensures.back (c.is_used.ensures c.if-not-is_used.true))

pub returns-clause-back : goal.returns-clause-back
returns-clause-back t c =
    c.flip-2.ensures
    ∙ ap (map (flipped c.args.place)) (c.are_zero-zero.ensures.back ∙ c.flip.ensures ∙ ap (map (flipped c.args.place)) c.are_zero.ensures.back)
    ∙ flipped_back c.args.place c.args.groups.now

pub returns-clause-zero : goal.returns-clause-zero
returns-clause-zero t c =
    let more : c.args.most ≡ suc (c.args.most - 1) = omega arith in
    answered c.args.groups.now c.args.place (c.args.bits - c.args.place) (c.args.bits - (c.args.place + 1)) c.args.most (c.args.most - 1)
    c.are_zero.result c.are_zero-zero.result (omega arith) more c.if-not-are_zero.false c.are_zero.ensures.zero
    (subst (λ gs. (c.are_zero-zero.result ≡ true) ↔ AreZero gs (c.args.place + 1) (c.args.bits - (c.args.place + 1)) (c.args.most - 1))
    (c.flip.ensures ∙ ap (map (flipped c.args.place)) c.are_zero.ensures.back)
    c.are_zero-zero.ensures.zero)
