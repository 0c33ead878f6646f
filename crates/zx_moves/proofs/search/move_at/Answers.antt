-- A move of one vertex, or with the second one that is found.
use Rattle.std.proofs.Common.{◌∙◌, sym, refl, subst, true≢false}
use Rattle.zx_moves.specs.Internal.Searching.{MayBegin}
use Rattle.zx_moves.proofs.SearchTests.{if_none}
use Rattle.zx_moves.proofs.SearchPairs.{begins_none, inner_found, inner_none, pair_found, pair_none}
use Rattle.zx_moves.proofs.search.move_at.Goals as goal

pub returns-then-not-may_begin-clause-none : goal.returns-then-not-may_begin-clause-none
returns-then-not-may_begin-clause-none c =
    begins_none c.args.g.now.graph c.requires.valid c.args.u c.args.kind (λ m. true≢false (sym (c.may_begin.ensures.1 m) ∙ c.if-not-may_begin.true))

pub returns-in_err-inner_neighbour-in-InnerPivot-clause-none : goal.returns-in_err-inner_neighbour-in-InnerPivot-clause-none
returns-in_err-inner_neighbour-in-InnerPivot-clause-none c =
    rw c.in-InnerPivot.is
    (if_none _ c.from_residual.result (inner_none c.args.g.now.graph c.requires.valid c.args.u c.in_err-inner_neighbour-in-InnerPivot.ensures.none))

pub returns-in_ok-inner_neighbour-in-InnerPivot-clause-found : goal.returns-in_ok-inner_neighbour-in-InnerPivot-clause-found
returns-in_ok-inner_neighbour-in-InnerPivot-clause-found c =
    let half = subst (λ k. MayBegin c.args.g.now.graph k c.args.u) c.in-InnerPivot.is (c.may_begin.ensures.0 c.if-not-may_begin.false) in
    let found = c.in_ok-inner_neighbour-in-InnerPivot.ensures.found in
    rw c.in-InnerPivot.is (record { applies = inner_found c.args.g.now.graph c.requires.valid c.args.u _ half found.0 found.1; kind = refl })

pub returns-in_err-gadget_beside-in-GadgetPair-clause-none : goal.returns-in_err-gadget_beside-in-GadgetPair-clause-none
returns-in_err-gadget_beside-in-GadgetPair-clause-none c =
    rw c.in-GadgetPair.is
    (if_none _ c.from_residual-in_err-gadget_beside-in-GadgetPair.result
    (pair_none c.args.g.now.graph c.requires.valid c.args.u (sym c.gadget_beside.ensures ∙ c.in_err-gadget_beside-in-GadgetPair.was)))

pub returns-in_ok-gadget_beside-in-GadgetPair-clause-found : goal.returns-in_ok-gadget_beside-in-GadgetPair-clause-found
returns-in_ok-gadget_beside-in-GadgetPair-clause-found c =
    let gadget = subst (λ k. MayBegin c.args.g.now.graph k c.args.u) c.in-GadgetPair.is (c.may_begin.ensures.0 c.if-not-may_begin.false) in
    rw c.in-GadgetPair.is (record {
      applies = pair_found c.args.g.now.graph c.requires.valid c.args.u _ gadget (sym c.gadget_beside.ensures ∙ c.in_ok-gadget_beside-in-GadgetPair.was);
      kind = refl;
    })
