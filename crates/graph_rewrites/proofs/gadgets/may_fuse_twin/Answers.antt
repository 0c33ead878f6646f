-- Two gadgets apart, with their neighbours compared.
use Rattle.std.proofs.Common.{◌∙◌, sym, eq-eqb, true≢false}
use Rattle.zx_calculus.proofs.TwinTests.{twins_tested}
use Rattle.graph_rewrites.proofs.GadgetTests.{rows_tested}
use Rattle.graph_rewrites.proofs.gadgets.may_fuse_twin.Goals as goal

pub returns-clause-value : goal.returns-clause-value
returns-clause-value c =
    twins_tested c.args.g.now.graph c.args.u c.args.v c.is_gadget.ensures.valid
    (sym c.is_gadget.ensures.value ∙ c.if-not-is_gadget.false) (sym c.is_gadget-2.ensures.value ∙ c.if-not-is_gadget-2.false)
    (λ same. true≢false (sym (eq-eqb c.args.u c.args.v same) ∙ (sym c.eq.ensures ∙ c.if-eq.false)))
    (sym c.has_edge.ensures.value ∙ c.if-has_edge.false)
    c.is_same.result
    (rows_tested c.args.g.now.graph c.args.u c.args.v c.neighbour_set.result.now.ids c.neighbour_set-2.result.now.ids c.is_same.result
    c.is_gadget.ensures.valid c.is_same.ensures.rising c.is_same.ensures.other_rising c.neighbour_set.ensures.members
    c.neighbour_set-2.ensures.members c.is_same.ensures.value)
