-- Members in common with the neighbours.
use Rattle.std.proofs.Common.{◌≡◌, ◌∙◌, sym, ap, subst, ℕ, true, List, eqb, ltb, ◌%◌}
use Rattle.std.specs.Prelude.{count_by}
use Rattle.zx_model.specs.Bits.{member}
use Rattle.zx_calculus.specs.Graph.{in_order}
use Rattle.gflow_laws.specs.Flow.{set_of, is_in}
use Rattle.zx_flow.proofs.MemberLemmas.{parity-common, parity-absent}
use Rattle.zx_flow.proofs.flow.Flow.odd_has.Goals as goal

pub returns-then-is_live : goal.returns-then-is_live
returns-then-is_live c =
    let set : List ℕ = set_of c.args.self.now.flow c.args.v in
    let same : c.set-set.result.now.ids ≡ set = c.set-set.ensures ∙ ap (λ f. set_of f.flow c.args.v) c.self.view_is in
    ap (λ k. eqb (k % 2) 1)
    (c.common_with.ensures.value ∙ ap (count_by (λ p. member p c.neighbour_set.result.now.ids)) same)
    ∙ parity-common c.args.g.now.graph c.args.w c.neighbour_set.result.now.ids set c.neighbour_set.ensures.valid
    (subst (λ l. in_order ltb l ≡ true) same c.common_with.ensures.rising)
    c.neighbour_set.ensures.members

pub returns-else-is_live : goal.returns-else-is_live
returns-else-is_live c =
    c.if-is_live.false ∙ sym (parity-absent c.args.g.now.graph c.args.w (is_in (set_of c.args.self.now.flow c.args.v)) c.is_live.ensures.valid (sym c.is_live.ensures.value ∙ c.if-is_live.false))
