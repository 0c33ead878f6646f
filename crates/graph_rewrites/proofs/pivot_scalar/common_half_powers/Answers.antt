-- One neighbour more.
use Rattle.std.proofs.Common.{◌≡◌, sym, ◌∙◌, ◌++◌, ◌∷◌, [], ap, ap₂, List, ℕ, Bool, cond, filter}
use Rattle.std.proofs.lemmas.List.Elements.{filter-append}
use Rattle.zx_model.specs.Phase.{sum_of_phases}
use Rattle.zx_calculus.specs.Graph.{joined, neighbours, kind_of}
use Rattle.zx_calculus.specs.Scalars.{half_power, half_powers}
use Rattle.zx_calculus.proofs.StepScalars.{powers-more}
use Rattle.zx_calculus.proofs.Toggling.{neighbour_live}
use Rattle.open_graph.proofs.Walks.{next_some, next_all, next_there}
use Rattle.graph_rewrites.proofs.pivot_scalar.common_half_powers.Goals as goal

pub weight-plane-requires : goal.weight-plane-requires
weight-plane-requires c =
    neighbour_live c.args.g.now.graph c.args.u c.in-Some.p
    (next_there c.loop-p.yielded c.loop-p.p-iterator c.next.new.self (neighbours c.args.g.now.graph c.args.u) c.in-Some.p c.loop-p.invariant.all
    (next_some c.next.result c.loop-p.p-iterator c.next.new.self c.in-Some.p c.next.ensures.steps c.in-Some.is))

pub loop-p-preserved-then-has_edge : goal.loop-p-preserved-then-has_edge
loop-p-preserved-then-has_edge c =
    let g = c.args.g.now.graph in
    let near : ℕ → Bool = joined g.edges c.args.v in
    let one : filter near (c.in-Some.p ∷ []) ≡ c.in-Some.p ∷ [] =
    ap (λ b. cond b (c.in-Some.p ∷ []) []) (sym c.if-has_edge.ensures.value) in
    let more : filter near (c.loop-p.yielded ++ c.in-Some.p ∷ []) ≡ filter near c.loop-p.yielded ++ c.in-Some.p ∷ [] =
    filter-append near c.loop-p.yielded (c.in-Some.p ∷ []) ∙ ap (λ (ps : List ℕ). filter near c.loop-p.yielded ++ ps) one in
    record {
      all = next_all c.loop-p.yielded c.loop-p.p-iterator c.next.new.self (neighbours g c.args.u) c.in-Some.p c.loop-p.invariant.all
          (next_some c.next.result c.loop-p.p-iterator c.next.new.self c.in-Some.p c.next.ensures.steps c.in-Some.is);
      sum = c.add-sum.ensures ∙ ap₂ sum_of_phases c.loop-p.invariant.sum (c.half_power.ensures ∙ ap half_power c.weight-plane.ensures.value)
          ∙ sym (powers-more (λ p. half_power (kind_of g.vertices p)) (filter near c.loop-p.yielded) c.in-Some.p)
          ∙ ap (half_powers g) (sym more);
    }
