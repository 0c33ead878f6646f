-- The vertices one after the other.
use Rattle.std.proofs.Common.{◌≡◌, ◌∷◌, ◌&&◌, ◌∙◌, sym, ap}
use Rattle.std.specs.List.{list_all}
use Rattle.zx_calculus.specs.Graph.{ids}
use Rattle.open_graph.proofs.Walks.{next_some, next_none, next_there, next_all}
use Rattle.zx_same.specs.Bare.{is_bare_vertex}
use Rattle.zx_same.proofs.bare.are_bare_vertices.Goals as goal

pub is_bare_vertex-requires : goal.is_bare_vertex-requires
is_bare_vertex-requires c =
    next_there c.loop-v.yielded c.loop-v.v-iterator c.next.new.self (ids c.args.g.now.graph.vertices) c.in-Some.v
    c.loop-v.invariant.all
    (next_some c.next.result c.loop-v.v-iterator c.next.new.self c.in-Some.v c.next.ensures.steps c.in-Some.is)

pub returns-then-not-is_bare_vertex : goal.returns-then-not-is_bare_vertex
returns-then-not-is_bare_vertex c =
    let test = is_bare_vertex c.args.g.now.graph in
    let step : c.loop-v.v-iterator ≡ c.in-Some.v ∷ c.next.new.self =
    next_some c.next.result c.loop-v.v-iterator c.next.new.self c.in-Some.v c.next.ensures.steps c.in-Some.is in
    sym (c.loop-v.invariant.rest ∙ ap (list_all test) step
    ∙ ap (λ b. b && list_all test c.next.new.self) (sym c.is_bare_vertex.ensures ∙ c.if-not-is_bare_vertex.true))

pub loop-v-preserved : goal.loop-v-preserved
loop-v-preserved c =
    let test = is_bare_vertex c.args.g.now.graph in
    let step : c.loop-v.v-iterator ≡ c.in-Some.v ∷ c.next.new.self =
    next_some c.next.result c.loop-v.v-iterator c.next.new.self c.in-Some.v c.next.ensures.steps c.in-Some.is in
    record {
      all = next_all c.loop-v.yielded c.loop-v.v-iterator c.next.new.self (ids c.args.g.now.graph.vertices) c.in-Some.v
          c.loop-v.invariant.all step;
      rest = c.loop-v.invariant.rest ∙ ap (list_all test) step
          ∙ ap (λ b. b && list_all test c.next.new.self) (sym c.is_bare_vertex.ensures ∙ c.if-not-is_bare_vertex.false);
    }

pub returns : goal.returns
returns c =
    sym (c.loop-v.invariant.rest ∙ ap (list_all (is_bare_vertex c.args.g.now.graph))
    (next_none c.next.result c.loop-v.v-iterator c.next.new.self c.next.ensures.steps c.in-None.is))
