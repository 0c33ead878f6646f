-- The output at the next vertex.
use Rattle.std.proofs.Common.{◌≡◌, ◌∙◌, ℕ, false, ne_eqb, set, ap, subst, sym}
use Rattle.std.proofs.lemmas.Result.{on_ok_weaker}
use Rattle.zx_model.specs.Bits.{member}
use Rattle.zx_calculus.specs.Graph.{XY, Graph, ids, kind_of, plane_of, end_vertices, IsVertex, plain}
use Rattle.zx_calculus.specs.Edits.{IsRemoval}
use Rattle.circuit_laws.specs.Peeling.{HasPlainOutput}
use Rattle.zx_extract.specs.Internal.FrontGraphs.{FrontGraph, front_graph}
use Rattle.zx_extract.proofs.Fronts.{met_in_range, met_free, moved_is, here_live, here_interior, advanced_on}
use Rattle.zx_extract.proofs.front_graph.FrontGraph.move_output.Goals as goal

-- what is asked for of the view holds of the graph
live_in : {f g : FrontGraph} (v : ℕ) → f ≡ g → IsVertex g.graph v → IsVertex f.graph v
live_in v is = subst (λ (f : FrontGraph). IsVertex f.graph v) (sym is)

output_in : {f g : FrontGraph} (t u : ℕ) → f ≡ g → HasPlainOutput g.graph t u → HasPlainOutput f.graph t u
output_in t u is = subst (λ (f : FrontGraph). HasPlainOutput f.graph t u) (sym is)

none_in : {f g : FrontGraph} (v : ℕ) → f ≡ g → member v (end_vertices g.graph.outputs) ≡ false → member v (end_vertices f.graph.outputs) ≡ false
none_in v is = subst (λ (f : FrontGraph). member v (end_vertices f.graph.outputs) ≡ false) (sym is)

pub inner_row-requires : goal.inner_row-requires
inner_row-requires c = live_in c.args.v c.self.view_is c.requires.live

pub meet_outputs-requires : goal.meet_outputs-requires
meet_outputs-requires c = record {
  live = live_in c.args.v c.self.view_is c.requires.live;
  no_output = none_in c.args.v c.self.view_is c.requires.no_output;
}

pub move_output-requires : goal.move_output-requires
move_output-requires c =
    let at = output_in c.args.t c.args.u c.self.view_is c.requires.output in
    let out = none_in c.args.v c.self.view_is c.requires.no_output in
    record {
      in_range = met_in_range c.args.t c.self.invariant at out c.in_ok-meet_outputs.ensures.met;
      live = rw c.plain.ensures (ap (λ vs. member c.args.v (ids vs)) c.in_ok-meet_outputs.ensures.met.vertices
          ∙ live_in c.args.v c.self.view_is c.requires.live);
      plane = rw c.plain.ensures (ap (λ vs. (kind_of vs c.args.v).plane) c.in_ok-meet_outputs.ensures.met.vertices
          ∙ subst (λ (f : FrontGraph). plane_of f.graph c.args.v ≡ XY) (sym c.self.view_is) c.requires.plane);
      free = met_free c.args.t c.self.invariant at out c.in_ok-meet_outputs.ensures.met c.plain.ensures;
    }

pub remove_vertex-requires : goal.remove_vertex-requires
remove_vertex-requires c =
    let at = output_in c.args.t c.args.u c.self.view_is c.requires.output in
    let out = none_in c.args.v c.self.view_is c.requires.no_output in
    record {
      live = here_live c.args.t c.self.invariant at out c.in_ok-meet_outputs.ensures.met c.move_output.ensures.ok c.plain.ensures;
      interior = here_interior c.args.t c.self.invariant at out c.in_ok-meet_outputs.ensures.met c.move_output.ensures.ok
          c.plain.ensures (subst (λ (f : FrontGraph). member c.args.u (end_vertices f.graph.inputs) ≡ false)
          (sym c.self.view_is) c.requires.no_input);
    }

pub returns : goal.returns
returns c =
    let g = c.self.inside.inner.graph in
    let rows = c.self.inside.rows.lists in
    let met = c.meet_outputs.new.g.graph in
    let at = output_in c.args.t c.args.u c.self.view_is c.requires.output in
    let out = none_in c.args.v c.self.view_is c.requires.no_output in
    let live = live_in c.args.v c.self.view_is c.requires.live in
    on_ok_weaker c.forget.result (λ forgotten.
    subst (λ (f : FrontGraph). IsRemoval (record f.graph { outputs = set f.graph.outputs c.args.t (plain c.args.v) }) c.args.u
    (front_graph c.remove_vertex.new.self.graph c.forget.new.rows.lists)) c.self.view_is
    (advanced_on g met c.remove_vertex.new.self.graph rows c.forget.new.rows.lists c.args.t c.args.u c.args.v c.in_ok-row.row.ids
    c.self.invariant c.remove_vertex.ensures.valid at live out c.in_ok-meet_outputs.ensures.met
    (subst (λ (h : Graph). IsRemoval h c.args.u c.remove_vertex.new.self.graph)
    (moved_is c.args.t c.self.invariant at out c.in_ok-meet_outputs.ensures.met c.move_output.ensures.ok c.plain.ensures)
    c.remove_vertex.ensures.ok)
    c.in_ok-row.ensures
    (λ w n. forgotten c.args.v w n ∙ c.in_ok-put_row.ensures.own w)
    (λ p q pu pv qv. forgotten p q qv ∙ c.in_ok-put_row.ensures.others p q pv
    ∙ ap (member q) (c.clear.ensures.others p (ne_eqb p c.args.u pu))))) c.forget.ensures
