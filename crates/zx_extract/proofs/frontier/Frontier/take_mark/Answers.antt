-- The step that the moved output is.
use Rattle.std.proofs.Common.{◌≡◌, ◌∙◌, sym, ap, ap₂, set, remove, arith}
use Rattle.std.specs.Prelude.{slice_get}
use Rattle.zx_model.specs.Bits.{member}
use Rattle.zx_calculus.specs.Graph.{End, ids, plane_of, end_vertices, plain}
use Rattle.zx_calculus.proofs.Ids.{not-true}
use Rattle.circuit_laws.proofs.Places.{output_there, output_plane}
use Rattle.zx_extract.specs.Internal.Frontiers.{remainder_of}
use Rattle.zx_extract.proofs.Leads.{leads_nothing, leads_within}
use Rattle.zx_extract.proofs.Places.{once_removed}
use Rattle.zx_extract.proofs.Calls.{IsUnmarked, unmarked, plain_here}
use Rattle.zx_extract.proofs.frontier.Frontier.take_mark.Goals as goal
use Rattle.zx_extract.proofs.frontier.Frontier.take_mark.Goals.{After-plain}
use Rattle.std.proofs.lemmas.Result.{on_ok_weaker}
use Rattle.std.proofs.lemmas.Bool.{not-false}

pub returns-then-not-output-clause-leads : goal.returns-then-not-output-clause-leads
returns-then-not-output-clause-leads c =
    let s = remainder_of c.args.self.now in leads_within s 0 0 0 1 s (omega arith) (leads_nothing s)

pub returns-then-not-output-clause-plain : goal.returns-then-not-output-clause-plain
returns-then-not-output-clause-plain c =
    plain_here c.args.self.now.graph.graph.outputs c.args.q c.output-output.result c.output-output.ensures
    (ap (λ (e : End). e.hadamard) (sym c.output.view_is) ∙ not-true c.output.inside.hadamard c.if-not-output.true)

-- the plain end at the vertex of the output
end_is : (c : After-plain) → c.plain.result ≡ plain c.output-output.result.vertex
end_is c = c.plain.ensures ∙ ap (λ (e : End). plain e.vertex) c.output.view_is

pub set_output-requires-clause-same : goal.set_output-requires-clause-same
set_output-requires-clause-same c = (
  c.output-output.result,
  ap (slice_get c.args.self.now.graph.graph.outputs) c.from.ensures ∙ c.output-output.ensures,
  sym (ap (λ (e : End). e.vertex) (end_is (goal.at.set_output-requires-clause-same c).After-plain)),
)

pub set_output-requires-clause-live : goal.set_output-requires-clause-live
set_output-requires-clause-live c =
    let g = c.args.self.now.graph.graph in
    ap (λ (e : End). member e.vertex (ids g.vertices)) (end_is (goal.at.set_output-requires-clause-live c).After-plain)
    ∙ output_there g c.args.q c.output-output.result c.requires.given.well_formed c.output-output.ensures

pub set_output-requires-clause-plane : goal.set_output-requires-clause-plane
set_output-requires-clause-plane c =
    let g = c.args.self.now.graph.graph in
    ap (λ (e : End). plane_of g e.vertex) (end_is (goal.at.set_output-requires-clause-plane c).After-plain)
    ∙ output_plane g c.args.q c.output-output.result c.requires.given.well_formed c.output-output.ensures

pub set_output-requires-clause-free : goal.set_output-requires-clause-free
set_output-requires-clause-free c =
    let es = c.args.self.now.graph.graph.outputs in
    ap₂ (λ (e : End) i. member e.vertex (end_vertices (remove es i)))
    (end_is (goal.at.set_output-requires-clause-free c).After-plain) c.from.ensures
    ∙ once_removed es c.args.q c.output-output.result c.requires.given.well_formed.outputs.one_each
    c.output-output.ensures

pub returns : goal.returns
returns c =
    let g = c.args.self.now.graph.graph in
    let had = ap (λ (e : End). e.hadamard) (sym c.output.view_is) ∙ not-false c.output.inside.hadamard c.if-not-output.false in
    let moved = c.set_output.ensures.ok ∙ ap₂ (λ i e. record g { outputs = set g.outputs i e }) c.from.ensures
    (end_is (goal.at.returns c).After-plain) in
    let step = on_ok_weaker c.write.result (unmarked c.requires.given c.output-output.ensures had moved) c.write.ensures in
    record {
      leads = on_ok_weaker c.write.result (λ (t : IsUnmarked _ _ _). t.leads) step;
      given = on_ok_weaker c.write.result (λ (t : IsUnmarked _ _ _). t.given) step;
      plain = on_ok_weaker c.write.result (λ (t : IsUnmarked _ _ _). t.plain) step;
      others = on_ok_weaker c.write.result (λ (t : IsUnmarked _ _ _). t.others) step;
    }
