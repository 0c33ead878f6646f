-- The diagram, its graph-like form and the circuit: what each step keeps carries over to the next.
use Rattle.std.proofs.Common.{◌≢◌, [], ◌≤◌, sym, ◌∙◌, length, subst}
use Rattle.zx_model.specs.Proportional.{Proportional}
use Rattle.zx_model.proofs.ProportionalLemmas.{proportional_trans}
use Rattle.zx_model.proofs.Scalars.{scaled_proportional}
use Rattle.zx_calculus.specs.Sum.{graph_sum}
use Rattle.zx_calculus.specs.Counts.{odd_phases}
use Rattle.zx_diagram.specs.Sum.{diagram_sum}
use Rattle.flow_find.specs.Stuck.{IsLargestStuck}
use Rattle.flow_find.specs.Found.{IfNoFlow}
use Rattle.zx_gates.specs.Circuit.{most_qubits}
use Rattle.zx_gates.specs.Maps.{amp}
use Rattle.zx_extract.specs.Simplified.{gate_bound}
use Rattle.zx_simplify.proofs.Forms.{form_inputs, form_outputs, stuck_without_flow}
use Rattle.zx_simplify.proofs.compiling.compile.Goals as goal

pub simplify_graph-requires-clause-ends : goal.simplify_graph-requires-clause-ends
simplify_graph-requires-clause-ends c =
    let form = c.in_ok-graph.ensures.form in
    let g = c.in_ok-graph.graph.graph in
    form_inputs c.args.d g form ∙ c.requires.square ∙ sym (form_outputs c.args.d g form)

pub simplify_graph-requires-clause-few : goal.simplify_graph-requires-clause-few
simplify_graph-requires-clause-few c =
    let high = form_outputs c.args.d c.in_ok-graph.graph.graph c.in_ok-graph.ensures.form in
    subst (λ n. n ≤ most_qubits) (c.requires.square ∙ sym high) c.requires.few

pub returns-in_ok-simplified-in-Flow-clause-qubits : goal.returns-in_ok-simplified-in-Flow-clause-qubits
returns-in_ok-simplified-in-Flow-clause-qubits c =
    c.in_ok-simplified-in-Flow.ensures.simplifies.kept.qubits ∙ form_outputs c.args.d c.in_ok-graph.graph.graph c.in_ok-graph.ensures.form ∙ sym c.requires.square

pub returns-in_ok-simplified-in-Flow-clause-map : goal.returns-in_ok-simplified-in-Flow-clause-map
returns-in_ok-simplified-in-Flow-clause-map c =
    let d = c.args.d in
    let g = c.in_ok-graph.graph.graph in
    let made = c.in_ok-simplified-in-Flow.simplified in
    let gates = made.gates.gates in
    let n = length d.inputs in
    let high = length g.outputs in
    let square = sym c.requires.square in
    proportional_trans n n (diagram_sum d) (graph_sum g) (amp gates)
    (subst (λ k. Proportional n k (diagram_sum d) (graph_sum g)) square c.in_ok-graph.ensures.map)
    (subst (λ k. Proportional k k (graph_sum g) (amp gates)) (form_outputs d g c.in_ok-graph.ensures.form ∙ square)
    (scaled_proportional high high (graph_sum g) (amp gates) made.scalar c.in_ok-simplified-in-Flow.ensures.simplifies.kept.scaled))

pub returns-in_ok-simplified-in-Flow-clause-few_gates : goal.returns-in_ok-simplified-in-Flow-clause-few_gates
returns-in_ok-simplified-in-Flow-clause-few_gates c =
    let d = c.args.d in
    let g = c.in_ok-graph.graph.graph in
    let form = c.in_ok-graph.ensures.form in
    let gates = c.in_ok-simplified-in-Flow.simplified.gates.gates in (
      g,
      form,
      subst (λ n. length gates ≤ gate_bound n (odd_phases g)) (form_outputs d g form ∙ sym c.requires.square)
          c.in_ok-simplified-in-Flow.ensures.simplifies.few_gates,
    )

pub returns-in-NoFlow-clause-no_flow : goal.returns-in-NoFlow-clause-no_flow
returns-in-NoFlow-clause-no_flow c =
    let g = c.in_ok-graph.graph.graph in
    let stuck = subst (λ found. IfNoFlow found (λ left. IsLargestStuck g left.items)) c.in-NoFlow.is c.in_ok-table.ensures.stuck in
    let some = subst (λ found. IfNoFlow found (λ left. left.items ≢ [])) c.in-NoFlow.is c.in_ok-table.ensures.some in
    (g, c.in_ok-graph.ensures.form, stuck_without_flow g c.in-NoFlow.left.items stuck some)
