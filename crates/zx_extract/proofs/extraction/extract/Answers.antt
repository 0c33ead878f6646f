-- The frontier begins as the graph.
use Rattle.std.proofs.Common.{◌≡◌, ◌≢◌, ◌≤◌, ℕ, sym, subst, length}
use Rattle.std.specs.Prelude.{IfOk}
use Rattle.zx_calculus.specs.Graph.{XZ, Graph, IsVertex, plane_of}
use Rattle.zx_gates.specs.Circuit.{most_qubits}
use Rattle.zx_extract.specs.Internal.Extracted.{IsCircuitOf}
use Rattle.zx_extract.proofs.Calls.{if_ok}
use Rattle.zx_extract.proofs.extraction.extract.Goals as goal

pub take_apart-requires : goal.take_apart-requires
take_apart-requires c = record {
  flow = c.in_ok-frontier.ensures.flow;
  planes = subst (λ (g : Graph). (v : ℕ) → IsVertex g v → plane_of g v ≢ XZ) (sym c.in_ok-frontier.ensures.graph) c.requires.planes;
  ends = subst (λ (g : Graph). length g.inputs ≡ length g.outputs) (sym c.in_ok-frontier.ensures.graph) c.requires.ends;
  few = subst (λ (g : Graph). length g.outputs ≤ most_qubits) (sym c.in_ok-frontier.ensures.graph) c.requires.few;
  none = c.in_ok-frontier.ensures.gates;
}

pub returns : goal.returns
returns c =
    let made = subst (λ (g : Graph). IfOk c.take_apart.result (λ made. IsCircuitOf g made.gates made.scalar)) c.in_ok-frontier.ensures.graph c.take_apart.ensures in
    record {
      kept = if_ok c.take_apart.result (λ _ m. m.kept) made;
      few_gates = if_ok c.take_apart.result (λ _ m. m.few_gates) made;
    }
