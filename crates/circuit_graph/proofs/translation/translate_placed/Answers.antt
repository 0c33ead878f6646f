-- The flow is the table of the wires.
use Rattle.std.proofs.Common.{List, sym, subst}
use Rattle.gflow_laws.specs.Flow.{Correction}
use Rattle.circuit_graph.specs.Translation.{IsTranslation}
use Rattle.circuit_graph.proofs.translation.translate_placed.Goals as goal

pub returns-clause-translation : goal.returns-clause-translation
returns-clause-translation c =
    let circuit = c.args.circuit.now in
    let made = c.in_ok-made.made in
    subst (λ (f : List Correction). IsTranslation circuit made.graph.graph f) (sym c.in_ok-flow.ensures)
    c.in_ok-made.ensures.translates
