-- The step that the moved output and the removed vertex are.
use Rattle.std.proofs.Common.{◌∙◌, ap, set}
use Rattle.std.specs.Prelude.{slice_get}
use Rattle.std.proofs.lemmas.Result.{on_ok_weaker}
use Rattle.zx_calculus.specs.Graph.{plain}
use Rattle.zx_extract.specs.Internal.Frontiers.{remainder_of}
use Rattle.zx_extract.proofs.VertexCalls.{IsNext, next_of, next_live, next_XY, next_no_output, here_no_input, advance_set, advanced_step}
use Rattle.zx_extract.proofs.frontier.Frontier.advance.Goals as goal
use Rattle.zx_extract.proofs.frontier.Frontier.advance.Goals.{After-present-here}

next : (c : After-present-here) →
    IsNext c.in_ok-gather_sets.ensures.whole (remainder_of c.gather_sets.new.self) c.args.v c.args.q c.present-here.result
next c = next_of c.in_ok-gather_sets.ensures c.requires.last c.requires.plane c.present-here.ensures

pub move_output-requires : goal.move_output-requires
move_output-requires c =
    let n = next (goal.at.move_output-requires c).After-present-here in
    record {
      output = ap (λ i. slice_get c.gather_sets.new.self.graph.graph.outputs i) c.from.ensures ∙ c.present-here.ensures;
      live = next_live n;
      plane = next_XY n;
      no_output = next_no_output n;
      no_input = here_no_input n;
    }

pub advance-requires : goal.advance-requires
advance-requires c = advance_set (next (goal.at.advance-requires c).After-present-here)

pub returns : goal.returns
returns c =
    let g = c.gather_sets.new.self.graph.graph in
    on_ok_weaker c.write.result (λ written. (
      c.in_ok-gather_sets.ensures.whole,
      c.in_ok-gather_sets.ensures.gathered,
      advanced_step (next (goal.at.returns c).After-present-here)
          (ap (λ i. record g { outputs = set g.outputs i (plain c.args.v) }) c.from.ensures)
          c.in_ok-move_output.ensures c.advance.ensures written,
    )) c.write.ensures
