-- No move is left, so the graph is reduced.
use Rattle.std.proofs.Common.{sym, ◌∙◌, ap, subst}
use Rattle.zx_calculus.specs.Graph.{WellFormed}
use Rattle.zx_calculus.specs.Moves.{IsStuck}
use Rattle.zx_moves.proofs.MoveEnds.{stuck-reduced}
use Rattle.zx_reduce.specs.Internal.Progress.{Progress, IsSmall}
use Rattle.zx_reduce.proofs.progress.Progress.finish.Goals as goal

pub returns : goal.returns
returns c =
    let graph = c.in_ok-graph.ensures.graph ∙ ap (λ (p : Progress). p.ordered.graph) c.self.view_is in
    let formed = subst WellFormed (sym graph) c.requires.ordered.well_formed in
    record {
      graph = graph;
      reduced = stuck-reduced c.in_ok-graph.graph.graph c.in_ok-graph.flow.flow formed c.in_ok-graph.ensures.flow (subst IsStuck (sym graph) c.requires.stuck);
      well_formed = formed;
      flow = c.in_ok-graph.ensures.flow;
      kept = ap (λ (p : Progress). p.trace) c.self.view_is;
      scalar = ap (λ (p : Progress). p.scalar) c.self.view_is;
      small = subst (λ n. IsSmall n c.self.inside.scalar) (ap (λ (p : Progress). p.steps) c.self.view_is) c.self.invariant;
    }
