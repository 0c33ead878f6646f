-- What moves keep, and that a graph with a flow in which no move is left is reduced.
use Rattle.std.proofs.Common.{ℕ, List}
use Rattle.zx_calculus.specs.Graph.{Graph, WellFormed}
use Rattle.zx_calculus.specs.Reduced.{IsReduced}
use Rattle.zx_calculus.specs.Moves.{IsStuck}
use Rattle.zx_calculus.proofs.ReducedLemmas as calculus
use Rattle.gflow_laws.specs.Flow.{Correction, IsFlow}
use Rattle.zx_calculus.specs.Steps as steps
use Rattle.gflow_laws.specs.Kept.{IsKept}
use Rattle.gflow_laws.proofs.Seeing.{has_neighbour}
use Rattle.gflow_laws.proofs.Steps.{run_keeps}
use Rattle.zx_moves.specs.Moving.{AreMoves}
use Rattle.zx_moves.proofs.MoveRuns.{AreMoves-run}

pub AreMoves-kept : (g : Graph) (n : ℕ) (run : List steps.Step) (h : Graph) (table : List Correction) → WellFormed g
    → IsFlow g table → AreMoves g n run h → IsKept g h
AreMoves-kept g n run h table w flow a = run_keeps g run h table w (AreMoves-run g n run h a) flow

pub stuck-reduced : (g : Graph) (table : List Correction) → WellFormed g → IsFlow g table → IsStuck g → IsReduced g
stuck-reduced g table w flow stuck =
    calculus.stuck_reduced g w stuck
    (λ u there inside plane. let near = has_neighbour g table u flow there inside.no_output plane in (near.0, near.2))
