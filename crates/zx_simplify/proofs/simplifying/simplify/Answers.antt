-- Scalars, odd phases and widths carry over from one to the next.
use Rattle.std.proofs.Common.{arith, subst}
use Rattle.zx_calculus.specs.Graph.{Graph}
use Rattle.zx_gates.proofs.Passing.{product_fits}
use Rattle.zx_reduce.specs.Scaling.{most_reduced_root2}
use Rattle.zx_simplify.specs.Extracting.{Extracts}
use Rattle.zx_simplify.proofs.Whole.{graph_whole}
use Rattle.zx_simplify.proofs.simplifying.simplify.Goals as goal

pub times-requires : goal.times-requires
times-requires c =
    product_fits most_reduced_root2 c.in_ok-made.made.scalar c.in_ok-made.ensures.small c.in_ok-circuit.ensures.kept (omega arith)

pub returns : goal.returns
returns c =
    let circuit = c.in_ok-circuit.circuit in
    graph_whole _ _ _ _ _ _ _ _ c.requires.ends c.in_ok-made.ensures
    (subst (λ (h : Graph). Extracts h circuit.gates circuit.scalar) c.in_ok-copy.ensures.ok c.in_ok-circuit.ensures) c.times.ensures
