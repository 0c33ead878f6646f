-- The vertex and the neighbours so far, where they are negated.
use Rattle.std.proofs.Common.{◌≡◌, ℕ, ◌&&◌, ◌++◌, eqb}
use Rattle.zx_model.specs.Bits.{xor, member}
use Rattle.zx_calculus.specs.Graph.{neighbours}
use Rattle.graph_rewrites.specs.Steps.{step_named}
use Rattle.teleport_laws.specs.Shifts.{negates}
use Rattle.phase_groups.specs.Internal.Noting.{stands_odd}
use Rattle.phase_groups.proofs.notes.negated_near.Given as goal

abbrev pub invariant-loop-v : goal.invariant-loop-v
invariant-loop-v l = record {
  all : l.yielded ++ l.v-iterator ≡ neighbours l.fn.graph.graph l.fn.u;
  so_far : (w : ℕ) → stands_odd l.found.items w ≡
      xor (eqb w l.fn.u && negates l.fn.graph.graph (step_named l.fn.step) l.fn.u)
      (member w l.yielded && negates l.fn.graph.graph (step_named l.fn.step) w);
}
