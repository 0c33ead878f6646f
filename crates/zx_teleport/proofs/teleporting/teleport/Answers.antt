-- The scalar of the steps from the first graph over that of the steps from the new one.
use Rattle.std.proofs.Common.{refl, sym, subst}
use Rattle.zx_model.specs.Scalar.{IsScaled, IsWithin, quotient_of_scalars}
use Rattle.zx_gates.specs.Maps.{amp}
use Rattle.circuit_graph.specs.Translation.{translated}
use Rattle.zx_teleport.specs.Scalars.{most_teleported_root2}
use Rattle.zx_teleport.proofs.Results.{put_seen, may_run, scalar_kept}
use Rattle.zx_teleport.proofs.Scaling.{few_seen, quotient_small, quotient_fits}
use Rattle.zx_teleport.proofs.teleporting.teleport.Goals as goal

pub scalar_of-requires-clause-run : goal.scalar_of-requires-clause-run
scalar_of-requires-clause-run c =
    let found = c.in_ok-found.found in
    let is = c.in_ok-found.ensures.teleported in
    let put = put_seen c.args.read.now found.trace.steps c.as_slice.result.now found.reduced.graph found.gates.gates c.as_slice.ensures is.gates in
    may_run c.args.read.now (translated c.args.read.now) found.trace.steps c.as_slice.result.now found.reduced.graph found.gates.gates
    refl c.as_slice.ensures is.run put c.in_ok-found.ensures.circuit found.gates is.qubits refl

pub scalar_of-requires-clause-few : goal.scalar_of-requires-clause-few
scalar_of-requires-clause-few c =
    few_seen c.in_ok-found.found.trace.steps c.as_slice.result.now c.as_slice.ensures c.in_ok-found.ensures.few_steps

pub over-requires : goal.over-requires
over-requires c =
    quotient_fits (quotient_of_scalars c.in_ok-found.found.before c.in_ok-after.after)
    (quotient_small c.in_ok-found.found.trace.steps c.as_slice.result.now c.in_ok-found.found.before c.in_ok-after.after
    c.as_slice.ensures c.in_ok-found.ensures.few_steps c.in_ok-found.ensures.small c.in_ok-after.ensures.small)

pub returns-clause-kept : goal.returns-clause-kept
returns-clause-kept c =
    let read = c.args.read.now in
    let found = c.in_ok-found.found in
    let is = c.in_ok-found.ensures.teleported in
    let put = put_seen read found.trace.steps c.as_slice.result.now found.reduced.graph found.gates.gates c.as_slice.ensures is.gates in
    record {
      qubits = is.qubits;
      scaled = subst (λ s. IsScaled read.qubits read.qubits (amp read.gates) s (amp found.gates.gates)) (sym c.over.ensures)
          (scalar_kept read (translated read) found.trace.steps c.as_slice.result.now found.reduced.graph found.gates.gates
          refl c.as_slice.ensures is.run put c.in_ok-found.ensures.circuit found.gates is.qubits refl
          found.before c.in_ok-after.after c.in_ok-after.ensures.turn c.in_ok-found.ensures.before c.in_ok-after.ensures.scalar);
      small = subst (IsWithin most_teleported_root2) (sym c.over.ensures)
          (quotient_small found.trace.steps c.as_slice.result.now found.before c.in_ok-after.after
          c.as_slice.ensures c.in_ok-found.ensures.few_steps c.in_ok-found.ensures.small c.in_ok-after.ensures.small);
      odd = is.fewer;
    }
