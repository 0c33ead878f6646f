-- Cleanup of what teleporting phases makes.
use Rattle.std.proofs.Common.{map, arith}
use Rattle.zx_model.proofs.Scalars.{scaled_proportional}
use Rattle.zx_gates.specs.Maps.{amp}
use Rattle.graph_rewrites.specs.Steps.{step_named}
use Rattle.zx_teleport.specs.Scalars.{most_teleported_root2}
use Rattle.zx_gates.proofs.Passing.{implements_preserved, product_fits}
use Rattle.zx_optimise.proofs.optimiser.teleported.Goals as goal

pub returns-clause-cleanup : goal.returns-clause-cleanup
returns-clause-cleanup c =
    let read = c.args.read.now in
    let found = c.in_ok-found.found in
    let made = c.in_ok-found.ensures in
    record {
      teleported = found.gates;
      teleports = record {
        qubits = made.kept.qubits;
        skeleton = made.skeleton;
        map = scaled_proportional read.qubits read.qubits (amp read.gates) (amp found.gates.gates) found.scalar made.kept.scaled;
        odd = made.kept.odd;
        reduced = record {
          steps = map step_named found.trace.steps;
          end = found.reduced.graph;
          run = made.run;
          reduced = made.reduced;
          odd = made.odd;
        };
        put_together = made.gates made.run;
      };
      cleanup = record {
        qubits = c.tidy.ensures.kept.qubits;
        map = scaled_proportional found.gates.qubits found.gates.qubits (amp found.gates.gates) (amp c.tidy.new.g.gates) c.tidy.result c.tidy.ensures.kept.scaled;
        tidy = c.tidy.ensures.tidy;
        total = c.tidy.ensures.length;
        odd = c.tidy.ensures.kept.odd;
        two_qubit = c.tidy.ensures.two_qubit;
      };
    }

pub returns-clause-candidate : goal.returns-clause-candidate
returns-clause-candidate c = record {
  kept = implements_preserved c.in_ok-found.ensures.kept c.tidy.ensures.kept c.times-scalar.ensures (omega arith);
  tidy = c.tidy.ensures.tidy;
}

pub times-scalar-requires : goal.times-scalar-requires
times-scalar-requires c =
    product_fits most_teleported_root2 c.in_ok-found.found.scalar c.in_ok-found.ensures.kept.small c.tidy.ensures.kept (omega arith)
