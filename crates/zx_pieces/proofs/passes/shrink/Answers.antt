-- One pass more, and cleanup at the end.
use Rattle.std.proofs.Common.{◌≤◌, ◌<◌, ◌+◌, ◌*◌, ℕ, arith}
use Rattle.zx_gates.specs.Circuit.{gate_limit}
use Rattle.zx_gates.proofs.Passing.{implements_preserved, product_fits}
use Rattle.piece_laws.proofs.Replacements.{no_larger-trans}
use Rattle.zx_pieces.specs.Scaling.{most_root2_of_pass, most_root2_of_passes}
use Rattle.zx_pieces.proofs.Works.{no_larger_by_counts}
use Rattle.zx_pieces.proofs.passes.shrink.Goals as goal

pub times-scalar-requires : goal.times-scalar-requires
times-scalar-requires c =
    let few : c.loop-number.number < 18 = omega (arith, c.loop-number-test.true, c.passes-number-end.ensures) in
    product_fits ((c.loop-number.number + 1) * most_root2_of_pass) c.loop-number.scalar c.loop-number.invariant.kept.small c.in_ok-next.ensures.kept
    (omega (arith, few))

pub loop-number-preserved : goal.loop-number-preserved
loop-number-preserved c = record {
  kept = implements_preserved c.loop-number.invariant.kept c.in_ok-next.ensures.kept c.times-scalar.ensures (once_more c.loop-number.number most_root2_of_pass);
  no_larger = no_larger-trans c.in_ok-next.next.gates.gates c.loop-number.made.gates c.args.circuit.now.gates c.in_ok-next.ensures.no_larger
      c.loop-number.invariant.no_larger;
}
  where
    once_more : (i k : ℕ) → (i + 1) * k + k ≤ (i + 1 + 1) * k
    once_more i k = omega arith

-- after all passes and cleanup
fits : (passes end : ℕ) → passes ≤ end → end ≤ 18 → (passes + 1) * most_root2_of_pass + gate_limit ≤ most_root2_of_passes
fits passes end all few = omega (arith, all, few)

pub times-scalar-requires-2 : goal.times-scalar-requires-2
times-scalar-requires-2 c =
    product_fits ((c.loop-number.number + 1) * most_root2_of_pass) c.loop-number.scalar c.loop-number.invariant.kept.small c.tidy.ensures.kept
    (omega (arith, fits c.loop-number.number _ c.loop-number.auto.number-end c.passes-number-end.ensures))

pub returns-clause-kept : goal.returns-clause-kept
returns-clause-kept c =
    implements_preserved c.loop-number.invariant.kept c.tidy.ensures.kept c.times-scalar-2.ensures
    (fits c.loop-number.number _ c.loop-number.auto.number-end c.passes-number-end.ensures)

pub returns-clause-no_larger : goal.returns-clause-no_larger
returns-clause-no_larger c =
    no_larger-trans c.tidy.new.g.gates c.loop-number.made.gates c.args.circuit.now.gates
    (no_larger_by_counts c.loop-number.made.gates c.tidy.new.g.gates c.tidy.ensures.two_qubit c.tidy.ensures.length) c.loop-number.invariant.no_larger
