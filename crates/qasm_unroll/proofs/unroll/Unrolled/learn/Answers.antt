use Rattle.std.proofs.Common.{◌<◌, IfSome, arith, length, refl, rules, subst}
use Rattle.qasm_unroll.specs.Internal.KeptCalls.{Numbered, Unrolls}
use Rattle.qasm_unroll.specs.Internal.KnownCalls.{IsExpansion}
use Rattle.qasm_unroll.proofs.KnownLemmas.{known-push, known-set}
use Rattle.qasm_unroll.proofs.unroll.Unrolled.learn.Goals as goal

pub loop-number-preserved : goal.loop-number-preserved
loop-number-preserved c =
    let within : c.loop-number._number < length c.args.gates.now = omega (arith, c.loop-number-test.true, c.needed-number-end.ensures) in
    record {
      so_many = search rules;
      known = λ numbered known.
          known-push numbered (length c.args.gates.now) c.loop-number._number c.loop-number.self.known.items c.push.new.self.items c.in_ok-push.ensures.items c.loop-number.invariant.so_many
          within (c.loop-number.invariant.known numbered known);
      others = search rules;
    }

pub returns-in_default : goal.returns-in_default
returns-in_default c = record { known = λ numbered unrolls known. c.loop-number.invariant.known numbered known; others = c.loop-number.invariant.others }

pub returns-in_ok-expansion-clause-known : goal.returns-in_ok-expansion-clause-known
returns-in_ok-expansion-clause-known c = λ numbered unrolls known.
    known-set numbered (length c.args.gates.now) c.in-Gate.number c.loop-number.self.known.items _ c.new.result refl
    (λ kept e. subst (λ found. IfSome found (λ one. (numbered : Numbered) → Unrolls c.args.gates.now numbered → IsExpansion numbered c.in-Gate.number one)) (c.new.ensures kept e) c.in_ok-expansion.ensures numbered unrolls) (c.loop-number.invariant.known numbered known)

pub returns-else-number-len-clause-known : goal.returns-else-number-len-clause-known
returns-else-number-len-clause-known c = λ numbered unrolls known. c.loop-number.invariant.known numbered known
