-- Each step shortens the list, and at the end all that is left is kept.
use Rattle.std.proofs.Common.{ℕ, ◌≤◌, List, length, refl, sym, ap, ◌∙◌, subst, arith}
use Rattle.zx_gates.specs.declared.gate.Gate.{Gate}
use Rattle.zx_gates.specs.Circuit.{Circuit, gate_limit}
use Rattle.zx_model.specs.Scalar.{IsScaled, IsWithin}
use Rattle.zx_model.proofs.Scalars.{scaled_refl}
use Rattle.zx_model.specs.declared.scalar.Scalar.{Scalar}
use Rattle.zx_gates.specs.Maps.{amp}
use Rattle.zx_peephole.specs.Tidy.{IsTidy}
use Rattle.zx_peephole.specs.Internal.Chains.{all_left}
use Rattle.zx_peephole.specs.Internal.Changes.{Shortens}
use Rattle.zx_peephole.proofs.TidyLemmas.{tidy-none}
use Rattle.zx_peephole.proofs.ChangeLemmas.{shortens-refl, shortens-trans, shortens_scaled}
use Rattle.zx_peephole.proofs.AdvanceLemmas.{kept_none, left_first, left_last}
use Rattle.zx_peephole.proofs.tidying.tidy.Goals as goal

pub loop-work-init : goal.loop-work-init
loop-work-init c =
    let w = c.begin-work.result in
    let gates = c.begin-work.ensures.gates ∙ ap (λ (d : Circuit). d.gates) c.take.ensures.circuit in
    record {
      sound = c.begin-work.ensures.sound;
      tidy = subst IsTidy (sym (kept_none w c.begin-work.ensures.next)) tidy-none;
      qubits = c.begin-work.ensures.qubits ∙ ap (λ (d : Circuit). d.qubits) c.take.ensures.circuit;
      shortened = subst (λ (xs : List Gate). Shortens c.args.g.now.qubits 0 c.args.g.now.gates xs)
          (sym (left_first w c.begin-work.ensures.next ∙ gates)) (shortens-refl c.args.g.now.qubits c.args.g.now.gates);
    }

pub loop-work-preserved : goal.loop-work-preserved
loop-work-preserved c =
    let a = c.settle-power.ensures.advance in
    let l = c.loop-work.invariant in
    record {
      sound = c.settle-power.ensures.sound;
      tidy = a.tidy l.tidy;
      qubits = a.qubits ∙ l.qubits;
      shortened = shortens-trans c.args.g.now.qubits c.loop-work.power c.settle-power.result c.args.g.now.gates (all_left c.loop-work.work) (all_left c.settle-power.new.work)
          l.shortened
          (subst (λ (n : ℕ). Shortens n c.settle-power.result (all_left c.loop-work.work) (all_left c.settle-power.new.work)) l.qubits a.shortened);
    }

pub returns-then-is_empty-clause-kept : goal.returns-then-is_empty-clause-kept
returns-then-is_empty-clause-kept c = record {
  qubits = refl;
  scaled = subst (λ (s : Scalar). IsScaled c.args.g.now.qubits c.args.g.now.qubits (amp c.args.g.now.gates) s (amp c.args.g.now.gates))
      (sym c.one.ensures) (scaled_refl c.args.g.now.qubits c.args.g.now.qubits (amp c.args.g.now.gates));
  small = subst (IsWithin gate_limit) (sym c.one.ensures) (omega arith);
  odd = omega arith;
}

pub returns-clause-kept : goal.returns-clause-kept
returns-clause-kept c =
    let old = c.args.g.now in
    let l = c.loop-work.invariant in
    let all : length c.loop-work.work.gates.items ≤ c.loop-work.work.next = omega (arith, c.loop-work-test.false, c.len.ensures) in
    let gates = ap (λ (d : Circuit). d.gates) c.from_parts.ensures ∙ c.end.ensures.gates ∙ sym (left_last c.loop-work.work all) in
    let whole = subst (Shortens old.qubits c.loop-work.power old.gates) (sym gates) l.shortened in
    record {
      qubits = ap (λ (d : Circuit). d.qubits) c.from_parts.ensures ∙ c.end.ensures.qubits ∙ l.qubits;
      scaled = subst (λ (s : Scalar). IsScaled old.qubits old.qubits (amp old.gates) s (amp c.from_parts.result.gates)) (sym c.power_of_two.ensures.value)
          (shortens_scaled old.qubits c.loop-work.power old.gates c.from_parts.result.gates whole);
      small = c.power_of_two.ensures.small;
      odd = whole.odd;
    }

pub returns-clause-power : goal.returns-clause-power
returns-clause-power c = record { power = c.loop-work.power; is = c.power_of_two.ensures.value }
