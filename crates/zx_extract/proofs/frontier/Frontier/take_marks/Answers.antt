-- One more mark.
use Rattle.std.proofs.Common.{◌≡◌, ◌<◌, sym, subst, length, arith}
use Rattle.zx_calculus.proofs.Ids.{by_equal}
use Rattle.zx_extract.specs.Internal.Frontiers.{remainder_of}
use Rattle.zx_extract.specs.Internal.Lists.{IsPlainAt}
use Rattle.zx_extract.proofs.Leads.{leads_nothing, leads_then}
use Rattle.zx_extract.proofs.Places.{all_plain}
use Rattle.zx_extract.proofs.frontier.Frontier.take_marks.Goals as goal

pub loop-q-init : goal.loop-q-init
loop-q-init c = record {
  leads = leads_nothing (remainder_of c.args.self.now);
  given = record {
    well_formed = c.qubits-qubits.ensures.valid;
    flow = c.requires.flow;
    planes = c.requires.planes;
    few = c.requires.few;
  };
  plain = λ p within. absurd (omega arith);
}

pub loop-q-preserved : goal.loop-q-preserved
loop-q-preserved c = record {
  leads = leads_then (remainder_of c.args.self.now) c.loop-q.q 0 0 (remainder_of c.loop-q.self) 1 0 0
      (remainder_of c.take_mark.new.self) c.loop-q.invariant.leads c.in_ok-take_mark.ensures.leads;
  given = c.in_ok-take_mark.ensures.given;
  plain = λ p within. by_equal p c.loop-q.q
      (λ _ e. subst (IsPlainAt c.take_mark.new.self.graph.graph.outputs) (sym e) c.in_ok-take_mark.ensures.plain)
      (λ _ n. let below : p < c.loop-q.q = omega arith in
      c.in_ok-take_mark.ensures.others p (c.loop-q.invariant.plain p below));
}

pub returns-clause-ready : goal.returns-clause-ready
returns-clause-ready c = record {
  given = c.loop-q.invariant.given;
  plain = all_plain c.loop-q.self.graph.graph.outputs (λ p within.
      let as_many : length c.loop-q.self.graph.graph.outputs ≡ length c.args.self.now.graph.graph.outputs =
      c.loop-q.invariant.leads.outputs in
      let below : p < c.loop-q.q = omega arith in c.loop-q.invariant.plain p below);
}
