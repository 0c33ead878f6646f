-- One more output in place.
use Rattle.std.proofs.Common.{◌≡◌, ◌∙◌, ◌<◌, ◌+◌, refl, sym, ap, subst, length, get_or, arith}
use Rattle.std.specs.List.{swap}
use Rattle.std.proofs.lemmas.Option.{slice_get-get_or}
use Rattle.zx_extract.specs.Internal.Leading.{Remainder}
use Rattle.zx_extract.proofs.Leads.{leads_within}
use Rattle.std.specs.Prelude.{slice_get}
use Rattle.zx_model.specs.Bits.{member}
use Rattle.zx_calculus.specs.Graph.{end_vertices}
use Rattle.zx_calculus.proofs.ReducedLemmas.{length-places}
use Rattle.zx_extract.specs.Internal.Frontiers.{remainder_of}
use Rattle.zx_extract.specs.Internal.Steps.{IsUncrossed}
use Rattle.zx_extract.proofs.Places.{read_at}
use Rattle.zx_extract.proofs.Exchanges.{uncrossed_nothing, next_there, uncrossed_stays, uncrossed_swap, uncrossed_leads, line_formed, slice_get_below}
use Rattle.zx_extract.proofs.frontier.Frontier.uncross.Goals as goal

pub loop-q-init : goal.loop-q-init
loop-q-init c = record {
  uncrossed = subst (λ us. IsUncrossed (remainder_of c.args.self.now) 0 us (remainder_of c.args.self.now).gates)
      (sym (c.in_ok-outputs.ensures ∙ ap end_vertices c.outputs.ensures.value))
      (uncrossed_nothing (remainder_of c.args.self.now) c.requires.ready c.requires.frontier c.requires.all
      c.requires.ends);
  graph = refl;
}

pub index-requires : goal.index-requires
index-requires c = omega (
  arith,
  c.in_ok-inputs.inputs.ok.0,
  ap length (c.in_ok-inputs.ensures
      ∙ ap end_vertices c.inputs.ensures.value),
  length-places c.args.self.now.graph.graph.inputs,
  c.requires.ends,
)

pub place_of-place-requires : goal.place_of-place-requires
place_of-place-requires c =
    ap (member c.index.result.now) c.deref.ensures.value
    ∙ next_there (remainder_of c.args.self.now) c.requires.ready c.requires.frontier c.requires.all c.requires.ends
    c.loop-q.q c.loop-q.outputs.items (remainder_of c.loop-q.self).gates c.index.result.now c.loop-q.invariant.uncrossed
    (read_at (end_vertices c.args.self.now.graph.graph.inputs)
    c.in_ok-inputs.inputs.items c.loop-q.q c.from.result c.index.result.now (c.in_ok-inputs.ensures
    ∙ ap end_vertices c.inputs.ensures.value) c.from.ensures
    (omega (arith, length-places c.args.self.now.graph.graph.inputs, c.requires.ends)) c.index.ensures)

pub loop-q-preserved-then-place-from : goal.loop-q-preserved-then-place-from
loop-q-preserved-then-place-from c = record {
  uncrossed = uncrossed_stays (remainder_of c.args.self.now)
      c.requires.ready c.requires.frontier c.requires.all c.requires.ends c.loop-q.q c.loop-q.outputs.items
      (remainder_of c.loop-q.self).gates c.index.result.now c.loop-q.invariant.uncrossed
      (ap (slice_get c.loop-q.outputs.items) (sym (c.if-place-from.true ∙ c.from-in-loop-q.ensures))
      ∙ ap (λ us. slice_get us c.place_of-place.result) (sym c.deref.ensures.value) ∙ c.place_of-place.ensures)
      (read_at (end_vertices c.args.self.now.graph.graph.inputs)
      c.in_ok-inputs.inputs.items c.loop-q.q c.from.result c.index.result.now (c.in_ok-inputs.ensures
      ∙ ap end_vertices c.inputs.ensures.value) c.from.ensures
      (omega (arith, length-places c.args.self.now.graph.graph.inputs, c.requires.ends)) c.index.ensures);
  graph = c.loop-q.invariant.graph;
}

pub overflow_cast-place : goal.overflow_cast-place
overflow_cast-place c =
    let below : c.place_of-place.result < length c.loop-q.outputs.items =
    slice_get_below c.loop-q.outputs.items c.place_of-place.result c.index.result.now
    (ap (λ us. slice_get us c.place_of-place.result) (sym c.deref.ensures.value) ∙ c.place_of-place.ensures) in
    record { fits = omega (arith, c.loop-q.invariant.uncrossed.as_many, c.requires.ready.given.few) }

pub swap-requires-clause-j_in_bounds : goal.swap-requires-clause-j_in_bounds
swap-requires-clause-j_in_bounds c =
    let below : c.place_of-place.result < length c.loop-q.outputs.items =
    slice_get_below c.loop-q.outputs.items c.place_of-place.result c.index.result.now
    (ap (λ us. slice_get us c.place_of-place.result) (sym c.deref.ensures.value) ∙ c.place_of-place.ensures) in
    omega (arith, c.loop-q.outputs.ok.0)

pub loop-q-preserved : goal.loop-q-preserved
loop-q-preserved c =
    let within : c.loop-q.q < length c.loop-q.outputs.items = omega (arith, c.loop-q.invariant.uncrossed.as_many) in
    record {
      uncrossed = subst (λ us. IsUncrossed (remainder_of c.args.self.now) (c.loop-q.q + 1) us
          (remainder_of c.write_exchange.new.self).gates)
          (sym (c.swap.ensures.items ∙ ap (λ i. swap c.loop-q.outputs.items i c.place_of-place.result)
          c.from-in-loop-q-2.ensures))
          (subst (IsUncrossed (remainder_of c.args.self.now) (c.loop-q.q + 1)
          (swap c.loop-q.outputs.items c.loop-q.q c.place_of-place.result))
          (sym (ap (λ (s : Remainder). s.gates) c.in_ok-write_exchange.ensures))
          (uncrossed_swap (remainder_of c.args.self.now) c.requires.ready c.requires.frontier c.requires.all
          c.requires.ends c.loop-q.q c.place_of-place.result c.loop-q.outputs.items
          (remainder_of c.loop-q.self).gates c.index.result.now
          (get_or c.loop-q.outputs.items c.loop-q.q c.index.result.now) c.loop-q.invariant.uncrossed
          (ap (λ us. slice_get us c.place_of-place.result) (sym c.deref.ensures.value) ∙ c.place_of-place.ensures)
          (slice_get-get_or c.loop-q.outputs.items c.loop-q.q c.index.result.now within)
          (read_at (end_vertices c.args.self.now.graph.graph.inputs)
          c.in_ok-inputs.inputs.items c.loop-q.q c.from.result c.index.result.now (c.in_ok-inputs.ensures
          ∙ ap end_vertices c.inputs.ensures.value) c.from.ensures
          (omega (arith, length-places c.args.self.now.graph.graph.inputs, c.requires.ends)) c.index.ensures)
          (λ e. c.if-place-from.false (e ∙ sym c.from-in-loop-q.ensures))));
      graph = ap (λ (s : Remainder). s.graph) c.in_ok-write_exchange.ensures ∙ c.loop-q.invariant.graph;
    }

pub returns-clause-leads : goal.returns-clause-leads
returns-clause-leads c =
    let all : c.loop-q.q ≡ length c.args.self.now.graph.graph.outputs = omega arith in
    leads_within (remainder_of c.args.self.now) _ 0 0 _ _ (omega arith)
    (uncrossed_leads (remainder_of c.args.self.now) c.requires.ready c.requires.frontier c.requires.all c.requires.ends
    c.loop-q.outputs.items (remainder_of c.loop-q.self).gates
    (subst (λ i. IsUncrossed (remainder_of c.args.self.now) i c.loop-q.outputs.items (remainder_of c.loop-q.self).gates)
    all c.loop-q.invariant.uncrossed))

pub returns-clause-formed : goal.returns-clause-formed
returns-clause-formed c =
    let all : c.loop-q.q ≡ length c.args.self.now.graph.graph.outputs = omega arith in
    line_formed (remainder_of c.args.self.now) c.requires.ready c.requires.frontier c.requires.all c.requires.ends
    c.loop-q.outputs.items (remainder_of c.loop-q.self).gates
    (subst (λ i. IsUncrossed (remainder_of c.args.self.now) i c.loop-q.outputs.items (remainder_of c.loop-q.self).gates)
    all c.loop-q.invariant.uncrossed)
