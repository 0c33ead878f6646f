-- A twin is beside each neighbour.
use Rattle.std.proofs.Common.{◌∙◌, subst, ◌+◌, ◌*◌}
use Rattle.zx_calculus.specs.Graph.{neighbours}
use Rattle.open_graph.proofs.Walks.{next_some, next_all, next_there}
use Rattle.zx_moves.specs.Internal.Searching.{TellsTwins}
use Rattle.zx_moves.proofs.SearchTests.{live_near}
use Rattle.zx_moves.proofs.SearchPairs.{twins_beside, twins_anywhere}
use Rattle.zx_moves.proofs.search.beside_all.Goals as goal

pub loop-near-init : goal.loop-near-init
loop-near-init c = record {
  all = c.into_iter-near-iterator.ensures.into_iter_gives ∙ c.neighbours-near-items.ensures.value;
  tells = twins_anywhere c.args.g.now.graph c.args.u c.args.index;
}

pub neighbour_set-requires : goal.neighbour_set-requires
neighbour_set-requires c =
    let rest = next_some c.next.result c.loop-near.near-iterator c.next.new.self c.in-Some.near c.next.ensures.steps c.in-Some.is in
    live_near c.args.g.now.graph c.args.u c.in-Some.near
    (next_there c.loop-near.yielded c.loop-near.near-iterator c.next.new.self (neighbours c.args.g.now.graph c.args.u) c.in-Some.near c.loop-near.invariant.all rest)

pub loop-near-preserved : goal.loop-near-preserved
loop-near-preserved c =
    let g = c.args.g.now.graph in
    let rest = next_some c.next.result c.loop-near.near-iterator c.next.new.self c.in-Some.near c.next.ensures.steps c.in-Some.is in
    let there = next_there c.loop-near.yielded c.loop-near.near-iterator c.next.new.self (neighbours g c.args.u) c.in-Some.near c.loop-near.invariant.all rest in
    record {
      all = next_all c.loop-near.yielded c.loop-near.near-iterator c.next.new.self (neighbours g c.args.u) c.in-Some.near c.loop-near.invariant.all rest;
      tells = twins_beside g c.neighbour_set.ensures.valid c.args.u c.in-Some.near c.args.index c.loop-near.beside c.word-beside.result there c.loop-near.invariant.tells
          (λ k lt. c.word-beside.ensures k lt ∙ c.neighbour_set.ensures.members (64 * c.args.index + k));
    }

pub returns-then-beside-eq0 : goal.returns-then-beside-eq0
returns-then-beside-eq0 c =
    let g = c.args.g.now.graph in
    let rest = next_some c.next.result c.loop-near.near-iterator c.next.new.self c.in-Some.near c.next.ensures.steps c.in-Some.is in
    let there = next_there c.loop-near.yielded c.loop-near.near-iterator c.next.new.self (neighbours g c.args.u) c.in-Some.near c.loop-near.invariant.all rest in
    subst (TellsTwins g c.args.u c.args.index) c.if-beside-eq0.true
    (twins_beside g c.neighbour_set.ensures.valid c.args.u c.in-Some.near c.args.index c.loop-near.beside c.word-beside.result there c.loop-near.invariant.tells
    (λ k lt. c.word-beside.ensures k lt ∙ c.neighbour_set.ensures.members (64 * c.args.index + k)))
