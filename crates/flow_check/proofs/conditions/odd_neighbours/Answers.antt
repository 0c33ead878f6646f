-- One row more.
use Rattle.std.proofs.Common.{rules, ◌∙◌, sym, ap, ap₂}
use Rattle.zx_model.specs.Bits.{xor, member}
use Rattle.zx_calculus.proofs.Ids.{Distinct-rising}
use Rattle.gflow_laws.specs.Seen.{seen}
use Rattle.gflow_laws.proofs.Views.{Simple-seen}
use Rattle.open_graph.proofs.Walks.{next_some, next_there, next_all}
use Rattle.flow_check.proofs.SetLemmas.{odd_more, odd_in_none}
use Rattle.flow_check.proofs.conditions.odd_neighbours.Goals as goal

pub loop-w-init : goal.loop-w-init
loop-w-init c = record {
  all = search rules;
  tells = λ u. ap (member u) c.new-odd.ensures ∙ sym (odd_in_none (seen c.args.g.now.graph) u);
}

pub neighbour_set-requires : goal.neighbour_set-requires
neighbour_set-requires c =
    c.requires c.in-Some.w (next_there c.loop-w.yielded c.loop-w.w-iterator c.next.new.self c.args.members.now.ids c.in-Some.w c.loop-w.invariant.all
    (next_some c.next.result c.loop-w.w-iterator c.next.new.self c.in-Some.w c.next.ensures.steps c.in-Some.is))

pub loop-w-preserved : goal.loop-w-preserved
loop-w-preserved c =
    let more = next_some c.next.result c.loop-w.w-iterator c.next.new.self c.in-Some.w c.next.ensures.steps c.in-Some.is in
    record {
      all = next_all c.loop-w.yielded c.loop-w.w-iterator c.next.new.self c.args.members.now.ids c.in-Some.w c.loop-w.invariant.all more;
      tells = λ u. c.in_ok-toggle_all.ensures.ok u ∙ ap₂ xor (c.loop-w.invariant.tells u) (c.neighbour_set.ensures.members u)
          ∙ sym (odd_more (seen c.args.g.now.graph) c.loop-w.yielded c.loop-w.w-iterator c.next.new.self c.args.members.now.ids c.in-Some.w u
          (Simple-seen c.args.g.now.graph c.neighbour_set.ensures.valid)
          (Distinct-rising c.args.members.now.ids c.iter-w-items.ensures.rising)
          (c.requires c.in-Some.w (next_there c.loop-w.yielded c.loop-w.w-iterator c.next.new.self c.args.members.now.ids c.in-Some.w c.loop-w.invariant.all more))
          c.loop-w.invariant.all more);
    }
