-- An XY vertex itself, or a neighbour of another.
use Rattle.std.proofs.Common.{◌≡◌, ◌∙◌, sym, true}
use Rattle.zx_model.specs.Bits.{member}
use Rattle.zx_calculus.specs.Graph.{neighbours}
use Rattle.zx_calculus.proofs.Toggling.{member-neighbours}
use Rattle.gflow_laws.specs.Seen.{seen}
use Rattle.gflow_laws.specs.Flow.{is_in}
use Rattle.gflow_laws.proofs.Views.{Simple-seen}
use Rattle.open_graph.proofs.Walks.{next_some, next_there, next_all}
use Rattle.flow_find.proofs.Solving.{needs_itself, needs_neighbour}
use Rattle.flow_find.proofs.search.needed_column.Goals as goal

pub returns-then-is_xy : goal.returns-then-is_xy
returns-then-is_xy c =
    needs_itself (seen c.args.g.now.graph) (is_in c.args.left.now.ids) c.args.v (sym c.is_xy.ensures.value ∙ c.if-is_xy.true) c.requires.there

pub loop-w-init : goal.loop-w-init
loop-w-init c = c.into_iter-w-iterator.ensures.into_iter_gives ∙ c.neighbours-w-items.ensures.value

pub loop-w-preserved : goal.loop-w-preserved
loop-w-preserved c =
    let here = next_some c.next.result c.loop-w.w-iterator c.next.new.self c.in-Some.w c.next.ensures.steps c.in-Some.is in
    next_all c.loop-w.yielded c.loop-w.w-iterator c.next.new.self (neighbours c.args.g.now.graph c.args.v) c.in-Some.w c.loop-w.invariant here

pub returns-then-contains : goal.returns-then-contains
returns-then-contains c =
    let here = next_some c.next.result c.loop-w.w-iterator c.next.new.self c.in-Some.w c.next.ensures.steps c.in-Some.is in
    let there : member c.in-Some.w (neighbours c.args.g.now.graph c.args.v) ≡ true =
    next_there c.loop-w.yielded c.loop-w.w-iterator c.next.new.self (neighbours c.args.g.now.graph c.args.v) c.in-Some.w c.loop-w.invariant here in
    needs_neighbour (seen c.args.g.now.graph) (is_in c.args.left.now.ids) c.args.v c.in-Some.w (Simple-seen c.args.g.now.graph c.neighbours-w-items.ensures.valid)
    (sym c.is_xy.ensures.value ∙ c.if-is_xy.false) (sym c.contains.ensures ∙ c.if-contains.true)
    (sym (member-neighbours c.args.g.now.graph c.args.v c.in-Some.w c.neighbours-w-items.ensures.valid) ∙ there)
