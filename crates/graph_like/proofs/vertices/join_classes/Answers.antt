use Rattle.std.proofs.Common.{◌≤◌, sym, subst, length, arith}
use Rattle.std.proofs.lemmas.List.{drop_all}
use Rattle.std.proofs.lemmas.List.{get_or_default}
use Rattle.graph_like.specs.Internal.Homes.{home_of}
use Rattle.graph_like.specs.Internal.Building.{IsJoinedBy}
use Rattle.graph_like.proofs.Building.{joining_more, joined_nothing}
use Rattle.graph_like.proofs.vertices.join_classes.Goals as goal

pub loop-i-preserved : goal.loop-i-preserved
loop-i-preserved c =
    joining_more c.args.spiders.now (home_of c.args.homes.now) c.args.edges.now c.loop-i.i c.args.graph.now.graph c.loop-i.graph.graph c.join.new.graph.graph
    _ c.loop-i-test.true (λ o. get_or_default c.args.edges.now c.loop-i.i o _ c.loop-i-test.true)
    c.in_ok-join.ensures.joined c.in_ok-join.ensures.numbered c.loop-i.invariant

pub returns-clause-joined : goal.returns-clause-joined
returns-clause-joined c =
    let all : length c.args.edges.now ≤ c.loop-i.i = omega (arith, c.loop-i-test.false) in
    c.loop-i.invariant.leads c.loop-i.graph.graph
    (subst (λ es. IsJoinedBy c.args.spiders.now (home_of c.args.homes.now) es c.loop-i.graph.graph c.loop-i.graph.graph) (sym (drop_all c.loop-i.i c.args.edges.now all))
    (joined_nothing c.args.spiders.now (home_of c.args.homes.now) c.loop-i.graph.graph))
