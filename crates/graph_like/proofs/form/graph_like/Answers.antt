use Rattle.std.proofs.Common.{ap, ap₂, subst, ℕ, List, length, arith}
use Rattle.zx_calculus.specs.Graph.{End, Graph}
use Rattle.zx_diagram.specs.declared.spider.Spider.{Spider}
use Rattle.zx_diagram.specs.declared.wire.Wire.{Wire}
use Rattle.zx_diagram.specs.declared.wire.Leg.{Leg}
use Rattle.graph_like.specs.declared.homes.Homes.{Homes}
use Rattle.open_graph.specs.declared.side.Side.TheVariants.{Input, Output}
use Rattle.graph_like.specs.LikeForm.{ends_at}
use Rattle.graph_like.specs.Internal.Homes.{home_of}
use Rattle.graph_like.specs.Internal.Building.{IsJoinedBy, AddsEnds}
use Rattle.graph_like.proofs.LikeSum.{like_proportional}
use Rattle.graph_like.proofs.Forming.{homes_wider, begun_classes, formed}
use Rattle.graph_like.proofs.form.graph_like.Goals as goal

pub join_classes-requires-clause-homes : goal.join_classes-requires-clause-homes
join_classes-requires-clause-homes c =
    homes_wider c.args.d c.spiders.result.now c.in_ok-homes.homes (length c.in_ok-graph.graph.graph.vertices) c.spiders.ensures.value c.in_ok-homes.ensures.within
    (omega (arith, c.in_ok-graph.ensures.count, ap length c.deref.ensures.value, c.in_ok-phases.ensures.length))

pub add_ends-requires-clause-homes : goal.add_ends-requires-clause-homes
add_ends-requires-clause-homes c =
    homes_wider c.args.d c.spiders-2.result.now c.in_ok-homes.homes (length c.join_classes.new.graph.graph.vertices) c.spiders-2.ensures.value c.in_ok-homes.ensures.within
    (omega (arith, c.in_ok-join_classes.ensures.count, c.in_ok-graph.ensures.count, ap length c.deref.ensures.value, c.in_ok-phases.ensures.length))

pub add_ends-requires-2-clause-homes : goal.add_ends-requires-2-clause-homes
add_ends-requires-2-clause-homes c =
    homes_wider c.args.d c.spiders-3.result.now c.in_ok-homes.homes (length c.add_ends.new.graph.graph.vertices) c.spiders-3.ensures.value c.in_ok-homes.ensures.within
    (omega (arith, c.in_ok-add_ends.ensures.count, c.in_ok-join_classes.ensures.count, c.in_ok-graph.ensures.count, ap length c.deref.ensures.value, c.in_ok-phases.ensures.length))

pub returns-clause-form : goal.returns-clause-form
returns-clause-form c =
    let table : Homes = c.in_ok-homes.homes in
    let home : ℕ → ℕ = home_of table in
    let begun : Graph = c.in_ok-graph.graph.graph in
    let joined : Graph = c.join_classes.new.graph.graph in
    let with_inputs : Graph = c.add_ends.new.graph.graph in
    let made : Graph = c.add_ends-2.new.graph.graph in
    formed c.args.d table begun joined with_inputs made c.spiders.ensures.valid c.in_ok-homes.ensures.classes
    (record {
      begun = begun_classes c.args.d home c.in_ok-phases.phases.items c.deref.result.now table.count begun c.in_ok-graph.ensures.graph
          c.deref.ensures.value c.in_ok-phases.ensures.length c.in_ok-phases.ensures.phases;
      joined = subst (λ (ss : List Spider). IsJoinedBy ss home c.args.d.edges begun joined) c.spiders.ensures.value
          (subst (λ (es : List Wire). IsJoinedBy c.spiders.result.now home es begun joined) c.edges.ensures.value c.in_ok-join_classes.ensures.joined);
      inputs = subst (λ (es : List End). AddsEnds Input joined es with_inputs)
          (ap₂ (λ (ss : List Spider) (ls : List Leg). ends_at ss home ls) c.spiders-2.ensures.value c.inputs.ensures.value) c.in_ok-add_ends.ensures.ends;
      outputs = subst (λ (es : List End). AddsEnds Output with_inputs es made)
          (ap₂ (λ (ss : List Spider) (ls : List Leg). ends_at ss home ls) c.spiders-3.ensures.value c.outputs.ensures.value) c.in_ok-add_ends-2.ensures.ends;
      numbered = c.in_ok-add_ends-2.ensures.numbered;
    })

pub returns-clause-map : goal.returns-clause-map
returns-clause-map c = like_proportional c.args.d c.add_ends-2.new.graph.graph c.spiders.ensures.valid (returns-clause-form c)
