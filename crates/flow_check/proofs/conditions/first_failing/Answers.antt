-- The conditions one after the other.
use Rattle.std.proofs.Common.{◌∙◌, ap, subst, Bool, List, ℕ}
use Rattle.zx_calculus.specs.Graph.{Kind}
use Rattle.gflow_laws.specs.Seen.{Seen, seen}
use Rattle.gflow_laws.specs.Flow.{Correction, is_in}
use Rattle.open_graph.specs.Planes.{plane_named}
use Rattle.flow_check.specs.declared.verdict.Condition.{Condition}
use Rattle.flow_check.specs.Failures.{conditions}
use Rattle.flow_check.specs.Internal.Conditions.{IsFirstOrNone}
use Rattle.flow_check.proofs.ConditionLemmas.{input_told, order_told, odd_told, odd_there, input_fails, order_fails, odd_fails, planes_tested, is_live, members_live}
use Rattle.flow_check.proofs.conditions.first_failing.Goals as goal

pub weight-plane-requires : goal.weight-plane-requires
weight-plane-requires c = is_live (seen c.args.g.now.graph) c.args.t.now.table c.args.v c.requires.table c.requires.listed

pub odd_neighbours-requires : goal.odd_neighbours-requires
odd_neighbours-requires c =
    members_live (seen c.args.g.now.graph) c.args.t.now.table c.args.v c.correction_set-members.result.now.ids c.correction_set-members.ensures
    c.requires.table c.requires.listed

pub returns-then-not-are_apart : goal.returns-then-not-are_apart
returns-then-not-are_apart c =
    let s : Seen = seen c.args.g.now.graph in
    let table : List Correction = c.args.t.now.table in
    let members : List ℕ = c.correction_set-members.result.now.ids in
    input_fails s table c.args.v
    (input_told s table c.args.v members c.correction_set-members.ensures c.args.inputs.now.ids c.requires.inputs c.are_apart.ensures c.if-not-are_apart.true)

pub returns-then-not-are_apart-2 : goal.returns-then-not-are_apart-2
returns-then-not-are_apart-2 c =
    order_fails (seen c.args.g.now.graph) c.args.t.now.table c.args.v
    (input_told (seen c.args.g.now.graph) _ c.args.v _ c.correction_set-members.ensures _ c.requires.inputs c.are_apart.ensures c.if-not-are_apart.false)
    (order_told (seen c.args.g.now.graph) _ c.args.v _ c.correction_set-members.ensures _ c.requires.passed c.are_apart-2.ensures c.if-not-are_apart-2.true)

pub returns-then-not-are_apart-3 : goal.returns-then-not-are_apart-3
returns-then-not-are_apart-3 c =
    odd_fails (seen c.args.g.now.graph) c.args.t.now.table c.args.v
    (input_told (seen c.args.g.now.graph) _ c.args.v _ c.correction_set-members.ensures _ c.requires.inputs c.are_apart.ensures c.if-not-are_apart.false)
    (order_told (seen c.args.g.now.graph) _ c.args.v _ c.correction_set-members.ensures _ c.requires.passed c.are_apart-2.ensures c.if-not-are_apart-2.false)
    (odd_told (seen c.args.g.now.graph) _ c.args.v c.correction_set-members.result.now.ids c.correction_set-members.ensures _ c.requires.passed _ c.in_ok-odd.ensures
    (λ w. odd_there c.args.g.now.graph (is_in c.correction_set-members.result.now.ids) w c.weight-plane.ensures.valid) c.are_apart-3.ensures c.if-not-are_apart-3.true)

pub returns : goal.returns
returns c =
    let s : Seen = seen c.args.g.now.graph in
    let table : List Correction = c.args.t.now.table in
    let members : List ℕ = c.correction_set-members.result.now.ids in
    subst (λ (p : Condition → Bool). IsFirstOrNone p conditions c.plane_failing.result)
    (planes_tested s table c.args.v (plane_named c.weight-plane.result.0) members c.contains.result c.contains-2.result c.correction_set-members.ensures
    (ap (λ (k : Kind). k.plane) c.weight-plane.ensures.value) c.contains.ensures (c.contains-2.ensures ∙ c.in_ok-odd.ensures c.args.v)
    (input_told s table c.args.v members c.correction_set-members.ensures c.args.inputs.now.ids c.requires.inputs c.are_apart.ensures c.if-not-are_apart.false)
    (order_told s table c.args.v members c.correction_set-members.ensures c.args.passed.now.ids c.requires.passed c.are_apart-2.ensures c.if-not-are_apart-2.false)
    (odd_told s table c.args.v members c.correction_set-members.ensures c.args.passed.now.ids c.requires.passed c.in_ok-odd.odd.ids c.in_ok-odd.ensures
    (λ w. odd_there c.args.g.now.graph (is_in members) w c.weight-plane.ensures.valid) c.are_apart-3.ensures c.if-not-are_apart-3.false))
    c.plane_failing.ensures
