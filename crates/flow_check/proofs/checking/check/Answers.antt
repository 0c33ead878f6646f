-- One vertex more.
use Rattle.std.proofs.Common.{rules, ◌≡◌, ◌∙◌, subst, refl, ℕ, ◌≤◌, true, List, length, take, take_all, add-one, arith, Option, None}
use Rattle.std.specs.List.{list_all}
use Rattle.gflow_laws.specs.Seen.{Seen, seen}
use Rattle.gflow_laws.specs.Flow.{Correction}
use Rattle.flow_check.specs.declared.verdict.Condition.{Condition}
use Rattle.flow_check.specs.declared.verdict.Verdict.TheVariants.{Flow}
use Rattle.flow_check.specs.Failures.{conditions, condition_holds, all_hold, IsFirstFailure}
use Rattle.flow_check.specs.Internal.Conditions.{IsFirstOrNone}
use Rattle.flow_check.proofs.FirstFailures.{flow_from, is_flow, flow_fails_nowhere, fails_no_flow, fails_there}
use Rattle.flow_check.proofs.Walking.{listed, stands, marked, one_more_taken, first_there}
use Rattle.flow_check.proofs.checking.check.Goals.{In-Some}
use Rattle.flow_check.proofs.checking.check.Goals as goal

pub first_failing-requires-clause-listed : goal.first_failing-requires-clause-listed
first_failing-requires-clause-listed c =
    listed (seen c.args.g.now.graph) c.args.t.now.table c.order-v-items.result.now c.loop-v.v-index c.v-item.result c.order-v-items.ensures.value
    c.order-v-items.ensures.valid c.loop-v-test.true c.v-item.is

pub first_failing-requires-clause-passed : goal.first_failing-requires-clause-passed
first_failing-requires-clause-passed c =
    stands (seen c.args.g.now.graph) c.args.t.now.table c.order-v-items.result.now c.loop-v.v-index c.v-item.result c.order-v-items.ensures.value
    c.order-v-items.ensures.valid c.loop-v-test.true c.v-item.is c.loop-v.passed.ids c.loop-v.invariant.marks

pub loop-v-preserved : goal.loop-v-preserved
loop-v-preserved c =
    let s : Seen = seen c.args.g.now.graph in
    let table : List Correction = c.args.t.now.table in
    let none : c.in_ok-condition.field-0 ≡ None = search rules in
    rw add-one (record {
      marks = marked s table c.order-v-items.result.now c.loop-v.v-index c.v-item.result c.order-v-items.ensures.value c.order-v-items.ensures.valid
          c.loop-v-test.true c.v-item.is c.loop-v.passed.ids c.toggle.new.self.ids c.loop-v.invariant.marks c.in_ok-toggle.ensures.ok;
      held = one_more_taken (all_hold s table) c.order-v-items.result.now c.loop-v.v-index c.v-item.result c.loop-v-test.true c.v-item.is
          c.loop-v.invariant.held
          (subst (λ (r : Option Condition). IsFirstOrNone (condition_holds s table c.v-item.result) conditions r) none c.in_ok-condition.ensures);
    })

-- the vertex is the first that fails, by this condition
first_failure : (c : In-Some) → IsFirstFailure (seen c.args.g.now.graph) c.args.t.now.table c.v-item.result c.in-Some.condition
first_failure c =
    let s : Seen = seen c.args.g.now.graph in
    let table : List Correction = c.args.t.now.table in
    first_there s table c.order-v-items.result.now c.loop-v.v-index c.v-item.result c.order-v-items.ensures.value c.order-v-items.ensures.valid
    c.loop-v-test.true c.v-item.is c.loop-v.invariant.held c.in-Some.condition
    (subst (λ (r : Option Condition). IsFirstOrNone (condition_holds s table c.v-item.result) conditions r) c.in-Some.is c.in_ok-condition.ensures)

pub returns-in-Some-clause-flow : goal.returns-in-Some-clause-flow
returns-in-Some-clause-flow c =
    fails_no_flow (seen c.args.g.now.graph) c.args.t.now.table c.v-item.result c.in-Some.condition
    (first_failure (goal.at.returns-in-Some-clause-flow c).In-Some)

pub returns-in-Some-clause-fails : goal.returns-in-Some-clause-fails
returns-in-Some-clause-fails c =
    fails_there (seen c.args.g.now.graph) c.args.t.now.table c.v-item.result c.in-Some.condition
    (first_failure (goal.at.returns-in-Some-clause-fails c).In-Some)

-- all hold once the walk is at the end of the order
all_held : (s : Seen) (table : List Correction) (i : ℕ) (walked listed : List ℕ) → length walked ≤ i → walked ≡ listed
    → list_all (all_hold s table) (take i walked) ≡ true → list_all (all_hold s table) listed ≡ true
all_held s table i walked listed end is held = subst (λ (l : List ℕ). list_all (all_hold s table) l ≡ true) (take_all i walked end ∙ is) held

pub returns-clause-flow : goal.returns-clause-flow
returns-clause-flow c =
    let s : Seen = seen c.args.g.now.graph in
    is_flow s c.args.t.now.table
    (flow_from s c.args.t.now.table c.requires (all_held s c.args.t.now.table c.loop-v.v-index c.order-v-items.result.now _ (omega arith) c.order-v-items.ensures.value c.loop-v.invariant.held))
    Flow refl

pub returns-clause-fails : goal.returns-clause-fails
returns-clause-fails c =
    let s : Seen = seen c.args.g.now.graph in
    flow_fails_nowhere s c.args.t.now.table
    (flow_from s c.args.t.now.table c.requires (all_held s c.args.t.now.table c.loop-v.v-index c.order-v-items.result.now _ (omega arith) c.order-v-items.ensures.value c.loop-v.invariant.held))
