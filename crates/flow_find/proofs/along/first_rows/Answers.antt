-- One output more.
use Rattle.std.proofs.Common.{◌≡◌, ◌∙◌, sym, ap, subst, suc, add-one, take, take_all, arith, ℕ, Bool, List, length, Vec, Global}
use Rattle.gflow_laws.specs.Flow.{is_in}
use Rattle.zx_calculus.specs.Graph.{End}
use Rattle.gflow_laws.specs.Seen.{Seen, seen}
use Rattle.flow_find.specs.declared.row.Row.{Row}
use Rattle.flow_find.specs.Frontiers.{IsFrontier, with_one}
use Rattle.flow_find.proofs.Starting.{ended, ended_in, ended_by, all_ended, output_lives}
use Rattle.flow_find.proofs.along.first_rows.Goals as goal
use Rattle.flow_find.proofs.along.first_rows.Goals.{then-is_none+in_ok-insert, else-is_none}

pub input_at-requires : goal.input_at-requires
input_at-requires c =
    output_lives c.args.g.now.graph c.outputs-output-items.result.now c.loop-output.output-index c.output-item.result c.output.inside.vertex
    c.outputs-output-items.ensures.valid c.outputs-output-items.ensures.value c.loop-output-test.true c.output-item.is (ap (λ (e : End). e.vertex) c.output.view_is)

pub insert-requires : goal.insert-requires
insert-requires c =
    output_lives c.args.g.now.graph c.outputs-output-items.result.now c.loop-output.output-index c.output-item.result c.output.inside.vertex
    c.outputs-output-items.ensures.valid c.outputs-output-items.ensures.value c.loop-output-test.true c.output-item.is (ap (λ (e : End). e.vertex) c.output.view_is)

pub loop-output-preserved : goal.loop-output-preserved
loop-output-preserved c =
    let s : Seen = seen c.args.g.now.graph in
    let left : ℕ → Bool = is_in c.args.left.now.ids in
    let ends : List End = c.outputs-output-items.result.now in
    let at : c.output.inside.vertex ≡ c.output-item.result.vertex = ap (λ (e : End). e.vertex) c.output.view_is in
    rw add-one (record {
      rows = elim c.if-is_none.branch [
        | then-is_none+in_ok-insert w ↦ subst (λ (rows : List Row). IsFrontier s left left (ended s (take (suc c.loop-output.output-index) ends)) rows) (sym (ap (λ v. v.items) w.rows-is))
            (ended_in s left ends c.loop-output.output-index c.output-item.result w.insert.new.rows.items c.loop-output-test.true c.output-item.is
            (ap s.input (sym at) ∙ sym c.input_at.ensures.found ∙ w.if-is_none.ensures)
            (subst (λ (u : ℕ). IsFrontier s left left (with_one (ended s (take c.loop-output.output-index ends)) u) w.insert.new.rows.items) at
            (w.in_ok-insert.ensures.rows (ended s (take c.loop-output.output-index ends)) c.loop-output.invariant.rows)))
        | else-is_none w ↦ subst (λ (rows : List Row). IsFrontier s left left (ended s (take (suc c.loop-output.output-index) ends)) rows) (sym (ap (λ v. v.items) w.rows-is))
            (ended_by s left ends c.loop-output.output-index c.output-item.result c.loop-output.rows.items c.loop-output-test.true c.output-item.is
            (ap s.input (sym at) ∙ sym c.input_at.ensures.found ∙ w.if-is_none.ensures) c.loop-output.invariant.rows)
      ];
      few = elim c.if-is_none.branch [
        | then-is_none+in_ok-insert w ↦ let size : length c.if-is_none.rows.items ≡ length w.insert.new.rows.items = ap (λ (v : Vec Row Global). length v.items) w.rows-is in omega (arith, size, w.in_ok-insert.ensures.few, c.loop-output.invariant.few)
        | else-is_none w ↦ let size : length c.if-is_none.rows.items ≡ length c.loop-output.rows.items = ap (λ (v : Vec Row Global). length v.items) w.rows-is in omega (arith, size, c.loop-output.invariant.few)
      ];
    })

pub returns-clause-rows : goal.returns-clause-rows
returns-clause-rows c =
    let s : Seen = seen c.args.g.now.graph in
    let left : ℕ → Bool = is_in c.args.left.now.ids in
    let ends : List End = c.outputs-output-items.result.now in
    let all : take c.loop-output.output-index ends ≡ c.args.g.now.graph.outputs = take_all c.loop-output.output-index ends (omega arith) ∙ c.outputs-output-items.ensures.value in
    all_ended c.args.g.now.graph left c.loop-output.rows.items c.outputs-output-items.ensures.valid c.requires
    (subst (λ (es : List End). IsFrontier s left left (ended s es) c.loop-output.rows.items) all c.loop-output.invariant.rows)

pub returns-clause-few : goal.returns-clause-few
returns-clause-few c =
    let size : length c.outputs-output-items.result.now ≡ length c.args.g.now.graph.outputs = ap (λ (es : List End). length es) c.outputs-output-items.ensures.value in
    omega (arith, size, c.loop-output.invariant.few, c.loop-output.auto.output-index-end)
