-- It is put off.
use Rattle.std.proofs.Common.{inl, subst, List, ℕ}
use Rattle.zx_calculus.proofs.Positions.{on_ok}
use Rattle.gflow_laws.specs.Seen.{seen}
use Rattle.flow_find.specs.Internal.Next.{IsNextPlace}
use Rattle.flow_find.proofs.Choosing.{is_moved}
use Rattle.flow_find.proofs.cheap.choose.Goals as goal

pub returns-in-Some : goal.returns-in-Some
returns-in-Some c = on_ok c.put_off.result (λ put. inl (is_moved (seen c.args.g.now.graph) c.args.rows.now c.args.order.now.items c.put_off.new.order.items
    c.args.last c.in-Some.place c.requires (subst (λ (order : List ℕ). IsNextPlace (seen c.args.g.now.graph) c.args.rows.now order c.args.last c.in-Some.place) c.deref.ensures.value c.in-Some.ensures) put)) c.put_off.ensures
