-- All vertices are tested.
use Rattle.std.proofs.Common.{ℕ, rules, tests}
use Rattle.std.proofs.lemmas.Iterator.Search.{all_from_yields_List}
use Rattle.std.proofs.lemmas.Iterator.Consumers.{YieldsList-from_first}
use Rattle.gflow_laws.specs.Seen.{Seen, seen}
use Rattle.flow_tests.specs.Tables.{is_placed}
use Rattle.flow_tests.proofs.tests.tables.are_placed.Goals as goal

pub returns : goal.returns
returns c =
    let s : Seen = seen c.args.graph.now.graph in
    all_from_yields_List (is_placed s c.args.order.now) _ _ c.all.result c.all.ensures.ran
    (YieldsList-from_first (λ (x : ℕ). x) (λ rest. rest) s.ids c.vertices.ensures.value)
    (λ x b q k. search (rules, tests))
