-- All members are tested.
use Rattle.std.proofs.Common.{ℕ, rules, tests}
use Rattle.std.proofs.lemmas.Iterator.Search.{all_from_yields_List}
use Rattle.std.proofs.lemmas.Iterator.Consumers.{YieldsList-from_first}
use Rattle.zx_model.specs.Bits.{member}
use Rattle.gflow_laws.specs.Seen.{seen}
use Rattle.flow_tests.proofs.tests.tables.holds_vertices.Goals as goal

pub returns : goal.returns
returns c =
    all_from_yields_List (λ (w : ℕ). member w (seen c.args.graph.now.graph).ids) _ _ c.all.result c.all.ensures.ran
    (YieldsList-from_first (λ (x : ℕ). x) (λ rest. rest) c.args.set.now.ids c.iter.ensures.value)
    (λ x b q k. search (rules, tests))
