use Rattle.std.proofs.Common.{◌≡◌, ◌∙◌, ap, not, ◌||◌, is_some, Bool, true, false, refl}
use Rattle.open_graph.proofs.PlaceLemmas.{interior_by}
use Rattle.open_graph.proofs.open_graph.OpenGraph.is_interior.Goals as goal

second : (a b r : Bool) → a ≡ false → b ≡ not r → r ≡ not (a || b)
second a b true none at = rw (none, at) refl
second a b false none at = rw (none, at) refl

first : (a b r : Bool) → a ≡ not r → r ≡ false → r ≡ not (a || b)
first a b r at none = rw (at, none) refl

pub returns-then-is_none-clause-value : goal.returns-then-is_none-clause-value
returns-then-is_none-clause-value c =
    second (is_some c.slot-slot.result.now.input) (is_some c.slot-slot.result.now.output) c.is_none-then-is_none.result (c.is_none.ensures ∙ ap not c.if-is_none.true) c.is_none-then-is_none.ensures
    ∙ interior_by _ _ c.args.self.now.graph.inputs c.args.self.now.graph.outputs c.args.v c.slot-slot.ensures.input c.slot-slot.ensures.output

pub returns-else-is_none-clause-value : goal.returns-else-is_none-clause-value
returns-else-is_none-clause-value c =
    first (is_some c.slot-slot.result.now.input) (is_some c.slot-slot.result.now.output) c.is_none.result c.is_none.ensures c.if-is_none.false
    ∙ interior_by _ _ c.args.self.now.graph.inputs c.args.self.now.graph.outputs c.args.v c.slot-slot.ensures.input c.slot-slot.ensures.output
