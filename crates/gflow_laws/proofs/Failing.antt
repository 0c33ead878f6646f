-- A flow has no failing condition.
use Rattle.std.proofs.Common.{◌≡◌, refl, ap, ap₂, ℕ, true, List, [], ◌∷◌, ◌++◌}
use Rattle.std.specs.List.{list_all}
use Rattle.zx_calculus.specs.Graph.{Graph}
use Rattle.zx_calculus.proofs.Ids.{and-left, and-right}
use Rattle.gflow_laws.specs.Seen.{Seen, seen}
use Rattle.gflow_laws.specs.Flow.{Correction, order_of, set_of, input_holds, order_holds, odd_holds, plane_holds, IsFlow}
use Rattle.gflow_laws.specs.Examples.{Condition, Input, Order, Odd, PlaneOf, fails_unless, failing_among, failing, FailsAlone}

none_among : (s : Seen) (table : List Correction) (vs : List ℕ) → list_all (λ v. input_holds s (set_of table v)) vs ≡ true →
    list_all (λ v. order_holds (order_of table) v (set_of table v)) vs ≡ true → list_all (λ v. odd_holds s (order_of table) v (set_of table v)) vs ≡ true →
    list_all (λ v. plane_holds s (s.plane v) v (set_of table v)) vs ≡ true → failing_among s table vs ≡ []
none_among s table [] input order odd plane = refl
none_among s table (v ∷ vs) input order odd plane =
    ap₂ (λ a b. a ++ b)
    (ap₂ (λ a b. a ++ b)
    (ap₂ (λ a b. a ++ b)
    (ap₂ (λ a b. fails_unless a v Input ++ fails_unless b v Order) (and-left _ _ input) (and-left _ _ order))
    (ap (λ a. fails_unless a v Odd) (and-left _ _ odd)))
    (ap (λ a. fails_unless a v (PlaneOf (s.plane v))) (and-left _ _ plane)))
    (none_among s table vs (and-right _ _ input) (and-right _ _ order) (and-right _ _ odd) (and-right _ _ plane))

pub no_flow : (g : Graph) (table : List Correction) (v : ℕ) (condition : Condition) → FailsAlone g table v condition → IsFlow g table → ⊥
no_flow g table v condition fails flow =
    let none : failing (seen g) table ≡ [] = none_among (seen g) table (order_of table) flow.input flow.order flow.odd flow.plane in
    let one : failing (seen g) table ≡ record { vertex = v; condition = condition } ∷ [] = fails.alone in
    cc
