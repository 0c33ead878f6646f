-- Where a table of corrections fails to be a generalised flow: its conditions one by one, as Browne, Kashefi, Mhalla
-- and Perdrix, "Generalized flow and determinism in measurement-based quantum computation" (New J. Phys. 9, 250, 2007)
-- list them, and for three planes Backens, Miller-Bakewell, de Felice, Lobski and van de Wetering, "There and back
-- again: a circuit extraction tale" (Quantum 5, 421, 2021).
use Rattle.std.specs.Prelude.{◌≡◌, ℕ, Bool, true, false, not, ◌||◌, List, [], ◌∷◌, ◌++◌}
use Rattle.std.specs.List.{list_all}
use Rattle.zx_calculus.specs.Graph.{is_XY, is_XZ, is_YZ}
use Rattle.gflow_laws.specs.Seen.{Seen}
use Rattle.gflow_laws.specs.Flow.{Correction, order_of, set_of}
use Rattle.gflow_laws.specs.Flow.{input_holds, order_holds, odd_holds, XY_holds, XZ_holds, YZ_holds}
use Rattle.flow_check.specs.declared.verdict.Condition.{Condition}
use Rattle.flow_check.specs.declared.verdict.Condition.TheVariants.{Input, Order, Odd, XY, XZ, YZ}

-- whether a condition holds at v; that of a plane speaks of the vertices of this plane alone
abbrev pub condition_holds : Seen → List Correction → ℕ → Condition → Bool
condition_holds s table v Input = input_holds s (set_of table v)
condition_holds s table v Order = order_holds (order_of table) v (set_of table v)
condition_holds s table v Odd = odd_holds s (order_of table) v (set_of table v)
condition_holds s table v XY = not (is_XY (s.plane v)) || XY_holds s v (set_of table v)
condition_holds s table v XZ = not (is_XZ (s.plane v)) || XZ_holds s v (set_of table v)
condition_holds s table v YZ = not (is_YZ (s.plane v)) || YZ_holds s v (set_of table v)

-- the conditions, in the order in which the first that fails is named
abbrev pub conditions : List Condition
conditions = Input ∷ Order ∷ Odd ∷ XY ∷ XZ ∷ YZ ∷ []

-- whether all conditions hold at v
abbrev pub all_hold : Seen → List Correction → ℕ → Bool
all_hold s table v = list_all (condition_holds s table v) conditions

-- x is the first in a list that doesn't pass a test
pub record IsFirstToFail {A : Type 0} (passes : A → Bool) (xs : List A) (x : A) : Type 0 where
  pub before : List A
  pub after : List A
  pub place : xs ≡ before ++ x ∷ after
  pub all_pass : list_all passes before ≡ true
  pub fails : passes x ≡ false

-- v is the first vertex of the order at which a condition fails, and this is the first that fails there
pub record IsFirstFailure (s : Seen) (table : List Correction) (v : ℕ) (failing : Condition) : Type 0 where
  pub vertex : IsFirstToFail (all_hold s table) (order_of table) v
  pub condition : IsFirstToFail (condition_holds s table v) conditions failing
