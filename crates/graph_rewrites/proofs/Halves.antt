-- Two quarters are a half.
use Rattle.std.proofs.Common.{◌≡◌, refl, ℕ, Bool, true, false, cond, eqb}
use Rattle.zx_calculus.specs.Graph.{Kind, Graph}
use Rattle.zx_calculus.specs.Edits.{at_vertex}
use Rattle.zx_calculus.specs.Turns.{quarter_turned, half_turned}
use Rattle.zx_calculus.specs.Internal.ChangedKinds.{with_changed}
use Rattle.zx_calculus.proofs.StepIdentities.{quarter_turned-quarter_turned}
use Rattle.zx_calculus.proofs.ChangedKinds.{changed_twice}

-- two quarters at a vertex
pub half_at : (p : ℕ) (g : Graph) →
    with_changed (at_vertex p quarter_turned) (with_changed (at_vertex p quarter_turned) g)
    ≡ with_changed (at_vertex p half_turned) g
half_at p g = changed_twice _ _ (at_vertex p half_turned) g (λ q k. at k (eqb q p))
  where
    at : (k : Kind) (b : Bool) →
        cond b (quarter_turned (cond b (quarter_turned k) k)) (cond b (quarter_turned k) k) ≡ cond b (half_turned k) k
    at k true = quarter_turned-quarter_turned k
    at k false = refl
