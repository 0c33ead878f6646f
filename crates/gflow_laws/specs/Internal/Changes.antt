-- Sets of a flow changed one after the other, as functions.
use Rattle.std.specs.Prelude.{◌≡◌, ℕ, Bool, if◌then◌else◌, not, ◌&&◌, ◌==◌, List}
use Rattle.zx_model.specs.Bits.{xor, member}
use Rattle.gflow_laws.specs.Seen.{Seen, in_odd_neighbourhood}
use Rattle.gflow_laws.specs.Flow.{Correction, order_of, set_of, is_in, odd_in}

-- what becomes of the set of a vertex
abbrev pub Change : Type 0
Change = ℕ → (ℕ → Bool) → ℕ → Bool

-- the second table has the order of the first, and the sets of the vertices that are done are
-- changed
pub record AreChanged (change : Change) (done : List ℕ) (t t' : List Correction) : Type 0 where
  pub order : order_of t' ≡ order_of t
  pub members : (v w : ℕ) → is_in (set_of t' v) w ≡
      (if member v done then change v (is_in (set_of t v)) w else is_in (set_of t v) w)

-- a local complement about u, `own` being the set of u before it: u is toggled in its own set where
-- its plane changes; where u has an odd number of neighbours in another set, `own` is toggled
-- there, and u too where its plane stays
abbrev pub complement_change : Seen → ℕ → List ℕ → ℕ → (ℕ → Bool) → ℕ → Bool
complement_change s u own v set w =
    if v == u then xor (set w) (odd_in (s.plane u) && (w == u))
    else if in_odd_neighbourhood s set u then xor (set w) (xor (is_in own w) (not (odd_in (s.plane u)) && (w == u)))
    else set w

-- u goes, whose set is `own`: where u is in a set, `own` is toggled there
abbrev pub removal_change : ℕ → List ℕ → ℕ → (ℕ → Bool) → ℕ → Bool
removal_change u own v set w = if set u then xor (set w) (is_in own w) else set w
