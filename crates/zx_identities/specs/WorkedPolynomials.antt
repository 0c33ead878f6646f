-- Phase polynomials of controlled Zs, the least that low weights don't tell from 0.
use Rattle.std.specs.Prelude.{ℕ, Bool, true, false, List, [], ◌∷◌}
use Rattle.zx_identities.specs.Polynomials.{Term}

abbrev pub term : List Bool → ℕ → Term
term column phase = record { column = column; phase = phase }

-- a half turn where all three bits are 1: an eighth turn for each odd number of them, and one back for each even number
abbrev pub twice_controlled : List Term
twice_controlled =
    term (true ∷ []) 2 ∷ term (false ∷ true ∷ []) 2 ∷ term (false ∷ false ∷ true ∷ []) 2
    ∷ term (true ∷ true ∷ []) 14 ∷ term (true ∷ false ∷ true ∷ []) 14 ∷ term (false ∷ true ∷ true ∷ []) 14
    ∷ term (true ∷ true ∷ true ∷ []) 2 ∷ []

-- a half turn where all four bits are 1, in the same way by sixteenth turns
abbrev pub thrice_controlled : List Term
thrice_controlled =
    term (true ∷ []) 1 ∷ term (false ∷ true ∷ []) 1
    ∷ term (false ∷ false ∷ true ∷ []) 1 ∷ term (false ∷ false ∷ false ∷ true ∷ []) 1
    ∷ term (true ∷ true ∷ []) 15 ∷ term (true ∷ false ∷ true ∷ []) 15
    ∷ term (true ∷ false ∷ false ∷ true ∷ []) 15 ∷ term (false ∷ true ∷ true ∷ []) 15
    ∷ term (false ∷ true ∷ false ∷ true ∷ []) 15 ∷ term (false ∷ false ∷ true ∷ true ∷ []) 15
    ∷ term (true ∷ true ∷ true ∷ []) 1 ∷ term (true ∷ true ∷ false ∷ true ∷ []) 1
    ∷ term (true ∷ false ∷ true ∷ true ∷ []) 1 ∷ term (false ∷ true ∷ true ∷ true ∷ []) 1
    ∷ term (true ∷ true ∷ true ∷ true ∷ []) 15 ∷ []
