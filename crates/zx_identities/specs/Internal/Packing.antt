-- Phases on parities in words, with a bit for each, and the walk over basis states of low weight.
use Rattle.std.specs.Prelude.{◌≡◌, ◌≤◌, ◌<◌, ◌+◌, ◌*◌, ◌/◌, ◌%◌, ◌^◌, ℕ, Bool, ◌==◌, if◌then◌else◌}
use Rattle.std.specs.Prelude.{List, [], ◌∷◌, get_or, length}
use Rattle.std.specs.Prelude.{bit_and, bit_xor, count_ones}
use Rattle.zx_model.specs.Phase.{turn}
use Rattle.zx_model.specs.Bits.{one_if}
use Rattle.zx_identities.specs.Polynomials.{weight}
use Rattle.zx_identities.specs.declared.parities.Term.{Term}
use Rattle.zx_identities.specs.declared.packing.Group.{Group}
use Rattle.zx_identities.specs.Internal.Parities.{lowest}

-- the answers to a question about terms behind the bits of a number, the last answer in the lowest bit
abbrev pub packed : ℕ → (Term → Bool) → List Term → ℕ
packed word asked [] = word
packed word asked (term ∷ terms) = packed (word * 2 + one_if (asked term)) asked terms

-- whether the parity has a bit set
abbrev pub has_bit : ℕ → Term → Bool
has_bit bit term = lowest (term.parity / 2 ^ bit)

-- whether the phase has so many sixteenth turns in it, a power of two
abbrev pub has_turns : ℕ → Term → Bool
has_turns turns term = (term.phase / turns) % 2 == 1

-- a group holds these terms, whose parities have so many bits, and stands at the basis state 0
pub record IsGroup (bits : ℕ) (terms : List Term) (group : Group) : Type 0 where
  pub rows : (bit : ℕ) → bit < bits → get_or group.rows bit 0 ≡ packed 0 (has_bit bit) terms
  pub odd : group.odd ≡ packed 0 (has_bit 0) terms
  pub ones : group.ones ≡ packed 0 (has_turns 1) terms
  pub twos : group.twos ≡ packed 0 (has_turns 2) terms
  pub fours : group.fours ≡ packed 0 (has_turns 4) terms
  pub eights : group.eights ≡ packed 0 (has_turns 8) terms

-- the phases of a group where the parities of a word are odd
abbrev pub counted : Group → ℕ → ℕ
counted group odd =
    count_ones (bit_and odd group.ones) + 2 * count_ones (bit_and odd group.twos)
    + 4 * count_ones (bit_and odd group.fours) + 8 * count_ones (bit_and odd group.eights)

-- the odd parities where bits of the basis state are set, from a place on
abbrev pub reached : (rows : List ℕ) → (place odd : ℕ) → List Bool → ℕ
reached rows place odd [] = odd
reached rows place odd (b ∷ x) = reached rows (place + 1) (if b then bit_xor odd (get_or rows place 0) else odd) x

-- the phases there
abbrev pub total : List Group → ℕ → List Bool → ℕ
total [] place x = 0
total (group ∷ groups) place x = counted group (reached group.rows place group.odd x) + total groups place x

-- the phases where the walk stands
abbrev pub here : List Group → ℕ
here [] = 0
here (group ∷ groups) = counted group group.odd + here groups

-- a bit of the basis state is set or unset
abbrev pub flipped : ℕ → Group → Group
flipped place group = record group { odd = bit_xor group.odd (get_or group.rows place 0) }

-- the phases are whole turns where at most so many of n bits are set from a place on
abbrev pub AreZero : List Group → (place n most : ℕ) → Type 0
AreZero groups place n most = (x : List Bool) → length x ≡ n → weight x ≤ most → total groups place x % turn ≡ 0
