-- Changes of what slots tell.
use Rattle.std.specs.Prelude.{◌≡◌, ℕ, Bool, true, if◌then◌else◌, ◌&&◌, ◌==◌, List, Option}
use Rattle.zx_model.specs.Bits.{xor, member}
use Rattle.zx_calculus.specs.Graph.{Kind, Graph, ids, kind_of, joined}
use Rattle.zx_calculus.specs.Scalars.{sum_of_powers}
use Rattle.zx_calculus.proofs.Ids.{removed}
use Rattle.open_graph.specs.declared.turn.Turn.{Turn}
use Rattle.open_graph.specs.Turns.{power_of}
use Rattle.open_graph.specs.declared.slot.Slot.{Slot}
use Rattle.open_graph.specs.Internal.Slots.{Told, nothing, told_at, adjacent, place_among}

-- of u the new slots tell this, and of any other id what the old ones did
abbrev pub Puts : List (Option Slot) → List (Option Slot) → ℕ → Told → Type 0
Puts old new u t = (p : ℕ) → told_at new p ≡ (if p == u then t else told_at old p)

abbrev pub SameTold : List (Option Slot) → List (Option Slot) → Type 0
SameTold old new = (p : ℕ) → told_at new p ≡ told_at old p

-- slots tell the lists of h
pub record Stores (slots : List (Option Slot)) (h : Graph) : Type 0 where
  pub live : (p : ℕ) → (told_at slots p).live ≡ member p (ids h.vertices)
  pub kind : (p : ℕ) → (told_at slots p).live ≡ true → (told_at slots p).kind ≡ kind_of h.vertices p
  pub adjacent : (p q : ℕ) → adjacent slots p q ≡ joined h.edges p q
  pub input : (p : ℕ) → (told_at slots p).input ≡ place_among p h.inputs
  pub output : (p : ℕ) → (told_at slots p).output ≡ place_among p h.outputs

-- the same without v among the neighbours
abbrev pub without_neighbour : ℕ → Told → Told
without_neighbour v t = record t { row = removed v t.row }

-- in the row of p each q is toggled where the pair is picked, and all else stays
pub record RowsToggled (old new : List (Option Slot)) (picked : ℕ → ℕ → Bool) : Type 0 where
  pub others : (p : ℕ) → told_at new p ≡ record (told_at old p) { row = (told_at new p).row }
  pub rows : (p q : ℕ) → adjacent new p q ≡ xor (adjacent old p q) (picked p q)

-- two different listed ones
abbrev pub two_among : List ℕ → ℕ → ℕ → Bool
two_among near p q = member p near && xor (member q near) (q == p)

-- planes and phases change, and all else stays
abbrev pub KindsChanged : (ℕ → Kind → Kind) → List (Option Slot) → List (Option Slot) → Type 0
KindsChanged change old new =
    (p : ℕ) → told_at new p ≡ record (told_at old p) { kind = change p (told_at old p).kind }

-- the powers that turns of the listed ones give
abbrev pub powers_in : Turn → List (Option Slot) → List ℕ → ℕ
powers_in turn slots ps = sum_of_powers (λ p. power_of turn (told_at slots p).kind) ps

-- v is gone, and so is its mention in the rows of these vertices
abbrev pub RemovedFrom : List (Option Slot) → List (Option Slot) → ℕ → List ℕ → Type 0
RemovedFrom old new v rows =
    (p : ℕ) → told_at new p ≡ (if p == v then nothing else if member p rows then without_neighbour v (told_at old p)
    else told_at old p)
