-- Lists of gates that are being tidied, in which gates are linked, qubit by qubit, to the gates before them.
use Rattle.std.specs.Prelude.{◌≡◌, ◌≢◌, ◌⊎◌, ◌==◌, ◌&&◌, ◌+◌, ◌<◌, ◌≤◌, not, if◌then◌else◌, ◌++◌, ℕ}
use Rattle.std.specs.Prelude.{Bool, true, List, Option, Some, None, length}
use Rattle.std.specs.Prelude.{slice_index_or, slice_set, take, drop, IsTrue}
use Rattle.std.specs.List.{filter}
use Rattle.zx_gates.specs.declared.gate.Gate.{Gate}
use Rattle.zx_gates.specs.declared.gate.Gate.TheVariants.{H, Phase, Cz, Cx, Not}
use Rattle.zx_gates.specs.declared.gate_list.Links.{Links}
use Rattle.zx_gates.specs.Circuit.{most_qubits, gate_limit, IsGateOn}
use Rattle.zx_peephole.specs.Commuting.{is_on}
use Rattle.zx_peephole.specs.Internal.Marks.{IsMarked}
use Rattle.zx_peephole.specs.declared.chains.Chains.{Chains}

-- ---- gates that are gone
-- what stands at the place of a gate that is gone: a phase gate of the phase 0
abbrev pub nothing : Gate
nothing = Phase 0 0

-- whether there is still a gate
abbrev pub is_left : Gate → Bool
is_left (Phase q k) = not (k == 0)
is_left gate = true

abbrev pub gate_at : List Gate → ℕ → Gate
gate_at gates i = slice_index_or gates i nothing

-- a gate on the qubit is left at place i
abbrev pub IsOn : List Gate → ℕ → ℕ → Type 0
IsOn gates q i = IsTrue (is_left (gate_at gates i) && is_on q (gate_at gates i))

-- ---- chains
-- a gate's qubits, the second of which is the first of one
abbrev pub first_qubit : Gate → ℕ
first_qubit (H q) = q
first_qubit (Phase q k) = q
first_qubit (Cz q r) = q
first_qubit (Cx control target) = control
first_qubit (Not q) = q

abbrev pub second_qubit : Gate → ℕ
second_qubit (H q) = q
second_qubit (Phase q k) = q
second_qubit (Cz q r) = r
second_qubit (Cx control target) = target
second_qubit (Not q) = q

abbrev pub no_links : Links
no_links = record { first = 0; second = 0 }

-- the link of a gate for one of its qubits
abbrev pub link_of : ℕ → Gate → Links → ℕ
link_of q gate links = if first_qubit gate == q then links.first else links.second

abbrev pub link_at : List Gate → List Links → ℕ → ℕ → ℕ
link_at gates links q i = link_of q (gate_at gates i) (slice_index_or links i no_links)

-- of the places before i, there are n up to and with the last one at which `On` holds, or n is 0
pub record IsLast (On : ℕ → Type 0) (i n : ℕ) : Type 0 where
  pub within : n ≤ i
  pub behind : (j : ℕ) → n ≤ j → j < i → On j → ⊥
  pub there : (j : ℕ) → n ≡ j + 1 → On j

-- the places before the next one at which `On` holds are a chain, each linked to the one before it
pub record IsChain (On : ℕ → Type 0) (link : ℕ → ℕ) (last next : ℕ) : Type 0 where
  pub last_of : IsLast On next last
  pub links : (i : ℕ) → i < next → On i → IsLast On i (link i)

abbrev pub IsChainOf : Chains → ℕ → Type 0
IsChainOf w q = IsChain (IsOn w.gates.items q) (link_at w.gates.items w.links.items q)
    (slice_index_or w.last.items q 0) w.next

-- it holds at other places than p
abbrev pub Without : ℕ → (ℕ → Type 0) → ℕ → Type 0
Without p On i = On i × (i ≢ p)

-- there is room to link each gate and the last gate on each qubit, and a row of marks for each qubit; and places have
-- numbers of 32 bits
pub record HasPlaces (w : Chains) : Type 0 where
  pub linked : w.qubits ≤ length w.last.items
  pub marked : w.qubits ≤ length w.marks.items
  pub within : w.next ≤ length w.gates.items
  pub few_gates : length w.gates.items < gate_limit
  pub enough : length w.gates.items ≤ length w.links.items

-- the gates that are kept
abbrev pub kept : Chains → List Gate
kept w = filter is_left (take w.next w.gates.items)

-- what holds of a list while it is tidied: the gates that are kept are linked, and the Cz of them marked; those that
-- aren't read yet are all left, and all that are left are on the qubits
pub record IsSound (w : Chains) : Type 0 where
  pub places : HasPlaces w
  pub chains : (q : ℕ) → q < most_qubits → IsChainOf w q
  pub marks : IsMarked w.marks.items (kept w)
  pub few_qubits : w.qubits ≤ most_qubits
  pub on_qubits : (i : ℕ) → i < length w.gates.items → IsTrue (is_left (gate_at w.gates.items i))
      → IsGateOn w.qubits (gate_at w.gates.items i)
  pub unread : (i : ℕ) → w.next ≤ i → i < length w.gates.items → IsTrue (is_left (gate_at w.gates.items i))

-- ---- the list as it is now
-- how many of them stand before place i
abbrev pub left_before : Chains → ℕ → ℕ
left_before w i = length (filter is_left (take i w.gates.items))

-- the gate that is read next
abbrev pub next_of : Chains → Gate
next_of w = gate_at w.gates.items w.next

-- all that are left, also those that aren't read yet
abbrev pub all_left : Chains → List Gate
all_left w = kept w ++ drop w.next w.gates.items

-- a gate is left to read
pub record IsReading (w : Chains) : Type 0 where
  pub sound : IsSound w
  pub more : w.next < length w.gates.items

-- a gate is kept at place i
pub record IsLeftAt (w : Chains) (i : ℕ) : Type 0 where
  pub before : i < w.next
  pub left : IsTrue (is_left (gate_at w.gates.items i))

-- ---- changes of it
-- the link of the gate at place i for the qubit is n now, and no other
pub record IsRelinked (old new : Chains) (i qubit n : ℕ) : Type 0 where
  pub same : new ≡ record old { links = new.links }
  pub room : length new.links.items ≡ length old.links.items
  pub here : link_at old.gates.items new.links.items qubit i ≡ n
  pub elsewhere : (q j : ℕ) → IsOn old.gates.items q j → ((q ≢ qubit) ⊎ (j ≢ i))
      → link_at old.gates.items new.links.items q j ≡ link_at old.gates.items old.links.items q j

-- the gate at place k is the one on the qubit that is linked to that at place i
pub record IsLater (w : Chains) (i qubit k : ℕ) : Type 0 where
  pub before : k < w.next
  pub on : IsOn w.gates.items qubit k
  pub linked : link_at w.gates.items w.links.items qubit k ≡ i + 1

-- the chain of a qubit leaves the gate at place i out, and no other chain has changed
pub record IsUnlinked (old new : Chains) (i qubit : ℕ) : Type 0 where
  pub same : new ≡ record old { links = new.links; last = new.last }
  pub room : length new.links.items ≡ length old.links.items
  pub table : length new.last.items ≡ length old.last.items
  pub chain : IsChain (Without i (IsOn old.gates.items qubit)) (link_at old.gates.items new.links.items qubit)
      (slice_index_or new.last.items qubit 0) old.next
  pub last : (q : ℕ) → q ≢ qubit → slice_index_or new.last.items q 0 ≡ slice_index_or old.last.items q 0
  pub links : (q j : ℕ) → q ≢ qubit → IsOn old.gates.items q j
      → link_at old.gates.items new.links.items q j ≡ link_at old.gates.items old.links.items q j

-- each chain leaves the gate at place i out
pub record IsUnlinkedFromAll (old new : Chains) (i : ℕ) : Type 0 where
  pub same : new ≡ record old { links = new.links; last = new.last }
  pub room : length new.links.items ≡ length old.links.items
  pub table : length new.last.items ≡ length old.last.items
  pub chains : (q : ℕ) → q < most_qubits → IsChain (Without i (IsOn old.gates.items q))
      (link_at old.gates.items new.links.items q) (slice_index_or new.last.items q 0) old.next

-- nothing stands at place i now
pub record IsRemoved (old new : Chains) (i : ℕ) : Type 0 where
  pub gates : new.gates.items ≡ slice_set old.gates.items i nothing
  pub qubits : new.qubits ≡ old.qubits
  pub next : new.next ≡ old.next

-- ---- the walk along a chain
-- the link is that of the gate found so far, or the first of the chain
abbrev pub IsLinkOf : Chains → ℕ → ℕ → Option ℕ → Type 0
IsLinkOf w qubit link None = slice_index_or w.last.items qubit 0 ≡ link
IsLinkOf w qubit link (Some k) = (k < w.next) × IsOn w.gates.items qubit k
    × (link_at w.gates.items w.links.items qubit k ≡ link)
