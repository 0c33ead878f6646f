-- Parities of qubits as numbers.
use Rattle.std.proofs.Common.{◌≡◌, ◌⊎◌, inl, inr, ◌≤◌, ℕ, zero, suc, ◌+◌, ◌*◌, ◌/◌, ◌%◌, ◌^◌, ◌<◌, Bool, true, false, not, ◌&&◌, List, [], ◌∷◌, ◌++◌, length, set, get_or, refl, sym, ap, ap₂, ◌∙◌, subst, arith, eqb}
use Rattle.std.specs.Prelude.{if◌then◌else◌, bit_xor}
use Rattle.std.proofs.Math.Nat.{pow-suc, mod-eq_of_lt}
use Rattle.std.proofs.lemmas.Bool.{cases_lt}
use Rattle.std.proofs.lemmas.List.{map-set, get_or-map}
use Rattle.std.proofs.lemmas.Nat.{xor_shr, pow_below}
use lib.Bits.{xor_add_and, bit_and}
use Rattle.zx_model.specs.Bits.{xor, bit}
use Rattle.zx_model.specs.Phase.{turn, half_turn}
use Rattle.zx_model.proofs.BitLemmas.{expand, sum_of_bits}
use Rattle.zx_gates.specs.Circuit.{IsGateOn}
use Rattle.zx_gates.specs.declared.gate.Gate.{Gate}
use Rattle.zx_gates.specs.declared.gate.Gate.TheVariants.{Cx, Not}
use Rattle.zx_identities.specs.BasisStates.{moved, moved_by, turned_by}
use Rattle.zx_identities.proofs.Agreeing.{turned_below}
use Rattle.zx_identities.specs.declared.parities.Term.{Term}
use Rattle.zx_identities.specs.Internal.Parities.{lowest, picked, value, state, term_phase, phase_of, controlled_phase, units_from, IsReading, IsRead}

-- ---- sums of parities
lowest-xor : (a b : ℕ) → lowest (bit_xor a b) ≡ xor (lowest a) (lowest b)
lowest-xor a b =
    ap (λ d. eqb d 1) (same (bit_xor a b) (bit_and a b) (xor_add_and a b))
    ∙ sum_of_bits (a % 2) (b % 2) (omega arith) (omega arith)
  where
    same : (x y : ℕ) → x + y * 2 ≡ a + b → x % 2 ≡ (a % 2 + b % 2) % 2
    same x y e = omega arith

half-xor : (a b : ℕ) → bit_xor a b / 2 ≡ bit_xor (a / 2) (b / 2)
half-xor a b = xor_shr a b 1

regrouped : (a b c p q : Bool) → xor (xor a b && c) (xor p q) ≡ xor (xor (a && c) p) (xor (b && c) q)
regrouped a b c p q = simp expand

pub picked-xor : (a b : ℕ) (x : List Bool) → picked (bit_xor a b) x ≡ xor (picked a x) (picked b x)
picked-xor a b [] = refl
picked-xor a b (c ∷ x) =
    ap₂ (λ l p. xor (l && c) p) (lowest-xor a b) (ap (λ w. picked w x) (half-xor a b) ∙ picked-xor (a / 2) (b / 2) x)
    ∙ regrouped (lowest a) (lowest b) c (picked (a / 2) x) (picked (b / 2) x)

pub picked-zero : (x : List Bool) → picked 0 x ≡ false
picked-zero [] = refl
picked-zero (b ∷ x) = picked-zero x

pub value-xor : (a b : ℕ) (x : List Bool) → value (bit_xor a b) x ≡ xor (value a x) (value b x)
value-xor a b x = picked-xor a b (true ∷ x)

xor-true : (b : Bool) → xor b true ≡ not b
xor-true true = refl
xor-true false = refl

pub value-not : (a : ℕ) (x : List Bool) → value (bit_xor a 1) x ≡ not (value a x)
value-not a x = value-xor a 1 x ∙ ap (λ p. xor (value a x) (not p)) (picked-zero x) ∙ xor-true (value a x)

-- ---- the qubits themselves
lowest-double : (k : ℕ) → lowest (2 * k) ≡ false
lowest-double k = ap (λ d. eqb d 1) (even k)
  where
    even : (k : ℕ) → (2 * k) % 2 ≡ 0
    even k = omega arith

half-double : (k : ℕ) → (2 * k) / 2 ≡ k
half-double k = omega arith

picked-double : (k : ℕ) (b : Bool) (x : List Bool) → picked (2 * k) (b ∷ x) ≡ picked k x
picked-double k b x = ap₂ (λ l w. xor (l && b) (picked w x)) (lowest-double k) (half-double k)

power : (q : ℕ) → 2 ^ suc q ≡ 2 * 2 ^ q
power q = omega (arith, pow-suc 2 q)

xor-false : (b : Bool) → xor b false ≡ b
xor-false true = refl
xor-false false = refl

picked-unit : (q : ℕ) (x : List Bool) → picked (2 ^ q) x ≡ bit x q
picked-unit q [] = refl
picked-unit zero (b ∷ x) = ap (xor b) (picked-zero x) ∙ xor-false b
picked-unit (suc q) (b ∷ x) = ap (λ w. picked w (b ∷ x)) (power q) ∙ picked-double (2 ^ q) b x ∙ picked-unit q x

pub value-unit : (q : ℕ) (x : List Bool) → value (2 * 2 ^ q) x ≡ bit x q
value-unit q x = picked-double (2 ^ q) true x ∙ picked-unit q x

-- the bits of a list from a place on
state-units : (n q : ℕ) (x y : List Bool) → length y ≡ n → ((i : ℕ) → bit x (q + i) ≡ bit y i) → state (units_from n q) x ≡ y
state-units zero q x [] l same = refl
state-units zero q x (b ∷ y) l same = absurd (omega arith)
state-units (suc n) q x [] l same = absurd (omega arith)
state-units (suc n) q x (b ∷ y) l same =
    ap₂ ◌∷◌ (value-unit q x ∙ ap (bit x) (at_first q) ∙ same 0)
    (state-units n (suc q) x y (omega arith) (λ i. ap (bit x) (one_more q i) ∙ same (suc i)))
  where
    at_first : (q : ℕ) → q ≡ q + 0
    at_first q = omega arith

    one_more : (q i : ℕ) → suc q + i ≡ q + suc i
    one_more q i = omega arith

pub units_keep : (n : ℕ) (x : List Bool) → length x ≡ n → state (units_from n 0) x ≡ x
units_keep n x l = state-units n 0 x x l (λ i. ap (bit x) (none i))
  where
    none : (i : ℕ) → 0 + i ≡ i
    none i = omega arith

-- ---- gates
pub state-bit : (parities : List ℕ) (q : ℕ) (x : List Bool) → q < length parities → bit (state parities x) q ≡ value (get_or parities q 0) x
state-bit parities q x below = get_or-map (λ w. value w x) parities q 0 false below

pub state-set : (parities : List ℕ) (q w : ℕ) (x : List Bool) → state (set parities q w) x ≡ set (state parities x) q (value w x)
state-set parities q w x = map-set (λ v. value v x) parities q w

pub phase_of-append : (terms : List Term) (term : Term) (x : List Bool) →
    phase_of (terms ++ term ∷ []) x ≡ phase_of terms x + term_phase term.parity term.phase x
phase_of-append [] term x = swapped (term_phase term.parity term.phase x)
  where
    swapped : (k : ℕ) → k + 0 ≡ 0 + k
    swapped k = omega arith
phase_of-append (first ∷ terms) term x =
    ap (λ k. term_phase first.parity first.phase x + k) (phase_of-append terms term x)
    ∙ grouped (term_phase first.parity first.phase x) (phase_of terms x) (term_phase term.parity term.phase x)
  where
    grouped : (a b c : ℕ) → a + (b + c) ≡ (a + b) + c
    grouped a b c = omega arith

-- a quarter turn at either parity and three at their sum
quarters : (k : ℕ) (p q : Bool) → (((k + (if p then 4 else 0)) + (if q then 4 else 0)) + (if xor p q then 12 else 0)) % turn ≡ (k + (if p && q then half_turn else 0)) % turn
quarters k true true = omega arith
quarters k true false = omega arith
quarters k false true = omega arith
quarters k false false = omega arith

pub controlled : (k one other : ℕ) (x : List Bool) →
    (((k + term_phase one 4 x) + term_phase other 4 x) + term_phase (bit_xor one other) 12 x) % turn ≡ (k + controlled_phase one other x) % turn
controlled k one other x =
    ap (λ b. (((k + term_phase one 4 x) + term_phase other 4 x) + (if b then 12 else 0)) % turn) (value-xor one other x)
    ∙ quarters k (value one x) (value other x)

pub on_cx : (gate : Gate) (parities : List ℕ) (a b c control target : ℕ) → gate ≡ Cx control target → a ≡ control → b ≡ target → c ≡ target → IsGateOn (length parities) gate
    → (x : List Bool) → state (set parities c (bit_xor (get_or parities a 0) (get_or parities b 0))) x ≡ moved gate (state parities x)
on_cx gate parities a b c control target is ea eb ec on x =
    ap₂ (λ t w. state (set parities t w) x) ec (ap₂ (λ i j. bit_xor (get_or parities i 0) (get_or parities j 0)) ea eb)
    ∙ state-set parities target (bit_xor (get_or parities control 0) (get_or parities target 0)) x
    ∙ ap (set (state parities x) target)
    (value-xor (get_or parities control 0) (get_or parities target 0) x
    ∙ sym (ap₂ xor (state-bit parities control x at.0.0) (state-bit parities target x at.0.1)))
    ∙ ap (λ g. moved g (state parities x)) (sym is)
  where
    at : IsGateOn (length parities) (Cx control target)
    at = subst (IsGateOn (length parities)) is on

pub on_not : (gate : Gate) (parities : List ℕ) (a b q : ℕ) → gate ≡ Not q → a ≡ q → b ≡ q → IsGateOn (length parities) gate
    → (x : List Bool) → state (set parities b (bit_xor (get_or parities a 0) 1)) x ≡ moved gate (state parities x)
on_not gate parities a b q is ea eb on x =
    ap₂ (λ t i. state (set parities t (bit_xor (get_or parities i 0) 1)) x) eb ea
    ∙ state-set parities q (bit_xor (get_or parities q 0) 1) x
    ∙ ap (set (state parities x) q) (value-not (get_or parities q 0) x ∙ sym (ap not (state-bit parities q x at.0)))
    ∙ ap (λ g. moved g (state parities x)) (sym is)
  where
    at : IsGateOn (length parities) (Not q)
    at = subst (IsGateOn (length parities)) is on

-- ---- lists of the qubits themselves
pub units-more : (n q : ℕ) → units_from n q ++ (2 * 2 ^ (q + n)) ∷ [] ≡ units_from (suc n) q
units-more zero q = ap (λ k. (2 * 2 ^ k) ∷ []) (none q)
  where
    none : (q : ℕ) → q + 0 ≡ q
    none q = omega arith
units-more (suc n) q = ap (λ us. (2 * 2 ^ q) ∷ us) (ap (λ k. units_from n (suc q) ++ (2 * 2 ^ k) ∷ []) (later q n) ∙ units-more n (suc q))
  where
    later : (q n : ℕ) → q + suc n ≡ suc q + n
    later q n = omega arith

pub unit-at : (n q k : ℕ) → k < n → get_or (units_from n q) k 0 ≡ 2 * 2 ^ (q + k)
unit-at zero q k below = absurd (omega arith)
unit-at (suc n) q zero below = ap (λ k. 2 * 2 ^ k) (none q)
  where
    none : (q : ℕ) → q ≡ q + 0
    none q = omega arith
unit-at (suc n) q (suc k) below = unit-at n (suc q) k (omega arith) ∙ ap (λ k. 2 * 2 ^ k) (later q k)
  where
    later : (q k : ℕ) → suc q + k ≡ q + suc k
    later q k = omega arith

pub units_known : (xs : List ℕ) (q : ℕ) → ((k : ℕ) → k < length xs → get_or xs k 0 ≡ 2 * 2 ^ (q + k)) → xs ≡ units_from (length xs) q
units_known [] q known = refl
units_known (x ∷ xs) q known =
    ap₂ ◌∷◌ (known 0 (omega arith) ∙ ap (λ k. 2 * 2 ^ k) (none q)) (units_known xs (suc q) (λ k below. known (suc k) (omega arith) ∙ ap (λ k. 2 * 2 ^ k) (later q k)))
  where
    none : (q : ℕ) → q + 0 ≡ q
    none q = omega arith

    later : (q k : ℕ) → q + suc k ≡ suc q + k
    later q k = omega arith

pub units-next : (q : ℕ) → units_from q 0 ++ (2 * 2 ^ q) ∷ [] ≡ units_from (q + 1) 0
units-next q = ap (λ k. units_from q 0 ++ (2 * 2 ^ k) ∷ []) (none q) ∙ units-more q 0 ∙ ap (λ k. units_from k 0) (later q)
  where
    none : (q : ℕ) → q ≡ 0 + q
    none q = omega arith

    later : (q : ℕ) → suc q ≡ q + 1
    later q = omega arith

pub length-units : (n q : ℕ) → length (units_from n q) ≡ n
length-units zero q = refl
length-units (suc n) q = ap suc (length-units n (suc q))

pub shl_fits : (q : ℕ) → q < 127 → (2 * 2 ^ q) % 2 ^ 128 ≡ 2 * 2 ^ q
shl_fits q below = mod-eq_of_lt (subst (λ k. k < 2 ^ 128) (power q) (pow_below (suc q) 128 (omega arith)))

-- those so far, and one more
pub units_so_far : (xs : List ℕ) (q v : ℕ) → ((k : ℕ) → k < q → get_or xs k 0 ≡ 2 * 2 ^ k) → get_or xs q 0 ≡ v → v ≡ 2 * 2 ^ q
    → (k : ℕ) → k < q + 1 → get_or xs k 0 ≡ 2 * 2 ^ k
units_so_far xs q v before here fits k below = at (cases_lt k q)
  where
    last : (k q : ℕ) → k < q + 1 → q ≤ k → q ≡ k
    last k q below least = omega arith

    at : (k < q) ⊎ (q ≤ k) → get_or xs k 0 ≡ 2 * 2 ^ k
    at (inl earlier) = before k earlier
    at (inr least) = subst (λ j. get_or xs j 0 ≡ 2 * 2 ^ j) (last k q below least) (here ∙ fits)

pub units_seen : (xs : List ℕ) (q : ℕ) → length xs ≤ q → ((k : ℕ) → k < q → get_or xs k 0 ≡ 2 * 2 ^ k) → xs ≡ units_from (length xs) 0
units_seen xs q all known = units_known xs 0 (λ k below. known k (omega arith) ∙ ap (λ j. 2 * 2 ^ j) (none k))
  where
    none : (k : ℕ) → k ≡ 0 + k
    none k = omega arith

pub unit_there : (xs : List ℕ) (q v : ℕ) → q < length xs → v ≡ 2 * 2 ^ q → xs ≡ units_from (length xs) 0 → get_or xs q 0 ≡ v
unit_there xs q v below fits all = ap (λ ys. get_or ys q 0) all ∙ unit-at (length xs) 0 q below ∙ ap (λ j. 2 * 2 ^ j) (none q) ∙ sym fits
  where
    none : (k : ℕ) → 0 + k ≡ k
    none k = omega arith

-- ---- a list of gates
pub read-first : (n : ℕ) (all : List Gate) (parities : List ℕ) (terms : List Term) → parities ≡ units_from n 0 → terms ≡ [] → IsRead n all all parities terms
read-first n all parities terms units none = record {
  len = ap length units ∙ length-units n 0;
  moves = λ x l. ap (λ ps. moved_by all (state ps x)) units ∙ ap (moved_by all) (units_keep n x l);
  turns = λ x l.
      ap₂ (λ ts ps. (phase_of ts x + turned_by all (state ps x)) % turn) none units
      ∙ ap (λ z. (0 + turned_by all z) % turn) (units_keep n x l)
      ∙ small (turned_by all x) (turned_below all x);
}
  where
    small : (k : ℕ) → k < turn → (0 + k) % turn ≡ k
    small k below = omega arith

pub read-end : (n : ℕ) (all left : List Gate) (ps : List ℕ) (terms : List Term) → IsRead n all left ps terms → left ≡ [] → ps ≡ units_from (length ps) 0 → IsReading n all terms
read-end n all left ps terms read none units x l = (
  sym (read.moves x l) ∙ ap (λ gates. moved_by gates (state ps x)) none ∙ kept,
  unchanged (phase_of terms x) ∙ sym (ap (λ gates. (phase_of terms x + turned_by gates (state ps x)) % turn) none) ∙ read.turns x l,
)
  where
    kept : state ps x ≡ x
    kept = ap (λ qs. state qs x) (units ∙ ap (λ k. units_from k 0) read.len) ∙ units_keep n x l

    unchanged : (k : ℕ) → k % turn ≡ (k + 0) % turn
    unchanged k = omega arith
