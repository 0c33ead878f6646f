-- Phases on parities in words.
use Rattle.std.proofs.Common.{◌≡◌, ◌⊎◌, inl, inr, ℕ, zero, suc, ◌+◌, ◌*◌, ◌/◌, ◌%◌, ◌^◌, ◌<◌, ◌≤◌, Bool, true, false, ◌&&◌, List, [], ◌∷◌, ◌++◌, length, get_or, set, drop, min, refl, sym, ap, ap₂, ◌∙◌, subst, arith, eqb}
use Rattle.std.specs.List.{slice_range}
use Rattle.std.specs.Prelude.{if◌then◌else◌, bit_and, bit_xor, count_ones}
use Rattle.std.proofs.Math.Nat.{div-one}
use Rattle.std.proofs.lemmas.Nat.{xor_block, shr-shr, ones-le}
use Rattle.std.proofs.lemmas.Bool.{cases_lt}
use Rattle.std.proofs.lemmas.List.{get_or-set_same, get_or-set_other}
use Rattle.std.proofs.lemmas.List.Folds.{drop_split}
use lib.Bits.{and_step}
use lib.Count.{ones_step}
use Rattle.zx_model.specs.Bits.{xor, one_if}
use Rattle.zx_model.specs.Phase.{turn}
use Rattle.zx_model.proofs.BitLemmas.{expand}
use Rattle.zx_identities.specs.declared.parities.Term.{Term}
use Rattle.zx_identities.specs.declared.packing.Group.{Group}
use Rattle.zx_identities.specs.Internal.Parities.{lowest, picked, value, term_phase, phase_of}
use Rattle.zx_identities.specs.Internal.Packing.{packed, has_bit, has_turns, IsGroup, counted, reached, total}

-- ---- one bit more
xor_bits : (s t : Bool) → bit_xor (one_if s) (one_if t) ≡ one_if (xor s t)
xor_bits true true = refl
xor_bits true false = refl
xor_bits false true = refl
xor_bits false false = refl

one_if_small : (s : Bool) → one_if s < 2 ^ 1
one_if_small true = omega arith
one_if_small false = omega arith

xor-more : (a c : ℕ) (s t : Bool) → bit_xor (a * 2 + one_if s) (c * 2 + one_if t) ≡ bit_xor a c * 2 + one_if (xor s t)
xor-more a c s t = xor_block 1 a c (one_if s) (one_if t) (one_if_small s) (one_if_small t) ∙ ap (λ b. bit_xor a c * 2 + b) (xor_bits s t)

half-more : (a : ℕ) (s : Bool) → (a * 2 + one_if s) / 2 ≡ a
half-more a true = omega arith
half-more a false = omega arith

last-more : (a : ℕ) (s : Bool) → (a * 2 + one_if s) % 2 ≡ one_if s
last-more a true = omega arith
last-more a false = omega arith

least : (s t : Bool) → min (one_if s) (one_if t) ≡ one_if (s && t)
least true true = refl
least true false = refl
least false true = refl
least false false = refl

and-more : (a c : ℕ) (s t : Bool) → bit_and (a * 2 + one_if s) (c * 2 + one_if t) ≡ bit_and a c * 2 + one_if (s && t)
and-more a c s t =
    and_step (a * 2 + one_if s) (c * 2 + one_if t)
    ∙ ap₂ (λ w b. w * 2 + b) (ap₂ bit_and (half-more a s) (half-more c t)) (ap₂ min (last-more a s) (last-more c t) ∙ least s t)

ones-more : (a : ℕ) (s : Bool) → count_ones (a * 2 + one_if s) ≡ count_ones a + one_if s
ones-more a s =
    ones_step (a * 2 + one_if s) ∙ ap₂ (λ b w. b + count_ones w) (last-more a s) (half-more a s) ∙ swapped (one_if s) (count_ones a)
  where
    swapped : (j k : ℕ) → j + k ≡ k + j
    swapped j k = omega arith

-- ---- words
pub packed-same : (w : ℕ) (f g : Term → Bool) (terms : List Term) → ((t : Term) → f t ≡ g t) → packed w f terms ≡ packed w g terms
packed-same w f g [] same = refl
packed-same w f g (t ∷ terms) same = ap (λ b. packed (w * 2 + one_if b) f terms) (same t) ∙ packed-same (w * 2 + one_if (g t)) f g terms same

packed-xor : (a c : ℕ) (f g : Term → Bool) (terms : List Term) →
    bit_xor (packed a f terms) (packed c g terms) ≡ packed (bit_xor a c) (λ t. xor (f t) (g t)) terms
packed-xor a c f g [] = refl
packed-xor a c f g (t ∷ terms) =
    packed-xor (a * 2 + one_if (f t)) (c * 2 + one_if (g t)) f g terms
    ∙ ap (λ w. packed w (λ s. xor (f s) (g s)) terms) (xor-more a c (f t) (g t))

-- how many terms have both answers
abbrev common : (f g : Term → Bool) → List Term → ℕ
common f g [] = 0
common f g (t ∷ terms) = one_if (f t && g t) + common f g terms

ones-packed : (a c : ℕ) (f g : Term → Bool) (terms : List Term) →
    count_ones (bit_and (packed a f terms) (packed c g terms)) ≡ count_ones (bit_and a c) + common f g terms
ones-packed a c f g [] = none (count_ones (bit_and a c))
  where
    none : (k : ℕ) → k ≡ k + 0
    none k = omega arith
ones-packed a c f g (t ∷ terms) =
    ones-packed (a * 2 + one_if (f t)) (c * 2 + one_if (g t)) f g terms
    ∙ ap (λ k. k + common f g terms) (ap count_ones (and-more a c (f t) (g t)) ∙ ones-more (bit_and a c) (f t && g t))
    ∙ grouped (count_ones (bit_and a c)) (one_if (f t && g t)) (common f g terms)
  where
    grouped : (j k m : ℕ) → j + k + m ≡ j + (k + m)
    grouped j k m = omega arith

common_packed : (f g : Term → Bool) (terms : List Term) → count_ones (bit_and (packed 0 f terms) (packed 0 g terms)) ≡ common f g terms
common_packed f g terms = ones-packed 0 0 f g terms ∙ none (count_ones 0) (common f g terms) (ones-le 0 0 (omega arith))
  where
    none : (j k : ℕ) → j ≤ 0 → j + k ≡ k
    none j k few = omega arith

-- ---- phases by their bits
one_if-bit : (d : ℕ) → d < 2 → one_if (eqb d 1) ≡ d
one_if-bit zero below = refl
one_if-bit (suc zero) below = refl
one_if-bit (suc (suc d)) below = absurd (omega arith)

abbrev by_bits : (f : Term → Bool) → List Term → ℕ
by_bits f terms = common f (has_turns 1) terms + 2 * common f (has_turns 2) terms + 4 * common f (has_turns 4) terms + 8 * common f (has_turns 8) terms

abbrev where_odd : (f : Term → Bool) → List Term → ℕ
where_odd f [] = 0
where_odd f (t ∷ terms) = (if f t then t.phase else 0) + where_odd f terms

four_bits : (k : ℕ) → (((k / 1) % 2 + 2 * ((k / 2) % 2) + 4 * ((k / 4) % 2)) + 8 * ((k / 8) % 2)) % turn ≡ k % turn
four_bits k = omega arith

one_term : (k : ℕ) (b : Bool) →
    (((one_if (b && eqb ((k / 1) % 2) 1) + 2 * one_if (b && eqb ((k / 2) % 2) 1)) + 4 * one_if (b && eqb ((k / 4) % 2) 1)) + 8 * one_if (b && eqb ((k / 8) % 2) 1)) % turn
    ≡ (if b then k else 0) % turn
one_term k false = refl
one_term k true =
    ap₂ (λ s t. ((s + t) + 4 * one_if (eqb ((k / 4) % 2) 1) + 8 * one_if (eqb ((k / 8) % 2) 1)) % turn) (digit (k / 1)) (ap (λ d. 2 * d) (digit (k / 2)))
    ∙ ap₂ (λ s t. (((k / 1) % 2 + 2 * ((k / 2) % 2)) + s + t) % turn) (ap (λ d. 4 * d) (digit (k / 4))) (ap (λ d. 8 * d) (digit (k / 8)))
    ∙ four_bits k
  where
    digit : (m : ℕ) → one_if (eqb (m % 2) 1) ≡ m % 2
    digit m = one_if-bit (m % 2) (omega arith)

by_bits_odd : (f : Term → Bool) (terms : List Term) → by_bits f terms % turn ≡ where_odd f terms % turn
by_bits_odd f [] = refl
by_bits_odd f (t ∷ terms) =
    joined (one_if (f t && has_turns 1 t)) (one_if (f t && has_turns 2 t)) (one_if (f t && has_turns 4 t)) (one_if (f t && has_turns 8 t))
    (common f (has_turns 1) terms) (common f (has_turns 2) terms) (common f (has_turns 4) terms) (common f (has_turns 8) terms)
    (if f t then t.phase else 0) (where_odd f terms) (one_term t.phase (f t)) (by_bits_odd f terms)
  where
    joined : (a b c d p q r s k m : ℕ) → (a + 2 * b + 4 * c + 8 * d) % turn ≡ k % turn → (p + 2 * q + 4 * r + 8 * s) % turn ≡ m % turn
        → ((a + p) + 2 * (b + q) + 4 * (c + r) + 8 * (d + s)) % turn ≡ (k + m) % turn
    joined a b c d p q r s k m e f = omega arith

where_value : (terms : List Term) (x : List Bool) → where_odd (λ t. value t.parity x) terms ≡ phase_of terms x
where_value [] x = refl
where_value (t ∷ terms) x = ap (λ k. term_phase t.parity t.phase x + k) (where_value terms x)

-- ---- a group
pub reached-packed : (rows : List ℕ) (bits : ℕ) (terms : List Term) → ((bit : ℕ) → bit < bits → get_or rows bit 0 ≡ packed 0 (has_bit bit) terms)
    → (place : ℕ) (x : List Bool) (f : Term → Bool) → place + length x ≤ bits
    → reached rows place (packed 0 f terms) x ≡ packed 0 (λ t. xor (f t) (picked (t.parity / 2 ^ place) x)) terms
reached-packed rows bits terms known place [] f within = packed-same 0 f (λ t. xor (f t) false) terms (λ t. same (f t))
  where
    same : (b : Bool) → b ≡ xor b false
    same true = refl
    same false = refl
reached-packed rows bits terms known place (b ∷ x) f within =
    ap (λ w. reached rows (place + 1) w x) (step b)
    ∙ reached-packed rows bits terms known (place + 1) x (λ t. xor (f t) (has_bit place t && b)) (omega arith)
    ∙ packed-same 0 _ _ terms
    (λ t. ap (λ w. xor (xor (f t) (has_bit place t && b)) (picked w x)) (sym (shr-shr t.parity place 1)) ∙ assoc (f t) (has_bit place t && b) (picked (t.parity / 2 ^ place / 2) x))
  where
    assoc : (p q r : Bool) → xor (xor p q) r ≡ xor p (xor q r)
    assoc p q r = simp expand

    with_it : (p q : Bool) → xor p q ≡ xor p (q && true)
    with_it p q = simp expand

    without_it : (p q : Bool) → p ≡ xor p (q && false)
    without_it p q = simp expand

    step : (c : Bool) → (if c then bit_xor (packed 0 f terms) (get_or rows place 0) else packed 0 f terms) ≡ packed 0 (λ t. xor (f t) (has_bit place t && c)) terms
    step true =
        ap (bit_xor (packed 0 f terms)) (known place (omega arith)) ∙ packed-xor 0 0 f (has_bit place) terms
        ∙ packed-same 0 _ _ terms (λ t. with_it (f t) (has_bit place t))
    step false = packed-same 0 _ _ terms (λ t. without_it (f t) (has_bit place t))

counted-packed : (bits : ℕ) (terms : List Term) (group : Group) → IsGroup bits terms group → (f : Term → Bool) → counted group (packed 0 f terms) ≡ by_bits f terms
counted-packed bits terms group is f =
    ap₂ (λ s t. s + 2 * t + 4 * count_ones (bit_and (packed 0 f terms) group.fours) + 8 * count_ones (bit_and (packed 0 f terms) group.eights))
    (ap (λ w. count_ones (bit_and (packed 0 f terms) w)) is.ones ∙ common_packed f (has_turns 1) terms)
    (ap (λ w. count_ones (bit_and (packed 0 f terms) w)) is.twos ∙ common_packed f (has_turns 2) terms)
    ∙ ap₂ (λ s t. common f (has_turns 1) terms + 2 * common f (has_turns 2) terms + 4 * s + 8 * t)
    (ap (λ w. count_ones (bit_and (packed 0 f terms) w)) is.fours ∙ common_packed f (has_turns 4) terms)
    (ap (λ w. count_ones (bit_and (packed 0 f terms) w)) is.eights ∙ common_packed f (has_turns 8) terms)

pub group_phase : (bits : ℕ) (terms : List Term) (group : Group) → IsGroup bits terms group → (x : List Bool) → length x < bits →
    counted group (reached group.rows 1 group.odd x) % turn ≡ phase_of terms x % turn
group_phase bits terms group is x within =
    ap (λ w. counted group (reached group.rows 1 w x) % turn) is.odd
    ∙ ap (λ w. counted group w % turn) (reached-packed group.rows bits terms is.rows 1 x (has_bit 0) (omega arith) ∙ packed-same 0 _ _ terms at_value)
    ∙ ap (λ k. k % turn) (counted-packed bits terms group is (λ t. value t.parity x))
    ∙ by_bits_odd (λ t. value t.parity x) terms
    ∙ ap (λ k. k % turn) (where_value terms x)
  where
    kept : (b : Bool) → b ≡ (b && true)
    kept true = refl
    kept false = refl

    at_value : (t : Term) → xor (has_bit 0 t) (picked (t.parity / 2 ^ 1) x) ≡ value t.parity x
    at_value t = ap (λ b. xor b (picked (t.parity / 2) x)) (ap lowest (div-one t.parity) ∙ kept (lowest t.parity))

-- ---- groups
pub total-append : (groups : List Group) (group : Group) (place : ℕ) (x : List Bool) →
    total (groups ++ group ∷ []) place x ≡ total groups place x + counted group (reached group.rows place group.odd x)
total-append [] group place x = swapped (counted group (reached group.rows place group.odd x))
  where
    swapped : (k : ℕ) → k + 0 ≡ 0 + k
    swapped k = omega arith
total-append (first ∷ groups) group place x =
    ap (λ k. counted first (reached first.rows place first.odd x) + k) (total-append groups group place x)
    ∙ grouped (counted first (reached first.rows place first.odd x)) (total groups place x) (counted group (reached group.rows place group.odd x))
  where
    grouped : (a b c : ℕ) → a + (b + c) ≡ a + b + c
    grouped a b c = omega arith

pub phase_of-concat : (terms more : List Term) (x : List Bool) → phase_of (terms ++ more) x ≡ phase_of terms x + phase_of more x
phase_of-concat [] more x = none (phase_of more x)
  where
    none : (k : ℕ) → k ≡ 0 + k
    none k = omega arith
phase_of-concat (t ∷ terms) more x =
    ap (λ k. term_phase t.parity t.phase x + k) (phase_of-concat terms more x) ∙ grouped (term_phase t.parity t.phase x) (phase_of terms x) (phase_of more x)
  where
    grouped : (a b c : ℕ) → a + (b + c) ≡ a + b + c
    grouped a b c = omega arith

pub known_more : (F : ℕ → ℕ) (rows : List ℕ) (k v : ℕ) → k < length rows → ((j : ℕ) → j < k → get_or rows j 0 ≡ F j) → v ≡ F k
    → (j : ℕ) → j < k + 1 → get_or (set rows k v) j 0 ≡ F j
known_more F rows k v within before here j below = at (cases_lt j k)
  where
    last : (j k : ℕ) → j < k + 1 → k ≤ j → k ≡ j
    last j k below least = omega arith

    apart : (j k : ℕ) → j < k → j ≡ k → ⊥
    apart j k less e = omega arith

    at : (j < k) ⊎ (k ≤ j) → get_or (set rows k v) j 0 ≡ F j
    at (inl less) = get_or-set_other rows k j v 0 (apart j k less) ∙ before j less
    at (inr least) = subst (λ i. get_or (set rows k v) i 0 ≡ F i) (last j k below least) (get_or-set_same rows k v 0 within ∙ here)

pub groups_more : (bits : ℕ) (terms : List Term) (groups : List Group) (group : Group) (more : List Group) (start end : ℕ) → start ≤ end
    → IsGroup bits (slice_range terms start end) group → more ≡ groups ++ group ∷ []
    → ((x : List Bool) → length x < bits → (total groups 1 x + phase_of (drop start terms) x) % turn ≡ phase_of terms x % turn)
    → (x : List Bool) → length x < bits → (total more 1 x + phase_of (drop end terms) x) % turn ≡ phase_of terms x % turn
groups_more bits terms groups group more start end on is e before x within =
    ap (λ gs. (total gs 1 x + phase_of (drop end terms) x) % turn) e
    ∙ ap (λ k. (k + phase_of (drop end terms) x) % turn) (total-append groups group 1 x)
    ∙ joined (total groups 1 x) (counted group (reached group.rows 1 group.odd x)) (phase_of (slice_range terms start end) x) (phase_of (drop end terms) x)
    (group_phase bits (slice_range terms start end) group is x within)
    ∙ ap (λ k. (total groups 1 x + k) % turn) (sym (ap (λ ts. phase_of ts x) (drop_split terms start end on) ∙ phase_of-concat (slice_range terms start end) (drop end terms) x))
    ∙ before x within
  where
    joined : (t c p d : ℕ) → c % turn ≡ p % turn → (t + c + d) % turn ≡ (t + (p + d)) % turn
    joined t c p d same = omega arith
