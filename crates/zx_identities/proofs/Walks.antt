-- The walk over basis states of low weight.
use Rattle.std.proofs.Common.{◌≡◌, ◌⊎◌, inl, inr, ℕ, zero, suc, ◌+◌, ◌%◌, ◌<◌, ◌≤◌, Bool, true, false, List, [], ◌∷◌, length, map, get_or, refl, sym, ap, ap₂, ◌∙◌, subst, arith}
use Rattle.std.specs.Prelude.{◌↔◌, nat_eq, bit_xor}
use Rattle.std.proofs.lemmas.Bool.{eq-eqb, eqb-true}
use lib.Bits.{xor_self, xor_zero_r, xor_assoc}
use Rattle.zx_model.specs.Phase.{turn}
use Rattle.zx_identities.specs.Polynomials.{weight}
use Rattle.zx_identities.proofs.Differences.{weight-set, weight-unset}
use Rattle.zx_identities.specs.declared.packing.Group.{Group}
use Rattle.zx_identities.specs.Internal.Packing.{counted, reached, total, here, flipped, AreZero}

-- ---- one bit
total-unset : (groups : List Group) (place : ℕ) (x : List Bool) → total groups place (false ∷ x) ≡ total groups (place + 1) x
total-unset [] place x = refl
total-unset (g ∷ groups) place x = ap (λ k. counted g (reached g.rows (place + 1) g.odd x) + k) (total-unset groups place x)

total-set : (groups : List Group) (place : ℕ) (x : List Bool) → total groups place (true ∷ x) ≡ total (map (flipped place) groups) (place + 1) x
total-set [] place x = refl
total-set (g ∷ groups) place x =
    ap (λ k. counted g (reached g.rows (place + 1) (bit_xor g.odd (get_or g.rows place 0)) x) + k) (total-set groups place x)

light_unset : (x : List Bool) (most : ℕ) → weight (false ∷ x) ≤ most → weight x ≤ most
light_unset x most few = let e : weight (false ∷ x) ≡ weight x = weight-unset x in omega arith

unset_light : (x : List Bool) (most : ℕ) → weight x ≤ most → weight (false ∷ x) ≤ most
unset_light x most few = let e : weight (false ∷ x) ≡ weight x = weight-unset x in omega arith

light_set : (x : List Bool) (most : ℕ) → weight (true ∷ x) ≤ suc most → weight x ≤ most
light_set x most few = let e : weight (true ∷ x) ≡ 1 + weight x = weight-set x in omega arith

set_light : (x : List Bool) (most : ℕ) → weight x ≤ most → weight (true ∷ x) ≤ suc most
set_light x most few = let e : weight (true ∷ x) ≡ 1 + weight x = weight-set x in omega arith

none_set : (x : List Bool) → weight (true ∷ x) ≤ 0 → ⊥
none_set x few = let e : weight (true ∷ x) ≡ 1 + weight x = weight-set x in omega arith

-- ---- where no bit is set
total-here : (groups : List Group) (place : ℕ) → total groups place [] ≡ here groups
total-here [] place = refl
total-here (g ∷ groups) place = ap (λ k. counted g g.odd + k) (total-here groups place)

total_light : (groups : List Group) (place : ℕ) (x : List Bool) → weight x ≤ 0 → total groups place x ≡ here groups
total_light groups place [] few = total-here groups place
total_light groups place (true ∷ x) few = absurd (none_set x few)
total_light groups place (false ∷ x) few = total-unset groups place x ∙ total_light groups (place + 1) x (light_unset x 0 few)

no_bits : (n : ℕ) → List Bool
no_bits zero = []
no_bits (suc n) = false ∷ no_bits n

length-no_bits : (n : ℕ) → length (no_bits n) ≡ n
unfolding no_bits
length-no_bits zero = refl
length-no_bits (suc n) = ap suc (length-no_bits n)

weight-no_bits : (n most : ℕ) → weight (no_bits n) ≤ most
unfolding no_bits
weight-no_bits zero most = omega arith
weight-no_bits (suc n) most = unset_light (no_bits n) most (weight-no_bits n most)

total-no_bits : (groups : List Group) (place n : ℕ) → total groups place (no_bits n) ≡ here groups
unfolding no_bits
total-no_bits groups place zero = total-here groups place
total-no_bits groups place (suc n) = total-unset groups place (no_bits n) ∙ total-no_bits groups (place + 1) n

-- where no bit may be set any more, or none is left
pub ended : (groups : List Group) (place n most : ℕ) (r : Bool) → (n ≡ 0) ⊎ (most ≡ 0) → (r ≡ true) ↔ (here groups % turn ≡ 0) → (r ≡ true) ↔ AreZero groups place n most
ended groups place n most r over is = (
  λ holds x l few. ap (λ k. k % turn) (same over x l few) ∙ is.0 holds,
  λ all. is.1 (ap (λ k. k % turn) (sym (total-no_bits groups place n)) ∙ all (no_bits n) (length-no_bits n) (weight-no_bits n most)),
)
  where
    same : (n ≡ 0) ⊎ (most ≡ 0) → (x : List Bool) → length x ≡ n → weight x ≤ most → total groups place x ≡ here groups
    same (inl none) [] l few = total-here groups place
    same (inl none) (b ∷ x) l few = absurd (omega arith)
    same (inr none) x l few = total_light groups place x (omega arith)

-- ---- one place on
unset_too : (groups : List Group) (place n most : ℕ) → AreZero groups place (suc n) most → AreZero groups (place + 1) n most
unset_too groups place n most all x l few = ap (λ k. k % turn) (sym (total-unset groups place x)) ∙ all (false ∷ x) (ap suc l) (unset_light x most few)

set_too : (groups : List Group) (place n most : ℕ) → AreZero groups place (suc n) (suc most) → AreZero (map (flipped place) groups) (place + 1) n most
set_too groups place n most all x l few = ap (λ k. k % turn) (sym (total-set groups place x)) ∙ all (true ∷ x) (ap suc l) (set_light x most few)

both_ways : (groups : List Group) (place n most : ℕ) → AreZero groups (place + 1) n most
    → ((less : ℕ) → most ≡ suc less → AreZero (map (flipped place) groups) (place + 1) n less) → AreZero groups place (suc n) most
both_ways groups place n most one other [] l few = absurd (omega arith)
both_ways groups place n most one other (false ∷ x) l few = ap (λ k. k % turn) (total-unset groups place x) ∙ one x (omega arith) (light_unset x most few)
both_ways groups place n zero one other (true ∷ x) l few = absurd (none_set x few)
both_ways groups place n (suc most) one other (true ∷ x) l few =
    ap (λ k. k % turn) (total-set groups place x) ∙ other most refl x (omega arith) (light_set x most few)

less_light : (groups : List Group) (place n most less : ℕ) → less ≤ most → AreZero groups place n most → AreZero groups place n less
less_light groups place n most less fewer all x l few = all x l (omega arith)

-- ---- what the walk answers
pub refuted : (groups : List Group) (place n m most : ℕ) (r : Bool) → n ≡ suc m → r ≡ false → (r ≡ true) ↔ AreZero groups (place + 1) m most → (false ≡ true) ↔ AreZero groups place n most
refuted groups place n m most r e fails on =
    (λ h. cc, λ all. sym fails ∙ on.1 (unset_too groups place m most (subst (λ k. AreZero groups place k most) e all)))

-- where no parity has the bit
pub unused : (groups : List Group) (place n m most : ℕ) (r : Bool) → n ≡ suc m → r ≡ true → (r ≡ true) ↔ AreZero groups (place + 1) m most
    → map (flipped place) groups ≡ groups → (true ≡ true) ↔ AreZero groups place n most
unused groups place n m most r e holds on same = (
  λ h. subst (λ k. AreZero groups place k most) (sym e)
      (both_ways groups place m most (on.0 holds)
      (λ less more. subst (λ gs. AreZero gs (place + 1) m less) (sym same) (less_light groups (place + 1) m most less (omega arith) (on.0 holds)))),
  λ all. refl,
)

pub answered : (groups : List Group) (place n m most less : ℕ) (r s : Bool) → n ≡ suc m → most ≡ suc less → r ≡ true
    → (r ≡ true) ↔ AreZero groups (place + 1) m most → (s ≡ true) ↔ AreZero (map (flipped place) groups) (place + 1) m less → (s ≡ true) ↔ AreZero groups place n most
answered groups place n m most less r s e more holds first second = (
  λ t. subst (λ k. AreZero groups place k most) (sym e)
      (both_ways groups place m most (first.0 holds)
      (λ k f. subst (AreZero (map (flipped place) groups) (place + 1) m) (suc_same less k (sym more ∙ f)) (second.0 t))),
  λ all. second.1 (set_too groups place m less (subst (AreZero groups place (suc m)) more (subst (λ k. AreZero groups place k most) e all))),
)
  where
    suc_same : (a b : ℕ) → suc a ≡ suc b → a ≡ b
    suc_same a b e = omega arith

-- ---- flips
twice : (place : ℕ) (g : Group) → flipped place (flipped place g) ≡ g
twice place g =
    ap (λ w. record g { odd = w })
    (xor_assoc g.odd (get_or g.rows place 0) (get_or g.rows place 0) ∙ ap (bit_xor g.odd) (xor_self (get_or g.rows place 0)) ∙ xor_zero_r g.odd)

pub flipped_back : (place : ℕ) (groups : List Group) → map (flipped place) (map (flipped place) groups) ≡ groups
flipped_back place [] = refl
flipped_back place (g ∷ groups) = ap₂ ◌∷◌ (twice place g) (flipped_back place groups)

pub unflipped : (place : ℕ) (groups : List Group) → ((i : ℕ) (d : Group) → i < length groups → get_or (get_or groups i d).rows place 0 ≡ 0) → map (flipped place) groups ≡ groups
unflipped place [] none = refl
unflipped place (g ∷ groups) none =
    ap₂ ◌∷◌ (ap (λ w. record g { odd = w }) (ap (bit_xor g.odd) (none 0 g (omega arith)) ∙ xor_zero_r g.odd))
    (unflipped place groups (λ i d below. none (suc i) d (omega arith)))

abbrev pub no_group : Group
no_group = record { rows = []; odd = 0; ones = 0; twos = 0; fours = 0; eights = 0 }

pub zero_test : (r k : ℕ) → r ≡ k → (nat_eq r 0 ≡ true) ↔ (k ≡ 0)
zero_test r k e = (λ h. sym e ∙ eqb-true r 0 h, λ z. eq-eqb r 0 (e ∙ z))
