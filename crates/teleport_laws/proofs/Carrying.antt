-- Spots move as the phases do that they hold.
use Rattle.std.proofs.Common.{◌≡◌, ◌≢◌, refl, sym, ◌∙◌, ap, ap₂, ℕ, ◌<◌, Bool, true, false, cond, eqb, List, [], ◌∷◌, true≢false, ne_eqb, arith}
use Rattle.zx_model.specs.Phase.{turn, sum_of_phases}
use Rattle.zx_model.specs.Bits.{xor}
use Rattle.zx_calculus.specs.Graph.{Graph, WellFormed}
use Rattle.zx_calculus.specs.Gadgets.{first_of_list}
use Rattle.zx_calculus.specs.Steps.{Step, LocalComplement, Delete, Pivot, SplitInput, SplitOutput, DropLone, FuseInto, FuseTwin, IsStep}
use Rattle.zx_calculus.proofs.Ids.{by_equal, eqb-self}
use Rattle.zx_calculus.proofs.Splitting.{no_loop}
use Rattle.zx_calculus.proofs.Gadgets.{neighbours_into}
use Rattle.teleport_laws.specs.Shifts.{signed, negates, into_of, joined_phases, more_after}
use Rattle.teleport_laws.specs.Spots.{Holder, At, Deleted, Dropped, Spot, spot_after, moved}
use Rattle.teleport_laws.specs.Groups.{same_holder, part, held}
use Rattle.teleport_laws.proofs.Shifting.{plus_none, four_phases}

-- ---- signs
pub signed-below : (b : Bool) (k : ℕ) → k < turn → signed b k < turn
signed-below true k low = omega arith
signed-below false k low = low

pub signed-none : (b : Bool) → signed b 0 ≡ 0
signed-none true = refl
signed-none false = refl

pub signed-sum : (b : Bool) (j k : ℕ) → j < turn → k < turn → signed b (sum_of_phases j k) ≡ sum_of_phases (signed b j) (signed b k)
signed-sum true j k low low' = omega arith
signed-sum false j k low low' = refl

pub signed-signed : (b c : Bool) (k : ℕ) → k < turn → signed c (signed b k) ≡ signed (xor b c) k
signed-signed true true k low = omega arith
signed-signed true false k low = refl
signed-signed false true k low = refl
signed-signed false false k low = refl

pub none_plus : (k : ℕ) → k < turn → sum_of_phases 0 k ≡ k
none_plus k low = omega arith

-- ---- sums of what gates add
abbrev pub AreBelow : (ℕ → ℕ) → Type 0
AreBelow phase = (i : ℕ) → phase i < turn

pub cond-below : (b : Bool) (j k : ℕ) → j < turn → k < turn → cond b j k < turn
cond-below true j k low low' = low
cond-below false j k low low' = low'

pub zero_low : 0 < turn
zero_low = omega arith

pub part-below : (holder : Holder) (spot : Spot) (k : ℕ) → k < turn → part holder spot k < turn
part-below holder spot k low = cond-below (same_holder spot.holder holder) (signed spot.negated k) 0 (signed-below spot.negated k low) zero_low

pub held-below : (phase : ℕ → ℕ) (spot : ℕ → Spot) (gates : List ℕ) (holder : Holder) → held phase spot gates holder < turn
held-below phase spot [] holder = zero_low
held-below phase spot (i ∷ is) holder = low (part holder (spot i) (phase i)) (held phase spot is holder)
  where
    low : (j k : ℕ) → sum_of_phases j k < turn
    low j k = omega arith

-- ---- what becomes of a sum is the sum of what becomes of each
left_out-sum : (b : Bool) (x y z : ℕ) → x ≡ sum_of_phases y z → cond b 0 x ≡ sum_of_phases (cond b 0 y) (cond b 0 z)
left_out-sum true x y z e = refl
left_out-sum false x y z e = e

module _ (f k : ℕ → ℕ) (low : AreBelow f) (low_too : AreBelow k) where
  abbrev both_sums : ℕ → ℕ
  both_sums v = sum_of_phases (f v) (k v)

  joined-sum : (u into v : ℕ) → joined_phases u into both_sums v ≡ sum_of_phases (joined_phases u into f v) (joined_phases u into k v)
  joined-sum u into v = left_out-sum (eqb v u) _ _ _ (at (eqb v into))
    where
      at : (b : Bool) → cond b (sum_of_phases (both_sums into) (both_sums u)) (both_sums v) ≡ sum_of_phases (cond b (sum_of_phases (f into) (f u)) (f v)) (cond b (sum_of_phases (k into) (k u)) (k v))
      at true = four_phases (f into) (k into) (f u) (k u)
      at false = refl

  pub after-sum : (g : Graph) (s : Step) (v : ℕ) → more_after g s both_sums v ≡ sum_of_phases (more_after g s f v) (more_after g s k v)
  after-sum g (LocalComplement u) v = signed-sum (negates g (LocalComplement u) v) (f v) (k v) (low v) (low_too v)
  after-sum g (Delete u) v = left_out-sum (eqb v u) _ _ _ (signed-sum (negates g (Delete u) v) (f v) (k v) (low v) (low_too v))
  after-sum g (Pivot u w) v = signed-sum (negates g (Pivot u w) v) (f v) (k v) (low v) (low_too v)
  after-sum g (SplitInput b) v = refl
  after-sum g (SplitOutput b) v = refl
  after-sum g (DropLone u) v = left_out-sum (eqb v u) _ _ _ refl
  after-sum g (FuseInto u) v = joined-sum u (into_of g u) v
  after-sum g (FuseTwin u w) v = joined-sum w u v

left_out-none : (b : Bool) (x : ℕ) → x ≡ 0 → cond b 0 x ≡ 0
left_out-none true x e = refl
left_out-none false x e = e

joined-none : (f : ℕ → ℕ) (u into v : ℕ) → ((w : ℕ) → f w ≡ 0) → joined_phases u into f v ≡ 0
joined-none f u into v none = left_out-none (eqb v u) _ (at (eqb v into))
  where
    at : (b : Bool) → cond b (sum_of_phases (f into) (f u)) (f v) ≡ 0
    at true = ap₂ sum_of_phases (none into) (none u)
    at false = none v

pub after-none : (g : Graph) (s : Step) (f : ℕ → ℕ) (v : ℕ) → ((w : ℕ) → f w ≡ 0) → more_after g s f v ≡ 0
after-none g (LocalComplement u) f v none = ap (signed (negates g (LocalComplement u) v)) (none v) ∙ signed-none (negates g (LocalComplement u) v)
after-none g (Delete u) f v none = left_out-none (eqb v u) _ (ap (signed (negates g (Delete u) v)) (none v) ∙ signed-none (negates g (Delete u) v))
after-none g (Pivot u w) f v none = ap (signed (negates g (Pivot u w) v)) (none v) ∙ signed-none (negates g (Pivot u w) v)
after-none g (SplitInput b) f v none = none v
after-none g (SplitOutput b) f v none = none v
after-none g (DropLone u) f v none = left_out-none (eqb v u) _ (none v)
after-none g (FuseInto u) f v none = joined-none f u (into_of g u) v none
after-none g (FuseTwin u w) f v none = joined-none f w u v none

-- ---- one gate
-- the vertex that goes isn't the one that it is fused into
abbrev pub AreApart : Graph → Step → Type 0
AreApart g (FuseInto u) = into_of g u ≢ u
AreApart g (FuseTwin u w) = u ≢ w
AreApart g other = Unit {0}

pub step_apart : (g : Graph) (s : Step) (h : Graph) → WellFormed g → IsStep g s h → AreApart g s
step_apart g (LocalComplement u) h w c = tt
step_apart g (Delete u) h w c = tt
step_apart g (Pivot u v) h w c = tt
step_apart g (SplitInput b) h w c = tt
step_apart g (SplitOutput b) h w c = tt
step_apart g (DropLone u) h w c = tt
step_apart g (FuseInto u) h w c =
    λ e. true≢false (sym (c.only_neighbour u ∙ ap (λ v. eqb u v) (sym (ap first_of_list (neighbours_into g u h w c)) ∙ e) ∙ eqb-self u) ∙ no_loop g u w)
step_apart g (FuseTwin u v) h w c = c.different

-- the phase k at v alone, in a sum
abbrev pub alone : ℕ → ℕ → ℕ → ℕ
alone k v w = cond (eqb v w) k 0

alone-here : (k v w : ℕ) → v ≡ w → alone k v w ≡ k
alone-here k v w e = ap (λ u. cond (eqb v u) k 0) (sym e) ∙ ap (λ b. cond b k 0) (eqb-self v)

alone-apart : (k v w : ℕ) → v ≢ w → alone k v w ≡ 0
alone-apart k v w n = ap (λ b. cond b k 0) (ne_eqb v w n)

-- who is no vertex holds none of a vertex's phase
sign_at : (n : ℕ → Bool) (b : Bool) (k v w : ℕ) → k < turn → signed (n w) (alone (signed b k) v w) ≡ alone (signed (xor b (n v)) k) v w
sign_at n b k v w low =
    by_equal v w
    (λ t e. rw t (ap (λ u. signed (n u) (signed b k)) (sym e) ∙ signed-signed b (n v) k low))
    (λ t a. rw t (signed-none (n w)))

gone_at : (n : ℕ → Bool) (b : Bool) (k u v w : ℕ) (to : Holder) → k < turn → ((x : ℕ) → same_holder to (At x) ≡ false) →
    cond (eqb w u) 0 (signed (n w) (alone (signed b k) v w)) ≡ part (At w) (record { holder = cond (eqb v u) to (At v); negated = xor b (n v) }) k
gone_at n b k u v w to low other =
    by_equal v u
    (λ t e. rw (t, other w)
    (by_equal w u (λ s d. rw s refl) (λ s a. rw s (ap (signed (n w)) (alone-apart (signed b k) v w (λ d. a (sym d ∙ e))) ∙ signed-none (n w)))))
    (λ t a. rw t
    (by_equal w u (λ s d. rw s (sym (alone-apart (signed (xor b (n v)) k) v w (λ x. a (x ∙ d))))) (λ s c. rw s (sign_at n b k v w low))))

fused_at : (b : Bool) (k u into v w : ℕ) → k < turn → into ≢ u →
    joined_phases u into (alone (signed b k) v) w ≡ part (At w) (record { holder = cond (eqb v u) (At into) (At v); negated = xor b false }) k
fused_at b k u into v w low apart =
    by_equal v u
    (λ t e. rw t
    (by_equal w u
    (λ s d. rw s (sym (alone-apart same into w (λ x. apart (x ∙ d)))))
    (λ s a. rw s
    (by_equal w into
    (λ r d. rw r
    (ap (λ x. sum_of_phases x sign) (alone-apart sign v into (λ x. apart (sym x ∙ e))) ∙ none_plus sign low_sign ∙ unsigned ∙ sym (alone-here same into w (sym d))))
    (λ r c. rw r (alone-apart sign v w (λ x. a (sym x ∙ e)) ∙ sym (alone-apart same into w (λ x. c (sym x)))))))))
    (λ t n. rw t
    (by_equal w u
    (λ s d. rw s (sym (alone-apart same v w (λ x. n (x ∙ d)))))
    (λ s a. rw s
    (by_equal w into
    (λ r d. rw r
    (plus_none (alone sign v into) (cond-below (eqb v into) sign 0 low_sign zero_low)
    ∙ ap₂ (λ x y. alone x v y) unsigned (sym d)))
    (λ r c. rw r (ap (λ x. alone x v w) unsigned))))))
  where
    sign : ℕ
    sign = signed b k

    same : ℕ
    same = signed (xor b false) k

    low_sign : signed b k < turn
    low_sign = signed-below b k low

    unsigned : signed b k ≡ signed (xor b false) k
    unsigned = signed-signed b false k low

pub single : (left : ℕ) (g : Graph) (s : Step) (k : ℕ) (w : ℕ) → k < turn → AreApart g s → (holder : Holder) (b : Bool) →
    more_after g s (λ v. part (At v) (record { holder = holder; negated = b }) k) w ≡ part (At w) (spot_after left g s holder b) k
single left g s k w low apart (Deleted n) b = after-none g s _ w (λ v. refl)
single left g s k w low apart Dropped b = after-none g s _ w (λ v. refl)
single left g (LocalComplement u) k w low apart (At v) b = sign_at (negates g (LocalComplement u)) b k v w low
single left g (Delete u) k w low apart (At v) b = gone_at (negates g (Delete u)) b k u v w (Deleted left) low (λ x. refl)
single left g (Pivot u z) k w low apart (At v) b = sign_at (negates g (Pivot u z)) b k v w low
single left g (SplitInput u) k w low apart (At v) b = sign_at (λ x. false) b k v w low
single left g (SplitOutput u) k w low apart (At v) b = sign_at (λ x. false) b k v w low
single left g (DropLone u) k w low apart (At v) b = gone_at (λ x. false) b k u v w Dropped low (λ x. refl)
single left g (FuseInto u) k w low apart (At v) b = fused_at b k u (into_of g u) v w low apart
single left g (FuseTwin u z) k w low apart (At v) b = fused_at b k z u v w low apart

-- ---- all gates
pub after_held : (left : ℕ) (g : Graph) (s : Step) (phase : ℕ → ℕ) (spot : ℕ → Spot) (gates : List ℕ) (w : ℕ) → AreBelow phase → AreApart g s →
    more_after g s (λ v. held phase spot gates (At v)) w ≡ held phase (λ i. moved left g s (spot i)) gates (At w)
after_held left g s phase spot [] w low apart = after-none g s _ w (λ v. refl)
after_held left g s phase spot (i ∷ is) w low apart =
    after-sum (λ v. part (At v) (spot i) (phase i)) (λ v. held phase spot is (At v)) (λ v. part-below (At v) (spot i) (phase i) (low i)) (λ v. held-below phase spot is (At v)) g s w
    ∙ ap₂ sum_of_phases (single left g s (phase i) w (low i) apart (spot i).holder (spot i).negated) (after_held left g s phase spot is w low apart)
