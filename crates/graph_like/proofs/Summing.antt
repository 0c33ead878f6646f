-- Labels summed out against equalities: of all labels only those that are the same on each class count.
use Rattle.std.proofs.Common.{◌≡◌, ◌≢◌, refl, sym, ◌∙◌, ap, ap₂, ℕ, Bool, true, false, ◌&&◌, List, [], ◌∷◌, ◌++◌, not}
use Rattle.std.specs.Prelude.{if◌then◌else◌, filter}
use Rattle.zx_model.specs.Bits.{xor, member}
use Rattle.zx_model.specs.Number.{Number, zero, add}
use Rattle.zx_model.specs.Sums.{labelled, over, sum_over}
use Rattle.zx_model.proofs.Ring.{zero-add, add-zero}
use Rattle.zx_model.proofs.SumLemmas.{sum_over_same, sum_over_pull, labelled-same, labelled-other}
use Rattle.zx_calculus.proofs.Ids.{by_test, Distinct, member-here, member-there, apart_of_member, or-right}
use Rattle.zx_calculus.proofs.Forms.{Ignores}

-- those that pass a test are summed last
pub sum_over-parted : (t : ℕ → Bool) (vs : List ℕ) (f : (ℕ → Bool) → Number) →
    sum_over vs f ≡ sum_over (filter (λ v. not (t v)) vs ++ filter t vs) f
sum_over-parted t [] f = refl
sum_over-parted t (v ∷ vs) f =
    by_test (t v)
    (λ e. rw e (sum_over-parted t vs (over v f) ∙ sym (sum_over_pull (filter (λ v. not (t v)) vs) v (filter t vs) f)))
    (λ e. rw e (sum_over-parted t vs (over v f)))

pub sum_over-swapped : (vs ws : List ℕ) (f : (ℕ → Bool) → Number) → sum_over (vs ++ ws) f ≡ sum_over (ws ++ vs) f
sum_over-swapped [] ws f = ap (λ l. sum_over l f) (sym (append_nil ws))
  where
    append_nil : (l : List ℕ) → l ++ [] ≡ l
    append_nil [] = refl
    append_nil (x ∷ l) = ap (λ r. x ∷ r) (append_nil l)
sum_over-swapped (v ∷ vs) ws f = sum_over-swapped vs ws (over v f) ∙ sym (sum_over_pull ws v vs f)

-- each listed one has the label of the one that stands for it
abbrev pub agrees : (ℕ → ℕ) → List ℕ → (ℕ → Bool) → Bool
agrees least [] label = true
agrees least (v ∷ vs) label = not (xor (label v) (label (least v))) && agrees least vs label

abbrev pub guarded : Bool → Number → Number
guarded b n = if b then n else zero

agrees-labelled : (least : ℕ → ℕ) (v : ℕ) (ws : List ℕ) (label : ℕ → Bool) (h : Bool) → member v ws ≡ false → ((u : ℕ) → least u ≢ v) →
    agrees least ws (labelled label v h) ≡ agrees least ws label
agrees-labelled least v [] label h absent apart = refl
agrees-labelled least v (w ∷ ws) label h absent apart =
    ap₂ (λ b c. b && c)
    (ap₂ (λ a b. not (xor a b))
    (labelled-other label v h w (apart_of_member w v (w ∷ ws) (member-here w ws) absent))
    (labelled-other label v h (least w) (apart w)))
    (agrees-labelled least v ws label h (or-right _ _ absent) apart)

one_of_two : (c b : Bool) (n : Number) → add (guarded (not (xor false c) && b) n) (guarded (not (xor true c) && b) n) ≡ guarded b n
one_of_two true b n = zero-add (guarded b n)
one_of_two false b n = add-zero (guarded b n)

-- labels that stand for no other are summed out
pub sum_out_agreeing : (least : ℕ → ℕ) (vs ws : List ℕ) (g : (ℕ → Bool) → Number) → Distinct vs →
    ((v : ℕ) → member v vs ≡ true → (u : ℕ) → least u ≢ v) → ((v : ℕ) → member v vs ≡ true → Ignores g v) →
    sum_over (vs ++ ws) (λ label. guarded (agrees least vs label) (g label)) ≡ sum_over ws g
sum_out_agreeing least [] ws g d apart ignores = refl
sum_out_agreeing least (v ∷ vs) ws g d apart ignores =
    sum_over_same (vs ++ ws) _ (λ label. guarded (agrees least vs label) (g label))
    (λ label. ap₂ add (at label false) (at label true) ∙ one_of_two (label (least v)) (agrees least vs label) (g label))
    ∙ sum_out_agreeing least vs ws g d.1 (λ w t. apart w (member-there w v vs t)) (λ w t. ignores w (member-there w v vs t))
  where
    here : member v (v ∷ vs) ≡ true
    here = member-here v vs

    at : (label : ℕ → Bool) (h : Bool) → guarded (agrees least (v ∷ vs) (labelled label v h)) (g (labelled label v h))
        ≡ guarded (not (xor h (label (least v))) && agrees least vs label) (g label)
    at label h =
        ap₂ guarded
        (ap₂ (λ b c. b && c)
        (ap₂ (λ a b. not (xor a b)) (labelled-same label v h) (labelled-other label v h (least v) (apart v here v)))
        (agrees-labelled least v vs label h d.0 (apart v here)))
        (ignores v here label h)
