-- Which ends meet, and what meetings come to at labels of some few vertices.
use Rattle.std.proofs.Common.{◌≡◌, ◌≢◌, ◌⊎◌, inl, inr, refl, sym, ◌∙◌, ap, ap₂, ℕ, Bool, true, false, ◌&&◌, List, [], ◌∷◌, true≢false}
use Rattle.std.specs.Prelude.{if◌then◌else◌}
use Rattle.zx_model.specs.Bits.{xor, member}
use Rattle.zx_model.specs.Constants.{two}
use Rattle.zx_model.specs.Number.{Number, zero, one, neg, mul, sign}
use Rattle.zx_model.proofs.Domain.{mul-nonzero}
use Rattle.zx_model.proofs.Ring.{expand, one_nonzero, two_nonzero, mul-zero, zero-mul, mul-neg, neg-mul, neg-neg, neg-zero}
use Rattle.zx_calculus.specs.Graph.{End, end_vertices, Distinct}
use Rattle.zx_calculus.proofs.Ids.{by_equal, member-here, member-there}
use Rattle.zx_calculus.proofs.WorkedSums.{each_two}
use Rattle.zx_same.proofs.EndTransforms.{meeting, meetings}

-- ---- two ends that meet, at each labels
pub meeting-marks : (g h k l : Bool) → xor g h ≡ true → meeting g h k l ≡ sign (k && l)
meeting-marks false false k l e = absurd (true≢false (sym e))
meeting-marks true true k l e = absurd (true≢false (sym e))
meeting-marks false true k l e =
    each_two (λ k l. meeting false true k l ≡ sign (k && l)) (simp expand) (simp expand) (simp expand) (simp expand) k l
meeting-marks true false k l e =
    each_two (λ k l. meeting true false k l ≡ sign (k && l)) (simp expand) (simp expand) (simp expand) (simp expand) k l

pub meeting-alike : (g h k : Bool) → xor g h ≡ false → meeting g h k k ≡ (if g then two else one)
meeting-alike false true k e = absurd (true≢false e)
meeting-alike true false k e = absurd (true≢false e)
meeting-alike false false false e = simp expand
meeting-alike false false true e = simp expand
meeting-alike true true false e = simp expand
meeting-alike true true true e = simp expand

pub meeting-other : (g h k l : Bool) → xor g h ≡ false → l ≢ k → meeting g h k l ≡ zero
meeting-other g h false false e n = absurd (n refl)
meeting-other g h true true e n = absurd (n refl)
meeting-other false true k l e n = absurd (true≢false e)
meeting-other true false k l e n = absurd (true≢false e)
meeting-other false false false true e n = simp expand
meeting-other false false true false e n = simp expand
meeting-other true true false true e n = simp expand
meeting-other true true true false e n = simp expand

xor-self : (g : Bool) → xor g g ≡ false
xor-self false = refl
xor-self true = refl

sign_nonzero : (b : Bool) → sign b ≢ zero
sign_nonzero false e = one_nonzero e
sign_nonzero true e = one_nonzero (sym (neg-neg one) ∙ ap neg e ∙ neg-zero)

weight_nonzero : (g : Bool) → (if g then two else one) ≢ zero
weight_nonzero false = one_nonzero
weight_nonzero true = two_nonzero

pub marks_nonzero : (g h k l : Bool) → xor g h ≡ true → meeting g h k l ≢ zero
marks_nonzero g h k l e z = sign_nonzero (k && l) (sym (meeting-marks g h k l e) ∙ z)

pub alike_nonzero : (g h k l : Bool) → xor g h ≡ false → k ≡ l → meeting g h k l ≢ zero
alike_nonzero g h k l e same z = weight_nonzero g (sym (meeting-alike g h k e) ∙ ap (meeting g h k) same ∙ z)

-- ---- a list that meets itself
abbrev pub weight : List End → Number
weight [] = one
weight (e ∷ es) = mul (if e.hadamard then two else one) (weight es)

pub whole_nonzero : (es : List End) → weight es ≢ zero
whole_nonzero [] = one_nonzero
whole_nonzero (e ∷ es) = mul-nonzero _ _ (weight_nonzero e.hadamard) (whole_nonzero es)

pub meetings-own : (es : List End) (k l : ℕ → Bool) → ((v : ℕ) → member v (end_vertices es) ≡ true → l v ≡ k v) → meetings es es k l ≡ weight es
meetings-own [] k l e = refl
meetings-own (e ∷ es) k l same =
    ap₂ mul
    (ap (meeting e.hadamard e.hadamard (k e.vertex)) (same e.vertex (member-here e.vertex (end_vertices es))) ∙ meeting-alike e.hadamard e.hadamard (k e.vertex) (xor-self e.hadamard))
    (meetings-own es k l (λ v t. same v (member-there v e.vertex (end_vertices es) t)))

pub meetings-apart : (es : List End) (k l : ℕ → Bool) (v : ℕ) → member v (end_vertices es) ≡ true → l v ≢ k v → meetings es es k l ≡ zero
meetings-apart [] k l v there other = absurd (true≢false (sym there))
meetings-apart (e ∷ es) k l v there other =
    by_equal v e.vertex
    (λ t s. ap (λ n. mul n (meetings es es k l))
    (meeting-other e.hadamard e.hadamard (k e.vertex) (l e.vertex) (xor-self e.hadamard) (λ q. other (ap l s ∙ q ∙ sym (ap k s)))) ∙ zero-mul _)
    (λ f n. ap (mul (meeting e.hadamard e.hadamard (k e.vertex) (l e.vertex))) (meetings-apart es k l v (rw f at there) other) ∙ mul-zero _)

-- ---- two lists that meet
-- the ends stand at one place of both lists
abbrev pub Meet : End → End → List End → List End → Type 0
Meet i o (a ∷ ins) (b ∷ outs) = ((i ≡ a) × (o ≡ b)) ⊎ Meet i o ins outs
Meet i o ins outs = ⊥

pub meets_input : (i o : End) (ins outs : List End) → Meet i o ins outs → member i.vertex (end_vertices ins) ≡ true
meets_input i o [] outs m = absurd m
meets_input i o (a ∷ ins) [] m = absurd m
meets_input i o (a ∷ ins) (b ∷ outs) (inl here) = ap (λ e. member e.vertex (end_vertices (a ∷ ins))) here.0 ∙ member-here a.vertex (end_vertices ins)
meets_input i o (a ∷ ins) (b ∷ outs) (inr there) = member-there i.vertex a.vertex (end_vertices ins) (meets_input i o ins outs there)

flipped : (i o : End) (ins outs : List End) → Meet i o ins outs → Meet o i outs ins
flipped i o [] outs m = absurd m
flipped i o (a ∷ ins) [] m = absurd m
flipped i o (a ∷ ins) (b ∷ outs) (inl here) = inl (here.1, here.0)
flipped i o (a ∷ ins) (b ∷ outs) (inr there) = inr (flipped i o ins outs there)

pub meets_output : (i o : End) (ins outs : List End) → Meet i o ins outs → member o.vertex (end_vertices outs) ≡ true
meets_output i o ins outs m = meets_input o i outs ins (flipped i o ins outs m)

-- who meets at one vertex is one
pub one_input : (i o j p : End) (ins outs : List End) → Distinct (end_vertices ins) → Meet i o ins outs → Meet j p ins outs → i.vertex ≡ j.vertex → (i ≡ j) × (o ≡ p)
one_input i o j p [] outs d m n e = absurd m
one_input i o j p (a ∷ ins) [] d m n e = absurd m
one_input i o j p (a ∷ ins) (b ∷ outs) d (inl m) (inl n) e = (m.0 ∙ sym n.0, m.1 ∙ sym n.1)
one_input i o j p (a ∷ ins) (b ∷ outs) d (inl m) (inr n) e =
    absurd (true≢false (sym (meets_input j p ins outs n) ∙ ap (λ v. member v (end_vertices ins)) (sym e ∙ ap (λ (x : End). x.vertex) m.0) ∙ d.0))
one_input i o j p (a ∷ ins) (b ∷ outs) d (inr m) (inl n) e =
    absurd (true≢false (sym (meets_input i o ins outs m) ∙ ap (λ v. member v (end_vertices ins)) (e ∙ ap (λ (x : End). x.vertex) n.0) ∙ d.0))
one_input i o j p (a ∷ ins) (b ∷ outs) d (inr m) (inr n) e = one_input i o j p ins outs d.1 m n e

pub one_output : (i o j p : End) (ins outs : List End) → Distinct (end_vertices outs) → Meet i o ins outs → Meet j p ins outs → o.vertex ≡ p.vertex → (i ≡ j) × (o ≡ p)
one_output i o j p ins outs d m n e =
    let each = one_input o i p j outs ins d (flipped i o ins outs m) (flipped j p ins outs n) e in
    (each.1, each.0)

abbrev pub at_labels : (ℕ → Bool) → (ℕ → Bool) → End → End → Number
at_labels k l i o = meeting i.hadamard o.hadamard (k i.vertex) (l o.vertex)

pub meetings-zero : (i o : End) (ins outs : List End) (k l : ℕ → Bool) → Meet i o ins outs → at_labels k l i o ≡ zero → meetings ins outs k l ≡ zero
meetings-zero i o [] outs k l m e = absurd m
meetings-zero i o (a ∷ ins) [] k l m e = absurd m
meetings-zero i o (a ∷ ins) (b ∷ outs) k l (inl m) e =
    ap (λ n. mul n (meetings ins outs k l)) (ap₂ (at_labels k l) (sym m.0) (sym m.1) ∙ e) ∙ zero-mul _
meetings-zero i o (a ∷ ins) (b ∷ outs) k l (inr m) e = ap (mul (at_labels k l a b)) (meetings-zero i o ins outs k l m e) ∙ mul-zero _

pub meetings-nonzero : (ins outs : List End) (k l : ℕ → Bool) → ((i o : End) → Meet i o ins outs → at_labels k l i o ≢ zero) → meetings ins outs k l ≢ zero
meetings-nonzero [] outs k l h = one_nonzero
meetings-nonzero (a ∷ ins) [] k l h = one_nonzero
meetings-nonzero (a ∷ ins) (b ∷ outs) k l h = mul-nonzero _ _ (h a b (inl (refl, refl))) (meetings-nonzero ins outs k l (λ i o m. h i o (inr m)))

pub meetings-same : (ins outs : List End) (k l s t : ℕ → Bool) → ((i o : End) → Meet i o ins outs → at_labels k l i o ≡ at_labels s t i o) → meetings ins outs k l ≡ meetings ins outs s t
meetings-same [] outs k l s t h = refl
meetings-same (a ∷ ins) [] k l s t h = refl
meetings-same (a ∷ ins) (b ∷ outs) k l s t h = ap₂ mul (h a b (inl (refl, refl))) (meetings-same ins outs k l s t (λ i o m. h i o (inr m)))

-- one meeting changes its sign, and the others stay
pub meetings-turned : (i o : End) (ins outs : List End) (k l s t : ℕ → Bool) → Distinct (end_vertices ins) → Meet i o ins outs →
    at_labels k l i o ≡ neg (at_labels s t i o) →
    ((j p : End) → Meet j p ins outs → j.vertex ≢ i.vertex → at_labels k l j p ≡ at_labels s t j p) → meetings ins outs k l ≡ neg (meetings ins outs s t)
meetings-turned i o [] outs k l s t d m turned h = absurd m
meetings-turned i o (a ∷ ins) [] k l s t d m turned h = absurd m
meetings-turned i o (a ∷ ins) (b ∷ outs) k l s t d (inl m) turned h =
    ap₂ mul
    (ap₂ (at_labels k l) (sym m.0) (sym m.1) ∙ turned ∙ ap neg (ap₂ (at_labels s t) m.0 m.1))
    (meetings-same ins outs k l s t (λ j p n. h j p (inr n) (λ e. true≢false (sym (meets_input j p ins outs n) ∙ ap (λ v. member v (end_vertices ins)) (e ∙ ap (λ (x : End). x.vertex) m.0) ∙ d.0))))
    ∙ neg-mul _ _
meetings-turned i o (a ∷ ins) (b ∷ outs) k l s t d (inr m) turned h =
    ap₂ mul
    (h a b (inl (refl, refl)) (λ e. true≢false (sym (meets_input i o ins outs m) ∙ ap (λ v. member v (end_vertices ins)) (sym e) ∙ d.0)))
    (meetings-turned i o ins outs k l s t d.1 m turned (λ j p n. h j p (inr n)))
    ∙ mul-neg _ _
