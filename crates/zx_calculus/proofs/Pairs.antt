-- An edge toggled between two vertices, in the parity of edges.
use Rattle.std.proofs.Common.{◌≡◌, ◌≢◌, sym, ◌∙◌, ap, ap₂, ℕ, Bool, true, false, ◌&&◌, eqb, List, ne_eqb}
use Rattle.zx_model.specs.Bits.{xor, member}
use Rattle.zx_calculus.specs.Internal.Pairs.{quad}
use Rattle.zx_calculus.specs.Edits.{is_pair}
use Rattle.zx_calculus.proofs.Booleans.{parities, or-apart, and-false}
use Rattle.zx_calculus.proofs.Ids.{by_equal, Distinct}
use Rattle.zx_calculus.proofs.Parity.{quad-xor, masked_same, masked-false, cross_identity}
use Rattle.zx_calculus.proofs.Edges.{quad_same, masked-pick}

-- no id is two different ones
pub not_both : (u v : ℕ) → u ≢ v → (p : ℕ) → (eqb p u && eqb p v) ≡ false
not_both u v different p =
    by_equal p u (λ t e. ap (λ b. eqb p u && b) (ne_eqb p v (λ e'. different (sym e ∙ e'))) ∙ and-false (eqb p u)) (λ f n. ap (λ b. b && eqb p v) f)

is_pair-xor : (u v : ℕ) → u ≢ v → (p q : ℕ) → is_pair u v p q ≡ xor (eqb p u && eqb q v) (eqb p v && eqb q u)
is_pair-xor u v different p q =
    or-apart (eqb p u && eqb q v) (eqb p v && eqb q u)
    (regroup (eqb p u) (eqb q v) (eqb p v) (eqb q u) ∙ ap (λ b. b && (eqb q v && eqb q u)) (not_both u v different p))
  where
    regroup : (a b c d : Bool) → ((a && b) && (c && d)) ≡ ((a && c) && (b && d))
    regroup a b c d = simp parities

pub quad-pair : (u v : ℕ) (vs : List ℕ) (label : ℕ → Bool) → Distinct vs → u ≢ v → member u vs ≡ true → member v vs ≡ true → quad (is_pair u v) vs label ≡ (label u && label v)
quad-pair u v vs label d different there there_too =
    quad_same _ _ vs label d (λ p q s t n. is_pair-xor u v different p q)
    ∙ none _ _ (masked_same (λ p. eqb p u && eqb p v) (λ p. false) vs label (λ p t. not_both u v different p) ∙ masked-false vs label)
    ∙ cross_identity (λ p. eqb p u) (λ p. eqb p v) vs label
    ∙ ap₂ (λ x y. x && y) (masked-pick u vs label d there) (masked-pick v vs label d there_too)
  where
    none : (a b : Bool) → b ≡ false → a ≡ xor a b
    none a b h = rw h (simp parities)

pub quad-toggled : (a b : ℕ → ℕ → Bool) (u v : ℕ) (vs : List ℕ) (label : ℕ → Bool) → Distinct vs → u ≢ v → member u vs ≡ true → member v vs ≡ true →
    ((p q : ℕ) → p ≢ q → a p q ≡ xor (b p q) (is_pair u v p q)) → quad a vs label ≡ xor (quad b vs label) (label u && label v)
quad-toggled a b u v vs label d different there there_too edges =
    quad_same a (λ p q. xor (b p q) (is_pair u v p q)) vs label d (λ p q s t n. edges p q n)
    ∙ quad-xor b (is_pair u v) vs label
    ∙ ap (xor (quad b vs label)) (quad-pair u v vs label d different there there_too)
