-- `masked` and `quad` are linear in what is adjacent, and don't mind the order of the list.
use Rattle.std.proofs.Common.{◌≡◌, refl, ◌∙◌, ap, ap₂, ℕ, Bool, true, false, ◌&&◌, List, [], ◌∷◌}
use Rattle.zx_model.specs.Bits.{xor, member}
use Rattle.zx_calculus.specs.Parity.{masked}
use Rattle.zx_calculus.specs.Internal.Pairs.{quad}
use Rattle.zx_calculus.proofs.Booleans.{parities}
use Rattle.zx_calculus.proofs.Ids.{member-here, member-there}

both_apart : (a b l x y : Bool) → xor (xor a b && l) (xor x y) ≡ xor (xor (a && l) x) (xor (b && l) y)
both_apart a b l x y = simp parities

both_under : (a b l x y : Bool) → xor (l && xor a b) (xor x y) ≡ xor (xor (l && a) x) (xor (l && b) y)
both_under a b l x y = simp parities

common_factor : (b n l x : Bool) → xor ((b && n) && l) (b && x) ≡ (b && xor (n && l) x)
common_factor b n l x = simp parities

pub masked-xor : (m n : ℕ → Bool) (vs : List ℕ) (label : ℕ → Bool) → masked (λ p. xor (m p) (n p)) vs label ≡ xor (masked m vs label) (masked n vs label)
masked-xor m n [] label = refl
masked-xor m n (v ∷ vs) label =
    ap (xor (xor (m v) (n v) && label v)) (masked-xor m n vs label) ∙ both_apart (m v) (n v) (label v) (masked m vs label) (masked n vs label)

pub quad-xor : (a b : ℕ → ℕ → Bool) (vs : List ℕ) (label : ℕ → Bool) → quad (λ p q. xor (a p q) (b p q)) vs label ≡ xor (quad a vs label) (quad b vs label)
quad-xor a b [] label = refl
quad-xor a b (v ∷ vs) label =
    ap₂ (λ m r. xor (label v && m) r) (masked-xor (a v) (b v) vs label) (quad-xor a b vs label)
    ∙ both_under (masked (a v) vs label) (masked (b v) vs label) (label v) (quad a vs label) (quad b vs label)

pub masked-and : (b : Bool) (n : ℕ → Bool) (vs : List ℕ) (label : ℕ → Bool) → masked (λ p. b && n p) vs label ≡ (b && masked n vs label)
masked-and b n [] label = simp parities
masked-and b n (v ∷ vs) label =
    ap (xor ((b && n v) && label v)) (masked-and b n vs label) ∙ common_factor b (n v) (label v) (masked n vs label)

pub masked-false : (vs : List ℕ) (label : ℕ → Bool) → masked (λ p. false) vs label ≡ false
masked-false [] label = refl
masked-false (v ∷ vs) label = masked-false vs label

-- with the first of the list taken apart: a and b at it, its label, and the sums over the rest
cross_step : (a b l x y c n : Bool) → xor c n ≡ (x && y) →
    xor (xor (l && xor (a && y) (b && x)) c) (xor ((a && b) && l) n) ≡ (xor (a && l) x && xor (b && l) y)
cross_step a b l x y c n e = rearranged a b l x y c n ∙ ap (xor (xor (l && xor (a && y) (b && x)) ((a && b) && l))) e ∙ simp parities
  where
    rearranged : (a b l x y c n : Bool) → xor (xor (l && xor (a && y) (b && x)) c) (xor ((a && b) && l) n) ≡ xor (xor (l && xor (a && y) (b && x)) ((a && b) && l)) (xor c n)
    rearranged a b l x y c n = simp parities

-- the edges between two classes, and inside their common part, add up to the product of the two parities
pub cross_identity : (a b : ℕ → Bool) (vs : List ℕ) (label : ℕ → Bool) →
    xor (quad (λ p q. xor (a p && b q) (b p && a q)) vs label) (masked (λ p. a p && b p) vs label) ≡ (masked a vs label && masked b vs label)
cross_identity a b [] label = refl
cross_identity a b (v ∷ vs) label =
    ap (λ m. xor (xor (label v && m) (quad (λ p q. xor (a p && b q) (b p && a q)) vs label)) (xor ((a v && b v) && label v) (masked (λ p. a p && b p) vs label)))
    (masked-xor (λ q. a v && b q) (λ q. b v && a q) vs label ∙ ap₂ xor (masked-and (a v) b vs label) (masked-and (b v) a vs label))
    ∙ cross_step (a v) (b v) (label v) (masked a vs label) (masked b vs label) _ _ (cross_identity a b vs label)

-- what stands for each listed number decides
pub masked-same : (m n : ℕ → Bool) (vs : List ℕ) (k l : ℕ → Bool) → ((p : ℕ) → member p vs ≡ true → (m p && k p) ≡ (n p && l p)) → masked m vs k ≡ masked n vs l
masked-same m n [] k l h = refl
masked-same m n (v ∷ vs) k l h = ap₂ xor (h v (member-here v vs)) (masked-same m n vs k l (λ p t. h p (member-there p v vs t)))

pub masked_same : (m n : ℕ → Bool) (vs : List ℕ) (label : ℕ → Bool) → ((p : ℕ) → member p vs ≡ true → m p ≡ n p) → masked m vs label ≡ masked n vs label
masked_same m n vs label h = masked-same m n vs label label (λ p t. ap (λ b. b && label p) (h p t))

pub masked_labels : (n : ℕ → Bool) (vs : List ℕ) (k l : ℕ → Bool) → ((p : ℕ) → member p vs ≡ true → k p ≡ l p) → masked n vs k ≡ masked n vs l
masked_labels n vs k l h = masked-same n n vs k l (λ p t. ap (λ b. n p && b) (h p t))

pub quad_labels : (a : ℕ → ℕ → Bool) (vs : List ℕ) (k l : ℕ → Bool) → ((p : ℕ) → member p vs ≡ true → k p ≡ l p) → quad a vs k ≡ quad a vs l
quad_labels a [] k l h = refl
quad_labels a (v ∷ vs) k l h =
    let later : (p : ℕ) → member p vs ≡ true → k p ≡ l p = λ p t. h p (member-there p v vs t) in
    ap (λ b. xor (b && masked (a v) vs k) (quad a vs k)) (h v (member-here v vs))
    ∙ ap₂ (λ m r. xor (l v && m) r) (masked_labels (a v) vs k l later) (quad_labels a vs k l later)
