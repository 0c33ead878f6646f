-- Sums over labels: as sums over lists of bits, in any order, and with a factor.
use Rattle.std.proofs.Common.{◌≡◌, ◌≢◌, ℕ, suc, Bool, true, false, cond, eqb, List, [], ◌∷◌, ◌++◌, map, length, sym, ◌∙◌, ap, ap₂, refl, subst, eq-eqb, ne_eqb, eqb-true, true≢false}
use Rattle.zx_model.specs.Number.{Number, zero, add, mul}
use Rattle.zx_model.specs.Sums.{total, all_labels, labelled, over, sum_over, label_of}
use Rattle.zx_model.proofs.Ring.{add_assoc, add-zero, zero-add, mul-add, sorted}

-- ---- lists of numbers
pub total-append : (xs ys : List Number) → total (xs ++ ys) ≡ add (total xs) (total ys)
total-append [] ys = sym (zero-add (total ys))
total-append (x ∷ xs) ys = ap (add x) (total-append xs ys) ∙ sym (add_assoc x (total xs) (total ys))

interchange : (a b c d : Number) → add (add a b) (add c d) ≡ add (add a c) (add b d)
interchange a b c d = simp sorted

pub total-map_add : (f g : List Bool → Number) (hs : List (List Bool)) → total (map (λ h. add (f h) (g h)) hs) ≡ add (total (map f hs)) (total (map g hs))
total-map_add f g [] = sym (zero-add zero)
total-map_add f g (h ∷ hs) =
    ap (add (add (f h) (g h))) (total-map_add f g hs) ∙ interchange (f h) (g h) (total (map f hs)) (total (map g hs))

total-map_map : (f : List Bool → Number) (c : List Bool → List Bool) (hs : List (List Bool)) → total (map f (map c hs)) ≡ total (map (λ h. f (c h)) hs)
total-map_map f c [] = refl
total-map_map f c (h ∷ hs) = ap (add (f (c h))) (total-map_map f c hs)

map-append : (f : List Bool → Number) (xs ys : List (List Bool)) → map f (xs ++ ys) ≡ map f xs ++ map f ys
map-append f [] ys = refl
map-append f (x ∷ xs) ys = ap (λ zs. f x ∷ zs) (map-append f xs ys)

-- a sum over all lists of one more bit
pub total-all_labels : (n : ℕ) (f : List Bool → Number) → total (map f (all_labels (suc n))) ≡ total (map (λ hs. add (f (false ∷ hs)) (f (true ∷ hs))) (all_labels n))
total-all_labels n f =
    ap total (map-append f (map (λ hs. false ∷ hs) (all_labels n)) (map (λ hs. true ∷ hs) (all_labels n))) ∙ total-append (map f (map (λ hs. false ∷ hs) (all_labels n))) (map f (map (λ hs. true ∷ hs) (all_labels n))) ∙ ap₂ add (total-map_map f (λ hs. false ∷ hs) (all_labels n)) (total-map_map f (λ hs. true ∷ hs) (all_labels n)) ∙ sym (total-map_add (λ hs. f (false ∷ hs)) (λ hs. f (true ∷ hs)) (all_labels n))

-- the sum over all lists of bits, as labels of the listed names, is the iterated sum
pub all_lists : (vs : List ℕ) (f : (ℕ → Bool) → Number) → total (map (λ hs. f (label_of vs hs)) (all_labels (length vs))) ≡ sum_over vs f
all_lists [] f = add-zero (f (λ u. false))
all_lists (v ∷ vs) f = total-all_labels (length vs) (λ hs. f (label_of (v ∷ vs) hs)) ∙ all_lists vs (over v f)

-- ---- labels
pub labelled-same : (label : ℕ → Bool) (v : ℕ) (h : Bool) → labelled label v h v ≡ h
labelled-same label v h = rw (eq-eqb v v refl)

pub labelled-other : (label : ℕ → Bool) (v : ℕ) (h : Bool) (u : ℕ) → u ≢ v → labelled label v h u ≡ label u
labelled-other label v h u different = rw (ne_eqb u v different)

twice : (t g h l : Bool) → cond t h (cond t g l) ≡ cond t h l
twice true g h l = refl
twice false g h l = refl

swapped : (w u v : ℕ) (g h l : Bool) → u ≢ v → (s t : Bool) → eqb w u ≡ s → eqb w v ≡ t → cond t h (cond s g l) ≡ cond s g (cond t h l)
swapped w u v g h l different true true p q = absurd (different (sym (eqb-true w u p) ∙ eqb-true w v q))
swapped w u v g h l different true false p q = refl
swapped w u v g h l different false true p q = refl
swapped w u v g h l different false false p q = refl

pub labelled-labelled : (label : ℕ → Bool) (v : ℕ) (g h : Bool) → labelled (labelled label v g) v h ≡ labelled label v h
labelled-labelled label v g h = λ i u. twice (eqb u v) g h (label u) i

pub labelled_swap : (label : ℕ → Bool) (u v : ℕ) (g h : Bool) → u ≢ v → labelled (labelled label u g) v h ≡ labelled (labelled label v h) u g
labelled_swap label u v g h different = λ i w. swapped w u v g h (label w) different (eqb w u) (eqb w v) refl refl i

-- ---- the order of summation
over_comm_by : (u v : ℕ) (f : (ℕ → Bool) → Number) (label : ℕ → Bool) (t : Bool) → eqb u v ≡ t → over u (over v f) label ≡ over v (over u f) label
over_comm_by u v f label true e =
    let one_name : u ≡ v = eqb-true u v e in
    subst (λ w. over u (over w f) label ≡ over w (over u f) label) one_name refl
over_comm_by u v f label false e =
    let swap = λ (g h : Bool). ap f (labelled_swap label u v g h (λ p. true≢false (sym (eq-eqb u v p) ∙ e))) in
    ap₂ add (ap₂ add (swap false false) (swap false true)) (ap₂ add (swap true false) (swap true true)) ∙ interchange _ _ _ _

pub over_comm : (u v : ℕ) (f : (ℕ → Bool) → Number) (label : ℕ → Bool) → over u (over v f) label ≡ over v (over u f) label
over_comm u v f label = over_comm_by u v f label (eqb u v) refl

pub sum_over_same : (vs : List ℕ) (f g : (ℕ → Bool) → Number) → ((label : ℕ → Bool) → f label ≡ g label) → sum_over vs f ≡ sum_over vs g
sum_over_same vs f g e = ap (sum_over vs) (λ i label. e label i)

pub sum_over_pull : (pre : List ℕ) (u : ℕ) (post : List ℕ) (f : (ℕ → Bool) → Number) → sum_over (pre ++ u ∷ post) f ≡ sum_over (pre ++ post) (over u f)
sum_over_pull [] u post f = refl
sum_over_pull (v ∷ pre) u post f =
    sum_over_pull pre u post (over v f) ∙ sum_over_same (pre ++ post) (over u (over v f)) (over v (over u f)) (over_comm u v f)

-- ---- sums and constant factors
pub sum_over_add : (vs : List ℕ) (f g : (ℕ → Bool) → Number) → sum_over vs (λ label. add (f label) (g label)) ≡ add (sum_over vs f) (sum_over vs g)
sum_over_add [] f g = refl
sum_over_add (v ∷ vs) f g =
    sum_over_same vs _ (λ label. add (over v f label) (over v g label)) (λ label. interchange (f (labelled label v false)) (g (labelled label v false)) (f (labelled label v true)) (g (labelled label v true))) ∙ sum_over_add vs (over v f) (over v g)

scaled_pair : (c d p q r s : Number) → mul c p ≡ mul d r → mul c q ≡ mul d s → mul c (add p q) ≡ mul d (add r s)
scaled_pair c d p q r s e f = mul-add c p q ∙ ap₂ add e f ∙ sym (mul-add d r s)

pub sum_over_scaled : (c d : Number) (vs : List ℕ) (f g : (ℕ → Bool) → Number) → ((label : ℕ → Bool) → mul c (f label) ≡ mul d (g label)) → mul c (sum_over vs f) ≡ mul d (sum_over vs g)
sum_over_scaled c d [] f g e = e (λ u. false)
sum_over_scaled c d (v ∷ vs) f g e =
    sum_over_scaled c d vs (over v f) (over v g) (λ label. scaled_pair c d _ _ _ _ (e (labelled label v false)) (e (labelled label v true)))

pub sum_over_mul : (c : Number) (vs : List ℕ) (f : (ℕ → Bool) → Number) → sum_over vs (λ label. mul c (f label)) ≡ mul c (sum_over vs f)
sum_over_mul c [] f = refl
sum_over_mul c (v ∷ vs) f =
    sum_over_same vs _ (λ label. mul c (over v f label)) (λ label. sym (mul-add c (f (labelled label v false)) (f (labelled label v true)))) ∙ sum_over_mul c vs (over v f)
