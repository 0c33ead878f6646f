-- How many of a list of vertices pass a test on id and kind: one vertex at the front, changed, taken out or put in.
use Rattle.std.proofs.Common.{◌≡◌, ◌≢◌, refl, sym, ◌∙◌, ap, ap₂, subst, ℕ, ◌+◌, ◌≤◌, Bool, true, false, cond, ◌||◌, eqb, ltb, List, [], ◌∷◌, length, filter, true≢false, ne_eqb, arith}
use Rattle.zx_model.specs.Bits.{member, one_if}
use Rattle.zx_calculus.specs.Graph.{Kind, Vertex, ids, kind_of, with_kinds, without, insert_vertex}
use Rattle.zx_calculus.proofs.Ids.{by_test, by_equal, apart_of_member, eqb-self, Distinct, member-removed_other}
use Rattle.zx_calculus.proofs.Forms.{ids-without, without-absent}
use Rattle.zx_calculus.proofs.Vertices.{kind_of-without}
use Rattle.zx_calculus.proofs.Splitting.{Distinct-without, member-without}

abbrev pub Test : Type 0
Test = ℕ → Kind → Bool

abbrev pub count : Test → List Vertex → ℕ
count t vs = length (filter (λ v. t v.id v.kind) vs)

pub count-cons : (t : Test) (v : Vertex) (vs : List Vertex) → count t (v ∷ vs) ≡ one_if (t v.id v.kind) + count t vs
count-cons t v vs = at (t v.id v.kind)
  where
    at : (b : Bool) → length (cond b (v ∷ filter (λ v. t v.id v.kind) vs) (filter (λ v. t v.id v.kind) vs)) ≡ one_if b + count t vs
    at true = omega arith
    at false = omega arith

swap : (a b c : ℕ) → a + (b + c) ≡ b + (a + c)
swap a b c = omega arith

pub count_front : (t : Test) (u : ℕ) (vs : List Vertex) → Distinct (ids vs) → member u (ids vs) ≡ true → count t vs ≡ one_if (t u (kind_of vs u)) + count t (without u vs)
count_front t u [] d h = absurd (true≢false (sym h))
count_front t u (v ∷ vs) d h =
    by_equal u v.id
    (λ e q. rw (e, without-absent u vs (ap (λ w. member w (ids vs)) q ∙ d.0)) (count-cons t v vs ∙ ap (λ w. one_if (t w v.kind) + count t vs) (sym q)))
    (λ f n. let there : member u (ids vs) ≡ true = rw f at h in
    rw f
    (count-cons t v vs ∙ ap (λ n. one_if (t v.id v.kind) + n) (count_front t u vs d.1 there) ∙ swap _ _ _
    ∙ ap (λ n. one_if (t u (kind_of vs u)) + n) (sym (count-cons t v (without u vs)))))

-- changes of kinds as a change of the test
pub count-with_kinds : (t : Test) (f : ℕ → Kind → Kind) (vs : List Vertex) → count t (with_kinds f vs) ≡ count (λ p k. t p (f p k)) vs
count-with_kinds t f [] = refl
count-with_kinds t f (v ∷ vs) =
    count-cons t (record { id = v.id; kind = f v.id v.kind }) (with_kinds f vs)
    ∙ ap (λ n. one_if (t v.id (f v.id v.kind)) + n) (count-with_kinds t f vs)
    ∙ sym (count-cons (λ p k. t p (f p k)) v vs)

-- what holds of each vertex of a list holds of the first, and of the later ones
each_first : (P : ℕ → Kind → Type 0) (v : Vertex) (vs : List Vertex) → ((p : ℕ) → member p (ids (v ∷ vs)) ≡ true → P p (kind_of (v ∷ vs) p)) → P v.id v.kind
each_first P v vs each =
    subst (P v.id) (ap (λ b. cond b v.kind (kind_of vs v.id)) (eqb-self v.id)) (each v.id (ap (λ b. b || member v.id (ids vs)) (eqb-self v.id)))

each_later : (P : ℕ → Kind → Type 0) (v : Vertex) (vs : List Vertex) → Distinct (ids (v ∷ vs)) → ((p : ℕ) → member p (ids (v ∷ vs)) ≡ true → P p (kind_of (v ∷ vs) p))
    → (p : ℕ) → member p (ids vs) ≡ true → P p (kind_of vs p)
each_later P v vs d each p t =
    let apart : eqb p v.id ≡ false = ne_eqb p v.id (apart_of_member p v.id (ids vs) t d.0) in
    subst (P p) (ap (λ b. cond b v.kind (kind_of vs p)) apart) (each p (ap (λ b. b || member p (ids vs)) apart ∙ t))

-- two tests that agree on each vertex
pub count_same : (s t : Test) (vs : List Vertex) → Distinct (ids vs) → ((p : ℕ) → member p (ids vs) ≡ true → s p (kind_of vs p) ≡ t p (kind_of vs p)) → count s vs ≡ count t vs
count_same s t [] d same = refl
count_same s t (v ∷ vs) d same =
    count-cons s v vs
    ∙ ap₂ (λ b n. one_if b + n) (each_first (λ p k. s p k ≡ t p k) v vs same) (count_same s t vs d.1 (each_later (λ p k. s p k ≡ t p k) v vs d same))
    ∙ sym (count-cons t v vs)

-- two tests against two others, where each vertex passes at most as many
pub count_at_most : (s t a b : Test) (vs : List Vertex) → Distinct (ids vs)
    → ((p : ℕ) → member p (ids vs) ≡ true → one_if (s p (kind_of vs p)) + one_if (t p (kind_of vs p)) ≤ one_if (a p (kind_of vs p)) + one_if (b p (kind_of vs p)))
    → count s vs + count t vs ≤ count a vs + count b vs
count_at_most s t a b [] d most = omega arith
count_at_most s t a b (v ∷ vs) d most =
    let P : ℕ → Kind → Type 0 = λ p k. one_if (s p k) + one_if (t p k) ≤ one_if (a p k) + one_if (b p k) in
    together _ _ _ _ _ _ _ _ _ _ _ _ (each_first P v vs most) (count_at_most s t a b vs d.1 (each_later P v vs d most)) (count-cons s v vs) (count-cons t v vs) (count-cons a v vs) (count-cons b v vs)
  where
    together : (i j k l m n o p c d e f : ℕ) → i + j ≤ k + l → m + n ≤ o + p → c ≡ i + m → d ≡ j + n → e ≡ k + o → f ≡ l + p → c + d ≤ e + f
    together i j k l m n o p c d e f h h' x y z w = omega arith

pub member-without_other : (p u : ℕ) (vs : List Vertex) → p ≢ u → member p (ids (without u vs)) ≡ member p (ids vs)
member-without_other p u vs n = ap (member p) (ids-without u vs) ∙ member-removed_other p u (ids vs) n

-- two tests that agree on each vertex but u
pub count_apart : (s t : Test) (u : ℕ) (vs : List Vertex) → Distinct (ids vs) → member u (ids vs) ≡ true
    → ((p : ℕ) → member p (ids vs) ≡ true → p ≢ u → s p (kind_of vs p) ≡ t p (kind_of vs p))
    → count s vs + one_if (t u (kind_of vs u)) ≡ count t vs + one_if (s u (kind_of vs u))
count_apart s t u vs d there same = crossed _ _ _ _ _ _ (count_front s u vs d there) (count_front t u vs d there) rest
  where
    rest : count s (without u vs) ≡ count t (without u vs)
    rest = count_same s t (without u vs) (Distinct-without u vs d)
        (λ p m. let n : p ≢ u = apart_of_member p u (ids (without u vs)) m (member-without u vs) in
        subst (λ k. s p k ≡ t p k) (sym (kind_of-without p u vs n)) (same p (sym (member-without_other p u vs n) ∙ m) n))

    crossed : (a b i j m n : ℕ) → a ≡ i + m → b ≡ j + n → m ≡ n → a + j ≡ b + i
    crossed a b i j m n e f g = omega arith

-- two tests that agree on each vertex but u and v
pub count_apart_two : (s t : Test) (u v : ℕ) (vs : List Vertex) → Distinct (ids vs) → member u (ids vs) ≡ true → member v (ids vs) ≡ true → u ≢ v
    → ((p : ℕ) → member p (ids vs) ≡ true → p ≢ u → p ≢ v → s p (kind_of vs p) ≡ t p (kind_of vs p))
    → count s vs + (one_if (t u (kind_of vs u)) + one_if (t v (kind_of vs v))) ≡ count t vs + (one_if (s u (kind_of vs u)) + one_if (s v (kind_of vs v)))
count_apart_two s t u v vs d there there_too differ =
    λ same. crossed _ _ _ _ _ _ _ _ (count_front s u vs d there) (count_front t u vs d there)
    (subst (λ k. count s (without u vs) + one_if (t v k) ≡ count t (without u vs) + one_if (s v k)) (kind_of-without v u vs (λ e. differ (sym e)))
    (count_apart s t v (without u vs) (Distinct-without u vs d) (member-without_other v u vs (λ e. differ (sym e)) ∙ there_too)
    (λ p m nv. let n : p ≢ u = apart_of_member p u (ids (without u vs)) m (member-without u vs) in
    subst (λ k. s p k ≡ t p k) (sym (kind_of-without p u vs n)) (same p (sym (member-without_other p u vs n) ∙ m) n nv))))
  where
    crossed : (a b i j m n x y : ℕ) → a ≡ i + m → b ≡ j + n → m + x ≡ n + y → a + (j + x) ≡ b + (i + y)
    crossed a b i j m n x y e f g = omega arith

-- one more vertex
pub count-insert : (t : Test) (n : Vertex) (vs : List Vertex) → count t (insert_vertex n vs) ≡ one_if (t n.id n.kind) + count t vs
count-insert t n [] = count-cons t n []
count-insert t n (v ∷ vs) =
    by_test (ltb n.id v.id) (λ e. rw e (count-cons t n (v ∷ vs)))
    (λ e. rw e
    (count-cons t v (insert_vertex n vs) ∙ ap (λ c. one_if (t v.id v.kind) + c) (count-insert t n vs) ∙ swap _ _ _
    ∙ ap (λ c. one_if (t n.id n.kind) + c) (sym (count-cons t v vs))))
