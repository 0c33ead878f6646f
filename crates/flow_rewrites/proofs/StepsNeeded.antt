-- The steps that simplification needs, summed up over the vertices.
use Rattle.std.proofs.Common.{◌≡◌, refl, sym, ◌∙◌, ap, ap₂, ℕ, ◌+◌, ◌*◌, ◌<◌, ◌≤◌, true, false, cond, not, ne_eqb, List, [], ◌∷◌, ◌++◌, length, arith}
use Rattle.std.proofs.lemmas.List.{append-nil}
use Rattle.zx_model.specs.Bits.{member, one_if}
use Rattle.zx_calculus.specs.Graph.{Plane, XY, XZ, YZ, Vertex, Graph, ids, is_XY, kind_of, plane_of, WellFormed}
use Rattle.zx_calculus.specs.Counts.{not_XY}
use Rattle.zx_calculus.proofs.CountLemmas.{count, count-cons}
use Rattle.zx_calculus.proofs.Ids.{Distinct, apart_of_member, eqb-self, member-here, member-there}
use Rattle.zx_calculus.proofs.Splitting.{distinct}
use Rattle.flow_rewrites.specs.Internal.Rooms.{steps_needed}

-- the sum of what a function gives for each of a list
abbrev pub sum : (ℕ → ℕ) → List ℕ → ℕ
sum f [] = 0
sum f (v ∷ vs) = f v + sum f vs

pub sum-last : (f : ℕ → ℕ) (vs : List ℕ) (v : ℕ) → sum f (vs ++ v ∷ []) ≡ sum f vs + f v
sum-last f [] v = omega arith
sum-last f (x ∷ vs) v = omega (arith, sum-last f vs v)

sum-append : (f : ℕ → ℕ) (vs ws : List ℕ) → sum f (vs ++ ws) ≡ sum f vs + sum f ws
sum-append f [] ws = omega arith
sum-append f (x ∷ vs) ws = omega (arith, sum-append f vs ws)

sum-same : (f h : ℕ → ℕ) (vs : List ℕ) → ((p : ℕ) → member p vs ≡ true → f p ≡ h p) → sum f vs ≡ sum h vs
sum-same f h [] same = refl
sum-same f h (v ∷ vs) same =
    ap₂ (λ a b. a + b) (same v (member-here v vs)) (sum-same f h vs (λ p m. same p (member-there p v vs m)))

needed_by : (plane : Plane) → steps_needed plane ≡ 12 + 6 * one_if (not (is_XY plane))
needed_by XY = refl
needed_by XZ = refl
needed_by YZ = refl

total : (vs : List Vertex) → Distinct (ids vs) →
    sum (λ p. steps_needed (kind_of vs p).plane) (ids vs) ≡ 12 * length vs + 6 * count (λ p k. not (is_XY k.plane)) vs
total [] d = refl
total (v ∷ vs) d =
    let first : steps_needed (kind_of (v ∷ vs) v.id).plane ≡ 12 + 6 * one_if (not (is_XY v.kind.plane)) =
    ap (λ b. steps_needed (cond b v.kind (kind_of vs v.id)).plane) (eqb-self v.id) ∙ needed_by v.kind.plane in
    let rest =
    sum-same (λ p. steps_needed (kind_of (v ∷ vs) p).plane) (λ p. steps_needed (kind_of vs p).plane) (ids vs)
    (λ p m. ap (λ b. steps_needed (cond b v.kind (kind_of vs p)).plane) (ne_eqb p v.id (apart_of_member p v.id (ids vs) m d.0)))
    ∙ total vs d.1 in
    let more = count-cons (λ p k. not (is_XY k.plane)) v vs in
    omega (arith, first, rest, more)

abbrev pub needed_at : Graph → ℕ → ℕ
needed_at g v = steps_needed (plane_of g v)

needed_in_all : (g : Graph) → WellFormed g → sum (needed_at g) (ids g.vertices) ≡ 12 * length g.vertices + 6 * not_XY g
needed_in_all g w = total g.vertices (distinct g w)

-- all have come, and the steps sufficed
pub suffices : (g : Graph) (before rest : List ℕ) (left steps : ℕ) → WellFormed g → before ++ rest ≡ ids g.vertices → rest ≡ [] →
    left + sum (needed_at g) before ≡ steps → 12 * length g.vertices + 6 * not_XY g ≤ steps
suffices g before rest left steps w all none is =
    let whole = ap (sum (needed_at g)) (sym (append-nil before) ∙ ap (λ xs. before ++ xs) (sym none) ∙ all) ∙ needed_in_all g w in
    omega (arith, whole, is)

-- for one more they don't
pub lacks : (g : Graph) (before rest : List ℕ) (v left steps : ℕ) → WellFormed g → (before ++ v ∷ []) ++ rest ≡ ids g.vertices →
    left + sum (needed_at g) before ≡ steps → left < needed_at g v → 12 * length g.vertices + 6 * not_XY g ≤ steps → false ≡ true
lacks g before rest v left steps w all is less enough =
    let whole = sym (needed_in_all g w) ∙ ap (sum (needed_at g)) (sym all) ∙ sum-append (needed_at g) (before ++ v ∷ []) rest in
    let last = sum-last (needed_at g) before v in
    absurd (omega (arith, whole, last, is, less, enough))

pub one_taken : (g : Graph) (before : List ℕ) (v left rest steps : ℕ) → left + sum (needed_at g) before ≡ steps →
    rest + needed_at g v ≡ left → rest + sum (needed_at g) (before ++ v ∷ []) ≡ steps
one_taken g before v left rest steps is taken = let last = sum-last (needed_at g) before v in omega (arith, last, is, taken)
