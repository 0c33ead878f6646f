-- Tables that are kept as an order and sets: what changes of these are as changes of the table.
use Rattle.std.proofs.Common.{◌≡◌, refl, sym, ◌∙◌, ap, ap₂, ℕ, ◌<◌, ◌≤◌, Bool, true, false, suc, cond, not, ◌&&◌, eqb, List, [], ◌∷◌, ◌++◌, length, filter, true≢false, arith}
use Rattle.zx_model.specs.Bits.{member}
use Rattle.zx_calculus.specs.Graph.{Distinct}
use Rattle.zx_calculus.proofs.Ids.{by_test, by_equal, eqb_comm, apart_of_member, member-here, member-there, member-filter}
use Rattle.gflow_laws.specs.Flow.{Correction, order_of, set_of}
use Rattle.gflow_laws.specs.Tables.{with_sets, without_set}
use Rattle.open_graph.specs.VertexSets.{VertexSet}
use Rattle.zx_flow.specs.VertexSets.{set_at, SameSetsAt, SameSetsBut}
use Rattle.zx_flow.specs.Internal.Sets.{table_of, HoldsOnce}

pub order_of-table_of : (sets : List VertexSet) (order : List ℕ) → order_of (table_of sets order) ≡ order
order_of-table_of sets [] = refl
order_of-table_of sets (v ∷ vs) = ap (λ r. v ∷ r) (order_of-table_of sets vs)

pub set_of-table_of : (sets : List VertexSet) (order : List ℕ) (v : ℕ) → member v order ≡ true → set_of (table_of sets order) v ≡ set_at sets v
set_of-table_of sets [] v h = absurd (true≢false (sym h))
set_of-table_of sets (x ∷ xs) v h =
    by_equal v x (λ t e. rw t (ap (set_at sets) (sym e))) (λ f n. let there : member v xs ≡ true = rw f at h in rw f (set_of-table_of sets xs v there))

pub table_of-same : (old new : List VertexSet) (order : List ℕ) → ((p : ℕ) → member p order ≡ true → set_at new p ≡ set_at old p) → table_of new order ≡ table_of old order
table_of-same old new [] same = refl
table_of-same old new (x ∷ xs) same =
    ap₂ (λ (s : List ℕ) (r : List Correction). record { vertex = x; members = s } ∷ r) (same x (member-here x xs)) (table_of-same old new xs (λ p h. same p (member-there p x xs h)))

pub table_of-append : (sets : List VertexSet) (order : List ℕ) (v : ℕ) → table_of sets (order ++ v ∷ []) ≡ table_of sets order ++ record { vertex = v; members = set_at sets v } ∷ []
table_of-append sets [] v = refl
table_of-append sets (x ∷ xs) v = ap (λ r. record { vertex = x; members = set_at sets x } ∷ r) (table_of-append sets xs v)

-- the table where the set at one number has changed
pub table_of-changed : (old new : List VertexSet) (order : List ℕ) (v : ℕ) → SameSetsBut v old new →
    table_of new order ≡ with_sets (λ u members. cond (eqb u v) (set_at new v) members) (table_of old order)
table_of-changed old new [] v others = refl
table_of-changed old new (x ∷ xs) v others =
    ap₂ (λ (m : List ℕ) (r : List Correction). record { vertex = x; members = m } ∷ r)
    (by_equal x v (λ t e. rw t (ap (set_at new) e)) (λ f n. rw f (others x f)))
    (table_of-changed old new xs v others)

but_one : (p v : ℕ) (order : List ℕ) → member p order ≡ true → member v order ≡ false → eqb p v ≡ false
but_one p v order h fresh = by_equal p v (λ t e. absurd (apart_of_member p v order h fresh e)) (λ f n. f)

-- the sets of the others, after place was made for v and its set put there
pub others : (old grown new : List VertexSet) (v : ℕ) → SameSetsAt old grown → SameSetsBut v grown new → SameSetsBut v old new
others old grown new v same but p f = but p f ∙ same p

pub table_of-fresh : (old new : List VertexSet) (order : List ℕ) (v : ℕ) → SameSetsBut v old new → member v order ≡ false → table_of new order ≡ table_of old order
table_of-fresh old new order v but fresh = table_of-same old new order (λ p h. but p (but_one p v order h fresh))

abbrev pub without : ℕ → List ℕ → List ℕ
without v order = filter (λ u. not (eqb u v)) order

member-without : (v : ℕ) (order : List ℕ) → member v (without v order) ≡ false
member-without v [] = refl
member-without v (x ∷ xs) = by_equal x v (λ t e. rw t (member-without v xs)) (λ f n. let apart : eqb v x ≡ false = eqb_comm v x ∙ f in rw (f, apart) (member-without v xs))

table_of-filter : (sets : List VertexSet) (order : List ℕ) (v : ℕ) → table_of sets (without v order) ≡ without_set v (table_of sets order)
table_of-filter sets [] v = refl
table_of-filter sets (x ∷ xs) v =
    by_equal x v (λ t e. let same : eqb v x ≡ true = eqb_comm v x ∙ t in rw (t, same) (table_of-filter sets xs v))
    (λ f n. let apart : eqb v x ≡ false = eqb_comm v x ∙ f in rw (f, apart) (ap (λ r. record { vertex = x; members = set_at sets x } ∷ r) (table_of-filter sets xs v)))

pub table_of-without : (old new : List VertexSet) (order : List ℕ) (v : ℕ) → SameSetsBut v old new → table_of new (without v order) ≡ without_set v (table_of old order)
table_of-without old new order v but =
    table_of-fresh old new (without v order) v but (member-without v order) ∙ table_of-filter old order v

length-out : (v : ℕ) (order : List ℕ) → member v order ≡ false → length (without v order) ≡ length order
length-out v [] out = refl
length-out v (x ∷ xs) out =
    by_equal x v (λ t e. let same : eqb v x ≡ true = eqb_comm v x ∙ t in let no : true ≡ false = rw same at out in absurd (true≢false no))
    (λ f n. let apart : eqb v x ≡ false = eqb_comm v x ∙ f in let rest : member v xs ≡ false = rw apart at out in rw f (ap suc (length-out v xs rest)))

-- one vertex less
pub length-without : (v : ℕ) (order : List ℕ) → Distinct order → member v order ≡ true → suc (length (without v order)) ≡ length order
length-without v [] once there = absurd (true≢false (sym there))
length-without v (x ∷ xs) once there =
    by_equal x v (λ t e. rw t (ap suc (length-out v xs (ap (λ u. member u xs) (sym e) ∙ once.0))))
    (λ f n. let apart : eqb v x ≡ false = eqb_comm v x ∙ f in let rest : member v xs ≡ true = rw apart at there in rw f (ap suc (length-without v xs once.1 rest)))

pub HoldsOnce-grown : {old new : List VertexSet} {order : List ℕ} → HoldsOnce old order → length old ≤ length new → HoldsOnce new order
HoldsOnce-grown {old} {new} {order} holds le = record { each_once = holds.each_once; within = λ p h. let lt : p < length old = holds.within p h in omega (arith, le, lt) }

Distinct-filter : (t : ℕ → Bool) (xs : List ℕ) → Distinct xs → Distinct (filter t xs)
Distinct-filter t [] d = d
Distinct-filter t (x ∷ xs) d =
    by_test (t x) (λ y. rw y (member-filter t xs x ∙ ap (λ b. b && t x) d.0, Distinct-filter t xs d.1)) (λ n. rw n (Distinct-filter t xs d.1))

pub HoldsOnce-without : (old new : List VertexSet) (order : List ℕ) (v : ℕ) → HoldsOnce old order → length old ≤ length new → HoldsOnce new (without v order)
HoldsOnce-without old new order v holds le = record {
  each_once = Distinct-filter (λ u. not (eqb u v)) order holds.each_once;
  within = λ p h. by_test (member p order) (λ there. let below : p < length old = holds.within p there in omega (arith, le, below))
      (λ absent. absurd (true≢false (sym h ∙ member-filter (λ u. not (eqb u v)) order p ∙ ap (λ b. b && not (eqb p v)) absent)));
}
