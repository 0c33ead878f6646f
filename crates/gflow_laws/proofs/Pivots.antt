-- In planes and edges a pivot of u and v is local complements about u, v and u; so it keeps a flow.
use Rattle.std.proofs.Common.{◌≡◌, ◌≢◌, ◌⊎◌, inl, inr, refl, sym, ◌∙◌, ap, ap₂, subst, ⊎_elim, ℕ, Bool, true, false, cond, not, ◌&&◌, ◌||◌, eqb, eq-eqb, ne_eqb, List}
use Rattle.std.proofs.lemmas.Bool.{cases_eq, true≢false, or_left, or_right}
use Rattle.zx_model.specs.Bits.{xor, member}
use Rattle.zx_calculus.specs.Graph.{Plane, XZ, XY, YZ, kind_of, Graph, Kind, end_vertices, joined, ids, WellFormed}
use Rattle.zx_calculus.specs.Turns.{pivoted_in, half_turned}
use Rattle.zx_calculus.specs.Pivots.{IsPivot, pivot_kind}
use Rattle.zx_calculus.proofs.Ids.{eqb_comm}
use Rattle.zx_calculus.proofs.Booleans.{and_comm, xor-false, parities}
use Rattle.zx_calculus.proofs.Edges.{joined_comm}
use Rattle.zx_calculus.proofs.Vertices.{ids-with_kinds, kind_of-with_kinds}
use Rattle.zx_calculus.proofs.Splitting.{joined-self}
use Rattle.gflow_laws.specs.Correcting.{Simple, Alike, Distinct}
use Rattle.gflow_laws.specs.Seen.{complemented, Seen, turned_plane, complemented_plane, seen}
use Rattle.gflow_laws.specs.Flow.{SameSets, Correction, IsFlow}
use Rattle.gflow_laws.specs.Pivots.{pivot_table}
use Rattle.gflow_laws.specs.Complements.{complement_table}
use Rattle.gflow_laws.proofs.Views.{half_kept, Simple-seen}
use Rattle.gflow_laws.proofs.Complements.{same-complement_table, Flows-complement}
use Rattle.gflow_laws.proofs.Flows.{Flows-alike, Flows-from, IsFlowOf-from}
use Rattle.zx_calculus.proofs.Pivots.{added_twice}

-- a local complement leads to a simple graph
pub Simple-complemented : (s : Seen) (u : ℕ) → Simple s → Simple (complemented s u)
Simple-complemented s u simple = record {
  distinct = simple.distinct;
  symmetric = λ p q. ap₂ (λ e x. not e && xor x (s.adjacent u p && s.adjacent u q)) (eqb_comm p q) (simple.symmetric p q)
      ∙ ap (λ x. not (eqb q p) && xor (s.adjacent q p) x) (and_comm (s.adjacent u p) (s.adjacent u q));
  no_loop = λ p. ap (λ e. not e && xor (s.adjacent p p) (s.adjacent u p && s.adjacent u p)) (eq-eqb p p refl);
}

-- off the diagonal
apart : (s : Seen) (u p q : ℕ) → p ≢ q → (complemented s u).adjacent p q ≡ xor (s.adjacent p q) (s.adjacent u p && s.adjacent u q)
apart s u p q ne = ap (λ e. not e && xor (s.adjacent p q) (s.adjacent u p && s.adjacent u q)) (ne_eqb p q ne)

-- a local complement about u keeps the neighbours of u
about_self : (s : Seen) (u q : ℕ) → Simple s → u ≢ q → (complemented s u).adjacent u q ≡ s.adjacent u q
about_self s u q simple ne =
    apart s u u q ne ∙ ap (λ b. xor (s.adjacent u q) (b && s.adjacent u q)) (simple.no_loop u) ∙ xor-false (s.adjacent u q)

exchanged_v : (x y : Bool) → xor (xor y x) y ≡ x
exchanged_v x y = simp parities

between_classes : (a up uq vp vq : Bool) → xor (xor (xor a (up && uq)) (xor vp up && xor vq uq)) (vp && vq) ≡ xor a (xor (up && vq) (vp && uq))
between_classes a up uq vp vq = simp parities

module _ (s : Seen) (u v : ℕ) (simple : Simple s) (uv : s.adjacent u v ≡ true) where
  u_not_v : u ≢ v
  u_not_v e = true≢false (sym uv ∙ ap (s.adjacent u) (sym e) ∙ simple.no_loop u)

  abbrev first : Seen
  first = complemented s u

  abbrev second : Seen
  second = complemented first v

  abbrev third : Seen
  third = complemented second u

  simple_first : Simple first
  simple_first = Simple-complemented s u simple

  simple_second : Simple second
  simple_second = Simple-complemented first v simple_first

  first_uv : first.adjacent u v ≡ true
  first_uv = about_self s u v simple u_not_v ∙ uv

  first_vu : first.adjacent v u ≡ true
  first_vu = simple_first.symmetric v u ∙ first_uv

  -- of another vertex: adjacent to v after the first complement
  first_v : (x : ℕ) → x ≢ u → x ≢ v → first.adjacent v x ≡ xor (s.adjacent v x) (true && s.adjacent u x)
  first_v x nu nv = apart s u v x (λ e. nv (sym e)) ∙ ap (λ b. xor (s.adjacent v x) (b && s.adjacent u x)) uv

  second_uv : second.adjacent u v ≡ true
  second_uv = simple_second.symmetric u v ∙ about_self first v u simple_first (λ e. u_not_v (sym e)) ∙ first_vu

  second_u : (x : ℕ) → x ≢ u → x ≢ v → second.adjacent u x ≡ s.adjacent v x
  second_u x nu nv =
      apart first v u x (λ e. nu (sym e))
      ∙ ap₂ xor (about_self s u x simple (λ e. nu (sym e))) (ap₂ (λ b c. b && c) first_vu (first_v x nu nv))
      ∙ added_twice (s.adjacent u x) (s.adjacent v x)

  third_uv : third.adjacent u v ≡ true
  third_uv = about_self second u v simple_second u_not_v ∙ second_uv

  third_u : (x : ℕ) → x ≢ u → x ≢ v → third.adjacent u x ≡ s.adjacent v x
  third_u x nu nv = about_self second u x simple_second (λ e. nu (sym e)) ∙ second_u x nu nv

  third_v : (x : ℕ) → x ≢ u → x ≢ v → third.adjacent v x ≡ s.adjacent u x
  third_v x nu nv =
      apart second u v x (λ e. nv (sym e))
      ∙ ap₂ xor (about_self first v x simple_first (λ e. nv (sym e)) ∙ first_v x nu nv) (ap₂ (λ b c. b && c) second_uv (second_u x nu nv))
      ∙ exchanged_v (s.adjacent u x) (s.adjacent v x)

  third_between : (p q : ℕ) → p ≢ u → p ≢ v → q ≢ u → q ≢ v → p ≢ q →
      third.adjacent p q ≡ xor (s.adjacent p q) (xor (s.adjacent u p && s.adjacent v q) (s.adjacent v p && s.adjacent u q))
  third_between p q pu pv qu qv ne =
      apart second u p q ne
      ∙ ap₂ xor (apart first v p q ne ∙ ap₂ xor (apart s u p q ne) (ap₂ (λ b c. b && c) (first_v p pu pv) (first_v q qu qv)))
      (ap₂ (λ b c. b && c) (second_u p pu pv) (second_u q qu qv))
      ∙ between_classes (s.adjacent p q) (s.adjacent u p) (s.adjacent u q) (s.adjacent v p) (s.adjacent v q)

  plane_of_u : third.plane u ≡ complemented_plane (turned_plane (complemented_plane (s.plane u)))
  plane_of_u =
      ap (λ b. cond b (complemented_plane (second.plane u)) (cond (second.adjacent u u) (turned_plane (second.plane u)) (second.plane u))) (eq-eqb u u refl)
      ∙ ap complemented_plane
      (ap₂ (λ b c. cond b (complemented_plane (first.plane u)) (cond c (turned_plane (first.plane u)) (first.plane u))) (ne_eqb u v u_not_v) first_vu
      ∙ ap turned_plane (ap (λ b. cond b (complemented_plane (s.plane u)) (cond (s.adjacent u u) (turned_plane (s.plane u)) (s.plane u))) (eq-eqb u u refl)))

  plane_of_v : third.plane v ≡ turned_plane (complemented_plane (turned_plane (s.plane v)))
  plane_of_v =
      ap₂ (λ b c. cond b (complemented_plane (second.plane v)) (cond c (turned_plane (second.plane v)) (second.plane v))) (ne_eqb v u (λ e. u_not_v (sym e))) second_uv
      ∙ ap turned_plane
      (ap (λ b. cond b (complemented_plane (first.plane v)) (cond (first.adjacent v v) (turned_plane (first.plane v)) (first.plane v))) (eq-eqb v v refl)
      ∙ ap complemented_plane (ap₂ (λ b c. cond b (complemented_plane (s.plane v)) (cond c (turned_plane (s.plane v)) (s.plane v))) (ne_eqb v u (λ e. u_not_v (sym e))) uv))

  plane_of_other : (x : ℕ) → x ≢ u → x ≢ v → third.plane x ≡ s.plane x
  plane_of_other x nu nv =
      ap₂ (λ b c. cond b (complemented_plane (second.plane x)) (cond c (turned_plane (second.plane x)) (second.plane x))) (ne_eqb x u nu) (second_u x nu nv)
      ∙ ap (λ p. cond (s.adjacent v x) (turned_plane p) p)
      (ap₂ (λ b c. cond b (complemented_plane (first.plane x)) (cond c (turned_plane (first.plane x)) (first.plane x))) (ne_eqb x v nv) (first_v x nu nv)
      ∙ ap (λ p. cond (xor (s.adjacent v x) (true && s.adjacent u x)) (turned_plane p) p)
      (ap (λ b. cond b (complemented_plane (s.plane x)) (cond (s.adjacent u x) (turned_plane (s.plane x)) (s.plane x))) (ne_eqb x u nu)))
      ∙ turned_twice (s.plane x) (s.adjacent u x) (s.adjacent v x)
    where
      turned_twice : (p : Plane) (a b : Bool) →
          cond b (turned_plane (cond (xor b (true && a)) (turned_plane (cond a (turned_plane p) p)) (cond a (turned_plane p) p)))
          (cond (xor b (true && a)) (turned_plane (cond a (turned_plane p) p)) (cond a (turned_plane p) p)) ≡ p
      turned_twice XY true true = refl
      turned_twice XY true false = refl
      turned_twice XY false true = refl
      turned_twice XY false false = refl
      turned_twice XZ true true = refl
      turned_twice XZ true false = refl
      turned_twice XZ false true = refl
      turned_twice XZ false false = refl
      turned_twice YZ true true = refl
      turned_twice YZ true false = refl
      turned_twice YZ false true = refl
      turned_twice YZ false false = refl

plane-pivot_u : (p : Plane) (k : ℕ) → complemented_plane (turned_plane (complemented_plane p)) ≡ (pivoted_in p k).plane
plane-pivot_u XY k = refl
plane-pivot_u XZ k = refl
plane-pivot_u YZ k = refl

plane-pivot_v : (p : Plane) (k : ℕ) → turned_plane (complemented_plane (turned_plane p)) ≡ (pivoted_in p k).plane
plane-pivot_v XY k = refl
plane-pivot_v XZ k = refl
plane-pivot_v YZ k = refl

-- after a pivot
pub Alike-pivot : (g : Graph) (u v : ℕ) (h : Graph) → Simple (seen g) → IsPivot g u v h →
    Alike (complemented (complemented (complemented (seen g) u) v) u) (seen h)
Alike-pivot g u v h simple step = record {
  ids = λ x. ap (member x) (sym (ap ids step.vertices ∙ ids-with_kinds change g.vertices));
  adjacent = λ p q _ _. adjacent p q;
  plane = λ x there. plane x (cases_eq x u) (cases_eq x v) ∙ sym (ap (λ vs. (kind_of vs x).plane) step.vertices ∙ ap (λ k. k.plane) (kind_of-with_kinds change x g.vertices there));
  input = λ x _. ap (λ l. member x (end_vertices l)) (sym step.frame.inputs);
  output = λ x _. ap (λ l. member x (end_vertices l)) (sym step.frame.outputs);
}
  where
    change : ℕ → Kind → Kind
    change = pivot_kind u v (joined g.edges u) (joined g.edges v)

    after_three : Seen
    after_three = complemented (complemented (complemented (seen g) u) v) u

    simple_three : Simple after_three
    simple_three = Simple-complemented (complemented (complemented (seen g) u) v) u (Simple-complemented (complemented (seen g) u) v (Simple-complemented (seen g) u simple))

    uv : joined g.edges u v ≡ true
    uv = step.adjacent

    of_u : (q : ℕ) → q ≢ u → (q ≡ v) ⊎ (q ≡ v → ⊥) → after_three.adjacent u q ≡ joined h.edges u q
    of_u q qu (inl e) = subst (λ x. after_three.adjacent u x ≡ joined h.edges u x) (sym e) (third_uv (seen g) u v simple uv ∙ sym step.still_adjacent)
    of_u q qu (inr qv) = third_u (seen g) u v simple uv q qu qv ∙ sym (step.of_u q qu qv)

    of_v : (q : ℕ) → q ≢ v → (q ≡ u) ⊎ (q ≡ u → ⊥) → after_three.adjacent v q ≡ joined h.edges v q
    of_v q qv (inl e) = subst (λ x. after_three.adjacent v x ≡ joined h.edges v x) (sym e)
        (simple_three.symmetric v u ∙ third_uv (seen g) u v simple uv ∙ sym (joined_comm h.edges v u ∙ step.still_adjacent))
    of_v q qv (inr qu) = third_v (seen g) u v simple uv q qu qv ∙ sym (step.of_v q qu qv)

    swapped : (p q : ℕ) → after_three.adjacent p q ≡ joined h.edges p q → after_three.adjacent q p ≡ joined h.edges q p
    swapped p q e = simple_three.symmetric q p ∙ e ∙ joined_comm h.edges p q

    apart_from : (p q : ℕ) → p ≢ q → (p ≡ u) ⊎ (p ≡ u → ⊥) → (p ≡ v) ⊎ (p ≡ v → ⊥) → (q ≡ u) ⊎ (q ≡ u → ⊥) → (q ≡ v) ⊎ (q ≡ v → ⊥) →
        after_three.adjacent p q ≡ joined h.edges p q
    apart_from p q ne (inl e) pv qu qv = subst (λ x. x ≢ q → after_three.adjacent x q ≡ joined h.edges x q) (sym e) (λ n. of_u q (λ f. n (sym f)) qv) ne
    apart_from p q ne (inr pu) (inl e) qu qv = subst (λ x. x ≢ q → after_three.adjacent x q ≡ joined h.edges x q) (sym e) (λ n. of_v q (λ f. n (sym f)) qu) ne
    apart_from p q ne (inr pu) (inr pv) (inl e) qv = swapped q p (subst (λ x. after_three.adjacent x p ≡ joined h.edges x p) (sym e) (of_u p pu (inr pv)))
    apart_from p q ne (inr pu) (inr pv) (inr qu) (inl e) = swapped q p (subst (λ x. after_three.adjacent x p ≡ joined h.edges x p) (sym e) (of_v p pv (inr pu)))
    apart_from p q ne (inr pu) (inr pv) (inr qu) (inr qv) =
        third_between (seen g) u v simple uv p q pu pv qu qv ne ∙ sym (step.between p q pu pv qu qv ne)

    adjacent : (p q : ℕ) → after_three.adjacent p q ≡ joined h.edges p q
    adjacent p q = ⊎_elim
        (λ e. subst (λ x. after_three.adjacent p x ≡ joined h.edges p x) e (simple_three.no_loop p ∙ sym (joined-self h.edges p step.frame.ordered.lower_first)))
        (λ ne. apart_from p q ne (cases_eq p u) (cases_eq p v) (cases_eq q u) (cases_eq q v))
        (cases_eq p q)

    changed_at : (b : Bool) (x : ℕ) (k : Kind) → b ≡ true → (cond b (pivoted_in k.plane k.phase) (cond (joined g.edges u x && joined g.edges v x) (half_turned k) k)).plane ≡ (pivoted_in k.plane k.phase).plane
    changed_at b x k e = ap (λ c. (cond c (pivoted_in k.plane k.phase) (cond (joined g.edges u x && joined g.edges v x) (half_turned k) k)).plane) e

    plane : (x : ℕ) → (x ≡ u) ⊎ (x ≡ u → ⊥) → (x ≡ v) ⊎ (x ≡ v → ⊥) → after_three.plane x ≡ (change x (kind_of g.vertices x)).plane
    plane x (inl e) b = subst (λ y. after_three.plane y ≡ (change y (kind_of g.vertices y)).plane) (sym e)
        (plane_of_u (seen g) u v simple uv ∙ plane-pivot_u (kind_of g.vertices u).plane (kind_of g.vertices u).phase
        ∙ sym (changed_at (eqb u u || eqb u v) u (kind_of g.vertices u) (or_left (eqb u u) (eqb u v) (eq-eqb u u refl))))
    plane x (inr nu) (inl e) = subst (λ y. after_three.plane y ≡ (change y (kind_of g.vertices y)).plane) (sym e)
        (plane_of_v (seen g) u v simple uv ∙ plane-pivot_v (kind_of g.vertices v).plane (kind_of g.vertices v).phase
        ∙ sym (changed_at (eqb v u || eqb v v) v (kind_of g.vertices v) (or_right (eqb v u) (eqb v v) (eq-eqb v v refl))))
    plane x (inr nu) (inr nv) =
        plane_of_other (seen g) u v simple uv x nu nv
        ∙ sym (ap₂ (λ b c. (cond (b || c) (pivoted_in (kind_of g.vertices x).plane (kind_of g.vertices x).phase)
        (cond (joined g.edges u x && joined g.edges v x) (half_turned (kind_of g.vertices x)) (kind_of g.vertices x))).plane) (ne_eqb x u nu) (ne_eqb x v nv)
        ∙ half_kept (joined g.edges u x && joined g.edges v x) (kind_of g.vertices x))

pub same-pivot_table : (s : Seen) (u v : ℕ) (table other : List Correction) → SameSets table other → SameSets (pivot_table s u v table) (pivot_table s u v other)
same-pivot_table s u v table other same =
    same-complement_table (complemented (complemented s u) v) u (complement_table (complemented s u) v (complement_table s u table)) (complement_table (complemented s u) v (complement_table s u other))
    (same-complement_table (complemented s u) v (complement_table s u table) (complement_table s u other) (same-complement_table s u table other same))

pub pivot_flow : (g : Graph) (u v : ℕ) (h : Graph) (table : List Correction) → WellFormed g → IsPivot g u v h → IsFlow g table →
    IsFlow h (pivot_table (seen g) u v table)
pivot_flow g u v h table wf step flow =
    IsFlowOf-from (seen h) (pivot_table (seen g) u v table)
    (Flows-alike (complemented (complemented (complemented (seen g) u) v) u) (seen h) (pivot_table (seen g) u v table) simple.distinct
    (subst Distinct (sym (ap ids step.vertices ∙ ids-with_kinds (pivot_kind u v (joined g.edges u) (joined g.edges v)) g.vertices)) simple.distinct)
    (Alike-pivot g u v h simple step)
    (Flows-complement (complemented (complemented (seen g) u) v) u (complement_table (complemented (seen g) u) v (complement_table (seen g) u table))
    (Simple-complemented (complemented (seen g) u) v simple_first) step.there step.interior.no_input step.interior.no_output
    (Flows-complement (complemented (seen g) u) v (complement_table (seen g) u table) simple_first step.there_too step.interior_too.no_input step.interior_too.no_output
    (Flows-complement (seen g) u table simple step.there step.interior.no_input step.interior.no_output (Flows-from (seen g) table flow)))))
  where
    simple : Simple (seen g)
    simple = Simple-seen g wf

    simple_first : Simple (complemented (seen g) u)
    simple_first = Simple-complemented (seen g) u simple
