-- Local complementation keeps a flow: first every set that has u among its odd neighbours takes u in, which is
-- a flow already; then the new set of u is absorbed by the others.
use Rattle.std.proofs.Common.{◌≡◌, ◌≢◌, refl, sym, ◌∙◌, ap, ap₂, subst, ⊎_elim, ℕ, Bool, true, false, cond, not, ◌&&◌, eqb, List, eq-eqb, ne_eqb, ◌⊎◌, inl, inr, [], ◌∷◌}
use Rattle.std.proofs.lemmas.Bool.{cases_Bool, cases_eq, eqb-true, and_parts}
use Rattle.zx_model.specs.Bits.{xor, member}
use Rattle.zx_calculus.specs.Parity.{masked}
use Rattle.zx_calculus.specs.Graph.{Plane, XY, YZ, XZ, kind_of, Graph, Kind, end_vertices, joined, ids, WellFormed}
use Rattle.zx_calculus.specs.Turns.{complemented_in, quarter_turned_in}
use Rattle.zx_calculus.specs.Complements.{IsLocalComplement, complement_kind}
use Rattle.zx_calculus.proofs.Booleans.{parities, and_comm, xor-false, and-false}
use Rattle.zx_calculus.proofs.Parity.{masked-xor, masked-and}
use Rattle.zx_calculus.proofs.Ids.{eqb_comm}
use Rattle.zx_calculus.proofs.Vertices.{ids-with_kinds, kind_of-with_kinds}
use Rattle.zx_calculus.proofs.Splitting.{joined-self}
use Rattle.gflow_laws.specs.Correcting.{Simple, Strict, Alike, FlowAsFunctions, Distinct}
use Rattle.gflow_laws.specs.Seen.{in_odd_neighbourhood, complemented, Seen, complemented_plane, turned_plane, seen}
use Rattle.gflow_laws.specs.Flow.{is_in, is_later, Correction, set_of, order_of, SameSets, IsFlow, odd_in, inside_in, Corrects}
use Rattle.gflow_laws.specs.Complements.{set_about, set_beside, complement_table}
use Rattle.gflow_laws.specs.Tables.{symmetric_difference}
use Rattle.gflow_laws.proofs.Linear.{masked-same, masked-one, masked-of-and}
use Rattle.gflow_laws.proofs.Corrects.{odd-xor, xor_true, absorb}
use Rattle.gflow_laws.proofs.Views.{plane-quarter, Simple-seen}
use Rattle.gflow_laws.proofs.Lists.{is_in-symmetric_difference, is_in-one, is_later-strict}
use Rattle.gflow_laws.proofs.Flows.{live, listed, Flows-alike, Flows-from, IsFlowOf-from}
use Rattle.gflow_laws.proofs.Tables.{Corrects-same, Flows-with_sets, same-with_sets}

-- a local complement's adjacency, as a sum; its last part clears the diagonal
off_diagonal : (e x y z : Bool) → (e ≡ true → (x ≡ false) × (y ≡ z)) → (not e && xor x (y && z)) ≡ xor x (xor (y && z) (y && e))
off_diagonal true x y z h = sym (ap₂ (λ a b. xor a (xor (b && z) (b && true))) (h refl).0 (h refl).1 ∙ simp parities)
off_diagonal false x y z h = simp parities

masked_swapped : (n : ℕ → Bool) (vs : List ℕ) (A : ℕ → Bool) → masked n vs A ≡ masked A vs n
masked_swapped n vs A = masked-same n A vs A n (λ w _. and_comm (n w) (A w))

gathered : (x c y z : Bool) → xor x (xor (c && y) (c && z)) ≡ xor x (c && xor y z)
gathered x c y z = simp parities

-- who has an odd number of neighbours in a set, after a local complement
pub odd-complemented : (s : Seen) (u : ℕ) (A : ℕ → Bool) (v : ℕ) → Simple s → member v s.ids ≡ true →
    in_odd_neighbourhood (complemented s u) A v ≡ xor (in_odd_neighbourhood s A v) (s.adjacent u v && xor (in_odd_neighbourhood s A u) (A v))
odd-complemented s u A v simple there =
    masked-same ((complemented s u).adjacent v) (λ w. xor (s.adjacent v w) (xor (s.adjacent u v && s.adjacent u w) (s.adjacent u v && eqb w v))) s.ids A A
    (λ w _. ap (λ b. b && A w)
    (ap (λ b. not b && xor (s.adjacent v w) (s.adjacent u v && s.adjacent u w)) (eqb_comm v w)
    ∙ off_diagonal (eqb w v) (s.adjacent v w) (s.adjacent u v) (s.adjacent u w)
    (λ e. (ap (s.adjacent v) (eqb-true w v e) ∙ simple.no_loop v, ap (s.adjacent u) (sym (eqb-true w v e))))))
    ∙ masked-xor (s.adjacent v) (λ w. xor (s.adjacent u v && s.adjacent u w) (s.adjacent u v && eqb w v)) s.ids A
    ∙ ap (xor (in_odd_neighbourhood s A v))
    (masked-xor (λ w. s.adjacent u v && s.adjacent u w) (λ w. s.adjacent u v && eqb w v) s.ids A
    ∙ ap₂ xor (masked-and (s.adjacent u v) (s.adjacent u) s.ids A)
    (masked-and (s.adjacent u v) (λ w. eqb w v) s.ids A
    ∙ ap (λ b. s.adjacent u v && b) (masked_swapped (λ w. eqb w v) s.ids A ∙ masked-one A s.ids v simple.distinct there)))
    ∙ gathered (in_odd_neighbourhood s A v) (s.adjacent u v) (in_odd_neighbourhood s A u) (A v)

-- u goes in or out of the set where it has an odd number of neighbours in it
abbrev pub taken : Seen → ℕ → (ℕ → Bool) → ℕ → Bool
taken s u A w = xor (A w) (in_odd_neighbourhood s A u && eqb w u)

to_u : (s : Seen) (u v : ℕ) → Simple s → (complemented s u).adjacent v u ≡ s.adjacent u v
to_u s u v simple = ⊎_elim
    (λ e. ap (λ b. not b && xor (s.adjacent v u) (s.adjacent u v && s.adjacent u u)) (eq-eqb v u e) ∙ sym (ap (s.adjacent u) e ∙ simple.no_loop u))
    (λ ne. ap₂ (λ b c. not b && xor (s.adjacent v u) (s.adjacent u v && c)) (ne_eqb v u ne) (simple.no_loop u)
    ∙ ap (xor (s.adjacent v u)) (and-false (s.adjacent u v)) ∙ xor-false (s.adjacent v u) ∙ simple.symmetric v u)
    (cases_eq v u)

collected : (x n o a : Bool) → xor (xor x (n && xor o a)) (o && n) ≡ xor x (n && a)
collected x n o a = simp parities

pub odd-taken : (s : Seen) (u : ℕ) (A : ℕ → Bool) (v : ℕ) → Simple s → member u s.ids ≡ true → member v s.ids ≡ true →
    in_odd_neighbourhood (complemented s u) (taken s u A) v ≡ xor (in_odd_neighbourhood s A v) (s.adjacent u v && A v)
odd-taken s u A v simple there_u there =
    odd-xor (complemented s u) A (λ w. in_odd_neighbourhood s A u && eqb w u) v
    ∙ ap₂ xor (odd-complemented s u A v simple there)
    (masked-of-and (in_odd_neighbourhood s A u) ((complemented s u).adjacent v) s.ids (λ w. eqb w u)
    ∙ ap (λ b. in_odd_neighbourhood s A u && b) (masked-one ((complemented s u).adjacent v) s.ids u simple.distinct there_u ∙ to_u s u v simple))
    ∙ collected (in_odd_neighbourhood s A v) (s.adjacent u v) (in_odd_neighbourhood s A u) (A v)

inside_about : (p : Plane) → xor (inside_in p) (odd_in p && true) ≡ inside_in (complemented_plane p)
inside_about XY = refl
inside_about XZ = refl
inside_about YZ = refl

odd_about : (p : Plane) → odd_in p ≡ odd_in (complemented_plane p)
odd_about XY = refl
odd_about XZ = refl
odd_about YZ = refl

inside_turned : (p : Plane) (b : Bool) → inside_in p ≡ inside_in (cond b (turned_plane p) p)
inside_turned XY true = refl
inside_turned XZ true = refl
inside_turned YZ true = refl
inside_turned p false = refl

odd_turned : (p : Plane) (b : Bool) → xor (odd_in p) (b && inside_in p) ≡ odd_in (cond b (turned_plane p) p)
odd_turned XY true = refl
odd_turned XZ true = refl
odd_turned YZ true = refl
odd_turned p false = xor-false (odd_in p)

-- each set with u taken in or out serves after the local complement
pub Corrects-taken : (s : Seen) (before : ℕ → ℕ → Bool) (u v : ℕ) (A : ℕ → Bool) → Simple s → member u s.ids ≡ true → s.input u ≡ false →
    member v s.ids ≡ true → Corrects s before v A → Corrects (complemented s u) before v (taken s u A)
Corrects-taken s before u v A simple there_u interior there a = record {
  members = λ w e. ⊎_elim (λ h. a.members w h) (λ h. subst (λ x. member x s.ids ≡ true) (sym (is_u w h)) there_u) (xor_true _ _ e);
  input = λ w e. ⊎_elim (λ h. a.input w h) (λ h. ap s.input (is_u w h) ∙ interior) (xor_true _ _ e);
  order = λ w e ne. ⊎_elim (λ h. a.order w h ne)
      (λ h. subst (λ x. x ≢ v → before v x ≡ true) (sym (is_u w h)) (λ n. a.odd_order u there_u (and_parts _ _ h).0 n) ne) (xor_true _ _ e);
  odd_order = λ w within e ne. ⊎_elim (λ h. a.odd_order w within h ne) (λ h. a.order w (and_parts _ _ h).1 ne)
      (xor_true _ _ (sym (odd-taken s u A w simple there_u within) ∙ e));
  inside = ⊎_elim
      (λ e.
      ap₂ (λ x b. xor x (in_odd_neighbourhood s A u && b)) a.inside (eq-eqb v u e)
      ∙ ap (λ o. xor (inside_in (s.plane v)) (o && true)) (ap (in_odd_neighbourhood s A) (sym e) ∙ a.odd_there)
      ∙ inside_about (s.plane v) ∙ sym (ap (λ b. inside_in (plane_at b)) (eq-eqb v u e)))
      (λ ne.
      ap₂ (λ x b. xor x (in_odd_neighbourhood s A u && b)) a.inside (ne_eqb v u ne)
      ∙ ap (xor (inside_in (s.plane v))) (and-false (in_odd_neighbourhood s A u)) ∙ xor-false (inside_in (s.plane v))
      ∙ inside_turned (s.plane v) (s.adjacent u v) ∙ sym (ap (λ b. inside_in (plane_at b)) (ne_eqb v u ne)))
      (cases_eq v u);
  odd_there = odd-taken s u A v simple there_u there ∙ ⊎_elim
      (λ e.
      ap₂ (λ x b. xor x (b && A v)) a.odd_there (ap (s.adjacent u) e ∙ simple.no_loop u)
      ∙ xor-false (odd_in (s.plane v)) ∙ odd_about (s.plane v) ∙ sym (ap (λ b. odd_in (plane_at b)) (eq-eqb v u e)))
      (λ ne.
      ap₂ (λ x y. xor x (s.adjacent u v && y)) a.odd_there a.inside
      ∙ odd_turned (s.plane v) (s.adjacent u v) ∙ sym (ap (λ b. odd_in (plane_at b)) (ne_eqb v u ne)))
      (cases_eq v u);
}
  where
    is_u : (w : ℕ) → (in_odd_neighbourhood s A u && eqb w u) ≡ true → w ≡ u
    is_u w e = eqb-true w u (and_parts (in_odd_neighbourhood s A u) (eqb w u) e).1

    plane_at : Bool → Plane
    plane_at b = cond b (complemented_plane (s.plane v)) (cond (s.adjacent u v) (turned_plane (s.plane v)) (s.plane v))

-- the sets after a local complement: u's own, and that of another vertex
abbrev pub own_set : Seen → ℕ → (ℕ → Bool) → ℕ → Bool
own_set s u A w = xor (A w) (odd_in (s.plane u) && eqb w u)

abbrev pub other_set : Seen → ℕ → (ℕ → Bool) → (ℕ → Bool) → ℕ → Bool
other_set s u own A w = cond (in_odd_neighbourhood s A u) (xor (xor (A w) (own w)) (eqb w u)) (A w)

-- the set of u serves after the local complement, with u toggled where it was XY or XZ
pub Corrects-own : (s : Seen) (before : ℕ → ℕ → Bool) (u : ℕ) (A : ℕ → Bool) → Simple s → member u s.ids ≡ true → s.input u ≡ false →
    Corrects s before u A → Corrects (complemented s u) before u (own_set s u A)
Corrects-own s before u A simple there interior a =
    subst (λ o. Corrects (complemented s u) before u (λ w. xor (A w) (o && eqb w u))) a.odd_there
    (Corrects-taken s before u u A simple there interior there a)

reordered : (a o e : Bool) → xor (xor a (true && e)) o ≡ xor (xor a o) e
reordered a o e = simp parities

-- the set of another vertex serves, xored with the new set of u and with u where u had an odd number of neighbours in it
pub Corrects-other : (s : Seen) (before : ℕ → ℕ → Bool) (u v : ℕ) (A B : ℕ → Bool) → Strict before → Simple s → member u s.ids ≡ true → s.input u ≡ false →
    member v s.ids ≡ true → u ≢ v → Corrects s before v A → Corrects s before u B →
    Corrects (complemented s u) before v (other_set s u (own_set s u B) A)
Corrects-other s before u v A B strict simple there_u interior there ne a b = ⊎_elim
    (λ e.
    subst (λ C. Corrects (complemented s u) before v C)
    (λ i w. (ap (λ o. xor (xor (A w) (o && eqb w u)) (own_set s u B w)) e ∙ reordered (A w) (own_set s u B w) (eqb w u) ∙ ap (λ o. cond o (xor (xor (A w) (own_set s u B w)) (eqb w u)) (A w)) (sym e)) i)
    (absorb (complemented s u) before v u (taken s u A) (own_set s u B) strict there (a.odd_order u there_u e ne)
    (Corrects-taken s before u v A simple there_u interior there a) (Corrects-own s before u B simple there_u interior b)))
    (λ e.
    subst (λ C. Corrects (complemented s u) before v C)
    (λ i w. (ap (λ o. xor (A w) (o && eqb w u)) e ∙ xor-false (A w) ∙ ap (λ o. cond o (xor (xor (A w) (own_set s u B w)) (eqb w u)) (A w)) (sym e)) i)
    (Corrects-taken s before u v A simple there_u interior there a))
    (cases_Bool (in_odd_neighbourhood s A u))

plane-complement : (p : Plane) (k : ℕ) → (complemented_in p k).plane ≡ complemented_plane p
plane-complement XY k = refl
plane-complement XZ k = refl
plane-complement YZ k = refl

-- after a local complement
pub Alike-complement : (g : Graph) (u : ℕ) (h : Graph) → IsLocalComplement g u h → Alike (complemented (seen g) u) (seen h)
Alike-complement g u h step = record {
  ids = λ v. ap (member v) (sym (ap ids step.vertices ∙ ids-with_kinds (complement_kind u (joined g.edges u)) g.vertices));
  adjacent = λ p q _ _. ⊎_elim
      (λ e. ap (λ b. not b && xor (joined g.edges p q) (joined g.edges u p && joined g.edges u q)) (eq-eqb p q e)
      ∙ sym (ap (joined h.edges p) (sym e) ∙ joined-self h.edges p step.frame.ordered.lower_first))
      (λ ne. ap (λ b. not b && xor (joined g.edges p q) (joined g.edges u p && joined g.edges u q)) (ne_eqb p q ne) ∙ sym (step.edges p q ne))
      (cases_eq p q);
  plane = λ v there. sym (ap (λ vs. (kind_of vs v).plane) step.vertices
      ∙ ap (λ k. k.plane) (kind_of-with_kinds (complement_kind u (joined g.edges u)) v g.vertices there)
      ∙ changed (eqb v u) (joined g.edges u v) (kind_of g.vertices v));
  input = λ v _. ap (λ l. member v (end_vertices l)) (sym step.frame.inputs);
  output = λ v _. ap (λ l. member v (end_vertices l)) (sym step.frame.outputs);
}
  where
    changed : (e n : Bool) (k : Kind) →
        (cond e (complemented_in k.plane k.phase) (cond n (quarter_turned_in k.plane k.phase) k)).plane ≡ cond e (complemented_plane k.plane) (cond n (turned_plane k.plane) k.plane)
    changed true n k = plane-complement k.plane k.phase
    changed false true k = plane-quarter k.plane k.phase
    changed false false k = refl

pub is_in-set_about : (u : ℕ) (p : Plane) (members : List ℕ) (w : ℕ) → is_in (set_about u p members) w ≡ xor (is_in members w) (odd_in p && eqb w u)
is_in-set_about u XY members w = is_in-symmetric_difference members (u ∷ []) w ∙ ap (xor (is_in members w)) (is_in-one u w)
is_in-set_about u XZ members w = is_in-symmetric_difference members (u ∷ []) w ∙ ap (xor (is_in members w)) (is_in-one u w)
is_in-set_about u YZ members w = sym (xor-false (is_in members w))

pub is_in-set_beside : (s : Seen) (u : ℕ) (own members : List ℕ) (w : ℕ) → is_in (set_beside s u own members) w ≡ other_set s u (is_in own) (is_in members) w
is_in-set_beside s u own members w = ⊎_elim
    (λ e. ap (λ b. is_in (cond b (symmetric_difference (symmetric_difference members own) (u ∷ [])) members) w) e
    ∙ is_in-symmetric_difference (symmetric_difference members own) (u ∷ []) w
    ∙ ap₂ xor (is_in-symmetric_difference members own w) (is_in-one u w)
    ∙ ap (λ b. cond b (xor (xor (is_in members w) (is_in own w)) (eqb w u)) (is_in members w)) (sym e))
    (λ e. ap (λ b. is_in (cond b (symmetric_difference (symmetric_difference members own) (u ∷ [])) members) w) e
    ∙ ap (λ b. cond b (xor (xor (is_in members w) (is_in own w)) (eqb w u)) (is_in members w)) (sym e))
    (cases_Bool (in_odd_neighbourhood s (is_in members) u))

-- a local complement about a vertex without ends
pub Flows-complement : (s : Seen) (u : ℕ) (table : List Correction) → Simple s → member u s.ids ≡ true → s.input u ≡ false → s.output u ≡ false →
    FlowAsFunctions s table → FlowAsFunctions (complemented s u) (complement_table s u table)
Flows-complement s u table simple there_u no_input no_output f =
    Flows-with_sets (complemented s u) (λ v members. cond (eqb v u) own (set_beside s u own members)) table f.each_once f.non_outputs
    (λ v there. corrected v there (cases_eq v u))
  where
    own : List ℕ
    own = set_about u (s.plane u) (set_of table u)

    new : ℕ → List ℕ
    new v = cond (eqb v u) own (set_beside s u own (set_of table v))

    corrected : (v : ℕ) → member v (order_of table) ≡ true → (v ≡ u) ⊎ (v ≡ u → ⊥) → Corrects (complemented s u) (is_later (order_of table)) v (is_in (new v))
    corrected v there (inl e) =
        Corrects-same (complemented s u) (is_later (order_of table)) v (own_set s u (is_in (set_of table u))) (is_in (new v))
        (λ w. sym (ap (λ b. is_in (cond b own (set_beside s u own (set_of table v))) w) (eq-eqb v u e) ∙ is_in-set_about u (s.plane u) (set_of table u) w))
        (subst (λ x. Corrects (complemented s u) (is_later (order_of table)) x (own_set s u (is_in (set_of table u)))) (sym e)
        (Corrects-own s (is_later (order_of table)) u (is_in (set_of table u)) simple there_u no_input (f.corrects u (listed s table f u there_u no_output))))
    corrected v there (inr ne) =
        Corrects-same (complemented s u) (is_later (order_of table)) v (other_set s u (own_set s u (is_in (set_of table u))) (is_in (set_of table v))) (is_in (new v))
        (λ w. sym (ap (λ b. is_in (cond b own (set_beside s u own (set_of table v))) w) (ne_eqb v u ne)
        ∙ is_in-set_beside s u own (set_of table v) w
        ∙ ap (λ o. cond (in_odd_neighbourhood s (is_in (set_of table v)) u) (xor (xor (is_in (set_of table v) w) o) (eqb w u)) (is_in (set_of table v) w)) (is_in-set_about u (s.plane u) (set_of table u) w)))
        (Corrects-other s (is_later (order_of table)) u v (is_in (set_of table v)) (is_in (set_of table u)) (is_later-strict (order_of table)) simple there_u no_input
        (live s table f v there) (λ e. ne (sym e)) (f.corrects v there) (f.corrects u (listed s table f u there_u no_output)))

pub same-complement_table : (s : Seen) (u : ℕ) (table other : List Correction) → SameSets table other → SameSets (complement_table s u table) (complement_table s u other)
same-complement_table s u table other same =
    same-with_sets (change table) (change other) table other by_members same
  where
    change : List Correction → ℕ → List ℕ → List ℕ
    change t v members = cond (eqb v u) (set_about u (s.plane u) (set_of t u)) (set_beside s u (set_about u (s.plane u) (set_of t u)) members)

    own_same : (w : ℕ) → is_in (set_about u (s.plane u) (set_of table u)) w ≡ is_in (set_about u (s.plane u) (set_of other u)) w
    own_same w = is_in-set_about u (s.plane u) (set_of table u) w ∙ ap (λ b. xor b (odd_in (s.plane u) && eqb w u)) (same.members u w)
        ∙ sym (is_in-set_about u (s.plane u) (set_of other u) w)

    at : (b : Bool) (ms ns : List ℕ) → ((w : ℕ) → is_in ms w ≡ is_in ns w) → (w : ℕ) →
        is_in (cond b (set_about u (s.plane u) (set_of table u)) (set_beside s u (set_about u (s.plane u) (set_of table u)) ms)) w
        ≡ is_in (cond b (set_about u (s.plane u) (set_of other u)) (set_beside s u (set_about u (s.plane u) (set_of other u)) ns)) w
    at true ms ns e w = own_same w
    at false ms ns e w =
        is_in-set_beside s u (set_about u (s.plane u) (set_of table u)) ms w
        ∙ (λ i. other_set s u (λ x. own_same x i) (λ x. e x i) w)
        ∙ sym (is_in-set_beside s u (set_about u (s.plane u) (set_of other u)) ns w)

    by_members : (v : ℕ) (ms ns : List ℕ) → ((w : ℕ) → is_in ms w ≡ is_in ns w) → (w : ℕ) → is_in (change table v ms) w ≡ is_in (change other v ns) w
    by_members v ms ns e w = at (eqb v u) ms ns e w

pub local_complement_flow : (g : Graph) (u : ℕ) (h : Graph) (table : List Correction) → WellFormed g → IsLocalComplement g u h → IsFlow g table →
    IsFlow h (complement_table (seen g) u table)
local_complement_flow g u h table wf step flow =
    IsFlowOf-from (seen h) (complement_table (seen g) u table)
    (Flows-alike (complemented (seen g) u) (seen h) (complement_table (seen g) u table) simple.distinct
    (subst Distinct (sym (ap ids step.vertices ∙ ids-with_kinds (complement_kind u (joined g.edges u)) g.vertices)) simple.distinct)
    (Alike-complement g u h step)
    (Flows-complement (seen g) u table simple step.there step.interior.no_input step.interior.no_output (Flows-from (seen g) table flow)))
  where
    simple : Simple (seen g)
    simple = Simple-seen g wf
