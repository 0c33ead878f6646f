-- A vertex that isn't XY is in its own correction set, so that this set takes it out of every other; then it can go.
use Rattle.std.proofs.Common.{◌≡◌, ◌≢◌, refl, sym, ◌∙◌, ap, ap₂, subst, ⊎_elim, ℕ, Bool, true, false, cond, not, ◌&&◌, eqb, eq-eqb, ne_eqb, List}
use Rattle.std.proofs.lemmas.Bool.{cases_Bool, cases_eq, true≢false, and_parts}
use Rattle.zx_model.specs.Bits.{member, xor}
use Rattle.zx_calculus.specs.Graph.{Plane, XY, YZ, XZ, Kind, without, joined, ids, end_vertices, kind_of, with_kinds, Graph, WellFormed, plane_of, phase_of}
use Rattle.zx_calculus.specs.Deletions.{IsDelete, delete_kind}
use Rattle.zx_calculus.specs.Edits.{KeepsEnds}
use Rattle.zx_calculus.specs.Gadgets.{fuse_kind, IsDropLone, IsFuseInto, IsFuseTwin}
use Rattle.zx_calculus.specs.Turns.{with_phase_added}
use Rattle.zx_calculus.proofs.Vertices.{kind_of-without, ids-with_kinds, kind_of-with_kinds, with_kinds-identity}
use Rattle.zx_calculus.proofs.Forms.{ids-without}
use Rattle.zx_calculus.proofs.Splitting.{interior_of, off_XY}
use Rattle.zx_calculus.proofs.Counting.{YZ_apart}
use Rattle.gflow_laws.specs.Seen.{Seen, in_odd_neighbourhood, seen}
use Rattle.gflow_laws.specs.Correcting.{Strict, Alike, FlowAsFunctions, Distinct}
use Rattle.gflow_laws.specs.Tables.{without_set, symmetric_difference}
use Rattle.gflow_laws.specs.Flow.{is_later, Correction, is_in, set_of, order_of, SameSets, IsFlow, Corrects, inside_in}
use Rattle.gflow_laws.specs.Removals.{removal_table}
use Rattle.gflow_laws.proofs.Linear.{removed, masked-same, masked-of-removed, member-removed, Distinct-removed}
use Rattle.gflow_laws.proofs.Corrects.{absorb}
use Rattle.gflow_laws.proofs.Tables.{order_of-without_set, Corrects-same, Flows-with_sets, Corrects-later, set_of-without_set, same-without_set, same-with_sets}
use Rattle.gflow_laws.proofs.Lists.{is_later-strict, is_in-symmetric_difference, is_later-removed}
use Rattle.gflow_laws.proofs.Flows.{live, listed, Flows-alike, Flows-from, IsFlowOf-from}
use Rattle.gflow_laws.proofs.Views.{Simple-seen, half_kept}

-- the view without the vertex u
abbrev pub removed_from : Seen → ℕ → Seen
removed_from s u = record { ids = removed u s.ids; adjacent = s.adjacent; plane = s.plane; input = s.input; output = s.output }

not_u : (A : ℕ → Bool) (u w : ℕ) → A u ≡ false → (not (eqb w u) && A w) ≡ A w
not_u A u w out = ⊎_elim
    (λ e. ap (λ b. not b && A w) (eq-eqb w u e) ∙ sym (ap A e ∙ out))
    (λ ne. ap (λ b. not b && A w) (ne_eqb w u ne))
    (cases_eq w u)

pub odd-removed : (s : Seen) (u : ℕ) (A : ℕ → Bool) (v : ℕ) → A u ≡ false → in_odd_neighbourhood (removed_from s u) A v ≡ in_odd_neighbourhood s A v
odd-removed s u A v out =
    masked-of-removed (s.adjacent v) u s.ids A
    ∙ masked-same (s.adjacent v) (s.adjacent v) s.ids (λ w. not (eqb w u) && A w) A (λ w _. ap (λ b. s.adjacent v w && b) (not_u A u w out))

within_rest : (u w : ℕ) (s : Seen) → member w (removed_from s u).ids ≡ true → member w s.ids ≡ true
within_rest u w s e = ⊎_elim
    (λ f. absurd (true≢false (sym e ∙ member-removed w u s.ids ∙ ap (λ b. not b && member w s.ids) (eq-eqb w u f))))
    (λ ne. sym (member-removed w u s.ids ∙ ap (λ b. not b && member w s.ids) (ne_eqb w u ne)) ∙ e)
    (cases_eq w u)

-- a set without u serves in the graph without u
pub Corrects-removed : (s : Seen) (before : ℕ → ℕ → Bool) (u v : ℕ) (A : ℕ → Bool) → A u ≡ false → Corrects s before v A → Corrects (removed_from s u) before v A
Corrects-removed s before u v A out a = record {
  members = λ w e. member-removed w u s.ids ∙ ap₂ (λ b c. not b && c) (ne_eqb w u (λ f. true≢false (sym e ∙ ap A f ∙ out))) (a.members w e);
  input = a.input;
  order = a.order;
  odd_order = λ w within e ne. a.odd_order w (within_rest u w s within) (sym (odd-removed s u A w out) ∙ e) ne;
  inside = a.inside;
  odd_there = odd-removed s u A v out ∙ a.odd_there;
}

-- a set, with that of u xored where u is in it
abbrev pub cleared_set : ℕ → (ℕ → Bool) → (ℕ → Bool) → ℕ → Bool
cleared_set u B A w = cond (A u) (xor (A w) (B w)) (A w)

inside_own : (p : Plane) → p ≢ XY → inside_in p ≡ true
inside_own XY ne = absurd (ne refl)
inside_own XZ ne = refl
inside_own YZ ne = refl

pub Corrects-cleared : (s : Seen) (before : ℕ → ℕ → Bool) (u v : ℕ) (A B : ℕ → Bool) → Strict before → member v s.ids ≡ true → u ≢ v → s.plane u ≢ XY →
    Corrects s before v A → Corrects s before u B → Corrects (removed_from s u) before v (cleared_set u B A)
Corrects-cleared s before u v A B strict there ne plane a b = ⊎_elim
    (λ e.
    subst (λ o. Corrects (removed_from s u) before v (λ w. cond o (xor (A w) (B w)) (A w))) (sym e)
    (Corrects-removed s before u v (λ w. xor (A w) (B w)) (ap₂ xor e (b.inside ∙ inside_own (s.plane u) plane))
    (absorb s before v u A B strict there (a.order u e ne) a b)))
    (λ e.
    subst (λ o. Corrects (removed_from s u) before v (λ w. cond o (xor (A w) (B w)) (A w))) (sym e)
    (Corrects-removed s before u v A e a))
    (cases_Bool (A u))

-- after a removal that changes no other plane
pub Alike-removed : (g : Graph) (u : ℕ) (h : Graph) (change : ℕ → Kind → Kind) → h.vertices ≡ with_kinds change (without u g.vertices) →
    ((p : ℕ) (k : Kind) → (change p k).plane ≡ k.plane) → ((p q : ℕ) → p ≢ u → q ≢ u → joined h.edges p q ≡ joined g.edges p q) →
    KeepsEnds g h → Alike (removed_from (seen g) u) (seen h)
Alike-removed g u h change vertices keeps edges frame = record {
  ids = λ v. ap (member v) (sym same_ids);
  adjacent = λ p q in_p in_q. sym (edges p q (stays p in_p) (stays q in_q));
  plane = λ v within. sym (ap (λ vs. (kind_of vs v).plane) vertices
      ∙ ap (λ k. k.plane) (kind_of-with_kinds change v (without u g.vertices) (ap (member v) (ids-without u g.vertices) ∙ within))
      ∙ keeps v (kind_of (without u g.vertices) v) ∙ ap (λ k. k.plane) (kind_of-without v u g.vertices (stays v within)));
  input = λ v _. ap (λ l. member v (end_vertices l)) (sym frame.inputs);
  output = λ v _. ap (λ l. member v (end_vertices l)) (sym frame.outputs);
}
  where
    same_ids : ids h.vertices ≡ removed u (ids g.vertices)
    same_ids = ap ids vertices ∙ ids-with_kinds change (without u g.vertices) ∙ ids-without u g.vertices

    stays : (v : ℕ) → member v (removed u (ids g.vertices)) ≡ true → v ≢ u
    stays v within e = true≢false (sym within ∙ member-removed v u (ids g.vertices) ∙ ap (λ b. not b && member v (ids g.vertices)) (eq-eqb v u e))

gone_or_stays : (e i o l : Bool) → l ≡ (i && not o) → (not e && l) ≡ ((not e && i) && not o)
gone_or_stays true i o l h = refl
gone_or_stays false i o l h = h

-- a vertex that isn't XY and has no output goes
pub Flows-removal : (s : Seen) (u : ℕ) (table : List Correction) → member u s.ids ≡ true → s.plane u ≢ XY → s.output u ≡ false →
    FlowAsFunctions s table → FlowAsFunctions (removed_from s u) (removal_table u table)
Flows-removal s u table there_u plane no_output f =
    Flows-with_sets (removed_from s u) change (without_set u table) (subst Distinct (sym (order_of-without_set u table)) (Distinct-removed u (order_of table) f.each_once))
    (λ v. listed_rest v ∙ gone_or_stays (eqb v u) (member v s.ids) (s.output v) (member v (order_of table)) (f.non_outputs v)
    ∙ ap (λ b. b && not (s.output v)) (sym (member-removed v u s.ids)))
    (λ v h.
    let both : (not (eqb v u) && member v (order_of table)) ≡ true = sym (listed_rest v) ∙ h in
    subst (λ l. Corrects (removed_from s u) (is_later l) v (is_in (change v (set_of (without_set u table) v)))) (sym (order_of-without_set u table))
    (corrected v (and_parts (not (eqb v u)) (member v (order_of table)) both).1 (stays v (and_parts (not (eqb v u)) (member v (order_of table)) both).0)))
  where
    change : ℕ → List ℕ → List ℕ
    change v members = cond (is_in members u) (symmetric_difference members (set_of table u)) members

    listed_rest : (v : ℕ) → member v (order_of (without_set u table)) ≡ (not (eqb v u) && member v (order_of table))
    listed_rest v = ap (member v) (order_of-without_set u table) ∙ member-removed v u (order_of table)

    stays : (v : ℕ) → not (eqb v u) ≡ true → v ≢ u
    stays v e f = true≢false (sym e ∙ ap not (eq-eqb v u f))

    cleared : (A : List ℕ) (w : ℕ) (b : Bool) → is_in (cond b (symmetric_difference A (set_of table u)) A) w ≡ cond b (xor (is_in A w) (is_in (set_of table u) w)) (is_in A w)
    cleared A w true = is_in-symmetric_difference A (set_of table u) w
    cleared A w false = refl

    corrected : (v : ℕ) → member v (order_of table) ≡ true → v ≢ u →
        Corrects (removed_from s u) (is_later (removed u (order_of table))) v (is_in (change v (set_of (without_set u table) v)))
    corrected v there ne =
        Corrects-later (removed_from s u) (is_later (order_of table)) (is_later (removed u (order_of table))) v (is_in (change v (set_of (without_set u table) v)))
        (λ w e. is_later-removed u (order_of table) v w ne e)
        (Corrects-same (removed_from s u) (is_later (order_of table)) v (cleared_set u (is_in (set_of table u)) (is_in (set_of table v))) (is_in (change v (set_of (without_set u table) v)))
        (λ w. sym (ap (λ l. is_in (change v l) w) (set_of-without_set u table v ne) ∙ cleared (set_of table v) w (is_in (set_of table v) u)))
        (Corrects-cleared s (is_later (order_of table)) u v (is_in (set_of table v)) (is_in (set_of table u)) (is_later-strict (order_of table)) (live s table f v there) (λ e. ne (sym e)) plane
        (f.corrects v there) (f.corrects u (listed s table f u there_u no_output))))

pub same-removal_table : (u : ℕ) (table other : List Correction) → SameSets table other → SameSets (removal_table u table) (removal_table u other)
same-removal_table u table other same =
    same-with_sets (change table) (change other) (without_set u table) (without_set u other) by_members (same-without_set u table other same)
  where
    change : List Correction → ℕ → List ℕ → List ℕ
    change t v members = cond (is_in members u) (symmetric_difference members (set_of t u)) members

    at : (b : Bool) (ms ns : List ℕ) → ((w : ℕ) → is_in ms w ≡ is_in ns w) → (w : ℕ) →
        is_in (cond b (symmetric_difference ms (set_of table u)) ms) w ≡ is_in (cond b (symmetric_difference ns (set_of other u)) ns) w
    at true ms ns e w = is_in-symmetric_difference ms (set_of table u) w ∙ ap₂ xor (e w) (same.members u w) ∙ sym (is_in-symmetric_difference ns (set_of other u) w)
    at false ms ns e w = e w

    by_members : (v : ℕ) (ms ns : List ℕ) → ((w : ℕ) → is_in ms w ≡ is_in ns w) → (w : ℕ) → is_in (change table v ms) w ≡ is_in (change other v ns) w
    by_members v ms ns e w = at (is_in ms u) ms ns e w ∙ ap (λ b. is_in (cond b (symmetric_difference ns (set_of other u)) ns) w) (e u)

removal_flow : (g : Graph) (u : ℕ) (h : Graph) (table : List Correction) (change : ℕ → Kind → Kind) → WellFormed g → member u (ids g.vertices) ≡ true → plane_of g u ≢ XY →
    h.vertices ≡ with_kinds change (without u g.vertices) → Alike (removed_from (seen g) u) (seen h) → IsFlow g table → IsFlow h (removal_table u table)
removal_flow g u h table change wf there plane vertices alike flow =
    IsFlowOf-from (seen h) (removal_table u table)
    (Flows-alike (removed_from (seen g) u) (seen h) (removal_table u table) rest_distinct
    (subst Distinct (sym (ap ids vertices ∙ ids-with_kinds change (without u g.vertices) ∙ ids-without u g.vertices)) rest_distinct)
    alike
    (Flows-removal (seen g) u table there plane (interior_of g u wf (off_XY (plane_of g u) plane)).no_output (Flows-from (seen g) table flow)))
  where
    rest_distinct : Distinct (removed u (ids g.vertices))
    rest_distinct = Distinct-removed u (ids g.vertices) (Simple-seen g wf).distinct

pub delete_flow : (g : Graph) (u : ℕ) (h : Graph) (table : List Correction) → WellFormed g → IsDelete g u h → IsFlow g table → IsFlow h (removal_table u table)
delete_flow g u h table wf step flow =
    removal_flow g u h table (delete_kind _ (joined g.edges u)) wf step.deletable.there step.deletable.plane step.vertices
    (Alike-removed g u h (delete_kind _ (joined g.edges u)) step.vertices (λ p k. half_kept _ k) step.edges step.frame) flow

fused_plane : (v k : ℕ) (p : ℕ) (kind : Kind) → (fuse_kind v k p kind).plane ≡ kind.plane
fused_plane v k p kind = kept_either_way (eqb p v)
  where
    kept_either_way : (b : Bool) → (cond b (with_phase_added k kind) kind).plane ≡ kind.plane
    kept_either_way true = refl
    kept_either_way false = refl

pub drop_lone_flow : (g : Graph) (u : ℕ) (h : Graph) (table : List Correction) → WellFormed g → IsDropLone g u h → IsFlow g table → IsFlow h (removal_table u table)
drop_lone_flow g u h table wf step flow =
    removal_flow g u h table (λ p k. k) wf step.there (YZ_apart (plane_of g u) step.plane) (step.vertices ∙ sym (with_kinds-identity (without u g.vertices)))
    (Alike-removed g u h (λ p k. k) (step.vertices ∙ sym (with_kinds-identity (without u g.vertices))) (λ p k. refl) step.edges step.frame) flow

pub fuse_into_flow : (g : Graph) (u : ℕ) (h : Graph) (table : List Correction) → WellFormed g → IsFuseInto g u h → IsFlow g table → IsFlow h (removal_table u table)
fuse_into_flow g u h table wf step flow =
    removal_flow g u h table (fuse_kind step.into (phase_of g u)) wf step.there (YZ_apart (plane_of g u) step.plane) step.vertices
    (Alike-removed g u h (fuse_kind step.into (phase_of g u)) step.vertices (fused_plane step.into (phase_of g u)) step.edges step.frame) flow

pub fuse_twin_flow : (g : Graph) (u v : ℕ) (h : Graph) (table : List Correction) → WellFormed g → IsFuseTwin g u v h → IsFlow g table → IsFlow h (removal_table v table)
fuse_twin_flow g u v h table wf step flow =
    removal_flow g v h table (fuse_kind u (phase_of g v)) wf step.there_too (YZ_apart (plane_of g v) step.plane_too) step.vertices
    (Alike-removed g v h (fuse_kind u (phase_of g v)) step.vertices (fused_plane u (phase_of g v)) step.edges step.frame) flow
