-- Flows where a graph changes at its outputs: these come after all that has a correction set, so only the sets and
-- the vertices without outputs count.
use Rattle.std.proofs.Common.{◌≡◌, ◌≢◌, ◌⊎◌, inl, inr, refl, sym, ◌∙◌, ap, ap₂, ⊎_elim, ℕ, Bool, true, false, cond, ◌&&◌, ◌||◌, eqb, List, [], ◌∷◌, ne_eqb, true≢false, eqb-true}
use Rattle.zx_model.specs.Bits.{xor, member}
use Rattle.zx_calculus.specs.Graph.{Graph, end_vertices, WellFormed}
use Rattle.zx_calculus.proofs.Booleans.{parities, xor-false, xor-same, and-false, and_comm}
use Rattle.zx_calculus.proofs.Ids.{by_test, and-right, eqb_comm}
use Rattle.zx_calculus.proofs.Parity.{masked-xor, masked-and}
use Rattle.zx_calculus.proofs.Splits.{is_pair_comm, is_pair-self}
use Rattle.gflow_laws.specs.Seen.{Seen, seen, in_odd_neighbourhood}
use Rattle.gflow_laws.specs.Flow.{Correction, order_of, set_of, is_in, is_later, IsFlow, Corrects, inside_in, odd_in}
use Rattle.gflow_laws.specs.Tables.{symmetric_difference}
use Rattle.gflow_laws.specs.Correcting.{Alike, Distinct, FlowAsFunctions, Simple}
use Rattle.gflow_laws.specs.Outputs.{toggled, with_row_added, MayAddRow, row_added_set, row_added_table}
use Rattle.gflow_laws.proofs.Lists.{is_later-outside, is_in-symmetric_difference, is_in-one}
use Rattle.gflow_laws.proofs.Linear.{masked-same, masked-of-xor, masked-of-and, masked-one}
use Rattle.gflow_laws.proofs.Corrects.{xor_true}
use Rattle.gflow_laws.proofs.Flows.{Flows-from, IsFlowOf-from, Flows-alike}
use Rattle.gflow_laws.proofs.Tables.{unlisted, Corrects-same, Flows-with_sets}
use Rattle.gflow_laws.proofs.Views.{Simple-seen}

-- what has changed where it comes after v doesn't matter to v
pub Corrects-changed : (s t : Seen) (before before' : ℕ → ℕ → Bool) (v : ℕ) (A B : ℕ → Bool) →
    t.plane v ≡ s.plane v → B v ≡ A v → in_odd_neighbourhood t B v ≡ in_odd_neighbourhood s A v →
    ((w : ℕ) → before v w ≡ true → before' v w ≡ true) →
    ((w : ℕ) → B w ≡ true → member w t.ids ≡ true) →
    ((w : ℕ) → B w ≡ true → t.input w ≡ false) →
    ((w : ℕ) → B w ≡ true → (A w ≡ true) ⊎ (before' v w ≡ true)) →
    ((w : ℕ) → member w t.ids ≡ true → w ≢ v → ((member w s.ids ≡ true) × (in_odd_neighbourhood t B w ≡ in_odd_neighbourhood s A w)) ⊎ (before' v w ≡ true)) →
    Corrects s before v A → Corrects t before' v B
Corrects-changed s t before before' v A B plane same odd_same keeps members input old odds a = record {
  members = members;
  input = input;
  order = λ w e ne. ⊎_elim (λ h. keeps w (a.order w h ne)) (λ h. h) (old w e);
  odd_order = λ w within e ne. ⊎_elim (λ h. keeps w (a.odd_order w h.0 (sym h.1 ∙ e) ne)) (λ h. h) (odds w within ne);
  inside = same ∙ a.inside ∙ ap inside_in (sym plane);
  odd_there = odd_same ∙ a.odd_there ∙ ap odd_in (sym plane);
}

-- outputs come after every vertex that has a correction set
pub output_later : (s : Seen) (table : List Correction) → FlowAsFunctions s table → (v w : ℕ) → member v (order_of table) ≡ true → s.output w ≡ true →
    is_later (order_of table) v w ≡ true
output_later s table f v w there out = is_later-outside (order_of table) v w there (unlisted s table f w out)

pub no_output : (s : Seen) (table : List Correction) → FlowAsFunctions s table → (v : ℕ) → member v (order_of table) ≡ true → s.output v ≡ false
no_output s table f v there = by_test (s.output v) (λ t. absurd (true≢false (sym there ∙ unlisted s table f v t))) (λ e. e)

pub not_output : (s : Seen) (v p : ℕ) → s.output v ≡ false → s.output p ≡ true → v ≢ p
not_output s v p none there e = true≢false (sym there ∙ ap s.output (sym e) ∙ none)

-- what a flow sees decides
pub flow_seen : (s : Seen) (h : Graph) (table : List Correction) → Distinct s.ids → WellFormed h → Alike s (seen h) → FlowAsFunctions s table → IsFlow h table
flow_seen s h table distinct wf alike f = IsFlowOf-from (seen h) table (Flows-alike s (seen h) table distinct (Simple-seen h wf).distinct alike f)

-- an edge between outputs
odd-toggled : (s : Seen) (p q : ℕ) (A : ℕ → Bool) (v : ℕ) → v ≢ p → v ≢ q → in_odd_neighbourhood (toggled s p q) A v ≡ in_odd_neighbourhood s A v
odd-toggled s p q A v np nq = masked-same ((toggled s p q).adjacent v) (s.adjacent v) s.ids A A (λ w _. ap (λ b. b && A w)
    (ap₂ (λ b c. xor (s.adjacent v w) ((b && eqb w q) || (c && eqb w p))) (ne_eqb v p np) (ne_eqb v q nq) ∙ xor-false (s.adjacent v w)))

pub Flows-toggled : (s : Seen) (p q : ℕ) (table : List Correction) → s.output p ≡ true → s.output q ≡ true → FlowAsFunctions s table → FlowAsFunctions (toggled s p q) table
Flows-toggled s p q table at_p at_q f = record { each_once = f.each_once; non_outputs = f.non_outputs; corrects = corrected }
  where
    same : (A : ℕ → Bool) (w : ℕ) → s.output w ≡ false → in_odd_neighbourhood (toggled s p q) A w ≡ in_odd_neighbourhood s A w
    same A w none = odd-toggled s p q A w (not_output s w p none at_p) (not_output s w q none at_q)

    corrected : (v : ℕ) → member v (order_of table) ≡ true → Corrects (toggled s p q) (is_later (order_of table)) v (is_in (set_of table v))
    corrected v there =
        let a : Corrects s (is_later (order_of table)) v (is_in (set_of table v)) = f.corrects v there in
        Corrects-changed s (toggled s p q) (is_later (order_of table)) (is_later (order_of table)) v (is_in (set_of table v)) (is_in (set_of table v)) refl refl
        (same (is_in (set_of table v)) v (no_output s table f v there)) (λ w e. e) a.members a.input (λ w e. inl e)
        (λ w within ne. by_test (s.output w) (λ t. inr (output_later s table f v w there t)) (λ e. inl (within, same (is_in (set_of table v)) w e))) a

pub Simple-toggled : (s : Seen) (p q : ℕ) → p ≢ q → Simple s → Simple (toggled s p q)
Simple-toggled s p q ne simple = record {
  distinct = simple.distinct;
  symmetric = λ v w. ap₂ xor (simple.symmetric v w) (is_pair_comm p q v w);
  no_loop = λ v. ap₂ xor (simple.no_loop v) (is_pair-self p q ne v);
}

pub toggled_flow : (g : Graph) (p q : ℕ) (h : Graph) (table : List Correction) → WellFormed g → WellFormed h → Alike (toggled (seen g) p q) (seen h) →
    member p (end_vertices g.outputs) ≡ true → member q (end_vertices g.outputs) ≡ true → IsFlow g table → IsFlow h table
toggled_flow g p q h table wg wh alike at_p at_q flow =
    flow_seen (toggled (seen g) p q) h table (Simple-seen g wg).distinct wh alike (Flows-toggled (seen g) p q table at_p at_q (Flows-from (seen g) table flow))

-- a row added to a row: c is toggled where t is a member
abbrev pub with_toggled : ℕ → ℕ → (ℕ → Bool) → ℕ → Bool
with_toggled c t A w = xor (A w) (A t && eqb w c)

cancelled : (o x y : Bool) → xor (xor o (x && y)) (y && x) ≡ o
cancelled o x y = simp parities

at_t : (A : ℕ → Bool) (c t : ℕ) → t ≢ c → with_toggled c t A t ≡ A t
at_t A c t ne = ap (λ b. xor (A t) (A t && b)) (ne_eqb t c ne) ∙ ap (xor (A t)) (and-false (A t)) ∙ xor-false (A t)

pub odd-row_added : (s : Seen) (c t : ℕ) (A : ℕ → Bool) (v : ℕ) → Simple s → member c s.ids ≡ true → member t s.ids ≡ true → t ≢ c → v ≢ t →
    in_odd_neighbourhood (with_row_added s c t) (with_toggled c t A) v ≡ in_odd_neighbourhood s A v
odd-row_added s c t A v simple there_c there_t ne nv =
    masked-same ((with_row_added s c t).adjacent v) (λ w. xor (s.adjacent v w) (s.adjacent c v && eqb t w)) s.ids B B
    (λ w _. ap (λ b. xor (s.adjacent v w) (xor (b && s.adjacent c w) (s.adjacent c v && eqb t w)) && B w) (ne_eqb t v (λ e. nv (sym e))))
    ∙ masked-xor (s.adjacent v) (λ w. s.adjacent c v && eqb t w) s.ids B
    ∙ ap₂ xor
    (masked-of-xor (s.adjacent v) s.ids A (λ w. A t && eqb w c) ∙ ap (xor (in_odd_neighbourhood s A v)) (masked-of-and (A t) (s.adjacent v) s.ids (λ w. eqb w c) ∙ ap (λ b. A t && b) (masked-one (s.adjacent v) s.ids c simple.distinct there_c)))
    (masked-and (s.adjacent c v) (eqb t) s.ids B
    ∙ ap (λ b. s.adjacent c v && b) (masked-same (eqb t) B s.ids B (λ w. eqb w t) (λ w _. and_comm (eqb t w) (B w) ∙ ap (λ b. B w && b) (eqb_comm t w)) ∙ masked-one B s.ids t simple.distinct there_t ∙ at_t A c t ne)
    ∙ ap (λ b. b && A t) (simple.symmetric c v))
    ∙ cancelled (in_odd_neighbourhood s A v) (A t) (s.adjacent v c)
  where
    B : ℕ → Bool
    B = with_toggled c t A

pub is_in-row_added : (c t : ℕ) (members : List ℕ) (w : ℕ) → is_in (row_added_set c t members) w ≡ with_toggled c t (is_in members) w
is_in-row_added c t members w = at (is_in members t)
  where
    at : (b : Bool) → is_in (cond b (symmetric_difference members (c ∷ [])) members) w ≡ xor (is_in members w) (b && eqb w c)
    at true = is_in-symmetric_difference members (c ∷ []) w ∙ ap (xor (is_in members w)) (is_in-one c w)
    at false = sym (xor-false (is_in members w))

pub Flows-row_added : (s : Seen) (c t : ℕ) (table : List Correction) → Simple s → MayAddRow s c t → FlowAsFunctions s table → FlowAsFunctions (with_row_added s c t) (row_added_table c t table)
Flows-row_added s c t table simple may f =
    Flows-with_sets (with_row_added s c t) (λ v members. row_added_set c t members) table f.each_once f.non_outputs
    (λ v there. Corrects-same (with_row_added s c t) before v (with_toggled c t (is_in (set_of table v))) _ (λ w. sym (is_in-row_added c t (set_of table v) w)) (corrected v there (is_in (set_of table v)) (f.corrects v there)))
  where
    before : ℕ → ℕ → Bool
    before = is_later (order_of table)

    same : (A : ℕ → Bool) (w : ℕ) → s.output w ≡ false → in_odd_neighbourhood (with_row_added s c t) (with_toggled c t A) w ≡ in_odd_neighbourhood s A w
    same A w none = odd-row_added s c t A w simple may.there may.there_too (λ e. may.apart (sym e)) (not_output s w t none may.output_too)

    old_or_c : (A : ℕ → Bool) (w : ℕ) → with_toggled c t A w ≡ true → (A w ≡ true) ⊎ (w ≡ c)
    old_or_c A w e = ⊎_elim inl (λ h. inr (eqb-true w c (and-right _ _ h))) (xor_true (A w) (A t && eqb w c) e)

    corrected : (v : ℕ) → member v (order_of table) ≡ true → (A : ℕ → Bool) → Corrects s before v A → Corrects (with_row_added s c t) before v (with_toggled c t A)
    corrected v there A a =
        let none : s.output v ≡ false = no_output s table f v there in
        Corrects-changed s (with_row_added s c t) before before v A (with_toggled c t A) refl
        (ap (λ b. xor (A v) (A t && b)) (ne_eqb v c (not_output s v c none may.output)) ∙ ap (xor (A v)) (and-false (A t)) ∙ xor-false (A v))
        (same A v none) (λ w e. e)
        (λ w e. ⊎_elim (a.members w) (λ h. ap (λ x. member x s.ids) h ∙ may.there) (old_or_c A w e))
        (λ w e. ⊎_elim (a.input w) (λ h. ap s.input h ∙ may.no_input) (old_or_c A w e))
        (λ w e. ⊎_elim inl (λ h. inr (output_later s table f v w there (ap s.output h ∙ may.output))) (old_or_c A w e))
        (λ w within n. by_test (s.output w) (λ h. inr (output_later s table f v w there h)) (λ e. inl (within, same A w e))) a

pub Simple-row_added : (s : Seen) (c t : ℕ) → Simple s → Simple (with_row_added s c t)
Simple-row_added s c t simple = record {
  distinct = simple.distinct;
  symmetric = λ p q. ap₂ xor (simple.symmetric p q) (mixed (eqb t p) (eqb t q) (s.adjacent c q) (s.adjacent c p));
  no_loop = λ p. ap₂ xor (simple.no_loop p) (ap (xor (eqb t p && s.adjacent c p)) (and_comm (s.adjacent c p) (eqb t p)) ∙ xor-same (eqb t p && s.adjacent c p));
}
  where
    mixed : (x y a b : Bool) → xor (x && a) (b && y) ≡ xor (y && b) (a && x)
    mixed x y a b = simp parities

pub row_added_flow : (g : Graph) (c t : ℕ) (h : Graph) (table : List Correction) → WellFormed g → WellFormed h → MayAddRow (seen g) c t → Alike (with_row_added (seen g) c t) (seen h) →
    IsFlow g table → IsFlow h (row_added_table c t table)
row_added_flow g c t h table wg wh may alike flow =
    flow_seen (with_row_added (seen g) c t) h (row_added_table c t table) (Simple-seen g wg).distinct wh alike
    (Flows-row_added (seen g) c t table (Simple-seen g wg) may (Flows-from (seen g) table flow))
