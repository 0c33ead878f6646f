-- What the gates that stop a gate on its way to the front say of pairs and triples that it ends.
use Rattle.std.proofs.Common.{◌≡◌, inl, inr, ℕ, true, false, not, List, [], ◌∷◌, ◌++◌, append_assoc, length}
use Rattle.std.proofs.Common.{refl, sym, ap, ap₂, ◌∙◌, arith, Option, None, Some}
use Rattle.std.specs.Prelude.{IfNone}
use Rattle.std.specs.List.{list_all}
use Rattle.std.proofs.lemmas.Bool.{eqb-true, eq-eqb, or_left, or_right, or_from, or_parts, cases_Bool, not-true}
use Rattle.std.proofs.lemmas.Bool.{not-false, not_from_true, not_from_false, false_from_ne_true, both_ways}
use Rattle.std.proofs.lemmas.List.{length-append}
use Rattle.zx_gates.specs.declared.gate.Gate.{Gate}
use Rattle.zx_gates.specs.declared.gate.Gate.TheVariants.{H}
use Rattle.zx_peephole.specs.Commuting.{is_on, commutes}
use Rattle.zx_peephole.specs.Tidy.{cancels_or_merges, is_turned, is_off, IsTidy}
use Rattle.zx_peephole.specs.Internal.Changes.{EndsPair, EndsTriple}
use Rattle.zx_peephole.specs.Internal.Stops.{stops, is_free, turns, IsLastStop}
use Rattle.zx_peephole.proofs.Cuts.{cut_cases, cut_head, last_cut, all_at, all_weaker}
use Rattle.zx_peephole.proofs.CommutingLemmas.{alike, commutes_comm, commutes_off, off_commutes, turned_on}
use Rattle.zx_peephole.proofs.TidyLemmas.{tidy-more}

-- ---- what stops a gate
pair_stops : (g x : Gate) → cancels_or_merges x g ≡ true → stops g x ≡ true
pair_stops g x pair = or_left (cancels_or_merges x g) (not (commutes x g)) pair

free_commutes : (g x : Gate) → not (stops g x) ≡ true → commutes x g ≡ true
free_commutes g x free =
    not-false (commutes x g) ((or_parts (cancels_or_merges x g) (not (commutes x g)) (not-true (stops g x) free)).1)

-- a gate that is a pair with H is H
pub pair_with_hadamard : (q : ℕ) (x : Gate) → cancels_or_merges x (H q) ≡ true → x ≡ H q
pair_with_hadamard q (H p) pair = ap H (eqb-true p q pair)
pair_with_hadamard q x pair = absurd (let h : false ≡ true = pair in cc)

-- H is stopped by the gates on its qubit alone
hadamard_stopped : (q : ℕ) (x : Gate) → stops (H q) x ≡ true → is_on q x ≡ true
hadamard_stopped q x stopped =
    elim (cases_Bool (is_on q x)) [
      | inl on ↦ on
      | inr off ↦ absurd (both_ways (stops (H q) x) (or_from (cancels_or_merges x (H q)) (not (commutes x (H q))) (unpaired off)
          (not_from_true (commutes x (H q)) (commutes_comm x (H q) ∙ off_commutes q x off))) stopped)
    ]
  where
    unpaired : is_on q x ≡ false → cancels_or_merges x (H q) ≡ false
    unpaired off =
        false_from_ne_true (cancels_or_merges x (H q))
        (λ pair. both_ways (is_on q x) off (ap (is_on q) (pair_with_hadamard q x pair) ∙ eq-eqb q q refl))

on_stops : (q : ℕ) (x : Gate) → is_on q x ≡ true → stops (H q) x ≡ true
on_stops q x on =
    or_right (cancels_or_merges x (H q)) (not (commutes x (H q)))
    (not_from_false (commutes x (H q))
    (false_from_ne_true (commutes x (H q))
    (λ passed. both_ways (is_on q x) (commutes_off q x (commutes_comm (H q) x ∙ passed)) on)))

free_off : (q : ℕ) (gates : List Gate) → is_free (H q) gates ≡ true → list_all (is_off q) gates ≡ true
free_off q gates free =
    all_weaker (λ x. not (stops (H q) x)) (is_off q)
    (λ x h. not_from_false (is_on q x)
    (false_from_ne_true (is_on q x)
    (λ on. both_ways (stops (H q) x) (not-true (stops (H q) x) h) (on_stops q x on)))) gates free

off_free : (q : ℕ) (gates : List Gate) → list_all (is_off q) gates ≡ true → is_free (H q) gates ≡ true
off_free q gates off =
    all_weaker (is_off q) (λ x. not (stops (H q) x))
    (λ x h. not_from_false (stops (H q) x)
    (false_from_ne_true (stops (H q) x)
    (λ s. both_ways (is_on q x) (not-true (is_on q x) h) (hadamard_stopped q x s)))) gates off

-- ---- no pair
-- nothing is free that would stop the gate
in_free : (g x : Gate) (gates before after : List Gate) → gates ≡ before ++ x ∷ after → is_free g gates ≡ true
    → stops g x ≡ true → ⊥
in_free g x gates before after cut free stopped =
    both_ways (stops g x) (not-true (stops g x) (all_at (λ y. not (stops g y)) gates before after x cut free)) stopped

free_no_pair : (front : List Gate) (g : Gate) → is_free g front ≡ true → (m : ℕ) → EndsPair front g m → ⊥
free_no_pair front g free m e = in_free g e.first front e.before e.between e.cut free (pair_stops g e.first e.merge)

stop_no_pair : (front : List Gate) (g : Gate) (i : ℕ) (s : IsLastStop g front i) → cancels_or_merges s.stop g ≡ false → (m : ℕ)
    → EndsPair front g m → ⊥
stop_no_pair front g i s apart m e =
    elim (cut_cases s.before (s.stop ∷ s.between) e.before e.between e.first (sym s.cut ∙ e.cut)) [
      | inl c ↦
          let passes : commutes s.stop g ≡ true =
          commutes_comm s.stop g ∙ sym (alike e.first g e.merge s.stop)
          ∙ all_at (commutes e.first) e.between c.rest s.between s.stop c.second e.commute in
          both_ways (stops g s.stop)
          (or_from (cancels_or_merges s.stop g) (not (commutes s.stop g)) apart
          (not_from_true (commutes s.stop g) passes)) s.stopped
      | inr c ↦ elim (cut_head s.stop e.first s.between c.rest e.between c.second) [
        | inl h ↦ both_ways (cancels_or_merges s.stop g) apart (ap (λ x. cancels_or_merges x g) h.1 ∙ e.merge)
        | inr h ↦ in_free g e.first s.between h.rest e.between h.later s.free (pair_stops g e.first e.merge)
      ]
    ]

-- ---- no triple
-- the gate in the middle of a triple is the last that stops its last gate, and the first H is the one before
record Triples (q : ℕ) (before : List Gate) (stop : Gate) : Type 0 where
  first_before : List Gate
  left : List Gate
  turned : is_turned q stop ≡ true
  cut : before ≡ first_before ++ H q ∷ left
  left_off : list_all (is_off q) left ≡ true

triples : (front : List Gate) (g : Gate) (i : ℕ) (s : IsLastStop g front i) (m n : ℕ) (e : EndsTriple front g m n)
    → Triples e.qubit s.before s.stop
triples front g i s m n e =
    let q : ℕ = e.qubit in
    let middle_stops : stops g e.middle ≡ true =
    ap (λ x. stops x e.middle) e.is ∙ on_stops q e.middle (turned_on q e.middle e.turned) in
    let right_free : is_free g e.right ≡ true = ap (λ x. is_free x e.right) e.is ∙ off_free q e.right e.right_off in
    let same = last_cut (stops g) s.before s.between (e.before ++ H q ∷ e.left) e.right s.stop e.middle
    (sym s.cut ∙ e.cut ∙ simp append_assoc) s.stopped middle_stops s.free right_free in
    record {
      first_before = e.before;
      left = e.left;
      turned = ap (is_turned q) same.1 ∙ e.turned;
      cut = same.0;
      left_off = e.left_off;
    }

free_no_triple : (front : List Gate) (g : Gate) → is_free g front ≡ true → (m n : ℕ) → EndsTriple front g m n → ⊥
free_no_triple front g free m n e =
    in_free g e.middle front (e.before ++ H e.qubit ∷ e.left) e.right (e.cut ∙ simp append_assoc) free
    (ap (λ x. stops x e.middle) e.is ∙ on_stops e.qubit e.middle (turned_on e.qubit e.middle e.turned))

-- ---- the gate ends nothing
-- the list before it stays tidy with it
abbrev pub Extends : List Gate → Gate → Type 0
Extends front g = IsTidy front → IsTidy (front ++ g ∷ [])

-- no gate stops it
pub free_extends : (front : List Gate) (g : Gate) → is_free g front ≡ true → Extends front g
free_extends front g free = tidy-more front g (free_no_pair front g free) (free_no_triple front g free)

-- the gate that stops it is neither a pair with it nor the middle of a triple
pub stop_extends : (front : List Gate) (g : Gate) (i : ℕ) (s : IsLastStop g front i) → cancels_or_merges s.stop g ≡ false
    → turns g s.stop ≡ false
    → Extends front g
stop_extends front g i s apart straight =
    tidy-more front g (stop_no_pair front g i s apart)
    (λ m n e. both_ways (is_turned e.qubit s.stop) (ap (λ x. turns x s.stop) (sym e.is) ∙ straight)
    (triples front g i s m n e).turned)

hadamard_stops_itself : (q : ℕ) → stops (H q) (H q) ≡ true
hadamard_stops_itself q = pair_stops (H q) (H q) (eq-eqb q q refl)

-- no gate before the middle one stops it
pub free_stop_extends : (front : List Gate) (g : Gate) (i : ℕ) (s : IsLastStop g front i) → cancels_or_merges s.stop g ≡ false
    → is_free g s.before ≡ true → Extends front g
free_stop_extends front g i s apart free =
    tidy-more front g (stop_no_pair front g i s apart)
    (λ m n e. let t = triples front g i s m n e in
    in_free g (H e.qubit) s.before t.first_before t.left t.cut free
    (ap (λ x. stops x (H e.qubit)) e.is ∙ hadamard_stops_itself e.qubit))

-- the gate before the middle one that stops it isn't H
pub stops_extend : (front : List Gate) (g : Gate) (i k : ℕ) (s : IsLastStop g front i) → cancels_or_merges s.stop g ≡ false
    → (r : IsLastStop g s.before k) → cancels_or_merges r.stop g ≡ false → Extends front g
stops_extend front g i k s apart r other = tidy-more front g (stop_no_pair front g i s apart) none
  where
    none : (m n : ℕ) → EndsTriple front g m n → ⊥
    none m n e =
        let q : ℕ = e.qubit in
        let t = triples front g i s m n e in
        let same = last_cut (stops g) r.before r.between t.first_before t.left r.stop (H q)
        (sym r.cut ∙ t.cut) r.stopped
        (ap (λ x. stops x (H q)) e.is ∙ hadamard_stops_itself q) r.free
        (ap (λ x. is_free x t.left) e.is ∙ off_free q t.left t.left_off) in
        both_ways (cancels_or_merges r.stop g) other (ap₂ cancels_or_merges same.1 e.is ∙ eq-eqb q q refl)

-- ---- the gate ends a pair or a triple
turns_hadamard : (g x : Gate) → turns g x ≡ true → (q : ℕ) × (g ≡ H q) × (is_turned q x ≡ true)
turns_hadamard (H q) x turned = (q, refl, turned)
turns_hadamard g x turned = absurd (let h : false ≡ true = turned in cc)

-- ---- as the search goes
-- what stops g
module _ (front : List Gate) (g : Gate) (i : ℕ) (s : IsLastStop g front i) where
  pub stop_is_pair : cancels_or_merges s.stop g ≡ true → EndsPair front g i
  stop_is_pair merge = record {
    before = s.before;
    first = s.stop;
    between = s.between;
    cut = s.cut;
    at = s.at;
    merge = merge;
    commute = all_weaker (λ y. not (stops g y)) (commutes s.stop)
        (λ y free. alike s.stop g merge y ∙ commutes_comm g y ∙ free_commutes g y free) s.between s.free;
  }

  -- and what stops it before that
  module _ (k : ℕ) (r : IsLastStop g s.before k) where
    pub stop_is_triple : turns g s.stop ≡ true → cancels_or_merges r.stop g ≡ true → EndsTriple front g k i
    stop_is_triple turned pair =
        let h = turns_hadamard g s.stop turned in
        record {
          qubit = h.0;
          before = r.before;
          left = r.between;
          middle = s.stop;
          right = s.between;
          is = h.1;
          cut = s.cut
              ∙ ap (λ xs. xs ++ s.stop ∷ s.between) (r.cut
              ∙ ap (λ z. r.before ++ z ∷ r.between)
              (pair_with_hadamard h.0 r.stop (ap (cancels_or_merges r.stop) (sym h.1) ∙ pair)))
              ∙ simp append_assoc;
          at_first = r.at;
          at_middle = omega (arith, r.at, s.at, ap length r.cut, length-append r.before (r.stop ∷ r.between));
          turned = h.2;
          left_off = free_off h.0 r.between (ap (λ z. is_free z r.between) (sym h.1) ∙ r.free);
          right_off = free_off h.0 s.between (ap (λ z. is_free z s.between) (sym h.1) ∙ s.free);
        }

-- a fact whatever the answer
pub if_none : {X : Type 0} (o : Option X) (P : Type 0) → P → IfNone o P
if_none None P p = p
if_none (Some x) P p = tt
