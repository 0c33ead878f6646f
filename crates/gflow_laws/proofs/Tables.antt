-- Lists of corrections: their order and their sets after a change.
use Rattle.std.proofs.Common.{◌≡◌, ◌≢◌, refl, sym, ◌∙◌, ap, subst, ⊎_elim, ℕ, Bool, true, false, cond, not, ◌&&◌, ◌||◌, eqb, List, [], ◌∷◌, ◌++◌, eq-eqb, ne_eqb}
use Rattle.std.proofs.lemmas.Bool.{cases_Bool, cases_eq, true≢false, eqb-true, or_parts}
use Rattle.zx_model.specs.Bits.{member}
use Rattle.zx_calculus.proofs.Booleans.{and-false}
use Rattle.gflow_laws.specs.Tables.{with_sets, without_set}
use Rattle.gflow_laws.specs.Flow.{order_of, Correction, set_of, is_in, is_later, SameSets, Corrects}
use Rattle.gflow_laws.specs.Correcting.{FlowAsFunctions, Distinct}
use Rattle.gflow_laws.specs.Seen.{Seen}
use Rattle.gflow_laws.proofs.Linear.{removed, member-removed}

pub order_of-with_sets : (change : ℕ → List ℕ → List ℕ) (table : List Correction) → order_of (with_sets change table) ≡ order_of table
order_of-with_sets change [] = refl
order_of-with_sets change (e ∷ es) = ap (λ l. e.vertex ∷ l) (order_of-with_sets change es)

pub set_of-with_sets : (change : ℕ → List ℕ → List ℕ) (table : List Correction) (v : ℕ) → member v (order_of table) ≡ true →
    set_of (with_sets change table) v ≡ change v (set_of table v)
set_of-with_sets change [] v there = absurd (true≢false (sym there))
set_of-with_sets change (e ∷ es) v there = ⊎_elim
    (λ f. ap (λ b. cond b (change e.vertex e.members) (set_of (with_sets change es) v)) (eq-eqb v e.vertex f)
    ∙ ap (λ x. change x e.members) (sym f) ∙ ap (λ b. change v (cond b e.members (set_of es v))) (sym (eq-eqb v e.vertex f)))
    (λ ne. ap (λ b. cond b (change e.vertex e.members) (set_of (with_sets change es) v)) (ne_eqb v e.vertex ne)
    ∙ set_of-with_sets change es v (sym (ap (λ b. b || member v (order_of es)) (ne_eqb v e.vertex ne)) ∙ there)
    ∙ ap (λ b. change v (cond b e.members (set_of es v))) (sym (ne_eqb v e.vertex ne)))
    (cases_eq v e.vertex)

pub order_of-without_set : (u : ℕ) (table : List Correction) → order_of (without_set u table) ≡ removed u (order_of table)
order_of-without_set u [] = refl
order_of-without_set u (e ∷ es) = ⊎_elim
    (λ f. ap (λ b. order_of (cond b (without_set u es) (e ∷ without_set u es))) f ∙ order_of-without_set u es
    ∙ ap (λ b. cond b (removed u (order_of es)) (e.vertex ∷ removed u (order_of es))) (sym f))
    (λ f. ap (λ b. order_of (cond b (without_set u es) (e ∷ without_set u es))) f ∙ ap (λ l. e.vertex ∷ l) (order_of-without_set u es)
    ∙ ap (λ b. cond b (removed u (order_of es)) (e.vertex ∷ removed u (order_of es))) (sym f))
    (cases_Bool (eqb u e.vertex))

pub set_of-without_set : (u : ℕ) (table : List Correction) (v : ℕ) → v ≢ u → set_of (without_set u table) v ≡ set_of table v
set_of-without_set u [] v ne = refl
set_of-without_set u (e ∷ es) v ne = ⊎_elim
    (λ f. ap (λ b. set_of (cond b (without_set u es) (e ∷ without_set u es)) v) f ∙ set_of-without_set u es v ne
    ∙ sym (ap (λ b. cond b e.members (set_of es v)) (ne_eqb v e.vertex (λ g. ne (g ∙ sym (eqb-true u e.vertex f))))))
    (λ f. ap (λ b. set_of (cond b (without_set u es) (e ∷ without_set u es)) v) f
    ∙ ap (λ l. cond (eqb v e.vertex) e.members l) (set_of-without_set u es v ne))
    (cases_Bool (eqb u e.vertex))

-- sets with the same members correct the same
pub Corrects-same : (s : Seen) (before : ℕ → ℕ → Bool) (v : ℕ) (A B : ℕ → Bool) → ((w : ℕ) → A w ≡ B w) → Corrects s before v A → Corrects s before v B
Corrects-same s before v A B same a = subst (Corrects s before v) (λ i w. same w i) a

-- a set serves in each order in which what came after the vertex still does
pub Corrects-later : (s : Seen) (before before' : ℕ → ℕ → Bool) (v : ℕ) (A : ℕ → Bool) → ((w : ℕ) → before v w ≡ true → before' v w ≡ true) →
    Corrects s before v A → Corrects s before' v A
Corrects-later s before before' v A keeps a = record {
  members = a.members;
  input = a.input;
  order = λ w e ne. keeps w (a.order w e ne);
  odd_order = λ w within e ne. keeps w (a.odd_order w within e ne);
  inside = a.inside;
  odd_there = a.odd_there;
}

-- a change of the sets alone
pub Flows-with_sets : (t : Seen) (change : ℕ → List ℕ → List ℕ) (table : List Correction) → Distinct (order_of table) → ((v : ℕ) → member v (order_of table) ≡ (member v t.ids && not (t.output v))) →
    ((v : ℕ) → member v (order_of table) ≡ true → Corrects t (is_later (order_of table)) v (is_in (change v (set_of table v)))) → FlowAsFunctions t (with_sets change table)
Flows-with_sets t change table distinct non_outputs corrected = record {
  each_once = subst Distinct (sym same) distinct;
  non_outputs = λ v. ap (member v) same ∙ non_outputs v;
  corrects = λ v h.
      let there : member v (order_of table) ≡ true = ap (member v) (sym same) ∙ h in
      subst (λ l. Corrects t (is_later l) v (is_in (set_of (with_sets change table) v))) (sym same)
      (Corrects-same t (is_later (order_of table)) v (is_in (change v (set_of table v))) (is_in (set_of (with_sets change table) v)) (λ w. ap (λ l. is_in l w) (sym (set_of-with_sets change table v there))) (corrected v there));
}
  where
    same : order_of (with_sets change table) ≡ order_of table
    same = order_of-with_sets change table

pub order_of-append : (table : List Correction) (e : Correction) → order_of (table ++ e ∷ []) ≡ order_of table ++ e.vertex ∷ []
order_of-append [] e = refl
order_of-append (x ∷ xs) e = ap (λ l. x.vertex ∷ l) (order_of-append xs e)

pub with_sets-append : (change : ℕ → List ℕ → List ℕ) (table : List Correction) (e : Correction) →
    with_sets change (table ++ e ∷ []) ≡ with_sets change table ++ record { vertex = e.vertex; members = change e.vertex e.members } ∷ []
with_sets-append change [] e = refl
with_sets-append change (x ∷ xs) e = ap (λ l. record { vertex = x.vertex; members = change x.vertex x.members } ∷ l) (with_sets-append change xs e)

pub set_of-append : (table : List Correction) (e : Correction) (v : ℕ) → member v (order_of table) ≡ true → set_of (table ++ e ∷ []) v ≡ set_of table v
set_of-append [] e v there = absurd (true≢false (sym there))
set_of-append (x ∷ xs) e v there = ⊎_elim
    (λ f. ap (λ b. cond b x.members (set_of (xs ++ e ∷ []) v)) f ∙ ap (λ b. cond b x.members (set_of xs v)) (sym f))
    (λ f. ap (λ b. cond b x.members (set_of (xs ++ e ∷ []) v)) f ∙ set_of-append xs e v (sym (ap (λ b. b || member v (order_of xs)) f) ∙ there)
    ∙ ap (λ b. cond b x.members (set_of xs v)) (sym f))
    (cases_Bool (eqb v x.vertex))

pub set_of-last : (table : List Correction) (e : Correction) → member e.vertex (order_of table) ≡ false → set_of (table ++ e ∷ []) e.vertex ≡ e.members
set_of-last [] e out = ap (λ b. cond b e.members []) (eq-eqb e.vertex e.vertex refl)
set_of-last (x ∷ xs) e out =
    ap (λ b. cond b x.members (set_of (xs ++ e ∷ []) e.vertex)) (or_parts (eqb e.vertex x.vertex) (member e.vertex (order_of xs)) out).0
    ∙ set_of-last xs e (or_parts (eqb e.vertex x.vertex) (member e.vertex (order_of xs)) out).1

-- a vertex without a place in the order: it isn't listed, since it has an output or isn't there
pub unlisted : (s : Seen) (table : List Correction) → FlowAsFunctions s table → (v : ℕ) → s.output v ≡ true → member v (order_of table) ≡ false
unlisted s table f v e = f.non_outputs v ∙ ap (λ b. member v s.ids && not b) e ∙ and-false (member v s.ids)

pub absent : (s : Seen) (table : List Correction) → FlowAsFunctions s table → (v : ℕ) → member v s.ids ≡ false → member v (order_of table) ≡ false
absent s table f v e = f.non_outputs v ∙ ap (λ b. b && not (s.output v)) e

pub set_of-outside : (table : List Correction) (v : ℕ) → member v (order_of table) ≡ false → set_of table v ≡ []
set_of-outside [] v out = refl
set_of-outside (e ∷ es) v out =
    ap (λ b. cond b e.members (set_of es v)) (or_parts (eqb v e.vertex) (member v (order_of es)) out).0
    ∙ set_of-outside es v (or_parts (eqb v e.vertex) (member v (order_of es)) out).1

-- where a change of sets goes by members alone
pub same-with_sets : (change change' : ℕ → List ℕ → List ℕ) (table other : List Correction) →
    ((v : ℕ) (ms ns : List ℕ) → ((w : ℕ) → is_in ms w ≡ is_in ns w) → (w : ℕ) → is_in (change v ms) w ≡ is_in (change' v ns) w) →
    SameSets table other → SameSets (with_sets change table) (with_sets change' other)
same-with_sets change change' table other by_members same = record {
  order = order_of-with_sets change table ∙ same.order ∙ sym (order_of-with_sets change' other);
  members = λ v w. ⊎_elim
      (λ there. ap (λ l. is_in l w) (set_of-with_sets change table v there)
      ∙ by_members v (set_of table v) (set_of other v) (same.members v) w
      ∙ sym (ap (λ l. is_in l w) (set_of-with_sets change' other v (ap (member v) (sym same.order) ∙ there))))
      (λ out. ap (λ l. is_in l w) (set_of-outside (with_sets change table) v (ap (member v) (order_of-with_sets change table) ∙ out))
      ∙ sym (ap (λ l. is_in l w) (set_of-outside (with_sets change' other) v (ap (member v) (order_of-with_sets change' other ∙ sym same.order) ∙ out))))
      (cases_Bool (member v (order_of table)));
}

pub same-without_set : (u : ℕ) (table other : List Correction) → SameSets table other → SameSets (without_set u table) (without_set u other)
same-without_set u table other same = record {
  order = order_of-without_set u table ∙ ap (removed u) same.order ∙ sym (order_of-without_set u other);
  members = λ v w. ⊎_elim
      (λ e. ap (λ l. is_in l w) (set_of-outside (without_set u table) v (gone table v e)) ∙ sym (ap (λ l. is_in l w) (set_of-outside (without_set u other) v (gone other v e))))
      (λ ne. ap (λ l. is_in l w) (set_of-without_set u table v ne) ∙ same.members v w ∙ sym (ap (λ l. is_in l w) (set_of-without_set u other v ne)))
      (cases_eq v u);
}
  where
    gone : (t : List Correction) (v : ℕ) → v ≡ u → member v (order_of (without_set u t)) ≡ false
    gone t v e = ap (member v) (order_of-without_set u t) ∙ member-removed v u (order_of t) ∙ ap (λ b. not b && member v (order_of t)) (eq-eqb v u e)
