-- Tables of corrections, one behind the other.
use Rattle.std.proofs.Common.{◌≡◌, refl, sym, ◌∙◌, ap, ap₂, subst, ℕ, Bool, true, false, cond, ◌||◌, eqb, List, [], ◌∷◌, ◌++◌, append_assoc, append-nil}
use Rattle.zx_model.specs.Bits.{member}
use Rattle.zx_calculus.specs.Graph.{Graph}
use Rattle.gflow_laws.specs.Flow.{Correction, order_of, set_of, is_in, SameSets}
use Rattle.zx_gates.specs.declared.gate.Gate.{Gate}
use Rattle.circuit_graph.specs.Translation.{with_gate, corrected_by, table_from}

order_of-join : (table more : List Correction) → order_of (table ++ more) ≡ order_of table ++ order_of more
order_of-join [] more = refl
order_of-join (x ∷ xs) more = ap (λ l. x.vertex ∷ l) (order_of-join xs more)

set_of-join : (table more : List Correction) (v : ℕ) → set_of (table ++ more) v ≡ cond (member v (order_of table)) (set_of table v) (set_of more v)
set_of-join [] more v = refl
set_of-join (x ∷ xs) more v = at (eqb v x.vertex) (set_of-join xs more v)
  where
    at : (c : Bool) → set_of (xs ++ more) v ≡ cond (member v (order_of xs)) (set_of xs v) (set_of more v) →
        cond c x.members (set_of (xs ++ more) v) ≡ cond (c || member v (order_of xs)) (cond c x.members (set_of xs v)) (set_of more v)
    at true h = refl
    at false h = h

same-join : (table other more : List Correction) → SameSets table other → SameSets (table ++ more) (other ++ more)
same-join table other more same = record {
  order = order_of-join table more ∙ ap (λ l. l ++ order_of more) same.order ∙ sym (order_of-join other more);
  members = λ v w. ap (λ l. is_in l w) (set_of-join table more v)
      ∙ ap (λ l. is_in (cond (member v l) (set_of table v) (set_of more v)) w) same.order
      ∙ at (member v (order_of other)) v w
      ∙ sym (ap (λ l. is_in l w) (set_of-join other more v));
}
  where
    at : (c : Bool) (v w : ℕ) → is_in (cond c (set_of table v) (set_of more v)) w ≡ is_in (cond c (set_of other v) (set_of more v)) w
    at true v w = same.members v w
    at false v w = refl

same_then : (table other third : List Correction) → SameSets table other → SameSets other third → SameSets table third
same_then table other third same again = record {
  order = same.order ∙ again.order;
  members = λ v w. same.members v w ∙ again.members v w;
}

-- the corrections of one gate, then those of the gates behind it
pub corrected_then : (g h : Graph) (gate : Gate) (gates : List Gate) (before between after : List Correction) → h ≡ with_gate g gate →
    SameSets between (before ++ table_from g (gate ∷ [])) → SameSets after (between ++ table_from h gates) → SameSets after (before ++ table_from g (gate ∷ gates))
corrected_then g h gate gates before between after leads one rest =
    same_then after (between ++ table_from h gates) (before ++ table_from g (gate ∷ gates)) rest
    (subst (SameSets (between ++ table_from h gates)) regrouped (same-join between (before ++ table_from g (gate ∷ [])) (table_from h gates) one))
  where
    regrouped : (before ++ table_from g (gate ∷ [])) ++ table_from h gates ≡ before ++ table_from g (gate ∷ gates)
    regrouped =
        ap₂ (λ l m. (before ++ l) ++ m) (append-nil (corrected_by g gate)) (ap (λ k. table_from k gates) leads)
        ∙ append_assoc before (corrected_by g gate) (table_from (with_gate g gate) gates)
