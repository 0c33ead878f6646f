-- A vertex that some set corrects already goes behind the others left.
use Rattle.std.proofs.Common.{◌≡◌, refl, sym, ◌∙◌, ap, ap₂, subst, ℕ, Bool, true, false, not, ◌&&◌, ◌||◌, eqb, List, [], ◌∷◌, ◌++◌, cond, append-nil}
use Rattle.std.proofs.lemmas.Bool.{true≢false, eqb-true}
use Rattle.zx_model.specs.Bits.{member}
use Rattle.zx_calculus.specs.Graph.{Graph, Distinct}
use Rattle.zx_calculus.proofs.Ids.{by_test, by_equal, eqb-self, eqb_comm, member-append, or-left, or-right, and-left, and-right, not-true}
use Rattle.gflow_laws.specs.Seen.{seen, in_odd_neighbourhood}
use Rattle.gflow_laws.specs.Flow.{is_in, is_later, Corrects, inside_in, odd_in}
use Rattle.gflow_laws.proofs.Tables.{Corrects-later}
use Rattle.flow_find.specs.declared.row.Row.{Row}
use Rattle.flow_find.specs.Frontiers.{usable, IsRow}
use Rattle.flow_find.specs.Internal.Next.{IsAloneIn}
use Rattle.flow_find.proofs.Orders.{IsOrder, later_than, Distinct-take}

or_moved : (b a e g : Bool) → ((b || a) || (e || g)) ≡ (b || (e || (a || g)))
or_moved true a e g = refl
or_moved false true true g = refl
or_moved false true false g = refl
or_moved false false e g = refl

pub member-moved : (before after gone : List ℕ) (w p : ℕ) → member p ((before ++ after) ++ w ∷ gone) ≡ member p (before ++ w ∷ (after ++ gone))
member-moved before after gone w p =
    member-append p (before ++ after) (w ∷ gone) ∙ ap (λ b. b || (eqb p w || member p gone)) (member-append p before after)
    ∙ or_moved (member p before) (member p after) (eqb p w) (member p gone)
    ∙ sym (member-append p before (w ∷ (after ++ gone)) ∙ ap (λ b. member p before || (eqb p w || b)) (member-append p after gone))

pub Distinct-moved : (before after gone : List ℕ) (w : ℕ) → Distinct (before ++ w ∷ (after ++ gone)) → Distinct ((before ++ after) ++ w ∷ gone)
Distinct-moved [] [] gone w d = d
Distinct-moved [] (a ∷ more) gone w d = (
  member-moved [] more gone w a ∙ ap₂ (λ b c. b || c) (eqb_comm a w ∙ or-left _ _ d.0) d.1.0,
  Distinct-moved [] more gone w (or-right _ _ d.0, d.1.1),
)
Distinct-moved (b ∷ bs) after gone w d = (member-moved bs after gone w b ∙ d.0, Distinct-moved bs after gone w d.1)

weaker : (a b c d : Bool) → (c ≡ true → d ≡ true) → (a && (b || c)) ≡ true → (a && (b || d)) ≡ true
weaker true true c d f e = refl
weaker true false c d f e = f e
weaker false b c d f e = e

later_behind : (after gone : List ℕ) (w v p : ℕ) → eqb v w ≡ false → eqb p w ≡ false → is_later (after ++ gone) v p ≡ true → is_later (after ++ w ∷ gone) v p ≡ true
later_behind [] gone w v p other apart e = ap₂ (λ x y. not x && (y || is_later gone v p)) apart other ∙ e
later_behind (a ∷ more) gone w v p other apart e = weaker (not (eqb p a)) (eqb v a) _ _ (later_behind more gone w v p other apart) e

pub later_moved : (before after gone : List ℕ) (w v p : ℕ) → eqb v w ≡ false → is_later (before ++ w ∷ (after ++ gone)) v p ≡ true → is_later ((before ++ after) ++ w ∷ gone) v p ≡ true
later_moved [] after gone w v p other e =
    later_behind after gone w v p other (not-true _ (and-left _ _ e))
    (sym (ap (λ b. b || is_later (after ++ gone) v p) other) ∙ and-right (not (eqb p w)) _ e)
later_moved (b ∷ bs) after gone w v p other e = weaker (not (eqb p b)) (eqb v b) _ _ (later_moved bs after gone w v p other) e

-- it goes behind those left
module _ (g : Graph) (before after gone : List ℕ) (w : ℕ) (left : ℕ → Bool) (r : Row) (h : IsOrder g (before ++ w ∷ (after ++ gone)))
    (marks : (p : ℕ) → left p ≡ member p (before ++ w ∷ after)) (row : IsRow (seen g) left (usable (seen g) left) r) (alone : IsAloneIn (seen g) r w) where
  each_once : Distinct ((before ++ after) ++ w ∷ gone)
  each_once = Distinct-moved before after gone w h.each_once

  later : (p : ℕ) → is_later ((before ++ after) ++ w ∷ gone) w p ≡ not (left p)
  later p = later_than (before ++ after) w gone p (Distinct-take (before ++ after) w gone each_once)
      ∙ ap not (member-moved before after [] w p ∙ ap (λ l. member p (before ++ w ∷ l)) (append-nil after) ∙ sym (marks p))

  there : left w ≡ true
  there = by_test (left w) (λ t. t)
      (λ f. absurd (true≢false (sym (ap (λ b. b) (eqb-self w)) ∙ sym (alone.only w) ∙ row.columns w ∙ ap (λ b. b && in_odd_neighbourhood (seen g) (is_in r.members.ids) w) f)))

  out : (p : ℕ) → member p r.members.ids ≡ true → left p ≡ false
  out p e = not-true _ (and-right _ _ (and-right (member p (seen g).ids) _ (row.members p e)))

  corrected : Corrects (seen g) (is_later ((before ++ after) ++ w ∷ gone)) w (is_in r.members.ids)
  corrected = record {
    members = λ p e. and-left _ _ (row.members p e);
    input = λ p e. not-true _ (and-left _ _ (and-right (member p (seen g).ids) _ (row.members p e)));
    order = λ p e n. later p ∙ ap not (out p e);
    odd_order = λ p within e n. by_test (left p)
        (λ l. absurd (n (eqb-true p w (sym (alone.only p) ∙ row.columns p ∙ ap₂ (λ a b. a && b) l e))))
        (λ f. later p ∙ ap not f);
    inside = by_test (member w r.members.ids) (λ t. absurd (true≢false (sym there ∙ out w t))) (λ f. f ∙ sym (ap inside_in alone.plane));
    odd_there = sym (ap (λ b. b && in_odd_neighbourhood (seen g) (is_in r.members.ids) w) there) ∙ sym (row.columns w) ∙ alone.only w ∙ eqb-self w ∙ sym (ap odd_in alone.plane);
  }

  pub moved : IsOrder g ((before ++ after) ++ w ∷ gone)
  moved = record {
    each_once = each_once;
    non_outputs = λ v. member-moved before after gone w v ∙ h.non_outputs v;
    sets = λ v. cond (eqb v w) r.members.ids (h.sets v);
    corrects = λ v is. by_equal v w
        (λ t e. subst (λ x. Corrects (seen g) (is_later ((before ++ after) ++ w ∷ gone)) x (is_in (cond (eqb x w) r.members.ids (h.sets x)))) (sym e)
        (subst (λ b. Corrects (seen g) (is_later ((before ++ after) ++ w ∷ gone)) w (is_in (cond b r.members.ids (h.sets w)))) (sym (eqb-self w)) corrected))
        (λ f n. subst (λ b. Corrects (seen g) (is_later ((before ++ after) ++ w ∷ gone)) v (is_in (cond b r.members.ids (h.sets v)))) (sym f)
        (Corrects-later (seen g) (is_later (before ++ w ∷ (after ++ gone))) (is_later ((before ++ after) ++ w ∷ gone)) v (is_in (h.sets v)) (λ p. later_moved before after gone w v p f)
        (h.corrects v (sym (member-moved before after gone w v) ∙ is))));
  }
