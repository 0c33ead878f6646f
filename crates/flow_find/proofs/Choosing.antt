-- A vertex that is alone in a row, and its way towards the end.
use Rattle.std.proofs.Common.{◌+◌, Result, Ok, Err, IfOk, cond, false, ◌||◌, ◌≡◌, refl, sym, ◌∙◌, ap, subst, inl, inr, not, ◌&&◌, append-nil, ℕ, suc, zero, ◌-◌, ◌<◌, ◌≤◌, Bool, true, eqb, true≢false, List, [], ◌∷◌, ◌++◌, length, take, drop, get_or, insert, remove, arith}
use Rattle.std.proofs.lemmas.Bool.{cases_lt, cases_eq, eq-eqb, ne_eqb}
use Rattle.std.proofs.lemmas.List.{take-append-drop}
use Rattle.zx_model.specs.Bits.{member}
use Rattle.zx_calculus.proofs.Booleans.{or-false, or-true}
use Rattle.zx_calculus.specs.Graph.{Graph, WellFormed, IsVertex, Distinct}
use Rattle.zx_calculus.proofs.Ids.{by_equal, eqb-self, member-append}
use Rattle.gflow_laws.specs.Flow.{Correction, order_of, set_of, is_in, is_later, IsFlow, Corrects}
use Rattle.gflow_laws.specs.Tables.{with_sets}
use Rattle.gflow_laws.proofs.Tables.{order_of-with_sets, set_of-append, set_of-last, Corrects-same, Corrects-later}
use Rattle.gflow_laws.specs.Seen.{Seen, seen}
use Rattle.flow_find.specs.declared.row.Row.{Row}
use Rattle.flow_find.specs.Frontiers.{set_from, AreAll, IsRow, IsFrontierOf, usable}
use Rattle.flow_find.specs.Internal.Next.{HasSetsOf, IsPutOff, IsAlone, IsNextPlace, IsMoved, IsChosen}
use Rattle.flow_find.specs.Internal.Rows.{IsPassable}
use Rattle.flow_find.proofs.Orders.{IsOrder, IsPlace, is_place, is_live, last_left, correctable_at, still_left, one_less, listed, corrected_more, whole_flow, Distinct-drop}
use Rattle.flow_find.proofs.Moving.{moved, member-moved, Distinct-moved, later_moved}

-- no vertex stands below v or above
pub only_one : (vs : List ℕ) (v : ℕ) → member v vs ≡ true → ((w : ℕ) → 0 ≤ w → w < v → member w vs ≡ false) →
    ((w : ℕ) → v + 1 ≤ w → member w vs ≡ false) → (w : ℕ) → member w vs ≡ eqb w v
only_one vs v there below above w = elim (cases_eq w v) [
  | inl same ↦ ap (λ x. member x vs) same ∙ there ∙ sym (eq-eqb w v same)
  | inr differ ↦ elim (cases_lt w v) [
    | inl low ↦ below w (omega arith) low
    | inr high ↦ above w (omega arith)
  ] ∙ sym (ne_eqb w v differ)
]

pub row_at : (P : Row → Type 0) (rows : List Row) (i : ℕ) (r : Row) → i < length rows → r ≡ get_or rows i r → AreAll P rows → P r
row_at P [] i r within is each = absurd (omega arith)
row_at P (x ∷ xs) zero r within is each = subst P (sym is) each.0
row_at P (x ∷ xs) (suc i) r within is each = row_at P xs i r (omega arith) is each.1

size_of_take : (i : ℕ) (vs : List ℕ) → i ≤ length vs → length (take i vs) ≡ i
size_of_take zero vs within = refl
size_of_take (suc i) [] within = absurd (omega arith)
size_of_take (suc i) (v ∷ vs) within = ap suc (size_of_take i vs (omega arith))

insert-parts : (vs : List ℕ) (i w : ℕ) → i ≤ length vs → insert vs i w ≡ take i vs ++ w ∷ drop i vs
insert-parts vs zero w within = refl
insert-parts [] (suc i) w within = absurd (omega arith)
insert-parts (v ∷ vs) (suc i) w within = ap (λ l. v ∷ l) (insert-parts vs i w (omega arith))

pub put_later : (place last : ℕ) (old : List ℕ) (w : ℕ) → place ≤ last → last < length old → w ≡ get_or old place w → IsPutOff place last old (insert (remove old place) last w)
put_later place last [] w ordered within is = absurd (omega arith)
put_later zero last (v ∷ vs) w ordered within is = record {
  vertex = w;
  before = [];
  after = take last vs;
  gone = drop last vs;
  there = is;
  size = size_of_take last vs (omega arith);
  was = ap (λ x. x ∷ vs) (sym is) ∙ ap (λ l. w ∷ l) (sym (take-append-drop last vs));
  is = insert-parts vs last w (omega arith);
}
put_later (suc place) zero (v ∷ vs) w ordered within is = absurd (omega arith)
put_later (suc place) (suc last) (v ∷ vs) w ordered within is =
    let rest : IsPutOff place last vs (insert (remove vs place) last w) = put_later place last vs w (omega arith) (omega arith) is in
    record {
      vertex = rest.vertex;
      before = v ∷ rest.before;
      after = rest.after;
      gone = rest.gone;
      there = rest.there;
      size = ap suc rest.size;
      was = ap (λ l. v ∷ l) rest.was;
      is = ap (λ l. v ∷ l) rest.is;
    }

same_there : (vs : List ℕ) (i d e : ℕ) → i < length vs → get_or vs i d ≡ get_or vs i e
same_there [] i d e within = absurd (omega arith)
same_there (v ∷ vs) zero d e within = refl
same_there (v ∷ vs) (suc i) d e within = same_there vs i d e (omega arith)

pub is_moved : (s : Seen) (rows : List Row) (order new : List ℕ) (last place : ℕ) → last < length order → IsNextPlace s rows order last place →
    IsPutOff place last order new → IsMoved s rows last order new
is_moved s rows order new last place within next put = record {
  place = place;
  put_off = put;
  alone = subst (IsAlone s rows)
      (next.before.there ∙ same_there order place next.vertex put.vertex (let low = next.before.ordered in omega (arith, low)) ∙ sym put.there) next.alone;
}

-- an order along which some sets are a flow, and the rows of those left, which stand up to this place
pub record IsLeftAlong (g : Graph) (order : List ℕ) (i : ℕ) (left : ℕ → Bool) (rows : List Row) : Type 0 where
  pub is_order : IsOrder g order
  pub marks : (w : ℕ) → left w ≡ member w (take i order)
  pub frontier : IsFrontierOf (seen g) left rows

take_first : (i : ℕ) (vs gone : List ℕ) → length vs ≡ i → take i (vs ++ gone) ≡ vs
take_first zero [] gone size = refl
take_first zero (v ∷ vs) gone size = absurd (omega (arith, size))
take_first (suc i) [] gone size = absurd (omega (arith, size))
take_first (suc i) (v ∷ vs) gone size = ap (λ l. v ∷ l) (take_first i vs gone (omega (arith, size)))

take_was : (i : ℕ) (before after gone : List ℕ) (w : ℕ) → length (before ++ after) ≡ i → take (suc i) (before ++ w ∷ (after ++ gone)) ≡ before ++ w ∷ after
take_was i [] after gone w size = ap (λ l. w ∷ l) (take_first i after gone size)
take_was zero (b ∷ bs) after gone w size = absurd (omega (arith, size))
take_was (suc i) (b ∷ bs) after gone w size = ap (λ l. b ∷ l) (take_was i bs after gone w (omega (arith, size)))

take_is : (i : ℕ) (vs gone : List ℕ) (w : ℕ) → length vs ≡ i → take (suc i) (vs ++ w ∷ gone) ≡ vs ++ w ∷ []
take_is zero [] gone w size = refl
take_is zero (v ∷ vs) gone w size = absurd (omega (arith, size))
take_is (suc i) [] gone w size = absurd (omega (arith, size))
take_is (suc i) (v ∷ vs) gone w size = ap (λ l. v ∷ l) (take_is i vs gone w (omega (arith, size)))

size_moved : (before after gone : List ℕ) (w : ℕ) → length ((before ++ after) ++ w ∷ gone) ≡ length (before ++ w ∷ (after ++ gone))
size_moved [] [] gone w = refl
size_moved [] (a ∷ more) gone w = ap suc (size_moved [] more gone w)
size_moved (b ∷ bs) after gone w = ap suc (size_moved bs after gone w)

pub same_size : (s : Seen) (rows : List Row) (i : ℕ) (order new : List ℕ) → IsChosen s rows i order new → length new ≡ length order
same_size s rows i order new (inr same) = ap length same
same_size s rows i order new (inl m) =
    ap length m.put_off.is ∙ size_moved m.put_off.before m.put_off.after m.put_off.gone m.put_off.vertex ∙ sym (ap length m.put_off.was)

-- the vertex that comes next is the last one left now
pub chosen : (g : Graph) (rows : List Row) (i : ℕ) (order new : List ℕ) (left : ℕ → Bool) → IsChosen (seen g) rows i order new →
    IsLeftAlong g order (suc i) left rows → IsLeftAlong g new (suc i) left rows
chosen g rows i order new left (inr same) l = subst (λ o. IsLeftAlong g o (suc i) left rows) (sym same) l
chosen g rows i order new left (inl m) l = record {
  is_order = subst (IsOrder g) (sym m.put_off.is)
      (moved g before after gone w left m.alone.row (subst (IsOrder g) m.put_off.was l.is_order) marks
      (row_at (IsRow (seen g) left (usable (seen g) left)) rows m.alone.place m.alone.row m.alone.within m.alone.there l.frontier.each) m.alone.alone);
  marks = λ p. marks p ∙ sym (ap (λ o. member p (take (suc i) o)) m.put_off.is ∙ ap (member p) (take_is i (before ++ after) gone w m.put_off.size)
      ∙ member-moved before after [] w p ∙ ap (λ o. member p (before ++ w ∷ o)) (append-nil after));
  frontier = l.frontier;
}
  where
    w : ℕ
    w = m.put_off.vertex

    before : List ℕ
    before = m.put_off.before

    after : List ℕ
    after = m.put_off.after

    gone : List ℕ
    gone = m.put_off.gone

    marks : (p : ℕ) → left p ≡ member p (before ++ w ∷ after)
    marks p = l.marks p ∙ ap (λ o. member p (take (suc i) o)) m.put_off.was ∙ ap (member p) (take_was i before after gone w m.put_off.size)

-- the sets of those that went are found
pub record IsFoundAlong (g : Graph) (order : List ℕ) (i : ℕ) (table : List Correction) : Type 0 where
  pub listed : (w : ℕ) → member w (order_of table) ≡ member w order
  pub corrected : (v : ℕ) → member v (drop i order) ≡ true → Corrects (seen g) (is_later order) v (is_in (set_of table v))

drop_is : (i : ℕ) (vs gone : List ℕ) (w : ℕ) → length vs ≡ i → drop (suc i) (vs ++ w ∷ gone) ≡ gone
drop_is zero [] gone w size = refl
drop_is zero (v ∷ vs) gone w size = absurd (omega (arith, size))
drop_is (suc i) [] gone w size = absurd (omega (arith, size))
drop_is (suc i) (v ∷ vs) gone w size = drop_is i vs gone w (omega (arith, size))

drop_first : (i : ℕ) (vs gone : List ℕ) → length vs ≡ i → drop i (vs ++ gone) ≡ gone
drop_first zero [] gone size = refl
drop_first zero (v ∷ vs) gone size = absurd (omega (arith, size))
drop_first (suc i) [] gone size = absurd (omega (arith, size))
drop_first (suc i) (v ∷ vs) gone size = drop_first i vs gone (omega (arith, size))

drop_was : (i : ℕ) (before after gone : List ℕ) (w : ℕ) → length (before ++ after) ≡ i → drop (suc i) (before ++ w ∷ (after ++ gone)) ≡ gone
drop_was i [] after gone w size = drop_first i after gone size
drop_was zero (b ∷ bs) after gone w size = absurd (omega (arith, size))
drop_was (suc i) (b ∷ bs) after gone w size = drop_was i bs after gone w (omega (arith, size))

-- they stay so where a vertex is put off
still_found : (g : Graph) (before after gone : List ℕ) (w i : ℕ) (table : List Correction) → length (before ++ after) ≡ i → Distinct (before ++ w ∷ (after ++ gone)) →
    IsFoundAlong g (before ++ w ∷ (after ++ gone)) (suc i) table → IsFoundAlong g ((before ++ after) ++ w ∷ gone) (suc i) table
still_found g before after gone w i table size once f = record {
  listed = λ p. f.listed p ∙ sym (member-moved before after gone w p);
  corrected = λ v there.
      let behind : member v gone ≡ true = sym (ap (member v) (drop_is i (before ++ after) gone w size)) ∙ there in
      let apart : eqb v w ≡ false = by_equal v w (λ t e. absurd (true≢false (sym (ap (λ x. member x gone) (sym e) ∙ behind) ∙ Distinct-drop (before ++ after) w gone (Distinct-moved before after gone w once)))) (λ n _. n) in
      Corrects-later (seen g) (is_later (before ++ w ∷ (after ++ gone))) (is_later ((before ++ after) ++ w ∷ gone)) v (is_in (set_of table v)) (λ p. later_moved before after gone w v p apart)
      (f.corrected v (ap (member v) (drop_was i before after gone w size) ∙ behind));
}

pub chosen_found : (g : Graph) (rows : List Row) (i : ℕ) (order new : List ℕ) (table : List Correction) → IsChosen (seen g) rows i order new → Distinct order →
    IsFoundAlong g order (suc i) table → IsFoundAlong g new (suc i) table
chosen_found g rows i order new table (inr same) once f = subst (λ o. IsFoundAlong g o (suc i) table) (sym same) f
chosen_found g rows i order new table (inl m) once f =
    subst (λ o. IsFoundAlong g o (suc i) table) (sym m.put_off.is)
    (still_found g m.put_off.before m.put_off.after m.put_off.gone m.put_off.vertex i table m.put_off.size (subst Distinct m.put_off.was once)
    (subst (λ o. IsFoundAlong g o (suc i) table) m.put_off.was f))

-- then it goes: v stands at this place of the new order
pub record IsNext (g : Graph) (rows : List Row) (i : ℕ) (order new : List ℕ) (left : ℕ → Bool) (v : ℕ) : Type 0 where
  pub formed : WellFormed g
  pub choice : IsChosen (seen g) rows i order new
  pub all : IsLeftAlong g order (suc i) left rows
  pub within : i < length order
  pub there : v ≡ get_or new i v

pub is_next : (g : Graph) (told rows : List Row) (i : ℕ) (first order new : List ℕ) (left : ℕ → Bool) (v : ℕ) → WellFormed g → told ≡ rows → 0 < i → i ≤ length first →
    length order ≡ length first → IsChosen (seen g) told (i - 1) order new → IsLeftAlong g order i left rows → v ≡ get_or new (i - 1) v → IsNext g rows (i - 1) order new left v
is_next g told rows i first order new left v formed same some bound size choice all there = record {
  formed = formed;
  choice = subst (λ (rs : List Row). IsChosen (seen g) rs (i - 1) order new) same choice;
  all = subst (λ (k : ℕ). IsLeftAlong g order k left rows) (omega arith) all;
  within = omega (arith, size, some, bound);
  there = there;
}

module _ (g : Graph) (rows : List Row) (i : ℕ) (order new : List ℕ) (left : ℕ → Bool) (v : ℕ) (n : IsNext g rows i order new left v) where
  now_along : IsLeftAlong g new (suc i) left rows
  now_along = chosen g rows i order new left n.choice n.all

  place : IsPlace new i v
  place = is_place new i v (let size = same_size (seen g) rows i order new n.choice in let within = n.within in omega (arith, size, within)) n.there

  pub lives : IsVertex g v
  lives = is_live g new n.formed now_along.is_order i v place

  pub passable : (now : ℕ → Bool) → ((w : ℕ) → now w ≡ (not (eqb w v) && left w)) → IsPassable (seen g) now v rows
  passable now cleared = still_left (seen g) left now v rows (last_left g new n.formed now_along.is_order i v place left now_along.marks) cleared now_along.frontier
      (correctable_at g new n.formed now_along.is_order i v place left now_along.marks)

  pub gone_on : (now : ℕ → Bool) (later : List Row) → ((w : ℕ) → now w ≡ (not (eqb w v) && left w)) → IsFrontierOf (seen g) now later → IsLeftAlong g new i now later
  gone_on now later cleared frontier = record {
    is_order = now_along.is_order;
    marks = one_less g new n.formed now_along.is_order i v place left now now_along.marks cleared;
    frontier = frontier;
  }

  pub found_on : (table : List Correction) (members : List ℕ) → IsFoundAlong g order (suc i) table → ((w : ℕ) → member w members ≡ set_from (seen g) rows v w) →
      IsFoundAlong g new i (with_sets (λ u set. cond (eqb u v) members set) table)
  found_on table members found is_set =
      let f : IsFoundAlong g new (suc i) table = chosen_found g rows i order new table n.choice n.all.is_order.each_once found in
      record {
        listed = λ w. ap (member w) (order_of-with_sets (λ u set. cond (eqb u v) members set) table) ∙ f.listed w;
        corrected = corrected_more g new n.formed now_along.is_order i v place left rows table members f.listed now_along.marks now_along.frontier is_set f.corrected;
      }

  pub set_listed : (table : List Correction) → IsFoundAlong g order (suc i) table → member v (order_of table) ≡ true
  set_listed table found = (chosen_found g rows i order new table n.choice n.all.is_order.each_once found).listed v ∙ listed g new n.formed now_along.is_order i v place

-- all sets are found, and stand in the order
pub all_found : (g : Graph) (order : List ℕ) (left : ℕ → Bool) (rows : List Row) (table new : List Correction) → IsLeftAlong g order 0 left rows → IsFoundAlong g order 0 table →
    order_of new ≡ order → HasSetsOf table order new → IsFlow g new
all_found g order left rows table new all f along sets = whole_flow g order left rows new all.is_order record {
  is_order = along;
  marks = all.marks;
  frontier = all.frontier;
  corrected = λ v there. Corrects-same (seen g) (is_later order) v (is_in (set_of table v)) (is_in (set_of new v)) (λ w. sym (sets v w there)) (f.corrected v there);
}

pub place_listed : (order : List ℕ) (i v : ℕ) → IsPlace order i v → member v order ≡ true
place_listed order i v place = ap (member v) place.whole ∙ member-append v (take i order) (v ∷ drop (suc i) order)
    ∙ ap (λ b. member v (take i order) || (b || member v (drop (suc i) order))) (eqb-self v) ∙ or-true (member v (take i order))

-- one set more of a table
pub set_more : (table old new : List Correction) (vs : List ℕ) (v : ℕ) (members : List ℕ) → order_of old ≡ vs → member v vs ≡ false → members ≡ set_of table v →
    HasSetsOf table vs old → ((u w : ℕ) → is_in (set_of new u) w ≡ is_in (set_of (old ++ record { vertex = v; members = members } ∷ []) u) w) → HasSetsOf table (vs ++ v ∷ []) new
set_more table old new vs v members same fresh are sets added = λ u w there. added u w ∙ by_equal u v
    (λ t e. ap (λ x. is_in (set_of (old ++ record { vertex = v; members = members } ∷ []) x) w) e
    ∙ ap (λ l. is_in l w) (set_of-last old (record { vertex = v; members = members }) (ap (member v) same ∙ fresh) ∙ are) ∙ sym (ap (λ x. is_in (set_of table x) w) e))
    (λ f n. let before : member u vs ≡ true = sym (or-false (member u vs)) ∙ ap (λ b. member u vs || (b || false)) (sym f) ∙ sym (member-append u vs (v ∷ [])) ∙ there in
    ap (λ l. is_in l w) (set_of-append old (record { vertex = v; members = members }) u (ap (member u) same ∙ before)) ∙ sets u w before)

pub both_ok : {A B : Type 0} {P Q R : A → Type 0} (r : Result A B) → ((x : A) → P x → Q x → R x) → IfOk r P → IfOk r Q → IfOk r R
both_ok (Ok x) f p q = f x p q
both_ok (Err e) f p q = tt
