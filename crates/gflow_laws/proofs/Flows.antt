-- A table is a flow exactly where its order is right and each of its sets, as a function, corrects its vertex.
use Rattle.std.proofs.Common.{◌≡◌, ◌≢◌, refl, sym, ◌∙◌, ap, ap₂, ⊎_elim, ℕ, Bool, true, false, not, ◌&&◌, ◌||◌, eqb, List, eq-eqb, ne_eqb}
use Rattle.std.specs.List.{list_all}
use Rattle.std.proofs.lemmas.Bool.{cases_eq, true≢false, and_parts, not-true, or_right, or_left}
use Rattle.zx_model.specs.Bits.{member}
use Rattle.zx_calculus.specs.Graph.{Plane, XY, XZ, YZ}
use Rattle.gflow_laws.specs.Seen.{Seen, in_odd_neighbourhood}
use Rattle.gflow_laws.specs.Flow.{Correction, order_of, set_of, is_in, is_later, plane_holds, IsFlowOf, inside_in, odd_in}
use Rattle.gflow_laws.specs.Correcting.{Alike, Distinct, FlowAsFunctions}
use Rattle.gflow_laws.proofs.Corrects.{Corrects-alike}
use Rattle.zx_calculus.proofs.Ids.{Distinct-different}
use Rattle.zx_calculus.proofs.Splitting.{all_at}
use Rattle.zx_calculus.proofs.Kept.{all_by}
use Rattle.gflow_laws.proofs.Lists.{in_order-from}

-- a vertex of the order is a vertex of the graph
pub live : (s : Seen) (table : List Correction) → FlowAsFunctions s table → (v : ℕ) → member v (order_of table) ≡ true → member v s.ids ≡ true
live s table f v there = (and_parts (member v s.ids) (not (s.output v)) (sym (f.non_outputs v) ∙ there)).0

-- a vertex without an output stands in the order
pub listed : (s : Seen) (table : List Correction) → FlowAsFunctions s table → (v : ℕ) → member v s.ids ≡ true → s.output v ≡ false → member v (order_of table) ≡ true
listed s table f v there none = f.non_outputs v ∙ ap₂ (λ a b. a && not b) there none

other_or : (e a : Bool) → e ≡ false → (e || a) ≡ true → a ≡ true
other_or e a out h = sym (ap (λ b. b || a) out) ∙ h

implied : (o a : Bool) → (not o || a) ≡ true → o ≡ true → a ≡ true
implied true a h e = h
implied false a h e = absurd (true≢false (sym e))

implied_from : (o a : Bool) → (o ≡ true → a ≡ true) → (not o || a) ≡ true
implied_from true a h = h refl
implied_from false a h = refl

inside_from : (s : Seen) (p : Plane) (v : ℕ) (members : List ℕ) → plane_holds s p v members ≡ true → is_in members v ≡ inside_in p
inside_from s XY v members e = not-true (is_in members v) (and_parts (not (is_in members v)) (in_odd_neighbourhood s (is_in members) v) e).0
inside_from s XZ v members e = (and_parts (is_in members v) (in_odd_neighbourhood s (is_in members) v) e).0
inside_from s YZ v members e = (and_parts (is_in members v) (not (in_odd_neighbourhood s (is_in members) v)) e).0

odd_from : (s : Seen) (p : Plane) (v : ℕ) (members : List ℕ) → plane_holds s p v members ≡ true → in_odd_neighbourhood s (is_in members) v ≡ odd_in p
odd_from s XY v members e = (and_parts (not (is_in members v)) (in_odd_neighbourhood s (is_in members) v) e).1
odd_from s XZ v members e = (and_parts (is_in members v) (in_odd_neighbourhood s (is_in members) v) e).1
odd_from s YZ v members e = not-true (in_odd_neighbourhood s (is_in members) v) (and_parts (is_in members v) (not (in_odd_neighbourhood s (is_in members) v)) e).1

plane_from : (s : Seen) (p : Plane) (v : ℕ) (members : List ℕ) → is_in members v ≡ inside_in p → in_odd_neighbourhood s (is_in members) v ≡ odd_in p → plane_holds s p v members ≡ true
plane_from s XY v members i o = ap₂ (λ a b. not a && b) i o
plane_from s XZ v members i o = ap₂ (λ a b. a && b) i o
plane_from s YZ v members i o = ap₂ (λ a b. a && not b) i o

in_order_from_tests : (m i o l : Bool) → (l ≡ true → (m && not o) ≡ true) → (m ≡ true → (o || l) ≡ true) → l ≡ (m && not o)
in_order_from_tests m i o true f g = sym (f refl)
in_order_from_tests true i true false f g = refl
in_order_from_tests true i false false f g = g refl
in_order_from_tests false i o false f g = refl

there_or_output : (m o l : Bool) → l ≡ (m && not o) → m ≡ true → (o || l) ≡ true
there_or_output m true l e f = refl
there_or_output m false l e f = e ∙ ap (λ a. a && true) f

pub Flows-from : (s : Seen) (table : List Correction) → IsFlowOf s table → FlowAsFunctions s table
Flows-from s table f = record {
  each_once = Distinct-different (order_of table) f.is_table.each_once;
  non_outputs = λ v. in_order_from_tests (member v s.ids) (s.input v) (s.output v) (member v (order_of table))
      (λ e. all_at (λ w. member w s.ids && not (s.output w)) (order_of table) v f.is_table.no_others e)
      (λ e. all_at (λ w. s.output w || member w (order_of table)) s.ids v f.is_table.all_there e);
  corrects = λ v there. record {
    members = λ w e. all_at (λ x. member x s.ids) (set_of table v) w
        (all_at (λ x. list_all (λ y. member y s.ids) (set_of table x)) (order_of table) v f.is_table.vertices there) e;
    input = λ w e. not-true (s.input w) (all_at (λ x. not (s.input x)) (set_of table v) w
        (all_at (λ x. list_all (λ y. not (s.input y)) (set_of table x)) (order_of table) v f.input there) e);
    order = λ w e ne. other_or (eqb w v) (is_later (order_of table) v w) (ne_eqb w v ne)
        (all_at (λ x. eqb x v || is_later (order_of table) v x) (set_of table v) w
        (all_at (λ x. list_all (λ y. eqb y x || is_later (order_of table) x y) (set_of table x)) (order_of table) v f.order there) e);
    odd_order = λ w within e ne. other_or (eqb w v) (is_later (order_of table) v w) (ne_eqb w v ne)
        (implied (in_odd_neighbourhood s (is_in (set_of table v)) w) (eqb w v || is_later (order_of table) v w)
        (all_at (λ x. not (in_odd_neighbourhood s (is_in (set_of table v)) x) || (eqb x v || is_later (order_of table) v x)) s.ids w
        (all_at (λ x. list_all (λ y. not (in_odd_neighbourhood s (is_in (set_of table x)) y) || (eqb y x || is_later (order_of table) x y)) s.ids) (order_of table) v f.odd there) within) e);
    inside = inside_from s (s.plane v) v (set_of table v) (all_at (λ x. plane_holds s (s.plane x) x (set_of table x)) (order_of table) v f.plane there);
    odd_there = odd_from s (s.plane v) v (set_of table v) (all_at (λ x. plane_holds s (s.plane x) x (set_of table x)) (order_of table) v f.plane there);
  };
}

or_other : (w v : ℕ) (a : Bool) → (w ≢ v → a ≡ true) → (eqb w v || a) ≡ true
or_other w v a f = ⊎_elim (λ e. or_left (eqb w v) a (eq-eqb w v e)) (λ ne. or_right (eqb w v) a (f ne)) (cases_eq w v)

pub IsFlowOf-from : (s : Seen) (table : List Correction) → FlowAsFunctions s table → IsFlowOf s table
IsFlowOf-from s table f = record {
  is_table = record {
    each_once = in_order-from (order_of table) f.each_once;
    no_others = all_by (λ w. member w s.ids && not (s.output w)) (order_of table) (λ v e. sym (f.non_outputs v) ∙ e);
    all_there = all_by (λ w. s.output w || member w (order_of table)) s.ids
        (λ v e. there_or_output (member v s.ids) (s.output v) (member v (order_of table)) (f.non_outputs v) e);
    vertices = all_by (λ x. list_all (λ y. member y s.ids) (set_of table x)) (order_of table)
        (λ v there. all_by (λ x. member x s.ids) (set_of table v) (λ w e. (f.corrects v there).members w e));
  };
  input = all_by (λ x. list_all (λ y. not (s.input y)) (set_of table x)) (order_of table)
      (λ v there. all_by (λ x. not (s.input x)) (set_of table v) (λ w e. ap not ((f.corrects v there).input w e)));
  order = all_by (λ x. list_all (λ y. eqb y x || is_later (order_of table) x y) (set_of table x)) (order_of table)
      (λ v there. all_by (λ x. eqb x v || is_later (order_of table) v x) (set_of table v)
      (λ w e. or_other w v (is_later (order_of table) v w) ((f.corrects v there).order w e)));
  odd = all_by (λ x. list_all (λ y. not (in_odd_neighbourhood s (is_in (set_of table x)) y) || (eqb y x || is_later (order_of table) x y)) s.ids) (order_of table)
      (λ v there. all_by (λ x. not (in_odd_neighbourhood s (is_in (set_of table v)) x) || (eqb x v || is_later (order_of table) v x)) s.ids
      (λ w e. implied_from (in_odd_neighbourhood s (is_in (set_of table v)) w) (eqb w v || is_later (order_of table) v w)
      (λ h. or_other w v (is_later (order_of table) v w) ((f.corrects v there).odd_order w e h))));
  plane = all_by (λ x. plane_holds s (s.plane x) x (set_of table x)) (order_of table)
      (λ v there. plane_from s (s.plane v) v (set_of table v) (f.corrects v there).inside (f.corrects v there).odd_there);
}

out_alike : (m n o p : Bool) → m ≡ n → (m ≡ true → o ≡ p) → (m && not o) ≡ (n && not p)
out_alike true n o p e f = ap (λ b. not b) (f refl) ∙ ap (λ b. b && not p) e
out_alike false n o p e f = ap (λ b. b && not p) e

-- a flow of one view is a flow of each that agrees on the vertices
pub Flows-alike : (s t : Seen) (table : List Correction) → Distinct s.ids → Distinct t.ids → Alike s t → FlowAsFunctions s table → FlowAsFunctions t table
Flows-alike s t table ds dt alike f = record {
  each_once = f.each_once;
  non_outputs = λ v. f.non_outputs v ∙ out_alike (member v s.ids) (member v t.ids) (s.output v) (t.output v) (alike.ids v) (alike.output v);
  corrects = λ v there. Corrects-alike s t (is_later (order_of table)) (is_later (order_of table)) v (is_in (set_of table v)) (is_in (set_of table v))
      ds dt alike (live s table f v there) (λ w. refl) (λ w e. e) (f.corrects v there);
}
