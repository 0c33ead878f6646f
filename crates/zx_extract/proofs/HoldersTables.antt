-- Tables that are turned over: what changes of the sets in which a vertex stands, as a change of the sets.
use Rattle.std.proofs.Common.{◌≡◌, refl, sym, ◌∙◌, ap, ap₂, subst, ℕ, zero, suc, ◌+◌, ◌-◌, ◌<◌, ◌≤◌, Bool, true, false, cond, not, ◌&&◌, ◌||◌, eqb, ltb, List, [], ◌∷◌, ◌++◌, length, get_or, take, take_all, filter, true≢false, ltb-true, ltb-false, eqb-true, arith}
use Rattle.std.specs.List.{range_with_len}
use Rattle.std.specs.Prelude.{Option, Some, IfSome, slice_get}
use Rattle.std.proofs.lemmas.Option.{slice_get-get_or, slice_get_within, get_or_from_slice_get}
use Rattle.std.proofs.lemmas.List.{get_or_past, length_push, same_from_push}
use Rattle.std.proofs.Math.Seq.{take-suc}
use Rattle.zx_model.specs.Bits.{xor, member}
use Rattle.zx_calculus.specs.Graph.{Distinct, different}
use Rattle.zx_calculus.proofs.Booleans.{and-false, and-true, xor-false, xor-same, or-false}
use Rattle.zx_calculus.proofs.Ids.{by_test, by_equal, eqb-self, eqb_comm, member-filter, and-left}
use Rattle.gflow_laws.specs.Flow.{Correction, order_of, set_of, is_in, SameSets}
use Rattle.gflow_laws.specs.Tables.{symmetric_difference, with_sets}
use Rattle.gflow_laws.specs.Outputs.{row_added_set, row_added_table, advanced_table, last_removed_table}
use Rattle.gflow_laws.proofs.Lists.{is_in-symmetric_difference}
use Rattle.gflow_laws.proofs.Tables.{order_of-with_sets}
use Rattle.zx_calculus.proofs.Ids.{member-append}
use Rattle.gflow_laws.proofs.LastLaws.{Distinct-front}
use Rattle.gflow_laws.proofs.OutputLaws.{is_in-row_added}
use Rattle.open_graph.specs.VertexSets.{VertexSet}
use Rattle.zx_flow.specs.VertexSets.{no_set, set_at, SameSetsBut, AreToggledAt}
use Rattle.zx_extract.specs.Internal.Holders.{holds, holders_of, table_from, IsOrdered}

-- where members are toggled in the set at a number, those stand in the sets of others
pub toggled_at : {old new : List VertexSet} {c : ℕ} {members : List ℕ} → AreToggledAt c members old new → (s v : ℕ) →
    holds new s v ≡ xor (holds old s v) (member v members && eqb s c)
toggled_at {old} {new} {c} {members} toggled s v =
    by_equal s c
    (λ e same. ap (λ u. holds new u v) same ∙ toggled.own v ∙ ap (λ u. xor (holds old u v) (member v members)) (sym same)
    ∙ ap (xor (holds old s v)) (sym (ap (λ b. member v members && b) e ∙ and-true (member v members))))
    (λ f apart. ap (member v) (toggled.others s f)
    ∙ sym (ap (λ b. xor (holds old s v) (member v members && b)) f ∙ ap (xor (holds old s v)) (and-false (member v members))
    ∙ xor-false (holds old s v)))

-- x stands in no set any more
abbrev pub IsCleared : ℕ → List VertexSet → List VertexSet → Type 0
IsCleared x old new = (set_at new x ≡ []) × SameSetsBut x old new

cleared_at : (old new : List VertexSet) (x : ℕ) → IsCleared x old new → (s v : ℕ) → holds new s v ≡ (holds old s v && different x s)
cleared_at old new x cleared s v =
    by_equal s x
    (λ e same. ap (λ u. holds new u v) same ∙ ap (member v) cleared.0
    ∙ sym (ap (λ b. holds old s v && not b) (eqb_comm x s ∙ e) ∙ and-false (holds old s v)))
    (λ f apart. ap (member v) (cleared.1 s f) ∙ sym (ap (λ b. holds old s v && not b) (eqb_comm x s ∙ f) ∙ and-true (holds old s v)))

member-range : (n a s : ℕ) → a ≤ s → s < a + n → member s (range_with_len a n) ≡ true
member-range zero a s low high = absurd (omega arith)
member-range (suc n) a s low high =
    by_equal s a (λ t e. rw t refl) (λ f apart. rw f (member-range n (a + 1) s (omega arith) (omega arith)))

-- those who stand in the set of v are its members
pub member-holders_of : (lists : List VertexSet) (place s : ℕ) →
    member s (holders_of lists place) ≡ holds lists s place
member-holders_of lists place s =
    member-filter (λ u. holds lists u place) (range_with_len 0 (length lists)) s
    ∙ by_test (ltb s (length lists)) (λ t. within (ltb-true s (length lists) t))
    (λ f. past (ltb-false s (length lists) f))
  where
    within : s < length lists →
        (member s (range_with_len 0 (length lists)) && holds lists s place) ≡ holds lists s place
    within lt = ap (λ b. b && holds lists s place) (member-range (length lists) 0 s (omega arith) (omega arith))

    past : length lists ≤ s →
        (member s (range_with_len 0 (length lists)) && holds lists s place) ≡ holds lists s place
    past le =
        let none : holds lists s place ≡ false = ap (λ (l : VertexSet). member place l.ids) (get_or_past lists s no_set le) in
        ap (λ b. member s (range_with_len 0 (length lists)) && b) none
        ∙ and-false (member s (range_with_len 0 (length lists))) ∙ sym none

pub order_of-table_from : (lists : List VertexSet) (order : List ℕ) → order_of (table_from lists order) ≡ order
order_of-table_from lists [] = refl
order_of-table_from lists (v ∷ vs) = ap (λ r. v ∷ r) (order_of-table_from lists vs)

-- sets that change alike
SameSets-changed : (old new : List VertexSet) (change : List ℕ → List ℕ) (order : List ℕ) →
    ((v w : ℕ) → member w (holders_of new v) ≡ member w (change (holders_of old v))) →
    SameSets (table_from new order) (with_sets (λ v members. change members) (table_from old order))
SameSets-changed old new change order same =
    record {
      order = order_of-table_from new order
          ∙ sym (order_of-with_sets (λ v members. change members) (table_from old order) ∙ order_of-table_from old order);
      members = at order;
    }
  where
    at : (vs : List ℕ) (v w : ℕ) →
        is_in (set_of (table_from new vs) v) w ≡
        is_in (set_of (with_sets (λ u members. change members) (table_from old vs)) v) w
    at [] v w = refl
    at (x ∷ xs) v w = by_test (eqb v x) (λ t. rw t (same x w)) (λ f. rw f (at xs v w))

pub SameSets-toggled : (old new : List VertexSet) (c t : ℕ) (order : List ℕ) → AreToggledAt c (set_at old t) old new →
    SameSets (table_from new order) (row_added_table c t (table_from old order))
SameSets-toggled old new c t order toggled =
    SameSets-changed old new (row_added_set c t) order
    (λ p w. member-holders_of new p w ∙ toggled_at toggled w p
    ∙ ap₂ (λ a b. xor a (b && eqb w c)) (sym (member-holders_of old p w)) (sym (member-holders_of old p t))
    ∙ sym (is_in-row_added c t (holders_of old p) w))

-- the last entry of the table, and those before it
pub record Cut (lists : List VertexSet) (order : List ℕ) (before : List Correction) (e : Correction) : Type 0 where
  pub some : 0 < length order
  pub front : before ≡ table_from lists (take (length order - 1) order)
  pub vertex : e.vertex ≡ get_or order (length order - 1) 0
  pub members : (s : ℕ) → is_in e.members s ≡ holds lists s e.vertex

table_from-append : (lists : List VertexSet) (vs : List ℕ) (v : ℕ) →
    table_from lists (vs ++ v ∷ []) ≡ table_from lists vs ++ record { vertex = v; members = holders_of lists v } ∷ []
table_from-append lists [] v = refl
table_from-append lists (x ∷ xs) v =
    ap (λ r. record { vertex = x; members = holders_of lists x } ∷ r) (table_from-append lists xs v)

split_last : (order : List ℕ) → 0 < length order →
    order ≡ take (length order - 1) order ++ get_or order (length order - 1) 0 ∷ []
split_last order some =
    sym (sym (take-suc order (length order - 1) 0 (omega arith))
    ∙ take_all (suc (length order - 1)) order (omega arith))

pub last_entry : (lists : List VertexSet) (order : List ℕ) → 0 < length order →
    table_from lists order ≡
    table_from lists (take (length order - 1) order) ++ record {
      vertex = get_or order (length order - 1) 0;
      members = holders_of lists (get_or order (length order - 1) 0);
    } ∷ []
last_entry lists order some =
    ap (table_from lists) (split_last order some)
    ∙ table_from-append lists (take (length order - 1) order) (get_or order (length order - 1) 0)

pub cut : (lists : List VertexSet) (order : List ℕ) (before : List Correction) (e : Correction) →
    table_from lists order ≡ before ++ e ∷ [] → Cut lists order before e
cut lists [] before e is = absurd (nothing before is)
  where
    nothing : (es : List Correction) → [] ≡ es ++ e ∷ [] → ⊥
    nothing [] h = cc
    nothing (x ∷ xs) h = cc
cut lists (v ∷ vs) before e is =
    let parts = same_from_push _ _ _ _ (sym is ∙ last_entry lists (v ∷ vs) (omega arith)) in
    let vertex : e.vertex ≡ get_or (v ∷ vs) (length (v ∷ vs) - 1) 0 = ap (λ (c : Correction). c.vertex) parts.1 in
    record {
      some = omega arith;
      front = parts.0;
      vertex = vertex;
      members = λ s. ap (λ (c : Correction). member s c.members) parts.1
          ∙ member-holders_of lists (get_or (v ∷ vs) (length (v ∷ vs) - 1) 0) s ∙ ap (holds lists s) (sym vertex);
    }

pub last_known : (lists : List VertexSet) (order : List ℕ) (r : Option ℕ) → r ≡ slice_get order (length order - 1) →
    IfSome r (λ v. (before : List Correction) × (e : Correction) × (table_from lists order ≡
    before ++ e ∷ []) × (e.vertex ≡ v))
last_known lists [] r is = rw is tt
last_known lists (x ∷ xs) r is =
    rw (is ∙ slice_get-get_or (x ∷ xs) (length (x ∷ xs) - 1) 0 (omega arith)) (
      table_from lists (take (length (x ∷ xs) - 1) (x ∷ xs)),
      record {
        vertex = get_or (x ∷ xs)
            (length (x ∷ xs) - 1) 0;
        members = holders_of lists (get_or (x ∷ xs) (length (x ∷ xs) - 1) 0);
      },
      last_entry lists (x ∷ xs) (omega arith),
      refl,
    )

-- the sets of those before, after x went from all
pub SameSets-advanced : (old new : List VertexSet) (order : List ℕ) (x : ℕ) (before : List Correction)
    (e : Correction) → IsCleared x old new → Cut old order before e →
    SameSets (table_from new (take (length order - 1) order)) (advanced_table x before)
SameSets-advanced old new order x before e cleared at =
    subst (λ b. SameSets (table_from new (take (length order - 1) order)) (advanced_table x b)) (sym at.front)
    (SameSets-changed old new (filter (different x)) (take (length order - 1) order)
    (λ p w. member-holders_of new p w ∙ cleared_at old new x cleared w p ∙ ap (λ b. b && different x w) (sym (member-holders_of old p w))
    ∙ sym (member-filter (different x) (holders_of old p) w)))

-- the order cut at its last vertex, which has no set any more
module _ (old new : List VertexSet) (order : List ℕ) (before : List Correction) (e : Correction) (ordered : IsOrdered order old)
    (at : Cut old order before e) where
  ordered_front : ((s v : ℕ) → holds new s v ≡ true → member v order ≡ true) → ((s : ℕ) → holds new s e.vertex ≡ false) →
      IsOrdered (take (length order - 1) order) new
  ordered_front there gone =
      record {
        each_once = parts.0;
        within = λ s v h.
            by_equal v e.vertex (λ t same. absurd (true≢false (sym h ∙ ap (holds new s) same ∙ gone s)))
            (λ f apart. in_front v f (there s v h));
      }
    where
      front : List ℕ
      front = take (length order - 1) order

      split : order ≡ front ++ e.vertex ∷ []
      split = split_last order at.some ∙ ap (λ u. front ++ u ∷ []) (sym at.vertex)

      parts : Distinct front × (member e.vertex front ≡ false)
      parts = Distinct-front front e.vertex (subst Distinct split ordered.each_once)

      in_front : (v : ℕ) → eqb v e.vertex ≡ false → member v order ≡ true → member v front ≡ true
      in_front v f there_too =
          sym (or-false (member v front)) ∙ ap (λ b. member v front || (b || false)) (sym f)
          ∙ sym (member-append v front (e.vertex ∷ [])) ∙ ap (member v) (sym split) ∙ there_too

-- where the last set has x alone
pub ordered_advanced : (old new : List VertexSet) (order : List ℕ) (x : ℕ) (before : List Correction)
    (e : Correction) → IsCleared x old new → IsOrdered order old →
    Cut old order before e → ((y : ℕ) → is_in e.members y ≡ eqb y x) → IsOrdered (take (length order - 1) order) new
ordered_advanced old new order x before e cleared ordered at alone =
    ordered_front old new order before e ordered at
    (λ s v h. ordered.within s v (and-left _ _ (sym (cleared_at old new x cleared s v) ∙ h)))
    (λ s. cleared_at old new x cleared s e.vertex ∙ ap (λ b. b && different x s) (sym (at.members s) ∙ alone s ∙ eqb_comm s x) ∙ off (eqb x s))
  where
    off : (b : Bool) → (b && not b) ≡ false
    off true = refl
    off false = refl

-- in the sets that have v these members are toggled
abbrev pub IsRemoved : ℕ → List ℕ → List VertexSet → List VertexSet → Type 0
IsRemoved v members old new = (s p : ℕ) → holds new s p ≡ xor (holds old s p) (holds old v p && is_in members s)

is_in-removed : (v : ℕ) (toggled members : List ℕ) (w : ℕ) →
    is_in (cond (is_in members v) (symmetric_difference members toggled) members) w ≡
    xor (is_in members w) (is_in members v && is_in toggled w)
is_in-removed v toggled members w = at (is_in members v)
  where
    at : (b : Bool) → is_in (cond b (symmetric_difference members toggled) members) w ≡
        xor (is_in members w) (b && is_in toggled w)
    at true = is_in-symmetric_difference members toggled w
    at false = sym (xor-false (is_in members w))

pub SameSets-removed : (old new : List VertexSet) (order : List ℕ) (before : List Correction) (e : Correction) →
    IsRemoved e.vertex e.members old new → Cut old order before e →
    SameSets (table_from new (take (length order - 1) order)) (last_removed_table e before)
SameSets-removed old new order before e removed at =
    subst (λ b. SameSets (table_from new (take (length order - 1) order)) (last_removed_table e b)) (sym at.front)
    (SameSets-changed old new
    (λ members. cond (is_in members e.vertex) (symmetric_difference members e.members) members)
    (take (length order - 1) order)
    (λ p w. member-holders_of new p w ∙ removed w p
    ∙ ap₂ (λ a b. xor a (b && is_in e.members w)) (sym (member-holders_of old p w))
    (sym (member-holders_of old p e.vertex)) ∙ sym (is_in-removed e.vertex e.members (holders_of old p) w)))

either : {P : Type 0} (a b m : Bool) → (a ≡ true → P) → (b ≡ true → P) → xor a (b && m) ≡ true → P
either true b m here there h = here refl
either false true m here there h = there refl
either false false m here there h = absurd (true≢false (sym h))

-- where the last vertex is in its own set
ordered_removed : (old new : List VertexSet) (order : List ℕ) (before : List Correction) (e : Correction) →
    IsRemoved e.vertex e.members old new → IsOrdered order old →
    Cut old order before e → is_in e.members e.vertex ≡ true → IsOrdered (take (length order - 1) order) new
ordered_removed old new order before e removed ordered at own =
    ordered_front old new order before e ordered at
    (λ s v h. either (holds old s v) (holds old e.vertex v) (is_in e.members s) (ordered.within s v)
    (ordered.within e.vertex v) (sym (removed s v) ∙ h))
    (λ s. removed s e.vertex
    ∙ ap₂ (λ a b. xor a (b && is_in e.members s)) (sym (at.members s)) (sym (at.members e.vertex) ∙ own)
    ∙ xor-same (is_in e.members s))

-- a bit that is toggled by another, where v's own goes
gone : (own linked h hv : Bool) → (own ≡ true → h ≡ hv) →
    (xor h (hv && linked) && not own) ≡ xor h (hv && (own || linked))
gone true linked h hv same = and-false (xor h (hv && linked))
    ∙ sym (ap (λ b. xor h (b && true)) (sym (same refl)) ∙ ap (xor h) (and-true h) ∙ xor-same h)
gone false linked h hv same = and-true (xor h (hv && linked))

pub removed_linked : (old mid new : List VertexSet) (x v : ℕ) (members : List ℕ) → AreToggledAt x (set_at old v) old mid →
    IsCleared v mid new → ((y : ℕ) → is_in members y ≡ (eqb y v || eqb y x)) → IsRemoved v members old new
removed_linked old mid new x v members toggled cleared both s p =
    cleared_at mid new v cleared s p ∙ ap₂ (λ a b. a && not b) (toggled_at toggled s p) (eqb_comm v s)
    ∙ gone (eqb s v) (eqb s x) (holds old s p) (holds old v p) (λ t. ap (λ u. holds old u p) (eqb-true s v t))
    ∙ ap (λ b. xor (holds old s p) (holds old v p && b)) (sym (both s))

pub removed_alone : (old new : List VertexSet) (v : ℕ) (members : List ℕ) → IsCleared v old new →
    ((y : ℕ) → is_in members y ≡ eqb y v) → IsRemoved v members old new
removed_alone old new v members cleared alone s p =
    cleared_at old new v cleared s p ∙ ap₂ (λ a b. a && not b) (sym (ap (xor (holds old s p)) (and-false (holds old v p))
    ∙ xor-false (holds old s p))) (eqb_comm v s)
    ∙ gone (eqb s v) false (holds old s p) (holds old v p) (λ t. ap (λ u. holds old u p) (eqb-true s v t))
    ∙ ap (λ b. xor (holds old s p) (holds old v p && b)) (or-false (eqb s v) ∙ sym (alone s))

-- the sets and the order after the last vertex of a table went
pub record Taken (new : List VertexSet) (rest : List ℕ) (table : List Correction) : Type 0 where
  pub ordered : IsOrdered rest new
  pub sets : (before : List Correction) (e : Correction) → table ≡ before ++ e ∷ [] →
      SameSets (table_from new rest) (last_removed_table e before)

module _ {old new : List VertexSet} {order rest : List ℕ} {table : List Correction} (v : ℕ)
    (is : order ≡ rest ++ v ∷ []) (ordered : IsOrdered order old) (seen : table_from old order ≡ table) where
  taken : (before : List Correction) (e : Correction) → table ≡ before ++ e ∷ [] →
      is_in e.members e.vertex ≡ true → (e.vertex ≡ v → IsRemoved e.vertex e.members old new) → Taken new rest table
  taken before e split own removed = record {
    ordered = subst (λ l. IsOrdered l new) (sym parts.0) (ordered_removed old new order before e gone_now ordered at own);
    sets = λ front d split'.
        let same = same_from_push before front e d (sym split ∙ split') in
        subst (SameSets (table_from new rest)) (ap₂ last_removed_table same.1 same.0)
        (subst (λ l. SameSets (table_from new l) (last_removed_table e before)) (sym parts.0)
        (SameSets-removed old new order before e gone_now at));
  }
    where
      parts : (rest ≡ take (length order - 1) order) × (v ≡ get_or order (length order - 1) 0)
      parts = same_from_push _ _ _ _ (sym is ∙ split_last order (omega (arith, ap length is ∙ length_push rest v)))

      at : Cut old order before e
      at = cut old order before e (seen ∙ split)

      gone_now : IsRemoved e.vertex e.members old new
      gone_now = removed (at.vertex ∙ sym parts.1)

  pub taken_alone : (before : List Correction) × (e : Correction) × (table ≡ before ++ e ∷ [])
      × ((y : ℕ) → is_in e.members y ≡ eqb y e.vertex) → IsCleared v old new → Taken new rest table
  taken_alone (before, e, split, alone) cleared = taken before e split (alone e.vertex ∙ eqb-self e.vertex)
      (λ same. removed_alone old new e.vertex e.members (subst (λ u. IsCleared u old new) (sym same) cleared) alone)

  pub taken_linked : {mid : List VertexSet} {x : ℕ} → (before : List Correction) × (e : Correction)
      × (table ≡ before ++ e ∷ []) × ((y : ℕ) → is_in e.members y ≡ (eqb y e.vertex || eqb y x)) →
      AreToggledAt x (set_at old v) old mid → IsCleared v mid new → Taken new rest table
  taken_linked {mid} {x} (before, e, split, linked) toggled cleared = taken before e split
      (linked e.vertex ∙ ap (λ b. b || eqb e.vertex x) (eqb-self e.vertex))
      (λ same. removed_linked old mid new x e.vertex e.members (subst (λ u. AreToggledAt x (set_at old u) old mid) (sym same) toggled)
      (subst (λ u. IsCleared u mid new) (sym same) cleared) linked)

-- the order cut at its last vertex
pub cut_last : (order rest : List ℕ) (v : ℕ) → Some v ≡ slice_get order (length order - 1) →
    rest ≡ take (length order - 1) order → order ≡ rest ++ v ∷ []
cut_last order rest v last front =
    split_last order (omega (arith, slice_get_within order (length order - 1) v (sym last)))
    ∙ ap₂ (λ l u. l ++ u ∷ []) (sym front) (get_or_from_slice_get order (length order - 1) v 0 (sym last))
