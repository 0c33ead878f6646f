-- What calls on sets by number are as changes of the table.
use Rattle.std.proofs.Common.{◌≡◌, sym, ◌∙◌, ap, ap₂, subst, ℕ, ◌<◌, ◌≤◌, Bool, true, false, inl, inr, true≢false, List, [], ◌∷◌, ◌++◌, ◌||◌, eqb, length, arith}
use Rattle.std.specs.Prelude.{Result, Ok, Err, OnErr}
use Rattle.zx_model.specs.Bits.{xor, member}
use Rattle.zx_calculus.proofs.Booleans.{or-false, or_comm}
use Rattle.zx_calculus.proofs.Ids.{by_test, by_equal}
use Rattle.gflow_laws.specs.Flow.{Correction, order_of, set_of, SameSets}
use Rattle.gflow_laws.proofs.Lists.{Distinct-append, member-append}
use Rattle.gflow_laws.proofs.Tables.{set_of-outside}
use Rattle.open_graph.specs.VertexSets.{VertexSet}
use Rattle.zx_bits.specs.Sets.{IsBelow}
use Rattle.open_graph.specs.Rooms.{Room}
use Rattle.zx_flow.specs.Flows.{IsNamed}
use Rattle.zx_flow.specs.Changes.{set_toggled}
use Rattle.zx_flow.specs.VertexSets.{set_at, SameSetsAt, SameSetsBut, AreToggledAt}
use Rattle.zx_flow.specs.Internal.Sets.{Corrections, table_of, HoldsOnce}
use Rattle.zx_flow.proofs.MemberLemmas.{SameSets-toggled}
use Rattle.zx_flow.proofs.SetLemmas.{order_of-table_of, set_of-table_of, table_of-same, table_of-changed, table_of-append, table_of-fresh}

-- what is seen of an order with sets
abbrev pub view_of : List VertexSet → List ℕ → Room → Corrections
view_of sets order room = record { table = table_of sets order; room = room }

module _ {old : List VertexSet} {order : List ℕ} {room : Room} {seen : Corrections} (holds : HoldsOnce old order) (is : view_of old order room ≡ seen) where
  -- what stands in the order of the table
  pub listed : (v : ℕ) (b : Bool) → member v (order_of seen.table) ≡ b → member v order ≡ b
  listed v b h = ap (member v) (sym (order_of-table_of old order) ∙ ap (λ (k : Corrections). order_of k.table) is) ∙ h

  -- it has a place
  pub within : (v : ℕ) → member v (order_of seen.table) ≡ true → v < length old
  within v there = holds.within v (listed v true there)

  pub set_told : (v : ℕ) → member v (order_of seen.table) ≡ true → set_at old v ≡ set_of seen.table v
  set_told v there = sym (set_of-table_of old order v (listed v true there)) ∙ ap (λ (k : Corrections). set_of k.table v) is

  pub same_table : (new : List VertexSet) → SameSetsAt old new → table_of new order ≡ seen.table
  same_table new same = table_of-same old new order (λ p h. same p) ∙ ap (λ (k : Corrections). k.table) is

  pub toggled_table : (new : List VertexSet) (v : ℕ) (members : List ℕ) → member v (order_of seen.table) ≡ true → AreToggledAt v members old new →
      SameSets (table_of new order) (set_toggled v members seen.table)
  toggled_table new v members there toggled =
      subst (λ (k : Corrections). SameSets (table_of new order) (set_toggled v members k.table)) is
      (subst (λ e. SameSets e (set_toggled v members (table_of old order))) (sym (table_of-changed old new order v toggled.others))
      (SameSets-toggled (table_of old order) v (set_at new v) members
      (λ w. toggled.own w ∙ ap (λ l. xor (member w l) (member w members)) (sym (set_of-table_of old order v (listed v true there))))))

  -- a vertex that doesn't stand there
  pub fresh_table : (new : List VertexSet) (v : ℕ) → member v (order_of seen.table) ≡ false → SameSetsBut v old new → table_of new order ≡ seen.table
  fresh_table new v fresh but = table_of-fresh old new order v but (listed v false fresh) ∙ ap (λ (k : Corrections). k.table) is

  pub first_table : (new : List VertexSet) (v : ℕ) (members : List ℕ) → member v (order_of seen.table) ≡ false → SameSetsBut v old new → set_at new v ≡ members →
      table_of new (v ∷ order) ≡ record { vertex = v; members = members } ∷ seen.table
  first_table new v members fresh but own =
      ap₂ (λ (m : List ℕ) (r : List Correction). record { vertex = v; members = m } ∷ r) own (fresh_table new v fresh but)

  pub last_table : (new : List VertexSet) (v : ℕ) (members : List ℕ) → member v (order_of seen.table) ≡ false → SameSetsBut v old new → set_at new v ≡ members →
      table_of new (order ++ v ∷ []) ≡ seen.table ++ record { vertex = v; members = members } ∷ []
  last_table new v members fresh but own =
      table_of-append new order v
      ∙ ap₂ (λ (r : List Correction) (m : List ℕ). r ++ record { vertex = v; members = m } ∷ []) (fresh_table new v fresh but) own

  pub holds_first : (new : List VertexSet) (v : ℕ) → member v (order_of seen.table) ≡ false → length old ≤ length new → v < length new → HoldsOnce new (v ∷ order)
  holds_first new v fresh le lt = record {
    each_once = (listed v false fresh, holds.each_once);
    within = λ p h. by_equal p v (λ t e. subst (λ n. n < length new) (sym e) lt)
        (λ f n. let there : member p order ≡ true = rw f at h in let below : p < length old = holds.within p there in omega (arith, le, below));
  }

  pub holds_last : (new : List VertexSet) (v : ℕ) → member v (order_of seen.table) ≡ false → length old ≤ length new → v < length new → HoldsOnce new (order ++ v ∷ [])
  holds_last new v fresh le lt = record {
    each_once = Distinct-append order v holds.each_once (listed v false fresh);
    within = λ p h. (holds_first new v fresh le lt).within p
        (or_comm (eqb p v) (member p order) ∙ sym (ap (λ b. member p order || b) (or-false (eqb p v))) ∙ sym (member-append p order (v ∷ [])) ∙ h);
  }

  -- what is named lies below the end of the sets and of their members
  pub named_below : (end v : ℕ) → length old ≤ end → ((u : ℕ) → IsBelow end (set_at old u)) → IsNamed seen.table v → v < end
  named_below end v sets members (inl there) = let below = within v there in omega (arith, below, sets)
  named_below end v sets members (inr some) =
      by_test (member some.0 (order_of seen.table))
      (λ there. members some.0 v (ap (member v) (set_told some.0 there) ∙ some.1))
      (λ out. absurd (true≢false (sym some.1 ∙ ap (member v) (set_of-outside seen.table some.0 out))))

-- what holds at any error
pub at_err : {T E P : Type 0} (r : Result T E) → P → OnErr r P
at_err (Ok x) h = tt
at_err (Err e) h = h
