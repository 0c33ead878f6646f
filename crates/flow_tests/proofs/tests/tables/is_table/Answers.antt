-- The order holds what it has to, and the sets hold vertices.
use Rattle.std.proofs.Common.{◌≡◌, ◌∙◌, refl, sym, ap, subst, List, ℕ, Bool, true, false, not, ◌&&◌, ◌||◌, true≢false}
use Rattle.std.specs.List.{list_all}
use Rattle.zx_model.specs.Bits.{member}
use Rattle.zx_model.proofs.BitLemmas.{and-left, and-right}
use Rattle.zx_calculus.specs.Graph.{Distinct}
use Rattle.zx_calculus.proofs.Edits.{list_all-weaker}
use Rattle.zx_calculus.proofs.Kept.{all_by}
use Rattle.zx_calculus.proofs.Splitting.{all_at}
use Rattle.gflow_laws.specs.Seen.{Seen, seen}
use Rattle.gflow_laws.specs.Flow.{Correction, order_of, set_of, IsTableOf}
use Rattle.gflow_laws.proofs.Lists.{in_order-from}
use Rattle.flow_tests.specs.Tables.{is_non_output, is_entry, is_placed}
use Rattle.flow_tests.proofs.tests.tables.is_table.Goals as goal

either : (there output listed : Bool) → there ≡ true → (not (there && not output) || listed) ≡ true → (output || listed) ≡ true
either true true listed is e = refl
either true false listed is e = e
either false output listed is e = absurd (true≢false (sym is))

module _ (s : Seen) (table : List Correction) (order : List ℕ) (lists : order ≡ order_of table) where
  abbrev holds : ℕ → Bool
  holds v = list_all (λ w. member w s.ids) (set_of table v)

  is_table : Distinct (order_of table) → list_all (is_entry s table) order ≡ true → list_all (is_placed s order) s.ids ≡ true → IsTableOf s table
  is_table differ entries placed =
      let all : list_all (is_entry s table) (order_of table) ≡ true = ap (list_all (is_entry s table)) (sym lists) ∙ entries in
      record {
        each_once = in_order-from (order_of table) differ;
        no_others = list_all-weaker (is_entry s table) (is_non_output s) (order_of table)
            (λ v e. and-left (is_non_output s v) (holds v) (and-right (member v (order_of table)) (is_non_output s v && holds v) e)) all;
        all_there = subst (λ (l : List ℕ). list_all (λ v. s.output v || member v l) s.ids ≡ true) lists
            (all_by (λ v. s.output v || member v order) s.ids
            (λ v there. either (member v s.ids) (s.output v) (member v order) there (all_at (is_placed s order) s.ids v placed there)));
        vertices = list_all-weaker (is_entry s table) holds (order_of table)
            (λ v e. and-right (is_non_output s v) (holds v) (and-right (member v (order_of table)) (is_non_output s v && holds v) e)) all;
      }

pub returns : goal.returns
returns c = λ held.
    is_table (seen c.args.graph.now.graph) c.args.table.now.table c.order-order.result.now c.order-order.ensures.value c.order-order.ensures.valid
    (sym c.are_entries.ensures ∙ c.if-not-are_entries.false) (sym c.are_placed.ensures ∙ held)
