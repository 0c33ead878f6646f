-- The last correction of a table.
use Rattle.std.proofs.Common.{◌≡◌, refl, sym, ◌∙◌, ap, ap₂, subst, ℕ, suc, false, ◌&&◌, eqb, List, [], ◌∷◌, ◌++◌, ◌+◌, length, length-append}
use Rattle.zx_model.specs.Bits.{xor, member}
use Rattle.zx_calculus.specs.Graph.{Distinct}
use Rattle.gflow_laws.specs.Flow.{Correction, order_of, set_of, is_in, SameSets}
use Rattle.gflow_laws.specs.Outputs.{row_added_table}
use Rattle.gflow_laws.proofs.Tables.{order_of-append, set_of-last}
use Rattle.gflow_laws.proofs.OutputLaws.{is_in-row_added}
use Rattle.gflow_laws.proofs.LastLaws.{Distinct-front}
use Rattle.zx_extract.specs.Internal.Lists.{last_set}
use Rattle.zx_extract.specs.Internal.Steps.{HasLast}

pub last_set-append : (pre : List Correction) (e : Correction) (w : ℕ) → last_set (pre ++ e ∷ []) w ≡ is_in e.members w
last_set-append [] e w = refl
last_set-append (d ∷ []) e w = refl
last_set-append (d ∷ (c ∷ cs)) e w = last_set-append (c ∷ cs) e w

pub last_set-entry : (table : List Correction) (v : ℕ) (last : HasLast table v) (w : ℕ) →
    last_set table w ≡ is_in last.entry.members w
last_set-entry table v last w = ap (λ t. last_set t w) last.split ∙ last_set-append last.before last.entry w

pub last_set-row_added : (c t : ℕ) (table : List Correction) (w : ℕ) →
    last_set (row_added_table c t table) w ≡ xor (last_set table w) (last_set table t && eqb w c)
last_set-row_added c t [] w = refl
last_set-row_added c t (e ∷ []) w = is_in-row_added c t e.members w
last_set-row_added c t (d ∷ (e ∷ es)) w = last_set-row_added c t (e ∷ es) w

-- an order with a last vertex is that of a table with a last correction
split_last : (table : List Correction) (before : List ℕ) (v : ℕ) → order_of table ≡ before ++ v ∷ [] → HasLast table v
split_last [] [] v e = cc
split_last [] (b ∷ bs) v e = cc
split_last (d ∷ []) [] v e = record { before = []; entry = d; split = refl; vertex = cc }
split_last (d ∷ []) (b ∷ []) v e = cc
split_last (d ∷ []) (b ∷ (c ∷ cs)) v e = cc
split_last (d ∷ (e ∷ es)) [] v h = cc
split_last (d ∷ (e ∷ es)) (b ∷ bs) v h =
    let rest : HasLast (e ∷ es) v = split_last (e ∷ es) bs v (cc) in
    record { before = d ∷ rest.before; entry = rest.entry; split = ap (λ t. d ∷ t) rest.split; vertex = rest.vertex }

pub keeps_last : (table other : List Correction) (v : ℕ) → order_of other ≡ order_of table → HasLast table v →
    HasLast other v
keeps_last table other v order last =
    split_last other (order_of last.before) v
    (order ∙ ap order_of last.split ∙ order_of-append last.before last.entry
    ∙ ap (λ x. order_of last.before ++ x ∷ []) last.vertex)

-- the last set by its vertex
last_set-vertex : (table : List Correction) (v : ℕ) → HasLast table v → Distinct (order_of table) → (w : ℕ) →
    last_set table w ≡ is_in (set_of table v) w
last_set-vertex table v last once w =
    last_set-entry table v last w
    ∙ ap (λ members. is_in members w) (sym (set_of-last last.before last.entry absent)
    ∙ ap₂ set_of (sym last.split) last.vertex)
  where
    absent : member last.entry.vertex (order_of last.before) ≡ false
    absent = (Distinct-front (order_of last.before) last.entry.vertex
        (subst Distinct (ap order_of last.split ∙ order_of-append last.before last.entry) once)).1

pub last_set-same : (table other : List Correction) (v : ℕ) → SameSets other table → HasLast table v →
    Distinct (order_of table) →
    (w : ℕ) → last_set other w ≡ last_set table w
last_set-same table other v same last once w =
    last_set-vertex other v (keeps_last table other v same.order last) (subst Distinct (sym same.order) once) w
    ∙ same.members v w ∙ sym (last_set-vertex table v last once w)

length-order : (table : List Correction) → length (order_of table) ≡ length table
length-order [] = refl
length-order (e ∷ es) = ap suc (length-order es)

pub as_long : (s t : List Correction) → order_of t ≡ order_of s → length t ≡ length s
as_long s t e = sym (length-order t) ∙ ap length e ∙ length-order s

-- a table with the order of all but the last
pub one_shorter : (table before all : List Correction) (e : Correction) → order_of table ≡ order_of before →
    all ≡ before ++ e ∷ [] → length table + 1 ≡ length all
one_shorter table before all e order split =
    ap (λ n. n + 1) (as_long before table order) ∙ sym (ap length split ∙ length-append before (e ∷ []))
