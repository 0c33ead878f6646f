-- What the rows in memory say of a matrix.
use Rattle.std.proofs.Common.{◌≡◌, ◌≢◌, sym, ◌∙◌, ap, subst, ℕ, ◌<◌, Bool, List, [], map, set, get_or, length, arith}
use Rattle.std.specs.List.{All}
use Rattle.std.proofs.lemmas.List.{map-set, get_or-map, get_or-set_other, length-map}
use Rattle.zx_bits.specs.Rows.{BitRow, BitMatrix, row_at}

-- rows in memory that are seen as those of a matrix
module _ (columns : ℕ) (items : List BitRow) (m : BitMatrix) (view_is : record { columns = columns; rows = map (λ row. row.bits) items } ≡ m) where
  pub count_is : length m.rows ≡ length items
  count_is = ap (λ n. length n.rows) (sym view_is) ∙ length-map items (λ row. row.bits)

  -- the row that is read at an index
  pub row_is : (r : ℕ) (row : BitRow) → r < length m.rows → row ≡ get_or items r row → row.bits ≡ row_at m r
  row_is r row lt read =
      ap (λ b. b.bits) read ∙ sym (get_or-map (λ b. b.bits) items r row [] (omega (arith, count_is))) ∙ ap (λ n. row_at n r) view_is

  pub row_size : All (λ row. length row.bits ≡ columns) items → (r : ℕ) → r < length m.rows → length (row_at m r) ≡ columns
  row_size all r lt =
      let none : BitRow = record { bits = [] } in
      ap (λ n. length (row_at n r)) (sym view_is) ∙ ap length (get_or-map (λ b. b.bits) items r none [] (omega (arith, count_is))) ∙ all r none (omega (arith, count_is))

  -- another row at an index
  pub view_set : (r : ℕ) (row : BitRow) (bits : List Bool) → row.bits ≡ bits → record { columns = columns; rows = map (λ b. b.bits) (set items r row) } ≡ record m { rows = set m.rows r bits }
  view_set r row bits e =
      let seen : List (List Bool) → BitMatrix = λ rows. record { columns = columns; rows = rows } in
      let put : BitMatrix → BitMatrix = λ n. record n { rows = set n.rows r bits } in
      ap seen (map-set (λ b. b.bits) items r row ∙ ap (set (map (λ b. b.bits) items) r) e)
      ∙ ap put view_is

-- a row at an index, while another one is away
pub other_row : (items : List BitRow) (from to : ℕ) (away row : BitRow) → from ≢ to → row ≡ get_or (set items to away) from row → row ≡ get_or items from row
other_row items from to away row apart read = read ∙ get_or-set_other items to from away row apart

pub read_as : (items : List BitRow) (i : ℕ) (read row : BitRow) → row ≡ read → read ≡ get_or items i read → row ≡ get_or items i row
read_as items i read row same e = subst (λ (b : BitRow). b ≡ get_or items i b) (sym same) e
