-- A table turned over vertex by vertex, and what the last vertex tells.
use Rattle.std.proofs.Common.{◌≡◌, refl, sym, ◌∙◌, ap, ap₂, ℕ, ◌+◌, ◌-◌, ◌<◌, Bool, true, ◌&&◌, eqb, List, [], ◌∷◌, ◌++◌, length, get_or, take, append-nil, add-one, true≢false, arith}
use Rattle.std.specs.Prelude.{Some, None, slice_get}
use Rattle.std.proofs.lemmas.List.{get_or_read}
use Rattle.std.proofs.lemmas.Option.{slice_get-get_or, get_or_from_slice_get}
use Rattle.zx_model.specs.Bits.{xor, member}
use Rattle.zx_calculus.specs.Graph.{Distinct}
use Rattle.zx_calculus.proofs.Booleans.{parities, or-false}
use Rattle.zx_calculus.proofs.Ids.{by_test, by_equal}
use Rattle.zx_calculus.proofs.Positions.{member-grown}
use Rattle.gflow_laws.specs.Flow.{Correction, order_of, set_of, is_in, SameSets}
use Rattle.gflow_laws.proofs.Tables.{set_of-outside}
use Rattle.open_graph.specs.VertexSets.{VertexSet}
use Rattle.open_graph.proofs.Walks.{member-toggled}
use Rattle.zx_flow.specs.VertexSets.{AreToggledAt}
use Rattle.zx_extract.specs.Internal.Holders.{holds, table_from}
use Rattle.zx_extract.proofs.HoldersTables.{toggled_at, cut, member-holders_of, order_of-table_from}

-- the sets of these vertices are turned over
abbrev pub IsTurned : List Correction → List ℕ → List VertexSet → Type 0
IsTurned table vs lists = (s v : ℕ) → holds lists s v ≡ (member v vs && member s (set_of table v))

-- these vertices, and of the set of v these members so far
abbrev pub IsTurning : List Correction → List ℕ → ℕ → List ℕ → List VertexSet → Type 0
IsTurning table vs v members lists = (s u : ℕ) → holds lists s u ≡ xor (member u vs && member s (set_of table u)) (eqb u v && member s members)

-- one member more
pub next_member : (table : List Correction) (vs before rest after members : List ℕ) (w v : ℕ) (now new : List VertexSet) →
    Distinct members → before ++ rest ≡ members → rest ≡ w ∷ after → IsTurning table vs v before now →
    AreToggledAt w (v ∷ []) now new → IsTurning table vs v (before ++ w ∷ []) new
next_member table vs before rest after members w v now new once all next turning more s u =
    toggled_at more s u ∙ ap₂ (λ a b. xor a (b && eqb s w)) (turning s u) (or-false (eqb u v))
    ∙ collected (member u vs && member s (set_of table u)) (eqb u v) (member s before) (eqb s w)
    ∙ ap (λ b. xor (member u vs && member s (set_of table u)) (eqb u v && b)) (sym (member-toggled before rest after members w s once all next))
  where
    collected : (h e m x : Bool) → xor (xor h (e && m)) (e && x) ≡ xor h (e && xor m x)
    collected h e m x = simp parities

-- all members of the next vertex
pub next_turned : (table : List Correction) (order : List ℕ) (i v : ℕ) (before rest set : List ℕ) (lists : List VertexSet) →
    Distinct order → i < length order → v ≡ get_or order i v → set ≡ set_of table v → before ++ rest ≡ set → rest ≡ [] →
    IsTurning table (take i order) v before lists → IsTurned table (take (i + 1) order) lists
next_turned table order i v before rest set lists once lt read is all none turning s u =
    turning s u ∙ ap (xor (member u (take i order) && member s (set_of table u))) own
    ∙ spread (member u (take i order)) (eqb u v) (member s (set_of table u))
    ∙ ap (λ b. b && member s (set_of table u)) (sym grown)
  where
    whole : before ≡ set
    whole = sym (append-nil before) ∙ sym (ap (λ xs. before ++ xs) none) ∙ all

    own : (eqb u v && member s before) ≡ (eqb u v && member s (set_of table u))
    own =
        by_equal u v (λ _ e. ap (λ l. eqb u v && member s l) (whole ∙ is ∙ ap (set_of table) (sym e)))
        (λ f _. rw f refl)

    grown : member u (take (i + 1) order) ≡ xor (member u (take i order)) (eqb u v)
    grown = rw add-one (member-grown order i u once lt
        ∙ ap (λ w. xor (member u (take i order)) (eqb u w)) (sym (get_or_read order i v lt read 0)))

    spread : (a e m : Bool) → xor (a && m) (e && m) ≡ (xor a e && m)
    spread a e m = simp parities

-- the table that was turned over
pub SameSets-turned : (table : List Correction) (lists : List VertexSet) → IsTurned table (order_of table) lists →
    SameSets (table_from lists (order_of table)) table
SameSets-turned table lists turned =
    record {
      order = order_of-table_from lists (order_of table);
      members = λ v w. by_test (member v (order_of table))
          (λ there. at (order_of table) v w there ∙ turned w v ∙ ap (λ b. b && member w (set_of table v)) there)
          (λ out. ap (member w)
          (set_of-outside (table_from lists (order_of table)) v
          (ap (member v) (order_of-table_from lists (order_of table)) ∙ out)
          ∙ sym (set_of-outside table v out)));
    }
  where
    at : (vs : List ℕ) (v w : ℕ) → member v vs ≡ true → is_in (set_of (table_from lists vs) v) w ≡ holds lists w v
    at [] v w there = absurd (true≢false (sym there))
    at (x ∷ xs) v w there =
        by_equal v x (λ t e. rw t (member-holders_of lists x w ∙ ap (holds lists w) (sym e)))
        (λ f n. let later : member v xs ≡ true = rw f at there in rw f (at xs v w later))

-- whether a vertex stands in the set of the last one
pub last_told : (lists : List VertexSet) (order : List ℕ) (s v : ℕ) (before : List Correction) (e : Correction) →
    Some v ≡ slice_get order (length order - 1) → table_from lists order ≡ before ++ e ∷ [] →
    holds lists s v ≡ is_in e.members s
last_told lists order s v before e is table =
    let at = cut lists order before e table in
    ap (holds lists s) (sym (get_or_from_slice_get order (length order - 1) v 0 (sym is)) ∙ sym at.vertex) ∙ sym (at.members s)

pub last_absent : (lists : List VertexSet) (order : List ℕ) (before : List Correction) (e : Correction) →
    None ≡ slice_get order (length order - 1) → table_from lists order ≡ before ++ e ∷ [] → ⊥
last_absent lists order before e is table =
    let some = slice_get-get_or order (length order - 1) 0 (let lt = (cut lists order before e table).some in omega (arith, lt)) in cc
