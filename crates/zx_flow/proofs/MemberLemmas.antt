-- Tables with equal sets, and parities of neighbours in a set.
use Rattle.std.proofs.Common.{◌≡◌, refl, sym, ◌∙◌, ap, ℕ, suc, ◌-◌, ◌%◌, Bool, false, cond, not, ◌&&◌, eqb, List, [], ◌∷◌, ◌++◌, length, get_or, take, take_all, filter, ltb, true, arith}
use Rattle.std.specs.Prelude.{count_by, Option, Some, IfSome, IfNone, slice_get}
use Rattle.std.proofs.lemmas.List.Sums.{length-filter}
use Rattle.std.proofs.lemmas.Option.{slice_get-get_or}
use Rattle.std.proofs.Math.Seq.{take-suc}
use Rattle.zx_model.specs.Bits.{xor, member}
use Rattle.zx_calculus.specs.Parity.{masked}
use Rattle.zx_calculus.specs.Graph.{Graph, ids, joined, neighbours, in_order, WellFormed}
use Rattle.zx_calculus.proofs.Ids.{by_test, by_equal, member-filter}
use Rattle.zx_calculus.proofs.Booleans.{and_comm}
use Rattle.zx_calculus.proofs.Extensionality.{rising_ext, in_order-filter}
use Rattle.zx_calculus.proofs.Toggling.{member-neighbours}
use Rattle.gflow_laws.specs.Flow.{Correction, order_of, set_of, is_in, SameSets}
use Rattle.gflow_laws.specs.Tables.{symmetric_difference, with_sets}
use Rattle.zx_calculus.proofs.Splitting.{joined-absent}
use Rattle.gflow_laws.proofs.Linear.{masked-none}
use Rattle.gflow_laws.proofs.Lists.{is_in-symmetric_difference}
use Rattle.gflow_laws.proofs.Tables.{order_of-append, order_of-with_sets, set_of-with_sets, set_of-outside}
use Rattle.zx_flow.specs.Changes.{set_toggled}

pub SameSets-last : (table : List Correction) (v : ℕ) (set members : List ℕ) → ((w : ℕ) → is_in set w ≡ is_in members w) →
    SameSets (table ++ record { vertex = v; members = set } ∷ []) (table ++ record { vertex = v; members = members } ∷ [])
SameSets-last table v set members same = record { order = order_of-append table (record { vertex = v; members = set }) ∙ sym (order_of-append table (record { vertex = v; members = members })); members = at table }
  where
    at : (es : List Correction) (u w : ℕ) → is_in (set_of (es ++ record { vertex = v; members = set } ∷ []) u) w ≡ is_in (set_of (es ++ record { vertex = v; members = members } ∷ []) u) w
    at [] u w = by_test (eqb u v) (λ t. rw t (same w)) (λ f. rw f refl)
    at (e ∷ es) u w = by_test (eqb u e.vertex) (λ t. rw t refl) (λ f. rw f (at es u w))

-- what becomes of the sets where one is put in for that of v, and where some are toggled in it
abbrev put : ℕ → List ℕ → ℕ → List ℕ → List ℕ
put v set u old = cond (eqb u v) set old

abbrev toggle : ℕ → List ℕ → ℕ → List ℕ → List ℕ
toggle v members u old = cond (eqb u v) (symmetric_difference old members) old

pub SameSets-toggled : (table : List Correction) (v : ℕ) (set members : List ℕ) → ((w : ℕ) → is_in set w ≡ xor (is_in (set_of table v) w) (is_in members w)) →
    SameSets (with_sets (put v set) table) (set_toggled v members table)
SameSets-toggled table v set members toggled = record { order = order_of-with_sets (put v set) table ∙ sym (order_of-with_sets (toggle v members) table); members = at }
  where
    at_set : (u w : ℕ) → is_in (put v set u (set_of table u)) w ≡ is_in (toggle v members u (set_of table u)) w
    at_set u w = by_equal u v
        (λ t e. rw t (toggled w ∙ ap (λ x. xor (is_in (set_of table x) w) (is_in members w)) (sym e) ∙ sym (is_in-symmetric_difference (set_of table u) members w))) (λ f n. rw f refl)

    at : (u w : ℕ) → is_in (set_of (with_sets (put v set) table) u) w ≡ is_in (set_of (with_sets (toggle v members) table) u) w
    at u w = by_test (member u (order_of table))
        (λ there. ap (member w) (set_of-with_sets (put v set) table u there) ∙ at_set u w ∙ sym (ap (member w) (set_of-with_sets (toggle v members) table u there)))
        (λ out. ap (member w) (set_of-outside (with_sets (put v set) table) u (ap (member u) (order_of-with_sets (put v set) table) ∙ out))
        ∙ sym (ap (member w) (set_of-outside (with_sets (toggle v members) table) u (ap (member u) (order_of-with_sets (toggle v members) table) ∙ out))))

-- the parity of a number, one higher
parity-suc : (k : ℕ) → eqb (suc k % 2) 1 ≡ not (eqb (k % 2) 1)
parity-suc k = grind arith

parity-length : (near set : ℕ → Bool) (vs : List ℕ) → eqb (length (filter set (filter near vs)) % 2) 1 ≡ masked near vs set
parity-length near set [] = refl
parity-length near set (v ∷ vs) =
    by_test (near v)
    (λ n. rw n (by_test (set v) (λ s. rw s (parity-suc (length (filter set (filter near vs))) ∙ ap not (parity-length near set vs))) (λ f. rw f (parity-length near set vs))))
    (λ n. rw n (parity-length near set vs))

-- the parity of the number of members that are neighbours
pub parity-common : (g : Graph) (w : ℕ) (near set : List ℕ) → WellFormed g → in_order ltb set ≡ true → ((p : ℕ) → member p near ≡ joined g.edges w p) →
    eqb (count_by (λ p. member p near) set % 2) 1 ≡ masked (joined g.edges w) (ids g.vertices) (is_in set)
parity-common g w near set formed rising tells =
    ap (λ k. eqb (k % 2) 1) (sym (length-filter (λ p. member p near) set) ∙ ap length same)
    ∙ parity-length (joined g.edges w) (is_in set) (ids g.vertices)
  where
    same : filter (λ p. member p near) set ≡ filter (is_in set) (neighbours g w)
    same =
        rising_ext _ _ (in_order-filter (λ p. member p near) set rising)
        (in_order-filter (is_in set) (neighbours g w) (in_order-filter (joined g.edges w) (ids g.vertices) formed.vertices_rising))
        (λ p. member-filter (λ q. member q near) set p ∙ and_comm (member p set) (member p near)
        ∙ ap (λ b. b && member p set) (tells p ∙ sym (member-neighbours g w p formed))
        ∙ sym (member-filter (is_in set) (neighbours g w) p))

-- nothing is adjacent to what is no vertex
pub parity-absent : (g : Graph) (w : ℕ) (set : ℕ → Bool) → WellFormed g → member w (ids g.vertices) ≡ false → masked (joined g.edges w) (ids g.vertices) set ≡ false
parity-absent g w set formed absent =
    masked-none (joined g.edges w) (ids g.vertices) set
    (λ p there. ap (λ b. b && set p) (joined-absent (ids g.vertices) g.edges w p formed.edges.lower_there formed.edges.higher_there absent))

last_at : (x : ℕ) (xs : List ℕ) (r : Option ℕ) → r ≡ slice_get (x ∷ xs) (length (x ∷ xs) - 1) → r ≡ Some (get_or (x ∷ xs) (length xs) 0)
last_at x xs r e = let place : length (x ∷ xs) - 1 ≡ length xs = omega arith in e ∙ ap (slice_get (x ∷ xs)) place ∙ slice_get-get_or (x ∷ xs) (length xs) 0 (omega arith)

pub last-some : (xs : List ℕ) (r : Option ℕ) → r ≡ slice_get xs (length xs - 1) → IfSome r (λ v. (before : List ℕ) × (xs ≡ before ++ v ∷ []))
last-some [] r e = rw e tt
last-some (x ∷ xs) r e =
    rw (last_at x xs r e) (take (length xs) (x ∷ xs), sym (sym (take-suc (x ∷ xs) (length xs) 0 (omega arith)) ∙ take_all (suc (length xs)) (x ∷ xs) (omega arith)))

pub last-none : (xs : List ℕ) (r : Option ℕ) → r ≡ slice_get xs (length xs - 1) → IfNone r (xs ≡ [])
last-none [] r e = rw e refl
last-none (x ∷ xs) r e = rw (last_at x xs r e) tt
