-- Outputs that are exchanged until each stands at the vertex of the input of its number.
use Rattle.std.proofs.Common.{◌≡◌, ◌≢◌, refl, sym, ◌∙◌, ap, ap₂, subst, ℕ, zero as nought, suc, ◌+◌, ◌*◌, ◌≤◌, ◌<◌, Bool, true, not, ◌&&◌, ◌||◌, eqb, eq-eqb, List, [], ◌∷◌, ◌++◌, filter, get_or, set, take, map, length, true≢false, le_of_eq, add-one, ltb, ltb-true, ltb-false, arith}
use Rattle.std.specs.Prelude.{slice_get, Some}
use Rattle.std.specs.List.{swap}
use Rattle.std.proofs.Math.ListN.{length-set}
use Rattle.std.proofs.lemmas.List.{map-set, take_all, take-set-le, take_more_set}
use Rattle.zx_model.specs.Bits.{member}
use Rattle.zx_calculus.specs.Graph.{Vertex, End, ids, end_vertices, is_XY, in_order, different, IsVertex, Distinct, WellFormed, plain}
use Rattle.zx_calculus.specs.Counts.{XY_without_output}
use Rattle.zx_calculus.proofs.Ids.{by_test, and-left, and-right, Distinct-different}
use Rattle.zx_calculus.proofs.Booleans.{or-true}
use Rattle.zx_calculus.proofs.Splitting.{all_at}
use Rattle.gflow_laws.specs.Flow.{IsFlow}
use Rattle.gflow_laws.proofs.AllEnds.{same_members, all_ends}
use Rattle.zx_gates.specs.declared.gate.Gate.{Gate}
use Rattle.circuit_laws.specs.Gates.{exchange_gates}
use Rattle.circuit_laws.specs.Peeling.{IsExchange, are_plain}
use Rattle.circuit_laws.proofs.Keeping.{exchange_formed_back}
use Rattle.circuit_laws.proofs.Wires.{exchange_peels}
use Rattle.circuit_laws.proofs.GateLists.{exchange_on}
use Rattle.zx_extract.specs.Internal.Lists.{with_outputs, in_line}
use Rattle.zx_extract.specs.Internal.Leading.{Remainder, Leads, IsReady, IsFrontier}
use Rattle.zx_extract.specs.Internal.Steps.{IsUncrossed}
use Rattle.zx_extract.proofs.Leads.{leads_same, leads_nothing, leads_then, leads_within}
use Rattle.circuit_laws.proofs.Places.{plain_end}
use Rattle.zx_calculus.proofs.ReducedLemmas.{length-places}

pub places-plain : (us : List ℕ) → end_vertices (map plain us) ≡ us
places-plain [] = refl
places-plain (u ∷ us) = ap (λ r. u ∷ r) (places-plain us)

plain-places : (es : List End) → are_plain es ≡ true → map plain (end_vertices es) ≡ es
plain-places [] h = refl
plain-places (e ∷ es) h = ap₂ (λ d ds. d ∷ ds) (sym (plain_end e (and-left (not e.hadamard) (are_plain es) h)))
    (plain-places es (and-right (not e.hadamard) (are_plain es) h))

pub plain-map : (us : List ℕ) → are_plain (map plain us) ≡ true
plain-map [] = refl
plain-map (u ∷ us) = plain-map us

-- ---- lists of numbers by place
slice_get-member : (xs : List ℕ) (i w : ℕ) → slice_get xs i ≡ Some w → member w xs ≡ true
slice_get-member [] i w h = cc
slice_get-member (x ∷ xs) nought w h = let same : x ≡ w = cc in ap (λ b. b || member w xs) (eq-eqb w x (sym same))
slice_get-member (x ∷ xs) (suc i) w h = ap (λ b. eqb w x || b) (slice_get-member xs i w h) ∙ or-true (eqb w x)

one_index : (xs : List ℕ) (i j w : ℕ) → Distinct xs → slice_get xs i ≡ Some w → slice_get xs j ≡ Some w → i ≡ j
one_index [] i j w d h k = cc
one_index (x ∷ xs) nought nought w d h k = refl
one_index (x ∷ xs) nought (suc j) w d h k =
    let same : x ≡ w = cc in absurd (true≢false (sym (slice_get-member xs j w k) ∙ ap (λ y. member y xs) (sym same)
    ∙ d.0))
one_index (x ∷ xs) (suc i) nought w d h k =
    let same : x ≡ w = cc in absurd (true≢false (sym (slice_get-member xs i w h) ∙ ap (λ y. member y xs) (sym same)
    ∙ d.0))
one_index (x ∷ xs) (suc i) (suc j) w d h k = ap suc (one_index xs i j w d.1 h k)

slice_get-take : (xs : List ℕ) (i j : ℕ) → j < i → slice_get (take i xs) j ≡ slice_get xs j
slice_get-take [] nought j lt = refl
slice_get-take [] (suc i) j lt = refl
slice_get-take (x ∷ xs) nought j lt = absurd (omega arith)
slice_get-take (x ∷ xs) (suc i) nought lt = refl
slice_get-take (x ∷ xs) (suc i) (suc j) lt = slice_get-take xs i j (omega arith)

pub slice_get_below : (xs : List ℕ) (i w : ℕ) → slice_get xs i ≡ Some w → i < length xs
slice_get_below [] i w h = cc
slice_get_below (x ∷ xs) nought w h = omega arith
slice_get_below (x ∷ xs) (suc i) w h = let rest : i < length xs = slice_get_below xs i w h in omega arith

take-slice_get : (xs : List ℕ) (i w : ℕ) → slice_get xs i ≡ Some w → take (i + 1) xs ≡ take i xs ++ w ∷ []
take-slice_get xs i w h = rw add-one (at xs i h)
  where
    at : (xs : List ℕ) (i : ℕ) → slice_get xs i ≡ Some w → take (suc i) xs ≡ take i xs ++ w ∷ []
    at [] i h = cc
    at (x ∷ xs) nought h = let same : x ≡ w = cc in ap (λ y. y ∷ []) same
    at (x ∷ xs) (suc i) h = ap (λ r. x ∷ r) (at xs i h)

read : (xs : List ℕ) (i w d : ℕ) → slice_get xs i ≡ Some w → get_or xs i d ≡ w
read [] i w d h = cc
read (x ∷ xs) nought w d h = cc
read (x ∷ xs) (suc i) w d h = read xs i w d h

swap-set : (xs : List ℕ) (i j v w : ℕ) → slice_get xs i ≡ Some v → slice_get xs j ≡ Some w →
    swap xs i j ≡ set (set xs i w) j v
swap-set [] i j v w h k = cc
swap-set (x ∷ xs) i j v w h k = ap₂ (λ a b. set (set (x ∷ xs) i a) j b) (read (x ∷ xs) j w x k) (read (x ∷ xs) i v x h)

slice_get-plain : (us : List ℕ) (i w : ℕ) → slice_get us i ≡ Some w → slice_get (map plain us) i ≡ Some (plain w)
slice_get-plain [] i w h = cc
slice_get-plain (u ∷ us) nought w h = let same : u ≡ w = cc in ap (λ x. Some (plain x)) same
slice_get-plain (u ∷ us) (suc i) w h = slice_get-plain us i w h

module _ (s : Remainder) (r : IsReady s) (f : IsFrontier s.graph) (none : s.table ≡ [])
    (ends : length s.graph.inputs ≡ length s.graph.outputs) where
  all : (v : ℕ) → IsVertex s.graph v → (member v (end_vertices s.graph.inputs) ≡ true) ×
      (member v (end_vertices s.graph.outputs) ≡ true)
  all = all_ends s.graph r.given.well_formed (subst (IsFlow s.graph) none r.given.flow) ends

  differ : (us : List ℕ) → WellFormed (with_outputs us s.graph) → Distinct us
  differ us w = Distinct-different us (subst (λ l. in_order different l ≡ true) (places-plain us) w.outputs.one_each)

  -- outputs elsewhere stand at the vertices of the inputs
  same : (us : List ℕ) → WellFormed (with_outputs us s.graph) → length us ≡ length s.graph.outputs → (x : ℕ) →
      member x us ≡ member x (end_vertices s.graph.inputs)
  same us w many x = same_members us (end_vertices s.graph.inputs) (differ us w)
      (le_of_eq (length-places s.graph.inputs ∙ ends ∙ sym many))
      (λ y t. (all y (all_at (λ u. member u (ids s.graph.vertices)) (end_vertices (map plain us)) y w.outputs.there
      (ap (member y) (places-plain us) ∙ t))).0) x

  same_graph : with_outputs (end_vertices s.graph.outputs) s.graph ≡ s.graph
  same_graph = ap (λ es. record s.graph { outputs = es }) (plain-places s.graph.outputs r.plain)

  pub uncrossed_nothing : IsUncrossed s 0 (end_vertices s.graph.outputs) s.gates
  uncrossed_nothing = record {
    formed = subst WellFormed (sym same_graph) r.given.well_formed;
    as_many = length-places s.graph.outputs;
    leads = leads_within s 0 0 0 (3 * 0) _ (omega arith)
        (subst (λ g. Leads s 0 0 0 (record { graph = g; table = s.table; gates = s.gates })) (sym same_graph)
        (leads_nothing s));
    done = refl;
  }

  pub next_there : (i : ℕ) (us : List ℕ) (gates : List Gate) (w : ℕ) → IsUncrossed s i us gates →
      slice_get (end_vertices s.graph.inputs) i ≡ Some w → member w us ≡ true
  next_there i us gates w u h = same us u.formed u.as_many w ∙ slice_get-member (end_vertices s.graph.inputs) i w h

  more : (i : ℕ) (us : List ℕ) (w : ℕ) → slice_get us i ≡ Some w → slice_get (end_vertices s.graph.inputs) i ≡ Some w →
      take i us ≡ take i (end_vertices s.graph.inputs) →
      take (i + 1) us ≡ take (i + 1) (end_vertices s.graph.inputs)
  more i us w h k done = take-slice_get us i w h ∙ ap (λ l. l ++ w ∷ []) done
      ∙ sym (take-slice_get (end_vertices s.graph.inputs) i w k)

  pub uncrossed_stays : (i : ℕ) (us : List ℕ) (gates : List Gate) (w : ℕ) → IsUncrossed s i us gates →
      slice_get us i ≡ Some w → slice_get (end_vertices s.graph.inputs) i ≡ Some w → IsUncrossed s (i + 1) us gates
  uncrossed_stays i us gates w u h k = record {
    formed = u.formed;
    as_many = u.as_many;
    leads = leads_within s (3 * i) 0 0 (3 * (i + 1)) _ (omega arith) u.leads;
    done = more i us w h k u.done;
  }

  module _ (i j : ℕ) (us : List ℕ) (gates : List Gate) (w x : ℕ) (u : IsUncrossed s i us gates)
      (at_j : slice_get us j ≡ Some w) (at_i : slice_get us i ≡ Some x)
      (k : slice_get (end_vertices s.graph.inputs) i ≡ Some w) (n : j ≢ i) where
    swapped : swap us i j ≡ set (set us i w) j x
    swapped = swap-set us i j x w at_i at_j

    exchange : IsExchange (with_outputs us s.graph) i j (with_outputs (swap us i j) s.graph)
    exchange = record {
      first = x;
      second = w;
      different = λ e. n (sym e);
      output = slice_get-plain us i x at_i;
      output_too = slice_get-plain us j w at_j;
      vertices = refl;
      edges = refl;
      inputs = refl;
      outputs = ap (map plain) swapped ∙ map-set plain (set us i w) j x
          ∙ ap (λ es. set es j (plain x)) (map-set plain us i w);
    }

    formed : WellFormed (with_outputs (swap us i j) s.graph)
    formed = exchange_formed_back (with_outputs us s.graph) i j (with_outputs (swap us i j) s.graph) u.formed exchange

    as_many : length (swap us i j) ≡ length s.graph.outputs
    as_many = ap length swapped ∙ length-set (set us i w) j x ∙ length-set us i w ∙ u.as_many

    spiders : XY_without_output (with_outputs (swap us i j) s.graph) ≡ XY_without_output (with_outputs us s.graph)
    spiders = ap (λ (t : ℕ → Bool). length (filter (λ (v : Vertex). is_XY v.kind.plane && not (t v.id))
        s.graph.vertices))
        (λ e v. (ap (member v) (places-plain (swap us i j)) ∙ same (swap us i j) formed as_many v
        ∙ sym (same us u.formed u.as_many v) ∙ ap (member v) (sym (places-plain us))) e)

    later : i < j
    later = by_test (ltb j i)
        (λ t. let below : j < i = ltb-true j i t in
        absurd (n (one_index (end_vertices s.graph.inputs) j i w
        (Distinct-different (end_vertices s.graph.inputs) r.given.well_formed.inputs.one_each)
        (sym (slice_get-take (end_vertices s.graph.inputs) i j below) ∙ ap (λ l. slice_get l j) (sym u.done)
        ∙ slice_get-take us i j below ∙ at_j) k)))
        (λ t. let above : i ≤ j = ltb-false j i t in omega arith)

    pub uncrossed_swap : IsUncrossed s (i + 1) (swap us i j) (exchange_gates i j ++ gates)
    uncrossed_swap = record {
      formed = formed;
      as_many = as_many;
      leads = leads_within s (3 * i + 3) 0 0 (3 * (i + 1)) _ (omega arith)
          (leads_then s (3 * i) 0 0 (record { graph = with_outputs us s.graph; table = s.table; gates = gates }) 3 0 0
          (record { graph = with_outputs (swap us i j) s.graph; table = s.table; gates = exchange_gates i j ++ gates })
          u.leads
          (leads_same _ _ 3 (exchange_gates i j) refl (exchange_peels (with_outputs us s.graph) i j
          (with_outputs (swap us i j) s.graph) u.formed formed exchange)
          (omega arith) (exchange_on (with_outputs us s.graph) i j (with_outputs (swap us i j) s.graph) exchange)
          (omega arith) spiders refl refl));
      done = ap (take (i + 1)) swapped ∙ take-set-le (i + 1) (set us i w) j x (omega (arith, later))
          ∙ take_more_set us i w (slice_get_below us i x at_i)
          ∙ ap (λ l. l ++ w ∷ []) u.done ∙ sym (take-slice_get (end_vertices s.graph.inputs) i w k);
    }

  -- ---- wires are left
  module _ (us : List ℕ) (gates : List Gate) (u : IsUncrossed s (length s.graph.outputs) us gates) where
    in_place : us ≡ end_vertices s.graph.inputs
    in_place = sym (take_all (length s.graph.outputs) us (le_of_eq u.as_many)) ∙ u.done
        ∙ take_all (length s.graph.outputs) (end_vertices s.graph.inputs) (le_of_eq (length-places s.graph.inputs ∙ ends))

    pub uncrossed_leads : Leads s (3 * length s.graph.outputs) 0 0
        (record { graph = in_line s.graph; table = s.table; gates = gates })
    uncrossed_leads = subst (λ vs. Leads s (3 * length s.graph.outputs) 0 0
        (record { graph = with_outputs vs s.graph; table = s.table; gates = gates })) in_place u.leads

    pub line_formed : WellFormed (in_line s.graph)
    line_formed = subst (λ vs. WellFormed (with_outputs vs s.graph)) in_place u.formed
