-- What the calls of a graph's methods make of a graph under extraction.
use Rattle.std.proofs.Common.{◌≡◌, ◌≢◌, refl, sym, ◌∙◌, ap, ap₂, subst, ℕ, Bool, true, false, not, eqb, ne_eqb, List, ◌∷◌, ◌++◌, set, true≢false, le_of_eq, arith}
use Rattle.std.specs.Prelude.{slice_get, Some, Result, Ok, Err, OnOk, IfOk}
use Rattle.zx_model.specs.Bits.{xor, one_if}
use Rattle.zx_calculus.specs.Graph.{XY, Plane, Kind, End, Graph, kind_of, joined, with_kinds, IsVertex, plain}
use Rattle.zx_calculus.specs.Turns.{in_plane}
use Rattle.zx_calculus.specs.Edits.{is_pair, IsToggle, at_vertex}
use Rattle.zx_calculus.proofs.Ids.{by_equal}
use Rattle.zx_calculus.proofs.Splitting.{no_loop}
use Rattle.zx_calculus.proofs.Edits.{with_kinds-at}
use Rattle.zx_calculus.proofs.StepIdentities.{toggled_back}
use Rattle.zx_gates.specs.declared.gate.Gate.TheVariants.{H, Cz}
use Rattle.zx_gates.specs.Lowering.{phase_gates}
use Rattle.circuit_laws.specs.Peeling.{HasPlainOutput, IsEdgePeel, marked}
use Rattle.circuit_laws.proofs.Places.{first_is, slice_get-set, slice_get-set_other, output_there, output_plane}
use Rattle.zx_extract.specs.Internal.Lists.{IsPlainAt}
use Rattle.zx_extract.specs.Internal.Leading.{IsGiven, Leads, Remainder, IsReady}
use Rattle.zx_extract.specs.Internal.Steps.{IsMarkTaken, IsPhaseTaken, IsEdgeTaken, IsUnjoined}
use Rattle.zx_extract.proofs.Places.{one_vertex}
use Rattle.zx_extract.proofs.Settled.{mark_given, mark_leads, settles_nothing, settles_within, edge_settles, edge_gone}

pub if_ok : {A B : Type 0} {P Q : A → Type 0} (r : Result A B) → ((x : A) → P x → Q x) → IfOk r P → IfOk r Q
if_ok (Ok x) f h = f x h
if_ok (Err e) f h = h

pub on_both : {A B P Q R : Type 0} (r : Result A B) → (P → Q → R) → OnOk r P → OnOk r Q → OnOk r R
on_both (Ok x) f h k = f h k
on_both (Err e) f h k = h

-- ---- a mark
marked_end : (e : End) → e.hadamard ≡ true → e ≡ marked e.vertex
marked_end e h = at e.vertex e.hadamard h
  where
    at : (v : ℕ) (b : Bool) → b ≡ true → record { vertex = v; hadamard = b } ≡ marked v
    at v b h = ap (λ c. record { vertex = v; hadamard = c }) h

pub plain_here : (es : List End) (q : ℕ) (e : End) → slice_get es q ≡ Some e → e.hadamard ≡ false → IsPlainAt es q
plain_here es q e at_q off d at_q' = ap (λ (c : End). c.hadamard) (first_is d e (sym at_q' ∙ at_q)) ∙ off

pub plain_set : (es : List End) (q v : ℕ) (e : End) → slice_get es q ≡ Some e → IsPlainAt (set es q (plain v)) q
plain_set es q v e at_q = plain_here (set es q (plain v)) q (plain v) (slice_get-set es q e (plain v) at_q) refl

pub plain_others : (es : List End) (q v : ℕ) (e : End) → slice_get es q ≡ Some e → (p : ℕ) → IsPlainAt es p →
    IsPlainAt (set es q (plain v)) p
plain_others es q v e at_q p was d at_p = by_equal p q
    (λ _ same. plain_set es q v e at_q d (ap (slice_get (set es q (plain v))) (sym same) ∙ at_p))
    (λ _ n. was d (sym (slice_get-set_other es q p (plain v) n) ∙ at_p))

-- the output at q was moved to a plain end at its own vertex
pub record IsUnmarked (s : Remainder) (q : ℕ) (t : Remainder) : Type 0 where
  pub leads : Leads s 1 0 0 t
  pub given : IsGiven t
  pub plain : IsPlainAt t.graph.outputs q
  pub others : (p : ℕ) → IsPlainAt s.graph.outputs p → IsPlainAt t.graph.outputs p

pub unmarked : {s t : Remainder} {q : ℕ} {e : End} {g : Graph} → IsGiven s → slice_get s.graph.outputs q ≡ Some e →
    e.hadamard ≡ true → g ≡ record s.graph { outputs = set s.graph.outputs q (plain e.vertex) } →
    t ≡ record { graph = g; table = s.table; gates = H q ∷ s.gates } → IsUnmarked s q t
unmarked {s} {t} {q} {e} given at_q had moved is = record {
  leads = mark_leads s q t given step;
  given = mark_given s q t given step;
  plain = subst (λ es. IsPlainAt es q) (sym outputs) (plain_set s.graph.outputs q e.vertex e at_q);
  others = λ p was. subst (λ es. IsPlainAt es p) (sym outputs) (plain_others s.graph.outputs q e.vertex e at_q p was);
}
  where
    is_graph : t.graph ≡ record s.graph { outputs = set s.graph.outputs q (plain e.vertex) }
    is_graph = ap (λ (r : Remainder). r.graph) is ∙ moved

    outputs : t.graph.outputs ≡ set s.graph.outputs q (plain e.vertex)
    outputs = ap (λ (h : Graph). h.outputs) is_graph

    step : IsMarkTaken s q t
    step = record {
      peel = record {
        vertex = e.vertex;
        output = at_q ∙ ap Some (marked_end e had);
        vertices = sym (ap (λ (h : Graph). h.vertices) is_graph);
        edges = sym (ap (λ (h : Graph). h.edges) is_graph);
        inputs = sym (ap (λ (h : Graph). h.inputs) is_graph);
        outputs = outputs;
      };
      table = ap (λ (r : Remainder). r.table) is;
      gates = ap (λ (r : Remainder). r.gates) is;
    }

-- ---- a phase
pub output_live : {s : Remainder} {u : ℕ} (q : ℕ) → IsReady s → HasPlainOutput s.graph q u → IsVertex s.graph u
output_live {s} {u} q r at_q = output_there s.graph q (plain u) r.given.well_formed at_q

pub phase_taken : {s t : Remainder} {u k zero_phase : ℕ} {plane : Plane} {g : Graph} (q : ℕ) → IsReady s →
    HasPlainOutput s.graph q u → in_plane plane k ≡ kind_of s.graph.vertices u → zero_phase ≡ 0 →
    g ≡ record s.graph {
      vertices = with_kinds (at_vertex u (λ _. in_plane plane zero_phase)) s.graph.vertices;
    } →
    t ≡ record { graph = g; table = s.table; gates = phase_gates q k ++ s.gates } → IsPhaseTaken s q t
phase_taken {s} {t} {u} q r at_q weight none set is = record {
  cleared = record {
    vertex = u;
    output = at_q;
    vertices = ap (λ (h : Remainder). h.graph.vertices) is ∙ ap (λ (h : Graph). h.vertices) set
        ∙ ap₂ (λ p j. with_kinds (at_vertex u (λ _. in_plane p j)) s.graph.vertices)
        (ap (λ (kind : Kind). kind.plane) weight) none
        ∙ with_kinds-at u (λ kind. in_plane kind.plane 0) s.graph.vertices r.given.well_formed.vertices_rising;
    edges = ap (λ (h : Remainder). h.graph.edges) is ∙ ap (λ (h : Graph). h.edges) set;
    inputs = ap (λ (h : Remainder). h.graph.inputs) is ∙ ap (λ (h : Graph). h.inputs) set;
    outputs = ap (λ (h : Remainder). h.graph.outputs) is ∙ ap (λ (h : Graph). h.outputs) set;
  };
  table = ap (λ (h : Remainder). h.table) is;
  gates = ap (λ (h : Remainder). h.gates) is ∙ ap (λ j. phase_gates q j ++ s.gates)
      (ap (λ (kind : Kind). kind.phase) weight);
}

-- the plane that an output's weight has
pub weight_plane : {s : Remainder} {u k : ℕ} {plane : Plane} (q : ℕ) → IsReady s → HasPlainOutput s.graph q u →
    in_plane plane k ≡ kind_of s.graph.vertices u → plane ≡ XY
weight_plane {s} {u} q r at_q weight = ap (λ (kind : Kind). kind.plane) weight
    ∙ output_plane s.graph q (plain u) r.given.well_formed at_q

-- ---- an edge
module _ {s : Remainder} {u v : ℕ} (p q : ℕ) (r : IsReady s) (at_p : HasPlainOutput s.graph p u)
    (at_q : HasPlainOutput s.graph q v) where
  pub unjoined_already : joined s.graph.edges u v ≡ false → IsUnjoined s p q s
  unjoined_already off = record {
    settles = settles_within s 0 (one_if (not (eqb p q))) s (omega arith) (settles_nothing s r);
    apart = λ x y at_x at_y. ap₂ (joined s.graph.edges) (one_vertex s.graph p x u at_x at_p)
        (one_vertex s.graph q y v at_y at_q) ∙ off;
  }

  module _ (near : joined s.graph.edges u v ≡ true) where
    pub ends_differ : u ≢ v
    ends_differ e = true≢false (sym near ∙ ap (joined s.graph.edges u) (sym e) ∙ no_loop s.graph u r.given.well_formed)

    places_differ : p ≢ q
    places_differ e = ends_differ (one_vertex s.graph q u v (subst (λ k. HasPlainOutput s.graph k u) e at_p) at_q)

    pub edge_taken : {g : Graph} {t : Remainder} → IsToggle s.graph u v g →
        t ≡ record { graph = g; table = s.table; gates = Cz p q ∷ s.gates } → IsUnjoined s p q t
    edge_taken {g} {t} toggle is = record {
      settles = settles_within s 1 (one_if (not (eqb p q))) t
          (le_of_eq (ap (λ b. one_if (not b)) (sym (ne_eqb p q places_differ)))) (edge_settles s p q t r step);
      apart = edge_gone s p q t r step;
    }
      where
        peel : IsEdgePeel s.graph p q g
        peel = record {
          first = u;
          second = v;
          different = ends_differ;
          output = at_p;
          output_too = at_q;
          vertices = sym toggle.vertices;
          ordered_too = toggle.frame.ordered;
          edges = λ a b _. sym (ap (λ c. xor c (is_pair u v a b)) (toggle.edges a b)
              ∙ toggled_back (joined s.graph.edges a b) (is_pair u v a b));
          frame = record {
            ordered = r.given.well_formed.edges;
            inputs = sym toggle.frame.inputs;
            outputs = sym toggle.frame.outputs;
          };
        }

        taken : IsEdgeTaken s p q (record { graph = g; table = s.table; gates = Cz p q ∷ s.gates })
        taken = record { peel = peel; there = near; table = refl; gates = refl }

        step : IsEdgeTaken s p q t
        step = subst (IsEdgeTaken s p q) (sym is) taken
