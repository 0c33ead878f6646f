-- What the calls that take the last vertex off ask, and what they make.
use Rattle.std.proofs.Common.{◌≡◌, refl, sym, ◌∙◌, ap, ap₂, subst, ℕ, Bool, true, false, not, ◌&&◌, ◌||◌, eqb, List, [], ◌∷◌, ◌++◌, length, set}
use Rattle.std.specs.Prelude.{slice_get}
use Rattle.zx_model.specs.Bits.{xor, member}
use Rattle.zx_calculus.specs.Graph.{XY, YZ, Plane, Kind, Graph, is_XY, ids, kind_of, plane_of, joined, end_vertices, without, IsVertex, Interior, plain}
use Rattle.zx_calculus.specs.Edits.{IsRemoval}
use Rattle.zx_calculus.specs.Turns.{in_plane}
use Rattle.zx_calculus.proofs.Booleans.{and-false}
use Rattle.zx_calculus.proofs.Ids.{by_test}
use Rattle.zx_calculus.proofs.Splitting.{interior_of}
use Rattle.gflow_laws.specs.Flow.{Correction, is_in, SameSets}
use Rattle.gflow_laws.specs.Outputs.{advanced_table, last_removed_table}
use Rattle.zx_gates.specs.declared.gate.Gate.TheVariants.{H}
use Rattle.circuit_laws.specs.Gates.{gadget_gates, linked_gadget_gates}
use Rattle.circuit_laws.specs.Peeling.{HasPlainOutput}
use Rattle.zx_extract.specs.Internal.Lists.{legs_of}
use Rattle.zx_extract.specs.Internal.Leading.{Remainder, IsReady, IsFrontier}
use Rattle.zx_extract.specs.Internal.Steps.{HasLast, HasNoOutput, HasOneOutput, IsButRow, IsGatheredBesideRow, IsAdvanced, IsGadgetTaken, IsLinkedGadgetTaken, AreLegs}
use Rattle.zx_extract.proofs.Lasts.{keeps_last}
use Rattle.zx_extract.proofs.Rows.{gathered_all}
use Rattle.zx_extract.proofs.LastVertex.{last_live, last_no_output, only_neighbour, link_no_input, set_is_XY, set_is_YZ, linked, link_not_adjacent, set_is_itself, neighbours_are_outputs}
use Rattle.zx_extract.proofs.Legs.{member-legs, legs_differ}

-- ---- the last vertex takes the place of an output
-- v is the last vertex of s, where the rows of its set are gathered at the output q; d is s but for that output's row
pub record IsNext (s d : Remainder) (v q u : ℕ) : Type 0 where
  pub alike : IsButRow s q d
  pub ready : IsReady s
  pub frontier : IsFrontier s.graph
  pub last : HasLast s.table v
  pub plane : plane_of s.graph v ≡ XY
  pub one : HasOneOutput s q
  pub output : HasPlainOutput s.graph q u

pub next_of : {s d : Remainder} {v q u : ℕ} (g : IsGatheredBesideRow s q (length s.graph.outputs) d) → HasLast s.table v →
    plane_of s.graph v ≡ XY → HasPlainOutput d.graph q u → IsNext g.whole d v q u
next_of {s} {d} {v} {q} g last plane o = record {
  alike = g.alike;
  ready = g.gathered.rows.ready;
  frontier = g.gathered.rows.frontier;
  last = keeps_last s.table g.whole.table v g.gathered.rows.order last;
  plane = ap (λ vs. (kind_of vs v).plane) g.gathered.rows.same ∙ plane;
  one = gathered_all s q g.whole g.gathered;
  output = ap (λ es. slice_get es q) (sym g.alike.outputs) ∙ o;
}

module _ {s d : Remainder} {v q u : ℕ} (n : IsNext s d v q u) where
  pub next_live : IsVertex d.graph v
  next_live = ap (λ vs. member v (ids vs)) n.alike.vertices ∙ last_live n.ready n.frontier n.last

  pub next_XY : plane_of d.graph v ≡ XY
  next_XY = ap (λ vs. (kind_of vs v).plane) n.alike.vertices ∙ n.plane

  pub next_no_output : member v (end_vertices d.graph.outputs) ≡ false
  next_no_output = ap (λ es. member v (end_vertices es)) n.alike.outputs ∙ last_no_output n.ready n.frontier n.last

  pub here_no_input : member u (end_vertices d.graph.inputs) ≡ false
  here_no_input = ap (λ es. member u (end_vertices es)) n.alike.inputs ∙ link_no_input n.ready n.frontier n.last q n.one n.output

  pub advance_set : (before : List Correction) × (e : Correction) × (d.table ≡ before ++ e ∷ []) × ((y : ℕ) →
      is_in e.members y ≡ eqb y u)
  advance_set = (n.last.before, n.last.entry, n.alike.table ∙ n.last.split, set_is_XY n.ready n.frontier n.last q n.one n.output n.plane)

  -- the output moved to v
  module _ {g : Graph} (moved : g ≡ record d.graph { outputs = set d.graph.outputs q (plain v) }) where
    pub advanced_step : {h : Graph} {table : List Correction} {t : Remainder} →
        IsRemoval g u h → ((before : List Correction) (e : Correction) → d.table ≡ before ++ e ∷ [] →
        SameSets table (advanced_table u before)) →
        t ≡ record { graph = h; table = table; gates = H q ∷ d.gates } → IsAdvanced s v q t
    advanced_step removal sets is = subst (IsAdvanced s v q) (sym is) (record {
      last = n.last;
      advance = record {
        spider = u;
        next = v;
        output = n.output;
        phase = n.frontier.phase q u refl n.output;
        only_neighbour = only_neighbour n.ready n.frontier n.last q n.one n.output n.plane;
        vertices = removal.vertices ∙ ap (λ (k : Graph). without u k.vertices) moved ∙ ap (without u) n.alike.vertices;
        ordered = removal.frame.ordered;
        edges = λ p w x y. removal.edges p w x y ∙ ap (λ (k : Graph). joined k.edges p w) moved
            ∙ n.alike.edges u p w n.output x y;
        inputs = removal.frame.inputs ∙ ap (λ (k : Graph). k.inputs) moved ∙ n.alike.inputs;
        outputs = removal.frame.outputs ∙ ap (λ (k : Graph). k.outputs) moved
            ∙ ap (λ es. set es q (plain v)) n.alike.outputs;
      };
      table = sets n.last.before n.last.entry (n.alike.table ∙ n.last.split);
      gates = ap (λ gs. H q ∷ gs) n.alike.gates;
    })

-- ---- a gadget
pub gadget_interior : {s : Remainder} {v : ℕ} → IsReady s → plane_of s.graph v ≡ YZ → Interior s.graph v
gadget_interior {s} {v} r plane = interior_of s.graph v r.given.well_formed (ap is_XY plane)

module _ {s : Remainder} {v : ℕ} (r : IsReady s) (f : IsFrontier s.graph) (last : HasLast s.table v)
    (none : HasNoOutput s) where
  pub gadget_set : (before : List Correction) × (e : Correction) × (s.table ≡ before ++ e ∷ []) × ((y : ℕ) →
      is_in e.members y ≡ eqb y e.vertex)
  gadget_set = (last.before, last.entry, last.split, set_is_itself r f last none)

  pub gadget_step : {qubits : List ℕ} {k : ℕ} {named : Plane} {h : Graph} {table : List Correction} {t : Remainder} →
      plane_of s.graph v ≡ YZ → AreLegs s.graph v qubits →
      in_plane named k ≡ kind_of s.graph.vertices v → IsRemoval s.graph v h →
      ((before : List Correction) (e : Correction) → s.table ≡ before ++ e ∷ [] →
      SameSets table (last_removed_table e before)) →
      t ≡ record { graph = h; table = table; gates = gadget_gates k qubits ++ s.gates } → IsGadgetTaken s v qubits t
  gadget_step {qubits} plane legs weight removal sets is =
      subst (IsGadgetTaken s v qubits) (sym is) (record {
        last = last;
        peel = record {
          legs = legs_of s.graph v;
          plane = plane;
          once = legs_differ s.graph v r.given.well_formed;
          at_outputs = legs;
          neighbours = λ p. sym (member-legs s.graph v p ∙ by_test (joined s.graph.edges v p)
              (λ t. ap₂ (λ a b. a && b) (neighbours_are_outputs r f last none p t) t ∙ sym t)
              (λ f. ap (λ a. member p (end_vertices s.graph.outputs) && a) f
              ∙ and-false (member p (end_vertices s.graph.outputs)) ∙ sym f));
          removal = removal;
        };
        table = sets last.before last.entry last.split;
        gates = ap (λ j. gadget_gates j qubits ++ s.gates) (ap (λ (kind : Kind). kind.phase) weight);
      })

-- ---- a gadget through an output
module _ {s : Remainder} {v u : ℕ} (q : ℕ) (r : IsReady s) (f : IsFrontier s.graph) (last : HasLast s.table v)
    (plane : plane_of s.graph v ≡ YZ) (one : HasOneOutput s q) (o : HasPlainOutput s.graph q u) where
  pub linked_set : (before : List Correction) × (e : Correction) × (s.table ≡ before ++ e ∷ []) × ((y : ℕ) →
      is_in e.members y ≡ (eqb y e.vertex || eqb y u))
  linked_set = (last.before, last.entry, last.split, set_is_YZ r f last q one o plane)

  pub linked_step : {qubits : List ℕ} {k : ℕ} {named : Plane} {h : Graph} {table : List Correction} {t : Remainder} →
      AreLegs s.graph v qubits →
      in_plane named k ≡ kind_of s.graph.vertices v → IsRemoval s.graph v h →
      ((before : List Correction) (e : Correction) → s.table ≡ before ++ e ∷ [] →
      SameSets table (last_removed_table e before)) →
      t ≡ record { graph = h; table = table; gates = linked_gadget_gates k q qubits ++ s.gates } →
      IsLinkedGadgetTaken s v q qubits t
  linked_step {qubits} legs weight removal sets is =
      subst (IsLinkedGadgetTaken s v q qubits) (sym is) (record {
        last = last;
        peel = record {
          link = u;
          legs = legs_of s.graph v;
          plane = plane;
          output = o;
          phase = f.phase q u refl o;
          no_input = link_no_input r f last q one o;
          once = (
            member-legs s.graph v u ∙ ap (λ b. member u (end_vertices s.graph.outputs) && b)
                (link_not_adjacent r f last q one o plane) ∙ and-false (member u (end_vertices s.graph.outputs)),
            legs_differ s.graph v r.given.well_formed,
          );
          at_outputs = legs;
          neighbours = λ p. sym (ap₂ xor (linked r f last q one o plane p) (member-legs s.graph v p)
              ∙ either (joined s.graph.edges v p) (member p (end_vertices s.graph.outputs)));
          removal = removal;
        };
        table = sets last.before last.entry last.split;
        gates = ap (λ j. linked_gadget_gates j q qubits ++ s.gates) (ap (λ (kind : Kind). kind.phase) weight);
      })
    where
      either : (a b : Bool) → xor (a && not b) (b && a) ≡ a
      either true true = refl
      either true false = refl
      either false true = refl
      either false false = refl
