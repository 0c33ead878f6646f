-- The row of an output added to that of another one.
use Rattle.std.proofs.Common.{◌≡◌, ◌≢◌, refl, sym, ◌∙◌, ap, ap₂, subst, ℕ, ◌&&◌, false, eqb, List, [], ◌∷◌}
use Rattle.zx_model.specs.Bits.{xor, member}
use Rattle.zx_calculus.specs.Graph.{Graph, joined, end_vertices}
use Rattle.zx_calculus.specs.Toggles.{across, IsToggled}
use Rattle.zx_calculus.proofs.Booleans.{and_comm}
use Rattle.zx_calculus.proofs.Ids.{eqb_comm}
use Rattle.gflow_laws.specs.Flow.{Correction, SameSets}
use Rattle.gflow_laws.specs.Outputs.{row_added_table}
use Rattle.gflow_laws.proofs.Lists.{is_in-one}
use Rattle.zx_gates.specs.declared.gate.Gate.TheVariants.{Cx}
use Rattle.circuit_laws.specs.Peeling.{HasPlainOutput}
use Rattle.zx_extract.specs.Internal.Leading.{Remainder, IsReady, IsFrontier}
use Rattle.zx_extract.specs.Internal.Steps.{IsRowAdded}
use Rattle.zx_extract.proofs.Places.{one_output}

module _ (s : Remainder) (c t u v : ℕ) (r : IsReady s) (f : IsFrontier s.graph) (at_c : HasPlainOutput s.graph c u)
    (at_t : HasPlainOutput s.graph t v) (n : c ≢ t) where
  pub row_added_step : (g : Graph) (one row : List ℕ) (table : List Correction) (h : Remainder) → one ≡ v ∷ [] →
      ((p : ℕ) → member p row ≡ joined s.graph.edges u p) → member u (end_vertices s.graph.inputs) ≡ false →
      IsToggled s.graph (across one row) g → SameSets table (row_added_table u v s.table) → h ≡ record {
        graph = g;
        table = table;
        gates =
            Cx t c ∷ s.gates;
      } → IsRowAdded s c t h
  row_added_step g one row table h one_is row_is no_input toggled sets is = subst (IsRowAdded s c t) (sym is) (record {
    row = record {
      added = u;
      to = v;
      different = λ e. n (one_output s.graph c t v r.given.well_formed (subst (HasPlainOutput s.graph c) e at_c) at_t);
      output = at_c;
      output_too = at_t;
      phase = f.phase c u refl at_c;
      no_input = no_input;
      not_adjacent = f.apart c t refl refl u v at_c at_t;
      vertices = sym toggled.vertices;
      ordered_too = toggled.frame.ordered;
      edges = λ p q apart. toggled.edges p q apart
          ∙ ap₂ (λ a b. xor (joined s.graph.edges p q) (xor a b)) (pair p q)
          (pair q p ∙ and_comm (eqb v q) (joined s.graph.edges u p));
      frame = record {
        ordered = r.given.well_formed.edges;
        inputs = sym toggled.frame.inputs;
        outputs = sym toggled.frame.outputs;
      };
    };
    table = sets;
    gates = refl;
  })
    where
      pair : (p q : ℕ) → (member p one && member q row) ≡ (eqb v p && joined s.graph.edges u q)
      pair p q = ap₂ (λ a b. a && b) (ap (member p) one_is ∙ is_in-one v p ∙ eqb_comm p v) (row_is q)
