-- A gate behind a graph whose outputs are plain can be taken off again.
use Rattle.std.proofs.Common.{◌≡◌, refl, sym, ◌∙◌, ap, ℕ, ◌<◌, ◌≤◌, ◌+◌, true, false, ◌||◌, arith, [], ◌∷◌, length}
use Rattle.std.proofs.Math.ListN.{length-set}
use Rattle.std.proofs.lemmas.Option.{slice_get-get_or}
use Rattle.zx_model.specs.Bits.{member}
use Rattle.zx_model.specs.Number.{one}
use Rattle.zx_calculus.specs.Graph.{Graph, ids, end_vertices, WellFormed, plain}
use Rattle.zx_calculus.specs.Edits.{IsToggle}
use Rattle.zx_calculus.specs.Gadgets.{fuse_kind}
use Rattle.zx_calculus.specs.Splits.{IsSplitOutput, split_output_graph, spider_of_phase_zero}
use Rattle.zx_calculus.specs.Counts.{odd_phases}
use Rattle.zx_calculus.proofs.Ids.{by_test, by_equal}
use Rattle.zx_calculus.proofs.Vertices.{ids-with_kinds, length-with_kinds, length-insert, member-insert}
use Rattle.zx_calculus.proofs.Splits.{after_split_output}
use Rattle.zx_calculus.proofs.EditPrograms.{toggled, toggled_is_toggle}
use Rattle.zx_gates.specs.Circuit.{IsOnQubits, gate_odd_phases}
use Rattle.zx_gates.specs.declared.gate.Gate.{Gate}
use Rattle.zx_gates.specs.declared.gate.Gate.TheVariants.{H, Phase, Cz, Cx, Not}
use Rattle.circuit_laws.specs.Followed.{PeelsAt}
use Rattle.circuit_laws.specs.Peeling.{IsSpiderPeel, IsPhasePeel, IsEdgePeel, HasPlainOutput, are_plain}
use Rattle.circuit_laws.proofs.Places.{plain_at, plain-set}
use Rattle.circuit_laws.proofs.Keeping.{spider_formed, phase_formed, edge_formed}
use Rattle.circuit_laws.proofs.Counts.{phase_odd, spider_odd}
use Rattle.circuit_laws.proofs.Settling.{phase_peels, edge_peels}
use Rattle.circuit_laws.proofs.Advancing.{spider_peels}
use Rattle.growing_laws.specs.Growing.{placed, next_id, AreBelow, IsBasic}
use Rattle.growing_laws.proofs.Parts.{spot, spot_there}
use Rattle.growing_laws.proofs.Placing.{spot_live, spots_differ}
use Rattle.zx_calculus.proofs.ReducedLemmas.{length-places}

no_more : (a b : ℕ) → a ≡ b → a ≤ b + 0
no_more a b e = omega arith

module _ (new : ℕ) (g : Graph) (w : WellFormed g) (fresh : member new (ids g.vertices) ≡ false) (all_plain : are_plain g.outputs ≡ true) where
  at_output : (q : ℕ) → q < length g.outputs → HasPlainOutput g q (spot g.outputs q)
  at_output q lt =
      plain_at g.outputs q (spot g.outputs q) all_plain
      (slice_get-get_or (end_vertices g.outputs) q 0 (let same = length-places g.outputs in omega (arith, same, lt)))

  pub spider_peel : (q : ℕ) → q < length g.outputs → IsSpiderPeel (placed new g (H q)) q g
  spider_peel q lt =
      let c : IsSplitOutput g (spot g.outputs q) new (split_output_graph g (spot g.outputs q) new) =
      after_split_output g w (spot g.outputs q) (spot_there g.outputs q lt) new fresh in
      record {
        spider = new;
        next = spot g.outputs q;
        fresh = fresh;
        output = at_output q lt;
        vertices = refl;
        ordered = c.ordered;
        ordered_too = w.edges;
        edges = c.edges;
        inputs = refl;
        outputs = refl;
      }

  pub spider_id : (q : ℕ) (lt : q < length g.outputs) → (spider_peel q lt).spider ≡ new
  unfolding spider_peel
  spider_id q lt = refl

  pub spider_next : (q : ℕ) (lt : q < length g.outputs) → (spider_peel q lt).next ≡ spot g.outputs q
  unfolding spider_peel
  spider_next q lt = refl

  pub phase_peel : (q k : ℕ) → q < length g.outputs → IsPhasePeel (placed new g (Phase q k)) q k g
  phase_peel q k lt =
      record { vertex = spot g.outputs q; output = at_output q lt; vertices = refl; edges = refl; inputs = refl; outputs = refl }

  pub edge_peel : (p q : ℕ) → IsOnQubits (length g.outputs) (Cz p q) → IsEdgePeel (placed new g (Cz p q)) p q g
  edge_peel p q on =
      let c : IsToggle g (spot g.outputs p) (spot g.outputs q) (toggled g (spot g.outputs p) (spot g.outputs q)) =
      toggled_is_toggle g (spot g.outputs p) (spot g.outputs q) w (spot_live g w p on.0) (spot_live g w q on.1) (spots_differ g w p q on.0 on.1 on.2) in
      record {
        first = spot g.outputs p;
        second = spot g.outputs q;
        different = spots_differ g w p q on.0 on.1 on.2;
        output = at_output p on.0;
        output_too = at_output q on.1;
        vertices = refl;
        ordered_too = w.edges;
        edges = λ u v n. c.edges u v;
        frame = c.frame;
      }

  pub placed_formed : (gate : Gate) → IsOnQubits (length g.outputs) gate → WellFormed (placed new g gate)
  placed_formed (H q) on = spider_formed (placed new g (H q)) q g w (spider_peel q on)
  placed_formed (Phase q k) on = phase_formed (placed new g (Phase q k)) q k g w (phase_peel q k on.0)
  placed_formed (Cz p q) on = edge_formed (placed new g (Cz p q)) p q g w (edge_peel p q on)
  placed_formed (Cx p q) on = w
  placed_formed (Not q) on = w

  pub placed_plain : (gate : Gate) → are_plain (placed new g gate).outputs ≡ true
  placed_plain (H q) = plain-set g.outputs q new all_plain
  placed_plain (Phase q k) = all_plain
  placed_plain (Cz p q) = all_plain
  placed_plain (Cx p q) = all_plain
  placed_plain (Not q) = all_plain

  pub placed_odd : (gate : Gate) → IsOnQubits (length g.outputs) gate → odd_phases (placed new g gate) ≤ odd_phases g + gate_odd_phases (gate ∷ [])
  placed_odd (H q) on = no_more _ _ (spider_odd (placed new g (H q)) q g (spider_peel q on))
  placed_odd (Phase q k) on = phase_odd (placed new g (Phase q k)) q k g w (phase_peel q k on.0)
  placed_odd (Cz p q) on = no_more _ _ refl
  placed_odd (Cx p q) on = no_more _ _ refl
  placed_odd (Not q) on = no_more _ _ refl

  pub placed_peels : (gate : Gate) → IsBasic gate → IsOnQubits (length g.outputs) gate → PeelsAt one (placed new g gate) (gate ∷ []) g
  placed_peels (H q) b on = spider_peels (placed new g (H q)) q g w (spider_peel q on) (placed_formed (H q) on)
  placed_peels (Phase q k) b on = phase_peels (placed new g (Phase q k)) q k g (placed_formed (Phase q k) on) w (phase_peel q k on.0)
  placed_peels (Cz p q) b on = edge_peels (placed new g (Cz p q)) p q g (placed_formed (Cz p q) on) w (edge_peel p q on)
  placed_peels (Cx p q) b on = absurd b
  placed_peels (Not q) b on = absurd b

-- ---- what needs no plain outputs
pub placed_inputs : (new : ℕ) (g : Graph) (gate : Gate) → (placed new g gate).inputs ≡ g.inputs
placed_inputs new g (H q) = refl
placed_inputs new g (Phase q k) = refl
placed_inputs new g (Cz p q) = refl
placed_inputs new g (Cx p q) = refl
placed_inputs new g (Not q) = refl

pub placed_outputs : (new : ℕ) (g : Graph) (gate : Gate) → length (placed new g gate).outputs ≡ length g.outputs
placed_outputs new g (H q) = length-set g.outputs q (plain new)
placed_outputs new g (Phase q k) = refl
placed_outputs new g (Cz p q) = refl
placed_outputs new g (Cx p q) = refl
placed_outputs new g (Not q) = refl

pub placed_below : (new : ℕ) (g : Graph) (gate : Gate) → AreBelow new g → AreBelow (next_id new gate) (placed new g gate)
placed_below new g (H q) below v there =
    by_equal v new (λ t e. omega arith)
    (λ f n. let lt = below v (ap (λ b. b || member v (ids g.vertices)) (sym f) ∙ sym (member-insert v (spider_of_phase_zero new) g.vertices) ∙ there) in omega (arith, lt))
placed_below new g (Phase q k) below v there = below v (sym (ap (member v) (ids-with_kinds (fuse_kind (spot g.outputs q) k) g.vertices)) ∙ there)
placed_below new g (Cz p q) below v there = below v there
placed_below new g (Cx p q) below v there = below v there
placed_below new g (Not q) below v there = below v there

pub fresh_above : (new : ℕ) (g : Graph) → AreBelow new g → member new (ids g.vertices) ≡ false
fresh_above new g below = by_test (member new (ids g.vertices)) (λ t. let lt = below new t in absurd (omega (arith, lt))) (λ f. f)

pub below_bound : (new bound : ℕ) (g : Graph) (gate : Gate) → new < bound → AreBelow bound g → AreBelow bound (placed new g gate)
below_bound new bound g (H q) lt below v there =
    by_equal v new (λ t e. omega (arith, e, lt))
    (λ f n. below v (ap (λ b. b || member v (ids g.vertices)) (sym f) ∙ sym (member-insert v (spider_of_phase_zero new) g.vertices) ∙ there))
below_bound new bound g (Phase q k) lt below v there = below v (sym (ap (member v) (ids-with_kinds (fuse_kind (spot g.outputs q) k) g.vertices)) ∙ there)
below_bound new bound g (Cz p q) lt below v there = below v there
below_bound new bound g (Cx p q) lt below v there = below v there
below_bound new bound g (Not q) lt below v there = below v there

-- ---- how many vertices
pub placed_length : (new : ℕ) (g : Graph) (gate : Gate) → length (placed new g gate).vertices ≡ next_id (length g.vertices) gate
placed_length new g (H q) = length-insert (spider_of_phase_zero new) g.vertices
placed_length new g (Phase q k) = length-with_kinds (fuse_kind (spot g.outputs q) k) g.vertices
placed_length new g (Cz p q) = refl
placed_length new g (Cx p q) = refl
placed_length new g (Not q) = refl
