-- What other phases add at the vertices, as a sum over the gates of odd phases; and these vertices are there.
use Rattle.std.proofs.Common.{◌≡◌, refl, sym, ◌∙◌, ap, subst, ℕ, zero, suc, ◌+◌, ◌<◌, Bool, true, false, cond, ◌||◌, eqb, List, [], ◌∷◌, length, filter, get_or, add-one, true≢false, ne_eqb, eq-eqb, arith}
use Rattle.std.specs.Prelude.{Option, Some, None}
use Rattle.std.specs.List.{fold, range_with_len}
use Rattle.zx_model.specs.Phase.{turn, sum_of_phases, opposite_phase}
use Rattle.zx_model.specs.Bits.{member}
use Rattle.zx_calculus.specs.Graph.{Graph, ids, IsVertex}
use Rattle.zx_calculus.specs.Splits.{spider_of_phase_zero}
use Rattle.zx_calculus.specs.Gadgets.{fuse_kind}
use Rattle.zx_calculus.proofs.Booleans.{or-true}
use Rattle.zx_calculus.proofs.Ids.{by_equal}
use Rattle.zx_calculus.proofs.Vertices.{ids-with_kinds, member-insert}
use Rattle.zx_gates.specs.Circuit.{is_odd_phase}
use Rattle.zx_gates.specs.declared.gate.Gate.{Gate}
use Rattle.zx_gates.specs.declared.gate.Gate.TheVariants.{H, Phase, Cz, Cx, Not}
use Rattle.circuit_graph.specs.Translation.{by_hadamards, written_out, with_gate, phase_vertex, places_from, last_spider}
use Rattle.circuit_graph.specs.Internal.Runs.{GraphSoFar, IsReady, IsGateStep, IsRun}
use Rattle.circuit_graph.proofs.RunLemmas.{run_comes}
use Rattle.circuit_graph.proofs.Calls.{here_live}
use Rattle.teleport_laws.specs.Spots.{At, spot_at}
use Rattle.teleport_laws.specs.Groups.{placed, change}
use Rattle.teleport_laws.proofs.Carrying.{AreBelow, held-below, none_plus, cond-below}
use Rattle.teleport_circuits.specs.Circuits.{phase_in, added_at, added_from}
use Rattle.teleport_circuits.specs.Teleporting.{place_number}
use Rattle.teleport_circuits.proofs.Moving.{output_before, phase_here, cut}
use Rattle.zx_calculus.proofs.Kept.{sum_below}
use Rattle.teleport_laws.proofs.Shifting.{plus_none}
use Rattle.teleport_laws.proofs.Grouping.{none_of_it}

sum_assoc : (a b c : ℕ) → sum_of_phases (sum_of_phases a b) c ≡ sum_of_phases a (sum_of_phases b c)
sum_assoc a b c = omega arith

index : (i j : ℕ) → i + suc j ≡ suc i + j
index i j = omega arith

start : (i : ℕ) → i + 0 ≡ i
start i = omega arith

added_low : (place : Option ℕ) (k : ℕ) (more : ℕ → ℕ) → AreBelow more → AreBelow (added_at place k more)
added_low None k more low v = low v
added_low (Some u) k more low v = cond-below (eqb v u) _ _ (sum_below (more v) k) (low v)

-- what one phase adds, as a part of the sum
added_part : (u d rest : ℕ) (more : ℕ → ℕ) (v : ℕ) → AreBelow more → rest < turn → d < turn →
    sum_of_phases (added_at (Some u) d more v) rest ≡ sum_of_phases (more v) (sum_of_phases (cond (eqb u v) d 0) rest)
added_part u d rest more v low low_rest low_d =
    by_equal v u
    (λ t e. rw (t, eq-eqb u v (sym e)) (sum_assoc (more v) d rest))
    (λ t n. rw (t, ne_eqb u v (λ e. n (sym e))) (ap (sum_of_phases (more v)) (sym (none_plus rest low_rest))))

nothing_added : (place : Option ℕ) (d : ℕ) (more : ℕ → ℕ) (v : ℕ) → AreBelow more → d ≡ 0 → added_at place d more v ≡ more v
nothing_added None d more v low none = refl
nothing_added (Some u) d more v low none = by_equal v u (λ t e. rw t (ap (sum_of_phases (more v)) none ∙ plus_none (more v) (low v))) (λ t n. rw t refl)

module _ (old phase vertex_of : ℕ → ℕ) (pick : ℕ → Bool) (low_old : (i : ℕ) → old i < turn) where
  abbrev sum_over : List ℕ → ℕ → ℕ
  sum_over numbers v = placed (change old phase) vertex_of numbers v

  -- one gate, before the others
  one_added : (i : ℕ) (place : Option ℕ) (odd : Bool) (rest : List ℕ) (more : ℕ → ℕ) (v : ℕ) → AreBelow more → pick i ≡ odd → (odd ≡ true → place ≡ Some (vertex_of i)) → (odd ≡ false → phase i ≡ old i) →
      sum_of_phases (added_at place (change old phase i) more v) (sum_over (filter pick rest) v) ≡ sum_of_phases (more v) (sum_over (filter pick (i ∷ rest)) v)
  one_added i place true rest more v low picked some same =
      ap (λ p. sum_of_phases (added_at p (change old phase i) more v) (sum_over (filter pick rest) v)) (some refl)
      ∙ added_part (vertex_of i) (change old phase i) (sum_over (filter pick rest) v) more v low (held-below (change old phase) (λ x. spot_at (vertex_of x)) (filter pick rest) (At v)) (sum_below (phase i) (opposite_phase (old i)))
      ∙ ap (λ b. sum_of_phases (more v) (sum_over (cond b (i ∷ filter pick rest) (filter pick rest)) v)) (sym picked)
  one_added i place false rest more v low picked some same =
      ap (λ m. sum_of_phases m (sum_over (filter pick rest) v)) (nothing_added place (change old phase i) more v low (ap (λ k. sum_of_phases k (opposite_phase (old i))) (same refl) ∙ none_of_it (old i) (low_old i)))
      ∙ ap (λ b. sum_of_phases (more v) (sum_over (cond b (i ∷ filter pick rest) (filter pick rest)) v)) (sym picked)

  some_place : (g : Graph) (gate : Gate) → is_odd_phase gate ≡ true → phase_vertex g gate ≡ Some (place_number (phase_vertex g gate))
  some_place g (Phase q k) odd = refl
  some_place g (H q) odd = absurd (true≢false (sym odd))
  some_place g (Cz p q) odd = absurd (true≢false (sym odd))
  some_place g (Cx a b) odd = absurd (true≢false (sym odd))
  some_place g (Not q) odd = absurd (true≢false (sym odd))

  pub added_agrees : (i : ℕ) (g : Graph) (gates : List Gate) (more : ℕ → ℕ) (v : ℕ) → AreBelow more →
      ((j : ℕ) → old (i + j) ≡ phase_in (get_or gates j (H 0))) → ((j : ℕ) → vertex_of (i + j) ≡ place_number (get_or (places_from g gates) j None)) →
      ((j : ℕ) → pick (i + j) ≡ is_odd_phase (get_or gates j (H 0))) → ((j : ℕ) → is_odd_phase (get_or gates j (H 0)) ≡ false → phase (i + j) ≡ old (i + j)) →
      added_from phase i g gates more v ≡ sum_of_phases (more v) (sum_over (filter pick (range_with_len i (length gates))) v)
  added_agrees i g [] more v low is_old is_vertex is_picked even = sym (plus_none (more v) (low v))
  added_agrees i g (gate ∷ gates) more v low is_old is_vertex is_picked even =
      ap (λ k. added_from phase (suc i) (fold with_gate g (by_hadamards gate)) gates (added_at (phase_vertex g gate) (sum_of_phases (phase i) (opposite_phase k)) more) v) (sym (is_old 0) ∙ ap old (start i))
      ∙ added_agrees (suc i) (fold with_gate g (by_hadamards gate)) gates (added_at (phase_vertex g gate) (change old phase i) more) v (added_low (phase_vertex g gate) (change old phase i) more low)
      (λ j. ap old (sym (index i j)) ∙ is_old (suc j)) (λ j. ap vertex_of (sym (index i j)) ∙ is_vertex (suc j)) (λ j. ap pick (sym (index i j)) ∙ is_picked (suc j))
      (λ j e. ap phase (sym (index i j)) ∙ even (suc j) e ∙ ap old (index i j))
      ∙ one_added i (phase_vertex g gate) (is_odd_phase gate) (range_with_len (suc i) (length gates)) more v low (ap pick (sym (start i)) ∙ is_picked 0)
      (λ odd. some_place g gate odd ∙ ap Some (sym (is_vertex 0) ∙ ap vertex_of (start i)))
      (λ e. ap phase (sym (start i)) ∙ even 0 e ∙ ap old (start i))
      ∙ ap (λ k. sum_of_phases (more v) (sum_over (filter pick (i ∷ range_with_len k (length gates))) v)) (sym (add-one i))

-- ---- vertices that are there stay
live_step : (s : GraphSoFar) (gate : Gate) (t : GraphSoFar) (u : ℕ) → IsGateStep s gate t → IsVertex s.graph u → IsVertex t.graph u
live_step s (H q) t u c there =
    ap (λ vs. member u (ids vs)) c.peel.vertices ∙ member-insert u (spider_of_phase_zero c.peel.spider) s.graph.vertices ∙ ap (λ b. eqb u c.peel.spider || b) there ∙ or-true (eqb u c.peel.spider)
live_step s (Phase q k) t u c there = ap (λ vs. member u (ids vs)) c.peel.vertices ∙ ap (member u) (ids-with_kinds (fuse_kind c.peel.vertex k) s.graph.vertices) ∙ there
live_step s (Cz p q) t u c there = ap (λ vs. member u (ids vs)) c.peel.vertices ∙ there
live_step s (Cx a b) t u c there = absurd c
live_step s (Not q) t u c there = absurd c

live_run : (s : GraphSoFar) (gates : List Gate) (t : GraphSoFar) (u : ℕ) → IsRun s gates t → IsVertex s.graph u → IsVertex t.graph u
live_run s [] t u run there = subst (λ (k : GraphSoFar). IsVertex k.graph u) run there
live_run s (gate ∷ gates) t u run there = live_run run.0 gates t u run.2 (live_step s gate run.0 u run.1 there)

some_is : (a b : ℕ) → Some a ≡ Some b → a ≡ b
some_is a b e = cc

place_live : (s : GraphSoFar) (gate : Gate) (t : GraphSoFar) (u : ℕ) → IsReady s → IsRun s (by_hadamards gate) t → phase_vertex s.graph gate ≡ Some u → IsVertex s.graph u
place_live s (Phase q k) t u r run e =
    subst (IsVertex s.graph) (phase_here s q k run.0 run.1 ∙ some_is (last_spider s.graph q) u e) (here_live s.graph q run.1.peel.vertex r.well_formed (output_before s q k run.0 run.1))
place_live s (H q) t u r run e = absurd cc
place_live s (Cz p q) t u r run e = absurd cc
place_live s (Cx a b) t u r run e = absurd cc
place_live s (Not q) t u r run e = absurd cc

pub places_live : (gates : List Gate) (s t : GraphSoFar) (j u : ℕ) → IsReady s → IsRun s (written_out gates) t → get_or (places_from s.graph gates) j None ≡ Some u → IsVertex t.graph u
places_live [] s t j u r run e = absurd cc
places_live (gate ∷ gates) s t zero u r run e =
    let parts = cut s (by_hadamards gate) (written_out gates) t run in
    live_run parts.middle (written_out gates) t u parts.behind (live_run s (by_hadamards gate) parts.middle u parts.before (place_live s gate parts.middle u r parts.before e))
places_live (gate ∷ gates) s t (suc j) u r run e =
    let parts = cut s (by_hadamards gate) (written_out gates) t run in
    let comes = run_comes s (by_hadamards gate) parts.middle r parts.before in
    places_live gates parts.middle t j u comes.ready parts.behind (ap (λ g. get_or (places_from g gates) j None) comes.graph ∙ e)

-- a gate of an odd phase has a place
pub odd_placed : (g : Graph) (gates : List Gate) (j : ℕ) → is_odd_phase (get_or gates j (H 0)) ≡ true → get_or (places_from g gates) j None ≡ Some (place_number (get_or (places_from g gates) j None))
odd_placed g [] j odd = absurd (true≢false (sym odd))
odd_placed g (Phase q k ∷ gates) zero odd = refl
odd_placed g (H q ∷ gates) zero odd = absurd (true≢false (sym odd))
odd_placed g (Cz p q ∷ gates) zero odd = absurd (true≢false (sym odd))
odd_placed g (Cx a b ∷ gates) zero odd = absurd (true≢false (sym odd))
odd_placed g (Not q ∷ gates) zero odd = absurd (true≢false (sym odd))
odd_placed g (gate ∷ gates) (suc j) odd = odd_placed (fold with_gate g (by_hadamards gate)) gates j odd
