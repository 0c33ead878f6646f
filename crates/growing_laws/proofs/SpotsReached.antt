-- Where phases are held by a graph that grows, while it is simplified.
use Rattle.std.proofs.Common.{◌≡◌, ◌≢◌, refl, sym, ◌∙◌, ap, ap₂, subst, ℕ, zero, suc, ◌<◌, Bool, true, false, cond, not, ◌&&◌, ◌||◌, eqb, ne_eqb, List, [], ◌∷◌, ◌++◌, length, get_or, true≢false, arith}
use Rattle.std.specs.List.{All}
use Rattle.std.proofs.lemmas.List.Folds.{list_all-append}
use Rattle.zx_model.specs.Bits.{member, xor}
use Rattle.zx_model.specs.Phase.{half_turn}
use Rattle.zx_calculus.specs.Graph.{XY, YZ, Graph, Vertex, End, ids, plane_of, phase_of, joined, is_XZ, is_XY, end_vertices, insert_vertex, IsVertex, WellFormed}
use Rattle.zx_calculus.specs.Splits.{spider_of_phase_zero, new_vertex}
use Rattle.zx_calculus.specs.Steps.{Step, IsStep, IsRun, LocalComplement, Delete, Pivot, SplitInput, SplitOutput, DropLone, FuseInto, FuseTwin}
use Rattle.zx_calculus.proofs.Booleans.{xor-false, and-false}
use Rattle.zx_calculus.proofs.Ids.{and-left, and-right, not-true}
use Rattle.zx_calculus.proofs.LeastFree.{least_free-fresh}
use Rattle.zx_calculus.proofs.Counting.{YZ_apart}
use Rattle.zx_calculus.proofs.Steps.{step_kept, run_kept}
use Rattle.zx_calculus.proofs.Vertices.{member-insert}
use Rattle.move_laws.specs.Orders.{is_split}
use Rattle.zx_gates.specs.Circuit.{IsOnQubits}
use Rattle.zx_gates.specs.declared.gate.Gate.{Gate}
use Rattle.circuit_graph.specs.Translation.{last_spider}
use Rattle.teleport_laws.specs.Shifts.{negates, into_of}
use Rattle.teleport_laws.specs.Spots.{Holder, At, Deleted, Dropped, Spot, spot_at, holder_after, spot_after, moved, carried}
use Rattle.teleport_laws.specs.Groups.{same_holder, is_dropped, teleported}
use Rattle.teleport_laws.proofs.Carrying.{AreBelow}
use Rattle.teleport_laws.proofs.Forwards.{teleported-alike, later_spot, one_later, moved-later, length-longer}
use Rattle.growing_laws.specs.Growing.{placed, ids_after, SplitNothing, IsBasic}
use Rattle.growing_laws.specs.Growth.{Reaches, ComesFrom, graph_of_gates}
use Rattle.growing_laws.specs.Internal.Holding.{named_holder, named_spot, LivesIn, run_spot, reached_spot}
use Rattle.growing_laws.specs.Renaming.{renamed_ends, renamed_step, with_name, IsRenamed}
use Rattle.growing_laws.proofs.GrownGraphs.{base_growing, reached, longer, gate_renamed}
use Rattle.growing_laws.proofs.Parts.{spot_there}
use Rattle.growing_laws.proofs.Peeled.{fresh_above}
use Rattle.growing_laws.proofs.Placing.{output_XY, output_live, placed_is}
use Rattle.growing_laws.proofs.Renamed.{eqb-named, step_renamed}
use Rattle.growing_laws.proofs.Renamings.{split_input_renamed, split_output_renamed}
use Rattle.growing_laws.proofs.RunsGrown.{run_append, run_placed, run_outputs}
use Rattle.growing_laws.proofs.SameButNames.{named_back}
use Rattle.growing_laws.proofs.SpotsGrown.{carried_placed, holder_lives, moved-named}
use Rattle.growing_laws.proofs.StepsPlaced.{live, step_frame}

-- ---- a step at the end of a run
pub carried-then : (g : Graph) (steps : List Step) (h : Graph) (t : Step) (k : Graph) (run : IsRun g steps h) (step : IsStep h t k) (spot : Spot) →
    carried g (steps ++ t ∷ []) k (run_append g steps h (t ∷ []) k run (k, step, refl)) (later_spot spot) ≡ moved 0 h t (later_spot (carried g steps h run spot))
unfolding run_append
carried-then g [] h t k run step spot = ap (λ x. moved 0 x t (later_spot spot)) run
carried-then g (s ∷ steps) h t k run step spot =
    ap (λ n. carried run.0 (steps ++ t ∷ []) k (run_append run.0 steps h (t ∷ []) k run.2 (k, step, refl)) (moved n g s (later_spot spot))) (length-longer steps t)
    ∙ ap (carried run.0 (steps ++ t ∷ []) k (run_append run.0 steps h (t ∷ []) k run.2 (k, step, refl))) (moved-later (length steps) g s spot.holder spot.negated)
    ∙ carried-then run.0 steps h t k run.2 step (moved (length steps) g s spot)

-- ---- who holds is a vertex still
added_in : (v new : ℕ) (vs ws : List Vertex) → ws ≡ insert_vertex (spider_of_phase_zero new) vs → member v (ids vs) ≡ true → member v (ids ws) ≡ true
added_in v new vs ws is there =
    ap (λ us. member v (ids us)) is ∙ member-insert v (spider_of_phase_zero new) vs ∙ later (eqb v new) there
  where
    later : (b : Bool) → member v (ids vs) ≡ true → (b || member v (ids vs)) ≡ true
    later true t = refl
    later false t = t

holder_stays : (left : ℕ) (g : Graph) (s : Step) (k : Graph) → WellFormed g → IsStep g s k → (v : ℕ) → IsVertex g v → LivesIn k (holder_after left g s v)
holder_stays left g (LocalComplement u) k w c v there = holder_lives left g (LocalComplement u) k refl w c v there
holder_stays left g (Delete u) k w c v there = holder_lives left g (Delete u) k refl w c v there
holder_stays left g (Pivot u x) k w c v there = holder_lives left g (Pivot u x) k refl w c v there
holder_stays left g (SplitInput b) k w c v there = added_in v (new_vertex g) g.vertices k.vertices c.vertices there
holder_stays left g (SplitOutput b) k w c v there = added_in v (new_vertex g) g.vertices k.vertices c.vertices there
holder_stays left g (DropLone u) k w c v there = holder_lives left g (DropLone u) k refl w c v there
holder_stays left g (FuseInto u) k w c v there = holder_lives left g (FuseInto u) k refl w c v there
holder_stays left g (FuseTwin u x) k w c v there = holder_lives left g (FuseTwin u x) k refl w c v there

moved-lives : (left : ℕ) (g : Graph) (s : Step) (k : Graph) → WellFormed g → IsStep g s k → (spot : Spot) → LivesIn g spot.holder → LivesIn k (moved left g s spot).holder
moved-lives left g s k w c spot = at spot.holder spot.negated
  where
    at : (holder : Holder) (negated : Bool) → LivesIn g holder → LivesIn k (spot_after left g s holder negated).holder
    at (At v) negated there = holder_stays left g s k w c v there
    at (Deleted n) negated there = tt
    at Dropped negated there = tt

later-lives : (g : Graph) (holder : Holder) → LivesIn g holder → LivesIn g (one_later holder)
later-lives g (At v) there = there
later-lives g (Deleted n) there = tt
later-lives g Dropped there = tt

-- ---- names
named-later : (to : ℕ → ℕ) (holder : Holder) → one_later (named_holder to holder) ≡ named_holder to (one_later holder)
named-later to (At v) = refl
named-later to (Deleted n) = refl
named-later to Dropped = refl

named-spot-later : (to : ℕ → ℕ) (spot : Spot) → later_spot (named_spot to spot) ≡ named_spot to (later_spot spot)
named-spot-later to spot = λ i. record { holder = named-later to spot.holder i; negated = spot.negated }

module _ (to back : ℕ → ℕ) (g h : Graph) (R : IsRenamed to back g h) where
  named-lives : (holder : Holder) → LivesIn g holder → LivesIn h (named_holder to holder)
  named-lives (At v) there = R.there v there
  named-lives (Deleted n) there = tt
  named-lives Dropped there = tt

  holder_back : (holder : Holder) → LivesIn g holder → named_holder back (named_holder to holder) ≡ holder
  holder_back (At v) there = ap At (R.same v there)
  holder_back (Deleted n) there = refl
  holder_back Dropped there = refl

  spot_back : (spot : Spot) → LivesIn g spot.holder → named_spot back (named_spot to spot) ≡ spot
  spot_back spot there = λ i. record { holder = holder_back spot.holder there i; negated = spot.negated }

named-same : (g : Graph) (to later : ℕ → ℕ) → ((v : ℕ) → IsVertex g v → later v ≡ to v) → (spot : Spot) → LivesIn g spot.holder → named_spot later spot ≡ named_spot to spot
named-same g to later same spot there = λ i. record { holder = at spot.holder there i; negated = spot.negated }
  where
    at : (holder : Holder) → LivesIn g holder → named_holder later holder ≡ named_holder to holder
    at (At v) t = ap At (same v t)
    at (Deleted n) t = refl
    at Dropped t = refl

-- a split moves no phase
moved-split : (left : ℕ) (g : Graph) (s : Step) → is_split s ≡ true → (spot : Spot) → moved left g s spot ≡ spot
moved-split left g s split spot = at spot.holder spot.negated s split
  where
    at : (holder : Holder) (negated : Bool) (s : Step) → is_split s ≡ true → spot_after left g s holder negated ≡ record { holder = holder; negated = negated }
    at (At v) negated (SplitInput b) split = λ i. record { holder = At v; negated = xor-false negated i }
    at (At v) negated (SplitOutput b) split = λ i. record { holder = At v; negated = xor-false negated i }
    at (At v) negated (LocalComplement u) split = absurd (true≢false (sym split))
    at (At v) negated (Delete u) split = absurd (true≢false (sym split))
    at (At v) negated (Pivot u x) split = absurd (true≢false (sym split))
    at (At v) negated (DropLone u) split = absurd (true≢false (sym split))
    at (At v) negated (FuseInto u) split = absurd (true≢false (sym split))
    at (At v) negated (FuseTwin u x) split = absurd (true≢false (sym split))
    at (Deleted n) negated s split = refl
    at Dropped negated s split = refl

-- ---- a step of a graph, in the graph of which it is the same under other names
record Follows (to : ℕ → ℕ) (g h : Graph) (s : Step) (k : Graph) : Type 0 where
  step : Step
  graph : Graph
  taken : IsStep g step graph
  name : ℕ → ℕ
  back : ℕ → ℕ
  renamed : IsRenamed name back graph k
  split : is_split step ≡ is_split s
  spots : (spot : Spot) → LivesIn g spot.holder → named_spot name (moved 0 g step spot) ≡ moved 0 h s (named_spot to spot)

still_none : (to : ℕ → ℕ) (t : Step) → is_split (renamed_step to t) ≡ is_split t
still_none to (LocalComplement u) = refl
still_none to (Delete u) = refl
still_none to (Pivot u v) = refl
still_none to (SplitInput b) = refl
still_none to (SplitOutput b) = refl
still_none to (DropLone u) = refl
still_none to (FuseInto u) = refl
still_none to (FuseTwin u v) = refl

module _ (to back : ℕ → ℕ) (g h : Graph) (wg : WellFormed g) (wh : WellFormed h) (R : IsRenamed to back g h) where
  turned : IsRenamed back to h g
  turned = named_back to back g h wg R

  plain_follows : (s : Step) (k : Graph) → is_split s ≡ false → IsStep h s k → Follows to g h s k
  plain_follows s k none c = record {
    step = renamed_step back s;
    graph = taken.0;
    taken = taken.1;
    name = to;
    back = back;
    renamed = after;
    split = still_none back s;
    spots = λ spot lives.
        let held : LivesIn h (named_holder to spot.holder) = named-lives to back g h R spot.holder lives in
        ap (λ x. named_spot to (moved 0 g (renamed_step back s) x)) (sym (spot_back to back g h R spot lives))
        ∙ ap (named_spot to) (moved-named back to h g wh wg turned 0 s k none c (named_spot to spot) held)
        ∙ spot_back back to k taken.0 taken.2 (moved 0 h s (named_spot to spot)) (moved-lives 0 h s k wh c (named_spot to spot) held);
  }
    where
      taken : (x : Graph) × IsStep g (renamed_step back s) x × IsRenamed back to k x
      taken = step_renamed back to h g wh wg turned s k none c

      after : IsRenamed to back taken.0 k
      after = named_back back to k taken.0 (step_kept h s k wh c) taken.2

  -- where the step is a split the new vertex has a name more
  split_follows : (s t : Step) (k x : Graph) → is_split s ≡ true → is_split t ≡ true → IsStep h s k → IsStep g t x →
      IsRenamed (with_name (new_vertex h) (new_vertex g) back) (with_name (new_vertex g) (new_vertex h) to) k x → Follows to g h s k
  split_follows s t k x split split_too c d named = record {
    step = t;
    graph = x;
    taken = d;
    name = with_name (new_vertex g) (new_vertex h) to;
    back = with_name (new_vertex h) (new_vertex g) back;
    renamed = named_back (with_name (new_vertex h) (new_vertex g) back) (with_name (new_vertex g) (new_vertex h) to) k x (step_kept h s k wh c) named;
    split = split_too ∙ sym split;
    spots = λ spot lives.
        ap (named_spot (with_name (new_vertex g) (new_vertex h) to)) (moved-split 0 g t split_too spot)
        ∙ named-same g to (with_name (new_vertex g) (new_vertex h) to)
        (λ v live. ap (λ b. cond b (new_vertex h) (to v)) (ne_eqb v (new_vertex g) (λ e. true≢false
        (sym live ∙ ap (λ u. member u (ids g.vertices)) e ∙ least_free-fresh (ids g.vertices) wg.vertices_rising)))) spot lives
        ∙ sym (moved-split 0 h s split (named_spot to spot));
  }

  follows : (s : Step) (k : Graph) → IsStep h s k → Follows to g h s k
  follows (LocalComplement u) k c = plain_follows (LocalComplement u) k refl c
  follows (Delete u) k c = plain_follows (Delete u) k refl c
  follows (Pivot u v) k c = plain_follows (Pivot u v) k refl c
  follows (SplitInput b) k c =
      let made = split_input_renamed back to h g wh wg turned b k c in
      split_follows (SplitInput b) (SplitInput (back b)) k made.0 refl refl c made.1 made.2
  follows (SplitOutput b) k c =
      let made = split_output_renamed back to h g wh wg turned b k c in
      split_follows (SplitOutput b) (SplitOutput (back b)) k made.0 refl refl c made.1 made.2
  follows (DropLone u) k c = plain_follows (DropLone u) k refl c
  follows (FuseInto u) k c = plain_follows (FuseInto u) k refl c
  follows (FuseTwin u v) k c = plain_follows (FuseTwin u v) k refl c

-- ---- a step more of the graph that is reached
-- the spots move as the step tells
pub record MovesSpots (g h : Graph) (r : Reaches g h) (s : Step) (k : Graph) (q : Reaches g k) : Type 0 where
  pub lives : (v : ℕ) → LivesIn r.graph (run_spot g h r v).holder → LivesIn q.graph (run_spot g k q v).holder
  pub spots : (v : ℕ) → LivesIn r.graph (run_spot g h r v).holder → reached_spot g k q v ≡ moved 0 h s (later_spot (reached_spot g h r v))

pub record ReachesOn (g h : Graph) (r : Reaches g h) (s : Step) (k : Graph) : Type 0 where
  pub reaches : Reaches g k
  pub no_split : SplitNothing r.steps → is_split s ≡ false → SplitNothing reaches.steps
  pub moves : MovesSpots g h r s k reaches

pub reached_step : (g h : Graph) → WellFormed g → WellFormed h → (r : Reaches g h) (s : Step) (k : Graph) → IsStep h s k → ReachesOn g h r s k
reached_step g h wg wh r s k c = record {
  reaches = record {
    steps = r.steps ++ f.step ∷ [];
    graph = f.graph;
    run = run_append g r.steps r.graph (f.step ∷ []) f.graph r.run (f.graph, f.taken, refl);
    to = f.name;
    back = f.back;
    renamed = f.renamed;
  };
  no_split = λ before none. list_all-append (λ t. not (is_split t)) r.steps (f.step ∷ [])
      ∙ both _ _ before (both _ _ (ap not (f.split ∙ none)) refl);
  moves = record {
    lives = λ v lives. subst (λ (spot : Spot). LivesIn f.graph spot.holder) (sym (ends v))
        (moved-lives 0 r.graph f.step f.graph formed f.taken (later_spot (run_spot g h r v)) (later-lives r.graph (run_spot g h r v).holder lives));
    spots = λ v lives.
        ap (named_spot f.name) (ends v) ∙ f.spots (later_spot (run_spot g h r v)) (later-lives r.graph (run_spot g h r v).holder lives)
        ∙ ap (moved 0 h s) (sym (named-spot-later r.to (run_spot g h r v)));
  };
}
  where
    formed : WellFormed r.graph
    formed = run_kept g r.steps r.graph wg r.run

    f : Follows r.to r.graph h s k
    f = follows r.to r.back r.graph h formed wh r.renamed s k c

    ends : (v : ℕ) → carried g (r.steps ++ f.step ∷ []) f.graph (run_append g r.steps r.graph (f.step ∷ []) f.graph r.run (f.graph, f.taken, refl)) (spot_at v)
        ≡ moved 0 r.graph f.step (later_spot (run_spot g h r v))
    ends v = carried-then g r.steps r.graph f.step f.graph r.run f.taken (spot_at v)

    both : (a b : Bool) → a ≡ true → b ≡ true → (a && b) ≡ true
    both a b s t = rw (s, t) refl

-- ---- a gate more
-- the spots stay
pub record KeepsSpots (g h : Graph) (r : Reaches g h) (g' h' : Graph) (q : Reaches g' h') : Type 0 where
  pub lives : (v : ℕ) → LivesIn r.graph (run_spot g h r v).holder → LivesIn q.graph (run_spot g' h' q v).holder
  pub spots : (v : ℕ) → LivesIn r.graph (run_spot g h r v).holder → reached_spot g' h' q v ≡ reached_spot g h r v

pub record ReachesBehind (g h : Graph) (r : Reaches g h) (g' h' : Graph) : Type 0 where
  pub reaches : Reaches g' h'
  pub no_split : SplitNothing reaches.steps
  pub keeps : KeepsSpots g h r g' h' reaches

module _ (n : ℕ) (gates : List Gate) (on : All (IsOnQubits n) gates) where
  base : Graph
  base = graph_of_gates n gates

  pub reached_gate : (new : ℕ) (h : Graph) (gate : Gate) → WellFormed h → member new (ids h.vertices) ≡ false → (c : ComesFrom n gates h) → IsBasic gate → IsOnQubits n gate →
      ReachesBehind (graph_of_gates n gates) h c.reaches (graph_of_gates n (gates ++ gate ∷ [])) (placed new h gate)
  reached_gate new h gate w fresh c basic here =
      subst (λ b. ReachesBehind (graph_of_gates n gates) h c.reaches b (placed new h gate)) (longer n gates on gate) (record {
        reaches = record {
          steps = c.reaches.steps;
          graph = placed (ids_after n gates) c.reaches.graph gate;
          run = run;
          to = names.0;
          back = names.1;
          renamed = names.2;
        };
        no_split = c.no_split;
        keeps = record {
          lives = λ v lives. subst (λ (spot : Spot). LivesIn (placed (ids_after n gates) c.reaches.graph gate) spot.holder) (sym (same v)) (still (run_spot (graph_of_gates n gates) h c.reaches v).holder lives);
          spots = λ v lives. ap (named_spot names.0) (same v) ∙ named-same c.reaches.graph c.reaches.to names.0 names.3 (run_spot (graph_of_gates n gates) h c.reaches v) lives;
        };
      })
    where
      here_on : IsOnQubits (length (graph_of_gates n gates).outputs) gate
      here_on = subst (λ m. IsOnQubits m gate) (sym (base_growing n gates on).outputs) here

      free : member (ids_after n gates) (ids (graph_of_gates n gates).vertices) ≡ false
      free = fresh_above (ids_after n gates) (graph_of_gates n gates) (base_growing n gates on).below

      run : IsRun (placed (ids_after n gates) (graph_of_gates n gates) gate) c.reaches.steps (placed (ids_after n gates) c.reaches.graph gate)
      run = run_placed (ids_after n gates) (graph_of_gates n gates) c.reaches.steps c.reaches.graph gate (base_growing n gates on).well_formed c.no_split free here_on c.reaches.run

      names : (to' : ℕ → ℕ) × (back' : ℕ → ℕ) × IsRenamed to' back' (placed (ids_after n gates) c.reaches.graph gate) (placed new h gate)
          × ((v : ℕ) → IsVertex c.reaches.graph v → to' v ≡ c.reaches.to v)
      names = gate_renamed n gates on c.reaches.to c.reaches.back c.reaches.graph h (ids_after n gates) new gate (reached n gates on h c) w fresh c.reaches.renamed basic here

      same : (v : ℕ) → carried (placed (ids_after n gates) (graph_of_gates n gates) gate) c.reaches.steps (placed (ids_after n gates) c.reaches.graph gate) run (spot_at v)
          ≡ run_spot (graph_of_gates n gates) h c.reaches v
      same v = carried_placed (ids_after n gates) (graph_of_gates n gates) c.reaches.steps c.reaches.graph gate (base_growing n gates on).well_formed c.no_split free here_on c.reaches.run (spot_at v)

      still : (holder : Holder) → LivesIn c.reaches.graph holder → LivesIn (placed (ids_after n gates) c.reaches.graph gate) holder
      still (At v) there = live (ids_after n gates) gate c.reaches.graph (placed (ids_after n gates) c.reaches.graph gate) (reached n gates on h c).well_formed
          (fresh_above (ids_after n gates) c.reaches.graph (reached n gates on h c).below) (subst (λ m. IsOnQubits m gate) (sym (reached n gates on h c).outputs) here)
          (placed_is c.reaches.graph (reached n gates on h c).well_formed (ids_after n gates) gate (fresh_above (ids_after n gates) c.reaches.graph (reached n gates on h c).below)
          (subst (λ m. IsOnQubits m gate) (sym (reached n gates on h c).outputs) here)) v there
      still (Deleted m) there = tt
      still Dropped there = tt

-- ---- at an output
-- a vertex with an output holds its phase still
module _ (left : ℕ) (g : Graph) (w : WellFormed g) (v : ℕ) (out : member v (end_vertices g.outputs) ≡ true) where
  plane_out : plane_of g v ≡ XY
  plane_out = output_XY g w v out

  -- it isn't one that goes
  other_plane : (u : ℕ) → plane_of g u ≢ XY → eqb v u ≡ false
  other_plane u off = ne_eqb v u (λ e. off (ap (plane_of g) (sym e) ∙ plane_out))

  gadget_apart : (u : ℕ) → plane_of g u ≡ YZ → eqb v u ≡ false
  gadget_apart u e = other_plane u (YZ_apart _ e)

  same_spot : (s : Step) → holder_after left g s v ≡ At v → negates g s v ≡ false → moved left g s (spot_at v) ≡ spot_at v
  same_spot s at plain = λ i. record { holder = at i; negated = (ap (xor false) plain) i }

  no_sign : (b : Bool) → (b && not (is_XY (plane_of g v))) ≡ false
  no_sign b = ap (λ p. b && not (is_XY p)) plane_out ∙ and-false b

  output_holds : (s : Step) (k : Graph) → is_split s ≡ false → IsStep g s k → moved left g s (spot_at v) ≡ spot_at v
  output_holds (LocalComplement u) k none c =
      same_spot (LocalComplement u) refl (ap (λ p. (eqb v u || joined g.edges u v) && is_XZ p) plane_out ∙ and-false (eqb v u || joined g.edges u v))
  output_holds (Delete u) k none c = same_spot (Delete u) (ap (λ b. cond b (Deleted left) (At v)) (other_plane u c.deletable.plane)) (no_sign (eqb (phase_of g u) half_turn && joined g.edges u v))
  output_holds (Pivot u x) k none c =
      same_spot (Pivot u x) refl
      (ap₂ (λ p q. cond (eqb v u || eqb v x) p q) (ap is_XZ plane_out) (no_sign (joined g.edges u v && joined g.edges x v)) ∙ either (eqb v u || eqb v x))
    where
      either : (b : Bool) → cond b false false ≡ false
      either true = refl
      either false = refl
  output_holds (SplitInput b) k none c = absurd (true≢false none)
  output_holds (SplitOutput b) k none c = absurd (true≢false none)
  output_holds (DropLone u) k none c = same_spot (DropLone u) (ap (λ b. cond b Dropped (At v)) (gadget_apart u c.plane)) refl
  output_holds (FuseInto u) k none c = same_spot (FuseInto u) (ap (λ b. cond b (At (into_of g u)) (At v)) (gadget_apart u c.plane)) refl
  output_holds (FuseTwin u x) k none c = same_spot (FuseTwin u x) (ap (λ b. cond b (At u) (At v)) (gadget_apart x c.plane_too)) refl

output_stays : (g : Graph) (steps : List Step) (h : Graph) (run : IsRun g steps h) → WellFormed g → SplitNothing steps → (v : ℕ) → member v (end_vertices g.outputs) ≡ true →
    carried g steps h run (spot_at v) ≡ spot_at v
output_stays g [] h run w none v out = refl
output_stays g (s ∷ steps) h run w none v out =
    let no_split : is_split s ≡ false = not-true (is_split s) (and-left _ _ none) in
    ap (carried run.0 steps h run.2) (output_holds (length steps) g w v out s run.0 no_split run.1)
    ∙ output_stays run.0 steps h run.2 (step_kept g s run.0 w run.1) (and-right _ _ none) v
    (subst (λ es. member v (end_vertices es) ≡ true) (sym (step_frame g s run.0 no_split run.1).outputs) out)

-- what is at an output of the graph of the gates is at that of the graph that is reached
pub record IsAtOutput (g h : Graph) (r : Reaches g h) (q : ℕ) : Type 0 where
  pub lives : LivesIn r.graph (run_spot g h r (last_spider g q)).holder
  pub spot : reached_spot g h r (last_spider g q) ≡ spot_at (last_spider h q)

get_or-named : (to : ℕ → ℕ) (es : List End) (q : ℕ) → q < length es → get_or (end_vertices (renamed_ends to es)) q 0 ≡ to (get_or (end_vertices es) q 0)
get_or-named to [] q within = absurd (omega (arith, within))
get_or-named to (e ∷ es) zero within = refl
get_or-named to (e ∷ es) (suc q) within = get_or-named to es q (omega (arith, within))

pub reached_output : (g h : Graph) → WellFormed g → (r : Reaches g h) → SplitNothing r.steps → (q : ℕ) → q < length g.outputs → IsAtOutput g h r q
reached_output g h w r none q within = record {
  lives = subst (λ (spot : Spot). LivesIn r.graph spot.holder) (sym stays)
      (output_live r.graph (run_kept g r.steps r.graph w r.run) v (subst (λ es. member v (end_vertices es) ≡ true) (sym outputs) out));
  spot = ap (named_spot r.to) stays ∙ ap spot_at (sym there);
}
  where
    v : ℕ
    v = last_spider g q

    out : member (last_spider g q) (end_vertices g.outputs) ≡ true
    out = spot_there g.outputs q within

    outputs : r.graph.outputs ≡ g.outputs
    outputs = run_outputs g r.steps r.graph none r.run

    stays : run_spot g h r (last_spider g q) ≡ spot_at (last_spider g q)
    stays = output_stays g r.steps r.graph r.run w none (last_spider g q) out

    there : last_spider h q ≡ r.to (last_spider g q)
    there =
        ap (λ es. get_or (end_vertices es) q 0) (r.renamed.outputs ∙ ap (renamed_ends r.to) outputs)
        ∙ get_or-named r.to g.outputs q within

-- ---- at the end the names go
module _ (to back : ℕ → ℕ) (g h : Graph) (wg : WellFormed g) (wh : WellFormed h) (R : IsRenamed to back g h) where
  same_holder-named : (one other : Holder) → LivesIn g one → LivesIn g other → same_holder (named_holder to one) (named_holder to other) ≡ same_holder one other
  same_holder-named (At v) (At u) a b = eqb-named to back g h wg wh R v u a b
  same_holder-named (At v) (Deleted n) a b = refl
  same_holder-named (At v) Dropped a b = refl
  same_holder-named (Deleted m) (At u) a b = refl
  same_holder-named (Deleted m) (Deleted n) a b = refl
  same_holder-named (Deleted m) Dropped a b = refl
  same_holder-named Dropped (At u) a b = refl
  same_holder-named Dropped (Deleted n) a b = refl
  same_holder-named Dropped Dropped a b = refl

dropped-named : (to : ℕ → ℕ) (holder : Holder) → is_dropped (named_holder to holder) ≡ is_dropped holder
dropped-named to (At v) = refl
dropped-named to (Deleted n) = refl
dropped-named to Dropped = refl

-- phases that are put together by the names of the graph that is reached are so by those of the run
pub teleported-named : (g h : Graph) → WellFormed g → WellFormed h → (r : Reaches g h) (phase vertex_of : ℕ → ℕ) (gates : List ℕ) (i : ℕ) → AreBelow phase →
    ((j : ℕ) → member j gates ≡ true → LivesIn r.graph (run_spot g h r (vertex_of j)).holder) → member i gates ≡ true →
    teleported phase (λ j. reached_spot g h r (vertex_of j)) gates i ≡ teleported phase (λ j. run_spot g h r (vertex_of j)) gates i
teleported-named g h wg wh r phase vertex_of gates i low lives there =
    teleported-alike phase (λ j. run_spot g h r (vertex_of j)) (λ j. reached_spot g h r (vertex_of j)) false gates i low
    (λ j at. record {
      same = same_holder-named r.to r.back r.graph h (run_kept g r.steps r.graph wg r.run) wh r.renamed
          (run_spot g h r (vertex_of j)).holder (run_spot g h r (vertex_of i)).holder (lives j at) (lives i there);
      negated = λ same. sym (xor-false (run_spot g h r (vertex_of j)).negated);
    })
    (sym (xor-false (run_spot g h r (vertex_of i)).negated)) (dropped-named r.to (run_spot g h r (vertex_of i)).holder)
