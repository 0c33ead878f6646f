-- Where phases are held while gates are put behind a graph, and under other names.
use Rattle.std.proofs.Common.{◌≡◌, refl, sym, ◌∙◌, ◌≢◌, ap, ap₂, subst, ℕ, Bool, true, false, cond, not, ◌&&◌, ◌||◌, eqb, ne_eqb, List, [], ◌∷◌, length, true≢false}
use Rattle.zx_model.specs.Bits.{member, xor}
use Rattle.zx_model.specs.Phase.{half_turn}
use Rattle.zx_calculus.specs.Graph.{Graph, Kind, Vertex, with_kinds, without, ids, joined, plane_of, phase_of, is_XY, is_XZ, IsVertex, WellFormed}
use Rattle.zx_calculus.specs.Gadgets.{first_of_list, IsFuseInto}
use Rattle.zx_calculus.specs.Steps.{Step, IsStep, IsRun, LocalComplement, Delete, Pivot, SplitInput, SplitOutput, DropLone, FuseInto, FuseTwin}
use Rattle.zx_calculus.proofs.Gadgets.{neighbours_into}
use Rattle.zx_calculus.proofs.Ids.{by_test, and-left, and-right, not-true, eqb-self}
use Rattle.zx_calculus.proofs.CountLemmas.{member-without_other}
use Rattle.zx_calculus.proofs.Vertices.{ids-with_kinds}
use Rattle.zx_calculus.proofs.Programs.{absent_right}
use Rattle.zx_calculus.proofs.Steps.{step_kept}
use Rattle.move_laws.specs.Orders.{is_split}
use Rattle.zx_gates.specs.Circuit.{IsOnQubits}
use Rattle.zx_gates.specs.declared.gate.Gate.{Gate}
use Rattle.teleport_laws.specs.Shifts.{negates, into_of}
use Rattle.teleport_laws.specs.Spots.{Holder, At, Deleted, Dropped, Spot, holder_after, spot_after, moved, carried}
use Rattle.growing_laws.specs.Growing.{placed, SplitNothing}
use Rattle.growing_laws.specs.Renaming.{renamed_step, IsRenamed}
use Rattle.growing_laws.specs.Internal.Holding.{named_holder, named_spot, LivesIn}
use Rattle.growing_laws.proofs.Placing.{IsPlaced, placed_is}
use Rattle.growing_laws.proofs.Renamed.{eqb-named, plane as plane-named, phase as phase-named, into-named}
use Rattle.growing_laws.proofs.RunsGrown.{run_placed}
use Rattle.growing_laws.proofs.StepsPlaced.{plane, phase, row, near, off_plane, off_YZ, step_fresh, step_on}

-- ---- a gate behind the graph
module _ (new : ℕ) (gate : Gate) (g k : Graph) (w : WellFormed g) (fresh : member new (ids g.vertices) ≡ false)
    (on : IsOnQubits (length g.outputs) gate) (P : IsPlaced new g.outputs gate g k) where
  -- the plane matters at a vertex alone
  at_vertex : (near : Bool) (test : ℕ → Graph → Bool) (v : ℕ) → (IsVertex g v → test v k ≡ test v g) → (member v (ids g.vertices) ≡ false → near ≡ false) →
      (near && test v k) ≡ (near && test v g)
  at_vertex near test v same none = by_test (member v (ids g.vertices)) (λ t. ap (λ b. near && b) (same t)) (λ f. rw (none f) refl)

  is_near : (u v : ℕ) → IsVertex g u → member v (ids g.vertices) ≡ false → (eqb v u || joined g.edges u v) ≡ false
  is_near u v there f =
      rw (ne_eqb v u (λ e. true≢false (sym there ∙ ap (λ x. member x (ids g.vertices)) (sym e) ∙ f)), absent_right g w u v f) refl

  and-none : (b : Bool) → (b && false) ≡ false
  and-none true = refl
  and-none false = refl

  pub negates_placed : (s : Step) (h : Graph) → is_split s ≡ false → IsStep g s h → (v : ℕ) → negates k s v ≡ negates g s v
  negates_placed (LocalComplement u) h none c v =
      ap (λ j. (eqb v u || j) && is_XZ (plane_of k v)) (row new gate g k w fresh on P u c.there c.interior v)
      ∙ at_vertex (eqb v u || joined g.edges u v) (λ x y. is_XZ (plane_of y x)) v (λ t. ap is_XZ (plane new gate g k w fresh on P v t)) (is_near u v c.there)
  negates_placed (Delete u) h none c v =
      let there = c.deletable.there in
      let inner = off_plane new gate g k w fresh on P u c.deletable.plane in
      ap₂ (λ p j. (eqb p half_turn && j) && not (is_XY (plane_of k v))) (phase new gate g k w fresh on P u there inner) (row new gate g k w fresh on P u there inner v)
      ∙ at_vertex (eqb (phase_of g u) half_turn && joined g.edges u v) (λ x y. not (is_XY (plane_of y x))) v
      (λ t. ap (λ p. not (is_XY p)) (plane new gate g k w fresh on P v t)) (λ f. rw (absent_right g w u v f) (and-none (eqb (phase_of g u) half_turn)))
  negates_placed (Pivot u x) h none c v =
      ap₂ (λ i j. cond (eqb v u || eqb v x) (is_XZ (plane_of k v)) ((i && j) && not (is_XY (plane_of k v))))
      (row new gate g k w fresh on P u c.there c.interior v) (row new gate g k w fresh on P x c.there_too c.interior_too v)
      ∙ by_test (member v (ids g.vertices))
      (λ t. ap (λ p. cond (eqb v u || eqb v x) (is_XZ p) ((joined g.edges u v && joined g.edges x v) && not (is_XY p))) (plane new gate g k w fresh on P v t))
      (λ f. rw (
        ne_eqb v u (λ e. true≢false (sym c.there ∙ ap (λ y. member y (ids g.vertices)) (sym e) ∙ f)),
        ne_eqb v x (λ e. true≢false (sym c.there_too ∙ ap (λ y. member y (ids g.vertices)) (sym e) ∙ f)),
        absent_right g w u v f,
      ) refl)
  negates_placed (SplitInput b) h none c v = absurd (true≢false none)
  negates_placed (SplitOutput b) h none c v = absurd (true≢false none)
  negates_placed (DropLone u) h none c v = refl
  negates_placed (FuseInto u) h none c v = refl
  negates_placed (FuseTwin u x) h none c v = refl

  pub holder_placed : (left : ℕ) (s : Step) (h : Graph) → is_split s ≡ false → IsStep g s h → (v : ℕ) → holder_after left k s v ≡ holder_after left g s v
  holder_placed left (LocalComplement u) h none c v = refl
  holder_placed left (Delete u) h none c v = refl
  holder_placed left (Pivot u x) h none c v = refl
  holder_placed left (SplitInput b) h none c v = absurd (true≢false none)
  holder_placed left (SplitOutput b) h none c v = absurd (true≢false none)
  holder_placed left (DropLone u) h none c v = refl
  holder_placed left (FuseInto u) h none c v =
      ap (λ ns. cond (eqb v u) (At (first_of_list ns)) (At v)) (near new gate g k w fresh on P u c.there (off_YZ new gate g k w fresh on P u c.plane))
  holder_placed left (FuseTwin u x) h none c v = refl

  pub moved_placed : (left : ℕ) (s : Step) (h : Graph) → is_split s ≡ false → IsStep g s h → (spot : Spot) → moved left k s spot ≡ moved left g s spot
  moved_placed left s h none c spot = at spot.holder spot.negated
    where
      at : (holder : Holder) (negated : Bool) → spot_after left k s holder negated ≡ spot_after left g s holder negated
      at (At v) negated = λ i. record { holder = holder_placed left s h none c v i; negated = xor negated (negates_placed s h none c v i) }
      at (Deleted n) negated = refl
      at Dropped negated = refl

pub carried_placed : (new : ℕ) (g : Graph) (steps : List Step) (h : Graph) (gate : Gate) (w : WellFormed g) (none : SplitNothing steps) (fresh : member new (ids g.vertices) ≡ false)
    (on : IsOnQubits (length g.outputs) gate) (run : IsRun g steps h) (spot : Spot) →
    carried (placed new g gate) steps (placed new h gate) (run_placed new g steps h gate w none fresh on run) spot ≡ carried g steps h run spot
unfolding run_placed
carried_placed new g [] h gate w none fresh on run spot = refl
carried_placed new g (s ∷ steps) h gate w none fresh on run spot =
    let no_split : is_split s ≡ false = not-true (is_split s) (and-left _ _ none) in
    ap (carried (placed new run.0 gate) steps (placed new h gate) (run_placed new run.0 steps h gate (step_kept g s run.0 w run.1) (and-right _ _ none)
    (step_fresh new g s run.0 no_split run.1 fresh) (step_on g s run.0 gate no_split run.1 on) run.2))
    (moved_placed new gate g (placed new g gate) w fresh on (placed_is g w new gate fresh on) (length steps) s run.0 no_split run.1 spot)
    ∙ carried_placed new run.0 steps h gate (step_kept g s run.0 w run.1) (and-right _ _ none)
    (step_fresh new g s run.0 no_split run.1 fresh) (step_on g s run.0 gate no_split run.1 on) run.2 (moved (length steps) g s spot)

-- ---- other names
module _ (to back : ℕ → ℕ) (g h : Graph) (wg : WellFormed g) (wh : WellFormed h) (R : IsRenamed to back g h) where
  same : (v u : ℕ) → IsVertex g v → IsVertex g u → eqb (to v) (to u) ≡ eqb v u
  same v u t s = eqb-named to back g h wg wh R v u t s

  negates-named : (s : Step) (k : Graph) → is_split s ≡ false → IsStep g s k → (v : ℕ) → IsVertex g v → negates h (renamed_step to s) (to v) ≡ negates g s v
  negates-named (LocalComplement u) k none c v t =
      ap₂ (λ e j. (e || j) && is_XZ (plane_of h (to v))) (same v u t c.there) (R.edges u v c.there t)
      ∙ ap (λ p. (eqb v u || joined g.edges u v) && is_XZ p) (plane-named to back g h wg wh R v t)
  negates-named (Delete u) k none c v t =
      ap₂ (λ p j. (eqb p half_turn && j) && not (is_XY (plane_of h (to v)))) (phase-named to back g h wg wh R u c.deletable.there) (R.edges u v c.deletable.there t)
      ∙ ap (λ p. (eqb (phase_of g u) half_turn && joined g.edges u v) && not (is_XY p)) (plane-named to back g h wg wh R v t)
  negates-named (Pivot u x) k none c v t =
      ap₂ (λ e f. cond (e || f) (is_XZ (plane_of h (to v))) ((joined h.edges (to u) (to v) && joined h.edges (to x) (to v)) && not (is_XY (plane_of h (to v)))))
      (same v u t c.there) (same v x t c.there_too)
      ∙ ap₂ (λ i j. cond (eqb v u || eqb v x) (is_XZ (plane_of h (to v))) ((i && j) && not (is_XY (plane_of h (to v)))))
      (R.edges u v c.there t) (R.edges x v c.there_too t)
      ∙ ap (λ p. cond (eqb v u || eqb v x) (is_XZ p) ((joined g.edges u v && joined g.edges x v) && not (is_XY p))) (plane-named to back g h wg wh R v t)
  negates-named (SplitInput b) k none c v t = absurd (true≢false none)
  negates-named (SplitOutput b) k none c v t = absurd (true≢false none)
  negates-named (DropLone u) k none c v t = refl
  negates-named (FuseInto u) k none c v t = refl
  negates-named (FuseTwin u x) k none c v t = refl

  -- a test that is one under both names
  by_name : (e f : Bool) (a b : Holder) → f ≡ e → cond f (named_holder to a) (named_holder to b) ≡ named_holder to (cond e a b)
  by_name true f a b q = rw q refl
  by_name false f a b q = rw q refl

  holder-named : (left : ℕ) (s : Step) (k : Graph) → is_split s ≡ false → IsStep g s k → (v : ℕ) → IsVertex g v →
      holder_after left h (renamed_step to s) (to v) ≡ named_holder to (holder_after left g s v)
  holder-named left (LocalComplement u) k none c v t = refl
  holder-named left (Delete u) k none c v t = by_name (eqb v u) (eqb (to v) (to u)) (Deleted left) (At v) (same v u t c.deletable.there)
  holder-named left (Pivot u x) k none c v t = refl
  holder-named left (SplitInput b) k none c v t = absurd (true≢false none)
  holder-named left (SplitOutput b) k none c v t = absurd (true≢false none)
  holder-named left (DropLone u) k none c v t = by_name (eqb v u) (eqb (to v) (to u)) Dropped (At v) (same v u t c.there)
  holder-named left (FuseInto u) k none c v t =
      ap (λ w. cond (eqb (to v) (to u)) (At w) (At (to v)))
      (ap first_of_list (into-named to back g h wg wh R u k c) ∙ ap (λ ns. to (first_of_list ns)) (sym (neighbours_into g u k wg c)))
      ∙ by_name (eqb v u) (eqb (to v) (to u)) (At (into_of g u)) (At v) (same v u t c.there)
  holder-named left (FuseTwin u x) k none c v t = by_name (eqb v x) (eqb (to v) (to x)) (At u) (At v) (same v x t c.there_too)

  pub moved-named : (left : ℕ) (s : Step) (k : Graph) → is_split s ≡ false → IsStep g s k → (spot : Spot) → LivesIn g spot.holder →
      moved left h (renamed_step to s) (named_spot to spot) ≡ named_spot to (moved left g s spot)
  moved-named left s k none c spot = at spot.holder spot.negated
    where
      at : (holder : Holder) (negated : Bool) → LivesIn g holder →
          spot_after left h (renamed_step to s) (named_holder to holder) negated ≡ named_spot to (spot_after left g s holder negated)
      at (At v) negated t = λ i. record { holder = holder-named left s k none c v t i; negated = xor negated (negates-named s k none c v t i) }
      at (Deleted n) negated t = refl
      at Dropped negated t = refl

-- ---- who holds a phase is a vertex still
still_in : (f : ℕ → Kind → Kind) (vs ws : List Vertex) (v : ℕ) → ws ≡ with_kinds f vs → member v (ids vs) ≡ true → member v (ids ws) ≡ true
still_in f vs ws v is t = ap (λ us. member v (ids us)) is ∙ ap (member v) (ids-with_kinds f vs) ∙ t

stays_in : (v u : ℕ) (vs : List Vertex) → eqb v u ≡ false → member v (ids vs) ≡ true → member v (ids (without u vs)) ≡ true
stays_in v u vs other t = member-without_other v u vs (λ e. true≢false (sym (eqb-self v) ∙ ap (eqb v) e ∙ other)) ∙ t

pub holder_lives : (left : ℕ) (g : Graph) (s : Step) (k : Graph) → is_split s ≡ false → WellFormed g → IsStep g s k → (v : ℕ) → IsVertex g v → LivesIn k (holder_after left g s v)
holder_lives left g (LocalComplement u) k none w c v t = still_in _ g.vertices k.vertices v c.vertices t
holder_lives left g (Delete u) k none w c v t =
    by_test (eqb v u) (λ e. rw e tt) (λ f. rw f (still_in _ (without u g.vertices) k.vertices v c.vertices (stays_in v u g.vertices f t)))
holder_lives left g (Pivot u x) k none w c v t = still_in _ g.vertices k.vertices v c.vertices t
holder_lives left g (SplitInput b) k none w c v t = absurd (true≢false none)
holder_lives left g (SplitOutput b) k none w c v t = absurd (true≢false none)
holder_lives left g (DropLone u) k none w c v t =
    by_test (eqb v u) (λ e. rw e tt) (λ f. rw f (ap (λ us. member v (ids us)) c.vertices ∙ stays_in v u g.vertices f t))
holder_lives left g (FuseInto u) k none w c v t =
    by_test (eqb v u)
    (λ e. subst (LivesIn k) (sym (ap (λ b. cond b (At (into_of g u)) (At v)) e ∙ ap (λ ns. At (first_of_list ns)) (neighbours_into g u k w c)))
    (here c.into (λ q. no_self c q) c.into_there))
    (λ f. rw f (here v (λ q. true≢false (sym (eqb-self v) ∙ ap (eqb v) q ∙ f)) t))
  where
    here : (p : ℕ) → p ≢ u → IsVertex g p → IsVertex k p
    here p other there = still_in _ (without u g.vertices) k.vertices p c.vertices (member-without_other p u g.vertices other ∙ there)

    no_self : (c : IsFuseInto g u k) → c.into ≢ u
    no_self c q = let e = sym c.into_plane ∙ ap (plane_of g) q ∙ c.plane in cc
holder_lives left g (FuseTwin u x) k none w c v t =
    by_test (eqb v x)
    (λ e. subst (LivesIn k) (sym (ap (λ b. cond b (At u) (At v)) e)) (here u c.different c.there))
    (λ f. rw f (here v (λ q. true≢false (sym (eqb-self v) ∙ ap (eqb v) q ∙ f)) t))
  where
    here : (p : ℕ) → p ≢ x → IsVertex g p → IsVertex k p
    here p other there = still_in _ (without x g.vertices) k.vertices p c.vertices (member-without_other p x g.vertices other ∙ there)
