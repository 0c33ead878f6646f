-- Runs of rewrites carry added phases along, and which phases are looked at.
use Rattle.std.proofs.Common.{◌≡◌, ◌≢◌, refl, sym, ◌∙◌, ap, ap₂, subst, ℕ, suc, ◌<◌, ◌≤◌, Bool, true, false, cond, not, ◌&&◌, eqb, List, [], ◌∷◌, length, true≢false, ne_eqb, arith}
use Rattle.zx_model.specs.Phase.{turn, half_turn, sum_of_phases}
use Rattle.zx_model.specs.Bits.{xor, member}
use Rattle.zx_calculus.specs.Graph.{Kind, Vertex, Graph, ids, phase_of, plane_of, is_XY, with_kinds, without, insert_vertex, IsVertex, WellFormed}
use Rattle.zx_calculus.specs.Turns.{with_phase_added}
use Rattle.zx_calculus.specs.Steps.{Step, LocalComplement, Delete, Pivot, SplitInput, SplitOutput, DropLone, FuseInto, FuseTwin, IsStep, IsRun}
use Rattle.zx_calculus.specs.Gadgets.{first_of_list}
use Rattle.zx_calculus.proofs.Ids.{by_equal, eqb-self, or-right}
use Rattle.zx_calculus.proofs.Splitting.{no_loop}
use Rattle.zx_calculus.proofs.Vertices.{ids-with_kinds, member-insert}
use Rattle.zx_calculus.proofs.StepIdentities.{with_kinds-kept}
use Rattle.zx_calculus.proofs.CountLemmas.{member-without_other}
use Rattle.zx_calculus.proofs.Gadgets.{neighbours_into}
use Rattle.zx_calculus.proofs.Steps.{step_kept}
use Rattle.teleport_laws.specs.Shifts.{add_kind, shifted, IsShift, signed, negates, into_of, joined_phases, more_after, IsFree}
use Rattle.teleport_laws.specs.Spots.{Holder, At, Deleted, Dropped, Spot, spot_after, moved, carried}
use Rattle.teleport_laws.specs.Groups.{same_holder, part, held, IsBalanced}
use Rattle.teleport_laws.proofs.Shifting.{step_carries, plus_none}
use Rattle.teleport_laws.proofs.Carrying.{signed-none, signed-below, AreBelow, zero_low, cond-below, step_apart, after_held}
use Rattle.zx_calculus.proofs.Kept.{sum_below}

-- ---- phases stay below a turn, and where vertices are
joined_low : (u into : ℕ) (more : ℕ → ℕ) (v : ℕ) → AreBelow more → joined_phases u into more v < turn
joined_low u into more v low = cond-below (eqb v u) _ _ zero_low (cond-below (eqb v into) _ _ (sum_below (more into) (more u)) (low v))

after_low : (g : Graph) (s : Step) (more : ℕ → ℕ) (v : ℕ) → AreBelow more → more_after g s more v < turn
after_low g (LocalComplement u) more v low = signed-below (negates g (LocalComplement u) v) (more v) (low v)
after_low g (Delete u) more v low = cond-below (eqb v u) _ _ zero_low (signed-below (negates g (Delete u) v) (more v) (low v))
after_low g (Pivot u w) more v low = signed-below (negates g (Pivot u w) v) (more v) (low v)
after_low g (SplitInput b) more v low = low v
after_low g (SplitOutput b) more v low = low v
after_low g (DropLone u) more v low = cond-below (eqb v u) _ _ zero_low (low v)
after_low g (FuseInto u) more v low = joined_low u (into_of g u) more v low
after_low g (FuseTwin u w) more v low = joined_low w u more v low

-- a phase that is nothing stays nothing, negated or not
signed_nothing : (b : Bool) (k : ℕ) → k ≡ 0 → signed b k ≡ 0
signed_nothing b k e = ap (signed b) e ∙ signed-none b

out_nothing : (v u : ℕ) (x : ℕ) → (v ≢ u → x ≡ 0) → cond (eqb v u) 0 x ≡ 0
out_nothing v u x none = by_equal v u (λ t e. rw t refl) (λ t n. rw t (none n))

-- no vertex before where there is none after, but for the one that went
stays_absent : (f : ℕ → Kind → Kind) (vs ws : List Vertex) (v : ℕ) → ws ≡ with_kinds f vs → member v (ids ws) ≡ false → member v (ids vs) ≡ false
stays_absent f vs ws v e absent = sym (ap (member v) (ap ids e ∙ ids-with_kinds f vs)) ∙ absent

absent_before : (f : ℕ → Kind → Kind) (u : ℕ) (vs ws : List Vertex) (v : ℕ) → ws ≡ with_kinds f (without u vs) → member v (ids ws) ≡ false → v ≢ u → member v (ids vs) ≡ false
absent_before f u vs ws v e absent apart = sym (member-without_other v u vs apart) ∙ stays_absent f (without u vs) ws v e absent

insert_absent : (n : Vertex) (vs ws : List Vertex) (v : ℕ) → ws ≡ insert_vertex n vs → member v (ids ws) ≡ false → member v (ids vs) ≡ false
insert_absent n vs ws v e absent = or-right (eqb v n.id) _ (sym (member-insert v n vs) ∙ sym (ap (λ zs. member v (ids zs)) e) ∙ absent)

-- a vertex that is there is no absent one
into_apart : (g : Graph) (into v : ℕ) → IsVertex g into → member v (ids g.vertices) ≡ false → v ≢ into
into_apart g into v there absent e = true≢false (sym there ∙ ap (λ u. member u (ids g.vertices)) (sym e) ∙ absent)

fused_absent : (g : Graph) (u into : ℕ) (more : ℕ → ℕ) (v : ℕ) → IsShift g more → IsVertex g into → (v ≢ u → member v (ids g.vertices) ≡ false) → joined_phases u into more v ≡ 0
fused_absent g u into more v shift there before =
    out_nothing v u _ (λ apart. ap (λ b. cond b (sum_of_phases (more into) (more u)) (more v)) (ne_eqb v into (into_apart g into v there (before apart))) ∙ shift.absent v (before apart))

after_absent : (g : Graph) (s : Step) (h : Graph) (more : ℕ → ℕ) (v : ℕ) → WellFormed g → IsStep g s h → IsShift g more → member v (ids h.vertices) ≡ false → more_after g s more v ≡ 0
after_absent g (LocalComplement u) h more v w c shift absent = signed_nothing (negates g (LocalComplement u) v) _ (shift.absent v (stays_absent _ g.vertices h.vertices v c.vertices absent))
after_absent g (Delete u) h more v w c shift absent =
    out_nothing v u _ (λ apart. signed_nothing (negates g (Delete u) v) _ (shift.absent v (absent_before _ u g.vertices h.vertices v c.vertices absent apart)))
after_absent g (Pivot u z) h more v w c shift absent = signed_nothing (negates g (Pivot u z) v) _ (shift.absent v (stays_absent _ g.vertices h.vertices v c.vertices absent))
after_absent g (SplitInput b) h more v w c shift absent = shift.absent v (insert_absent _ g.vertices h.vertices v c.vertices absent)
after_absent g (SplitOutput b) h more v w c shift absent = shift.absent v (insert_absent _ g.vertices h.vertices v c.vertices absent)
after_absent g (DropLone u) h more v w c shift absent =
    out_nothing v u _ (λ apart. shift.absent v (sym (member-without_other v u g.vertices apart) ∙ sym (ap (λ vs. member v (ids vs)) c.vertices) ∙ absent))
after_absent g (FuseInto u) h more v w c shift absent =
    fused_absent g u (into_of g u) more v shift (ap (λ x. member x (ids g.vertices)) (ap first_of_list (neighbours_into g u h w c)) ∙ c.into_there)
    (λ apart. absent_before _ u g.vertices h.vertices v c.vertices absent apart)
after_absent g (FuseTwin u z) h more v w c shift absent =
    fused_absent g z u more v shift c.there (λ apart. absent_before _ z g.vertices h.vertices v c.vertices absent apart)

pub step_shift : (g : Graph) (s : Step) (h : Graph) (more : ℕ → ℕ) → WellFormed g → IsStep g s h → IsShift g more → IsShift h (more_after g s more)
step_shift g s h more w c shift = record {
  below = λ v. after_low g s more v shift.below;
  absent = λ v absent. after_absent g s h more v w c shift absent;
}

-- ---- which gates a deleted vertex held
abbrev pub deletes : Step → Bool
deletes (Delete u) = true
deletes other = false

cond_holder : (b : Bool) (x y z : Holder) → same_holder x z ≡ false → same_holder y z ≡ false → same_holder (cond b x y) z ≡ false
cond_holder true x y z s t = s
cond_holder false x y z s t = t

-- no spot gets the number m by a step with another number, nor by one that deletes nothing
pub moved_never : (left : ℕ) (g : Graph) (s : Step) (m : ℕ) (holder : Holder) (b : Bool) → (deletes s && eqb left m) ≡ false → same_holder holder (Deleted m) ≡ false →
    same_holder (spot_after left g s holder b).holder (Deleted m) ≡ false
moved_never left g s m (Deleted n) b other h = h
moved_never left g s m Dropped b other h = refl
moved_never left g (LocalComplement u) m (At v) b other h = refl
moved_never left g (Delete u) m (At v) b other h = cond_holder (eqb v u) (Deleted left) (At v) (Deleted m) other refl
moved_never left g (Pivot u w) m (At v) b other h = refl
moved_never left g (SplitInput u) m (At v) b other h = refl
moved_never left g (SplitOutput u) m (At v) b other h = refl
moved_never left g (DropLone u) m (At v) b other h = cond_holder (eqb v u) Dropped (At v) (Deleted m) refl refl
moved_never left g (FuseInto u) m (At v) b other h = cond_holder (eqb v u) (At (into_of g u)) (At v) (Deleted m) refl refl
moved_never left g (FuseTwin u w) m (At v) b other h = cond_holder (eqb v w) (At u) (At v) (Deleted m) refl refl

and_late : (a : Bool) (left m : ℕ) → left ≢ m → (a && eqb left m) ≡ false
and_late true left m n = ne_eqb left m n
and_late false left m n = refl

pub carried_never : (g : Graph) (steps : List Step) (h : Graph) (run : IsRun g steps h) (m : ℕ) (spot : Spot) → length steps ≤ m → same_holder spot.holder (Deleted m) ≡ false →
    same_holder (carried g steps h run spot).holder (Deleted m) ≡ false
carried_never g [] h run m spot late other = other
carried_never g (s ∷ steps) h run m spot late other =
    carried_never run.0 steps h run.2 m (moved (length steps) g s spot) (omega arith)
    (moved_never (length steps) g s m spot.holder spot.negated (and_late (deletes s) (length steps) m (omega arith)) other)

pub carried_deleted : (g : Graph) (steps : List Step) (h : Graph) (run : IsRun g steps h) (m : ℕ) (b : Bool) →
    carried g steps h run (record { holder = Deleted m; negated = b }) ≡ record { holder = Deleted m; negated = b }
carried_deleted g [] h run m b = refl
carried_deleted g (s ∷ steps) h run m b = carried_deleted run.0 steps h run.2 m b

-- spots with numbers of steps that are done
abbrev pub AreEarly : ℕ → (ℕ → Spot) → Type 0
AreEarly left spot = (i m : ℕ) → m < left → same_holder (spot i).holder (Deleted m) ≡ false

pub early_moved : (left : ℕ) (g : Graph) (s : Step) (spot : ℕ → Spot) → AreEarly (suc left) spot → AreEarly left (λ i. moved left g s (spot i))
early_moved left g s spot early i m lt =
    moved_never left g s m (spot i).holder (spot i).negated (and_late (deletes s) left m (omega arith)) (early i m (omega arith))

part_none : (b : Bool) (k : ℕ) → b ≡ false → cond b k 0 ≡ 0
part_none b k e = rw e refl

pub held_none : (phase : ℕ → ℕ) (spot : ℕ → Spot) (gates : List ℕ) (holder : Holder) → ((i : ℕ) → same_holder (spot i).holder holder ≡ false) → held phase spot gates holder ≡ 0
held_none phase spot [] holder none = refl
held_none phase spot (i ∷ is) holder none = ap₂ sum_of_phases (part_none _ _ (none i)) (held_none phase spot is holder none)

pub held_same : (phase : ℕ → ℕ) (spot other : ℕ → Spot) (gates : List ℕ) (holder to : Holder) → ((i : ℕ) → part holder (spot i) (phase i) ≡ part to (other i) (phase i)) →
    held phase spot gates holder ≡ held phase other gates to
held_same phase spot other [] holder to same = refl
held_same phase spot other (i ∷ is) holder to same = ap₂ sum_of_phases (same i) (held_same phase spot other is holder to same)

-- what a deleted vertex held then, its number holds at the end
module _ (g : Graph) (u : ℕ) (k : Graph) (steps : List Step) (h : Graph) (run : IsRun k steps h) (w : WellFormed g) where
  own_sign : (b : Bool) → xor b (negates g (Delete u) u) ≡ b
  own_sign b = ap (λ near. xor b (((eqb (phase_of g u) half_turn) && near) && not (is_XY (plane_of g u)))) (no_loop g u w) ∙ at (eqb (phase_of g u) half_turn) b
    where
      at : (c b : Bool) → xor b ((c && false) && not (is_XY (plane_of g u))) ≡ b
      at true true = refl
      at true false = refl
      at false true = refl
      at false false = refl

  part_deleted : (holder : Holder) (b : Bool) (x : ℕ) → same_holder holder (Deleted (length steps)) ≡ false →
      part (Deleted (length steps)) (carried k steps h run (spot_after (length steps) g (Delete u) holder b)) x ≡ part (At u) (record { holder = holder; negated = b }) x
  part_deleted (Deleted n) b x early = part_none _ _ (carried_never k steps h run (length steps) (record { holder = Deleted n; negated = b }) (omega arith) early)
  part_deleted Dropped b x early = part_none _ _ (carried_never k steps h run (length steps) (record { holder = Dropped; negated = b }) (omega arith) refl)
  part_deleted (At v) b x early =
      by_equal v u
      (λ t e. ap (λ spot. part (Deleted (length steps)) (carried k steps h run spot) x) (λ j. record { holder = cond (t j) (Deleted (length steps)) (At v); negated = (ap (λ y. xor b (negates g (Delete u) y)) e ∙ own_sign b) j })
      ∙ ap (λ spot. part (Deleted (length steps)) spot x) (carried_deleted k steps h run (length steps) b)
      ∙ ap (λ c. cond c (signed b x) 0) (eqb-self (length steps) ∙ sym t))
      (λ t n. part_none _ _ (carried_never k steps h run (length steps) (spot_after (length steps) g (Delete u) (At v) b) (omega arith)
      (ap (λ c. same_holder (cond c (Deleted (length steps)) (At v)) (Deleted (length steps))) t))
      ∙ sym (part_none _ _ t))

  pub held_deleted : (phase : ℕ → ℕ) (spot : ℕ → Spot) (gates : List ℕ) → AreEarly (suc (length steps)) spot →
      held phase (λ i. carried k steps h run (moved (length steps) g (Delete u) (spot i))) gates (Deleted (length steps)) ≡ held phase spot gates (At u)
  held_deleted phase spot gates early =
      held_same phase (λ i. carried k steps h run (moved (length steps) g (Delete u) (spot i))) spot gates (Deleted (length steps)) (At u)
      (λ i. part_deleted (spot i).holder (spot i).negated (phase i) (early i (length steps) (omega arith)))

-- ---- runs
pub shifted-none : (g : Graph) (more : ℕ → ℕ) → WellFormed g → ((v : ℕ) → more v ≡ 0) → shifted more g ≡ g
shifted-none g more w none =
    ap (λ vs. record g { vertices = vs })
    (with_kinds-kept (add_kind more) g.vertices w.phases_below_a_turn (λ p k low. ap (λ m. with_phase_added m k) (none p) ∙ ap (λ x. record k { phase = x }) (plus_none k.phase low)))

pub run_carries : (g : Graph) (steps : List Step) (h : Graph) (run : IsRun g steps h) (phase : ℕ → ℕ) (spot : ℕ → Spot) (gates : List ℕ) →
    WellFormed g → AreBelow phase → AreEarly (length steps) spot → IsShift g (λ v. held phase spot gates (At v)) →
    IsBalanced phase (λ i. carried g steps h run (spot i)) gates → IsRun (shifted (λ v. held phase spot gates (At v)) g) steps h
run_carries g [] h run phase spot gates w low early shift balanced = shifted-none g _ w (λ v. balanced (At v) refl) ∙ run
run_carries g (s ∷ steps) h run phase spot gates w low early shift balanced = (
  shifted after run.0,
  step_carries g s run.0 now w run.1 shift (free s run.1 balanced),
  subst (λ more. IsRun (shifted more run.0) steps h) (sym next)
      (run_carries run.0 steps h run.2 phase (λ i. moved (length steps) g s (spot i)) gates (step_kept g s run.0 w run.1) low (early_moved (length steps) g s spot early)
      (subst (IsShift run.0) next (step_shift g s run.0 now w run.1 shift)) balanced),
)
  where
    now : ℕ → ℕ
    now v = held phase spot gates (At v)

    after : ℕ → ℕ
    after = more_after g s now

    next : after ≡ (λ v. held phase (λ i. moved (length steps) g s (spot i)) gates (At v))
    next = λ j v. after_held (length steps) g s phase spot gates v low (step_apart g s run.0 w run.1) j

    free : (t : Step) → IsStep g t run.0 → IsBalanced phase (λ i. carried run.0 steps h run.2 (moved (length steps) g t (spot i))) gates → IsFree now t
    free (LocalComplement u) c b = tt
    free (Delete u) c b = sym (held_deleted g u run.0 steps h run.2 w phase spot gates early) ∙ b (Deleted (length steps)) refl
    free (Pivot u v) c b = tt
    free (SplitInput u) c b = tt
    free (SplitOutput u) c b = tt
    free (DropLone u) c b = tt
    free (FuseInto u) c b = tt
    free (FuseTwin u v) c b = tt
