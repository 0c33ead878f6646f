-- What a step does to the groups, from what its note says.
use Rattle.std.proofs.Common.{◌≡◌, refl, sym, ◌∙◌, ap, ap₂, subst, ℕ, ◌<◌, Bool, false, cond, eqb, List, [], ◌∷◌, ◌++◌, length, get_or, Option, Some, None}
use Rattle.zx_model.specs.Bits.{xor}
use Rattle.zx_model.specs.Phase.{sum_of_phases}
use Rattle.zx_model.proofs.BitLemmas.{xor_assoc}
use Rattle.zx_calculus.specs.Graph.{Graph}
use Rattle.zx_calculus.specs.Steps.{Step, LocalComplement, Delete, Pivot, SplitInput, SplitOutput, DropLone, FuseInto, FuseTwin}
use Rattle.teleport_laws.specs.Shifts.{signed, negates, into_of}
use Rattle.phase_groups.specs.Groups.{Phases, group_of, turned_group, earlier_of, later_of, joined_groups, HavePhase, IsLost, ArePutTogether, ArePhasesJoined, IsFused, IsFollowed}
use Rattle.phase_groups.specs.Internal.Noting.{stands_odd, parting_by, IsNoted}
use Rattle.phase_groups.specs.Internal.Taking.{HasParted, IsTaken}
use Rattle.phase_groups.specs.declared.groups.Group.{Group}
use Rattle.phase_groups.specs.declared.notes.Note.{Note}
use Rattle.phase_groups.proofs.Agreeing.{turned_group-false}
use Rattle.phase_groups.proofs.Negating.{stands_odd-more}

-- ---- groups that are negated
turned_twice : (a b : Bool) (o : Option Group) → turned_group b (turned_group a o) ≡ turned_group (xor a b) o
turned_twice a b None = refl
turned_twice a b (Some group) = ap (λ x. Some (record { first = group.first; negated = x })) (xor_assoc group.negated a b)

-- one vertex more of a list
pub turned_more : (xs ys : List ℕ) (old mid new : Option Group) (v w : ℕ) → ys ≡ xs ++ v ∷ [] → mid ≡ turned_group (stands_odd xs w) old →
    new ≡ turned_group (eqb w v) mid → new ≡ turned_group (stands_odd ys w) old
turned_more xs ys old mid new v w more so_far here =
    here ∙ ap (turned_group (eqb w v)) so_far ∙ turned_twice (stands_odd xs w) (eqb w v) old
    ∙ ap (λ b. turned_group b old) (sym (stands_odd-more xs v w) ∙ ap (λ zs. stands_odd zs w) (sym more))

-- ---- the same phases before
have_same : (i k : ℕ) (mid p q : Phases) → mid.phases ≡ p.phases → HavePhase i k mid q → HavePhase i k p q
have_same i k mid p q same H = record {
  count = H.count ∙ ap length same;
  phase = λ less. H.phase (subst (λ xs. i < length xs) (sym same) less);
  others = λ j a. H.others j a ∙ ap (λ xs. get_or xs j 0) same;
}

pub lost_same : (o o' : Option Group) (mid p q : Phases) → o ≡ o' → mid.phases ≡ p.phases → IsLost o mid q → IsLost o' p q
lost_same o o' mid p q group same lost = subst (λ x. IsLost x p q) group (at o lost)
  where
    at : (o : Option Group) → IsLost o mid q → IsLost o p q
    at None kept = kept ∙ same
    at (Some group) H = have_same group.first 0 mid p q same H

pub together_same : (one other : Group) (mid p q : Phases) → mid.phases ≡ p.phases → ArePutTogether one other mid q → ArePutTogether one other p q
together_same one other mid p q same T = record {
  count = T.count ∙ ap length same;
  of_one = λ differ less. T.of_one differ (subst (λ xs. one.first < length xs) (sym same) less)
      ∙ ap₂ (λ x y. sum_of_phases x (signed (xor one.negated other.negated) y)) (ap (λ xs. get_or xs one.first 0) same) (ap (λ xs. get_or xs other.first 0) same);
  of_other = λ differ less. T.of_other differ (subst (λ xs. other.first < length xs) (sym same) less);
  others = λ j a b. T.others j a b ∙ ap (λ xs. get_or xs j 0) same;
}

pub joined_same : (o o' : Option Group) (mid p q : Phases) → mid.phases ≡ p.phases → ArePhasesJoined o o' mid q → ArePhasesJoined o o' p q
joined_same None o' mid p q same kept = kept ∙ same
joined_same (Some gone) None mid p q same kept = kept ∙ same
joined_same (Some gone) (Some there) mid p q same T = together_same (earlier_of gone there) (later_of gone there) mid p q same T

pub fused_same : (from into : ℕ) (mid p q : Phases) → ((w : ℕ) → group_of mid w ≡ group_of p w) → mid.phases ≡ p.phases → IsFused from into mid q → IsFused from into p q
fused_same from into mid p q groups same F = record {
  groups = λ w. F.groups w
      ∙ ap₂ (λ a b. cond (eqb w into) (joined_groups a b) (cond (eqb w from) None (group_of mid w))) (groups from) (groups into)
      ∙ ap (λ a. cond (eqb w into) (joined_groups (group_of p from) (group_of p into)) (cond (eqb w from) None a)) (groups w);
  phases = subst (λ x. ArePhasesJoined x (group_of p into) p q) (groups from)
      (subst (λ x. ArePhasesJoined (group_of mid from) x p q) (groups into) (joined_same (group_of mid from) (group_of mid into) mid p q same F.phases));
}

-- ---- a step, by its note
pub followed : (g : Graph) (s : Step) (note : Note) (p q : Phases) → IsNoted g s note → IsTaken note p q → IsFollowed g s p q
followed g s note p q N T = at s turned_by (subst (λ x. HasParted x T.turned q) N.parting T.parted)
  where
    turned_by : (w : ℕ) → group_of T.turned w ≡ turned_group (negates g s w) (group_of p w)
    turned_by w = T.groups w ∙ ap (λ b. turned_group b (group_of p w)) (N.negated w)

    unturned : ((w : ℕ) → group_of T.turned w ≡ turned_group false (group_of p w)) → (w : ℕ) → group_of T.turned w ≡ group_of p w
    unturned turned w = turned w ∙ turned_group-false (group_of p w)

    stays : (n : ℕ → Bool) → ((w : ℕ) → group_of T.turned w ≡ turned_group (n w) (group_of p w)) → q ≡ T.turned →
        ((w : ℕ) → group_of q w ≡ turned_group (n w) (group_of p w)) × (q.phases ≡ p.phases)
    stays n turned same = (λ w. ap (λ (x : Phases). group_of x w) same ∙ turned w, ap (λ (x : Phases). x.phases) same ∙ T.phases)

    at : (s : Step) → ((w : ℕ) → group_of T.turned w ≡ turned_group (negates g s w) (group_of p w)) → HasParted (parting_by g s) T.turned q → IsFollowed g s p q
    at (LocalComplement u) turned parted = stays (negates g (LocalComplement u)) turned parted
    at (Delete u) turned parted = (λ w. parted.0 w ∙ ap (cond (eqb w u) None) (turned w), parted.1 ∙ T.phases)
    at (Pivot u v) turned parted = stays (negates g (Pivot u v)) turned parted
    at (SplitInput u) turned parted = stays (negates g (SplitInput u)) turned parted
    at (SplitOutput u) turned parted = stays (negates g (SplitOutput u)) turned parted
    at (DropLone u) turned parted = (
      λ w. parted.0 w ∙ ap (cond (eqb w u) None) (unturned turned w),
      lost_same (group_of T.turned u) (group_of p u) T.turned p q (unturned turned u) T.phases parted.1,
    )
    at (FuseInto u) turned parted = fused_same u (into_of g u) T.turned p q (unturned turned) T.phases parted
    at (FuseTwin u v) turned parted = fused_same v u T.turned p q (unturned turned) T.phases parted
