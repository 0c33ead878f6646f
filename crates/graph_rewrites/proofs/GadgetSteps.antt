-- What a gadget taken out, and a phase added, make of a graph.
use Rattle.std.proofs.Common.{◌≡◌, ◌≢◌, refl, sym, ◌∙◌, ap, ap₂, subst, ℕ, true, eqb-true, true≢false, Option, Some, None, arith}
use Rattle.std.specs.Prelude.{is_some}
use Rattle.zx_model.specs.Bits.{member}
use Rattle.zx_calculus.specs.Graph.{YZ, Graph, is_XY, ids, joined, plane_of, phase_of, with_kinds, without, IsVertex, Interior, WellFormed}
use Rattle.zx_calculus.specs.Steps.{allowed, after, DropLone, FuseInto, FuseTwin}
use Rattle.zx_calculus.specs.Edits.{IsRemoval}
use Rattle.zx_calculus.specs.Gadgets.{IsDropLone, IsFuseInto, IsFuseTwin, fuse_kind}
use Rattle.zx_calculus.specs.Internal.ChangedKinds.{with_changed}
use Rattle.zx_calculus.proofs.Forms.{ids-without}
use Rattle.zx_calculus.proofs.Ids.{eqb-self, member-removed_other}
use Rattle.zx_calculus.proofs.Steps.{after_step}
use Rattle.zx_calculus.proofs.Splitting.{interior_of, no_loop}
use Rattle.zx_calculus.proofs.Toggling.{member-neighbours, neighbour_live}
use Rattle.zx_calculus.proofs.ChangedKinds.{KeepsEnds-changed}
use Rattle.zx_bits.specs.Rows.{IsFirstFrom}

pub gadget_interior : (g : Graph) (u : ℕ) → WellFormed g → plane_of g u ≡ YZ → Interior g u
gadget_interior g u w plane = interior_of g u w (ap is_XY plane)

pub drop_step : {g h : Graph} {u : ℕ} → WellFormed g → allowed g (DropLone u) ≡ true → IsRemoval g u h →
    IsDropLone g u h
drop_step {g} {h} {u} w may c =
    let s : IsDropLone g u (after (DropLone u) g) = after_step g (DropLone u) w may in
    record {
      there = s.there;
      plane = s.plane;
      lone = s.lone;
      vertices = c.vertices;
      edges = c.edges;
      frame = c.frame;
    }

-- another vertex stays one
pub still_live : (g h : Graph) (u p : ℕ) → IsRemoval g u h → p ≢ u → IsVertex g p → IsVertex h p
still_live g h u p c other there =
    ap (λ vs. member p (ids vs)) c.vertices ∙ ap (member p) (ids-without u g.vertices)
    ∙ member-removed_other p u (ids g.vertices) other ∙ there

-- the only neighbour is found
pub leg_found : (g : Graph) (u : ℕ) (leg : Option ℕ) → WellFormed g → allowed g (FuseInto u) ≡ true →
    IsFirstFrom (joined g.edges u) 0 leg → is_some leg ≡ true
leg_found g u None w may none =
    let s : IsFuseInto g u (after (FuseInto u) g) = after_step g (FuseInto u) w may in
    absurd (true≢false (sym (s.only_neighbour s.into ∙ eqb-self s.into) ∙ none s.into (omega arith)))
leg_found g u (Some into) w may first = refl

pub found_leg : (g : Graph) (u into : ℕ) (leg : Option ℕ) → leg ≡ Some into → IsFirstFrom (joined g.edges u) 0 leg →
    joined g.edges u into ≡ true
found_leg g u into leg is first = (rw is at first).1

pub leg_live : (g : Graph) (u into : ℕ) → WellFormed g → joined g.edges u into ≡ true → IsVertex g into
leg_live g u into w near = neighbour_live g u into (member-neighbours g u into w ∙ near)

pub leg_apart : (g : Graph) (u into : ℕ) → WellFormed g → joined g.edges u into ≡ true → into ≢ u
leg_apart g u into w near e = true≢false (sym near ∙ ap (joined g.edges u) e ∙ no_loop g u w)

pub fuse_into_step : {g h k : Graph} {u : ℕ} (into phase : ℕ) → WellFormed g → allowed g (FuseInto u) ≡ true →
    joined g.edges u into ≡ true → phase ≡ phase_of g u → IsRemoval g u h →
    k ≡ with_changed (fuse_kind into phase) h → IsFuseInto g u k
fuse_into_step {g} {h} {k} {u} into phase w may near read c made = subst (IsFuseInto g u) (sym made) fused
  where
    s : IsFuseInto g u (after (FuseInto u) g)
    s = after_step g (FuseInto u) w may

    same : into ≡ s.into
    same = eqb-true into s.into (sym (s.only_neighbour into) ∙ near)

    fused : IsFuseInto g u (with_changed (fuse_kind into phase) h)
    fused = record {
      into = s.into;
      there = s.there;
      plane = s.plane;
      into_there = s.into_there;
      into_plane = s.into_plane;
      only_neighbour = s.only_neighbour;
      vertices = ap (with_kinds (fuse_kind into phase)) c.vertices
          ∙ ap₂ (λ v j. with_kinds (fuse_kind v j) (without u g.vertices)) same read;
      edges = c.edges;
      frame = KeepsEnds-changed (fuse_kind into phase) g h c.frame;
    }

pub twins_apart : (g : Graph) (u v : ℕ) → WellFormed g → allowed g (FuseTwin u v) ≡ true → u ≢ v
twins_apart g u v w may =
    let s : IsFuseTwin g u v (after (FuseTwin u v) g) = after_step g (FuseTwin u v) w may in s.different

pub first_live : (g : Graph) (u v : ℕ) → WellFormed g → allowed g (FuseTwin u v) ≡ true → IsVertex g u
first_live g u v w may =
    let s : IsFuseTwin g u v (after (FuseTwin u v) g) = after_step g (FuseTwin u v) w may in s.there

pub fuse_twin_step : {g h k : Graph} {u v : ℕ} (phase : ℕ) → WellFormed g → allowed g (FuseTwin u v) ≡ true →
    phase ≡ phase_of g v → IsRemoval g v h → k ≡ with_changed (fuse_kind u phase) h → IsFuseTwin g u v k
fuse_twin_step {g} {h} {k} {u} {v} phase w may read c made = subst (IsFuseTwin g u v) (sym made) fused
  where
    s : IsFuseTwin g u v (after (FuseTwin u v) g)
    s = after_step g (FuseTwin u v) w may

    fused : IsFuseTwin g u v (with_changed (fuse_kind u phase) h)
    fused = record {
      there = s.there;
      there_too = s.there_too;
      different = s.different;
      plane = s.plane;
      plane_too = s.plane_too;
      not_adjacent = s.not_adjacent;
      equal_neighbours = s.equal_neighbours;
      vertices = ap (with_kinds (fuse_kind u phase)) c.vertices
          ∙ ap (λ j. with_kinds (fuse_kind u j) (without v g.vertices)) read;
      edges = c.edges;
      frame = KeepsEnds-changed (fuse_kind u phase) g h c.frame;
    }
