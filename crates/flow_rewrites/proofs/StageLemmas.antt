-- What a flow sees before each of the local complements that a step is, by what it sees before the step.
use Rattle.std.proofs.Common.{◌≡◌, ◌≢◌, refl, sym, ◌∙◌, ap, ap₂, ℕ, Bool, true, false, cond, not, ◌&&◌, eqb, List, ne_eqb, true≢false}
use mathlib.Core.Bool.{beq}
use Rattle.zx_model.specs.Bits.{xor, member}
use Rattle.zx_calculus.specs.Graph.{Graph, Plane, plane_of, IsVertex, WellFormed}
use Rattle.zx_calculus.proofs.Booleans.{parities, xor-false}
use Rattle.zx_calculus.proofs.Ids.{eqb-self}
use Rattle.gflow_laws.specs.Seen.{Seen, seen, in_odd_neighbourhood, complemented, complemented_plane, turned_plane}
use Rattle.gflow_laws.specs.Flow.{Correction, SameSets}
use Rattle.gflow_laws.specs.Complements.{complement_table}
use Rattle.gflow_laws.specs.Pivots.{pivot_table}
use Rattle.gflow_laws.specs.Correcting.{Simple}
use Rattle.gflow_laws.proofs.Complements.{odd-complemented, same-complement_table}
use Rattle.gflow_laws.proofs.Pivots.{Simple-complemented}
use Rattle.gflow_laws.proofs.Views.{Simple-seen}
use Rattle.flow_rewrites.specs.declared.sets.Stage.{Stage}
use Rattle.flow_rewrites.specs.declared.sets.Stage.TheVariants.{First, Second, Third}
use Rattle.flow_rewrites.specs.Internal.Stages.{view, plane_in, IsBeside}

seen_from_neighbour : (o_u o_w a_u : Bool) → xor o_u (xor o_w a_u) ≡ xor (xor o_u o_w) a_u
seen_from_neighbour o_u o_w a_u = simp parities

seen_from_itself : (o_u o_w a_u a_w : Bool) →
    xor (xor o_u false) (xor (xor o_w (xor o_u a_w)) a_u) ≡ xor (xor o_w a_w) a_u
seen_from_itself o_u o_w a_u a_w = ap (λ x. xor x (xor (xor o_w (xor o_u a_w)) a_u)) (xor-false o_u) ∙ cancelled
  where
    cancelled : xor o_u (xor (xor o_w (xor o_u a_w)) a_u) ≡ xor (xor o_w a_w) a_u
    cancelled = simp parities

-- what `^` answers
differ : (a b : Bool) → not (beq a b) ≡ xor a b
differ true true = refl
differ true false = refl
differ false true = refl
differ false false = refl

three : (a b c : Bool) → not (beq (not (beq a b)) c) ≡ xor (xor a b) c
three a b c = differ (not (beq a b)) c ∙ ap (λ x. xor x c) (differ a b)

-- the plane of a vertex that a complement is about, and of its neighbour
itself : (plane : Plane) (e n : Bool) → e ≡ true →
    cond e (complemented_plane plane) (cond n (turned_plane plane) plane) ≡ complemented_plane plane
itself plane e n t = ap (λ b. cond b (complemented_plane plane) (cond n (turned_plane plane) plane)) t

beside : (plane : Plane) (e n : Bool) → e ≡ false → n ≡ true →
    cond e (complemented_plane plane) (cond n (turned_plane plane) plane) ≡ turned_plane plane
beside plane e n f t = ap₂ (λ a b. cond a (complemented_plane plane) (cond b (turned_plane plane) plane)) f t

-- u and w are adjacent
module _ (s : Seen) (u w : ℕ) (simple : Simple s) (u_there : member u s.ids ≡ true) (w_there : member w s.ids ≡ true)
    (uw : s.adjacent u w ≡ true) where
  wu : s.adjacent w u ≡ true
  wu = simple.symmetric w u ∙ uw

  apart : u ≢ w
  apart e = true≢false (sym uw ∙ ap (s.adjacent u) (sym e) ∙ simple.no_loop u)

  -- also after a local complement about u
  still : (complemented s u).adjacent w u ≡ true
  still =
      ap₂ (λ e l. not e && xor (s.adjacent w u) (s.adjacent u w && l))
      (ne_eqb w u (λ e. apart (sym e))) (simple.no_loop u)
      ∙ ap₂ (λ a b. xor a (b && false)) wu uw

  -- after a local complement about the neighbour w
  pub odd_second : (A : ℕ → Bool) → in_odd_neighbourhood (complemented s w) A u ≡ xor (xor (in_odd_neighbourhood s A u) (in_odd_neighbourhood s A w)) (A u)
  odd_second A =
      odd-complemented s w A u simple u_there
      ∙ ap (λ b. xor (in_odd_neighbourhood s A u) (b && xor (in_odd_neighbourhood s A w) (A u))) wu
      ∙ seen_from_neighbour (in_odd_neighbourhood s A u) (in_odd_neighbourhood s A w) (A u)

  -- after one about u and one about w
  pub odd_third : (A : ℕ → Bool) → in_odd_neighbourhood (complemented (complemented s u) w) A u ≡ xor (xor (in_odd_neighbourhood s A w) (A w)) (A u)
  odd_third A =
      odd-complemented (complemented s u) w A u (Simple-complemented s u simple) u_there
      ∙ ap₂ (λ o b. xor o (b && xor (in_odd_neighbourhood (complemented s u) A w) (A u))) at_u still
      ∙ ap (λ o. xor (xor (in_odd_neighbourhood s A u) (false && xor (in_odd_neighbourhood s A u) (A u))) (true && xor o (A u))) at_w
      ∙ seen_from_itself (in_odd_neighbourhood s A u) (in_odd_neighbourhood s A w) (A u) (A w)
    where
      at_u : in_odd_neighbourhood (complemented s u) A u ≡ xor (in_odd_neighbourhood s A u) (false && xor (in_odd_neighbourhood s A u) (A u))
      at_u =
          odd-complemented s u A u simple u_there
          ∙ ap (λ b. xor (in_odd_neighbourhood s A u) (b && xor (in_odd_neighbourhood s A u) (A u))) (simple.no_loop u)

      at_w : in_odd_neighbourhood (complemented s u) A w ≡ xor (in_odd_neighbourhood s A w) (true && xor (in_odd_neighbourhood s A u) (A w))
      at_w = odd-complemented s u A w simple w_there ∙ ap (λ b. xor (in_odd_neighbourhood s A w) (b && xor (in_odd_neighbourhood s A u) (A w))) uw

  pub second_parity : (A : ℕ → Bool) (o_u o_w a_u : Bool) → o_u ≡ in_odd_neighbourhood s A u → o_w ≡ in_odd_neighbourhood s A w → a_u ≡ A u →
      not (beq (not (beq o_u o_w)) a_u) ≡ in_odd_neighbourhood (complemented s w) A u
  second_parity A o_u o_w a_u e f h =
      three o_u o_w a_u ∙ (λ j. xor (xor (e j) (f j)) (h j)) ∙ sym (odd_second A)

  pub third_parity : (A : ℕ → Bool) (o_w a_w a_u : Bool) → o_w ≡ in_odd_neighbourhood s A w → a_w ≡ A w → a_u ≡ A u →
      not (beq (not (beq o_w a_w)) a_u) ≡ in_odd_neighbourhood (complemented (complemented s u) w) A u
  third_parity A o_w a_w a_u e f h =
      three o_w a_w a_u ∙ (λ j. xor (xor (e j) (f j)) (h j)) ∙ sym (odd_third A)

  plane_second : (complemented s w).plane u ≡ turned_plane (s.plane u)
  plane_second = beside (s.plane u) (eqb u w) (s.adjacent w u) (ne_eqb u w apart) wu

  plane_third : (complemented (complemented s u) w).plane u ≡ turned_plane (complemented_plane (s.plane u))
  plane_third =
      beside ((complemented s u).plane u) (eqb u w) ((complemented s u).adjacent w u) (ne_eqb u w apart) still
      ∙ ap turned_plane (itself (s.plane u) (eqb u u) (s.adjacent u u) (eqb-self u))

pub plane_of_view : (g : Graph) (u : ℕ) (stage : Stage) → WellFormed g → IsVertex g u → IsBeside g u stage →
    (view stage (seen g) u).plane u ≡ plane_in stage (plane_of g u)
plane_of_view g u First w live other = refl
plane_of_view g u (Second v) w live other = plane_second (seen g) u v (Simple-seen g w) live other.0 other.1
plane_of_view g u (Third v) w live other = plane_third (seen g) u v (Simple-seen g w) live other.0 other.1

-- one table after the other
SameSets-then : (a b c : List Correction) → SameSets a b → SameSets b c → SameSets a c
SameSets-then a b c first second =
    record { order = first.order ∙ second.order; members = λ v w. first.members v w ∙ second.members v w }

pub three_complements : (s : Seen) (u v : ℕ) (t t1 t2 t3 : List Correction) → SameSets t1 (complement_table s u t) →
    SameSets t2 (complement_table (complemented s u) v t1) →
    SameSets t3 (complement_table (complemented (complemented s u) v) u t2) → SameSets t3 (pivot_table s u v t)
three_complements s u v t t1 t2 t3 first second third =
    SameSets-then t3 _ _ third
    (same-complement_table (complemented (complemented s u) v) u t2 _
    (SameSets-then t2 _ _ second (same-complement_table (complemented s u) v t1 _ first)))
