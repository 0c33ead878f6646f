-- What a gate adds to a graph at its outputs: edges, a vertex or a phase, and an end; and that nothing inside sees it.
use Rattle.std.proofs.Common.{◌≡◌, ◌≢◌, refl, sym, ◌∙◌, ap, ap₂, true≢false, ℕ, zero, suc, ◌<◌, Bool, true, false, cond, ◌&&◌, ◌||◌, eqb, ltb, ne_eqb, arith, List, [], ◌∷◌, length, get_or, set}
use Rattle.zx_model.specs.Bits.{member}
use Rattle.zx_model.specs.Phase.{sum_of_phases}
use Rattle.zx_calculus.specs.Graph.{XY, Kind, Vertex, End, ids, kind_of, in_order, end_vertices, with_kinds, without, insert_vertex, Distinct, plain}
use Rattle.zx_calculus.specs.Edits.{is_pair}
use Rattle.zx_calculus.specs.Gadgets.{fuse_kind}
use Rattle.zx_calculus.specs.Splits.{spider_of_phase_zero}
use Rattle.zx_calculus.specs.Turns.{in_plane, with_phase_added}
use Rattle.zx_calculus.proofs.Booleans.{or-true}
use Rattle.zx_calculus.proofs.Ids.{by_equal, or-left, or-right}
use Rattle.zx_calculus.proofs.Vertices.{ids-with_kinds, kind_of-with_kinds, without-with_kinds, member-insert}
use Rattle.zx_calculus.proofs.ChangedKinds.{with_kinds-with_kinds}
use Rattle.zx_calculus.proofs.Kept.{kind_of-insert_other}
use Rattle.zx_gates.specs.Circuit.{IsOnQubits}
use Rattle.zx_gates.specs.declared.gate.Gate.{Gate}
use Rattle.zx_gates.specs.declared.gate.Gate.TheVariants.{H, Phase, Cz, Cx, Not}
use Rattle.zx_calculus.proofs.ChangedKinds.{with_kinds_at, with_kinds-insert}
use Rattle.growing_laws.proofs.KindChanges.{insert-without}
use Rattle.zx_calculus.proofs.ReducedLemmas.{length-places}
use Rattle.zx_calculus.proofs.Positions.{member-get_or}

-- ---- the vertex at an end
abbrev pub spot : List End → ℕ → ℕ
spot es q = get_or (end_vertices es) q 0

at_apart : (xs : List ℕ) (p q : ℕ) → Distinct xs → p < length xs → q < length xs → p ≢ q → get_or xs p 0 ≢ get_or xs q 0
at_apart [] p q d i j n e = absurd (omega arith)
at_apart (x ∷ xs) zero zero d i j n e = n refl
at_apart (x ∷ xs) zero (suc q) d i j n e = true≢false (sym (member-get_or xs q (omega arith)) ∙ ap (λ v. member v xs) (sym e) ∙ d.0)
at_apart (x ∷ xs) (suc p) zero d i j n e = true≢false (sym (member-get_or xs p (omega arith)) ∙ ap (λ v. member v xs) e ∙ d.0)
at_apart (x ∷ xs) (suc p) (suc q) d i j n e = at_apart xs p q d.1 (omega arith) (omega arith) (λ s. n (ap (λ k. suc k) s)) e

pub spot_there : (es : List End) (q : ℕ) → q < length es → member (spot es q) (end_vertices es) ≡ true
spot_there es q lt = let same = length-places es in member-get_or (end_vertices es) q (omega (arith, same, lt))

pub spots_apart : (es : List End) (p q : ℕ) → Distinct (end_vertices es) → p < length es → q < length es → p ≢ q → spot es p ≢ spot es q
spots_apart es p q d i j n =
    let same = length-places es in at_apart (end_vertices es) p q d (omega (arith, same, i)) (omega (arith, same, j)) n

off : (es : List End) (q u : ℕ) → q < length es → member u (end_vertices es) ≡ false → u ≢ spot es q
off es q u lt out e = true≢false (sym (spot_there es q lt) ∙ ap (λ v. member v (end_vertices es)) (sym e) ∙ out)

-- ---- the parts of a gate behind these outputs
abbrev pub added : ℕ → List End → Gate → ℕ → ℕ → Bool
added new es (H q) v w = is_pair (spot es q) new v w
added new es (Phase q k) v w = false
added new es (Cz p q) v w = is_pair (spot es p) (spot es q) v w
added new es (Cx p q) v w = false
added new es (Not q) v w = false

abbrev pub extended : ℕ → List End → Gate → List Vertex → List Vertex
extended new es (H q) vs = insert_vertex (spider_of_phase_zero new) vs
extended new es (Phase q k) vs = with_kinds (fuse_kind (spot es q) k) vs
extended new es (Cz p q) vs = vs
extended new es (Cx p q) vs = vs
extended new es (Not q) vs = vs

abbrev pub moved : ℕ → List End → Gate → List End
moved new es (H q) = set es q (plain new)
moved new es (Phase q k) = es
moved new es (Cz p q) = es
moved new es (Cx p q) = es
moved new es (Not q) = es

-- ---- nothing inside sees them
no_pair : (a b u p : ℕ) → u ≢ a → u ≢ b → is_pair a b u p ≡ false
no_pair a b u p n m = ap₂ (λ x y. (x && eqb p b) || (y && eqb p a)) (ne_eqb u a n) (ne_eqb u b m)

pub added_none : (new : ℕ) (es : List End) (gate : Gate) (u p : ℕ) → IsOnQubits (length es) gate → member u (end_vertices es) ≡ false → u ≢ new →
    added new es gate u p ≡ false
added_none new es (H q) u p on out n = no_pair (spot es q) new u p (off es q u on out) n
added_none new es (Phase q k) u p on out n = refl
added_none new es (Cz a b) u p on out n = no_pair (spot es a) (spot es b) u p (off es a u on.0 out) (off es b u on.1 out)
added_none new es (Cx a b) u p on out n = refl
added_none new es (Not q) u p on out n = refl

pub member-set_none : (es : List End) (q : ℕ) (d : End) (u : ℕ) → member u (end_vertices es) ≡ false → u ≢ d.vertex →
    member u (end_vertices (set es q d)) ≡ false
member-set_none [] q d u out n = refl
member-set_none (e ∷ es) zero d u out n = ap₂ (λ a b. a || b) (ne_eqb u d.vertex n) (or-right _ _ out)
member-set_none (e ∷ es) (suc q) d u out n = ap₂ (λ a b. a || b) (or-left _ _ out) (member-set_none es q d u (or-right _ _ out) n)

pub moved_none : (new : ℕ) (es : List End) (gate : Gate) (u : ℕ) → member u (end_vertices es) ≡ false → u ≢ new →
    member u (end_vertices (moved new es gate)) ≡ false
moved_none new es (H q) u out n = member-set_none es q (plain new) u out n
moved_none new es (Phase q k) u out n = out
moved_none new es (Cz a b) u out n = out
moved_none new es (Cx a b) u out n = out
moved_none new es (Not q) u out n = out

pub extended_live : (new : ℕ) (es : List End) (gate : Gate) (vs : List Vertex) (u : ℕ) → member u (ids vs) ≡ true →
    member u (ids (extended new es gate vs)) ≡ true
extended_live new es (H q) vs u there = member-insert u (spider_of_phase_zero new) vs ∙ ap (λ b. eqb u new || b) there ∙ or-true (eqb u new)
extended_live new es (Phase q k) vs u there = ap (member u) (ids-with_kinds (fuse_kind (spot es q) k) vs) ∙ there
extended_live new es (Cz a b) vs u there = there
extended_live new es (Cx a b) vs u there = there
extended_live new es (Not q) vs u there = there

pub extended_kind : (new : ℕ) (es : List End) (gate : Gate) (vs : List Vertex) (u : ℕ) → IsOnQubits (length es) gate →
    member u (end_vertices es) ≡ false → u ≢ new → member u (ids vs) ≡ true → kind_of (extended new es gate vs) u ≡ kind_of vs u
extended_kind new es (H q) vs u on out n there = kind_of-insert_other u (spider_of_phase_zero new) vs n
extended_kind new es (Phase q k) vs u on out n there =
    kind_of-with_kinds (fuse_kind (spot es q) k) u vs there
    ∙ ap (λ t. cond t (with_phase_added k (kind_of vs u)) (kind_of vs u)) (ne_eqb u (spot es q) (off es q u on.0 out))
extended_kind new es (Cz a b) vs u on out n there = refl
extended_kind new es (Cx a b) vs u on out n there = refl
extended_kind new es (Not q) vs u on out n there = refl

-- an added phase changes no plane
pub plane_fused : (b : Bool) (k : ℕ) (kind : Kind) → (cond b (with_phase_added k kind) kind).plane ≡ kind.plane
plane_fused true k kind = refl
plane_fused false k kind = refl

pub extended_plane : (new : ℕ) (es : List End) (gate : Gate) (vs : List Vertex) (u : ℕ) → u ≢ new → member u (ids vs) ≡ true →
    (kind_of (extended new es gate vs) u).plane ≡ (kind_of vs u).plane
extended_plane new es (H q) vs u n there = ap (λ (k : Kind). k.plane) (kind_of-insert_other u (spider_of_phase_zero new) vs n)
extended_plane new es (Phase q k) vs u n there =
    ap (λ (k : Kind). k.plane) (kind_of-with_kinds (fuse_kind (spot es q) k) u vs there) ∙ plane_fused (eqb u (spot es q)) k (kind_of vs u)
extended_plane new es (Cz a b) vs u n there = refl
extended_plane new es (Cx a b) vs u n there = refl
extended_plane new es (Not q) vs u n there = refl

-- ---- nor do they see what goes and what changes inside
pub extended_without : (new : ℕ) (es : List End) (gate : Gate) (vs : List Vertex) (u : ℕ) → in_order ltb (ids vs) ≡ true → u ≢ new →
    extended new es gate (without u vs) ≡ without u (extended new es gate vs)
extended_without new es (H q) vs u o n = insert-without u (spider_of_phase_zero new) vs o n
extended_without new es (Phase q k) vs u o n = sym (without-with_kinds (fuse_kind (spot es q) k) u vs)
extended_without new es (Cz a b) vs u o n = refl
extended_without new es (Cx a b) vs u o n = refl
extended_without new es (Not q) vs u o n = refl

-- a change of kinds lets a new spider as it is, and a phase added to an output
pub record Passes (new : ℕ) (es : List End) (f : ℕ → Kind → Kind) : Type 0 where
  pub at_new : f new (in_plane XY 0) ≡ in_plane XY 0
  pub at_outputs : (p k m : ℕ) → member p (end_vertices es) ≡ true →
      f p (in_plane XY (sum_of_phases m k)) ≡ with_phase_added k (f p (in_plane XY m))

-- an XY kind by its phase
as_XY : (kind : Kind) → kind.plane ≡ XY → kind ≡ in_plane XY kind.phase
as_XY kind e = ap (λ plane. in_plane plane kind.phase) e

pub extended_kinds : (new : ℕ) (es : List End) (gate : Gate) (vs : List Vertex) (f : ℕ → Kind → Kind) → IsOnQubits (length es) gate →
    Distinct (ids vs) → ((u : ℕ) → member u (end_vertices es) ≡ true → (kind_of vs u).plane ≡ XY) → Passes new es f →
    extended new es gate (with_kinds f vs) ≡ with_kinds f (extended new es gate vs)
extended_kinds new es (H q) vs f on d planes c =
    sym (with_kinds-insert f (spider_of_phase_zero new) vs
    ∙ ap (λ kind. insert_vertex (record { id = new; kind = kind }) (with_kinds f vs)) c.at_new)
extended_kinds new es (Phase q k) vs f on d planes c =
    with_kinds-with_kinds (fuse_kind (spot es q) k) f vs
    ∙ with_kinds_at (λ p kind. fuse_kind (spot es q) k p (f p kind)) (λ p kind. f p (fuse_kind (spot es q) k p kind)) vs d (λ p there. at p)
    ∙ sym (with_kinds-with_kinds f (fuse_kind (spot es q) k) vs)
  where
    at_XY : (p : ℕ) (kind : Kind) → member p (end_vertices es) ≡ true → kind.plane ≡ XY → with_phase_added k (f p kind) ≡ f p (with_phase_added k kind)
    at_XY p kind there plane =
        ap (λ x. with_phase_added k (f p x)) (as_XY kind plane) ∙ sym (c.at_outputs p k kind.phase there)
        ∙ ap (λ x. f p (with_phase_added k x)) (sym (as_XY kind plane))

    at : (p : ℕ) → fuse_kind (spot es q) k p (f p (kind_of vs p)) ≡ f p (fuse_kind (spot es q) k p (kind_of vs p))
    at p =
        by_equal p (spot es q)
        (λ t e. let there : member p (end_vertices es) ≡ true = ap (λ v. member v (end_vertices es)) e ∙ spot_there es q on.0 in
        ap (λ b. cond b (with_phase_added k (f p (kind_of vs p))) (f p (kind_of vs p))) t
        ∙ at_XY p (kind_of vs p) there (planes p there)
        ∙ ap (λ b. f p (cond b (with_phase_added k (kind_of vs p)) (kind_of vs p))) (sym t))
        (λ t n. ap (λ b. cond b (with_phase_added k (f p (kind_of vs p))) (f p (kind_of vs p))) t
        ∙ ap (λ b. f p (cond b (with_phase_added k (kind_of vs p)) (kind_of vs p))) (sym t))
extended_kinds new es (Cz a b) vs f on d planes c = refl
extended_kinds new es (Cx a b) vs f on d planes c = refl
extended_kinds new es (Not q) vs f on d planes c = refl
