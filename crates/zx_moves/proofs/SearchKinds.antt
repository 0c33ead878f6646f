-- Moves by their kinds, and kinds in their order.
use Rattle.std.proofs.Common.{Option, Some, None, IfSome, IfNone, ◌≡◌, refl, ◌∙◌, ap, subst, ℕ, ◌<◌, List, slice_get, lit<, arith}
use Rattle.zx_calculus.specs.Graph.{Graph, IsVertex}
use Rattle.zx_calculus.specs.Moves.{IsStuck}
use Rattle.zx_moves.specs.declared.moves.Move.{Move}
use Rattle.zx_moves.specs.declared.moves.Move.TheVariants as moves
use Rattle.zx_moves.specs.declared.moves.Kind.{Kind}
use Rattle.zx_moves.specs.declared.moves.Kind.TheVariants as kinds
use Rattle.zx_moves.specs.declared.moves.TheConstants.{KINDS}
use Rattle.zx_moves.specs.Search.{AppliesAt, kind_of, kinds_in_order, IsOfFirstKind}
use Rattle.zx_moves.specs.Internal.Searching.{IsMoveAt, NoneBefore}

-- the kinds are tried in the order that is promised
pub in_order : KINDS ≡ kinds_in_order
in_order = refl

pub stands_at : (i : ℕ) (k : Kind) → slice_get kinds_in_order i ≡ Some k → slice_get KINDS i ≡ Some k
stands_at i k at = ap (λ (ks : List Kind). slice_get ks i) in_order ∙ at

-- no kind stands twice
pub stands_once : (i j : ℕ) (k : Kind) → slice_get KINDS i ≡ Some k → slice_get KINDS j ≡ Some k → i ≡ j
stands_once i j k e f = grind arith

-- of the first n kinds none applies
abbrev pub NoneAnywhere : Graph → ℕ → Type 0
NoneAnywhere g n = (u : ℕ) → IsVertex g u → NoneBefore g n u

none_applies : (g : Graph) (n : ℕ) → NoneAnywhere g n → (m : Move) (i : ℕ) → i < n → slice_get KINDS i ≡ Some (kind_of m)
    → ¬ AppliesAt g m
none_applies g n none (moves.Delete u) i lt at a = none u a.there i kinds.Delete lt at a
none_applies g n none (moves.QuarterGadget u) i lt at a = none u a.there i kinds.QuarterGadget lt at a
none_applies g n none (moves.FromXZ u) i lt at a = none u a.there i kinds.FromXZ lt at a
none_applies g n none (moves.QuarterSpider u) i lt at a = none u a.there i kinds.QuarterSpider lt at a
none_applies g n none (moves.InnerPivot u v) i lt at a = none u a.spider.there i kinds.InnerPivot lt at v a
none_applies g n none (moves.BoundaryPivot u v) i lt at a = none u a.spider.there i kinds.BoundaryPivot lt at v a
none_applies g n none (moves.GadgetPair u v) i lt at a = none u a.there i kinds.GadgetPair lt at v a
none_applies g n none (moves.LoneGadget u) i lt at a = none u a.there i kinds.LoneGadget lt at a
none_applies g n none (moves.SingleGadget u) i lt at a = none u a.there i kinds.SingleGadget lt at a
none_applies g n none (moves.Twins u v) i lt at a =
    let last : i ≡ 9 = stands_once i 9 kinds.Twins at refl in
    none u a.there i kinds.Twins lt at v (none u a.there 7 kinds.LoneGadget (omega (arith, last, lt)) refl) a

first_found : (g : Graph) (n : ℕ) (m : Move) → NoneAnywhere g n → IsMoveAt g n m → IsOfFirstKind g m
first_found g n m none is other before =
    let same : before.later_place ≡ n = stands_once before.later_place n (kind_of m) (stands_at before.later_place (kind_of m) before.later_kind) is.kind in
    none_applies g n none other before.place (subst (λ (i : ℕ). before.place < i) same before.earlier)
    (stands_at before.place (kind_of other) before.kind)

stuck : (g : Graph) → NoneAnywhere g 10 → IsStuck g
stuck g none = record {
  no_deletion = λ u. none_applies g 10 none (moves.Delete u) 0 (lit< tt) refl;
  no_quarter_gadget = λ u. none_applies g 10 none (moves.QuarterGadget u) 1 (lit< tt) refl;
  no_XZ = λ u. none_applies g 10 none (moves.FromXZ u) 2 (lit< tt) refl;
  no_quarter_spider = λ u. none_applies g 10 none (moves.QuarterSpider u) 3 (lit< tt) refl;
  no_inner_pivot = λ u v. none_applies g 10 none (moves.InnerPivot u v) 4 (lit< tt) refl;
  no_boundary_pivot = λ u v. none_applies g 10 none (moves.BoundaryPivot u v) 5 (lit< tt) refl;
  no_gadget_pair = λ u v. none_applies g 10 none (moves.GadgetPair u v) 6 (lit< tt) refl;
  no_lone_gadget = λ u. none_applies g 10 none (moves.LoneGadget u) 7 (lit< tt) refl;
  no_single_gadget = λ u. none_applies g 10 none (moves.SingleGadget u) 8 (lit< tt) refl;
  no_twins = λ u v. none_applies g 10 none (moves.Twins u v) 9 (lit< tt) refl;
}

-- the best of all vertices, where no move of an earlier kind applies at any
pub best_is_first : (g : Graph) (n : ℕ) (best : Option Move) → NoneAnywhere g n → IfSome best (IsMoveAt g n)
    → IfSome best (IsOfFirstKind g)
best_is_first g n None none is = tt
best_is_first g n (Some m) none is = first_found g n m none is

pub no_best : (g : Graph) (n : ℕ) (best : Option Move) → NoneAnywhere g n → IfNone best (n ≡ 10) → IfNone best (IsStuck g)
no_best g n None none is = stuck g (subst (NoneAnywhere g) is none)
no_best g n (Some m) none is = tt
