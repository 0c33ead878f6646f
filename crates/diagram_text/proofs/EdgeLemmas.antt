-- The edge before is the last one.
use Rattle.std.proofs.Common.{◌≡◌, ℕ, ◌-◌, suc, zero, List, [], ◌∷◌, length, ap, arith, Some}
use Rattle.std.specs.List.{slice_get}
use Rattle.zx_diagram.specs.declared.wire.Wire.{Wire}
use Rattle.diagram_text.specs.Reading.{may_precede}
use Rattle.diagram_text.specs.Internal.Stepping.{follows}

at_last : (es : List Wire) (k : ℕ) (last e : Wire) → suc k ≡ length es → slice_get es k ≡ Some last → may_precede last e ≡ follows es e
at_last [] k last e at is = absurd (omega (arith, at))
at_last (d ∷ []) zero last e at is = ap (λ x. may_precede x e) (same is)
  where
    same : {A : Type 0} {x y : A} → Some x ≡ Some y → y ≡ x
    same e = cc
at_last (d ∷ []) (suc k) last e at is = absurd (omega (arith, at))
at_last (d ∷ f ∷ es) zero last e at is = absurd (omega (arith, at))
at_last (d ∷ f ∷ es) (suc k) last e at is = at_last (f ∷ es) k last e (omega (arith, at)) is

pub last_follows : (es : List Wire) (last e : Wire) → slice_get es (length es - 1) ≡ Some last → may_precede last e ≡ follows es e
last_follows [] last e is = absurd (cc)
last_follows (d ∷ ds) last e is = at_last (d ∷ ds) (length (d ∷ ds) - 1) last e (omega arith) is
