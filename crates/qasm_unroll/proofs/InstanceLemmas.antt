-- Instances one after the other.
use Rattle.std.proofs.Common.{◌≡◌, ℕ, suc, ◌+◌, ◌-◌, ◌<◌, ◌≤◌, List, [], ◌∷◌, ◌++◌, map, Some, refl, ap, ◌∙◌, arith}
use Rattle.std.specs.List.{flat_map, range_with_len}
use Rattle.std.specs.Option.{option_or}
use Rattle.zx_gates.specs.declared.elementary.ElementaryGate.{ElementaryGate}
use Rattle.qasm_scope.specs.declared.causes.Cause.{Cause}
use Rattle.qasm_scope.specs.Calls.{Event, call_count, first_wrong}
use Rattle.qasm_unroll.specs.Internal.KeptCalls.{Continues}
use Rattle.qasm_unroll.proofs.EventLemmas.{first_wrong-append, Continues-next}
use Rattle.qasm_unroll.proofs.Unrolling.{Continues-same, Continues-join}

-- what the instances from one to another come to
abbrev pub from_to : (ℕ → List Event) → ℕ → ℕ → List Event
from_to f start end = flat_map f (range_with_len start (end - start))

pub flat-map : {A B C : Type 0} (f : B → List C) (g : A → B) (xs : List A) → flat_map f (map g xs) ≡ flat_map (λ x. f (g x)) xs
flat-map f g [] = refl
flat-map f g (x ∷ xs) = ap (λ ys. f (g x) ++ ys) (flat-map f g xs)

next-instance : (f : ℕ → List Event) (i end : ℕ) → i < end → from_to f i end ≡ f i ++ from_to f (i + 1) end
next-instance f i end h =
    let more : end - i ≡ suc (end - (i + 1)) = omega arith in
    ap (λ n. flat_map f (range_with_len i n)) more

pub no-instance : (f : ℕ → List Event) (i end : ℕ) → end ≤ i → from_to f i end ≡ []
no-instance f i end h =
    let none : end - i ≡ 0 = omega arith in
    ap (λ n. flat_map f (range_with_len i n)) none

-- an instance that is done
pub Continues-instance : (most a : ℕ) (first : List ElementaryGate) (all : List Event) (b : ℕ) (second : List ElementaryGate) (c : ℕ) (third : List ElementaryGate)
    (f : ℕ → List Event) (i end : ℕ) → i < end → Continues most a first all b second (from_to f i end) → Continues most b second (f i) c third []
    → Continues most a first all c third (from_to f (i + 1) end)
Continues-instance most a first all b second c third f i end within h k =
    Continues-next most a first all b second (f i) (from_to f (i + 1) end) c third
    (Continues-join most a first all b second (from_to f i end) b second (f i ++ from_to f (i + 1) end) h
    (Continues-same most b second _ _ (next-instance f i end within))) k

-- an instance in which something is wrong
pub wrong-instance : (most a : ℕ) (first : List ElementaryGate) (all : List Event) (b : ℕ) (second : List ElementaryGate)
    (f : ℕ → List Event) (i end : ℕ) (cause : Cause) → i < end → Continues most a first all b second (from_to f i end) → first_wrong most b (f i) ≡ Some cause
    → first_wrong most a all ≡ Some cause
wrong-instance most a first all b second f i end cause within h k =
    h.same_wrong ∙ ap (first_wrong most b) (next-instance f i end within) ∙ first_wrong-append most b (f i) (from_to f (i + 1) end)
    ∙ ap (λ o. option_or o (first_wrong most (b + call_count (f i)) (from_to f (i + 1) end))) k
