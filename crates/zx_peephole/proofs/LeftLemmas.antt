-- The gates that are left in a list where some are gone.
use Rattle.std.proofs.Common.{◌≡◌, ℕ, zero, suc, ◌+◌, ◌<◌, ◌≤◌, Bool, true, false, cond, List, [], ◌∷◌, ◌++◌, length}
use Rattle.std.proofs.Common.{get_or, take, drop, set, refl, sym, ap, ap₂, ◌∙◌, arith}
use Rattle.std.specs.List.{list_all, filter, remove}
use Rattle.std.proofs.lemmas.Bool.{and_from}
use Rattle.std.proofs.lemmas.List.{take-append-drop, drop_more, get_or-take, length-take-le, take-take, get_or_default}
use Rattle.std.proofs.lemmas.List.Elements.{filter-append}
use Rattle.std.proofs.Math.Seq.{take-set-lt}
use Rattle.zx_gates.specs.declared.gate.Gate.{Gate}
use Rattle.zx_peephole.specs.Internal.Chains.{nothing, is_left, gate_at}

abbrev left : List Gate → List Gate
left gates = filter is_left gates

-- a gate as code reads it
pub read_at : (gates : List Gate) (i : ℕ) (x : Gate) → i < length gates → x ≡ get_or gates i x → x ≡ gate_at gates i
read_at gates i x within is = is ∙ get_or_default gates i x nothing within

-- ---- one goes
remove_behind : (b : Bool) (x : Gate) (ys zs us : List Gate) → zs ≡ remove ys (length us)
    → cond b (x ∷ zs) zs ≡ remove (cond b (x ∷ ys) ys) (length (cond b (x ∷ us) us))
remove_behind true x ys zs us e = ap (λ l. x ∷ l) e
remove_behind false x ys zs us e = e

left-set_all : (xs : List Gate) (i : ℕ) → i < length xs → is_left (gate_at xs i) ≡ true
    → left (set xs i nothing) ≡ remove (left xs) (length (left (take i xs)))
left-set_all [] i within is = absurd (omega arith)
left-set_all (x ∷ xs) zero within is = ap (λ b. remove (cond b (x ∷ left xs) (left xs)) 0) (sym is)
left-set_all (x ∷ xs) (suc i) within is =
    remove_behind (is_left x) x (left xs) (left (set xs i nothing)) (left (take i xs))
    (left-set_all xs i (omega arith) is)

pub left-set_nothing : (xs : List Gate) (i n : ℕ) → i < n → n ≤ length xs → is_left (gate_at xs i) ≡ true
    → left (take n (set xs i nothing)) ≡ remove (left (take n xs)) (length (left (take i xs)))
left-set_nothing xs i n before within is =
    ap left (take-set-lt n xs i nothing before)
    ∙ left-set_all (take n xs) i (omega (arith, length-take-le n xs within))
    (ap is_left (get_or-take n xs i nothing before) ∙ is)
    ∙ ap (λ ys. remove (left (take n xs)) (length (left ys))) (take-take i n xs (omega arith))

-- ---- one of them
at_behind : (b : Bool) (x d y : Gate) (ys us : List Gate) → get_or ys (length us) d ≡ y
    → get_or (cond b (x ∷ ys) ys) (length (cond b (x ∷ us) us)) d ≡ y
at_behind true x d y ys us e = e
at_behind false x d y ys us e = e

left_at_all : (xs : List Gate) (i : ℕ) (d : Gate) → i < length xs → is_left (gate_at xs i) ≡ true
    → get_or (left xs) (length (left (take i xs))) d ≡ gate_at xs i
left_at_all [] i d within is = absurd (omega arith)
left_at_all (x ∷ xs) zero d within is = ap (λ b. get_or (cond b (x ∷ left xs) (left xs)) 0 d) is
left_at_all (x ∷ xs) (suc i) d within is =
    at_behind (is_left x) x d (gate_at xs i) (left xs) (left (take i xs)) (left_at_all xs i d (omega arith) is)

pub left_at : (xs : List Gate) (i n : ℕ) (d : Gate) → i < n → n ≤ length xs → is_left (gate_at xs i) ≡ true
    → get_or (left (take n xs)) (length (left (take i xs))) d ≡ gate_at xs i
left_at xs i n d before within is =
    sym (ap (λ ys. get_or (left (take n xs)) (length (left ys)) d) (take-take i n xs (omega arith)))
    ∙ left_at_all (take n xs) i d (omega (arith, length-take-le n xs within))
    (ap is_left (get_or-take n xs i nothing before) ∙ is)
    ∙ get_or-take n xs i nothing before

-- ---- cut at one of them
pub one_left : (b : Bool) (x : Gate) (ys : List Gate) → b ≡ true → cond b (x ∷ ys) ys ≡ x ∷ ys
one_left b x ys is = ap (λ c. cond c (x ∷ ys) ys) is

-- what is left behind a place
abbrev pub left_behind : List Gate → ℕ → ℕ → List Gate
left_behind xs i n = filter is_left (drop (i + 1) (take n xs))

pub left_cut : (xs : List Gate) (i n : ℕ) → i < n → n ≤ length xs → is_left (gate_at xs i) ≡ true
    → left (take n xs) ≡ left (take i xs) ++ gate_at xs i ∷ left_behind xs i n
left_cut xs i n before within is =
    ap left (sym (take-append-drop i (take n xs)))
    ∙ filter-append is_left (take i (take n xs)) (drop i (take n xs))
    ∙ ap₂ (λ ys zs. left ys ++ left zs) (take-take i n xs (omega arith))
    (drop_more (take n xs) i nothing (omega (arith, length-take-le n xs within))
    ∙ ap (λ x. x ∷ drop (i + 1) (take n xs)) (get_or-take n xs i nothing before))
    ∙ ap (λ ys. left (take i xs) ++ ys) (one_left (is_left (gate_at xs i)) (gate_at xs i) (left_behind xs i n) is)

-- ---- all of them
all_behind : (p : Gate → Bool) (b : Bool) (x : Gate) (ys : List Gate) → (b ≡ true → p x ≡ true) → list_all p ys ≡ true
    → list_all p (cond b (x ∷ ys) ys) ≡ true
all_behind p true x ys here all = and_from (p x) (list_all p ys) (here refl) all
all_behind p false x ys here all = all

pub all_left_pass : (p : Gate → Bool) (xs : List Gate)
    → ((j : ℕ) → j < length xs → is_left (gate_at xs j) ≡ true → p (gate_at xs j) ≡ true) → list_all p (left xs) ≡ true
all_left_pass p [] each = refl
all_left_pass p (x ∷ xs) each =
    all_behind p (is_left x) x (left xs) (each 0 (omega arith))
    (all_left_pass p xs (λ j within. each (suc j) (omega arith)))
