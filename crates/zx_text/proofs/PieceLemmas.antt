-- Texts cut at a separator, and numbers as they are spelled.
use Rattle.std.proofs.Common.{◌≡◌, ◌≢◌, ℕ, ◌<◌, ◌≤◌, ◌^◌, suc, zero, Bool, true, false, eqb, ltb, ◌||◌, ◌&&◌, List, [], ◌∷◌, ◌++◌, length, take, map, get_or, refl, sym, ap, ◌∙◌, ne_eqb, ltb-true, ltb-false, arith, Result, Ok, decimal}
use Rattle.std.specs.List.{list_all}
use Rattle.std.proofs.lemmas.Fmt.{parse-decimal}
use Rattle.std.specs.Str.Parse.{ParsesUnsigned}
use Rattle.zx_model.specs.Bits.{member}
use Rattle.zx_calculus.proofs.Ids.{by_test, eqb-self, eqb_comm, or-left, or-right}
use Rattle.zx_text.specs.Pieces.{pieces, longer}
use Rattle.zx_text.specs.Internal.SmallNumbers.{is_small}

pub none_before : (separator : ℕ) (bs : List ℕ) (n : ℕ) → ((k : ℕ) → k < n → get_or bs k 0 ≡ separator → ⊥)
    → member separator (take n bs) ≡ false
none_before separator bs zero none = refl
none_before separator [] (suc n) none = refl
none_before separator (b ∷ bs) (suc n) none =
    let here : eqb separator b ≡ false = ne_eqb separator b (λ e. none 0 (omega arith) (sym e)) in
    ap (λ x. x || member separator (take n bs)) here
    ∙ none_before separator bs n (λ k lt e. none (suc k) (omega arith) e)

pub none_in : (separator : ℕ) (bs : List ℕ) → ((k : ℕ) → k < length bs → get_or bs k 0 ≡ separator → ⊥)
    → member separator bs ≡ false
none_in separator [] none = refl
none_in separator (b ∷ bs) none =
    let here : eqb separator b ≡ false = ne_eqb separator b (λ e. none 0 (omega arith) (sym e)) in
    ap (λ x. x || member separator bs) here
    ∙ none_in separator bs (λ k lt e. none (suc k) (omega arith) e)

-- a number below 2^64 that a text spells is parsed
pub too_large : {E : Type 0} (n : ℕ) (text : List ℕ) (r : Result ℕ E) → ParsesUnsigned 64 10 text r
    → text ≡ decimal n → (r ≡ Ok n → ⊥) → 2 ^ 64 ≤ n
too_large n text r parsed same never =
    by_test (ltb n (2 ^ 64))
    (λ t. let small : n < 2 ^ 64 = ltb-true n (2 ^ 64) t in
    absurd (never (parse-decimal 64 n text r small small same parsed)))
    (λ f. ltb-false n (2 ^ 64) f)

-- ---- pieces
pub pieces-cut : (separator : ℕ) (a b : List ℕ) → member separator a ≡ false
    → pieces separator (a ++ separator ∷ b) ≡ a ∷ pieces separator b
pieces-cut separator [] b none = let here = eqb-self separator in rw here refl
pieces-cut separator (x ∷ a) b none =
    let other : eqb x separator ≡ false = eqb_comm x separator ∙ or-left _ _ none in
    rw other (ap (longer x) (pieces-cut separator a b (or-right _ _ none)))

pub pieces-whole : (separator : ℕ) (a : List ℕ) → member separator a ≡ false → pieces separator a ≡ a ∷ []
pieces-whole separator [] none = refl
pieces-whole separator (x ∷ a) none =
    let other : eqb x separator ≡ false = eqb_comm x separator ∙ or-left _ _ none in
    rw other (ap (longer x) (pieces-whole separator a (or-right _ _ none)))

-- where a part is no small number, no small numbers are spelled
pub none_small : (done : List ℕ) (part : List ℕ) (further : List (List ℕ)) (numbers : List ℕ)
    → ((n : ℕ) → part ≡ decimal n → 2 ^ 64 ≤ n) → map decimal numbers ≡ map decimal done ++ part ∷ further
    → list_all is_small numbers ≡ false
none_small [] part further [] large e = absurd (cc)
none_small [] part further (n ∷ ns) large e =
    let first : part ≡ decimal n = sym (first_of e) in
    let big = large n first in
    let here : ltb n (2 ^ 64) ≡ false = by_test (ltb n (2 ^ 64)) (λ t. let lt = ltb-true n (2 ^ 64) t in absurd (omega arith)) (λ f. f) in
    ap (λ b. b && list_all is_small ns) here
  where
    first_of : {x y : List ℕ} {xs ys : List (List ℕ)} → x ∷ xs ≡ y ∷ ys → x ≡ y
    first_of e = cc
none_small (d ∷ done) part further [] large e = absurd (cc)
none_small (d ∷ done) part further (n ∷ ns) large e =
    let rest : map decimal ns ≡ map decimal done ++ part ∷ further = rest_of e in
    ap (λ b. is_small n && b) (none_small done part further ns large rest) ∙ and-none (is_small n)
  where
    rest_of : {x y : List ℕ} {xs ys : List (List ℕ)} → x ∷ xs ≡ y ∷ ys → xs ≡ ys
    rest_of e = cc

    and-none : (b : Bool) → (b && false) ≡ false
    and-none true = refl
    and-none false = refl

pub pieces_some : (separator : ℕ) (text : List ℕ) → pieces separator text ≢ []
pieces_some separator [] = λ e. cc
pieces_some separator (b ∷ bs) =
    by_test (eqb b separator)
    (λ t. rw t (λ e. cc))
    (λ f. rw f (longer_some b (pieces separator bs)))
  where
    longer_some : (b : ℕ) (found : List (List ℕ)) → longer b found ≢ []
    longer_some b [] = λ e. cc
    longer_some b (piece ∷ others) = λ e. cc
