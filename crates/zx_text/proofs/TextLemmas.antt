-- Lines as texts: plain parts with one space between them, and a line feed behind.
use Rattle.std.proofs.Common.{◌≡◌, ◌≢◌, ℕ, ◌+◌, ◌%◌, ◌^◌, Bool, true, false, eqb, ltb, ◌||◌, List, [], ◌∷◌, ◌++◌, map, refl, sym, ap, ap₂, ◌∙◌, ltb-true, lt-ltb, eqb-true, eq-eqb, true≢false, arith, decimal}
use Rattle.std.specs.List.{list_all, join_with_byte}
use Rattle.std.proofs.lemmas.Fmt.{decimal_by_steps}
use Rattle.zx_model.specs.Bits.{member}
use Rattle.zx_calculus.proofs.Ids.{by_test, and-left, and-right, or-left, or-right, member-here, member-append, member-below}
use Rattle.zx_calculus.proofs.Kept.{both, below_all}
use Rattle.zx_text.specs.Lines.{mark}
use Rattle.zx_text.specs.Pieces.{pieces, longer}
use Rattle.zx_text.specs.Formats.{is_plain}
use Rattle.zx_text.specs.Internal.SmallNumbers.{is_small}
use Rattle.zx_text.proofs.PartLemmas.{all-last}
use Rattle.zx_text.proofs.PieceLemmas.{pieces-cut, pieces-whole, pieces_some}

-- ---- a text is its pieces with the separator between them
join-longer : (separator b : ℕ) (found : List (List ℕ)) → found ≢ [] → join_with_byte separator (longer b found) ≡ b ∷ join_with_byte separator found
join-longer separator b [] some = absurd (some refl)
join-longer separator b (piece ∷ []) some = refl
join-longer separator b (piece ∷ next ∷ others) some = refl

join-next : (separator : ℕ) (found : List (List ℕ)) → found ≢ [] → join_with_byte separator ([] ∷ found) ≡ separator ∷ join_with_byte separator found
join-next separator [] some = absurd (some refl)
join-next separator (piece ∷ others) some = refl

pub join-pieces : (separator : ℕ) (text : List ℕ) → join_with_byte separator (pieces separator text) ≡ text
join-pieces separator [] = refl
join-pieces separator (b ∷ bs) =
    by_test (eqb b separator)
    (λ t. let same : b ≡ separator = eqb-true b separator t in
    rw t (join-next separator (pieces separator bs) (pieces_some separator bs) ∙ ap₂ (λ x xs. x ∷ xs) (sym same) (join-pieces separator bs)))
    (λ f. rw f (join-longer separator b (pieces separator bs) (pieces_some separator bs) ∙ ap (λ xs. b ∷ xs) (join-pieces separator bs)))

-- ---- plain parts
pub decimal_plain : (n : ℕ) → is_small n ≡ true → is_plain (decimal n) ≡ true
decimal_plain n fits =
    decimal_by_steps (λ m ds. list_all (ltb 32) ds ≡ true)
    (λ m lt. both _ _ (lt-ltb 32 (48 + m) (omega arith)) refl)
    (λ m ds le ih. all-last (ltb 32) ds (48 + m % 10) ih (lt-ltb 32 (48 + m % 10) (omega arith)))
    n (ltb-true n (2 ^ 64) fits)

pub decimals_plain : (ns : List ℕ) → list_all is_small ns ≡ true → list_all is_plain (map decimal ns) ≡ true
decimals_plain [] fits = refl
decimals_plain (n ∷ ns) fits = both _ _ (decimal_plain n (and-left _ _ fits)) (decimals_plain ns (and-right _ _ fits))

pub mark_plain : (b : Bool) → is_plain (mark b) ≡ true
mark_plain true = refl
mark_plain false = refl

no_space : (part : List ℕ) → is_plain part ≡ true → member 32 part ≡ false
no_space part all = member-below 32 part all

no_line_feed : (part : List ℕ) → is_plain part ≡ true → member 10 part ≡ false
no_line_feed part all = member-below 10 part (below_all 10 32 part (omega arith) all)

-- plain parts are what they are joined to, and no line feed is in it
joined_plain : (w : List ℕ) (ps : List (List ℕ)) → list_all is_plain (w ∷ ps) ≡ true
    → (pieces 32 (join_with_byte 32 (w ∷ ps)) ≡ w ∷ ps) × (member 10 (join_with_byte 32 (w ∷ ps)) ≡ false)
joined_plain w [] all = (pieces-whole 32 w (no_space w (and-left _ _ all)), no_line_feed w (and-left _ _ all))
joined_plain w (p ∷ ps) all =
    let rest = joined_plain p ps (and-right _ _ all) in (
      pieces-cut 32 w (join_with_byte 32 (p ∷ ps)) (no_space w (and-left _ _ all)) ∙ ap (λ t. w ∷ t) rest.0,
      member-append 10 w (32 ∷ join_with_byte 32 (p ∷ ps)) ∙ ap₂ (λ a b. a || b) (no_line_feed w (and-left _ _ all)) rest.1,
    )

pub plain_text : (ps : List (List ℕ)) → ps ≢ [] → list_all is_plain ps ≡ true → (pieces 32 (join_with_byte 32 ps) ≡ ps) × (member 10 (join_with_byte 32 ps) ≡ false)
plain_text [] some all = absurd (some refl)
plain_text (w ∷ ps) some all = joined_plain w ps all

-- ---- line feeds
first_of : {A : Type 0} {x y : A} {xs ys : List A} → x ∷ xs ≡ y ∷ ys → x ≡ y
first_of e = cc

rest_of : {A : Type 0} {x y : A} {xs ys : List A} → x ∷ xs ≡ y ∷ ys → xs ≡ ys
rest_of e = cc

pub cut_same : (a b r s : List ℕ) → member 10 a ≡ false → member 10 b ≡ false → a ++ 10 ∷ r ≡ b ++ 10 ∷ s → (a ≡ b) × (r ≡ s)
cut_same [] [] r s none none' e = (refl, rest_of e)
cut_same [] (y ∷ b) r s none none' e = absurd (true≢false (sym (eq-eqb 10 y (first_of e)) ∙ or-left _ _ none'))
cut_same (x ∷ a) [] r s none none' e = absurd (true≢false (sym (eq-eqb 10 x (sym (first_of e))) ∙ or-left _ _ none))
cut_same (x ∷ a) (y ∷ b) r s none none' e =
    let rest = cut_same a b r s (or-right _ _ none) (or-right _ _ none') (rest_of e) in
    (ap₂ (λ z zs. z ∷ zs) (first_of e) rest.0, rest.1)

pub some_text : (a b : List ℕ) → (a ++ 10 ∷ []) ++ b ≡ [] → ⊥
some_text [] b e = cc
some_text (x ∷ a) b e = cc

pub has_line_feed : (a b : List ℕ) → member 10 (a ++ 10 ∷ b) ≡ true
has_line_feed a b = member-append 10 a (10 ∷ b) ∙ last_true (member 10 a) _ (member-here 10 b)
  where
    last_true : (c d : Bool) → d ≡ true → (c || d) ≡ true
    last_true true d e = refl
    last_true false d e = e
