-- Lists with the same gates on each qubit, in the same order.
use Rattle.std.proofs.Common.{◌≡◌, ℕ, Bool, true, false, cond, ◌&&◌, ◌||◌, not, eqb, List, [], ◌∷◌, ◌++◌, append_assoc, refl, sym, ap, ap₂, ◌∙◌, subst}
use Rattle.std.specs.List.{filter, list_all}
use Rattle.std.specs.List.Sorted.{IsPermutation}
use Rattle.std.proofs.lemmas.Bool.{eq-eqb, or_left, or_right, and_parts, and_from, not_from_false, both_ways}
use Rattle.std.proofs.lemmas.List.{append-nil}
use Rattle.std.proofs.lemmas.List.Elements.{filter-append}
use Rattle.std.proofs.lemmas.List.Sorted.{IsPermutation-refl, IsPermutation-sym, IsPermutation-trans, IsPermutation-cons, IsPermutation-middle}
use Rattle.zx_model.specs.Number.{Number}
use Rattle.zx_gates.specs.Maps.{amp, act, acts}
use Rattle.zx_gates.specs.declared.gate.Gate.{Gate}
use Rattle.zx_gates.specs.declared.gate.Gate.TheVariants.{H, Phase, Cz, Cx, Not}
use Rattle.zx_gates.proofs.MapLemmas.{amp-acts, acts-append}
use Rattle.zx_peephole.specs.Commuting.{is_on, are_apart, commutes}
use Rattle.zx_peephole.proofs.Acting.{Spreads, spreads}
use Rattle.zx_peephole.proofs.CommutingLemmas.{apart_off, apart_commutes, acts-past}
use Rattle.zx_peephole.proofs.Cuts.{all_weaker}
use Rattle.piece_laws.specs.Reordering.{gates_on, IsReordered}

-- ---- where no element passes
none_of : {A : Type 0} (p : A → Bool) (x : A) (xs : List A) → filter p (x ∷ xs) ≡ [] → (p x ≡ false) × (filter p xs ≡ [])
none_of p x xs none = at (p x) refl none
  where
    at : (b : Bool) → p x ≡ b → cond b (x ∷ filter p xs) (filter p xs) ≡ [] → (p x ≡ false) × (filter p xs ≡ [])
    at true is e = absurd (let h : x ∷ filter p xs ≡ [] = e in cc)
    at false is e = (is, e)

none_among : {A : Type 0} (p q : A → Bool) (xs : List A) → filter p xs ≡ [] → filter p (filter q xs) ≡ []
none_among p q [] none = refl
none_among p q (x ∷ xs) none =
    let each = none_of p x xs none in at (q x) each.0 (none_among p q xs each.1)
  where
    at : (b : Bool) → p x ≡ false → filter p (filter q xs) ≡ [] → filter p (cond b (x ∷ filter q xs) (filter q xs)) ≡ []
    at true off rest = ap (λ c. cond c (x ∷ filter p (filter q xs)) (filter p (filter q xs))) off ∙ rest
    at false off rest = rest

-- the first one that passes
record IsFirst {A : Type 0} (p : A → Bool) (x : A) (rest ys : List A) : Type 0 where
  before : List A
  after : List A
  is : ys ≡ before ++ x ∷ after
  none : filter p before ≡ []

found : {A : Type 0} (p : A → Bool) (x : A) (rest ys : List A) → x ∷ rest ≡ filter p ys → IsFirst p x rest ys
found p x rest [] e = absurd (let h : x ∷ rest ≡ [] = e in cc)
found p x rest (y ∷ ys) e = at (p y) refl e (found p x rest ys)
  where
    at : (b : Bool) → p y ≡ b → x ∷ rest ≡ cond b (y ∷ filter p ys) (filter p ys) → (x ∷ rest ≡ filter p ys → IsFirst p x rest ys) → IsFirst p x rest (y ∷ ys)
    at true is e later = record { before = []; after = ys; is = let h : x ≡ y = cc in ap (λ z. z ∷ ys) (sym h); none = refl }
    at false is e later =
        let c = later e in
        record {
          before = y ∷ c.before;
          after = c.after;
          is = ap (λ zs. y ∷ zs) c.is;
          none = ap (λ b. cond b (y ∷ filter p c.before) (filter p c.before)) is ∙ c.none;
        }

-- a list that begins with an element which isn't in the first part of it
begins : {A : Type 0} (p : A → Bool) (x : A) → p x ≡ true → (xs ys rest : List A) → filter p xs ≡ [] → x ∷ rest ≡ xs ++ x ∷ ys → (xs ≡ []) × (rest ≡ ys)
begins p x on [] ys rest none e = (refl, (let h : rest ≡ ys = cc in h))
begins p x on (z ∷ xs) ys rest none e =
    let h : x ≡ z = cc in absurd (both_ways (p x) (ap p h ∙ (none_of p z xs none).0) on)

-- ---- gates that are apart
off_both : (p r : ℕ) (x : Gate) → ((q : ℕ) → (eqb p q || eqb r q) ≡ true → is_on q x ≡ false) → (not (is_on p x) && not (is_on r x)) ≡ true
off_both p r x off =
    and_from (not (is_on p x)) (not (is_on r x))
    (not_from_false (is_on p x) (off p (or_left (eqb p p) (eqb r p) (eq-eqb p p refl))))
    (not_from_false (is_on r x) (off r (or_right (eqb p r) (eqb r r) (eq-eqb r r refl))))

off_apart : (g x : Gate) → ((q : ℕ) → is_on q g ≡ true → is_on q x ≡ false) → are_apart g x ≡ true
off_apart (H p) x off = not_from_false (is_on p x) (off p (eq-eqb p p refl))
off_apart (Phase p k) x off = not_from_false (is_on p x) (off p (eq-eqb p p refl))
off_apart (Not p) x off = not_from_false (is_on p x) (off p (eq-eqb p p refl))
off_apart (Cz p r) x off = off_both p r x off
off_apart (Cx p r) x off = off_both p r x off

pub apart_all : (g : Gate) (xs : List Gate) → ((q : ℕ) → is_on q g ≡ true → gates_on q xs ≡ []) → list_all (are_apart g) xs ≡ true
apart_all g [] off = refl
apart_all g (x ∷ xs) off =
    and_from (are_apart g x) (list_all (are_apart g) xs)
    (off_apart g x (λ q on. (none_of (is_on q) x xs (off q on)).0))
    (apart_all g xs (λ q on. (none_of (is_on q) x xs (off q on)).1))

none_on : (g : Gate) (xs : List Gate) → list_all (are_apart g) xs ≡ true → (q : ℕ) → is_on q g ≡ true → gates_on q xs ≡ []
none_on g [] apart q on = refl
none_on g (x ∷ xs) apart q on =
    let each = and_parts (are_apart g x) (list_all (are_apart g) xs) apart in
    ap (λ b. cond b (x ∷ gates_on q xs) (gates_on q xs)) (apart_off g x each.0 q on) ∙ none_on g xs each.1 q on

-- ---- laws of the relation
pub reordered-append : (a b c d : List Gate) → IsReordered a b → IsReordered c d → IsReordered (a ++ c) (b ++ d)
reordered-append a b c d first second q =
    filter-append (is_on q) a c ∙ ap₂ (λ s t. s ++ t) (first q) (second q) ∙ sym (filter-append (is_on q) b d)

past_at : {A : Type 0} (x : A) (b : Bool) (us zs : List A) → (b ≡ true → us ≡ []) → us ++ cond b (x ∷ zs) zs ≡ cond b (x ∷ (us ++ zs)) (us ++ zs)
past_at x true us zs none = ap (λ vs. vs ++ x ∷ zs) (none refl) ∙ ap (λ vs. x ∷ (vs ++ zs)) (sym (none refl))
past_at x false us zs none = refl

-- a gate goes to the front of those that it is apart from
pub reordered-past : (g : Gate) (xs ys : List Gate) → list_all (are_apart g) xs ≡ true → IsReordered (xs ++ g ∷ ys) (g ∷ (xs ++ ys))
reordered-past g xs ys apart q =
    filter-append (is_on q) xs (g ∷ ys)
    ∙ past_at g (is_on q g) (gates_on q xs) (gates_on q ys) (none_on g xs apart q)
    ∙ ap (λ zs. cond (is_on q g) (g ∷ zs) zs) (sym (filter-append (is_on q) xs ys))

pub exchanged : (g h : Gate) (before after : List Gate) → are_apart g h ≡ true → IsReordered (before ++ g ∷ h ∷ after) (before ++ h ∷ g ∷ after)
exchanged g h before after apart =
    reordered-append before before (g ∷ h ∷ after) (h ∷ g ∷ after) (λ q. refl)
    (λ q. sym (reordered-past g (h ∷ []) after (and_from (are_apart g h) true apart refl) q))

-- ---- one gate more behind
-- it is taken
pub taken : (seen piece passed : List Gate) (gate : Gate) → IsReordered seen (piece ++ passed) → list_all (are_apart gate) passed ≡ true
    → IsReordered (seen ++ gate ∷ []) (piece ++ gate ∷ [] ++ passed)
taken seen piece passed gate same apart q =
    reordered-append seen (piece ++ passed) (gate ∷ []) (gate ∷ []) same (λ r. refl) q
    ∙ ap (gates_on q) (append_assoc piece passed (gate ∷ []))
    ∙ reordered-append piece piece (passed ++ gate ∷ []) (gate ∷ (passed ++ [])) (λ r. refl) (reordered-past gate passed [] apart) q
    ∙ ap (λ gates. gates_on q (piece ++ gate ∷ gates)) (append-nil passed)
    ∙ ap (gates_on q) (sym (append_assoc piece (gate ∷ []) passed))

-- it is passed over
pub passed_over : (seen piece passed : List Gate) (gate : Gate) → IsReordered seen (piece ++ passed)
    → IsReordered (seen ++ gate ∷ []) (piece ++ (passed ++ gate ∷ []))
passed_over seen piece passed gate same q =
    reordered-append seen (piece ++ passed) (gate ∷ []) (gate ∷ []) same (λ r. refl) q
    ∙ ap (gates_on q) (append_assoc piece passed (gate ∷ []))

-- ---- from the first gate on
-- where the first gate of the one list stands in the other
record IsCutAt (g : Gate) (rest others : List Gate) : Type 0 where
  before : List Gate
  after : List Gate
  is : others ≡ before ++ g ∷ after
  apart : list_all (are_apart g) before ≡ true
  reordered : IsReordered rest (before ++ after)

cut : (g : Gate) (rest others : List Gate) → IsReordered (g ∷ rest) others → IsCutAt g rest others
cut g rest others same = record {
  before = here.before;
  after = here.after;
  is = here.is;
  apart = apart_all g here.before (λ q on. (first q on).0);
  reordered = λ q. left q (is_on q g) refl;
}
  where
    s : Spreads g
    s = spreads g

    here : IsFirst (is_on s.place) g (gates_on s.place rest) others
    here =
        found (is_on s.place) g (gates_on s.place rest) others
        (sym (ap (λ b. cond b (g ∷ gates_on s.place rest) (gates_on s.place rest)) s.on) ∙ same s.place)

    split : (q : ℕ) (b : Bool) → is_on q g ≡ b
        → cond b (g ∷ gates_on q rest) (gates_on q rest) ≡ gates_on q here.before ++ cond b (g ∷ gates_on q here.after) (gates_on q here.after)
    split q b on =
        ap (λ c. cond c (g ∷ gates_on q rest) (gates_on q rest)) (sym on)
        ∙ same q
        ∙ ap (gates_on q) here.is
        ∙ filter-append (is_on q) here.before (g ∷ here.after)
        ∙ ap (λ c. gates_on q here.before ++ cond c (g ∷ gates_on q here.after) (gates_on q here.after)) on

    first : (q : ℕ) → is_on q g ≡ true → (gates_on q here.before ≡ []) × (gates_on q rest ≡ gates_on q here.after)
    first q on =
        begins (is_on s.place) g s.on (gates_on q here.before) (gates_on q here.after) (gates_on q rest)
        (none_among (is_on s.place) (is_on q) here.before here.none) (split q true on)

    left : (q : ℕ) (b : Bool) → is_on q g ≡ b → gates_on q rest ≡ gates_on q (here.before ++ here.after)
    left q true on =
        let each = first q on in
        each.1 ∙ sym (filter-append (is_on q) here.before here.after ∙ ap (λ zs. zs ++ gates_on q here.after) each.0)
    left q false on = split q false on ∙ sym (filter-append (is_on q) here.before here.after)

nothing : (others : List Gate) → IsReordered [] others → [] ≡ others
nothing [] same = refl
nothing (h ∷ others) same =
    let s : Spreads h = spreads h in
    absurd (let e : [] ≡ h ∷ gates_on s.place others = same s.place ∙ ap (λ b. cond b (h ∷ gates_on s.place others) (gates_on s.place others)) s.on in cc)

-- what holds of lists with no gates, and is kept where a gate is put in front of one list, and behind gates that it is
-- apart from in the other
pub by_gates : (P : List Gate → List Gate → Type 0) → P [] []
    → ((g : Gate) (before after rest : List Gate) → list_all (are_apart g) before ≡ true → P rest (before ++ after) → P (g ∷ rest) (before ++ g ∷ after))
    → (gates others : List Gate) → IsReordered gates others → P gates others
by_gates P none more [] others same = subst (P []) (nothing others same) none
by_gates P none more (g ∷ rest) others same =
    let c : IsCutAt g rest others = cut g rest others same in
    subst (P (g ∷ rest)) (sym c.is) (more g c.before c.after rest c.apart (by_gates P none more rest (c.before ++ c.after) c.reordered))

reordered_acts : (gates others : List Gate) → IsReordered gates others → (f : List Bool → Number) → acts gates f ≡ acts others f
reordered_acts =
    by_gates (λ gates others. (f : List Bool → Number) → acts gates f ≡ acts others f) (λ f. refl)
    (λ g before after rest apart ih f.
    ap (act g) (ih f ∙ acts-append before after f)
    ∙ acts-past g before (all_weaker (are_apart g) (commutes g) (apart_commutes g) before apart) (acts after f)
    ∙ sym (acts-append before (g ∷ after) f))

pub reordered_map : (gates others : List Gate) → IsReordered gates others → amp gates ≡ amp others
reordered_map gates others same = λ i x y. at x y i
  where
    at : (x y : List Bool) → amp gates x y ≡ amp others x y
    at x y = amp-acts gates x y ∙ (λ i. reordered_acts gates others same (λ z. amp [] z y) i x) ∙ sym (amp-acts others x y)

pub reordered_gates : (gates others : List Gate) → IsReordered gates others → IsPermutation gates others
reordered_gates =
    by_gates IsPermutation (IsPermutation-refl [])
    (λ g before after rest apart ih.
    IsPermutation-trans (g ∷ rest) (g ∷ (before ++ after)) (before ++ g ∷ after)
    (IsPermutation-cons g rest (before ++ after) ih)
    (IsPermutation-sym (before ++ g ∷ after) (g ∷ (before ++ after)) (IsPermutation-middle before g after)))
