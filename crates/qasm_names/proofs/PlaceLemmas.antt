-- Places of names in a list, and names that stand twice.
use Rattle.std.proofs.Common.{◌≡◌, ℕ, suc, ◌+◌, ◌<◌, Bool, true, false, ◌||◌, if◌then◌else◌, List, [], ◌∷◌, ◌++◌, length, map, take, drop, get_or, Option, None, Some, refl, sym, ap, ap₂, ◌∙◌, arith, add-one}
use Rattle.std.specs.Borrow.{Bor}
use Rattle.std.specs.BTreeMap.{UpdatesBy}
use Rattle.std.specs.Cmp.Lexicographic.{slice_cmp}
use Rattle.std.specs.Ordering.{nat_cmp}
use Rattle.std.specs.List.{list_any, position_from}
use Rattle.std.specs.Option.{is_some}
use Rattle.std.specs.Str.{bytes_eq}
use Rattle.std.proofs.Math.Seq.{drop-cons, take-suc}
use Rattle.std.proofs.lemmas.List.{map-append, take-append-drop}
use Rattle.std.proofs.lemmas.List.Folds.{list_any-append}
use Rattle.std.proofs.lemmas.Map.Text.{btree_map_updates_str}
use Rattle.std.proofs.lemmas.Slice.Eq.{bytes_eq-Decides}
use Rattle.qasm_names.specs.declared.places.Places.{Places}
use Rattle.qasm_names.specs.Places.{place_in, ArePlaces}
use Rattle.qasm_names.proofs.Tests.{or-first, or-second, or-first-of}
use Rattle.qasm_names.proofs.Formulas.{is_some-place}
use Rattle.qasm_scope.specs.Applications.{has_twice}
use Rattle.std.proofs.lemmas.Bool.{or_right}

abbrev or_place : Option ℕ → Option ℕ → Option ℕ
or_place None other = other
or_place (Some i) other = Some i

or_place-none : (o : Option ℕ) → or_place o None ≡ o
or_place-none None = refl
or_place-none (Some i) = refl

pushed-at : (b c : Bool) (i n : ℕ) (o : Option ℕ) → or_place (if b then Some i else o) (if c then Some n else None) ≡ (if b then Some i else or_place o (if c then Some n else None))
pushed-at true c i n o = refl
pushed-at false c i n o = refl

position_from-push : {A : Type 0} (p : A → Bool) (i : ℕ) (xs : List A) (y : A)
    → position_from p i (xs ++ y ∷ []) ≡ or_place (position_from p i xs) (if p y then Some (i + length xs) else None)
position_from-push p i [] y = ap (λ n. if p y then Some n else None) (omega arith)
position_from-push p i (x ∷ xs) y =
    let same : (i + 1) + length xs ≡ i + length (x ∷ xs) = omega arith in
    ap (λ o. if p x then Some i else o) (position_from-push p (i + 1) xs y)
    ∙ ap (λ n. if p x then Some i else or_place (position_from p (i + 1) xs) (if p y then Some n else None)) same
    ∙ sym (pushed-at (p x) (p y) i (i + length (x ∷ xs)) (position_from p (i + 1) xs))

again-at : (b : Bool) (places : Places) (name q : List ℕ) (before : List (List ℕ)) (i n : ℕ) → bytes_eq name q ≡ b → ArePlaces places before → place_in places name ≡ Some i
    → position_from (λ other. bytes_eq other q) 0 before ≡ or_place (position_from (λ other. bytes_eq other q) 0 before) (if b then Some n else None)
again-at true places name q before i n e h there =
    let same : name ≡ q = (bytes_eq-Decides name q).0 e in
    let there' : position_from (λ other. bytes_eq other q) 0 before ≡ Some i = sym (h q) ∙ ap (place_in places) (sym same) ∙ there in
    there' ∙ sym (ap (λ o. or_place o (Some n)) there')
again-at false places name q before i n e h there = sym (or_place-none (position_from (λ other. bytes_eq other q) 0 before))

-- a name that has a place
pub put-again : (places : Places) (name : List ℕ) (before : List (List ℕ)) (i : ℕ) → ArePlaces places before → place_in places name ≡ Some i → ArePlaces places (before ++ name ∷ [])
put-again places name before i h there q =
    h q ∙ again-at (bytes_eq name q) places name q before i (0 + length before) refl h there
    ∙ sym (position_from-push (λ other. bytes_eq other q) 0 before name)

anew-at : (b : Bool) (places : Places) (name q : List ℕ) (before : List (List ℕ)) (n : ℕ) → bytes_eq name q ≡ b → ArePlaces places before → place_in places name ≡ None
    → (if b then Some n else place_in places q) ≡ or_place (position_from (λ other. bytes_eq other q) 0 before) (if b then Some n else None)
anew-at true places name q before n e h absent =
    let same : name ≡ q = (bytes_eq-Decides name q).0 e in
    let absent' : position_from (λ other. bytes_eq other q) 0 before ≡ None = sym (h q) ∙ ap (place_in places) (sym same) ∙ absent in
    sym (ap (λ o. or_place o (Some n)) absent')
anew-at false places name q before n e h absent = h q ∙ sym (or_place-none (position_from (λ other. bytes_eq other q) 0 before))

-- a name that has none
pub put-anew : (places later : Places) (name : List ℕ) (before : List (List ℕ)) (n : ℕ)
    → UpdatesBy (λ x y. slice_cmp nat_cmp x.now y.now) (λ k. slice_cmp nat_cmp name k.now) places.places later.places (Some n)
    → n ≡ length before → ArePlaces places before → place_in places name ≡ None → ArePlaces later (before ++ name ∷ [])
put-anew places later name before n updates e h absent q =
    let same : n ≡ 0 + length before = omega arith in
    btree_map_updates_str name places.places later.places (Some n) updates q
    ∙ anew-at (bytes_eq name q) places name q before n refl h absent
    ∙ ap (λ m. or_place (position_from (λ other. bytes_eq other q) 0 before) (if bytes_eq name q then Some m else None)) same
    ∙ sym (position_from-push (λ other. bytes_eq other q) 0 before name)

turned-at : (b : Bool) (xs ys : List ℕ) → bytes_eq ys xs ≡ b → bytes_eq xs ys ≡ false → b ≡ false
turned-at true xs ys e h = absurd (let k = (bytes_eq-Decides xs ys).1 (sym ((bytes_eq-Decides ys xs).0 e)) in cc)
turned-at false xs ys e h = refl

bytes_eq-turned : (xs ys : List ℕ) (b : Bool) → bytes_eq xs ys ≡ b → bytes_eq ys xs ≡ b
bytes_eq-turned xs ys true e = (bytes_eq-Decides ys xs).1 (sym ((bytes_eq-Decides xs ys).0 e))
bytes_eq-turned xs ys false e = turned-at (bytes_eq ys xs) xs ys refl e

or-middle : (a b c d : Bool) → b ≡ true → ((a || (b || c)) || d) ≡ true
or-middle false false c d h = absurd (cc)
or-middle _ _ c d h = refl

twice-at : (b : Bool) (x y : List ℕ) (xs ys : List (List ℕ)) → bytes_eq x y ≡ b → (b || list_any (λ other. bytes_eq other y) xs) ≡ true
    → (list_any (λ other. bytes_eq other y) xs ≡ true → has_twice bytes_eq (xs ++ y ∷ ys) ≡ true)
    → (list_any (λ other. bytes_eq other x) (xs ++ y ∷ ys) || has_twice bytes_eq (xs ++ y ∷ ys)) ≡ true
twice-at true x y xs ys e h rest =
    ap (λ b. b || has_twice bytes_eq (xs ++ y ∷ ys)) (list_any-append (λ other. bytes_eq other x) xs (y ∷ ys))
    ∙ or-middle (list_any (λ other. bytes_eq other x) xs) (bytes_eq y x) (list_any (λ other. bytes_eq other x) ys) (has_twice bytes_eq (xs ++ y ∷ ys)) (bytes_eq-turned x y true e)
twice-at false x y xs ys e h rest = or_right (list_any (λ other. bytes_eq other x) (xs ++ y ∷ ys)) (has_twice bytes_eq (xs ++ y ∷ ys)) (rest h)

-- a name that stands before stands twice
pub twice-found : (xs : List (List ℕ)) (y : List ℕ) (ys : List (List ℕ)) → list_any (λ other. bytes_eq other y) xs ≡ true → has_twice bytes_eq (xs ++ y ∷ ys) ≡ true
twice-found [] y ys h = absurd (cc)
twice-found (x ∷ xs) y ys h = twice-at (bytes_eq x y) x y xs ys refl h (twice-found xs y ys)

none-at : (x y : List ℕ) (xs : List (List ℕ)) → list_any (λ other. bytes_eq other x) xs ≡ false → bytes_eq x y ≡ false → has_twice bytes_eq (xs ++ y ∷ []) ≡ false
    → (list_any (λ other. bytes_eq other x) (xs ++ y ∷ []) || has_twice bytes_eq (xs ++ y ∷ [])) ≡ false
none-at x y xs h e rest =
    ap (λ b. b || has_twice bytes_eq (xs ++ y ∷ [])) (list_any-append (λ other. bytes_eq other x) xs (y ∷ [])
    ∙ ap (λ b. b || (bytes_eq y x || false)) h ∙ ap (λ b. b || false) (bytes_eq-turned x y false e))
    ∙ rest

-- a name that doesn't stand before makes none stand twice
pub twice-push : (xs : List (List ℕ)) (y : List ℕ) → has_twice bytes_eq xs ≡ false → list_any (λ other. bytes_eq other y) xs ≡ false → has_twice bytes_eq (xs ++ y ∷ []) ≡ false
twice-push [] y h k = refl
twice-push (x ∷ xs) y h k =
    none-at x y xs (or-first _ _ h) (or-first _ _ k) (twice-push xs y (or-second _ _ h) (or-second _ _ k))

-- a list at a place
pub map-split : {A B : Type 0} (f : A → B) (xs : List A) (i : ℕ) (d : A) → i < length xs → map f xs ≡ map f (take i xs) ++ f (get_or xs i d) ∷ map f (drop (suc i) xs)
map-split f xs i d h =
    ap (map f) (sym (take-append-drop i xs)) ∙ map-append f (take i xs) (drop i xs)
    ∙ ap (λ rest. map f (take i xs) ++ map f rest) (drop-cons xs i d h)

pub map-more : {A B : Type 0} (f : A → B) (xs : List A) (i : ℕ) (d : A) → i < length xs → map f (take (i + 1) xs) ≡ map f (take i xs) ++ f (get_or xs i d) ∷ []
map-more f xs i d h = rw add-one (ap (map f) (take-suc xs i d h) ∙ map-append f (take i xs) (get_or xs i d ∷ []))

pub twice-names : (names : List (Bor (List ℕ))) (i : ℕ) (d : Bor (List ℕ)) (places : Places) → i < length names → ArePlaces places (map (λ name. name.now) (take i names))
    → is_some (place_in places (get_or names i d).now) ≡ true → has_twice bytes_eq (map (λ name. name.now) names) ≡ true
twice-names names i d places h known there =
    ap (has_twice bytes_eq) (map-split (λ name. name.now) names i d h)
    ∙ twice-found (map (λ name. name.now) (take i names)) (get_or names i d).now (map (λ name. name.now) (drop (suc i) names))
    (sym (ap is_some (known (get_or names i d).now) ∙ is_some-place (λ other. bytes_eq other (get_or names i d).now) 0 (map (λ name. name.now) (take i names))) ∙ there)

pub none-names : (names : List (Bor (List ℕ))) (i : ℕ) (d : Bor (List ℕ)) (places : Places) → i < length names → ArePlaces places (map (λ name. name.now) (take i names))
    → is_some (place_in places (get_or names i d).now) ≡ false → has_twice bytes_eq (map (λ name. name.now) (take i names)) ≡ false
    → has_twice bytes_eq (map (λ name. name.now) (take (i + 1) names)) ≡ false
none-names names i d places h known absent before =
    ap (has_twice bytes_eq) (map-more (λ name. name.now) names i d h)
    ∙ twice-push (map (λ name. name.now) (take i names)) (get_or names i d).now before
    (sym (ap is_some (known (get_or names i d).now) ∙ is_some-place (λ other. bytes_eq other (get_or names i d).now) 0 (map (λ name. name.now) (take i names))) ∙ absent)

pub any-drop : {A B : Type 0} (p : B → Bool) (f : A → B) (xs : List A) (i : ℕ) (d : A) → i < length xs
    → list_any p (map f (drop i xs)) ≡ (p (f (get_or xs i d)) || list_any p (map f (drop (i + 1) xs)))
any-drop p f xs i d h =
    ap (λ rest. list_any p (map f rest)) (drop-cons xs i d h) ∙ ap (λ n. p (f (get_or xs i d)) || list_any p (map f (drop n xs))) (sym (add-one i))

-- an element that meets the test, or doesn't
pub any-here : {A B : Type 0} (p : B → Bool) (f : A → B) (xs : List A) (i : ℕ) (d : A) → i < length xs → p (f (get_or xs i d)) ≡ true
    → list_any p (map f (drop i xs)) ≡ true
any-here p f xs i d h e = any-drop p f xs i d h ∙ ap (λ b. b || list_any p (map f (drop (i + 1) xs))) e

pub any-next : {A B : Type 0} (p : B → Bool) (f : A → B) (xs : List A) (i : ℕ) (d : A) → i < length xs → p (f (get_or xs i d)) ≡ false
    → list_any p (map f (drop i xs)) ≡ list_any p (map f (drop (i + 1) xs))
any-next p f xs i d h e = any-drop p f xs i d h ∙ ap (λ b. b || list_any p (map f (drop (i + 1) xs))) e

-- an element that meets one of two tests
pub any-either : {A B : Type 0} (p q : B → Bool) (f : A → B) (xs : List A) (i : ℕ) (d : A) → i < length xs → (p (f (get_or xs i d)) || q (f (get_or xs i d))) ≡ true
    → (list_any p (map f (drop i xs)) || list_any q (map f (drop i xs))) ≡ true
any-either p q f xs i d h e = ap₂ ◌||◌ (any-drop p f xs i d h) (any-drop q f xs i d h)
    ∙ or-first-of (p (f (get_or xs i d))) (q (f (get_or xs i d))) (list_any p (map f (drop (i + 1) xs))) (list_any q (map f (drop (i + 1) xs))) e

pub map-map-more : {A B C : Type 0} (g : B → C) (f : A → B) (xs : List A) (i : ℕ) (d : A) → i < length xs
    → map g (map f (take (i + 1) xs)) ≡ map g (map f (take i xs)) ++ g (f (get_or xs i d)) ∷ []
map-map-more g f xs i d h = ap (map g) (map-more f xs i d h) ∙ map-append g (map f (take i xs)) (f (get_or xs i d) ∷ [])
