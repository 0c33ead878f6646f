-- The table of the vertices that classes become, spider by spider.
use Rattle.std.proofs.Common.{◌≡◌, ◌≢◌, refl, sym, ◌∙◌, ap, ap₂, ℕ, suc, zero as nought, ◌+◌, ◌<◌, ◌≤◌, Bool, true, false, ◌&&◌, eqb, List, [], ◌∷◌, ◌++◌, length, get_or, length-append, true≢false, arith}
use Rattle.std.specs.Prelude.{filter}
use Rattle.std.proofs.lemmas.List.{append-nil}
use Rattle.std.proofs.lemmas.List.Elements.{filter-append}
use Rattle.std.proofs.Math.ListN.{get_or-append}
use Rattle.std.proofs.Math.Seq.{get_or-append_seam}
use Rattle.zx_model.specs.Bits.{member}
use Rattle.zx_calculus.proofs.Ids.{by_test, by_equal, eqb-self, member-filter}
use Rattle.zx_diagram.specs.Diagram.{numbers_from}
use Rattle.graph_like.specs.Classes.{named_by}
use Rattle.graph_like.specs.LikeForm.{place}
use Rattle.graph_like.specs.Internal.Homes.{leaders_below, IsNaming, AreHomes}
use Rattle.graph_like.proofs.ClassLemmas.{length-numbers_from, member-numbers_from}

-- one more number in a row
pub numbers_from-more : (k n : ℕ) → numbers_from k (suc n) ≡ numbers_from k n ++ (k + n) ∷ []
numbers_from-more k nought = ap (λ m. m ∷ []) (omega arith)
numbers_from-more k (suc n) =
    ap (λ l. k ∷ l) (numbers_from-more (suc k) n ∙ ap (λ m. numbers_from (suc k) n ++ m ∷ []) (omega arith))

pub absent-below : (p k n : ℕ) → k + n ≤ p → member p (numbers_from k n) ≡ false
absent-below p k nought far = refl
absent-below p k (suc n) far =
    by_equal p k (λ t e. absurd (omega arith)) (λ t ne. rw t (absent-below p (suc k) n (omega arith)))

place-first : (r : ℕ) (xs ys : List ℕ) → member r xs ≡ true → place r (xs ++ ys) ≡ place r xs
place-first r [] ys there = absurd (true≢false (sym there))
place-first r (x ∷ xs) ys there =
    by_equal r x (λ t e. rw t refl) (λ t ne. rw t (ap (λ n. suc n) (place-first r xs ys (rw t at there))))

place-last : (r : ℕ) (xs : List ℕ) → member r xs ≡ false → place r (xs ++ r ∷ []) ≡ length xs
place-last r [] absent = rw (eqb-self r) refl
place-last r (x ∷ xs) absent =
    by_equal r x
    (λ t e. absurd (true≢false (rw t at absent)))
    (λ t ne. rw t (ap (λ n. suc n) (place-last r xs (rw t at absent))))

leaders-led : (least : ℕ → ℕ) (n : ℕ) → least n ≡ n → leaders_below least (suc n) ≡ leaders_below least n ++ n ∷ []
leaders-led least n e =
    ap (filter test) (numbers_from-more 0 n) ∙ filter-append test (numbers_from 0 n) ((0 + n) ∷ [])
    ∙ ap (λ l. filter test (numbers_from 0 n) ++ l) one
  where
    test : ℕ → Bool
    test u = eqb (least u) u

    zero_more : 0 + n ≡ n
    zero_more = omega arith

    one : filter test ((0 + n) ∷ []) ≡ n ∷ []
    one = ap (λ m. filter test (m ∷ [])) zero_more ∙ rw e (rw (eqb-self n) refl)

leaders-joined : (least : ℕ → ℕ) (n : ℕ) → least n ≢ n → leaders_below least (suc n) ≡ leaders_below least n
leaders-joined least n ne =
    ap (filter test) (numbers_from-more 0 n) ∙ filter-append test (numbers_from 0 n) ((0 + n) ∷ [])
    ∙ ap (λ l. filter test (numbers_from 0 n) ++ l) none ∙ append-nil _
  where
    test : ℕ → Bool
    test u = eqb (least u) u

    zero_more : 0 + n ≡ n
    zero_more = omega arith

    none : filter test ((0 + n) ∷ []) ≡ []
    none = ap (λ m. filter test (m ∷ [])) zero_more ∙ by_equal (least n) n (λ t e. absurd (ne e)) (λ t q. rw t refl)

leaders-count : (least : ℕ → ℕ) (n : ℕ) → length (leaders_below least n) ≤ n
leaders-count least n = omega (arith, shorter (numbers_from 0 n), length-numbers_from 0 n)
  where
    shorter : (vs : List ℕ) → length (filter (λ u. eqb (least u) u) vs) ≤ length vs
    shorter [] = omega arith
    shorter (v ∷ vs) =
        by_test (eqb (least v) v)
        (λ t. rw t (omega (arith, shorter vs)))
        (λ t. rw t (omega (arith, shorter vs)))

-- a spider that is the smallest of its class
is_leader : (least : ℕ → ℕ) (n u : ℕ) → u < n → least u ≡ u → member u (leaders_below least n) ≡ true
is_leader least n u low e =
    member-filter (λ u. eqb (least u) u) (numbers_from 0 n) u
    ∙ ap₂ (λ a b. a && b) (member-numbers_from u 0 n (omega arith) (omega arith)) (ap (λ w. eqb w u) e ∙ eqb-self u)

pub no_leader : (least : ℕ → ℕ) (n u : ℕ) → n ≤ u → member u (leaders_below least n) ≡ false
no_leader least n u far =
    member-filter (λ u. eqb (least u) u) (numbers_from 0 n) u
    ∙ ap (λ a. a && eqb (least u) u) (absent-below u 0 n (omega arith))

pub homes-few : (least : ℕ → ℕ) (homes : List ℕ) (count : ℕ) → AreHomes least homes count → count ≤ length homes
homes-few least homes count a = omega (arith, a.counted, leaders-count least (length homes))

-- the first of a new class
pub homes-led : (name : ℕ → ℕ) (homes : List ℕ) (count least : ℕ) → IsNaming name → name (length homes) ≡ least →
    length homes ≤ least → least ≤ length homes → AreHomes name homes count → AreHomes name (homes ++ count ∷ []) (count + 1)
homes-led name homes count least is at far low a = record {
  counted = ap (λ m. m + 1) a.counted ∙ sym (length-append _ (n ∷ [])) ∙ ap length (sym (leaders-led name n own)) ∙ ap (λ m. length (leaders_below name m)) (sym longer);
  placed = λ u o early. placed u o (omega (arith, longer)) ∙ ap (λ m. place (name u) (leaders_below name m)) (sym longer);
}
  where
    n : ℕ
    n = length homes

    own : name n ≡ n
    own = omega arith

    longer : length (homes ++ count ∷ []) ≡ suc n
    longer = omega (arith, length-append homes (count ∷ []))

    placed : (u o : ℕ) → u < suc n → get_or (homes ++ count ∷ []) u o ≡ place (name u) (leaders_below name (suc n))
    placed u o early =
        by_equal u n
        (λ t e. ap (λ i. get_or (homes ++ count ∷ []) i o) e ∙ get_or-append_seam homes count [] o ∙ a.counted
        ∙ sym (place-last n (leaders_below name n) (no_leader name n n (omega arith)))
        ∙ ap₂ place (sym own ∙ ap name (sym e)) (sym (leaders-led name n own)))
        (λ t ne. let before : u < n = omega arith in
        get_or-append homes (count ∷ []) o u before ∙ a.placed u o before
        ∙ sym (place-first (name u) (leaders_below name n) (n ∷ []) (is_leader name n (name u) (omega (arith, is.low u)) (is.named u)))
        ∙ ap (place (name u)) (sym (leaders-led name n own)))

-- a spider of a class that has a vertex
pub homes-joined : (name : ℕ → ℕ) (homes : List ℕ) (count least home : ℕ) → IsNaming name → name (length homes) ≡ least →
    least < length homes → ((o : ℕ) → get_or homes least o ≡ home) → AreHomes name homes count → AreHomes name (homes ++ home ∷ []) count
homes-joined name homes count least home is at low there a = record {
  counted = a.counted ∙ ap length (sym (leaders-joined name n apart)) ∙ ap (λ m. length (leaders_below name m)) (sym longer);
  placed = λ u o early. placed u o (omega (arith, longer)) ∙ ap (λ m. place (name u) (leaders_below name m)) (sym longer);
}
  where
    n : ℕ
    n = length homes

    apart : name n ≢ n
    apart e = absurd (omega arith)

    longer : length (homes ++ home ∷ []) ≡ suc n
    longer = omega (arith, length-append homes (home ∷ []))

    placed : (u o : ℕ) → u < suc n → get_or (homes ++ home ∷ []) u o ≡ place (name u) (leaders_below name (suc n))
    placed u o early =
        by_equal u n
        (λ t e. ap (λ i. get_or (homes ++ home ∷ []) i o) e ∙ get_or-append_seam homes home [] o ∙ sym (there o) ∙ a.placed least o low
        ∙ ap₂ place (ap name (sym at) ∙ is.named n ∙ ap name (sym e)) (sym (leaders-joined name n apart)))
        (λ t ne. let before : u < n = omega arith in
        get_or-append homes (home ∷ []) o u before ∙ a.placed u o before ∙ ap (place (name u)) (sym (leaders-joined name n apart)))

-- the loop over all spiders
pub record IsHomed (least : List ℕ) (vertices : List ℕ) (count i : ℕ) : Type 0 where
  pub same : length vertices ≡ i
  pub homes : AreHomes (named_by least) vertices count
