-- Which phases a step negates: those near its first vertex alone.
use Rattle.std.proofs.Common.{◌≡◌, refl, sym, ◌∙◌, ap, ap₂, ℕ, Bool, true, false, not, ◌&&◌, ◌||◌, cond, eqb, List, [], ◌∷◌, ◌++◌, Option, Some, None, is_some, eqb-true, true≢false, arith}
use Rattle.zx_model.specs.Bits.{xor, member}
use Rattle.zx_model.specs.Phase.{half_turn}
use Rattle.zx_model.proofs.BitLemmas.{xor_assoc, xor-and}
use Rattle.zx_calculus.specs.Graph.{Graph, joined, neighbours, plane_of, phase_of, is_XY, is_XZ, WellFormed}
use Rattle.zx_calculus.specs.Gadgets.{first_of_list}
use Rattle.zx_calculus.specs.Steps.{LocalComplement, Delete, Pivot, FuseInto, allowed, after}
use Rattle.zx_calculus.specs.Gadgets.{IsFuseInto}
use Rattle.zx_calculus.proofs.Gadgets.{neighbours_into}
use Rattle.zx_calculus.proofs.Steps.{after_step}
use Rattle.zx_bits.specs.Rows.{IsFirstFrom}
use Rattle.zx_calculus.proofs.Ids.{by_equal, eqb-self}
use Rattle.zx_calculus.proofs.Splitting.{no_loop}
use Rattle.zx_calculus.proofs.Allowed.{pivot_joined}
use Rattle.zx_calculus.proofs.Booleans.{xor-false}
use Rattle.zx_calculus.proofs.Toggling.{member-neighbours}
use Rattle.teleport_laws.specs.Shifts.{negates, into_of}
use Rattle.phase_groups.specs.Internal.Noting.{stands_odd}

and_again : (a b : Bool) → (a && (a && b)) ≡ (a && b)
and_again true b = refl
and_again false b = refl

near_delete : (e h j n : Bool) → ((e || j) && ((h && j) && n)) ≡ ((h && j) && n)
near_delete true h j n = refl
near_delete false h true n = refl
near_delete false true false n = refl
near_delete false false false n = refl

near_pivot : (e d j x y : Bool) → (d ≡ true → j ≡ true) → ((e || j) && cond (e || d) x (j && y)) ≡ cond (e || d) x (j && y)
near_pivot true d j x y there = refl
near_pivot false d true x y there = refl
near_pivot false true false x y there = absurd (true≢false (sym (there refl)))
near_pivot false false false x y there = refl

and_group : (a b c : Bool) → ((a && b) && c) ≡ (a && (b && c))
and_group true b c = refl
and_group false b c = refl

module _ (g : Graph) where
  pub complement_near : (u v : ℕ) → ((eqb v u || joined g.edges u v) && negates g (LocalComplement u) v) ≡ negates g (LocalComplement u) v
  complement_near u v = and_again (eqb v u || joined g.edges u v) (is_XZ (plane_of g v))

  pub delete_near : (u v : ℕ) → ((eqb v u || joined g.edges u v) && negates g (Delete u) v) ≡ negates g (Delete u) v
  delete_near u v = near_delete (eqb v u) (eqb (phase_of g u) half_turn) (joined g.edges u v) (not (is_XY (plane_of g v)))

  pub pivot_near : (u w v : ℕ) → allowed g (Pivot u w) ≡ true → ((eqb v u || joined g.edges u v) && negates g (Pivot u w) v) ≡ negates g (Pivot u w) v
  pivot_near u w v may =
      ap (λ b. (eqb v u || joined g.edges u v) && cond (eqb v u || eqb v w) (is_XZ (plane_of g v)) b) (and_group (joined g.edges u v) (joined g.edges w v) (not (is_XY (plane_of g v))))
      ∙ near_pivot (eqb v u) (eqb v w) (joined g.edges u v) (is_XZ (plane_of g v)) (joined g.edges w v && not (is_XY (plane_of g v)))
      (λ t. by_equal v w (λ r e. ap (joined g.edges u) e ∙ pivot_joined g u w may) (λ f n. absurd (true≢false (sym t ∙ f))))
      ∙ ap (cond (eqb v u || eqb v w) (is_XZ (plane_of g v))) (sym (and_group (joined g.edges u v) (joined g.edges w v) (not (is_XY (plane_of g v)))))

-- ---- vertices that stand an odd number of times in a list
pub stands_odd-more : (xs : List ℕ) (v w : ℕ) → stands_odd (xs ++ v ∷ []) w ≡ xor (stands_odd xs w) (eqb w v)
stands_odd-more [] v w = xor-false (eqb w v)
stands_odd-more (x ∷ xs) v w = ap (xor (eqb w x)) (stands_odd-more xs v w) ∙ sym (xor_assoc (eqb w x) (stands_odd xs w) (eqb w v))

picked : (e n : Bool) → n ≡ true → e ≡ (e && n)
picked true n is = sym is
picked false n is = refl

-- a vertex more, which a test picks
pub picked_more : (xs ys : List ℕ) (v w : ℕ) (n : Bool) → ys ≡ xs ++ v ∷ [] → n ≡ true → stands_odd ys w ≡ xor (stands_odd xs w) (eqb w v && n)
picked_more xs ys v w n more is = ap (λ zs. stands_odd zs w) more ∙ stands_odd-more xs v w ∙ ap (xor (stands_odd xs w)) (picked (eqb w v) n is)

-- ---- the vertex and its neighbours, as far as they have come
-- what stands beside a bit is looked at only where that is true
and_same : (e p q : Bool) → (e ≡ true → q ≡ p) → (e && q) ≡ (e && p)
and_same true p q same = same refl
and_same false p q same = refl

-- one more
one_more : (old m e p q : Bool) → (e ≡ true → q ≡ p) → xor (xor old (m && p)) (e && q) ≡ xor old (xor m e && p)
one_more old m e p q same =
    xor_assoc old (m && p) (e && q) ∙ ap (xor old) (ap (xor (m && p)) (and_same e p q same) ∙ sym (xor-and m e p))

pub negated_more : (n : ℕ → Bool) (old yielded yielded' found found' : ℕ → Bool) (v w : ℕ) →
    yielded' w ≡ xor (yielded w) (eqb w v) → found w ≡ xor (old w) (yielded w && n w) → found' w ≡ xor (found w) (eqb w v && n v) →
    found' w ≡ xor (old w) (yielded' w && n w)
negated_more n old yielded yielded' found found' v w came so_far here =
    here ∙ ap (λ b. xor b (eqb w v && n v)) so_far
    ∙ one_more (old w) (yielded w) (eqb w v) (n w) (n v) (λ t. by_equal w v (λ r e. ap n (sym e)) (λ f a. absurd (true≢false (sym t ∙ f))))
    ∙ ap (λ b. xor (old w) (b && n w)) (sym came)

either : (e j p : Bool) → (e ≡ true → j ≡ false) → xor (e && p) (j && p) ≡ ((e || j) && p)
either true j true apart = rw (apart refl) refl
either true j false apart = rw (apart refl) refl
either false j p apart = refl

pub negated_all : (g : Graph) (n : ℕ → Bool) (u w : ℕ) (found : Bool) (came : List ℕ) → WellFormed g → came ≡ neighbours g u →
    found ≡ xor (eqb w u && n u) (member w came && n w) → found ≡ ((eqb w u || joined g.edges u w) && n w)
negated_all g n u w found came formed all is =
    is
    ∙ ap₂ (λ a b. xor a (b && n w))
    (by_equal w u (λ t e. ap (λ x. eqb w u && n x) (sym e)) (λ f a. rw f refl))
    (ap (member w) all ∙ member-neighbours g u w formed)
    ∙ either (eqb w u) (joined g.edges u w) (n w) (λ t. by_equal w u (λ r e. ap (joined g.edges u) e ∙ no_loop g u formed) (λ f a. absurd (true≢false (sym t ∙ f))))

-- ---- the only neighbour of a gadget that is fused
pub leg_found : (g : Graph) (u : ℕ) (leg : Option ℕ) → WellFormed g → allowed g (FuseInto u) ≡ true → IsFirstFrom (joined g.edges u) 0 leg → is_some leg ≡ true
leg_found g u None w may none =
    let s : IsFuseInto g u (after (FuseInto u) g) = after_step g (FuseInto u) w may in
    absurd (true≢false (sym (s.only_neighbour s.into ∙ eqb-self s.into) ∙ none s.into (omega arith)))
leg_found g u (Some into) w may first = refl

pub leg_is : (g : Graph) (u into : ℕ) (leg : Option ℕ) → WellFormed g → allowed g (FuseInto u) ≡ true → leg ≡ Some into → IsFirstFrom (joined g.edges u) 0 leg → into ≡ into_of g u
leg_is g u into leg w may is first =
    let s : IsFuseInto g u (after (FuseInto u) g) = after_step g (FuseInto u) w may in
    eqb-true into s.into (sym (s.only_neighbour into) ∙ (rw is at first).1)
    ∙ sym (ap first_of_list (neighbours_into g u (after (FuseInto u) g) w s))
