-- Walks over the neighbours of a vertex by rising id, while some of them change plane and phase.
use Rattle.std.proofs.Common.{◌≡◌, ◌≢◌, refl, sym, ◌∙◌, ap, ap₂, subst, ◌⊎◌, inl, inr, ℕ, ◌+◌, ◌≤◌, Bool, true, false, cond, ◌&&◌, ltb, lt-ltb, Option, Some, None, arith}
use Rattle.std.proofs.lemmas.Bool.{cases_lt, le-ltb}
use Rattle.zx_calculus.specs.Graph.{Kind, Graph, joined, WellFormed}
use Rattle.zx_calculus.specs.Edits.{at_vertex}
use Rattle.zx_calculus.specs.Internal.ChangedKinds.{with_changed}
use Rattle.zx_calculus.proofs.Booleans.{and-false}
use Rattle.zx_calculus.proofs.ChangedKinds.{changed_twice}
use Rattle.zx_calculus.proofs.Ids.{by_equal}
use Rattle.zx_calculus.proofs.Vertices.{with_kinds_same, with_kinds-unchanged}
use Rattle.zx_bits.specs.Rows.{IsFirstFrom}

-- those that pass a test change
abbrev pub changed_where : (ℕ → Bool) → (Kind → Kind) → ℕ → Kind → Kind
changed_where test change p k = cond (test p) (change k) k

-- those below a number that pass it
abbrev pub below : (ℕ → Bool) → ℕ → ℕ → Bool
below test start p = ltb p start && test p

-- g where those below a number have changed
abbrev pub changed_below : (ℕ → Bool) → (Kind → Kind) → ℕ → Graph → Graph
changed_below test change start g = with_changed (changed_where (below test start) change) g

same_tests : (s t : ℕ → Bool) (change : Kind → Kind) (g : Graph) → ((p : ℕ) → s p ≡ t p) →
    with_changed (changed_where s change) g ≡ with_changed (changed_where t change) g
same_tests s t change g same =
    ap (λ vs. record g { vertices = vs })
    (with_kinds_same (changed_where s change) (changed_where t change) g.vertices
    (λ p k there. ap (λ b. cond b (change k) k) (same p)))

pub walk_starts : (test : ℕ → Bool) (change : Kind → Kind) (g : Graph) → changed_below test change 0 g ≡ g
walk_starts test change g =
    ap (λ vs. record g { vertices = vs })
    (with_kinds-unchanged (changed_where (below test 0) change) g.vertices
    (λ p k there. ap (λ b. cond (b && test p) (change k) k) (le-ltb p 0 (omega arith))))

-- only near ones pass the test
module _ (near test : ℕ → Bool) (within : (p : ℕ) → near p ≡ false → test p ≡ false) (change : Kind → Kind)
    (g : Graph) (start : ℕ) where
  at : (p : ℕ) → start ≤ p → below test start p ≡ false
  at p le = ap (λ b. b && test p) (le-ltb p start le)

  beside : (p : ℕ) → IsFirstFrom near start (Some p) → (q : ℕ) → q ≢ p → below test start q ≡ below test (p + 1) q
  beside p first q n = elim (cases_lt q start) [
    | inl l ↦ ap (λ b. b && test q) (lt-ltb q start l ∙ sym (lt-ltb q (p + 1) (omega (arith, l, first.0))))
    | inr g ↦ at q g ∙ elim (cases_lt q p) [
      | inl l ↦ sym (ap (λ b. ltb q (p + 1) && b) (within q (first.2 q g l)) ∙ and-false (ltb q (p + 1)))
      | inr h ↦ sym (ap (λ b. b && test q) (le-ltb q (p + 1) (omega (arith, h, n))))
    ]
  ]

  -- the next near one changes
  pub walk_turns : (p : ℕ) → IsFirstFrom near start (Some p) → test p ≡ true →
      with_changed (at_vertex p change) (changed_below test change start g) ≡ changed_below test change (p + 1) g
  walk_turns p first t =
      changed_twice (at_vertex p change) (changed_where (below test start) change)
      (changed_where (below test (p + 1)) change) g
      (λ q k. by_equal q p
      (λ s e. let old : below test start q ≡ false = ap (below test start) e ∙ at p first.0 in
      let new : below test (p + 1) q ≡ true = ap (below test (p + 1)) e
      ∙ ap₂ (λ a b. a && b) (lt-ltb p (p + 1) (omega arith)) t in rw (s, old, new) refl)
      (λ f n. rw f (ap (λ b. cond b (change k) k) (beside p first q n))))

  -- it stays
  pub walk_passes : (p : ℕ) → IsFirstFrom near start (Some p) → test p ≡ false →
      changed_below test change start g ≡ changed_below test change (p + 1) g
  walk_passes p first t =
      same_tests (below test start) (below test (p + 1)) change g
      (λ q. by_equal q p
      (λ s e. ap (below test start) e ∙ at p first.0
      ∙ sym (ap (below test (p + 1)) e ∙ ap (λ b. ltb p (p + 1) && b) t ∙ and-false (ltb p (p + 1))))
      (λ f n. beside p first q n))

  -- none is left
  pub walk_ends : IsFirstFrom near start None →
      changed_below test change start g ≡ with_changed (changed_where test change) g
  walk_ends none =
      same_tests (below test start) test change g
      (λ q. elim (cases_lt q start) [
        | inl l ↦ ap (λ b. b && test q) (lt-ltb q start l)
        | inr h ↦ at q h ∙ sym (within q (none q h))
      ])

-- a walk that has begun has seen that the graph is well-formed
pub walked_from : (test : ℕ → Bool) (change : Kind → Kind) (g h : Graph) (start : ℕ) → h ≡ changed_below test change start g →
    (start ≡ 0) ⊎ WellFormed g → WellFormed h → WellFormed g
walked_from test change g h start turned (inl none) w =
    subst WellFormed (turned ∙ ap (λ s. changed_below test change s g) none ∙ walk_starts test change g) w
walked_from test change g h start turned (inr formed) w = formed

-- what comes next in the graph so far comes next in g
pub first_in : (test : ℕ → Bool) (change : Kind → Kind) (g h : Graph) (u start : ℕ) (next : Option ℕ) →
    h ≡ changed_below test change start g → IsFirstFrom (joined h.edges u) start next →
    IsFirstFrom (joined g.edges u) start next
first_in test change g h u start next turned first = subst (λ k. IsFirstFrom (joined k.edges u) start next) turned first
