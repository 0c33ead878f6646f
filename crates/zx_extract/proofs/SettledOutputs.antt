-- Outputs that are settled one after the other.
use Rattle.std.proofs.Common.{◌≡◌, ◌≢◌, refl, sym, ◌∙◌, ap, subst, ℕ, zero as nought, suc, ◌+◌, ◌-◌, ◌*◌, ◌/◌, ◌≤◌, ◌<◌, Bool, true, false, not, ◌||◌, eqb, eqb-true, ltb, ltb-true, lt-ltb, length, add-mul, mul-add, mul-suc, arith}
use Rattle.std.specs.Prelude.{slice_get}
use Rattle.zx_calculus.specs.Graph.{Graph, phase_of, joined, plain}
use Rattle.zx_calculus.proofs.Booleans.{or-true}
use Rattle.zx_calculus.proofs.Ids.{by_test, by_equal}
use Rattle.zx_calculus.proofs.Edges.{joined_comm}
use Rattle.zx_calculus.proofs.Splitting.{no_loop}
use Rattle.circuit_laws.specs.Peeling.{HasPlainOutput}
use Rattle.zx_extract.specs.Internal.Leading.{Remainder, AreApart, Leads, IsReady, IsFrontier, IsSettled, Settles}
use Rattle.zx_extract.specs.Internal.Steps.{IsSettling, IsPhaseTaken, IsUnjoined}
use Rattle.zx_extract.specs.Internal.Lists.{others_below}
use Rattle.zx_extract.proofs.Settled.{phase_settles, phase_gone, settles_nothing, settles_then, settles_within}
use Rattle.zx_extract.proofs.Leads.{leads_nothing, leads_then, leads_within}
use Rattle.zx_model.specs.Bits.{one_if}
use Rattle.std.proofs.lemmas.Bool.Decides.{nat_tests}
use Rattle.zx_extract.proofs.Places.{one_vertex}
use Rattle.std.proofs.lemmas.Option.{slice_get_within}

pub settled_fewer : (g : Graph) (picked fewer : ℕ → Bool) →
    ((p u : ℕ) → fewer p ≡ true → HasPlainOutput g p u → picked p ≡ true) → IsSettled g picked → IsSettled g fewer
settled_fewer g picked fewer among s = record {
  phase = λ p u t o. s.phase p u (among p u t o) o;
  apart = λ p q t t' u v o i. s.apart p q (among p u t o) (among q v t' i) u v o i;
}

pub settled_more : (s : Remainder) (q end : ℕ) (t : Remainder) (picked : ℕ → Bool) →
    ((p u : ℕ) → picked p ≡ true → HasPlainOutput s.graph p u → p < end) →
    IsSettled s.graph picked → IsSettling s q end t → IsSettled t.graph (λ p. picked p || eqb p q)
settled_more s q end t picked below before c = record { phase = phase; apart = apart }
  where
    back : (p u : ℕ) → HasPlainOutput t.graph p u → HasPlainOutput s.graph p u
    back p u o = ap (λ es. slice_get es p) (sym c.settles.outputs) ∙ o

    old : (p : ℕ) → (picked p || eqb p q) ≡ true → p ≢ q → picked p ≡ true
    old p t n = by_test (picked p) (λ h. h) (λ h. absurd (n (eqb-true p q (ap (λ b. b || eqb p q) (sym h) ∙ t))))

    phase : (p u : ℕ) → (picked p || eqb p q) ≡ true → HasPlainOutput t.graph p u → phase_of t.graph u ≡ 0
    phase p u h o = by_equal p q
        (λ _ e. c.phase u (subst (λ k. HasPlainOutput t.graph k u) e o))
        (λ _ n. c.settles.phases u (before.phase p u (old p h n) (back p u o)))

    with_q : (p u v : ℕ) → (picked p || eqb p q) ≡ true → HasPlainOutput t.graph p u → HasPlainOutput t.graph q v →
        joined t.graph.edges v u ≡ false
    with_q p u v h o i = by_equal p q
        (λ _ e. ap (joined t.graph.edges v) (one_vertex t.graph q u v (subst (λ k. HasPlainOutput t.graph k u) e o) i)
        ∙ no_loop t.graph v c.settles.ready.given.well_formed)
        (λ _ n. c.apart p (below p u (old p h n) (back p u o)) v u i o)

    apart : (p p' : ℕ) → (picked p || eqb p q) ≡ true → (picked p' || eqb p' q) ≡ true → (u v : ℕ) →
        HasPlainOutput t.graph p u → HasPlainOutput t.graph p' v → joined t.graph.edges u v ≡ false
    apart p p' h h' u v o i = by_equal p q
        (λ _ e. with_q p' v u h' i (subst (λ k. HasPlainOutput t.graph k u) e o))
        (λ _ n. by_equal p' q
        (λ _ e. joined_comm t.graph.edges u v ∙ with_q p u v h o (subst (λ k. HasPlainOutput t.graph k v) e i))
        (λ _ m. c.settles.edges u v (before.apart p p' (old p h n) (old p' h' m) u v (back p u o) (back p' v i))))

-- ---- the first outputs one after the other
pub settled_none : (g : Graph) → IsSettled g (λ p. ltb p 0)
settled_none g = record { phase = λ p u h. absurd (none p h); apart = λ p q h. absurd (none p h) }
  where
    none : (p : ℕ) → ltb p 0 ≡ true → ⊥
    none p h = let below : p < 0 = ltb-true p 0 h in omega arith

pub settled_next : (s : Remainder) (q : ℕ) (t : Remainder) → IsSettled s.graph (λ p. ltb p q) → IsSettling s q q t →
    IsSettled t.graph (λ p. ltb p (q + 1))
settled_next s q t before c =
    settled_fewer t.graph (λ p. ltb p q || eqb p q) (λ p. ltb p (q + 1)) (λ p u h o. among p h)
    (settled_more s q q t (λ p. ltb p q) (λ p u h o. ltb-true p q h) before c)
  where
    among : (p : ℕ) → ltb p (q + 1) ≡ true → (ltb p q || eqb p q) ≡ true
    among p h = let below : p < q + 1 = ltb-true p (q + 1) h in
        by_equal p q (λ t e. ap (λ b. ltb p q || b) t ∙ or-true (ltb p q))
        (λ f n. ap (λ b. b || eqb p q) (lt-ltb p q (omega arith)))

pub settled_all : (g : Graph) (n : ℕ) → n ≡ length g.outputs → IsSettled g (λ p. ltb p n) → IsFrontier g
settled_all g n e s = settled_fewer g (λ p. ltb p n) (λ p. true)
    (λ p u _ o. lt-ltb p n (subst (λ k. p < k) (sym e) (slice_get_within g.outputs p (plain u) o))) s

-- the last output after the others
pub settled_whole : (s : Remainder) (q : ℕ) (t : Remainder) → IsSettled s.graph (λ p. not (eqb p q)) →
    IsSettling s q (length s.graph.outputs) t → IsFrontier t.graph
settled_whole s q t before c =
    settled_fewer t.graph (λ p. not (eqb p q) || eqb p q) (λ p. true) (λ p u _ o. either (eqb p q))
    (settled_more s q (length s.graph.outputs) t (λ p. not (eqb p q))
    (λ p u _ o. slice_get_within s.graph.outputs p (plain u) o) before c)
  where
    either : (b : Bool) → (not b || b) ≡ true
    either true = refl
    either false = refl

-- ---- the gates of all of them, of which the i-th has at most i edges
pub pairs_next : (k i : ℕ) → 2 * k + i ≤ i * i → 2 * (k + i) + (i + 1) ≤ (i + 1) * (i + 1)
pairs_next k i few = omega (arith, add-mul i 1 (i + 1), mul-add i i 1)

pub pairs_all : (k n : ℕ) → 2 * k + n ≤ n * n → k ≤ n * (n - 1) / 2
pairs_all k nought few = omega arith
pairs_all k (suc m) few =
    let less : suc m * (suc m - 1) ≡ suc m * m = ap (λ j. suc m * j) (omega arith) in
    let square : suc m * suc m ≡ suc m * m + suc m = mul-suc (suc m) m in
    halved k (suc m * (suc m - 1)) (omega (arith, less, square))
  where
    halved : (k x : ℕ) → 2 * k ≤ x → k ≤ x / 2
    halved k x e = omega arith

-- ---- the phase of an output, and then its edges
pub settling_is : (s : Remainder) (q end : ℕ) (t u : Remainder) → IsReady s → IsPhaseTaken s q t →
    Settles t (others_below q end) u →
    ((r : ℕ) → r < end → AreApart u.graph q r) → IsSettling s q end u
settling_is s q end t u r phase settles apart = record {
  settles = settles_then s 1 t (others_below q end) u (phase_settles s q t r phase) settles;
  phase = λ v o. settles.phases v (phase_gone s q t r phase v (ap (λ es. slice_get es q) (sym settles.outputs) ∙ o));
  apart = apart;
}

pub others_below-step : (q r : ℕ) → others_below q r + one_if (not (eqb q r)) ≤ others_below q (r + 1)
others_below-step q r = grind (arith, nat_tests)

-- one more edge
pub edges_next : (s : Remainder) (q r : ℕ) (t u : Remainder) → Settles s (others_below q r) t → IsUnjoined t q r u →
    Settles s (others_below q (r + 1)) u
edges_next s q r t u a b =
    settles_within s (others_below q r + one_if (not (eqb q r))) (others_below q (r + 1)) u (others_below-step q r)
    (settles_then s (others_below q r) t (one_if (not (eqb q r))) u a b.settles)

pub apart_next : (q r : ℕ) (t u : Remainder) → IsUnjoined t q r u →
    ((p : ℕ) → p < r → AreApart t.graph q p) → (p : ℕ) → p < r + 1 → AreApart u.graph q p
apart_next q r t u b before p within v w o i = by_equal p r
    (λ _ e. b.apart v w o (subst (λ k. HasPlainOutput u.graph k w) e i))
    (λ _ n. b.settles.edges v w (before p (omega arith) v w (ap (λ es. slice_get es q) (sym b.settles.outputs) ∙ o)
    (ap (λ es. slice_get es p) (sym b.settles.outputs) ∙ i)))

pub edges_nothing : (s : Remainder) (q : ℕ) → IsReady s → Settles s (others_below q 0) s
edges_nothing s q r = settles_within s 0 (others_below q 0) s (omega arith) (settles_nothing s r)

-- ---- all outputs, with a gate for each and one for each pair
abbrev pub SettlesSome : Remainder → ℕ → Remainder → Type 0
SettlesSome s q t = (k : ℕ) × (2 * k + q ≤ q * q) × Leads s (k + q) 0 0 t

pub all_nothing : (s : Remainder) → SettlesSome s 0 s
all_nothing s = (0, omega arith, leads_nothing s)

others_below-same : (q : ℕ) → others_below q q ≡ q
others_below-same q = grind (arith, nat_tests)

pub all_next : (s : Remainder) (q : ℕ) (t u : Remainder) → SettlesSome s q t → IsSettling t q q u → SettlesSome s (q + 1) u
all_next s q t u a c = (
  a.0 + q,
  pairs_next a.0 q a.1,
  leads_within s ((a.0 + q) + (1 + others_below q q)) 0 0 ((a.0 + q) + (q + 1)) u (omega (arith, others_below-same q))
      (leads_then s (a.0 + q) 0 0 t (1 + others_below q q) 0 0 u a.2 c.settles.leads),
)

pub all_leads : (s : Remainder) (q n : ℕ) (t : Remainder) → q ≡ n → SettlesSome s q t → Leads s (n * (n - 1) / 2 + n) 0 0 t
all_leads s q n t e a =
    let pairs : a.0 ≤ n * (n - 1) / 2 = pairs_all a.0 n (subst (λ m. 2 * a.0 + m ≤ m * m) e a.1) in
    leads_within s (a.0 + q) 0 0 (n * (n - 1) / 2 + n) t (sum_of a.0 (n * (n - 1) / 2) q n pairs e) a.2
  where
    sum_of : (k half q n : ℕ) → k ≤ half → q ≡ n → k + q ≤ half + n
    sum_of k half q n e f = omega arith
