-- The outputs next to a vertex.
use Rattle.std.proofs.Common.{◌≡◌, refl, sym, ◌∙◌, ap, subst, ℕ, ◌+◌, ◌≤◌, Bool, true, false, cond, ◌&&◌, ◌||◌, List, [], ◌∷◌, ◌++◌, filter, length, take, true≢false, le_of_eq, arith}
use Rattle.std.specs.List.{AllZip}
use Rattle.std.proofs.lemmas.List.{take_all, append-nil}
use Rattle.std.proofs.lemmas.List.Elements.{AllZip-push, filter-append, length_all_zip}
use Rattle.std.proofs.lemmas.List.Sums.{length-filter, count_by-le-length}
use Rattle.zx_model.specs.Bits.{member}
use Rattle.zx_calculus.specs.Graph.{Graph, joined, end_vertices, Distinct, WellFormed}
use Rattle.zx_calculus.proofs.Ids.{by_test, by_equal, member-filter, Distinct-different}
use Rattle.zx_calculus.proofs.ReducedLemmas.{length-places}
use Rattle.circuit_laws.specs.Peeling.{HasPlainOutput}
use Rattle.zx_extract.specs.Internal.Lists.{legs_of}
use Rattle.zx_extract.specs.Internal.Steps.{AreLegs}
use Rattle.zx_extract.proofs.Places.{take-places}

-- the legs at the first outputs
abbrev pub legs_below : Graph → ℕ → ℕ → List ℕ
legs_below g v i = filter (joined g.edges v) (take i (end_vertices g.outputs))

module _ (g : Graph) (v i w : ℕ) (qubits : List ℕ) (o : HasPlainOutput g i w) where
  seen : legs_below g v (i + 1) ≡ legs_below g v i ++ filter (joined g.edges v) (w ∷ [])
  seen = ap (filter (joined g.edges v)) (take-places g.outputs i w o)
      ∙ filter-append (joined g.edges v) (take i (end_vertices g.outputs)) (w ∷ [])

  pub legs_more : joined g.edges v w ≡ true → AllZip (HasPlainOutput g) qubits (legs_below g v i) →
      AllZip (HasPlainOutput g) (qubits ++ i ∷ []) (legs_below g v (i + 1))
  legs_more near a = subst (AllZip (HasPlainOutput g) (qubits ++ i ∷ []))
      (sym (seen ∙ ap (λ b. legs_below g v i ++ cond b (w ∷ []) []) near))
      (AllZip-push (HasPlainOutput g) qubits (legs_below g v i) i w a o)

  pub legs_skip : joined g.edges v w ≡ false → AllZip (HasPlainOutput g) qubits (legs_below g v i) →
      AllZip (HasPlainOutput g) qubits (legs_below g v (i + 1))
  legs_skip off a = subst (AllZip (HasPlainOutput g) qubits)
      (sym (seen ∙ ap (λ b. legs_below g v i ++ cond b (w ∷ []) []) off ∙ append-nil (legs_below g v i))) a

-- all outputs were seen
pub legs_all : (g : Graph) (v : ℕ) (qubits : List ℕ) →
    AllZip (HasPlainOutput g) qubits (legs_below g v (length g.outputs)) → AreLegs g v qubits
legs_all g v qubits = subst (λ us. AllZip (HasPlainOutput g) qubits (filter (joined g.edges v) us))
    (take_all (length g.outputs) (end_vertices g.outputs) (le_of_eq (length-places g.outputs)))

pub member-legs : (g : Graph) (v u : ℕ) → member u (legs_of g v) ≡ (member u (end_vertices g.outputs) && joined g.edges v u)
member-legs g v u = member-filter (joined g.edges v) (end_vertices g.outputs) u

Distinct-filter : (t : ℕ → Bool) (us : List ℕ) → Distinct us → Distinct (filter t us)
Distinct-filter t [] d = d
Distinct-filter t (u ∷ us) d =
    by_test (t u) (λ y. rw y (member-filter t us u ∙ ap (λ b. b && t u) d.0, Distinct-filter t us d.1))
    (λ n. rw n (Distinct-filter t us d.1))

pub legs_differ : (g : Graph) (v : ℕ) → WellFormed g → Distinct (legs_of g v)
legs_differ g v wf = Distinct-filter (joined g.edges v) (end_vertices g.outputs)
    (Distinct-different (end_vertices g.outputs) wf.outputs.one_each)

-- ---- how many there are
filter-fewer : (p q : ℕ → Bool) (us : List ℕ) → ((u : ℕ) → q u ≡ true → p u ≡ true) →
    length (filter q us) ≤ length (filter p us)
filter-fewer p q [] within = omega arith
filter-fewer p q (u ∷ us) within =
    let rest : length (filter q us) ≤ length (filter p us) = filter-fewer p q us within in
    by_test (q u) (λ y. rw (y, within u y) (omega (arith, rest)))
    (λ n. rw n (by_test (p u) (λ y. rw y (omega (arith, rest))) (λ m. rw m rest)))

-- one passes no more
pub filter-less : (p q : ℕ → Bool) (us : List ℕ) (w : ℕ) → ((u : ℕ) → q u ≡ true → p u ≡ true) →
    member w us ≡ true → p w ≡ true → q w ≡ false → length (filter q us) + 1 ≤ length (filter p us)
filter-less p q [] w within there was off = absurd (true≢false (sym there))
filter-less p q (u ∷ us) w within there was off =
    by_equal w u
    (λ _ e. let here : p u ≡ true = ap p (sym e) ∙ was in
    let gone : q u ≡ false = ap q (sym e) ∙ off in
    let rest : length (filter q us) ≤ length (filter p us) = filter-fewer p q us within in
    rw (here, gone) (omega (arith, rest)))
    (λ n _. let rest : length (filter q us) + 1 ≤ length (filter p us) =
    filter-less p q us w within (ap (λ b. b || member w us) (sym n) ∙ there) was off in
    by_test (q u) (λ y. rw (y, within u y) (omega (arith, rest)))
    (λ m. rw m (by_test (p u) (λ y. rw y (omega (arith, rest))) (λ k. rw k rest))))

pub legs_few : (g : Graph) (v : ℕ) → length (legs_of g v) ≤ length g.outputs
legs_few g v = omega (
  arith,
  length-filter (joined g.edges v) (end_vertices g.outputs),
  count_by-le-length (joined g.edges v) (end_vertices g.outputs),
  length-places g.outputs,
)

-- an output that is no leg
pub legs_fewer : (g : Graph) (v u : ℕ) → member u (end_vertices g.outputs) ≡ true → joined g.edges v u ≡ false →
    length (legs_of g v) + 1 ≤ length g.outputs
legs_fewer g v u there off =
    omega (
      arith,
      filter-less (λ w. true) (joined g.edges v) (end_vertices g.outputs) u (λ w _. refl) there refl off,
      length-filter (λ w. true) (end_vertices g.outputs),
      count_by-le-length (λ w. true) (end_vertices g.outputs),
      length-places g.outputs,
    )

pub legs_as_many : (g : Graph) (v : ℕ) (qubits : List ℕ) → AreLegs g v qubits → length qubits ≡ length (legs_of g v)
legs_as_many g v qubits a = length_all_zip (HasPlainOutput g) qubits (legs_of g v) a
