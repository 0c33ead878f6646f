-- What extraction asks of a reduced graph, and how many gates it gives for one.
use Rattle.std.proofs.Common.{◌≡◌, ◌≢◌, ◌≤◌, inl, inr, ℕ, ◌+◌, ◌-◌, ◌*◌, ◌/◌, length, sym, ap, ◌∙◌, subst, arith, mul-le-mul_left, div-le_self}
use Rattle.zx_calculus.specs.Graph.{XY, XZ, YZ, Graph, plane_of, is_XY, IsVertex, WellFormed}
use Rattle.zx_calculus.specs.Counts.{XY_without_output, odd_phases, not_XY}
use Rattle.zx_calculus.specs.Reduced.{IsReduced}
use Rattle.zx_calculus.proofs.ReducedLemmas.{reduced_few}
use Rattle.zx_calculus.proofs.Splitting.{interior_of}
use Rattle.zx_extract.specs.Extraction.{most_extracted_gates}
use Rattle.zx_extract.specs.Simplified.{gate_bound}

-- no vertex of a reduced graph is XZ: one that holds an end is XY, and the others are XY or YZ
pub no_XZ : (g : Graph) → WellFormed g → IsReduced g → (v : ℕ) → IsVertex g v → plane_of g v ≢ XZ
no_XZ g w r v live is = elim (r.planes v live (interior_of g v w (ap is_XY is))) [
  | inl xy ↦ absurd (let h : XZ ≡ XY = sym is ∙ xy in cc)
  | inr yz ↦ absurd (let h : XZ ≡ YZ = sym is ∙ yz in cc)
]

-- the gates of n qubits with p and q vertices, of a reduced graph, are within the bound
pub few_enough : (n p q o t : ℕ) → p + q ≤ n + o → o ≤ t → most_extracted_gates n p q ≤ gate_bound n t
few_enough n p q o t few odd =
    let square : n * (n - 1) ≤ n * n = mul-le-mul_left n (omega arith) in
    let half : n * (n - 1) / 2 ≤ n * (n - 1) = div-le_self _ _ in
    let spread : n * (p + q) ≤ n * (n + t) = mul-le-mul_left n (omega arith) in
    let sum = sum_up (n * (n - 1) / 2) (n * (n - 1)) (n * n) n (n * p) (n * q) (n * t) half square (omega arith) in
    omega arith
  where
    sum_up : (half pairs square n a b c : ℕ) → half ≤ pairs → pairs ≤ square → a + b ≤ square + c →
        half + 6 * n + 2 * a + 3 * b ≤ 4 * square + 6 * n + 3 * c
    sum_up half pairs square n a b c e f g = omega arith

-- a reduced graph's circuit, and what is no longer, are within the bound
pub within_bound : (g : Graph) (n t gates fewer : ℕ) → WellFormed g → IsReduced g → length g.inputs ≡ n → length g.outputs ≡ n → odd_phases g ≤ t
    → gates ≤ most_extracted_gates (length g.outputs) (XY_without_output g) (not_XY g) → fewer ≤ gates → fewer ≤ gate_bound n t
within_bound g n t gates fewer w reduced wide high odd few shorter =
    let small : XY_without_output g + not_XY g ≤ n + odd_phases g =
    subst (λ k. XY_without_output g + not_XY g ≤ k + odd_phases g) wide (reduced_few g w reduced) in
    let bound = few_enough n (XY_without_output g) (not_XY g) (odd_phases g) t small odd in
    within _ _ _ _ shorter (subst (λ k. gates ≤ most_extracted_gates k (XY_without_output g) (not_XY g)) high few) bound
  where
    within : (a b c d : ℕ) → a ≤ b → b ≤ c → c ≤ d → a ≤ d
    within a b c d e f g = omega arith
