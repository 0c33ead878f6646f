-- Where no vertex of the reduced graph is interior, its sum tells whether both circuits have one map.
use Rattle.std.proofs.Common.{◌≡◌, ◌≤◌, ◌<◌, ℕ, zero, suc, ◌+◌, Bool, true, false, not, ◌||◌, List, [], ◌∷◌, ◌++◌, length, map, filter, nat_eq, sym, ap, ◌∙◌, subst, true≢false, arith}
use Rattle.std.specs.List.{All}
use Rattle.zx_model.specs.Bits.{member}
use Rattle.zx_model.specs.Number.{mul}
use Rattle.zx_model.specs.Phase.{is_odd}
use Rattle.zx_model.specs.Proportional.{Proportional}
use Rattle.zx_model.proofs.ProportionalLemmas.{proportional_sym, proportional_trans}
use Rattle.zx_model.proofs.Scalars.{scaled_proportional}
use Rattle.zx_calculus.specs.Counts.{odd_phases}
use Rattle.zx_calculus.specs.Graph.{Graph, Vertex, WellFormed, end_vertices, ids, is_interior, kind_of, phase_of}
use Rattle.zx_calculus.specs.Reduced.{IsReduced}
use Rattle.zx_calculus.specs.Sum.{graph_sum}
use Rattle.zx_calculus.proofs.Ids.{by_equal, by_test, or-left, or-right}
use Rattle.zx_calculus.proofs.Results.{interior_from}
use Rattle.zx_calculus.proofs.Splitting.{all_at}
use Rattle.zx_gates.specs.Circuit.{Circuit, IsCircuit, IsGateOn, gate_odd_phases}
use Rattle.graph_rewrites.specs.Steps.{step_named}
use Rattle.zx_extract.specs.Simplified.{gate_bound}
use Rattle.zx_gates.specs.Maps.{amp, acts}
use Rattle.zx_gates.specs.declared.gate.Gate.{Gate}
use Rattle.zx_gates.proofs.MapLemmas.{amp-acts, acts-append}
use Rattle.zx_simplify.specs.declared.simplifying.Simplified.{Simplified}
use Rattle.piece_laws.proofs.Matrices.{proportional-acts}
use Rattle.zx_same.specs.Bare.{is_bare, has_only_ends}
use Rattle.zx_same.specs.Comparing.{IsLeftOfBoth}
use Rattle.zx_same.specs.Internal.Simplifying.{Simplifies}
use Rattle.zx_identities.specs.Inverse.{inverse_of, undone_by}
use Rattle.zx_same.proofs.Comparisons.{at_n, odd-undone}
use Rattle.zx_same.proofs.IdentityGraphs.{all_of, identity_bare}
use Rattle.zx_identities.proofs.Undoing.{undone_map}

-- the test of ends, at each vertex
pub ends_of : (g : Graph) → has_only_ends g ≡ true → (u : ℕ) → member u (ids g.vertices) ≡ true →
    (member u (end_vertices g.inputs) || member u (end_vertices g.outputs)) ≡ true
ends_of g only u there = not_not _ (all_at (λ v. not (is_interior g v)) (ids g.vertices) u only there)
  where
    not_not : (b : Bool) → not (not b) ≡ true → b ≡ true
    not_not true h = h
    not_not false h = h

pub identity_is_bare : (g : Graph) → WellFormed g → has_only_ends g ≡ true → length g.inputs ≡ length g.outputs →
    Proportional (length g.inputs) (length g.inputs) (graph_sum g) (amp []) → is_bare g ≡ true
identity_is_bare g valid only as_many same = identity_bare g valid as_many (ends_of g only) same

-- the same gates behind two circuits of one map keep them so
appended : (n : ℕ) (first second behind : List Gate) → Proportional n n (amp first) (amp second) → Proportional n n (amp (first ++ behind)) (amp (second ++ behind))
appended n first second behind p = record {
  left = p.left;
  right = p.right;
  left_nonzero = p.left_nonzero;
  right_nonzero = p.right_nonzero;
  equal = λ x y lx ly.
      ap (mul p.left) (through first x y) ∙ proportional-acts n first second p (λ z. amp behind z y) x lx ∙ ap (mul p.right) (sym (through second x y));
}
  where
    through : (gates : List Gate) (x y : List Bool) → amp (gates ++ behind) x y ≡ acts gates (λ z. amp behind z y) x
    through gates x y =
        amp-acts (gates ++ behind) x y
        ∙ (λ i. acts-append gates behind (λ z. amp [] z y) i x)
        ∙ (λ i. acts gates (λ z. sym (amp-acts behind z y) i) x)

-- circuits of one map are shown to be the same where only ends are left
pub decided : (a b : Circuit) (g : Graph) → a.qubits ≡ b.qubits → IsCircuit b → WellFormed g → length g.inputs ≡ a.qubits → length g.outputs ≡ a.qubits →
    Proportional a.qubits a.qubits (amp (undone_by a b).gates) (graph_sum g) →
    has_only_ends g ≡ true → Proportional a.qubits a.qubits (amp a.gates) (amp b.gates) → is_bare g ≡ true
decided a b g same is formed inputs outputs map only one_map =
    let n = a.qubits in
    identity_is_bare g formed only (inputs ∙ sym outputs)
    (at_n (length g.inputs) n n (graph_sum g) (amp []) (sym inputs) (sym inputs)
    (proportional_trans n n (graph_sum g) (amp (a.gates ++ inverse_of b.gates)) (amp [])
    (proportional_sym n n (amp (a.gates ++ inverse_of b.gates)) (graph_sum g) map)
    (proportional_trans n n (amp (a.gates ++ inverse_of b.gates)) (amp (b.gates ++ inverse_of b.gates)) (amp [])
    (appended n a.gates b.gates (inverse_of b.gates) one_map)
    (undone_map n b.gates (subst (λ m. All (IsGateOn m) b.gates) (sym same) is.on_qubits)))))

-- ---- no odd phases
-- where no vertex has an odd phase, each has an even one
phase_even : (vs : List Vertex) (u : ℕ) → length (filter (λ v. is_odd v.kind.phase) vs) ≡ 0 → member u (ids vs) ≡ true → is_odd (kind_of vs u).phase ≡ false
phase_even [] u few there = absurd (true≢false (sym there))
phase_even (v ∷ vs) u few there =
    by_test (is_odd v.kind.phase) (λ odd. absurd (some _ (rw odd at few)))
    (λ even.
    let later : length (filter (λ x. is_odd x.kind.phase) vs) ≡ 0 = rw even at few in
    by_equal u v.id (λ t e. rw t even) (λ f n. rw f (phase_even vs u later (rw f at there))))
  where
    some : (m : ℕ) → suc m ≡ 0 → ⊥
    some m e = omega arith

pub no_odd_only_ends : (g : Graph) → IsReduced g → odd_phases g ≡ 0 → has_only_ends g ≡ true
no_odd_only_ends g reduced none = all_of (λ v. not (is_interior g v)) (ids g.vertices) at
  where
    at : (u : ℕ) → member u (ids g.vertices) ≡ true → not (is_interior g u) ≡ true
    at u there =
        by_test (is_interior g u)
        (λ t. absurd (true≢false (sym (odd_there t) ∙ phase_even g.vertices u none there)))
        (λ f. ap not f)
      where
        odd_there : is_interior g u ≡ true → is_odd (phase_of g u) ≡ true
        odd_there t = reduced.odd u there (interior_from g u t)

-- circuits without odd phases leave only ends
pub none_odd : (a b : Circuit) (g : Graph) → IsCircuit b → IsReduced g → odd_phases g ≤ gate_odd_phases (undone_by a b).gates →
    gate_odd_phases a.gates ≡ 0 → gate_odd_phases b.gates ≡ 0 → has_only_ends g ≡ true
none_odd a b g is reduced fewer first second = no_odd_only_ends g reduced (least (odd-undone a b is) fewer)
  where
    least : {m n : ℕ} → n ≡ gate_odd_phases a.gates + gate_odd_phases b.gates → m ≤ n → m ≡ 0
    least e f = omega (arith, first, second)

-- what is left where neither of the two signs is seen
pub is_left_of_both : (a b both : Circuit) (made : Simplified) → a.qubits ≡ b.qubits → IsCircuit b → both ≡ undone_by a b → Simplifies both made →
    (nat_eq (length made.gates.gates) 0 || is_bare made.reduced.graph) ≡ false →
    IsLeftOfBoth a b made.gates (map step_named made.trace.steps) made.reduced.graph
is_left_of_both a b both made same is undone s unseen =
    let left : Simplifies (undone_by a b) made = subst (λ c. Simplifies c made) undone s in
    let not_bare : is_bare made.reduced.graph ≡ false = or-right (nat_eq (length made.gates.gates) 0) (is_bare made.reduced.graph) unseen in
    record {
      run = left.run;
      reduced = left.reduced;
      not_bare = not_bare;
      decides = λ only one. true≢false (sym (decided a b made.reduced.graph same is left.well_formed left.inputs left.outputs left.reduced_map only one) ∙ not_bare);
      qubits = left.kept.qubits;
      map = scaled_proportional a.qubits a.qubits (amp (undone_by a b).gates) (amp made.gates.gates) made.scalar left.kept.scaled;
      tidy = left.tidy;
      some = some (length made.gates.gates) (or-left (nat_eq (length made.gates.gates) 0) (is_bare made.reduced.graph) unseen);
      odd = subst (λ k. gate_odd_phases made.gates.gates ≤ k) (odd-undone a b is) left.kept.odd;
      few = subst (λ k. length made.gates.gates ≤ gate_bound a.qubits k) (odd-undone a b is) left.few;
    }
  where
    some : (n : ℕ) → nat_eq n 0 ≡ false → 0 < n
    some zero e = absurd (true≢false e)
    some (suc n) e = omega arith
