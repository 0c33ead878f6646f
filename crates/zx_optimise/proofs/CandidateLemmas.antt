-- Candidates for the best circuit, one after the other.
use Rattle.std.proofs.Common.{◌≡◌, ◌≤◌, ◌<◌, ◌⊎◌, inl, inr, ℕ, ◌+◌, Bool, true, cond, eqb, nat_lt, List, length, Result, Ok, Err, IfOk, le_refl, le_trans, refl, sym, ap, subst, arith, ◌∙◌}
use Rattle.std.proofs.Math.Nat.{eq-or-lt_of_le}
use Rattle.std.proofs.lemmas.Bool.{eqb-true, ltb-true}
use Rattle.zx_gates.specs.declared.scaled_circuit.ScaledCircuit.{ScaledCircuit}
use Rattle.zx_gates.specs.declared.tally.Counts.{Counts}
use Rattle.zx_gates.specs.Circuit.{Circuit, gate_odd_phases}
use Rattle.zx_gates.proofs.Passing.{implements_more}
use Rattle.zx_calculus.proofs.Ids.{by_test}
use Rattle.zx_optimise.specs.Optimising.{bound_of, counts_of, most_optimised_root2, IsCleaned, IsBest, CostsNoMoreThanRead, CostsNoMoreThanTeleported, IsPlain}
use Rattle.zx_optimise.specs.Internal.Candidates.{is_dearer, most_whole_root2, IsCandidate, IsCheaper, CostsNoMoreThan, IsTakenOver, IsTeleportedCleanup, Offers}

-- ---- what costs less
-- of three numbers each, of which the first decide
abbrev CostsNoMoreBy : (a b c x y z : ℕ) → Type 0
CostsNoMoreBy a b c x y z = (a < x) ⊎ ((a ≡ x) × ((b < y) ⊎ ((b ≡ y) × (c ≤ z))))

costs_no_more_by-trans : (a b c x y z u v w : ℕ) → CostsNoMoreBy a b c x y z → CostsNoMoreBy x y z u v w → CostsNoMoreBy a b c u v w
costs_no_more_by-trans a b c x y z u v w (inl less) (inl more) = inl (omega arith)
costs_no_more_by-trans a b c x y z u v w (inl less) (inr same) = inl (let e : x ≡ u = same.0 in omega arith)
costs_no_more_by-trans a b c x y z u v w (inr same) (inl more) = inl (let e : a ≡ x = same.0 in omega arith)
costs_no_more_by-trans a b c x y z u v w (inr (e, inl less)) (inr (f, inl more)) = inr (e ∙ f, inl (omega arith))
costs_no_more_by-trans a b c x y z u v w (inr (e, inl less)) (inr (f, inr same)) = inr (e ∙ f, inl (let g : y ≡ v = same.0 in omega arith))
costs_no_more_by-trans a b c x y z u v w (inr (e, inr same)) (inr (f, inl more)) = inr (e ∙ f, inl (let g : b ≡ y = same.0 in omega arith))
costs_no_more_by-trans a b c x y z u v w (inr (e, inr same)) (inr (f, inr again)) =
    inr (e ∙ f, inr (same.0 ∙ again.0, (let p : c ≤ z = same.1 in let q : z ≤ w = again.1 in omega arith)))

pub costs_no_more-trans : (a b c : Circuit) → CostsNoMoreThan a b → CostsNoMoreThan b c → CostsNoMoreThan a c
costs_no_more-trans a b c =
    let p = counts_of a.gates in
    let q = counts_of b.gates in
    let r = counts_of c.gates in
    costs_no_more_by-trans p.odd p.two_qubit p.total q.odd q.two_qubit q.total r.odd r.two_qubit r.total

costs_no_more_by-parts : (a b c x y z : ℕ) → a ≤ x → b ≤ y → c ≤ z → CostsNoMoreBy a b c x y z
costs_no_more_by-parts a b c x y z odd two total =
    elim (eq-or-lt_of_le odd) [
      | inr less ↦ inl less
      | inl same ↦ inr (same, elim (eq-or-lt_of_le two) [ inr less ↦ inl less | inl alike ↦ inr (alike, total) ])
    ]

-- of which the last is less, where the others are equal
abbrev Cheaper : (a b c x y z : ℕ) → Type 0
Cheaper a b c x y z = (a < x) ⊎ ((a ≡ x) × ((b < y) ⊎ ((b ≡ y) × (c < z))))

cheaper-costs_no_more : (a b c x y z : ℕ) → Cheaper a b c x y z → CostsNoMoreBy a b c x y z
cheaper-costs_no_more a b c x y z (inl less) = inl less
cheaper-costs_no_more a b c x y z (inr (e, inl less)) = inr (e, inl less)
cheaper-costs_no_more a b c x y z (inr (e, inr (f, less))) = inr (e, inr (f, omega arith))

cheaper_by-trans : (a b c x y z u v w : ℕ) → Cheaper a b c x y z → Cheaper x y z u v w → Cheaper a b c u v w
cheaper_by-trans a b c x y z u v w (inl less) (inl more) = inl (omega arith)
cheaper_by-trans a b c x y z u v w (inl less) (inr (f, more)) = inl (omega arith)
cheaper_by-trans a b c x y z u v w (inr (e, less)) (inl more) = inl (omega arith)
cheaper_by-trans a b c x y z u v w (inr (e, inl less)) (inr (f, inl more)) = inr (e ∙ f, inl (omega arith))
cheaper_by-trans a b c x y z u v w (inr (e, inl less)) (inr (f, inr (g, more))) = inr (e ∙ f, inl (omega arith))
cheaper_by-trans a b c x y z u v w (inr (e, inr (g, less))) (inr (f, inl more)) = inr (e ∙ f, inl (omega arith))
cheaper_by-trans a b c x y z u v w (inr (e, inr (g, less))) (inr (f, inr (h, more))) = inr (e ∙ f, inr (g ∙ h, omega arith))

-- nothing is cheaper than what is no dearer
cheaper-dearer : (a b c x y z : ℕ) → Cheaper a b c x y z → CostsNoMoreBy x y z a b c → ⊥
cheaper-dearer a b c x y z (inl less) (inl more) = absurd (omega arith)
cheaper-dearer a b c x y z (inl less) (inr (f, more)) = absurd (omega arith)
cheaper-dearer a b c x y z (inr (e, less)) (inl more) = absurd (omega arith)
cheaper-dearer a b c x y z (inr (e, inl less)) (inr (f, inl more)) = absurd (omega arith)
cheaper-dearer a b c x y z (inr (e, inl less)) (inr (f, inr (g, more))) = absurd (omega arith)
cheaper-dearer a b c x y z (inr (e, inr (g, less))) (inr (f, inl more)) = absurd (omega arith)
cheaper-dearer a b c x y z (inr (e, inr (g, less))) (inr (f, inr (h, more))) = absurd (omega arith)

-- what is dearer than another has no fewer odd phases
pub dearer-odd : (a b : Counts) → is_dearer a b ≡ true → b.odd ≤ a.odd
dearer-odd a b h =
    by_test (eqb a.odd b.odd) (λ t. let e : a.odd ≡ b.odd = eqb-true a.odd b.odd t in omega (arith, e))
    (λ f.
    let less : nat_lt b.odd a.odd ≡ true = subst (λ t. cond t (cond (eqb a.two_qubit b.two_qubit) (nat_lt b.total a.total) (nat_lt b.two_qubit a.two_qubit)) (nat_lt b.odd a.odd) ≡ true) f h in
    let below : b.odd < a.odd = ltb-true b.odd a.odd less in omega (arith, below))

-- a cleanup is no dearer
cleanup_cheap : (read made : Circuit) → IsCleaned read made → CostsNoMoreThan made read
cleanup_cheap read made clean =
    let p = counts_of made.gates in
    let q = counts_of read.gates in
    costs_no_more_by-parts p.odd p.two_qubit p.total q.odd q.two_qubit q.total clean.odd clean.two_qubit clean.total

-- ---- what is taken in the place of another
pub taken-trans : (first second third : ScaledCircuit) → IsTakenOver first second → IsTakenOver second third → IsTakenOver first third
taken-trans first second third (inl same) (inl again) = inl (again ∙ same)
taken-trans first second third (inl same) (inr less) =
    inr (subst (λ (best : ScaledCircuit). IsCheaper (counts_of third.gates.gates) (counts_of best.gates.gates)) same less)
taken-trans first second third (inr less) (inl same) =
    inr (subst (λ (made : ScaledCircuit). IsCheaper (counts_of made.gates.gates) (counts_of first.gates.gates)) (sym same) less)
taken-trans first second third (inr less) (inr more) =
    let p = counts_of third.gates.gates in
    let q = counts_of second.gates.gates in
    let r = counts_of first.gates.gates in
    inr (cheaper_by-trans p.odd p.two_qubit p.total q.odd q.two_qubit q.total r.odd r.two_qubit r.total more less)

pub taken_cheap : (best made : ScaledCircuit) → IsTakenOver best made → CostsNoMoreThan made.gates best.gates
taken_cheap best made (inl same) = subst (λ (b : ScaledCircuit). CostsNoMoreThan made.gates b.gates) same (inr (refl, inr (refl, le_refl _)))
taken_cheap best made (inr less) =
    let p = counts_of made.gates.gates in
    let q = counts_of best.gates.gates in
    cheaper-costs_no_more p.odd p.two_qubit p.total q.odd q.two_qubit q.total less

taken_at_tie : (best made : ScaledCircuit) → IsTakenOver best made → CostsNoMoreThan best.gates made.gates → made.gates ≡ best.gates
taken_at_tie best made (inl same) cheap = ap (λ (c : ScaledCircuit). c.gates) same
taken_at_tie best made (inr less) cheap =
    let p = counts_of made.gates.gates in
    let q = counts_of best.gates.gates in
    absurd (cheaper-dearer p.odd p.two_qubit p.total q.odd q.two_qubit q.total less cheap)

pub than_read-trans : (read made best : Circuit) → CostsNoMoreThan made best → CostsNoMoreThanRead read best → CostsNoMoreThanRead read made
than_read-trans read made best cheap is = record {
  cleaned = is.cleaned;
  cleanup = is.cleanup;
  costs_no_more = λ within. costs_no_more-trans made best is.cleaned cheap (is.costs_no_more within);
  costs_no_more_than_read = λ within. costs_no_more-trans made best read cheap (is.costs_no_more_than_read within);
}

pub best_of_all : {E : Type 0} (read : Circuit) (plain best : ScaledCircuit) (found : Result ScaledCircuit E) → IsPlain read plain.gates
    → IsTakenOver plain best → CostsNoMoreThanRead read best.gates → IfOk found (IsTakenOver best)
    → IfOk found (λ made. CostsNoMoreThanTeleported read made.gates) → IfOk found (λ made. IsBest read made.gates)
best_of_all read plain best (Err error) is first than_read then than_teleported = tt
best_of_all read plain best (Ok made) is first than_read then than_teleported =
    let taken = taken-trans plain best made first then in
    record {
      than_plain = record {
        plain = plain.gates;
        is_plain = is;
        costs_no_more = taken_cheap plain made taken;
        at_tie = taken_at_tie plain made taken;
      };
      than_read = than_read-trans read made.gates best.gates (taken_cheap best made then) than_read;
      than_teleported = than_teleported;
    }

-- ---- candidates
pub candidate-offered : (k : ℕ) (read : Circuit) (made : ScaledCircuit) → Offers k read made → IsCandidate k read made
candidate-offered k read made o = record { kept = o.kept; tidy = o.tidy }

pub candidate-whole : (read : Circuit) (made : ScaledCircuit) → IsCandidate most_whole_root2 read made → IsCandidate most_optimised_root2 read made
candidate-whole read made is = record {
  kept = implements_more is.kept (le_refl (gate_odd_phases read.gates)) (omega arith);
  tidy = is.tidy;
}

pub offers-whole : (read : Circuit) (made : ScaledCircuit) → Offers most_whole_root2 read made → Offers most_optimised_root2 read made
offers-whole read made o = record {
  kept = implements_more o.kept (le_refl (gate_odd_phases read.gates)) (omega arith);
  tidy = o.tidy;
  few_gates = o.few_gates;
  reduced = o.reduced;
}

-- a candidate that is taken: it is within the bound, and has no more odd phases than the one in whose place it comes
pub offers-candidate : (k : ℕ) (read : Circuit) (best made : ScaledCircuit) → Offers k read best → IsCandidate k read made →
    length made.gates.gates ≤ bound_of read → gate_odd_phases made.gates.gates ≤ gate_odd_phases best.gates.gates → Offers k read made
offers-candidate k read best made o is few fewer = record {
  kept = is.kept;
  tidy = is.tidy;
  few_gates = few;
  reduced = record {
    steps = o.reduced.steps;
    end = o.reduced.end;
    run = o.reduced.run;
    reduced = o.reduced.reduced;
    odd = le_trans fewer o.reduced.odd;
  };
}

-- ---- what is no dearer than some circuit is so than all that this was
pub than_read : (read made : Circuit) (cleaned : Circuit) → IsCleaned read cleaned → (length cleaned.gates ≤ bound_of read → CostsNoMoreThan made cleaned)
    → CostsNoMoreThanRead read made
than_read read made cleaned clean cheap = record {
  cleaned = cleaned;
  cleanup = clean;
  costs_no_more = cheap;
  costs_no_more_than_read = λ within. costs_no_more-trans made cleaned read (cheap (le_trans clean.total within)) (cleanup_cheap read cleaned clean);
}

pub than_teleported : (read made candidate : Circuit) → (t : IsTeleportedCleanup read candidate)
    → (length candidate.gates ≤ bound_of read → CostsNoMoreThan made candidate) → CostsNoMoreThanTeleported read made
than_teleported read made candidate t cheap = record {
  teleported = t.teleported;
  teleports = t.teleports;
  costs_no_more = λ within.
      costs_no_more-trans made candidate t.teleported (cheap (le_trans t.cleanup.total within)) (cleanup_cheap t.teleported candidate t.cleanup);
}
