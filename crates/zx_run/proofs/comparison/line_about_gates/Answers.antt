-- What is left tells how many gates aren't shown to be nothing.
use Rattle.std.proofs.Common.{◌≡◌, ◌++◌, ◌∙◌, ap, codes, decimal, inr, rules, subst, sym, ◌≢◌}
use Rattle.zx_gates.specs.Circuit.{Circuit}
use Rattle.zx_same.specs.Comparing.{IsLeft}
use Rattle.zx_run.specs.CircuitTexts.{circuit_for}
use Rattle.zx_run.specs.Internal.Verdicts.{HasLeft, IsComparisonOf}
use Rattle.zx_run.proofs.ComparedLemmas.{left_told, lowered_is, maps_differ}
use Rattle.zx_run.proofs.comparison.line_about_gates.Goals as goal

pub returns-in_ok-line-in-Some : goal.returns-in_ok-line-in-Some
returns-in_ok-line-in-Some c =
    let one = c.args.one.now in
    let other = c.args.other.now in
    let a = c.in_ok-first.first.gates in
    let b = c.in_ok-second.second.gates in
    let bytes = c.no.result.bytes.items in
    let said = c.in_ok-found.ensures in
    let first : a ≡ circuit_for one = lowered_is one a c.in_ok-first.ensures.kept.qubits c.in_ok-first.ensures.list in
    let second : b ≡ circuit_for other = lowered_is other b c.in_ok-second.ensures.kept.qubits c.in_ok-second.ensures.list in
    let told : HasLeft c.in_ok-found.found c.in-Some.count = rw c.in-Some.is at c.gates_left-left.ensures.some in
    let kept = left_told a b c.in_ok-found.found c.in-Some.count told said.equal_lists said.left in
    let left : Circuit = kept.0 in
    let here : ((circuit_for one).gates ≢ (circuit_for other).gates) × IsLeft (circuit_for one) (circuit_for other) left =
    subst (λ (y : Circuit). ((circuit_for one).gates ≢ y.gates) × IsLeft (circuit_for one) y left) second
    (subst (λ (x : Circuit). (x.gates ≢ b.gates) × IsLeft x b left) first (kept.2, kept.3)) in
    let spelled : bytes ≡ codes "not shown " ++ (decimal c.in-Some.count ++ codes "\n") = search rules in
    subst (IsComparisonOf one other bytes) (sym c.no.ensures.no)
    (inr (inr (record {
      widths = c.requires.widths;
      measures = c.requires.measures;
      differ = record {
        gates = here.0;
        maps = maps_differ one other a b c.in_ok-found.found c.in-Some.count told first second c.in_ok-first.ensures.odd c.in_ok-second.ensures.odd said.clifford;
      };
      left = left;
      valid = kept.4;
      steps = here.1.steps;
      end = here.1.end;
      is_left = here.1.is_left;
      spelled = spelled ∙ ap (λ n. codes "not shown " ++ (decimal n ++ codes "\n")) kept.1;
    })))
