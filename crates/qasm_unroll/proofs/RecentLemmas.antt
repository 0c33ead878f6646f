-- Names that are remembered, and applications without angles by them.
use Rattle.std.proofs.Common.{◌≡◌, ℕ, zero, suc, get_or, ◌+◌, if◌then◌else◌, List, [], ◌∷◌, ◌++◌, map, Option, None, Some, Ok, sym, ap, ap₂, ◌∙◌, append-nil}
use Rattle.std.specs.List.{All, flat_map, range_with_len}
use Rattle.std.specs.Option.{option_or}
use Rattle.std.proofs.lemmas.List.Elements.{All-head, All-tail}
use Rattle.qasm_reader.specs.Syntax.{Act, Applied, Callee, Operand, Placed}
use Rattle.qasm_scope.specs.declared.causes.Cause.TheVariants.{AfterMeasure}
use Rattle.qasm_scope.specs.Applications.{Range, application_events, register_sizes}
use Rattle.qasm_scope.specs.Calls.{first_wrong}
use Rattle.qasm_scope.specs.Faults.{has_other_size, wrong_behind, wrong_in}
use Rattle.qasm_scope.specs.Meaning.{most_calls}
use Rattle.qasm_names.specs.declared.gates.CalledGate.{CalledGate}
use Rattle.qasm_names.specs.declared.names.Names.{Names}
use Rattle.qasm_names.specs.Checks.{Symbols}
use Rattle.qasm_names.specs.Kept.{gate_count}
use Rattle.qasm_unroll.specs.declared.measured.Measured.{Measured}
use Rattle.qasm_unroll.specs.declared.plain.NamedGate.{NamedGate}
use Rattle.qasm_unroll.specs.declared.unroll.Unrolled.{Unrolled}
use Rattle.qasm_unroll.specs.Circuits.{IsOpen, applied_at}
use Rattle.qasm_unroll.specs.Internal.KeptCalls.{Numbered, called_events, expand_number}
use Rattle.qasm_unroll.specs.Internal.Recents.{IsPlainlyApplied, IsRow, plainly_applied}
use Rattle.qasm_unroll.specs.Internal.Spans.{cut_instance, instance_count, instances_events, resolved_cause}
use Rattle.qasm_unroll.proofs.ApplyLemmas.{behind-resolved, wrong-resolved, resolved-events}
use Rattle.qasm_unroll.proofs.CircuitLemmas.{leads-next}
use Rattle.qasm_unroll.proofs.Numbers.{kept-unrolls}
use Rattle.qasm_unroll.proofs.Unrolling.{Continues-same, Continues-join}

-- ---- rows
pub row-at : (symbols : Symbols) (rows : List (Option NamedGate)) (k : ℕ) → All (IsRow symbols) rows → IsRow symbols (get_or rows k None)
row-at symbols [] k all = tt
row-at symbols (row ∷ rows) zero all = All-head (IsRow symbols) row rows all
row-at symbols (row ∷ rows) (suc k) all = row-at symbols rows k (All-tail (IsRow symbols) row rows all)

-- one instance alone
one-instance : (numbered : Numbered) (called : CalledGate) (ranges : List Range) → register_sizes ranges ≡ []
    → instances_events numbered called (Ok []) ranges ≡ called_events numbered called 1 (Ok []) (cut_instance ranges 0)
one-instance numbered called ranges single =
    ap (λ sizes. flat_map (called_events numbered called 1 (Ok [])) (map (cut_instance ranges) (range_with_len 0 (instance_count sizes)))) single
    ∙ append-nil (called_events numbered called 1 (Ok []) (cut_instance ranges 0))

-- ---- statements
pub plain-taken : (program : List Placed) (place : ℕ) (gate : Callee) (operands : List Operand) (names : Names) (measured : Measured) (before after : Unrolled)
    → IsOpen program names measured before → after.known ≡ before.known → IsPlainlyApplied names.symbols measured before (plainly_applied gate operands) after
    → IsOpen (program ++ applied_at place gate operands ∷ []) names measured after
plain-taken program place gate operands names measured before after is same p =
    let a = plainly_applied gate operands in
    let r = is.represents in
    let right : wrong_in is.scope (Act (Applied a)) ≡ None =
    wrong-resolved names.symbols is.scope r.same_symbols r.sound p.resolved
    ∙ ap₂ (λ sizes twice. resolved_cause (has_other_size sizes) twice) p.single p.calls.differ in
    let behind : wrong_behind is.scope measured.list (Act (Applied a)) ≡ None =
    behind-resolved names.symbols is.scope measured.list r.same_symbols r.sound p.resolved
    ∙ ap (λ b. if b then Some AfterMeasure else None) p.calls.unmeasured in
    let events : application_events is.scope a ≡ called_events (expand_number is.scope) p.called 1 (Ok []) (cut_instance p.ranges 0) =
    sym (resolved-events names.symbols is.scope r.same_symbols r.sound p.resolved) ∙ one-instance (expand_number is.scope) p.called p.ranges p.single in
    let comes = Continues-join _ _ _ _ _ _ _ _ _ _ (Continues-same most_calls before.calls before.gates _ _ events)
    (p.calls.comes (expand_number is.scope) names.gates.items (gate_count is.scope) (kept-unrolls names.gates.items is.scope r.sound r.same_gates) is.knows) in
    record {
      scope = is.scope;
      represents = r;
      remembers = is.remembers;
      leads = leads-next program is.scope measured.list before.calls before.gates (applied_at place gate operands) measured.list after.calls after.gates is.leads
          (ap₂ (λ first second. option_or first (option_or second (first_wrong most_calls before.calls (application_events is.scope a)))) right behind ∙ comes.same_wrong)
          comes (sym (append-nil measured.list));
      knows = rw same is.knows;
    }
