use Rattle.std.proofs.Common.{◌≡◌, ◌++◌, ◌∷◌, [], ◌||◌, map, sym, ap, ap₂, ◌∙◌, rules}
use Rattle.std.proofs.lemmas.List.{map-append}
use Rattle.qasm_reader.specs.Views.{operand}
use Rattle.qasm_unroll.specs.Internal.Spans.{span_of, span_range}
use Rattle.qasm_names.proofs.PlaceLemmas.{any-either, any-next, map-map-more}
use Rattle.qasm_names.proofs.Tests.{any_or}
use Rattle.qasm_unroll.proofs.applications.spans.Goals as goal
use Rattle.qasm_scope.specs.Faults.{has_no_register}
use Rattle.qasm_scope.specs.Faults.{has_past_index}
use Rattle.qasm_names.specs.Checks.{lookup_by}

pub returns-in_default-argument_span-clause-none : goal.returns-in_default-argument_span-clause-none
returns-in_default-argument_span-clause-none c =
    let symbols = c.args.names.now.symbols in
    any_or (has_no_register (lookup_by symbols)) (has_past_index (lookup_by symbols)) (map operand c.args.arguments.now)
    ∙ ap₂ ◌||◌ c.loop-argument.invariant.registers c.loop-argument.invariant.within
    ∙ any-either (has_no_register (lookup_by symbols)) (has_past_index (lookup_by symbols)) operand c.args.arguments.now c.loop-argument.argument-index _ c.loop-argument-test.true c.in_default-argument_span.ensures.none

pub loop-argument-preserved : goal.loop-argument-preserved
loop-argument-preserved c =
    let symbols = c.args.names.now.symbols in
    let span = c.in-Some-argument_span.ensures.some in
    let pushed : c.push.new.self.items ≡ c.loop-argument.spans.items ++ c.in-Some-argument_span.span ∷ [] = search rules in
    record {
      last = c.argument_span.ensures.last;
      done = ap (map span_range) pushed ∙ map-append span_range c.loop-argument.spans.items (c.in-Some-argument_span.span ∷ [])
          ∙ ap₂ (λ ranges t. ranges ++ t ∷ []) c.loop-argument.invariant.done span.same
          ∙ sym (map-map-more (span_of (lookup_by symbols)) operand c.args.arguments.now c.loop-argument.argument-index _ c.loop-argument-test.true);
      registers = c.loop-argument.invariant.registers
          ∙ any-next (has_no_register (lookup_by symbols)) operand c.args.arguments.now c.loop-argument.argument-index _ c.loop-argument-test.true span.a_register;
      within = c.loop-argument.invariant.within
          ∙ any-next (has_past_index (lookup_by symbols)) operand c.args.arguments.now c.loop-argument.argument-index _ c.loop-argument-test.true span.within;
    }
