-- Each batch lengthens the cut, and is read.
use Rattle.std.proofs.Common.{◌++◌, Err, map, ap, arith, subst}
use Rattle.qasm_lexer.specs.Tokens.{lexemes}
use Rattle.qasm_lexer.specs.Internal.Moved.{moved}
use Rattle.qasm_lexer.proofs.LineCuts.{places_fit}
use Rattle.qasm_lexer.proofs.Taking.{no_batch_yet, bad_within}
use Rattle.qasm_inline.specs.Internal.Readings.{ReadsOn}
use Rattle.qasm_inline.proofs.PieceLemmas.{reads_then}
use Rattle.qasm_inline.proofs.PlainLemmas.{read-further}
use Rattle.qasm_inline.proofs.reading.Reader.read_text.Goals as goal

pub overflow_add-result : goal.overflow_add-result
overflow_add-result c =
    let before = c.loop-done.invariant.read in
    let bad = c.in-Err-BadByte.ensures.bad_byte before.0 c.in-Err-BadByte.at (no_batch_yet _ _ before.0 _ c.clear.ensures.items before.1) (ap Err c.in-Err-BadByte.field-0-is) in
    omega (arith, bad_within c.args.text.now c.in-Err-BadByte.at bad, c.requires)

pub returns-in-Err-BadByte-clause-bad_byte : goal.returns-in-Err-BadByte-clause-bad_byte
returns-in-Err-BadByte-clause-bad_byte c = λ at e.
    let before = c.loop-done.invariant.read in
    (c.in-Err-BadByte.at, c.in-Err-BadByte.ensures.bad_byte before.0 c.in-Err-BadByte.at (no_batch_yet _ _ before.0 _ c.clear.ensures.items before.1) (ap Err c.in-Err-BadByte.field-0-is), cc)

pub read_tokens-requires : goal.read_tokens-requires
read_tokens-requires c =
    let before = c.loop-done.invariant.read in
    rw c.deref.ensures.value (places_fit c.args.text.now _ before.0 _ c.args.from c.requires
    (c.in-Ok.ensures.cut before.0 (no_batch_yet _ _ before.0 _ c.clear.ensures.items before.1)))

pub loop-done-init : goal.loop-done-init
loop-done-init c =
    let r = c.in_ok-done.ensures.read c.args.from in
    record { read = (r.tokens, r.cut, r.reads); within = c.in_ok-done.ensures.within.1; some = omega arith }

pub loop-done-preserved : goal.loop-done-preserved
loop-done-preserved c =
    let before = c.loop-done.invariant.read in
    let more = lexemes c.lex_statements.new.tokens.items in
    record {
      read = read-further _ _ _ c.args.text.now (before.0 ++ more) _ _ c.args.from c.in-Ok.ensures.within
          (c.in-Ok.ensures.cut before.0 (no_batch_yet _ _ before.0 _ c.clear.ensures.items before.1))
          (reads_then _ _ _ before.0 more c.args.from before.2
          (subst (λ ts. ReadsOn c.loop-done.self (map (moved c.args.from) (lexemes ts)) c.read_tokens.new.self) c.deref.ensures.value c.in_ok-read_tokens.ensures))
          (c.in_ok-done-2.ensures.read c.args.from);
      within = c.in_ok-done-2.ensures.within.1;
      some = c.next_batch-batch.ensures;
    }
