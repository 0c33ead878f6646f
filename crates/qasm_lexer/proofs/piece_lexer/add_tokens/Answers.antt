-- Each batch lengthens the cut, and is added.
use Rattle.std.proofs.Common.{◌++◌, Err, ap, ◌∙◌, arith, refl}
use Rattle.qasm_lexer.specs.Tokens.{lexemes}
use Rattle.qasm_lexer.proofs.LineCuts.{places_fit}
use Rattle.qasm_lexer.proofs.Taking.{no_batch_yet, one_batch_more, bad_within}
use Rattle.qasm_lexer.proofs.piece_lexer.add_tokens.Goals as goal

pub overflow_add-result : goal.overflow_add-result
overflow_add-result c =
    let before = c.loop-done.invariant.cut in
    let bad = c.in-Err-BadByte.ensures.bad_byte before.0 c.in-Err-BadByte.at (no_batch_yet _ _ before.0 _ c.new-tokens.ensures.items before.1) (ap Err c.in-Err-BadByte.field-0-is) in
    omega (arith, bad_within c.args.text.now c.in-Err-BadByte.at bad, c.requires)

pub returns-in-Err-BadByte-clause-bad_byte : goal.returns-in-Err-BadByte-clause-bad_byte
returns-in-Err-BadByte-clause-bad_byte c = λ at e.
    let before = c.loop-done.invariant.cut in
    (c.in-Err-BadByte.at, c.in-Err-BadByte.ensures.bad_byte before.0 c.in-Err-BadByte.at (no_batch_yet _ _ before.0 _ c.new-tokens.ensures.items before.1) (ap Err c.in-Err-BadByte.field-0-is), cc)

pub add-requires : goal.add-requires
add-requires c =
    let before = c.loop-done.invariant.cut in
    rw c.deref.ensures.value (places_fit c.args.text.now _ before.0 _ c.args.place c.requires
    (c.in-Ok.ensures.cut before.0 (no_batch_yet _ _ before.0 _ c.new-tokens.ensures.items before.1)))

pub loop-done-preserved : goal.loop-done-preserved
loop-done-preserved c =
    let before = c.loop-done.invariant.cut in
    record {
      cut = (
        before.0 ++ lexemes c.lex_further.new.tokens.items,
        c.in-Ok.ensures.cut before.0 (no_batch_yet _ _ before.0 _ c.new-tokens.ensures.items before.1),
        one_batch_more _ _ _ before.0 _ c.args.place before.2 (c.in_ok-add.ensures ∙ rw c.deref.ensures.value refl),
      );
      within = c.in-Ok.ensures.within;
    }
