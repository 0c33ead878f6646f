-- The lines are longer, and are read where they are worth while.
use Rattle.std.proofs.Common.{◌<◌, ◌++◌, Err, length, sym, ap, ◌∙◌, arith, refl}
use Rattle.std.proofs.lemmas.Result.{err_from_is_err_and}
use Rattle.std.proofs.lemmas.Grind.{common_steps}
use Rattle.qasm_lexer.proofs.Taking.{line_over, lines_behind, bad_line}
use Rattle.qasm_inline.proofs.PieceLemmas.{unread_longer}
use Rattle.qasm_inline.proofs.piece_reader.PieceReader.take_lines.Goals as goal

pub returns-in_err-read_on-clause-bad_byte : goal.returns-in_err-read_on-clause-bad_byte
returns-in_err-read_on-clause-bad_byte c = λ bytes at off e.
    let p = err_from_is_err_and c.from_residual-in_err-read_on.result c.from_residual-in_err-read_on.ensures.1 in
    let some : 0 < length c.args.lines.now = grind (arith, common_steps) in
    let longer = unread_longer c.args.self.now (record c.args.self.now { unread = c.extend_from_slice.new.self }) bytes c.args.lines.now
    c.in_ok-extend_from_slice.ensures.items refl refl off in
    bad_line at _ (lines_behind bytes c.args.lines.now c.requires some)
    (c.in_err-read_on.ensures.bad_byte (bytes ++ c.args.lines.now) at longer (ap Err (sym p.2) ∙ sym p.1 ∙ e))

pub returns-clause-taken : goal.returns-clause-taken
returns-clause-taken c = λ bytes off.
    let some : 0 < length c.args.lines.now = grind (arith, common_steps) in
    let longer = unread_longer c.args.self.now (record c.args.self.now { unread = c.extend_from_slice.new.self }) bytes c.args.lines.now
    c.in_ok-extend_from_slice.ensures.items refl refl off in
    let read = c.in_ok-read_on.ensures.read (bytes ++ c.args.lines.now) longer in
    record {
      all = read.0;
      begun = line_over _ _ _ _ (read.1, read.3) c.in_ok-read_on.ensures.unread (lines_behind bytes c.args.lines.now c.requires some);
      keeps = read.2;
    }
