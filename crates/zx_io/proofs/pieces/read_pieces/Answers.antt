-- What was read so far and by this read, where the bytes are told; and what was handed on with it.
use Rattle.std.proofs.Common.{◌≡◌, ◌+◌, ◌≤◌, ◌++◌, ap, sym, subst, ◌∙◌, arith, length, Some, take, drop, append_assoc, length-append}
use Rattle.std.proofs.lemmas.List.{take-append-le}
use Rattle.std.proofs.lemmas.Grind.{common_steps}
use Rattle.std.proofs.KnownBytes.{Consumes-trans}
use Rattle.zx_io.proofs.Told.{Consumes-told_more}
use Rattle.zx_io.proofs.pieces.read_pieces.Goals as goal

pub returns-in-Ok-clause-too_long : goal.returns-in-Ok-clause-too_long
returns-in-Ok-clause-too_long g c _ bytes told =
    let before = c.loop-count.invariant in
    let sum : c.loop-count.done + c.in-Ok.count ≡ c.args.limit + 1 = omega (arith, c.if-count-room.true, before.within) in
    let left = Consumes-told_more _ _ _ _ _ bytes c.loop-count.done c.in-Ok.count before.read.2 c.in-Ok.ensures.bytes.0 before.read.1 (sym c.in-Ok.ensures.bound.1) told in
    (omega (arith, left.0, sum), subst (λ k. g.S.Source.left c.read.new.self ≡ Some (drop k bytes)) sum left.1)

pub returns-in-Ok-clause-prefix : goal.returns-in-Ok-clause-prefix
returns-in-Ok-clause-prefix g c bytes told =
    let before = c.loop-count.invariant in
    let left = Consumes-told_more _ _ _ _ _ bytes c.loop-count.done c.in-Ok.count before.read.2 c.in-Ok.ensures.bytes.0 before.read.1 (sym c.in-Ok.ensures.bound.1) told in
    (c.loop-count.done + c.in-Ok.count, omega (arith, c.if-count-room.true, before.within), left.1)

pub returns-in_err-take-in-Ok-2-clause-prefix : goal.returns-in_err-take-in-Ok-2-clause-prefix
returns-in_err-take-in-Ok-2-clause-prefix g c bytes told =
    let before = c.loop-count.invariant in
    let read = c.in-Ok-2.ensures in
    let left = Consumes-told_more _ _ _ _ _ bytes c.loop-count.done c.in-Ok-2.count before.read.2 read.bytes.0 before.read.1 (sym read.bound.1) told in
    (c.loop-count.done + c.in-Ok-2.count, grind (arith, common_steps), left.1)

pub loop-count-preserved : goal.loop-count-preserved
loop-count-preserved g c =
    let before = c.loop-count.invariant in
    let read = c.in-Ok.ensures in
    let piece = take c.in-Ok.count c.read.new.buf in
    let size : length piece ≡ c.in-Ok.count = sym read.bound.1 in
    let taken = take-append-le c.in-Ok.count c.read.new.buf (drop c.min-asked.result c.loop-count.buffer) read.bound.0 in
    let within : c.loop-count.done + c.in-Ok.count ≤ c.args.limit = grind (arith, common_steps) in
    record {
      within = within;
      read = (
        before.read.0 ++ piece,
        omega (arith, length-append before.read.0 piece, size, before.read.1),
        Consumes-trans _ _ _ _ _ before.read.2 read.bytes.0,
        λ start there fits.
            subst (g.P.Pieces.stands_for c.take.new.self) (append_assoc start before.read.0 piece)
            (subst (λ p. g.P.Pieces.stands_for c.take.new.self ((start ++ before.read.0) ++ p)) taken
            (c.in_ok-take-in-Ok-2.ensures (start ++ before.read.0) (before.read.3 start there fits)
            (omega (arith, fits, within, length-append start before.read.0, before.read.1, ap length taken, size)))),
      );
      quiet = read.ok ∙ before.quiet;
    }
