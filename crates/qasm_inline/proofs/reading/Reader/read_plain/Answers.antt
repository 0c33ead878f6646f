-- One plain statement more, or the end of them.
use Rattle.std.proofs.Common.{◌-◌, drop, length, sym, subst, arith}
use Rattle.qasm_inline.specs.Internal.Spellings.{IsReadPlain, IsReadTo}
use Rattle.qasm_inline.proofs.PlainLemmas.{read-next, read-rest}
use Rattle.qasm_inline.proofs.reading.Reader.read_plain.Goals as goal

pub loop-behind-preserved : goal.loop-behind-preserved
loop-behind-preserved c =
    let p : IsReadPlain c.loop-behind.self c.loop-behind.rest.now c.in-Some.behind.now c.read_next_plain.new.self = rw c.in-Some.is at c.in_ok-behind.ensures.some in
    record {
      between = p.between;
      read = λ from. read-next c.args.self.now c.loop-behind.self c.read_next_plain.new.self c.args.text.now c.args.place c.loop-behind.rest.now c.in-Some.behind.now from (c.loop-behind.invariant.read from) p;
    }

pub overflow_sub-result : goal.overflow_sub-result
overflow_sub-result c = (read-rest c.args.self.now c.loop-behind.self c.args.text.now c.args.place c.loop-behind.rest.now 0 c.requires (c.loop-behind.invariant.read 0)).2

pub returns-clause-read : goal.returns-clause-read
returns-clause-read c = λ from.
    let r = c.loop-behind.invariant.read from in
    let e = (read-rest c.args.self.now c.loop-behind.self c.args.text.now c.args.place c.loop-behind.rest.now from c.requires r).0 in
    let same = rw c.in_default.is at c.in_ok-behind.ensures.none in
    subst (λ s. IsReadTo c.args.self.now c.args.text.now c.args.place (drop (length c.args.text.now - length c.loop-behind.rest.now) c.args.text.now) from s) (sym same)
    (subst (λ rest. IsReadTo c.args.self.now c.args.text.now c.args.place rest from c.loop-behind.self) (sym e) r)

pub returns-clause-within : goal.returns-clause-within
returns-clause-within c =
    let r = read-rest c.args.self.now c.loop-behind.self c.args.text.now c.args.place c.loop-behind.rest.now 0 c.requires (c.loop-behind.invariant.read 0) in
    (r.1, omega arith)
