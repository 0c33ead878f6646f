-- Where a write fails, a prefix of the output was taken.
use Rattle.std.proofs.Common.{◌≡◌, ◌++◌, take, subst, Some}
use Rattle.zx_run.proofs.program.answer.Goals as goal

pub returns-clause-answers : goal.returns-clause-answers
returns-clause-answers g c = (
  c.in-Ok.output.bytes.items,
  c.in-Ok.output.is_no,
  c.in-Ok.ensures.made,
  record {
    rose = c.in-Err-write_all.ensures.write_fault;
    gains = λ taken told.
        let cut = c.in-Err-write_all.ensures.prefix taken told in
        (cut.0, subst (λ bytes. g.O.Sink.taken c.write_all.new.sink ≡ Some (taken ++ take cut.0 bytes)) c.deref.ensures.value cut.2);
  },
)
