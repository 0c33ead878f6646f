use Rattle.zxopt_c.proofs.AnswerLemmas.{made_for, failure_for}
use Rattle.zxopt_c.proofs.calls.answer_for.Goals as goal

pub returns-in-Ok : goal.returns-in-Ok
returns-in-Ok c =
    made_for c.args.command c.new-source.result c.args.text.now c.made.new.source c.in-Ok.written.bytes.items
    c.in-Ok.written.is_no c.answer_with.result c.new-source.ensures c.answer_with.ensures c.in-Ok.ensures.made

pub returns-in-Err : goal.returns-in-Err
returns-in-Err c =
    failure_for c.args.command c.new-source.result c.args.text.now c.made.new.source c.new.result.items c.in-Err.failure
    c.new-source.ensures c.new.ensures.items c.in-Err.ensures.failure
