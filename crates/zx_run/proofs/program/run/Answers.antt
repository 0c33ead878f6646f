-- Each clause on the streams follows from what the answer says of them, and the line changes no answer.
use Rattle.std.proofs.Common.{◌≡◌, sym, Some, subst}
use Rattle.zx_words.specs.Command.{command_in}
use Rattle.zx_words.specs.declared.words.Command.{Command}
use Rattle.zx_words.specs.declared.words.Command.TheVariants.{Generate}
use Rattle.zx_run.specs.declared.status.Fault.TheVariants.{TooLong}
use Rattle.zx_run.specs.declared.status.Status.{Status}
use Rattle.zx_run.specs.declared.status.Status.TheVariants.{Done, Refused, WriteFault, No}
use Rattle.zx_run.specs.Answers.{Streams, streams, told_source, told_output, IsAnswer}
use Rattle.zx_run.proofs.AnswerLemmas as answers
use Rattle.zx_run.proofs.program.run.Given.{Over}
use Rattle.zx_run.proofs.program.run.Goals as goal

-- the streams before and after
abbrev before : (g : Over) → goal.After-report g → Streams
before g c =
    streams (told_source g.S.Source.left g.S.Source.faults c.args.source.now)
    (told_output g.O.Sink.taken g.O.Sink.faults g.O.Sink.pending c.args.out.now)

abbrev after : (g : Over) → goal.After-report g → Streams
after g c =
    streams (told_source g.S.Source.left g.S.Source.faults c.answer-status.new.source)
    (told_output g.O.Sink.taken g.O.Sink.faults g.O.Sink.pending c.answer-status.new.out)

told : (g : Over) (c : goal.After-report g) → IsAnswer (command_in c.args.words.now) (before g c) (after g c) c.report.result
told g c =
    subst (IsAnswer (command_in c.args.words.now) (before g c) (after g c)) (sym c.report.ensures.answer) c.answer-status.ensures.answers

pub returns-clause-done : goal.returns-clause-done
returns-clause-done g c = answers.done _ (before g c) (after g c) _ (told g c)

pub returns-clause-done_flushed : goal.returns-clause-done_flushed
returns-clause-done_flushed g c = answers.done_flushed _ (before g c) (after g c) _ (told g c)

pub returns-clause-no : goal.returns-clause-no
returns-clause-no g c = answers.no_well _ (before g c) (after g c) _ (told g c)

pub returns-clause-no_flushed : goal.returns-clause-no_flushed
returns-clause-no_flushed g c = answers.no_flushed _ (before g c) (after g c) _ (told g c)

pub returns-clause-usage : goal.returns-clause-usage
returns-clause-usage g c = answers.usage _ (before g c) (after g c) _ (told g c)

pub returns-clause-usage_where : goal.returns-clause-usage_where
returns-clause-usage_where g c = answers.usage_where _ (before g c) (after g c) _ (told g c)

pub returns-clause-usage_unread : goal.returns-clause-usage_unread
returns-clause-usage_unread g c = λ is.
    c.answer-status.ensures.unread (answers.none_apart _ (answers.usage _ (before g c) (after g c) _ (told g c) is))

pub returns-clause-refused : goal.returns-clause-refused
returns-clause-refused g c = answers.refused _ (before g c) (after g c) _ (told g c)

pub returns-clause-read_fault : goal.returns-clause-read_fault
returns-clause-read_fault g c = answers.read_fault _ (before g c) (after g c) _ (told g c)

pub returns-clause-read_fault_where : goal.returns-clause-read_fault_where
returns-clause-read_fault_where g c = answers.read_fault_where _ (before g c) (after g c) _ (told g c)

pub returns-clause-write_fault : goal.returns-clause-write_fault
returns-clause-write_fault g c = answers.write_fault _ (before g c) (after g c) _ (told g c)

pub returns-clause-write_fault_where : goal.returns-clause-write_fault_where
returns-clause-write_fault_where g c = answers.write_fault_where _ (before g c) (after g c) _ (told g c)

-- ---- of the command that was given
told_of : (g : Over) (c : goal.After-report g) (command : Command) → command_in c.args.words.now ≡ Some command
    → IsAnswer (Some command) (before g c) (after g c) c.report.result
told_of g c command given = subst (λ o. IsAnswer o (before g c) (after g c) c.report.result) given (told g c)

told_as : (g : Over) (c : goal.After-report g) (command : Command) (status : Status) → command_in c.args.words.now ≡ Some command
    → c.report.result ≡ status → IsAnswer (Some command) (before g c) (after g c) status
told_as g c command status given is = subst (IsAnswer (Some command) (before g c) (after g c)) is (told_of g c command given)

pub returns-clause-done_output : goal.returns-clause-done_output
returns-clause-done_output g c = λ command is given.
    answers.done_output command (before g c) (after g c) (told_as g c command Done given is)

pub returns-clause-no_output : goal.returns-clause-no_output
returns-clause-no_output g c = λ command is given.
    answers.no_output command (before g c) (after g c) (told_as g c command No given is)

pub returns-clause-write_fault_output : goal.returns-clause-write_fault_output
returns-clause-write_fault_output g c = λ command is given.
    answers.write_fault_output command (before g c) (after g c) (told_as g c command WriteFault given is)

pub returns-clause-refused_first : goal.returns-clause-refused_first
returns-clause-refused_first g c = λ command text fault given left is.
    answers.refused_first command (before g c) (after g c) text left fault (told_as g c command (Refused fault) given is)

pub returns-clause-refused_where : goal.returns-clause-refused_where
returns-clause-refused_where g c = λ command text fault given left.
    answers.refused_where command (before g c) (after g c) text left _ (told_of g c command given) fault

pub returns-clause-complete : goal.returns-clause-complete
returns-clause-complete g c = λ command text given left none.
    answers.complete command (before g c) (after g c) text left _ (told_of g c command given) none

pub returns-clause-read_to_end : goal.returns-clause-read_to_end
returns-clause-read_to_end g c = λ command text given left reads.
    answers.read_to_end command (before g c) (after g c) text left _ (told_of g c command given) reads

pub returns-clause-too_long_unread : goal.returns-clause-too_long_unread
returns-clause-too_long_unread g c = λ command text given left is.
    answers.too_long_unread command (before g c) (after g c) text left (told_as g c command (Refused TooLong) given is)

-- ---- of `gen`
pub returns-clause-gen_answers : goal.returns-clause-gen_answers
returns-clause-gen_answers g c = λ gen.
    answers.gen_answers gen.0 gen.1 gen.2 (before g c) (after g c) _ (told_of g c (Generate gen.0 gen.1 gen.2) gen.3)

pub returns-clause-gen_complete : goal.returns-clause-gen_complete
returns-clause-gen_complete g c = λ gen.
    answers.gen_complete gen.0 gen.1 gen.2 (before g c) (after g c) _ (told_of g c (Generate gen.0 gen.1 gen.2) gen.3)

pub returns-clause-gen_unread : goal.returns-clause-gen_unread
returns-clause-gen_unread g c = λ gen. c.answer-status.ensures.unread (answers.gen_apart _ gen)
