-- What a command made of a text, or why it made nothing, is an answer to the text.
use Rattle.std.proofs.Common.{◌≡◌, ◌≤◌, inl, inr, ℕ, List, [], refl, ap, sym, subst, Bool, true, false, Option, None, Some, arith}
use Rattle.zx_words.specs.declared.words.Command.{Command}
use Rattle.zx_run.specs.declared.status.Fault.{Fault}
use Rattle.zx_run.specs.declared.status.Status.{Status}
use Rattle.zx_run.specs.declared.status.Status.TheVariants.{Done, Refused, Usage, ReadFault, WriteFault, NoMemory, No}
use Rattle.zx_run.specs.Outcome.{IsFaultlessFor, IsFirstFaultFor, MayAnswer}
use Rattle.zx_run.specs.Answers.{ToldSource, IsFailure, IsMade, IsOutputOf}
use Rattle.zx_run.proofs.CommandLemmas.{one_fault, fault_or_none, output_answers, no_answers}
use Rattle.zxopt_c.specs.Calls.{IsAnswerTo, MayWrite}
use Rattle.zxopt_c.specs.Internal.Answers.{answer_with}

answered : (command : Command) (text bytes : List ℕ) (answer : Status) → MayWrite command text answer bytes
    → IsFaultlessFor command text × MayAnswer command text answer → IsAnswerTo command text answer bytes
answered command text bytes answer writes answers = record {
  writes = writes;
  complete = λ none. inl answers.1;
  refused_where = λ fault first. absurd (fault_or_none command text fault first answers.0);
}

of_made : (command : Command) (text bytes : List ℕ) (says_no : Bool) → IsOutputOf (Some command) says_no (Some text) bytes
    → IsAnswerTo command text (answer_with says_no) bytes
of_made command text bytes false output = answered command text bytes Done output (output_answers command (Some text) bytes text output refl)
of_made command text bytes true output = answered command text bytes No output (no_answers command (Some text) bytes text output refl)

of_refusal : (command : Command) (text : List ℕ) (fault : Fault) → IsFirstFaultFor command text fault → IsAnswerTo command text (Refused fault) []
of_refusal command text fault first = record {
  writes = (first, refl);
  complete = λ none. absurd (fault_or_none command text fault first none);
  refused_where = λ other it. inl (ap Refused (one_fault command text fault other first it));
}

of_no_memory : (command : Command) (text : List ℕ) → IsAnswerTo command text NoMemory []
of_no_memory command text = record {
  writes = refl;
  complete = λ none. inr refl;
  refused_where = λ fault first. inr refl;
}

-- what is told of a source of which no read fails
abbrev pub told_of : List ℕ → ToldSource
told_of left = record { left = Some left; faults = 0 }

of_failure : (command : Command) (text left : List ℕ) (status : Status) → IsFailure (Some command) (told_of text) (told_of left) status
    → IsAnswerTo command text status []
of_failure command text left (Refused fault) why = of_refusal command text fault (why.1.1 text refl).0
of_failure command text left NoMemory why = of_no_memory command text
of_failure command text left ReadFault why = absurd (let rose : 1 ≤ 0 = why.0 in omega (arith, rose))
of_failure command text left Usage why = absurd (let none : ◌≡◌ {A = Option Command} (Some command) None = why.1 in cc)
of_failure command text left Done why = absurd why
of_failure command text left WriteFault why = absurd why
of_failure command text left No why = absurd why

-- the same of a source that is known to be the text, and of an answer and bytes that are known
pub made_for : (command : Command) (source text left bytes : List ℕ) (says_no : Bool) (answer : Status) → source ≡ text
    → answer ≡ answer_with says_no → IsMade (Some command) (told_of source) (told_of left) says_no bytes → IsAnswerTo command text answer bytes
made_for command source text left bytes says_no answer is with made =
    let answered = of_made command source bytes says_no made.output in
    subst (λ a. IsAnswerTo command text a bytes) (sym with) (subst (λ t. IsAnswerTo command t (answer_with says_no) bytes) is answered)

pub failure_for : (command : Command) (source text left bytes : List ℕ) (status : Status) → source ≡ text → bytes ≡ []
    → IsFailure (Some command) (told_of source) (told_of left) status → IsAnswerTo command text status bytes
failure_for command source text left bytes status is none why =
    let answered = of_failure command source left status why in
    subst (λ b. IsAnswerTo command text status b) (sym none) (subst (λ t. IsAnswerTo command t status []) is answered)
