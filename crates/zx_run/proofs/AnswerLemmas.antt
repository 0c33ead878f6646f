-- What an answer says of the streams, of the command that was given, and of the text.
use Rattle.std.proofs.Common.{◌≡◌, ◌≢◌, ◌⊎◌, inl, inr, ℕ, List, [], refl, sym, ap, subst, Bool, true, false, Option, None, Some, Result, Ok}
use Rattle.std.specs.Prelude.{IsErrAnd}
use Rattle.std.proofs.lemmas.Result.{err_from_is_err_and}
use Rattle.zx_io.specs.Causes.{Rose}
use Rattle.zx_words.specs.declared.words.Command.{Command}
use Rattle.zx_words.specs.declared.words.Command.TheVariants.{Generate}
use Rattle.zx_run.specs.declared.status.Fault.{Fault}
use Rattle.zx_run.specs.declared.status.Fault.TheVariants.{TooLong}
use Rattle.zx_run.specs.declared.status.Status.{Status}
use Rattle.zx_run.specs.declared.status.Status.TheVariants.{Done, Refused, Usage, ReadFault, WriteFault, NoMemory, No}
use Rattle.zx_run.specs.declared.written.Written.{Written}
use Rattle.zx_run.specs.Outcome.{GainsNoFor, GainsOutputFor, GainsPrefixFor, IsAnswerOfGen, IsFaultlessFor, IsFirstFaultFor, IsGen, IsNoFor}
use Rattle.zx_run.specs.Outcome.{IsOrNoMemory, IsOutputFor, MayAnswer, ReadsSource, SaysEnd, IsFailed, IsOrFailedRead}
use Rattle.zx_run.specs.Answers.{ToldSource, Streams, IsAnswer, IsMade, IsOutputOf, IsFailure, IsLeftOf, Reads}
use Rattle.zx_run.specs.Internal.Parts.{IsReadFailure, Makes}
use Rattle.zx_run.proofs.CommandLemmas.{one_fault, fault_or_none, output_answers, no_answers}

-- where nothing was read there is no output, for the same reason
pub read_failure : (command : Command) → ReadsSource command → (before after : ToldSource) (status : Status)
    → IsReadFailure (IsFirstFaultFor command) before after status → IsFailure (Some command) before after status
read_failure command reads before after (Refused fault) why = (why.0, (reads, why.1))
read_failure command reads before after ReadFault why = (why, reads)
read_failure command reads before after NoMemory why = why
read_failure command reads before after Done why = absurd why
read_failure command reads before after Usage why = absurd why
read_failure command reads before after WriteFault why = absurd why
read_failure command reads before after No why = absurd why

-- so it is where the reader's answer is passed on, and where memory runs out
pub reader_failed : (command : Command) → ReadsSource command → (before after : ToldSource) (result : Result Written Status) (status : Status)
    → IsErrAnd result (λ s. s ≡ status) → IsReadFailure (IsFirstFaultFor command) before after status → Makes command before after result
reader_failed command reads before after result status passed why =
    let p = err_from_is_err_and result passed in
    subst (Makes command before after) (sym p.1)
    (record { made = tt; failure = subst (IsFailure (Some command) before after) (sym p.2) (read_failure command reads before after status why) })

-- what was made of a source that was read to its end
pub made_of_all : {command : Command} {before after : ToldSource} {written : Written} → after.faults ≡ before.faults
    → IsOutputOf (Some command) written.is_no before.left written.bytes.items
    → ((text : List ℕ) → before.left ≡ Some text → after.left ≡ Some []) → Makes command before after (Ok written)
made_of_all well output end = record { made = record { reads_well = well; output = output; all_read = λ reads. end }; failure = tt }

-- the same of a command that is done
pub done_of_all : (command : Command) (before after : ToldSource) (written : Written) (bytes : List ℕ) → written.bytes.items ≡ bytes → written.is_no ≡ false
    → after.faults ≡ before.faults → IsOutputFor command before.left bytes
    → ((text : List ℕ) → before.left ≡ Some text → after.left ≡ Some []) → Makes command before after (Ok written)
done_of_all command before after written bytes same done well output end =
    made_of_all well
    (subst (λ b. IsOutputOf (Some command) b before.left written.bytes.items) (sym done) (subst (IsOutputFor command before.left) (sym same) output)) end

-- the answer that the bytes are written with
abbrev answer_of : Bool → Status
answer_of false = Done
answer_of true = No

of_either : (command : Command) (says_no : Bool) (left : Option (List ℕ)) (bytes : List ℕ)
    → IsOutputOf (Some command) says_no left bytes → IsOutputFor command left bytes ⊎ IsNoFor command left bytes
of_either command false left bytes output = inl output
of_either command true left bytes output = inr output

answers : (command : Command) (says_no : Bool) (left : Option (List ℕ)) (bytes text : List ℕ) → IsOutputOf (Some command) says_no left bytes
    → left ≡ Some text → IsFaultlessFor command text × MayAnswer command text (answer_of says_no)
answers command false left bytes text output told = output_answers command left bytes text output told
answers command true left bytes text output told = no_answers command left bytes text output told

module _ (given : Option Command) (before after : Streams) where
  pub done : (status : Status) → IsAnswer given before after status → status ≡ Done
      → (after.source.faults ≡ before.source.faults) × (after.output.faults ≡ before.output.faults)
  done status a is = let d = subst (IsAnswer given before after) is a in (d.1.reads_well, d.2.writes_well)

  pub done_flushed : (status : Status) → IsAnswer given before after status → status ≡ Done → after.output.pending ≡ 0
  done_flushed status a is = (subst (IsAnswer given before after) is a).2.flushed

  pub no_well : (status : Status) → IsAnswer given before after status → status ≡ No
      → (after.source.faults ≡ before.source.faults) × (after.output.faults ≡ before.output.faults)
  no_well status a is = let d = subst (IsAnswer given before after) is a in (d.1.reads_well, d.2.writes_well)

  pub no_flushed : (status : Status) → IsAnswer given before after status → status ≡ No → after.output.pending ≡ 0
  no_flushed status a is = (subst (IsAnswer given before after) is a).2.flushed

  pub usage : (status : Status) → IsAnswer given before after status → status ≡ Usage → given ≡ None
  usage status a is = (subst (IsAnswer given before after) is a).0.1

  pub usage_where : (status : Status) → IsAnswer given before after status → given ≡ None → IsOrNoMemory Usage status
  usage_where Done a none = absurd (subst (λ g. IsOutputOf g false before.source.left a.0) none a.1.output)
  usage_where (Refused fault) a none = absurd (subst Reads none a.0.1.0)
  usage_where Usage a none = inl refl
  usage_where ReadFault a none = absurd (subst Reads none a.0.1)
  usage_where WriteFault a none = absurd (subst (λ g. IsOutputOf g a.1 before.source.left a.0) none a.2.output)
  usage_where NoMemory a none = inr refl
  usage_where No a none = absurd (subst (λ g. IsOutputOf g true before.source.left a.0) none a.1.output)

  pub refused : (status : Status) → IsAnswer given before after status
      → (fault : Fault) → status ≡ Refused fault → after.source.faults ≡ before.source.faults
  refused status a fault is = (subst (IsAnswer given before after) is a).0.0

  pub read_fault : (status : Status) → IsAnswer given before after status → status ≡ ReadFault
      → Rose before.source.faults after.source.faults
  read_fault status a is = (subst (IsAnswer given before after) is a).0.0

  pub write_fault : (status : Status) → IsAnswer given before after status → status ≡ WriteFault
      → Rose before.output.faults after.output.faults × (after.source.faults ≡ before.source.faults)
  write_fault status a is = let w = subst (IsAnswer given before after) is a in (w.3.rose, w.2.reads_well)

  -- a read that failed decides the answer, where the count tells it
  pub read_fault_where : (status : Status) → IsAnswer given before after status
      → after.source.faults ≢ before.source.faults → status ≡ ReadFault
  read_fault_where Done a failed = absurd (failed a.1.reads_well)
  read_fault_where (Refused fault) a failed = absurd (failed a.0.0)
  read_fault_where Usage a failed = absurd (failed a.0.0)
  read_fault_where ReadFault a failed = refl
  read_fault_where WriteFault a failed = absurd (failed a.2.reads_well)
  read_fault_where NoMemory a failed = absurd (failed a.0)
  read_fault_where No a failed = absurd (failed a.1.reads_well)

  kept : after.output ≡ before.output → after.output.faults ≢ before.output.faults → ⊥
  kept same failed = failed (ap (λ o. o.faults) same)

  -- so does a write or a flush that failed
  pub write_fault_where : (status : Status) → IsAnswer given before after status
      → after.output.faults ≢ before.output.faults → status ≡ WriteFault
  write_fault_where Done a failed = absurd (failed a.2.writes_well)
  write_fault_where (Refused fault) a failed = absurd (kept a.1 failed)
  write_fault_where Usage a failed = absurd (kept a.1 failed)
  write_fault_where ReadFault a failed = absurd (kept a.1 failed)
  write_fault_where WriteFault a failed = refl
  write_fault_where NoMemory a failed = absurd (kept a.1 failed)
  write_fault_where No a failed = absurd (failed a.2.writes_well)

-- ---- of the command that was given
module _ (command : Command) (before after : Streams) where
  pub done_output : IsAnswer (Some command) before after Done
      → GainsOutputFor command before.source.left before.output.taken after.output.taken
  done_output a = (a.0, a.1.output, a.2.gains)

  pub no_output : IsAnswer (Some command) before after No
      → GainsNoFor command before.source.left before.output.taken after.output.taken
  no_output a = (a.0, a.1.output, a.2.gains)

  pub write_fault_output : IsAnswer (Some command) before after WriteFault
      → GainsPrefixFor command before.source.left before.output.taken after.output.taken
  write_fault_output a = (a.0, of_either command a.1 before.source.left a.0 a.2.output, a.3.gains)

  -- ---- of a text that was left in the source
  module _ (text : List ℕ) (told : before.source.left ≡ Some text) where
    pub refused_first : (fault : Fault) → IsAnswer (Some command) before after (Refused fault) → IsFirstFaultFor command text fault
    refused_first fault a = (a.0.1.1 text told).0

    faultless : (says_no : Bool) (bytes : List ℕ) → IsMade (Some command) before.source after.source says_no bytes → IsFaultlessFor command text
    faultless says_no bytes made = (answers command says_no before.source.left bytes text made.output told).0

    pub refused_where : (status : Status) → IsAnswer (Some command) before after status → (fault : Fault)
        → IsFirstFaultFor command text fault → IsOrFailedRead (Refused fault) status
    refused_where Done a fault first = absurd (fault_or_none command text fault first (faultless false a.0 a.1))
    refused_where (Refused f) a fault first = inl (inl (ap Refused (one_fault command text f fault (refused_first f a) first)))
    refused_where Usage a fault first = absurd (let h : ◌≡◌ {A = Option Command} (Some command) None = a.0.1 in cc)
    refused_where ReadFault a fault first = inr refl
    refused_where WriteFault a fault first = absurd (fault_or_none command text fault first (faultless a.1 a.0 a.2))
    refused_where NoMemory a fault first = inl (inr refl)
    refused_where No a fault first = absurd (fault_or_none command text fault first (faultless true a.0 a.1))

    -- a text without fault is answered
    pub complete : (status : Status) → IsAnswer (Some command) before after status → IsFaultlessFor command text
        → MayAnswer command text status ⊎ IsFailed status
    complete Done a none = inl (answers command false before.source.left a.0 text a.1.output told).1
    complete (Refused f) a none = absurd (fault_or_none command text f (refused_first f a) none)
    complete Usage a none = absurd (let h : ◌≡◌ {A = Option Command} (Some command) None = a.0.1 in cc)
    complete ReadFault a none = inr (inl refl)
    complete WriteFault a none = inr (inr (inl refl))
    complete NoMemory a none = inr (inr (inr refl))
    complete No a none = inl (answers command true before.source.left a.0 text a.1.output told).1

    -- Done, No and each refusal but of a text that is too long come at the source's end
    pub read_to_end : (status : Status) → IsAnswer (Some command) before after status → ReadsSource command
        → SaysEnd status → after.source.left ≡ Some []
    read_to_end status a reads (inl finished) =
        (subst (IsAnswer (Some command) before after) finished a).1.all_read reads text told
    read_to_end status a reads (inr (inl refused)) =
        (subst (IsAnswer (Some command) before after) refused a).1.all_read reads text told
    read_to_end status a reads (inr (inr (inl cut))) =
        (subst (IsAnswer (Some command) before after) cut a).2.all_read reads text told
    read_to_end status a reads (inr (inr (inr (fault, other, is)))) =
        ((subst (IsAnswer (Some command) before after) is a).0.1.1 text told).1 other

    -- what follows is left of a text that is too long
    pub too_long_unread : IsAnswer (Some command) before after (Refused TooLong) → IsLeftOf text after.source.left
    too_long_unread a = (a.0.1.1 text told).2

-- ---- of `gen`
module _ (seed qubits gates : ℕ) (before after : Streams) where
  pub gen_answers : (status : Status) → IsAnswer (Some (Generate seed qubits gates)) before after status → IsAnswerOfGen status
  gen_answers Done a = inr (inl refl)
  gen_answers (Refused fault) a = absurd a.0.1.0
  gen_answers Usage a = absurd (let h : ◌≡◌ {A = Option Command} (Some (Generate seed qubits gates)) None = a.0.1 in cc)
  gen_answers ReadFault a = absurd a.0.1
  gen_answers WriteFault a = inl refl
  gen_answers NoMemory a = inr (inr refl)
  gen_answers No a = absurd a.1.output

  pub gen_complete : (status : Status) → IsAnswer (Some (Generate seed qubits gates)) before after status
      → (Rose before.output.faults after.output.faults → ⊥) → IsOrNoMemory Done status
  gen_complete status a whole = elim (gen_answers status a) [
    | inl failed ↦ absurd (whole (subst (IsAnswer (Some (Generate seed qubits gates)) before after) failed a).3.rose)
    | inr answered ↦ answered
  ]

pub gen_apart : (given : Option Command) → IsGen given → Reads given → ⊥
gen_apart given (s, q, m, gen) reads = subst Reads gen reads

pub none_apart : (given : Option Command) → given ≡ None → Reads given → ⊥
none_apart given none reads = subst Reads none reads
