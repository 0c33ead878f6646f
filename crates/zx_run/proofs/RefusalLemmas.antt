-- What the answer is where nothing was read, or what was read is refused.
use Rattle.std.proofs.Common.{◌≡◌, ◌<◌, ◌≤◌, ◌+◌, ℕ, List, [], length, Option, Some, Result, Ok, Err, IfErr, refl, sym, ap, ◌∙◌, subst, arith}
use Rattle.std.specs.Prelude.{IsErrAnd}
use Rattle.std.proofs.lemmas.Result.{err_from_is_err_and}
use Rattle.std.proofs.lemmas.List.{drop_all}
use Rattle.zx_io.specs.Causes.{Rose}
use Rattle.zx_io.specs.declared.errors.ReadError.{ReadError}
use Rattle.zx_io.specs.declared.errors.ReadError.TheVariants as read
use Rattle.zx_run.specs.declared.status.Fault.{Fault}
use Rattle.zx_run.specs.declared.status.Status.{Status}
use Rattle.zx_run.specs.declared.status.Status.TheVariants.{Done, Refused, Usage, ReadFault, WriteFault, NoMemory, No}
use Rattle.zx_run.specs.Internal.ErrorAnswers.{answer_to_read_error}
use Rattle.zx_run.specs.FirstFault.{most_bytes}
use Rattle.zx_run.specs.Answers.{ToldSource, IsLeftOf}
use Rattle.zx_run.specs.Internal.Parts.{IsRead, IsReadFailure}
use Rattle.zx_run.specs.Internal.Refusals.{IsTooLong, IsRefusalFor}

-- nothing follows the bytes of a text that isn't too long
pub all_left : (text : List ℕ) (left : Option (List ℕ)) → length text ≤ most_bytes → left ≡ Some [] → IsLeftOf text left
all_left text left short none = none ∙ ap Some (sym (drop_all (most_bytes + 1) text (omega (arith, short))))

-- not all bytes were read
pub read_failed : (before after : ToldSource) (error : ReadError)
    → (error ≡ read.ReadFault → Rose before.faults after.faults)
    → (error ≡ read.TooLong → (text : List ℕ) → before.left ≡ Some text → (most_bytes < length text) × IsLeftOf text after.left)
    → (error ≡ read.TooLong → after.faults ≡ before.faults) → (error ≡ read.NoMemory → after.faults ≡ before.faults)
    → IsReadFailure IsTooLong before after (answer_to_read_error error)
read_failed before after read.ReadFault rose long well no_memory = rose refl
read_failed before after read.TooLong rose long well no_memory =
    (well refl, λ text told. (((long refl text told).0, refl), λ other. absurd (other refl), (long refl text told).1))
read_failed before after read.NoMemory rose long well no_memory = no_memory refl

-- a fault for one reason is one for another
pub failed_by : (these those : List ℕ → Fault → Type 0) → ((text : List ℕ) (fault : Fault) → these text fault → those text fault)
    → (before after : ToldSource) (status : Status) → IsReadFailure these before after status → IsReadFailure those before after status
failed_by these those give before after (Refused fault) why =
    (why.0, λ text told. let w = why.1 text told in (give text fault w.0, w.1, w.2))
failed_by these those give before after ReadFault why = why
failed_by these those give before after NoMemory why = why
failed_by these those give before after Done why = absurd why
failed_by these those give before after Usage why = absurd why
failed_by these those give before after WriteFault why = absurd why
failed_by these those give before after No why = absurd why

pub refused_by : (these those : Fault → Type 0) → ((fault : Fault) → these fault → those fault)
    → (status : Status) → IsRefusalFor these status → IsRefusalFor those status
refused_by these those give (Refused fault) why = give fault why
refused_by these those give NoMemory why = why
refused_by these those give ReadFault why = absurd why
refused_by these those give Done why = absurd why
refused_by these those give Usage why = absurd why
refused_by these those give WriteFault why = absurd why
refused_by these those give No why = absurd why

-- all bytes were read, and refused
pub refusal_failed : (first : List ℕ → Fault → Type 0) (bytes : List ℕ) (before after : ToldSource) → length bytes ≤ most_bytes → after.faults ≡ before.faults
    → ((text : List ℕ) → before.left ≡ Some text → (bytes ≡ text) × (after.left ≡ Some []))
    → (status : Status) → IsRefusalFor (first bytes) status → IsReadFailure first before after status
refusal_failed first bytes before after short well all (Refused fault) why = (
  well,
  λ text told.
      let known = all text told in (
        subst (λ t. first t fault) known.0 why,
        λ other. known.1,
        all_left text after.left (subst (λ t. length t ≤ most_bytes) known.0 short) known.1,
      ),
)
refusal_failed first bytes before after short well all NoMemory why = well
refusal_failed first bytes before after short well all ReadFault why = absurd why
refusal_failed first bytes before after short well all Done why = absurd why
refusal_failed first bytes before after short well all Usage why = absurd why
refusal_failed first bytes before after short well all WriteFault why = absurd why
refusal_failed first bytes before after short well all No why = absurd why

-- nothing was read
pub unread : {T : Type 0} {first : List ℕ → Fault → Type 0} {before after : ToldSource} {status : Status}
    → IsReadFailure first before after status → IsRead {T = T} first before after (Err status)
unread why = record { reads_well = tt; end = λ text told. tt; failure = why }

-- not all bytes were read, and the reader's answer is passed on
pub bytes_failed : {T : Type 0} (first : List ℕ → Fault → Type 0) → ((text : List ℕ) (fault : Fault) → IsTooLong text fault → first text fault)
    → (before after : ToldSource) (result : Result T Status) (status : Status) → IsErrAnd result (λ s. s ≡ status)
    → IsReadFailure IsTooLong before after status → IsRead first before after result
bytes_failed first give before after result status passed why =
    let p = err_from_is_err_and result passed in
    subst (IsRead first before after) (sym p.1) (unread (subst (IsReadFailure first before after) (sym p.2) (failed_by IsTooLong first give before after status why)))

-- they were, and what they say is refused
pub text_refused : {T : Type 0} (first : List ℕ → Fault → Type 0) (bytes lent : List ℕ) (before after : ToldSource) (result : Result T Status)
    → lent ≡ bytes → length bytes ≤ most_bytes → after.faults ≡ before.faults → ((text : List ℕ) → before.left ≡ Some text → bytes ≡ text)
    → ((text : List ℕ) → before.left ≡ Some text → after.left ≡ Some []) → IfErr result (IsRefusalFor (first lent))
    → IsRead first before after result
text_refused first bytes lent before after (Ok read) same short well all end why = record { reads_well = well; end = end; failure = tt }
text_refused first bytes lent before after (Err status) same short well all end why =
    unread (refusal_failed first lent before after (subst (λ b. length b ≤ most_bytes) (sym same) short) well (λ text told. (same ∙ all text told, end text told)) status why)
