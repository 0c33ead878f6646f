-- What the answer is where no circuit was read.
use Rattle.std.proofs.Common.{◌≡◌, ◌≤◌, ℕ, List, [], length, inl, inr, Some, Ok, Err, refl, sym, subst}
use Rattle.zx_gates.specs.declared.elementary.Elementary.{Elementary}
use Rattle.qasm_inline.specs.TextAnswers.{IsTextAnswer}
use Rattle.qasm_inline.specs.declared.error.TextError.{TextError}
use Rattle.qasm_inline.specs.declared.error.TextError.TheVariants as errors
use Rattle.zx_run.specs.declared.status.Fault.{Fault}
use Rattle.zx_run.specs.declared.status.Fault.TheVariants.{BadByte, TooDeep, Syntax}
use Rattle.zx_run.specs.declared.status.Status.{Status}
use Rattle.zx_run.specs.declared.status.Status.TheVariants.{Refused}
use Rattle.zx_run.specs.Answers.{ToldSource}
use Rattle.zx_run.specs.Internal.Parts.{IsReadFailure}
use Rattle.zx_run.specs.Internal.ErrorAnswers.{answer_to_text_error}
use Rattle.zx_run.specs.FirstFault.{most_bytes, fault_of, IsAccepted, IsFirstFault}
use Rattle.zx_run.specs.FirstFault.{IsShortFault}
use Rattle.zx_run.proofs.RefusalLemmas.{all_left}

pub read_accepted : (text : List ℕ) → length text ≤ most_bytes → (circuit : Elementary) → IsTextAnswer text (Ok circuit) → IsAccepted text circuit
read_accepted text short circuit (valid, program, is, faultless, means) =
    record { short = short; program = program; is = is; faultless = faultless; means = means }

-- all bytes were read
module _ (before after : ToldSource) (well : after.faults ≡ before.faults)
    (all : (text : List ℕ) → before.left ≡ Some text → (length text ≤ most_bytes) × (after.left ≡ Some [])) where
  refused : (fault : Fault) → ((text : List ℕ) → before.left ≡ Some text → IsShortFault text fault)
      → IsReadFailure IsFirstFault before after (Refused fault)
  refused fault first = (
    well,
    λ text told.
        let read = all text told in
        (inr (read.0, first text told), λ other. read.1, all_left text after.left read.0 read.1),
  )

  -- the reader's error tells why there is no circuit
  answered : (error : TextError) → ((text : List ℕ) → before.left ≡ Some text → IsTextAnswer text (Err error)) → IsReadFailure IsFirstFault before after (answer_to_text_error error)
  answered (errors.BadByte at) why = refused (BadByte at) (λ text told. inl (at, why text told, refl))
  answered (errors.TooDeep at) why = refused (TooDeep at) (λ text told. inr (inl (at, why text told, refl)))
  answered (errors.Syntax at) why = refused (Syntax at) (λ text told. inr (inr (inl (at, why text told, refl))))
  answered (errors.Wrong cause at) why = refused (fault_of cause at) (λ text told. inr (inr (inr (cause, at, why text told, refl))))
  answered errors.NoMemory why = well

  pub text_failed : (error : TextError) → ((text : List ℕ) → before.left ≡ Some text → IsTextAnswer text (Err error)) → (status : Status) → status ≡ answer_to_text_error error
      → IsReadFailure IsFirstFault before after status
  text_failed error why status is = subst (IsReadFailure IsFirstFault before after) (sym is) (answered error why)
