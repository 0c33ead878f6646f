-- What the answer is where no graph file was read, and what is written for one.
use Rattle.std.proofs.Common.{◌≡◌, ◌<◌, ◌≤◌, ℕ, List, [], length, inr, Option, Some, Result, Ok, Err, IfOk, IsErrOf, refl, sym, ◌∙◌, subst, arith, Bool, true, false, codes, ◌↔◌}
use Rattle.zx_calculus.specs.Graph.{Graph}
use Rattle.gflow_laws.specs.Flow.{Correction, IsFlow}
use Rattle.gflow_laws.specs.Seen.{seen}
use Rattle.flow_check.specs.declared.verdict.Condition.{Condition}
use Rattle.flow_check.specs.declared.verdict.Verdict.{Verdict}
use Rattle.flow_check.specs.declared.verdict.Verdict.TheVariants as verdict
use Rattle.flow_check.specs.Failures.{IsFirstFailure}
use Rattle.zx_text.specs.Reading.{OnlyWithFlow, IsBadLine}
use Rattle.zx_text.specs.declared.error.TextError.{TextError}
use Rattle.zx_text.specs.declared.error.TextError.TheVariants as file
use Rattle.zx_words.specs.declared.words.Command.TheVariants.{Reduce, Flow}
use Rattle.zx_run.specs.declared.status.Fault.TheVariants.{BadLine}
use Rattle.zx_run.specs.Internal.ErrorAnswers.{answer_to_file_error}
use Rattle.zx_run.specs.FirstFault.{most_bytes}
use Rattle.zx_run.specs.FlowFiles.{IsFileOf, IsFirstFileFault, IsReducedFile, fails_line}
use Rattle.zx_run.specs.declared.written.Written.{Written}
use Rattle.zx_run.specs.Answers.{ToldSource, IsOutputOf}
use Rattle.zx_run.specs.Internal.Parts.{IsReadFailure, IsVerdict}
use Rattle.zx_run.proofs.RefusalLemmas.{all_left}

-- all bytes were read, and are no graph file with a flow
module _ {A : Type 0} (bytes : List ℕ) (result : Result A TextError) (short : length bytes ≤ most_bytes)
    (before after : ToldSource) (well : after.faults ≡ before.faults)
    (all : (text : List ℕ) → before.left ≡ Some text → (bytes ≡ text) × (after.left ≡ Some []))
    (bad_line : (line : ℕ) → IsErrOf result (file.BadLine line) → (length bytes ≤ most_bytes) × IsBadLine OnlyWithFlow bytes line)
    (too_long : IsErrOf result file.TooLong → most_bytes < length bytes) where
  pub file_failed : (error : TextError) → result ≡ Err error → IsReadFailure IsFirstFileFault before after (answer_to_file_error error)
  file_failed (file.BadLine line) is = (
    well,
    λ text told.
        let bad = bad_line line (subst (λ r. IsErrOf r (file.BadLine line)) (sym is) refl) in
        let first : IsFirstFileFault bytes (BadLine line) = inr (short, (line, bad.1, refl)) in
        let read = all text told in (
          subst (λ t. IsFirstFileFault t (BadLine line)) read.0 first,
          λ other. read.1,
          all_left text after.left (subst (λ t. length t ≤ most_bytes) read.0 short) read.1,
        ),
  )
  file_failed file.TooLong is =
      let long = too_long (subst (λ r. IsErrOf r file.TooLong) (sym is) refl) in absurd (omega (arith, long, short))
  file_failed file.NoMemory is = well

-- what is written where a condition fails
module _ (graph : Graph) (table : List Correction) (good : List ℕ → Type 0) (found : Verdict) (v : ℕ) (condition : Condition)
    (is : found ≡ verdict.Fails v condition) (flow : (found ≡ verdict.Flow) ↔ IsFlow graph table)
    (fails : (w : ℕ) (k : Condition) → (found ≡ verdict.Fails w k) ↔ IsFirstFailure (seen graph) table w k) where
  no_flow : IsFlow graph table → ⊥
  no_flow holds = absurd (let e : ◌≡◌ {A = Verdict} verdict.Flow (verdict.Fails v condition) = sym (flow.1 holds) ∙ is in cc)

  pub failing : {E : Type 0} (result : Result Written E) → IfOk result (λ w. w.bytes.items ≡ fails_line v condition) → IfOk result (λ w. w.is_no ≡ true)
      → IfOk result (λ w. IsVerdict graph table (good w.bytes.items) w.bytes.items w.is_no)
  failing (Err e) line denies = tt
  failing (Ok w) line denies =
      subst (IsVerdict graph table (good w.bytes.items) w.bytes.items) (sym denies)
      (no_flow, record { vertex = v; condition = condition; first = (fails v condition).0 is; spelled = line })

-- what is written for a file
module _ (left : Option (List ℕ)) (graph : Graph) (table : List Correction)
    (file : (text : List ℕ) → left ≡ Some text → IsFileOf text graph table) where
  pub reduce_output : (says_no : Bool) (bytes : List ℕ) → IsVerdict graph table (IsReducedFile graph bytes) bytes says_no
      → IsOutputOf (Some Reduce) says_no left bytes
  reduce_output false bytes is = λ text told.
      record { graph = graph; table = table; file = file text told; flow = is.0; reduced = is.1 }
  reduce_output true bytes is = λ text told.
      record { graph = graph; table = table; file = file text told; no_flow = is.0; line = is.1 }

  pub flow_output : (says_no : Bool) (bytes : List ℕ) → IsVerdict graph table (bytes ≡ codes "flow\n") bytes says_no
      → IsOutputOf (Some Flow) says_no left bytes
  flow_output false bytes is = λ text told.
      record { graph = graph; table = table; file = file text told; flow = is.0; spelled = is.1 }
  flow_output true bytes is = λ text told.
      record { graph = graph; table = table; file = file text told; no_flow = is.0; line = is.1 }
