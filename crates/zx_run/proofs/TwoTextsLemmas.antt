-- Two texts in one: one first fault at most, and none where both are accepted.
use Rattle.std.proofs.Common.{◌≡◌, ◌≤◌, ◌+◌, ◌-◌, ◌⊎◌, ℕ, List, length, take, drop, Err, inl, inr, refl, sym, ap, subst, ◌∙◌, arith}
use Rattle.std.proofs.lemmas.Bool.{cases_lt}
use Rattle.std.proofs.lemmas.List.{length-take-le}
use Rattle.zx_gates.specs.declared.elementary.Elementary.{Elementary}
use Rattle.qasm_inline.specs.TextAnswers.{IsTextAnswer}
use Rattle.qasm_inline.specs.declared.error.TextError.{TextError}
use Rattle.qasm_inline.specs.declared.error.TextError.TheVariants as error
use Rattle.qasm_scope.specs.declared.causes.Cause.TheVariants as cause
use Rattle.zx_run.specs.declared.status.Fault.{Fault}
use Rattle.zx_run.specs.declared.status.Fault.TheVariants.{TooLong, BadByte, TooDeep, Syntax, Version, Include, Unsupported}
use Rattle.zx_run.specs.declared.status.Fault.TheVariants.{Redeclared, EmptyRegister, TooManyQubits, Unknown}
use Rattle.zx_run.specs.declared.status.Fault.TheVariants.{WrongCount, Index, Sizes, SameQubit, Divide, AngleTooLarge}
use Rattle.zx_run.specs.declared.status.Fault.TheVariants.{NotSixteenthTurn, TooManyGates, SecondVersion, BadLine}
use Rattle.zx_run.specs.declared.status.Fault.TheVariants.{AfterMeasure, BitTwice, TooManyBits, NotSquare, NoSecond}
use Rattle.zx_run.specs.declared.status.Status.{Status}
use Rattle.zx_run.specs.declared.status.Status.TheVariants.{Done, Refused, Usage, ReadFault, WriteFault, NoMemory, No}
use Rattle.zx_run.specs.Internal.ErrorAnswers.{answer_to_text_error}
use Rattle.zx_run.specs.FirstFault.{most_bytes, IsAccepted, IsFaultless, IsFirstFault}
use Rattle.zx_run.specs.TwoTexts.{parting_line, second_place, IsParted, AreTexts, shifted_fault, IsFaultOfEither, IsFirstFaultOfTwo, AreAccepted}
use Rattle.zx_run.specs.Internal.Refusals.{IsFaultFrom, IsRefusalFor, moved_answer}
use Rattle.zx_run.proofs.FaultLemmas.{one_first_fault, not_faultless, one_circuit, accepted_or_fault}
use Rattle.zx_run.proofs.RefusalLemmas.{refused_by}
use Rattle.zx_run.proofs.PartingLemmas.{same_texts, from_on, parted_or_not, AreSomeTexts}

-- ---- places in the whole
from_start : (at : ℕ) → 0 + at ≡ at
from_start at = omega arith

pub moved_nowhere : (fault : Fault) → shifted_fault 0 fault ≡ fault
moved_nowhere TooLong = refl
moved_nowhere (BadByte at) = ap BadByte (from_start at)
moved_nowhere (Syntax at) = ap Syntax (from_start at)
moved_nowhere Version = refl
moved_nowhere (Include at) = ap Include (from_start at)
moved_nowhere (Unsupported at) = ap Unsupported (from_start at)
moved_nowhere (Redeclared at) = ap Redeclared (from_start at)
moved_nowhere (EmptyRegister at) = ap EmptyRegister (from_start at)
moved_nowhere (TooManyQubits at) = ap TooManyQubits (from_start at)
moved_nowhere (Unknown at) = ap Unknown (from_start at)
moved_nowhere (WrongCount at) = ap WrongCount (from_start at)
moved_nowhere (Index at) = ap Index (from_start at)
moved_nowhere (Sizes at) = ap Sizes (from_start at)
moved_nowhere (SameQubit at) = ap SameQubit (from_start at)
moved_nowhere (Divide at) = ap Divide (from_start at)
moved_nowhere (AngleTooLarge at) = ap AngleTooLarge (from_start at)
moved_nowhere (NotSixteenthTurn at) = ap NotSixteenthTurn (from_start at)
moved_nowhere (TooDeep at) = ap TooDeep (from_start at)
moved_nowhere (TooManyGates at) = ap TooManyGates (from_start at)
moved_nowhere (SecondVersion at) = ap SecondVersion (from_start at)
moved_nowhere (BadLine line) = refl
moved_nowhere (AfterMeasure at) = ap AfterMeasure (from_start at)
moved_nowhere (BitTwice at) = ap BitTwice (from_start at)
moved_nowhere (TooManyBits at) = ap TooManyBits (from_start at)
moved_nowhere NotSquare = refl
moved_nowhere NoSecond = refl

moved_refusal : (by : ℕ) (text : List ℕ) (status : Status)
    → IsRefusalFor (IsFirstFault text) status → IsRefusalFor (IsFaultFrom by text) (moved_answer by status)
moved_refusal by text (Refused fault) why = (fault, why, refl)
moved_refusal by text NoMemory why = why
moved_refusal by text ReadFault why = absurd why
moved_refusal by text Done why = absurd why
moved_refusal by text Usage why = absurd why
moved_refusal by text WriteFault why = absurd why
moved_refusal by text No why = absurd why

-- the reader's error tells why there is no circuit
refused : (text : List ℕ) → length text ≤ most_bytes → (e : TextError) → IsTextAnswer text (Err e) → IsRefusalFor (IsFirstFault text) (answer_to_text_error e)
refused text short (error.BadByte at) why = inr (short, inl (at, why, refl))
refused text short (error.TooDeep at) why = inr (short, inr (inl (at, why, refl)))
refused text short (error.Syntax at) why = inr (short, inr (inr (inl (at, why, refl))))
refused text short (error.Wrong what at) why = inr (short, inr (inr (inr (what, at, why, refl))))
refused text short error.NoMemory why = tt

pub refused_from : (text : List ℕ) → length text ≤ most_bytes → (e : TextError) → IsTextAnswer text (Err e) → (from : ℕ) (status : Status)
    → (status ≡ NoMemory) ⊎ (status ≡ moved_answer from (answer_to_text_error e)) → IsRefusalFor (IsFaultFrom from text) status
refused_from text short e why from status (inl is) = subst (IsRefusalFor (IsFaultFrom from text)) (sym is) tt
refused_from text short e why from status (inr is) =
    subst (IsRefusalFor (IsFaultFrom from text)) (sym is) (moved_refusal from text (answer_to_text_error e) (refused text short e why))

-- ---- the laws
either_fault : (first second : List ℕ) (this that : Fault) → IsFaultOfEither first second this → IsFaultOfEither first second that → this ≡ that
either_fault first second this that (inl a) (inl b) = one_first_fault first this that a b
either_fault first second this that (inl a) (inr b) = absurd (not_faultless first this a b.0)
either_fault first second this that (inr a) (inl b) = absurd (not_faultless first that b a.0)
either_fault first second this that (inr a) (inr b) =
    a.1.2 ∙ ap (shifted_fault (second_place first)) (one_first_fault second a.1.0 b.1.0 a.1.1 b.1.1) ∙ sym b.1.2

short_fault : (text : List ℕ) (this that : Fault)
    → (((first second : List ℕ) → IsParted text first second → ⊥) × (this ≡ NoSecond))
    ⊎ ((first : List ℕ) × (second : List ℕ) × AreTexts text first second × IsFaultOfEither first second this)
    → (((first second : List ℕ) → IsParted text first second → ⊥) × (that ≡ NoSecond))
    ⊎ ((first : List ℕ) × (second : List ℕ) × AreTexts text first second × IsFaultOfEither first second that)
    → this ≡ that
short_fault text this that (inl a) (inl b) = a.1 ∙ sym b.1
short_fault text this that (inl a) (inr b) = absurd (a.0 b.0 b.1 b.2.parted)
short_fault text this that (inr a) (inl b) = absurd (b.0 a.0 a.1 a.2.parted)
short_fault text this that (inr (f, s, texts, a)) (inr (g, t, others, b)) =
    let same = same_texts text f s g t texts others in
    either_fault g t this that (subst (λ k. IsFaultOfEither k t this) same.0 (subst (λ k. IsFaultOfEither f k this) same.1 a)) b

pub one_fault_of_two : (text : List ℕ) (this that : Fault) → IsFirstFaultOfTwo text this → IsFirstFaultOfTwo text that → this ≡ that
one_fault_of_two text this that (inl a) (inl b) = a.1 ∙ sym b.1
one_fault_of_two text this that (inl a) (inr b) = let long = a.0 in let short = b.0 in absurd (omega (arith, long, short))
one_fault_of_two text this that (inr a) (inl b) = let long = b.0 in let short = a.0 in absurd (omega (arith, long, short))
one_fault_of_two text this that (inr a) (inr b) = short_fault text this that a.1 b.1

either_accepted : (first second : List ℕ) (fault : Fault) → IsFaultless first → IsFaultless second → IsFaultOfEither first second fault → ⊥
either_accepted first second fault one other (inl a) = not_faultless first fault a one
either_accepted first second fault one other (inr a) = not_faultless second a.1.0 a.1.1 other

pub not_accepted_two : (text : List ℕ) (fault : Fault) (one other : Elementary) → IsFirstFaultOfTwo text fault → AreAccepted text one other → ⊥
not_accepted_two text fault one other (inl a) k = let long = a.0 in let short = k.short in absurd (omega (arith, long, short))
not_accepted_two text fault one other (inr (s, inl a)) k = a.0 k.first k.second k.texts.parted
not_accepted_two text fault one other (inr (s, inr (f, t, texts, a))) k =
    let same = same_texts text k.first k.second f t k.texts texts in
    either_accepted f t fault (one, subst (λ u. IsAccepted u one) same.0 k.first_means)
    (other, subst (λ u. IsAccepted u other) same.1 k.second_means) a

pub one_pair : (text : List ℕ) (a b c d : Elementary) → AreAccepted text a b → AreAccepted text c d → (a ≡ c) × (b ≡ d)
one_pair text a b c d k l =
    let same = same_texts text k.first k.second l.first l.second k.texts l.texts in (
      one_circuit l.first a c (subst (λ u. IsAccepted u a) same.0 k.first_means) l.first_means,
      one_circuit l.second b d (subst (λ u. IsAccepted u b) same.1 k.second_means) l.second_means,
    )

abbrev pub IsDecided : List ℕ → Type 0
IsDecided text = ((one : Elementary) × (other : Elementary) × AreAccepted text one other) ⊎ ((fault : Fault) × IsFirstFaultOfTwo text fault)

parts_decided : (text first second : List ℕ) → length text ≤ most_bytes → AreTexts text first second
    → IsFaultless first ⊎ ((fault : Fault) × IsFirstFault first fault)
    → IsFaultless second ⊎ ((fault : Fault) × IsFirstFault second fault) → IsDecided text
parts_decided text first second short texts (inr (fault, is)) b = inr (fault, inr (short, inr (first, second, texts, inl is)))
parts_decided text first second short texts (inl a) (inr (fault, is)) =
    inr (shifted_fault (second_place first) fault, inr (short, inr (first, second, texts, inr (a, (fault, is, refl)))))
parts_decided text first second short texts (inl (one, a)) (inl (other, b)) =
    inl (one, other, record { short = short; first = first; second = second; texts = texts; first_means = a; second_means = b })

short_decided : (text : List ℕ) → length text ≤ most_bytes
    → AreSomeTexts text ⊎ ((first second : List ℕ) → IsParted text first second → ⊥) → IsDecided text
short_decided text short (inl (first, second, texts)) =
    parts_decided text first second short texts (accepted_or_fault first) (accepted_or_fault second)
short_decided text short (inr none) = inr (NoSecond, inr (short, inl (none, refl)))

pub two_accepted_or_fault : (text : List ℕ) → IsDecided text
two_accepted_or_fault text = elim (cases_lt most_bytes (length text)) [
  | inl long ↦ inr (TooLong, inl (long, refl))
  | inr short ↦ short_decided text short (parted_or_not text)
]

-- ---- what one of two texts is refused for
module _ (text first second : List ℕ) (short : length text ≤ most_bytes) (texts : AreTexts text first second) where
  pub first_refused : (status : Status) → IsRefusalFor (IsFaultFrom 0 first) status → IsRefusalFor (IsFirstFaultOfTwo text) status
  first_refused = refused_by (IsFaultFrom 0 first) (IsFirstFaultOfTwo text) (λ fault why.
      inr (short, inr (first, second, texts, inl (subst (IsFirstFault first) (sym (why.2 ∙ moved_nowhere why.0)) why.1))))

  pub second_refused : (one : Elementary) → IsAccepted first one → (status : Status)
      → IsRefusalFor (IsFaultFrom (second_place first) second) status → IsRefusalFor (IsFirstFaultOfTwo text) status
  second_refused one accepted = refused_by (IsFaultFrom (second_place first) second) (IsFirstFaultOfTwo text) (λ fault why.
      inr (short, inr (first, second, texts, inr ((one, accepted), why))))

-- the second one stands from a place of the whole on
pub second_refused_at : (text : List ℕ) (at : ℕ) → at + length parting_line ≤ length text → length text ≤ most_bytes
    → AreTexts text (take at text) (drop (at + length parting_line) text)
    → (one : Elementary) → IsAccepted (take at text) one → (status : Status)
    → (let behind = at + length parting_line in
    IsRefusalFor (IsFaultFrom behind (take (length text - behind) (drop behind text))) status)
    → IsRefusalFor (IsFirstFaultOfTwo text) status
second_refused_at text at within short texts one accepted status why =
    let behind = at + length parting_line in
    let there : length (take at text) ≡ at = length-take-le at text (omega (arith, within)) in
    second_refused text (take at text) (drop behind text) short texts one accepted status
    (subst (λ n. IsRefusalFor (IsFaultFrom (n + length parting_line) (drop behind text)) status) (sym there)
    (subst (λ t. IsRefusalFor (IsFaultFrom behind t) status) (from_on text behind) why))
