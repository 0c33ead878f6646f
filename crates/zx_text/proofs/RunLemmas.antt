-- What steps lead to, one after the other.
use Rattle.std.proofs.Common.{◌≡◌, ℕ, ◌+◌, ◌≤◌, Bool, true, false, List, [], ◌∷◌, ◌++◌, length, refl, sym, ap, ◌∙◌, subst, append_assoc, append-nil, arith, Option, None, Some}
use Rattle.zx_text.specs.Formats.{run}
use Rattle.zx_text.specs.Internal.Stepping.{only_if}

pub same_state : {A : Type 0} {x y : A} → Some x ≡ Some y → x ≡ y
same_state e = cc

pub no_state : {A : Type 0} {x : A} → None ≡ Some x → ⊥
no_state e = cc

-- ---- a step where a test passes
pub only : {A : Type 0} (test : Bool) (x y : A) → only_if test x ≡ Some y → x ≡ y
only true x y e = same_state e
only false x y e = absurd (cc)

pub passed : {A : Type 0} (test : Bool) (x y : A) → only_if test x ≡ Some y → test ≡ true
passed true x y e = refl
passed false x y e = absurd (cc)

pub fitting : {A : Type 0} (test : Bool) (x : A) → test ≡ true → only_if test x ≡ Some x
fitting test x t = ap (λ b. only_if b x) t

-- ---- runs
module _ {S L : Type 0} (step : S → L → Option S) where
  run-none : (ls : List L) → run step None ls ≡ None
  run-none [] = refl
  run-none (l ∷ ls) = refl

  pub run-append : (st : Option S) (xs ys : List L) → run step st (xs ++ ys) ≡ run step (run step st xs) ys
  run-append st [] ys = refl
  run-append None (x ∷ xs) ys = sym (run-none ys)
  run-append (Some st) (x ∷ xs) ys = run-append (step st x) xs ys

  pub then_run : (st : Option S) (next : S) (xs ys : List L) → run step st xs ≡ Some next → run step st (xs ++ ys) ≡ run step (Some next) ys
  then_run st next xs ys e = run-append st xs ys ∙ ap (λ s. run step s ys) e

  pub run_step : (st next : S) (l : L) (ls : List L) → step st l ≡ Some next → run step (Some st) (l ∷ ls) ≡ run step (Some next) ls
  run_step st next l ls e = ap (λ s. run step s ls) e

  -- a line that leads on, then the others
  pub record IsFirstStep (st : S) (l : L) (ls : List L) (last : S) : Type 0 where
    pub next : S
    pub at : step st l ≡ Some next
    pub rest : run step (Some next) ls ≡ Some last

  pub first_step : (st : S) (l : L) (ls : List L) (last : S) → run step (Some st) (l ∷ ls) ≡ Some last → IsFirstStep st l ls last
  first_step st l ls last e = by_answer (step st l) refl e
    where
      by_answer : (o : Option S) → step st l ≡ o → run step o ls ≡ Some last → IsFirstStep st l ls last
      by_answer None at e = absurd (no_state (sym (run-none ls) ∙ e))
      by_answer (Some next) at e = record { next = next; at = at; rest = e }

  -- what no step makes larger by more than one
  pub size_run : (size : S → ℕ) → ((st : S) (l : L) (next : S) → step st l ≡ Some next → size next ≤ size st + 1)
      → (st : S) (ls : List L) (last : S) → run step (Some st) ls ≡ Some last → size last ≤ size st + length ls
  size_run size grows st [] last e = let same = ap size (same_state e) in omega (arith, same)
  size_run size grows st (l ∷ ls) last e =
      let first = first_step st l ls last e in
      let grown = grows st l first.next first.at in
      let others = size_run size grows first.next ls last first.rest in
      omega (arith, grown, others)

  -- what each step keeps of the state and the lines so far
  pub kept_by_run : (Holds : S → List L → Type 0)
      → ((st : S) (l : L) (next : S) (so_far : List L) → Holds st so_far → step st l ≡ Some next → Holds next (so_far ++ l ∷ []))
      → (st : S) (ls : List L) (last : S) (so_far : List L) → Holds st so_far → run step (Some st) ls ≡ Some last → Holds last (so_far ++ ls)
  kept_by_run Holds keeps st [] last so_far holds e = subst (λ s. Holds s (so_far ++ [])) (same_state e) (subst (Holds st) (sym (append-nil so_far)) holds)
  kept_by_run Holds keeps st (l ∷ ls) last so_far holds e =
      let first = first_step st l ls last e in
      subst (Holds last) (append_assoc so_far (l ∷ []) ls)
      (kept_by_run Holds keeps first.next ls last (so_far ++ l ∷ []) (keeps st l first.next so_far holds first.at) first.rest)
