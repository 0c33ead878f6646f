-- The steps of a move, done one after the other, and moves one after the other.
use Rattle.std.proofs.Common.{◌≡◌, refl, sym, ◌∙◌, ap, subst, ℕ, suc, ◌+◌, ◌*◌, ◌<◌, ◌≤◌, true, List, [], ◌∷◌, ◌++◌, length, map, take, drop, get_or, append_assoc, length-append, add-zero, drop-cons, arith}
use Rattle.std.proofs.Math.Seq.{take-suc}
use Rattle.std.proofs.lemmas.List.{append-nil, length-map, map-append}
use Rattle.zx_calculus.specs.Graph.{Graph, WellFormed}
use Rattle.zx_calculus.specs.Steps.{allowed, IsStep, IsRun}
use Rattle.gflow_laws.specs.Flow.{Correction, IsFlow}
use Rattle.gflow_laws.specs.Kept.{IsKept}
use Rattle.gflow_laws.proofs.Steps.{run_keeps}
use Rattle.zx_moves.specs.declared.moves.Move.{Move}
use Rattle.graph_rewrites.specs.declared.step.Step.{Step}
use Rattle.graph_rewrites.specs.Steps.{step_named}
use Rattle.zx_moves.specs.Search.{AppliesAt, IsOfFirstKind}
use Rattle.zx_moves.specs.Moving.{AreMoves, most_moves, GainsMoves, GainsRun}
use Rattle.zx_moves.specs.Internal.Planning.{AreAllowed, GainsMove}
use Rattle.zx_moves.proofs.MoveRuns.{IsRun-append, AreMoves-snoc, AreMoves-run, length-AreMoves, ends-run}
use Rattle.zx_moves.proofs.MoveCounts.{AreMoves-few}

-- of these steps so many are done, from g to k, and the others can be done
pub record IsUnderWay (g : Graph) (steps : List Step) (done : ℕ) (k : Graph) (before after : List Step) : Type 0 where
  pub run : IsRun g (map step_named (take done steps)) k
  pub left : AreAllowed k (map step_named (drop done steps))
  pub trace : after ≡ before ++ take done steps

pub begun : (g : Graph) (steps before : List Step) → AreAllowed g (map step_named steps) →
    IsUnderWay g steps 0 g before before
begun g steps before left = record { run = refl; left = left; trace = sym (append-nil before) }

pub next_left : (steps : List Step) (i : ℕ) (k : Graph) (step : Step) →
    AreAllowed k (map step_named (drop i steps)) → i < length steps → step ≡ get_or steps i step →
    AreAllowed k (step_named step ∷ map step_named (drop (suc i) steps))
next_left steps i k step left within is =
    subst (λ (rest : List Step). AreAllowed k (map step_named rest))
    (drop-cons steps i step within ∙ ap (λ (s : Step). s ∷ drop (suc i) steps) (sym is)) left

-- the next can be done
pub next_allowed : {g k : Graph} {steps before after : List Step} {i : ℕ} (step : Step) →
    IsUnderWay g steps i k before after → i < length steps → step ≡ get_or steps i step →
    allowed k (step_named step) ≡ true
next_allowed {k = k} {steps = steps} {i = i} step way within is = (next_left steps i k step way.left within is).0

pub next_done : {g k h : Graph} {steps before after more : List Step} {i : ℕ} (step : Step) →
    IsUnderWay g steps i k before after → i < length steps → step ≡ get_or steps i step →
    IsStep k (step_named step) h → more ≡ after ++ step ∷ [] → IsUnderWay g steps (suc i) h before more
next_done {g} {k} {h} {steps} {before} {after} {more} {i} step way within is done adds =
    let longer : take (suc i) steps ≡ take i steps ++ step ∷ [] =
    take-suc steps i step within ∙ ap (λ (s : Step). take i steps ++ s ∷ []) (sym is) in
    record {
      run = subst (λ s. IsRun g s h)
          (sym (ap (map step_named) longer ∙ map-append step_named (take i steps) (step ∷ [])))
          (IsRun-append g (map step_named (take i steps)) (step_named step ∷ []) k h way.run (h, done, refl));
      left = (next_left steps i k step way.left within is).1 h done;
      trace = adds ∙ ap (λ (s : List Step). s ++ step ∷ []) way.trace
          ∙ append_assoc before (take i steps) (step ∷ []) ∙ ap (λ (s : List Step). before ++ s) (sym longer);
    }

pub gains_none : (g : Graph) (before : List Step) (start : ℕ) → GainsMoves g g before before start start
gains_none g before start = record {
  gained = [];
  count = 0;
  trace = sym (append-nil before);
  counter = sym (add-zero start);
  moves = (refl, refl);
}

counted_on : (start now later n : ℕ) → now ≡ start + n → later ≡ now + 1 → later ≡ start + (n + 1)
counted_on start now later n e f = omega arith

pub gains_more : {g k h : Graph} {m : Move} {before after more : List Step} {start now ticked : ℕ} →
    GainsMoves g k before after start now → AppliesAt k m → IsOfFirstKind k m → GainsMove k m h after more →
    ticked ≡ now + 1 → GainsMoves g h before more start ticked
gains_more {g} {k} {h} {m} {before = before} {start = start} {now = now} {ticked = ticked} gains applies first one tick =
    record {
      gained = gains.gained ++ one.gained;
      count = gains.count + 1;
      trace = one.trace ∙ ap (λ (s : List Step). s ++ one.gained) gains.trace
          ∙ append_assoc before gains.gained one.gained;
      counter = counted_on start now ticked gains.count gains.counter tick;
      moves = subst (λ s. AreMoves g (gains.count + 1) s h)
          (sym (map-append step_named gains.gained one.gained ∙ ap (λ s. map step_named gains.gained ++ s) one.planned))
          (AreMoves-snoc g gains.count (map step_named gains.gained) k m h gains.moves
          (record { applies = applies; first = first; run = one.run }));
    }

few_more : (start now n most left : ℕ) → now ≡ start + n → n + left ≤ most → now ≤ start + most
few_more start now n most left e f = omega arith

six_each : (start now n old new gained : ℕ) → now ≡ start + n → new ≡ old + gained → gained ≤ 6 * n →
    new + 6 * start ≤ old + 6 * now
six_each start now n old new gained e f l = omega arith

module _ {g h : Graph} {before after : List Step} {start now : ℕ} (gains : GainsMoves g h before after start now) where
  pub gained_run : GainsRun g h before after
  gained_run = record {
    gained = gains.gained;
    trace = gains.trace;
    run = AreMoves-run g gains.count (map step_named gains.gained) h gains.moves;
  }

  pub gained_few_moves : WellFormed g → now ≤ start + most_moves g
  gained_few_moves w =
      few_more start now gains.count (most_moves g) (most_moves h) gains.counter
      (AreMoves-few g gains.count (map step_named gains.gained) h w gains.moves)

  pub gained_few_steps : length after + 6 * start ≤ length before + 6 * now
  gained_few_steps =
      six_each start now gains.count (length before) (length after) (length gains.gained) gains.counter
      (ap length gains.trace ∙ length-append before gains.gained)
      (subst (λ n. n ≤ 6 * gains.count) (length-map gains.gained step_named)
      (length-AreMoves g gains.count (map step_named gains.gained) h gains.moves))

  pub gained_ends : (length h.inputs ≡ length g.inputs) × (length h.outputs ≡ length g.outputs)
  gained_ends =
      ends-run g (map step_named gains.gained) h
      (AreMoves-run g gains.count (map step_named gains.gained) h gains.moves)

  pub gained_keeps : (table : List Correction) → WellFormed g → IsFlow g table → IsKept g h
  gained_keeps table w flow =
      run_keeps g (map step_named gains.gained) h table w
      (AreMoves-run g gains.count (map step_named gains.gained) h gains.moves) flow

-- moves that are counted once all of them are made
pub counted_later : {g h : Graph} {before after : List Step} {start now moves : ℕ} → now ≡ start + moves →
    GainsMoves g h before after 0 moves → GainsMoves g h before after start now
counted_later {start = start} {now = now} {moves = moves} tick gains = record {
  gained = gains.gained;
  count = gains.count;
  trace = gains.trace;
  counter = in_all start now moves gains.count tick gains.counter;
  moves = gains.moves;
}
  where
    in_all : (start now moves n : ℕ) → now ≡ start + moves → moves ≡ 0 + n → now ≡ start + n
    in_all start now moves n e f = omega (arith, e, f)
