-- What each step of the cleanup comes to.
use Rattle.std.proofs.Common.{◌≡◌, inl, inr, ℕ, ◌+◌, ◌*◌, ◌<◌, ◌≤◌, true, false, cond, List, [], ◌∷◌}
use Rattle.std.proofs.Common.{◌++◌, append_assoc, length, get_or, take, drop, set, sym, ap, ap₂, ◌∙◌, subst, arith}
use Rattle.std.specs.List.{filter, remove}
use Rattle.std.proofs.lemmas.Bool.{cases_eq, eq-eqb, ne_eqb}
use Rattle.std.proofs.lemmas.List.{append-nil, length-append, length-set, take-set, take_more_set, drop-set, drop-set-lt}
use Rattle.std.proofs.lemmas.List.{drop_more, take-set-le, get_or-set_other, get_or_at, drop_all}
use Rattle.std.proofs.lemmas.List.Elements.{filter-append, filter_more}
use Rattle.zx_model.specs.Phase.{sum_of_phases}
use Rattle.zx_gates.specs.declared.gate.Gate.{Gate}
use Rattle.zx_gates.specs.declared.gate.Gate.TheVariants.{H, Phase, Not}
use Rattle.zx_gates.specs.Circuit.{IsGateOn, IsOnQubits}
use Rattle.zx_peephole.specs.Tidy.{is_turned}
use Rattle.zx_peephole.specs.declared.chains.Chains.{Chains}
use Rattle.zx_peephole.specs.Internal.Merging.{merged, doublings, conjugated}
use Rattle.zx_peephole.specs.Internal.Chains.{nothing, is_left, gate_at, kept, left_before, next_of, all_left, IsReading, IsLeftAt}
use Rattle.zx_peephole.specs.Internal.Changes.{IsPairAt, IsTripleAt, Shortens, IsAdvance}
use Rattle.zx_peephole.proofs.FindingLemmas.{Extends}
use Rattle.zx_peephole.proofs.LeftLemmas.{left-set_nothing, left_at, one_left, read_at}
use Rattle.zx_peephole.proofs.ChangeLemmas.{Brings, kept_brings, pair_brings, triple_brings, one_less, two_less}

-- ---- what gates become is on the same qubits
pub merged_on : (n : ℕ) (g h x : Gate) → IsGateOn n h → x ∷ [] ≡ merged g h → IsGateOn n x
merged_on n (Phase q j) (Phase r k) x on one =
    elim (cases_eq (sum_of_phases j k) 0) [
      | inl none ↦ absurd (let h : x ∷ [] ≡ [] = one ∙ ap (λ b. cond b [] (Phase r (sum_of_phases j k) ∷ [])) (eq-eqb (sum_of_phases j k) 0 none) in cc)
      | inr some ↦
          let h : x ∷ [] ≡ Phase r (sum_of_phases j k) ∷ [] = one ∙ ap (λ b. cond b [] (Phase r (sum_of_phases j k) ∷ [])) (ne_eqb (sum_of_phases j k) 0 some) in
          let same : Phase r (sum_of_phases j k) ≡ x = cc in
          subst (IsGateOn n) same ((on.0.0, some), omega arith)
    ]
merged_on n g h x on one = absurd (let h : x ∷ [] ≡ [] = one in cc)

pub conjugated_on : (n q : ℕ) (g : Gate) → is_turned q g ≡ true → IsGateOn n g → IsGateOn n (conjugated g)
conjugated_on n q (Phase p k) turned on = (on.0.0, tt)
conjugated_on n q (Not p) turned on = ((on.0, omega arith), omega arith)
conjugated_on n q g turned on = absurd (let h : false ≡ true = turned in cc)

-- ---- a step
module _ (old : Chains) (reading : IsReading old) (w : Chains) (qubits : w.qubits ≡ old.qubits) where
  reads : drop old.next old.gates.items ≡ next_of old ∷ drop (old.next + 1) old.gates.items
  reads = drop_more old.gates.items old.next nothing reading.more

  by_brings : (power : ℕ) → length w.gates.items ≡ length old.gates.items
      → Brings old.qubits power (kept old) (next_of old ∷ drop (old.next + 1) old.gates.items) (kept w) (drop w.next w.gates.items)
      → length (kept w) + 2 * old.next < length (kept old) + 2 * w.next → IsAdvance old power w
  by_brings power as_long b closer = record {
    qubits = qubits;
    shortened = subst (λ (xs : List Gate). Shortens old.qubits power (kept old ++ xs) (all_left w)) (sym reads) b.shortened;
    tidy = b.tidy;
    as_long = as_long;
    closer = closer;
  }

  -- the next gate is kept
  pub keeps : w.gates ≡ old.gates → w.next ≡ old.next + 1 → Extends (kept old) (next_of old) → IsAdvance old 0 w
  keeps gates next more =
      by_brings 0 (ap (λ v. length v.items) gates)
      (kept_brings old.qubits (kept old) (next_of old) (drop (old.next + 1) old.gates.items) (kept w) (drop w.next w.gates.items)
      more_kept (ap₂ (λ n v. drop n v.items) next gates) more)
      (omega (arith, next, ap length more_kept, length-append (kept old) (next_of old ∷ [])))
    where
      more_kept : kept w ≡ kept old ++ next_of old ∷ []
      more_kept =
          ap₂ (λ n v. filter is_left (take n v.items)) next gates
          ∙ filter_more is_left old.gates.items old.next nothing reading.more
          ∙ ap (λ xs. kept old ++ xs) (one_left (is_left (next_of old)) (next_of old) []
          (reading.sound.unread old.next (omega arith) reading.more))

  -- a gate at place i is gone, and x is written for the next gate
  module _ (i : ℕ) (is_kept : IsLeftAt old i) (x : Gate) (gates : w.gates.items ≡ set (set old.gates.items i nothing) old.next x) where
    as_long : length w.gates.items ≡ length old.gates.items
    as_long = ap length gates ∙ length-set (set old.gates.items i nothing) old.next x ∙ length-set old.gates.items i nothing

    within : old.next < length (set old.gates.items i nothing)
    within = omega (arith, length-set old.gates.items i nothing, reading.more)

    front_gone : filter is_left (take old.next (set old.gates.items i nothing)) ≡ remove (kept old) (left_before old i)
    front_gone = left-set_nothing old.gates.items i old.next is_kept.before reading.sound.places.within is_kept.left

    rest_stays : drop (old.next + 1) (set old.gates.items i nothing) ≡ drop (old.next + 1) old.gates.items
    rest_stays = drop-set-lt (old.next + 1) old.gates.items i nothing (omega (arith, is_kept.before))

  module _ (i : ℕ) (p : IsPairAt old i) (a b : Gate) (a_read : a ≡ get_or old.gates.items i a)
      (b_read : b ≡ get_or old.gates.items old.next b) where
    inside : i < length old.gates.items
    inside = omega (arith, p.first.before, reading.more)

    first_is : gate_at old.gates.items i ≡ p.pair.first
    first_is =
        sym (left_at old.gates.items i old.next nothing p.first.before reading.sound.places.within p.first.left)
        ∙ ap (λ xs. get_or xs (left_before old i) nothing) p.pair.cut
        ∙ get_or_at p.pair.before p.pair.first p.pair.between nothing (left_before old i) p.pair.at

    same_first : a ≡ p.pair.first
    same_first = read_at old.gates.items i a inside a_read ∙ first_is

    becomes : merged a b ≡ merged p.pair.first (next_of old)
    becomes = ap₂ merged same_first (read_at old.gates.items old.next b reading.more b_read)

    on : IsOnQubits old.qubits p.pair.first
    on = (subst (IsGateOn old.qubits) first_is (reading.sound.on_qubits i inside p.first.left)).0

    -- what is left in front stays but for the first, and what both come to stands before the others
    pair_gone : (power : ℕ) → power ≡ doublings a → (x : Gate) → w.gates.items ≡ set (set old.gates.items i nothing) old.next x
        → old.next ≤ w.next → kept w ≡ filter is_left (take old.next (set old.gates.items i nothing))
        → drop w.next w.gates.items ≡ merged a b ++ drop (old.next + 1) old.gates.items → IsAdvance old power w
    pair_gone power is x gates onward front rest =
        subst (λ (k : ℕ). IsAdvance old k w) (sym (is ∙ ap doublings same_first))
        (by_brings (doublings p.pair.first) (as_long i p.first x gates)
        (pair_brings old.qubits (kept old) (next_of old) (drop (old.next + 1) old.gates.items) (kept w) (drop w.next w.gates.items)
        (left_before old i) p.pair on less (rest ∙ ap (λ xs. xs ++ drop (old.next + 1) old.gates.items) becomes))
        (omega (arith, onward, ap length less, one_less (kept old) (next_of old) (left_before old i) p.pair)))
      where
        less : kept w ≡ remove (kept old) (left_before old i)
        less = front ∙ front_gone i p.first x gates

    pub pair_one : (power : ℕ) → power ≡ doublings a → (x : Gate) → x ∷ [] ≡ merged a b → w.gates.items ≡ set (set old.gates.items i nothing) old.next x
        → w.next ≡ old.next → IsAdvance old power w
    pair_one power is x one gates next =
        pair_gone power is x gates (omega (arith, next))
        (ap₂ (λ n xs. filter is_left (take n xs)) next gates
        ∙ ap (filter is_left) (take-set (set old.gates.items i nothing) old.next x))
        (ap₂ drop next gates
        ∙ drop-set (set old.gates.items i nothing) old.next x (within i p.first x gates)
        ∙ ap (λ xs. x ∷ xs) (rest_stays i p.first x gates)
        ∙ ap (λ xs. xs ++ drop (old.next + 1) old.gates.items) one)

    pub pair_none : (power : ℕ) → power ≡ doublings a → [] ≡ merged a b → w.gates.items ≡ set (set old.gates.items i nothing) old.next nothing
        → w.next ≡ old.next + 1 → IsAdvance old power w
    pair_none power is none gates next =
        pair_gone power is nothing gates (omega (arith, next))
        (ap₂ (λ n xs. filter is_left (take n xs)) next gates
        ∙ ap (filter is_left) (take_more_set (set old.gates.items i nothing) old.next nothing (within i p.first nothing gates))
        ∙ filter-append is_left (take old.next (set old.gates.items i nothing)) (nothing ∷ [])
        ∙ append-nil (filter is_left (take old.next (set old.gates.items i nothing))))
        (ap₂ drop next gates
        ∙ drop-set-lt (old.next + 1) (set old.gates.items i nothing) old.next nothing (omega arith)
        ∙ rest_stays i p.first nothing gates
        ∙ ap (λ xs. xs ++ drop (old.next + 1) old.gates.items) none)

  -- two gates are gone, and the one of them that stood later is turned over
  module _ (i j : ℕ) (t : IsTripleAt old i j) (g : Gate) (g_read : g ≡ get_or old.gates.items j g) where
    inside_middle : j < length old.gates.items
    inside_middle = omega (arith, t.middle.before, reading.more)

    inside_first : i < length old.gates.items
    inside_first = omega (arith, t.first.before, reading.more)

    pub middle_is : g ≡ t.triple.middle
    middle_is =
        read_at old.gates.items j g inside_middle g_read
        ∙ sym (left_at old.gates.items j old.next nothing t.middle.before reading.sound.places.within t.middle.left)
        ∙ ap (λ xs. get_or xs (left_before old j) nothing) (t.triple.cut ∙ simp append_assoc)
        ∙ get_or_at (t.triple.before ++ H t.triple.qubit ∷ t.triple.left) t.triple.middle t.triple.right nothing (left_before old j)
        (omega (arith, length-append t.triple.before (H t.triple.qubit ∷ t.triple.left), t.triple.at_first, t.triple.at_middle))

    pub middle_on : IsGateOn old.qubits g
    middle_on = subst (IsGateOn old.qubits) (sym (read_at old.gates.items j g inside_middle g_read))
        (reading.sound.on_qubits j inside_middle t.middle.left)

    first_hadamard : gate_at old.gates.items i ≡ H t.triple.qubit
    first_hadamard =
        sym (left_at old.gates.items i old.next nothing t.first.before reading.sound.places.within t.first.left)
        ∙ ap (λ xs. get_or xs (left_before old i) nothing) t.triple.cut
        ∙ get_or_at t.triple.before (H t.triple.qubit) (t.triple.left ++ t.triple.middle ∷ t.triple.right) nothing (left_before old i)
        t.triple.at_first

    pub qubit_on : t.triple.qubit < old.qubits
    qubit_on = (subst (IsGateOn old.qubits) first_hadamard (reading.sound.on_qubits i inside_first t.first.left)).0

    pub turned_one : (x : Gate) → x ≡ conjugated g
        → w.gates.items ≡ set (set (set old.gates.items j nothing) i nothing) old.next x → w.next ≡ old.next → IsAdvance old 1 w
    turned_one x x_is gates next =
        by_brings 1 (ap length gates ∙ length-set two old.next x ∙ length-set one i nothing ∙ length-set old.gates.items j nothing)
        (triple_brings old.qubits (kept old) (next_of old) (drop (old.next + 1) old.gates.items) (kept w) (drop w.next w.gates.items)
        (left_before old i) (left_before old j) t.triple qubit_on less
        (ap₂ drop next gates
        ∙ drop-set two old.next x (omega (arith, length-set one i nothing, length-set old.gates.items j nothing, reading.more))
        ∙ ap (λ xs. x ∷ xs) (drop-set-lt (old.next + 1) one i nothing (omega (arith, t.first.before))
        ∙ drop-set-lt (old.next + 1) old.gates.items j nothing (omega (arith, t.middle.before)))
        ∙ ap (λ y. y ∷ drop (old.next + 1) old.gates.items) (x_is ∙ ap conjugated middle_is)))
        (omega (arith, next, ap length less, two_less (kept old) (next_of old) (left_before old i) (left_before old j) t.triple))
      where
        one : List Gate
        one = set old.gates.items j nothing

        two : List Gate
        two = set (set old.gates.items j nothing) i nothing

        less : kept w ≡ remove (remove (kept old) (left_before old j)) (left_before old i)
        less =
            ap₂ (λ n xs. filter is_left (take n xs)) next gates
            ∙ ap (filter is_left) (take-set two old.next x)
            ∙ left-set_nothing one i old.next t.first.before (omega (arith, length-set old.gates.items j nothing, reading.more))
            (ap is_left (get_or-set_other old.gates.items j i nothing nothing (λ e. absurd (omega (arith, t.order)))) ∙ t.first.left)
            ∙ ap₂ (λ xs ys. remove xs (length (filter is_left ys)))
            (left-set_nothing old.gates.items j old.next t.middle.before reading.sound.places.within t.middle.left)
            (take-set-le i old.gates.items j nothing (omega (arith, t.order)))

-- ---- at the start, and at the end
pub kept_none : (w : Chains) → w.next ≡ 0 → kept w ≡ []
kept_none w none = ap (λ n. filter is_left (take n w.gates.items)) none

pub left_first : (w : Chains) → w.next ≡ 0 → all_left w ≡ w.gates.items
left_first w none = ap₂ (λ xs n. xs ++ drop n w.gates.items) (kept_none w none) none

pub left_last : (w : Chains) → length w.gates.items ≤ w.next → all_left w ≡ kept w
left_last w all = ap (λ xs. kept w ++ xs) (drop_all w.next w.gates.items all) ∙ append-nil (kept w)
