-- What the marks say of the Cz that are kept.
use Rattle.std.proofs.Common.{◌≡◌, inl, inr, ℕ, ◌+◌, ◌-◌, ◌*◌, ◌/◌, ◌%◌, ◌^◌, ◌≢◌, ◌<◌, ◌≤◌, true, false, not, ◌&&◌, ◌||◌, eqb, List, [], ◌∷◌, ◌++◌, append_assoc}
use Rattle.std.proofs.Common.{length, take, get_or, set, replicate, refl, sym, ap, ap₂, ◌∙◌, subst, arith}
use Rattle.std.specs.Int.{bit_at, w128}
use Rattle.std.specs.Int.RustNames.{bit_or}
use Rattle.std.specs.List.{filter, list_all, remove}
use Rattle.std.proofs.lemmas.Bool.{cases_Bool, cases_eq, eqb-true, eq-eqb, ne_eqb, and_parts, and_from, or_cases, or_parts, or_left, both_ways}
use Rattle.std.proofs.lemmas.Bool.{not-true, not_from_false, false_from_ne_true}
use Rattle.std.proofs.lemmas.List.{append-nil, get_or-set_same, get_or-set_other, get_or-replicate, take-set, take_more_set}
use Rattle.std.proofs.lemmas.List.Elements.{filter-append, filter_more}
use Rattle.std.proofs.lemmas.Nat.Bits.{bit_at_set_same, bit_at_set_other, bit_at_ones}
use mathlib.Core.Bool.{or_comm}
use Rattle.zx_gates.specs.declared.gate.Gate.{Gate}
use Rattle.zx_gates.specs.declared.gate.Gate.TheVariants.{H, Phase, Cz, Cx, Not}
use Rattle.zx_gates.specs.Circuit.{most_qubits}
use Rattle.zx_peephole.specs.Commuting.{is_on, are_apart, is_diagonal, shares_control, negate_freely, passes, commutes}
use Rattle.zx_peephole.specs.Tidy.{cancels_or_merges}
use Rattle.zx_peephole.specs.declared.chains.Chains.{Chains}
use Rattle.zx_peephole.specs.Internal.Marks.{bars, is_open, has_bit, has_mark, IsMarked, meets_none, IsMarkedBehind, IsMarkedWithout}
use Rattle.zx_peephole.specs.Internal.Chains.{nothing, is_left, gate_at, second_qubit, kept, next_of}
use Rattle.zx_peephole.specs.Internal.Stops.{HasQubitsBelow}
use Rattle.zx_peephole.specs.Internal.Changes.{EndsPair}
use Rattle.zx_peephole.proofs.Cuts.{cut_cases, cut_one, cut_none, all_parts, all_at, all_with, all_weaker}
use Rattle.zx_peephole.proofs.CommutingLemmas.{apart_off, alike}
use Rattle.zx_peephole.proofs.TidyLemmas.{tidy-more}
use Rattle.zx_peephole.proofs.FindingLemmas.{Extends}
use Rattle.zx_peephole.proofs.ChangeLemmas.{remove_at}
use Rattle.zx_peephole.proofs.LeftLemmas.{left-set_nothing, left_cut, left_behind, one_left}

-- ---- rows
-- the row of place i is another one
module _ (marks : List (List ℕ)) (i : ℕ) (row : List ℕ) where
  row_here : i < length marks → (q r : ℕ) → q ≡ i → has_mark (set marks i row) q r ≡ has_bit row r
  row_here within q r same =
      ap (λ m. has_mark (set marks i row) m r) same ∙ ap (λ l. has_bit l r) (get_or-set_same marks i row [] within)

  row_elsewhere : (q r : ℕ) → q ≢ i → has_mark (set marks i row) q r ≡ has_mark marks q r
  row_elsewhere q r differ = ap (λ l. has_bit l r) (get_or-set_other marks i q row [] differ)

-- a row gets the bit of qubit j
abbrev word_with : List ℕ → ℕ → ℕ
word_with row j = bit_or (get_or row (j / 128) 0) (1 * 2 ^ (j % 128) % 2 ^ 128)

abbrev row_with : List ℕ → ℕ → List ℕ
row_with row j = set row (j / 128) (word_with row j)

module _ (row : List ℕ) (j : ℕ) (room : j / 128 < length row) where
  bit_here : has_bit (row_with row j) j ≡ true
  bit_here =
      ap (λ n. eqb (bit_at n (j % 128)) 1) (get_or-set_same row (j / 128) (word_with row j) 0 room)
      ∙ ap (λ d. eqb d 1) (bit_at_set_same w128 (get_or row (j / 128) 0) (j % 128) (omega arith))

  bit_stays : (s : ℕ) → has_bit row s ≡ true → has_bit (row_with row j) s ≡ true
  bit_stays s has =
      elim (cases_eq (s / 128) (j / 128)) [
        | inl same ↦ elim (cases_eq (s % 128) (j % 128)) [
          | inl e ↦ ap₂ (λ m n. eqb (bit_at (get_or (row_with row j) m 0) n) 1) same e ∙ bit_here
          | inr differ ↦
              ap (λ m. eqb (bit_at (get_or (row_with row j) m 0) (s % 128)) 1) same
              ∙ ap (λ n. eqb (bit_at n (s % 128)) 1) (get_or-set_same row (j / 128) (word_with row j) 0 room)
              ∙ ap (λ d. eqb d 1) (bit_at_set_other w128 (get_or row (j / 128) 0) (j % 128) (omega arith) (s % 128) differ)
              ∙ ap (λ m. eqb (bit_at (get_or row m 0) (s % 128)) 1) (sym same) ∙ has
        ]
        | inr differ ↦
            ap (λ n. eqb (bit_at n (s % 128)) 1) (get_or-set_other row (j / 128) (s / 128) (word_with row j) 0 differ) ∙ has
      ]

-- the row of place i gets the mark of qubit j
module _ (marks : List (List ℕ)) (i j : ℕ) (within : i < length marks) (room : j / 128 < length (get_or marks i [])) where
  abbrev more : List (List ℕ)
  more = set marks i (row_with (get_or marks i []) j)

  pub mark_here : (q r : ℕ) → i ≡ q → j ≡ r → has_mark more q r ≡ true
  mark_here q r qubit other =
      ap (has_mark more q) (sym other)
      ∙ row_here marks i (row_with (get_or marks i []) j) within q j (sym qubit)
      ∙ bit_here (get_or marks i []) j room

  pub mark_stays : (p s : ℕ) → has_mark marks p s ≡ true → has_mark more p s ≡ true
  mark_stays p s has =
      elim (cases_eq p i) [
        | inl same ↦ row_here marks i (row_with (get_or marks i []) j) within p s same
            ∙ bit_stays (get_or marks i []) j room s (ap (λ m. has_mark marks m s) (sym same) ∙ has)
        | inr differ ↦ row_elsewhere marks i (row_with (get_or marks i []) j) p s differ ∙ has
      ]

-- the qubit that a gate bars is its second, the target of Cx
bar_second : (q : ℕ) (g : Gate) → bars q g ≡ true → second_qubit g ≡ q
bar_second q (H p) bar = eqb-true p q bar
bar_second q (Not p) bar = eqb-true p q bar
bar_second q (Cx c t) bar = eqb-true t q bar
bar_second q (Phase p k) bar = absurd (let h : false ≡ true = bar in cc)
bar_second q (Cz p r) bar = absurd (let h : false ≡ true = bar in cc)

-- all marks of it are set
abbrev all_ones : List ℕ
all_ones = replicate 8 (2 ^ 128 - 1)

pub marks_opened : (marks : List (List ℕ)) (i : ℕ) (g : Gate) → i < length marks → i ≡ second_qubit g
    → IsMarkedWithout marks (set marks i all_ones) g
marks_opened marks i g within place = record {
  stays = λ q r few has. elim (cases_eq q i) [
    | inl same ↦ all q r few same
    | inr differ ↦ row_elsewhere marks i all_ones q r differ ∙ has
  ];
  opens = λ q r few bar. all q r few (sym (bar_second q g bar) ∙ sym place);
}
  where
    all : (q r : ℕ) → r < most_qubits → q ≡ i → has_mark (set marks i all_ones) q r ≡ true
    all q r few same =
        row_here marks i all_ones within q r same
        ∙ ap (λ n. eqb (bit_at n (r % 128)) 1) (get_or-replicate 8 (r / 128) (2 ^ 128 - 1) 0 (omega (arith, few)))
        ∙ ap (λ d. eqb d 1) (bit_at_ones 128 (r % 128) (omega arith))

-- a diagonal gate bars none
diagonal_open : (q : ℕ) (g : Gate) → is_diagonal g ≡ true → is_open q g ≡ true
diagonal_open q (H p) diagonal = absurd (let h : false ≡ true = diagonal in cc)
diagonal_open q (Not p) diagonal = absurd (let h : false ≡ true = diagonal in cc)
diagonal_open q (Cx c t) diagonal = absurd (let h : false ≡ true = diagonal in cc)
diagonal_open q (Phase p k) diagonal = refl
diagonal_open q (Cz p r) diagonal = refl

pub marks_stay : (marks : List (List ℕ)) (g : Gate) → is_diagonal g ≡ true → IsMarkedWithout marks marks g
marks_stay marks g diagonal = record {
  stays = λ q r few has. has;
  opens = λ q r few bar. absurd (both_ways (bars q g) (not-true (bars q g) (diagonal_open q g diagonal)) bar);
}

-- ---- no Cz passes a gate that bars it
off_open : (q : ℕ) (g : Gate) → is_on q g ≡ false → is_open q g ≡ true
off_open q (H p) off = not_from_false (eqb p q) off
off_open q (Not p) off = not_from_false (eqb p q) off
off_open q (Cx c t) off = not_from_false (eqb t q) (or_parts (eqb c q) (eqb t q) off).1
off_open q (Phase p k) off = refl
off_open q (Cz p r) off = refl

control_open : (q r : ℕ) (g : Gate) → shares_control (Cz q r) g ≡ true → is_open q g ≡ true
control_open q r (Cx c t) shared =
    let off = and_parts (is_on c (Cz q r)) (not (is_on t (Cz q r))) shared in
    let apart = or_parts (eqb q t) (eqb r t) (not-true (is_on t (Cz q r)) off.1) in
    not_from_false (eqb t q) (ne_eqb t q (λ e. both_ways (eqb q t) apart.0 (eq-eqb q t (sym e))))
control_open q r g shared = absurd (let h : false ≡ true = shared in cc)

no_negation : (q r : ℕ) (g : Gate) → negate_freely g (Cz q r) ≡ false
no_negation q r (H p) = refl
no_negation q r (Phase p k) = refl
no_negation q r (Cz p s) = refl
no_negation q r (Cx c t) = refl
no_negation q r (Not p) = refl

cz_passes : (q r : ℕ) (g : Gate) → passes (Cz q r) g ≡ true → is_open q g ≡ true
cz_passes q r g passed =
    elim (or_cases (are_apart (Cz q r) g || (is_diagonal g || shares_control (Cz q r) g)) false passed) [
      | inl some ↦ elim (or_cases (are_apart (Cz q r) g) (is_diagonal g || shares_control (Cz q r) g) some) [
        | inl apart ↦ off_open q g (apart_off (Cz q r) g apart q (or_left (eqb q q) (eqb r q) (eq-eqb q q refl)))
        | inr both ↦ elim (or_cases (is_diagonal g) (shares_control (Cz q r) g) both) [
          | inl diagonal ↦ diagonal_open q g diagonal
          | inr shared ↦ control_open q r g shared
        ]
      ]
      | inr never ↦ absurd (let h : false ≡ true = never in cc)
    ]

passes_cz : (q r : ℕ) (g : Gate) → passes g (Cz q r) ≡ true → is_open q g ≡ true
passes_cz q r g passed =
    elim (or_cases (are_apart g (Cz q r) || (is_diagonal g && true)) (negate_freely g (Cz q r)) passed) [
      | inl some ↦ elim (or_cases (are_apart g (Cz q r)) (is_diagonal g && true) some) [
        | inl apart ↦ off_open q g (false_from_ne_true (is_on q g)
            (λ on. both_ways (is_on q (Cz q r)) (apart_off g (Cz q r) apart q on) (or_left (eqb q q) (eqb r q) (eq-eqb q q refl))))
        | inr both ↦ diagonal_open q g (and_parts (is_diagonal g) true both).0
      ]
      | inr free ↦ absurd (both_ways (negate_freely g (Cz q r)) (no_negation q r g) free)
    ]

-- nor does a gate that is a pair with a Cz
passes_open : (q r : ℕ) (first g : Gate) → cancels_or_merges first (Cz q r) ≡ true → commutes first g ≡ true → is_open q g ≡ true
passes_open q r first g pair passed =
    elim (or_cases (passes (Cz q r) g) (passes g (Cz q r)) (sym (alike first (Cz q r) pair g) ∙ passed)) [
      | inl one ↦ cz_passes q r g one
      | inr other ↦ passes_cz q r g other
    ]

either_order : (q r : ℕ) (first : Gate) → cancels_or_merges first (Cz q r) ≡ true → cancels_or_merges first (Cz r q) ≡ true
either_order q r (Cz s t) pair = or_comm (eqb s r && eqb t q) (eqb s q && eqb t r) ∙ pair
either_order q r first pair = absurd (let h : false ≡ true = pair in cc)

-- ---- a Cz that lacks a mark
module _ (marks : List (List ℕ)) (gates : List Gate) (m : IsMarked marks gates) where
  pair_marked : (q r : ℕ) (g : Gate) (i : ℕ) (e : EndsPair gates g i) → r < most_qubits
      → cancels_or_merges e.first (Cz q r) ≡ true → has_mark marks q r ≡ true
  pair_marked q r g i e few pair =
      m.marked q r e.before e.between e.first few e.cut pair
      (all_weaker (commutes e.first) (is_open q) (λ x passed. passes_open q r e.first x pair passed) e.between e.commute)

  no_pair : (q r : ℕ) → HasQubitsBelow most_qubits (Cz q r) → meets_none marks (Cz q r) ≡ true → (i : ℕ)
      → EndsPair gates (Cz q r) i → ⊥
  no_pair q r few none i e =
      both_ways (has_mark marks q r && has_mark marks r q) (not-true (has_mark marks q r && has_mark marks r q) none)
      (and_from (has_mark marks q r) (has_mark marks r q) (pair_marked q r (Cz q r) i e few.second e.merge)
      (pair_marked r q (Cz q r) i e few.first (either_order q r e.first e.merge)))

  pub unmet_extends : (g : Gate) → HasQubitsBelow most_qubits g → meets_none marks g ≡ true → Extends gates g
  unmet_extends (Cz q r) few none = tidy-more gates (Cz q r) (no_pair q r few none)
      (λ i j e. let h : Cz q r ≡ H e.qubit = e.is in cc)
  unmet_extends g few none = absurd (let h : false ≡ true = none in cc)

-- ---- one more gate, and one less
pub marked_more : (old new : List (List ℕ)) (gates : List Gate) (g : Gate) → IsMarked old gates → IsMarkedBehind old new g
    → IsMarked new (gates ++ g ∷ [])
marked_more old new gates g m b = record {
  marked = λ q r before between first few cut pair clear. elim (cut_cases gates (g ∷ []) before between first cut) [
    | inl c ↦ b.stays q r (not-true (bars q g) (all_at (is_open q) between c.rest [] g c.second clear))
        (m.marked q r before c.rest first few c.first pair
        (all_parts (is_open q) c.rest (g ∷ []) (ap (list_all (is_open q)) (sym c.second) ∙ clear)).0)
    | inr c ↦ b.comes q r (ap (λ x. cancels_or_merges x (Cz q r)) (cut_one g first c.rest between c.second).1 ∙ pair)
  ];
}

pub marked_less : (old new : List (List ℕ)) (xs ys : List Gate) (g : Gate) → IsMarked old (xs ++ g ∷ ys)
    → IsMarkedWithout old new g → IsMarked new (xs ++ ys)
marked_less old new xs ys g m b = record {
  marked = λ q r before between first few cut pair clear. elim (cut_cases xs ys before between first cut) [
    | inl c ↦ elim (cases_Bool (bars q g)) [
      | inl bar ↦ b.opens q r few bar
      | inr free ↦ b.stays q r few (m.marked q r before (c.rest ++ g ∷ ys) first few
          (ap (λ zs. zs ++ g ∷ ys) c.first ∙ simp append_assoc) pair
          (all_with (is_open q) c.rest ys g (ap (list_all (is_open q)) (sym c.second) ∙ clear)
          (not_from_false (bars q g) free)))
    ]
    | inr c ↦ b.stays q r few (m.marked q r (xs ++ g ∷ c.rest) between first few
        (ap (λ zs. xs ++ g ∷ zs) c.second ∙ simp append_assoc) pair clear)
  ];
}

marked_same : (a b : List (List ℕ)) (xs ys : List Gate) → a ≡ b → xs ≡ ys → IsMarked b ys → IsMarked a xs
marked_same a b xs ys e f m = subst (λ (l : List (List ℕ)). IsMarked l xs) (sym e) (subst (IsMarked b) (sym f) m)

-- ---- the list that is being tidied
pub marked_begun : (w : Chains) → w.next ≡ 0 → IsMarked w.marks.items (kept w)
marked_begun w next = record {
  marked = λ q r before between first few cut.
      absurd (cut_none first before between (sym (ap (λ n. filter is_left (take n w.gates.items)) next) ∙ cut));
}

pub marked_kept : (old w : Chains) → IsMarked old.marks.items (kept old) → old.next < length old.gates.items
    → is_left (next_of old) ≡ true → IsMarkedBehind old.marks.items w.marks.items (next_of old) → w.gates ≡ old.gates
    → w.next ≡ old.next + 1 → IsMarked w.marks.items (kept w)
marked_kept old w m more left b gates next =
    subst (IsMarked w.marks.items)
    (sym (ap₂ (λ n v. filter is_left (take n v.items)) next gates
    ∙ filter_more is_left old.gates.items old.next nothing more
    ∙ ap (λ xs. kept old ++ xs) (one_left (is_left (next_of old)) (next_of old) [] left)))
    (marked_more old.marks.items w.marks.items (kept old) (next_of old) m b)

pub marked_removed : (old w : Chains) (i : ℕ) → IsMarked old.marks.items (kept old) → i < old.next
    → old.next ≤ length old.gates.items → is_left (gate_at old.gates.items i) ≡ true
    → IsMarkedWithout old.marks.items w.marks.items (gate_at old.gates.items i)
    → w.gates.items ≡ set old.gates.items i nothing → w.next ≡ old.next → IsMarked w.marks.items (kept w)
marked_removed old w i m before within left b gates next =
    subst (IsMarked w.marks.items) (sym gone)
    (marked_less old.marks.items w.marks.items front (left_behind old.gates.items i old.next) (gate_at old.gates.items i)
    (subst (IsMarked old.marks.items) cut m) b)
  where
    front : List Gate
    front = filter is_left (take i old.gates.items)

    cut : kept old ≡ front ++ gate_at old.gates.items i ∷ left_behind old.gates.items i old.next
    cut = left_cut old.gates.items i old.next before within left

    gone : kept w ≡ front ++ left_behind old.gates.items i old.next
    gone =
        ap₂ (λ n xs. filter is_left (take n xs)) next gates
        ∙ left-set_nothing old.gates.items i old.next before within left
        ∙ ap (λ xs. remove xs (length front)) cut
        ∙ remove_at front (left_behind old.gates.items i old.next) (gate_at old.gates.items i) (length front) refl

-- the next gate is another one
pub marked_written : (old w : Chains) (g : Gate) → IsMarked old.marks.items (kept old)
    → w.gates.items ≡ set old.gates.items old.next g → w.marks.items ≡ old.marks.items → w.next ≡ old.next → IsMarked w.marks.items (kept w)
marked_written old w g m gates marks next =
    marked_same w.marks.items old.marks.items (kept w) (kept old) marks
    (ap₂ (λ n xs. filter is_left (take n xs)) next gates ∙ ap (filter is_left) (take-set old.gates.items old.next g)) m

-- or nothing is left of it
pub marked_passed : (old w : Chains) → IsMarked old.marks.items (kept old) → old.next < length old.gates.items
    → w.gates.items ≡ set old.gates.items old.next nothing → w.marks.items ≡ old.marks.items → w.next ≡ old.next + 1
    → IsMarked w.marks.items (kept w)
marked_passed old w m more gates marks next =
    marked_same w.marks.items old.marks.items (kept w) (kept old) marks
    (ap₂ (λ n xs. filter is_left (take n xs)) next gates
    ∙ ap (filter is_left) (take_more_set old.gates.items old.next nothing more)
    ∙ filter-append is_left (take old.next old.gates.items) (nothing ∷ [])
    ∙ append-nil (filter is_left (take old.next old.gates.items))) m
