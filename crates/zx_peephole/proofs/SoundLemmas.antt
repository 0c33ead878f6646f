-- What keeps a list sound while it is tidied.
use Rattle.std.proofs.Common.{◌≡◌, ◌≢◌, ◌⊎◌, inl, inr, ℕ, ◌+◌, ◌<◌, ◌≤◌, true, false, cond, ◌&&◌, eqb, List, length}
use Rattle.std.proofs.Common.{get_or, set, replicate, refl, sym, ap, ap₂, ◌∙◌, subst, arith}
use Rattle.std.proofs.lemmas.Bool.{cases_eq, cases_lt, cases_Bool, eq-eqb, ne_eqb, and_parts, and_from, or_left, or_right, both_ways, not_from_false}
use Rattle.std.proofs.lemmas.List.Elements.{All-filter, All-from_get_or, filter_passes}
use Rattle.std.proofs.lemmas.List.Sums.{length-filter, count_by-le-length}
use Rattle.std.specs.List.{filter}
use Rattle.std.proofs.lemmas.List.{take_all, get_or-set_same, get_or-set_other, get_or-replicate, get_or_past, length-set, length-replicate}
use Rattle.zx_gates.specs.declared.gate.Gate.{Gate}
use Rattle.zx_gates.specs.declared.gate.Gate.TheVariants.{H, Phase, Cz, Cx, Not}
use Rattle.zx_gates.specs.declared.gate_list.Links.{Links}
use Rattle.zx_gates.specs.Circuit.{most_qubits, IsGateOn, HasRoom, circuit_of}
use Rattle.zx_peephole.specs.Commuting.{is_on}
use Rattle.zx_peephole.specs.declared.chains.Chains.{Chains}
use Rattle.zx_peephole.specs.Internal.Chains.{nothing, is_left, gate_at, IsOn, no_links, link_of, link_at, IsChain, Without}
use Rattle.zx_peephole.specs.Internal.Chains.{first_qubit, second_qubit, IsSound, IsLeftAt, kept, IsUnlinked}
use Rattle.zx_peephole.specs.Internal.Chains.{IsUnlinkedFromAll}
use Rattle.zx_peephole.specs.Internal.Marks.{IsMarked, IsMarkedBehind, IsMarkedWithout}
use Rattle.zx_peephole.proofs.MarkLemmas.{marked_begun, marked_kept, marked_removed, marked_written, marked_passed}
use Rattle.zx_peephole.proofs.ChainLemmas.{chain-same, chain-more, chain-past, on_second}

-- a gate's qubits are the first and the second
pub on_cases : (q : ℕ) (g : Gate) → is_on q g ≡ true → (q ≡ first_qubit g) ⊎ (q ≡ second_qubit g)
on_cases q g on =
    elim (cases_eq (first_qubit g) q) [
      | inl same ↦ inl (sym same)
      | inr differ ↦ inr (sym (on_second q g on (ne_eqb (first_qubit g) q differ)))
    ]

pub first_on : (g : Gate) → is_on (first_qubit g) g ≡ true
first_on (H q) = eq-eqb q q refl
first_on (Phase q k) = eq-eqb q q refl
first_on (Not q) = eq-eqb q q refl
first_on (Cz q r) = or_left (eqb q q) (eqb r q) (eq-eqb q q refl)
first_on (Cx q r) = or_left (eqb q q) (eqb r q) (eq-eqb q q refl)

pub second_on : (g : Gate) → is_on (second_qubit g) g ≡ true
second_on (H q) = eq-eqb q q refl
second_on (Phase q k) = eq-eqb q q refl
second_on (Not q) = eq-eqb q q refl
second_on (Cz q r) = or_right (eqb q r) (eqb r r) (eq-eqb r r refl)
second_on (Cx q r) = or_right (eqb q r) (eqb r r) (eq-eqb r r refl)

-- a gate on the qubits is one that is left
pub left_on : (n : ℕ) (g : Gate) → IsGateOn n g → is_left g ≡ true
left_on n (Phase q k) on = not_from_false (eqb k 0) (ne_eqb k 0 on.0.1)
left_on n (H q) on = refl
left_on n (Not q) on = refl
left_on n (Cz q r) on = refl
left_on n (Cx q r) on = refl

on_of : (gates : List Gate) (q i : ℕ) → IsOn gates q i → is_on q (gate_at gates i) ≡ true
on_of gates q i on = (and_parts (is_left (gate_at gates i)) (is_on q (gate_at gates i)) on).1

-- ---- a gate leaves its chains
module _ (old new : Chains) (i f : ℕ) (sound : IsSound old) (u : IsUnlinked old new i f) where
  other_chain : (q : ℕ) → q < most_qubits → q ≢ f → (IsOn old.gates.items q i → ⊥)
      → IsChain (Without i (IsOn old.gates.items q)) (link_at old.gates.items new.links.items q) (get_or new.last.items q 0) old.next
  other_chain q few differ off =
      subst (λ (n : ℕ). IsChain (Without i (IsOn old.gates.items q)) (link_at old.gates.items new.links.items q) n old.next)
      (sym (u.last q differ))
      (chain-same (IsOn old.gates.items q) (Without i (IsOn old.gates.items q)) (link_at old.gates.items old.links.items q)
      (link_at old.gates.items new.links.items q) (get_or old.last.items q 0) old.next
      (λ j below on. (on, λ e. off (subst (IsOn old.gates.items q) e on))) (λ j below on. on.0)
      (λ j below on. u.links q j differ on) (sound.chains q few))

  -- its one qubit
  pub unlinked_one : f ≡ first_qubit (gate_at old.gates.items i) → f ≡ second_qubit (gate_at old.gates.items i)
      → IsUnlinkedFromAll old new i
  unlinked_one first second = record {
    same = u.same;
    room = u.room;
    table = u.table;
    chains = λ q few. elim (cases_eq f q) [
      | inl same ↦ subst (λ (p : ℕ). IsChain (Without i (IsOn old.gates.items p)) (link_at old.gates.items new.links.items p)
          (get_or new.last.items p 0) old.next) same u.chain
      | inr differ ↦ other_chain q few (λ e. differ (sym e))
          (λ on. elim (on_cases q (gate_at old.gates.items i) (on_of old.gates.items q i on)) [
            | inl e ↦ differ (first ∙ sym e)
            | inr e ↦ differ (second ∙ sym e)
          ])
    ];
  }

  -- and a second one
  pub unlinked_two : (last : Chains) (s : ℕ) → IsUnlinked new last i s → s ≢ f → f ≡ first_qubit (gate_at old.gates.items i)
      → s ≡ second_qubit (gate_at old.gates.items i) → IsUnlinkedFromAll old last i
  unlinked_two last s v apart first second = record {
    same = then.same;
    room = then.room ∙ u.room;
    table = then.table ∙ u.table;
    chains = λ q few. elim (cases_eq s q) [
      | inl same ↦ subst (λ (p : ℕ). IsChain (Without i (IsOn old.gates.items p)) (link_at old.gates.items last.links.items p)
          (get_or last.last.items p 0) old.next) same then.chain
      | inr other ↦ later q (λ e. other (sym e)) (elim (cases_eq f q) [
        | inl same ↦ subst (λ (p : ℕ). IsChain (Without i (IsOn old.gates.items p)) (link_at old.gates.items new.links.items p)
            (get_or new.last.items p 0) old.next) same u.chain
        | inr differ ↦ other_chain q few (λ e. differ (sym e))
            (λ on. elim (on_cases q (gate_at old.gates.items i) (on_of old.gates.items q i on)) [
              | inl e ↦ differ (first ∙ sym e)
              | inr e ↦ other (second ∙ sym e)
            ])
      ])
    ];
  }
    where
      then : IsUnlinked (record old { links = new.links; last = new.last }) last i s
      then = subst (λ (w : Chains). IsUnlinked w last i s) u.same v

      later : (q : ℕ) → q ≢ s
          → IsChain (Without i (IsOn old.gates.items q)) (link_at old.gates.items new.links.items q) (get_or new.last.items q 0) old.next
          → IsChain (Without i (IsOn old.gates.items q)) (link_at old.gates.items last.links.items q) (get_or last.last.items q 0) old.next
      later q differ chain =
          subst (λ (n : ℕ). IsChain (Without i (IsOn old.gates.items q)) (link_at old.gates.items last.links.items q) n old.next)
          (sym (then.last q differ))
          (chain-same (Without i (IsOn old.gates.items q)) (Without i (IsOn old.gates.items q))
          (link_at old.gates.items new.links.items q) (link_at old.gates.items last.links.items q) (get_or new.last.items q 0) old.next
          (λ j below on. on) (λ j below on. on) (λ j below on. then.links q j differ on.0) chain)

-- ---- a place is written
module _ (gates : List Gate) (links : List Links) (i : ℕ) (g : Gate) (q last next : ℕ) where
  there : (j : ℕ) → j ≢ i → gate_at (set gates i g) j ≡ gate_at gates j
  there j differ = get_or-set_other gates i j g nothing differ

  -- the gate there was in no chain, and is in none yet
  pub chain_unread : next ≤ i → IsChain (IsOn gates q) (link_at gates links q) last next
      → IsChain (IsOn (set gates i g) q) (link_at (set gates i g) links q) last next
  chain_unread unread chain =
      chain-same (IsOn gates q) (IsOn (set gates i g) q) (link_at gates links q) (link_at (set gates i g) links q) last next
      (λ j below on. subst (λ (h : Gate). (is_left h && is_on q h) ≡ true) (sym (there j (λ e. absurd (omega arith)))) on)
      (λ j below on. subst (λ (h : Gate). (is_left h && is_on q h) ≡ true) (there j (λ e. absurd (omega arith))) on)
      (λ j below on. ap (λ (h : Gate). link_of q h (get_or links j no_links)) (there j (λ e. absurd (omega arith))))
      chain

  -- the gate there is gone
  pub chain_gone : i < length gates → g ≡ nothing → IsChain (Without i (IsOn gates q)) (link_at gates links q) last next
      → IsChain (IsOn (set gates i g) q) (link_at (set gates i g) links q) last next
  chain_gone within gone chain =
      chain-same (Without i (IsOn gates q)) (IsOn (set gates i g) q) (link_at gates links q) (link_at (set gates i g) links q)
      last next
      (λ j below on. subst (λ (h : Gate). (is_left h && is_on q h) ≡ true) (sym (there j on.1)) on.0)
      (λ j below on. (subst (λ (h : Gate). (is_left h && is_on q h) ≡ true) (there j (apart j on)) on, apart j on))
      (λ j below on. ap (λ (h : Gate). link_of q h (get_or links j no_links)) (there j on.1))
      chain
    where
      apart : (j : ℕ) → IsOn (set gates i g) q j → j ≢ i
      apart j on e =
          both_ways (is_left nothing && is_on q nothing) refl
          (subst (λ (h : Gate). (is_left h && is_on q h) ≡ true)
          (ap (gate_at (set gates i g)) e ∙ get_or-set_same gates i g nothing within ∙ gone) on)

-- ---- the list stays sound
-- a place is written, and the chains are as they are to be
pub sound_set : (old w : Chains) (i : ℕ) (g : Gate) → IsSound old → w.qubits ≡ old.qubits → old.next ≤ w.next
    → w.next ≤ length old.gates.items → i < length old.gates.items
    → w.gates.items ≡ set old.gates.items i g → length w.links.items ≡ length old.links.items
    → length w.last.items ≡ length old.last.items → length w.marks.items ≡ length old.marks.items
    → (is_left g ≡ true → IsGateOn old.qubits g) → (w.next ≤ i → is_left g ≡ true)
    → ((q : ℕ) → q < most_qubits → IsChain (IsOn (set old.gates.items i g) q) (link_at (set old.gates.items i g) w.links.items q)
    (get_or w.last.items q 0) w.next)
    → IsMarked w.marks.items (kept w) → IsSound w
sound_set old w i g sound qubits more within inside gates room table rows on unread chains marks = record {
  places = record {
    linked = omega (arith, qubits, table, sound.places.linked);
    marked = omega (arith, qubits, rows, sound.places.marked);
    within = omega (arith, size, within);
    few_gates = omega (arith, size, sound.places.few_gates);
    enough = omega (arith, size, room, sound.places.enough);
  };
  chains = λ q few.
      subst (λ (xs : List Gate). IsChain (IsOn xs q) (link_at xs w.links.items q) (get_or w.last.items q 0) w.next) (sym gates)
      (chains q few);
  marks = marks;
  few_qubits = omega (arith, qubits, sound.few_qubits);
  on_qubits = λ j below left.
      subst (λ (n : ℕ). IsGateOn n (gate_at w.gates.items j)) (sym qubits)
      (elim (cases_eq j i) [
        | inl same ↦ subst (IsGateOn old.qubits) (sym (here j same)) (on (ap is_left (sym (here j same)) ∙ left))
        | inr differ ↦ subst (IsGateOn old.qubits) (sym (elsewhere j differ))
            (sound.on_qubits j (omega (arith, size)) (ap is_left (sym (elsewhere j differ)) ∙ left))
      ]);
  unread = λ j past below. elim (cases_eq j i) [
    | inl same ↦ ap is_left (here j same) ∙ unread (omega arith)
    | inr differ ↦ ap is_left (elsewhere j differ) ∙ sound.unread j (omega arith) (omega (arith, size))
  ];
}
  where
    size : length w.gates.items ≡ length old.gates.items
    size = ap length gates ∙ length-set old.gates.items i g

    here : (j : ℕ) → j ≡ i → gate_at w.gates.items j ≡ g
    here j same = ap₂ gate_at gates same ∙ get_or-set_same old.gates.items i g nothing inside

    elsewhere : (j : ℕ) → j ≢ i → gate_at w.gates.items j ≡ gate_at old.gates.items j
    elsewhere j differ = ap (λ xs. gate_at xs j) gates ∙ get_or-set_other old.gates.items i j g nothing differ

-- a gate is gone
pub sound_removed : (old new : Chains) (i : ℕ) (g : Gate) (w : Chains) → g ≡ nothing → IsSound old → IsLeftAt old i
    → IsUnlinkedFromAll old new i → w.gates.items ≡ set new.gates.items i g → w.qubits ≡ new.qubits → w.links ≡ new.links
    → w.last ≡ new.last → w.next ≡ new.next → length w.marks.items ≡ length new.marks.items
    → IsMarkedWithout new.marks.items w.marks.items (gate_at old.gates.items i) → IsSound w
sound_removed old new i g w gone sound kept u gates qubits links last next rows marks =
    sound_set old w i g sound (qubits ∙ ap (λ (v : Chains). v.qubits) u.same) (omega (arith, same_next))
    (omega (arith, same_next, sound.places.within)) inside
    same_gates (ap (λ l. length l.items) links ∙ u.room)
    (ap (λ l. length l.items) last ∙ u.table) (rows ∙ ap (λ (v : Chains). length v.marks.items) u.same)
    (λ left. absurd (both_ways (is_left nothing) refl (ap is_left (sym gone) ∙ left)))
    (λ past. absurd (omega (arith, same_next, kept.before)))
    (λ q few. subst (λ (n : ℕ). IsChain (IsOn (set old.gates.items i g) q) (link_at (set old.gates.items i g) w.links.items q)
    (get_or w.last.items q 0) n) (sym same_next)
    (chain_gone old.gates.items w.links.items i g q (get_or w.last.items q 0) old.next inside gone
    (subst (λ (l : List ℕ). IsChain (Without i (IsOn old.gates.items q)) (link_at old.gates.items w.links.items q) (get_or l q 0) old.next)
    (sym (ap (λ l. l.items) last)) (subst (λ (l : List Links). IsChain (Without i (IsOn old.gates.items q)) (link_at old.gates.items l q) (get_or new.last.items q 0) old.next)
    (sym (ap (λ l. l.items) links)) (u.chains q few)))))
    (marked_removed old w i sound.marks kept.before sound.places.within kept.left
    (subst (λ (l : List (List ℕ)). IsMarkedWithout l w.marks.items (gate_at old.gates.items i))
    (ap (λ (v : Chains). v.marks.items) u.same) marks)
    (same_gates ∙ ap (set old.gates.items i) gone) same_next)
  where
    same_gates : w.gates.items ≡ set old.gates.items i g
    same_gates = gates ∙ ap (λ (v : Chains). set v.gates.items i g) u.same

    inside : i < length old.gates.items
    inside = omega (arith, kept.before, sound.places.within)

    same_next : w.next ≡ old.next
    same_next = next ∙ ap (λ (v : Chains). v.next) u.same

-- another gate is to be read next
pub sound_written : (old w : Chains) (g : Gate) → IsSound old → old.next < length old.gates.items → IsGateOn old.qubits g
    → is_left g ≡ true → w.gates.items ≡ set old.gates.items old.next g → w.qubits ≡ old.qubits → w.links ≡ old.links
    → w.last ≡ old.last → w.next ≡ old.next → w.marks ≡ old.marks → IsSound w
sound_written old w g sound more on left gates qubits links last next marks =
    sound_set old w old.next g sound qubits (omega (arith, next)) (omega (arith, next, more)) more gates
    (ap (λ l. length l.items) links) (ap (λ l. length l.items) last) (ap (λ l. length l.items) marks) (λ is. on) (λ past. left)
    (λ q few. subst (λ (n : ℕ). IsChain (IsOn (set old.gates.items old.next g) q) (link_at (set old.gates.items old.next g) w.links.items q)
    (get_or w.last.items q 0) n) (sym next)
    (chain_unread old.gates.items w.links.items old.next g q (get_or w.last.items q 0) old.next (omega arith)
    (subst (λ (l : List ℕ). IsChain (IsOn old.gates.items q) (link_at old.gates.items w.links.items q) (get_or l q 0) old.next)
    (sym (ap (λ l. l.items) last)) (subst (λ (l : List Links). IsChain (IsOn old.gates.items q) (link_at old.gates.items l q) (get_or old.last.items q 0) old.next)
    (sym (ap (λ l. l.items) links)) (sound.chains q few)))))
    (marked_written old w g sound.marks gates (ap (λ l. l.items) marks) next)

-- nothing is left of the next gate
pub sound_passed : (old w : Chains) (g : Gate) → g ≡ nothing → IsSound old → old.next < length old.gates.items
    → w.gates.items ≡ set old.gates.items old.next g → w.qubits ≡ old.qubits → w.links ≡ old.links
    → w.last ≡ old.last → w.next ≡ old.next + 1 → w.marks ≡ old.marks → IsSound w
sound_passed old w g gone sound more gates qubits links last next marks =
    sound_set old w old.next g sound qubits (omega (arith, next)) (omega (arith, next, more)) more gates
    (ap (λ l. length l.items) links) (ap (λ l. length l.items) last) (ap (λ l. length l.items) marks)
    (λ left. absurd (both_ways (is_left nothing) refl (ap is_left (sym gone) ∙ left)))
    (λ past. absurd (omega (arith, next)))
    (λ q few. subst (λ (n : ℕ). IsChain (IsOn (set old.gates.items old.next g) q) (link_at (set old.gates.items old.next g) w.links.items q)
    (get_or w.last.items q 0) n) (sym next)
    (chain-past (IsOn (set old.gates.items old.next g) q) (link_at (set old.gates.items old.next g) w.links.items q)
    (link_at (set old.gates.items old.next g) w.links.items q) (get_or w.last.items q 0) old.next (off q) (λ j below on. refl)
    (chain_unread old.gates.items w.links.items old.next g q (get_or w.last.items q 0) old.next (omega arith)
    (subst (λ (l : List ℕ). IsChain (IsOn old.gates.items q) (link_at old.gates.items w.links.items q) (get_or l q 0) old.next)
    (sym (ap (λ l. l.items) last)) (subst (λ (l : List Links). IsChain (IsOn old.gates.items q) (link_at old.gates.items l q) (get_or old.last.items q 0) old.next)
    (sym (ap (λ l. l.items) links)) (sound.chains q few))))))
    (marked_passed old w sound.marks more (gates ∙ ap (set old.gates.items old.next) gone) (ap (λ l. l.items) marks) next)
  where
    off : (q : ℕ) → IsOn (set old.gates.items old.next g) q old.next → ⊥
    off q on =
        both_ways (is_left nothing && is_on q nothing) refl
        (subst (λ (h : Gate). (is_left h && is_on q h) ≡ true)
        (get_or-set_same old.gates.items old.next g nothing more ∙ gone) on)

-- the qubits of a gate are below their number
pub first_below : (n : ℕ) (g : Gate) → IsGateOn n g → first_qubit g < n
first_below n (H q) on = on.0
first_below n (Phase q k) on = on.0.0
first_below n (Not q) on = on.0
first_below n (Cz q r) on = on.0.0
first_below n (Cx q r) on = on.0.0

pub second_below : (n : ℕ) (g : Gate) → IsGateOn n g → second_qubit g < n
second_below n (H q) on = on.0
second_below n (Phase q k) on = on.0.0
second_below n (Not q) on = on.0
second_below n (Cz q r) on = on.0.1
second_below n (Cx q r) on = on.0.1

-- so there is a link for each of the qubits of the next gate
module _ (w : Chains) (sound : IsSound w) (more : w.next < length w.gates.items) where
  on_next : IsGateOn w.qubits (gate_at w.gates.items w.next)
  on_next = sound.on_qubits w.next more (sound.unread w.next (omega arith) more)

  pub first_linked : (f : ℕ) → f ≡ first_qubit (gate_at w.gates.items w.next) → f < length w.last.items
  first_linked f is = omega (arith, is, first_below w.qubits (gate_at w.gates.items w.next) on_next, sound.places.linked)

  pub second_linked : (s : ℕ) → s ≡ second_qubit (gate_at w.gates.items w.next) → s < length w.last.items
  second_linked s is = omega (arith, is, second_below w.qubits (gate_at w.gates.items w.next) on_next, sound.places.linked)

-- the next gate is kept
pub sound_kept : (old : Chains) (f s : ℕ) (l : Links) (w : Chains) → IsSound old → old.next < length old.gates.items
    → f ≡ first_qubit (gate_at old.gates.items old.next) → s ≡ second_qubit (gate_at old.gates.items old.next)
    → l.first ≡ get_or old.last.items f 0 → l.second ≡ get_or old.last.items s 0
    → w.gates ≡ old.gates → w.qubits ≡ old.qubits → w.links.items ≡ set old.links.items old.next l
    → w.last.items ≡ set (set old.last.items f (old.next + 1)) s (old.next + 1) → w.next ≡ old.next + 1
    → length w.marks.items ≡ length old.marks.items
    → IsMarkedBehind old.marks.items w.marks.items (gate_at old.gates.items old.next) → IsSound w
sound_kept old f s l w sound more f_is s_is first second gates qubits links last next rows marks = record {
  places = record {
    linked = omega (
      arith,
      qubits,
      ap length last,
      length-set (set old.last.items f (old.next + 1)) s (old.next + 1),
      length-set old.last.items f (old.next + 1),
      sound.places.linked,
    );
    marked = omega (arith, qubits, rows, sound.places.marked);
    within = omega (arith, size, next, more);
    few_gates = omega (arith, size, sound.places.few_gates);
    enough = omega (arith, size, ap length links, length-set old.links.items old.next l, sound.places.enough);
  };
  chains = λ q few.
      subst (λ (xs : List Gate). IsChain (IsOn xs q) (link_at xs w.links.items q) (get_or w.last.items q 0) w.next) (sym (ap (λ v. v.items) gates))
      (subst (λ (n : ℕ). IsChain (IsOn old.gates.items q) (link_at old.gates.items w.links.items q) (get_or w.last.items q 0) n) (sym next)
      (elim (cases_Bool (is_on q g)) [ inl on ↦ linked q few on | inr off ↦ passed q few off ]));
  marks = marked_kept old w sound.marks more (sound.unread old.next (omega arith) more) marks gates next;
  few_qubits = omega (arith, qubits, sound.few_qubits);
  on_qubits = subst (λ (n : ℕ). (j : ℕ) → j < length w.gates.items → is_left (gate_at w.gates.items j) ≡ true
      → IsGateOn n (gate_at w.gates.items j)) (sym qubits)
      (subst (λ (xs : List Gate). (j : ℕ) → j < length xs → is_left (gate_at xs j) ≡ true → IsGateOn old.qubits (gate_at xs j))
      (sym (ap (λ v. v.items) gates)) sound.on_qubits);
  unread = λ j past below. ap (λ v. is_left (gate_at v.items j)) gates
      ∙ sound.unread j (omega (arith, next)) (omega (arith, size));
}
  where
    g : Gate
    g = gate_at old.gates.items old.next

    f_below : f < length old.last.items
    f_below = first_linked old sound more f f_is

    s_below : s < length old.last.items
    s_below = second_linked old sound more s s_is

    size : length w.gates.items ≡ length old.gates.items
    size = ap (λ v. length v.items) gates

    room : old.next < length old.links.items
    room = omega (arith, more, sound.places.enough)

    -- the links of the gates before it
    same : (q j : ℕ) → j < old.next → link_at old.gates.items w.links.items q j ≡ link_at old.gates.items old.links.items q j
    same q j before = ap (λ (k : Links). link_of q (gate_at old.gates.items j) k)
        (ap (λ k. get_or k j no_links) links
        ∙ get_or-set_other old.links.items old.next j l no_links (λ e. absurd (omega arith)))

    here : (q : ℕ) → link_at old.gates.items w.links.items q old.next ≡ link_of q g l
    here q = ap (λ (k : Links). link_of q g k)
        (ap (λ k. get_or k old.next no_links) links ∙ get_or-set_same old.links.items old.next l no_links room)

    link_is : (q : ℕ) → is_on q g ≡ true → link_of q g l ≡ get_or old.last.items q 0
    link_is q on =
        elim (cases_eq (first_qubit g) q) [
          | inl e ↦ ap (λ b. cond b l.first l.second) (eq-eqb (first_qubit g) q e) ∙ first
              ∙ ap (λ p. get_or old.last.items p 0) (f_is ∙ e)
          | inr differ ↦ ap (λ b. cond b l.first l.second) (ne_eqb (first_qubit g) q differ) ∙ second
              ∙ ap (λ p. get_or old.last.items p 0) (s_is ∙ on_second q g on (ne_eqb (first_qubit g) q differ))
        ]

    last_on : (q : ℕ) → q < most_qubits → is_on q g ≡ true → get_or w.last.items q 0 ≡ old.next + 1
    last_on q few on =
        ap (λ k. get_or k q 0) last
        ∙ elim (cases_eq q s) [
          | inl e ↦ ap (λ p. get_or (set (set old.last.items f (old.next + 1)) s (old.next + 1)) p 0) e
              ∙ get_or-set_same (set old.last.items f (old.next + 1)) s (old.next + 1) 0
              (omega (arith, length-set old.last.items f (old.next + 1), s_below))
          | inr other ↦ get_or-set_other (set old.last.items f (old.next + 1)) s q (old.next + 1) 0 other
              ∙ ap (λ p. get_or (set old.last.items f (old.next + 1)) p 0) (elim (on_cases q g on) [
                | inl e ↦ e ∙ sym f_is
                | inr e ↦ absurd (other (e ∙ sym s_is))
              ])
              ∙ get_or-set_same old.last.items f (old.next + 1) 0 f_below
        ]

    linked : (q : ℕ) → q < most_qubits → is_on q g ≡ true
        → IsChain (IsOn old.gates.items q) (link_at old.gates.items w.links.items q) (get_or w.last.items q 0) (old.next + 1)
    linked q few on =
        subst (λ (n : ℕ). IsChain (IsOn old.gates.items q) (link_at old.gates.items w.links.items q) n (old.next + 1))
        (sym (last_on q few on))
        (chain-more (IsOn old.gates.items q) (link_at old.gates.items old.links.items q) (link_at old.gates.items w.links.items q)
        (get_or old.last.items q 0) old.next (and_from (is_left g) (is_on q g) (sound.unread old.next (omega arith) more) on)
        (λ j before at. same q j before) (here q ∙ link_is q on) (sound.chains q few))

    passed : (q : ℕ) → q < most_qubits → is_on q g ≡ false
        → IsChain (IsOn old.gates.items q) (link_at old.gates.items w.links.items q) (get_or w.last.items q 0) (old.next + 1)
    passed q few off =
        subst (λ (n : ℕ). IsChain (IsOn old.gates.items q) (link_at old.gates.items w.links.items q) n (old.next + 1))
        (sym (ap (λ k. get_or k q 0) last
        ∙ get_or-set_other (set old.last.items f (old.next + 1)) s q (old.next + 1) 0 (λ e. both_ways (is_on q g) off (ap (λ p. is_on p g) (e ∙ s_is) ∙ second_on g))
        ∙ get_or-set_other old.last.items f q (old.next + 1) 0 (λ e. both_ways (is_on q g) off (ap (λ p. is_on p g) (e ∙ f_is) ∙ first_on g))))
        (chain-past (IsOn old.gates.items q) (link_at old.gates.items old.links.items q) (link_at old.gates.items w.links.items q)
        (get_or old.last.items q 0) old.next (λ on. both_ways (is_on q g) off (on_of old.gates.items q old.next on))
        (λ j before at. same q j before) (sound.chains q few))

-- ---- at the start
-- no gate is read
pub sound_begun : (w : Chains) (n : ℕ) → HasRoom (circuit_of w.qubits w.gates.items) (length w.links.items)
    (length w.last.items) (length w.marks.items) → 0 < length w.gates.items → w.last.items ≡ replicate n 0 → w.next ≡ 0
    → IsSound w
sound_begun w n room some last next = record {
  places = record {
    linked = room.linked some;
    marked = room.marked some;
    within = omega (arith, next);
    few_gates = room.few_gates;
    enough = room.enough;
  };
  chains = λ q few. record {
    last_of = record {
      within = omega (arith, first q few);
      behind = λ j above below. absurd (omega (arith, next));
      there = λ j e. absurd (omega (arith, first q few));
    };
    links = λ i before. absurd (omega (arith, next));
  };
  marks = marked_begun w next;
  few_qubits = room.circuit.few_qubits;
  on_qubits = λ i below left. room.circuit.on_qubits i nothing below;
  unread = λ i past below. left_on w.qubits (gate_at w.gates.items i) (room.circuit.on_qubits i nothing below);
}
  where
    first : (q : ℕ) → q < most_qubits → get_or w.last.items q 0 ≡ 0
    first q few = ap (λ l. get_or l q 0) last ∙ elim (cases_lt q n) [
      | inl below ↦ get_or-replicate n q 0 0 below
      | inr past ↦ get_or_past (replicate n 0) q 0 (omega (arith, past, length-replicate {A = ℕ} n 0))
    ]

-- ---- at the end
-- all are read, and those that are left are a circuit
pub sound_ended : (w : Chains) (gates : List Gate) → IsSound w → gates ≡ filter is_left w.gates.items
    → HasRoom (circuit_of w.qubits gates) (length w.links.items) (length w.last.items) (length w.marks.items)
sound_ended w gates sound is = record {
  circuit = record {
    few_qubits = sound.few_qubits;
    on_qubits = λ i d below.
        let left : is_left (get_or gates i d) ≡ true =
        ap (λ xs. is_left (get_or xs i d)) is ∙ filter_passes is_left w.gates.items i d (subst (λ (n : ℕ). i < n) (ap length is) below) in
        let on : is_left (get_or gates i d) ≡ true → IsGateOn w.qubits (get_or gates i d) =
        subst (λ (xs : List Gate). is_left (get_or xs i d) ≡ true → IsGateOn w.qubits (get_or xs i d)) (sym is)
        (All-filter is_left (λ g. is_left g ≡ true → IsGateOn w.qubits g) w.gates.items
        (All-from_get_or (λ g. is_left g ≡ true → IsGateOn w.qubits g) w.gates.items nothing sound.on_qubits)
        i d (subst (λ (n : ℕ). i < n) (ap length is) below)) in
        on left;
  };
  few_gates = omega (arith, shorter, sound.places.few_gates);
  enough = omega (arith, shorter, sound.places.enough);
  linked = λ some. sound.places.linked;
  marked = λ some. sound.places.marked;
}
  where
    shorter : length gates ≤ length w.gates.items
    shorter = omega (arith, ap length is, length-filter is_left w.gates.items, count_by-le-length is_left w.gates.items)

-- all that are left are kept
pub kept_all : (w : Chains) → length w.gates.items ≤ w.next → kept w ≡ filter is_left w.gates.items
kept_all w all = ap (filter is_left) (take_all w.next w.gates.items all)
