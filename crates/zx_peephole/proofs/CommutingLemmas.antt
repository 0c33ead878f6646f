-- Gates that commute by the table: their maps commute, so a gate passes each list of gates that it commutes with.
use Rattle.std.proofs.Common.{◌≡◌, ◌≢◌, inl, inr, ℕ, Bool, true, false, not, ◌&&◌, ◌||◌, eqb, List, [], ◌∷◌, refl, sym, ap, ap₂, ◌∙◌, subst}
use Rattle.std.specs.List.{list_all}
use Rattle.std.proofs.lemmas.Bool.{eqb-true, eq-eqb, or_cases, or_left, and_parts, not-true, not_from_false, false_from_ne_true, both_ways}
use mathlib.Core.Bool.{and_comm, or_comm}
use Rattle.zx_model.specs.Phase.{half_turn}
use Rattle.zx_model.specs.Number.{Number}
use Rattle.zx_model.specs.Bits.{xor, bit}
use Rattle.zx_model.proofs.Ring.{mul_left_comm}
use Rattle.zx_model.specs.Number.{mul}
use Rattle.zx_gates.specs.Maps.{act, acts}
use Rattle.zx_gates.specs.declared.gate.Gate.{Gate}
use Rattle.zx_gates.specs.declared.gate.Gate.TheVariants.{H, Phase, Cz, Cx, Not}
use Rattle.zx_peephole.specs.Commuting.{is_on, are_apart, is_diagonal, shares_control, negate_freely, passes, commutes}
use Rattle.zx_peephole.specs.Tidy.{cancels_or_merges, is_off, is_turned}
use Rattle.zx_peephole.proofs.Acting.{Spreads, Scales, spread, spread-spread, spreads, scales, negated, negated-negated, act-not, bit-blind, true-blind}

-- ---- maps of two gates
-- the maps of two gates commute
abbrev pub Commute : Gate → Gate → Type 0
Commute g h = (f : List Bool → Number) → act g (act h f) ≡ act h (act g f)

-- no qubit is shared
off_one : (q p : ℕ) (h : Gate) → not (is_on p h) ≡ true → eqb p q ≡ true → is_on q h ≡ false
off_one q p h off same = ap (λ r. is_on r h) (sym (eqb-true p q same)) ∙ not-true (is_on p h) off

off_two : (q p r : ℕ) (h : Gate) → (not (is_on p h) && not (is_on r h)) ≡ true → (eqb p q || eqb r q) ≡ true → is_on q h ≡ false
off_two q p r h off same =
    let each = and_parts (not (is_on p h)) (not (is_on r h)) off in
    elim (or_cases (eqb p q) (eqb r q) same) [ inl e ↦ off_one q p h each.0 e | inr e ↦ off_one q r h each.1 e ]

pub apart_off : (g h : Gate) → are_apart g h ≡ true → (q : ℕ) → is_on q g ≡ true → is_on q h ≡ false
apart_off (H p) h apart q on = off_one q p h apart on
apart_off (Phase p k) h apart q on = off_one q p h apart on
apart_off (Not p) h apart q on = off_one q p h apart on
apart_off (Cz p r) h apart q on = off_two q p r h apart on
apart_off (Cx p r) h apart q on = off_two q p r h apart on

apart_commute : (g h : Gate) → are_apart g h ≡ true → Commute g h
apart_commute g h apart f = λ i x. at x i
  where
    first : Spreads g
    first = spreads g

    second : Spreads h
    second = spreads h

    second_off : is_on first.place h ≡ false
    second_off = apart_off g h apart first.place first.on

    first_off : is_on second.place g ≡ false
    first_off = false_from_ne_true (is_on second.place g) (λ on. both_ways (is_on second.place h) (apart_off g h apart second.place on) second.on)

    differ : first.place ≢ second.place
    differ e = both_ways (is_on second.place g) first_off (subst (λ p. is_on p g ≡ true) e first.on)

    at : (x : List Bool) → act g (act h f) x ≡ act h (act g f) x
    at x =
        first.is (act h f) x
        ∙ ap (λ (k : List Bool → Number). spread first.weight first.place k x) (λ i z. second.is f z i)
        ∙ spread-spread first.weight second.weight first.place second.place differ (first.unseen second.place first_off) (second.unseen first.place second_off) f x
        ∙ sym (second.is (act g f) x ∙ ap (λ (k : List Bool → Number). spread second.weight second.place k x) (λ i z. first.is f z i))

-- both are diagonal
diagonal_commute : (g h : Gate) → is_diagonal g ≡ true → is_diagonal h ≡ true → Commute g h
diagonal_commute g h diagonal also f = λ i x. at x i
  where
    first : Scales g
    first = scales g diagonal

    second : Scales h
    second = scales h also

    at : (x : List Bool) → act g (act h f) x ≡ act h (act g f) x
    at x =
        first.is (act h f) x
        ∙ ap (mul (first.factor x)) (second.is f x)
        ∙ mul_left_comm (first.factor x) (second.factor x) (f x)
        ∙ sym (second.is (act g f) x ∙ ap (mul (second.factor x)) (first.is f x))

-- a diagonal gate and a Cx whose target it isn't on
control_commute : (g h : Gate) → is_diagonal g ≡ true → shares_control g h ≡ true → Commute g h
control_commute g (Cx control target) diagonal shared f = λ i x. at x i
  where
    gate : Scales g
    gate = scales g diagonal

    off : is_on target g ≡ false
    off = not-true (is_on target g) (and_parts (is_on control g) (not (is_on target g)) shared).1

    at : (x : List Bool) → act g (act (Cx control target) f) x ≡ act (Cx control target) (act g f) x
    at x =
        let y : List Bool = negated (λ z. bit z control) target x in
        gate.is (act (Cx control target) f) x
        ∙ ap (λ s. mul s (f y)) (sym (gate.unseen target off x (xor (bit x control) (bit x target))))
        ∙ sym (gate.is f y)
control_commute g other diagonal shared f = absurd (let h : false ≡ true = shared in cc)

-- both negate
negate_commute : (g h : Gate) → negate_freely g h ≡ true → Commute g h
negate_commute (Cx c t) (Cx d u) free f =
    let each = and_parts (not (eqb t d)) (not (eqb u c)) free in
    λ i x. f (negated-negated (λ y. bit y c) (λ y. bit y d) t u (bit-blind c u (not-true (eqb u c) each.1)) (bit-blind d t (not-true (eqb t d) each.0)) x i)
negate_commute (Not q) (Cx c t) free f = λ i x. at x i
  where
    each : (eqb q t ≡ true) × (not (eqb q c) ≡ true)
    each = and_parts (eqb q t) (not (eqb q c)) free

    at : (x : List Bool) → act (Not q) (act (Cx c t) f) x ≡ act (Cx c t) (act (Not q) f) x
    at x =
        act-not q (act (Cx c t) f) x
        ∙ ap f (negated-negated (λ y. true) (λ y. bit y c) q t (true-blind t) (bit-blind c q (not-true (eqb q c) each.1)) x)
        ∙ sym (act-not q f (negated (λ y. bit y c) t x))
negate_commute (Not q) (Not r) free f = λ i x. at x i
  where
    at : (x : List Bool) → act (Not q) (act (Not r) f) x ≡ act (Not r) (act (Not q) f) x
    at x =
        act-not q (act (Not r) f) x
        ∙ act-not r f (negated (λ y. true) q x)
        ∙ ap f (negated-negated (λ y. true) (λ y. true) q r (true-blind r) (true-blind q) x)
        ∙ sym (act-not r (act (Not q) f) x ∙ act-not q f (negated (λ y. true) r x))
negate_commute g h free f = absurd (let h : false ≡ true = free in cc)

passes_commute : (g h : Gate) → passes g h ≡ true → Commute g h
passes_commute g h passed =
    elim (or_cases (are_apart g h || (is_diagonal g && (is_diagonal h || shares_control g h))) (negate_freely g h) passed) [
      | inl some ↦ elim (or_cases (are_apart g h) (is_diagonal g && (is_diagonal h || shares_control g h)) some) [
        | inl apart ↦ apart_commute g h apart
        | inr both ↦ diagonal (and_parts (is_diagonal g) (is_diagonal h || shares_control g h) both)
      ]
      | inr free ↦ negate_commute g h free
    ]
  where
    diagonal : (is_diagonal g ≡ true) × ((is_diagonal h || shares_control g h) ≡ true) → Commute g h
    diagonal each =
        elim (or_cases (is_diagonal h) (shares_control g h) each.1) [
          | inl also ↦ diagonal_commute g h each.0 also
          | inr shared ↦ control_commute g h each.0 shared
        ]

-- gates that commute by the table have maps that commute
pub commutes_commute : (g h : Gate) → commutes g h ≡ true → Commute g h
commutes_commute g h passed =
    elim (or_cases (passes g h) (passes h g) passed) [
      | inl first ↦ passes_commute g h first
      | inr second ↦ λ f. sym (passes_commute h g second f)
    ]

-- a gate goes past a list of gates
pub acts-past : (g : Gate) (gates : List Gate) → list_all (commutes g) gates ≡ true → (f : List Bool → Number)
    → act g (acts gates f) ≡ acts gates (act g f)
acts-past g [] free f = refl
acts-past g (h ∷ gates) free f =
    let each = and_parts (commutes g h) (list_all (commutes g) gates) free in
    commutes_commute g h each.0 (acts gates f) ∙ ap (act h) (acts-past g gates each.1 f)

-- ---- laws of the table
pub commutes_comm : (g h : Gate) → commutes g h ≡ commutes h g
commutes_comm g h = or_comm (passes g h) (passes h g)

-- the gates of a pair commute with the same gates
alike_phase : (q j k : ℕ) (x : Gate) → commutes (Phase q j) x ≡ commutes (Phase q k) x
alike_phase q j k (H p) = refl
alike_phase q j k (Phase p i) = refl
alike_phase q j k (Cz p r) = refl
alike_phase q j k (Cx c t) = refl
alike_phase q j k (Not p) = refl

-- the qubits of Cz in either order
on_cz : (q r p : ℕ) → is_on p (Cz q r) ≡ is_on p (Cz r q)
on_cz q r p = or_comm (eqb q p) (eqb r p)

apart_cz : (q r : ℕ) (x : Gate) → are_apart x (Cz q r) ≡ are_apart x (Cz r q)
apart_cz q r (H p) = ap not (on_cz q r p)
apart_cz q r (Phase p k) = ap not (on_cz q r p)
apart_cz q r (Cz p s) = ap₂ (λ a b. not a && not b) (on_cz q r p) (on_cz q r s)
apart_cz q r (Cx c t) = ap₂ (λ a b. not a && not b) (on_cz q r c) (on_cz q r t)
apart_cz q r (Not p) = ap not (on_cz q r p)

control_cz : (q r : ℕ) (x : Gate) → shares_control (Cz q r) x ≡ shares_control (Cz r q) x
control_cz q r (Cx c t) = ap₂ (λ a b. a && not b) (on_cz q r c) (on_cz q r t)
control_cz q r other = refl

-- what decides of two gates, one of them a Cz
passes_cz : (q r : ℕ) (x : Gate) → passes (Cz q r) x ≡ passes (Cz r q) x
passes_cz q r x =
    ap₂ (λ a b. (a || (is_diagonal x || b)) || false) (and_comm (not (is_on q x)) (not (is_on r x))) (control_cz q r x)

passes_to_cz : (q r : ℕ) (x : Gate) → passes x (Cz q r) ≡ passes x (Cz r q)
passes_to_cz q r (H p) = ap (λ a. (a || false) || false) (apart_cz q r (H p))
passes_to_cz q r (Phase p k) = ap (λ a. (a || true) || false) (apart_cz q r (Phase p k))
passes_to_cz q r (Cz p s) = ap (λ a. (a || true) || false) (apart_cz q r (Cz p s))
passes_to_cz q r (Cx c t) = ap (λ a. (a || false) || false) (apart_cz q r (Cx c t))
passes_to_cz q r (Not p) = ap (λ a. (a || false) || false) (apart_cz q r (Not p))

alike_cz : (q r : ℕ) (x : Gate) → commutes (Cz q r) x ≡ commutes (Cz r q) x
alike_cz q r x = ap₂ (λ a b. a || b) (passes_cz q r x) (passes_to_cz q r x)

pub alike : (g h : Gate) → cancels_or_merges g h ≡ true → (x : Gate) → commutes g x ≡ commutes h x
alike (H q) (H r) pair x = ap (λ p. commutes (H p) x) (eqb-true q r pair)
alike (Phase q j) (Phase r k) pair x = ap (λ p. commutes (Phase p j) x) (eqb-true q r pair) ∙ alike_phase r j k x
alike (Cz q r) (Cz s t) pair x =
    elim (or_cases (eqb q s && eqb r t) (eqb q t && eqb r s) pair) [
      | inl same ↦ let each = and_parts (eqb q s) (eqb r t) same in ap₂ (λ a b. commutes (Cz a b) x) (eqb-true q s each.0) (eqb-true r t each.1)
      | inr crossed ↦
          let each = and_parts (eqb q t) (eqb r s) crossed in
          ap₂ (λ a b. commutes (Cz a b) x) (eqb-true q t each.0) (eqb-true r s each.1) ∙ alike_cz t s x
    ]
alike (Cx c t) (Cx d u) pair x =
    let each = and_parts (eqb c d) (eqb t u) pair in ap₂ (λ a b. commutes (Cx a b) x) (eqb-true c d each.0) (eqb-true t u each.1)
alike (Not q) (Not r) pair x = ap (λ p. commutes (Not p) x) (eqb-true q r pair)
alike g h pair x = absurd (let h : false ≡ true = pair in cc)

-- ---- H commutes with the gates of other qubits alone
pub off_commutes : (q : ℕ) (x : Gate) → is_on q x ≡ false → commutes (H q) x ≡ true
off_commutes q x off =
    or_left (passes (H q) x) (passes x (H q)) (or_left (not (is_on q x) || false) (negate_freely (H q) x) (or_left (not (is_on q x)) false (not_from_false (is_on q x) off)))

no_negation : (x : Gate) (q : ℕ) → negate_freely x (H q) ≡ false
no_negation (H p) q = refl
no_negation (Phase p k) q = refl
no_negation (Cz p r) q = refl
no_negation (Cx c t) q = refl
no_negation (Not p) q = refl

hadamard_passes : (q : ℕ) (x : Gate) → passes (H q) x ≡ true → is_on q x ≡ false
hadamard_passes q x passed =
    elim (or_cases (not (is_on q x) || false) false passed) [
      | inl some ↦ elim (or_cases (not (is_on q x)) false some) [
        | inl off ↦ not-true (is_on q x) off
        | inr never ↦ absurd (let h : false ≡ true = never in cc)
      ]
      | inr never ↦ absurd (let h : false ≡ true = never in cc)
    ]

passes_hadamard : (q : ℕ) (x : Gate) → passes x (H q) ≡ true → is_on q x ≡ false
passes_hadamard q x passed =
    elim (or_cases (are_apart x (H q) || (is_diagonal x && false)) (negate_freely x (H q)) passed) [
      | inl some ↦ elim (or_cases (are_apart x (H q)) (is_diagonal x && false) some) [
        | inl apart ↦ false_from_ne_true (is_on q x) (λ on. both_ways (eqb q q) (apart_off x (H q) apart q on) (eq-eqb q q refl))
        | inr both ↦ absurd (let h : false ≡ true = (and_parts (is_diagonal x) false both).1 in cc)
      ]
      | inr free ↦ absurd (both_ways (negate_freely x (H q)) (no_negation x q) free)
    ]

pub commutes_off : (q : ℕ) (x : Gate) → commutes (H q) x ≡ true → is_on q x ≡ false
commutes_off q x passed =
    elim (or_cases (passes (H q) x) (passes x (H q)) passed) [
      | inl first ↦ hadamard_passes q x first
      | inr second ↦ passes_hadamard q x second
    ]

-- gates that aren't on the qubit, and H
pub off_all : (q : ℕ) (gates : List Gate) → list_all (is_off q) gates ≡ true → list_all (commutes (H q)) gates ≡ true
off_all q [] off = refl
off_all q (x ∷ gates) off =
    let each = and_parts (is_off q x) (list_all (is_off q) gates) off in
    ap₂ (λ a b. a && b) (off_commutes q x (not-true (is_on q x) each.0)) (off_all q gates each.1)

-- a half turn or NOT of the qubit
pub turned_on : (q : ℕ) (x : Gate) → is_turned q x ≡ true → is_on q x ≡ true
turned_on q (Phase p k) turned = (and_parts (eqb p q) (eqb k half_turn) turned).0
turned_on q (Not p) turned = turned
turned_on q other turned = absurd (let h : false ≡ true = turned in cc)

pub apart_commutes : (g x : Gate) → are_apart g x ≡ true → commutes g x ≡ true
apart_commutes g x apart =
    or_left (passes g x) (passes x g) (or_left (are_apart g x || (is_diagonal g && (is_diagonal x || shares_control g x))) (negate_freely g x)
    (or_left (are_apart g x) (is_diagonal g && (is_diagonal x || shares_control g x)) apart))

turned_apart : (q : ℕ) (g x : Gate) → is_turned q g ≡ true → is_off q x ≡ true → are_apart g x ≡ true
turned_apart q (Phase p k) x turned off =
    ap (λ r. not (is_on r x)) (eqb-true p q (and_parts (eqb p q) (eqb k half_turn) turned).0) ∙ off
turned_apart q (Not p) x turned off = ap (λ r. not (is_on r x)) (eqb-true p q turned) ∙ off
turned_apart q other x turned off = absurd (let h : false ≡ true = turned in cc)

pub turned_all : (q : ℕ) (g : Gate) (gates : List Gate) → is_turned q g ≡ true → list_all (is_off q) gates ≡ true
    → list_all (commutes g) gates ≡ true
turned_all q g [] turned off = refl
turned_all q g (x ∷ gates) turned off =
    let each = and_parts (is_off q x) (list_all (is_off q) gates) off in
    ap₂ (λ a b. a && b) (apart_commutes g x (turned_apart q g x turned each.0)) (turned_all q g gates turned each.1)
