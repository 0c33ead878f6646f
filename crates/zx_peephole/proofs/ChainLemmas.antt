-- Chains of places, each linked to the one before it.
use Rattle.std.proofs.Common.{◌≡◌, ◌≢◌, ◌⊎◌, inl, inr, ℕ, ◌+◌, ◌<◌, ◌≤◌, Bool, true, false, cond, eqb, List, length, get_or, set}
use Rattle.std.proofs.Common.{sym, ap, ◌∙◌, subst, arith}
use Rattle.std.proofs.lemmas.Bool.{cases_eq, cases_lt, cases_Bool, eqb-true, or_cases, and_parts, both_ways}
use Rattle.std.proofs.lemmas.List.{get_or-set_same, get_or-set_other}
use Rattle.zx_gates.specs.declared.gate.Gate.{Gate}
use Rattle.zx_gates.specs.declared.gate.Gate.TheVariants.{H, Phase, Cz, Cx, Not}
use Rattle.zx_gates.specs.declared.gate_list.Links.{Links}
use Rattle.zx_peephole.specs.Commuting.{is_on}
use Rattle.zx_peephole.specs.Internal.Chains.{IsLast, IsChain, Without, IsOn, gate_at, is_left, no_links, link_of, link_at}
use Rattle.zx_peephole.specs.Internal.Chains.{first_qubit, second_qubit}

-- ---- the last place before another
-- none lies between m and i
pub last-before : (On : ℕ → Type 0) (i m n : ℕ) → n ≤ m → m ≤ i → IsLast On i n → IsLast On m n
last-before On i m n low high l = record {
  within = low;
  behind = λ j above below. l.behind j above (omega arith);
  there = l.there;
}

pub last-more : (On : ℕ → Type 0) (i n : ℕ) → (On i → ⊥) → IsLast On i n → IsLast On (i + 1) n
last-more On i n off l = record {
  within = omega (arith, l.within);
  behind = λ j above below on. elim (cases_lt j i) [
    | inl before ↦ l.behind j above before on
    | inr past ↦ off (subst On (let e : j ≡ i = omega arith in e) on)
  ];
  there = l.there;
}

pub last-here : (On : ℕ → Type 0) (i : ℕ) → On i → IsLast On (i + 1) (i + 1)
last-here On i on = record {
  within = omega arith;
  behind = λ j above below. absurd (omega arith);
  there = λ j e. subst On (let e : i ≡ j = omega arith in e) on;
}

-- the same places count before i
pub last-same : (On Now : ℕ → Type 0) (i n : ℕ) → ((j : ℕ) → j < i → On j → Now j) → ((j : ℕ) → j < i → Now j → On j)
    → IsLast On i n → IsLast Now i n
last-same On Now i n to from l = record {
  within = l.within;
  behind = λ j above below now. l.behind j above below (from j below now);
  there = λ j e. to j (omega (arith, l.within)) (l.there j e);
}

-- it is another place than the one that is left out
pub last-other : (On : ℕ → Type 0) (p i n : ℕ) → n ≢ p + 1 → IsLast On i n → IsLast (Without p On) i n
last-other On p i n other l = record {
  within = l.within;
  behind = λ j above below on. l.behind j above below on.0;
  there = λ j e. (l.there j e, λ same. other (e ∙ ap (λ k. k + 1) same));
}

-- it is the place that is left out
pub last-out : (On : ℕ → Type 0) (p i n : ℕ) → IsLast On i (p + 1) → IsLast On p n → IsLast (Without p On) i n
last-out On p i n l before = record {
  within = omega (arith, l.within, before.within);
  behind = λ j above below on. elim (cases_lt j p) [
    | inl earlier ↦ before.behind j above earlier on.0
    | inr past ↦ l.behind j (let h : j ≢ p = on.1 in omega arith) below on.0
  ];
  there = λ j e. (before.there j e, λ same. absurd (omega (arith, before.within)));
}

-- ---- chains
pub chain-same : (On Now : ℕ → Type 0) (link linked : ℕ → ℕ) (last next : ℕ) → ((j : ℕ) → j < next → On j → Now j)
    → ((j : ℕ) → j < next → Now j → On j) → ((j : ℕ) → j < next → On j → linked j ≡ link j)
    → IsChain On link last next → IsChain Now linked last next
chain-same On Now link linked last next to from same chain = record {
  last_of = last-same On Now next last to from chain.last_of;
  links = λ i before now.
      subst (IsLast Now i) (sym (same i before (from i before now)))
      (last-same On Now i (link i) (λ j below. to j (omega arith)) (λ j below. from j (omega arith))
      (chain.links i before (from i before now)));
}

-- the next place is one of the chain, or it isn't
pub chain-more : (On : ℕ → Type 0) (link linked : ℕ → ℕ) (last next : ℕ) → On next
    → ((j : ℕ) → j < next → On j → linked j ≡ link j) → linked next ≡ last
    → IsChain On link last next → IsChain On linked (next + 1) (next + 1)
chain-more On link linked last next on same here chain = record {
  last_of = last-here On next on;
  links = λ i before is. elim (cases_lt i next) [
    | inl earlier ↦ subst (IsLast On i) (sym (same i earlier is)) (chain.links i earlier is)
    | inr past ↦
        let e : next ≡ i = omega arith in
        subst (λ (k : ℕ). IsLast On k (linked k)) e (subst (IsLast On next) (sym here) chain.last_of)
  ];
}

pub chain-past : (On : ℕ → Type 0) (link linked : ℕ → ℕ) (last next : ℕ) → (On next → ⊥)
    → ((j : ℕ) → j < next → On j → linked j ≡ link j)
    → IsChain On link last next → IsChain On linked last (next + 1)
chain-past On link linked last next off same chain = record {
  last_of = last-more On next last off chain.last_of;
  links = λ i before is. elim (cases_lt i next) [
    | inl earlier ↦ subst (IsLast On i) (sym (same i earlier is)) (chain.links i earlier is)
    | inr past ↦ absurd (off (subst On (let e : i ≡ next = omega arith in e) is))
  ];
}

-- ---- a place is left out
-- two places that are linked to the same one are the same
one_later : (On : ℕ → Type 0) (i k p : ℕ) → On i → On k → IsLast On i (p + 1) → IsLast On k (p + 1) → i ≡ k
one_later On i k p at_i at_k first second =
    elim (cases_lt i k) [
      | inl less ↦ absurd (second.behind i (omega (arith, first.within)) less at_i)
      | inr more ↦ elim (cases_lt k i) [
        | inl less ↦ absurd (first.behind k (omega (arith, second.within)) less at_k)
        | inr same ↦ let e : i ≡ k = omega arith in e
      ]
    ]

module _ (On : ℕ → Type 0) (link : ℕ → ℕ) (last next p : ℕ) (on : On p) (before : p < next)
    (chain : IsChain On link last next) where
  before_it : IsLast On p (link p)
  before_it = chain.links p before on

  -- it is linked to by the gate at k
  pub chain-without : (linked : ℕ → ℕ) (k : ℕ) → k < next → On k → link k ≡ p + 1 → linked k ≡ link p
      → ((j : ℕ) → On j → j ≢ k → linked j ≡ link j)
      → IsChain (Without p On) linked last next
  chain-without linked k within at_k leads here same = record {
    last_of = last-other On p next last apart chain.last_of;
    links = λ i below is. elim (cases_eq i k) [
      | inl e ↦ subst (λ (j : ℕ). IsLast (Without p On) j (linked j)) (sym e)
          (subst (IsLast (Without p On) k) (sym here)
          (last-out On p k (link p) (subst (IsLast On k) leads (chain.links k within at_k)) before_it))
      | inr differ ↦ subst (IsLast (Without p On) i) (sym (same i is.0 differ))
          (last-other On p i (link i) (λ e. differ (one_later On i k p is.0 at_k
          (subst (IsLast On i) e (chain.links i below is.0))
          (subst (IsLast On k) leads (chain.links k within at_k)))) (chain.links i below is.0))
    ];
  }
    where
      apart : last ≢ p + 1
      apart e =
          let l : IsLast On k (p + 1) = subst (IsLast On k) leads (chain.links k within at_k) in
          (subst (IsLast On next) e chain.last_of).behind k (omega (arith, l.within)) within at_k

-- ---- links that change
pub on_second : (q : ℕ) (g : Gate) → is_on q g ≡ true → eqb (first_qubit g) q ≡ false → second_qubit g ≡ q
on_second q (H p) on other = absurd (both_ways (eqb p q) other on)
on_second q (Phase p k) on other = absurd (both_ways (eqb p q) other on)
on_second q (Not p) on other = absurd (both_ways (eqb p q) other on)
on_second q (Cz p r) on other =
    elim (or_cases (eqb p q) (eqb r q) on) [
      | inl first ↦ absurd (both_ways (eqb p q) other first)
      | inr second ↦ eqb-true r q second
    ]
on_second q (Cx p r) on other =
    elim (or_cases (eqb p q) (eqb r q) on) [
      | inl first ↦ absurd (both_ways (eqb p q) other first)
      | inr second ↦ eqb-true r q second
    ]

true_unless : (b : Bool) → (b ≡ false → ⊥) → b ≡ true
true_unless b never = elim (cases_Bool b) [ inl is ↦ is | inr off ↦ absurd (never off) ]

-- the second link of the gate at place i, whose second qubit is r
module _ (gates : List Gate) (links : List Links) (i r : ℕ) (l : Links) (on : IsOn gates r i)
    (other : eqb (first_qubit (gate_at gates i)) r ≡ false) (first : l.first ≡ (get_or links i no_links).first) where
  pub second_here : i < length links → link_at gates (set links i l) r i ≡ l.second
  second_here within =
      ap (λ (s : Links). link_of r (gate_at gates i) s) (get_or-set_same links i l no_links within)
      ∙ ap (λ b. cond b l.first l.second) other

  pub second_elsewhere : i < length links → (q j : ℕ) → IsOn gates q j → ((q ≢ r) ⊎ (j ≢ i))
      → link_at gates (set links i l) q j ≡ link_at gates links q j
  second_elsewhere within q j at apart =
      elim (cases_eq j i) [
        | inl same ↦
            subst (λ (k : ℕ). link_at gates (set links i l) q k ≡ link_at gates links q k) (sym same)
            (here (subst (IsOn gates q) same at) (elim apart [ inl differ ↦ differ | inr never ↦ absurd (never same) ]))
        | inr differ ↦ ap (λ (s : Links). link_of q (gate_at gates j) s) (get_or-set_other links i j l no_links differ)
      ]
    where
      is_first : IsOn gates q i → q ≢ r → eqb (first_qubit (gate_at gates i)) q ≡ true
      is_first at_i differ =
          true_unless (eqb (first_qubit (gate_at gates i)) q)
          (λ off. differ (sym (on_second q (gate_at gates i) (and_parts (is_left (gate_at gates i)) (is_on q (gate_at gates i)) at_i).1 off)
          ∙ on_second r (gate_at gates i) (and_parts (is_left (gate_at gates i)) (is_on r (gate_at gates i)) on).1 other))

      here : IsOn gates q i → q ≢ r → link_at gates (set links i l) q i ≡ link_at gates links q i
      here at_i differ =
          ap (λ (s : Links). link_of q (gate_at gates i) s) (get_or-set_same links i l no_links within)
          ∙ ap (λ b. cond b l.first l.second) (is_first at_i differ)
          ∙ first
          ∙ sym (ap (λ b. cond b (get_or links i no_links).first (get_or links i no_links).second) (is_first at_i differ))
