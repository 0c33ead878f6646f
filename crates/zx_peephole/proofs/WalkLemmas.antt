-- A gate on its way to the front, from link to link.
use Rattle.std.proofs.Common.{◌≡◌, inl, inr, ℕ, ◌+◌, ◌-◌, ◌<◌, ◌≤◌, true, false, cond, not, ◌&&◌, eqb, List}
use Rattle.std.proofs.Common.{length, take, drop, refl, sym, ap, ◌∙◌, subst, arith}
use Rattle.std.specs.List.{filter, list_all}
use Rattle.std.proofs.lemmas.Bool.{or_left, or_right, or_from, or_cases, and_parts, and_from, cases_lt, cases_eq, eq-eqb, ne_eqb, false_from_ne_true}
use Rattle.std.proofs.lemmas.Bool.{not_from_true, not_from_false, both_ways}
use Rattle.std.proofs.lemmas.List.{length-take-le, get_or-take, get_or-drop, length-drop}
use Rattle.zx_gates.specs.declared.gate.Gate.{Gate}
use Rattle.zx_gates.specs.declared.gate.Gate.TheVariants.{H, Phase, Cz, Cx, Not}
use Rattle.zx_peephole.specs.Commuting.{is_on, are_apart, commutes}
use Rattle.zx_peephole.specs.Tidy.{cancels_or_merges}
use Rattle.zx_peephole.specs.declared.finding.Walk.{Walk}
use Rattle.zx_peephole.specs.declared.chains.Chains.{Chains}
use Rattle.zx_peephole.specs.Internal.Chains.{nothing, is_left, gate_at, IsOn, IsLast, IsSound, link_at}
use Rattle.zx_peephole.specs.Internal.Chains.{first_qubit, second_qubit}
use Rattle.zx_peephole.specs.Internal.Stops.{stops, is_free, IsLastStop, IsFreeBetween, IsStop, IsWalk, IsNearest}
use Rattle.zx_peephole.proofs.CommutingLemmas.{commutes_comm, apart_commutes}
use Rattle.zx_peephole.proofs.ChainLemmas.{last-before}
use Rattle.zx_peephole.proofs.LeftLemmas.{left_behind, left_cut, all_left_pass}

-- ---- gates that share no qubit
pair_on : (x g : Gate) → cancels_or_merges x g ≡ true → is_on (first_qubit g) x ≡ true
pair_on (H p) (H q) pair = pair
pair_on (Phase p j) (Phase q k) pair = pair
pair_on (Not p) (Not q) pair = pair
pair_on (Cx c t) (Cx d u) pair = or_left (eqb c d) (eqb t d) (and_parts (eqb c d) (eqb t u) pair).0
pair_on (Cz q r) (Cz s t) pair =
    elim (or_cases (eqb q s && eqb r t) (eqb q t && eqb r s) pair) [
      | inl same ↦ or_left (eqb q s) (eqb r s) (and_parts (eqb q s) (eqb r t) same).0
      | inr crossed ↦ or_right (eqb q s) (eqb r s) (and_parts (eqb q t) (eqb r s) crossed).1
    ]
pair_on x g pair = absurd (let h : false ≡ true = pair in cc)

apart_from : (g x : Gate) → is_on (first_qubit g) x ≡ false → is_on (second_qubit g) x ≡ false → are_apart g x ≡ true
apart_from (H q) x first second = not_from_false (is_on q x) first
apart_from (Phase q k) x first second = not_from_false (is_on q x) first
apart_from (Not q) x first second = not_from_false (is_on q x) first
apart_from (Cz q r) x first second =
    and_from (not (is_on q x)) (not (is_on r x)) (not_from_false (is_on q x) first) (not_from_false (is_on r x) second)
apart_from (Cx q r) x first second =
    and_from (not (is_on q x)) (not (is_on r x)) (not_from_false (is_on q x) first) (not_from_false (is_on r x) second)

apart_free : (g x : Gate) → is_on (first_qubit g) x ≡ false → is_on (second_qubit g) x ≡ false → stops g x ≡ false
apart_free g x first second =
    or_from (cancels_or_merges x g) (not (commutes x g))
    (false_from_ne_true (cancels_or_merges x g) (λ pair. both_ways (is_on (first_qubit g) x) first (pair_on x g pair)))
    (not_from_true (commutes x g) (commutes_comm x g ∙ apart_commutes g x (apart_from g x first second)))

-- ---- a walk
off_behind : (gates : List Gate) (q i n j : ℕ) → IsLast (IsOn gates q) i n → n ≤ j → j < i
    → is_left (gate_at gates j) ≡ true → is_on q (gate_at gates j) ≡ false
off_behind gates q i n j l above below left =
    false_from_ne_true (is_on q (gate_at gates j))
    (λ on. l.behind j above below (and_from (is_left (gate_at gates j)) (is_on q (gate_at gates j)) left on))

-- no gate behind both links stops it
pub walk_free : (gates : List Gate) (g : Gate) (walk : Walk) (m : ℕ) → IsWalk gates g walk → walk.first ≤ m
    → walk.second ≤ m → IsFreeBetween gates g m walk.place
walk_free gates g walk m w first second = λ j low high left.
    apart_free g (gate_at gates j)
    (off_behind gates (first_qubit g) walk.place walk.first j w.first (omega arith) high left)
    (off_behind gates (second_qubit g) walk.place walk.second j w.second (omega arith) high left)

pub free_joined : (gates : List Gate) (g : Gate) (k m n : ℕ) → IsFreeBetween gates g k m → IsFreeBetween gates g m n
    → IsFreeBetween gates g k n
free_joined gates g k m n first second = λ j low high left.
    elim (cases_lt j m) [ inl before ↦ first j low before left | inr past ↦ second j past high left ]

-- nothing between a walk and the nearest gate stops
pub free_behind : (gates : List Gate) (g : Gate) (walk : Walk) (i n : ℕ) → IsWalk gates g walk → IsNearest walk i
    → IsFreeBetween gates g walk.place n → IsFreeBetween gates g (i + 1) n
free_behind gates g walk i n w near free =
    free_joined gates g (i + 1) walk.place n (walk_free gates g walk (i + 1) w near.first near.second) free

pub free_here : (gates : List Gate) (g : Gate) (i n : ℕ) → stops g (gate_at gates i) ≡ false
    → IsFreeBetween gates g (i + 1) n → IsFreeBetween gates g i n
free_here gates g i n here behind = λ j low high left.
    elim (cases_lt i j) [
      | inl past ↦ behind j (omega arith) high left
      | inr same ↦ ap (λ k. stops g (gate_at gates k)) (let e : j ≡ i = omega arith in e) ∙ here
    ]

pub nearest_before : (gates : List Gate) (g : Gate) (walk : Walk) (i : ℕ) → IsWalk gates g walk → IsNearest walk i
    → i < walk.place
nearest_before gates g walk i w near =
    elim near.one [ inl e ↦ omega (arith, w.first.within) | inr e ↦ omega (arith, w.second.within) ]

pub nearest_left : (gates : List Gate) (g : Gate) (walk : Walk) (i : ℕ) → IsWalk gates g walk → IsNearest walk i
    → is_left (gate_at gates i) ≡ true
nearest_left gates g walk i w near =
    elim near.one [
      | inl e ↦ (and_parts (is_left (gate_at gates i)) (is_on (first_qubit g) (gate_at gates i)) (w.first.there i e)).0
      | inr e ↦ (and_parts (is_left (gate_at gates i)) (is_on (second_qubit g) (gate_at gates i)) (w.second.there i e)).0
    ]

-- from a gate on the qubit its link leads on
pub linked_last : (w : Chains) (q qubit place n : ℕ) → IsSound w → qubit < w.qubits → place < w.next
    → IsOn w.gates.items qubit place → q ≡ qubit → n ≡ link_at w.gates.items w.links.items q place
    → IsLast (IsOn w.gates.items qubit) place n
linked_last w q qubit place n sound few before on same is =
    subst (IsLast (IsOn w.gates.items qubit) place)
    (sym (is ∙ ap (λ p. link_at w.gates.items w.links.items p place) same))
    ((sound.chains qubit (omega (arith, few, sound.few_qubits))).links place before on)

pub followed_last : (w : Chains) (q qubit end link place n : ℕ) → IsSound w → qubit < w.qubits → end ≤ w.next
    → place < end → IsLast (IsOn w.gates.items qubit) end link → link ≤ place + 1 → q ≡ qubit
    → n ≡ cond (eqb link (place + 1)) (link_at w.gates.items w.links.items q place) link
    → IsLast (IsOn w.gates.items qubit) place n
followed_last w q qubit end link place n sound few within before l near same is =
    elim (cases_eq link (place + 1)) [
      | inl e ↦ linked_last w q qubit place n sound few (omega arith) (l.there place e) same
          (is ∙ ap (λ b. cond b (link_at w.gates.items w.links.items q place) link) (eq-eqb link (place + 1) e))
      | inr differ ↦ subst (IsLast (IsOn w.gates.items qubit) place)
          (sym (is ∙ ap (λ b. cond b (link_at w.gates.items w.links.items q place) link) (ne_eqb link (place + 1) differ)))
          (last-before (IsOn w.gates.items qubit) end place link (omega arith) (omega arith) l)
    ]

-- ---- what it says of the gates that are left
module _ (gates : List Gate) (g : Gate) (n : ℕ) (within : n ≤ length gates) where
  pub behind_passes : (i : ℕ) → IsFreeBetween gates g i n → list_all (λ x. not (stops g x)) (filter is_left (drop i (take n gates))) ≡ true
  behind_passes i free =
      all_left_pass (λ x. not (stops g x)) (drop i (take n gates))
      (λ j below left.
      let size : length (drop i (take n gates)) ≡ n - i =
      length-drop i (take n gates) ∙ ap (λ m. m - i) (length-take-le n gates within) in
      let same : gate_at (drop i (take n gates)) j ≡ gate_at gates (i + j) =
      get_or-drop i (take n gates) j nothing ∙ get_or-take n gates (i + j) nothing (omega arith) in
      not_from_false (stops g (gate_at (drop i (take n gates)) j))
      (ap (stops g) same ∙ free (i + j) (omega arith) (omega arith) (ap is_left (sym same) ∙ left)))

  pub free_of : IsFreeBetween gates g 0 n → is_free g (filter is_left (take n gates)) ≡ true
  free_of free = behind_passes 0 free

  abbrev pub stop_of : (i : ℕ) → IsStop gates g n i
      → IsLastStop g (filter is_left (take n gates)) (length (filter is_left (take i gates)))
  stop_of i s = record {
    before = filter is_left (take i gates);
    stop = gate_at gates i;
    between = left_behind gates i n;
    cut = left_cut gates i n s.before within s.left;
    at = refl;
    stopped = s.stopped;
    free = behind_passes (i + 1) s.free;
  }
