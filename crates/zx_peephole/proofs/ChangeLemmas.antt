-- What a pair or triple becomes in its list: the map is kept up to a power of two, and nothing grows.
use Rattle.std.proofs.Common.{◌≡◌, ℕ, suc, ◌+◌, ◌*◌, ◌<◌, ◌≤◌, pos, Bool, true, false, cond, eqb, List, [], ◌∷◌}
use Rattle.std.proofs.Common.{◌++◌, append_assoc, length, drop, refl, sym, ap, ap₂, ◌∙◌, subst}
use Rattle.std.proofs.Common.{arith}
use Rattle.std.specs.List.{list_all, remove, sum_by}
use Rattle.std.proofs.lemmas.Bool.{cond_both}
use Rattle.std.proofs.lemmas.List.{length-append, take_at, drop_at}
use Rattle.std.proofs.lemmas.List.Sums.{sum_by-append, sum_by-cons}
use Rattle.zx_model.specs.Phase.{sum_of_phases, is_odd}
use Rattle.zx_model.specs.Number.{Number, mul}
use Rattle.zx_model.specs.Internal.Powers.{power_of_two}
use Rattle.zx_model.specs.Bits.{one_if}
use Rattle.zx_model.specs.Scalar.{IsScaled}
use Rattle.zx_model.proofs.Ring.{one-mul, mul_assoc}
use Rattle.zx_model.proofs.Odd.{one_if-odd_sum}
use Rattle.zx_gates.specs.Circuit.{IsOnQubits, is_odd_phase}
use Rattle.zx_gates.specs.Counting.{is_two_qubit}
use Rattle.zx_gates.specs.Internal.Scalars.{scalar}
use Rattle.zx_gates.specs.Maps.{amp, act, acts}
use Rattle.zx_gates.specs.declared.gate.Gate.{Gate}
use Rattle.zx_gates.specs.declared.gate.Gate.TheVariants.{H, Phase, Not}
use Rattle.zx_gates.proofs.MapLemmas.{amp-acts, acts-append}
use Rattle.zx_gates.proofs.Multiples.{acts-factor}
use Rattle.zx_gates.proofs.Scaling.{scaled_amp, scaled_if_doubled}
use Rattle.zx_peephole.specs.Commuting.{commutes}
use Rattle.zx_peephole.specs.Tidy.{cancels_or_merges, is_turned, is_off, IsTidy}
use Rattle.zx_peephole.specs.Internal.Merging.{merged, doublings, conjugated}
use Rattle.zx_peephole.specs.Internal.Changes.{EndsPair, EndsTriple, Shortens}
use Rattle.zx_peephole.proofs.Cuts.{all-append}
use Rattle.zx_peephole.proofs.CommutingLemmas.{acts-past, off_all, turned_all}
use Rattle.zx_peephole.proofs.PairLemmas.{pair_law, triple_law}
use Rattle.zx_peephole.proofs.TidyLemmas.{tidy-without}
use Rattle.zx_model.proofs.Powers.{power_of_two-add}

-- ---- changes one after the other
pub shortens-refl : (n : ℕ) (gates : List Gate) → Shortens n 0 gates gates
shortens-refl n gates = record {
  map = λ f x l. sym (one-mul (acts gates f x));
  no_longer = omega arith;
  odd = omega arith;
  two_qubit = omega arith;
}

pub shortens-trans : (n j k : ℕ) (a b c : List Gate) → Shortens n j a b → Shortens n k b c → Shortens n (j + k) a c
shortens-trans n j k a b c first second = record {
  map = λ f x l.
      first.map f x l
      ∙ ap (mul (power_of_two j)) (second.map f x l)
      ∙ sym (mul_assoc (power_of_two j) (power_of_two k) (acts c f x))
      ∙ ap (λ p. mul p (acts c f x)) (sym (power_of_two-add j k));
  no_longer = omega (arith, first.no_longer, second.no_longer);
  odd = omega (arith, first.odd, second.odd);
  two_qubit = omega (arith, first.two_qubit, second.two_qubit);
}

pub shortens_scaled : (n k : ℕ) (old new : List Gate) → Shortens n k old new
    → IsScaled n n (amp old) (scalar (pos (2 * k)) 0) (amp new)
shortens_scaled n k old new s =
    scaled_amp n (amp old) (acts old) (scalar (pos (2 * k)) 0) new (amp-acts old)
    (scaled_if_doubled n (acts old) (acts new) k (λ f x l. s.map f x l))

-- ---- maps
-- the first gate of a pair goes past the gates between
pair_map : (n : ℕ) (before between after : List Gate) (g h : Gate) → cancels_or_merges g h ≡ true → IsOnQubits n g
    → list_all (commutes g) between ≡ true → (f : List Bool → Number) (x : List Bool) → length x ≡ n
    → acts (before ++ g ∷ (between ++ h ∷ after)) f x
    ≡ mul (power_of_two (doublings g)) (acts (before ++ (between ++ (merged g h ++ after))) f x)
pair_map n before between after g h pair on commute f x l =
    (λ i. acts-append before (g ∷ (between ++ h ∷ after)) f i x)
    ∙ (λ i. acts before (act g (acts-append between (h ∷ after) f i)) x)
    ∙ (λ i. acts before (acts-past g between commute (act h (acts after f)) i) x)
    ∙ acts-factor n before d _ _
    (λ z lz. acts-factor n between d _ _ (λ y ly. pair_law n g h pair on (acts after f) y ly) z lz) x l
    ∙ ap (mul d) (sym (
    (λ i. acts-append before (between ++ (merged g h ++ after)) f i x)
    ∙ (λ i. acts before (acts-append between (merged g h ++ after) f i) x)
    ∙ (λ i. acts before (acts between (acts-append (merged g h) after f i)) x)
    ))
  where
    d : Number
    d = power_of_two (doublings g)

-- the first H of a triple goes past the gates to the middle one, and both past those to the last H
triple_map : (n q : ℕ) (before left right after : List Gate) (g : Gate) → is_turned q g ≡ true → q < n
    → list_all (is_off q) left ≡ true → list_all (is_off q) right ≡ true → (f : List Bool → Number) (x : List Bool)
    → length x ≡ n
    → acts (before ++ H q ∷ (left ++ g ∷ (right ++ H q ∷ after))) f x
    ≡ mul (power_of_two 1) (acts (before ++ (left ++ (right ++ conjugated g ∷ after))) f x)
triple_map n q before left right after g turned within left_off right_off f x l =
    (λ i. acts-append before (H q ∷ (left ++ g ∷ (right ++ H q ∷ after))) f i x)
    ∙ (λ i. acts before (act (H q) (acts-append left (g ∷ (right ++ H q ∷ after)) f i)) x)
    ∙ (λ i. acts before (acts-past (H q) left (off_all q left left_off) (act g (acts (right ++ H q ∷ after) f)) i) x)
    ∙ (λ i. acts before (acts left (act (H q) (act g (acts-append right (H q ∷ after) f i)))) x)
    ∙ (λ i. acts before (acts left
    (act (H q) (acts-past g right (turned_all q g right turned right_off) (act (H q) (acts after f)) i))) x)
    ∙ (λ i. acts before (acts left
    (acts-past (H q) right (off_all q right right_off) (act g (act (H q) (acts after f))) i)) x)
    ∙ acts-factor n before d _ _ (λ z lz. acts-factor n left d _ _ (λ y ly. acts-factor n right d _ _
    (λ w lw. triple_law n q g turned within (acts after f) w lw) y ly) z lz) x l
    ∙ ap (mul d) (sym (
    (λ i. acts-append before (left ++ (right ++ conjugated g ∷ after)) f i x)
    ∙ (λ i. acts before (acts-append left (right ++ conjugated g ∷ after) f i) x)
    ∙ (λ i. acts before (acts left (acts-append right (conjugated g ∷ after) f i)) x)
    ))
  where
    d : Number
    d = power_of_two 1

-- ---- counts
-- a sum over the gates doesn't rise where it doesn't over those that change
sum_pair : (w : Gate → ℕ) (before between after gates : List Gate) (g h : Gate) → sum_by w gates ≤ w g + w h
    → sum_by w (before ++ (between ++ (gates ++ after))) ≤ sum_by w (before ++ g ∷ (between ++ h ∷ after))
sum_pair w before between after gates g h le =
    omega (
      arith,
      le,
      sum_by-append w before (between ++ (gates ++ after)),
      sum_by-append w between (gates ++ after),
      sum_by-append w gates after,
      sum_by-append w before (g ∷ (between ++ h ∷ after)),
      sum_by-append w between (h ∷ after),
      sum_by-cons w g (between ++ h ∷ after),
      sum_by-cons w h after,
    )

sum_triple : (w : Gate → ℕ) (before left right after : List Gate) (g h k : Gate) → w k ≤ w g
    → sum_by w (before ++ (left ++ (right ++ k ∷ after))) ≤ sum_by w (before ++ h ∷ (left ++ g ∷ (right ++ h ∷ after)))
sum_triple w before left right after g h k le =
    omega (
      arith,
      le,
      sum_by-append w before (left ++ (right ++ k ∷ after)),
      sum_by-append w left (right ++ k ∷ after),
      sum_by-append w right (k ∷ after),
      sum_by-append w before (h ∷ (left ++ g ∷ (right ++ h ∷ after))),
      sum_by-append w left (g ∷ (right ++ h ∷ after)),
      sum_by-append w right (h ∷ after),
      sum_by-cons w k after,
      sum_by-cons w h (left ++ g ∷ (right ++ h ∷ after)),
      sum_by-cons w g (right ++ h ∷ after),
      sum_by-cons w h after,
    )

abbrev odd_weight : Gate → ℕ
odd_weight g = cond (is_odd_phase g) 1 0

abbrev two_qubit_weight : Gate → ℕ
two_qubit_weight g = cond (is_two_qubit g) 1 0

merged_odd : (g h : Gate) → sum_by odd_weight (merged g h) ≤ odd_weight g + odd_weight h
merged_odd (Phase q j) (Phase r k) =
    cond_both (eqb (sum_of_phases j k) 0) [] (Phase r (sum_of_phases j k) ∷ [])
    (λ gates. sum_by odd_weight gates ≤ one_if (is_odd j) + one_if (is_odd k))
    (λ none. omega arith) (λ some. omega (arith, one_if-odd_sum j k))
merged_odd g h = omega arith

merged_two_qubit : (g h : Gate) → sum_by two_qubit_weight (merged g h) ≤ two_qubit_weight g + two_qubit_weight h
merged_two_qubit (Phase q j) (Phase r k) =
    cond_both (eqb (sum_of_phases j k) 0) [] (Phase r (sum_of_phases j k) ∷ [])
    (λ gates. sum_by two_qubit_weight gates ≤ 0)
    (λ none. omega arith) (λ some. omega arith)
merged_two_qubit g h = omega arith

length-merged : (g h : Gate) → length (merged g h) + 2 * doublings g ≤ 2
length-merged (Phase q j) (Phase r k) =
    cond_both (eqb (sum_of_phases j k) 0) [] (Phase r (sum_of_phases j k) ∷ []) (λ gates. length gates + 2 * 0 ≤ 2)
    (λ none. omega arith) (λ some. omega arith)
length-merged g h = omega arith

conjugated_odd : (q : ℕ) (g : Gate) → is_turned q g ≡ true → odd_weight (conjugated g) ≤ odd_weight g
conjugated_odd q (Phase p k) turned = omega arith
conjugated_odd q (Not p) turned = omega arith
conjugated_odd q g turned = absurd (let h : false ≡ true = turned in cc)

conjugated_two_qubit : (q : ℕ) (g : Gate) → is_turned q g ≡ true → two_qubit_weight (conjugated g) ≤ two_qubit_weight g
conjugated_two_qubit q (Phase p k) turned = omega arith
conjugated_two_qubit q (Not p) turned = omega arith
conjugated_two_qubit q g turned = absurd (let h : false ≡ true = turned in cc)

-- ---- pairs and triples in their list
pub pair_shortens : (n : ℕ) (before between after : List Gate) (g h : Gate) → cancels_or_merges g h ≡ true → IsOnQubits n g
    → list_all (commutes g) between ≡ true
    → Shortens n (doublings g) (before ++ g ∷ (between ++ h ∷ after)) (before ++ (between ++ (merged g h ++ after)))
pair_shortens n before between after g h merge on commute = record {
  map = λ f x l. pair_map n before between after g h merge on commute f x l;
  no_longer = omega (
    arith,
    length-merged g h,
    length-append before (between ++ (merged g h ++ after)),
    length-append between (merged g h ++ after),
    length-append (merged g h) after,
    length-append before (g ∷ (between ++ h ∷ after)),
    length-append between (h ∷ after),
  );
  odd = sum_pair odd_weight before between after (merged g h) g h (merged_odd g h);
  two_qubit = sum_pair two_qubit_weight before between after (merged g h) g h (merged_two_qubit g h);
}

pub triple_shortens : (n q : ℕ) (before left right after : List Gate) (g : Gate) → is_turned q g ≡ true → q < n
    → list_all (is_off q) left ≡ true → list_all (is_off q) right ≡ true
    → Shortens n 1 (before ++ H q ∷ (left ++ g ∷ (right ++ H q ∷ after)))
    (before ++ (left ++ (right ++ conjugated g ∷ after)))
triple_shortens n q before left right after g turned within left_off right_off = record {
  map = λ f x l. triple_map n q before left right after g turned within left_off right_off f x l;
  no_longer = omega (
    arith,
    length-append before (left ++ (right ++ conjugated g ∷ after)),
    length-append left (right ++ conjugated g ∷ after),
    length-append right (conjugated g ∷ after),
    length-append before (H q ∷ (left ++ g ∷ (right ++ H q ∷ after))),
    length-append left (g ∷ (right ++ H q ∷ after)),
    length-append right (H q ∷ after),
  );
  odd = sum_triple odd_weight before left right after g (H q) (conjugated g) (conjugated_odd q g turned);
  two_qubit = sum_triple two_qubit_weight before left right after g (H q) (conjugated g)
      (conjugated_two_qubit q g turned);
}

-- what is kept is tidy without the gates that go
pub pair_tidy : (front : List Gate) (g : Gate) (i : ℕ) (p : EndsPair front g i) → IsTidy front
    → IsTidy (p.before ++ p.between)
pair_tidy front g i p tidy = tidy-without p.before p.between p.first (subst IsTidy p.cut tidy) p.commute

pub triple_tidy : (front : List Gate) (g : Gate) (i j : ℕ) (t : EndsTriple front g i j) → IsTidy front
    → IsTidy (t.before ++ (t.left ++ t.right))
triple_tidy front g i j t tidy =
    tidy-without t.before (t.left ++ t.right) (H t.qubit)
    (subst IsTidy (append_assoc t.before (H t.qubit ∷ t.left) t.right) without_middle)
    (all-append (commutes (H t.qubit)) t.left t.right (off_all t.qubit t.left t.left_off)
    (off_all t.qubit t.right t.right_off))
  where
    without_middle : IsTidy ((t.before ++ H t.qubit ∷ t.left) ++ t.right)
    without_middle =
        tidy-without (t.before ++ H t.qubit ∷ t.left) t.right t.middle (subst IsTidy (t.cut ∙ simp append_assoc) tidy)
        (turned_all t.qubit t.middle t.right t.turned t.right_off)

-- ---- the edits that make them
pub remove_at : (xs ys : List Gate) (x : Gate) (i : ℕ) → length xs ≡ i → remove (xs ++ x ∷ ys) i ≡ xs ++ ys
remove_at xs ys x i l =
    ap₂ (λ s t. s ++ t) (take_at xs (x ∷ ys) i l)
    (ap (drop (suc i)) (sym (append_assoc xs (x ∷ []) ys))
    ∙ drop_at (xs ++ x ∷ []) ys (suc i) (omega (arith, l, length-append xs (x ∷ []))))

pub pair_gone : (front : List Gate) (g : Gate) (i : ℕ) (p : EndsPair front g i) → remove front i ≡ p.before ++ p.between
pair_gone front g i p = ap (λ xs. remove xs i) p.cut ∙ remove_at p.before p.between p.first i p.at

pub triple_gone : (front : List Gate) (g : Gate) (i j : ℕ) (t : EndsTriple front g i j)
    → remove (remove front j) i ≡ t.before ++ (t.left ++ t.right)
triple_gone front g i j t =
    ap (λ xs. remove (remove xs j) i) (t.cut ∙ simp append_assoc)
    ∙ ap (λ xs. remove xs i) (remove_at (t.before ++ H t.qubit ∷ t.left) t.right t.middle j
    (omega (arith, length-append t.before (H t.qubit ∷ t.left), t.at_first, t.at_middle)) ∙ simp append_assoc)
    ∙ remove_at t.before (t.left ++ t.right) (H t.qubit) i t.at_first

-- ---- a change brings the list on
-- from lists that are equal to these
shortens_by : (n k : ℕ) (a b c d : List Gate) → a ≡ b → d ≡ c → Shortens n k b c → Shortens n k a d
shortens_by n k a b c d first second s =
    subst (λ (xs : List Gate). Shortens n k xs d) (sym first) (subst (λ (xs : List Gate). Shortens n k b xs) (sym second) s)

-- the gates that are kept and those that aren't read yet, after a gate that is read next
pub record Brings (n power : ℕ) (front rest front' rest' : List Gate) : Type 0 where
  pub shortened : Shortens n power (front ++ rest) (front' ++ rest')
  pub tidy : IsTidy front → IsTidy front'

module _ (n : ℕ) (front : List Gate) (g : Gate) (rest front' rest' : List Gate) where
  -- it is kept
  pub kept_brings : front' ≡ front ++ g ∷ [] → rest' ≡ rest → (IsTidy front → IsTidy (front ++ g ∷ []))
      → Brings n 0 front (g ∷ rest) front' rest'
  kept_brings front_is rest_is more = record {
    shortened = shortens_by n 0 _ (front ++ g ∷ rest) (front ++ g ∷ rest) _ refl
        (ap₂ (λ xs ys. xs ++ ys) front_is rest_is ∙ append_assoc front (g ∷ []) rest)
        (shortens-refl n (front ++ g ∷ rest));
    tidy = λ tidy. subst IsTidy (sym front_is) (more tidy);
  }

  -- it is merged with one of those that are kept
  pub pair_brings : (i : ℕ) (p : EndsPair front g i) → IsOnQubits n p.first → front' ≡ remove front i
      → rest' ≡ merged p.first g ++ rest → Brings n (doublings p.first) front (g ∷ rest) front' rest'
  pair_brings i p on front_is rest_is = record {
    shortened = shortens_by n (doublings p.first) _ (p.before ++ p.first ∷ (p.between ++ g ∷ rest))
        (p.before ++ (p.between ++ (merged p.first g ++ rest))) _
        (ap (λ xs. xs ++ g ∷ rest) p.cut ∙ simp append_assoc)
        (ap₂ (λ xs ys. xs ++ ys) (front_is ∙ pair_gone front g i p) rest_is
        ∙ append_assoc p.before p.between (merged p.first g ++ rest))
        (pair_shortens n p.before p.between rest p.first g p.merge on p.commute);
    tidy = λ tidy. subst IsTidy (sym (front_is ∙ pair_gone front g i p)) (pair_tidy front g i p tidy);
  }

  -- it is turned over with two of those that are kept
  pub triple_brings : (i j : ℕ) (t : EndsTriple front g i j) → t.qubit < n → front' ≡ remove (remove front j) i
      → rest' ≡ conjugated t.middle ∷ rest → Brings n 1 front (g ∷ rest) front' rest'
  triple_brings i j t on front_is rest_is = record {
    shortened = shortens_by n 1 _
        (t.before ++ H t.qubit ∷ (t.left ++ t.middle ∷ (t.right ++ H t.qubit ∷ rest)))
        (t.before ++ (t.left ++ (t.right ++ conjugated t.middle ∷ rest))) _
        (ap₂ (λ xs x. xs ++ x ∷ rest) t.cut t.is ∙ simp append_assoc)
        (ap₂ (λ xs ys. xs ++ ys) (front_is ∙ triple_gone front g i j t) rest_is ∙ simp append_assoc)
        (triple_shortens n t.qubit t.before t.left t.right rest t.middle t.turned on t.left_off t.right_off);
    tidy = λ tidy. subst IsTidy (sym (front_is ∙ triple_gone front g i j t)) (triple_tidy front g i j t tidy);
  }

-- a gate less, and two
pub one_less : (front : List Gate) (g : Gate) (i : ℕ) → EndsPair front g i → length (remove front i) + 1 ≡ length front
one_less front g i p =
    omega (
      arith,
      ap length (pair_gone front g i p),
      ap length p.cut,
      length-append p.before (p.first ∷ p.between),
      length-append p.before p.between,
    )

pub two_less : (front : List Gate) (g : Gate) (i j : ℕ) → EndsTriple front g i j
    → length (remove (remove front j) i) + 2 ≡ length front
two_less front g i j t =
    omega (
      arith,
      ap length (triple_gone front g i j t),
      ap length t.cut,
      length-append t.before (H t.qubit ∷ (t.left ++ t.middle ∷ t.right)),
      length-append t.left (t.middle ∷ t.right),
      length-append t.before (t.left ++ t.right),
      length-append t.left t.right,
    )
