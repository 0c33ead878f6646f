-- Gates by the words of a generator, one after the other.
use Rattle.std.proofs.Common.{◌≡◌, ◌≢◌, ◌⊎◌, ◌<◌, ◌≤◌, ℕ, zero, suc, ◌+◌, ◌-◌, ◌%◌, Bool, true, false, ◌&&◌, leb, if◌then◌else◌}
use Rattle.std.proofs.Common.{List, length, [], ◌∷◌, ◌++◌, append_assoc, refl, sym, ap, ap₂, ◌∙◌, inl, inr, arith, add-one}
use Rattle.std.proofs.lemmas.Bool.{le-leb, lt-leb, eq-eqb, ne_eqb}
use Rattle.rand_pcg.specs.Lcg.{Lcg}
use Rattle.rand_pcg.specs.Pcg.{pcg32}
use Rattle.zx_gates.specs.declared.gate.Gate.{Gate}
use Rattle.zx_gates.specs.declared.gate.Gate.TheVariants.{Cz, Cx}
use Rattle.zx_gen.specs.Generator.{drawn, next_gates, is_on_two, one_qubit_gate, two_qubit_gate, other_qubit}

-- ---- how many qubits a kind has
pub on_one : (n kind : ℕ) → (kind < 4) ⊎ (n ≡ 1) → is_on_two n kind ≡ false
on_one n kind few = elim few [
  | inl low ↦ ap (λ b. b && leb 2 n) (lt-leb 4 kind low)
  | inr single ↦ ap (λ b. leb 4 kind && b) (lt-leb 2 n (omega arith)) ∙ never (leb 4 kind)
] where
  never : (b : Bool) → (b && false) ≡ false
  never true = refl
  never false = refl

pub on_two : (n kind : ℕ) → 4 ≤ kind → 2 ≤ n → is_on_two n kind ≡ true
on_two n kind high many = ap₂ (λ a b. a && b) (le-leb 4 kind high) (le-leb 2 n many)

pub cz_is : (kind q r : ℕ) → kind ≡ 4 → two_qubit_gate kind q r ≡ Cz q r
cz_is kind q r four = ap (λ b. if b then Cz q r else Cx q r) (eq-eqb kind 4 four)

pub cx_is : (kind q r : ℕ) → kind ≢ 4 → two_qubit_gate kind q r ≡ Cx q r
cx_is kind q r other = ap (λ b. if b then Cz q r else Cx q r) (ne_eqb kind 4 other)

-- ---- a gate by the words that it takes
pub one_drawn : (n kind q : ℕ) (g one two : Lcg) (gate : Gate) → kind ≡ (pcg32 g).0 % 6 → one ≡ (pcg32 g).1
    → q ≡ (pcg32 one).0 % n → two ≡ (pcg32 one).1 → is_on_two n kind ≡ false → gate ≡ one_qubit_gate kind q
    → drawn n g ≡ record { gate = gate; after = two }
unfolding drawn
one_drawn n kind q g one two gate k a p b single is =
    let none : is_on_two n ((pcg32 g).0 % 6) ≡ false = rw k at single in
    rw (is, b, p, a, k) (rw none refl)

pub two_drawn : (n kind q r : ℕ) (g one two three : Lcg) (gate : Gate) → kind ≡ (pcg32 g).0 % 6 → one ≡ (pcg32 g).1
    → q ≡ (pcg32 one).0 % n → two ≡ (pcg32 one).1 → r ≡ other_qubit n q (pcg32 two).0 → three ≡ (pcg32 two).1
    → is_on_two n kind ≡ true → two_qubit_gate kind q r ≡ gate → drawn n g ≡ record { gate = gate; after = three }
unfolding drawn
two_drawn n kind q r g one two three gate k a p b o c double is =
    let both : is_on_two n ((pcg32 g).0 % 6) ≡ true = rw k at double in
    rw (← is, c, o, b, p, a, k) (rw both refl)

-- ---- gates so far, and those that are left
pub drawn_more : (done : List Gate) (gate : Gate) (n count i : ℕ) (g after : Lcg) (all : List Gate) → i < count
    → drawn n g ≡ record { gate = gate; after = after } → done ++ next_gates n (count - i) g ≡ all
    → done ++ gate ∷ [] ++ next_gates n (count - (i + 1)) after ≡ all
drawn_more done gate n count i g after all lt is so_far =
    let left : count - i ≡ suc (count - (i + 1)) = omega (arith, add-one (count - (i + 1))) in
    append_assoc done (gate ∷ []) (next_gates n (count - (i + 1)) after)
    ∙ sym (ap (λ d. done ++ (d.gate ∷ next_gates n (count - (i + 1)) d.after)) is)
    ∙ (rw left at so_far)

pub length-next_gates : (n count : ℕ) (g : Lcg) → length (next_gates n count g) ≡ count
length-next_gates n zero g = refl
length-next_gates n (suc count) g = ap suc (length-next_gates n count (drawn n g).after)
