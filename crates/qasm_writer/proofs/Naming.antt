-- Names of qubits, one after the other.
use Rattle.std.proofs.Common.{◌≡◌, ℕ, zero as nought, suc, List, [], ◌∷◌, ◌++◌, length}
use Rattle.std.specs.Prelude.{slice_get, IfSome}

-- what holds of each element by its place holds of those of a list with one more
pub one_more : {A : Type 0} (P : ℕ → A → Type 0) (xs : List A) (x : A) → ((q : ℕ) → IfSome (slice_get xs q) (P q)) →
    P (length xs) x → (q : ℕ) → IfSome (slice_get (xs ++ x ∷ []) q) (P q)
one_more P [] x all last nought = last
one_more P [] x all last (suc q) = tt
one_more P (y ∷ xs) x all last nought = all 0
one_more P (y ∷ xs) x all last (suc q) = one_more (λ k. P (suc k)) xs x (λ k. all (suc k)) last q
