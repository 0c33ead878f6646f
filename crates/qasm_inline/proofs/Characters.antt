-- The printable characters, by their codes.
use Rattle.std.proofs.Common.{◌≡◌, ℕ, ◌+◌, ◌-◌, ◌<◌, ◌≤◌, List, [], ◌∷◌, length, get_or, take, drop, ap, ◌∙◌, arith, drop-cons}
use Rattle.std.specs.List.{range_with_len}
use Rattle.std.proofs.lemmas.List.FromFn.{length-range_with_len, get_or-range_with_len}

-- among codes that rise from 32, a printable one stands at the place that is less by 32
pub character_at : (codes : List ℕ) (b place : ℕ) → codes ≡ range_with_len 32 95 → 32 ≤ b → b ≤ 126 → place ≡ b - 32
    → take (place + 1 - place) (drop place codes) ≡ b ∷ []
character_at codes b place are least most there =
    let one : place + 1 - place ≡ 1 = omega arith in
    let below : place < 95 = omega (arith, there, least, most) in
    let within : place < length (range_with_len 32 95) = omega (arith, length-range_with_len 32 95, below) in
    let code : get_or (range_with_len 32 95) place 0 ≡ b = omega (arith, get_or-range_with_len 32 95 place 0 below, there, least) in
    ap (λ n. take n (drop place codes)) one
    ∙ ap (λ l. take 1 (drop place l)) are
    ∙ ap (λ l. take 1 l) (drop-cons (range_with_len 32 95) place 0 within)
    ∙ ap (λ n. n ∷ []) code
