-- What is left of a source, and what a sink took, where they are told.
use Rattle.std.proofs.Common.{◌≡◌, ℕ, ◌+◌, ◌-◌, ◌≤◌, List, ◌++◌, length, take, drop, None, Some, sym, ap, subst, ◌∙◌, arith, length-append}
use Rattle.std.proofs.lemmas.Grind.{common_steps}
use Rattle.std.proofs.lemmas.List.{take-take, take-append-drop, drop-drop, length-take}
use Rattle.std.proofs.Math.Seq.{drop-append_seam, take-append_seam, take-add}
use Rattle.std.proofs.KnownBytes.{Consumes-trans, Appends-trans}
use Rattle.std.specs.Io.KnownBytes.{Consumes, Appends}
use Rattle.std.specs.declared.option.Option.{Option}

-- what is left after k bytes were consumed of told ones
pub Consumes-told : (a b : Option (List ℕ)) (bs bytes : List ℕ) (k : ℕ) → Consumes a b bs → a ≡ Some bytes → length bs ≡ k
    → (k ≤ length bytes) × (b ≡ Some (drop k bytes))
Consumes-told None b bs bytes k p e n = absurd (cc)
Consumes-told (Some x) None bs bytes k p e n = absurd p
Consumes-told (Some x) (Some y) bs bytes k p e n =
    let whole : bytes ≡ bs ++ y = cc in
    let lengths = ap length whole ∙ length-append bs y in
    (omega arith, ap Some (sym (drop-append_seam bs y) ∙ ap (λ l. drop (length bs) l) (sym whole) ∙ ap (λ m. drop m bytes) n))

-- what is left after count more bytes were consumed of told ones
pub Consumes-told_more : (a b c : Option (List ℕ)) (bs more bytes : List ℕ) (k count : ℕ) → Consumes a b bs → Consumes b c more
    → length bs ≡ k → length more ≡ count → a ≡ Some bytes → (k + count ≤ length bytes) × (c ≡ Some (drop (k + count) bytes))
Consumes-told_more a b c bs more bytes k count p q n m e =
    Consumes-told a c (bs ++ more) bytes (k + count) (Consumes-trans a b c bs more p q) e (length-append bs more ∙ ap (λ i. i + length more) n ∙ ap (λ i. k + i) m)

-- a piece that is the rest past done holds no more than that rest
pub length-rest : (bytes : List ℕ) (done count : ℕ) → done ≤ length bytes → count ≤ length (take (length bytes - done) (drop done bytes)) → done + count ≤ length bytes
length-rest bytes done count within fits = grind (arith, common_steps)

-- the first done bytes were taken, and then count more of the rest
pub Appends-take : (a b c : Option (List ℕ)) (bytes : List ℕ) (done count : ℕ) → done + count ≤ length bytes → Appends a b (take done bytes)
    → Appends b c (take count (take (length bytes - done) (drop done bytes))) → Appends a c (take (done + count) bytes)
Appends-take a b c bytes done count fits p q =
    let short : take count (take (length bytes - done) (drop done bytes)) ≡ take count (drop done bytes) = take-take count (length bytes - done) (drop done bytes) (omega arith) in
    subst (Appends a c) (sym (take-add done count bytes)) (Appends-trans a b c (take done bytes) (take count (drop done bytes)) p (subst (Appends b c) short q))

-- count bytes of those from a place on were moved into the start of a buffer: the rest is left
pub drop-moved : (bytes buffer moved : List ℕ) (at count : ℕ) → at + count ≤ length bytes
    → moved ≡ take count (take (length bytes - at) (drop at bytes)) → drop at bytes ≡ take count (moved ++ drop count buffer) ++ drop (at + count) bytes
drop-moved bytes buffer moved at count fits e =
    let short = e ∙ take-take count (length bytes - at) (drop at bytes) (omega arith) in
    let size : length moved ≡ count = ap length short ∙ length-take count (drop at bytes) ∙ grind (arith, common_steps) in
    let prefix : take count (moved ++ drop count buffer) ≡ moved = subst (λ n. take n (moved ++ drop count buffer) ≡ moved) size (take-append_seam moved (drop count buffer)) in
    sym (take-append-drop count (drop at bytes)) ∙ ap (λ l. l ++ drop count (drop at bytes)) (sym short ∙ sym prefix)
    ∙ ap (λ l. take count (moved ++ drop count buffer) ++ l) (drop-drop count at bytes)
