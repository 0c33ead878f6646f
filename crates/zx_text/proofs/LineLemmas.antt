-- A line is told by its parts, and these are plain.
use Rattle.std.proofs.Common.{◌≡◌, ◌≢◌, ℕ, ◌^◌, Bool, true, false, if◌then◌else◌, eqb, List, [], ◌∷◌, map, get_or, refl, ap, ap₂, ◌∙◌, ltb-true, decimal}
use Rattle.std.specs.List.{list_all}
use Rattle.std.specs.Str.Parse.{digits_value}
use Rattle.std.proofs.lemmas.Fmt.{decimal_is_IsNumeral}
use Rattle.zx_calculus.specs.Graph.{Plane, XY, XZ, YZ}
use Rattle.zx_calculus.proofs.Ids.{and-left, and-right}
use Rattle.zx_calculus.proofs.Kept.{both}
use Rattle.zx_text.specs.Lines.{Line, VertexLine, EdgeLine, InputLine, OutputLine, FlowLine, OrderLine, CorrectLine, EndLine, parts, plane_name, mark}
use Rattle.zx_text.specs.Formats.{is_plain}
use Rattle.zx_text.specs.Internal.SmallNumbers.{is_small}
use Rattle.zx_text.specs.Internal.Taking.{has_small}
use Rattle.zx_text.proofs.TextLemmas.{decimal_plain, decimals_plain, mark_plain}

-- ---- the line of some parts
abbrev pub value : List ℕ → ℕ
value digits = digits_value 10 digits

abbrev pub plane_of_name : List ℕ → Plane
plane_of_name name = if eqb (get_or name 0 0) 89 then YZ else if eqb (get_or name 1 0) 89 then XY else XZ

abbrev pub mark_of_name : List ℕ → Bool
mark_of_name name = eqb (get_or name 0 0) 104

abbrev pub vertex_of : List (List ℕ) → Line
vertex_of (i ∷ plane ∷ phase ∷ []) = VertexLine (value i) (plane_of_name plane) (value phase)
vertex_of others = EndLine

abbrev pub edge_of : List (List ℕ) → Line
edge_of (a ∷ b ∷ []) = EdgeLine (value a) (value b)
edge_of others = EndLine

abbrev pub input_of : List (List ℕ) → Line
input_of (v ∷ m ∷ []) = InputLine (value v) (mark_of_name m)
input_of others = EndLine

abbrev pub output_of : List (List ℕ) → Line
output_of (v ∷ m ∷ []) = OutputLine (value v) (mark_of_name m)
output_of others = EndLine

abbrev pub correct_of : List (List ℕ) → Line
correct_of (v ∷ ws) = CorrectLine (value v) (map value ws)
correct_of [] = EndLine

abbrev pub line_of : ℕ → ℕ → List (List ℕ) → Line
line_of first second rest =
    if eqb first 118 then vertex_of rest
    else if eqb first 105 then input_of rest
    else if eqb first 102 then FlowLine
    else if eqb first 99 then correct_of rest
    else if eqb second 100 then edge_of rest
    else if eqb second 117 then output_of rest
    else if eqb second 114 then OrderLine (map value rest)
    else EndLine

abbrev pub read : List (List ℕ) → Line
read [] = EndLine
read (word ∷ rest) = line_of (get_or word 0 0) (get_or word 1 0) rest

pub value-decimal : (n : ℕ) → is_small n ≡ true → value (decimal n) ≡ n
value-decimal n small = (decimal_is_IsNumeral n (ltb-true n (2 ^ 64) small)).1

values-decimal : (ns : List ℕ) → list_all is_small ns ≡ true → map value (map decimal ns) ≡ ns
values-decimal [] small = refl
values-decimal (n ∷ ns) small = ap₂ (λ m ms. m ∷ ms) (value-decimal n (and-left _ _ small)) (values-decimal ns (and-right _ _ small))

plane-name : (p : Plane) → plane_of_name (plane_name p) ≡ p
plane-name XY = refl
plane-name XZ = refl
plane-name YZ = refl

pub mark-name : (b : Bool) → mark_of_name (mark b) ≡ b
mark-name true = refl
mark-name false = refl

pub read-parts : (l : Line) → has_small l ≡ true → read (parts l) ≡ l
read-parts (VertexLine i plane phase) small =
    ap₂ (λ j k. VertexLine j (plane_of_name (plane_name plane)) k) (value-decimal i (and-left _ _ small)) (value-decimal phase (and-right _ _ small))
    ∙ ap (λ p. VertexLine i p phase) (plane-name plane)
read-parts (EdgeLine a b) small = ap₂ EdgeLine (value-decimal a (and-left _ _ small)) (value-decimal b (and-right _ _ small))
read-parts (InputLine v hadamard) small = ap₂ InputLine (value-decimal v small) (mark-name hadamard)
read-parts (OutputLine v hadamard) small = ap₂ OutputLine (value-decimal v small) (mark-name hadamard)
read-parts FlowLine small = refl
read-parts (OrderLine order) small = ap OrderLine (values-decimal order small)
read-parts (CorrectLine v members) small = ap₂ CorrectLine (value-decimal v (and-left _ _ small)) (values-decimal members (and-right _ _ small))
read-parts EndLine small = refl

-- ---- plain parts
plane_plain : (p : Plane) → is_plain (plane_name p) ≡ true
plane_plain XY = refl
plane_plain XZ = refl
plane_plain YZ = refl

pub plain_parts : (l : Line) → has_small l ≡ true → list_all is_plain (parts l) ≡ true
plain_parts (VertexLine i plane phase) fits =
    both _ _ refl (both _ _ (decimal_plain i (and-left _ _ fits)) (both _ _ (plane_plain plane) (both _ _ (decimal_plain phase (and-right _ _ fits)) refl)))
plain_parts (EdgeLine a b) fits = both _ _ refl (both _ _ (decimal_plain a (and-left _ _ fits)) (both _ _ (decimal_plain b (and-right _ _ fits)) refl))
plain_parts (InputLine v hadamard) fits = both _ _ refl (both _ _ (decimal_plain v fits) (both _ _ (mark_plain hadamard) refl))
plain_parts (OutputLine v hadamard) fits = both _ _ refl (both _ _ (decimal_plain v fits) (both _ _ (mark_plain hadamard) refl))
plain_parts FlowLine fits = refl
plain_parts (OrderLine order) fits = both _ _ refl (decimals_plain order fits)
plain_parts (CorrectLine v members) fits = both _ _ refl (both _ _ (decimal_plain v (and-left _ _ fits)) (decimals_plain members (and-right _ _ fits)))
plain_parts EndLine fits = refl

pub some_part : (l : Line) → parts l ≢ []
some_part EndLine = λ e. cc
some_part l = λ e. cc
