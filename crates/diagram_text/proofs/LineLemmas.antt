-- A line is told by its parts, and these are plain.
use Rattle.std.proofs.Common.{◌≡◌, ◌≢◌, ℕ, Bool, true, if◌then◌else◌, eqb, List, [], ◌∷◌, get_or, refl, ap, ap₂, ◌∙◌}
use Rattle.std.specs.List.{list_all}
use Rattle.zx_calculus.proofs.Ids.{and-left, and-right}
use Rattle.zx_calculus.proofs.Kept.{both}
use Rattle.zx_diagram.specs.declared.spider.Colour.{Colour}
use Rattle.zx_diagram.specs.declared.spider.Colour.TheVariants.{Z, X}
use Rattle.zx_diagram.specs.declared.wire.Wire.{Wire}
use Rattle.zx_diagram.specs.declared.wire.Leg.{Leg}
use Rattle.zx_text.specs.Lines.{mark}
use Rattle.zx_text.specs.Formats.{is_plain}
use Rattle.zx_text.proofs.LineLemmas.{value, value-decimal, mark_of_name, mark-name}
use Rattle.zx_text.proofs.TextLemmas.{decimal_plain, mark_plain}
use Rattle.diagram_text.specs.declared.line.Line.{Line}
use Rattle.diagram_text.specs.declared.line.Line.TheVariants.{Spider, Edge, Input, Output, End}
use Rattle.diagram_text.specs.Lines.{colour_name, parts}
use Rattle.diagram_text.specs.Internal.Stepping.{has_small}

-- ---- the line of some parts
abbrev pub colour_of_name : List ℕ → Colour
colour_of_name name = if eqb (get_or name 0 0) 88 then X else Z

abbrev pub leg_of : ℕ → Bool → Leg
leg_of spider hadamard = record { spider = spider; hadamard = hadamard }

abbrev pub wire_of : Bool → ℕ → ℕ → Wire
wire_of hadamard a b = record { a = a; b = b; hadamard = hadamard }

abbrev pub spider_of : List (List ℕ) → Line
spider_of (i ∷ colour ∷ phase ∷ []) = Spider (value i) (colour_of_name colour) (value phase)
spider_of others = End

abbrev pub edge_of : List (List ℕ) → Line
edge_of (a ∷ b ∷ m ∷ []) = Edge (wire_of (mark_of_name m) (value a) (value b))
edge_of others = End

abbrev pub input_of : List (List ℕ) → Line
input_of (s ∷ m ∷ []) = Input (leg_of (value s) (mark_of_name m))
input_of others = End

abbrev pub output_of : List (List ℕ) → Line
output_of (s ∷ m ∷ []) = Output (leg_of (value s) (mark_of_name m))
output_of others = End

abbrev pub line_of : ℕ → ℕ → List (List ℕ) → Line
line_of first second rest =
    if eqb first 115 then spider_of rest
    else if eqb first 105 then input_of rest
    else if eqb first 111 then output_of rest
    else if eqb second 100 then edge_of rest
    else End

abbrev pub read : List (List ℕ) → Line
read [] = End
read (word ∷ rest) = line_of (get_or word 0 0) (get_or word 1 0) rest

colour-name : (c : Colour) → colour_of_name (colour_name c) ≡ c
colour-name Z = refl
colour-name X = refl

pub read-parts : (l : Line) → has_small l ≡ true → read (parts l) ≡ l
read-parts (Spider i colour phase) small =
    ap₂ (λ j k. Spider j (colour_of_name (colour_name colour)) k) (value-decimal i (and-left _ _ small)) (value-decimal phase (and-right _ _ small))
    ∙ ap (λ c. Spider i c phase) (colour-name colour)
read-parts (Edge e) small =
    ap₂ (λ j k. Edge (wire_of (mark_of_name (mark e.hadamard)) j k)) (value-decimal e.a (and-left _ _ small)) (value-decimal e.b (and-right _ _ small))
    ∙ ap (λ h. Edge (wire_of h e.a e.b)) (mark-name e.hadamard)
read-parts (Input leg) small = ap₂ (λ s h. Input (leg_of s h)) (value-decimal leg.spider small) (mark-name leg.hadamard)
read-parts (Output leg) small = ap₂ (λ s h. Output (leg_of s h)) (value-decimal leg.spider small) (mark-name leg.hadamard)
read-parts End small = refl

-- ---- plain parts
colour_plain : (c : Colour) → is_plain (colour_name c) ≡ true
colour_plain Z = refl
colour_plain X = refl

pub plain_parts : (l : Line) → has_small l ≡ true → list_all is_plain (parts l) ≡ true
plain_parts (Spider i colour phase) fits =
    both _ _ refl (both _ _ (decimal_plain i (and-left _ _ fits)) (both _ _ (colour_plain colour) (both _ _ (decimal_plain phase (and-right _ _ fits)) refl)))
plain_parts (Edge e) fits =
    both _ _ refl (both _ _ (decimal_plain e.a (and-left _ _ fits)) (both _ _ (decimal_plain e.b (and-right _ _ fits)) (both _ _ (mark_plain e.hadamard) refl)))
plain_parts (Input leg) fits = both _ _ refl (both _ _ (decimal_plain leg.spider fits) (both _ _ (mark_plain leg.hadamard) refl))
plain_parts (Output leg) fits = both _ _ refl (both _ _ (decimal_plain leg.spider fits) (both _ _ (mark_plain leg.hadamard) refl))
plain_parts End fits = refl

pub some_part : (l : Line) → parts l ≢ []
some_part End = λ e. cc
some_part l = λ e. cc
