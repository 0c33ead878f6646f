-- The linear map of a diagram, as a sum over a label 0 or 1 for each spider (a path sum).
-- van de Wetering, "ZX-calculus for the working quantum computer scientist" (arXiv 2012.13966, 2020), on spiders: a
-- Z spider of phase k is |0..0><0..0| + z^k|1..1><1..1|, and an X spider is a Z spider with a Hadamard on each of
-- its wires. A Hadamard is taken without 1/sqrt 2.
use Rattle.std.specs.Prelude.{ℕ, suc, Bool, true, false, List, [], ◌∷◌, map, length}
use Rattle.zx_model.specs.Number.{Number, one, mul}
use Rattle.zx_model.specs.Bits.{xor, bit}
use Rattle.zx_model.specs.Sums.{total, all_labels, label_of}
use Rattle.zx_calculus.specs.Sum.{spider, end_factor}
use Rattle.zx_diagram.specs.declared.spider.Colour.{Colour}
use Rattle.zx_diagram.specs.declared.spider.Colour.TheVariants.{Z, X}
use Rattle.zx_diagram.specs.declared.spider.Spider.{Spider}
use Rattle.zx_diagram.specs.declared.wire.Wire.{Wire}
use Rattle.zx_diagram.specs.declared.wire.Leg.{Leg}
use Rattle.zx_diagram.specs.Diagram.{Diagram, numbers}

abbrev pub is_X : Colour → Bool
is_X Z = false
is_X X = true

-- whether the spider of a number is an X spider
abbrev pub is_X_at : List Spider → ℕ → Bool
is_X_at spiders number = bit (map (λ s. is_X s.colour) spiders) number

-- whether a wire carries an odd number of Hadamards: its own, and one for each of its ends at an X spider
abbrev pub edge_mark : List Spider → Wire → Bool
edge_mark spiders edge = xor edge.hadamard (xor (is_X_at spiders edge.a) (is_X_at spiders edge.b))

abbrev pub leg_mark : List Spider → Leg → Bool
leg_mark spiders leg = xor leg.hadamard (is_X_at spiders leg.spider)

-- z^(k*h) for each spider of phase k and label h; the first of the list has this number
abbrev pub spider_product : ℕ → List Spider → (ℕ → Bool) → Number
spider_product number [] label = one
spider_product number (s ∷ ss) label =
    mul (spider s.phase (label number)) (spider_product (suc number) ss label)

-- for each edge, with an odd number of Hadamards (-1)^(product of its labels); else 1 where these are equal, else 0
abbrev pub wire_product : List Spider → List Wire → (ℕ → Bool) → Number
wire_product spiders [] label = one
wire_product spiders (edge ∷ edges) label =
    mul (end_factor (edge_mark spiders edge) (label edge.a) (label edge.b)) (wire_product spiders edges label)

-- the same for each end, of its spider's label and its bit
abbrev pub leg_product : List Spider → List Leg → List Bool → (ℕ → Bool) → Number
leg_product spiders [] bits label = one
leg_product spiders (leg ∷ legs) [] label = one
leg_product spiders (leg ∷ legs) (b ∷ bits) label =
    mul (end_factor (leg_mark spiders leg) (label leg.spider) b) (leg_product spiders legs bits label)

-- the summand of one choice of labels, for input bits x and output bits y
abbrev pub term : Diagram → List Bool → List Bool → (ℕ → Bool) → Number
term d x y label =
    mul (spider_product 0 d.spiders label)
    (mul (wire_product d.spiders d.edges label)
    (mul (leg_product d.spiders d.inputs x label) (leg_product d.spiders d.outputs y label)))

-- the sum over all labels of the spiders
abbrev pub diagram_sum : Diagram → List Bool → List Bool → Number
diagram_sum d x y = total (map (λ hs. term d x y (label_of (numbers d) hs)) (all_labels (length d.spiders)))
