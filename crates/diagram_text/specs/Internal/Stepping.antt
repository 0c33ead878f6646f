-- What lines lead to, one after the other: a file is taken in exactly where its lines lead from nothing to its end.
use Rattle.std.specs.Prelude.{ℕ, ◌*◌, Bool, true, false, ◌&&◌, ◌==◌, ltb, List, []}
use Rattle.std.specs.Prelude.{◌∷◌, ◌++◌, length, Option, None, Some, codes}
use Rattle.zx_model.specs.Phase.{turn}
use Rattle.zx_diagram.specs.declared.spider.Colour.{Colour}
use Rattle.zx_diagram.specs.declared.wire.Wire.{Wire}
use Rattle.zx_diagram.specs.declared.wire.Leg.{Leg}
use Rattle.zx_diagram.specs.Diagram.{Diagram}
use Rattle.zx_text.specs.Files.{Version, One, Two, unit}
use Rattle.zx_text.specs.Reading.{most_ends}
use Rattle.zx_text.specs.Internal.SmallNumbers.{is_small}
use Rattle.zx_text.specs.Internal.Stepping.{only_if}
use Rattle.diagram_text.specs.declared.line.Line.{Line}
use Rattle.diagram_text.specs.declared.line.Line.TheVariants.{Spider, Edge, Input, Output, End}
use Rattle.diagram_text.specs.declared.reader.Reader.{Reader}
use Rattle.diagram_text.specs.declared.reader.Reader.TheVariants.{Open, Over}
use Rattle.diagram_text.specs.Reading.{may_precede, is_edge_among}

-- whether all its numbers fit the code's own
abbrev pub has_small : Line → Bool
has_small (Spider number colour phase) = is_small number && is_small phase
has_small (Edge e) = is_small e.a && is_small e.b
has_small (Input leg) = is_small leg.spider
has_small (Output leg) = is_small leg.spider
has_small End = true

abbrev pub is_none : {A : Type 0} → List A → Bool
is_none xs = length xs == 0

-- whether an edge may stand behind the last one of these
abbrev pub follows : List Wire → Wire → Bool
follows [] e = true
follows (d ∷ []) e = may_precede d e
follows (d ∷ f ∷ es) e = follows (f ∷ es) e

abbrev pub spider_fits : Version → Diagram → ℕ → ℕ → Bool
spider_fits version d number phase =
    ltb (phase * unit version) turn && ((number == length d.spiders)
    && (is_none d.edges && (is_none d.inputs && is_none d.outputs)))

abbrev pub edge_fits : Diagram → Wire → Bool
edge_fits d e =
    is_edge_among (length d.spiders) e && (follows d.edges e && (is_none d.inputs && is_none d.outputs))

abbrev pub input_fits : Diagram → Leg → Bool
input_fits d leg =
    ltb leg.spider (length d.spiders) && (ltb (length d.inputs) most_ends && is_none d.outputs)

abbrev pub output_fits : Diagram → Leg → Bool
output_fits d leg = ltb leg.spider (length d.spiders) && ltb (length d.outputs) most_ends

-- the spider, the edge or the end that a line adds
abbrev pub spider_added : Version → Diagram → Colour → ℕ → Diagram
spider_added version d colour phase = record d {
  spiders = d.spiders ++ record { colour = colour; phase = phase * unit version } ∷ [];
}

abbrev pub edge_added : Diagram → Wire → Diagram
edge_added d e = record d { edges = d.edges ++ e ∷ [] }

abbrev pub input_added : Diagram → Leg → Diagram
input_added d leg = record d { inputs = d.inputs ++ leg ∷ [] }

abbrev pub output_added : Diagram → Leg → Diagram
output_added d leg = record d { outputs = d.outputs ++ leg ∷ [] }

-- what one more line leads to, if it fits
abbrev pub line_step : Version → Diagram → Line → Option Reader
line_step version d (Spider number colour phase) =
    only_if (spider_fits version d number phase) (Open (spider_added version d colour phase))
line_step version d (Edge e) = only_if (edge_fits d e) (Open (edge_added d e))
line_step version d (Input leg) = only_if (input_fits d leg) (Open (input_added d leg))
line_step version d (Output leg) = only_if (output_fits d leg) (Open (output_added d leg))
line_step version d End = Some (Over d)

abbrev pub diagram_step : Version → Reader → Line → Option Reader
diagram_step version (Open d) line = line_step version d line
diagram_step version (Over d) line = None

-- before the first line behind the header
abbrev pub begun : Reader
begun = Open (record { spiders = []; edges = []; inputs = []; outputs = [] })

-- how many spiders there are so far
abbrev pub spiders_of : Reader → ℕ
spiders_of (Open d) = length d.spiders
spiders_of (Over d) = length d.spiders

-- the first line of a version, without its line feed
abbrev pub word : Version → List ℕ
word One = codes "zxd 1"
word Two = codes "zxd 2"

-- the last line of a file is read
abbrev pub is_over : Reader → Bool
is_over (Open d) = false
is_over (Over d) = true
