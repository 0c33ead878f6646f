-- Diagram files. The form is this project's own; docs/LANGUAGE.md has it on one page.
use Rattle.std.specs.Prelude.{ℕ, suc, ◌/◌, List, [], ◌∷◌, ◌++◌, map, codes}
use Rattle.std.specs.List.{flat_map}
use Rattle.zx_diagram.specs.declared.spider.Spider as diagram
use Rattle.zx_diagram.specs.Diagram.{Diagram}
use Rattle.zx_text.specs.Files.{Version, One, Two, unit}
use Rattle.diagram_text.specs.declared.line.Line.{Line}
use Rattle.diagram_text.specs.declared.line.Line.TheVariants.{Spider, Edge, Input, Output, End}
use Rattle.diagram_text.specs.Lines.{spelled_line}

abbrev pub header : Version → List ℕ
header One = codes "zxd 1\n"
header Two = codes "zxd 2\n"

-- spiders are numbered in their order; phases are written in the version's units
abbrev pub spider_lines : Version → ℕ → List diagram.Spider → List Line
spider_lines version number [] = []
spider_lines version number (s ∷ ss) =
    Spider number s.colour (s.phase / unit version) ∷ spider_lines version (suc number) ss

-- all lines after the first
abbrev pub lines : Version → Diagram → List Line
lines version d =
    spider_lines version 0 d.spiders ++ (map Edge d.edges ++ (map Input d.inputs ++ (map Output d.outputs ++ End ∷ [])))

-- the bytes of a file
unfoldable pub spelled : Version → Diagram → List ℕ
spelled version d = header version ++ flat_map spelled_line (lines version d)
