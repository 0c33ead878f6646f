-- Diagram files are read by lines; so a text has one bad line, or is one file.
use Rattle.std.proofs.Common.{◌≡◌, ℕ, ◌≤◌, true, ltb, List, [], ◌∷◌, ◌++◌, length, refl, sym, ap, ◌∙◌, true≢false, Some}
use Rattle.std.specs.List.{list_all, flat_map}
use Rattle.zx_diagram.specs.Diagram.{Diagram}
use Rattle.zx_text.specs.Files.{Version}
use Rattle.zx_text.specs.Reading.{most_bytes}
use Rattle.zx_text.specs.Formats.{IsFormat, IsHeaded, GoesOn, run_of, version_in}
use Rattle.zx_text.proofs.StopLemmas.{each_version}
use Rattle.zx_text.proofs.BadLineLemmas as bad
use Rattle.zx_text.proofs.BadLineLemmas.{one_end}
use Rattle.diagram_text.specs.declared.line.Line.{Line}
use Rattle.diagram_text.specs.declared.line.Line.TheVariants.{End}
use Rattle.diagram_text.specs.declared.reader.Reader.{Reader}
use Rattle.diagram_text.specs.declared.reader.Reader.TheVariants.{Open, Over}
use Rattle.diagram_text.specs.Lines.{spelled_line}
use Rattle.diagram_text.specs.Files.{header, lines, spelled}
use Rattle.diagram_text.specs.Reading.{SpellsDiagram, IsFileText, IsBadLine}
use Rattle.diagram_text.specs.Internal.Stepping.{word}
use Rattle.diagram_text.specs.Internal.DiagramFormat.{diagram_files}
use Rattle.diagram_text.proofs.LineLemmas.{read, read-parts, some_part, plain_parts}
use Rattle.diagram_text.proofs.StepLemmas.{spiders_after, small_next}
use Rattle.diagram_text.proofs.SaidLemmas.{sound}
use Rattle.diagram_text.proofs.LeadsLemmas.{complete}

header_is : (version : Version) (x : List ℕ) → header version ++ x ≡ word version ++ 10 ∷ x
header_is version x = each_version (λ v. header v ++ x ≡ word v ++ 10 ∷ x) refl refl version

spelled_is : (version : Version) (d : Diagram) → spelled version d ≡ word version ++ 10 ∷ flat_map spelled_line (lines version d)
unfolding spelled
spelled_is version d = header_is version (flat_map spelled_line (lines version d))

-- the lines of a file lead to its diagram
headed : (text : List ℕ) (d : Diagram) → SpellsDiagram text d → IsHeaded diagram_files text (Over d)
headed text d spells = record {
  version = spells.version;
  behind = flat_map spelled_line (lines spells.version d);
  first = spells.bytes ∙ spelled_is spells.version d;
  whole = record { lines = lines spells.version d; bytes = refl; leads = complete spells.version d spells.file; over = refl };
}

-- and lines that lead there are those of a file
pub headed_spells : (text : List ℕ) (d : Diagram) → IsHeaded diagram_files text (Over d) → SpellsDiagram text d
headed_spells text d is =
    let facts = sound is.version is.whole.lines d is.whole.leads in
    record {
      version = is.version;
      file = facts.1;
      bytes = is.first ∙ ap (λ t. word is.version ++ 10 ∷ t) (is.whole.bytes ∙ ap (flat_map spelled_line) facts.0) ∙ sym (spelled_is is.version d);
    }

is_file : (text : List ℕ) (end : Reader) → IsHeaded diagram_files text end → IsFileText text
is_file text (Open d) is = absurd (true≢false (sym is.whole.over))
is_file text (Over d) is = record { diagram = d; spells = headed_spells text d is }

goes_on : (version : Version) (so_far : List Line) (st : Reader) → run_of diagram_files version so_far ≡ Some st → GoesOn diagram_files version st
goes_on version so_far (Open d) to_st = record { more = End ∷ []; end = Over d; leads = refl; over = refl }
goes_on version so_far (Over d) to_st = record { more = []; end = Over d; leads = refl; over = refl }

pub by_lines : IsFormat diagram_files
by_lines = record {
  read = read;
  read_parts = read-parts;
  some_part = some_part;
  plain_parts = plain_parts;
  plain_word = each_version (λ version. list_all (ltb 10) (word version) ≡ true) refl refl;
  told_apart = each_version (λ version. version_in (word version) ≡ version) refl refl;
  none_yet = refl;
  grows = spiders_after;
  small = λ version so_far st l next to_st few leads. small_next version st l next few leads;
  goes_on = goes_on;
  is_file = is_file;
  has_end = λ text file. (Over file.diagram, headed text file.diagram file.spells);
}

-- a text with a bad line is no file
pub no_file : {text : List ℕ} {line : ℕ} → IsBadLine text line → (d : Diagram) → SpellsDiagram text d → ⊥
no_file is d spells = bad.no_file is (record { diagram = d; spells = spells })

-- a text has one bad line at most
pub one_bad_line : {text : List ℕ} {line other : ℕ} → IsBadLine text line → IsBadLine text other → line ≡ other
one_bad_line this that = bad.one_bad_line this that

-- one text is the file of one diagram
pub one_diagram : {text : List ℕ} {d e : Diagram} → SpellsDiagram text d → SpellsDiagram text e → length text ≤ most_bytes → d ≡ e
one_diagram {text} {d} {e} spells spells' short =
    same (one_end diagram_files by_lines (headed text d spells) (headed text e spells') short)
  where
    same : Over d ≡ Over e → d ≡ e
    same e = cc
