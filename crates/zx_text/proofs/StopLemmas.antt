-- Graph files are read by lines; so a text has one bad line, or is one file.
use Rattle.std.proofs.Common.{◌≡◌, ℕ, ◌≤◌, true, List, [], ◌∷◌, ◌++◌, length, refl, sym, ap, ◌∙◌, true≢false, ltb, Option, Some}
use Rattle.std.specs.List.{list_all, flat_map}
use Rattle.zx_calculus.specs.Graph.{Graph}
use Rattle.gflow_laws.specs.Flow.{Correction}
use Rattle.zx_text.specs.Files.{Version, One, Two, header, spelled, lines}
use Rattle.zx_text.specs.Lines.{Line, spelled_line}
use Rattle.zx_text.specs.Reading.{Wanted, AnyFile, is_wanted, most_bytes, Spells, IsFileText, IsBadLine}
use Rattle.zx_text.specs.Formats.{IsFormat, IsHeaded, run, version_in}
use Rattle.zx_text.specs.Internal.Stepping.{LinesSoFar, InGraph, AtFlow, InSets, Over, begun, file_step}
use Rattle.zx_text.specs.Internal.Said.{IsSoFar, word}
use Rattle.zx_text.specs.Internal.GraphFormat.{graph_files}
use Rattle.zx_text.proofs.LineLemmas.{read, read-parts, some_part, plain_parts}
use Rattle.zx_text.proofs.SaidLemmas.{so_far_begun, so_far_run, sound}
use Rattle.zx_text.proofs.StepLemmas.{vertices_after, small_next}
use Rattle.zx_text.proofs.LeadsLemmas.{finish, complete}
use Rattle.zx_text.proofs.BadLineLemmas as bad
use Rattle.zx_text.proofs.BadLineLemmas.{one_end}

-- what holds of both versions holds of any
pub each_version : (P : Version → Type 0) → P One → P Two → (version : Version) → P version
each_version P one two One = one
each_version P one two Two = two

header_is : (version : Version) (x : List ℕ) → header version ++ x ≡ word version ++ 10 ∷ x
header_is version x = each_version (λ v. header v ++ x ≡ word v ++ 10 ∷ x) refl refl version

spelled_is : (version : Version) (g : Graph) (table : Option (List Correction)) → spelled version g table ≡ word version ++ 10 ∷ flat_map spelled_line (lines version g table)
unfolding spelled
spelled_is version g table = header_is version (flat_map spelled_line (lines version g table))

-- the lines of a file lead to its graph and its table
pub headed : (wanted : Wanted) (text : List ℕ) (g : Graph) (table : Option (List Correction)) → Spells text g table → is_wanted wanted table ≡ true
    → IsHeaded (graph_files wanted) text (Over g table)
headed wanted text g table spells fits = record {
  version = spells.version;
  behind = flat_map spelled_line (lines spells.version g table);
  first = spells.bytes ∙ spelled_is spells.version g table;
  whole = record { lines = lines spells.version g table; bytes = refl; leads = complete spells.version wanted g table spells.file fits; over = refl };
}

-- and lines that lead there are those of a file
pub headed_spells : (wanted : Wanted) (text : List ℕ) (g : Graph) (table : Option (List Correction)) → IsHeaded (graph_files wanted) text (Over g table)
    → Spells text g table × (is_wanted wanted table ≡ true)
headed_spells wanted text g table is =
    let facts = sound is.version wanted is.whole.lines g table is.whole.leads in (
      record {
        version = is.version;
        file = facts.1.0;
        bytes = is.first ∙ ap (λ t. word is.version ++ 10 ∷ t) (is.whole.bytes ∙ ap (flat_map spelled_line) facts.0) ∙ sym (spelled_is is.version g table);
      },
      facts.1.1,
    )

is_file : (wanted : Wanted) (text : List ℕ) (end : LinesSoFar) → IsHeaded (graph_files wanted) text end → IsFileText wanted text
is_file wanted text (InGraph p) is = absurd (true≢false (sym is.whole.over))
is_file wanted text (AtFlow g) is = absurd (true≢false (sym is.whole.over))
is_file wanted text (InSets p) is = absurd (true≢false (sym is.whole.over))
is_file wanted text (Over g table) is =
    let spells = headed_spells wanted text g table is in
    record { graph = g; table = table; spells = spells.0; is_wanted = spells.1 }

pub by_lines : (wanted : Wanted) → IsFormat (graph_files wanted)
by_lines wanted = record {
  read = read;
  read_parts = read-parts;
  some_part = some_part;
  plain_parts = plain_parts;
  plain_word = each_version (λ version. list_all (ltb 10) (word version) ≡ true) refl refl;
  told_apart = each_version (λ version. version_in (word version) ≡ version) refl refl;
  none_yet = refl;
  grows = λ version st l next leads. vertices_after version wanted st l next leads;
  small = λ version so_far st l next to_st few leads. small_next version wanted st so_far l next (reached version so_far st to_st) few leads;
  goes_on = λ version so_far st to_st. finish version wanted st so_far (reached version so_far st to_st);
  is_file = is_file wanted;
  has_end = λ text file. (Over file.graph file.table, headed wanted text file.graph file.table file.spells file.is_wanted);
}
  where
    reached : (version : Version) (so_far : List Line) (st : LinesSoFar) → run (file_step version wanted) (Some (InGraph begun)) so_far ≡ Some st → IsSoFar version wanted st so_far
    reached version so_far st to_st = so_far_run version wanted (InGraph begun) so_far st [] (so_far_begun version wanted) to_st

-- a text with a bad line is no file
pub no_file : {wanted : Wanted} {text : List ℕ} {line : ℕ} → IsBadLine wanted text line → (g : Graph) (table : Option (List Correction)) → Spells text g table
    → is_wanted wanted table ≡ true → ⊥
no_file is g table spells fits = bad.no_file is (record { graph = g; table = table; spells = spells; is_wanted = fits })

-- a text has one bad line at most
pub one_bad_line : {wanted : Wanted} {text : List ℕ} {line other : ℕ} → IsBadLine wanted text line → IsBadLine wanted text other → line ≡ other
one_bad_line this that = bad.one_bad_line this that

-- one text is the file of one graph and one table
pub one_file : {text : List ℕ} {g h : Graph} {table other : Option (List Correction)} → Spells text g table → Spells text h other → length text ≤ most_bytes
    → (g ≡ h) × (table ≡ other)
one_file {text} {g} {h} {table} {other} spells spells' short =
    same (one_end (graph_files AnyFile) (by_lines AnyFile) (headed AnyFile text g table spells refl) (headed AnyFile text h other spells' refl) short)
  where
    same : Over g table ≡ Over h other → (g ≡ h) × (table ≡ other)
    same e = (cc, cc)
