-- Lines that lead anywhere are the lines of what they say.
use Rattle.std.proofs.Common.{◌≡◌, ℕ, ◌+◌, ◌*◌, ◌/◌, ◌<◌, ◌≤◌, suc, Bool, true, eqb, ltb, ◌&&◌, List, [], ◌∷◌, ◌++◌, map, length, refl, sym, ap, ap₂, ◌∙◌, subst, ltb-true, eqb-true, append_assoc, arith, Some}
use Rattle.std.specs.List.{list_all}
use Rattle.zx_model.specs.Phase.{turn}
use Rattle.zx_calculus.proofs.Ids.{and-left, and-right}
use Rattle.zx_calculus.proofs.Kept.{both}
use Rattle.zx_diagram.specs.declared.spider.Spider as diagram
use Rattle.zx_diagram.specs.declared.spider.Colour.{Colour}
use Rattle.zx_diagram.specs.declared.wire.Wire.{Wire}
use Rattle.zx_diagram.specs.declared.wire.Leg.{Leg}
use Rattle.zx_diagram.specs.Diagram.{Diagram}
use Rattle.zx_text.specs.Files.{Version, unit}
use Rattle.zx_text.specs.Reading.{most_ends}
use Rattle.zx_text.specs.Formats.{run}
use Rattle.zx_text.proofs.PartLemmas.{all-last, length-last}
use Rattle.zx_text.proofs.RunLemmas.{same_state, passed, only, kept_by_run}
use Rattle.zx_text.proofs.SaidLemmas.{map-last, shift, undone, whole_units}
use Rattle.diagram_text.specs.declared.line.Line.{Line}
use Rattle.diagram_text.specs.declared.line.Line.TheVariants.{Spider, Edge, Input, Output, End}
use Rattle.diagram_text.specs.declared.reader.Reader.{Reader}
use Rattle.diagram_text.specs.declared.reader.Reader.TheVariants.{Open, Over}
use Rattle.diagram_text.specs.Files.{spider_lines, lines}
use Rattle.diagram_text.specs.Reading.{IsFile, are_sorted, has_phase_of, is_edge_among}
use Rattle.diagram_text.specs.Internal.Stepping.{diagram_step, begun, is_none, follows, spider_fits, edge_fits, input_fits, output_fits, spider_added, edge_added, input_added, output_added}

-- the lines of a diagram, before the last one
abbrev pub diagram_lines : Version → Diagram → List Line
diagram_lines version d =
    spider_lines version 0 d.spiders ++ (map Edge d.edges ++ (map Input d.inputs ++ map Output d.outputs))

-- the lines that lead to a state
abbrev said : Version → Reader → List Line
said version (Open d) = diagram_lines version d
said version (Over d) = lines version d

abbrev diagram_of : Reader → Diagram
diagram_of (Open d) = d
diagram_of (Over d) = d

-- these lines are those that lead to the state, and they are lines of a file
record IsSoFar (version : Version) (st : Reader) (so_far : List Line) : Type 0 where
  lines_said : so_far ≡ said version st
  file : IsFile version (diagram_of st)

-- ---- lists
none_there : {A : Type 0} (xs : List A) → is_none xs ≡ true → xs ≡ []
none_there [] e = refl
none_there (x ∷ xs) e = let none : length (x ∷ xs) ≡ 0 = eqb-true (length (x ∷ xs)) 0 e in absurd (omega (arith, none))

all_none : {A : Type 0} (p : A → Bool) (xs : List A) → xs ≡ [] → list_all p xs ≡ true
all_none p xs none = ap (list_all p) none

-- the same test with another number
counted : {A : Type 0} (test : ℕ → A → Bool) (n m : ℕ) (xs : List A) → n ≡ m → list_all (test n) xs ≡ true → list_all (test m) xs ≡ true
counted test n m xs e all = ap (λ k. list_all (test k) xs) (sym e) ∙ all

-- ---- phases and numbers of spiders
spider_lines-last : (version : Version) (n : ℕ) (ss : List diagram.Spider) (s : diagram.Spider)
    → spider_lines version n (ss ++ s ∷ []) ≡ spider_lines version n ss ++ Spider (n + length ss) s.colour (s.phase / unit version) ∷ []
spider_lines-last version n [] s = let e : n ≡ n + 0 = omega arith in ap (λ k. Spider k s.colour (s.phase / unit version) ∷ []) e
spider_lines-last version n (x ∷ xs) s =
    let e : suc n + length xs ≡ n + suc (length xs) = omega arith in
    ap (λ t. Spider n x.colour (x.phase / unit version) ∷ t)
    (spider_lines-last version (suc n) xs s ∙ ap (λ k. spider_lines version (suc n) xs ++ Spider k s.colour (s.phase / unit version) ∷ []) e)

-- ---- edges in their order
sorted-last : (es : List Wire) (e : Wire) → are_sorted es ≡ true → follows es e ≡ true → are_sorted (es ++ e ∷ []) ≡ true
sorted-last [] e sorted fits = refl
sorted-last (d ∷ []) e sorted fits = both _ _ fits refl
sorted-last (d ∷ f ∷ es) e sorted fits = both _ _ (and-left _ _ sorted) (sorted-last (f ∷ es) e (and-right _ _ sorted) fits)

-- ---- one more spider
spider_more : (version : Version) (d : Diagram) (i : ℕ) (colour : Colour) (phase : ℕ) → IsSoFar version (Open d) (diagram_lines version d)
    → spider_fits version d i phase ≡ true → IsSoFar version (Open (spider_added version d colour phase)) (diagram_lines version d ++ Spider i colour phase ∷ [])
spider_more version d i colour phase so fits =
    record {
      lines_said = shift front behind (Spider i colour phase) none_behind ∙ ap (λ t. t ++ behind) (ap (λ l. front ++ l ∷ []) same ∙ sym (spider_lines-last version 0 d.spiders s));
      file = record {
        phases = all-last (has_phase_of version) d.spiders s so.file.phases (both _ _ (and-left _ _ fits) (whole_units version phase));
        edges = all_none _ d.edges no_edges;
        sorted = so.file.sorted;
        inputs = all_none _ d.inputs no_inputs;
        outputs = all_none _ d.outputs no_outputs;
        few_inputs = so.file.few_inputs;
        few_outputs = so.file.few_outputs;
      };
    }
  where
    s : diagram.Spider
    s = record { colour = colour; phase = phase * unit version }

    others : (eqb i (length d.spiders) && (is_none d.edges && (is_none d.inputs && is_none d.outputs))) ≡ true
    others = and-right (ltb (phase * unit version) turn) _ fits

    after : (is_none d.edges && (is_none d.inputs && is_none d.outputs)) ≡ true
    after = and-right (eqb i (length d.spiders)) _ others

    no_edges : d.edges ≡ []
    no_edges = none_there d.edges (and-left _ _ after)

    no_inputs : d.inputs ≡ []
    no_inputs = none_there d.inputs (and-left _ _ (and-right (is_none d.edges) _ after))

    no_outputs : d.outputs ≡ []
    no_outputs = none_there d.outputs (and-right (is_none d.inputs) _ (and-right (is_none d.edges) _ after))

    front : List Line
    front = spider_lines version 0 d.spiders

    behind : List Line
    behind = map Edge d.edges ++ (map Input d.inputs ++ map Output d.outputs)

    none_behind : behind ≡ []
    none_behind = ap₂ (λ es t. map Edge es ++ t) no_edges (ap₂ (λ is os. map Input is ++ map Output os) no_inputs no_outputs)

    same : Spider i colour phase ≡ Spider (0 + length d.spiders) colour ((phase * unit version) / unit version)
    same =
        let at : i ≡ 0 + length d.spiders = eqb-true i (length d.spiders) (and-left _ _ others) ∙ (omega arith) in
        ap₂ (λ k p. Spider k colour p) at (sym (undone version phase))

-- ---- one more edge
edge_more : (version : Version) (d : Diagram) (e : Wire) → IsSoFar version (Open d) (diagram_lines version d) → edge_fits d e ≡ true
    → IsSoFar version (Open (edge_added d e)) (diagram_lines version d ++ Edge e ∷ [])
edge_more version d e so fits =
    record {
      lines_said = append_assoc front (map Edge d.edges ++ behind) (Edge e ∷ [])
          ∙ ap (λ t. front ++ t) (shift (map Edge d.edges) behind (Edge e) none_behind ∙ ap (λ t. t ++ behind) (sym (map-last Edge d.edges e)));
      file = record {
        phases = so.file.phases;
        edges = all-last (is_edge_among (length d.spiders)) d.edges e so.file.edges (and-left _ _ fits);
        sorted = sorted-last d.edges e so.file.sorted (and-left _ _ others);
        inputs = so.file.inputs;
        outputs = so.file.outputs;
        few_inputs = so.file.few_inputs;
        few_outputs = so.file.few_outputs;
      };
    }
  where
    others : (follows d.edges e && (is_none d.inputs && is_none d.outputs)) ≡ true
    others = and-right (is_edge_among (length d.spiders) e) _ fits

    after : (is_none d.inputs && is_none d.outputs) ≡ true
    after = and-right (follows d.edges e) _ others

    front : List Line
    front = spider_lines version 0 d.spiders

    behind : List Line
    behind = map Input d.inputs ++ map Output d.outputs

    none_behind : behind ≡ []
    none_behind =
        ap₂ (λ is os. map Input is ++ map Output os) (none_there d.inputs (and-left _ _ after)) (none_there d.outputs (and-right (is_none d.inputs) _ after))

-- a line behind four lists of lines is one behind the last of them
behind_four : (a b c o : List Line) (l : Line) → (a ++ (b ++ (c ++ o))) ++ l ∷ [] ≡ a ++ (b ++ (c ++ (o ++ l ∷ [])))
behind_four a b c o l =
    append_assoc a (b ++ (c ++ o)) (l ∷ [])
    ∙ ap (λ t. a ++ t) (append_assoc b (c ++ o) (l ∷ []) ∙ ap (λ t. b ++ t) (append_assoc c o (l ∷ [])))

-- a file with other ends
file_ends : {version : Version} {d : Diagram} → IsFile version d → (ins outs : List Leg) → list_all (λ l. ltb l.spider (length d.spiders)) ins ≡ true
    → list_all (λ l. ltb l.spider (length d.spiders)) outs ≡ true → (length ins ≤ most_ends) × (length outs ≤ most_ends)
    → IsFile version (record d { inputs = ins; outputs = outs })
file_ends file ins outs inputs outputs few = record {
  phases = file.phases;
  edges = file.edges;
  sorted = file.sorted;
  inputs = inputs;
  outputs = outputs;
  few_inputs = few.0;
  few_outputs = few.1;
}

-- ---- one more input, one more output
input_more : (version : Version) (d : Diagram) (leg : Leg) → IsSoFar version (Open d) (diagram_lines version d) → input_fits d leg ≡ true
    → IsSoFar version (Open (input_added d leg)) (diagram_lines version d ++ Input leg ∷ [])
input_more version d leg so fits =
    record {
      lines_said = behind_four (spider_lines version 0 d.spiders) (map Edge d.edges) (map Input d.inputs) behind (Input leg)
          ∙ ap (λ t. spider_lines version 0 d.spiders ++ (map Edge d.edges ++ t)) last;
      file = file_ends so.file (d.inputs ++ leg ∷ []) d.outputs
          (all-last (λ l. ltb l.spider (length d.spiders)) d.inputs leg so.file.inputs (and-left _ _ fits)) so.file.outputs
          (omega (arith, few, length-last d.inputs leg), so.file.few_outputs);
    }
  where
    others : (ltb (length d.inputs) most_ends && is_none d.outputs) ≡ true
    others = and-right (ltb leg.spider (length d.spiders)) _ fits

    few : length d.inputs < most_ends
    few = ltb-true (length d.inputs) most_ends (and-left _ _ others)

    behind : List Line
    behind = map Output d.outputs

    none_behind : behind ≡ []
    none_behind = ap (map Output) (none_there d.outputs (and-right (ltb (length d.inputs) most_ends) _ others))

    last : map Input d.inputs ++ (behind ++ Input leg ∷ []) ≡ map Input (d.inputs ++ leg ∷ []) ++ behind
    last = sym (append_assoc (map Input d.inputs) behind (Input leg ∷ []))
        ∙ shift (map Input d.inputs) behind (Input leg) none_behind ∙ ap (λ t. t ++ behind) (sym (map-last Input d.inputs leg))

output_more : (version : Version) (d : Diagram) (leg : Leg) → IsSoFar version (Open d) (diagram_lines version d) → output_fits d leg ≡ true
    → IsSoFar version (Open (output_added d leg)) (diagram_lines version d ++ Output leg ∷ [])
output_more version d leg so fits =
    record {
      lines_said = behind_four (spider_lines version 0 d.spiders) (map Edge d.edges) (map Input d.inputs) (map Output d.outputs) (Output leg)
          ∙ ap (λ t. spider_lines version 0 d.spiders ++ (map Edge d.edges ++ (map Input d.inputs ++ t))) (sym (map-last Output d.outputs leg));
      file = file_ends so.file d.inputs (d.outputs ++ leg ∷ []) so.file.inputs
          (all-last (λ l. ltb l.spider (length d.spiders)) d.outputs leg so.file.outputs (and-left _ _ fits))
          (so.file.few_inputs, omega (arith, few, length-last d.outputs leg));
    }
  where
    few : length d.outputs < most_ends
    few = ltb-true (length d.outputs) most_ends (and-right (ltb leg.spider (length d.spiders)) _ fits)

-- the lines of a file are those of its diagram, then the last one
pub lines-diagram : (version : Version) (d : Diagram) → lines version d ≡ diagram_lines version d ++ End ∷ []
lines-diagram version d =
    sym (behind_four (spider_lines version 0 d.spiders) (map Edge d.edges) (map Input d.inputs) (map Output d.outputs) End)

-- ---- one more line of any kind
more : (version : Version) (d : Diagram) (l : Line) (next : Reader) → IsSoFar version (Open d) (diagram_lines version d) → diagram_step version (Open d) l ≡ Some next
    → IsSoFar version next (diagram_lines version d ++ l ∷ [])
more version d (Spider i colour phase) next so e =
    subst (λ st. IsSoFar version st (diagram_lines version d ++ Spider i colour phase ∷ [])) (only _ _ next e) (spider_more version d i colour phase so (passed _ _ next e))
more version d (Edge w) next so e =
    subst (λ st. IsSoFar version st (diagram_lines version d ++ Edge w ∷ [])) (only _ _ next e) (edge_more version d w so (passed _ _ next e))
more version d (Input leg) next so e =
    subst (λ st. IsSoFar version st (diagram_lines version d ++ Input leg ∷ [])) (only _ _ next e) (input_more version d leg so (passed _ _ next e))
more version d (Output leg) next so e =
    subst (λ st. IsSoFar version st (diagram_lines version d ++ Output leg ∷ [])) (only _ _ next e) (output_more version d leg so (passed _ _ next e))
more version d End next so e =
    subst (λ st. IsSoFar version st (diagram_lines version d ++ End ∷ [])) (same_state e) (record { lines_said = sym (lines-diagram version d); file = so.file })

so_far_more : (version : Version) (st : Reader) (l : Line) (next : Reader) (so_far : List Line) → IsSoFar version st so_far → diagram_step version st l ≡ Some next
    → IsSoFar version next (so_far ++ l ∷ [])
so_far_more version (Open d) l next so_far so e =
    let here = more version d l next (record { lines_said = refl; file = so.file }) e in
    record { lines_said = ap (λ t. t ++ l ∷ []) so.lines_said ∙ here.lines_said; file = here.file }
so_far_more version (Over d) l next so_far so e = absurd (cc)

so_far_run : (version : Version) (st : Reader) (ls : List Line) (last : Reader) (so_far : List Line) → IsSoFar version st so_far
    → run (diagram_step version) (Some st) ls ≡ Some last → IsSoFar version last (so_far ++ ls)
so_far_run version = kept_by_run (diagram_step version) (IsSoFar version) (so_far_more version)

so_far_begun : (version : Version) → IsSoFar version begun []
so_far_begun version = record {
  lines_said = refl;
  file = record { phases = refl; edges = refl; sorted = refl; inputs = refl; outputs = refl; few_inputs = omega arith; few_outputs = omega arith };
}

-- lines that lead to the end are all lines of a file
pub sound : (version : Version) (ls : List Line) (d : Diagram) → run (diagram_step version) (Some begun) ls ≡ Some (Over d) → (ls ≡ lines version d) × IsFile version d
sound version ls d e =
    let so = so_far_run version begun ls (Over d) [] (so_far_begun version) e in
    (so.lines_said, so.file)
