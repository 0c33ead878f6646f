-- What a line of a graph file does: one vertex more at most, and its numbers are small.
use Rattle.std.proofs.Common.{◌≡◌, ℕ, ◌+◌, ◌*◌, ◌^◌, ◌<◌, ◌≤◌, Bool, true, false, eqb, ltb, ◌&&◌, List, [], ◌∷◌, ◌++◌, length, drop, refl, sym, ap, ap₂, ◌∙◌, subst, ltb-true, lt-ltb, eqb-true, arith, Option, Some, Result, Ok, Err, IfOk}
use Rattle.std.specs.List.{list_all}
use Rattle.std.specs.Option.{option_map}
use Rattle.zx_model.specs.Phase.{turn}
use Rattle.zx_model.specs.Bits.{member}
use Rattle.zx_calculus.specs.Graph.{in_order, different}
use Rattle.zx_calculus.proofs.Ids.{eqb-self, and-left, and-right, member-here, member-append}
use Rattle.zx_calculus.proofs.Kept.{both}
use Rattle.zx_text.specs.Files.{Version, One, Two, unit, non_outputs}
use Rattle.zx_text.specs.Lines.{Line, VertexLine, EdgeLine, InputLine, OutputLine, FlowLine, OrderLine, CorrectLine, EndLine}
use Rattle.zx_text.specs.Reading.{Wanted}
use Rattle.zx_text.specs.Internal.SmallNumbers.{is_small}
use Rattle.zx_text.specs.Internal.Taking.{has_small}
use Rattle.zx_text.specs.Internal.Stepping.{Sets, LinesSoFar, InGraph, AtFlow, InSets, Over, only_if, file_step, flow_step, set_step, vertices_of, order_fits, set_fits, set_added}
use Rattle.zx_text.specs.Internal.Readers.{lines_so_far, IsReadIfFits}
use Rattle.zx_text.specs.Internal.Said.{AreSetsOf, IsSoFar}
use Rattle.zx_text.specs.declared.reader.Reader.{Reader}
use Rattle.zx_text.proofs.PartLemmas.{length-last}
use Rattle.zx_text.proofs.SetLemmas.{none_out}
use Rattle.zx_text.proofs.RunLemmas.{only, passed}
use Rattle.zx_text.proofs.SaidLemmas.{end_place, below_of_id, last_true}

pub vertices_after : (version : Version) (wanted : Wanted) (st : LinesSoFar) (l : Line) (next : LinesSoFar) → file_step version wanted st l ≡ Some next
    → length (vertices_of next) ≤ length (vertices_of st) + 1
vertices_after version wanted (InGraph p) (VertexLine i plane phase) next e =
    let same = only _ _ next e in
    let more = length-last p.graph.vertices (record { id = i; kind = record { plane = plane; phase = phase * unit version } }) in
    omega (arith, ap (λ s. length (vertices_of s)) same, more)
vertices_after version wanted (InGraph p) FlowLine next e = let same = only true (AtFlow p.graph) next e in omega (arith, ap (λ s. length (vertices_of s)) same)
vertices_after version wanted (InGraph p) (OrderLine order) next e = absurd (cc)
vertices_after version wanted (InGraph p) (CorrectLine v members) next e = absurd (cc)
vertices_after version wanted (InGraph p) l next e = let same = only _ _ next e in omega (arith, ap (λ s. length (vertices_of s)) same)
vertices_after version wanted (AtFlow g) l next e = flow_after l e
  where
    flow_after : (l : Line) → flow_step g l ≡ Some next → length (vertices_of next) ≤ length g.vertices + 1
    flow_after (OrderLine order) e = let same = only _ _ next e in omega (arith, ap (λ s. length (vertices_of s)) same)
    flow_after l e = absurd (cc)
vertices_after version wanted (InSets p) l next e = set_after p.left l e
  where
    set_after : (left : List ℕ) (l : Line) → set_step p left l ≡ Some next → length (vertices_of next) ≤ length p.graph.vertices + 1
    set_after [] EndLine e = let same = only true (Over p.graph (Some p.table)) next e in omega (arith, ap (λ s. length (vertices_of s)) same)
    set_after (v ∷ left) (CorrectLine u members) e = let same = only _ _ next e in omega (arith, ap (λ s. length (vertices_of s)) same)
    set_after left l e = absurd (cc)
vertices_after version wanted (Over g table) l next e = absurd (cc)

-- ---- numbers in lines that fit are small
pub small : (v : ℕ) → v ≤ 2 ^ 32 → is_small v ≡ true
small v le = lt-ltb v (2 ^ 64) (omega arith)

pub small_phase : (version : Version) (phase : ℕ) → phase * unit version < turn → is_small phase ≡ true
small_phase One phase lt = small phase (omega (arith, lt))
small_phase Two phase lt = small phase (omega (arith, lt))

small_below : (n : ℕ) (vs : List ℕ) → n ≤ 2 ^ 32 → list_all (λ w. ltb w n) vs ≡ true → list_all is_small vs ≡ true
small_below n [] le all = refl
small_below n (v ∷ vs) le all =
    let lt = ltb-true v n (and-left _ _ all) in
    both _ _ (small v (omega (arith, lt, le))) (small_below n vs le (and-right _ _ all))

pub small_next : (version : Version) (wanted : Wanted) (st : LinesSoFar) (so_far : List Line) (l : Line) (next : LinesSoFar) → IsSoFar version wanted st so_far
    → length (vertices_of st) ≤ 2 ^ 32 → file_step version wanted st l ≡ Some next → has_small l ≡ true
small_next version wanted (InGraph p) so_far (VertexLine i plane phase) next so few e =
    let others = and-right _ _ (passed _ _ _ e) in
    let at = eqb-true i (length p.graph.vertices) (and-left _ _ others) in
    both _ _ (small i (omega (arith, at, few))) (small_phase version phase (ltb-true (phase * unit version) turn (and-right _ _ others)))
small_next version wanted (InGraph p) so_far (EdgeLine a b) next so few e =
    let others = and-right _ _ (passed _ _ _ e) in
    let first = ltb-true a b (and-left _ _ others) in
    let second = ltb-true b (length p.graph.vertices) (and-left _ _ (and-right _ _ others)) in
    both _ _ (small a (omega (arith, first, second, few))) (small b (omega (arith, second, few)))
small_next version wanted (InGraph p) so_far (InputLine v hadamard) next so few e =
    let place = end_place p.graph p.graph.inputs v (and-right _ _ (passed _ _ _ e)) in
    let live = place.live in
    small v (omega (arith, live, few))
small_next version wanted (InGraph p) so_far (OutputLine v hadamard) next so few e =
    let place = end_place p.graph p.graph.outputs v (and-right _ _ (passed _ _ _ e)) in
    let live = place.live in
    small v (omega (arith, live, few))
small_next version wanted (InGraph p) so_far FlowLine next so few e = refl
small_next version wanted (InGraph p) so_far EndLine next so few e = refl
small_next version wanted (InGraph p) so_far l next so few e = absurd (cc)
small_next version wanted (AtFlow g) so_far l next so few e = small_flow l e
  where
    each : (vs : List ℕ) → list_all (λ v. member v (non_outputs g)) vs ≡ true → list_all is_small vs ≡ true
    each [] all = refl
    each (v ∷ vs) all =
        let lt = below_of_id so.graph v (and-left _ _ (sym (none_out g v) ∙ and-left _ _ all)) in
        both _ _ (small v (omega (arith, lt, few))) (each vs (and-right _ _ all))

    small_flow : (l : Line) → flow_step g l ≡ Some next → has_small l ≡ true
    small_flow (OrderLine order) e = each order (and-left _ _ (and-right (in_order different order) _ (passed (order_fits g order) _ _ e)))
    small_flow l e = absurd (cc)
small_next version wanted (InSets p) so_far l next so few e = small_set p.left l refl e
  where
    stage : AreSetsOf p
    stage = so.stage

    small_set : (left : List ℕ) (l : Line) → p.left ≡ left → set_step p left l ≡ Some next → has_small l ≡ true
    small_set [] EndLine at e = refl
    small_set (v ∷ left) (CorrectLine u members) at e =
        let fits = passed (eqb u v && set_fits p.graph members) _ _ e in
        let same = eqb-true u v (and-left _ _ fits) in
        let there : member v (non_outputs p.graph) ≡ true =
        ap (member v) (stage.all ∙ ap (λ vs. p.done ++ vs) at) ∙ member-append v p.done (v ∷ left) ∙ last_true (member v p.done) _ (member-here v left) in
        let lt = below_of_id so.graph v (and-left _ _ (sym (none_out p.graph v) ∙ there)) in
        both _ _ (small u (omega (arith, same, lt, few)))
        (small_below (length p.graph.vertices) members few (and-right (in_order ltb members) _ (and-right (eqb u v) _ fits)))
    small_set left l at e = absurd (cc)
small_next version wanted (Over g table) so_far l next so few e = absurd (cc)

-- ---- what is read so far is kept where a line fits
kept_step : {A E : Type 0} (wrap : A → LinesSoFar) (fits : Result Bool E) (answer : Result (Option Reader) E) (new added : A) (test : Bool) → IfOk fits (λ b. b ≡ test)
    → IfOk fits (λ b. b ≡ true → new ≡ added) → IsReadIfFits fits (wrap new) answer → IfOk answer (λ next. option_map lines_so_far next ≡ only_if test (wrap added))
kept_step wrap (Ok true) (Ok next) new added test is gives kept = kept ∙ ap (λ x. Some (wrap x)) (gives refl) ∙ ap (λ t. only_if t (wrap added)) is
kept_step wrap (Ok false) (Ok next) new added test is gives kept = kept ∙ ap (λ t. only_if t (wrap added)) is
kept_step wrap (Err e) (Ok next) new added test is gives kept = absurd kept
kept_step wrap fits (Err e) new added test is gives kept = tt

pub kept_by : {A E : Type 0} (wrap : A → LinesSoFar) {fits made : Result Bool E} (answer : Result (Option Reader) E) {after new : A} (added : A) (test : Bool) → fits ≡ made → after ≡ new
    → IfOk made (λ b. b ≡ test) → IfOk made (λ b. b ≡ true → new ≡ added) → IsReadIfFits fits (wrap after) answer
    → IfOk answer (λ next. option_map lines_so_far next ≡ only_if test (wrap added))
kept_by wrap {fits} {made} answer {after} {new} added test same_fits same_new is gives kept =
    kept_step wrap made answer new added test is gives
    (subst (λ f. IsReadIfFits f (wrap new) answer) same_fits (subst (λ a. IsReadIfFits fits (wrap a) answer) same_new kept))

-- what the line of the next set does
pub set_next : (p : Sets) (next v : ℕ) (members given : List ℕ) → p.left ≡ next ∷ drop 1 p.left → v ≡ next → given ≡ members
    → set_step p p.left (CorrectLine v members) ≡ only_if (set_fits p.graph given) (InSets (set_added p (drop 1 p.left) next given))
set_next p next v members given at same equal =
    ap (λ l. set_step p l (CorrectLine v members)) at
    ∙ ap₂ (λ w ms. only_if (eqb w next && set_fits p.graph ms) (InSets (set_added p (drop 1 p.left) w ms))) same (sym equal)
    ∙ ap (λ b. only_if (b && set_fits p.graph given) (InSets (set_added p (drop 1 p.left) next given))) (eqb-self next)
