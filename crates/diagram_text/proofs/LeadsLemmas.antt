-- The lines of a file lead to its end.
use Rattle.std.proofs.Common.{◌≡◌, ℕ, ◌*◌, ◌/◌, ◌%◌, ◌≤◌, suc, true, ltb, List, [], ◌∷◌, ◌++◌, map, length, refl, sym, ap, ◌∙◌, subst, lt-ltb, eqb-true, append_assoc, append-nil, length-append, arith, Some}
use Rattle.std.specs.List.{list_all}
use Rattle.zx_model.specs.Phase.{turn}
use Rattle.zx_calculus.proofs.Ids.{and-left, and-right, eqb-self}
use Rattle.zx_calculus.proofs.Kept.{both}
use Rattle.zx_diagram.specs.declared.spider.Spider as diagram
use Rattle.zx_diagram.specs.declared.wire.Wire.{Wire}
use Rattle.zx_diagram.specs.declared.wire.Leg.{Leg}
use Rattle.zx_diagram.specs.Diagram.{Diagram}
use Rattle.zx_text.specs.Files.{Version, unit}
use Rattle.zx_text.specs.Reading.{most_ends}
use Rattle.zx_text.specs.Formats.{run}
use Rattle.zx_text.proofs.PartLemmas.{length-last}
use Rattle.zx_text.proofs.RunLemmas.{then_run, run_step, fitting}
use Rattle.zx_text.proofs.LeadsLemmas.{redone}
use Rattle.diagram_text.specs.declared.line.Line.TheVariants.{Spider, Edge, Input, Output}
use Rattle.diagram_text.specs.declared.reader.Reader.TheVariants.{Open, Over}
use Rattle.diagram_text.specs.Files.{spider_lines, lines}
use Rattle.diagram_text.specs.Reading.{IsFile, are_sorted, has_phase_of, is_edge_among}
use Rattle.diagram_text.specs.Internal.Stepping.{diagram_step, begun, follows, spider_fits, edge_fits, input_fits, output_fits}

abbrev with_parts : List diagram.Spider → List Wire → List Leg → List Leg → Diagram
with_parts spiders edges inputs outputs = record { spiders = spiders; edges = edges; inputs = inputs; outputs = outputs }

-- one more in front of the rest
moved : {A : Type 0} (done : List A) (x : A) (rest : List A) → (done ++ x ∷ []) ++ rest ≡ done ++ x ∷ rest
moved done x rest = append_assoc done (x ∷ []) rest

-- ---- spiders
spiders_run : (version : Version) (done rest : List diagram.Spider) → list_all (has_phase_of version) rest ≡ true
    → run (diagram_step version) (Some (Open (with_parts done [] [] []))) (spider_lines version (length done) rest) ≡ Some (Open (with_parts (done ++ rest) [] [] []))
spiders_run version done [] fits = ap (λ ss. Some (Open (with_parts ss [] [] []))) (sym (append-nil done))
spiders_run version done (s ∷ ss) fits =
    let k : ℕ = s.phase / unit version in
    let here = and-left _ _ fits in
    let exact : k * unit version ≡ s.phase = redone version s.phase (eqb-true (s.phase % unit version) 0 (and-right (ltb s.phase turn) _ here)) in
    let below : ltb (k * unit version) turn ≡ true = ap (λ n. ltb n turn) exact ∙ and-left _ _ here in
    let fit : spider_fits version (with_parts done [] [] []) (length done) k ≡ true = both _ _ below (both _ _ (eqb-self (length done)) refl) in
    let added : record { colour = s.colour; phase = k * unit version } ≡ s = ap (λ n. record { colour = s.colour; phase = n }) exact in
    let next : length (done ++ s ∷ []) ≡ suc (length done) = length-last done s ∙ (omega arith) in
    run_step (diagram_step version) (Open (with_parts done [] [] [])) (Open (with_parts (done ++ record { colour = s.colour; phase = k * unit version } ∷ []) [] [] []))
    (Spider (length done) s.colour k) (spider_lines version (suc (length done)) ss) (fitting _ _ fit)
    ∙ ap (λ x. run (diagram_step version) (Some (Open (with_parts (done ++ x ∷ []) [] [] []))) (spider_lines version (suc (length done)) ss)) added
    ∙ ap (λ n. run (diagram_step version) (Some (Open (with_parts (done ++ s ∷ []) [] [] []))) (spider_lines version n ss)) (sym next)
    ∙ spiders_run version (done ++ s ∷ []) ss (and-right _ _ fits)
    ∙ ap (λ xs. Some (Open (with_parts xs [] [] []))) (moved done s ss)

-- ---- edges
follows_at : (done : List Wire) (e : Wire) (rest : List Wire) → are_sorted (done ++ e ∷ rest) ≡ true → follows done e ≡ true
follows_at [] e rest sorted = refl
follows_at (d ∷ []) e rest sorted = and-left _ _ sorted
follows_at (d ∷ f ∷ done) e rest sorted = follows_at (f ∷ done) e rest (and-right _ _ sorted)

edges_run : (version : Version) (ss : List diagram.Spider) (done rest : List Wire) → list_all (is_edge_among (length ss)) rest ≡ true
    → are_sorted (done ++ rest) ≡ true
    → run (diagram_step version) (Some (Open (with_parts ss done [] []))) (map Edge rest) ≡ Some (Open (with_parts ss (done ++ rest) [] []))
edges_run version ss done [] among sorted = ap (λ es. Some (Open (with_parts ss es [] []))) (sym (append-nil done))
edges_run version ss done (e ∷ es) among sorted =
    let fit : edge_fits (with_parts ss done [] []) e ≡ true = both _ _ (and-left _ _ among) (both _ _ (follows_at done e es sorted) refl) in
    run_step (diagram_step version) (Open (with_parts ss done [] [])) (Open (with_parts ss (done ++ e ∷ []) [] [])) (Edge e) (map Edge es) (fitting _ _ fit)
    ∙ edges_run version ss (done ++ e ∷ []) es (and-right _ _ among) (ap are_sorted (moved done e es) ∙ sorted)
    ∙ ap (λ xs. Some (Open (with_parts ss xs [] []))) (moved done e es)

-- ---- ends
few_so_far : {A : Type 0} (done : List A) (x : A) (rest : List A) → length (done ++ x ∷ rest) ≤ most_ends → ltb (length done) most_ends ≡ true
few_so_far done x rest few =
    let size = length-append done (x ∷ rest) in
    lt-ltb (length done) most_ends (omega (arith, few, size))

inputs_run : (version : Version) (ss : List diagram.Spider) (es : List Wire) (done rest : List Leg) → list_all (λ leg. ltb leg.spider (length ss)) rest ≡ true
    → length (done ++ rest) ≤ most_ends
    → run (diagram_step version) (Some (Open (with_parts ss es done []))) (map Input rest) ≡ Some (Open (with_parts ss es (done ++ rest) []))
inputs_run version ss es done [] there few = ap (λ ls. Some (Open (with_parts ss es ls []))) (sym (append-nil done))
inputs_run version ss es done (leg ∷ legs) there few =
    let fit : input_fits (with_parts ss es done []) leg ≡ true = both _ _ (and-left _ _ there) (both _ _ (few_so_far done leg legs few) refl) in
    run_step (diagram_step version) (Open (with_parts ss es done [])) (Open (with_parts ss es (done ++ leg ∷ []) [])) (Input leg) (map Input legs) (fitting _ _ fit)
    ∙ inputs_run version ss es (done ++ leg ∷ []) legs (and-right _ _ there) (subst (λ ls. length ls ≤ most_ends) (sym (moved done leg legs)) few)
    ∙ ap (λ xs. Some (Open (with_parts ss es xs []))) (moved done leg legs)

outputs_run : (version : Version) (ss : List diagram.Spider) (es : List Wire) (is done rest : List Leg) → list_all (λ leg. ltb leg.spider (length ss)) rest ≡ true
    → length (done ++ rest) ≤ most_ends
    → run (diagram_step version) (Some (Open (with_parts ss es is done))) (map Output rest) ≡ Some (Open (with_parts ss es is (done ++ rest)))
outputs_run version ss es is done [] there few = ap (λ ls. Some (Open (with_parts ss es is ls))) (sym (append-nil done))
outputs_run version ss es is done (leg ∷ legs) there few =
    let fit : output_fits (with_parts ss es is done) leg ≡ true = both _ _ (and-left _ _ there) (few_so_far done leg legs few) in
    run_step (diagram_step version) (Open (with_parts ss es is done)) (Open (with_parts ss es is (done ++ leg ∷ []))) (Output leg) (map Output legs) (fitting _ _ fit)
    ∙ outputs_run version ss es is (done ++ leg ∷ []) legs (and-right _ _ there) (subst (λ ls. length ls ≤ most_ends) (sym (moved done leg legs)) few)
    ∙ ap (λ xs. Some (Open (with_parts ss es is xs))) (moved done leg legs)

-- ---- all lines
pub complete : (version : Version) (d : Diagram) → IsFile version d → run (diagram_step version) (Some begun) (lines version d) ≡ Some (Over d)
complete version d file =
    then_run (diagram_step version) (Some begun) _ (spider_lines version 0 d.spiders) _ (spiders_run version [] d.spiders file.phases)
    ∙ then_run (diagram_step version) (Some _) _ (map Edge d.edges) _ (edges_run version d.spiders [] d.edges file.edges file.sorted)
    ∙ then_run (diagram_step version) (Some _) _ (map Input d.inputs) _ (inputs_run version d.spiders d.edges [] d.inputs file.inputs file.few_inputs)
    ∙ then_run (diagram_step version) (Some _) _ (map Output d.outputs) _ (outputs_run version d.spiders d.edges d.inputs [] d.outputs file.outputs file.few_outputs)
