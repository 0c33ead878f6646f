-- What a line of a diagram file does: one spider more at most, and its numbers are small.
use Rattle.std.proofs.Common.{◌≡◌, ◌+◌, ◌*◌, ◌^◌, ◌≤◌, true, ltb, leb, length, refl, ap, ltb-true, eqb-true, arith, Some}
use Rattle.std.proofs.lemmas.Bool.{leb-true}
use Rattle.zx_model.specs.Phase.{turn}
use Rattle.zx_calculus.proofs.Ids.{and-left, and-right}
use Rattle.zx_calculus.proofs.Kept.{both}
use Rattle.zx_text.specs.Files.{Version, unit}
use Rattle.zx_text.proofs.PartLemmas.{length-last}
use Rattle.zx_text.proofs.RunLemmas.{same_state, only, passed}
use Rattle.zx_text.proofs.StepLemmas.{small, small_phase}
use Rattle.diagram_text.specs.declared.line.Line.{Line}
use Rattle.diagram_text.specs.declared.line.Line.TheVariants.{Spider, Edge, Input, Output, End}
use Rattle.diagram_text.specs.declared.reader.Reader.{Reader}
use Rattle.diagram_text.specs.declared.reader.Reader.TheVariants.{Open, Over}
use Rattle.diagram_text.specs.Internal.Stepping.{has_small, diagram_step, spiders_of}

pub spiders_after : (version : Version) (st : Reader) (l : Line) (next : Reader) → diagram_step version st l ≡ Some next → spiders_of next ≤ spiders_of st + 1
spiders_after version (Open d) (Spider i colour phase) next e =
    let same = only _ _ next e in
    let more = length-last d.spiders (record { colour = colour; phase = phase * unit version }) in
    omega (arith, ap spiders_of same, more)
spiders_after version (Open d) End next e = let same = same_state e in omega (arith, ap spiders_of same)
spiders_after version (Open d) l next e = let same = only _ _ next e in omega (arith, ap spiders_of same)
spiders_after version (Over d) l next e = absurd (cc)

pub small_next : (version : Version) (st : Reader) (l : Line) (next : Reader) → spiders_of st ≤ 2 ^ 32 → diagram_step version st l ≡ Some next → has_small l ≡ true
small_next version (Open d) (Spider i colour phase) next few e =
    let fits = passed _ _ next e in
    let at = eqb-true i (length d.spiders) (and-left _ _ (and-right (ltb (phase * unit version) turn) _ fits)) in
    both _ _ (small i (omega (arith, at, few))) (small_phase version phase (ltb-true (phase * unit version) turn (and-left _ _ fits)))
small_next version (Open d) (Edge w) next few e =
    let among = and-left _ _ (passed _ _ next e) in
    let first = leb-true w.a w.b (and-left _ _ among) in
    let second = ltb-true w.b (length d.spiders) (and-right (leb w.a w.b) _ among) in
    both _ _ (small w.a (omega (arith, first, second, few))) (small w.b (omega (arith, second, few)))
small_next version (Open d) (Input leg) next few e =
    let there = ltb-true leg.spider (length d.spiders) (and-left _ _ (passed _ _ next e)) in
    small leg.spider (omega (arith, there, few))
small_next version (Open d) (Output leg) next few e =
    let there = ltb-true leg.spider (length d.spiders) (and-left _ _ (passed _ _ next e)) in
    small leg.spider (omega (arith, there, few))
small_next version (Open d) End next few e = refl
small_next version (Over d) l next few e = absurd (cc)
