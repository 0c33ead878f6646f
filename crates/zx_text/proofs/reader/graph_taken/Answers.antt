-- Each kind of line.
use Rattle.std.proofs.Common.{refl, false}
use Rattle.zx_text.specs.Internal.Stepping.{InGraph}
use Rattle.zx_text.proofs.StepLemmas.{kept_by}
use Rattle.zx_text.proofs.reader.graph_taken.Goals as goal
use Rattle.zx_text.proofs.reader.graph_taken.Goals.{in-Vertex, in-Edge, in-Input, in-Output, in-Order, in-Correct}

pub returns : goal.returns
returns c = elim c.match-line.branch [
  | in-Vertex w ↦ rw w.in-Vertex.is (kept_by InGraph c.kept.result _ _ w.fits-is w.part-is w.take_vertex-fits.ensures.fits w.take_vertex-fits.ensures.added c.kept.ensures)
  | in-Edge w ↦ rw w.in-Edge.is (kept_by InGraph c.kept.result _ _ w.fits-is w.part-is w.take_edge-fits.ensures.fits w.take_edge-fits.ensures.added c.kept.ensures)
  | in-Input w ↦ rw w.in-Input.is (kept_by InGraph c.kept.result _ _ w.fits-is w.part-is w.take_input-fits.ensures.fits w.take_input-fits.ensures.added c.kept.ensures)
  | in-Output w ↦ rw w.in-Output.is (kept_by InGraph c.kept.result _ _ w.fits-is w.part-is w.take_output-fits.ensures.fits w.take_output-fits.ensures.added c.kept.ensures)
  | in-Order w ↦ rw w.in-Order.is (kept_by InGraph c.kept.result c.args.part false w.fits-is w.part-is refl (λ e. refl) c.kept.ensures)
  | in-Correct w ↦ rw w.in-Correct.is (kept_by InGraph c.kept.result c.args.part false w.fits-is w.part-is refl (λ e. refl) c.kept.ensures)
]
