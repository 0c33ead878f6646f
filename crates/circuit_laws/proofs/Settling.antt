-- Phases, edges and marks at outputs, and new outputs after a Hadamard.
use Rattle.std.proofs.Common.{◌≡◌, sym, ◌∙◌, ap, ap₂, ℕ, Bool, List, [], ◌∷◌, length}
use Rattle.std.proofs.Math.ListN.{length-set}
use Rattle.std.specs.Prelude.{slice_get, Some}
use Rattle.zx_model.specs.Number.{Number, one, mul, sign}
use Rattle.zx_model.specs.Sums.{sum_over}
use Rattle.zx_model.proofs.Ring.{sorted, mul-sign}
use Rattle.zx_model.proofs.SumLemmas.{sum_over_same}
use Rattle.zx_calculus.specs.Internal.Pairs.{quad}
use Rattle.zx_calculus.specs.Graph.{Graph, ids, joined, with_kinds, WellFormed, plain}
use Rattle.zx_calculus.specs.Gadgets.{fuse_kind}
use Rattle.zx_calculus.specs.Sum.{vertex_product, end_product}
use Rattle.zx_calculus.proofs.Forms.{value}
use Rattle.zx_calculus.proofs.Vertices.{ids-with_kinds}
use Rattle.zx_calculus.proofs.Splitting.{distinct}
use Rattle.zx_calculus.proofs.Gadgets.{fused_product}
use Rattle.zx_calculus.proofs.Pairs.{quad-toggled}
use Rattle.zx_gates.specs.Maps.{act}
use Rattle.zx_gates.specs.declared.gate.Gate.TheVariants.{H, Phase, Cz}
use Rattle.circuit_laws.specs.Followed.{followed, PeelsAt}
use Rattle.circuit_laws.specs.Peeling.{IsPhasePeel, IsEdgePeel, IsMarkPeel}
use Rattle.circuit_laws.proofs.Leaving.{leave, around, followed_is_form, leave-phase, leave-cz, leave-marked}
use Rattle.circuit_laws.proofs.Composing.{peels_exactly}
use Rattle.circuit_laws.proofs.Places.{output_there, output_plane}

phase_in : (s p q i o : Number) → mul (mul s p) (mul q (mul i o)) ≡ mul p (mul q (mul i (mul s o)))
phase_in s p q i o = simp sorted

pub phase_peeled : (g : Graph) (q k : ℕ) (h : Graph) (f : List Bool → Number) (x : List Bool) → WellFormed g →
    WellFormed h → IsPhasePeel g q k h →
    followed g f x ≡ followed h (act (Phase q k) f) x
phase_peeled g q k h f x wg wh c =
    followed_is_form g f x wg
    ∙ rw (c.vertices, c.edges, c.inputs, c.outputs)
    (ap (λ is. sum_over is (value (joined h.edges) (around h.inputs h.outputs x f) (with_kinds (fuse_kind c.vertex k) h.vertices))) (ids-with_kinds (fuse_kind c.vertex k) h.vertices)
    ∙ sum_over_same (ids h.vertices) _ _ at
    ∙ sym (followed_is_form h (act (Phase q k) f) x wh))
  where
    output : slice_get h.outputs q ≡ Some (plain c.vertex)
    output = ap (λ es. slice_get es q) (sym c.outputs) ∙ c.output

    at : (label : ℕ → Bool) →
        value (joined h.edges) (around h.inputs h.outputs x f) (with_kinds (fuse_kind c.vertex k) h.vertices) label
        ≡ value (joined h.edges) (around h.inputs h.outputs x (act (Phase q k) f)) h.vertices label
    at label =
        ap₂ (λ is p. mul p (mul (sign (quad (joined h.edges) is label)) (around h.inputs h.outputs x f label))) (ids-with_kinds (fuse_kind c.vertex k) h.vertices)
        (fused_product c.vertex k h.vertices label (distinct h wh) (output_there h q (plain c.vertex) wh output) (output_plane h q (plain c.vertex) wh output))
        ∙ phase_in _ _ _ _ _
        ∙ ap (λ o. mul (vertex_product h.vertices label) (mul (sign (quad (joined h.edges) (ids h.vertices) label)) (mul (end_product h.inputs x label) o)))
        (sym (leave-phase h.outputs q c.vertex k f label output))

edge_in : (s t p i o : Number) → mul p (mul (mul t s) (mul i o)) ≡ mul p (mul t (mul i (mul s o)))
edge_in s t p i o = simp sorted

pub edge_peeled : (g : Graph) (p q : ℕ) (h : Graph) (f : List Bool → Number) (x : List Bool) → WellFormed g →
    WellFormed h → IsEdgePeel g p q h →
    followed g f x ≡ followed h (act (Cz p q) f) x
edge_peeled g p q h f x wg wh c =
    followed_is_form g f x wg
    ∙ rw (c.vertices, c.frame.inputs, c.frame.outputs)
    (sum_over_same (ids h.vertices) _ _ at
    ∙ sym (followed_is_form h (act (Cz p q) f) x wh))
  where
    output : slice_get h.outputs p ≡ Some (plain c.first)
    output = ap (λ es. slice_get es p) (sym c.frame.outputs) ∙ c.output

    output_too : slice_get h.outputs q ≡ Some (plain c.second)
    output_too = ap (λ es. slice_get es q) (sym c.frame.outputs) ∙ c.output_too

    at : (label : ℕ → Bool) → value (joined g.edges) (around h.inputs h.outputs x f) h.vertices label
        ≡ value (joined h.edges) (around h.inputs h.outputs x (act (Cz p q) f)) h.vertices label
    at label =
        ap (λ b. mul (vertex_product h.vertices label) (mul b (around h.inputs h.outputs x f label)))
        (ap sign (quad-toggled (joined g.edges) (joined h.edges) c.first c.second (ids h.vertices) label (distinct h wh) c.different
        (output_there h p (plain c.first) wh output) (output_there h q (plain c.second) wh output_too) c.edges)
        ∙ sym (mul-sign _ _))
        ∙ edge_in _ _ _ _ _
        ∙ ap (λ o. mul (vertex_product h.vertices label) (mul (sign (quad (joined h.edges) (ids h.vertices) label)) (mul (end_product h.inputs x label) o)))
        (sym (leave-cz h.outputs p q c.first c.second f label output output_too))

pub mark_peeled : (g : Graph) (q : ℕ) (h : Graph) (f : List Bool → Number) (x : List Bool) → WellFormed g →
    WellFormed h → IsMarkPeel g q h →
    followed g f x ≡ followed h (act (H q) f) x
mark_peeled g q h f x wg wh c =
    followed_is_form g f x wg
    ∙ rw (c.vertices, c.edges, c.inputs)
    (sum_over_same (ids h.vertices) _ _
    (λ label. ap (λ o. mul (vertex_product h.vertices label) (mul (sign (quad (joined h.edges) (ids h.vertices) label)) (mul (end_product h.inputs x label) o)))
    (leave-marked g.outputs q c.vertex f label c.output ∙ ap (λ es. leave es (act (H q) f) label) (sym c.outputs)))
    ∙ sym (followed_is_form h (act (H q) f) x wh))

pub phase_peels : (g : Graph) (q k : ℕ) (h : Graph) → WellFormed g → WellFormed h → IsPhasePeel g q k h →
    PeelsAt one g (Phase q k ∷ []) h
phase_peels g q k h wg wh c = peels_exactly g (Phase q k ∷ []) h (ap length (sym c.inputs)) (ap length (sym c.outputs)) (λ f x. phase_peeled g q k h f x wg wh c)

pub edge_peels : (g : Graph) (p q : ℕ) (h : Graph) → WellFormed g → WellFormed h → IsEdgePeel g p q h →
    PeelsAt one g (Cz p q ∷ []) h
edge_peels g p q h wg wh c = peels_exactly g (Cz p q ∷ []) h (ap length (sym c.frame.inputs)) (ap length (sym c.frame.outputs)) (λ f x. edge_peeled g p q h f x wg wh c)

pub mark_peels : (g : Graph) (q : ℕ) (h : Graph) → WellFormed g → WellFormed h → IsMarkPeel g q h →
    PeelsAt one g (H q ∷ []) h
mark_peels g q h wg wh c =
    peels_exactly g (H q ∷ []) h (ap length (sym c.inputs)) (ap length c.outputs ∙ length-set g.outputs q (plain c.vertex)) (λ f x. mark_peeled g q h f x wg wh c)
