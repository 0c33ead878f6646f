-- How many ids a graph needs once a gate stands behind it.
use Rattle.std.proofs.Common.{◌≡◌, refl, ap, true≢false, ℕ, ◌+◌, ◌≤◌, Bool, true, false, ◌&&◌, arith, [], ◌∷◌, length, set}
use Rattle.std.specs.List.{count_by}
use Rattle.zx_model.specs.Bits.{member, one_if}
use Rattle.zx_calculus.specs.Graph.{Graph, ids, end_vertices, WellFormed, plain}
use Rattle.zx_calculus.specs.Gadgets.{fuse_kind}
use Rattle.zx_calculus.specs.Splits.{spider_of_phase_zero}
use Rattle.zx_calculus.proofs.CountLemmas.{Test, count, count-with_kinds, count_at_most, count-insert}
use Rattle.zx_calculus.proofs.Ids.{apart_of_member}
use Rattle.zx_calculus.proofs.Splitting.{distinct, absent_from}
use Rattle.move_laws.specs.Demand.{with_both, has_both, demand}
use Rattle.zx_gates.specs.Counting.{is_h}
use Rattle.zx_gates.specs.declared.gate.Gate.{Gate}
use Rattle.zx_gates.specs.declared.gate.Gate.TheVariants.{H, Phase, Cz, Cx, Not}
use Rattle.growing_laws.specs.Growing.{placed}
use Rattle.growing_laws.proofs.Parts.{spot, member-set_none}
use Rattle.growing_laws.proofs.Peeled.{placed_length}

abbrev never : Test
never p k = false

fewer_both : (i o o' : Bool) → (o ≡ false → o' ≡ false) → one_if (i && o') + one_if false ≤ one_if (i && o) + one_if false
fewer_both true true true h = omega arith
fewer_both true true false h = omega arith
fewer_both true false true h = absurd (true≢false (h refl))
fewer_both true false false h = omega arith
fewer_both false o o' h = omega arith

same_demand : (a b c d : ℕ) → a ≡ c → b ≡ d → a + b ≤ c + d + 0
same_demand a b c d e f = omega arith

more_demand : (a b c d x y n : ℕ) → a ≡ c + 1 → b ≡ x + y → x ≡ 0 → y + n ≤ d + n → a + b ≤ c + d + 1
more_demand a b c d x y n e f g h = omega arith

pub placed_demand : (new : ℕ) (g : Graph) (gate : Gate) → WellFormed g → member new (ids g.vertices) ≡ false →
    demand (placed new g gate) ≤ demand g + count_by is_h (gate ∷ [])
placed_demand new g (H q) w fresh =
    more_demand (length (placed new g (H q)).vertices) (with_both (placed new g (H q))) (length g.vertices) (with_both g)
    (one_if (after new (spider_of_phase_zero new).kind)) (count after g.vertices) (count never g.vertices)
    (placed_length new g (H q)) (count-insert after (spider_of_phase_zero new) g.vertices)
    (ap (λ b. one_if (b && member new (end_vertices (set g.outputs q (plain new))))) (absent_from (ids g.vertices) (end_vertices g.inputs) new w.inputs.there fresh))
    (count_at_most after never (λ p k. has_both g p) never g.vertices (distinct g w)
    (λ p m. fewer_both (member p (end_vertices g.inputs)) (member p (end_vertices g.outputs)) (member p (end_vertices (set g.outputs q (plain new))))
    (λ out. member-set_none g.outputs q (plain new) p out (apart_of_member p new (ids g.vertices) m fresh))))
  where
    after : Test
    after p k = member p (end_vertices g.inputs) && member p (end_vertices (set g.outputs q (plain new)))
placed_demand new g (Phase q k) w fresh =
    same_demand (length (placed new g (Phase q k)).vertices) (with_both (placed new g (Phase q k))) (length g.vertices) (with_both g)
    (placed_length new g (Phase q k)) (count-with_kinds (λ p kind. has_both g p) (fuse_kind (spot g.outputs q) k) g.vertices)
placed_demand new g (Cz p q) w fresh = same_demand (length g.vertices) (with_both g) (length g.vertices) (with_both g) refl refl
placed_demand new g (Cx p q) w fresh = same_demand (length g.vertices) (with_both g) (length g.vertices) (with_both g) refl refl
placed_demand new g (Not q) w fresh = same_demand (length g.vertices) (with_both g) (length g.vertices) (with_both g) refl refl
