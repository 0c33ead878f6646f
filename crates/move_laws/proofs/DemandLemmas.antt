-- How many ids a graph needs, over each step.
use Rattle.std.proofs.Common.{◌≡◌, ◌≢◌, refl, sym, ◌∙◌, ap, ap₂, ℕ, suc, ◌+◌, ◌<◌, ◌≤◌, Bool, true, false, not, ◌&&◌, ◌||◌, eqb, List, [], ◌∷◌, length, true≢false, arith}
use Rattle.std.specs.List.{list_all}
use Rattle.zx_model.specs.Bits.{member, one_if}
use Rattle.zx_calculus.specs.Graph.{XY, Graph, Vertex, ids, end_vertices, kind_of, with_kinds, without, insert_vertex, IsVertex, Interior, WellFormed}
use Rattle.zx_calculus.specs.Counts.{has_input, has_output}
use Rattle.zx_calculus.specs.Edits.{KeepsEnds}
use Rattle.zx_calculus.specs.Splits.{new_vertex, least_free_from, spider_of_phase_zero, move_end}
use Rattle.zx_calculus.specs.Steps.{Step, IsStep, IsRun, LocalComplement, Delete, Pivot, SplitInput, SplitOutput, DropLone, FuseInto, FuseTwin}
use Rattle.zx_calculus.proofs.Booleans.{and_comm, and-false}
use Rattle.zx_calculus.proofs.CountLemmas.{Test, count, count_front, count-with_kinds, count_apart, count-insert}
use Rattle.zx_calculus.proofs.Counting.{Change, YZ_apart}
use Rattle.zx_calculus.proofs.Forms.{ids-without, length-ids}
use Rattle.zx_calculus.proofs.Ids.{by_test, by_equal, and-left, and-right, not-true, apart_of_member, member-removed_other}
use Rattle.zx_calculus.proofs.Programs.{end_there}
use Rattle.zx_calculus.proofs.Splits.{mirrored, mirrored_formed, mirrored_split, member-move_end-old, member-move_end-other}
use Rattle.zx_calculus.proofs.Splitting.{absent_from, distinct, interior_of, off_XY, member-without}
use Rattle.zx_calculus.proofs.Steps.{step_kept}
use Rattle.zx_calculus.proofs.Vertices.{ids-with_kinds, member-insert}
use Rattle.move_laws.specs.Demand.{has_both, with_both, demand, taken_out}
use Rattle.move_laws.specs.Orders.{is_split}

abbrev every : Test
every p k = true

abbrev both_test : Graph → Test
both_test g p k = has_both g p

count-every : (vs : List Vertex) → length vs ≡ count every vs
count-every [] = refl
count-every (v ∷ vs) = ap (λ n. suc n) (count-every vs)

-- where the ends stay, so does who has both
both_kept : (g h : Graph) → KeepsEnds g h → with_both h ≡ count (both_test g) h.vertices
both_kept g h frame =
    ap₂ (λ ins outs. count (λ p k. member p (end_vertices ins) && member p (end_vertices outs)) h.vertices) frame.inputs frame.outputs

added : (a b c d : ℕ) → a ≡ c → b ≡ d → a + b + 0 ≡ c + d
added a b c d e f = omega arith

-- planes and phases alone change
same_vertices : (g h : Graph) (f : Change) → h.vertices ≡ with_kinds f g.vertices → KeepsEnds g h → demand h + 0 ≡ demand g
same_vertices g h f is frame =
    added (length h.vertices) (with_both h) (length g.vertices) (with_both g)
    (count-every h.vertices ∙ ap (count every) is ∙ count-with_kinds every f g.vertices ∙ sym (count-every g.vertices))
    (both_kept g h frame ∙ ap (count (both_test g)) is ∙ count-with_kinds (both_test g) f g.vertices)

one_less : (a b c d x y : ℕ) (t : Bool) → a ≡ x → c ≡ 1 + x → b ≡ y → d ≡ one_if t + y → t ≡ false → a + b + 1 ≡ c + d
one_less a b c d x y true e f g h none = absurd (true≢false none)
one_less a b c d x y false e f g h none = omega arith

-- an interior vertex goes
one_gone : (g h : Graph) (u : ℕ) → WellFormed g → IsVertex g u → Interior g u → length h.vertices ≡ count every (without u g.vertices) →
    count (both_test g) h.vertices ≡ count (both_test g) (without u g.vertices) → KeepsEnds g h → demand h + 1 ≡ demand g
one_gone g h u w there interior left left_both frame =
    one_less (length h.vertices) (with_both h) (length g.vertices) (with_both g) (count every (without u g.vertices))
    (count (both_test g) (without u g.vertices)) (has_both g u) left
    (count-every g.vertices ∙ count_front every u g.vertices (distinct g w) there)
    (both_kept g h frame ∙ left_both)
    (count_front (both_test g) u g.vertices (distinct g w) there)
    (ap₂ (λ a b. a && b) interior.no_input interior.no_output)

changed_gone : (g h : Graph) (u : ℕ) (f : Change) → WellFormed g → IsVertex g u → Interior g u →
    h.vertices ≡ with_kinds f (without u g.vertices) → KeepsEnds g h → demand h + 1 ≡ demand g
changed_gone g h u f w there interior is frame =
    one_gone g h u w there interior
    (count-every h.vertices ∙ ap (count every) is ∙ count-with_kinds every f (without u g.vertices))
    (ap (count (both_test g)) is ∙ count-with_kinds (both_test g) f (without u g.vertices)) frame

off_plane : (g : Graph) (u : ℕ) → WellFormed g → (kind_of g.vertices u).plane ≢ XY → Interior g u
off_plane g u w n = interior_of g u w (off_XY (kind_of g.vertices u).plane n)

pub no_split : (g : Graph) (s : Step) (h : Graph) → WellFormed g → is_split s ≡ false → IsStep g s h → demand h + taken_out s ≡ demand g
no_split g (LocalComplement u) h w n c = same_vertices g h _ c.vertices c.frame
no_split g (Delete u) h w n c = changed_gone g h u _ w c.deletable.there (off_plane g u w c.deletable.plane) c.vertices c.frame
no_split g (Pivot u v) h w n c = same_vertices g h _ c.vertices c.frame
no_split g (SplitInput b) h w n c = absurd (true≢false n)
no_split g (SplitOutput b) h w n c = absurd (true≢false n)
no_split g (DropLone u) h w n c =
    one_gone g h u w c.there (off_plane g u w (YZ_apart _ c.plane)) (count-every h.vertices ∙ ap (count every) c.vertices)
    (ap (count (both_test g)) c.vertices) c.frame
no_split g (FuseInto u) h w n c = changed_gone g h u _ w c.there (off_plane g u w (YZ_apart _ c.plane)) c.vertices c.frame
no_split g (FuseTwin u v) h w n c =
    changed_gone g h v _ w c.there_too (off_plane g v w (YZ_apart _ c.plane_too)) c.vertices c.frame

-- b is no longer at both, and the new vertex isn't either
one_more : (a b c d x : ℕ) (n o t : Bool) → a ≡ 1 + c → b ≡ one_if n + x → n ≡ false → x + one_if t ≡ d + one_if o → o ≡ false →
    a + b + one_if t ≡ c + d + 1
one_more a b c d x true o t e f g h i = absurd (true≢false g)
one_more a b c d x false true t e f g h i = absurd (true≢false i)
one_more a b c d x false false t e f g h i = omega (arith, e, f, h)

module _ (g h : Graph) (b new : ℕ) (w : WellFormed g) (fresh : member new (ids g.vertices) ≡ false) (there : IsVertex g b)
    (vertices : h.vertices ≡ insert_vertex (spider_of_phase_zero new) g.vertices) (after : Test)
    (at_new : after new (spider_of_phase_zero new).kind ≡ false) (at_b : after b (kind_of g.vertices b) ≡ false)
    (others : (p : ℕ) → p ≢ b → p ≢ new → after p (kind_of g.vertices p) ≡ has_both g p)
    (both : with_both h ≡ count after h.vertices) where
  split : demand h + one_if (has_both g b) ≡ demand g + 1
  split =
      one_more (length h.vertices) (with_both h) (length g.vertices) (with_both g) (count after g.vertices)
      (after new (spider_of_phase_zero new).kind) (after b (kind_of g.vertices b)) (has_both g b)
      (count-every h.vertices ∙ ap (count every) vertices ∙ count-insert every (spider_of_phase_zero new) g.vertices
      ∙ ap (λ n. 1 + n) (sym (count-every g.vertices)))
      (both ∙ ap (count after) vertices ∙ count-insert after (spider_of_phase_zero new) g.vertices) at_new
      (count_apart after (both_test g) b g.vertices (distinct g w) there
      (λ p m n. others p n (apart_of_member p new (ids g.vertices) m fresh))) at_b

pub split_input : (g : Graph) (b : ℕ) (h : Graph) → WellFormed g → IsStep g (SplitInput b) h → demand h + one_if (has_output g b) ≡ demand g + 1
split_input g b h w c =
    ap (λ t. demand h + one_if (t && has_output g b)) (sym c.has_input)
    ∙ split g h b (new_vertex g) w c.fresh there c.vertices
    (λ p k. member p (end_vertices (move_end b (new_vertex g) g.inputs)) && member p (end_vertices g.outputs))
    (ap (λ t. member (new_vertex g) (end_vertices (move_end b (new_vertex g) g.inputs)) && t)
    (absent_from (ids g.vertices) (end_vertices g.outputs) (new_vertex g) w.outputs.there c.fresh) ∙ and-false _)
    (ap (λ t. t && member b (end_vertices g.outputs)) (member-move_end-old b (new_vertex g) g.inputs apart))
    (λ p n m. ap (λ t. t && member p (end_vertices g.outputs)) (member-move_end-other b (new_vertex g) g.inputs p n m))
    (ap₂ (λ ins outs. count (λ p k. member p (end_vertices ins) && member p (end_vertices outs)) h.vertices) c.inputs c.outputs)
  where
    there : IsVertex g b
    there = end_there g w b g.inputs w.inputs.there c.has_input

    apart : b ≢ new_vertex g
    apart = apart_of_member b (new_vertex g) (ids g.vertices) there c.fresh

mirrored_demand : (g : Graph) → demand (mirrored g) ≡ demand g
mirrored_demand g = λ i. length g.vertices + count (λ p k. and_comm (member p (end_vertices g.outputs)) (member p (end_vertices g.inputs)) i) g.vertices

pub split_output : (g : Graph) (b : ℕ) (h : Graph) → WellFormed g → IsStep g (SplitOutput b) h → demand h + one_if (has_input g b) ≡ demand g + 1
split_output g b h w c =
    ap (λ n. n + one_if (has_input g b)) (sym (mirrored_demand h))
    ∙ split_input (mirrored g) b (mirrored h) (mirrored_formed g w) (mirrored_split g b (new_vertex g) h c)
    ∙ ap (λ n. n + 1) (mirrored_demand g)

-- ---- steps one after the other

pub run_lowers : (g : Graph) (steps : List Step) (h : Graph) → WellFormed g → list_all (λ s. not (is_split s)) steps ≡ true →
    IsRun g steps h → demand h ≤ demand g
run_lowers g [] h w n run = let same = ap demand run in omega (arith, same)
run_lowers g (s ∷ steps) h w n run =
    let first = no_split g s run.0 w (not-true (is_split s) (and-left _ _ n)) run.1 in
    let later = run_lowers run.0 steps h (step_kept g s run.0 w run.1) (and-right _ _ n) run.2 in
    omega (arith, first, later)

by_one : (a c : ℕ) (o : Bool) → a + one_if o ≡ c + 1 → o ≡ false → a ≡ c + 1
by_one a c true e f = absurd (true≢false f)
by_one a c false e f = omega arith

pub only_input : (g : Graph) (b : ℕ) (h : Graph) → WellFormed g → has_output g b ≡ false → IsStep g (SplitInput b) h → demand h ≡ demand g + 1
only_input g b h w none step = by_one (demand h) (demand g) (has_output g b) (split_input g b h w step) none

pub only_output : (g : Graph) (b : ℕ) (h : Graph) → WellFormed g → has_input g b ≡ false → IsStep g (SplitOutput b) h → demand h ≡ demand g + 1
only_output g b h w none step = by_one (demand h) (demand g) (has_input g b) (split_output g b h w step) none

by_both : (a c d : ℕ) (o i : Bool) → c + one_if o ≡ a + 1 → d + one_if i ≡ c + 1 → o ≡ true → i ≡ false → d ≡ a + 1
by_both a c d false i e f g h = absurd (true≢false (sym g))
by_both a c d true true e f g h = absurd (true≢false h)
by_both a c d true false e f g h = omega arith

pub split_both : (g : Graph) (b : ℕ) (k h : Graph) → WellFormed g → has_output g b ≡ true → IsStep g (SplitInput b) k →
    IsStep k (SplitOutput b) h → demand h ≡ demand g + 1
split_both g b k h w out first second =
    by_both (demand g) (demand k) (demand h) (has_output g b) (has_input k b) (split_input g b k w first)
    (split_output k b h (step_kept g (SplitInput b) k w first) second) out
    (ap (λ es. member b (end_vertices es)) first.inputs
    ∙ member-move_end-old b (new_vertex g) g.inputs
    (apart_of_member b (new_vertex g) (ids g.vertices) (end_there g w b g.inputs w.inputs.there first.has_input) first.fresh))

-- ---- ids below a bound

least_within : (n : ℕ) (xs : List ℕ) → least_free_from n xs ≤ n + length xs
least_within n [] = omega arith
least_within n (x ∷ xs) =
    by_test (eqb n x)
    (λ t. let rest : least_free_from (suc n) xs ≤ suc n + length xs = least_within (suc n) xs in rw t (omega (arith, rest)))
    (λ f. rw f (omega arith))

pub new_within : (g : Graph) → WellFormed g → new_vertex g ≤ length g.vertices
new_within g w = let le = least_within 0 (ids g.vertices) in let is = length-ids g.vertices in omega (arith, le, is)

was_live : (g h : Graph) (f : Change) (v : ℕ) → h.vertices ≡ with_kinds f g.vertices → IsVertex h v → IsVertex g v
was_live g h f v is live = sym (ap (λ vs. member v (ids vs)) is ∙ ap (member v) (ids-with_kinds f g.vertices)) ∙ live

was_left : (g : Graph) (u v : ℕ) → member v (ids (without u g.vertices)) ≡ true → IsVertex g v
was_left g u v left =
    sym (ap (member v) (ids-without u g.vertices) ∙ member-removed_other v u (ids g.vertices)
    (λ e. true≢false (sym left ∙ ap (λ x. member x (ids (without u g.vertices))) e ∙ member-without u g.vertices))) ∙ left

was_one_left : (g h : Graph) (u : ℕ) (f : Change) (v : ℕ) → h.vertices ≡ with_kinds f (without u g.vertices) → IsVertex h v → IsVertex g v
was_one_left g h u f v is live =
    was_left g u v (sym (ap (λ vs. member v (ids vs)) is ∙ ap (member v) (ids-with_kinds f (without u g.vertices))) ∙ live)

was_or_new : (g h : Graph) (bound : ℕ) → WellFormed g → h.vertices ≡ insert_vertex (spider_of_phase_zero (new_vertex g)) g.vertices →
    length g.vertices < bound → ((v : ℕ) → IsVertex g v → v < bound) → (v : ℕ) → IsVertex h v → v < bound
was_or_new g h bound w is few below v live =
    let le = new_within g w in
    let told : (eqb v (new_vertex g) || member v (ids g.vertices)) ≡ true =
    sym (ap (λ vs. member v (ids vs)) is ∙ member-insert v (spider_of_phase_zero (new_vertex g)) g.vertices) ∙ live in
    by_equal v (new_vertex g) (λ t e. omega (arith, e, le, few))
    (λ f n. below v (ap (λ b. b || member v (ids g.vertices)) (sym f) ∙ told))

pub kept_below : (g : Graph) (s : Step) (h : Graph) (bound : ℕ) → WellFormed g → IsStep g s h → length g.vertices < bound →
    ((v : ℕ) → IsVertex g v → v < bound) → (v : ℕ) → IsVertex h v → v < bound
kept_below g (LocalComplement u) h bound w c few below v live = below v (was_live g h _ v c.vertices live)
kept_below g (Delete u) h bound w c few below v live = below v (was_one_left g h u _ v c.vertices live)
kept_below g (Pivot u v) h bound w c few below x live = below x (was_live g h _ x c.vertices live)
kept_below g (SplitInput b) h bound w c few below v live = was_or_new g h bound w c.vertices few below v live
kept_below g (SplitOutput b) h bound w c few below v live = was_or_new g h bound w c.vertices few below v live
kept_below g (DropLone u) h bound w c few below v live =
    below v (was_left g u v (sym (ap (λ vs. member v (ids vs)) c.vertices) ∙ live))
kept_below g (FuseInto u) h bound w c few below v live = below v (was_one_left g h u _ v c.vertices live)
kept_below g (FuseTwin u v) h bound w c few below x live = below x (was_one_left g h v _ x c.vertices live)
