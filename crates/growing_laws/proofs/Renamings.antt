-- What is added to a graph under other names: a new spider takes any name that is free.
use Rattle.std.proofs.Common.{◌≡◌, ◌⊎◌, inl, inr, refl, sym, ◌∙◌, ap, ap₂, subst, ℕ, zero, suc, ◌<◌, Bool, true, false, cond, ◌&&◌, ◌||◌, not, eqb, ne_eqb, eq-eqb, arith, List, [], ◌∷◌, length, set}
use Rattle.std.specs.List.{list_all}
use Rattle.std.proofs.lemmas.List.{map-set}
use Rattle.zx_model.specs.Bits.{xor, member}
use Rattle.zx_calculus.specs.Graph.{End, Graph, ids, joined, kind_of, end_vertices, with_kinds, insert_vertex, IsVertex, WellFormed, plain}
use Rattle.zx_calculus.specs.Edits.{is_pair}
use Rattle.zx_calculus.specs.Gadgets.{fuse_kind}
use Rattle.zx_calculus.specs.Splits.{spider_of_phase_zero, move_end, new_vertex, IsSplitInput, IsSplitOutput, split_input_graph, split_output_graph}
use Rattle.zx_calculus.specs.Turns.{with_phase_added}
use Rattle.zx_calculus.proofs.Booleans.{or-true}
use Rattle.zx_calculus.proofs.Ids.{by_equal, and-left, and-right, eqb-self, apart_of_member}
use Rattle.zx_calculus.proofs.Kept.{kind_of-insert_other}
use Rattle.zx_calculus.proofs.LeastFree.{least_free-fresh}
use Rattle.zx_calculus.proofs.Programs.{absent_left, absent_right, end_there}
use Rattle.zx_calculus.proofs.Splits.{mirrored, mirrored_formed, mirrored_split, split_mirrored, after_split_input, after_split_output}
use Rattle.zx_calculus.proofs.Vertices.{ids-with_kinds, kind_of-with_kinds, kind_of-insert, member-insert}
use Rattle.move_laws.proofs.Ranks.{ranked-self, ranked_other}
use Rattle.zx_gates.specs.Circuit.{IsOnQubits}
use Rattle.zx_gates.specs.declared.gate.Gate.TheVariants.{H, Phase, Cz}
use Rattle.growing_laws.specs.Growing.{placed}
use Rattle.growing_laws.specs.Renaming.{renamed_end, renamed_ends, with_name, IsRenamed}
use Rattle.growing_laws.proofs.Parts.{spot, spot_there}
use Rattle.growing_laws.proofs.Placing.{IsPlaced, placed_is, spot_live}
use Rattle.growing_laws.proofs.Renamed.{eqb-named, member-renamed}

-- ---- ends
spot-renamed : (to : ℕ → ℕ) (es : List End) (q : ℕ) → q < length es → spot (renamed_ends to es) q ≡ to (spot es q)
spot-renamed to [] q lt = absurd (omega arith)
spot-renamed to (e ∷ es) zero lt = refl
spot-renamed to (e ∷ es) (suc q) lt = spot-renamed to es q (omega arith)

pub length-renamed : (to : ℕ → ℕ) (es : List End) → length (renamed_ends to es) ≡ length es
length-renamed to [] = refl
length-renamed to (e ∷ es) = ap (λ n. suc n) (length-renamed to es)

ends-same : (to to' : ℕ → ℕ) (live : ℕ → Bool) (es : List End) → list_all live (end_vertices es) ≡ true → ((p : ℕ) → live p ≡ true → to' p ≡ to p) →
    renamed_ends to es ≡ renamed_ends to' es
ends-same to to' live [] all same = refl
ends-same to to' live (e ∷ es) all same =
    ap₂ (λ v ds. record { vertex = v; hadamard = e.hadamard } ∷ ds) (sym (same e.vertex (and-left _ _ all))) (ends-same to to' live es (and-right _ _ all) same)

-- an end that moves
ends-moved : (to to' : ℕ → ℕ) (live : ℕ → Bool) (b new new' : ℕ) (es : List End) → list_all live (end_vertices es) ≡ true → ((p : ℕ) → live p ≡ true → to' p ≡ to p) →
    ((p : ℕ) → live p ≡ true → eqb (to b) (to p) ≡ eqb b p) → to' new ≡ new' → move_end (to b) new' (renamed_ends to es) ≡ renamed_ends to' (move_end b new es)
ends-moved to to' live b new new' [] all same names at_new = refl
ends-moved to to' live b new new' (e ∷ es) all same names at_new =
    ap₂ (λ d ds. d ∷ ds)
    (ap (λ t. cond t (record { vertex = new'; hadamard = not e.hadamard }) (renamed_end to e)) (names e.vertex (and-left _ _ all)) ∙ at (eqb b e.vertex))
    (ends-moved to to' live b new new' es (and-right _ _ all) same names at_new)
  where
    at : (t : Bool) → cond t (record { vertex = new'; hadamard = not e.hadamard }) (renamed_end to e)
        ≡ renamed_end to' (cond t (record { vertex = new; hadamard = not e.hadamard }) e)
    at true = ap (λ v. record { vertex = v; hadamard = not e.hadamard }) (sym at_new)
    at false = ap (λ v. record { vertex = v; hadamard = e.hadamard }) (sym (same e.vertex (and-left _ _ all)))

-- ---- one more vertex
known : (new : ℕ) (g k : Graph) → k.vertices ≡ insert_vertex (spider_of_phase_zero new) g.vertices → (v : ℕ) → IsVertex k v → (v ≡ new) ⊎ IsVertex g v
known new g k is v there =
    by_equal v new (λ t e. inl e)
    (λ f n. inr (ap (λ b. b || member v (ids g.vertices)) (sym f) ∙ sym (ap (λ vs. member v (ids vs)) is ∙ member-insert v (spider_of_phase_zero new) g.vertices) ∙ there))

new_live : (new : ℕ) (g k : Graph) → k.vertices ≡ insert_vertex (spider_of_phase_zero new) g.vertices → IsVertex k new
new_live new g k is =
    ap (λ vs. member new (ids vs)) is ∙ member-insert new (spider_of_phase_zero new) g.vertices ∙ ap (λ b. b || member new (ids g.vertices)) (eqb-self new)

old_live : (new : ℕ) (g k : Graph) → k.vertices ≡ insert_vertex (spider_of_phase_zero new) g.vertices → (v : ℕ) → IsVertex g v → IsVertex k v
old_live new g k is v there =
    ap (λ vs. member v (ids vs)) is ∙ member-insert v (spider_of_phase_zero new) g.vertices ∙ ap (λ b. eqb v new || b) there ∙ or-true (eqb v new)

there_more : (to : ℕ → ℕ) (new new' : ℕ) (g k h l : Graph) → k.vertices ≡ insert_vertex (spider_of_phase_zero new) g.vertices →
    l.vertices ≡ insert_vertex (spider_of_phase_zero new') h.vertices → member new (ids g.vertices) ≡ false →
    ((v : ℕ) → IsVertex g v → IsVertex h (to v)) → (v : ℕ) → (v ≡ new) ⊎ IsVertex g v → IsVertex l (with_name new new' to v)
there_more to new new' g k h l vk vl fresh there v (inl e) =
    subst (λ x. IsVertex l (with_name new new' to x)) (sym e) (subst (IsVertex l) (sym (ranked-self new new' to)) (new_live new' h l vl))
there_more to new new' g k h l vk vl fresh there v (inr t) =
    subst (IsVertex l) (sym (ranked_other new new' to (ids g.vertices) v fresh t)) (old_live new' h l vl (to v) (there v t))

same_more : (to back : ℕ → ℕ) (new new' : ℕ) (g h : Graph) → member new (ids g.vertices) ≡ false → member new' (ids h.vertices) ≡ false →
    ((v : ℕ) → IsVertex g v → IsVertex h (to v)) → ((v : ℕ) → IsVertex g v → back (to v) ≡ v) → (v : ℕ) → (v ≡ new) ⊎ IsVertex g v →
    with_name new' new back (with_name new new' to v) ≡ v
same_more to back new new' g h fresh fresh' there same v (inl e) =
    ap (λ x. with_name new' new back (with_name new new' to x)) e ∙ ap (with_name new' new back) (ranked-self new new' to)
    ∙ ranked-self new' new back ∙ sym e
same_more to back new new' g h fresh fresh' there same v (inr t) =
    ap (with_name new' new back) (ranked_other new new' to (ids g.vertices) v fresh t)
    ∙ ranked_other new' new back (ids h.vertices) (to v) fresh' (there v t) ∙ same v t

module _ (to back : ℕ → ℕ) (g h : Graph) (wg : WellFormed g) (wh : WellFormed h) (R : IsRenamed to back g h) where
  spot_named : (q : ℕ) → q < length g.outputs → spot h.outputs q ≡ to (spot g.outputs q)
  spot_named q lt = ap (λ es. spot es q) R.outputs ∙ spot-renamed to g.outputs q lt

  same_length : length h.outputs ≡ length g.outputs
  same_length = ap length R.outputs ∙ length-renamed to g.outputs

  module _ (new new' b : ℕ) (fresh : member new (ids g.vertices) ≡ false) (fresh' : member new' (ids h.vertices) ≡ false) (b_there : IsVertex g b) where
    named : (v : ℕ) → IsVertex g v → with_name new new' to v ≡ to v
    named v t = ranked_other new new' to (ids g.vertices) v fresh t

    ends_named : (es : List End) → list_all (λ p. member p (ids g.vertices)) (end_vertices es) ≡ true → renamed_ends to es ≡ renamed_ends (with_name new new' to) es
    ends_named es all = ends-same to (with_name new new' to) (λ p. member p (ids g.vertices)) es all named

    ends_moved : (es : List End) → list_all (λ p. member p (ids g.vertices)) (end_vertices es) ≡ true →
        move_end (to b) new' (renamed_ends to es) ≡ renamed_ends (with_name new new' to) (move_end b new es)
    ends_moved es all =
        ends-moved to (with_name new new' to) (λ p. member p (ids g.vertices)) b new new' es all named (λ p t. eqb-named to back g h wg wh R b p b_there t)
        (ranked-self new new' to)

    module _ (k l : Graph) (vk : k.vertices ≡ insert_vertex (spider_of_phase_zero new) g.vertices)
        (vl : l.vertices ≡ insert_vertex (spider_of_phase_zero new') h.vertices)
        (ek : (v w : ℕ) → joined k.edges v w ≡ (joined g.edges v w || is_pair b new v w))
        (el : (v w : ℕ) → joined l.edges v w ≡ (joined h.edges v w || is_pair (to b) new' v w)) where
      same_again : (v : ℕ) → (v ≡ new) ⊎ IsVertex g v → with_name new' new back (with_name new new' to v) ≡ v
      same_again = same_more to back new new' g h fresh fresh' R.there R.same

      eqb_again : (v w : ℕ) → (v ≡ new) ⊎ IsVertex g v → (w ≡ new) ⊎ IsVertex g w → eqb (with_name new new' to v) (with_name new new' to w) ≡ eqb v w
      eqb_again v w kv kw =
          by_equal v w (λ t e. eq-eqb (with_name new new' to v) (with_name new new' to w) (ap (with_name new new' to) e) ∙ sym t)
          (λ f n. ne_eqb (with_name new new' to v) (with_name new new' to w) (λ e. n (sym (same_again v kv) ∙ ap (with_name new' new back) e ∙ same_again w kw)) ∙ sym f)

      kinds_again : (v : ℕ) → (v ≡ new) ⊎ IsVertex g v → kind_of l.vertices (with_name new new' to v) ≡ kind_of k.vertices v
      kinds_again v (inl e) =
          ap (λ x. kind_of l.vertices (with_name new new' to x)) e ∙ ap (kind_of l.vertices) (ranked-self new new' to)
          ∙ ap (λ vs. kind_of vs new') vl ∙ kind_of-insert (spider_of_phase_zero new') h.vertices fresh'
          ∙ sym (ap (kind_of k.vertices) e ∙ ap (λ vs. kind_of vs new) vk ∙ kind_of-insert (spider_of_phase_zero new) g.vertices fresh)
      kinds_again v (inr t) =
          ap (kind_of l.vertices) (named v t) ∙ ap (λ vs. kind_of vs (to v)) vl
          ∙ kind_of-insert_other (to v) (spider_of_phase_zero new') h.vertices (apart_of_member (to v) new' (ids h.vertices) (R.there v t) fresh')
          ∙ R.kinds v t
          ∙ sym (ap (λ vs. kind_of vs v) vk ∙ kind_of-insert_other v (spider_of_phase_zero new) g.vertices (apart_of_member v new (ids g.vertices) t fresh))

      old_edges : (v w : ℕ) → (v ≡ new) ⊎ IsVertex g v → (w ≡ new) ⊎ IsVertex g w → joined h.edges (with_name new new' to v) (with_name new new' to w) ≡ joined g.edges v w
      old_edges v w (inl e) kw =
          ap (λ x. joined h.edges (with_name new new' to x) (with_name new new' to w)) e ∙ ap (λ x. joined h.edges x (with_name new new' to w)) (ranked-self new new' to)
          ∙ absent_left h wh new' (with_name new new' to w) fresh' ∙ sym (ap (λ x. joined g.edges x w) e ∙ absent_left g wg new w fresh)
      old_edges v w (inr t) (inl e) =
          ap (λ x. joined h.edges (with_name new new' to v) (with_name new new' to x)) e ∙ ap (joined h.edges (with_name new new' to v)) (ranked-self new new' to)
          ∙ absent_right h wh (with_name new new' to v) new' fresh' ∙ sym (ap (joined g.edges v) e ∙ absent_right g wg v new fresh)
      old_edges v w (inr t) (inr s) = ap₂ (joined h.edges) (named v t) (named w s) ∙ R.edges v w t s

      at_b : (v : ℕ) → (v ≡ new) ⊎ IsVertex g v → eqb (with_name new new' to v) (to b) ≡ eqb v b
      at_b v kv = ap (eqb (with_name new new' to v)) (sym (named b b_there)) ∙ eqb_again v b kv (inr b_there)

      at_new : (v : ℕ) → (v ≡ new) ⊎ IsVertex g v → eqb (with_name new new' to v) new' ≡ eqb v new
      at_new v kv = ap (eqb (with_name new new' to v)) (sym (ranked-self new new' to)) ∙ eqb_again v new kv (inl refl)

      edges_again : (v w : ℕ) → (v ≡ new) ⊎ IsVertex g v → (w ≡ new) ⊎ IsVertex g w →
          joined l.edges (with_name new new' to v) (with_name new new' to w) ≡ joined k.edges v w
      edges_again v w kv kw =
          el (with_name new new' to v) (with_name new new' to w)
          ∙ ap₂ (λ a c. a || c) (old_edges v w kv kw)
          (ap₂ (λ a c. a || c) (ap₂ (λ a c. a && c) (at_b v kv) (at_new w kw)) (ap₂ (λ a c. a && c) (at_new v kv) (at_b w kw)))
          ∙ sym (ek v w)

      pub one_more_renamed : l.inputs ≡ renamed_ends (with_name new new' to) k.inputs → l.outputs ≡ renamed_ends (with_name new new' to) k.outputs →
          IsRenamed (with_name new new' to) (with_name new' new back) k l
      one_more_renamed inputs outputs = record {
        there = λ v t. there_more to new new' g k h l vk vl fresh R.there v (known new g k vk v t);
        there_back = λ v t. there_more back new' new h l g k vl vk fresh' R.there_back v (known new' h l vl v t);
        same = λ v t. same_again v (known new g k vk v t);
        same_back = λ v t. same_more back to new' new h g fresh' fresh R.there_back R.same_back v (known new' h l vl v t);
        kinds = λ v t. kinds_again v (known new g k vk v t);
        edges = λ v w t s. edges_again v w (known new g k vk v t) (known new g k vk w s);
        inputs = inputs;
        outputs = outputs;
      }

  -- ---- gates
  pub spider_renamed : (new new' q : ℕ) → member new (ids g.vertices) ≡ false → member new' (ids h.vertices) ≡ false → q < length g.outputs →
      IsRenamed (with_name new new' to) (with_name new' new back) (placed new g (H q)) (placed new' h (H q))
  spider_renamed new new' q fresh fresh' lt =
      one_more_renamed new new' b fresh fresh' (spot_live g wg q lt) (placed new g (H q)) (placed new' h (H q)) refl refl before.edges
      (λ v w. after.edges v w ∙ ap (λ x. joined h.edges v w || is_pair x new' v w) (spot_named q lt))
      (R.inputs ∙ ends_named new new' b fresh fresh' (spot_live g wg q lt) g.inputs wg.inputs.there)
      (ap (λ es. set es q (plain new')) (R.outputs ∙ ends_named new new' b fresh fresh' (spot_live g wg q lt) g.outputs wg.outputs.there)
      ∙ ap (λ v. set (renamed_ends (with_name new new' to) g.outputs) q (plain v)) (sym (ranked-self new new' to))
      ∙ sym (map-set (renamed_end (with_name new new' to)) g.outputs q (plain new)))
    where
      b : ℕ
      b = spot g.outputs q

      before : IsSplitOutput g b new (split_output_graph g b new)
      before = after_split_output g wg b (spot_there g.outputs q lt) new fresh

      lt_too : q < length h.outputs
      lt_too = subst (λ n. q < n) (sym same_length) lt

      after : IsSplitOutput h (spot h.outputs q) new' (split_output_graph h (spot h.outputs q) new')
      after = after_split_output h wh (spot h.outputs q) (spot_there h.outputs q lt_too) new' fresh'

  pub phase_renamed : (new new' q k : ℕ) → q < length g.outputs → IsRenamed to back (placed new g (Phase q k)) (placed new' h (Phase q k))
  phase_renamed new new' q k lt = record {
    there = λ v t. ap (member (to v)) (ids-with_kinds (fuse_kind (spot h.outputs q) k) h.vertices) ∙ R.there v (earlier v t);
    there_back = λ v t. ap (member (back v)) (ids-with_kinds (fuse_kind (spot g.outputs q) k) g.vertices) ∙ R.there_back v (earlier_too v t);
    same = λ v t. R.same v (earlier v t);
    same_back = λ v t. R.same_back v (earlier_too v t);
    kinds = λ v t. kind_of-with_kinds (fuse_kind (spot h.outputs q) k) (to v) h.vertices (R.there v (earlier v t))
        ∙ ap₂ (λ c x. cond c (with_phase_added k x) x)
        (ap (eqb (to v)) (spot_named q lt) ∙ eqb-named to back g h wg wh R v (spot g.outputs q) (earlier v t) (spot_live g wg q lt)) (R.kinds v (earlier v t))
        ∙ sym (kind_of-with_kinds (fuse_kind (spot g.outputs q) k) v g.vertices (earlier v t));
    edges = λ v w t s. R.edges v w (earlier v t) (earlier w s);
    inputs = R.inputs;
    outputs = R.outputs;
  }
    where
      earlier : (v : ℕ) → member v (ids (with_kinds (fuse_kind (spot g.outputs q) k) g.vertices)) ≡ true → IsVertex g v
      earlier v t = sym (ap (member v) (ids-with_kinds (fuse_kind (spot g.outputs q) k) g.vertices)) ∙ t

      earlier_too : (v : ℕ) → member v (ids (with_kinds (fuse_kind (spot h.outputs q) k) h.vertices)) ≡ true → IsVertex h v
      earlier_too v t = sym (ap (member v) (ids-with_kinds (fuse_kind (spot h.outputs q) k) h.vertices)) ∙ t

  pub edge_renamed : (new new' p q : ℕ) → member new (ids g.vertices) ≡ false → member new' (ids h.vertices) ≡ false → IsOnQubits (length g.outputs) (Cz p q) →
      IsRenamed to back (placed new g (Cz p q)) (placed new' h (Cz p q))
  edge_renamed new new' p q fresh fresh' on = record {
    there = R.there;
    there_back = R.there_back;
    same = R.same;
    same_back = R.same_back;
    kinds = R.kinds;
    edges = λ v w t s. after.edges (to v) (to w)
        ∙ ap₂ xor (R.edges v w t s) (pair v w t s) ∙ sym (before.edges v w);
    inputs = R.inputs;
    outputs = R.outputs;
  }
    where
      before : IsPlaced new g.outputs (Cz p q) g (placed new g (Cz p q))
      before = placed_is g wg new (Cz p q) fresh on

      after : IsPlaced new' h.outputs (Cz p q) h (placed new' h (Cz p q))
      after = placed_is h wh new' (Cz p q) fresh' (subst (λ n. IsOnQubits n (Cz p q)) (sym same_length) on)

      at : (r v : ℕ) → r < length g.outputs → IsVertex g v → eqb (to v) (spot h.outputs r) ≡ eqb v (spot g.outputs r)
      at r v lt t = ap (eqb (to v)) (spot_named r lt) ∙ eqb-named to back g h wg wh R v (spot g.outputs r) t (spot_live g wg r lt)

      pair : (v w : ℕ) → IsVertex g v → IsVertex g w → is_pair (spot h.outputs p) (spot h.outputs q) (to v) (to w) ≡ is_pair (spot g.outputs p) (spot g.outputs q) v w
      pair v w t s =
          ap₂ (λ a c. a || c) (ap₂ (λ a c. a && c) (at p v on.0 t) (at q w on.1 s)) (ap₂ (λ a c. a && c) (at q v on.1 t) (at p w on.0 s))

  -- ---- splits
  pub split_input_renamed : (b : ℕ) (k : Graph) → IsSplitInput g b (new_vertex g) k →
      (l : Graph) × IsSplitInput h (to b) (new_vertex h) l × IsRenamed (with_name (new_vertex g) (new_vertex h) to) (with_name (new_vertex h) (new_vertex g) back) k l
  split_input_renamed b k c = (
    split_input_graph h (to b) (new_vertex h),
    step,
    one_more_renamed (new_vertex g) (new_vertex h) b c.fresh step.fresh there k (split_input_graph h (to b) (new_vertex h)) c.vertices refl c.edges step.edges
        (ap (move_end (to b) (new_vertex h)) R.inputs ∙ ends_moved (new_vertex g) (new_vertex h) b c.fresh step.fresh there g.inputs wg.inputs.there
        ∙ ap (renamed_ends (with_name (new_vertex g) (new_vertex h) to)) (sym c.inputs))
        (R.outputs ∙ ends_named (new_vertex g) (new_vertex h) b c.fresh step.fresh there g.outputs wg.outputs.there
        ∙ ap (renamed_ends (with_name (new_vertex g) (new_vertex h) to)) (sym c.outputs)),
  )
    where
      there : IsVertex g b
      there = end_there g wg b g.inputs wg.inputs.there c.has_input

      step : IsSplitInput h (to b) (new_vertex h) (split_input_graph h (to b) (new_vertex h))
      step = after_split_input h wh (to b)
          (ap (λ es. member (to b) (end_vertices es)) R.inputs
          ∙ member-renamed to (λ p. member p (ids g.vertices)) g.inputs b wg.inputs.there (λ p t. eqb-named to back g h wg wh R b p there t) ∙ c.has_input)
          (new_vertex h) (least_free-fresh (ids h.vertices) wh.vertices_rising)

-- inputs and outputs exchanged
mirrored_renamed : (to back : ℕ → ℕ) (g h : Graph) → IsRenamed to back g h → IsRenamed to back (mirrored g) (mirrored h)
mirrored_renamed to back g h r = record {
  there = r.there;
  there_back = r.there_back;
  same = r.same;
  same_back = r.same_back;
  kinds = r.kinds;
  edges = r.edges;
  inputs = r.outputs;
  outputs = r.inputs;
}

pub split_output_renamed : (to back : ℕ → ℕ) (g h : Graph) → WellFormed g → WellFormed h → IsRenamed to back g h → (b : ℕ) (k : Graph) → IsSplitOutput g b (new_vertex g) k →
    (l : Graph) × IsSplitOutput h (to b) (new_vertex h) l × IsRenamed (with_name (new_vertex g) (new_vertex h) to) (with_name (new_vertex h) (new_vertex g) back) k l
split_output_renamed to back g h wg wh r b k c =
    let made = split_input_renamed to back (mirrored g) (mirrored h) (mirrored_formed g wg) (mirrored_formed h wh) (mirrored_renamed to back g h r) b (mirrored k) (mirrored_split g b (new_vertex g) k c) in
    (mirrored made.0, split_mirrored h (to b) (new_vertex h) made.0 made.1, mirrored_renamed _ _ (mirrored k) made.0 made.2)
