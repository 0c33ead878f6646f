-- Below a bound of the graph's vertices lie those of the flow.
use Rattle.std.proofs.Common.{◌≡◌, refl, sym, ◌∙◌, ap, subst, ℕ, ◌<◌, Bool, true, false, cond, not, ◌&&◌, eqb, List, ◌⊎◌, inl, inr, ⊎_elim, eqb-true, true≢false}
use Rattle.std.specs.List.{list_all}
use Rattle.zx_model.specs.Bits.{xor, member}
use Rattle.zx_bits.specs.Sets.{IsBelow}
use Rattle.zx_calculus.specs.Graph.{Graph, ids, end_vertices}
use Rattle.zx_calculus.proofs.Ids.{and-left, and-right, by_test}
use Rattle.gflow_laws.specs.Seen.{Seen, in_odd_neighbourhood}
use Rattle.gflow_laws.specs.Flow.{Correction, order_of, set_of, is_in, IsFlow, SameSets, odd_in}
use Rattle.gflow_laws.specs.Complements.{set_about, set_beside, complement_table}
use Rattle.gflow_laws.proofs.Complements.{is_in-set_about, is_in-set_beside}
use Rattle.gflow_laws.proofs.Tables.{order_of-with_sets, set_of-with_sets, set_of-outside}
use Rattle.zx_calculus.proofs.Splitting.{all_at}

module _ (g : Graph) (t : List Correction) (reach : ℕ) (flow : IsFlow g t) (below : IsBelow reach (ids g.vertices)) where
  pub order_below : IsBelow reach (order_of t)
  order_below v there =
      below v (and-left _ _ (all_at (λ w. member w (ids g.vertices) && not (member w (end_vertices g.outputs))) (order_of t) v
      flow.is_table.no_others there))

  pub set_below : (v : ℕ) → member v (order_of t) ≡ true → IsBelow reach (set_of t v)
  set_below v there w inside =
      below w (all_at (λ x. member x (ids g.vertices)) (set_of t v) w
      (all_at (λ x. list_all (λ y. member y (ids g.vertices)) (set_of t x)) (order_of t) v flow.is_table.vertices there) inside)

  -- whether or not the vertex stands in the order
  pub all_sets_below : (v : ℕ) → IsBelow reach (set_of t v)
  all_sets_below v =
      by_test (member v (order_of t)) (set_below v)
      (λ out w inside. absurd (true≢false (sym inside ∙ ap (member w) (set_of-outside t v out))))

either : (a b : Bool) → xor a b ≡ true → (a ≡ true) ⊎ (b ≡ true)
either true b e = inl refl
either false b e = inr e

-- a local complement about u puts in no other members
pub complement_below : (s : Seen) (u : ℕ) (t : List Correction) (reach : ℕ) → u < reach → ((v : ℕ) → IsBelow reach (set_of t v)) →
    (t' : List Correction) → SameSets t' (complement_table s u t) → (v : ℕ) → IsBelow reach (set_of t' v)
complement_below s u t reach lt below t' same v w inside =
    by_test (member v (order_of t))
    (λ there. of_listed (sym (ap (λ l. is_in l w) (set_of-with_sets sets t v there)) ∙ sym (same.members v w) ∙ inside))
    (λ out. absurd (true≢false (sym inside ∙ same.members v w
    ∙ ap (λ l. is_in l w) (set_of-outside (complement_table s u t) v (ap (member v) (order_of-with_sets sets t) ∙ out)))))
  where
    own : List ℕ
    own = set_about u (s.plane u) (set_of t u)

    sets : ℕ → List ℕ → List ℕ
    sets x members = cond (eqb x u) own (set_beside s u own members)

    at_u : eqb w u ≡ true → w < reach
    at_u e = subst (λ x. x < reach) (sym (eqb-true w u e)) lt

    in_own : is_in own w ≡ true → w < reach
    in_own e =
        ⊎_elim (below u w) (λ f. at_u (and-right (odd_in (s.plane u)) (eqb w u) f))
        (either (is_in (set_of t u) w) (odd_in (s.plane u) && eqb w u) (sym (is_in-set_about u (s.plane u) (set_of t u) w) ∙ e))

    in_beside : (b : Bool) → cond b (xor (xor (is_in (set_of t v) w) (is_in own w)) (eqb w u)) (is_in (set_of t v) w) ≡ true → w < reach
    in_beside true e =
        ⊎_elim (λ f. ⊎_elim (below v w) in_own (either (is_in (set_of t v) w) (is_in own w) f)) at_u
        (either (xor (is_in (set_of t v) w) (is_in own w)) (eqb w u) e)
    in_beside false e = below v w e

    of_listed : is_in (sets v (set_of t v)) w ≡ true → w < reach
    of_listed =
        by_test (eqb v u)
        (λ b e. in_own (sym (ap (λ k. is_in (cond k own (set_beside s u own (set_of t v))) w) b) ∙ e))
        (λ b e. in_beside (in_odd_neighbourhood s (is_in (set_of t v)) u)
        (sym (is_in-set_beside s u own (set_of t v) w) ∙ sym (ap (λ k. is_in (cond k own (set_beside s u own (set_of t v))) w) b) ∙ e))
