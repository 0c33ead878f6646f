-- Contracting plain edges, one spider after the other.
use Rattle.std.proofs.Common.{◌≡◌, ◌≢◌, ◌⊎◌, inl, inr, refl, sym, ◌∙◌, ap, ap₂, subst, ℕ, suc, ◌+◌, ◌<◌, ◌≤◌, Bool, true, false, ◌&&◌, ◌||◌, eqb, ltb, ltb-true, ltb-false, List, [], ◌∷◌, ◌++◌, length, take, get_or, set, ◌-◌, true≢false, arith}
use Rattle.std.specs.Prelude.{slice_index_or, zero as nought}
use Rattle.std.proofs.lemmas.List.{take_more, take-append-le, get_or-set_same, get_or-set_other}
use Rattle.zx_model.specs.Bits.{member}
use Rattle.zx_calculus.proofs.Ids.{by_test, by_equal, eqb-self, member-append}
use Rattle.zx_diagram.specs.Diagram.{Diagram, IsDiagram}
use Rattle.graph_like.specs.Classes.{IsSameAlong, AreFused, NamesClasses}
use Rattle.graph_like.specs.Internal.Fusing.{near_at, AreWithin, IsFusing, IsStage, IsTakenIn}
use Rattle.graph_like.proofs.ClassLemmas.{alone_along}

apart_eqb : (a b : ℕ) → a ≢ b → eqb a b ≡ false
apart_eqb a b n = by_equal a b (λ t e. absurd (n e)) (λ t e. t)

pub or_right : (a b : Bool) → b ≡ true → (a || b) ≡ true
or_right true b h = refl
or_right false b h = h

pub either : (a b : Bool) → (a || b) ≡ true → (a ≡ true) ⊎ (b ≡ true)
either true b h = inl refl
either false b h = inr h

-- a neighbour that names itself comes later
later_one : (d : Diagram) (least : ℕ → ℕ) (near : ℕ → List ℕ) (u next v : ℕ) → IsFusing d least near u next →
    least u ≡ u → least v ≡ v → v ≢ u → member v (near u) ≡ true → u < v
later_one d least near u next v f own_u own_v apart there =
    by_test (ltb v u)
    (λ early. absurd (true≢false
    (sym (eqb-self v) ∙ ap (λ w. eqb w v) (sym own_v)
    ∙ sym (f.sound u v there (λ w. eqb (least w) v) (f.closed v (ltb-true _ _ early)))
    ∙ apart_eqb (least u) v (λ e. apart (sym e ∙ own_u)))))
    (λ late. let from : u ≤ v = ltb-false _ _ late in strictly from)
  where
    strictly : u ≤ v → u < v
    strictly from = by_equal u v (λ t e. absurd (apart (sym e))) (λ t n. omega arith)

taken_in_member : (d : Diagram) (least new : ℕ → ℕ) (near list : ℕ → List ℕ) (u v : ℕ) → IsFusing d least near u (suc u) →
    least u ≡ u → least v ≡ v → u < v → IsTakenIn least new near list u v →
    (a b : ℕ) → (u ≤ least a → member b (near (least a)) ≡ true) → u ≤ new a → member b (list (new a)) ≡ true
taken_in_member d least new near list u v f own_u own_v up t a b old from =
    by_equal a v
    (λ s e.
    let at_u : new a ≡ u = ap new e ∙ t.named in
    let own : least a ≡ v = ap least e ∙ own_v in
    ap (λ k. member b (list k)) at_u ∙ ap (member b) t.taken_over ∙ member-append b (near u) (near v)
    ∙ or_right (member b (near u)) (member b (near v)) (ap (λ k. member b (near k)) (sym own) ∙ old (omega arith)))
    (λ s n.
    let same : new a ≡ least a = t.others_named a n in
    let was : member b (near (least a)) ≡ true = old (omega arith) in
    ap (λ k. member b (list k)) same
    ∙ by_equal (least a) u
    (λ r e. ap (λ k. member b (list k)) e ∙ ap (member b) t.taken_over ∙ member-append b (near u) (near v)
    ∙ ap (λ c. c || member b (near v)) (ap (λ k. member b (near k)) (sym e) ∙ was))
    (λ r m. ap (member b) (t.other_lists (least a) m (λ e. n (sym (f.later a (omega arith)) ∙ e))) ∙ was))

pub taken_in : (d : Diagram) (least new : ℕ → ℕ) (near list : ℕ → List ℕ) (u v : ℕ) → IsFusing d least near u (suc u) →
    least u ≡ u → least v ≡ v → v ≢ u → member v (near u) ≡ true → IsTakenIn least new near list u v →
    IsFusing d new list u (suc u)
taken_in d least new near list u v f own_u own_v apart there t = record {
  low = λ w. by_equal w v
      (λ s e. let at_u : new w ≡ u = ap new e ∙ t.named in omega (arith, up))
      (λ s n. let same : new w ≡ least w = t.others_named w n in let old : least w ≤ w = f.low w in omega arith);
  later = λ w from. by_equal w v
      (λ s e. let at_u : new w ≡ u = ap new e ∙ t.named in absurd (omega arith))
      (λ s n. let same : new w ≡ least w = t.others_named w n in same ∙ f.later w (omega arith));
  fused = λ w. by_equal w v
      (λ s e. λ test same. ap test e ∙ sym (f.sound u v there test same) ∙ ap test (sym (ap new e ∙ t.named)))
      (λ s n. λ test same. f.fused w test same ∙ ap test (sym (t.others_named w n)));
  closed = λ r low. subst (IsSameAlong d) (λ i w. same_test r low w i) (f.closed r low);
  sound = λ k x m. by_equal k u
      (λ s e. from_lists k x e (either _ _ (sym (member-append x (near u) (near v)) ∙ ap (member x) (sym t.taken_over) ∙ ap (λ j. member x (list j)) (sym e) ∙ m)))
      (λ s n. by_equal k v
      (λ r e. absurd (true≢false (sym m ∙ ap (λ j. member x (list j)) e ∙ ap (member x) t.left)))
      (λ r o. f.sound k x (ap (member x) (sym (t.other_lists k n o)) ∙ m)));
  first = λ k e h. λ plain. taken_in_member d least new near list u v f own_u own_v up t _ _ (f.first k e h plain);
  second = λ k e h. λ plain. taken_in_member d least new near list u v f own_u own_v up t _ _ (f.second k e h plain);
}
  where
    up : u < v
    up = later_one d least near u (suc u) v f own_u own_v apart there

    same_test : (r : ℕ) → r < u → (w : ℕ) → eqb (least w) r ≡ eqb (new w) r
    same_test r low w =
        by_equal w v
        (λ s e. ap (λ k. eqb (least k) r) e ∙ ap (λ k. eqb k r) own_v ∙ apart_eqb v r (λ q. absurd (omega (arith, up)))
        ∙ sym (ap (λ k. eqb (new k) r) e ∙ ap (λ k. eqb k r) t.named ∙ apart_eqb u r (λ q. absurd (omega arith))))
        (λ s n. ap (λ k. eqb k r) (sym (t.others_named w n)))

    from_lists : (k x : ℕ) → k ≡ u → (member x (near u) ≡ true) ⊎ (member x (near v) ≡ true) → AreFused d k x
    from_lists k x e (inl m) test same = ap test e ∙ f.sound u x m test same
    from_lists k x e (inr m) test same = ap test e ∙ f.sound u v there test same ∙ f.sound v x m test same

-- a spider is done when it has taken in all of its list
pub all_taken_in : (d : Diagram) (least : ℕ → ℕ) (near : ℕ → List ℕ) (u : ℕ) → IsFusing d least near u (suc u) →
    ((x : ℕ) → member x (near u) ≡ true → least x ≡ u) → IsFusing d least near (suc u) (suc u)
all_taken_in d least near u f all = record {
  low = f.low;
  later = f.later;
  fused = f.fused;
  closed = λ r below. by_equal r u
      (λ s e. subst (λ q. IsSameAlong d (λ w. eqb (least w) q)) (sym e) same)
      (λ s n. f.closed r (omega arith));
  sound = f.sound;
  first = λ k e h. λ plain from. f.first k e h plain (omega arith);
  second = λ k e h. λ plain from. f.second k e h plain (omega arith);
}
  where
    reached : (a b : ℕ) → (u ≤ least a → member b (near (least a)) ≡ true) → least a ≡ u → least b ≡ u
    reached a b there e = all b (ap (λ k. member b (near k)) (sym e) ∙ there (omega arith))

    same : IsSameAlong d (λ w. eqb (least w) u)
    same k o h = λ plain. by_equal (least (slice_index_or d.edges k o).a) u
        (λ s e. s ∙ sym (ap (λ q. eqb q u) (reached _ _ (f.first k o h plain) e) ∙ eqb-self u))
        (λ s n. s ∙ sym (apart_eqb _ _ (λ e. n (reached _ _ (f.second k o h plain) e))))

-- when all are done, classes are named
pub all_done : (d : Diagram) (least : ℕ → ℕ) (near : ℕ → List ℕ) → IsDiagram d → IsFusing d least near (length d.spiders) (length d.spiders) →
    NamesClasses d least
all_done d least near is f = record {
  fused = f.fused;
  smallest = λ w v together. by_test (ltb (least w) (length d.spiders))
      (λ low. named w v (together (λ x. eqb (least x) (least w)) (f.closed (least w) (ltb-true _ _ low))))
      (λ far. let from : length d.spiders ≤ least w = ltb-false _ _ far in
      let own : least w ≡ w = f.later w from in
      alone w v own (together (λ x. eqb x w) (alone_along d.spiders (length d.spiders) w d.edges is.edges (omega arith))));
}
  where
    named : (w v : ℕ) → eqb (least w) (least w) ≡ eqb (least v) (least w) → least w ≤ v
    named w v e =
        by_equal (least v) (least w)
        (λ s q. let low : least v ≤ v = f.low v in omega arith)
        (λ s n. absurd (true≢false (sym (eqb-self (least w)) ∙ e ∙ s)))

    alone : (w v : ℕ) → least w ≡ w → eqb w w ≡ eqb v w → least w ≤ v
    alone w v own e =
        by_equal v w (λ s q. omega arith) (λ s n. absurd (true≢false (sym (eqb-self w) ∙ e ∙ s)))

-- one more of the list
member-take_more : (xs : List ℕ) (i v x : ℕ) → i < length xs → slice_index_or xs i 0 ≡ v → member x (take (i + 1) xs) ≡ true →
    (member x (take i xs) ≡ true) ⊎ (x ≡ v)
member-take_more xs i v x low at there =
    split (either _ _ (sym (member-append x (take i xs) (get_or xs i 0 ∷ [])) ∙ ap (member x) (sym (take_more xs i 0 low)) ∙ there))
  where
    split : (member x (take i xs) ≡ true) ⊎ ((eqb x (get_or xs i 0) || false) ≡ true) → (member x (take i xs) ≡ true) ⊎ (x ≡ v)
    split (inl m) = inl m
    split (inr m) = by_equal x (get_or xs i 0) (λ s e. inr (e ∙ at)) (λ s n. absurd (true≢false (sym m ∙ ap (λ b. b || false) s)))

pub member-get_or : (xs : List ℕ) (i : ℕ) → i < length xs → member (get_or xs i 0) xs ≡ true
member-get_or [] i low = absurd (omega arith)
member-get_or (y ∷ xs) nought low = ap (λ b. b || member y xs) (eqb-self y)
member-get_or (y ∷ xs) (suc i) low = or_right _ _ (member-get_or xs i (omega arith))

-- a neighbour that doesn't name itself is taken in already
settled : (d : Diagram) (least : ℕ → ℕ) (near : ℕ → List ℕ) (u v : ℕ) → IsFusing d least near u (suc u) →
    least u ≡ u → member v (near u) ≡ true → least v ≢ v → least v ≡ u
settled d least near u v f own there other =
    by_equal (least v) u (λ s e. e)
    (λ s n. by_test (ltb (least v) u)
    (λ low. absurd (n (sym (same (f.sound u v there (λ w. eqb (least w) (least v)) (f.closed (least v) (ltb-true _ _ low)))) ∙ own)))
    (λ far. let from : u ≤ least v = ltb-false _ _ far in absurd (other (f.later v (above from n)))))
  where
    same : eqb (least u) (least v) ≡ eqb (least v) (least v) → least u ≡ least v
    same e = by_equal (least u) (least v) (λ s q. q) (λ s n. absurd (true≢false (sym (eqb-self (least v)) ∙ sym e ∙ s)))

    above : u ≤ least v → least v ≢ u → u < least v
    above from n = by_equal u (least v) (λ s e. absurd (n (sym e))) (λ s m. omega arith)

pub stage_kept : (d : Diagram) (least : ℕ → ℕ) (near : ℕ → List ℕ) (u v i : ℕ) → least u ≡ u → (v ≢ u → least v ≢ v) →
    i < length (near u) → slice_index_or (near u) i 0 ≡ v → IsStage d least near u i → IsStage d least near u (i + 1)
stage_kept d least near u v i own other low at s = record {
  fusing = s.fusing;
  done = λ x there. from x (member-take_more (near u) i v x low at there);
}
  where
    v_done : least v ≡ u
    v_done =
        by_equal v u (λ t e. ap least e ∙ own)
        (λ t n. settled d least near u v s.fusing own (ap (λ w. member w (near u)) (sym at) ∙ member-get_or (near u) i low) (other n))

    from : (x : ℕ) → (member x (take i (near u)) ≡ true) ⊎ (x ≡ v) → least x ≡ u
    from x (inl m) = s.done x m
    from x (inr e) = ap least e ∙ v_done

pub stage_taken : (d : Diagram) (least new : ℕ → ℕ) (near list : ℕ → List ℕ) (u v i : ℕ) → least u ≡ u → v ≢ u → least v ≡ v →
    IsTakenIn least new near list u v → i < length (near u) → slice_index_or (near u) i 0 ≡ v →
    IsStage d least near u i → IsStage d new list u (i + 1)
stage_taken d least new near list u v i own apart own_v t low at s = record {
  fusing = taken_in d least new near list u v s.fusing own own_v apart (ap (λ w. member w (near u)) (sym at) ∙ member-get_or (near u) i low) t;
  done = λ x there. from x (member-take_more (near u) i v x low at (ap (member x) (sym (same_start)) ∙ there));
}
  where
    same_start : take (i + 1) (list u) ≡ take (i + 1) (near u)
    same_start = ap (take (i + 1)) t.taken_over ∙ take-append-le (i + 1) (near u) (near v) (omega arith)

    from : (x : ℕ) → (member x (take i (near u)) ≡ true) ⊎ (x ≡ v) → new x ≡ u
    from x (inr e) = ap new e ∙ t.named
    from x (inl m) = by_equal x v (λ q e. ap new e ∙ t.named) (λ q n. t.others_named x n ∙ s.done x m)

-- lists stay within what they name
pub within-taken : (near list : List (List ℕ)) (least new : ℕ → ℕ) (u v n : ℕ) → IsTakenIn least new (near_at near) (near_at list) u v →
    AreWithin near n → AreWithin list n
within-taken near list least new u v n t w k x there =
    by_equal k u
    (λ s e. from (either _ _ (sym (member-append x (near_at near u) (near_at near v)) ∙ ap (member x) (sym t.taken_over) ∙ ap (λ j. member x (near_at list j)) (sym e) ∙ there)))
    (λ s o. by_equal k v
    (λ r e. absurd (true≢false (sym there ∙ ap (λ j. member x (near_at list j)) e ∙ ap (member x) t.left)))
    (λ r p. w k x (ap (member x) (sym (t.other_lists k o p)) ∙ there)))
  where
    from : (member x (near_at near u) ≡ true) ⊎ (member x (near_at near v) ≡ true) → x < n
    from (inl m) = w u x m
    from (inr m) = w v x m

-- a list gains one
pub member_pushed : (near : List (List ℕ)) (a b : ℕ) → a < length near → (k x : ℕ) →
    member x (near_at (set near a (near_at near a ++ b ∷ [])) k) ≡ (member x (near_at near k) || (eqb k a && eqb x b))
member_pushed near a b there k x =
    by_equal k a
    (λ s e. ap (λ j. member x (near_at (set near a (near_at near a ++ b ∷ [])) j)) e
    ∙ ap (member x) (get_or-set_same near a (near_at near a ++ b ∷ []) [] there)
    ∙ member-append x (near_at near a) (b ∷ [])
    ∙ ap₂ (λ j c. member x (near_at near j) || c) (sym e) (or-false (eqb x b) ∙ sym (ap (λ c. c && eqb x b) s)))
    (λ s n. ap (member x) (get_or-set_other near a k (near_at near a ++ b ∷ []) [] n)
    ∙ sym (ap (λ c. member x (near_at near k) || (c && eqb x b)) s ∙ or-false (member x (near_at near k))))
  where
    or-false : (b : Bool) → (b || false) ≡ b
    or-false true = refl
    or-false false = refl

pub or_assoc : (a b c : Bool) → ((a || b) || c) ≡ (a || (b || c))
or_assoc true b c = refl
or_assoc false b c = refl
