-- Groups and phases agree with gates at spots while gates come and steps are done.
use Rattle.std.proofs.Common.{◌≡◌, ◌≢◌, refl, sym, ◌∙◌, ap, ap₂, subst, ℕ, suc, ◌<◌, Bool, true, false, cond, not, ◌||◌, eqb, eqb-true, ltb, List, [], ◌∷◌, ◌++◌, length, get_or, Option, Some, None, true≢false, ne_eqb, arith}
use Rattle.zx_model.specs.Phase.{sum_of_phases}
use Rattle.zx_model.specs.Bits.{member, xor}
use Rattle.zx_calculus.specs.Graph.{Graph, WellFormed}
use Rattle.zx_calculus.specs.Steps.{Step, LocalComplement, Delete, Pivot, SplitInput, SplitOutput, DropLone, FuseInto, FuseTwin, IsStep}
use Rattle.zx_calculus.proofs.Booleans.{xor-false, or-true}
use Rattle.zx_calculus.proofs.Ids.{by_test, by_equal, eqb-self, eqb_comm, member-append}
use Rattle.teleport_laws.specs.Shifts.{signed, negates, into_of}
use Rattle.teleport_laws.specs.Spots.{Holder, At, Deleted, Dropped, Spot, spot_at, holder_after, moved}
use Rattle.teleport_laws.specs.Groups.{same_holder, is_dropped, held, first_of, teleported}
use Rattle.teleport_laws.specs.Internal.Rising.{AreRising}
use Rattle.teleport_laws.proofs.Carrying.{AreBelow, step_apart, held-below, none_plus, signed-signed, signed-sum}
use Rattle.teleport_laws.proofs.Grouping.{same_holder-true, same_holder-self}
use Rattle.teleport_laws.proofs.Forwards.{IsAlike, IsMerged, first-alike, held-merged, first-merged, teleported-alike, teleported-dropped, first-stays, first-new, teleported-elsewhere, teleported-joined, teleported-alone, later_spot}
use Rattle.phase_groups.specs.Groups.{Phases, group_of, phase_of_gate, with_gate, turned_group, earlier_of, later_of, joined_groups, HavePhase, IsAdded, IsLost, ArePutTogether, ArePhasesJoined, IsFused, IsFollowed}
use Rattle.phase_groups.specs.Internal.Agreement.{IsFirstAt, IsGroupAt, Agrees}
use Rattle.phase_groups.specs.declared.groups.Group.{Group}

same_holder-sym : (h k : Holder) → same_holder h k ≡ same_holder k h
same_holder-sym (At v) (At w) = eqb_comm v w
same_holder-sym (At v) (Deleted n) = refl
same_holder-sym (At v) Dropped = refl
same_holder-sym (Deleted m) (At w) = refl
same_holder-sym (Deleted m) (Deleted n) = eqb_comm m n
same_holder-sym (Deleted m) Dropped = refl
same_holder-sym Dropped (At w) = refl
same_holder-sym Dropped (Deleted n) = refl
same_holder-sym Dropped Dropped = refl

pub turned_group-false : (o : Option Group) → turned_group false o ≡ o
turned_group-false None = refl
turned_group-false (Some group) = λ i. Some (record { first = group.first; negated = xor-false group.negated i })

-- a gate that isn't the first of its group has none
pub behind_first : (phase : ℕ → ℕ) (spot : ℕ → Spot) (gates : List ℕ) (i : ℕ) → eqb i (first_of spot gates (spot i).holder) ≡ false → teleported phase spot gates i ≡ 0
behind_first phase spot gates i behind = rw behind (none (is_dropped (spot i).holder))
  where
    none : (b : Bool) → cond (b || true) 0 (signed (spot i).negated (held phase spot gates (spot i).holder)) ≡ 0
    none true = refl
    none false = refl

-- the first one of a vertex has all, with its sign
pub at_first : (phase : ℕ → ℕ) (spot : ℕ → Spot) (gates : List ℕ) (i : ℕ) (holder : Holder) → (spot i).holder ≡ holder → is_dropped holder ≡ false → i ≡ first_of spot gates holder →
    teleported phase spot gates i ≡ signed (spot i).negated (held phase spot gates holder)
at_first phase spot gates i holder here matters first =
    ap (λ h. cond (is_dropped h || not (eqb i (first_of spot gates h))) 0 (signed (spot i).negated (held phase spot gates h))) here
    ∙ rw (matters, ap (λ k. eqb i k) (sym first) ∙ eqb-self i) refl

-- ---- no gate
pub agrees-none : (phase : ℕ → ℕ) (spot : ℕ → Spot) (p : Phases) → ((v : ℕ) → group_of p v ≡ None) → ((i : ℕ) → phase_of_gate p i ≡ 0) → Agrees phase [] spot p
agrees-none phase spot p groups none = record {
  rising = tt;
  known = λ i there. absurd (true≢false (sym there));
  phases = λ i there. absurd (true≢false (sym there));
  others = λ i absent. none i;
  groups = λ v. subst (IsGroupAt spot [] v) (sym (groups v)) (λ i there. absurd (true≢false (sym there)));
}

-- ---- holders that hold the same gates
group-alike : (phase : ℕ → ℕ) (low : AreBelow phase) (spot later : ℕ → Spot) (gates : List ℕ) (v w : ℕ) (turned : Bool) (o : Option Group) →
    ((j : ℕ) → member j gates ≡ true → IsAlike spot later (At v) (At w) turned j) → IsGroupAt spot gates v o → IsGroupAt later gates w (turned_group turned o)
group-alike phase low spot later gates v w turned None all none = λ i there. (all i there).same ∙ none i there
group-alike phase low spot later gates v w turned (Some group) all f = record {
  there = f.there;
  at = (all group.first f.there).same ∙ f.at;
  first = first-alike phase low spot later (At v) (At w) turned gates all ∙ f.first;
  negated = ap (λ b. xor b turned) f.negated ∙ sym ((all group.first f.there).negated f.at);
}

-- the same, where no sign is turned
group-same : (phase : ℕ → ℕ) (low : AreBelow phase) (spot later : ℕ → Spot) (gates : List ℕ) (v w : ℕ) (o : Option Group) →
    ((j : ℕ) → member j gates ≡ true → IsAlike spot later (At v) (At w) false j) → IsGroupAt spot gates v o → IsGroupAt later gates w o
group-same phase low spot later gates v w o all at = subst (IsGroupAt later gates w) (turned_group-false o) (group-alike phase low spot later gates v w false o all at)

phase-alike : (phase : ℕ → ℕ) (low : AreBelow phase) (spot later : ℕ → Spot) (gates : List ℕ) (before after : Holder) (turned : Bool) (i : ℕ) →
    ((j : ℕ) → member j gates ≡ true → IsAlike spot later before after turned j) → (spot i).holder ≡ before → (later i).holder ≡ after →
    (later i).negated ≡ xor (spot i).negated turned → is_dropped after ≡ is_dropped before → teleported phase later gates i ≡ teleported phase spot gates i
phase-alike phase low spot later gates before after turned i all here there sign dropped =
    teleported-alike phase spot later turned gates i low
    (λ j m. subst (λ x. IsAlike spot later x (later i).holder turned j) (sym here) (subst (λ y. IsAlike spot later before y turned j) (sym there) (all j m)))
    sign (ap is_dropped there ∙ dropped ∙ sym (ap is_dropped here))

pub agrees-spots : (phase : ℕ → ℕ) → AreBelow phase → (gates : List ℕ) (spot later : ℕ → Spot) (p : Phases) → ((i : ℕ) → member i gates ≡ true → later i ≡ spot i) →
    Agrees phase gates spot p → Agrees phase gates later p
agrees-spots phase low gates spot later p same A = record {
  rising = A.rising;
  known = A.known;
  phases = λ i there.
      A.phases i there ∙ sym (phase-alike phase low spot later gates (spot i).holder (spot i).holder false i (λ j m. alike (spot i).holder j m) refl
      (ap (λ s. s.holder) (same i there)) (ap (λ s. s.negated) (same i there) ∙ sym (xor-false (spot i).negated)) refl);
  others = A.others;
  groups = λ v. group-same phase low spot later gates v v (group_of p v) (alike (At v)) (A.groups v);
}
  where
    alike : (h : Holder) (j : ℕ) → member j gates ≡ true → IsAlike spot later h h false j
    alike h j there = record {
      same = ap (λ (s : Spot). same_holder s.holder h) (same j there);
      negated = λ t. ap (λ (s : Spot). s.negated) (same j there) ∙ sym (xor-false (spot j).negated);
    }

-- ---- a gate behind all others
either_longer : {P : Type 0} (i n : ℕ) (is : List ℕ) → member i (is ++ n ∷ []) ≡ true → (member i is ≡ true → P) → (i ≡ n → P) → P
either_longer i n is there when unless =
    by_test (member i is) when
    (λ f. by_test (eqb i n) (λ t. unless (eqb-true i n t)) (λ g. absurd (true≢false (sym there ∙ member-append i is (n ∷ []) ∙ rw (f, g) refl))))

longer_there : (i n : ℕ) (is : List ℕ) → member i is ≡ true → member i (is ++ n ∷ []) ≡ true
longer_there i n is there = member-append i is (n ∷ []) ∙ ap (λ b. b || (eqb i n || false)) there

longer_last : (n : ℕ) (is : List ℕ) → member n (is ++ n ∷ []) ≡ true
longer_last n is = member-append n is (n ∷ []) ∙ ap (λ b. member n is || (b || false)) (eqb-self n) ∙ or-true (member n is)

rising-longer : (n : ℕ) (is : List ℕ) → AreRising is → ((i : ℕ) → member i is ≡ true → i < n) → AreRising (is ++ n ∷ [])
rising-longer n [] rising below = (λ j there. absurd (true≢false (sym there)), tt)
rising-longer n (i ∷ is) rising below = (
  λ j there. either_longer j n is there (rising.0 j) (λ e. let less : i < n = below i (ap (λ b. b || member i is) (eqb-self i)) in omega (arith, e, less)),
  rising-longer n is rising.1 (λ j there. below j (ap (λ b. eqb j i || b) there ∙ or-true (eqb j i))),
)

-- a number that a list has isn't one that it hasn't
apart_member : (i j : ℕ) (is : List ℕ) → member i is ≡ false → member j is ≡ true → eqb i j ≡ false
apart_member i j is absent there = ne_eqb i j (λ e. true≢false (sym there ∙ ap (λ k. member k is) (sym e) ∙ absent))

-- nor does one holder hold a gate that another holds
apart_holder : (spot : ℕ → Spot) (holder : Holder) (i j : ℕ) → same_holder (spot i).holder holder ≡ false → same_holder (spot j).holder holder ≡ true → eqb i j ≡ false
apart_holder spot holder i j absent there = ne_eqb i j (λ e. true≢false (sym there ∙ ap (λ k. same_holder (spot k).holder holder) (sym e) ∙ absent))

module _ (phase : ℕ → ℕ) (low : AreBelow phase) (gates : List ℕ) (spot : ℕ → Spot) (p q : Phases) (n v : ℕ) (A : Agrees phase gates spot p)
    (below : (i : ℕ) → member i gates ≡ true → i < n) (room : n < length p.phases) (here : spot n ≡ spot_at v) where
  absent : member n gates ≡ false
  absent = by_test (member n gates) (λ t. let less = below n t in absurd (omega (arith, less))) (λ f. f)

  abbrev longer : List ℕ
  longer = gates ++ n ∷ []

  at_n : (holder : Holder) → same_holder (spot n).holder holder ≡ same_holder (At v) holder
  at_n holder = ap (λ (s : Spot). same_holder s.holder holder) here

  matters : is_dropped (spot n).holder ≡ false
  matters = ap (λ (s : Spot). is_dropped s.holder) here

  plain : (spot n).negated ≡ false
  plain = ap (λ (s : Spot). s.negated) here

  group_longer : (w : ℕ) (group : Group) → IsFirstAt spot gates w group → IsFirstAt spot longer w group
  group_longer w group f = record {
    there = longer_there group.first n gates f.there;
    at = f.at;
    first = first-stays phase low spot (At w) n gates group.first f.there f.at ∙ f.first;
    negated = f.negated;
  }

  group_elsewhere : (w : ℕ) (o : Option Group) → eqb w v ≡ false → IsGroupAt spot gates w o → IsGroupAt spot longer w o
  group_elsewhere w None apart none = λ i there.
      either_longer i n gates there (none i) (λ e. ap (λ k. same_holder (spot k).holder (At w)) e ∙ at_n (At w) ∙ eqb_comm v w ∙ apart)
  group_elsewhere w (Some group) apart f = group_longer w group f

  group_here : (o : Option Group) → IsGroupAt spot gates v o → IsGroupAt spot longer v (Some (with_gate n o))
  group_here None none = record {
    there = longer_last n gates;
    at = at_n (At v) ∙ eqb-self v;
    first = first-new phase low spot (At v) n gates none (at_n (At v) ∙ eqb-self v);
    negated = sym plain;
  }
  group_here (Some group) f = group_longer v group f

  -- a gate elsewhere
  elsewhere : (i : ℕ) → member i gates ≡ true → same_holder (spot i).holder (At v) ≡ false → teleported phase spot longer i ≡ teleported phase spot gates i
  elsewhere i there apart = teleported-elsewhere phase low spot gates n i there (at_n (spot i).holder ∙ same_holder-sym (At v) (spot i).holder ∙ apart)

  phases_here : (o : Option Group) → IsGroupAt spot gates v o →
      HavePhase (with_gate n o).first (sum_of_phases (phase_of_gate p (with_gate n o).first) (signed (with_gate n o).negated (phase n))) p q →
      (i : ℕ) → member i longer ≡ true → phase_of_gate q i ≡ teleported phase spot longer i
  phases_here None none H i there =
      either_longer i n gates there
      (λ t. H.others i (apart t) ∙ A.phases i t ∙ sym (elsewhere i t (none i t)))
      (λ e. subst (λ k. phase_of_gate q k ≡ teleported phase spot longer k) (sym e)
      (H.phase room ∙ ap (λ k. sum_of_phases k (phase n)) (A.others n absent) ∙ none_plus (phase n) (low n)
      ∙ sym (teleported-alone phase low spot gates n (λ j m. subst (λ h. same_holder (spot j).holder h ≡ false) (sym (ap (λ (s : Spot). s.holder) here)) (none j m)) plain matters)))
    where
      apart : member i gates ≡ true → eqb i n ≡ false
      apart t = sym (eqb_comm n i) ∙ apart_member n i gates absent t
  phases_here (Some group) f H i there =
      either_longer i n gates there
      (λ t. by_test (same_holder (spot i).holder (At v))
      (λ s. by_equal i group.first
      (λ same e. subst (λ k. phase_of_gate q k ≡ teleported phase spot longer k) (sym e) first)
      (λ other a. H.others i other ∙ A.phases i t ∙ behind_first phase spot gates i (behind s other) ∙ sym (behind_first phase spot longer i (behind_too s other))))
      (λ s. H.others i (apart_holder spot (At v) i group.first s f.at) ∙ A.phases i t ∙ sym (elsewhere i t s)))
      (λ e. subst (λ k. phase_of_gate q k ≡ teleported phase spot longer k) (sym e)
      (H.others n new ∙ A.others n absent ∙ sym (behind_first phase spot longer n (ap (λ h. eqb n (first_of spot longer h)) (ap (λ (s : Spot). s.holder) here) ∙ ap (eqb n) first_there ∙ new))))
    where
      new : eqb n group.first ≡ false
      new = apart_member n group.first gates absent f.there

      first_there : first_of spot longer (At v) ≡ group.first
      first_there = (group_longer v group f).first

      at_v : (j : ℕ) → same_holder (spot j).holder (At v) ≡ true → (spot j).holder ≡ At v
      at_v j s = same_holder-true (spot j).holder (At v) s

      behind : same_holder (spot i).holder (At v) ≡ true → eqb i group.first ≡ false → eqb i (first_of spot gates (spot i).holder) ≡ false
      behind s other = ap (λ h. eqb i (first_of spot gates h)) (at_v i s) ∙ ap (eqb i) f.first ∙ other

      behind_too : same_holder (spot i).holder (At v) ≡ true → eqb i group.first ≡ false → eqb i (first_of spot longer (spot i).holder) ≡ false
      behind_too s other = ap (λ h. eqb i (first_of spot longer h)) (at_v i s) ∙ ap (eqb i) first_there ∙ other

      first : phase_of_gate q group.first ≡ teleported phase spot longer group.first
      first =
          let at = at_v group.first f.at in
          H.phase (A.known group.first f.there)
          ∙ ap₂ (λ k b. sum_of_phases k (signed b (phase n))) (A.phases group.first f.there) f.negated
          ∙ sym (teleported-joined phase low spot gates n group.first f.there (ap (λ (s : Spot). s.holder) here ∙ sym at) plain (ap is_dropped at)
          (sym (ap (first_of spot gates) at ∙ f.first)))

  first_longer : (o : Option Group) → IsGroupAt spot gates v o → member (with_gate n o).first longer ≡ true
  first_longer o at = (group_here o at).there

  gate_added : (o : Option Group) → group_of p v ≡ o → ((w : ℕ) → group_of q w ≡ cond (eqb w v) (Some (with_gate n o)) (group_of p w)) →
      HavePhase (with_gate n o).first (sum_of_phases (phase_of_gate p (with_gate n o).first) (signed (with_gate n o).negated (phase n))) p q → Agrees phase longer spot q
  gate_added o is groups H =
      let at : IsGroupAt spot gates v o = subst (IsGroupAt spot gates v) is (A.groups v) in
      record {
        rising = rising-longer n gates A.rising below;
        known = λ i there. subst (λ k. i < k) (sym H.count) (either_longer i n gates there (A.known i) (λ e. subst (λ k. k < length p.phases) (sym e) room));
        phases = phases_here o at H;
        others = λ i missing. H.others i (apart_member i (with_gate n o).first longer missing (first_longer o at)) ∙ A.others i (before i missing);
        groups = λ w. subst (IsGroupAt spot longer w) (sym (groups w)) (by_equal w v
            (λ t e. subst (λ b. IsGroupAt spot longer w (cond b (Some (with_gate n o)) (group_of p w))) (sym t) (subst (λ u. IsGroupAt spot longer u (Some (with_gate n o))) (sym e) (group_here o at)))
            (λ f a. subst (λ b. IsGroupAt spot longer w (cond b (Some (with_gate n o)) (group_of p w))) (sym f) (group_elsewhere w (group_of p w) f (A.groups w))));
      }
    where
      before : (i : ℕ) → member i longer ≡ false → member i gates ≡ false
      before i missing = by_test (member i gates) (λ t. absurd (true≢false (sym (longer_there i n gates t) ∙ missing))) (λ f. f)

-- a gate of the phase `phase n` comes behind all others, at the vertex v
pub agrees-gate : (phase : ℕ → ℕ) → AreBelow phase → (gates : List ℕ) (spot : ℕ → Spot) (p q : Phases) (n v : ℕ) → Agrees phase gates spot p →
    ((i : ℕ) → member i gates ≡ true → i < n) → n < length p.phases → spot n ≡ spot_at v → IsAdded n v (phase n) p q → Agrees phase (gates ++ n ∷ []) spot q
agrees-gate phase low gates spot p q n v A below room here added =
    gate_added phase low gates spot p q n v A below room here (group_of p v) refl added.groups added.phases

pub added-count : (n v k : ℕ) (p q : Phases) → IsAdded n v k p q → length q.phases ≡ length p.phases
added-count n v k p q added = added.phases.count

-- ---- a step behind all others
-- who holds, and whether negated, where each vertex goes to one place
abbrev onward : (ℕ → Holder) → (ℕ → Bool) → Holder → Bool → Spot
onward go n (At v) b = record { holder = go v; negated = xor b (n v) }
onward go n (Deleted m) b = record { holder = Deleted (suc m); negated = b }
onward go n Dropped b = record { holder = Dropped; negated = b }

moved_onward : (g : Graph) (s : Step) (holder : Holder) (b : Bool) →
    moved 0 g s (later_spot (record { holder = holder; negated = b })) ≡ onward (holder_after 0 g s) (negates g s) holder b
moved_onward g s (At v) b = refl
moved_onward g s (Deleted m) b = refl
moved_onward g s Dropped b = refl

same_deleted : (m n : ℕ) → eqb (suc m) (suc n) ≡ eqb m n
same_deleted m n = by_equal m n (λ t e. ap (λ k. eqb k (suc n)) (ap suc e) ∙ eqb-self (suc n) ∙ sym t) (λ f a. ne_eqb (suc m) (suc n) (λ e. a (omega (arith, e))) ∙ sym f)

module _ (phase : ℕ → ℕ) (low : AreBelow phase) (gates : List ℕ) (spot : ℕ → Spot) (go : ℕ → Holder) (n : ℕ → Bool) where
  abbrev next : ℕ → Spot
  next i = onward go n (spot i).holder (spot i).negated

  goes_on : (i : ℕ) (holder : Holder) → (spot i).holder ≡ holder → next i ≡ onward go n holder (spot i).negated
  goes_on i holder e = ap (λ h. onward go n h (spot i).negated) e

  -- who comes from one vertex
  from_vertex : (v : ℕ) (to : Holder) (j : ℕ) → ((w : ℕ) → (spot j).holder ≡ At w → same_holder (go w) to ≡ eqb w v) →
      ((m : ℕ) → same_holder (Deleted (suc m)) to ≡ false) → same_holder Dropped to ≡ false → IsAlike spot next (At v) to (n v) j
  from_vertex v to j near deleted dropped =
      let is = at (spot j).holder (spot j).negated near in
      record { same = is.0; negated = is.1 }
    where
      at : (x : Holder) (b : Bool) → ((w : ℕ) → x ≡ At w → same_holder (go w) to ≡ eqb w v) →
          (same_holder (onward go n x b).holder to ≡ same_holder x (At v)) × (same_holder x (At v) ≡ true → (onward go n x b).negated ≡ xor b (n v))
      at (At w) b near = (near w refl, λ t. ap (λ u. xor b (n u)) (eqb-true w v t))
      at (Deleted m) b near = (deleted m, λ t. absurd (true≢false (sym t)))
      at Dropped b near = (dropped, λ t. absurd (true≢false (sym t)))

  phase_from : (v i : ℕ) (to : Holder) → (spot i).holder ≡ At v → go v ≡ to → is_dropped to ≡ false → ((j : ℕ) → member j gates ≡ true → IsAlike spot next (At v) to (n v) j) →
      teleported phase next gates i ≡ teleported phase spot gates i
  phase_from v i to here there matters all =
      phase-alike phase low spot next gates (At v) to (n v) i all here (ap (λ (s : Spot). s.holder) (goes_on i (At v) here) ∙ there)
      (ap (λ (s : Spot). s.negated) (goes_on i (At v) here)) matters

  -- what was deleted stays so
  module _ (never : (w m : ℕ) → same_holder (go w) (Deleted (suc m)) ≡ false) where
    from_deleted : (m j : ℕ) → IsAlike spot next (Deleted m) (Deleted (suc m)) false j
    from_deleted m j =
        let is = at (spot j).holder (spot j).negated in
        record { same = is.0; negated = is.1 }
      where
        at : (x : Holder) (b : Bool) → (same_holder (onward go n x b).holder (Deleted (suc m)) ≡ same_holder x (Deleted m)) ×
            (same_holder x (Deleted m) ≡ true → (onward go n x b).negated ≡ xor b false)
        at (At w) b = (never w m, λ t. absurd (true≢false (sym t)))
        at (Deleted k) b = (same_deleted k m, λ t. sym (xor-false b))
        at Dropped b = (refl, λ t. absurd (true≢false (sym t)))

    phase_deleted : (m i : ℕ) → (spot i).holder ≡ Deleted m → teleported phase next gates i ≡ teleported phase spot gates i
    phase_deleted m i here =
        phase-alike phase low spot next gates (Deleted m) (Deleted (suc m)) false i (λ j t. from_deleted m j) here (ap (λ (s : Spot). s.holder) (goes_on i (Deleted m) here))
        (ap (λ (s : Spot). s.negated) (goes_on i (Deleted m) here) ∙ sym (xor-false (spot i).negated)) refl

  phase_dropped : (i : ℕ) → (spot i).holder ≡ Dropped → teleported phase next gates i ≡ teleported phase spot gates i
  phase_dropped i here =
      teleported-dropped phase next gates i (ap (λ (s : Spot). is_dropped s.holder) (goes_on i Dropped here))
      ∙ sym (teleported-dropped phase spot gates i (ap is_dropped here))

-- where vertices go to one place or stay
module _ (phase : ℕ → ℕ) (low : AreBelow phase) (gates : List ℕ) (spot : ℕ → Spot) (gone : ℕ → Bool) (single : (v w : ℕ) → gone v ≡ true → gone w ≡ true → eqb v w ≡ true)
    (place : Holder) (no_vertex : (v : ℕ) → same_holder place (At v) ≡ false) (no_earlier : (m : ℕ) → same_holder place (Deleted (suc m)) ≡ false) (n : ℕ → Bool) where
  abbrev leaves : ℕ → Holder
  leaves v = cond (gone v) place (At v)

  abbrev after_leaving : ℕ → Spot
  after_leaving = next phase low gates spot leaves n

  never_there : (w m : ℕ) → same_holder (leaves w) (Deleted (suc m)) ≡ false
  never_there w m = by_test (gone w) (λ t. rw t (no_earlier m)) (λ f. rw f refl)

  stays : (v : ℕ) → gone v ≡ false → (j : ℕ) → IsAlike spot after_leaving (At v) (At v) (n v) j
  stays v here j = from_vertex phase low gates spot leaves n v (At v) j (λ w e. near w) (λ m. refl) refl
    where
      near : (w : ℕ) → same_holder (leaves w) (At v) ≡ eqb w v
      near w = by_test (gone w) (λ t. rw t (no_vertex v ∙ sym (ne_eqb w v (λ e. true≢false (sym t ∙ ap gone e ∙ here))))) (λ f. rw f refl)

  group_left : (v : ℕ) (o : Option Group) → IsGroupAt spot gates v o → IsGroupAt after_leaving gates v (cond (gone v) None (turned_group (n v) o))
  group_left v o at =
      by_test (gone v)
      (λ t. subst (λ b. IsGroupAt after_leaving gates v (cond b None (turned_group (n v) o))) (sym t) (λ i there. none t (spot i).holder (spot i).negated))
      (λ f. subst (λ b. IsGroupAt after_leaving gates v (cond b None (turned_group (n v) o))) (sym f)
      (group-alike phase low spot after_leaving gates v v (n v) o (λ j there. stays v f j) at))
    where
      none : gone v ≡ true → (x : Holder) (b : Bool) → same_holder (onward leaves n x b).holder (At v) ≡ false
      none t (At w) b = by_test (gone w) (λ u. rw u (no_vertex v)) (λ u. rw u (ne_eqb w v (λ e. true≢false (sym t ∙ ap gone (sym e) ∙ u))))
      none t (Deleted m) b = refl
      none t Dropped b = refl

  phase_stays : (v i : ℕ) → (spot i).holder ≡ At v → gone v ≡ false → teleported phase after_leaving gates i ≡ teleported phase spot gates i
  phase_stays v i here f = phase_from phase low gates spot leaves n v i (At v) here (rw f refl) refl (λ j t. stays v f j)

  phase_left : (v i : ℕ) → (spot i).holder ≡ At v → gone v ≡ true → ((m : ℕ) → same_holder (Deleted (suc m)) place ≡ false) → same_holder Dropped place ≡ false → is_dropped place ≡ false →
      teleported phase after_leaving gates i ≡ teleported phase spot gates i
  phase_left v i here t deleted dropped matters =
      phase_from phase low gates spot leaves n v i place here (rw t refl) matters (λ j m. from_vertex phase low gates spot leaves n v place j (λ w e. near w) deleted dropped)
    where
      near : (w : ℕ) → same_holder (leaves w) place ≡ eqb w v
      near w =
          by_test (gone w)
          (λ u. rw u (same_holder-self place ∙ sym (single w v u t)))
          (λ f. rw f (same_holder-sym (At w) place ∙ no_vertex w ∙ sym (ne_eqb w v (λ e. true≢false (sym t ∙ ap gone (sym e) ∙ f)))))

  -- all but those that are dropped keep their phases
  phases_left : (i : ℕ) (x : Holder) → (spot i).holder ≡ x → ((v : ℕ) → x ≡ At v → gone v ≡ true → teleported phase after_leaving gates i ≡ teleported phase spot gates i) →
      teleported phase after_leaving gates i ≡ teleported phase spot gates i
  phases_left i (At v) here leaving = by_test (gone v) (leaving v refl) (phase_stays v i here)
  phases_left i (Deleted m) here leaving = phase_deleted phase low gates spot leaves n never_there m i here
  phases_left i Dropped here leaving = phase_dropped phase low gates spot leaves n i here

-- a gate that isn't the first of a group
abbrev Misses : ℕ → Option Group → Type 0
Misses i None = Unit {0}
Misses i (Some group) = eqb i group.first ≡ false

misses_holder : (spot : ℕ → Spot) (gates : List ℕ) (v i : ℕ) (o : Option Group) → IsGroupAt spot gates v o → same_holder (spot i).holder (At v) ≡ false → Misses i o
misses_holder spot gates v i None at apart = tt
misses_holder spot gates v i (Some group) f apart = apart_holder spot (At v) i group.first apart f.at

misses_member : (spot : ℕ → Spot) (gates : List ℕ) (v i : ℕ) (o : Option Group) → IsGroupAt spot gates v o → member i gates ≡ false → Misses i o
misses_member spot gates v i None at missing = tt
misses_member spot gates v i (Some group) f missing = apart_member i group.first gates missing f.there

choose : (P : Option Group → Type 0) (b : Bool) (x y : Option Group) → (b ≡ true → P x) → (b ≡ false → P y) → P (cond b x y)
choose P true x y when unless = when refl
choose P false x y when unless = unless refl

-- ---- a vertex goes, and its phase stays where it went or is lost
module _ (phase : ℕ → ℕ) (low : AreBelow phase) (gates : List ℕ) (spot : ℕ → Spot) (p q : Phases) (A : Agrees phase gates spot p) where
  agrees_leaving : (gone : ℕ → Bool) (single : (v w : ℕ) → gone v ≡ true → gone w ≡ true → eqb v w ≡ true) (place : Holder) (no_vertex : (v : ℕ) → same_holder place (At v) ≡ false)
      (no_earlier : (m : ℕ) → same_holder place (Deleted (suc m)) ≡ false) (n : ℕ → Bool) → ((w : ℕ) → group_of q w ≡ cond (gone w) None (turned_group (n w) (group_of p w))) →
      q.phases ≡ p.phases →
      ((v i : ℕ) → (spot i).holder ≡ At v → gone v ≡ true →
      teleported phase (after_leaving phase low gates spot gone single place no_vertex no_earlier n) gates i ≡ teleported phase spot gates i) →
      Agrees phase gates (after_leaving phase low gates spot gone single place no_vertex no_earlier n) q
  agrees_leaving gone single place no_vertex no_earlier n groups phases leaving = record {
    rising = A.rising;
    known = λ i there. subst (λ xs. i < length xs) (sym phases) (A.known i there);
    phases = λ i there. ap (λ xs. get_or xs i 0) phases ∙ A.phases i there
        ∙ sym (phases_left phase low gates spot gone single place no_vertex no_earlier n i (spot i).holder refl (λ v here t. leaving v i here t));
    others = λ i missing. ap (λ xs. get_or xs i 0) phases ∙ A.others i missing;
    groups = λ w. subst (IsGroupAt (after_leaving phase low gates spot gone single place no_vertex no_earlier n) gates w) (sym (groups w))
        (group_left phase low gates spot gone single place no_vertex no_earlier n w (group_of p w) (A.groups w));
  }

  -- what is lost
  lost_count : (o : Option Group) → IsLost o p q → length q.phases ≡ length p.phases
  lost_count None same = ap length same
  lost_count (Some group) H = H.count

  lost_others : (o : Option Group) → IsLost o p q → (i : ℕ) → Misses i o → phase_of_gate q i ≡ phase_of_gate p i
  lost_others None same i misses = ap (λ xs. get_or xs i 0) same
  lost_others (Some group) H i misses = H.others i misses

  lost_here : (u : ℕ) (o : Option Group) → IsGroupAt spot gates u o → IsLost o p q → (i : ℕ) → member i gates ≡ true → (spot i).holder ≡ At u → phase_of_gate q i ≡ 0
  lost_here u None none same i there here = absurd (true≢false (sym (ap (λ h. same_holder h (At u)) here ∙ eqb-self u) ∙ none i there))
  lost_here u (Some group) f H i there here =
      by_equal i group.first
      (λ t e. ap (phase_of_gate q) e ∙ H.phase (A.known group.first f.there))
      (λ other a. H.others i other ∙ A.phases i there ∙ behind_first phase spot gates i (ap (λ h. eqb i (first_of spot gates h)) here ∙ ap (eqb i) f.first ∙ other))

  agrees_lost : (u : ℕ) → ((w : ℕ) → group_of q w ≡ cond (eqb w u) None (group_of p w)) → IsLost (group_of p u) p q →
      (single : (v w : ℕ) → eqb v u ≡ true → eqb w u ≡ true → eqb v w ≡ true) →
      Agrees phase gates (after_leaving phase low gates spot (λ v. eqb v u) single Dropped (λ v. refl) (λ m. refl) (λ v. false)) q
  agrees_lost u groups lost single = record {
    rising = A.rising;
    known = λ i there. subst (λ k. i < k) (sym (lost_count (group_of p u) lost)) (A.known i there);
    phases = λ i there. at i there (spot i).holder refl;
    others = λ i missing. lost_others (group_of p u) lost i (misses_member spot gates u i (group_of p u) (A.groups u) missing) ∙ A.others i missing;
    groups = λ w. subst (IsGroupAt later gates w) (ap (cond (eqb w u) None) (turned_group-false (group_of p w)) ∙ sym (groups w))
        (group_left phase low gates spot (λ v. eqb v u) single Dropped (λ v. refl) (λ m. refl) (λ v. false) w (group_of p w) (A.groups w));
  }
    where
      later : ℕ → Spot
      later = after_leaving phase low gates spot (λ v. eqb v u) single Dropped (λ v. refl) (λ m. refl) (λ v. false)

      elsewhere_same : (i : ℕ) → member i gates ≡ true → same_holder (spot i).holder (At u) ≡ false → phase_of_gate q i ≡ teleported phase spot gates i
      elsewhere_same i there apart = lost_others (group_of p u) lost i (misses_holder spot gates u i (group_of p u) (A.groups u) apart) ∙ A.phases i there

      at : (i : ℕ) → member i gates ≡ true → (x : Holder) → (spot i).holder ≡ x →
          phase_of_gate q i ≡ teleported phase (after_leaving phase low gates spot (λ v. eqb v u) single Dropped (λ v. refl) (λ m. refl) (λ v. false)) gates i
      at i there (At v) here =
          by_equal v u
          (λ t e. lost_here u (group_of p u) (A.groups u) lost i there (here ∙ ap At e)
          ∙ sym (teleported-dropped phase (after_leaving phase low gates spot (λ v. eqb v u) single Dropped (λ v. refl) (λ m. refl) (λ v. false)) gates i
          (ap (λ (s : Spot). is_dropped s.holder) (goes_on phase low gates spot (λ w. cond (eqb w u) Dropped (At w)) (λ v. false) i (At v) here) ∙ ap (λ b. is_dropped (cond b Dropped (At v))) t)))
          (λ f a. elsewhere_same i there (ap (λ h. same_holder h (At u)) here ∙ f)
          ∙ sym (phase_stays phase low gates spot (λ v. eqb v u) single Dropped (λ v. refl) (λ m. refl) (λ v. false) v i here f))
      at i there (Deleted m) here =
          elsewhere_same i there (ap (λ h. same_holder h (At u)) here)
          ∙ sym (phase_deleted phase low gates spot (λ w. cond (eqb w u) Dropped (At w)) (λ v. false)
          (never_there phase low gates spot (λ v. eqb v u) single Dropped (λ v. refl) (λ m. refl) (λ v. false)) m i here)
      at i there Dropped here =
          elsewhere_same i there (ap (λ h. same_holder h (At u)) here)
          ∙ sym (phase_dropped phase low gates spot (λ w. cond (eqb w u) Dropped (At w)) (λ v. false) i here)

-- ---- a vertex is fused into another one
cancel : (a b : Bool) → xor b (xor a b) ≡ a
cancel true true = refl
cancel true false = refl
cancel false true = refl
cancel false false = refl

joined_count : (o o' : Option Group) (p q : Phases) → ArePhasesJoined o o' p q → length q.phases ≡ length p.phases
joined_count None o' p q same = ap length same
joined_count (Some gone) None p q same = ap length same
joined_count (Some gone) (Some there) p q together = together.count

joined_others : (o o' : Option Group) (p q : Phases) → ArePhasesJoined o o' p q → (i : ℕ) → Misses i o → Misses i o' → phase_of_gate q i ≡ phase_of_gate p i
joined_others None o' p q same i one other = ap (λ xs. get_or xs i 0) same
joined_others (Some gone) None p q same i one other = ap (λ xs. get_or xs i 0) same
joined_others (Some gone) (Some there) p q together i one other =
    together.others i (either (ltb gone.first there.first)) (reverse (ltb gone.first there.first))
  where
    either : (b : Bool) → eqb i (cond b gone there).first ≡ false
    either true = one
    either false = other

    reverse : (b : Bool) → eqb i (cond b there gone).first ≡ false
    reverse true = other
    reverse false = one

module _ (phase : ℕ → ℕ) (low : AreBelow phase) (gates : List ℕ) (spot : ℕ → Spot) (rising : AreRising gates) (from into : ℕ) (apart : into ≢ from) where
  abbrev fuses : ℕ → Holder
  fuses v = cond (eqb v from) (At into) (At v)

  abbrev fused : ℕ → Spot
  fused = next phase low gates spot fuses (λ v. false)

  other_way : eqb into from ≡ false
  other_way = ne_eqb into from apart

  -- another vertex
  stays_fused : (v : ℕ) → eqb v from ≡ false → eqb v into ≡ false → (j : ℕ) → IsAlike spot fused (At v) (At v) false j
  stays_fused v f g j = from_vertex phase low gates spot fuses (λ v. false) v (At v) j (λ w e. near w) (λ m. refl) refl
    where
      near : (w : ℕ) → same_holder (fuses w) (At v) ≡ eqb w v
      near w =
          by_equal w from
          (λ t e. rw t (eqb_comm into v ∙ g ∙ sym (ap (λ x. eqb x v) e ∙ eqb_comm from v ∙ f)))
          (λ t a. rw t refl)

  -- where the one holds nothing, the other holds what it held
  keeps : ((j : ℕ) → member j gates ≡ true → same_holder (spot j).holder (At from) ≡ false) → (j : ℕ) → member j gates ≡ true → IsAlike spot fused (At into) (At into) false j
  keeps none j there = from_vertex phase low gates spot fuses (λ v. false) into (At into) j near (λ m. refl) refl
    where
      near : (w : ℕ) → (spot j).holder ≡ At w → same_holder (fuses w) (At into) ≡ eqb w into
      near w e = let apart_here : eqb w from ≡ false = ap (λ h. same_holder h (At from)) (sym e) ∙ none j there in rw apart_here refl

  hands : ((j : ℕ) → member j gates ≡ true → same_holder (spot j).holder (At into) ≡ false) → (j : ℕ) → member j gates ≡ true → IsAlike spot fused (At from) (At into) false j
  hands none j there = from_vertex phase low gates spot fuses (λ v. false) from (At into) j near (λ m. refl) refl
    where
      near : (w : ℕ) → (spot j).holder ≡ At w → same_holder (fuses w) (At into) ≡ eqb w from
      near w e = by_test (eqb w from) (λ t. rw t (eqb-self into)) (λ f. rw f (ap (λ h. same_holder h (At into)) (sym e) ∙ none j there))

  merges : (j : ℕ) → IsMerged spot fused (At from) (At into) j
  merges j = record {
    either = either (spot j).holder (spot j).negated;
    apart = λ t. ap (λ h. same_holder h (At into)) (same_holder-true (spot j).holder (At from) t) ∙ ne_eqb from into (λ e. apart (sym e));
    negated = sign (spot j).holder (spot j).negated;
  }
    where
      either : (x : Holder) (b : Bool) → same_holder (onward fuses (λ v. false) x b).holder (At into) ≡ (same_holder x (At from) || same_holder x (At into))
      either (At w) b = by_test (eqb w from) (λ t. rw t (eqb-self into)) (λ f. rw f refl)
      either (Deleted m) b = refl
      either Dropped b = refl

      sign : (x : Holder) (b : Bool) → (onward fuses (λ v. false) x b).negated ≡ b
      sign (At w) b = xor-false b
      sign (Deleted m) b = refl
      sign Dropped b = refl

  at_from : (i : ℕ) → (spot i).holder ≡ At from → (fused i).holder ≡ At into
  at_from i here = ap (λ (s : Spot). s.holder) (goes_on phase low gates spot fuses (λ v. false) i (At from) here) ∙ ap (λ b. cond b (At into) (At from)) (eqb-self from)

  at_into : (i : ℕ) → (spot i).holder ≡ At into → (fused i).holder ≡ At into
  at_into i here = ap (λ (s : Spot). s.holder) (goes_on phase low gates spot fuses (λ v. false) i (At into) here) ∙ ap (λ b. cond b (At into) (At into)) other_way

  emptied : (i : ℕ) → same_holder (fused i).holder (At from) ≡ false
  emptied i = at (spot i).holder (spot i).negated
    where
      at : (x : Holder) (b : Bool) → same_holder (onward fuses (λ v. false) x b).holder (At from) ≡ false
      at (At w) b =
          by_test (eqb w from)
          (λ t. subst (λ c. same_holder (cond c (At into) (At w)) (At from) ≡ false) (sym t) other_way)
          (λ f. subst (λ c. same_holder (cond c (At into) (At w)) (At from) ≡ false) (sym f) f)
      at (Deleted m) b = refl
      at Dropped b = refl

  -- ---- the groups
  firsts : (gone there : Group) → IsFirstAt spot gates from gone → IsFirstAt spot gates into there →
      first_of fused gates (At into) ≡ cond (ltb gone.first there.first) gone.first there.first
  firsts gone there f g =
      first-merged spot fused (At from) (At into) gates rising (λ j t. merges j) (record { gate = gone.first; there = f.there; same = f.at })
      (record { gate = there.first; there = g.there; same = g.at })
      ∙ ap₂ (λ i j. cond (ltb i j) i j) f.first g.first

  first_merged : (v : ℕ) (group : Group) → IsFirstAt spot gates v group → ((i : ℕ) → (spot i).holder ≡ At v → (fused i).holder ≡ At into) →
      first_of fused gates (At into) ≡ group.first → IsFirstAt fused gates into group
  first_merged v group f goes first = record {
    there = f.there;
    at = ap (λ h. same_holder h (At into)) (goes group.first (same_holder-true (spot group.first).holder (At v) f.at)) ∙ eqb-self into;
    first = first;
    negated = f.negated ∙ sym (merges group.first).negated;
  }

  group_fused : (o o' : Option Group) → IsGroupAt spot gates from o → IsGroupAt spot gates into o' → IsGroupAt fused gates into (joined_groups o o')
  group_fused None o' none at = group-same phase low spot fused gates into into o' (keeps none) at
  group_fused (Some gone) None f none = group-same phase low spot fused gates from into (Some gone) (hands none) f
  group_fused (Some gone) (Some there) f g =
      by_test (ltb gone.first there.first)
      (λ t. subst (λ b. IsFirstAt fused gates into (cond b gone there)) (sym t) (first_merged from gone f at_from (firsts gone there f g ∙ ap (λ b. cond b gone.first there.first) t)))
      (λ t. subst (λ b. IsFirstAt fused gates into (cond b gone there)) (sym t) (first_merged into there g at_into (firsts gone there f g ∙ ap (λ b. cond b gone.first there.first) t)))

  -- ---- the phases
  module _ (p q : Phases) (A : Agrees phase gates spot p) where
    -- of two groups that become one
    put_together : (one other : Group) (h k : ℕ) → IsFirstAt spot gates h one → IsFirstAt spot gates k other → ArePutTogether one other p q → first_of fused gates (At into) ≡ one.first →
        held phase fused gates (At into) ≡ sum_of_phases (held phase spot gates (At h)) (held phase spot gates (At k)) →
        ((j : ℕ) → (spot j).holder ≡ At h → (fused j).holder ≡ At into) → ((j : ℕ) → (spot j).holder ≡ At k → (fused j).holder ≡ At into) → h ≢ k →
        (i : ℕ) → member i gates ≡ true → (v : ℕ) → (spot i).holder ≡ At v → (fused i).holder ≡ At into → (eqb i one.first ≡ false → eqb i other.first ≡ false → eqb i (first_of spot gates (At v)) ≡ false) →
        phase_of_gate q i ≡ teleported phase fused gates i
    put_together one other h k f g T first whole goes goes_too differ i there v here now behind =
        by_equal i one.first
        (λ t e. subst (λ j. phase_of_gate q j ≡ teleported phase fused gates j) (sym e) of_one)
        (λ a x. by_equal i other.first
        (λ t e. subst (λ j. phase_of_gate q j ≡ teleported phase fused gates j) (sym e) of_other)
        (λ b y. T.others i a b ∙ A.phases i there ∙ behind_first phase spot gates i (ap (λ h. eqb i (first_of spot gates h)) here ∙ behind a b)
        ∙ sym (behind_first phase fused gates i (ap (λ h. eqb i (first_of fused gates h)) now ∙ ap (eqb i) first ∙ a))))
      where
        at_h : (spot one.first).holder ≡ At h
        at_h = same_holder-true (spot one.first).holder (At h) f.at

        at_k : (spot other.first).holder ≡ At k
        at_k = same_holder-true (spot other.first).holder (At k) g.at

        different : eqb one.first other.first ≡ false
        different = apart_holder spot (At k) one.first other.first (ap (λ x. same_holder x (At k)) at_h ∙ ne_eqb h k differ) g.at

        value : (group : Group) (v : ℕ) → IsFirstAt spot gates v group → phase_of_gate p group.first ≡ signed group.negated (held phase spot gates (At v))
        value group v f =
            A.phases group.first f.there
            ∙ at_first phase spot gates group.first (At v) (same_holder-true (spot group.first).holder (At v) f.at) refl (sym f.first)
            ∙ ap (λ b. signed b (held phase spot gates (At v))) (sym f.negated)

        of_one : phase_of_gate q one.first ≡ teleported phase fused gates one.first
        of_one =
            T.of_one different (A.known one.first f.there)
            ∙ ap₂ (λ x y. sum_of_phases x (signed (xor one.negated other.negated) y)) (value one h f) (value other k g)
            ∙ ap (sum_of_phases (signed one.negated (held phase spot gates (At h))))
            (signed-signed other.negated (xor one.negated other.negated) (held phase spot gates (At k)) (held-below phase spot gates (At k))
            ∙ ap (λ b. signed b (held phase spot gates (At k))) (cancel one.negated other.negated))
            ∙ sym (signed-sum one.negated (held phase spot gates (At h)) (held phase spot gates (At k)) (held-below phase spot gates (At h)) (held-below phase spot gates (At k)))
            ∙ ap (signed one.negated) (sym whole)
            ∙ ap (λ b. signed b (held phase fused gates (At into))) (f.negated ∙ sym (merges one.first).negated)
            ∙ sym (at_first phase fused gates one.first (At into) (goes one.first at_h) refl (sym first))

        of_other : phase_of_gate q other.first ≡ teleported phase fused gates other.first
        of_other =
            T.of_other different (A.known other.first g.there)
            ∙ sym (behind_first phase fused gates other.first
            (ap (λ h. eqb other.first (first_of fused gates h)) (goes_too other.first at_k) ∙ ap (eqb other.first) first ∙ eqb_comm other.first one.first ∙ different))

    both_held : held phase fused gates (At into) ≡ sum_of_phases (held phase spot gates (At from)) (held phase spot gates (At into))
    both_held = held-merged phase low spot fused (At from) (At into) gates (λ j t. merges j)

    swapped : (a b : ℕ) → sum_of_phases a b ≡ sum_of_phases b a
    swapped a b = omega arith

    -- a gate of either
    both : (gone there : Group) → IsFirstAt spot gates from gone → IsFirstAt spot gates into there → ArePutTogether (earlier_of gone there) (later_of gone there) p q →
        (i : ℕ) → member i gates ≡ true → (v : ℕ) → (spot i).holder ≡ At v → (fused i).holder ≡ At into → (eqb i gone.first ≡ false → eqb i there.first ≡ false → eqb i (first_of spot gates (At v)) ≡ false) →
        phase_of_gate q i ≡ teleported phase fused gates i
    both gone there f g T i at v here now behind =
        by_test (ltb gone.first there.first)
        (λ t. put_together gone there from into f g (subst (λ b. ArePutTogether (cond b gone there) (cond b there gone) p q) t T) (firsts gone there f g ∙ ap (λ b. cond b gone.first there.first) t)
        both_held at_from at_into (λ e. apart (sym e)) i at v here now behind)
        (λ t. put_together there gone into from g f (subst (λ b. ArePutTogether (cond b gone there) (cond b there gone) p q) t T) (firsts gone there f g ∙ ap (λ b. cond b gone.first there.first) t)
        (both_held ∙ swapped (held phase spot gates (At from)) (held phase spot gates (At into))) at_into at_from apart i at v here now (λ a b. behind b a))

    phase_from_one : (o o' : Option Group) → IsGroupAt spot gates from o → IsGroupAt spot gates into o' → ArePhasesJoined o o' p q → (i : ℕ) → member i gates ≡ true → (spot i).holder ≡ At from →
        phase_of_gate q i ≡ teleported phase fused gates i
    phase_from_one None o' none at same i there here = absurd (true≢false (sym (ap (λ h. same_holder h (At from)) here ∙ eqb-self from) ∙ none i there))
    phase_from_one (Some gone) None f none same i there here =
        ap (λ xs. get_or xs i 0) same ∙ A.phases i there
        ∙ sym (phase_from phase low gates spot fuses (λ v. false) from i (At into) here (ap (λ b. cond b (At into) (At from)) (eqb-self from)) refl (hands none))
    phase_from_one (Some gone) (Some group) f g T i there here =
        both gone group f g T i there from here (at_from i here) (λ a b. ap (eqb i) f.first ∙ a)

    phase_from_other : (o o' : Option Group) → IsGroupAt spot gates from o → IsGroupAt spot gates into o' → ArePhasesJoined o o' p q → (i : ℕ) → member i gates ≡ true → (spot i).holder ≡ At into →
        phase_of_gate q i ≡ teleported phase fused gates i
    phase_from_other None o' none at same i there here =
        ap (λ xs. get_or xs i 0) same ∙ A.phases i there
        ∙ sym (phase_from phase low gates spot fuses (λ v. false) into i (At into) here (ap (λ b. cond b (At into) (At into)) other_way) refl (keeps none))
    phase_from_other (Some gone) None f none same i there here = absurd (true≢false (sym (ap (λ h. same_holder h (At into)) here ∙ eqb-self into) ∙ none i there))
    phase_from_other (Some gone) (Some group) f g T i there here =
        both gone group f g T i there into here (at_into i here) (λ a b. ap (eqb i) g.first ∙ b)

    agrees_fused : IsFused from into p q → Agrees phase gates fused q
    agrees_fused F = record {
      rising = rising;
      known = λ i there. subst (λ k. i < k) (sym (joined_count (group_of p from) (group_of p into) p q F.phases)) (A.known i there);
      phases = λ i there. at i there (spot i).holder refl;
      others = λ i missing.
          joined_others (group_of p from) (group_of p into) p q F.phases i (misses_member spot gates from i (group_of p from) (A.groups from) missing) (misses_member spot gates into i (group_of p into) (A.groups into) missing) ∙ A.others i missing;
      groups = λ w. subst (IsGroupAt fused gates w) (sym (F.groups w))
          (choose (IsGroupAt fused gates w) (eqb w into) (joined_groups (group_of p from) (group_of p into)) (cond (eqb w from) None (group_of p w))
          (λ t. subst (λ u. IsGroupAt fused gates u (joined_groups (group_of p from) (group_of p into))) (sym (eqb-true w into t)) (group_fused (group_of p from) (group_of p into) (A.groups from) (A.groups into)))
          (λ g. choose (IsGroupAt fused gates w) (eqb w from) None (group_of p w)
          (λ t. λ i there. subst (λ u. same_holder (fused i).holder (At u) ≡ false) (sym (eqb-true w from t)) (emptied i))
          (λ f. group-same phase low spot fused gates w w (group_of p w) (λ j there. stays_fused w f g j) (A.groups w))));
    }
      where
        elsewhere_same : (i : ℕ) → member i gates ≡ true → same_holder (spot i).holder (At from) ≡ false → same_holder (spot i).holder (At into) ≡ false → phase_of_gate q i ≡ teleported phase spot gates i
        elsewhere_same i there f g =
            joined_others (group_of p from) (group_of p into) p q F.phases i (misses_holder spot gates from i (group_of p from) (A.groups from) f) (misses_holder spot gates into i (group_of p into) (A.groups into) g) ∙ A.phases i there

        never : (w m : ℕ) → same_holder (fuses w) (Deleted (suc m)) ≡ false
        never w m = by_test (eqb w from) (λ t. rw t refl) (λ f. rw f refl)

        at : (i : ℕ) → member i gates ≡ true → (x : Holder) → (spot i).holder ≡ x → phase_of_gate q i ≡ teleported phase fused gates i
        at i there (At v) here =
            by_equal v from
            (λ t e. phase_from_one (group_of p from) (group_of p into) (A.groups from) (A.groups into) F.phases i there (here ∙ ap At e))
            (λ f a. by_equal v into
            (λ t e. phase_from_other (group_of p from) (group_of p into) (A.groups from) (A.groups into) F.phases i there (here ∙ ap At e))
            (λ g b. elsewhere_same i there (ap (λ h. same_holder h (At from)) here ∙ f) (ap (λ h. same_holder h (At into)) here ∙ g)
            ∙ sym (phase_from phase low gates spot fuses (λ v. false) v i (At v) here (ap (λ c. cond c (At into) (At v)) f) refl (λ j t. stays_fused v f g j))))
        at i there (Deleted m) here =
            elsewhere_same i there (ap (λ h. same_holder h (At from)) here) (ap (λ h. same_holder h (At into)) here)
            ∙ sym (phase_deleted phase low gates spot fuses (λ v. false) never m i here)
        at i there Dropped here =
            elsewhere_same i there (ap (λ h. same_holder h (At from)) here) (ap (λ h. same_holder h (At into)) here)
            ∙ sym (phase_dropped phase low gates spot fuses (λ v. false) i here)

-- ---- any step
module _ (phase : ℕ → ℕ) (low : AreBelow phase) (gates : List ℕ) (spot : ℕ → Spot) (p q : Phases) (A : Agrees phase gates spot p) where
  none_goes : (v w : ℕ) → false ≡ true → false ≡ true → eqb v w ≡ true
  none_goes v w t = absurd (true≢false (sym t))

  one_goes : (u v w : ℕ) → eqb v u ≡ true → eqb w u ≡ true → eqb v w ≡ true
  one_goes u v w s t = ap (λ x. eqb x w) (eqb-true v u s) ∙ eqb_comm u w ∙ t

  agrees_staying : (n : ℕ → Bool) → ((w : ℕ) → group_of q w ≡ turned_group (n w) (group_of p w)) × (q.phases ≡ p.phases) → Agrees phase gates (next phase low gates spot At n) q
  agrees_staying n c = agrees_leaving phase low gates spot p q A (λ v. false) none_goes Dropped (λ v. refl) (λ m. refl) n c.0 c.1 (λ v i here t. absurd (true≢false (sym t)))

  agrees_onward : (g k : Graph) (s : Step) → WellFormed g → IsStep g s k → IsFollowed g s p q → Agrees phase gates (next phase low gates spot (holder_after 0 g s) (negates g s)) q
  agrees_onward g k (LocalComplement u) w step c = agrees_staying (negates g (LocalComplement u)) c
  agrees_onward g k (Delete u) w step c =
      agrees_leaving phase low gates spot p q A (λ v. eqb v u) (one_goes u) (Deleted 0) (λ v. refl) (λ m. ne_eqb 0 (suc m) (λ e. omega (arith, e))) (negates g (Delete u)) c.0 c.1
      (λ v i here t. phase_left phase low gates spot (λ v. eqb v u) (one_goes u) (Deleted 0) (λ v. refl) (λ m. ne_eqb 0 (suc m) (λ e. omega (arith, e))) (negates g (Delete u)) v i here t
      (λ m. ne_eqb (suc m) 0 (λ e. omega (arith, e))) refl refl)
  agrees_onward g k (Pivot u v) w step c = agrees_staying (negates g (Pivot u v)) c
  agrees_onward g k (SplitInput u) w step c = agrees_staying (negates g (SplitInput u)) c
  agrees_onward g k (SplitOutput u) w step c = agrees_staying (negates g (SplitOutput u)) c
  agrees_onward g k (DropLone u) w step c = agrees_lost phase low gates spot p q A u c.0 c.1 (one_goes u)
  agrees_onward g k (FuseInto u) w step c = agrees_fused phase low gates spot A.rising u (into_of g u) (step_apart g (FuseInto u) k w step) p q A c
  agrees_onward g k (FuseTwin u v) w step c = agrees_fused phase low gates spot A.rising v u (step_apart g (FuseTwin u v) k w step) p q A c

pub agrees-step : (phase : ℕ → ℕ) → AreBelow phase → (gates : List ℕ) (spot : ℕ → Spot) (p q : Phases) (g k : Graph) (s : Step) → WellFormed g → IsStep g s k →
    Agrees phase gates spot p → IsFollowed g s p q → Agrees phase gates (λ i. moved 0 g s (later_spot (spot i))) q
agrees-step phase low gates spot p q g k s w step A c =
    agrees-spots phase low gates (next phase low gates spot (holder_after 0 g s) (negates g s)) (λ i. moved 0 g s (later_spot (spot i))) q
    (λ i there. moved_onward g s (spot i).holder (spot i).negated) (agrees_onward phase low gates spot p q A g k s w step c)

pub followed-count : (g : Graph) (s : Step) (p q : Phases) → IsFollowed g s p q → length q.phases ≡ length p.phases
followed-count g (LocalComplement u) p q c = ap length c.1
followed-count g (Delete u) p q c = ap length c.1
followed-count g (Pivot u v) p q c = ap length c.1
followed-count g (SplitInput u) p q c = ap length c.1
followed-count g (SplitOutput u) p q c = ap length c.1
followed-count g (DropLone u) p q c = at (group_of p u) c.1
  where
    at : (o : Option Group) → IsLost o p q → length q.phases ≡ length p.phases
    at None same = ap length same
    at (Some group) H = H.count
followed-count g (FuseInto u) p q c = joined_count (group_of p u) (group_of p (into_of g u)) p q c.phases
followed-count g (FuseTwin u v) p q c = joined_count (group_of p v) (group_of p u) p q c.phases
