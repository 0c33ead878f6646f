-- Sets by number: what becomes of them and of their room where one is put in.
use Rattle.std.proofs.Common.{◌≡◌, ◌≢◌, refl, sym, ◌∙◌, ap, ap₂, subst, ℕ, zero, suc, ◌+◌, ◌<◌, ◌≤◌, true, false, eqb, ltb, List, [], ◌∷◌, length, get_or, set, arith, true≢false}
use Rattle.std.specs.List.{AllZip}
use Rattle.std.proofs.lemmas.List.{get_or-set_other, length-set}
use Rattle.std.proofs.lemmas.Grind.{get_or-set_at}
use Rattle.zx_model.specs.Bits.{xor, member}
use Rattle.zx_calculus.specs.Graph.{in_order}
use Rattle.zx_calculus.proofs.Ids.{by_equal, eqb-self}
use Rattle.zx_calculus.proofs.Extensionality.{rising_ext}
use Rattle.open_graph.specs.VertexSets.{VertexSet}
use Rattle.zx_flow.specs.VertexSets.{no_set, set_at, SameSetsAt, SameSetsBut, AreToggledAt}
use Rattle.zx_flow.specs.Internal.Sets.{room_at}

abbrev ids_of : VertexSet → List ℕ
ids_of s = s.ids

apart : (p v : ℕ) → eqb p v ≡ false → p ≢ v
apart p v f e = true≢false (sym (eqb-self v) ∙ ap (λ x. eqb x v) (sym e) ∙ f)

-- what holds of the set that is put in, where it is that at p, and else of the one that was there
at_put : (P : VertexSet → Type 0) (lists : List VertexSet) (v p : ℕ) (s : VertexSet) → v < length lists → (p ≡ v → P s) → (p ≢ v → P (get_or lists p no_set)) →
    P (get_or (set lists v s) p no_set)
at_put P lists v p s lt own other =
    by_equal p v (λ t e. subst P (sym (get_or-set_at lists v p s no_set e lt)) (own e)) (λ f n. subst P (sym (get_or-set_other lists v p s no_set n)) (other n))

-- a set that has the same members
pub same_put : (lists : List VertexSet) (v : ℕ) (s : VertexSet) → v < length lists → s.ids ≡ set_at lists v → SameSetsAt lists (set lists v s)
same_put lists v s lt same p =
    at_put (λ x. x.ids ≡ set_at lists p) lists v p s lt (λ e. same ∙ ap (set_at lists) (sym e)) (λ n. refl)

-- a set that is taken out while another one changes, and put back
module _ (lists : List VertexSet) (v u : ℕ) (none s other : VertexSet) (v_there : v < length lists) (u_there : u < length lists) (differ : v ≢ u)
    (was : other ≡ get_or lists u no_set) where
  abbrev pub back : List VertexSet
  back = set (set (set lists u none) v s) u other

  at_u : get_or back u no_set ≡ get_or lists u no_set
  at_u =
      get_or-set_at (set (set lists u none) v s) u u other no_set refl
      (let a = length-set (set lists u none) v s in let b = length-set lists u none in omega (arith, a, b, u_there)) ∙ was

  at_v : get_or back v no_set ≡ s
  at_v =
      get_or-set_other (set (set lists u none) v s) u v other no_set differ
      ∙ get_or-set_at (set lists u none) v v s no_set refl (let b = length-set lists u none in omega (arith, b, v_there))

  at_other : (p : ℕ) → p ≢ u → p ≢ v → get_or back p no_set ≡ get_or lists p no_set
  at_other p from_u from_v =
      get_or-set_other (set (set lists u none) v s) u p other no_set from_u
      ∙ get_or-set_other (set lists u none) v p s no_set from_v ∙ get_or-set_other lists u p none no_set from_u

  pub back_but : SameSetsBut v lists back
  back_but p f =
      by_equal p u (λ t e. subst (λ x. set_at back x ≡ set_at lists x) (sym e) (ap ids_of at_u))
      (λ g n. ap ids_of (at_other p n (apart p v f)))

  -- what is there to change is what was there
  pub before_change : get_or (set lists u none) v no_set ≡ get_or lists v no_set
  before_change = get_or-set_other lists u v none no_set differ

  pub back_toggled : ((w : ℕ) → member w s.ids ≡ xor (member w (set_at (set lists u none) v)) (member w other.ids)) →
      AreToggledAt v (set_at lists u) lists back
  back_toggled toggled = record {
    own = λ w. ap (λ (x : VertexSet). member w x.ids) at_v ∙ toggled w
        ∙ ap₂ (λ (a b : VertexSet). xor (member w a.ids) (member w b.ids)) before_change was;
    others = back_but;
  }

  pub back_same : s.ids ≡ set_at (set lists u none) v → SameSetsAt lists back
  back_same same p =
      by_equal p v (λ t e. subst (λ x. set_at back x ≡ set_at lists x) (sym e) (ap ids_of at_v ∙ same ∙ ap ids_of before_change))
      (λ f n. back_but p f)

-- what a copy of them has
pub zip_same : (old new : List VertexSet) → AllZip (λ (s copy : VertexSet). copy.ids ≡ s.ids) old new → SameSetsAt old new
zip_same [] [] each p = refl
zip_same [] (n ∷ ns) each p = absurd each
zip_same (s ∷ ss) [] each p = absurd each
zip_same (s ∷ ss) (n ∷ ns) each zero = each.0
zip_same (s ∷ ss) (n ∷ ns) each (suc p) = zip_same ss ns each.1 p

-- a set with more room
pub more_room : (lists : List VertexSet) (v : ℕ) (s : VertexSet) → v < length lists → room_at lists v ≤ s.room → (p : ℕ) →
    room_at lists p ≤ room_at (set lists v s) p
more_room lists v s lt more p =
    at_put (λ x. room_at lists p ≤ x.room) lists v p s lt (λ e. subst (λ x. room_at lists x ≤ s.room) (sym e) more) (λ n. omega arith)

pub next_room : (lists : List VertexSet) (v bound : ℕ) (s : VertexSet) → v < length lists → bound ≤ s.room → ((p : ℕ) → p < v → bound ≤ room_at lists p) → (p : ℕ) → p < v + 1 →
    bound ≤ room_at (set lists v s) p
next_room lists v bound s lt room before p below =
    at_put (λ x. bound ≤ x.room) lists v p s lt (λ e. room) (λ n. before p (omega (arith, below, n)))

-- a set of one vertex
pub one_member : (old new : List ℕ) (v : ℕ) → old ≡ [] → in_order ltb new ≡ true → ((w : ℕ) → member w new ≡ xor (member w old) (member w (v ∷ []))) → new ≡ v ∷ []
one_member old new v empty rising toggled =
    rising_ext new (v ∷ []) rising refl (λ w. toggled w ∙ ap (λ l. xor (member w l) (member w (v ∷ []))) empty)
