-- Planes and phases of the neighbours of a vertex turned, whose row is taken out meanwhile.
use Rattle.std.proofs.Common.{◌≡◌, ◌≢◌, refl, sym, ◌∙◌, ap, ap₂, subst, inl, inr, ℕ, ◌<◌, true, false, ltb, cond, ◌||◌, List, [], ◌∷◌, ◌++◌, set, Option, Some, None, IsSome, slice_index_or, arith}
use Rattle.std.proofs.lemmas.Bool.{cases_eq}
use Rattle.std.proofs.lemmas.List.{get_or-set_same, get_or-set_other}
use Rattle.zx_model.specs.Bits.{member}
use Rattle.zx_model.specs.Phase.{turn, sum_of_phases}
use Rattle.zx_calculus.specs.Graph.{Kind, End, Graph, kind_of, neighbours, is_XY, in_order, with_kinds, WellFormed, OrderedEdges}
use Rattle.zx_calculus.specs.Scalars.{sum_of_powers}
use Rattle.zx_calculus.proofs.Ids.{by_equal}
use Rattle.zx_calculus.proofs.Kept.{quarter_below, half_below, cond_below, quarter_XY, half_XY, cond_XY, kept_kinds}
use Rattle.zx_calculus.proofs.Vertices.{ids-with_kinds, kind_of-with_kinds}
use Rattle.zx_calculus.proofs.Extensionality.{neighbours_ext}
use Rattle.open_graph.specs.declared.slot.Slot.{Slot}
use Rattle.open_graph.specs.declared.turn.Turn.{Turn}
use Rattle.open_graph.specs.declared.turn.Turn.TheVariants.{Quarter, Half}
use Rattle.open_graph.specs.Turns.{turned_by, turned_in, power_of, powers_of}
use Rattle.open_graph.specs.Internal.Slots.{Told, told_by, told_at, graph_of, IsSound}
use Rattle.open_graph.specs.Internal.Changes.{Puts, Stores, KindsChanged, powers_in}
use Rattle.open_graph.specs.Internal.Room.{room_by, SameRoom, KeepsRoom}
use Rattle.open_graph.proofs.SlotLemmas.{kind_of-vertices, joined-edges, some_of_live, live_if_some}
use Rattle.open_graph.proofs.RoomLemmas.{vacant-put}
use Rattle.open_graph.proofs.ReachLemmas.{place_within, none_of_dead}
use Rattle.open_graph.proofs.Keeping.{puts_at, puts_other, sound_keeps, becomes, Becomes}
use Rattle.open_graph.proofs.Walks.{member-more}

-- ---- room

-- another slot in the place of one
pub room_other : (xs : List (Option Slot)) (u : ℕ) (s : Slot) (p : ℕ) → p ≢ u →
    room_by (slice_index_or (set xs u (Some s)) p None) ≡ room_by (slice_index_or xs p None)
room_other xs u s p apart = ap room_by (get_or-set_other xs u p (Some s) None apart)

pub room_there : (xs : List (Option Slot)) (u : ℕ) (s t : Slot) → slice_index_or xs u None ≡ Some t →
    room_by (slice_index_or (set xs u (Some s)) u None) ≡ s.row.room
room_there xs u s t here = ap room_by (get_or-set_same xs u (Some s) None (place_within xs u t here))

pub same_room_put : (xs : List (Option Slot)) (u : ℕ) (s t : Slot) → slice_index_or xs u None ≡ Some t → s.row.room ≡ t.row.room →
    SameRoom xs (set xs u (Some s))
same_room_put xs u s t here room =
    record {
      spare = vacant-put xs u s t here;
      rows = λ p.
          elim (cases_eq p u) [
            | inl e ↦
                ap (λ q. room_by (slice_index_or (set xs u (Some s)) q None)) e ∙ room_there xs u s t here ∙ room
                ∙ sym (ap room_by here) ∙ ap (λ q. room_by (slice_index_or xs q None)) (sym e)
            | inr apart ↦ room_other xs u s p apart
          ];
    }

pub same_room_then : (xs ys zs : List (Option Slot)) → SameRoom xs ys → SameRoom ys zs → SameRoom xs zs
same_room_then xs ys zs first second =
    record { spare = second.spare ∙ first.spare; rows = λ p. second.rows p ∙ first.rows p }

-- ---- vertices that turn one after the other

module _ (f : ℕ → Kind → Kind) (old new : List (Option Slot)) (changed : KindsChanged f old new) where
  pub turned_there : (p : ℕ) → IsSome (slice_index_or old p None) → IsSome (slice_index_or new p None)
  turned_there p there =
      some_of_live (slice_index_or new p None)
      (ap (λ t. t.live) (changed p) ∙ sym (live_if_some (slice_index_or old p None)) ∙ there)

  pub turned_keeps : (reach : ℕ) → SameRoom old new → KeepsRoom reach old new
  turned_keeps reach same =
      record {
        spare = same.spare;
        vacant = λ p none.
            none_of_dead (slice_index_or old p None)
            (sym (ap (λ t. t.live) (changed p)) ∙ ap (λ o. (told_by o).live) none);
        rows = λ rows p lt there.
            let was = some_of_live (slice_index_or old p None)
            (sym (ap (λ t. t.live) (changed p)) ∙ sym (live_if_some (slice_index_or new p None)) ∙ there) in
            let le = rows p lt was in
            let is = same.rows p in
            omega (arith, le, is);
      }

  -- they tell the graph with these planes and phases
  keeps_kinds : (h : Graph) → Stores old h → Stores new (record h { vertices = with_kinds f h.vertices })
  keeps_kinds h k =
      record {
        live = λ p. ap (λ x. x.live) (changed p) ∙ k.live p ∙ ap (member p) (sym (ids-with_kinds f h.vertices));
        kind = λ p t. let live : (told_at old p).live ≡ true = sym (ap (λ x. x.live) (changed p)) ∙ t in
            ap (λ x. x.kind) (changed p) ∙ ap (f p) (k.kind p live)
            ∙ sym (kind_of-with_kinds f p h.vertices (sym (k.live p) ∙ live));
        adjacent = λ p q. ap (λ x. member q x.row) (changed p) ∙ k.adjacent p q;
        input = λ p. ap (λ x. x.input) (changed p) ∙ k.input p;
        output = λ p. ap (λ x. x.output) (changed p) ∙ k.output p;
      }

module _ (t : Turn) (old now : List (Option Slot)) (before : List ℕ) (u : ℕ) (absent : member u before ≡ false)
    (was : KindsChanged (turned_in t before) old now) where
  same_told : told_at now u ≡ told_at old u
  same_told =
      was u ∙ ap {B = Told} (λ b. record (told_at old u) { kind = cond b (turned_by t (told_at old u).kind) (told_at old u).kind }) absent

  pub same_power : power_of t (told_at now u).kind ≡ power_of t (told_at old u).kind
  same_power = ap (λ (x : Told). power_of t x.kind) same_told

  pub turned_next : (new : List (Option Slot)) → Puts now new u (record (told_at now u) { kind = turned_by t (told_at now u).kind }) →
      KindsChanged (turned_in t (before ++ u ∷ [])) old new
  turned_next new puts p =
      by_equal p u
      (λ s e.
      let there : member p (before ++ u ∷ []) ≡ true = member-more before u p ∙ ap (λ b. b || member p before) s in
      ap (told_at new) e ∙ puts_at now new u _ puts
      ∙ ap {A = Told} {B = Told} (λ x. record x { kind = turned_by t x.kind }) (same_told ∙ ap (told_at old) (sym e))
      ∙ ap {B = Told} (λ b. record (told_at old p) { kind = cond b (turned_by t (told_at old p).kind) (told_at old p).kind }) (sym there))
      (λ s n.
      let same : member p (before ++ u ∷ []) ≡ member p before = member-more before u p ∙ ap (λ b. b || member p before) s in
      puts_other now new u _ p puts n ∙ was p
      ∙ ap {B = Told} (λ b. record (told_at old p) { kind = cond b (turned_by t (told_at old p).kind) (told_at old p).kind }) (sym same))

-- ---- a row that is taken out meanwhile

powers_same : (f g : ℕ → ℕ) → ((p : ℕ) → f p ≡ g p) → (ps : List ℕ) → sum_of_powers f ps ≡ sum_of_powers g ps
powers_same f g same [] = refl
powers_same f g same (p ∷ ps) = ap₂ sum_of_phases (same p) (powers_same f g same ps)

module _ (old taken : List (Option Slot)) (u : ℕ) (took : Puts old taken u (record (told_at old u) { row = [] })) where
  but_row : (p : ℕ) → told_at taken p ≡ record (told_at old p) { row = (told_at taken p).row }
  but_row p =
      by_equal p u
      (λ t e. let at = ap (told_at taken) e ∙ puts_at old taken u _ took in
      at ∙ ap₂ {A = Told} {C = Told} (λ x r. record x { row = r }) (ap (told_at old) (sym e)) (sym (ap (λ x. x.row) at)))
      (λ f n. let off = puts_other old taken u _ p took n in
      off ∙ ap {B = Told} (λ r. record (told_at old p) { row = r }) (sym (ap (λ x. x.row) off)))

  pub taken_there : (p : ℕ) → IsSome (slice_index_or old p None) → IsSome (slice_index_or taken p None)
  taken_there p there =
      some_of_live (slice_index_or taken p None)
      (ap (λ t. t.live) (but_row p) ∙ sym (live_if_some (slice_index_or old p None)) ∙ there)

  pub taken_powers : (t : Turn) (row : List ℕ) → row ≡ (told_at old u).row → powers_in t taken row ≡ powers_in t old (told_at old u).row
  taken_powers t row is =
      powers_same (λ p. power_of t (told_at taken p).kind) (λ p. power_of t (told_at old p).kind)
      (λ p. ap (λ (x : Told). power_of t x.kind) (but_row p)) row
      ∙ ap (powers_in t old) is

  pub turned_back : (f : ℕ → Kind → Kind) (turned new : List (Option Slot)) (row : List ℕ) → row ≡ (told_at old u).row →
      KindsChanged f taken turned → Puts turned new u (record (told_at turned u) { row = row }) → KindsChanged f old new
  turned_back f turned new row is changed gave p =
      by_equal p u
      (λ t e. ap (told_at new) e ∙ puts_at turned new u _ gave
      ∙ ap {A = Told} {B = Told} (λ x. record x { row = row })
      (changed u ∙ ap {A = Told} {B = Told} (λ x. record x { kind = f u x.kind }) (puts_at old taken u _ took))
      ∙ ap {B = Told} (λ r. record (told_at old u) { kind = f u (told_at old u).kind; row = r }) is
      ∙ ap {B = Told} (λ q. record (told_at old q) { kind = f q (told_at old q).kind }) (sym e))
      (λ g n. puts_other turned new u _ p gave n ∙ changed p
      ∙ ap {A = Told} {B = Told} (λ x. record x { kind = f p x.kind }) (puts_other old taken u _ p took n))

-- the room of each row, where that of u is taken out and put back
pub room_back : (old taken turned new : List (Option Slot)) (u room : ℕ) → room ≡ room_by (slice_index_or old u None) →
    ((p : ℕ) → p ≢ u → room_by (slice_index_or taken p None) ≡ room_by (slice_index_or old p None)) →
    ((p : ℕ) → room_by (slice_index_or turned p None) ≡ room_by (slice_index_or taken p None)) →
    room_by (slice_index_or new u None) ≡ room →
    ((p : ℕ) → p ≢ u → room_by (slice_index_or new p None) ≡ room_by (slice_index_or turned p None)) →
    (p : ℕ) → room_by (slice_index_or new p None) ≡ room_by (slice_index_or old p None)
room_back old taken turned new u room took others same gave back p =
    elim (cases_eq p u) [
      | inl e ↦
          ap (λ q. room_by (slice_index_or new q None)) e ∙ gave ∙ took
          ∙ ap (λ q. room_by (slice_index_or old q None)) (sym e)
      | inr apart ↦ back p apart ∙ same p ∙ others p apart
    ]

-- ---- the graph

turn_below : (t : Turn) (k : Kind) → k.phase < turn → (turned_by t k).phase < turn
turn_below Quarter k lt = quarter_below k.plane k.phase lt
turn_below Half k lt = half_below k.plane k.phase lt

turn_XY : (t : Turn) (k : Kind) → is_XY k.plane ≡ true → is_XY (turned_by t k).plane ≡ true
turn_XY Quarter k xy = quarter_XY k.plane k.phase xy
turn_XY Half k xy = half_XY k.plane k.phase xy

turned_kept : (t : Turn) (near : List ℕ) (g : Graph) → WellFormed g → WellFormed (record g { vertices = with_kinds (turned_in t near) g.vertices })
turned_kept t near g w =
    kept_kinds g (turned_in t near) (record g { vertices = with_kinds (turned_in t near) g.vertices }) w
    (λ p k lt. cond_below (member p near) (turned_by t k) k (turn_below t k lt) lt)
    (λ p there k xy. cond_XY (member p near) (turned_by t k) k (turn_XY t k xy) xy)
    (λ p there k xy. cond_XY (member p near) (turned_by t k) k (turn_XY t k xy) xy)
    refl
    (record {
      ordered = subst (λ (vs : List ℕ). OrderedEdges vs g.edges) (sym (ids-with_kinds (turned_in t near) g.vertices)) w.edges;
      inputs = refl;
      outputs = refl;
    })

module _ (slots : List (Option Slot)) (inputs outputs : List End) (sound : IsSound slots inputs outputs) (t : Turn) (u : ℕ)
    (rising : in_order ltb (told_at slots u).row ≡ true) where
  abbrev g : Graph
  g = graph_of slots inputs outputs

  row_neighbours : (told_at slots u).row ≡ neighbours g u
  row_neighbours =
      neighbours_ext g u (told_at slots u).row sound.well_formed rising
      (λ p. sym (joined-edges slots sound.symmetric sound.no_loop u p))

  pub becomes_turned : (new : List (Option Slot)) → KindsChanged (turned_in t (told_at slots u).row) slots new →
      Becomes new inputs outputs (record g { vertices = with_kinds (turned_in t (neighbours g u)) g.vertices })
  becomes_turned new changed =
      becomes new (record g { vertices = with_kinds (turned_in t (neighbours g u)) g.vertices })
      (turned_kept t (neighbours g u) g sound.well_formed)
      (keeps_kinds (turned_in t (neighbours g u)) slots new
      (subst (λ (ns : List ℕ). KindsChanged (turned_in t ns) slots new) row_neighbours changed)
      g (sound_keeps slots inputs outputs sound))

  pub powers_turned : powers_in t slots (told_at slots u).row ≡ powers_of t g (neighbours g u)
  powers_turned =
      powers_same (λ p. power_of t (told_at slots p).kind) (λ p. power_of t (kind_of g.vertices p))
      (λ p. ap (power_of t) (sym (kind_of-vertices slots p))) (told_at slots u).row
      ∙ ap (powers_of t g) row_neighbours
