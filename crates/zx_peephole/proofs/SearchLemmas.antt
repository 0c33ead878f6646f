-- What the gates that stop the next one say of pairs and triples that it ends.
use Rattle.std.proofs.Common.{◌≡◌, ℕ, ◌<◌, true, false, length, get_or, take, sym, ap, ◌∙◌, subst, arith}
use Rattle.std.specs.List.{filter}
use Rattle.zx_gates.specs.declared.gate.Gate.{Gate}
use Rattle.zx_gates.specs.Circuit.{most_qubits, IsGateOn}
use Rattle.zx_peephole.specs.Tidy.{cancels_or_merges}
use Rattle.zx_peephole.specs.declared.chains.Chains.{Chains}
use Rattle.zx_peephole.specs.Internal.Chains.{is_left, gate_at, kept, left_before, next_of, IsReading}
use Rattle.zx_peephole.specs.Internal.Marks.{meets_none}
use Rattle.zx_peephole.specs.Internal.Changes.{EndsPair, EndsTriple, IsPairAt, IsTripleAt}
use Rattle.zx_peephole.specs.Internal.Stops.{IsFreeBetween, IsStop, IsLastStop, HasQubitsBelow, turns}
use Rattle.zx_peephole.proofs.FindingLemmas.{Extends, free_extends, stop_extends, free_stop_extends, stops_extend}
use Rattle.zx_peephole.proofs.FindingLemmas.{stop_is_pair, stop_is_triple}
use Rattle.zx_peephole.proofs.LeftLemmas.{read_at}
use Rattle.zx_peephole.proofs.MarkLemmas.{unmet_extends}
use Rattle.zx_peephole.proofs.SoundLemmas.{first_below, second_below}
use Rattle.zx_peephole.proofs.WalkLemmas.{free_of, stop_of}

module _ (w : Chains) (reading : IsReading w) (g : Gate) (read : g ≡ get_or w.gates.items w.next g) where
  same : g ≡ next_of w
  same = read_at w.gates.items w.next g reading.more read

  -- the kept gates stay tidy with the next one
  abbrev Tidies : Type 0
  Tidies = Extends (kept w) (next_of w)

  tidies : Extends (kept w) g → Tidies
  tidies e = subst (Extends (kept w)) same e

  pub nothing_stops : IsFreeBetween w.gates.items g 0 w.next → Tidies
  nothing_stops free =
      tidies (free_extends (kept w) g (free_of w.gates.items g w.next reading.sound.places.within free))

  pub unmet : meets_none w.marks.items g ≡ true → Tidies
  unmet none = tidies (unmet_extends w.marks.items (kept w) reading.sound.marks g few none)
    where
      on : IsGateOn w.qubits g
      on = subst (IsGateOn w.qubits) (sym same)
          (reading.sound.on_qubits w.next reading.more (reading.sound.unread w.next (omega arith) reading.more))

      few : HasQubitsBelow most_qubits g
      few = record {
        first = omega (arith, first_below w.qubits g on, reading.sound.few_qubits);
        second = omega (arith, second_below w.qubits g on, reading.sound.few_qubits);
      }

  module _ (i : ℕ) (s : IsStop w.gates.items g w.next i) (x : Gate) (x_read : x ≡ get_or w.gates.items i x) where
    within : i < length w.gates.items
    within = omega (arith, s.before, reading.more)

    here : x ≡ gate_at w.gates.items i
    here = read_at w.gates.items i x within x_read

    abbrev last : IsLastStop g (kept w) (left_before w i)
    last = stop_of w.gates.items g w.next reading.sound.places.within i s

    apart : cancels_or_merges x g ≡ false → cancels_or_merges (gate_at w.gates.items i) g ≡ false
    apart unpaired = ap (λ y. cancels_or_merges y g) (sym here) ∙ unpaired

    pub stops_as_pair : cancels_or_merges x g ≡ true → IsPairAt w i
    stops_as_pair pair = record {
      first = record { before = s.before; left = s.left };
      pair = subst (λ (h : Gate). EndsPair (kept w) h (left_before w i)) same
          (stop_is_pair (kept w) g (left_before w i) last (ap (λ y. cancels_or_merges y g) (sym here) ∙ pair));
    }

    pub stops_straight : cancels_or_merges x g ≡ false → turns g x ≡ false → Tidies
    stops_straight unpaired straight =
        tidies (stop_extends (kept w) g (left_before w i) last (apart unpaired) (ap (turns g) (sym here) ∙ straight))

    pub nothing_before : cancels_or_merges x g ≡ false → IsFreeBetween w.gates.items g 0 i → Tidies
    nothing_before unpaired free =
        tidies (free_stop_extends (kept w) g (left_before w i) last (apart unpaired)
        (free_of w.gates.items g i (omega arith) free))

    module _ (k : ℕ) (r : IsStop w.gates.items g i k) (y : Gate) (y_read : y ≡ get_or w.gates.items k y) where
      first : y ≡ gate_at w.gates.items k
      first = read_at w.gates.items k y (omega (arith, r.before, within)) y_read

      abbrev last_before : IsLastStop g (filter is_left (take i w.gates.items)) (left_before w k)
      last_before = stop_of w.gates.items g i (omega (arith, within)) k r

      pub stops_as_triple : turns g x ≡ true → cancels_or_merges y g ≡ true → IsTripleAt w k i
      stops_as_triple turned pair = record {
        order = r.before;
        first = record { before = omega (arith, r.before, s.before); left = r.left };
        middle = record { before = s.before; left = s.left };
        triple = subst (λ (h : Gate). EndsTriple (kept w) h (left_before w k) (left_before w i)) same
            (stop_is_triple (kept w) g (left_before w i) last (left_before w k) last_before
            (ap (turns g) (sym here) ∙ turned) (ap (λ z. cancels_or_merges z g) (sym first) ∙ pair));
      }

      pub other_before : cancels_or_merges x g ≡ false → cancels_or_merges y g ≡ false → Tidies
      other_before unpaired other =
          tidies (stops_extend (kept w) g (left_before w i) (left_before w k) last (apart unpaired) last_before
          (ap (λ z. cancels_or_merges z g) (sym first) ∙ other))
