-- What `clap` says of one level of a command line, word by word.
use Rattle.std.proofs.Common.{◌≡◌, ◌∙◌, ◌==◌, ℕ, suc, zero, Bool, true, false, List, [], ◌∷◌, length, Option, None, Some, inl, inr, ◌⊎◌}
use Rattle.std.proofs.Common.{refl, sym, ap, subst, option_and_then, if◌then◌else◌, is_some, true≢false}
use Rattle.std.proofs.Math.Numerals.{one-add}
use Rattle.std.proofs.lemmas.Bool.{eqb-true, false_from_ne_true, or_parts}
use Rattle.std.proofs.lemmas.Slice.Eq.{bytes_eq-Decides}
use Rattle.std.specs.Prelude.{slice_get, unwrap_or}
use Rattle.std.specs.List.{after_first, before_first, fold}
use Rattle.std.specs.Option.{option_map_or}
use Rattle.std.specs.Str.{bytes_eq, chars}
use Rattle.clap.specs.Lexer.{has_byte, long_of, long_of_rest, short_of, strip_byte}
use Rattle.clap.specs.Walk.{Held, Names, Outcome, Row, Text, Walk, after_flag, after_step, arg_by_index, arg_by_long}
use Rattle.clap.specs.Walk.{arg_by_short, bundle_met, bundle_step, finished, idle, long_or_other, plain, settled}
use Rattle.clap.specs.Walk.{short_or_plain, subcommand_met, to_positional, value, walked, word_met}
use Rattle.clap.specs.Simple.{Shape}
use Rattle.clap.specs.Kinds.{Kinds, or_else}
use Rattle.clap.specs.Faults.{bundle_fault, bundle_step_fault, check_fault, defaults_fault, flag_word_fault, flags_fault}
use Rattle.clap.specs.Faults.{long_fault, settle_fault, step_fault, turn_fault, walk_fault, word_fault}

-- ---- faults

-- what is there where there is no fault
abbrev pub unless_fault : {X : Type 0} → Kinds → Option X → Option X
unless_fault [] o = o
unless_fault (k ∷ ks) o = None

abbrev pub IsFault : Kinds → Type 0
IsFault [] = ⊥
IsFault (k ∷ ks) = Unit {0}

pub none_at : {X : Type 0} (kinds : Kinds) (o : Option X) → IsFault kinds → unless_fault kinds o ≡ None
none_at [] o h = absurd h
none_at (k ∷ ks) o h = refl

pub first_fault : (a b : Kinds) → IsFault a → IsFault (or_else a b)
first_fault [] b h = absurd h
first_fault (k ∷ ks) b h = tt

-- ---- the words of a level, one by one

-- the matches of a subcommand's words, from a place among them
abbrev pub level : Shape → Walk → List Text → Option (List Row)
level s w words =
    let end = (fold (walked s.rules []) w words).held in
    unless_fault (or_else (walk_fault s [] w words) (or_else (settle_fault s.rules s.args_override_self end)
    (or_else (defaults_fault (settled s.rules end).rows s.rules) (check_fault s (finished s.rules end) false))))
    (Some (finished s.rules end))

pub one_word : (s : Shape) (w : Walk) (word : Text) (rest : List Text)
    → level s w (word ∷ rest) ≡ unless_fault (turn_fault s [] w word) (level s (walked s.rules [] w word) rest)
unfolding walk_fault
one_word s w word rest =
    let next = walked s.rules [] w word in
    let end = (fold (walked s.rules []) next rest).held in
    apart (turn_fault s [] w word) (walk_fault s [] next rest) _ (Some (finished s.rules end))
  where
    apart : (a b c : Kinds) (o : Option (List Row)) → unless_fault (or_else (or_else a b) c) o ≡ unless_fault a (unless_fault (or_else b c) o)
    apart [] b c o = refl
    apart (k ∷ ks) b c o = refl

-- ---- a word that is no flag, or is refused

abbrev pub held : List Row → Option (Text × List Text) → Held
held rows pending = record { rows = rows; pending = pending; skip = 0 }

-- where the walk stands between two words, with nothing that waits for a value
abbrev pub between : Held → ℕ → Bool → Walk
between h position is_trailing =
    record { held = h; waiting = idle; position = position; is_trailing = is_trailing; stopped = None }

-- the word goes to a positional, or has a fault
abbrev pub IsPlain : Shape → Names → Held → ℕ → Text → Type 0
IsPlain s names h position word = (word_fault s names false idle word h ≡ [])
    × (word_met s.rules names false idle position word h ≡ (h, value))

abbrev pub IsPlainOrFault : Shape → Names → Held → ℕ → Text → Type 0
IsPlainOrFault s names h position word =
    IsPlain s names h position word ⊎ IsFault (word_fault s names false idle word h)

module _ (s : Shape) (names : Names) (rows : List Row) (pending : Option (Text × List Text)) (word : Text) where
  abbrev here : Held
  here = held rows pending

  bundled : ((x : ℕ) → arg_by_short s.rules x ≡ None) → (n : ℕ) (flags : Text)
      → ((flags_fault s.rules s.args_override_self n flags 0 here ≡ []) × (bundle_met s.rules n flags 0 plain here ≡ (here, plain)))
      ⊎ IsFault (flags_fault s.rules s.args_override_self n flags 0 here)
  unfolding flags_fault bundle_met
  bundled none zero flags = inl (refl, refl)
  bundled none (suc n) flags = go (slice_get (chars flags) 0)
    where
      go : (o : Option ℕ)
          → ((bundle_step_fault s.rules s.args_override_self o flags 0 here (flags_fault s.rules s.args_override_self n) ≡ [])
          × (bundle_step s.rules o flags 0 plain here (bundle_met s.rules n) ≡ (here, plain)))
          ⊎ IsFault (bundle_step_fault s.rules s.args_override_self o flags 0 here (flags_fault s.rules s.args_override_self n))
      go None = inl (refl, refl)
      go (Some x) = inr (rw (none x) tt)

  no_long_word : ((x : ℕ) → arg_by_short s.rules x ≡ None) → (o : Option Text)
      → ((option_map_or (λ flags. bundle_fault s.rules s.args_override_self flags here) o [] ≡ [])
      × (short_or_plain s.rules idle word o here ≡ (here, value)))
      ⊎ IsFault (option_map_or (λ flags. bundle_fault s.rules s.args_override_self flags here) o [])
  no_long_word none None = inl (refl, refl)
  no_long_word none (Some flags) = elim (bundled none (length flags) flags) [
    | inl p ↦ inl (p.0, ap (λ (b : Held × Outcome). after_flag s.rules idle word b.0 b.1) p.1)
    | inr fault ↦ inr fault
  ]

  -- a word other than `--` that names no subcommand, where no flag is short and the long one has a fault
  pub other_word : (position : ℕ) → subcommand_met names idle word ≡ None → bytes_eq word (45 ∷ 45 ∷ []) ≡ false
      → ((x : ℕ) → arg_by_short s.rules x ≡ None)
      → ((name : Text) (v : Option Text) → long_of word ≡ Some (name, v)
      → IsFault (long_fault s.rules s.args_override_self (arg_by_long s.rules name) v here))
      → IsPlainOrFault s names here position word
  other_word position free other none long = rw (free, other) (go (long_of word) refl)
    where
      go : (o : Option (Text × Option Text)) → long_of word ≡ o
          → ((flag_word_fault s.rules s.args_override_self o word here ≡ []) × (long_or_other s.rules idle word o here ≡ (here, value)))
          ⊎ IsFault (flag_word_fault s.rules s.args_override_self o word here)
      go (Some p) e = inr (long p.0 p.1 e)
      go None e = no_long_word none (short_of word)

-- a word that goes to a positional
pub plain_next : (s : Shape) (h : Held) (position : ℕ) (word : Text) (rest : List Text) → IsPlain s [] h position word
    → level s (between h position false) (word ∷ rest)
    ≡ unless_fault (step_fault s position h value)
    (level s (to_positional s.rules (arg_by_index s.rules position) word (between h position false) h) rest)
unfolding walked
plain_next s h position word rest p =
    one_word s (between h position false) word rest
    ∙ (λ i. unless_fault (or_else (p.0 i) (step_fault s position (p.1 i).0 (p.1 i).1))
    (level s (after_step s.rules word (between h position false) (p.1 i).0 (p.1 i).1) rest))

pub trailing_next : (s : Shape) (h : Held) (position : ℕ) (word : Text) (rest : List Text)
    → level s (between h position true) (word ∷ rest)
    ≡ unless_fault (step_fault s position h value)
    (level s (to_positional s.rules (arg_by_index s.rules position) word (between h position true) h) rest)
unfolding walked
trailing_next s h position word rest = one_word s (between h position true) word rest

-- a word that no positional takes has a fault
pub stray_turn : (s : Shape) (names : Names) (h : Held) (position : ℕ) (word : Text) → IsPlainOrFault s names h position word
    → IsFault (step_fault s position h value) → IsFault (turn_fault s names (between h position false) word)
stray_turn s names h position word (inl p) stray =
    subst IsFault (λ i. or_else (sym p.0 i) (step_fault s position (sym p.1 i).0 (sym p.1 i).1)) stray
stray_turn s names h position word (inr fault) stray = first_fault _ _ fault

-- ---- words that differ
pub not_said : (name word : Text) → bytes_eq word name ≡ false → bytes_eq name word ≡ false
not_said name word not_name = false_from_ne_true (bytes_eq name word)
    (λ is. true≢false (sym ((bytes_eq-Decides word name).1 (sym ((bytes_eq-Decides name word).0 is))) ∙ not_name))

-- ---- what words begin with

some≢none : {X : Type 0} (x : X) → Some x ≡ None → ⊥
some≢none x e = true≢false (ap is_some e)

before_none : (text : Text) → has_byte 61 text ≡ false → before_first (λ x. x == 61) text ≡ text
before_none [] e = refl
before_none (x ∷ xs) e =
    let parts = or_parts (x == 61) (has_byte 61 xs) e in
    rw parts.0 (rw one-add (ap (λ t. x ∷ t) (before_none xs parts.1)))

named : (text name : Text) → long_of_rest text ≡ Some (name, None) → text ≡ name
named [] name e = absurd (some≢none _ (sym e))
named (x ∷ xs) name e = go (has_byte 61 (x ∷ xs)) refl (λ i. unwrap_or (e i) ([], Some []))
  where
    go : (b : Bool) → has_byte 61 (x ∷ xs) ≡ b
        → ◌≡◌ {A = Text × Option Text}
        (before_first (λ y. y == 61) (x ∷ xs), if b then Some (after_first (λ y. y == 61) (x ∷ xs)) else None) (name, None)
        → x ∷ xs ≡ name
    go true is e = absurd (some≢none _ (λ i. (e i).1))
    go false is e = sym (before_none (x ∷ xs) is) ∙ (λ i. (e i).0)

stripped : (c : ℕ) (word rest : Text) → strip_byte c word ≡ Some rest → word ≡ c ∷ rest
stripped c [] rest e = absurd (some≢none _ (sym e))
stripped c (x ∷ xs) rest e = go (x == c) refl e
  where
    go : (b : Bool) → (x == c) ≡ b → (if b then Some xs else None) ≡ Some rest → x ∷ xs ≡ c ∷ rest
    go true is e = λ i. eqb-true x c is i ∷ unwrap_or (e i) []
    go false is e = absurd (some≢none _ (sym e))

pub long_is : (word name : Text) → long_of word ≡ Some (name, None) → word ≡ 45 ∷ 45 ∷ name
long_is word name e = go (strip_byte 45 word) refl e
  where
    twice : (first : Text) (o : Option Text) → strip_byte 45 first ≡ o → option_and_then long_of_rest o ≡ Some (name, None)
        → first ≡ 45 ∷ name
    twice first None is e = absurd (some≢none _ (sym e))
    twice first (Some rest) is e = stripped 45 first rest is ∙ ap (λ t. 45 ∷ t) (named rest name e)

    go : (o : Option Text) → strip_byte 45 word ≡ o
        → option_and_then long_of_rest (option_and_then (strip_byte 45) o) ≡ Some (name, None) → word ≡ 45 ∷ 45 ∷ name
    go None is e = absurd (some≢none _ (sym e))
    go (Some first) is e = stripped 45 word first is ∙ ap (λ t. 45 ∷ t) (twice first (strip_byte 45 first) refl e)

-- a word that may be a flag begins with a hyphen
pub hyphen : (s : Shape) (names : Names) (h : Held) (word : Text) → subcommand_met names idle word ≡ None
    → IsFault (word_fault s names false idle word h) → (rest : Text) × (word ≡ 45 ∷ rest)
hyphen s names h word free fault = go (strip_byte 45 word) refl
  where
    none : strip_byte 45 word ≡ None → (b : Bool) → IsFault (if b then [] else flag_word_fault s.rules s.args_override_self (long_of word) word h) → ⊥
    none is true f = f
    none is false f = rw is at (rw is at f)

    go : (o : Option Text) → strip_byte 45 word ≡ o → (rest : Text) × (word ≡ 45 ∷ rest)
    go None is = absurd (none is (bytes_eq word (45 ∷ 45 ∷ [])) (rw free at fault))
    go (Some rest) is = (rest, stripped 45 word rest is)
