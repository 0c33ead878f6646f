-- Which line of a text is bad, and that a text with one is no file.
use Rattle.std.proofs.Common.{◌≡◌, ◌≢◌, ℕ, ◌+◌, ◌^◌, ◌<◌, ◌≤◌, suc, zero, Bool, true, false, eqb, ltb, ◌⊎◌, inl, inr, if◌then◌else◌, List, [], ◌∷◌, ◌++◌, length, refl, sym, ap, ap₂, ◌∙◌, subst, ltb-true, ltb-false, true≢false, append_assoc, append-nil, length-append, arith, Some}
use Rattle.std.specs.List.{list_all, flat_map}
use Rattle.std.proofs.lemmas.Grind.{flat_map-append}
use Rattle.zx_model.specs.Bits.{member}
use Rattle.zx_calculus.proofs.Ids.{by_test, eqb_comm, and-left, and-right, or-left, or-right, member-below}
use Rattle.zx_text.specs.Files.{Version, One}
use Rattle.zx_text.specs.BadLines.{line_ends, first_lines, CanBegin, IsFirstBad}
use Rattle.zx_text.specs.Reading.{most_bytes}
use Rattle.zx_text.specs.Formats.{Format, IsFormat, IsWhole, IsHeaded, IsRefused, text_of, spelled_line, run_of, version_in}
use Rattle.zx_text.specs.Internal.Lined.{IsUnfit, IsCutShort, IsStopped}
use Rattle.zx_text.proofs.TextLemmas.{cut_same, has_line_feed}
use Rattle.zx_text.proofs.RunLemmas.{same_state, then_run}
use Rattle.zx_text.proofs.WalkLemmas.{line_text, small_run, unfit_line, unended, one_list, lines_length}

-- ---- first lines
first_line : (n : ℕ) (a rest : List ℕ) → member 10 a ≡ false → first_lines (suc n) (a ++ 10 ∷ rest) ≡ a ++ 10 ∷ first_lines n rest
first_line n [] rest none = refl
first_line n (x ∷ a) rest none =
    let other : eqb x 10 ≡ false = eqb_comm x 10 ∙ or-left _ _ none in
    ap (λ b. x ∷ first_lines (if b then n else suc n) (a ++ 10 ∷ rest)) other ∙ ap (λ t. x ∷ t) (first_line n a rest (or-right _ _ none))

ends_cut : (a rest : List ℕ) → member 10 a ≡ false → line_ends (a ++ 10 ∷ rest) ≡ suc (line_ends rest)
ends_cut [] rest none = refl
ends_cut (x ∷ a) rest none =
    let other : eqb x 10 ≡ false = eqb_comm x 10 ∙ or-left _ _ none in
    rw other (ends_cut a rest (or-right _ _ none))

no_ends : (a : List ℕ) → member 10 a ≡ false → line_ends a ≡ 0
no_ends [] none = refl
no_ends (x ∷ a) none =
    let other : eqb x 10 ≡ false = eqb_comm x 10 ∙ or-left _ _ none in
    rw other (no_ends a (or-right _ _ none))

abbrev behind_lines : ℕ → List ℕ → List ℕ
behind_lines zero text = text
behind_lines (suc n) [] = []
behind_lines (suc n) (b ∷ text) = behind_lines (if eqb b 10 then n else suc n) text

parted : (n : ℕ) (text : List ℕ) → first_lines n text ++ behind_lines n text ≡ text
parted zero text = refl
parted (suc n) [] = refl
parted (suc n) (b ∷ text) = ap (λ t. b ∷ t) (parted (if eqb b 10 then n else suc n) text)

record IsBeginning (xs ys : List ℕ) : Type 0 where
  more : List ℕ
  all : xs ++ more ≡ ys

fewer : (test : Bool) (m k : ℕ) → suc m ≤ suc k → (if test then m else suc m) ≤ (if test then k else suc k)
fewer true m k le = omega (arith, le)
fewer false m k le = le

beginning : (m k : ℕ) (text : List ℕ) → m ≤ k → IsBeginning (first_lines m text) (first_lines k text)
beginning zero k text le = record { more = first_lines k text; all = refl }
beginning (suc m) zero text le = absurd (omega (arith, le))
beginning (suc m) (suc k) [] le = record { more = []; all = refl }
beginning (suc m) (suc k) (b ∷ text) le =
    let rest = beginning (if eqb b 10 then m else suc m) (if eqb b 10 then k else suc k) text (fewer (eqb b 10) m k le) in
    record { more = rest.more; all = ap (λ t. b ∷ t) rest.all }

-- ---- texts that are files, whatever these are
module _ {IsFile : List ℕ → Type 0} where
  begins_less : (xs ys : List ℕ) → CanBegin IsFile (xs ++ ys) → CanBegin IsFile xs
  begins_less xs ys can = record { rest = ys ++ can.rest; file = subst IsFile (append_assoc xs ys can.rest) can.file }

  -- a text with a bad line is no file
  pub no_file : {text : List ℕ} {line : ℕ} → IsFirstBad IsFile text line → IsFile text → ⊥
  no_file {text} {line} bad file =
      by_test (ltb bad.before (line_ends text))
      (λ t. bad.unfit (ltb-true bad.before (line_ends text) t) (record { rest = behind_lines line text; file = subst IsFile (sym (parted line text)) file }))
      (λ f. let ge = ltb-false bad.before (line_ends text) f in let le = bad.are_there in bad.not_whole (omega (arith, ge, le)) file)

  -- a text has one bad line at most
  pub one_bad_line : {text : List ℕ} {line other : ℕ} → IsFirstBad IsFile text line → IsFirstBad IsFile text other → line ≡ other
  one_bad_line {text} {line} {other} a b =
      by_test (ltb a.before b.before)
      (λ t. absurd (never a b (ltb-true a.before b.before t)))
      (λ f. by_test (ltb b.before a.before)
      (λ t. absurd (never b a (ltb-true b.before a.before t)))
      (λ g.
      let x = ltb-false a.before b.before f in
      let y = ltb-false b.before a.before g in
      let m = a.number in
      let n = b.number in
      omega (arith, x, y, m, n)))
    where
      never : {k j : ℕ} (x : IsFirstBad IsFile text k) (y : IsFirstBad IsFile text j) → x.before < y.before → ⊥
      never {k} {j} x y lt =
          let number = x.number in
          let there = y.are_there in
          let longer = beginning k y.before text (omega (arith, number, lt)) in
          x.unfit (omega (arith, lt, there)) (begins_less (first_lines k text) longer.more (subst (CanBegin IsFile) (sym longer.all) y.can_begin))

module _ (F : Format) (laws : IsFormat F) where
  word_plain : (version : Version) → member 10 (F.word version) ≡ false
  word_plain version = member-below 10 (F.word version) (laws.plain_word version)

  -- ---- lines in front
  in_front : (l : F.Line) (ls : List F.Line) (x : List ℕ) → flat_map (spelled_line F) (l ∷ ls) ++ x ≡ text_of F l ++ 10 ∷ (flat_map (spelled_line F) ls ++ x)
  in_front l ls x = append_assoc (spelled_line F l) (flat_map (spelled_line F) ls) x ∙ append_assoc (text_of F l) (10 ∷ []) (flat_map (spelled_line F) ls ++ x)

  first_of_lines : (ls : List F.Line) (n : ℕ) (x : List ℕ) → list_all F.is_small ls ≡ true
      → first_lines (length ls + n) (flat_map (spelled_line F) ls ++ x) ≡ flat_map (spelled_line F) ls ++ first_lines n x
  first_of_lines [] n x fits = let e : zero + n ≡ n = omega arith in ap (λ k. first_lines k x) e
  first_of_lines (l ∷ ls) n x fits =
      let e : suc (length ls) + n ≡ suc (length ls + n) = omega arith in
      ap₂ first_lines e (in_front l ls x)
      ∙ first_line (length ls + n) (text_of F l) (flat_map (spelled_line F) ls ++ x) (line_text F laws l (and-left _ _ fits)).1
      ∙ ap (λ t. text_of F l ++ 10 ∷ t) (first_of_lines ls n x (and-right _ _ fits))
      ∙ sym (in_front l ls (first_lines n x))

  ends_of_lines : (ls : List F.Line) (x : List ℕ) → list_all F.is_small ls ≡ true → line_ends (flat_map (spelled_line F) ls ++ x) ≡ length ls + line_ends x
  ends_of_lines [] x fits = omega arith
  ends_of_lines (l ∷ ls) x fits =
      let rest : line_ends (flat_map (spelled_line F) ls ++ x) ≡ length ls + line_ends x = ends_of_lines ls x (and-right (F.is_small l) (list_all F.is_small ls) fits) in
      let here = ap line_ends (in_front l ls x) ∙ ends_cut (text_of F l) (flat_map (spelled_line F) ls ++ x) (line_text F laws l (and-left _ _ fits)).1 in
      let after : suc (line_ends (flat_map (spelled_line F) ls ++ x)) ≡ suc (length ls) + line_ends x = omega (arith, rest) in
      here ∙ after

  -- ---- the first line
  behind_word : (version : Version) (text : List ℕ) (end : F.State) → IsHeaded F (F.word version ++ 10 ∷ text) end → IsWhole F version text end
  behind_word version text end headed =
      let cut = cut_same (F.word version) (F.word headed.version) text headed.behind (word_plain version) (word_plain headed.version) headed.first in
      let same : headed.version ≡ version = sym (laws.told_apart headed.version) ∙ ap version_in (sym cut.0) ∙ laws.told_apart version in
      subst (λ t. IsWhole F version t end) (sym cut.1) (subst (λ v. IsWhole F v headed.behind end) same headed.whole)

  file_whole : (version : Version) (text : List ℕ) → F.IsFile (F.word version ++ 10 ∷ text) → (end : F.State) × IsWhole F version text end
  file_whole version text file =
      let has = laws.has_end (F.word version ++ 10 ∷ text) file in
      (has.0, behind_word version text has.0 has.1)

  pub whole_file : (version : Version) (text : List ℕ) (end : F.State) → IsWhole F version text end → IsHeaded F (F.word version ++ 10 ∷ text) end
  whole_file version text end whole = record { version = version; behind = text; first = refl; whole = whole }

  -- a text leads to one end
  pub one_end : {text : List ℕ} {end other : F.State} → IsHeaded F text end → IsHeaded F text other → length text ≤ most_bytes → end ≡ other
  one_end {text} {end} {other} a b short =
      let whole = behind_word a.version a.behind other (subst (λ t. IsHeaded F t other) a.first b) in
      let size = lines_length F a.whole.lines in
      let bytes = ap length a.whole.bytes in
      let long = ap length a.first ∙ length-append (F.word a.version) (10 ∷ a.behind) in
      let same = one_list F laws a.version a.whole.lines whole.lines end other (omega (arith, size, bytes, long, short)) a.whole.leads whole.leads
      (sym a.whole.bytes ∙ whole.bytes) in
      same_state (sym a.whole.leads ∙ ap (run_of F a.version) same ∙ whole.leads)

  -- the lines so far, with those that go on to an end, are a file
  lines_begin : (version : Version) (ls : List F.Line) (st : F.State) → run_of F version ls ≡ Some st
      → CanBegin F.IsFile (F.word version ++ 10 ∷ flat_map (spelled_line F) ls)
  lines_begin version ls st leads =
      let on = laws.goes_on version ls st leads in
      let behind : List ℕ = flat_map (spelled_line F) on.more in
      record {
        rest = behind;
        file = laws.is_file _ on.end (record {
          version = version;
          behind = flat_map (spelled_line F) ls ++ behind;
          first = append_assoc (F.word version) (10 ∷ flat_map (spelled_line F) ls) behind;
          whole = record {
            lines = ls ++ on.more;
            bytes = sym (flat_map-append (spelled_line F) ls on.more);
            leads = then_run (F.step version) (Some F.begun) st ls on.more leads ∙ on.leads;
            over = on.over;
          };
        });
      }

  nothing_begins : CanBegin F.IsFile []
  nothing_begins = begins_less [] (F.word One ++ 10 ∷ []) (lines_begin One [] F.begun refl)

  -- ---- lines up to one that doesn't fit
  pub stopped_bad : (version : Version) (text : List ℕ) (line : ℕ) → IsStopped F version text line → length text ≤ most_bytes
      → IsFirstBad F.IsFile (F.word version ++ 10 ∷ text) line
  stopped_bad version text line stopped short =
      record {
        before = length ls + 1;
        number = omega (arith, numbered);
        are_there = omega (arith, ends);
        can_begin = subst (CanBegin F.IsFile) (sym first) (lines_begin version ls stopped.state stopped.read.leads);
        unfit = still_unfit stopped.why;
        not_whole = never_whole stopped.why;
      }
    where
      ls : List F.Line
      ls = stopped.read.lines

      numbered : line ≡ length ls + 2
      numbered = stopped.read.number

      lined : List ℕ
      lined = flat_map (spelled_line F) ls

      few : length ls ≤ 2 ^ 32
      few =
          let whole = ap length stopped.read.cut ∙ length-append lined stopped.rest in
          let size = lines_length F ls in
          omega (arith, whole, size, short)

      fits : list_all F.is_small ls ≡ true
      fits = small_run F laws version [] F.begun ls stopped.state (omega (arith, few)) refl stopped.read.leads

      front : F.word version ++ 10 ∷ text ≡ F.word version ++ 10 ∷ (lined ++ stopped.rest)
      front = ap (λ t. F.word version ++ 10 ∷ t) stopped.read.cut

      ends : line_ends (F.word version ++ 10 ∷ text) ≡ suc (length ls + line_ends stopped.rest)
      ends = ap line_ends front ∙ ends_cut (F.word version) (lined ++ stopped.rest) (word_plain version) ∙ ap suc (ends_of_lines ls stopped.rest fits)

      firsts : (n : ℕ) → first_lines (suc (length ls + n)) (F.word version ++ 10 ∷ text) ≡ F.word version ++ 10 ∷ (lined ++ first_lines n stopped.rest)
      firsts n =
          ap (first_lines (suc (length ls + n))) front
          ∙ first_line (length ls + n) (F.word version) (lined ++ stopped.rest) (word_plain version)
          ∙ ap (λ t. F.word version ++ 10 ∷ t) (first_of_lines ls n stopped.rest fits)

      first : first_lines (length ls + 1) (F.word version ++ 10 ∷ text) ≡ F.word version ++ 10 ∷ lined
      first =
          let e : length ls + 1 ≡ suc (length ls + 0) = omega arith in
          ap (λ n. first_lines n (F.word version ++ 10 ∷ text)) e ∙ firsts 0 ∙ ap (λ t. F.word version ++ 10 ∷ t) (append-nil lined)

      -- with the bad line no file begins
      never_begins : (found more : List ℕ) → stopped.rest ≡ found ++ 10 ∷ more → member 10 found ≡ false → IsRefused F version stopped.state found
          → CanBegin F.IsFile (first_lines line (F.word version ++ 10 ∷ text)) → ⊥
      never_begins found more at bare none can =
          let e : line ≡ suc (length ls + 1) = omega (arith, numbered) in
          let beginning_is : first_lines line (F.word version ++ 10 ∷ text) ≡ F.word version ++ 10 ∷ (lined ++ (found ++ 10 ∷ [])) =
          ap (λ n. first_lines n (F.word version ++ 10 ∷ text)) e ∙ firsts 1
          ∙ ap (λ t. F.word version ++ 10 ∷ (lined ++ t)) (ap (first_lines 1) at ∙ first_line 0 found more bare) in
          let whole : first_lines line (F.word version ++ 10 ∷ text) ++ can.rest ≡ F.word version ++ 10 ∷ (lined ++ (found ++ 10 ∷ can.rest)) =
          ap (λ t. t ++ can.rest) beginning_is
          ∙ append_assoc (F.word version) (10 ∷ (lined ++ (found ++ 10 ∷ []))) can.rest
          ∙ ap (λ t. F.word version ++ 10 ∷ t) (append_assoc lined (found ++ 10 ∷ []) can.rest
          ∙ ap (λ t. lined ++ t) (append_assoc found (10 ∷ []) can.rest)) in
          let is = file_whole version (lined ++ (found ++ 10 ∷ can.rest)) (subst F.IsFile whole can.file) in
          unfit_line F laws version ls is.1.lines stopped.state is.0 found can.rest few stopped.read.leads is.1.leads is.1.bytes bare none

      still_unfit : IsUnfit F version stopped.state stopped.rest ⊎ IsCutShort F stopped.state stopped.rest
          → length ls + 1 < line_ends (F.word version ++ 10 ∷ text) → CanBegin F.IsFile (first_lines line (F.word version ++ 10 ∷ text)) → ⊥
      still_unfit (inl why) lt can = never_begins why.line why.more why.cut why.is_line why.unfit can
      still_unfit (inr why) lt can = let none = no_ends stopped.rest why.no_line in absurd (omega (arith, ends, none, lt))

      never_whole : IsUnfit F version stopped.state stopped.rest ⊎ IsCutShort F stopped.state stopped.rest
          → line_ends (F.word version ++ 10 ∷ text) ≡ length ls + 1 → F.IsFile (F.word version ++ 10 ∷ text) → ⊥
      never_whole (inl why) e file =
          let more = ap line_ends why.cut ∙ ends_cut why.line why.more why.is_line in
          absurd (omega (arith, ends, more, e))
      never_whole (inr why) e file =
          let is = file_whole version text file in
          unended F laws version ls is.1.lines stopped.state is.0 stopped.rest few stopped.read.leads is.1.leads is.1.over
          (sym stopped.read.cut ∙ is.1.bytes) why.no_line why.not_over

  -- ---- a first line that isn't there
  pub no_line_bad : (text : List ℕ) → member 10 text ≡ false → IsFirstBad F.IsFile text 1
  no_line_bad text none =
      let ends = no_ends text none in
      record {
        before = 0;
        number = refl;
        are_there = omega arith;
        can_begin = nothing_begins;
        unfit = λ lt can. absurd (omega (arith, ends, lt));
        not_whole = λ e file.
            let headed = (laws.has_end text file).1 in
            true≢false (sym (ap (member 10) headed.first ∙ has_line_feed (F.word headed.version) headed.behind) ∙ none);
      }

  pub no_header_bad : (text line more : List ℕ) → text ≡ line ++ 10 ∷ more → member 10 line ≡ false → ((version : Version) → F.word version ≢ line)
      → IsFirstBad F.IsFile text 1
  no_header_bad text line more cut none other =
      let ends = ap line_ends cut ∙ ends_cut line more none in
      record {
        before = 0;
        number = refl;
        are_there = omega arith;
        can_begin = nothing_begins;
        unfit = λ lt can. never can;
        not_whole = λ e file. absurd (omega (arith, ends, e));
      }
    where
      never : CanBegin F.IsFile (first_lines 1 text) → ⊥
      never can =
          let headed = (laws.has_end (first_lines 1 text ++ can.rest) can.file).1 in
          let first : first_lines 1 text ++ can.rest ≡ line ++ 10 ∷ can.rest =
          ap (λ t. first_lines 1 t ++ can.rest) cut ∙ ap (λ t. t ++ can.rest) (first_line 0 line more none) ∙ append_assoc line (10 ∷ []) can.rest in
          let same = cut_same line (F.word headed.version) can.rest headed.behind none (word_plain headed.version) (sym first ∙ headed.first) in
          other headed.version (sym same.0)
