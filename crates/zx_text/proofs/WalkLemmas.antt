-- A text is cut in one way into lines that lead anywhere.
use Rattle.std.proofs.Common.{◌≡◌, ℕ, ◌+◌, ◌^◌, ◌≤◌, true, false, List, [], ◌∷◌, ◌++◌, length, refl, sym, ap, ap₂, ◌∙◌, true≢false, append_assoc, append-nil, length-append, arith, codes, Option, None, Some, Result, Ok, Err, IfOk, IfSome, IfNone}
use Rattle.std.specs.List.{list_all, flat_map, join_with_byte}
use Rattle.std.specs.Option.{option_map}
use Rattle.std.proofs.lemmas.Grind.{flat_map-append}
use Rattle.zx_model.specs.Bits.{member}
use Rattle.zx_calculus.proofs.Kept.{both}
use Rattle.zx_text.specs.Files.{Version}
use Rattle.zx_text.specs.Pieces.{pieces}
use Rattle.zx_text.specs.Formats.{Format, IsFormat, IsTaken, IsRefused, IsWhole, text_of, spelled_line, run, run_of}
use Rattle.zx_text.specs.Internal.Lined.{IsReadOn}
use Rattle.zx_text.proofs.PartLemmas.{length-last}
use Rattle.zx_text.proofs.TextLemmas.{join-pieces, plain_text, cut_same, some_text, has_line_feed}
use Rattle.zx_text.proofs.RunLemmas.{same_state, no_state, then_run, first_step, size_run}

module _ (F : Format) where
  pub lines_length : (ls : List F.Line) → length ls ≤ length (flat_map (spelled_line F) ls)
  lines_length [] = omega arith
  lines_length (l ∷ ls) =
      let whole = length-append (spelled_line F l) (flat_map (spelled_line F) ls) in
      let one = length-append (text_of F l) (10 ∷ []) in
      let rest = lines_length ls in
      omega (arith, whole, one, rest)

  -- ---- one more line is read
  pub read_on : {version : Version} {text rest found further : List ℕ} {line : ℕ} {st next : F.State}
      → IsReadOn F version text line st rest → rest ≡ found ++ 10 ∷ further → IsTaken F version st found next → IsReadOn F version text (line + 1) next further
  read_on {version} {text} {rest} {found} {further} {line} {st} {next} done cut taken = record {
    lines = done.lines ++ taken.said ∷ [];
    cut = done.cut ∙ ap (λ r. flat_map (spelled_line F) done.lines ++ r) (cut ∙ whole)
        ∙ sym (append_assoc (flat_map (spelled_line F) done.lines) (spelled_line F taken.said) further)
        ∙ ap (λ xs. xs ++ further) (sym (flat_map-append (spelled_line F) done.lines (taken.said ∷ [])
        ∙ ap (λ xs. flat_map (spelled_line F) done.lines ++ xs) (append-nil (spelled_line F taken.said))));
    leads = then_run (F.step version) (Some F.begun) st done.lines (taken.said ∷ []) done.leads ∙ taken.leads;
    number = omega (arith, done.number, length-last done.lines taken.said);
  }
    where
      spelled_is : spelled_line F taken.said ≡ found ++ codes "\n"
      spelled_is = ap (λ ps. join_with_byte 32 ps ++ codes "\n") taken.parts ∙ ap (λ t. t ++ codes "\n") (join-pieces 32 found)

      whole : found ++ 10 ∷ further ≡ spelled_line F taken.said ++ further
      whole = sym (append_assoc found (10 ∷ []) further) ∙ ap (λ xs. xs ++ further) (sym spelled_is)

  pub only_whole : {version : Version} {text rest : List ℕ} {line : ℕ} {st : F.State} → IsReadOn F version text line st rest → rest ≡ [] → F.is_over st ≡ true
      → IsWhole F version text st
  only_whole done none over = record {
    lines = done.lines;
    bytes = done.cut ∙ ap (λ r. flat_map (spelled_line F) done.lines ++ r) none ∙ append-nil (flat_map (spelled_line F) done.lines);
    leads = done.leads;
    over = over;
  }

module _ (F : Format) (laws : IsFormat F) where
  same_parts : (l k : F.Line) → F.is_small l ≡ true → F.is_small k ≡ true → F.parts l ≡ F.parts k → l ≡ k
  same_parts l k small small' e = sym (laws.read_parts l small) ∙ ap laws.read e ∙ laws.read_parts k small'

  -- where a line with these parts leads nowhere, none with them does
  pub refused : (version : Version) (st : F.State) (said : F.Line) (line : List ℕ) → F.is_small said ≡ true → F.parts said ≡ pieces 32 line
      → F.step version st said ≡ None → IsRefused F version st line
  refused version st said line small same nowhere = λ l fits at. ap (F.step version st) (same_parts l said fits small (at ∙ sym same)) ∙ nowhere

  -- what an answer says of a line that was read, it says of the bytes
  pub leads_on : {R E : Type 0} (state : R → F.State) (answer : Result (Option R) E) (version : Version) (st : F.State) (said : F.Line) (line : List ℕ)
      → F.is_small said ≡ true → F.parts said ≡ pieces 32 line → IfOk answer (λ found. option_map state found ≡ F.step version st said)
      → IfOk answer (λ found. IfSome found (λ next. IsTaken F version st line (state next)))
  leads_on state (Ok (Some next)) version st said line small same leads = record { said = said; small = small; parts = same; leads = sym leads }
  leads_on state (Ok None) version st said line small same leads = tt
  leads_on state (Err e) version st said line small same leads = tt

  pub leads_nowhere : {R E : Type 0} (state : R → F.State) (answer : Result (Option R) E) (version : Version) (st : F.State) (said : F.Line) (line : List ℕ)
      → F.is_small said ≡ true → F.parts said ≡ pieces 32 line → IfOk answer (λ found. option_map state found ≡ F.step version st said)
      → IfOk answer (λ found. IfNone found (IsRefused F version st line))
  leads_nowhere state (Ok (Some next)) version st said line small same leads = tt
  leads_nowhere state (Ok None) version st said line small same leads = refused version st said line small same (sym leads)
  leads_nowhere state (Err e) version st said line small same leads = tt

  pub line_text : (l : F.Line) → F.is_small l ≡ true → (pieces 32 (text_of F l) ≡ F.parts l) × (member 10 (text_of F l) ≡ false)
  line_text l fits = plain_text (F.parts l) (laws.some_part l) (laws.plain_parts l fits)

  -- two lines that begin one text are the same, and so is what follows
  same_line : (l m : F.Line) → F.is_small l ≡ true → F.is_small m ≡ true → (r s : List ℕ) → spelled_line F l ++ r ≡ spelled_line F m ++ s → (l ≡ m) × (r ≡ s)
  same_line l m fits fits' r s e =
      let at = line_text l fits in
      let at' = line_text m fits' in
      let cut = cut_same (text_of F l) (text_of F m) r s at.1 at'.1 (sym (append_assoc (text_of F l) (10 ∷ []) r) ∙ e ∙ append_assoc (text_of F m) (10 ∷ []) s) in
      (same_parts l m fits fits' (sym at.0 ∙ ap (pieces 32) cut.0 ∙ at'.0), cut.1)

  -- ---- lines that lead anywhere have small numbers
  small_at : (version : Version) (so_far : List F.Line) (st : F.State) (l : F.Line) (next : F.State) → length so_far ≤ 2 ^ 32
      → run_of F version so_far ≡ Some st → F.step version st l ≡ Some next → F.is_small l ≡ true
  small_at version so_far st l next few to_st at =
      let most = size_run (F.step version) F.size (laws.grows version) F.begun so_far st to_st in
      laws.small version so_far st l next to_st (omega (arith, most, laws.none_yet, few)) at

  pub small_run : (version : Version) (so_far : List F.Line) (st : F.State) (ls : List F.Line) (last : F.State) → length so_far + length ls ≤ 2 ^ 32
      → run_of F version so_far ≡ Some st → run (F.step version) (Some st) ls ≡ Some last → list_all F.is_small ls ≡ true
  small_run version so_far st [] last few to_st to_last = refl
  small_run version so_far st (l ∷ ls) last few to_st to_last =
      let first = first_step (F.step version) st l ls last to_last in
      both _ _ (small_at version so_far st l first.next (omega (arith, few)) to_st first.at)
      (small_run version (so_far ++ l ∷ []) first.next ls last (omega (arith, few, length-last so_far l))
      (then_run (F.step version) (Some F.begun) st so_far (l ∷ []) to_st ∙ first.at) first.rest)

  -- ---- two texts with the same beginning
  -- all lines of the first, then more of them, and the text behind the first is that of these
  record IsWalked (ls ms : List F.Line) (text : List ℕ) : Type 0 where
    more : List F.Line
    all : ms ≡ ls ++ more
    rest : text ≡ flat_map (spelled_line F) more

  walk : (version : Version) (so_far : List F.Line) (st : F.State) (ls ms : List F.Line) (last end : F.State) (text : List ℕ) → length so_far + length ls ≤ 2 ^ 32
      → run_of F version so_far ≡ Some st → run (F.step version) (Some st) ls ≡ Some last → run (F.step version) (Some st) ms ≡ Some end
      → flat_map (spelled_line F) ls ++ text ≡ flat_map (spelled_line F) ms → IsWalked ls ms text
  walk version so_far st [] ms last end text few to_st to_last to_end e = record { more = ms; all = refl; rest = e }
  walk version so_far st (l ∷ ls) [] last end text few to_st to_last to_end e =
      absurd (some_text (text_of F l) (flat_map (spelled_line F) ls ++ text) (sym (append_assoc (spelled_line F l) (flat_map (spelled_line F) ls) text) ∙ e))
  walk version so_far st (l ∷ ls) (m ∷ ms) last end text few to_st to_last to_end e =
      let a = first_step (F.step version) st l ls last to_last in
      let b = first_step (F.step version) st m ms end to_end in
      let room : length so_far ≤ 2 ^ 32 = omega (arith, few) in
      let same = same_line l m (small_at version so_far st l a.next room to_st a.at) (small_at version so_far st m b.next room to_st b.at)
      (flat_map (spelled_line F) ls ++ text) (flat_map (spelled_line F) ms) (sym (append_assoc (spelled_line F l) (flat_map (spelled_line F) ls) text) ∙ e) in
      let together : a.next ≡ b.next = same_state (sym a.at ∙ ap (F.step version st) same.0 ∙ b.at) in
      let behind = walk version (so_far ++ l ∷ []) a.next ls ms last end text (omega (arith, few, length-last so_far l))
      (then_run (F.step version) (Some F.begun) st so_far (l ∷ []) to_st ∙ a.at) a.rest
      (ap (λ s. run (F.step version) (Some s) ms) together ∙ b.rest) same.1 in
      record { more = behind.more; all = ap₂ (λ k ks. k ∷ ks) (sym same.0) behind.all; rest = behind.rest }

  -- lines that lead from the first state to an end, cut behind some
  record IsBehind (version : Version) (st end : F.State) (text : List ℕ) : Type 0 where
    more : List F.Line
    rest : text ≡ flat_map (spelled_line F) more
    leads : run (F.step version) (Some st) more ≡ Some end

  behind : (version : Version) (ls ms : List F.Line) (st end : F.State) (text : List ℕ) → length ls ≤ 2 ^ 32
      → run_of F version ls ≡ Some st → run_of F version ms ≡ Some end → flat_map (spelled_line F) ls ++ text ≡ flat_map (spelled_line F) ms
      → IsBehind version st end text
  behind version ls ms st end text few to_st to_end e =
      let walked = walk version [] F.begun ls ms st end text (omega (arith, few)) refl to_st to_end e in
      record {
        more = walked.more;
        rest = walked.rest;
        leads = sym (then_run (F.step version) (Some F.begun) st ls walked.more to_st) ∙ ap (run_of F version) (sym walked.all) ∙ to_end;
      }

  -- where no line of these parts leads anywhere, no file has the text with that line
  pub unfit_line : (version : Version) (ls ms : List F.Line) (st end : F.State) (line more : List ℕ) → length ls ≤ 2 ^ 32
      → run_of F version ls ≡ Some st → run_of F version ms ≡ Some end
      → flat_map (spelled_line F) ls ++ (line ++ 10 ∷ more) ≡ flat_map (spelled_line F) ms → member 10 line ≡ false → IsRefused F version st line → ⊥
  unfit_line version ls ms st end line more few to_st to_end e bare unfit =
      let cut = behind version ls ms st end (line ++ 10 ∷ more) few to_st to_end e in
      here cut.more cut.rest cut.leads
    where
      here : (others : List F.Line) → line ++ 10 ∷ more ≡ flat_map (spelled_line F) others → run (F.step version) (Some st) others ≡ Some end → ⊥
      here [] at leads = true≢false (sym (has_line_feed line more) ∙ ap (member 10) at)
      here (m ∷ ms') at leads =
          let first = first_step (F.step version) st m ms' end leads in
          let fits = small_at version ls st m first.next few to_st first.at in
          let text = line_text m fits in
          let cut = cut_same line (text_of F m) more (flat_map (spelled_line F) ms') bare text.1 (at ∙ append_assoc (text_of F m) (10 ∷ []) (flat_map (spelled_line F) ms')) in
          no_state (sym (unfit m fits (sym text.0 ∙ ap (pieces 32) (sym cut.0))) ∙ first.at)

  -- where no line feed is left and the file isn't over, no file has the text
  pub unended : (version : Version) (ls ms : List F.Line) (st end : F.State) (rest : List ℕ) → length ls ≤ 2 ^ 32
      → run_of F version ls ≡ Some st → run_of F version ms ≡ Some end → F.is_over end ≡ true
      → flat_map (spelled_line F) ls ++ rest ≡ flat_map (spelled_line F) ms → member 10 rest ≡ false → (rest ≡ [] → F.is_over st ≡ false) → ⊥
  unended version ls ms st end rest few to_st to_end over e bare not_over =
      let cut = behind version ls ms st end rest few to_st to_end e in
      here cut.more cut.rest cut.leads
    where
      here : (more : List F.Line) → rest ≡ flat_map (spelled_line F) more → run (F.step version) (Some st) more ≡ Some end → ⊥
      here [] at leads = true≢false (sym over ∙ ap F.is_over (sym (same_state leads)) ∙ not_over at)
      here (m ∷ ms') at leads =
          true≢false (sym (ap (member 10) (at ∙ append_assoc (text_of F m) (10 ∷ []) (flat_map (spelled_line F) ms')) ∙ has_line_feed (text_of F m) (flat_map (spelled_line F) ms')) ∙ bare)

  -- lines that all lead somewhere and have the same text are the same
  pub one_list : (version : Version) (ls ms : List F.Line) (last end : F.State) → length ls ≤ 2 ^ 32
      → run_of F version ls ≡ Some last → run_of F version ms ≡ Some end → flat_map (spelled_line F) ls ≡ flat_map (spelled_line F) ms → ls ≡ ms
  one_list version ls ms last end few to_last to_end e =
      let walked = walk version [] F.begun ls ms last end [] (omega (arith, few)) refl to_last to_end (append-nil (flat_map (spelled_line F) ls) ∙ e) in
      sym (walked.all ∙ ap (λ more. ls ++ more) (none walked.more (sym walked.rest)) ∙ append-nil ls)
    where
      none : (more : List F.Line) → flat_map (spelled_line F) more ≡ [] → more ≡ []
      none [] e = refl
      none (m ∷ more) e = absurd (some_text (text_of F m) (flat_map (spelled_line F) more) e)
