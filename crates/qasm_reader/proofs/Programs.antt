-- Programs statement by statement: no statement begins another, so there is one program at most, and one place of a
-- fault.
use Rattle.std.proofs.Common.{◌≡◌, ◌⊎◌, inl, inr, ℕ, zero, suc, ◌<◌, ◌≤◌, List, [], ◌∷◌, ◌++◌, length, length-append, Option, None, Some, refl, sym, ap, ◌∙◌, subst, append_assoc, append-nil, arith}
use Rattle.qasm_lexer.specs.Tokens.{Lexeme}
use Rattle.qasm_reader.specs.Syntax.{Sentence, Placed}
use Rattle.qasm_reader.specs.Grammar.{IsStatement, BeginsAt, IsProgram, IsFirstStatement, BeginsWithStatement, IsSyntaxFault}
use Rattle.qasm_reader.specs.Internal.Taking.{statement}
use Rattle.qasm_reader.proofs.Steps.{same, none_some}
use Rattle.qasm_reader.proofs.Statements.{statement_takes, statement_again}

-- ---- no statement begins another

cons_tail : (t u : Lexeme) (ts us : List Lexeme) → t ∷ ts ≡ u ∷ us → ts ≡ us
cons_tail t u ts us e = cc

cons_head : (t u : Lexeme) (ts us : List Lexeme) → t ∷ ts ≡ u ∷ us → t ≡ u
cons_head t u ts us e = cc

longer : (t : Lexeme) (us rest : List Lexeme) → rest ≡ (t ∷ us) ++ rest → ⊥
longer t us rest e = absurd (let n = ap length e in omega (arith, length-append us rest, n))

-- what follows tells the prefix
pub same_prefix : (us vs rest : List Lexeme) → us ++ rest ≡ vs ++ rest → us ≡ vs
same_prefix [] [] rest e = refl
same_prefix [] (v ∷ vs) rest e = absurd (longer v vs rest e)
same_prefix (u ∷ us) [] rest e = absurd (longer u us rest (sym e))
same_prefix (u ∷ us) (v ∷ vs) rest e =
    ap (λ (t : Lexeme). t ∷ us) (cons_head u v (us ++ rest) (vs ++ rest) e) ∙ ap (λ (ts : List Lexeme). v ∷ ts) (same_prefix us vs rest (cons_tail u v (us ++ rest) (vs ++ rest) e))

pub one_statement : (s r : Sentence) (us vs x y : List Lexeme) → IsStatement s us → IsStatement r vs → us ++ x ≡ vs ++ y → (s ≡ r) × (us ≡ vs) × (x ≡ y)
one_statement s r us vs x y a b e =
    let p = same (s, x) (r, y) (sym (statement_again s us x a tt) ∙ ap statement e ∙ statement_again r vs y b tt) in
    let rest : x ≡ y = ap (λ (q : Sentence × List Lexeme). q.1) p in
    (ap (λ (q : Sentence × List Lexeme). q.0) p, same_prefix us vs y (ap (λ (z : List Lexeme). us ++ z) (sym rest) ∙ e), rest)

-- ---- one program

same_place : (us : List Lexeme) (m n : ℕ) → BeginsAt us m → BeginsAt us n → m ≡ n
same_place us m n a b = sym a.3 ∙ ap (λ (t : Lexeme). t.place) (cons_head a.0 b.0 a.1 b.1 (sym a.2 ∙ b.2)) ∙ b.3

begins : (us : List Lexeme) (n : ℕ) → BeginsAt us n → us ≡ [] → ⊥
begins us n b e = absurd (let h = sym e ∙ b.2 in let k = ap length h in omega arith)

empty_prefix : (us vs : List Lexeme) → [] ≡ us ++ vs → us ≡ []
empty_prefix [] vs e = refl
empty_prefix (u ∷ us) vs e = absurd (let k = ap length e in omega arith)

pub one_program : (ts : List Lexeme) (a b : List Placed) → IsProgram ts a → IsProgram ts b → a ≡ b
one_program ts [] [] p q = refl
one_program ts [] (s ∷ b) p q = absurd (begins q.0 s.place q.3 (empty_prefix q.0 q.1 (sym p ∙ q.2)))
one_program ts (s ∷ a) [] p q = absurd (begins p.0 s.place p.3 (empty_prefix p.0 p.1 (sym q ∙ p.2)))
one_program ts (s ∷ a) (r ∷ b) p q =
    let o = one_statement s.sentence r.sentence p.0 q.0 p.1 q.1 p.4 q.4 (sym p.2 ∙ q.2) in
    let place : s.place ≡ r.place = same_place q.0 s.place r.place (subst (λ (us : List Lexeme). BeginsAt us s.place) o.1 p.3) q.3 in
    let first : s ≡ r = ap (λ (x : Sentence). record { place = s.place; sentence = x }) o.0 ∙ ap (λ (n : ℕ). record { place = n; sentence = r.sentence }) place in
    ap (λ (x : Placed). x ∷ a) first ∙ ap (λ (xs : List Placed). r ∷ xs) (one_program q.1 a b (subst (λ (us : List Lexeme). IsProgram us a) o.2 p.5) q.5)

-- ---- one place of a fault

-- statements before a fault, and statements of all
pub no_fault : (statements all : List Placed) (ts before rest : List Lexeme) → ts ≡ before ++ rest → IsProgram before statements → (n : ℕ) → BeginsAt rest n → (BeginsWithStatement rest → ⊥) → IsProgram ts all → ⊥
no_fault [] [] ts before rest e p n b none q = begins rest n b (sym (ap (λ (x : List Lexeme). x ++ rest) p) ∙ sym e ∙ q)
no_fault [] (r ∷ all) ts before rest e p n b none q =
    none (r.sentence, q.0, q.1, sym (ap (λ (x : List Lexeme). x ++ rest) p) ∙ sym e ∙ q.2, q.4)
no_fault (s ∷ statements) [] ts before rest e p n b none q =
    absurd (begins p.0 s.place p.3 (empty_prefix p.0 (p.1 ++ rest) (sym q ∙ e ∙ ap (λ (x : List Lexeme). x ++ rest) p.2 ∙ append_assoc p.0 p.1 rest)))
no_fault (s ∷ statements) (r ∷ all) ts before rest e p n b none q =
    let o = one_statement s.sentence r.sentence p.0 q.0 (p.1 ++ rest) q.1 p.4 q.4 (sym (append_assoc p.0 p.1 rest) ∙ ap (λ (x : List Lexeme). x ++ rest) (sym p.2) ∙ sym e ∙ q.2) in
    no_fault statements all q.1 p.1 rest (sym o.2) p.5 n b none q.5

pub program_no_fault : (ts : List Lexeme) (all : List Placed) (n : ℕ) → IsProgram ts all → IsSyntaxFault ts n → ⊥
program_no_fault ts all n q f = no_fault f.2 all ts f.0 f.1 f.3 f.4 n f.5 f.6 q

same_fault : (a b : List Placed) (ts x xs y ys : List Lexeme) → ts ≡ x ++ xs → ts ≡ y ++ ys → IsProgram x a → IsProgram y b → (m n : ℕ) → BeginsAt xs m → BeginsAt ys n
    → (BeginsWithStatement xs → ⊥) → (BeginsWithStatement ys → ⊥) → m ≡ n
same_fault [] [] ts x xs y ys e f p q m n b c none none' =
    same_place ys m n (subst (λ (z : List Lexeme). BeginsAt z m) (sym (ap (λ (z : List Lexeme). z ++ xs) p) ∙ sym e ∙ f ∙ ap (λ (z : List Lexeme). z ++ ys) q) b) c
same_fault [] (r ∷ b) ts x xs y ys e f p q m n at at' none none' =
    absurd (none (r.sentence, q.0, q.1 ++ ys, sym (ap (λ (z : List Lexeme). z ++ xs) p) ∙ sym e ∙ f ∙ ap (λ (z : List Lexeme). z ++ ys) q.2 ∙ append_assoc q.0 q.1 ys, q.4))
same_fault (s ∷ a) [] ts x xs y ys e f p q m n at at' none none' =
    absurd (none' (s.sentence, p.0, p.1 ++ xs, sym (ap (λ (z : List Lexeme). z ++ ys) q) ∙ sym f ∙ e ∙ ap (λ (z : List Lexeme). z ++ xs) p.2 ∙ append_assoc p.0 p.1 xs, p.4))
same_fault (s ∷ a) (r ∷ b) ts x xs y ys e f p q m n at at' none none' =
    let left : ts ≡ p.0 ++ (p.1 ++ xs) = e ∙ ap (λ (z : List Lexeme). z ++ xs) p.2 ∙ append_assoc p.0 p.1 xs in
    let right : ts ≡ q.0 ++ (q.1 ++ ys) = f ∙ ap (λ (z : List Lexeme). z ++ ys) q.2 ∙ append_assoc q.0 q.1 ys in
    let o = one_statement s.sentence r.sentence p.0 q.0 (p.1 ++ xs) (q.1 ++ ys) p.4 q.4 (sym left ∙ right) in
    same_fault a b (p.1 ++ xs) p.1 xs q.1 ys refl o.2 p.5 q.5 m n at at' none none'

pub one_fault : (ts : List Lexeme) (m n : ℕ) → IsSyntaxFault ts m → IsSyntaxFault ts n → m ≡ n
one_fault ts m n f g = same_fault f.2 g.2 ts f.0 f.1 g.0 g.1 f.3 g.3 f.4 g.4 m n f.5 g.5 f.6 g.6

-- ---- one statement more

snoc : (before us : List Lexeme) (statements : List Placed) (s : Placed) → IsProgram before statements → BeginsAt us s.place → IsStatement s.sentence us → IsProgram (before ++ us) (statements ++ s ∷ [])
snoc before us [] s p b d = (us, [], ap (λ (x : List Lexeme). x ++ us) p ∙ sym (append-nil us), b, d, refl)
snoc before us (r ∷ statements) s p b d =
    (p.0, p.1 ++ us, ap (λ (x : List Lexeme). x ++ us) p.2 ∙ append_assoc p.0 p.1 us, p.3, p.4, snoc p.1 us statements s p.5 b d)

-- whole statements stand before what is left
abbrev pub IsProgramPrefix : List Lexeme → List Lexeme → List Placed → Type 0
IsProgramPrefix all rest statements = (before : List Lexeme) × (all ≡ before ++ rest) × IsProgram before statements

some_begin : (us rest : List Lexeme) (t : Lexeme) (more : List Lexeme) → t ∷ more ≡ us ++ rest → 0 < length us → BeginsAt us t.place
some_begin [] rest t more e some = absurd (omega arith)
some_begin (u ∷ us) rest t more e some = (u, us, refl, ap (λ (x : Lexeme). x.place) (sym (cons_head t u more (us ++ rest) e)))

some_statement : (s : Sentence) (us : List Lexeme) → IsStatement s us → 0 < length us
unfolding statement
some_statement s [] d = absurd (let e : ◌≡◌ {A = Option (Sentence × List Lexeme)} None (Some (s, [])) = statement_again s [] [] d tt in cc)
some_statement s (u ∷ us) d = omega arith

pub statement_shrinks : (ts : List Lexeme) (s : Sentence) (end : List Lexeme) → statement ts ≡ Some (s, end) → length end < length ts
statement_shrinks ts s end e =
    let t = statement_takes ts s end e in
    omega (arith, ap length t.1, length-append t.0 end, some_statement s t.0 t.2)

pub prefix_more : (all rest end : List Lexeme) (statements : List Placed) (s : Sentence) (t : Lexeme) (more : List Lexeme) → IsProgramPrefix all rest statements → rest ≡ t ∷ more → statement rest ≡ Some (s, end)
    → IsProgramPrefix all end (statements ++ record { place = t.place; sentence = s } ∷ [])
prefix_more all rest end statements s t more f is e =
    let took = statement_takes rest s end e in (
      f.0 ++ took.0,
      f.1 ∙ ap (λ (x : List Lexeme). f.0 ++ x) took.1 ∙ sym (append_assoc f.0 took.0 end),
      snoc f.0 took.0 statements (record { place = t.place; sentence = s }) f.2 (some_begin took.0 end t more (sym is ∙ took.1) (some_statement s took.0 took.2)) took.2,
    )

pub prefix_fault : (all rest : List Lexeme) (statements : List Placed) (t : Lexeme) (more : List Lexeme) → IsProgramPrefix all rest statements → rest ≡ t ∷ more → statement rest ≡ None → IsSyntaxFault all t.place
prefix_fault all rest statements t more f is e =
    (f.0, rest, statements, f.1, f.2, (t, more, is, refl), λ b. none_some (b.0, b.2) (sym e ∙ ap statement b.3 ∙ statement_again b.0 b.1 b.2 b.4 tt))

pub prefix_done : (all : List Lexeme) (statements : List Placed) → IsProgramPrefix all [] statements → IsProgram all statements
prefix_done all statements f = subst (λ (x : List Lexeme). IsProgram x statements) (sym (f.1 ∙ append-nil f.0)) f.2

-- ---- the statement at the start

begins_some : (us : List Lexeme) (n : ℕ) → BeginsAt us n → 0 < length us
begins_some [] n b = absurd (begins [] n b refl)
begins_some (u ∷ us) n b = omega arith

pub first_found : (ts : List Lexeme) (place : ℕ) (s : Sentence) (rest : List Lexeme) → BeginsAt ts place → statement ts ≡ Some (s, rest)
    → IsFirstStatement (record { place = place; sentence = s }) ts rest
first_found ts place s rest b e =
    let took = statement_takes ts s rest e in (
      took.0,
      took.1,
      subst (BeginsAt took.0) b.3 (some_begin took.0 rest b.0 b.1 (sym b.2 ∙ took.1) (some_statement s took.0 took.2)),
      took.2,
    )

pub none_begins : (ts : List Lexeme) → statement ts ≡ None → BeginsWithStatement ts → ⊥
none_begins ts e b = none_some (b.0, b.2) (sym e ∙ ap statement b.3 ∙ statement_again b.0 b.1 b.2 b.4 tt)

pub none_in_none : BeginsWithStatement [] → ⊥
none_in_none b = absurd (let n = ap length b.3 in omega (arith, n, length-append b.1 b.2, some_statement b.0 b.1 b.4))

pub first_shrinks : (s : Placed) (ts rest : List Lexeme) → IsFirstStatement s ts rest → length rest < length ts
first_shrinks s ts rest f = omega (arith, ap length f.1, length-append f.0 rest, begins_some f.0 s.place f.2)

pub prefix_first : (all ts rest : List Lexeme) (statements : List Placed) (s : Placed) → IsProgramPrefix all ts statements → IsFirstStatement s ts rest
    → IsProgramPrefix all rest (statements ++ s ∷ [])
prefix_first all ts rest statements s f g = (
  f.0 ++ g.0,
  f.1 ∙ ap (λ (x : List Lexeme). f.0 ++ x) g.1 ∙ sym (append_assoc f.0 g.0 rest),
  snoc f.0 g.0 statements s f.2 g.2 g.3,
)

-- ---- a program or a fault

abbrev IsDecided : List Lexeme → Type 0
IsDecided all = ((program : List Placed) × IsProgram all program) ⊎ ((at : ℕ) × IsSyntaxFault all at)

-- the statement at the start of what is left is taken, if there is one
take_prefix : (all : List Lexeme) (t : Lexeme) (more : List Lexeme) (statements : List Placed) (o : Option (Sentence × List Lexeme)) → statement (t ∷ more) ≡ o
    → IsProgramPrefix all (t ∷ more) statements → ((end : List Lexeme) (later : List Placed) → length end < length (t ∷ more) → IsProgramPrefix all end later → IsDecided all) → IsDecided all
take_prefix all t more statements None e f go = inr (t.place, prefix_fault all (t ∷ more) statements t more f refl e)
take_prefix all t more statements (Some (s, end)) e f go =
    go end (statements ++ record { place = t.place; sentence = s } ∷ []) (statement_shrinks (t ∷ more) s end e)
    (prefix_more all (t ∷ more) end statements s t more f refl e)

decide : (all : List Lexeme) (fuel : ℕ) (rest : List Lexeme) (statements : List Placed) → length rest ≤ fuel → IsProgramPrefix all rest statements → IsDecided all
decide all fuel [] statements h f = inl (statements, prefix_done all statements f)
decide all zero (t ∷ more) statements h f = absurd (omega (arith, h))
decide all (suc fuel) (t ∷ more) statements h f =
    take_prefix all t more statements (statement (t ∷ more)) refl f (λ end later shorter g. decide all fuel end later (omega (arith, h, shorter)) g)

pub program_or_fault : (ts : List Lexeme) → ((program : List Placed) × IsProgram ts program) ⊎ ((at : ℕ) × IsSyntaxFault ts at)
program_or_fault ts = decide ts (length ts) ts [] (omega arith) ([], refl, refl)
