-- Numbers as they are spelled, and what the command line says of words.
use Rattle.std.proofs.Common.{◌≡◌, ◌<◌, ◌≤◌, ◌^◌, ℕ, Bool, true, false, ◌&&◌, leb, if◌then◌else◌, List}
use Rattle.std.proofs.Common.{decimal}
use Rattle.std.proofs.Common.{Option, None, Some, Result, Ok, option_and_then, codes, bytes_eq, refl, sym, ap, ◌∙◌}
use Rattle.std.proofs.Common.{arith}
use Rattle.std.proofs.lemmas.Bool.{le-leb, leb-true}
use Rattle.std.proofs.lemmas.Fmt.{parse-decimal, decimal_is_IsNumeral}
use Rattle.std.proofs.lemmas.Slice.Eq.{bytes_eq-Decides}
use Rattle.std.specs.Str.Parse.{ParsesUnsigned, digits_value}
use Rattle.std.specs.Option.{option_map_or}
use Rattle.clap.specs.Words.{App, Row, Text, first_of, is_simple, is_simple_and_free}
use Rattle.clap.specs.Simple.{app_of_fields}
use Rattle.clap.specs.declared.builder.command.Command.{Command}
use Rattle.clap.specs.declared.builder.command.Command.TheOpen.{Command-F}
use Rattle.clap.proofs.OnLiterals.{clap_on_literals}
use Rattle.zx_words.specs.Command.{numeral_in}
use Rattle.zx_words.specs.CommandLine.{zxopt_app, bare, number_at, has_flag}

-- ---- numbers
both : (a b : Bool) → (a && b) ≡ true → (a ≡ true) × (b ≡ true)
both true b e = (refl, e)
both false b e = absurd (cc)

unless : (b : Bool) (x : Option ℕ) → (b ≡ true → ⊥) → (if b then x else None) ≡ None
unless true x never = absurd (never refl)
unless false x never = refl

pub number_passes : (most n : ℕ) (text : List ℕ) → n ≤ most → n < 2 ^ 64 → decimal n ≡ text
    → Some n ≡ numeral_in most text
unfolding numeral_in
number_passes most n text le small e =
    let value : digits_value 10 text ≡ n = ap (digits_value 10) (sym e) ∙ (decimal_is_IsNumeral n small).1 in
    let same : bytes_eq (decimal n) text ≡ true = (bytes_eq-Decides (decimal n) text).1 e in
    rw (value, le-leb n most le, same) refl

taken_by : (b : Bool) (m n : ℕ) → (if b then Some m else None) ≡ Some n → (b ≡ true) × (m ≡ n)
taken_by true m n e = (refl, cc)
taken_by false m n e = absurd (cc)

pub number_is : (most n : ℕ) (text : List ℕ) → numeral_in most text ≡ Some n → (text ≡ decimal n) × (n ≤ most)
unfolding numeral_in
number_is most n text e =
    let m : ℕ = digits_value 10 text in
    let t = taken_by (leb m most && bytes_eq (decimal m) text) m n e in
    let p = both (leb m most) (bytes_eq (decimal m) text) t.0 in
    let le : m ≤ most = leb-true m most p.0 in
    (sym ((bytes_eq-Decides (decimal m) text).0 p.1) ∙ ap decimal t.1, omega (arith, le, t.1))

pub no_number : (most : ℕ) (text : List ℕ) → ((n : ℕ) → n ≤ most → text ≡ decimal n → ⊥) → numeral_in most text ≡ None
unfolding numeral_in
no_number most text none =
    let n : ℕ = digits_value 10 text in
    unless (leb n most && bytes_eq (decimal n) text) (Some n)
    (λ t.
    let p = both (leb n most) (bytes_eq (decimal n) text) t in
    none n (leb-true n most p.0) (sym ((bytes_eq-Decides (decimal n) text).0 p.1)))

pub unparsed : {E : Type 0} (most : ℕ) (text : List ℕ) (r : Result ℕ E) → most < 2 ^ 64 → ParsesUnsigned 64 10 text r
    → ((n : ℕ) → r ≡ Ok n → ⊥) → None ≡ numeral_in most text
unparsed most text r small parsed failed =
    sym (no_number most text
    (λ n le same. failed n (parse-decimal 64 n text r (omega arith) (omega arith) same parsed)))

pub otherwise : {E : Type 0} (most n : ℕ) (text : List ℕ) (r : Result ℕ E) → most < 2 ^ 64 → ParsesUnsigned 64 10 text r
    → r ≡ Ok n → (n ≤ most → decimal n ≡ text → ⊥) → None ≡ numeral_in most text
otherwise most n text r small parsed is other =
    sym (no_number most text
    (λ m le same.
    let ok : r ≡ Ok m = parse-decimal 64 m text r (omega arith) (omega arith) same parsed in
    let equal : n ≡ m = cc in
    other (omega arith) (ap decimal equal ∙ sym same)))

-- ---- what is read of the matches
pub flag_given : (name : Text) (rows : List Row) (text : Text) (b : Bool) → Some text ≡ first_of name rows
    → b ≡ bytes_eq text (codes "true") → b ≡ has_flag name rows
flag_given name rows text b first is =
    is ∙ ap (λ (o : Option Text). option_map_or (λ t. bytes_eq t (codes "true")) o false) first

pub flag_missing : (name : Text) (rows : List Row) → None ≡ first_of name rows → false ≡ has_flag name rows
flag_missing name rows first =
    ap (λ (o : Option Text). option_map_or (λ t. bytes_eq t (codes "true")) o false) first

pub number_given : (name : Text) (most : ℕ) (rows : List Row) (text : Text) → Some text ≡ first_of name rows
    → numeral_in most text ≡ number_at name most rows
number_given name most rows text first = ap (λ (o : Option Text). option_and_then (numeral_in most) o) first

pub number_missing : (name : Text) (most : ℕ) (rows : List Row) → None ≡ first_of name rows
    → None ≡ number_at name most rows
number_missing name most rows first = ap (λ (o : Option Text). option_and_then (numeral_in most) o) first

-- ---- the command line
pub bare_is : (f0 f1 f2 f3 f4 : Command-F Command) (a : App) → app_of_fields f0 ≡ a
    → f1 ≡ record f0 { no_binary_name = true }
    → f2 ≡ record f1 { disable_help_flag = true } → f3 ≡ record f2 { disable_help_subcommand = true }
    → f4 ≡ record f3 { subcommand_required = true } → app_of_fields f4 ≡ bare a
bare_is f0 f1 f2 f3 f4 a is e1 e2 e3 e4 = rw (e4, e3, e2, e1) (ap bare is)

pub simple : is_simple zxopt_app ≡ true
unfolding zxopt_app clap_on_literals
simple = refl

pub free : is_simple_and_free zxopt_app ≡ true
unfolding zxopt_app clap_on_literals
free = refl
