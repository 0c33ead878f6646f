-- What is written for a text, with the answer Done or No.
use Rattle.std.proofs.Common.{◌≡◌, ℕ, List, Bool, true, false, Option, Some}
use Rattle.zx_words.specs.declared.words.Command.TheVariants.{Compile, Same}
use Rattle.zx_run.specs.Answers.{IsOutputOf}
use Rattle.zx_run.specs.Internal.Verdicts.{IsCompilation, IsComparison}

pub compile_output : (left : Option (List ℕ)) (says_no : Bool) (bytes : List ℕ)
    → ((text : List ℕ) → left ≡ Some text → IsCompilation text bytes says_no) → IsOutputOf (Some Compile) says_no left bytes
compile_output left false bytes is = is
compile_output left true bytes is = is

pub same_output : (left : Option (List ℕ)) (says_no : Bool) (bytes : List ℕ)
    → ((text : List ℕ) → left ≡ Some text → IsComparison text bytes says_no) → IsOutputOf (Some Same) says_no left bytes
same_output left false bytes is = is
same_output left true bytes is = is
