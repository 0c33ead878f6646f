-- What each command finds in a text, and what it writes for one.
use Rattle.std.proofs.Common.{◌≡◌, inl, inr, ℕ, List, refl, Option, Some}
use Rattle.zx_gates.specs.declared.elementary.Elementary.{Elementary}
use Rattle.zx_words.specs.declared.words.Command.{Command}
use Rattle.zx_words.specs.declared.words.Command.TheVariants.{Optimise, Reduce, Flow, Graph, Compile, Teleport, Same, Generate}
use Rattle.zx_run.specs.declared.status.Fault.{Fault}
use Rattle.zx_run.specs.declared.status.Status.TheVariants.{Done, No}
use Rattle.zx_run.specs.Outcome.{IsFirstFaultFor, IsFaultlessFor, IsOutputFor, IsNoFor, MayAnswer}
use Rattle.zx_run.proofs.FaultLemmas.{one_first_fault, not_faultless}
use Rattle.zx_run.specs.Comparing.{AreDifferent, IsDifference}
use Rattle.zx_run.proofs.DiagramLemmas.{one_diagram_fault, no_diagram_fault, one_square_fault, no_square_fault}
use Rattle.zx_run.proofs.TwoTextsLemmas.{one_fault_of_two, not_accepted_two}
use Rattle.zx_run.proofs.FileLemmas.{one_file_fault, file_or_fault, holds_no_flow}

-- a text has one first fault at most
pub one_fault : (command : Command) (text : List ℕ) (f g : Fault) → IsFirstFaultFor command text f → IsFirstFaultFor command text g → f ≡ g
one_fault (Optimise best report scalar) text f g a b = one_first_fault text f g a b
one_fault Teleport text f g a b = one_first_fault text f g a b
one_fault Reduce text f g a b = one_file_fault text f g a b
one_fault Flow text f g a b = one_file_fault text f g a b
one_fault Graph text f g a b = one_diagram_fault text f g a b
one_fault Compile text f g a b = one_square_fault text f g a b
one_fault Same text f g a b = one_fault_of_two text f g a b
one_fault (Generate seed qubits gates) text f g a b = absurd a

-- and none if it is faultless
pub fault_or_none : (command : Command) (text : List ℕ) (f : Fault) → IsFirstFaultFor command text f → IsFaultlessFor command text → ⊥
fault_or_none (Optimise best report scalar) text f first none = not_faultless text f first none
fault_or_none Teleport text f first none = not_faultless text f first none
fault_or_none Reduce text f first file = file_or_fault text f first file
fault_or_none Flow text f first file = file_or_fault text f first file
fault_or_none Graph text f first (diagram, file) = no_diagram_fault text f diagram first file
fault_or_none Compile text f first (diagram, file, square) = no_square_fault text f diagram first file square
fault_or_none Same text f first (one, other, accepted) = not_accepted_two text f one other first accepted
fault_or_none (Generate seed qubits gates) text f first none = absurd first

-- what a line says of two circuits
different : (one other : Elementary) (bytes : List ℕ) → IsDifference one other bytes → AreDifferent one other
different one other bytes (inl is) = inl is.differ
different one other bytes (inr (inl is)) = inr (inl is.differ)
different one other bytes (inr (inr is)) = inr (inr is.differ)

-- what has an output is faultless, and its answer is one that the command may give
pub output_answers : (command : Command) (left : Option (List ℕ)) (bytes text : List ℕ) → IsOutputFor command left bytes → left ≡ Some text
    → IsFaultlessFor command text × MayAnswer command text Done
output_answers (Optimise best report scalar) left bytes text output told =
    let is = output text told in ((is.read, is.accepted), refl)
output_answers Teleport left bytes text output told = let is = output text told in ((is.read, is.accepted), refl)
output_answers Reduce left bytes text output told =
    let is = output text told in ((is.graph, is.table, is.file), inl (refl, (is.graph, is.table, is.file, is.flow)))
output_answers Flow left bytes text output told =
    let is = output text told in ((is.graph, is.table, is.file), inl (refl, (is.graph, is.table, is.file, is.flow)))
output_answers Graph left bytes text output told = let is = output text told in ((is.diagram, is.file), refl)
output_answers Compile left bytes text output told =
    let is = output text told in ((is.diagram, is.file, is.square), (is.diagram, is.file, is.square, inl (refl, is.has_flow)))
output_answers Same left bytes text output told =
    let is = output text told in
    ((is.one, is.other, is.accepted), (is.one, is.other, is.accepted, inl (refl, is.same.one_map)))
output_answers (Generate seed qubits gates) left bytes text output told = (tt, refl)

pub no_answers : (command : Command) (left : Option (List ℕ)) (bytes text : List ℕ) → IsNoFor command left bytes → left ≡ Some text
    → IsFaultlessFor command text × MayAnswer command text No
no_answers (Optimise best report scalar) left bytes text output told = absurd output
no_answers Teleport left bytes text output told = absurd output
no_answers Reduce left bytes text output told = let no_flow = holds_no_flow text bytes (output text told) in (no_flow.0, inr (refl, no_flow))
no_answers Flow left bytes text output told = let no_flow = holds_no_flow text bytes (output text told) in (no_flow.0, inr (refl, no_flow))
no_answers Graph left bytes text output told = absurd output
no_answers Compile left bytes text output told =
    let is = output text told in ((is.diagram, is.file, is.square), (is.diagram, is.file, is.square, inr (refl, is.no_flow)))
no_answers Same left bytes text output told =
    let is = output text told in
    ((is.one, is.other, is.accepted), (is.one, is.other, is.accepted, inr (refl, different is.one is.other bytes is.difference)))
no_answers (Generate seed qubits gates) left bytes text output told = absurd output
