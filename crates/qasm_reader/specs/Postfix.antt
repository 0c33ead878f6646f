-- Expressions in postfix order: operands stand before what is applied to them.
use Rattle.std.specs.Prelude.{ℕ, List, [], ◌∷◌, ◌++◌, ◌≡◌}
use Rattle.qasm_reader.specs.declared.expression.Operator.{Operator}
use Rattle.qasm_reader.specs.declared.expression.Function.{Function}
use Rattle.qasm_reader.specs.Syntax.{Formula, Number, Pi, Name, Negate, Binary, Call}

-- an item without where it lies in memory
pub data Entry : Type 0 where
  NumberEntry : List ℕ → Entry
  PiEntry : Entry
  NameEntry : List ℕ → Entry
  NegateEntry : Entry
  BinaryEntry : Operator → Entry
  CallEntry : Function → Entry

-- the postfix order of an expression
abbrev pub postfix : Formula → List Entry
postfix (Number text) = NumberEntry text ∷ []
postfix Pi = PiEntry ∷ []
postfix (Name name) = NameEntry name ∷ []
postfix (Negate f) = postfix f ++ NegateEntry ∷ []
postfix (Binary operator f g) = postfix f ++ postfix g ++ BinaryEntry operator ∷ []
postfix (Call function f) = postfix f ++ CallEntry function ∷ []

-- what stands on a stack of operands after an item
abbrev pub push_entry : Entry → List Formula → List Formula
push_entry (NumberEntry text) operands = Number text ∷ operands
push_entry PiEntry operands = Pi ∷ operands
push_entry (NameEntry name) operands = Name name ∷ operands
push_entry NegateEntry [] = []
push_entry NegateEntry (f ∷ operands) = Negate f ∷ operands
push_entry (BinaryEntry operator) [] = []
push_entry (BinaryEntry operator) (g ∷ []) = []
push_entry (BinaryEntry operator) (g ∷ f ∷ operands) = Binary operator f g ∷ operands
push_entry (CallEntry function) [] = []
push_entry (CallEntry function) (f ∷ operands) = Call function f ∷ operands

abbrev pub push_entries : List Entry → List Formula → List Formula
push_entries [] operands = operands
push_entries (e ∷ entries) operands = push_entries entries (push_entry e operands)

abbrev pub first_or_pi : List Formula → Formula
first_or_pi [] = Pi
first_or_pi (f ∷ fs) = f

-- the expression that has this postfix order, if any has
abbrev pub formula_of : List Entry → Formula
formula_of entries = first_or_pi (push_entries entries [])

-- the items are the postfix order of an expression
abbrev pub IsPostfix : List Entry → Type 0
IsPostfix entries = (f : Formula) × (entries ≡ postfix f)
