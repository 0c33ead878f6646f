-- An item without where it lies in memory.
use Rattle.qasm_reader.specs.declared.expression.Item.{Item}
use Rattle.qasm_reader.specs.declared.expression.Item.TheVariants.{Number, Pi, Name, Negate, Binary, Call}
use Rattle.qasm_reader.specs.Postfix.{Entry, NumberEntry, PiEntry, NameEntry, NegateEntry, BinaryEntry, CallEntry}

abbrev pub entry : Item → Entry
entry (Number text) = NumberEntry text.now
entry Pi = PiEntry
entry (Name name) = NameEntry name.now
entry Negate = NegateEntry
entry (Binary operator) = BinaryEntry operator
entry (Call function) = CallEntry function
