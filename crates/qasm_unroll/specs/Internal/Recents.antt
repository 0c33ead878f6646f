-- What is remembered of names that were applied: a private matter of the program.
use Rattle.std.specs.Prelude.{◌≡◌, ◌==◌, ℕ, List, [], Option, Some, Ok, IfSome, false}
use Rattle.std.specs.List.{All, list_any}
use Rattle.qasm_names.specs.Checks.{Symbols, gate_shape, kept_by, lookup_by}
use Rattle.qasm_names.specs.declared.gates.CalledGate.{CalledGate}
use Rattle.qasm_names.specs.declared.gates.GateBody.{GateBody}
use Rattle.qasm_names.specs.Kept.{called_for}
use Rattle.qasm_reader.specs.Syntax.{Apply, Callee, Declared, Operand}
use Rattle.qasm_scope.specs.Applications.{Range, has_twice, instances, register_sizes}
use Rattle.qasm_scope.specs.Measurements.{holds_any, qubits_of}
use Rattle.qasm_scope.specs.Faults.{shape_of}
use Rattle.qasm_unroll.specs.declared.measured.Measured.{Measured}
use Rattle.qasm_unroll.specs.declared.unroll.Unrolled.{Unrolled}
use Rattle.qasm_unroll.specs.Internal.KeptCalls.{ComesTo, Numbered, Unrolls, called_events}
use Rattle.qasm_unroll.specs.Internal.KnownCalls.{AreKnown}
use Rattle.qasm_unroll.specs.declared.plain.NamedGate.{NamedGate}
use Rattle.qasm_unroll.specs.declared.plain.Recent.{Recent}
use Rattle.qasm_unroll.specs.Internal.Spans.{IsLastRegister, IsResolved, cut_instance}

-- the gate is what its name is kept as
pub record IsNamed (symbols : Symbols) (named : NamedGate) : Type 0 where
  pub shape : shape_of (lookup_by symbols) (Declared named.name.now) ≡ Some (gate_shape named.gate)
  pub called : named.gate.called ≡ called_for (kept_by symbols) (Declared named.name.now)

-- so is one that a row has
abbrev pub IsRow : Symbols → Option NamedGate → Type 0
IsRow symbols row = IfSome row (IsNamed symbols)

-- and the register is what its name is kept as
pub record IsRecent (symbols : Symbols) (recent : Recent) : Type 0 where
  pub gates : All (IsRow symbols) recent.gates
  pub register : IfSome recent.register (IsLastRegister (lookup_by symbols))

-- this is the gate's call, without angles and with so many qubits
pub record IsPlainCall (symbols : Symbols) (gate : Callee) (qubits : ℕ) (called : CalledGate) : Type 0 where
  pub shape : shape_of (lookup_by symbols) gate ≡ Some (0, qubits)
  pub called_is : called ≡ called_for (kept_by symbols) gate

-- the application of a gate without angles
abbrev pub plainly_applied : Callee → List Operand → Apply
plainly_applied gate qubits = record { gate = gate; angles = []; qubits = qubits }

-- The calls of a gate without angles on these qubits, one for each, are made, with no qubit twice and none measured.
pub record IsPlainlyCalled (measured : Measured) (before : Unrolled) (called : CalledGate) (ranges : List Range)
    (after : Unrolled) : Type 0 where
  pub differ : list_any (has_twice ◌==◌) (instances ranges) ≡ false
  pub unmeasured : list_any (holds_any (qubits_of measured.list)) ranges ≡ false
  pub comes : (numbered : Numbered) (gates : List GateBody) (count : ℕ) → Unrolls gates numbered
      → AreKnown numbered count before.known.items
      → ComesTo before (called_events numbered called 1 (Ok []) (cut_instance ranges 0)) after []

-- The application is resolved, its qubits are single ones, and it is called.
pub record IsPlainlyApplied (symbols : Symbols) (measured : Measured) (before : Unrolled) (a : Apply)
    (after : Unrolled) : Type 0 where
  pub called : CalledGate
  pub ranges : List Range
  pub resolved : IsResolved symbols a called [] ranges
  pub single : register_sizes ranges ≡ []
  pub calls : IsPlainlyCalled measured before called ranges after
