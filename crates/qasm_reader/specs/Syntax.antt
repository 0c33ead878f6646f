-- Statements of OpenQASM 2.0, without where they lie in memory: names, numbers and texts as their bytes.
-- The language is that of Cross, Bishop, Smolin and Gambetta, "Open quantum assembly language" (arXiv 1707.03429).
use Rattle.std.specs.Prelude.{ℕ, List, Option}
use Rattle.qasm_reader.specs.declared.expression.Operator.{Operator}
use Rattle.qasm_reader.specs.declared.expression.Function.{Function}

-- an expression
pub data Formula : Type 0 where
  Number : List ℕ → Formula
  Pi : Formula
  Name : List ℕ → Formula
  Negate : Formula → Formula
  Binary : Operator → Formula → Formula → Formula
  Call : Function → Formula → Formula

-- a register, or the element of it at an index
pub record Operand : Type 0 where
  pub register : List ℕ
  pub index : Option (List ℕ)

-- the gate that is applied: a declared one, or one of the two that are built in
pub data Callee : Type 0 where
  Declared : List ℕ → Callee
  U Cx : Callee

-- an application of a gate
pub record Apply : Type 0 where
  pub gate : Callee
  pub angles : List Formula
  pub qubits : List Operand

-- an operation on qubits
pub data Action : Type 0 where
  Applied : Apply → Action
  Measured : Operand → Operand → Action
  Reset : Operand → Action

-- an application in the body of a gate
pub record BodyApply : Type 0 where
  pub gate : Callee
  pub angles : List Formula
  pub qubits : List (List ℕ)

-- a statement of a gate's body
pub data BodySentence : Type 0 where
  BodyApplied : BodyApply → BodySentence
  BodyBarrier : List (List ℕ) → BodySentence

-- the declaration of a gate
pub record GateForm : Type 0 where
  pub name : List ℕ
  pub parameters : List (List ℕ)
  pub qubits : List (List ℕ)
  pub body : List BodySentence

-- what a statement says
pub data Sentence : Type 0 where
  Version Include : List ℕ → Sentence
  -- name and size
  QubitRegister BitRegister : List ℕ → List ℕ → Sentence
  DeclareGate : GateForm → Sentence
  -- name, parameters and qubits
  Opaque : List ℕ → List (List ℕ) → List (List ℕ) → Sentence
  -- register and value
  If : List ℕ → List ℕ → Action → Sentence
  Barrier : List Operand → Sentence
  Act : Action → Sentence

-- a statement, and the place of its first byte
pub record Placed : Type 0 where
  pub place : ℕ
  pub sentence : Sentence
