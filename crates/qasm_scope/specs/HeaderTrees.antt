-- The gates that the header's texts declare, written out as trees. Nobody has to read them to trust a promise: `Gates`
-- speaks of the programs that the texts are, and the law `the_header_declares_its_gates` says that they declare these.
use Rattle.std.specs.Prelude.{ℕ, List, [], ◌∷◌, codes, map}
use Rattle.qasm_reader.specs.declared.expression.Operator.TheVariants.{Divide}
use Rattle.qasm_reader.specs.Syntax.{Formula, Number, Pi, Name, Negate, Binary, Callee, Declared, U, Cx, GateForm}
use Rattle.qasm_reader.specs.Syntax.{BodySentence, BodyApplied}

-- names of one letter each
abbrev pub letters : List ℕ → List (List ℕ)
letters names = map (λ letter. letter ∷ []) names

abbrev pub call : Callee → List Formula → List ℕ → BodySentence
call gate angles qubits = BodyApplied (record { gate = gate; angles = angles; qubits = letters qubits })

-- a call without angles
abbrev pub on : List ℕ → List ℕ → BodySentence
on name = call (Declared name) []

abbrev pub gate : List ℕ → List (List ℕ) → List ℕ → List BodySentence → GateForm
gate name parameters qubits body =
    record { name = name; parameters = parameters; qubits = letters qubits; body = body }

abbrev pub theta : List ℕ
theta = codes "theta"

abbrev pub phi : List ℕ
phi = codes "phi"

abbrev pub lambda : List ℕ
lambda = codes "lambda"

abbrev pub nought : Formula
nought = Number (codes "0")

abbrev pub half : Formula → Formula
half angle = Binary Divide angle (Number (codes "2"))

abbrev pub quarter : Formula → Formula
quarter angle = Binary Divide angle (Number (codes "4"))

-- the body of `cu1`, and of `cp`
abbrev pub controlled_phase : List BodySentence
controlled_phase =
    call (Declared (codes "u1")) (half (Name lambda) ∷ []) (codes "a") ∷ on (codes "cx") (codes "ab")
    ∷ call (Declared (codes "u1")) (half (Negate (Name lambda)) ∷ []) (codes "b") ∷ on (codes "cx") (codes "ab")
    ∷ call (Declared (codes "u1")) (half (Name lambda) ∷ []) (codes "b") ∷ []

-- the gates that the first text declares
abbrev pub first_trees : List GateForm
first_trees =
    gate (codes "u3") (theta ∷ phi ∷ lambda ∷ []) (codes "q")
    (call U (Name theta ∷ Name phi ∷ Name lambda ∷ []) (codes "q") ∷ [])
    ∷ gate (codes "u2") (phi ∷ lambda ∷ []) (codes "q")
    (call U (half Pi ∷ Name phi ∷ Name lambda ∷ []) (codes "q") ∷ [])
    ∷ gate (codes "u1") (lambda ∷ []) (codes "q") (call U (nought ∷ nought ∷ Name lambda ∷ []) (codes "q") ∷ [])
    ∷ gate (codes "cx") [] (codes "ct") (call Cx [] (codes "ct") ∷ [])
    ∷ gate (codes "id") [] (codes "a") (call U (nought ∷ nought ∷ nought ∷ []) (codes "a") ∷ [])
    ∷ gate (codes "x") [] (codes "a") (call (Declared (codes "u3")) (Pi ∷ nought ∷ Pi ∷ []) (codes "a") ∷ [])
    ∷ gate (codes "y") [] (codes "a") (call (Declared (codes "u3")) (Pi ∷ half Pi ∷ half Pi ∷ []) (codes "a") ∷ [])
    ∷ gate (codes "z") [] (codes "a") (call (Declared (codes "u1")) (Pi ∷ []) (codes "a") ∷ [])
    ∷ gate (codes "h") [] (codes "a") (call (Declared (codes "u2")) (nought ∷ Pi ∷ []) (codes "a") ∷ [])
    ∷ gate (codes "s") [] (codes "a") (call (Declared (codes "u1")) (half Pi ∷ []) (codes "a") ∷ [])
    ∷ gate (codes "sdg") [] (codes "a") (call (Declared (codes "u1")) (half (Negate Pi) ∷ []) (codes "a") ∷ [])
    ∷ gate (codes "t") [] (codes "a") (call (Declared (codes "u1")) (quarter Pi ∷ []) (codes "a") ∷ [])
    ∷ gate (codes "tdg") [] (codes "a") (call (Declared (codes "u1")) (quarter (Negate Pi) ∷ []) (codes "a") ∷ [])
    ∷ gate (codes "rx") (theta ∷ []) (codes "a")
    (call (Declared (codes "u3")) (Name theta ∷ half (Negate Pi) ∷ half Pi ∷ []) (codes "a") ∷ [])
    ∷ gate (codes "ry") (theta ∷ []) (codes "a")
    (call (Declared (codes "u3")) (Name theta ∷ nought ∷ nought ∷ []) (codes "a") ∷ [])
    ∷ gate (codes "rz") (phi ∷ []) (codes "a") (call (Declared (codes "u1")) (Name phi ∷ []) (codes "a") ∷ [])
    ∷ gate (codes "cz") [] (codes "ab")
    (on (codes "h") (codes "b") ∷ on (codes "cx") (codes "ab") ∷ on (codes "h") (codes "b") ∷ [])
    ∷ gate (codes "cy") [] (codes "ab")
    (on (codes "sdg") (codes "b") ∷ on (codes "cx") (codes "ab") ∷ on (codes "s") (codes "b") ∷ [])
    ∷ gate (codes "ch") [] (codes "ab")
    (on (codes "h") (codes "b") ∷ on (codes "sdg") (codes "b") ∷ on (codes "cx") (codes "ab")
    ∷ on (codes "h") (codes "b") ∷ on (codes "t") (codes "b") ∷ on (codes "cx") (codes "ab")
    ∷ on (codes "t") (codes "b") ∷ on (codes "h") (codes "b") ∷ on (codes "s") (codes "b")
    ∷ on (codes "x") (codes "b") ∷ on (codes "s") (codes "a") ∷ [])
    ∷ gate (codes "ccx") [] (codes "abc")
    (on (codes "h") (codes "c") ∷ on (codes "cx") (codes "bc") ∷ on (codes "tdg") (codes "c")
    ∷ on (codes "cx") (codes "ac") ∷ on (codes "t") (codes "c") ∷ on (codes "cx") (codes "bc")
    ∷ on (codes "tdg") (codes "c") ∷ on (codes "cx") (codes "ac") ∷ on (codes "t") (codes "b")
    ∷ on (codes "t") (codes "c") ∷ on (codes "h") (codes "c") ∷ on (codes "cx") (codes "ab")
    ∷ on (codes "t") (codes "a") ∷ on (codes "tdg") (codes "b") ∷ on (codes "cx") (codes "ab") ∷ [])
    ∷ gate (codes "crz") (lambda ∷ []) (codes "ab")
    (call (Declared (codes "u1")) (half (Name lambda) ∷ []) (codes "b") ∷ on (codes "cx") (codes "ab")
    ∷ call (Declared (codes "u1")) (half (Negate (Name lambda)) ∷ []) (codes "b") ∷ on (codes "cx") (codes "ab") ∷ [])
    ∷ gate (codes "cu1") (lambda ∷ []) (codes "ab") controlled_phase
    ∷ []

-- the gates that the further text declares
abbrev pub further_trees : List GateForm
further_trees =
    gate (codes "p") (lambda ∷ []) (codes "q") (call U (nought ∷ nought ∷ Name lambda ∷ []) (codes "q") ∷ [])
    ∷ gate (codes "u") (theta ∷ phi ∷ lambda ∷ []) (codes "q")
    (call U (Name theta ∷ Name phi ∷ Name lambda ∷ []) (codes "q") ∷ [])
    ∷ gate (codes "swap") [] (codes "ab")
    (on (codes "cx") (codes "ab") ∷ on (codes "cx") (codes "ba") ∷ on (codes "cx") (codes "ab") ∷ [])
    ∷ gate (codes "sx") [] (codes "a")
    (on (codes "sdg") (codes "a") ∷ on (codes "h") (codes "a") ∷ on (codes "sdg") (codes "a") ∷ [])
    ∷ gate (codes "sxdg") [] (codes "a")
    (on (codes "s") (codes "a") ∷ on (codes "h") (codes "a") ∷ on (codes "s") (codes "a") ∷ [])
    ∷ gate (codes "cp") (lambda ∷ []) (codes "ab") controlled_phase
    ∷ gate (codes "cswap") [] (codes "abc")
    (on (codes "cx") (codes "cb") ∷ on (codes "ccx") (codes "abc") ∷ on (codes "cx") (codes "cb") ∷ [])
    ∷ gate (codes "ccz") [] (codes "abc")
    (on (codes "h") (codes "c") ∷ on (codes "ccx") (codes "abc") ∷ on (codes "h") (codes "c") ∷ [])
    ∷ gate (codes "crx") (theta ∷ []) (codes "ab")
    (on (codes "h") (codes "b") ∷ call (Declared (codes "crz")) (Name theta ∷ []) (codes "ab")
    ∷ on (codes "h") (codes "b") ∷ [])
    ∷ gate (codes "cry") (theta ∷ []) (codes "ab")
    (call (Declared (codes "ry")) (half (Name theta) ∷ []) (codes "b") ∷ on (codes "cx") (codes "ab")
    ∷ call (Declared (codes "ry")) (half (Negate (Name theta)) ∷ []) (codes "b") ∷ on (codes "cx") (codes "ab") ∷ [])
    ∷ gate (codes "rzz") (theta ∷ []) (codes "ab")
    (on (codes "cx") (codes "ab") ∷ call (Declared (codes "u1")) (Name theta ∷ []) (codes "b")
    ∷ on (codes "cx") (codes "ab") ∷ [])
    ∷ []
