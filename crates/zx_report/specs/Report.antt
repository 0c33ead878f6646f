-- The lines that report how many gates of each kind a circuit had when it was read, and when it was written; and the
-- line of a scalar. They are comments of OpenQASM 2.0, so they may follow its text. The form is this project's own.
use Rattle.std.specs.Prelude.{ℕ, ◌++◌, List, codes, decimal}
use Rattle.std.specs.Fmt.{signed_decimal}
use Rattle.zx_model.specs.declared.scalar.Scalar.{Scalar}
use Rattle.zx_gates.specs.declared.tally.Counts.{Counts}

-- the name of a kind of gates, and how many there are
abbrev pub count_of : List ℕ → ℕ → List ℕ
count_of kind count = codes " " ++ kind ++ codes " " ++ decimal count

-- the line of a circuit
abbrev pub report_line : List ℕ → Counts → List ℕ
report_line circuit counts =
    codes "// " ++ circuit
    ++ count_of (codes "gates") counts.total
    ++ count_of (codes "odd") counts.odd
    ++ count_of (codes "two-qubit") counts.two_qubit
    ++ count_of (codes "h") counts.h
    ++ count_of (codes "phase") counts.phase
    ++ count_of (codes "cz") counts.cz
    ++ count_of (codes "cx") counts.cx
    ++ count_of (codes "not") counts.nots
    ++ codes "\n"

-- both lines:
--     // read gates A odd B two-qubit C h D phase E cz F cx G not I
--     // written gates A odd B two-qubit C h D phase E cz F cx G not I
abbrev pub report_lines : Counts → Counts → List ℕ
report_lines read written = report_line (codes "read") read ++ report_line (codes "written") written

-- the line of a scalar, `// scalar root2 A turn B`: the exponent of the root of two, with `-` where it is negative, and
-- that of z, from 0 to 15
abbrev pub scalar_line : Scalar → List ℕ
scalar_line s =
    codes "// scalar root2 " ++ signed_decimal s.root2 ++ codes " turn " ++ decimal s.turn ++ codes "\n"
