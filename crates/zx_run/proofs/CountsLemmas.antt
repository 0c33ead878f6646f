-- Numbers that are told one by one are those of the gates.
use Rattle.std.proofs.Common.{◌≡◌, ℕ, List, length, ap₂, ◌∙◌}
use Rattle.std.specs.List.{count_by}
use Rattle.zx_gates.specs.declared.gate.Gate.{Gate}
use Rattle.zx_gates.specs.declared.tally.Counts.{Counts}
use Rattle.zx_gates.specs.Circuit.{gate_odd_phases}
use Rattle.zx_gates.specs.Counting.{is_h, is_phase, is_cz, is_cx, is_not, is_two_qubit}
use Rattle.zx_optimise.specs.Optimising.{counts_of}

abbrev counts_by : (total odd two h phase cz cx nots : ℕ) → Counts
counts_by total odd two h phase cz cx nots =
    record { total = total; odd = odd; two_qubit = two; h = h; phase = phase; cz = cz; cx = cx; nots = nots }

pub same_counts : (k : Counts) (gates : List Gate) → k.total ≡ length gates → k.odd ≡ gate_odd_phases gates
    → k.two_qubit ≡ count_by is_two_qubit gates → k.h ≡ count_by is_h gates → k.phase ≡ count_by is_phase gates
    → k.cz ≡ count_by is_cz gates → k.cx ≡ count_by is_cx gates → k.nots ≡ count_by is_not gates → k ≡ counts_of gates
same_counts k gates total odd two h phase cz cx nots =
    let made = counts_of gates in
    ap₂ (λ m n. counts_by m n k.two_qubit k.h k.phase k.cz k.cx k.nots) total odd
    ∙ ap₂ (λ m n. counts_by made.total made.odd m n k.phase k.cz k.cx k.nots) two h
    ∙ ap₂ (λ m n. counts_by made.total made.odd made.two_qubit made.h m n k.cx k.nots) phase cz
    ∙ ap₂ (λ m n. counts_by made.total made.odd made.two_qubit made.h made.phase made.cz m n) cx nots
