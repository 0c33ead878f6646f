-- Maps of calls by the gates that they come to.
use Rattle.std.specs.Prelude.{◌≡◌, ℕ, List, None, length}
use Rattle.std.proofs.Common.{sym, ap, ◌∙◌, subst}
use Rattle.zx_model.specs.Proportional.{Proportional}
use Rattle.zx_gates.specs.declared.elementary.ElementaryGate.{ElementaryGate}
use Rattle.zx_gates.specs.ElementaryMaps.{amp_elementary}
use Rattle.qasm_angle.specs.declared.angle.Angle.{Angle}
use Rattle.qasm_scope.specs.Calls.{Event, applied, first_wrong}
use Rattle.qasm_scope.specs.Meaning.{most_calls}
use Rattle.header_laws.specs.Gates.{Map}
use Rattle.header_laws.specs.Calls.{header_events, HasMap}

-- a call without fault comes to these gates
pub record Comes (name : List ℕ) (angles : List Angle) (qubits : List ℕ) (gates : List ElementaryGate) : Type 0 where
  pub faultless : first_wrong most_calls 0 (header_events name angles qubits) ≡ None
  pub same : applied (header_events name angles qubits) ≡ gates

pub comes : {name : List ℕ} {angles : List Angle} {qubits : List ℕ} {events : List Event} → header_events name angles qubits ≡ events
    → first_wrong most_calls 0 events ≡ None → Comes name angles qubits (applied events)
comes e f = record { faultless = ap (first_wrong most_calls 0) e ∙ f; same = ap applied e }

pub has_map : {name : List ℕ} {angles : List Angle} {qubits : List ℕ} {gates : List ElementaryGate} {g : Map} → Comes name angles qubits gates
    → Proportional (length qubits) (length qubits) (amp_elementary gates) g → HasMap name angles qubits g
has_map {qubits = qubits} {g = g} c p = record {
  faultless = c.faultless;
  map = subst (λ l. Proportional (length qubits) (length qubits) (amp_elementary l) g) (sym c.same) p;
}
