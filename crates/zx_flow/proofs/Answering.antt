-- What is said of an answer that is known to be Ok.
use Rattle.std.proofs.lemmas.Bool.{false≢true}
use Rattle.std.specs.Prelude.{Result, Ok, Err, IsOk, OnOk, OnErr}

pub from_ok : {T E P : Type 0} (r : Result T E) → IsOk r → OnOk r P → P
from_ok (Ok x) ok h = h
from_ok (Err e) ok h = absurd (false≢true ok)

pub no_err : {T E : Type 0} (P : Type 0) (r : Result T E) → IsOk r → OnErr r P
no_err P (Ok x) ok = tt
no_err P (Err e) ok = absurd (false≢true ok)

pub on_both : {T E P Q R : Type 0} (r : Result T E) → (P → Q → R) → OnOk r P → OnOk r Q → OnOk r R
on_both (Ok x) f p q = f p q
on_both (Err e) f p q = tt
