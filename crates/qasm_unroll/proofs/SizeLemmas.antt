-- Sizes of registers in an application.
use Rattle.std.proofs.Common.{◌≡◌, ℕ, ◌+◌, ◌<◌, ◌==◌, false, ◌||◌, not, List, [], ◌∷◌, length, map, drop, get_or, Option, None, Some, refl, sym, ap, ◌∙◌, add-one}
use Rattle.std.specs.List.{list_any, filter_map, slice_get}
use Rattle.std.proofs.Math.Seq.{drop-cons}
use Rattle.qasm_scope.specs.Applications.{Range, register_size, register_sizes}
use Rattle.qasm_scope.specs.Faults.{has_other_size}
use Rattle.qasm_unroll.specs.Internal.Spans.{span_range, instance_count}
use Rattle.qasm_unroll.specs.declared.applications.Span.{Span}
use Rattle.qasm_names.proofs.Tests.{same_number}

sizes-drop : (spans : List Span) (i : ℕ) (d : Span) → i < length spans
    → register_sizes (map span_range (drop i spans)) ≡ register_sizes (span_range (get_or spans i d) ∷ map span_range (drop (i + 1) spans))
sizes-drop spans i d h =
    ap (λ rest. register_sizes (map span_range rest)) (drop-cons spans i d h)
    ∙ ap (λ n. register_sizes (span_range (get_or spans i d) ∷ map span_range (drop n spans))) (sym (add-one i))

-- a size before, if there is one, as filter_map puts it there
abbrev sized : Option ℕ → List ℕ → List ℕ
sized None rest = rest
sized (Some size) rest = size ∷ rest

with-size : (t : Range) (rest : List Range) (size : ℕ) → register_size t ≡ Some size → register_sizes (t ∷ rest) ≡ size ∷ register_sizes rest
with-size t rest size h = ap (λ o. sized o (register_sizes rest)) h

pub sizes-some : (spans : List Span) (i : ℕ) (d : Span) (size : ℕ) → i < length spans → register_size (span_range (get_or spans i d)) ≡ Some size
    → register_sizes (map span_range (drop i spans)) ≡ size ∷ register_sizes (map span_range (drop (i + 1) spans))
sizes-some spans i d size h e = sizes-drop spans i d h ∙ with-size (span_range (get_or spans i d)) (map span_range (drop (i + 1) spans)) size e

pub sizes-none : (spans : List Span) (i : ℕ) (d : Span) → i < length spans → register_size (span_range (get_or spans i d)) ≡ None
    → register_sizes (map span_range (drop i spans)) ≡ register_sizes (map span_range (drop (i + 1) spans))
sizes-none spans i d h e = sizes-drop spans i d h ∙ ap (λ o. sized o (register_sizes (map span_range (drop (i + 1) spans)))) e

pub sizes-of : (spans : List Span) → register_sizes (map span_range spans) ≡ filter_map (λ span. register_size (span_range span)) spans
sizes-of [] = refl
sizes-of (span ∷ spans) = ap (sized (register_size (span_range span))) (sizes-of spans)

pub other-some : (sizes : List ℕ) (size : ℕ) → slice_get sizes 0 ≡ Some size → list_any (λ other. not (other == size)) sizes ≡ has_other_size sizes
other-some [] size h = absurd (cc)
other-some (n ∷ sizes) size h =
    let same : n ≡ size = cc in
    ap (λ m. list_any (λ other. not (other == m)) (n ∷ sizes)) (sym same) ∙ ap (λ b. not b || list_any (λ other. not (other == n)) sizes) (same_number n)

pub other-none : (sizes : List ℕ) → slice_get sizes 0 ≡ None → false ≡ has_other_size sizes
other-none [] h = refl
other-none (n ∷ sizes) h = absurd (cc)

pub count-some : (sizes : List ℕ) (size : ℕ) → slice_get sizes 0 ≡ Some size → size ≡ instance_count sizes
count-some [] size h = absurd (cc)
count-some (n ∷ sizes) size h = cc

pub count-none : (sizes : List ℕ) → slice_get sizes 0 ≡ None → 1 ≡ instance_count sizes
count-none [] h = refl
count-none (n ∷ sizes) h = absurd (cc)
