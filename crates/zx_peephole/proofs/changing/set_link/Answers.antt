-- The second link is changed, and the first one stays.
use Rattle.std.proofs.Common.{◌≡◌, ◌<◌, length, refl, ap, ◌∙◌, arith, false, eqb}
use Rattle.std.proofs.lemmas.Bool.{ne_eqb}
use Rattle.std.proofs.lemmas.List.{length-set, get_or_default}
use Rattle.zx_gates.specs.declared.gate_list.Links.{Links}
use Rattle.zx_peephole.specs.Internal.Chains.{gate_at, first_qubit, no_links}
use Rattle.zx_peephole.proofs.LeftLemmas.{read_at}
use Rattle.zx_peephole.proofs.ChainLemmas.{second_here, second_elsewhere}
use Rattle.zx_peephole.proofs.changing.set_link.Goals as goal

pub returns-else-first_qubit-qubit : goal.returns-else-first_qubit-qubit
returns-else-first_qubit-qubit c =
    let w = c.args.work.now in
    let l : Links = record { first = c.index_mut-else-first_qubit-qubit.result.now.first; second = c.args.link } in
    let other : eqb (first_qubit (gate_at w.gates.items c.args.place)) c.args.qubit ≡ false =
    ne_eqb _ _ (λ e. c.if-first_qubit-qubit.false (c.first_qubit.ensures
    ∙ ap first_qubit (read_at w.gates.items c.args.place c.index.result.now
    (omega (arith, c.requires.before, c.requires.places.within)) c.index.ensures) ∙ e)) in
    let within : c.args.place < length w.links.items =
    omega (arith, c.requires.before, c.requires.places.within, c.requires.places.enough) in
    let first = ap (λ (s : Links). s.first) (c.index_mut-else-first_qubit-qubit.ensures.value
    ∙ get_or_default w.links.items c.args.place _ no_links within) in
    record {
      same = refl;
      room = length-set w.links.items c.args.place l;
      here = second_here w.gates.items w.links.items c.args.place c.args.qubit l c.requires.on other first within;
      elsewhere = second_elsewhere w.gates.items w.links.items c.args.place c.args.qubit l c.requires.on other first within;
    }
