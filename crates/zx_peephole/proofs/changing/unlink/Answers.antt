-- The gate behind is linked to the one before.
use Rattle.std.proofs.Common.{◌≡◌, ℕ, length, get_or, sym, ap, ◌∙◌, subst, inl, inr}
use Rattle.std.specs.Global.{Vec}
use Rattle.zx_peephole.specs.declared.chains.Chains.{Chains}
use Rattle.zx_peephole.specs.Internal.Chains.{IsOn, IsChain, Without, link_at}
use Rattle.zx_peephole.proofs.ChainLemmas.{chain-without}
use Rattle.zx_peephole.proofs.changing.unlink.Goals as goal

pub returns-in-Some : goal.returns-in-Some
returns-in-Some c =
    let w = c.args.work.now in
    let new = c.set_link.new.work in
    let r = c.set_link.ensures in
    let found = c.in-Some.ensures.found in
    let on = IsOn w.gates.items c.args.qubit in
    let link = link_at w.gates.items new.links.items c.args.qubit in
    let last : new.last ≡ w.last = ap (λ (x : Chains). x.last) r.same in
    record {
      same = r.same ∙ ap (λ (l : Vec ℕ). record w { links = new.links; last = l }) (sym last);
      room = r.room;
      table = ap (λ l. length l.items) last;
      chain = subst (λ (l : Vec ℕ). IsChain (Without c.args.place on) link (get_or l.items c.args.qubit 0) w.next) (sym last)
          (chain-without on (link_at w.gates.items w.links.items c.args.qubit) (get_or w.last.items c.args.qubit 0) w.next
          c.args.place c.requires.on c.requires.before c.requires.chain link _ found.before found.on found.linked
          (r.here ∙ c.link-link.ensures) (λ j at differ. r.elsewhere c.args.qubit j at (inr differ)));
      last = λ q differ. ap (λ l. get_or l.items q 0) last;
      links = λ q j differ at. r.elsewhere q j at (inl differ);
    }
