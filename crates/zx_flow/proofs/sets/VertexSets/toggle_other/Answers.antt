-- The set of u comes back, with what it toggled.
use Rattle.std.proofs.Common.{◌≡◌, sym, ◌∙◌, ap, ap₂, subst, ℕ, ◌<◌, List, length, get_or, set, arith, rules}
use Rattle.std.proofs.lemmas.Result.{on_ok_weaker, on_err_weaker}
use Rattle.std.proofs.lemmas.List.{get_or_default, length-set}
use Rattle.zx_model.specs.Bits.{xor, member}
use Rattle.zx_bits.specs.Sets.{IsBelow}
use Rattle.open_graph.specs.VertexSets.{VertexSet}
use Rattle.zx_flow.specs.VertexSets.{VertexSets, no_set}
use Rattle.zx_flow.proofs.RoomLemmas.{back_toggled, back_same}
use Rattle.zx_flow.proofs.sets.VertexSets.toggle_other.Goals as goal

abbrev lists_of : VertexSets → List VertexSet
lists_of s = s.lists

-- what was read at the number of u, and then at that of v
first : (lists : List VertexSet) (a u : ℕ) (x : VertexSet) → x ≡ get_or lists a x → a ≡ u → u < length lists → x ≡ get_or lists u no_set
first lists a u x is e lt = is ∙ ap (λ k. get_or lists k x) e ∙ get_or_default lists u x no_set lt

second : (lists : List VertexSet) (a u b v : ℕ) (none x : VertexSet) → x ≡ get_or (set lists a none) b x → a ≡ u → b ≡ v → v < length lists →
    x ≡ get_or (set lists u none) v no_set
second lists a u b v none x is e f lt =
    is ∙ ap₂ (λ k m. get_or (set lists k none) m x) e f
    ∙ get_or_default (set lists u none) v x no_set (let same = length-set lists u none in omega (arith, same, lt))

pub returns : goal.returns
returns c =
    let lists = c.self.inside.lists.items in
    let same = sym (ap lists_of c.self.view_is) in
    let v_there = subst (λ l. c.args.v < length l) same c.requires.v_there in
    let u_there = subst (λ l. c.args.u < length l) same c.requires.u_there in
    let was = c.replace-other.ensures.value ∙ first lists c.get.result c.args.u c.index_mut.result.now c.index_mut.ensures.value c.get.ensures u_there in
    let changed = second lists c.get.result c.args.u c.get-2.result c.args.v c.replace-other.new.dest c.index_mut-2.result.now
    c.index_mut-2.ensures.value c.get.ensures c.get-2.ensures v_there in
    let members = ap (λ (x : VertexSet). x.ids) (was ∙ ap (λ l. get_or l c.args.u no_set) (sym same)) in
    record {
      ok = rw (c.get.ensures, c.get-2.ensures, c.get-3.ensures, same)
          (on_ok_weaker c.toggle_within-done.result
          (λ toggled. back_toggled lists c.args.v c.args.u c.replace-other.new.dest c.toggle_within-done.new.set c.replace-other.result
          v_there u_there c.requires.apart was
          (λ w. toggled w ∙ ap (λ (x : VertexSet). xor (member w x.ids) (member w c.replace-other.result.ids)) changed))
          c.toggle_within-done.ensures.ok);
      err = rw (c.get.ensures, c.get-2.ensures, c.get-3.ensures, same)
          (on_err_weaker c.toggle_within-done.result
          (λ stays. back_same lists c.args.v c.args.u c.replace-other.new.dest c.toggle_within-done.new.set c.replace-other.result
          v_there u_there c.requires.apart was (stays ∙ ap (λ (x : VertexSet). x.ids) changed))
          c.toggle_within-done.ensures.err);
      length = search rules;
      reach = search rules;
      has_room = λ v_below below. c.toggle_within-done.ensures.has_room
          (subst (λ k. IsBelow k c.replace-other.result.ids) (sym (c.kept-kept.ensures.below v_below))
          (subst (IsBelow c.args.self.now.reach) (sym members) below));
    }
