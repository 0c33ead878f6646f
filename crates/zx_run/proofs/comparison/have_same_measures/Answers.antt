-- Each list of measurements is in the other.
use Rattle.std.proofs.Common.{◌≡◌, true, false, rules}
use Rattle.zx_run.proofs.ComparedLemmas.{same_measures, some_further, some_missing}
use Rattle.zx_run.proofs.comparison.have_same_measures.Goals as goal

pub returns-then-not-are_all_in-clause-differ : goal.returns-then-not-are_all_in-clause-differ
returns-then-not-are_all_in-clause-differ c = λ is.
    let missing : c.are_all_in.result ≡ false = search rules in
    some_missing c.args.one.now c.args.other.now c.as_slice-these.result.now c.as_slice-those.result.now
    c.as_slice-these.ensures c.as_slice-those.ensures (c.are_all_in.ensures.some missing)

pub returns-clause-same : goal.returns-clause-same
returns-clause-same c = λ is.
    let all : c.are_all_in.result ≡ true = search rules in
    same_measures c.args.one.now c.args.other.now c.as_slice-these.result.now c.as_slice-those.result.now
    c.as_slice-these.ensures c.as_slice-those.ensures c.if-one-other.false
    (c.are_all_in.ensures.all all) (c.are_all_in-2.ensures.all is)

pub returns-clause-differ : goal.returns-clause-differ
returns-clause-differ c = λ is.
    some_further c.args.one.now c.args.other.now c.as_slice-these.result.now c.as_slice-those.result.now
    c.as_slice-these.ensures c.as_slice-those.ensures (c.are_all_in-2.ensures.some is)
