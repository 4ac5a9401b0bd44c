use Rattle.std.proofs.Common.{◌≤◌, length, rules}
use Rattle.std.specs.Prelude.{nat_le}
use Rattle.kern_shared.proofs.Loops.{held_end, within_behind}
use Rattle.kern_shared.proofs.reliefs.lowest_within.Goals as goal

pub loop-other-preserved : goal.loop-other-preserved
loop-other-preserved c = λ need are.
    within_behind need c.args.most c.args.held.now _ _ _ _ _ c.loop-other-test.true are c.lower_within-found.ensures (c.loop-other.invariant need are)

pub returns : goal.returns
returns c = λ need are.
    let past : length c.args.held.now ≤ c.loop-other.other-index = search rules in
    held_end (λ pid. nat_le (need pid) c.args.most) c.args.held.now c.loop-other.other-index _ _ past (c.loop-other.invariant need are)
