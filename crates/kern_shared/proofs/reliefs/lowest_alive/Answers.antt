use Rattle.std.proofs.Common.{◌≤◌, ◌&&◌, length, rules}
use Rattle.std.specs.Prelude.{nat_le}
use Rattle.posix_defs.specs.Process.{is_alive}
use Rattle.kern_shared.proofs.Loops.{alive_behind, held_end}
use Rattle.kern_shared.proofs.reliefs.lowest_alive.Goals as goal

pub loop-other-preserved : goal.loop-other-preserved
loop-other-preserved g c = λ world need stands are.
    alive_behind world.plain need c.args.most c.args.held.now _ _ _ _ _ c.loop-other-test.true are (c.lower_alive-found.ensures world stands)
    (c.loop-other.invariant world need stands are)

pub returns : goal.returns
returns g c = λ world need stands are.
    let past : length c.args.held.now ≤ c.loop-other.other-index = search rules in
    held_end (λ pid. nat_le (need pid) c.args.most && is_alive world.plain.table pid) c.args.held.now c.loop-other.other-index _ _ past (c.loop-other.invariant world need stands are)
