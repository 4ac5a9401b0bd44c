use Rattle.std.proofs.Common.{◌≡◌, not, true, false, sym, ◌∙◌}
use Rattle.kern_shared.proofs.Loops.{alive_at, all_behind, not_all_here}
use Rattle.kern_shared.proofs.lists.all_block.Goals as goal

pub returns-then-ready : goal.returns-then-ready
returns-then-ready g c = λ world stands alive.
    let ready = c.ready.ensures world stands (alive_at world.plain c.args.pids.now _ _ c.loop-pid-test.true alive) in
    not_all_here _ c.args.pids.now _ _ _ c.loop-pid-test.true (not_so _ (sym ready ∙ c.if-ready.true)) (c.loop-pid.invariant world stands alive)
  where
    not_so : (b : _) → not b ≡ true → b ≡ false
    not_so true h = cc
    not_so false h = cc

pub loop-pid-preserved : goal.loop-pid-preserved
loop-pid-preserved g c = λ world stands alive.
    let ready = c.ready.ensures world stands (alive_at world.plain c.args.pids.now _ _ c.loop-pid-test.true alive) in
    all_behind _ c.args.pids.now _ _ _ c.loop-pid-test.true (is_so _ (sym ready ∙ c.if-ready.false)) (c.loop-pid.invariant world stands alive)
  where
    is_so : (b : _) → not b ≡ false → b ≡ true
    is_so true h = cc
    is_so false h = cc
