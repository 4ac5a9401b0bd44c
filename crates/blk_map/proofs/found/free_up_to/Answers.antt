use Rattle.std.proofs.Common.{◌≡◌, ◌<◌, ap, arith}
use Rattle.blk_map.specs.Found.{free_below}
use Rattle.blk_map.proofs.Finding.{free_to, free_one, free_grow}
use Rattle.blk_map.proofs.found.free_up_to.Goals as goal

pub returns-then-free-blocks : goal.returns-then-free-blocks
returns-then-free-blocks c =
    let none = free_to c.args.map.now c.loop-count.number c.next_free-free.result c.next_free-free.ensures.within.0 c.next_free-free.ensures.passed in
    let all : free_below c.args.map.now c.next_free-free.result ≡ free_below c.args.map.now c.args.blocks = ap (free_below c.args.map.now) c.if-free-blocks.true in
    omega (arith, none, all, c.loop-count.invariant.counted, c.loop-count-test.true)

pub loop-count-preserved : goal.loop-count-preserved
loop-count-preserved c =
    let lt : c.next_free-free.result < c.args.blocks = omega (arith, c.next_free-free.ensures.within.1, c.if-free-blocks.false) in
    let none = free_to c.args.map.now c.loop-count.number c.next_free-free.result c.next_free-free.ensures.within.0 c.next_free-free.ensures.passed in
    let one = free_one c.args.map.now c.next_free-free.result (c.next_free-free.ensures.free lt) in
    record {
      within = omega (arith, c.loop-count-test.true);
      below = omega (arith, lt);
      counted = omega (arith, none, one, c.loop-count.invariant.counted);
    }

pub returns : goal.returns
returns c =
    omega (arith, c.loop-count.invariant.counted, c.loop-count.invariant.within, c.loop-count-test.false, free_grow c.args.map.now c.loop-count.number c.args.blocks c.loop-count.invariant.below)
