use Rattle.std.proofs.Common.{◌≡◌, ◌≢◌, ◌<◌, ◌^◌, bit_and, w64, arith}
use Rattle.std.specs.Int.{trailing_zeros}
use Rattle.wait_graph.proofs.Bits.{cleared, lowest_shared}
use Rattle.wait_graph.proofs.Walks.{IsFollowed-all, IsFollowed-first, IsFollowed-next}
use Rattle.wait_graph.proofs.circles.reached_from.Goals as goal

pub follow-init : goal.follow-init
follow-init c = IsFollowed-first c.args.edges.now c.args.from

pub follow-smaller : goal.follow-smaller
follow-smaller c =
    let fits : c.follow.reached < 2 ^ 64 = omega arith in
    let some : bit_and c.follow.reached c.follow.fresh ≢ 0 = omega arith in
    let next = lowest_shared c.follow.reached c.follow.fresh fits some in
    (cleared c.follow.fresh (trailing_zeros w64 (bit_and c.follow.reached c.follow.fresh)) next.0 next.2).0

pub follow-preserved : goal.follow-preserved
follow-preserved c =
    let fits : c.follow.reached < 2 ^ 64 = omega arith in
    let some : bit_and c.follow.reached c.follow.fresh ≢ 0 = omega arith in
    let next = lowest_shared c.follow.reached c.follow.fresh fits some in
    IsFollowed-next c.args.edges.now c.args.from c.follow.reached c.follow.fresh
    (trailing_zeros w64 (bit_and c.follow.reached c.follow.fresh)) next.0 next.1 next.2 c.follow.invariant

pub returns : goal.returns
returns c =
    let fits : c.follow.reached < 2 ^ 64 = omega arith in
    let none : bit_and c.follow.reached c.follow.fresh ≡ 0 = omega arith in
    IsFollowed-all c.args.edges.now c.args.from c.follow.reached c.follow.fresh fits none c.follow.invariant
