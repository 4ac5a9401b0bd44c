use Rattle.std.proofs.Common.{◌≡◌, ◌+◌, ◌≤◌, subst, arith}
use Rattle.posix_defs.specs.World.{live_of}
use Rattle.charge_words.specs.Names.{ChargeWord}
use Rattle.kern_shared.proofs.Ending.{closed}
use Rattle.kern_shared.proofs.state.KernelState.close.Goals as goal

pub overflow_add-charged : goal.overflow_add-charged
overflow_add-charged g c =
    let s = c.requires.stands.1 in
    let holds : c.args.self.seat.known.holds ≡ live_of s.world + 2176 = s.holds in
    let live = c.live-charged.ensures.bytes s.world s.stands in
    let room = c.give_back.ensures.room.1 in
    omega (arith, holds, live, room)

pub returns : goal.returns
returns g c = λ items past s shared.
    closed g.T.Turner.stands g.T.Turner.script g.T.Turner.beside _ _ _ _ items s past shared _ _ c.live-charged.result c.from_vec.ensures (c.end-end.ensures items s.past s s.shared) (c.live-charged.ensures.bytes s.world s.stands)
    (subst (λ (w : ChargeWord). c.args.self.seat.known.holds ≤ w.heap) c.requires.word c.give_back.ensures.room.0)
