use Rattle.std.proofs.Common.{◌≡◌, ◌+◌, ◌<◌, ap, sym, ◌∙◌, arith}
use Rattle.posix_defs.specs.Sizes.{reserve}
use Rattle.posix_defs.specs.World.{live_of}
use Rattle.kern_laws.proofs.Caches.{less_live}
use Rattle.kern_shared.proofs.Relieved.{can_lose, cleared_now, freed, named_clear, nothing_before, vain_here}
use Rattle.kern_shared.proofs.Turned.{room_for_entry}
use Rattle.kern_shared.proofs.state.KernelState.clear.Goals as goal

pub overflow_sub-live : goal.overflow_sub-live
overflow_sub-live g c =
    let s = c.requires.may.4 in
    let after = c.evict.ensures.evicted s.world s.stands (can_lose s.world c.args.what (c.requires.first s.world s.stands)) in
    let less : live_of after.0 < live_of s.world = less_live s.world c.args.what after.0 after.2 in
    let live = c.requires.live s.world s.stands in
    let now = c.live.ensures.bytes after.0 after.1 in
    omega (arith, less, live, now)

pub give_back-requires-clause-held : goal.give_back-requires-clause-held
give_back-requires-clause-held g c =
    let s = c.requires.may.4 in
    let live : c.args.live ≡ live_of s.world = c.requires.live s.world s.stands in
    let held : c.args.self.now.seat.known.holds ≡ live_of s.world + 2176 = s.holds in
    omega (arith, live, held)

pub push_reserved-requires : goal.push_reserved-requires
push_reserved-requires g c =
    let room = room_for_entry g.T.Turner.stands g.T.Turner.script g.T.Turner.beside _ _ _ _ _ c.requires.may.4 c.requires.may.6.below in
    omega (arith, room.0, c.args.self.now.history.ok.0)

pub returns-clause-stands : goal.returns-clause-stands
returns-clause-stands g c = λ items past waiter need s shared vain.
    let may = vain_here g.T.Turner.stands g.T.Turner.script g.T.Turner.beside _ _ _ _ items s past shared waiter need c.args.live vain in
    let can = can_lose s.world c.args.what (c.requires.first s.world s.stands) in
    let after = c.evict.ensures.evicted s.world s.stands can in
    let live = c.requires.live s.world s.stands in
    let now : c.live.result ≡ live_of after.0 = c.live.ensures.bytes after.0 after.1 in
    let less : live_of after.0 < live_of s.world = less_live s.world c.args.what after.0 after.2 in
    named_clear g.T.Turner.stands g.T.Turner.script g.T.Turner.beside _ _ _ _ items s _ c.args.what c.args.live live
    (cleared_now g.T.Turner.stands g.T.Turner.script g.T.Turner.beside _ _ _ _ items s c.evict.new.self c.give_back.new.seat after.0 c.args.what c.push_reserved.new.self.items _ may.below
    (waiter, may.waits.0.given, may.waits.1) (nothing_before s.world c.args.what (c.requires.first s.world s.stands)) can (c.evict.ensures.script ∙ s.named) after.1 after.2
    (ap (λ seat. seat.charge) c.give_back.ensures.seat ∙ s.of_charge)
    (ap (λ seat. seat.known.is_boot) c.give_back.ensures.seat ∙ s.boot)
    (ap (λ seat. seat.known.holds) c.give_back.ensures.seat
    ∙ freed c.args.self.now.seat.known.holds c.args.live c.live.result (s.holds ∙ ap (λ n. n + reserve) (sym live)) (omega (arith, less, live, now))
    ∙ ap (λ n. n + reserve) now)
    c.push_reserved.ensures.items c.push_reserved.ensures.capacity)
