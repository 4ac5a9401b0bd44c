use Rattle.std.proofs.Common.{◌≡◌, ◌+◌, ◌≤◌, ◌∷◌, ◌++◌, [], ap, sym, ◌∙◌, arith}
use Rattle.posix_defs.specs.Sizes.{reserve}
use Rattle.posix_defs.specs.World.{live_of}
use Rattle.kern_laws.proofs.LivingVictim.{victim_lives}
use Rattle.kern_shared.proofs.Relieved.{freed, full_beside, killed_is, killed_now, named_kill, none_lost, vain_here, victim_here}
use Rattle.kern_shared.proofs.Turned.{room_for_entry}
use Rattle.kern_shared.proofs.state.KernelState.kill.Goals as goal

pub overflow_sub-live : goal.overflow_sub-live
overflow_sub-live g c =
    let s = c.requires.may.2 in
    let victim = c.requires.victim s.world s.stands in
    let lives = victim_lives _ s.world.plain s.world.account c.args.pid victim in
    let after = c.kill.ensures.killed s.world s.stands lives.0 lives.1 in
    let less : live_of after.0 ≤ live_of s.world = after.2.live in
    let live = c.requires.live s.world s.stands in
    let now = c.live.ensures.bytes after.0 after.1 in
    omega (arith, less, live, now)

pub give_back-requires-clause-held : goal.give_back-requires-clause-held
give_back-requires-clause-held g c =
    let s = c.requires.may.2 in
    let live : c.args.live ≡ live_of s.world = c.requires.live s.world s.stands in
    let held : c.args.self.now.seat.known.holds ≡ live_of s.world + 2176 = s.holds in
    omega (arith, live, held)

pub sort_anew-requires-clause-awake : goal.sort_anew-requires-clause-awake
sort_anew-requires-clause-awake g c =
    let room = room_for_entry g.T.Turner.stands g.T.Turner.script g.T.Turner.beside _ _ _ _ _ c.requires.may.2 c.requires.may.4.below in
    omega (arith, room.1, c.args.self.now.awake.ok.0)

pub sort_anew-requires-clause-dozing : goal.sort_anew-requires-clause-dozing
sort_anew-requires-clause-dozing g c =
    let room = room_for_entry g.T.Turner.stands g.T.Turner.script g.T.Turner.beside _ _ _ _ _ c.requires.may.2 c.requires.may.4.below in
    omega (arith, room.2, c.args.self.now.dozing.ok.0)

pub push_reserved-requires : goal.push_reserved-requires
push_reserved-requires g c =
    let room = room_for_entry g.T.Turner.stands g.T.Turner.script g.T.Turner.beside _ _ _ _ _ c.requires.may.2 c.requires.may.4.below in
    omega (arith, room.0, c.args.self.now.history.ok.0)

pub returns-clause-stands : goal.returns-clause-stands
returns-clause-stands g c = λ items past s shared vain.
    let may = vain_here g.T.Turner.stands g.T.Turner.script g.T.Turner.beside _ _ _ _ items s past shared c.args.waiter c.args.need c.args.live vain in
    let victim = c.requires.victim s.world s.stands in
    let lives = victim_lives _ s.world.plain s.world.account c.args.pid victim in
    let after = c.kill.ensures.killed s.world s.stands lives.0 lives.1 in
    let live = c.requires.live s.world s.stands in
    let now : c.live.result ≡ live_of after.0 = c.live.ensures.bytes after.0 after.1 in
    let less : live_of after.0 ≤ live_of s.world = after.2.live in
    let killed = killed_is g.T.Turner.stands g.T.Turner.script g.T.Turner.beside _ _ _ _ items s c.args.pid c.args.waiter c.args.need c.args.live live may in
    named_kill g.T.Turner.stands g.T.Turner.script g.T.Turner.beside _ _ _ _ items s _ c.args.pid c.args.waiter c.args.need c.args.live live may
    (killed_now g.T.Turner.stands g.T.Turner.script g.T.Turner.beside _ _ _ _ items s c.kill.new.self c.give_back.new.seat after.0 c.args.pid c.args.waiter c.last_pid-before.result
    c.push_reserved.new.self.items c.sort_anew.new.awake.items c.sort_anew.new.dozing.items _ _ _ may.below may.waits.0.given may.waits.1 may.waits.0.fits_ever
    (full_beside g.T.Turner.stands g.T.Turner.script g.T.Turner.beside _ _ _ _ items s c.args.waiter c.args.need c.args.live live may) (none_lost s.world (c.requires.bare s.world s.stands))
    (victim_here g.T.Turner.stands g.T.Turner.script g.T.Turner.beside _ _ _ _ items s c.args.pid victim) (c.kill.ensures.script ∙ s.named) after.1 after.2
    (ap (λ seat. seat.charge) c.give_back.ensures.seat ∙ s.of_charge)
    (ap (λ seat. seat.known.is_boot) c.give_back.ensures.seat ∙ s.boot)
    (ap (λ seat. seat.known.holds) c.give_back.ensures.seat
    ∙ freed c.args.self.now.seat.known.holds c.args.live c.live.result (s.holds ∙ ap (λ n. n + reserve) (sym live)) (omega (arith, less, live, now))
    ∙ ap (λ n. n + reserve) now)
    (c.last_pid-before.ensures s.world s.stands)
    (c.push_reserved.ensures.items ∙ ap (λ e. c.args.self.now.history.items ++ e ∷ []) killed)
    (c.sort_anew.ensures.awake after.0 after.1) (c.sort_anew.ensures.dozing after.0 after.1)
    c.push_reserved.ensures.capacity c.sort_anew.ensures.awake_room c.sort_anew.ensures.dozing_room)
