use Rattle.std.proofs.Common.{◌≡◌, ◌+◌, ◌≤◌, ◌∷◌, ◌++◌, [], refl, ap, sym, ◌∙◌, subst, arith}
use Rattle.kabi_types.specs.declared.scripts.Script.{Script}
use Rattle.posix_defs.specs.CoreEvent.{entry_of}
use Rattle.posix_defs.specs.Needs.{bound}
use Rattle.posix_defs.specs.Sizes.{reserve}
use Rattle.posix_defs.specs.Turn.{TurnsTo}
use Rattle.posix_defs.specs.World.{live_of}
use Rattle.kern_shared.specs.Lists.{awake_after, dozing_after}
use Rattle.kern_shared.proofs.Picking.{lives_in_world}
use Rattle.kern_shared.specs.Attends.{TellsSpent}
use Rattle.kern_shared.proofs.Turned.{call_there, left_over, most_live, paid, room_for_entry, tells_step, turn_here, turned_now}
use Rattle.kern_shared.proofs.state.KernelState.turn_live.Goals as goal

pub overflow_add-all : goal.overflow_add-all
overflow_add-all g c =
    let s = c.requires.may.2 in
    let live : c.live.result ≡ live_of s.world = c.live.ensures.bytes s.world s.stands in
    let held : c.args.self.now.seat.known.holds ≡ live_of s.world + 2176 = s.holds in
    omega (arith, live, held, c.bound.ensures.value, c.take_over.ensures.into, c.take_over.ensures.within, c.requires.own.1)

pub turn-turned-requires-clause-may : goal.turn-turned-requires-clause-may
turn-turned-requires-clause-may g c =
    let s = c.requires.may.2 in
    let may = turn_here g.T.Turner.stands g.T.Turner.script g.T.Turner.beside _ _ _ _ _ s c.requires.may.1 c.requires.may.3 c.args.pid c.args.call.now c.requires.may.4 in
    let enough = paid g.T.Turner.stands g.T.Turner.script g.T.Turner.beside _ _ _ _ _ s (live_of s.world) (bound c.args.call.now) c.take_over.new.into.known.holds c.args.word.now.heap refl
    (c.take_over.ensures.into ∙ ap (λ n. c.args.self.now.seat.known.holds + n) c.requires.own.1)
    (subst (λ n. c.args.self.now.seat.known.holds + n ≤ c.args.word.now.heap) c.requires.own.1 c.take_over.ensures.room) (ap (λ w. w.heap) c.requires.word) in (
      s.world,
      s.stands,
      (λ _. call_there g.T.Turner.stands g.T.Turner.script g.T.Turner.beside _ _ _ _ _ s c.args.pid c.args.call.now may.is_call),
      subst (λ (sc : Script). live_of s.world + bound c.args.call.now + reserve ≤ sc.heap) (sym s.named) enough.1,
    )

pub overflow_sub-all : goal.overflow_sub-all
overflow_sub-all g c =
    let s = c.requires.may.2 in
    let may = turn_here g.T.Turner.stands g.T.Turner.script g.T.Turner.beside _ _ _ _ _ s c.requires.may.1 c.requires.may.3 c.args.pid c.args.call.now c.requires.may.4 in
    let after = c.turn-turned.ensures.turned s.world s.stands in
    let turns = subst (λ sc. TurnsTo sc s.world c.args.pid c.args.call.now c.turn-turned.result after.0) s.named after.2 in
    let live : c.live-2.result ≡ live_of after.0 = c.live-2.ensures.bytes after.0 after.1 in
    let before : c.live.result ≡ live_of s.world = c.live.ensures.bytes s.world s.stands in
    let less = most_live g.L.RunName.script s.world c.args.pid c.args.call.now c.turn-turned.result after.0 (lives_in_world g.T.Turner.stands g.T.Turner.script g.T.Turner.beside _ _ _ _ _ s c.args.pid may.alive) turns in
    omega (arith, less, before, live, c.bound.ensures.value)

pub sort_anew-requires-clause-awake : goal.sort_anew-requires-clause-awake
sort_anew-requires-clause-awake g c =
    let room = room_for_entry g.T.Turner.stands g.T.Turner.script g.T.Turner.beside _ _ _ _ _ c.requires.may.2 c.requires.may.4.below in
    omega (arith, room.1, c.args.self.now.awake.ok.0)

pub sort_anew-requires-clause-dozing : goal.sort_anew-requires-clause-dozing
sort_anew-requires-clause-dozing g c =
    let room = room_for_entry g.T.Turner.stands g.T.Turner.script g.T.Turner.beside _ _ _ _ _ c.requires.may.2 c.requires.may.4.below in
    omega (arith, room.2, c.args.self.now.dozing.ok.0)

pub returns-clause-tells : goal.returns-clause-tells
returns-clause-tells g c = λ items below. subst (TellsSpent g.L.RunName.steps items) (sym c.told_of-answer.ensures) (tells_step g.L.RunName.steps items c.turn-turned.result below)

pub returns-clause-takes_in : goal.returns-clause-takes_in
returns-clause-takes_in g c =
    let gave = c.give_back.ensures.seat in
    record {
      reserves = ap (λ seat. seat.known.reserves) gave ∙ c.take_over.ensures.takes_in.reserves;
      raised = ap (λ seat. seat.known.raised) gave ∙ c.take_over.ensures.takes_in.raised;
    }

pub returns-clause-stands : goal.returns-clause-stands
returns-clause-stands g c = λ items past s shared may_there.
    let may = turn_here g.T.Turner.stands g.T.Turner.script g.T.Turner.beside _ _ _ _ items s past shared c.args.pid c.args.call.now may_there in
    let enough = paid g.T.Turner.stands g.T.Turner.script g.T.Turner.beside _ _ _ _ items s c.live.result (bound c.args.call.now) c.take_over.new.into.known.holds c.args.word.now.heap (c.live.ensures.bytes s.world s.stands)
    (c.take_over.ensures.into ∙ ap (λ n. c.args.self.now.seat.known.holds + n) c.requires.own.1)
    (subst (λ n. c.args.self.now.seat.known.holds + n ≤ c.args.word.now.heap) c.requires.own.1 c.take_over.ensures.room) (ap (λ w. w.heap) c.requires.word) in
    let after = c.turn-turned.ensures.turned s.world s.stands in
    let turns = subst (λ sc. TurnsTo sc s.world c.args.pid c.args.call.now c.turn-turned.result after.0) s.named after.2 in
    let live : c.live-2.result ≡ live_of after.0 = c.live-2.ensures.bytes after.0 after.1 in
    let most : c.live-2.result ≤ c.live.result + bound c.args.call.now =
    (let less = most_live g.L.RunName.script s.world c.args.pid c.args.call.now c.turn-turned.result after.0 (lives_in_world g.T.Turner.stands g.T.Turner.script g.T.Turner.beside _ _ _ _ items s c.args.pid may.alive) turns in
    let before = c.live.ensures.bytes s.world s.stands in omega (arith, less, before, live)) in
    turned_now g.T.Turner.stands g.T.Turner.script g.T.Turner.beside _ _ _ _ items s c.args.pid c.turn-turned.result c.turn-turned.new.self c.give_back.new.seat after.0 c.last_pid-before.result
    c.note.new.history.items c.note.new.held.items c.sort_anew.new.awake.items c.sort_anew.new.dozing.items _ _ _ _ c.args.call.now c.told_of-answer.result c.told_of-answer.ensures may enough.2
    (c.turn-turned.ensures.script ∙ s.named) after.1 turns c.turn-turned.ensures.beside
    (ap (λ seat. seat.charge) c.give_back.ensures.seat ∙ c.take_over.ensures.charge.1 ∙ c.requires.word)
    (ap (λ seat. seat.known.is_boot) c.give_back.ensures.seat ∙ c.take_over.ensures.boot)
    (ap (λ seat. seat.known.holds) c.give_back.ensures.seat
    ∙ left_over c.take_over.new.into.known.holds (c.live.result + c.bound.result) c.live.result (bound c.args.call.now) c.live-2.result enough.0
    (ap (λ n. c.live.result + n) c.bound.ensures.value) most
    ∙ ap (λ n. n + reserve) live)
    (c.last_pid-before.ensures s.world s.stands)
    (c.sort_anew.ensures.awake after.0 after.1 ∙ ap (λ b. awake_after after.0.plain c.args.pid b c.last_pid-before.result c.args.self.now.awake.items) c.sleeps.ensures)
    (c.sort_anew.ensures.dozing after.0 after.1 ∙ ap (λ b. dozing_after after.0.plain c.args.pid b c.args.self.now.dozing.items) c.sleeps.ensures)
    (c.note.ensures.history ∙ ap (λ e. c.args.self.now.history.items ++ e ∷ []) (c.entry_of.ensures ∙ ap (λ k. entry_of c.args.pid k c.turn-turned.result) c.kind.ensures))
    c.note.ensures.held c.note.ensures.room.0 c.note.ensures.room.1 c.sort_anew.ensures.awake_room c.sort_anew.ensures.dozing_room
