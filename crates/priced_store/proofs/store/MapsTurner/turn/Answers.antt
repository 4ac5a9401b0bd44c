use Rattle.std.proofs.Common.{◌≡◌, ◌+◌, ◌≤◌, ◌∙◌, true, refl, subst, sym}
use Rattle.posix_defs.specs.Needs.{bound, slack}
use Rattle.posix_defs.specs.Plain.{call_of}
use Rattle.posix_defs.specs.Process.{is_alive}
use Rattle.posix_defs.specs.World.{World}
use Rattle.priced_store.specs.Worlds.{maps, world_in}
use Rattle.priced_store.proofs.MapsSteps.{gone_so, keeps_still, keeps_to_price, price_so, room_so, same_within, still_since, still_turn, turned_since, turned_so, turned_within}
use Rattle.priced_store.proofs.store.MapsTurner.turn.Goals as goal

pub returns-clause-turned : goal.returns-clause-turned
returns-clause-turned c = λ world is. (
  world_in c.after-self.result,
  refl,
  turned_so c.args.self.now.stage world is c.args.self.now.arena.heap c.args.pid c.args.call.now c.after-self.result c.told.result c.after-self.ensures c.told.ensures
      (sym (c.alive.ensures world is) ∙ c.if-not-alive.false)
      (subst (λ (w : World). is_alive w.plain.table c.args.pid ≡ true → c.args.call.now ≡ call_of (maps c.args.self.now.arena.heap) w.plain c.args.pid) (c.requires.may.1 ∙ sym is) c.requires.may.2),
)

pub returns-clause-beside : goal.returns-clause-beside
returns-clause-beside c = subst (λ n. c.mark-2.new.self.high ≤ c.args.self.now.arena.used + n) c.price.ensures.value
    (keeps_to_price c.args.self.now.arena.used c.args.self.now.arena.risen c.run.new.arena.risen _ c.price.result c.args.self.now.rests c.run.ensures.paid.risen c.mark-2.ensures.high)

pub returns-clause-since : goal.returns-clause-since
returns-clause-since c = λ world is.
    turned_since c.args.self.now.stage world is c.args.self.now.arena.used c.args.self.now.arena.risen c.run.new.arena.risen _ c.args.self.now.taken c.args.self.now.rests c.run.ensures.paid.rises c.mark-2.ensures.high

pub returns-clause-high : goal.returns-clause-high
returns-clause-high c = λ world is.
    turned_within c.args.self.now.stage world is c.args.self.now.arena.used c.args.self.now.arena.risen c.run.new.arena.risen _ c.price.result (bound c.args.call.now) (slack c.args.call.now)
    c.args.self.now.taken c.args.self.now.rests c.run.ensures.paid.risen c.mark-2.ensures.high c.price.ensures.within

pub run-requires-clause-room : goal.run-requires-clause-room
run-requires-clause-room c = room_so c.args.self.now.stage c.requires.may.0 c.requires.may.1 c.args.self.now.arena.used c.args.self.now.arena.heap c.price.result (bound c.args.call.now) c.args.self.now.taken c.price.ensures.within c.requires.may.3

pub run-requires-clause-price : goal.run-requires-clause-price
run-requires-clause-price c = same_within (price_so c.args.self.now.stage c.requires.may.0 c.requires.may.1 c.args.self.now.arena.heap c.args.pid c.args.call.now (sym (c.alive.ensures _ c.requires.may.1) ∙ c.if-not-alive.false) c.requires.may.2) c.price.ensures.value

pub returns-then-not-alive-clause-turned : goal.returns-then-not-alive-clause-turned
returns-then-not-alive-clause-turned c = λ world is. (
  world,
  is,
  gone_so c.args.self.now.stage world is c.args.self.now.arena.heap c.args.pid c.args.call.now (sym (c.alive.ensures world is) ∙ c.if-not-alive.true),
)

pub returns-then-not-alive-clause-beside : goal.returns-then-not-alive-clause-beside
returns-then-not-alive-clause-beside c = keeps_still c.args.self.now.arena.used c.args.self.now.arena.risen _ _ c.args.self.now.rests c.mark.ensures.high

pub returns-then-not-alive-clause-since : goal.returns-then-not-alive-clause-since
returns-then-not-alive-clause-since c = λ world is.
    still_since c.args.self.now.stage world is c.args.self.now.arena.used c.args.self.now.arena.risen _ c.args.self.now.taken c.args.self.now.rests c.mark.ensures.high

pub returns-then-not-alive-clause-high : goal.returns-then-not-alive-clause-high
returns-then-not-alive-clause-high c = λ world is.
    still_turn c.args.self.now.stage world is c.args.self.now.arena.used c.args.self.now.arena.risen _ (bound c.args.call.now) (slack c.args.call.now) c.args.self.now.taken c.args.self.now.rests c.mark.ensures.high
