use Rattle.std.proofs.Common.{◌≡◌, ◌≤◌, ◌+◌, sym, subst}
use Rattle.posix_defs.specs.Needs.{bound, slack}
use Rattle.posix_defs.specs.Sizes.{reserve}
use Rattle.posix_defs.specs.Turn.{TurnsTo}
use Rattle.posix_defs.specs.World.{World, live_of}
use Rattle.kern_events.proofs.cores.events.turn_next.Goals as goal

pub next-call-requires : goal.next-call-requires
next-call-requires g c = let some = c.requires in (some.0, some.1, some.2)

pub turn-requires-clause-may : goal.turn-requires-clause-may
turn-requires-clause-may g c =
    let some = c.requires in
    let same = c.next-call.ensures some.0 some.1 some.2 in (
      some.0,
      some.1,
      (λ alive. same),
      subst (λ call. live_of some.0 + bound call + reserve ≤ (g.T.Turner.script c.args.store.now).heap) (sym same) some.3,
    )

pub returns-clause-turned : goal.returns-clause-turned
returns-clause-turned g c = λ world stands alive.
    subst (λ call. (after : World) × g.T.Turner.stands c.turn.new.self after × TurnsTo (g.T.Turner.script c.args.store.now) world c.args.pid call c.turn.result after)
    (c.next-call.ensures world stands alive) (c.turn.ensures.turned world stands)

pub returns-clause-high : goal.returns-clause-high
returns-clause-high g c = λ world stands alive.
    subst (λ call. g.T.Turner.high c.turn.new.self ≤ live_of world + bound call + slack call) (c.next-call.ensures world stands alive) (c.turn.ensures.high world stands)
