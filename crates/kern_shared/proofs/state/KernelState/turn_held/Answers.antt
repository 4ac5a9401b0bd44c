use Rattle.std.proofs.Common.{◌<◌, true, false, sym, ◌∙◌, subst, arith, vec_len, vec_capacity}
use Rattle.kern_shared.proofs.Picking.{alive_is, below_noted}
use Rattle.charge_words.specs.Names.{SeatState}
use Rattle.kern_shared.specs.Attends.{TakesIn}
use Rattle.kern_shared.proofs.Turned.{give_up_may, refuse_may, reserved_is, reserved_none, room_for_entry, same_kind, takes_nothing, turn_may, unused_unfit}
use Rattle.kern_shared.proofs.state.KernelState.turn_held.Goals as goal

pub returns-then-is_spent-clause-stands : goal.returns-then-is_spent-clause-stands
returns-then-is_spent-clause-stands g c = λ items s has. c.release_held.ensures.stands items (c.hand_back.ensures.stands items s) has.given

pub returns-then-is_spent-clause-takes_in : goal.returns-then-is_spent-clause-takes_in
returns-then-is_spent-clause-takes_in g c =
    subst (λ (seat : SeatState). TakesIn c.args.self.now.seat.known seat.known c.args.own.now.known) (sym c.release_held.ensures.seat) c.hand_back.ensures.takes_in

pub returns-then-not-alive-clause-takes_in : goal.returns-then-not-alive-clause-takes_in
returns-then-not-alive-clause-takes_in g c =
    subst (λ (seat : SeatState). TakesIn c.args.self.now.seat.known seat.known c.args.own.now.known) (sym c.give_up.ensures.seat) c.hand_back-then-not-alive.ensures.takes_in

pub returns-then-not-fits_ever-clause-own : goal.returns-then-not-fits_ever-clause-own
returns-then-not-fits_ever-clause-own g c =
    let s = c.requires.held.1 in (
      c.requires.own.0,
      c.requires.own.1 ∙ reserved_none g.L.RunName.script c.args.call.now _ _ c.bound.ensures.value (c.fits_ever.ensures c.requires.held.0 s) c.if-not-fits_ever.true,
      unused_unfit g.L.RunName.script c.args.call.now c.args.own.now.known _ _ c.bound.ensures.value (c.fits_ever.ensures c.requires.held.0 s) c.if-not-fits_ever.true c.requires.reserved,
    )

pub returns-then-not-fits_ever-clause-takes_in : goal.returns-then-not-fits_ever-clause-takes_in
returns-then-not-fits_ever-clause-takes_in g c =
    let s = c.requires.held.1 in
    subst (λ (seat : SeatState). TakesIn c.args.self.now.seat.known seat.known c.args.own.now.known) (sym c.refuse_held.ensures.seat)
    (takes_nothing c.args.self.now.seat.known c.args.own.now.known
    (unused_unfit g.L.RunName.script c.args.call.now c.args.own.now.known _ _ c.bound.ensures.value (c.fits_ever.ensures c.requires.held.0 s) c.if-not-fits_ever.true c.requires.reserved))

pub give_up-requires : goal.give_up-requires
give_up-requires g c =
    let s = c.requires.held.1 in
    let room = room_for_entry g.T.Turner.stands g.T.Turner.script g.T.Turner.beside _ _ _ _ _ s (below_noted g.T.Turner.stands g.T.Turner.script g.T.Turner.beside _ _ _ _ _ s (sym c.is_spent.ensures ∙ c.if-is_spent.false)) in
    let before : vec_len c.args.self.now.history < vec_capacity c.args.self.now.history = omega (arith, room.0, c.args.self.now.history.ok.0) in
    subst (λ h. vec_len h < vec_capacity h) (sym c.hand_back-then-not-alive.ensures.history) before

pub returns-then-not-alive-clause-stands : goal.returns-then-not-alive-clause-stands
returns-then-not-alive-clause-stands g c = λ items s has.
    same_kind g.T.Turner.stands g.T.Turner.script g.T.Turner.beside _ _ _ _ items c.args.pid c.kind.result _ c.kind.ensures
    (c.give_up.ensures.stands items s.past (c.hand_back-then-not-alive.ensures.stands items s) s.shared (give_up_may g.T.Turner.stands g.T.Turner.script g.T.Turner.beside _ _ _ _ items s c.args.pid c.args.call.now c.kind.result has (alive_is g.T.Turner.stands g.T.Turner.script g.T.Turner.beside _ _ _ _ items s c.args.pid c.alive.result false (c.alive.ensures s.world s.stands) c.if-not-alive.true) c.kind.ensures (below_noted g.T.Turner.stands g.T.Turner.script g.T.Turner.beside _ _ _ _ items s (sym c.is_spent.ensures ∙ c.if-is_spent.false))))

pub returns-then-not-alive-clause-tells : goal.returns-then-not-alive-clause-tells
returns-then-not-alive-clause-tells g c = λ items s. (below_noted g.T.Turner.stands g.T.Turner.script g.T.Turner.beside _ _ _ _ items s (sym c.is_spent.ensures ∙ c.if-is_spent.false))

pub refuse_held-requires : goal.refuse_held-requires
refuse_held-requires g c =
    let s = c.requires.held.1 in
    record {
      may = (
        c.requires.held.0,
        s.past,
        s,
        s.shared,
        refuse_may g.T.Turner.stands g.T.Turner.script g.T.Turner.beside _ _ _ _ _ s c.args.pid c.args.call.now c.bound.result c.fits_ever.result c.requires.held.2 (alive_is g.T.Turner.stands g.T.Turner.script g.T.Turner.beside _ _ _ _ _ s c.args.pid c.alive.result true (c.alive.ensures s.world s.stands) c.if-not-alive.false) c.bound.ensures.value
            (c.fits_ever.ensures c.requires.held.0 s) c.if-not-fits_ever.true (below_noted g.T.Turner.stands g.T.Turner.script g.T.Turner.beside _ _ _ _ _ s (sym c.is_spent.ensures ∙ c.if-is_spent.false)),
      );
    }

pub returns-then-not-fits_ever-clause-stands : goal.returns-then-not-fits_ever-clause-stands
returns-then-not-fits_ever-clause-stands g c = λ items s has.
    c.refuse_held.ensures.stands items s.past s s.shared
    (refuse_may g.T.Turner.stands g.T.Turner.script g.T.Turner.beside _ _ _ _ items s c.args.pid c.args.call.now c.bound.result c.fits_ever.result has (alive_is g.T.Turner.stands g.T.Turner.script g.T.Turner.beside _ _ _ _ items s c.args.pid c.alive.result true (c.alive.ensures s.world s.stands) c.if-not-alive.false) c.bound.ensures.value (c.fits_ever.ensures items s) c.if-not-fits_ever.true (below_noted g.T.Turner.stands g.T.Turner.script g.T.Turner.beside _ _ _ _ items s (sym c.is_spent.ensures ∙ c.if-is_spent.false)))

pub returns-then-not-fits_ever-clause-tells : goal.returns-then-not-fits_ever-clause-tells
returns-then-not-fits_ever-clause-tells g c = λ items s. (below_noted g.T.Turner.stands g.T.Turner.script g.T.Turner.beside _ _ _ _ items s (sym c.is_spent.ensures ∙ c.if-is_spent.false))

pub turn_live-requires-clause-may : goal.turn_live-requires-clause-may
turn_live-requires-clause-may g c =
    let s = c.requires.held.1 in (
      c.requires.held.0,
      s.past,
      s,
      s.shared,
      turn_may g.T.Turner.stands g.T.Turner.script g.T.Turner.beside _ _ _ _ _ s c.args.pid c.args.call.now c.bound.result c.fits_ever.result c.requires.held.2 (alive_is g.T.Turner.stands g.T.Turner.script g.T.Turner.beside _ _ _ _ _ s c.args.pid c.alive.result true (c.alive.ensures s.world s.stands) c.if-not-alive.false) c.bound.ensures.value
          (c.fits_ever.ensures c.requires.held.0 s) c.if-not-fits_ever.false (below_noted g.T.Turner.stands g.T.Turner.script g.T.Turner.beside _ _ _ _ _ s (sym c.is_spent.ensures ∙ c.if-is_spent.false)),
    )

pub turn_live-requires-clause-own : goal.turn_live-requires-clause-own
turn_live-requires-clause-own g c =
    let s = c.requires.held.1 in (
      c.requires.own.0,
      c.requires.own.1
          ∙ reserved_is g.L.RunName.script c.args.call.now c.bound.result c.fits_ever.result c.bound.ensures.value (c.fits_ever.ensures c.requires.held.0 s) c.if-not-fits_ever.false
          ∙ c.bound.ensures.value,
    )

pub returns-clause-stands : goal.returns-clause-stands
returns-clause-stands g c = λ items s has.
    c.turn_live.ensures.stands items s.past s s.shared
    (turn_may g.T.Turner.stands g.T.Turner.script g.T.Turner.beside _ _ _ _ items s c.args.pid c.args.call.now c.bound.result c.fits_ever.result has (alive_is g.T.Turner.stands g.T.Turner.script g.T.Turner.beside _ _ _ _ items s c.args.pid c.alive.result true (c.alive.ensures s.world s.stands) c.if-not-alive.false) c.bound.ensures.value (c.fits_ever.ensures items s) c.if-not-fits_ever.false (below_noted g.T.Turner.stands g.T.Turner.script g.T.Turner.beside _ _ _ _ items s (sym c.is_spent.ensures ∙ c.if-is_spent.false)))

pub returns-clause-tells : goal.returns-clause-tells
returns-clause-tells g c = λ items s. c.turn_live.ensures.tells items (below_noted g.T.Turner.stands g.T.Turner.script g.T.Turner.beside _ _ _ _ items s (sym c.is_spent.ensures ∙ c.if-is_spent.false))
