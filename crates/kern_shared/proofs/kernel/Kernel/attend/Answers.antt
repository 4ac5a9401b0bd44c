use Rattle.std.proofs.Common.{ℕ, cond, ap, ◌∙◌}
use Rattle.std.specs.Prelude.{nat_le}
use Rattle.posix_defs.specs.Sizes.{room}
use Rattle.turn_words.specs.Items.{heard}
use Rattle.kern_shared.specs.Attends.{told_item}
use Rattle.kern_shared.proofs.Passing.{attends_by, gives_as, has_at_take, has_reserved, holds_told, just_one, none_behind, of_turn, passes, rests, returns_as, shares_as, told_may_give, told_may_return, told_shares}
use Rattle.kern_shared.proofs.kernel.Kernel.attend.Goals as goal

pub turn_held-answer-requires-clause-held : goal.turn_held-answer-requires-clause-held
turn_held-answer-requires-clause-held g c =
    ((heard c.begin-state.new.seat.known.seen), c.begin-state.ensures.value, has_at_take _ _ _ _ c.begin-state.ensures g.L.RunName.script g.L.RunName.steps g.L.RunName.charge _ _ c.args.pass.now.given c.args.pid c.args.call.now c.requires.pass c.requires.given c.requires.holds)

pub turn_held-answer-requires-clause-own : goal.turn_held-answer-requires-clause-own
turn_held-answer-requires-clause-own g c = (
  c.reserve_for.ensures.charge,
  c.reserve_for.ensures.reserved c.in_default.is ∙ ap (λ (n : ℕ). cond (nat_le n (room g.L.RunName.script.heap)) n 0) c.bound-need.ensures.value,
)

pub turn_held-answer-requires-clause-reserved : goal.turn_held-answer-requires-clause-reserved
turn_held-answer-requires-clause-reserved g c =
    has_reserved g.L.RunName.script c.args.call.now c.args.pass.now.own.known c.reserve_for.new.own.known c.bound-need.result c.bound-need.ensures.value c.requires.pass.unused (c.reserve_for.ensures.once c.in_default.is)

pub end-requires-clause-stands : goal.end-requires-clause-stands
end-requires-clause-stands g c =
    shares_as _ _ _ _ _ _ _ _ (told_item c.args.pid c.args.call.now c.turn_held-answer.result) c.item_of_answer.ensures
    (told_shares _ _ _ _ _ _ (heard c.begin-state.new.seat.known.seen) c.args.pid c.args.call.now c.turn_held-answer.result (of_turn g.L.RunName.steps (heard c.begin-state.new.seat.known.seen) c.turn_held-answer.result (c.turn_held-answer.ensures.tells (heard c.begin-state.new.seat.known.seen) c.begin-state.ensures.value)) (c.turn_held-answer.ensures.stands (heard c.begin-state.new.seat.known.seen) c.begin-state.ensures.value
    (has_at_take _ _ _ _ c.begin-state.ensures g.L.RunName.script g.L.RunName.steps g.L.RunName.charge _ _ c.args.pass.now.given c.args.pid c.args.call.now c.requires.pass c.requires.given c.requires.holds)))

pub end-requires-clause-returns : goal.end-requires-clause-returns
end-requires-clause-returns g c =
    let turn = of_turn g.L.RunName.steps (heard c.begin-state.new.seat.known.seen) c.turn_held-answer.result (c.turn_held-answer.ensures.tells (heard c.begin-state.new.seat.known.seen) c.begin-state.ensures.value) in
    returns_as c.args.pass.now.turn.known.mine _ _ (told_item c.args.pid c.args.call.now c.turn_held-answer.result) c.begin-state.ensures.mine c.item_of_answer.ensures
    (told_may_return c.args.pass.now.turn.known.mine c.args.pid c.args.call.now c.turn_held-answer.result turn (just_one c.args.pass.now.given c.args.pass.now.turn.known.mine c.args.pid c.requires.pass.holds c.requires.given))

pub end-requires-clause-gives : goal.end-requires-clause-gives
end-requires-clause-gives g c =
    let turn = of_turn g.L.RunName.steps (heard c.begin-state.new.seat.known.seen) c.turn_held-answer.result (c.turn_held-answer.ensures.tells (heard c.begin-state.new.seat.known.seen) c.begin-state.ensures.value) in
    gives_as (heard c.begin-state.new.seat.known.seen) _ (told_item c.args.pid c.args.call.now c.turn_held-answer.result) c.item_of_answer.ensures (told_may_give (heard c.begin-state.new.seat.known.seen) c.args.pid c.args.call.now c.turn_held-answer.result turn)

pub returns-clause-pass : goal.returns-clause-pass
returns-clause-pass g c =
    let turn = of_turn g.L.RunName.steps (heard c.begin-state.new.seat.known.seen) c.turn_held-answer.result (c.turn_held-answer.ensures.tells (heard c.begin-state.new.seat.known.seen) c.begin-state.ensures.value) in
    let s = told_shares _ _ _ _ _ _ (heard c.begin-state.new.seat.known.seen) c.args.pid c.args.call.now c.turn_held-answer.result turn (c.turn_held-answer.ensures.stands (heard c.begin-state.new.seat.known.seen) c.begin-state.ensures.value
    (has_at_take _ _ _ _ c.begin-state.ensures g.L.RunName.script g.L.RunName.steps g.L.RunName.charge _ _ c.args.pass.now.given c.args.pid c.args.call.now c.requires.pass c.requires.given c.requires.holds)) in
    rests _ _ _ _ _ _ _ c.begin-state.ensures c.end.ensures g.L.RunName.script g.L.RunName.steps g.L.RunName.charge _ c.args.pass.now.own c.turn_held-answer.new.own c.args.pass.now.given _
    (told_item c.args.pid c.args.call.now c.turn_held-answer.result) c.item_of_answer.ensures c.requires.pass c.turn_held-answer.ensures.own.0 c.turn_held-answer.ensures.own.1 c.turn_held-answer.ensures.own.2 (s.value.past, s.value.shared)
    (holds_told c.args.pass.now.turn.known.mine _ c.args.pid c.args.call.now c.turn_held-answer.result turn (just_one c.args.pass.now.given c.args.pass.now.turn.known.mine c.args.pid c.requires.pass.holds c.requires.given))

pub returns-clause-given : goal.returns-clause-given
returns-clause-given g c = none_behind c.args.pass.now.given c.turn_held-answer.result (of_turn g.L.RunName.steps (heard c.begin-state.new.seat.known.seen) c.turn_held-answer.result (c.turn_held-answer.ensures.tells (heard c.begin-state.new.seat.known.seen) c.begin-state.ensures.value))

pub returns-clause-attends : goal.returns-clause-attends
returns-clause-attends g c =
    let turn = of_turn g.L.RunName.steps (heard c.begin-state.new.seat.known.seen) c.turn_held-answer.result (c.turn_held-answer.ensures.tells (heard c.begin-state.new.seat.known.seen) c.begin-state.ensures.value) in
    let s = told_shares _ _ _ _ _ _ (heard c.begin-state.new.seat.known.seen) c.args.pid c.args.call.now c.turn_held-answer.result turn (c.turn_held-answer.ensures.stands (heard c.begin-state.new.seat.known.seen) c.begin-state.ensures.value
    (has_at_take _ _ _ _ c.begin-state.ensures g.L.RunName.script g.L.RunName.steps g.L.RunName.charge _ _ c.args.pass.now.given c.args.pid c.args.call.now c.requires.pass c.requires.given c.requires.holds)) in
    attends_by _ g.L.RunName.script g.L.RunName.steps _ _ _ _ c.args.pid c.args.call.now c.turn_held-answer.result turn (
      c.begin-state.new.seat.known.seen,
      passes _ _ _ _ _ _ _ c.begin-state.ensures c.end.ensures (told_item c.args.pid c.args.call.now c.turn_held-answer.result) c.item_of_answer.ensures s,
      c.turn_held-answer.ensures.tells (heard c.begin-state.new.seat.known.seen) c.begin-state.ensures.value,
    )
