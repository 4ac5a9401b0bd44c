use Rattle.std.proofs.Common.{◌++◌, ◌∷◌, [], ap, ◌∙◌}
use Rattle.turn_words.specs.Items.{heard}
use Rattle.kern_shared.specs.Picks.{picked_item}
use Rattle.kern_shared.proofs.Passing.{gives_as, has_picked, holds_by, passes, picked_may_give, picked_may_return, rests, returns_as, shares_as}
use Rattle.kern_shared.proofs.kernel.Kernel.pick.Goals as goal

pub end-requires-clause-stands : goal.end-requires-clause-stands
end-requires-clause-stands g c = shares_as _ _ _ _ _ _ _ _ (picked_item c.pick_next-picked.result) c.item_of_pick.ensures (c.pick_next-picked.ensures.stands (heard c.begin-state.new.seat.known.seen) c.begin-state.ensures.value)

pub end-requires-clause-returns : goal.end-requires-clause-returns
end-requires-clause-returns g c = returns_as c.args.pass.now.turn.known.mine _ _ (picked_item c.pick_next-picked.result) c.begin-state.ensures.mine c.item_of_pick.ensures (picked_may_return c.args.pass.now.turn.known.mine c.pick_next-picked.result)

pub end-requires-clause-gives : goal.end-requires-clause-gives
end-requires-clause-gives g c =
    let b = c.begin-state.ensures.value in
    let s = b.value in
    gives_as (heard c.begin-state.new.seat.known.seen) _ (picked_item c.pick_next-picked.result) c.item_of_pick.ensures
    (picked_may_give g.L.RunName.script g.L.RunName.steps (heard c.begin-state.new.seat.known.seen) s.past c.pick_next-picked.result (c.pick_next-picked.ensures.picks (heard c.begin-state.new.seat.known.seen) s.past b s.shared))

pub returns-clause-pass : goal.returns-clause-pass
returns-clause-pass g c =
    let s = (c.pick_next-picked.ensures.stands (heard c.begin-state.new.seat.known.seen) c.begin-state.ensures.value).value in
    rests _ _ _ _ _ _ _ c.begin-state.ensures c.end.ensures g.L.RunName.script g.L.RunName.steps g.L.RunName.charge _ c.args.pass.now.own c.args.pass.now.own c.args.pass.now.given c.given_by-pass.result
    (picked_item c.pick_next-picked.result) c.item_of_pick.ensures c.requires.pass c.requires.pass.of_charge c.requires.pass.empty c.requires.pass.unused (s.past, s.shared)
    (holds_by c.args.pass.now.given c.given_by-pass.result c.args.pass.now.turn.known.mine _ c.pick_next-picked.result c.requires.none c.given_by-pass.ensures c.requires.pass.holds)

pub returns-clause-holds : goal.returns-clause-holds
returns-clause-holds g c =
    let b = c.begin-state.ensures.value in
    let s = b.value in
    has_picked g.L.RunName.script g.L.RunName.steps c.begin-state.new.seat.known.seen c.end.new.seat.known.seen s.past c.pick_next-picked.result
    (c.end.ensures.seen ∙ ap (λ i. c.begin-state.new.seat.known.seen ++ i ∷ []) c.item_of_pick.ensures) s.shared (c.pick_next-picked.ensures.picks (heard c.begin-state.new.seat.known.seen) s.past b s.shared)

pub returns-clause-picks : goal.returns-clause-picks
returns-clause-picks g c = (
  c.begin-state.new.seat.known.seen,
  passes _ _ _ _ _ _ _ c.begin-state.ensures c.end.ensures (picked_item c.pick_next-picked.result) c.item_of_pick.ensures (c.pick_next-picked.ensures.stands (heard c.begin-state.new.seat.known.seen) c.begin-state.ensures.value),
  λ past shared. c.pick_next-picked.ensures.picks (heard c.begin-state.new.seat.known.seen) past c.begin-state.ensures.value shared,
)
