use Rattle.std.proofs.Common.{ap, refl, ◌∙◌, arith}
use Rattle.turn_words.specs.Items.{heard}
use Rattle.kern_shared.proofs.Passing.{has_at_take, has_behind, holds_still, nobody_may_give, nobody_may_return, passes, relief_of_nobody, rests, unused_still}
use Rattle.kern_shared.proofs.kernel.Kernel.relieve.Goals as goal

pub end-requires-clause-returns : goal.end-requires-clause-returns
end-requires-clause-returns g c =
    let b = c.begin-state.ensures.value in
    let s = b.value in
    nobody_may_return c.begin-state.new.seat.known.mine c.relieve_now-relief.result.1 (relief_of_nobody g.L.RunName.script g.L.RunName.steps (heard c.begin-state.new.seat.known.seen) s.past c.relieve_now-relief.new.own.known.last c.relieve_now-relief.result.0 c.relieve_now-relief.result.1 (c.relieve_now-relief.ensures.relieves (heard c.begin-state.new.seat.known.seen) s.past b s.shared))

pub end-requires-clause-gives : goal.end-requires-clause-gives
end-requires-clause-gives g c =
    let b = c.begin-state.ensures.value in
    let s = b.value in
    nobody_may_give (heard c.begin-state.new.seat.known.seen) c.relieve_now-relief.result.1 (relief_of_nobody g.L.RunName.script g.L.RunName.steps (heard c.begin-state.new.seat.known.seen) s.past c.relieve_now-relief.new.own.known.last c.relieve_now-relief.result.0 c.relieve_now-relief.result.1 (c.relieve_now-relief.ensures.relieves (heard c.begin-state.new.seat.known.seen) s.past b s.shared))

pub returns-clause-pass : goal.returns-clause-pass
returns-clause-pass g c =
    let b = c.begin-state.ensures.value in
    let s = b.value in
    let t = (c.relieve_now-relief.ensures.stands (heard c.begin-state.new.seat.known.seen) b).value in
    rests _ _ _ _ _ _ _ c.begin-state.ensures c.end.ensures g.L.RunName.script g.L.RunName.steps g.L.RunName.charge _ c.args.pass.now.own c.relieve_now-relief.new.own c.args.pass.now.given c.args.pass.now.given _ refl
    c.requires.pass (ap (λ seat. seat.charge) c.relieve_now-relief.ensures.own) (ap (λ seat. seat.known.holds) c.relieve_now-relief.ensures.own ∙ c.requires.pass.empty)
    (unused_still _ c.relieve_now-relief.new.own.known (ap (λ seat. seat.known.reserves) c.relieve_now-relief.ensures.own) (ap (λ seat. seat.known.raised) c.relieve_now-relief.ensures.own) c.requires.pass.unused) (t.past, t.shared)
    (holds_still c.args.pass.now.given c.args.pass.now.turn.known.mine _ c.relieve_now-relief.result.1 (relief_of_nobody g.L.RunName.script g.L.RunName.steps (heard c.begin-state.new.seat.known.seen) s.past c.relieve_now-relief.new.own.known.last c.relieve_now-relief.result.0 c.relieve_now-relief.result.1 (c.relieve_now-relief.ensures.relieves (heard c.begin-state.new.seat.known.seen) s.past b s.shared)) c.requires.pass.holds)

pub returns-clause-holds : goal.returns-clause-holds
returns-clause-holds g c = λ pid call given_is has.
    let b = c.begin-state.ensures.value in
    let s = b.value in
    has_behind _ _ _ _ _ _ _ c.begin-state.ensures c.end.ensures g.L.RunName.script g.L.RunName.steps pid call
    (relief_of_nobody g.L.RunName.script g.L.RunName.steps (heard c.begin-state.new.seat.known.seen) s.past c.relieve_now-relief.new.own.known.last c.relieve_now-relief.result.0 c.relieve_now-relief.result.1 (c.relieve_now-relief.ensures.relieves (heard c.begin-state.new.seat.known.seen) s.past b s.shared) pid)
    (has_at_take _ _ _ _ c.begin-state.ensures g.L.RunName.script g.L.RunName.steps g.L.RunName.charge _ _ c.args.pass.now.given pid call c.requires.pass given_is has)

pub returns-clause-loads : goal.returns-clause-loads
returns-clause-loads g c =
    let known = ap (λ seat. seat.known) c.relieve_now-relief.ensures.own in
    record {
      now = (let more = ap (λ k. k.loads) known in omega (arith, more));
      last = refl;
      held = ap (λ k. k.held) known ∙ c.requires.pass.empty;
    }

pub returns-clause-relieves : goal.returns-clause-relieves
returns-clause-relieves g c = (
  c.begin-state.new.seat.known.seen,
  _,
  passes _ _ _ _ _ _ _ c.begin-state.ensures c.end.ensures _ refl (c.relieve_now-relief.ensures.stands (heard c.begin-state.new.seat.known.seen) c.begin-state.ensures.value),
  λ past shared. c.relieve_now-relief.ensures.relieves (heard c.begin-state.new.seat.known.seen) past c.begin-state.ensures.value shared,
)
