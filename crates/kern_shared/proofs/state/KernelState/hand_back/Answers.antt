use Rattle.std.proofs.Common.{◌≡◌, ◌+◌, ◌≤◌, ℕ, ap, ◌∙◌, arith}
use Rattle.kern_shared.specs.Attends.{reserved_for}
use Rattle.kern_shared.proofs.Keeping.{seated}
use Rattle.kern_shared.proofs.state.KernelState.hand_back.Goals as goal

pub give_back-requires-clause-held : goal.give_back-requires-clause-held
give_back-requires-clause-held g c =
    let is : c.reserved-reserved.result ≡ reserved_for g.L.RunName.script c.args.call.now = c.reserved-reserved.ensures c.requires.stands.0 c.requires.stands.1 in
    let holds = c.requires.own.1 in
    let into = c.take_over.ensures.into in
    omega (arith, is, holds, into)

pub returns-clause-stands : goal.returns-clause-stands
returns-clause-stands g c = λ items s.
    let is : c.reserved-reserved.result ≡ reserved_for g.L.RunName.script c.args.call.now = c.reserved-reserved.ensures items s in
    let holds = c.requires.own.1 in
    let into = c.take_over.ensures.into in
    let gave = c.give_back.ensures.seat in
    let left = ap (λ seat. seat.known.holds) gave in
    seated g.T.Turner.stands g.T.Turner.script g.T.Turner.beside _ _ _ _ items s c.give_back.new.seat (ap (λ seat. seat.charge) gave ∙ c.take_over.ensures.charge.1 ∙ c.requires.word)
    (ap (λ seat. seat.known.is_boot) gave ∙ c.take_over.ensures.boot) (omega (arith, is, holds, into, left))

pub returns-clause-takes_in : goal.returns-clause-takes_in
returns-clause-takes_in g c =
    let gave = c.give_back.ensures.seat in
    record {
      reserves = ap (λ seat. seat.known.reserves) gave ∙ c.take_over.ensures.takes_in.reserves;
      raised = ap (λ seat. seat.known.raised) gave ∙ c.take_over.ensures.takes_in.raised;
    }
