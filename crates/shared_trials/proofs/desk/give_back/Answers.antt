use Rattle.std.proofs.Common.{rules, subst}
use Rattle.std.specs.Prelude.{None, Some}
use Rattle.turn_words.specs.declared.items.Item.TheVariants.{Back}
use Rattle.turn_words.specs.Items.{heard}
use Rattle.shared_trials.specs.Desk.{IsDesk}
use Rattle.shared_trials.proofs.Desks.{found, goes_back}
use Rattle.turn_words.proofs.Notes.{may_put}
use Rattle.shared_trials.proofs.desk.give_back.Goals as goal

pub put-requires-clause-stands : goal.put-requires-clause-stands
put-requires-clause-stands c =
    let seen = c.take-desk.new.seat.known.seen in
    let is = found c.take-desk.result.given (heard seen) c.args.pid c.take-desk.ensures.value (c.take-desk.ensures.mine.1 c.args.pid (search rules)) in
    let given : IsDesk (Some c.args.pid) (heard seen) = subst (λ given. IsDesk given (heard seen)) is c.take-desk.ensures.value in
    may_put IsDesk seen None (Back c.args.pid) (goes_back seen c.args.pid given)

pub pass_on-requires-clause-more : goal.pass_on-requires-clause-more
pass_on-requires-clause-more c =
    let seen = c.take-desk.new.seat.known.seen in
    let is = found c.take-desk.result.given (heard seen) c.args.pid c.take-desk.ensures.value (c.take-desk.ensures.mine.1 c.args.pid (search rules)) in
    let given : IsDesk (Some c.args.pid) (heard seen) = subst (λ given. IsDesk given (heard seen)) is c.take-desk.ensures.value in
    rw c.put.ensures.seat (goes_back seen c.args.pid given)
