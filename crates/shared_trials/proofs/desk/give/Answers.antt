use Rattle.std.proofs.Common.{rules, ◌≡◌, length, subst}
use Rattle.std.specs.Prelude.{None, Some}
use Rattle.turn_words.specs.declared.items.Item.TheVariants.{Given}
use Rattle.turn_words.specs.Items.{heard}
use Rattle.shared_trials.specs.Desk.{IsDesk}
use Rattle.shared_trials.proofs.Desks.{gives_out, held_now, stays}
use Rattle.turn_words.proofs.Notes.{may_put}
use Rattle.shared_trials.proofs.desk.give.Goals as goal

pub pass_on-requires-clause-more : goal.pass_on-requires-clause-more
pass_on-requires-clause-more c = rw c.put.ensures.seat (stays c.take-desk.result.given c.take-desk.new.seat.known.seen c.take-desk.ensures.value)

pub put-requires-2-clause-stands : goal.put-requires-2-clause-stands
put-requires-2-clause-stands c =
    let seen = c.take-desk.new.seat.known.seen in
    let none_given : c.take-desk.result.given ≡ None = search rules in
    let free : IsDesk None (heard seen) = subst (λ given. IsDesk given (heard seen)) none_given c.take-desk.ensures.value in
    may_put IsDesk seen (Some c.args.pid) (Given c.args.pid) (gives_out seen c.args.pid free)

pub pass_on-requires-2-clause-more : goal.pass_on-requires-2-clause-more
pass_on-requires-2-clause-more c =
    let seen = c.take-desk.new.seat.known.seen in
    let none_given : c.take-desk.result.given ≡ None = search rules in
    let free : IsDesk None (heard seen) = subst (λ given. IsDesk given (heard seen)) none_given c.take-desk.ensures.value in
    rw c.put-2.ensures.seat (gives_out seen c.args.pid free)

pub returns-clause-given : goal.returns-clause-given
returns-clause-given c = λ _. (search rules, rw c.pass_on-2.ensures (held_now c.put-2.new.seat.known.mine (length c.put-2.new.seat.known.seen) c.args.pid))
