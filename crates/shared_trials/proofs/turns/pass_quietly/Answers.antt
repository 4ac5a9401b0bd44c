use Rattle.shared_trials.proofs.Diaries.{nothing_told}
use Rattle.shared_trials.proofs.turns.pass_quietly.Goals as goal

pub pass_on-requires-clause-more : goal.pass_on-requires-clause-more
pass_on-requires-clause-more c =
    rw c.put.ensures.seat (nothing_told c.take-diary.new.seat.known.seen c.take-diary.result.told.items c.take-diary.ensures.value)
