use Rattle.lock_calls.proofs.WhoWaits.{row_none, row_some}
use Rattle.lock_calls.proofs.waits.row_of.Goals as goal

pub holders_of-requires : goal.holders_of-requires
holders_of-requires c = c.requires.kept.locked

pub returns-in-Some : goal.returns-in-Some
returns-in-Some c = λ world stands sound.
    row_some c.args.script.now c.args.objects.now world sound c.args.place.pid c.wanted_by.result (c.wanted_by.ensures.asks world stands) (c.wanted_by.ensures.ended world stands)
    c.in-Some.wanted c.in-Some.is c.holders_of.result (c.holders_of.ensures world.plain.files.locks stands.locks)

pub returns-in-None : goal.returns-in-None
returns-in-None c = λ world stands sound.
    row_none c.args.script.now c.args.objects.now world sound c.args.place.pid c.wanted_by.result (c.wanted_by.ensures.asks world stands) (c.wanted_by.ensures.ended world stands) c.in-None.is
