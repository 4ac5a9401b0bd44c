use Rattle.lock_calls.proofs.Circles.{circling_is}
use Rattle.lock_calls.proofs.waits.Waits.of.Goals as goal

pub returns : goal.returns
returns c = λ world stands sound.
    circling_is c.args.script.now c.args.objects.now world stands sound c.rows_of-rows.result c.rows_of-rows.ensures.rows c.rows_of-rows.ensures.few c.circling.result c.circling.ensures
