use Rattle.call_run.proofs.sleepers.Sleepers.look_after.Goals as goal

pub sleep_on-requires-clause-none : goal.sleep_on-requires-clause-none
sleep_on-requires-clause-none c = c.clear.ensures

pub go_on-requires-clause-none : goal.go_on-requires-clause-none
go_on-requires-clause-none c = c.clear.ensures

pub go_on_in_part-requires-clause-none : goal.go_on_in_part-requires-clause-none
go_on_in_part-requires-clause-none c = c.clear.ensures
