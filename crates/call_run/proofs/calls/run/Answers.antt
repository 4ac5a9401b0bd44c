use Rattle.std.proofs.Common.{◌≡◌, ◌∙◌, None, ap, sym}
use Rattle.std.specs.Result.{result_err}
use Rattle.kabi_types.specs.Arguments.{argument_fault}
use Rattle.posix_defs.specs.Machine.{answer_to, machine}
use Rattle.store_objects.proofs.Callers.{caller_runs}
use Rattle.store_objects.proofs.Paying.{uses_nothing}
use Rattle.store_objects.proofs.Replies.{does_fail}
use Rattle.call_run.proofs.Dispatch.{serves_right, wrong_told}
use Rattle.call_run.proofs.Reaching.{failed_served}
use Rattle.file_calls.specs.Bytes.{told_count}
use Rattle.file_calls.proofs.BytesCached.{nothing_read}
use Rattle.call_run.proofs.calls.run.Goals as goal

pub run_right-requires-clause-right : goal.run_right-requires-clause-right
run_right-requires-clause-right c = sym c.checked.ensures ∙ ap result_err c.in-Ok.is

pub run_right-requires-clause-kept : goal.run_right-requires-clause-kept
run_right-requires-clause-kept c = let some = c.requires.stands in some.1.kept

pub run_right-requires-clause-runs : goal.run_right-requires-clause-runs
run_right-requires-clause-runs c = caller_runs c.args.objects.now c.args.caller.now.place.pid c.args.caller.now c.requires.caller

pub run_right-requires-clause-placed : goal.run_right-requires-clause-placed
run_right-requires-clause-placed c = c.requires.caller.placed

pub run_right-requires-clause-stands : goal.run_right-requires-clause-stands
run_right-requires-clause-stands c = (c.requires.stands.0, c.requires.stands.1, c.requires.stands.2)

pub run_right-requires-clause-half : goal.run_right-requires-clause-half
run_right-requires-clause-half c = (c.requires.stands.0, c.requires.stands.1, c.requires.stands.3)

pub returns-in-Ok-clause-does : goal.returns-in-Ok-clause-does
returns-in-Ok-clause-does c =
    let right : argument_fault c.args.call.now ≡ None = sym c.checked.ensures ∙ ap result_err c.in-Ok.is in
    serves_right c.args.script.now c.args.objects.now c.run_right.new.objects c.args.caller.now.place.pid c.args.call.now c.run_right.result right c.run_right.ensures.does

pub go_on-requires-clause-kept : goal.go_on-requires-clause-kept
go_on-requires-clause-kept c = let some = c.requires.stands in some.1.kept

pub go_on-requires-clause-runs : goal.go_on-requires-clause-runs
go_on-requires-clause-runs c = caller_runs c.args.objects.now c.args.caller.now.place.pid c.args.caller.now c.requires.caller

pub go_on-requires-clause-placed : goal.go_on-requires-clause-placed
go_on-requires-clause-placed c = c.requires.caller.placed

pub returns-in-Err-clause-uses : goal.returns-in-Err-clause-uses
returns-in-Err-clause-uses c = uses_nothing c.args.objects.now.heap c.go_on.new.objects.heap _ _ c.go_on.ensures.takes

pub returns-in-Err-clause-does : goal.returns-in-Err-clause-does
returns-in-Err-clause-does c =
    failed_served c.args.script.now c.args.objects.now c.go_on.new.objects c.args.caller.now.place.pid c.args.call.now c.in-Err.errno c.go_on.result
    (λ plain. machine c.args.script.now plain c.args.caller.now.place.pid c.args.call.now) c.go_on.ensures.told
    (does_fail c.args.script.now c.args.objects.now c.go_on.new.objects c.args.caller.now.place.pid c.args.call.now c.in-Err.errno c.go_on.result _
    c.go_on.ensures.told c.go_on.ensures.goes
    (λ world stands. wrong_told c.args.script.now world.plain c.args.caller.now.place.pid _ c.in-Err.errno (answer_to c.args.script.now world.plain c.args.caller.now.place.pid c.args.call.now) (sym c.checked.ensures ∙ ap result_err c.in-Err.is)))

pub returns-in-Err-clause-cached : goal.returns-in-Err-clause-cached
returns-in-Err-clause-cached c =
    nothing_read c.args.objects.now c.go_on.new.objects c.args.caller.now.place.pid c.args.call.now c.go_on.result c.go_on.ensures.tree (ap told_count c.go_on.ensures.told)
