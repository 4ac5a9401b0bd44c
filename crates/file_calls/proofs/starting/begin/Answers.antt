use Rattle.std.proofs.Common.{◌∙◌, ap, sym}
use Rattle.posix_defs.specs.Control.{restarted, settled}
use Rattle.posix_defs.specs.Plain.{control_of}
use Rattle.store_objects.proofs.GoingOn.{goes_to, kept_moved, led_to}
use Rattle.file_calls.proofs.starting.begin.Goals as goal

pub go_to_call-requires : goal.go_to_call-requires
go_to_call-requires c = c.restart.ensures.stands c.args.script.now c.requires.valid c.requires.there

pub move_on-requires-clause-stored : goal.move_on-requires-clause-stored
move_on-requires-clause-stored c = c.requires.kept.holds.stored

pub returns-clause-kept : goal.returns-clause-kept
returns-clause-kept c =
    kept_moved c.args.script.now c.args.objects.now c.move_on.new.self c.args.caller.now.place.pid c.go_to_call.new.control c.requires.kept c.move_on.ensures c.go_to_call.ensures.stands c.go_to_call.ensures.rests

pub returns-clause-takes : goal.returns-clause-takes
returns-clause-takes c = c.move_on.ensures.takes

pub returns-clause-tree : goal.returns-clause-tree
returns-clause-tree c = c.move_on.ensures.tree

pub returns-clause-begins : goal.returns-clause-begins
returns-clause-begins c = λ world stands.
    let script = c.args.script.now in
    goes_to script c.args.objects.now c.move_on.new.self world c.args.caller.now.place.pid (restarted (settled script (control_of world.plain c.args.caller.now.place.pid)) c.args.program) c.go_to_call.new.control stands c.move_on.ensures
    c.go_to_call.ensures.stands c.go_to_call.ensures.rests
    (ap (λ control. settled script (restarted control c.args.program)) (led_to script c.args.objects.now world.plain c.args.caller.now.place.pid c.args.caller.now.control c.requires.runs stands.processes)
    ∙ ap (settled script) (sym c.restart.ensures.restarted) ∙ sym c.go_to_call.ensures.settled)
