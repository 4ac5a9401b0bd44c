use Rattle.std.proofs.Common.{ap, sym, ◌∙◌}
use Rattle.answer_laws.proofs.GoingOn.{settled_part}
use Rattle.posix_defs.specs.Control.{after_part}
use Rattle.posix_defs.specs.Plain.{control_of}
use Rattle.store_objects.proofs.GoingOn.{at_its_call, goes_to, kept_moved, led_to}
use Rattle.store_objects.proofs.continuing.do_part.Goals as goal

pub move_on-requires-clause-stored : goal.move_on-requires-clause-stored
move_on-requires-clause-stored c = c.requires.kept.1.holds.stored

pub returns-clause-kept : goal.returns-clause-kept
returns-clause-kept c = λ script kept.
    let at = at_its_call script c.args.objects.now c.args.caller.now.place.pid c.args.caller.now.control kept c.requires.runs in
    kept_moved script c.args.objects.now c.move_on.new.self c.args.caller.now.place.pid c.moved.new.control kept c.move_on.ensures (c.moved.ensures.stands script at.0) (c.moved.ensures.rests script at.1)

pub returns-clause-takes : goal.returns-clause-takes
returns-clause-takes c = c.move_on.ensures.takes

pub returns-clause-goes : goal.returns-clause-goes
returns-clause-goes c = λ script world stands.
    let at = at_its_call script c.args.objects.now c.args.caller.now.place.pid c.args.caller.now.control stands.kept c.requires.runs in
    let before = control_of world.plain c.args.caller.now.place.pid in
    goes_to script c.args.objects.now c.move_on.new.self world c.args.caller.now.place.pid (after_part before c.args.moved) c.moved.new.control stands c.move_on.ensures
    (c.moved.ensures.stands script at.0) (c.moved.ensures.rests script at.1)
    (settled_part script before c.args.moved
    ∙ ap (λ control. after_part control c.args.moved) (led_to script c.args.objects.now world.plain c.args.caller.now.place.pid c.args.caller.now.control c.requires.runs stands.processes)
    ∙ sym c.moved.ensures.more)
