use Rattle.posix_defs.specs.Plain.{control_of}
use Rattle.store_objects.proofs.GoingOn.{at_its_call, goes_on, kept_moved, led_to}
use Rattle.store_objects.proofs.going_on.go_on.Goals as goal

pub behind-requires-clause-stands : goal.behind-requires-clause-stands
behind-requires-clause-stands c = let at = at_its_call c.args.script.now c.args.objects.now c.args.caller.now.place.pid c.args.caller.now.control c.requires.kept c.requires.runs in at.0

pub behind-requires-clause-rests : goal.behind-requires-clause-rests
behind-requires-clause-rests c = let at = at_its_call c.args.script.now c.args.objects.now c.args.caller.now.place.pid c.args.caller.now.control c.requires.kept c.requires.runs in at.1

pub move_on-requires-clause-stored : goal.move_on-requires-clause-stored
move_on-requires-clause-stored c = c.requires.kept.holds.stored

pub returns-clause-kept : goal.returns-clause-kept
returns-clause-kept c =
    kept_moved c.args.script.now c.args.objects.now c.move_on.new.self c.args.caller.now.place.pid c.behind.result c.requires.kept c.move_on.ensures c.behind.ensures.stands c.behind.ensures.rests

pub returns-clause-takes : goal.returns-clause-takes
returns-clause-takes c = c.move_on.ensures.takes

pub returns-clause-goes : goal.returns-clause-goes
returns-clause-goes c = λ world stands.
    goes_on c.args.script.now c.args.objects.now c.move_on.new.self world c.args.caller.now.place.pid c.args.reply c.behind.result stands c.move_on.ensures
    c.behind.ensures.stands c.behind.ensures.rests
    (c.behind.ensures.leads (control_of world.plain c.args.caller.now.place.pid) (led_to c.args.script.now c.args.objects.now world.plain c.args.caller.now.place.pid c.args.caller.now.control c.requires.runs stands.processes))

pub returns-clause-tree : goal.returns-clause-tree
returns-clause-tree c = c.move_on.ensures.tree
