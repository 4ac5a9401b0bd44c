use Rattle.kabi_types.specs.declared.calls.Call.TheVariants as call
use Rattle.posix_defs.specs.Calls.OnNames.{link}
use Rattle.store_objects.specs.Trees.{pins_in}
use Rattle.path_calls.proofs.Changed.{kept_mid, leads, paid_on}
use Rattle.path_calls.proofs.Led.{at_directory, led_keeps, link_changes, link_leads}
use Rattle.path_calls.proofs.names.link.Goals as goal

pub link_name-linked-requires-clause-stands : goal.link_name-linked-requires-clause-stands
link_name-linked-requires-clause-stands c =
    let some = c.requires.stands in (
      some.0.plain.files.tree,
      pins_in some.0.plain,
      some.1.tree.stands,
      at_directory c.args.script.now c.args.objects.now c.args.caller.now.place.pid c.directory_of-cwd.result c.requires.runs.proc c.requires.runs.found c.requires.runs.up (c.directory_of-cwd.ensures c.requires.runs.proc c.requires.runs.found) some.0 some.1,
    )

pub go_on-requires-clause-kept : goal.go_on-requires-clause-kept
go_on-requires-clause-kept c =
    let some = c.requires.stands in
    kept_mid c.args.script.now c.args.objects.now c.link_name-linked.new.heap c.link_name-linked.new.self c.args.purse.now c.link_name-linked.new.purse c.link_name-linked.ensures.pays
    (led_keeps (link_leads c.args.script.now c.args.objects.now c.args.caller.now.place.pid c.directory_of-cwd.result c.requires.runs.proc c.requires.runs.found c.requires.runs.up (c.directory_of-cwd.ensures c.requires.runs.proc c.requires.runs.found) c.link_name-linked.new.heap c.link_name-linked.new.self c.done.result c.args.old.now c.args.new.now c.link_name-linked.result c.done.ensures c.link_name-linked.ensures.answer some.0 some.1)) some.1.kept

pub returns-clause-paid : goal.returns-clause-paid
returns-clause-paid c = paid_on c.args.script.now c.args.objects.now c.link_name-linked.new.heap c.link_name-linked.new.self c.args.purse.now c.link_name-linked.new.purse c.link_name-linked.ensures.pays c.go_on.new.objects.heap c.go_on.ensures.takes

pub returns-clause-does : goal.returns-clause-does
returns-clause-does c =
    leads c.args.script.now c.args.objects.now c.link_name-linked.new.heap c.link_name-linked.new.self c.args.purse.now c.link_name-linked.new.purse c.link_name-linked.ensures.pays
    c.args.caller.now.place.pid (call.Link c.args.old.now c.args.new.now) (link_changes c.args.old.now c.args.new.now) c.requires.right c.requires.needed c.done.result c.go_on.result c.go_on.new.objects
    (λ plain. link c.args.script.now plain c.args.caller.now.place.pid c.args.old.now c.args.new.now) c.go_on.ensures.told c.go_on.ensures.goes
    (link_leads c.args.script.now c.args.objects.now c.args.caller.now.place.pid c.directory_of-cwd.result c.requires.runs.proc c.requires.runs.found c.requires.runs.up (c.directory_of-cwd.ensures c.requires.runs.proc c.requires.runs.found) c.link_name-linked.new.heap c.link_name-linked.new.self c.done.result c.args.old.now c.args.new.now c.link_name-linked.result c.done.ensures c.link_name-linked.ensures.answer)
