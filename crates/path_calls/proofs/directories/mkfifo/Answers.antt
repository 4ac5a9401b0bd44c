use Rattle.kabi_types.specs.declared.calls.Call.TheVariants as call
use Rattle.posix_defs.specs.Calls.OnNames.{mkfifo}
use Rattle.store_objects.specs.Trees.{pins_in}
use Rattle.path_calls.proofs.Changed.{kept_mid, leads, paid_on}
use Rattle.path_calls.proofs.Led.{at_directory, led_keeps, mkfifo_changes, mkfifo_leads}
use Rattle.path_calls.proofs.directories.mkfifo.Goals as goal

pub make_fifo-named-requires-clause-stands : goal.make_fifo-named-requires-clause-stands
make_fifo-named-requires-clause-stands c =
    let some = c.requires.stands in (
      some.0.plain.files.tree,
      pins_in some.0.plain,
      some.1.tree.stands,
      at_directory c.args.script.now c.args.objects.now c.args.caller.now.place.pid c.directory_of-cwd.result c.requires.runs.proc c.requires.runs.found c.requires.runs.up (c.directory_of-cwd.ensures c.requires.runs.proc c.requires.runs.found) some.0 some.1,
    )

pub go_on-requires-clause-kept : goal.go_on-requires-clause-kept
go_on-requires-clause-kept c =
    let some = c.requires.stands in
    kept_mid c.args.script.now c.args.objects.now c.make_fifo-named.new.heap c.make_fifo-named.new.self c.args.purse.now c.make_fifo-named.new.purse c.make_fifo-named.ensures.pays
    (led_keeps (mkfifo_leads c.args.script.now c.args.objects.now c.args.caller.now.place.pid c.directory_of-cwd.result c.requires.runs.proc c.requires.runs.found c.requires.runs.up (c.directory_of-cwd.ensures c.requires.runs.proc c.requires.runs.found) c.make_fifo-named.new.heap c.make_fifo-named.new.self c.done.result c.args.path.now c.make_fifo-named.result c.done.ensures c.make_fifo-named.ensures.answer some.0 some.1)) some.1.kept

pub returns-clause-paid : goal.returns-clause-paid
returns-clause-paid c = paid_on c.args.script.now c.args.objects.now c.make_fifo-named.new.heap c.make_fifo-named.new.self c.args.purse.now c.make_fifo-named.new.purse c.make_fifo-named.ensures.pays c.go_on.new.objects.heap c.go_on.ensures.takes

pub returns-clause-does : goal.returns-clause-does
returns-clause-does c =
    leads c.args.script.now c.args.objects.now c.make_fifo-named.new.heap c.make_fifo-named.new.self c.args.purse.now c.make_fifo-named.new.purse c.make_fifo-named.ensures.pays
    c.args.caller.now.place.pid (call.Mkfifo c.args.path.now) (mkfifo_changes c.args.path.now) c.requires.right c.requires.needed c.done.result c.go_on.result c.go_on.new.objects
    (λ plain. mkfifo c.args.script.now plain c.args.caller.now.place.pid c.args.path.now) c.go_on.ensures.told c.go_on.ensures.goes
    (mkfifo_leads c.args.script.now c.args.objects.now c.args.caller.now.place.pid c.directory_of-cwd.result c.requires.runs.proc c.requires.runs.found c.requires.runs.up (c.directory_of-cwd.ensures c.requires.runs.proc c.requires.runs.found) c.make_fifo-named.new.heap c.make_fifo-named.new.self c.done.result c.args.path.now c.make_fifo-named.result c.done.ensures c.make_fifo-named.ensures.answer)
