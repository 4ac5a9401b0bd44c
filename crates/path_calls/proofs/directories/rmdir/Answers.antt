use Rattle.std.proofs.Common.{◌≡◌, ◌∙◌, rules, sym}
use Rattle.kabi_types.specs.declared.calls.Call.TheVariants as call
use Rattle.posix_defs.specs.Calls.OnNames.{rmdir}
use Rattle.store_objects.specs.Trees.{pins_in}
use Rattle.path_calls.specs.Nodes.{has_node}
use Rattle.path_calls.proofs.Changed.{kept_mid, leads, paid_on}
use Rattle.path_calls.proofs.Led.{at_directory, led_keeps, rmdir_changes, rmdir_leads}
use Rattle.path_calls.proofs.HeldBy.{told_held}
use Rattle.path_calls.proofs.NoFifo.{no_nodes}
use Rattle.store_objects.proofs.Keeping.{listed_in}
use Rattle.path_calls.proofs.directories.rmdir.Goals as goal

pub add_all_held-requires-clause-listed : goal.add_all_held-requires-clause-listed
add_all_held-requires-clause-listed c = listed_in c.args.script.now c.args.objects.now (let some = c.requires.stands in some.1.kept)

pub add_all_held-requires-clause-fifos : goal.add_all_held-requires-clause-fifos
add_all_held-requires-clause-fifos c =
    let some = c.requires.stands in
    λ none. no_nodes c.args.objects.now.heap c.args.objects.now.fifos some.1.kept.chain (sym c.is_empty-no_fifo.ensures ∙ none)

pub remove_dir-gone-requires-clause-stands : goal.remove_dir-gone-requires-clause-stands
remove_dir-gone-requires-clause-stands c =
    let some = c.requires.stands in (
      some.0.plain.files.tree,
      pins_in some.0.plain,
      some.1.tree.stands,
      at_directory c.args.script.now c.args.objects.now c.args.caller.now.place.pid c.directory_of-cwd.result c.requires.runs.proc c.requires.runs.found c.requires.runs.up (c.directory_of-cwd.ensures c.requires.runs.proc c.requires.runs.found) some.0 some.1,
      λ number answer told other.
          let said : answer ≡ has_node c.add_all_held.new.nodes number = search rules in
          said ∙ c.add_all_held.ensures number ∙ told_held c.args.script.now c.args.objects.now some.0 some.1 number other,
    )

pub go_on-requires-clause-kept : goal.go_on-requires-clause-kept
go_on-requires-clause-kept c =
    let some = c.requires.stands in
    kept_mid c.args.script.now c.args.objects.now c.remove_dir-gone.new.heap c.remove_dir-gone.new.self c.args.purse.now c.remove_dir-gone.new.purse c.remove_dir-gone.ensures.pays
    (led_keeps (rmdir_leads c.args.script.now c.args.objects.now c.args.caller.now.place.pid c.directory_of-cwd.result c.requires.runs.proc c.requires.runs.found c.requires.runs.up (c.directory_of-cwd.ensures c.requires.runs.proc c.requires.runs.found) c.remove_dir-gone.new.heap c.remove_dir-gone.new.self c.done.result c.args.path.now c.remove_dir-gone.result c.done.ensures c.remove_dir-gone.ensures.answer some.0 some.1)) some.1.kept

pub returns-clause-paid : goal.returns-clause-paid
returns-clause-paid c = paid_on c.args.script.now c.args.objects.now c.remove_dir-gone.new.heap c.remove_dir-gone.new.self c.args.purse.now c.remove_dir-gone.new.purse c.remove_dir-gone.ensures.pays c.go_on.new.objects.heap c.go_on.ensures.takes

pub returns-clause-does : goal.returns-clause-does
returns-clause-does c =
    leads c.args.script.now c.args.objects.now c.remove_dir-gone.new.heap c.remove_dir-gone.new.self c.args.purse.now c.remove_dir-gone.new.purse c.remove_dir-gone.ensures.pays
    c.args.caller.now.place.pid (call.Rmdir c.args.path.now) (rmdir_changes c.args.path.now) c.requires.right c.requires.needed c.done.result c.go_on.result c.go_on.new.objects
    (λ plain. rmdir c.args.script.now plain c.args.caller.now.place.pid c.args.path.now) c.go_on.ensures.told c.go_on.ensures.goes
    (rmdir_leads c.args.script.now c.args.objects.now c.args.caller.now.place.pid c.directory_of-cwd.result c.requires.runs.proc c.requires.runs.found c.requires.runs.up (c.directory_of-cwd.ensures c.requires.runs.proc c.requires.runs.found) c.remove_dir-gone.new.heap c.remove_dir-gone.new.self c.done.result c.args.path.now c.remove_dir-gone.result c.done.ensures c.remove_dir-gone.ensures.answer)
