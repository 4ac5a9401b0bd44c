use Rattle.std.proofs.Common.{◌≡◌, ◌∙◌, refl, rules, sym}
use Rattle.kabi_types.specs.declared.calls.Call.TheVariants as call
use Rattle.kheap_laws.proofs.PaidLemmas.{TakesNothing-trans}
use Rattle.posix_defs.specs.Calls.OnNames.{rename}
use Rattle.store_objects.specs.Trees.{pins_in}
use Rattle.path_calls.specs.Nodes.{has_node}
use Rattle.path_calls.specs.Replies.{freed_reply}
use Rattle.path_calls.proofs.Busy.{holds_no_socket}
use Rattle.path_calls.proofs.Changed.{kept_mid, paid_on}
use Rattle.path_calls.proofs.Freeing.{kept_gone, runs_gone, serves}
use Rattle.path_calls.proofs.HeldBy.{told_held}
use Rattle.path_calls.proofs.NoFifo.{no_nodes}
use Rattle.store_objects.proofs.Keeping.{listed_in}
use Rattle.path_calls.proofs.Led.{at_directory, freed_keeps, rename_changes, rename_leads}
use Rattle.path_calls.proofs.names.rename.Goals as goal

pub add_all_held-requires-clause-listed : goal.add_all_held-requires-clause-listed
add_all_held-requires-clause-listed c = listed_in c.args.script.now c.args.objects.now (let some = c.requires.stands in some.1.kept)

pub add_all_held-requires-clause-fifos : goal.add_all_held-requires-clause-fifos
add_all_held-requires-clause-fifos c =
    let some = c.requires.stands in
    λ none. no_nodes c.args.objects.now.heap c.args.objects.now.fifos some.1.kept.chain (sym c.is_empty-no_fifo.ensures ∙ none)

pub rename_name-renamed-requires-clause-stands : goal.rename_name-renamed-requires-clause-stands
rename_name-renamed-requires-clause-stands c =
    let some = c.requires.stands in (
      some.0.plain.files.tree,
      pins_in some.0.plain,
      some.1.tree.stands,
      at_directory c.args.script.now c.args.objects.now c.args.caller.now.place.pid c.directory_of-cwd.result c.requires.runs.proc c.requires.runs.found c.requires.runs.up (c.directory_of-cwd.ensures c.requires.runs.proc c.requires.runs.found) some.0 some.1,
      holds_no_socket some.0.plain some.1.tree.stands.is_tree some.1.works some.2.nodes,
      λ number answer told other.
          let said : answer ≡ has_node c.add_all_held.new.nodes number = search rules in
          said ∙ c.add_all_held.ensures number ∙ told_held c.args.script.now c.args.objects.now some.0 some.1 number other,
    )

pub name_freed-requires-clause-owners : goal.name_freed-requires-clause-owners
name_freed-requires-clause-owners c =
    let some = c.requires.stands in
    (kept_mid c.args.script.now c.args.objects.now c.rename_name-renamed.new.heap c.rename_name-renamed.new.self c.args.purse.now c.rename_name-renamed.new.purse c.rename_name-renamed.ensures.pays
    (freed_keeps (rename_leads c.args.script.now c.args.objects.now c.args.caller.now.place.pid c.directory_of-cwd.result c.requires.runs.proc c.requires.runs.found c.requires.runs.up (c.directory_of-cwd.ensures c.requires.runs.proc c.requires.runs.found) c.rename_name-renamed.new.heap c.rename_name-renamed.new.self (freed_reply c.rename_name-renamed.result) c.args.old.now c.args.new.now c.rename_name-renamed.result c.freed.result refl c.freed.ensures c.rename_name-renamed.ensures.answer some.0 some.1 some.2)) some.1.kept).owners

pub name_freed-requires-clause-bound : goal.name_freed-requires-clause-bound
name_freed-requires-clause-bound c =
    let some = c.requires.stands in
    (kept_mid c.args.script.now c.args.objects.now c.rename_name-renamed.new.heap c.rename_name-renamed.new.self c.args.purse.now c.rename_name-renamed.new.purse c.rename_name-renamed.ensures.pays
    (freed_keeps (rename_leads c.args.script.now c.args.objects.now c.args.caller.now.place.pid c.directory_of-cwd.result c.requires.runs.proc c.requires.runs.found c.requires.runs.up (c.directory_of-cwd.ensures c.requires.runs.proc c.requires.runs.found) c.rename_name-renamed.new.heap c.rename_name-renamed.new.self (freed_reply c.rename_name-renamed.result) c.args.old.now c.args.new.now c.rename_name-renamed.result c.freed.result refl c.freed.ensures c.rename_name-renamed.ensures.answer some.0 some.1 some.2)) some.1.kept).bound

pub go_on-requires-clause-kept : goal.go_on-requires-clause-kept
go_on-requires-clause-kept c =
    let some = c.requires.stands in
    kept_gone c.args.script.now c.args.objects.now c.rename_name-renamed.new.heap c.rename_name-renamed.new.self c.args.purse.now c.rename_name-renamed.new.purse c.rename_name-renamed.ensures.pays
    c.name_freed.new.heap c.name_freed.new.names c.freed.result c.name_freed.ensures.beside c.heap_is_well_formed-2.ensures c.name_freed.ensures.owners c.name_freed.ensures.names c.name_freed.ensures.queues c.name_freed.ensures.hold
    some.0 c.args.caller.now.place.pid c.gone_reply.result (rename c.args.script.now some.0.plain c.args.caller.now.place.pid c.args.old.now c.args.new.now) some.1
    (rename_leads c.args.script.now c.args.objects.now c.args.caller.now.place.pid c.directory_of-cwd.result c.requires.runs.proc c.requires.runs.found c.requires.runs.up (c.directory_of-cwd.ensures c.requires.runs.proc c.requires.runs.found) c.rename_name-renamed.new.heap c.rename_name-renamed.new.self c.gone_reply.result c.args.old.now c.args.new.now c.rename_name-renamed.result c.freed.result c.gone_reply.ensures c.freed.ensures c.rename_name-renamed.ensures.answer some.0 some.1 some.2)

pub go_on-requires-clause-runs : goal.go_on-requires-clause-runs
go_on-requires-clause-runs c =
    runs_gone c.args.script.now c.args.objects.now c.rename_name-renamed.new.heap c.rename_name-renamed.new.self c.args.purse.now c.rename_name-renamed.new.purse c.rename_name-renamed.ensures.pays
    c.name_freed.new.heap c.name_freed.new.names c.freed.result c.name_freed.ensures.beside c.heap_is_well_formed-2.ensures c.name_freed.ensures.owners c.name_freed.ensures.names c.name_freed.ensures.queues c.name_freed.ensures.hold
    c.args.caller.now.place.pid c.args.caller.now.control c.requires.runs

pub returns-clause-paid : goal.returns-clause-paid
returns-clause-paid c =
    paid_on c.args.script.now c.args.objects.now c.rename_name-renamed.new.heap c.rename_name-renamed.new.self c.args.purse.now c.rename_name-renamed.new.purse c.rename_name-renamed.ensures.pays c.go_on.new.objects.heap
    (TakesNothing-trans c.rename_name-renamed.new.heap c.name_freed.new.heap c.go_on.new.objects.heap c.name_freed.ensures.takes c.go_on.ensures.takes)

pub returns-clause-does : goal.returns-clause-does
returns-clause-does c =
    serves c.args.script.now c.args.objects.now c.rename_name-renamed.new.heap c.rename_name-renamed.new.self c.args.purse.now c.rename_name-renamed.new.purse c.rename_name-renamed.ensures.pays
    c.name_freed.new.heap c.name_freed.new.names c.freed.result c.name_freed.ensures.beside c.heap_is_well_formed-2.ensures c.name_freed.ensures.owners c.name_freed.ensures.names c.name_freed.ensures.queues c.name_freed.ensures.hold
    c.args.caller.now.place.pid (call.Rename c.args.old.now c.args.new.now) (rename_changes c.args.old.now c.args.new.now) c.requires.right c.requires.needed c.gone_reply.result c.go_on.result c.go_on.new.objects
    (λ plain. rename c.args.script.now plain c.args.caller.now.place.pid c.args.old.now c.args.new.now) c.go_on.ensures.told c.go_on.ensures.goes
    (rename_leads c.args.script.now c.args.objects.now c.args.caller.now.place.pid c.directory_of-cwd.result c.requires.runs.proc c.requires.runs.found c.requires.runs.up (c.directory_of-cwd.ensures c.requires.runs.proc c.requires.runs.found) c.rename_name-renamed.new.heap c.rename_name-renamed.new.self c.gone_reply.result c.args.old.now c.args.new.now c.rename_name-renamed.result c.freed.result c.gone_reply.ensures c.freed.ensures c.rename_name-renamed.ensures.answer)
