use Rattle.std.proofs.Common.{refl, subst, sym, w64}
use Rattle.std.proofs.lemmas.Int.{to_z-of_z}
use Rattle.kabi_types.specs.declared.calls.Call.TheVariants as call
use Rattle.kheap_laws.proofs.PaidLemmas.{IsPaid-nothing, IsPaid-trans}
use Rattle.posix_defs.specs.Calls.Reading.{read}
use Rattle.proc_numbers.specs.Standing.{Leads}
use Rattle.store_objects.specs.Standing.{Performs}
use Rattle.queue_calls.proofs.MovedNumbers.{of_three}
use Rattle.queue_calls.proofs.Naming.{names_read}
use Rattle.queue_calls.proofs.Queueing.{is_kept, kept_mid, leaves_rest, off_world, runs_alive, runs_mid}
use Rattle.queue_calls.proofs.Remaining.{read_leaves}
use Rattle.queue_calls.proofs.Telling.{follows_done, performs}
use Rattle.queue_calls.proofs.reading.read.Goals as goal

pub read-told-requires-clause-kept : goal.read-told-requires-clause-kept
read-told-requires-clause-kept c = let some = c.requires.stands in is_kept c.args.script.now c.args.objects.now some.1.kept

pub read-told-requires-clause-alive : goal.read-told-requires-clause-alive
read-told-requires-clause-alive c = runs_alive c.args.objects.now c.args.caller.now.place.pid c.args.caller.now.control c.requires.runs

pub read-told-requires-clause-off : goal.read-told-requires-clause-off
read-told-requires-clause-off c = c.requires.off

pub go_on_done-requires-clause-kept : goal.go_on_done-requires-clause-kept
go_on_done-requires-clause-kept c =
    let some = c.requires.stands in
    let names = names_read c.args.script.now c.args.objects.now c.read-told.new.heap c.args.caller.now.place.pid _ _ _ c.read-told.result (c.read-told.ensures.leads c.args.script.now) c.requires.stands
    c.requires.off in
    kept_mid c.args.script.now c.args.objects.now c.read-told.new.heap c.read-told.ensures.kept (leaves_rest c.args.objects.now.heap c.read-told.new.heap c.read-told.ensures.beside c.read-told.ensures.links) names some.1.kept

pub go_on_done-requires-clause-runs : goal.go_on_done-requires-clause-runs
go_on_done-requires-clause-runs c =
    let names = names_read c.args.script.now c.args.objects.now c.read-told.new.heap c.args.caller.now.place.pid _ _ _ c.read-told.result (c.read-told.ensures.leads c.args.script.now) c.requires.stands
    c.requires.off in
    runs_mid c.args.script.now c.args.objects.now c.read-told.new.heap c.read-told.ensures.kept (leaves_rest c.args.objects.now.heap c.read-told.new.heap c.read-told.ensures.beside c.read-told.ensures.links) names
    c.args.caller.now.place.pid c.args.caller.now.control c.requires.runs

pub returns-clause-paid : goal.returns-clause-paid
returns-clause-paid c =
    IsPaid-trans c.args.objects.now.heap c.args.purse.now c.read-told.new.heap c.read-told.new.purse c.go_on_done.new.objects.heap c.read-told.new.purse c.read-told.ensures.paid
    (IsPaid-nothing c.read-told.new.heap c.go_on_done.new.objects.heap c.read-told.new.purse c.read-told.new.purse c.go_on_done.ensures.takes refl refl)

pub returns-clause-does : goal.returns-clause-does
returns-clause-does c =
    let script = c.args.script.now in
    let old = c.args.objects.now in
    let heap = c.read-told.new.heap in
    let new = c.go_on_done.new.objects in
    let pid = c.args.caller.now.place.pid in
    let told = c.read-told.result in
    let names = names_read c.args.script.now c.args.objects.now c.read-told.new.heap c.args.caller.now.place.pid _ _ _ c.read-told.result (c.read-told.ensures.leads c.args.script.now) c.requires.stands
    c.requires.off in
    subst (λ t. Performs script old pid (call.Read c.args.on.now.fd c.args.addr c.args.n) (λ plain. read script plain pid c.args.on.now.fd c.args.addr c.args.n) t new) (sym c.go_on_done.ensures.told)
    (performs script old heap c.read-told.ensures.kept (leaves_rest old.heap heap c.read-told.ensures.beside c.read-told.ensures.links) names pid (call.Read c.args.on.now.fd c.args.addr c.args.n) (λ moved. ⊥) new
    (λ plain. read script plain pid c.args.on.now.fd c.args.addr c.args.n) told
    (λ numbers plain account stands.
    of_three (λ fd addr n. Leads script numbers heap old.procs plain account pid (call.Read fd addr n) (read script plain pid fd addr n) told) _ _ _ c.args.on.now.fd c.args.addr c.args.n
    refl (to_z-of_z w64 c.args.addr c.ranges.addr) (to_z-of_z w64 c.args.n c.ranges.n) (c.read-told.ensures.leads script numbers plain account stands))
    (λ world stands. read_leaves (λ moved. ⊥) script world.plain pid c.args.on.now.fd (off_world script old world pid c.args.on.now.fd stands c.requires.off) c.args.addr c.args.n)
    (follows_done script (record { heap = heap; procs = old.procs; tree = old.tree; names = old.names; fifos = old.fifos; locks = old.locks }) pid (λ moved. ⊥) told new c.go_on_done.ensures.goes (λ moved is never. never)))
