use Rattle.std.proofs.Common.{◌≡◌, ◌≤◌, ◌+◌, ℕ, ℤ, refl, subst, sym, ◌∙◌, w64, arith}
use Rattle.std.proofs.lemmas.Int.{to_z-of_z}
use Rattle.kabi_types.specs.Arguments.{count_of}
use Rattle.kabi_types.specs.declared.calls.Call.TheVariants as call
use Rattle.kheap_laws.proofs.PaidLemmas.{IsPaid-nothing, IsPaid-trans}
use Rattle.kabi_types.specs.declared.scripts.Script.{Script}
use Rattle.kheap_slabs.specs.Heap.{Heap}
use Rattle.open_laws.specs.Placed.{Numbers}
use Rattle.pipe_ends.specs.Links.{KeepsLinks}
use Rattle.posix_defs.specs.Account.{Account}
use Rattle.posix_defs.specs.Calls.Writing.{write_ignoring}
use Rattle.posix_defs.specs.Plain.{Plain}
use Rattle.posix_defs.specs.declared.turner.Turned.{Turned}
use Rattle.posix_defs.specs.declared.turner.Turned.TheVariants as turned
use Rattle.proc_numbers.specs.Found.{IsOffNodes}
use Rattle.proc_files.specs.Names.{name_of}
use Rattle.proc_numbers.specs.Standing.{IsKept, IsTold, Leads, StandsFor as QueuesStandFor}
use Rattle.store_objects.specs.declared.objects.Objects.{Objects}
use Rattle.store_objects.specs.Standing.{Performs}
use Rattle.queue_calls.proofs.MovedNumbers.{count_few, of_three}
use Rattle.queue_calls.proofs.Naming.{names_written}
use Rattle.queue_calls.proofs.Queueing.{is_kept, kept_mid, leaves_more, off_world, queues_stand, runs_alive, runs_mid}
use Rattle.queue_calls.proofs.Remaining.{write_leaves}
use Rattle.queue_calls.proofs.Telling.{Follows, follows_done, follows_part, part_told, performs}
use Rattle.queue_calls.proofs.writing.write.Goals as goal

pub write-told-requires-clause-kept : goal.write-told-requires-clause-kept
write-told-requires-clause-kept c = let some = c.requires.stands in is_kept c.args.script.now c.args.objects.now some.1.kept

pub write-told-requires-clause-alive : goal.write-told-requires-clause-alive
write-told-requires-clause-alive c = runs_alive c.args.objects.now c.args.caller.now.place.pid c.args.caller.now.control c.requires.runs

pub write-told-requires-clause-off : goal.write-told-requires-clause-off
write-told-requires-clause-off c = c.requires.off

pub do_part-requires-clause-kept : goal.do_part-requires-clause-kept
do_part-requires-clause-kept c =
    let some = c.requires.stands in
    let names = names_written c.args.script.now c.args.objects.now c.write-told.new.heap c.args.caller.now.place.pid _ _ _ c.args.done c.write-told.result
    (c.write-told.ensures.leads c.args.script.now) c.requires.stands
    c.requires.off in
    (c.args.script.now, kept_mid c.args.script.now c.args.objects.now c.write-told.new.heap c.write-told.ensures.kept (leaves_more c.args.objects.now.heap c.write-told.new.heap c.write-told.ensures.beside c.write-told.ensures.links) names some.1.kept)

pub do_part-requires-clause-runs : goal.do_part-requires-clause-runs
do_part-requires-clause-runs c =
    let names = names_written c.args.script.now c.args.objects.now c.write-told.new.heap c.args.caller.now.place.pid _ _ _ c.args.done c.write-told.result
    (c.write-told.ensures.leads c.args.script.now) c.requires.stands
    c.requires.off in
    runs_mid c.args.script.now c.args.objects.now c.write-told.new.heap c.write-told.ensures.kept (leaves_more c.args.objects.now.heap c.write-told.new.heap c.write-told.ensures.beside c.write-told.ensures.links) names
    c.args.caller.now.place.pid c.args.caller.now.control c.requires.runs

-- a part is less than the bytes that are left
pub do_part-requires-clause-fits : goal.do_part-requires-clause-fits
do_part-requires-clause-fits c =
    let script = c.args.script.now in
    let old = c.args.objects.now in
    let some = c.requires.stands in
    let plain = some.0.plain in
    let pid = c.args.caller.now.place.pid in
    let within : ℕ → Type 0 = λ moved. c.args.done + moved ≤ count_of c.args.n in
    let led = of_three (λ fd addr n. Leads script some.1.files.numbers c.write-told.new.heap old.procs plain some.0.account pid (call.Write fd addr n c.args.done) (write_ignoring script plain pid fd addr n c.args.done) c.write-told.result)
    _ _ _ c.args.on.now.fd c.args.addr c.args.n refl (to_z-of_z w64 c.args.addr c.ranges.addr) (to_z-of_z w64 c.args.n c.ranges.n)
    (c.write-told.ensures.leads script some.1.files.numbers plain some.0.account (queues_stand script old some.0 some.1)) in
    let told : IsTold script plain pid (write_ignoring script plain pid c.args.on.now.fd c.args.addr c.args.n c.args.done) (turned.Part c.in-Part.moved) led.next =
    subst (λ t. IsTold script plain pid (write_ignoring script plain pid c.args.on.now.fd c.args.addr c.args.n c.args.done) t led.next) c.in-Part.is led.told_so in
    let more : c.args.done + c.in-Part.moved ≤ count_of c.args.n =
    part_told script plain pid within _ c.in-Part.moved led.next told
    (write_leaves within script plain pid c.args.on.now.fd (off_world script old some.0 pid c.args.on.now.fd some.1 c.requires.off) c.args.addr c.args.n c.args.done (λ moved less. less)) in
    let few = count_few c.args.addr c.args.n c.requires.right in
    let same = c.requires.so_far in
    omega arith

pub go_on_done-requires-clause-kept : goal.go_on_done-requires-clause-kept
go_on_done-requires-clause-kept c =
    let some = c.requires.stands in
    let names = names_written c.args.script.now c.args.objects.now c.write-told.new.heap c.args.caller.now.place.pid _ _ _ c.args.done c.write-told.result
    (c.write-told.ensures.leads c.args.script.now) c.requires.stands
    c.requires.off in
    kept_mid c.args.script.now c.args.objects.now c.write-told.new.heap c.write-told.ensures.kept (leaves_more c.args.objects.now.heap c.write-told.new.heap c.write-told.ensures.beside c.write-told.ensures.links) names some.1.kept

pub go_on_done-requires-clause-runs : goal.go_on_done-requires-clause-runs
go_on_done-requires-clause-runs c =
    let names = names_written c.args.script.now c.args.objects.now c.write-told.new.heap c.args.caller.now.place.pid _ _ _ c.args.done c.write-told.result
    (c.write-told.ensures.leads c.args.script.now) c.requires.stands
    c.requires.off in
    runs_mid c.args.script.now c.args.objects.now c.write-told.new.heap c.write-told.ensures.kept (leaves_more c.args.objects.now.heap c.write-told.new.heap c.write-told.ensures.beside c.write-told.ensures.links) names
    c.args.caller.now.place.pid c.args.caller.now.control c.requires.runs

pub returns-in-Part-clause-kept : goal.returns-in-Part-clause-kept
returns-in-Part-clause-kept c =
    let some = c.requires.stands in
    let names = names_written c.args.script.now c.args.objects.now c.write-told.new.heap c.args.caller.now.place.pid _ _ _ c.args.done c.write-told.result
    (c.write-told.ensures.leads c.args.script.now) c.requires.stands
    c.requires.off in
    c.do_part.ensures.kept c.args.script.now
    (kept_mid c.args.script.now c.args.objects.now c.write-told.new.heap c.write-told.ensures.kept (leaves_more c.args.objects.now.heap c.write-told.new.heap c.write-told.ensures.beside c.write-told.ensures.links) names some.1.kept)

pub returns-in-Part-clause-paid : goal.returns-in-Part-clause-paid
returns-in-Part-clause-paid c =
    IsPaid-trans c.args.objects.now.heap c.args.purse.now c.write-told.new.heap c.write-told.new.purse c.do_part.new.objects.heap c.write-told.new.purse c.write-told.ensures.paid
    (IsPaid-nothing c.write-told.new.heap c.do_part.new.objects.heap c.write-told.new.purse c.write-told.new.purse c.do_part.ensures.takes refl refl)

pub returns-in_default-clause-paid : goal.returns-in_default-clause-paid
returns-in_default-clause-paid c =
    IsPaid-trans c.args.objects.now.heap c.args.purse.now c.write-told.new.heap c.write-told.new.purse c.go_on_done.new.objects.heap c.write-told.new.purse c.write-told.ensures.paid
    (IsPaid-nothing c.write-told.new.heap c.go_on_done.new.objects.heap c.write-told.new.purse c.write-told.new.purse c.go_on_done.ensures.takes refl refl)

-- what it leads to, whatever was told
leads : (script : Script) (old new : Objects) (heap : Heap) (pid : ℕ) (fd addr n as_fd as_addr as_n : ℤ) (done : ℕ) (told : Turned) → as_fd ≡ fd → as_addr ≡ addr → as_n ≡ n
    → (kept : IsKept heap old.procs) → (beside : heap ≡ record old.heap { pipes = heap.pipes; chunks = heap.chunks; socks = heap.socks; high = heap.high }) → KeepsLinks old.heap heap
    → ((key : ℕ) → name_of heap.socks key ≡ name_of old.heap.socks key) → IsOffNodes old.heap old.procs pid fd
    → ((numbers : Numbers) (plain : Plain) (account : Account) → QueuesStandFor numbers old.heap old.procs plain account
    → Leads script numbers heap old.procs plain account pid (call.Write as_fd as_addr as_n done) (write_ignoring script plain pid as_fd as_addr as_n done) told)
    → Follows script (record { heap = heap; procs = old.procs; tree = old.tree; names = old.names; fifos = old.fifos; locks = old.locks }) pid (λ moved. done + moved ≤ count_of n) told new
    → Performs script old pid (call.Write fd addr n done) (λ plain. write_ignoring script plain pid fd addr n done) told new
leads script old new heap pid fd addr n as_fd as_addr as_n done told first second third kept beside links names off each follows =
    performs script old heap kept (leaves_more old.heap heap beside links) names pid (call.Write fd addr n done) (λ moved. done + moved ≤ count_of n) new
    (λ plain. write_ignoring script plain pid fd addr n done) told
    (λ numbers plain account stands.
    of_three (λ x y z. Leads script numbers heap old.procs plain account pid (call.Write x y z done) (write_ignoring script plain pid x y z done) told) as_fd as_addr as_n fd addr n
    first second third (each numbers plain account stands))
    (λ world stands. write_leaves (λ moved. done + moved ≤ count_of n) script world.plain pid fd (off_world script old world pid fd stands off) addr n done (λ moved less. less))
    follows

pub returns-in-Part-clause-does : goal.returns-in-Part-clause-does
returns-in-Part-clause-does c =
    let script = c.args.script.now in
    let old = c.args.objects.now in
    let pid = c.args.caller.now.place.pid in
    let new = c.do_part.new.objects in
    let names = names_written c.args.script.now c.args.objects.now c.write-told.new.heap c.args.caller.now.place.pid _ _ _ c.args.done c.write-told.result
    (c.write-told.ensures.leads c.args.script.now) c.requires.stands
    c.requires.off in
    subst (λ t. Performs script old pid (call.Write c.args.on.now.fd c.args.addr c.args.n c.args.done) (λ plain. write_ignoring script plain pid c.args.on.now.fd c.args.addr c.args.n c.args.done) t new)
    (c.in-Part.is ∙ sym c.do_part.ensures.told)
    (leads script old new c.write-told.new.heap pid c.args.on.now.fd c.args.addr c.args.n _ _ _ c.args.done c.write-told.result
    refl (to_z-of_z w64 c.args.addr c.ranges.addr) (to_z-of_z w64 c.args.n c.ranges.n) c.write-told.ensures.kept c.write-told.ensures.beside c.write-told.ensures.links names c.requires.off
    (c.write-told.ensures.leads script)
    (follows_part script (record { heap = c.write-told.new.heap; procs = old.procs; tree = old.tree; names = old.names; fifos = old.fifos; locks = old.locks }) pid (λ moved. c.args.done + moved ≤ count_of c.args.n) c.write-told.result new c.in-Part.moved
    c.in-Part.is (c.do_part.ensures.goes script)))

pub returns-in_default-clause-does : goal.returns-in_default-clause-does
returns-in_default-clause-does c =
    let script = c.args.script.now in
    let old = c.args.objects.now in
    let pid = c.args.caller.now.place.pid in
    let new = c.go_on_done.new.objects in
    let names = names_written c.args.script.now c.args.objects.now c.write-told.new.heap c.args.caller.now.place.pid _ _ _ c.args.done c.write-told.result
    (c.write-told.ensures.leads c.args.script.now) c.requires.stands
    c.requires.off in
    subst (λ t. Performs script old pid (call.Write c.args.on.now.fd c.args.addr c.args.n c.args.done) (λ plain. write_ignoring script plain pid c.args.on.now.fd c.args.addr c.args.n c.args.done) t new)
    (sym c.go_on_done.ensures.told)
    (leads script old new c.write-told.new.heap pid c.args.on.now.fd c.args.addr c.args.n _ _ _ c.args.done c.write-told.result
    refl (to_z-of_z w64 c.args.addr c.ranges.addr) (to_z-of_z w64 c.args.n c.ranges.n) c.write-told.ensures.kept c.write-told.ensures.beside c.write-told.ensures.links names c.requires.off
    (c.write-told.ensures.leads script)
    (follows_done script (record { heap = c.write-told.new.heap; procs = old.procs; tree = old.tree; names = old.names; fifos = old.fifos; locks = old.locks }) pid (λ moved. c.args.done + moved ≤ count_of c.args.n) c.write-told.result new
    c.go_on_done.ensures.goes (λ moved is some. c.in_default.not-Part moved is)))
