use Rattle.std.proofs.Common.{ap, refl, subst, sym}
use Rattle.answer_laws.proofs.KeptLocks.{leaves_locks}
use Rattle.kabi_types.specs.declared.calls.Call.TheVariants as call
use Rattle.kheap_laws.proofs.PaidLemmas.{IsPaid-nothing, IsPaid-trans}
use Rattle.kheap_slabs.specs.Heap.{Heap}
use Rattle.posix_defs.specs.Calls.OnDescriptors.{dup}
use Rattle.proc_numbers.proofs.Fronts.{queues_same}
use Rattle.proc_files.specs.Names.{name_of}
use Rattle.proc_numbers.specs.Answering.{Answers}
use Rattle.store_objects.proofs.Keeping.{listed_in}
use Rattle.store_objects.proofs.Replying.{no_frames}
use Rattle.queue_calls.proofs.Performing.{kept_then, performs, runs_then}
use Rattle.queue_calls.proofs.Staying.{dup_stay}
use Rattle.queue_calls.proofs.descriptors.dup.Goals as goal

pub dup_one-requires-clause-listed : goal.dup_one-requires-clause-listed
dup_one-requires-clause-listed c = listed_in c.args.script.now c.args.objects.now c.requires.kept

pub dup_one-requires-clause-owners : goal.dup_one-requires-clause-owners
dup_one-requires-clause-owners c = c.requires.kept.owners

pub go_on-requires-clause-kept : goal.go_on-requires-clause-kept
go_on-requires-clause-kept c =
    let done = c.dup_one.ensures in
    kept_then c.args.script.now c.args.objects.now c.dup_one.new.heap c.args.caller.now.place.pid c.args.caller.now.control c.requires.kept c.requires.runs done.changes done.listed done.owners (λ key. ap (λ (h : Heap). name_of h.socks key) done.beside)

pub go_on-requires-clause-runs : goal.go_on-requires-clause-runs
go_on-requires-clause-runs c =
    let done = c.dup_one.ensures in
    runs_then c.args.script.now c.args.objects.now c.dup_one.new.heap c.args.caller.now.place.pid c.args.caller.now.control c.requires.kept c.requires.runs done.changes done.listed done.owners (λ key. ap (λ (h : Heap). name_of h.socks key) done.beside)

pub returns-clause-does : goal.returns-clause-does
returns-clause-does c =
    let script = c.args.script.now in
    let old = c.args.objects.now in
    let heap = c.dup_one.new.heap in
    let pid = c.args.caller.now.place.pid in
    let done = c.dup_one.ensures in
    let said = c.value-reply.result in
    let which = call.Dup c.args.on.now.fd in
    performs script old heap pid c.args.caller.now.control c.requires.kept c.requires.runs done.changes done.listed done.owners (λ key. ap (λ (h : Heap). name_of h.socks key) done.beside)
    c.go_on.new.objects which said c.go_on.result (λ plain. dup script plain pid c.args.on.now.fd)
    (queues_same old.heap heap (ap (λ (h : Heap). h.pipes) done.beside) (ap (λ (h : Heap). h.socks) done.beside))
    (λ plain. dup_stay script plain pid c.args.on.now.fd) c.go_on.ensures.told c.go_on.ensures.goes (no_frames which (λ frames pid value. refl) pid said)
    (λ plain. leaves_locks script plain pid which refl)
    (λ numbers plain have.
    subst (Answers numbers heap old.procs script plain pid (dup script plain pid c.args.on.now.fd)) (sym c.value-reply.ensures)
    (done.answers numbers script plain have))

pub returns-clause-paid : goal.returns-clause-paid
returns-clause-paid c =
    IsPaid-trans c.args.objects.now.heap c.args.purse.now c.dup_one.new.heap c.dup_one.new.purse c.go_on.new.objects.heap c.dup_one.new.purse c.dup_one.ensures.paid
    (IsPaid-nothing c.dup_one.new.heap c.go_on.new.objects.heap c.dup_one.new.purse c.dup_one.new.purse c.go_on.ensures.takes refl refl)
