use Rattle.std.proofs.Common.{ap, of_z, refl, subst, sym, to_z, w64}
use Rattle.std.proofs.lemmas.Int.{to_z-of_z}
use Rattle.answer_laws.proofs.KeptLocks.{leaves_locks}
use Rattle.kabi_types.specs.declared.calls.Call.TheVariants as call
use Rattle.kheap_laws.proofs.PaidLemmas.{IsPaid-nothing, IsPaid-trans}
use Rattle.kheap_slabs.specs.Heap.{Heap}
use Rattle.posix_defs.specs.Calls.OnDescriptors.{fcntl}
use Rattle.proc_numbers.proofs.Fronts.{queues_same}
use Rattle.proc_files.specs.Names.{name_of}
use Rattle.proc_numbers.specs.Answering.{Answers, value_of}
use Rattle.store_objects.proofs.Keeping.{listed_in}
use Rattle.store_objects.proofs.Replying.{no_frames}
use Rattle.queue_calls.proofs.Performing.{kept_then, performs, runs_then}
use Rattle.queue_calls.proofs.Staying.{fcntl_stay}
use Rattle.queue_calls.proofs.descriptors.fcntl.Goals as goal

pub control-requires-clause-listed : goal.control-requires-clause-listed
control-requires-clause-listed c = listed_in c.args.script.now c.args.objects.now c.requires.kept

pub control-requires-clause-owners : goal.control-requires-clause-owners
control-requires-clause-owners c = c.requires.kept.owners

pub go_on-requires-clause-kept : goal.go_on-requires-clause-kept
go_on-requires-clause-kept c =
    let done = c.control.ensures in
    kept_then c.args.script.now c.args.objects.now c.control.new.heap c.args.caller.now.place.pid c.args.caller.now.control c.requires.kept c.requires.runs done.changes done.listed done.owners (λ key. ap (λ (h : Heap). name_of h.socks key) done.beside)

pub go_on-requires-clause-runs : goal.go_on-requires-clause-runs
go_on-requires-clause-runs c =
    let done = c.control.ensures in
    runs_then c.args.script.now c.args.objects.now c.control.new.heap c.args.caller.now.place.pid c.args.caller.now.control c.requires.kept c.requires.runs done.changes done.listed done.owners (λ key. ap (λ (h : Heap). name_of h.socks key) done.beside)

pub returns-clause-does : goal.returns-clause-does
returns-clause-does c =
    let script = c.args.script.now in
    let old = c.args.objects.now in
    let heap = c.control.new.heap in
    let pid = c.args.caller.now.place.pid in
    let done = c.control.ensures in
    let said = c.value-reply.result in
    let which = call.Fcntl c.args.on.now.fd c.args.cmd c.args.arg in
    performs script old heap pid c.args.caller.now.control c.requires.kept c.requires.runs done.changes done.listed done.owners (λ key. ap (λ (h : Heap). name_of h.socks key) done.beside)
    c.go_on.new.objects which said c.go_on.result (λ plain. fcntl script plain pid c.args.on.now.fd c.args.cmd c.args.arg)
    (queues_same old.heap heap (ap (λ (h : Heap). h.pipes) done.beside) (ap (λ (h : Heap). h.socks) done.beside))
    (λ plain. fcntl_stay script plain pid c.args.on.now.fd c.args.cmd c.args.arg) c.go_on.ensures.told c.go_on.ensures.goes (no_frames which (λ frames pid value. refl) pid said)
    (λ plain. leaves_locks script plain pid which refl)
    (λ numbers plain have.
    subst (Answers numbers heap old.procs script plain pid (fcntl script plain pid c.args.on.now.fd c.args.cmd c.args.arg)) (sym c.value-reply.ensures)
    (subst (λ z. Answers numbers heap old.procs script plain pid (fcntl script plain pid c.args.on.now.fd z c.args.arg) (value_of c.control.result)) (to_z-of_z w64 c.args.cmd c.ranges.cmd)
    (subst (λ z. Answers numbers heap old.procs script plain pid (fcntl script plain pid c.args.on.now.fd (to_z w64 (of_z w64 c.args.cmd)) z) (value_of c.control.result)) (to_z-of_z w64 c.args.arg c.ranges.arg)
    (done.answers numbers script plain have))))

pub returns-clause-paid : goal.returns-clause-paid
returns-clause-paid c =
    IsPaid-trans c.args.objects.now.heap c.args.purse.now c.control.new.heap c.control.new.purse c.go_on.new.objects.heap c.control.new.purse c.control.ensures.paid
    (IsPaid-nothing c.control.new.heap c.go_on.new.objects.heap c.control.new.purse c.control.new.purse c.go_on.ensures.takes refl refl)
