use Rattle.std.proofs.Common.{of_z, refl, subst, sym, to_z, w64}
use Rattle.std.proofs.lemmas.Int.{to_z-of_z}
use Rattle.answer_laws.proofs.KeptLocks.{leaves_locks}
use Rattle.kabi_types.specs.declared.calls.Call.TheVariants as call
use Rattle.kheap_laws.proofs.PaidLemmas.{TakesNothing-trans}
use Rattle.store_objects.proofs.Replying.{no_frames}
use Rattle.queue_calls.proofs.Performing.{kept_then, performs, runs_then}
use Rattle.posix_defs.specs.Calls.OnSockets.{shutdown}
use Rattle.proc_numbers.specs.Answering.{Answers, zero_of}
use Rattle.store_objects.proofs.Keeping.{listed_in}
use Rattle.queue_calls.proofs.NamingSockets.{names_told}
use Rattle.queue_calls.proofs.StayingSockets.{shutdown_stays}
use Rattle.queue_calls.proofs.shutting.shutdown.Goals as goal

pub shut_number-requires-clause-listed : goal.shut_number-requires-clause-listed
shut_number-requires-clause-listed c = let some = c.requires.stands in listed_in c.args.script.now c.args.objects.now some.1.kept

pub shut_number-requires-clause-owners : goal.shut_number-requires-clause-owners
shut_number-requires-clause-owners c = let some = c.requires.stands in some.1.kept.owners

pub go_on-requires-clause-kept : goal.go_on-requires-clause-kept
go_on-requires-clause-kept c =
    let some = c.requires.stands in
    let done = c.shut_number.ensures in
    let names = names_told c.args.script.now c.args.objects.now c.shut_number.new.heap c.args.caller.now.place.pid (zero_of c.shut_number.result) (λ plain. shutdown c.args.script.now plain c.args.caller.now.place.pid c.args.on.now.fd (to_z w64 (of_z w64 c.args.how)))
    (λ plain. shutdown_stays c.args.script.now plain c.args.caller.now.place.pid c.args.on.now.fd (to_z w64 (of_z w64 c.args.how))) some (λ numbers plain have. done.answers numbers c.args.script.now plain have) in
    kept_then c.args.script.now c.args.objects.now c.shut_number.new.heap c.args.caller.now.place.pid c.args.caller.now.control some.1.kept c.requires.runs done.changes done.listed done.owners names

pub go_on-requires-clause-runs : goal.go_on-requires-clause-runs
go_on-requires-clause-runs c =
    let some = c.requires.stands in
    let done = c.shut_number.ensures in
    let names = names_told c.args.script.now c.args.objects.now c.shut_number.new.heap c.args.caller.now.place.pid (zero_of c.shut_number.result) (λ plain. shutdown c.args.script.now plain c.args.caller.now.place.pid c.args.on.now.fd (to_z w64 (of_z w64 c.args.how)))
    (λ plain. shutdown_stays c.args.script.now plain c.args.caller.now.place.pid c.args.on.now.fd (to_z w64 (of_z w64 c.args.how))) some (λ numbers plain have. done.answers numbers c.args.script.now plain have) in
    runs_then c.args.script.now c.args.objects.now c.shut_number.new.heap c.args.caller.now.place.pid c.args.caller.now.control some.1.kept c.requires.runs done.changes done.listed done.owners names

pub returns-clause-takes : goal.returns-clause-takes
returns-clause-takes c = TakesNothing-trans c.args.objects.now.heap c.shut_number.new.heap c.go_on.new.objects.heap c.shut_number.ensures.takes c.go_on.ensures.takes

pub returns-clause-does : goal.returns-clause-does
returns-clause-does c =
    let some = c.requires.stands in
    let script = c.args.script.now in
    let old = c.args.objects.now in
    let heap = c.shut_number.new.heap in
    let pid = c.args.caller.now.place.pid in
    let done = c.shut_number.ensures in
    let names = names_told c.args.script.now c.args.objects.now c.shut_number.new.heap c.args.caller.now.place.pid (zero_of c.shut_number.result) (λ plain. shutdown c.args.script.now plain c.args.caller.now.place.pid c.args.on.now.fd (to_z w64 (of_z w64 c.args.how)))
    (λ plain. shutdown_stays c.args.script.now plain c.args.caller.now.place.pid c.args.on.now.fd (to_z w64 (of_z w64 c.args.how))) some (λ numbers plain have. done.answers numbers c.args.script.now plain have) in
    let said = c.zero-reply.result in
    let which = call.Shutdown c.args.on.now.fd c.args.how in
    performs script old heap pid c.args.caller.now.control some.1.kept c.requires.runs done.changes done.listed done.owners names
    c.go_on.new.objects which said c.go_on.result (λ plain. shutdown script plain pid c.args.on.now.fd c.args.how)
    done.queues
    (λ plain. shutdown_stays script plain pid c.args.on.now.fd c.args.how) c.go_on.ensures.told c.go_on.ensures.goes (no_frames which (λ frames pid value. refl) pid said)
    (λ plain. leaves_locks script plain pid which refl)
    (λ numbers plain have.
    subst (Answers numbers heap old.procs script plain pid (shutdown script plain pid c.args.on.now.fd c.args.how)) (sym c.zero-reply.ensures)
    (subst (λ z. Answers numbers heap old.procs script plain pid (shutdown script plain pid c.args.on.now.fd z) (zero_of c.shut_number.result)) (to_z-of_z w64 c.args.how c.ranges.how)
    (done.answers numbers script plain have)))
