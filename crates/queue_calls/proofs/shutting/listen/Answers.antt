use Rattle.std.proofs.Common.{refl, subst, sym}
use Rattle.answer_laws.proofs.KeptLocks.{leaves_locks}
use Rattle.kabi_types.specs.declared.calls.Call.TheVariants as call
use Rattle.kheap_laws.proofs.PaidLemmas.{TakesNothing-trans}
use Rattle.store_objects.proofs.Replying.{no_frames}
use Rattle.queue_calls.proofs.Performing.{kept_then, performs, runs_then}
use Rattle.posix_defs.specs.Calls.OnSockets.{listen}
use Rattle.proc_numbers.specs.Answering.{Answers, zero_of}
use Rattle.store_objects.proofs.Keeping.{listed_in}
use Rattle.queue_calls.proofs.NamingSockets.{names_told}
use Rattle.queue_calls.proofs.StayingSockets.{listen_stays}
use Rattle.queue_calls.proofs.shutting.listen.Goals as goal

pub listen_number-requires-clause-listed : goal.listen_number-requires-clause-listed
listen_number-requires-clause-listed c = let some = c.requires.stands in listed_in c.args.script.now c.args.objects.now some.1.kept

pub listen_number-requires-clause-owners : goal.listen_number-requires-clause-owners
listen_number-requires-clause-owners c = let some = c.requires.stands in some.1.kept.owners

pub go_on-requires-clause-kept : goal.go_on-requires-clause-kept
go_on-requires-clause-kept c =
    let some = c.requires.stands in
    let done = c.listen_number.ensures in
    let names = names_told c.args.script.now c.args.objects.now c.listen_number.new.heap c.args.caller.now.place.pid (zero_of c.listen_number.result) (λ plain. listen c.args.script.now plain c.args.caller.now.place.pid c.args.on.now.fd)
    (λ plain. listen_stays c.args.script.now plain c.args.caller.now.place.pid c.args.on.now.fd) some (λ numbers plain have. done.answers numbers c.args.script.now plain have) in
    kept_then c.args.script.now c.args.objects.now c.listen_number.new.heap c.args.caller.now.place.pid c.args.caller.now.control some.1.kept c.requires.runs done.changes done.listed done.owners names

pub go_on-requires-clause-runs : goal.go_on-requires-clause-runs
go_on-requires-clause-runs c =
    let some = c.requires.stands in
    let done = c.listen_number.ensures in
    let names = names_told c.args.script.now c.args.objects.now c.listen_number.new.heap c.args.caller.now.place.pid (zero_of c.listen_number.result) (λ plain. listen c.args.script.now plain c.args.caller.now.place.pid c.args.on.now.fd)
    (λ plain. listen_stays c.args.script.now plain c.args.caller.now.place.pid c.args.on.now.fd) some (λ numbers plain have. done.answers numbers c.args.script.now plain have) in
    runs_then c.args.script.now c.args.objects.now c.listen_number.new.heap c.args.caller.now.place.pid c.args.caller.now.control some.1.kept c.requires.runs done.changes done.listed done.owners names

pub returns-clause-takes : goal.returns-clause-takes
returns-clause-takes c = TakesNothing-trans c.args.objects.now.heap c.listen_number.new.heap c.go_on.new.objects.heap c.listen_number.ensures.takes c.go_on.ensures.takes

pub returns-clause-does : goal.returns-clause-does
returns-clause-does c =
    let some = c.requires.stands in
    let script = c.args.script.now in
    let old = c.args.objects.now in
    let heap = c.listen_number.new.heap in
    let pid = c.args.caller.now.place.pid in
    let done = c.listen_number.ensures in
    let names = names_told c.args.script.now c.args.objects.now c.listen_number.new.heap c.args.caller.now.place.pid (zero_of c.listen_number.result) (λ plain. listen c.args.script.now plain c.args.caller.now.place.pid c.args.on.now.fd)
    (λ plain. listen_stays c.args.script.now plain c.args.caller.now.place.pid c.args.on.now.fd) some (λ numbers plain have. done.answers numbers c.args.script.now plain have) in
    let said = c.zero-reply.result in
    let which = call.Listen c.args.on.now.fd in
    performs script old heap pid c.args.caller.now.control some.1.kept c.requires.runs done.changes done.listed done.owners names
    c.go_on.new.objects which said c.go_on.result (λ plain. listen script plain pid c.args.on.now.fd)
    done.queues
    (λ plain. listen_stays script plain pid c.args.on.now.fd) c.go_on.ensures.told c.go_on.ensures.goes (no_frames which (λ frames pid value. refl) pid said)
    (λ plain. leaves_locks script plain pid which refl)
    (λ numbers plain have.
    subst (Answers numbers heap old.procs script plain pid (listen script plain pid c.args.on.now.fd)) (sym c.zero-reply.ensures)
    (done.answers numbers script plain have))
