use Rattle.std.proofs.Common.{refl, subst, sym}
use Rattle.answer_laws.proofs.KeptLocks.{leaves_locks}
use Rattle.kabi_types.specs.declared.calls.Call.TheVariants as call
use Rattle.kheap_laws.proofs.PaidLemmas.{IsPaid-nothing, IsPaid-trans}
use Rattle.store_objects.proofs.Replying.{no_frames}
use Rattle.queue_calls.proofs.Performing.{kept_then, performs_anew, runs_then}
use Rattle.posix_defs.specs.Calls.OnSockets.{socketpair}
use Rattle.proc_numbers.specs.Answering.{pair_of}
use Rattle.proc_numbers.specs.PipeOpening.{AnswersAnew}
use Rattle.store_objects.proofs.Keeping.{listed_in}
use Rattle.queue_calls.proofs.NamingSockets.{names_made}
use Rattle.queue_calls.proofs.StayingSockets.{socketpair_stays}
use Rattle.queue_calls.proofs.making.socketpair.Goals as goal

pub make_pair-requires-clause-listed : goal.make_pair-requires-clause-listed
make_pair-requires-clause-listed c = let some = c.requires.stands in listed_in c.args.script.now c.args.objects.now some.1.kept

pub make_pair-requires-clause-owners : goal.make_pair-requires-clause-owners
make_pair-requires-clause-owners c = let some = c.requires.stands in some.1.kept.owners

pub go_on-requires-clause-kept : goal.go_on-requires-clause-kept
go_on-requires-clause-kept c =
    let some = c.requires.stands in
    let done = c.make_pair.ensures in
    let names = names_made c.args.script.now c.args.objects.now c.make_pair.new.heap c.args.caller.now.place.pid (pair_of c.make_pair.result) (λ plain. socketpair c.args.script.now plain c.args.caller.now.place.pid)
    (λ plain. socketpair_stays c.args.script.now plain c.args.caller.now.place.pid) some done.still (λ numbers plain have. done.answers numbers c.args.script.now plain have) in
    kept_then c.args.script.now c.args.objects.now c.make_pair.new.heap c.args.caller.now.place.pid c.args.caller.now.control some.1.kept c.requires.runs done.changes done.listed done.owners names

pub go_on-requires-clause-runs : goal.go_on-requires-clause-runs
go_on-requires-clause-runs c =
    let some = c.requires.stands in
    let done = c.make_pair.ensures in
    let names = names_made c.args.script.now c.args.objects.now c.make_pair.new.heap c.args.caller.now.place.pid (pair_of c.make_pair.result) (λ plain. socketpair c.args.script.now plain c.args.caller.now.place.pid)
    (λ plain. socketpair_stays c.args.script.now plain c.args.caller.now.place.pid) some done.still (λ numbers plain have. done.answers numbers c.args.script.now plain have) in
    runs_then c.args.script.now c.args.objects.now c.make_pair.new.heap c.args.caller.now.place.pid c.args.caller.now.control some.1.kept c.requires.runs done.changes done.listed done.owners names

pub returns-clause-paid : goal.returns-clause-paid
returns-clause-paid c =
    IsPaid-trans c.args.objects.now.heap c.args.purse.now c.make_pair.new.heap c.make_pair.new.purse c.go_on.new.objects.heap c.make_pair.new.purse c.make_pair.ensures.paid
    (IsPaid-nothing c.make_pair.new.heap c.go_on.new.objects.heap c.make_pair.new.purse c.make_pair.new.purse c.go_on.ensures.takes refl refl)

pub returns-clause-does : goal.returns-clause-does
returns-clause-does c =
    let some = c.requires.stands in
    let script = c.args.script.now in
    let old = c.args.objects.now in
    let heap = c.make_pair.new.heap in
    let pid = c.args.caller.now.place.pid in
    let done = c.make_pair.ensures in
    let names = names_made c.args.script.now c.args.objects.now c.make_pair.new.heap c.args.caller.now.place.pid (pair_of c.make_pair.result) (λ plain. socketpair c.args.script.now plain c.args.caller.now.place.pid)
    (λ plain. socketpair_stays c.args.script.now plain c.args.caller.now.place.pid) some done.still (λ numbers plain have. done.answers numbers c.args.script.now plain have) in
    let said = c.pair-reply.result in
    performs_anew script old heap pid c.args.caller.now.control some.1.kept c.requires.runs done.changes done.listed done.owners names
    c.go_on.new.objects call.Socketpair said c.go_on.result (λ plain. socketpair script plain pid)
    done.queues
    (λ plain. socketpair_stays script plain pid) c.go_on.ensures.told c.go_on.ensures.goes (no_frames call.Socketpair (λ frames pid value. refl) pid said)
    (λ plain. leaves_locks script plain pid call.Socketpair refl)
    (λ numbers plain have.
    subst (AnswersAnew numbers old.heap heap old.procs script plain pid (socketpair script plain pid)) (sym c.pair-reply.ensures)
    (done.answers numbers script plain have))
