use Rattle.std.proofs.Common.{◌∙◌, ap, refl, sym}
use Rattle.answer_laws.proofs.KeptLocks.{leaves_locks}
use Rattle.kabi_types.specs.declared.calls.Call.TheVariants as call
use Rattle.kheap_laws.proofs.PaidLemmas.{IsPaid-nothing, IsPaid-trans}
use Rattle.kheap_slabs.specs.Heap.{Heap}
use Rattle.store_objects.proofs.Replying.{no_frames}
use Rattle.queue_calls.proofs.Performing.{kept_then, performs_anew, runs_then}
use Rattle.posix_defs.specs.Calls.OnSockets.{accept}
use Rattle.proc_files.specs.Names.{name_of}
use Rattle.store_objects.proofs.Keeping.{listed_in}
use Rattle.queue_calls.proofs.NamingSockets.{names_made}
use Rattle.queue_calls.proofs.StayingSockets.{accept_stays}
use Rattle.queue_calls.proofs.Taking.{accepts_later, accepts_reply, nothing_taken}
use Rattle.queue_calls.proofs.Waiting.{performs_asleep}
use Rattle.queue_calls.proofs.accepting.accept.Goals as goal

pub accept_number-taken-requires-clause-listed : goal.accept_number-taken-requires-clause-listed
accept_number-taken-requires-clause-listed c = let some = c.requires.stands in listed_in c.args.script.now c.args.objects.now some.1.kept

pub accept_number-taken-requires-clause-owners : goal.accept_number-taken-requires-clause-owners
accept_number-taken-requires-clause-owners c = let some = c.requires.stands in some.1.kept.owners

pub go_on-requires-clause-kept : goal.go_on-requires-clause-kept
go_on-requires-clause-kept c =
    let some = c.requires.stands in
    let done = c.accept_number-taken.ensures in
    let names = names_made c.args.script.now c.args.objects.now c.accept_number-taken.new.heap c.args.caller.now.place.pid c.in-Some.reply (λ plain. accept c.args.script.now plain c.args.caller.now.place.pid c.args.on.now.fd)
    (λ plain. accept_stays c.args.script.now plain c.args.caller.now.place.pid c.args.on.now.fd) some done.still
    (λ numbers plain have.
    accepts_reply numbers c.args.objects.now.heap c.accept_number-taken.new.heap c.args.objects.now.procs c.args.script.now plain c.args.caller.now.place.pid _ c.accept_number-taken.result c.in-Some.reply
    (sym c.told.ensures ∙ c.in-Some.is) (done.answers numbers c.args.script.now plain have)) in
    kept_then c.args.script.now c.args.objects.now c.accept_number-taken.new.heap c.args.caller.now.place.pid c.args.caller.now.control some.1.kept c.requires.runs done.changes done.listed done.owners names

pub go_on-requires-clause-runs : goal.go_on-requires-clause-runs
go_on-requires-clause-runs c =
    let some = c.requires.stands in
    let done = c.accept_number-taken.ensures in
    let names = names_made c.args.script.now c.args.objects.now c.accept_number-taken.new.heap c.args.caller.now.place.pid c.in-Some.reply (λ plain. accept c.args.script.now plain c.args.caller.now.place.pid c.args.on.now.fd)
    (λ plain. accept_stays c.args.script.now plain c.args.caller.now.place.pid c.args.on.now.fd) some done.still
    (λ numbers plain have.
    accepts_reply numbers c.args.objects.now.heap c.accept_number-taken.new.heap c.args.objects.now.procs c.args.script.now plain c.args.caller.now.place.pid _ c.accept_number-taken.result c.in-Some.reply
    (sym c.told.ensures ∙ c.in-Some.is) (done.answers numbers c.args.script.now plain have)) in
    runs_then c.args.script.now c.args.objects.now c.accept_number-taken.new.heap c.args.caller.now.place.pid c.args.caller.now.control some.1.kept c.requires.runs done.changes done.listed done.owners names

pub returns-in-Some-clause-paid : goal.returns-in-Some-clause-paid
returns-in-Some-clause-paid c =
    IsPaid-trans c.args.objects.now.heap c.args.purse.now c.accept_number-taken.new.heap c.accept_number-taken.new.purse c.go_on.new.objects.heap c.accept_number-taken.new.purse c.accept_number-taken.ensures.paid
    (IsPaid-nothing c.accept_number-taken.new.heap c.go_on.new.objects.heap c.accept_number-taken.new.purse c.accept_number-taken.new.purse c.go_on.ensures.takes refl refl)

pub returns-in-Some-clause-does : goal.returns-in-Some-clause-does
returns-in-Some-clause-does c =
    let some = c.requires.stands in
    let script = c.args.script.now in
    let old = c.args.objects.now in
    let heap = c.accept_number-taken.new.heap in
    let pid = c.args.caller.now.place.pid in
    let done = c.accept_number-taken.ensures in
    let names = names_made c.args.script.now c.args.objects.now c.accept_number-taken.new.heap c.args.caller.now.place.pid c.in-Some.reply (λ plain. accept c.args.script.now plain c.args.caller.now.place.pid c.args.on.now.fd)
    (λ plain. accept_stays c.args.script.now plain c.args.caller.now.place.pid c.args.on.now.fd) some done.still
    (λ numbers plain have.
    accepts_reply numbers c.args.objects.now.heap c.accept_number-taken.new.heap c.args.objects.now.procs c.args.script.now plain c.args.caller.now.place.pid _ c.accept_number-taken.result c.in-Some.reply
    (sym c.told.ensures ∙ c.in-Some.is) (done.answers numbers c.args.script.now plain have)) in
    let taken = c.accept_number-taken.result in
    let said = c.in-Some.reply in
    let which = call.Accept c.args.on.now.fd in
    performs_anew script old heap pid c.args.caller.now.control some.1.kept c.requires.runs done.changes done.listed done.owners names
    c.go_on.new.objects which said c.go_on.result (λ plain. accept script plain pid c.args.on.now.fd)
    done.queues
    (λ plain. accept_stays script plain pid c.args.on.now.fd) c.go_on.ensures.told c.go_on.ensures.goes (no_frames which (λ frames pid value. refl) pid said)
    (λ plain. leaves_locks script plain pid which refl)
    (λ numbers plain have.
    accepts_reply numbers old.heap heap old.procs script plain pid (accept script plain pid c.args.on.now.fd) taken said (sym c.told.ensures ∙ c.in-Some.is)
    (done.answers numbers script plain have))

pub returns-in-None-clause-kept : goal.returns-in-None-clause-kept
returns-in-None-clause-kept c =
    let some = c.requires.stands in
    let done = c.accept_number-taken.ensures in
    kept_then c.args.script.now c.args.objects.now c.accept_number-taken.new.heap c.args.caller.now.place.pid c.args.caller.now.control some.1.kept c.requires.runs done.changes done.listed done.owners
    (λ key. ap (λ (h : Heap). name_of h.socks key) (nothing_taken c.accept_number-taken.result _ (sym c.told.ensures ∙ c.in-None.is) done.unchanged).0)

pub returns-in-None-clause-does : goal.returns-in-None-clause-does
returns-in-None-clause-does c =
    let script = c.args.script.now in
    let old = c.args.objects.now in
    let heap = c.accept_number-taken.new.heap in
    let pid = c.args.caller.now.place.pid in
    let done = c.accept_number-taken.ensures in
    let taken = c.accept_number-taken.result in
    let none = sym c.told.ensures ∙ c.in-None.is in
    performs_asleep script old heap pid (call.Accept c.args.on.now.fd) (λ plain. accept script plain pid c.args.on.now.fd) (nothing_taken taken _ none done.unchanged).0
    (λ world stands.
    accepts_later stands.files.numbers old.heap heap old.procs script world.plain pid (accept script world.plain pid c.args.on.now.fd) taken none
    (done.answers stands.files.numbers script world.plain stands.files.opened))
