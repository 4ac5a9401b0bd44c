use Rattle.std.proofs.Common.{List, Option, ap, refl, subst, sym}
use Rattle.answer_laws.proofs.KeptLocks.{leaves_locks}
use Rattle.kabi_types.specs.declared.calls.Call.TheVariants as call
use Rattle.kheap_laws.proofs.PaidLemmas.{IsPaid-nothing, IsPaid-trans}
use Rattle.kheap_slabs.specs.declared.objects.Sock.{Sock}
use Rattle.posix_defs.specs.Calls.OnPipes.{pipe}
use Rattle.proc_files.specs.Names.{name_of}
use Rattle.proc_numbers.specs.PipeOpening.{AnswersAnew}
use Rattle.store_objects.proofs.Keeping.{listed_in}
use Rattle.store_objects.proofs.Replying.{no_frames}
use Rattle.queue_calls.proofs.Performing.{kept_then, performs_anew, runs_then}
use Rattle.queue_calls.proofs.Staying.{pipe_stay}
use Rattle.queue_calls.proofs.pipes.pipe.Goals as goal

pub make_pipe-requires-clause-listed : goal.make_pipe-requires-clause-listed
make_pipe-requires-clause-listed c = listed_in c.args.script.now c.args.objects.now c.requires.kept

pub make_pipe-requires-clause-owners : goal.make_pipe-requires-clause-owners
make_pipe-requires-clause-owners c = c.requires.kept.owners

pub go_on-requires-clause-kept : goal.go_on-requires-clause-kept
go_on-requires-clause-kept c =
    let done = c.make_pipe.ensures in
    kept_then c.args.script.now c.args.objects.now c.make_pipe.new.heap c.args.caller.now.place.pid c.args.caller.now.control c.requires.kept c.requires.runs done.changes done.listed done.owners (λ key. ap (λ (socks : List (Option Sock)). name_of socks key) done.sockets)

pub go_on-requires-clause-runs : goal.go_on-requires-clause-runs
go_on-requires-clause-runs c =
    let done = c.make_pipe.ensures in
    runs_then c.args.script.now c.args.objects.now c.make_pipe.new.heap c.args.caller.now.place.pid c.args.caller.now.control c.requires.kept c.requires.runs done.changes done.listed done.owners (λ key. ap (λ (socks : List (Option Sock)). name_of socks key) done.sockets)

pub returns-clause-paid : goal.returns-clause-paid
returns-clause-paid c =
    IsPaid-trans c.args.objects.now.heap c.args.purse.now c.make_pipe.new.heap c.make_pipe.new.purse c.go_on.new.objects.heap c.make_pipe.new.purse c.make_pipe.ensures.paid
    (IsPaid-nothing c.make_pipe.new.heap c.go_on.new.objects.heap c.make_pipe.new.purse c.make_pipe.new.purse c.go_on.ensures.takes refl refl)

pub returns-clause-does : goal.returns-clause-does
returns-clause-does c =
    let script = c.args.script.now in
    let old = c.args.objects.now in
    let heap = c.make_pipe.new.heap in
    let pid = c.args.caller.now.place.pid in
    let done = c.make_pipe.ensures in
    let said = c.pair-reply.result in
    performs_anew script old heap pid c.args.caller.now.control c.requires.kept c.requires.runs done.changes done.listed done.owners (λ key. ap (λ (socks : List (Option Sock)). name_of socks key) done.sockets)
    c.go_on.new.objects call.Pipe said c.go_on.result (λ plain. pipe script plain pid)
    done.queues
    (λ plain. pipe_stay script plain pid) c.go_on.ensures.told c.go_on.ensures.goes (no_frames call.Pipe (λ frames pid value. refl) pid said)
    (λ plain. leaves_locks script plain pid call.Pipe refl)
    (λ numbers plain have.
    subst (AnswersAnew numbers old.heap heap old.procs script plain pid (pipe script plain pid)) (sym c.pair-reply.ensures)
    (done.answers numbers script plain have))
