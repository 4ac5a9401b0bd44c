use Rattle.std.proofs.Common.{is_some, ap, ◌∙◌, refl, subst}
use Rattle.posix_defs.specs.Calls.OnSockets.{accept}
use Rattle.proc_numbers.proofs.Fronts.{queues_same}
use Rattle.proc_numbers.proofs.Answered.{refused}
use Rattle.proc_numbers.proofs.Changes.{changes_nothing}
use Rattle.proc_numbers.specs.Finding.{FindsSocket}
use Rattle.proc_numbers.proofs.Told.{accept_as, accept_asks, keeps_same}
use Rattle.proc_numbers.proofs.accepting.accept_number.Goals as goal

pub returns-in-Ok-clause-answers : goal.returns-in-Ok-clause-answers
returns-in-Ok-clause-answers c = λ numbers script plain have.
    c.accept_on.ensures.answers numbers script plain c.args.on.now.fd have
    (λ answer. subst (FindsSocket numbers script plain c.args.place.pid c.args.on.now.fd answer) c.in-Ok.is (c.socket.ensures.found c.args.heap.now c.args.procs.now c.args.place.pid numbers script plain answer c.requires.opened have))

pub returns-in-Err-clause-answers : goal.returns-in-Err-clause-answers
returns-in-Err-clause-answers c = λ numbers script plain have.
    record {
      now = numbers;
      keeps = keeps_same c.args.heap.now numbers;
      answers = refused numbers c.args.heap.now c.args.procs.now script plain c.args.place.pid (accept script plain c.args.place.pid c.args.on.now.fd) c.in-Err.errno
          (accept_asks script plain c.args.place.pid c.args.on.now.fd
          ∙ subst (FindsSocket numbers script plain c.args.place.pid c.args.on.now.fd (accept_as script plain c.args.place.pid)) c.in-Err.is
          (c.socket.ensures.found c.args.heap.now c.args.procs.now c.args.place.pid numbers script plain (accept_as script plain c.args.place.pid) c.requires.opened have))
          have;
    }

pub returns-in-Err-clause-changes : goal.returns-in-Err-clause-changes
returns-in-Err-clause-changes c = changes_nothing c.args.heap.now c.args.procs.now c.args.place.pid c.requires.listed (ap is_some c.requires.there)

pub returns-in-Err-clause-queues : goal.returns-in-Err-clause-queues
returns-in-Err-clause-queues c = queues_same c.args.heap.now c.args.heap.now refl refl
