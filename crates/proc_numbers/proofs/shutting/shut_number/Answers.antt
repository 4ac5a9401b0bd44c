use Rattle.std.proofs.Common.{is_some, ◌≡◌, ◌∙◌, [], ap, refl, subst, w64}
use Rattle.std.proofs.lemmas.Int.{to_z-of_z}
use Rattle.std.specs.Prelude.{MatchResult}
use Rattle.posix_defs.specs.Sockets.{after_shut}
use Rattle.usock_core.specs.Standing.{StandsFor as SocketsStandFor}
use Rattle.kheap_slabs.specs.Heap.{Heap}
use Rattle.posix_defs.specs.Calls.OnSockets.{shutdown}
use Rattle.pipe_ends.proofs.LinkLemmas.{links_same}
use Rattle.proc_numbers.proofs.Fronts.{queues_same}
use Rattle.proc_numbers.proofs.NumberCloses.{listed_on}
use Rattle.proc_numbers.proofs.Answered.{refused}
use Rattle.proc_numbers.proofs.Changes.{changes_after, changes_nothing}
use Rattle.proc_numbers.specs.Finding.{FindsSocket}
use Rattle.proc_numbers.proofs.Owners.{owners_change}
use Rattle.proc_numbers.proofs.Told.{beside_changed, shutdown_as, shutdown_asks, shuts, queues_changed, socket_there}
use Rattle.proc_numbers.proofs.shutting.shut_number.Goals as goal

-- ---- on a socket

pub shutdown-requires-clause-there : goal.shutdown-requires-clause-there
shutdown-requires-clause-there c = socket_there c.args.heap.now [] c.in-Ok.found.key c.requires.owners (c.in-Ok.ensures.there c.args.heap.now c.args.procs.now c.args.place.pid c.requires.opened)

pub returns-in-Ok-clause-answers : goal.returns-in-Ok-clause-answers
returns-in-Ok-clause-answers c = λ numbers script plain have.
    shuts numbers c.args.heap.now c.shutdown.new.heap c.args.procs.now script plain c.args.place.pid c.args.on.now.fd c.in-Ok.found c.requires.owners (c.in-Ok.ensures.there c.args.heap.now c.args.procs.now c.args.place.pid c.requires.opened)
    (record { others = c.shutdown.ensures.others; objects = c.shutdown.ensures.owned; held = c.shutdown.ensures.held }) have c.args.how c.shutdown.result
    (λ answer. subst (FindsSocket numbers script plain c.args.place.pid c.args.on.now.fd answer) c.in-Ok.is (c.socket.ensures.found c.args.heap.now c.args.procs.now c.args.place.pid numbers script plain answer c.requires.opened have))
    (c.shutdown.ensures.answer have.opened.socketed.keyed have.opened.socketed.stands)
    (subst (λ h. MatchResult c.shutdown.result (λ _. SocketsStandFor c.shutdown.new.heap (after_shut have.opened.socketed.keyed c.in-Ok.found.key h)) (λ _. c.shutdown.new.heap ≡ c.args.heap.now)) (to_z-of_z w64 c.args.how c.ranges.how) (c.shutdown.ensures.stands have.opened.socketed.keyed have.opened.socketed.stands))

pub returns-in-Ok-clause-listed : goal.returns-in-Ok-clause-listed
returns-in-Ok-clause-listed c = listed_on c.args.heap.now c.shutdown.new.heap c.args.procs.now (ap (λ (h : Heap). h.procs) c.shutdown.ensures.others.kept) (ap (λ (h : Heap). h.leaves) c.shutdown.ensures.others.kept) c.requires.listed

pub returns-in-Ok-clause-owners : goal.returns-in-Ok-clause-owners
returns-in-Ok-clause-owners c = owners_change c.args.heap.now c.shutdown.new.heap [] (record { others = c.shutdown.ensures.others; objects = c.shutdown.ensures.owned; held = c.shutdown.ensures.held }) c.requires.owners

pub returns-in-Ok-clause-changes : goal.returns-in-Ok-clause-changes
returns-in-Ok-clause-changes c =
    changes_after c.args.heap.now c.shutdown.new.heap c.shutdown.new.heap c.args.procs.now c.args.place.pid (ap (λ (h : Heap). h.procs) c.shutdown.ensures.others.kept)
    (beside_changed c.args.heap.now c.shutdown.new.heap c.shutdown.ensures.others)
    (links_same c.args.heap.now c.shutdown.new.heap (ap (λ (h : Heap). h.pipes) c.shutdown.ensures.others.kept))
    (changes_nothing c.shutdown.new.heap c.args.procs.now c.args.place.pid (listed_on c.args.heap.now c.shutdown.new.heap c.args.procs.now (ap (λ (h : Heap). h.procs) c.shutdown.ensures.others.kept) (ap (λ (h : Heap). h.leaves) c.shutdown.ensures.others.kept) c.requires.listed) (ap is_some c.requires.there))

pub returns-in-Ok-clause-queues : goal.returns-in-Ok-clause-queues
returns-in-Ok-clause-queues c = queues_changed c.args.heap.now c.shutdown.new.heap c.shutdown.ensures.others c.shutdown.ensures.queues

-- ---- on something else, or nothing

pub returns-in-Err-clause-answers : goal.returns-in-Err-clause-answers
returns-in-Err-clause-answers c = λ numbers script plain have.
    refused numbers c.args.heap.now c.args.procs.now script plain c.args.place.pid (shutdown script plain c.args.place.pid c.args.on.now.fd c.args.how) c.in-Err.errno
    (shutdown_asks script plain c.args.place.pid c.args.on.now.fd c.args.how ∙ subst (FindsSocket numbers script plain c.args.place.pid c.args.on.now.fd (shutdown_as script plain c.args.place.pid c.args.how)) c.in-Err.is (c.socket.ensures.found c.args.heap.now c.args.procs.now c.args.place.pid numbers script plain (shutdown_as script plain c.args.place.pid c.args.how) c.requires.opened have)) have

pub returns-in-Err-clause-changes : goal.returns-in-Err-clause-changes
returns-in-Err-clause-changes c = changes_nothing c.args.heap.now c.args.procs.now c.args.place.pid c.requires.listed (ap is_some c.requires.there)

pub returns-in-Err-clause-queues : goal.returns-in-Err-clause-queues
returns-in-Err-clause-queues c = queues_same c.args.heap.now c.args.heap.now refl refl
