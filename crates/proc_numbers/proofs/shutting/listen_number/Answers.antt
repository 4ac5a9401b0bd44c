use Rattle.std.proofs.Common.{is_some, ◌∙◌, [], ap, refl, subst}
use Rattle.kheap_slabs.specs.Heap.{Heap}
use Rattle.posix_defs.specs.Calls.OnSockets.{listen}
use Rattle.pipe_ends.proofs.LinkLemmas.{links_same}
use Rattle.proc_numbers.proofs.Fronts.{queues_same}
use Rattle.proc_numbers.proofs.NumberCloses.{listed_on}
use Rattle.proc_numbers.proofs.Answered.{refused}
use Rattle.proc_numbers.proofs.Changes.{changes_after, changes_nothing}
use Rattle.proc_numbers.specs.Finding.{FindsSocket}
use Rattle.proc_numbers.proofs.Owners.{owners_change}
use Rattle.proc_numbers.proofs.Told.{beside_changed, listen_as, listen_asks, listens, queues_changed, socket_there}
use Rattle.proc_numbers.proofs.shutting.listen_number.Goals as goal

-- ---- on a socket

pub listen-requires-clause-there : goal.listen-requires-clause-there
listen-requires-clause-there c = socket_there c.args.heap.now [] c.in-Ok.found.key c.requires.owners (c.in-Ok.ensures.there c.args.heap.now c.args.procs.now c.args.place.pid c.requires.opened)

pub returns-in-Ok-clause-answers : goal.returns-in-Ok-clause-answers
returns-in-Ok-clause-answers c = λ numbers script plain have.
    listens numbers c.args.heap.now c.listen.new.heap c.args.procs.now script plain c.args.place.pid c.args.on.now.fd c.in-Ok.found c.requires.owners (c.in-Ok.ensures.there c.args.heap.now c.args.procs.now c.args.place.pid c.requires.opened)
    (record { others = c.listen.ensures.others; objects = c.listen.ensures.owned; held = c.listen.ensures.held }) have c.listen.result
    (λ answer. subst (FindsSocket numbers script plain c.args.place.pid c.args.on.now.fd answer) c.in-Ok.is (c.socket.ensures.found c.args.heap.now c.args.procs.now c.args.place.pid numbers script plain answer c.requires.opened have))
    (c.listen.ensures.answer have.opened.socketed.keyed have.opened.socketed.stands)
    (c.listen.ensures.stands have.opened.socketed.keyed have.opened.socketed.stands)

pub returns-in-Ok-clause-listed : goal.returns-in-Ok-clause-listed
returns-in-Ok-clause-listed c = listed_on c.args.heap.now c.listen.new.heap c.args.procs.now (ap (λ (h : Heap). h.procs) c.listen.ensures.others.kept) (ap (λ (h : Heap). h.leaves) c.listen.ensures.others.kept) c.requires.listed

pub returns-in-Ok-clause-owners : goal.returns-in-Ok-clause-owners
returns-in-Ok-clause-owners c = owners_change c.args.heap.now c.listen.new.heap [] (record { others = c.listen.ensures.others; objects = c.listen.ensures.owned; held = c.listen.ensures.held }) c.requires.owners

pub returns-in-Ok-clause-changes : goal.returns-in-Ok-clause-changes
returns-in-Ok-clause-changes c =
    changes_after c.args.heap.now c.listen.new.heap c.listen.new.heap c.args.procs.now c.args.place.pid (ap (λ (h : Heap). h.procs) c.listen.ensures.others.kept)
    (beside_changed c.args.heap.now c.listen.new.heap c.listen.ensures.others)
    (links_same c.args.heap.now c.listen.new.heap (ap (λ (h : Heap). h.pipes) c.listen.ensures.others.kept))
    (changes_nothing c.listen.new.heap c.args.procs.now c.args.place.pid (listed_on c.args.heap.now c.listen.new.heap c.args.procs.now (ap (λ (h : Heap). h.procs) c.listen.ensures.others.kept) (ap (λ (h : Heap). h.leaves) c.listen.ensures.others.kept) c.requires.listed) (ap is_some c.requires.there))

pub returns-in-Ok-clause-queues : goal.returns-in-Ok-clause-queues
returns-in-Ok-clause-queues c = queues_changed c.args.heap.now c.listen.new.heap c.listen.ensures.others c.listen.ensures.queues

-- ---- on something else, or nothing

pub returns-in-Err-clause-answers : goal.returns-in-Err-clause-answers
returns-in-Err-clause-answers c = λ numbers script plain have.
    refused numbers c.args.heap.now c.args.procs.now script plain c.args.place.pid (listen script plain c.args.place.pid c.args.on.now.fd) c.in-Err.errno
    (listen_asks script plain c.args.place.pid c.args.on.now.fd ∙ subst (FindsSocket numbers script plain c.args.place.pid c.args.on.now.fd (listen_as script plain c.args.place.pid)) c.in-Err.is (c.socket.ensures.found c.args.heap.now c.args.procs.now c.args.place.pid numbers script plain (listen_as script plain c.args.place.pid) c.requires.opened have)) have

pub returns-in-Err-clause-changes : goal.returns-in-Err-clause-changes
returns-in-Err-clause-changes c = changes_nothing c.args.heap.now c.args.procs.now c.args.place.pid c.requires.listed (ap is_some c.requires.there)

pub returns-in-Err-clause-queues : goal.returns-in-Err-clause-queues
returns-in-Err-clause-queues c = queues_same c.args.heap.now c.args.heap.now refl refl
