use Rattle.std.proofs.Common.{◌∙◌, false, [], ◌∷◌, Some, ap, refl, subst, sym}
use Rattle.std.specs.Prelude.{IfSome, is_some}
use Rattle.kheap_slabs.specs.Heap.{Heap}
use Rattle.kheap_laws.proofs.PaidLemmas.{CanPay-kept, IsPaid-nothing, IsPaid-trans}
use Rattle.posix_defs.specs.Calls.OnSockets.{accept, description_of}
use Rattle.posix_defs.specs.Files.State.{opened_as, with_sockets}
use Rattle.posix_defs.specs.Socket.{Takes, Waits, Refuses, accept as accept_in}
use Rattle.posix_defs.specs.Sockets.{after_accept, stage_at}
use Rattle.pipe_ends.proofs.LinkLemmas.{links_same}
use Rattle.proc_numbers.specs.Having.{HaveOpen, OpensNoNode}
use Rattle.proc_numbers.specs.Naming.{ChangesNumbers, named_at}
use Rattle.proc_numbers.proofs.Fronts.{queues_then}
use Rattle.proc_numbers.proofs.NumberCloses.{listed_on}
use Rattle.proc_numbers.proofs.Answered.{refused}
use Rattle.proc_numbers.proofs.Changes.{changes_after, changes_nothing}
use Rattle.proc_numbers.proofs.Lowest.{IsLowest}
use Rattle.proc_numbers.specs.SocketOpening.{with_desc}
use Rattle.proc_numbers.proofs.Owners.{owners_one}
use Rattle.proc_numbers.proofs.Renaming.{accept_renamed}
use Rattle.proc_numbers.proofs.StillUsed.{still_on, still_taken}
use Rattle.proc_numbers.proofs.Told.{accept_answer, beside_changed, have_after, keeps_desc, keeps_same, keyed_there, queues_changed, refuses_so, socket_there, taken_apart, vacant_changed, waits_so}
use Rattle.proc_numbers.proofs.accepting.accept_on.Goals as goal

pub accept-requires-clause-there : goal.accept-requires-clause-there
accept-requires-clause-there c = socket_there c.args.heap.now [] c.args.on.key c.requires.owners c.requires.named

-- ---- one is taken

pub open_on-requires-clause-listed : goal.open_on-requires-clause-listed
open_on-requires-clause-listed c = listed_on c.args.heap.now c.accept.new.heap c.args.procs.now (ap (λ (h : Heap). h.procs) c.in-Took.ensures.others.kept) (ap (λ (h : Heap). h.leaves) c.in-Took.ensures.others.kept) c.requires.listed

pub open_on-requires-clause-named : goal.open_on-requires-clause-named
open_on-requires-clause-named c =
    (owners_one c.args.heap.now c.accept.new.heap [] c.in-Took.taken
    (record { others = c.in-Took.ensures.others; objects = c.in-Took.ensures.owned; held = c.in-Took.ensures.held })
    c.requires.owners (taken_apart c.args.heap.now c.args.on.key c.in-Took.taken _ c.args.on.nonblock c.requires.owners c.in-Took.ensures.answer)).named

pub open_on-requires-clause-number : goal.open_on-requires-clause-number
open_on-requires-clause-number c = (subst (λ o. IfSome o (IsLowest c.args.heap.now c.args.procs.now c.args.place.pid 0)) c.in-Some.is c.lowest_from-lowest.ensures.free).0

pub open_on-requires-clause-free : goal.open_on-requires-clause-free
open_on-requires-clause-free c =
    ap (λ (h : Heap). named_at h c.args.procs.now c.args.place.pid c.in-Some.number) c.in-Took.ensures.others.kept
    ∙ (subst (λ o. IfSome o (IsLowest c.args.heap.now c.args.procs.now c.args.place.pid 0)) c.in-Some.is c.lowest_from-lowest.ensures.free).2

pub open_on-requires-clause-pays : goal.open_on-requires-clause-pays
open_on-requires-clause-pays c =
    CanPay-kept c.args.heap.now c.accept.new.heap c.args.purse.now c.args.purse.now
    (IsPaid-nothing c.args.heap.now c.accept.new.heap c.args.purse.now c.args.purse.now c.in-Took.ensures.takes refl refl) c.requires.pays

pub returns-in-Some-clause-answers : goal.returns-in-Some-clause-answers
returns-in-Some-clause-answers c = λ numbers script plain fd have finds.
    let heap = c.args.heap.now in
    let mid = c.accept.new.heap in
    let key = c.args.on.key in
    let keyed = have.opened.socketed in
    let used = keyed_there heap [] key c.requires.owners c.requires.named keyed.keyed keyed.stands in
    let sockets = after_accept plain.files.sockets (numbers.socks key) in
    let files = with_sockets plain.files sockets in
    let opens = c.open_on.ensures.opened numbers files
    (have_after numbers heap mid c.args.procs.now (c.in-Took.taken ∷ []) (record { others = c.in-Took.ensures.others; objects = c.in-Took.ensures.owned; held = c.in-Took.ensures.held })
    c.requires.owners plain.files have (after_accept keyed.keyed key) sockets (c.in-Took.ensures.stands keyed.keyed keyed.stands)
    (accept_renamed numbers.socks keyed.keyed plain.files.sockets key used keyed.renamed)) in
    record {
      now = with_desc numbers files opens.key;
      keeps = keeps_desc heap numbers numbers files opens.key (vacant_changed heap mid c.in-Took.ensures.others opens.key opens.vacant) (keeps_same heap numbers);
      answers = record {
        files = opened_as files c.args.place.pid c.in-Some.number false (description_of (numbers.socks c.in-Took.taken));
        replies =
            accept_answer numbers heap c.args.procs.now script plain c.args.place.pid fd c.args.on c.requires.owners c.requires.named have finds (Some c.in-Some.number)
            (c.lowest_from-lowest.ensures.lowest numbers plain.files have ∙ c.in-Some.is) (Takes c.in-Took.taken)
            (λ table stands. c.in-Took.ensures.answer table stands ∙ ap (λ b. accept_in (stage_at table key) b c.args.on.nonblock) (c.is_some.ensures ∙ ap is_some c.in-Some.is));
        stands = opens.stands;
      };
    }

pub returns-in-Some-clause-nodes : goal.returns-in-Some-clause-nodes
returns-in-Some-clause-nodes c = λ none. c.open_on.ensures.nodes (subst (λ (h : Heap). OpensNoNode h.descs) (sym c.in-Took.ensures.others.kept) none)

pub returns-in-Some-clause-owners : goal.returns-in-Some-clause-owners
returns-in-Some-clause-owners c =
    c.open_on.ensures.owners (owners_one c.args.heap.now c.accept.new.heap [] c.in-Took.taken
    (record { others = c.in-Took.ensures.others; objects = c.in-Took.ensures.owned; held = c.in-Took.ensures.held })
    c.requires.owners (taken_apart c.args.heap.now c.args.on.key c.in-Took.taken _ c.args.on.nonblock c.requires.owners c.in-Took.ensures.answer))

pub returns-in-Some-clause-changes : goal.returns-in-Some-clause-changes
returns-in-Some-clause-changes c =
    changes_after c.args.heap.now c.accept.new.heap c.open_on.new.heap c.args.procs.now c.args.place.pid (ap (λ (h : Heap). h.procs) c.in-Took.ensures.others.kept)
    (beside_changed c.args.heap.now c.accept.new.heap c.in-Took.ensures.others)
    (links_same c.args.heap.now c.accept.new.heap (ap (λ (h : Heap). h.pipes) c.in-Took.ensures.others.kept)) c.open_on.ensures.changes

pub returns-in-Some-clause-queues : goal.returns-in-Some-clause-queues
returns-in-Some-clause-queues c =
    queues_then c.args.heap.now c.accept.new.heap c.open_on.new.heap (queues_changed c.args.heap.now c.accept.new.heap c.in-Took.ensures.others c.in-Took.ensures.queues) c.open_on.ensures.queues

pub returns-in-Some-clause-paid : goal.returns-in-Some-clause-paid
returns-in-Some-clause-paid c =
    IsPaid-trans c.args.heap.now c.args.purse.now c.accept.new.heap c.args.purse.now c.open_on.new.heap c.open_on.new.purse
    (IsPaid-nothing c.args.heap.now c.accept.new.heap c.args.purse.now c.args.purse.now c.in-Took.ensures.takes refl refl) c.open_on.ensures.paid

-- ---- none is

pub returns-in-Blocked-clause-answers : goal.returns-in-Blocked-clause-answers
returns-in-Blocked-clause-answers c = λ numbers script plain fd have finds.
    accept_answer numbers c.args.heap.now c.args.procs.now script plain c.args.place.pid fd c.args.on c.requires.owners c.requires.named have finds c.lowest_from-lowest.result
    (c.lowest_from-lowest.ensures.lowest numbers plain.files have) Waits
    (λ table stands. c.in-Blocked.ensures.answer table stands ∙ ap (λ b. accept_in (stage_at table c.args.on.key) b c.args.on.nonblock) c.is_some.ensures)
    ∙ waits_so script plain c.args.place.pid (numbers.socks c.args.on.key) c.lowest_from-lowest.result

pub returns-in-Blocked-clause-changes : goal.returns-in-Blocked-clause-changes
returns-in-Blocked-clause-changes c =
    subst (λ (h : Heap). ChangesNumbers c.args.heap.now h c.args.procs.now c.args.place.pid) (sym c.in-Blocked.ensures.refused)
    (changes_nothing c.args.heap.now c.args.procs.now c.args.place.pid c.requires.listed (ap is_some c.requires.there))

pub returns-in-Blocked-clause-queues : goal.returns-in-Blocked-clause-queues
returns-in-Blocked-clause-queues c = queues_changed c.args.heap.now c.accept.new.heap c.in-Blocked.ensures.others c.in-Blocked.ensures.queues

pub returns-in-Fault-clause-answers : goal.returns-in-Fault-clause-answers
returns-in-Fault-clause-answers c = λ numbers script plain fd have finds. record {
  now = numbers;
  keeps = keeps_same c.args.heap.now numbers;
  answers =
      refused numbers c.accept.new.heap c.args.procs.now script plain c.args.place.pid (accept script plain c.args.place.pid fd) c.in-Fault.errno
      (accept_answer numbers c.args.heap.now c.args.procs.now script plain c.args.place.pid fd c.args.on c.requires.owners c.requires.named have finds c.lowest_from-lowest.result
      (c.lowest_from-lowest.ensures.lowest numbers plain.files have) (Refuses c.in-Fault.errno)
      (λ table stands. c.in-Fault.ensures.answer table stands ∙ ap (λ b. accept_in (stage_at table c.args.on.key) b c.args.on.nonblock) c.is_some.ensures)
      ∙ refuses_so script plain c.args.place.pid (numbers.socks c.args.on.key) c.lowest_from-lowest.result c.in-Fault.errno)
      (subst (λ (h : Heap). HaveOpen numbers h c.args.procs.now plain.files) (sym c.in-Fault.ensures.refused) have);
}

pub returns-in-Fault-clause-changes : goal.returns-in-Fault-clause-changes
returns-in-Fault-clause-changes c =
    subst (λ (h : Heap). ChangesNumbers c.args.heap.now h c.args.procs.now c.args.place.pid) (sym c.in-Fault.ensures.refused)
    (changes_nothing c.args.heap.now c.args.procs.now c.args.place.pid c.requires.listed (ap is_some c.requires.there))

pub returns-in-Fault-clause-queues : goal.returns-in-Fault-clause-queues
returns-in-Fault-clause-queues c = queues_changed c.args.heap.now c.accept.new.heap c.in-Fault.ensures.others c.in-Fault.ensures.queues

pub returns-in-Some-clause-still : goal.returns-in-Some-clause-still
returns-in-Some-clause-still c =
    still_on c.args.heap.now c.accept.new.heap c.open_on.new.heap c.open_on.ensures.socks
    (still_taken c.args.heap.now c.accept.new.heap c.requires.owners c.args.on.key c.in-Took.ensures.stands)

pub open_on-requires-clause-left_leaf : goal.open_on-requires-clause-left_leaf
open_on-requires-clause-left_leaf c = λ none. c.requires.left_leaf
