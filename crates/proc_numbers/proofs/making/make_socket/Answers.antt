use Rattle.std.proofs.Common.{is_some, ◌<◌, ◌∙◌, false, [], ap, pos, refl, subst, sym, length}
use Rattle.std.specs.Prelude.{IfSome}
use Rattle.kabi_types.specs.declared.replies.Reply.TheVariants.{Val}
use Rattle.kabi_types.specs.declared.errnos.Errno.TheVariants.{EMFILE}
use Rattle.kheap_slabs.specs.Heap.{Heap}
use Rattle.kheap_slabs.specs.Purse.{Purse}
use Rattle.kheap_laws.proofs.PaidLemmas.{IsPaid-trans}
use Rattle.posix_defs.specs.Answer.{replied}
use Rattle.posix_defs.specs.Calls.OnSockets.{description_of, socket}
use Rattle.posix_defs.specs.Files.State.{opened_as, with_sockets}
use Rattle.posix_defs.specs.Plain.{with_files}
use Rattle.posix_defs.specs.Sockets.{with_new}
use Rattle.pipe_ends.proofs.LinkLemmas.{links_same}
use Rattle.proc_numbers.specs.Having.{OpensNoNode}
use Rattle.proc_numbers.specs.Naming.{named_at}
use Rattle.proc_numbers.proofs.Fronts.{queues_same, queues_then}
use Rattle.proc_numbers.proofs.NumberCloses.{listed_on, no_some}
use Rattle.proc_numbers.proofs.Answered.{refused}
use Rattle.proc_numbers.proofs.Changes.{changes_after, changes_nothing}
use Rattle.proc_numbers.proofs.Lowest.{IsLowest}
use Rattle.proc_numbers.specs.SocketOpening.{with_desc, with_sock}
use Rattle.proc_numbers.proofs.Owners.{free_apart, owners_one}
use Rattle.proc_numbers.proofs.Renaming.{given}
use Rattle.proc_numbers.proofs.StillUsed.{still_made, still_on}
use Rattle.proc_numbers.proofs.Told.{beside_changed, have_socket, keeps_desc, keeps_same, keeps_sock, queues_changed, socket_fails, socket_makes, vacant_changed}
use Rattle.proc_numbers.proofs.making.make_socket.Goals as goal

-- ---- no number is free

pub returns-in_default-clause-answers : goal.returns-in_default-clause-answers
returns-in_default-clause-answers c = λ numbers script plain have. record {
  now = numbers;
  keeps = keeps_same c.args.heap.now numbers;
  answers =
      let none = no_some c.lowest_from.result c.in_default.not-Some in
      refused numbers c.args.heap.now c.args.procs.now script plain c.args.place.pid (socket script plain c.args.place.pid) EMFILE
      (socket_fails script plain c.args.place.pid (c.lowest_from.ensures.lowest numbers plain.files have ∙ none)) have;
}

pub returns-in_default-clause-changes : goal.returns-in_default-clause-changes
returns-in_default-clause-changes c = changes_nothing c.args.heap.now c.args.procs.now c.args.place.pid c.requires.listed (ap is_some c.requires.there)

pub returns-in_default-clause-queues : goal.returns-in_default-clause-queues
returns-in_default-clause-queues c = queues_same c.args.heap.now c.args.heap.now refl refl

-- ---- one is

pub open_on-requires-clause-listed : goal.open_on-requires-clause-listed
open_on-requires-clause-listed c =
    listed_on c.args.heap.now c.sock_make-made.new.heap c.args.procs.now (ap (λ (h : Heap). h.procs) c.sock_make-made.ensures.others.kept) (ap (λ (h : Heap). h.leaves) c.sock_make-made.ensures.others.kept) c.requires.listed

pub open_on-requires-clause-named : goal.open_on-requires-clause-named
open_on-requires-clause-named c =
    (owners_one c.args.heap.now c.sock_make-made.new.heap [] c.sock_make-made.result
    (record { others = c.sock_make-made.ensures.others; objects = c.sock_make-made.ensures.owned; held = c.sock_make-made.ensures.held })
    c.requires.owners (free_apart c.args.heap.now [] c.sock_make-made.result c.requires.owners c.sock_make-made.ensures.vacant)).named

pub open_on-requires-clause-number : goal.open_on-requires-clause-number
open_on-requires-clause-number c = (subst (λ o. IfSome o (IsLowest c.args.heap.now c.args.procs.now c.args.place.pid 0)) c.in-Some.is c.lowest_from.ensures.free).0

pub open_on-requires-clause-free : goal.open_on-requires-clause-free
open_on-requires-clause-free c =
    ap (λ (h : Heap). named_at h c.args.procs.now c.args.place.pid c.in-Some.number) c.sock_make-made.ensures.others.kept
    ∙ (subst (λ o. IfSome o (IsLowest c.args.heap.now c.args.procs.now c.args.place.pid 0)) c.in-Some.is c.lowest_from.ensures.free).2

pub returns-clause-answers : goal.returns-clause-answers
returns-clause-answers c = λ numbers script plain have.
    let made = c.sock_make-made.result in
    let mid = c.sock_make-made.new.heap in
    let then = with_sock numbers plain.files made in
    let files = with_sockets plain.files (with_new plain.files.sockets (length plain.files.sockets)) in
    let opens = c.open_on.ensures.opened then files
    (have_socket numbers c.args.heap.now mid c.args.procs.now c.sock_make-made.ensures.others c.requires.owners plain.files have made c.sock_make-made.ensures.vacant c.sock_make-made.ensures.used c.sock_make-made.ensures.stands) in
    record {
      now = with_desc then files opens.key;
      keeps = keeps_desc c.args.heap.now numbers then files opens.key (vacant_changed c.args.heap.now mid c.sock_make-made.ensures.others opens.key opens.vacant)
          (keeps_sock c.args.heap.now numbers plain.files made c.sock_make-made.ensures.vacant);
      answers = record {
        files = opened_as files c.args.place.pid c.in-Some.number false (description_of (then.socks made));
        replies =
            socket_makes script plain c.args.place.pid c.in-Some.number (c.lowest_from.ensures.lowest numbers plain.files have ∙ c.in-Some.is)
            ∙ ap (λ place. replied script (with_files plain (opened_as files c.args.place.pid c.in-Some.number false (description_of place))) c.args.place.pid (Val (pos c.in-Some.number)))
            (sym (given numbers.socks made (length plain.files.sockets)));
        stands = opens.stands;
      };
    }

pub returns-clause-nodes : goal.returns-clause-nodes
returns-clause-nodes c = λ none. c.open_on.ensures.nodes (subst (λ (h : Heap). OpensNoNode h.descs) (sym c.sock_make-made.ensures.others.kept) none)

pub returns-clause-owners : goal.returns-clause-owners
returns-clause-owners c =
    c.open_on.ensures.owners (owners_one c.args.heap.now c.sock_make-made.new.heap [] c.sock_make-made.result
    (record { others = c.sock_make-made.ensures.others; objects = c.sock_make-made.ensures.owned; held = c.sock_make-made.ensures.held })
    c.requires.owners (free_apart c.args.heap.now [] c.sock_make-made.result c.requires.owners c.sock_make-made.ensures.vacant))

pub returns-clause-changes : goal.returns-clause-changes
returns-clause-changes c =
    changes_after c.args.heap.now c.sock_make-made.new.heap c.open_on.new.heap c.args.procs.now c.args.place.pid (ap (λ (h : Heap). h.procs) c.sock_make-made.ensures.others.kept)
    (beside_changed c.args.heap.now c.sock_make-made.new.heap c.sock_make-made.ensures.others)
    (links_same c.args.heap.now c.sock_make-made.new.heap (ap (λ (h : Heap). h.pipes) c.sock_make-made.ensures.others.kept)) c.open_on.ensures.changes

pub returns-clause-queues : goal.returns-clause-queues
returns-clause-queues c =
    queues_then c.args.heap.now c.sock_make-made.new.heap c.open_on.new.heap (queues_changed c.args.heap.now c.sock_make-made.new.heap c.sock_make-made.ensures.others c.sock_make-made.ensures.queues) c.open_on.ensures.queues

pub returns-clause-paid : goal.returns-clause-paid
returns-clause-paid c =
    IsPaid-trans c.args.heap.now c.args.purse.now c.sock_make-made.new.heap c.sock_make-made.new.purse c.open_on.new.heap c.open_on.new.purse c.sock_make-made.ensures.paid c.open_on.ensures.paid

pub returns-clause-still : goal.returns-clause-still
returns-clause-still c =
    still_on c.args.heap.now c.sock_make-made.new.heap c.open_on.new.heap c.open_on.ensures.socks
    (still_made c.args.heap.now c.sock_make-made.new.heap c.requires.owners c.sock_make-made.result c.sock_make-made.ensures.stands)

pub open_on-requires-clause-left_leaf : goal.open_on-requires-clause-left_leaf
open_on-requires-clause-left_leaf c = λ none. subst (λ (p : Purse). 0 < p.left.leaf) (sym c.sock_make-made.ensures.spent) c.requires.left_leaf
