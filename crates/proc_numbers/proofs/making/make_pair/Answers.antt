use Rattle.std.proofs.Common.{is_some, ◌∙◌, ◌≡◌, ◌+◌, ◌<◌, false, [], ◌∷◌, Some, ap, arith, refl, subst, sym}
use Rattle.std.specs.Prelude.{IfSome}
use Rattle.kabi_types.specs.declared.replies.Reply.TheVariants.{Pair}
use Rattle.kabi_types.specs.declared.errnos.Errno.TheVariants.{EMFILE}
use Rattle.kheap_slabs.specs.Heap.{Heap}
use Rattle.kheap_slabs.specs.Purse.{Purse}
use Rattle.desc_table.specs.Copying.{spends_leaves}
use Rattle.desc_table.proofs.CopyLemmas.{spends_then}
use Rattle.kheap_laws.proofs.PaidLemmas.{CanPay-kept, IsPaid-trans}
use Rattle.posix_defs.specs.Answer.{replied}
use Rattle.posix_defs.specs.Calls.OnSockets.{socketpair}
use Rattle.posix_defs.specs.Files.State.{descriptors_of, with_open}
use Rattle.posix_defs.specs.Plain.{with_files}
use Rattle.pipe_ends.proofs.LinkLemmas.{links_same}
use Rattle.proc_numbers.specs.Having.{OpensNoNode}
use Rattle.proc_numbers.specs.Naming.{AreOpenBelow, named_at}
use Rattle.proc_numbers.proofs.Fronts.{queues_same, queues_then}
use Rattle.proc_numbers.proofs.NumberCloses.{listed_on, no_some}
use Rattle.proc_numbers.proofs.NumberOpens.{changes_named}
use Rattle.proc_numbers.proofs.NumberRooms.{leaf_for_second, spends_so}
use Rattle.proc_numbers.proofs.Answered.{refused}
use Rattle.proc_numbers.proofs.Changes.{changes_after, changes_nothing, changes_then, others_named}
use Rattle.proc_numbers.proofs.Lowest.{IsLowest}
use Rattle.proc_numbers.proofs.PipeAnswers.{none_free, one_free, two_free}
use Rattle.proc_numbers.specs.SocketOpening.{with_both}
use Rattle.proc_numbers.proofs.StillUsed.{still_on}
use Rattle.proc_numbers.proofs.Told.{keeps_same, pair_fails, pair_makes, paired_so}
use Rattle.proc_numbers.proofs.making.make_pair.Goals as goal

-- ---- fewer than two numbers are free

pub returns-in_default-clause-answers : goal.returns-in_default-clause-answers
returns-in_default-clause-answers c = λ numbers script plain have. record {
  now = numbers;
  keeps = keeps_same c.args.heap.now numbers;
  answers =
      let none = no_some c.lowest_from-lowest.result c.in_default.not-Some in
      refused numbers c.args.heap.now c.args.procs.now script plain c.args.place.pid (socketpair script plain c.args.place.pid) EMFILE
      (pair_fails script plain c.args.place.pid (none_free (descriptors_of plain.files c.args.place.pid) (c.lowest_from-lowest.ensures.lowest numbers plain.files have ∙ none))) have;
}

pub returns-in_default-clause-changes : goal.returns-in_default-clause-changes
returns-in_default-clause-changes c = changes_nothing c.args.heap.now c.args.procs.now c.args.place.pid c.requires.listed (ap is_some c.requires.there)

pub returns-in_default-clause-queues : goal.returns-in_default-clause-queues
returns-in_default-clause-queues c = queues_same c.args.heap.now c.args.heap.now refl refl

pub returns-in_default-next-clause-answers : goal.returns-in_default-next-clause-answers
returns-in_default-next-clause-answers c = λ numbers script plain have. record {
  now = numbers;
  keeps = keeps_same c.args.heap.now numbers;
  answers =
      let none = no_some c.lowest_from-next.result c.in_default-next.not-Some in
      refused numbers c.args.heap.now c.args.procs.now script plain c.args.place.pid (socketpair script plain c.args.place.pid) EMFILE
      (pair_fails script plain c.args.place.pid (one_free (descriptors_of plain.files c.args.place.pid) c.in-Some.first
      (c.lowest_from-lowest.ensures.lowest numbers plain.files have ∙ c.in-Some.is) (c.lowest_from-next.ensures.lowest numbers plain.files have ∙ none))) have;
}

pub returns-in_default-next-clause-changes : goal.returns-in_default-next-clause-changes
returns-in_default-next-clause-changes c = changes_nothing c.args.heap.now c.args.procs.now c.args.place.pid c.requires.listed (ap is_some c.requires.there)

pub returns-in_default-next-clause-queues : goal.returns-in_default-next-clause-queues
returns-in_default-next-clause-queues c = queues_same c.args.heap.now c.args.heap.now refl refl

-- ---- two are

pub open_one-requires-clause-listed : goal.open_one-requires-clause-listed
open_one-requires-clause-listed c = listed_on c.args.heap.now c.open_both-ends.new.heap c.args.procs.now (ap (λ (h : Heap). h.procs) c.open_both-ends.ensures.kept) (ap (λ (h : Heap). h.leaves) c.open_both-ends.ensures.kept) c.requires.listed

pub open_one-requires-clause-number : goal.open_one-requires-clause-number
open_one-requires-clause-number c = (subst (λ o. IfSome o (IsLowest c.args.heap.now c.args.procs.now c.args.place.pid 0)) c.in-Some.is c.lowest_from-lowest.ensures.free).0

pub open_one-requires-clause-free : goal.open_one-requires-clause-free
open_one-requires-clause-free c =
    ap (λ (h : Heap). named_at h c.args.procs.now c.args.place.pid c.in-Some.first) c.open_both-ends.ensures.kept
    ∙ (subst (λ o. IfSome o (IsLowest c.args.heap.now c.args.procs.now c.args.place.pid 0)) c.in-Some.is c.lowest_from-lowest.ensures.free).2

pub open_one-requires-2-clause-free : goal.open_one-requires-2-clause-free
open_one-requires-2-clause-free c =
    let above = (subst (λ o. IfSome o (IsLowest c.args.heap.now c.args.procs.now c.args.place.pid (c.in-Some.first + 1))) c.in-Some-next.is c.lowest_from-next.ensures.free).1 in
    others_named c.open_both-ends.new.heap c.open_one.new.heap c.args.procs.now c.args.place.pid c.in-Some.first c.in-Some-next.second (record { desc = c.open_both-ends.result.one; close_on_exec = false })
    (listed_on c.args.heap.now c.open_both-ends.new.heap c.args.procs.now (ap (λ (h : Heap). h.procs) c.open_both-ends.ensures.kept) (ap (λ (h : Heap). h.leaves) c.open_both-ends.ensures.kept) c.requires.listed) c.open_one.ensures.names (λ same. omega (arith, same, above))
    ∙ ap (λ (h : Heap). named_at h c.args.procs.now c.args.place.pid c.in-Some-next.second) c.open_both-ends.ensures.kept
    ∙ (subst (λ o. IfSome o (IsLowest c.args.heap.now c.args.procs.now c.args.place.pid (c.in-Some.first + 1))) c.in-Some-next.is c.lowest_from-next.ensures.free).2

pub returns-clause-answers : goal.returns-clause-answers
returns-clause-answers c = λ numbers script plain have.
    let opens = c.open_both-ends.ensures.opened numbers plain.files c.args.procs.now c.requires.listed have in
    let here = opens.now.descs c.open_both-ends.result.one in
    let there = opens.now.descs c.open_both-ends.result.other in
    record {
      now = opens.now;
      keeps = opens.keeps;
      answers = record {
        files = with_open (with_open (with_both plain.files) c.args.place.pid c.in-Some.first (Some (record { description = here; cloexec = false }))) c.args.place.pid c.in-Some-next.second
            (Some (record { description = there; cloexec = false }));
        replies =
            pair_makes script plain c.args.place.pid c.in-Some.first c.in-Some-next.second
            (two_free (descriptors_of plain.files c.args.place.pid) c.in-Some.first c.in-Some-next.second
            (c.lowest_from-lowest.ensures.lowest numbers plain.files have ∙ c.in-Some.is) (c.lowest_from-next.ensures.lowest numbers plain.files have ∙ c.in-Some-next.is))
            ∙ ap (λ files. replied script (with_files plain files) c.args.place.pid (Pair c.in-Some.first c.in-Some-next.second))
            (paired_so plain.files c.args.place.pid c.in-Some.first c.in-Some-next.second here there opens.at_one opens.at_other);
        stands = c.open_one-2.ensures.opened opens.now _ (c.open_one.ensures.opened opens.now _ opens.stands);
      };
    }

pub returns-clause-nodes : goal.returns-clause-nodes
returns-clause-nodes c = λ none.
    subst (λ (h : Heap). OpensNoNode h.descs) (sym c.open_one-2.ensures.names.after)
    (subst (λ (h : Heap). OpensNoNode h.descs) (sym c.open_one.ensures.names.after) (c.open_both-ends.ensures.nodes none))

pub returns-clause-owners : goal.returns-clause-owners
returns-clause-owners c = c.open_one-2.ensures.owners [] (c.open_one.ensures.owners (c.open_both-ends.result.other ∷ []) c.open_both-ends.ensures.owners)

pub returns-clause-changes : goal.returns-clause-changes
returns-clause-changes c =
    let listed = listed_on c.args.heap.now c.open_both-ends.new.heap c.args.procs.now (ap (λ (h : Heap). h.procs) c.open_both-ends.ensures.kept) (ap (λ (h : Heap). h.leaves) c.open_both-ends.ensures.kept) c.requires.listed in
    changes_after c.args.heap.now c.open_both-ends.new.heap c.open_one-2.new.heap c.args.procs.now c.args.place.pid (ap (λ (h : Heap). h.procs) c.open_both-ends.ensures.kept)
    (subst (λ (h : Heap). h ≡ record c.args.heap.now { procs = h.procs; leaves = h.leaves; descs = h.descs; pipes = h.pipes; chunks = h.chunks; socks = h.socks; high = h.high }) (sym c.open_both-ends.ensures.kept) refl)
    (links_same c.args.heap.now c.open_both-ends.new.heap (ap (λ (h : Heap). h.pipes) c.open_both-ends.ensures.kept))
    (changes_then c.open_both-ends.new.heap c.open_one.new.heap c.open_one-2.new.heap c.args.procs.now c.args.place.pid
    (changes_named c.open_both-ends.new.heap c.open_one.new.heap c.args.procs.now c.args.place.pid c.in-Some.first (record { desc = c.open_both-ends.result.one; close_on_exec = false }) listed c.open_one.ensures.names)
    (changes_named c.open_one.new.heap c.open_one-2.new.heap c.args.procs.now c.args.place.pid c.in-Some-next.second (record { desc = c.open_both-ends.result.other; close_on_exec = false }) c.open_one.ensures.listed c.open_one-2.ensures.names))

pub returns-clause-paid : goal.returns-clause-paid
returns-clause-paid c =
    IsPaid-trans c.args.heap.now c.args.purse.now c.open_both-ends.new.heap c.open_both-ends.new.purse c.open_one-2.new.heap c.open_one-2.new.purse c.open_both-ends.ensures.paid
    (IsPaid-trans c.open_both-ends.new.heap c.open_both-ends.new.purse c.open_one.new.heap c.open_one.new.purse c.open_one-2.new.heap c.open_one-2.new.purse c.open_one.ensures.paid c.open_one-2.ensures.paid)

pub returns-clause-pays : goal.returns-clause-pays
returns-clause-pays c =
    CanPay-kept c.open_one.new.heap c.open_one-2.new.heap c.open_one.new.purse c.open_one-2.new.purse c.open_one-2.ensures.paid
    (CanPay-kept c.open_both-ends.new.heap c.open_one.new.heap c.open_both-ends.new.purse c.open_one.new.purse c.open_one.ensures.paid c.open_both-ends.ensures.pays)

pub returns-clause-queues : goal.returns-clause-queues
returns-clause-queues c =
    queues_then c.args.heap.now c.open_both-ends.new.heap c.open_one-2.new.heap c.open_both-ends.ensures.queues
    (queues_then c.open_both-ends.new.heap c.open_one.new.heap c.open_one-2.new.heap
    (queues_same c.open_both-ends.new.heap c.open_one.new.heap (ap (λ (h : Heap). h.pipes) c.open_one.ensures.names.after) (ap (λ (h : Heap). h.socks) c.open_one.ensures.names.after))
    (queues_same c.open_one.new.heap c.open_one-2.new.heap (ap (λ (h : Heap). h.pipes) c.open_one-2.ensures.names.after) (ap (λ (h : Heap). h.socks) c.open_one-2.ensures.names.after)))

pub returns-clause-still : goal.returns-clause-still
returns-clause-still c =
    still_on c.args.heap.now c.open_both-ends.new.heap c.open_one-2.new.heap (ap (λ (h : Heap). h.socks) c.open_one-2.ensures.names.after ∙ ap (λ (h : Heap). h.socks) c.open_one.ensures.names.after) c.open_both-ends.ensures.still

pub open_one-requires-clause-pays : goal.open_one-requires-clause-pays
open_one-requires-clause-pays c = c.open_both-ends.ensures.pays

pub open_one-requires-2-clause-pays : goal.open_one-requires-2-clause-pays
open_one-requires-2-clause-pays c = CanPay-kept c.open_both-ends.new.heap c.open_one.new.heap c.open_both-ends.new.purse c.open_one.new.purse c.open_one.ensures.paid c.open_both-ends.ensures.pays

pub returns-clause-spent : goal.returns-clause-spent
returns-clause-spent c =
    spends_then c.open_both-ends.new.purse c.open_one.new.purse c.open_one-2.new.purse (spends_so _ c.open_both-ends.new.purse c.open_one.new.purse c.open_one.ensures.spent)
    (spends_so _ c.open_one.new.purse c.open_one-2.new.purse c.open_one-2.ensures.spent)
    ∙ ap (λ (p : Purse). spends_leaves p c.open_one-2.new.purse) c.open_both-ends.ensures.spent

pub open_one-requires-clause-left : goal.open_one-requires-clause-left
open_one-requires-clause-left c = λ none. subst (λ (p : Purse). 0 < p.left.leaf) (sym c.open_both-ends.ensures.spent) c.requires.left_leaf

pub open_one-requires-2-clause-left : goal.open_one-requires-2-clause-left
open_one-requires-2-clause-left c = λ none.
    leaf_for_second c.open_both-ends.new.heap c.open_one.new.heap c.args.procs.now c.args.place.pid c.args.place.key c.in-Some.first c.in-Some-next.second
    (Some (record { desc = c.open_both-ends.result.one; close_on_exec = false })) c.open_both-ends.new.purse c.open_one.new.purse c.is_well_formed.ensures
    (listed_on c.args.heap.now c.open_both-ends.new.heap c.args.procs.now (ap (λ (h : Heap). h.procs) c.open_both-ends.ensures.kept) (ap (λ (h : Heap). h.leaves) c.open_both-ends.ensures.kept) c.requires.listed) c.requires.there
    (subst (λ (h : Heap). AreOpenBelow h c.args.procs.now c.args.place.pid 0 c.in-Some.first) (sym c.open_both-ends.ensures.kept) (subst (λ o. IfSome o (AreOpenBelow c.args.heap.now c.args.procs.now c.args.place.pid 0)) c.in-Some.is c.lowest_from-lowest.ensures.least))
    (subst (λ (h : Heap). AreOpenBelow h c.args.procs.now c.args.place.pid (c.in-Some.first + 1) c.in-Some-next.second) (sym c.open_both-ends.ensures.kept) (subst (λ o. IfSome o (AreOpenBelow c.args.heap.now c.args.procs.now c.args.place.pid (c.in-Some.first + 1))) c.in-Some-next.is c.lowest_from-next.ensures.least))
    (subst (λ o. IfSome o (IsLowest c.args.heap.now c.args.procs.now c.args.place.pid (c.in-Some.first + 1))) c.in-Some-next.is c.lowest_from-next.ensures.free).1
    c.open_one.ensures.names c.open_one.ensures.room c.open_one.ensures.spent
    (subst (λ (p : Purse). 0 < p.left.leaf) (sym c.open_both-ends.ensures.spent) c.requires.left_leaf) none
