use Rattle.std.proofs.Common.{◌≡◌, ◌∙◌, List, [], Option, None, Some, true, false, cond, ne_eqb, ap, is_some, refl, pos, subst, sym, w64, arith}
use Rattle.std.proofs.lemmas.Int.{to_z-of_z}
use Rattle.kabi_types.specs.Arguments.{count_of, may_be_descriptor}
use Rattle.kabi_types.specs.declared.replies.Reply.TheVariants.{Val}
use Rattle.fifo_nodes.proofs.ChainLemmas.{chain_kept}
use Rattle.kheap_laws.proofs.PaidLemmas.{IsPaid-refl}
use Rattle.kheap_slabs.specs.Heap.{Heap}
use Rattle.kheap_slabs.specs.Paid.{IsPaid}
use Rattle.kheap_slabs.specs.Purse.{Purse}
use Rattle.open_laws.specs.Described.{counted_in}
use Rattle.pipe_ends.proofs.LinkLemmas.{links_same}
use Rattle.posix_defs.specs.Answer.{replied}
use Rattle.posix_defs.specs.Calls.OnDescriptors.{dup2, shared_at}
use Rattle.posix_defs.specs.Files.Closing.{after_close}
use Rattle.posix_defs.specs.Plain.{with_files}
use Rattle.proc_numbers.specs.Having.{node_closed}
use Rattle.proc_numbers.specs.Naming.{named_at}
use Rattle.proc_numbers.proofs.Fronts.{queues_same, queues_then}
use Rattle.proc_numbers.proofs.NumberCloses.{no_some}
use Rattle.proc_numbers.proofs.NumberNames.{desc_named, within_most}
use Rattle.proc_numbers.proofs.Answered.{dup2_beyond, dup2_other, dup2_same, on_nothing}
use Rattle.proc_numbers.proofs.Changes.{changes_nothing, closed_names_nothing, others_stay}
use Rattle.proc_files.proofs.Changing.{holding_closed, holding_of, holding_then}
use Rattle.proc_files.proofs.Shares.{hold_named, can_pay_beside}
use Rattle.kheap_slabs.specs.declared.objects.Lock.{Lock as HeldLock}
use Rattle.lock_table.specs.Chain.{HoldsLocks, IsLockTable}
use Rattle.proc_files.proofs.Unlocking.{listed_locked}
use Rattle.proc_files.specs.Closing.{with_locks_of}
use Rattle.proc_files.proofs.sharing.dup_number.Goals as goal
use Rattle.proc_table.proofs.NumberLemmas.{numbers_all}
use Rattle.proc_numbers.specs.Found.{held_in}
use Rattle.proc_numbers.proofs.OpenedBy.{is_counted, is_held, is_held_at, is_none, is_there}

-- ---- it isn't open

pub returns-in_default-clause-answers : goal.returns-in_default-clause-answers
unfolding dup2
returns-in_default-clause-answers c = λ numbers others script plain hold.
    record {
      answers = record {
        files = plain.files;
        replies = on_nothing numbers c.args.heap.now c.args.procs.now script plain c.args.place.pid hold.held.opened c.args.on.now.fd _ (is_none c.args.heap.now c.args.procs.now c.args.place.pid c.args.on.now c.requires.opened (no_some c.args.on.now.found c.in_default.not-Some));
        holds = hold;
      };
      locks = λ held. held;
    }

pub returns-in_default-clause-changes : goal.returns-in_default-clause-changes
returns-in_default-clause-changes c =
    holding_of c.args.heap.now c.args.heap.now c.args.procs.now c.args.place.pid (changes_nothing c.args.heap.now c.args.procs.now c.args.place.pid c.requires.listed (ap is_some c.requires.there))

pub returns-in_default-clause-queues : goal.returns-in_default-clause-queues
returns-in_default-clause-queues c = queues_same c.args.heap.now c.args.heap.now refl refl

-- ---- no descriptor has the other number

pub returns-then-not-may_be_descriptor-clause-answers : goal.returns-then-not-may_be_descriptor-clause-answers
returns-then-not-may_be_descriptor-clause-answers c = λ numbers others script plain hold.
    let is = is_held c.args.heap.now c.args.procs.now c.args.place.pid c.args.on.now c.requires.opened c.in-Some.found c.in-Some.is in
    let there = is_there c.args.heap.now c.args.procs.now c.args.place.pid c.args.on.now c.requires.opened c.in-Some.found c.in-Some.is in
    let beyond : may_be_descriptor c.args.to ≡ false =
    sym (subst (λ z. c.may_be_descriptor.result ≡ may_be_descriptor z) (to_z-of_z w64 c.args.to c.ranges.to) c.may_be_descriptor.ensures) ∙ c.if-not-may_be_descriptor.true in
    record {
      answers = record {
        files = plain.files;
        replies = dup2_beyond numbers c.args.heap.now c.args.procs.now script plain c.args.place.pid hold.held.opened c.args.on.now.fd (held_in c.in-Some.found) c.in-Some.found.desc is there c.args.to beyond;
        holds = hold;
      };
      locks = λ held. held;
    }

pub returns-then-not-may_be_descriptor-clause-changes : goal.returns-then-not-may_be_descriptor-clause-changes
returns-then-not-may_be_descriptor-clause-changes c =
    holding_of c.args.heap.now c.args.heap.now c.args.procs.now c.args.place.pid (changes_nothing c.args.heap.now c.args.procs.now c.args.place.pid c.requires.listed (ap is_some c.requires.there))

pub returns-then-not-may_be_descriptor-clause-queues : goal.returns-then-not-may_be_descriptor-clause-queues
returns-then-not-may_be_descriptor-clause-queues c = queues_same c.args.heap.now c.args.heap.now refl refl

-- ---- both may

pub overflow_cast-number : goal.overflow_cast-number
overflow_cast-number c =
    let to = to_z-of_z w64 c.args.to c.ranges.to in
    let within : may_be_descriptor c.args.to ≡ true =
    sym (subst (λ z. c.may_be_descriptor.result ≡ may_be_descriptor z) to c.may_be_descriptor.ensures) ∙ c.if-not-may_be_descriptor.false in
    let number_is : c.count_of-number.result ≡ count_of c.args.to = subst (λ z. c.count_of-number.result ≡ count_of z) to c.count_of-number.ensures in
    let few = within_most c.args.to within in omega (arith, few, number_is)

-- ---- they are the same

pub returns-then-found-number-clause-answers : goal.returns-then-found-number-clause-answers
returns-then-found-number-clause-answers c = λ numbers others script plain hold.
    let is = is_held c.args.heap.now c.args.procs.now c.args.place.pid c.args.on.now c.requires.opened c.in-Some.found c.in-Some.is in
    let there = is_there c.args.heap.now c.args.procs.now c.args.place.pid c.args.on.now c.requires.opened c.in-Some.found c.in-Some.is in
    let to = to_z-of_z w64 c.args.to c.ranges.to in
    let within : may_be_descriptor c.args.to ≡ true =
    sym (subst (λ z. c.may_be_descriptor.result ≡ may_be_descriptor z) to c.may_be_descriptor.ensures) ∙ c.if-not-may_be_descriptor.false in
    let from_is = is_counted c.args.heap.now c.args.procs.now c.args.place.pid c.args.on.now c.requires.opened c.in-Some.found c.in-Some.is in
    let number_is : c.count_of-number.result ≡ count_of c.args.to = subst (λ z. c.count_of-number.result ≡ count_of z) to c.count_of-number.ensures in
    record {
      answers = record {
        files = plain.files;
        replies =
            dup2_same numbers c.args.heap.now c.args.procs.now script plain c.args.place.pid hold.held.opened c.args.on.now.fd (held_in c.in-Some.found) c.in-Some.found.desc is there c.args.to within
            (sym from_is ∙ c.if-found-number.true ∙ number_is)
            ∙ ap (λ n. replied script plain c.args.place.pid (Val (pos n))) (sym number_is);
        holds = hold;
      };
      locks = λ held. held;
    }

pub returns-then-found-number-clause-changes : goal.returns-then-found-number-clause-changes
returns-then-found-number-clause-changes c =
    holding_of c.args.heap.now c.args.heap.now c.args.procs.now c.args.place.pid (changes_nothing c.args.heap.now c.args.procs.now c.args.place.pid c.requires.listed (ap is_some c.requires.there))

pub returns-then-found-number-clause-queues : goal.returns-then-found-number-clause-queues
returns-then-found-number-clause-queues c = queues_same c.args.heap.now c.args.heap.now refl refl

-- ---- another

pub share_at-requires-clause-used : goal.share_at-requires-clause-used
share_at-requires-clause-used c =
    let closes = c.close_at.ensures.closes in
    ap is_some (desc_named c.close_at.new.heap c.args.procs.now [] c.close_at.ensures.listed c.close_at.ensures.owners c.args.place.pid c.in-Some.found.number (held_in c.in-Some.found)
    (ap (λ (h : Heap). named_at h c.args.procs.now c.args.place.pid c.in-Some.found.number) closes.caches
    ∙ others_stay (with_locks_of c.args.heap.now c.close_at.new.heap) closes.mid c.args.procs.now c.args.place.pid c.count_of-number.result c.in-Some.found.number
    (listed_locked c.args.heap.now c.close_at.new.heap.locks c.args.procs.now c.requires.listed) closes.closes c.if-found-number.false
    ∙ is_held_at c.args.heap.now c.args.procs.now c.args.place.pid c.args.on.now c.requires.opened c.in-Some.found c.in-Some.is)).1

pub share_at-requires-clause-free : goal.share_at-requires-clause-free
share_at-requires-clause-free c =
    let closes = c.close_at.ensures.closes in
    let long = numbers_all c.args.heap.now closes.closes.key closes.closes.proc c.is_well_formed.ensures closes.closes.turns.there in
    let to = to_z-of_z w64 c.args.to c.ranges.to in
    let within : may_be_descriptor c.args.to ≡ true =
    sym (subst (λ z. c.may_be_descriptor.result ≡ may_be_descriptor z) to c.may_be_descriptor.ensures) ∙ c.if-not-may_be_descriptor.false in
    let number_is : c.count_of-number.result ≡ count_of c.args.to = subst (λ z. c.count_of-number.result ≡ count_of z) to c.count_of-number.ensures in
    let few = within_most c.args.to within in
    ap (λ (h : Heap). named_at h c.args.procs.now c.args.place.pid c.count_of-number.result) closes.caches
    ∙ closed_names_nothing (with_locks_of c.args.heap.now c.close_at.new.heap) closes.mid c.args.procs.now c.args.place.pid c.count_of-number.result
    (listed_locked c.args.heap.now c.close_at.new.heap.locks c.args.procs.now c.requires.listed) closes.closes (omega (arith, few, long, number_is))

pub share_at-requires-clause-number : goal.share_at-requires-clause-number
share_at-requires-clause-number c =
    let to = to_z-of_z w64 c.args.to c.ranges.to in
    let within : may_be_descriptor c.args.to ≡ true =
    sym (subst (λ z. c.may_be_descriptor.result ≡ may_be_descriptor z) to c.may_be_descriptor.ensures) ∙ c.if-not-may_be_descriptor.false in
    let number_is : c.count_of-number.result ≡ count_of c.args.to = subst (λ z. c.count_of-number.result ≡ count_of z) to c.count_of-number.ensures in
    let few = within_most c.args.to within in omega (arith, few, number_is)

pub returns-clause-answers : goal.returns-clause-answers
returns-clause-answers c = λ numbers others script plain hold.
    let is = is_held c.args.heap.now c.args.procs.now c.args.place.pid c.args.on.now c.requires.opened c.in-Some.found c.in-Some.is in
    let there = is_there c.args.heap.now c.args.procs.now c.args.place.pid c.args.on.now c.requires.opened c.in-Some.found c.in-Some.is in
    let to = to_z-of_z w64 c.args.to c.ranges.to in
    let within : may_be_descriptor c.args.to ≡ true =
    sym (subst (λ z. c.may_be_descriptor.result ≡ may_be_descriptor z) to c.may_be_descriptor.ensures) ∙ c.if-not-may_be_descriptor.false in
    let from_is = is_counted c.args.heap.now c.args.procs.now c.args.place.pid c.args.on.now c.requires.opened c.in-Some.found c.in-Some.is in
    let number_is : c.count_of-number.result ≡ count_of c.args.to = subst (λ z. c.count_of-number.result ≡ count_of z) to c.count_of-number.ensures in
    let closed = c.close_at.ensures.closed numbers others plain.files hold in
    record {
      answers = record {
        files = shared_at (after_close plain.files c.args.place.pid c.count_of-number.result) c.args.place.pid (record { place = numbers.descs c.in-Some.found.key; is = (counted_in numbers c.in-Some.found.desc).is }) c.count_of-number.result;
        replies =
            dup2_other numbers c.args.heap.now c.args.procs.now script plain c.args.place.pid hold.held.opened c.args.on.now.fd (held_in c.in-Some.found) c.in-Some.found.desc is there c.args.to within
            (λ same. c.if-found-number.false (from_is ∙ same ∙ sym number_is))
            ∙ ap
            (λ n. replied script
            (with_files plain (shared_at (after_close plain.files c.args.place.pid n) c.args.place.pid (record { place = numbers.descs c.in-Some.found.key; is = (counted_in numbers c.in-Some.found.desc).is }) n)) c.args.place.pid
            (Val (pos n)))
            (sym number_is);
        holds = hold_named numbers others c.close_at.new.heap c.share_at.new.heap c.args.procs.now c.close_at.new.tree c.close_at.new.names (after_close plain.files c.args.place.pid c.count_of-number.result) c.args.place.pid c.count_of-number.result
            (Some (record { description = numbers.descs c.in-Some.found.key; cloexec = false })) c.share_at.ensures.beside closed
            (c.share_at.ensures.opened numbers (after_close plain.files c.args.place.pid c.count_of-number.result) closed.held.opened);
      };
      locks = λ locked.
          subst (λ (shelf : List (Option HeldLock)). HoldsLocks shelf c.close_at.new.locks (after_close plain.files c.args.place.pid c.count_of-number.result).locks)
          (sym (ap (λ (h : Heap). h.locks) c.share_at.ensures.beside)) (c.close_at.ensures.locks numbers others plain.files hold locked);
    }

pub returns-clause-hold : goal.returns-clause-hold
returns-clause-hold c =
    let some = c.requires.hold in
    let closed = c.close_at.ensures.closed some.numbers some.others some.files some.hold in
    record {
      numbers = some.numbers;
      others = some.others;
      files = _;
      hold = hold_named some.numbers some.others c.close_at.new.heap c.share_at.new.heap c.args.procs.now c.close_at.new.tree c.close_at.new.names (after_close some.files c.args.place.pid c.count_of-number.result) c.args.place.pid
          c.count_of-number.result (Some (record { description = some.numbers.descs c.in-Some.found.key; cloexec = false }))
          c.share_at.ensures.beside closed (c.share_at.ensures.opened some.numbers (after_close some.files c.args.place.pid c.count_of-number.result) closed.held.opened);
    }

pub returns-clause-changes : goal.returns-clause-changes
returns-clause-changes c =
    holding_then c.args.heap.now c.close_at.new.heap c.share_at.new.heap c.args.procs.now c.args.place.pid
    (holding_closed c.args.heap.now c.close_at.new.heap c.args.procs.now c.args.place.pid c.count_of-number.result c.close_at.ensures.closes)
    (holding_of c.close_at.new.heap c.share_at.new.heap c.args.procs.now c.args.place.pid c.share_at.ensures.changes)

pub returns-clause-queues : goal.returns-clause-queues
returns-clause-queues c =
    queues_then c.args.heap.now c.close_at.new.heap c.share_at.new.heap c.close_at.ensures.queues
    (queues_same c.close_at.new.heap c.share_at.new.heap (ap (λ (h : Heap). h.pipes) c.share_at.ensures.beside) (ap (λ (h : Heap). h.socks) c.share_at.ensures.beside))

pub returns-clause-paid : goal.returns-clause-paid
returns-clause-paid c = record {
  mid = c.close_at.new.heap;
  closes = subst (λ (p : Purse). IsPaid c.args.heap.now c.args.back.now c.close_at.new.heap p) c.close_at.ensures.same c.close_at.ensures.paid;
  opens = c.share_at.ensures.paid;
}

pub returns-in_default-clause-paid : goal.returns-in_default-clause-paid
returns-in_default-clause-paid c =
    record { mid = c.args.heap.now; closes = IsPaid-refl c.args.heap.now c.args.back.now; opens = IsPaid-refl c.args.heap.now c.args.purse.now }

pub returns-then-not-may_be_descriptor-clause-paid : goal.returns-then-not-may_be_descriptor-clause-paid
returns-then-not-may_be_descriptor-clause-paid c =
    record { mid = c.args.heap.now; closes = IsPaid-refl c.args.heap.now c.args.back.now; opens = IsPaid-refl c.args.heap.now c.args.purse.now }

pub returns-then-found-number-clause-paid : goal.returns-then-found-number-clause-paid
returns-then-found-number-clause-paid c =
    record { mid = c.args.heap.now; closes = IsPaid-refl c.args.heap.now c.args.back.now; opens = IsPaid-refl c.args.heap.now c.args.purse.now }

pub returns-clause-stays : goal.returns-clause-stays
returns-clause-stays c = λ none.
    let to = to_z-of_z w64 c.args.to c.ranges.to in
    let from_is = is_counted c.args.heap.now c.args.procs.now c.args.place.pid c.args.on.now c.requires.opened c.in-Some.found c.in-Some.is in
    let number_is : c.count_of-number.result ≡ count_of c.args.to = subst (λ z. c.count_of-number.result ≡ count_of z) to c.count_of-number.ensures in
    c.close_at.ensures.stays
    (ap (λ n. node_closed c.args.heap.now (named_at c.args.heap.now c.args.procs.now c.args.place.pid n)) number_is
    ∙ sym (ap (λ b. cond b None (node_closed c.args.heap.now (named_at c.args.heap.now c.args.procs.now c.args.place.pid (count_of c.args.to))))
    (ne_eqb (count_of c.args.on.now.fd) (count_of c.args.to) (λ same. c.if-found-number.false (from_is ∙ same ∙ sym number_is))))
    ∙ none)

pub share_at-requires-clause-pays : goal.share_at-requires-clause-pays
share_at-requires-clause-pays c = can_pay_beside c.args.heap.now c.close_at.new.heap c.args.back.now c.close_at.new.purse c.args.purse.now c.close_at.ensures.paid c.close_at.ensures.same c.requires.pays

pub returns-clause-chain : goal.returns-clause-chain
returns-clause-chain c =
    chain_kept c.close_at.new.heap c.share_at.new.heap c.close_at.new.fifos (links_same c.close_at.new.heap c.share_at.new.heap (ap (λ (h : Heap). h.pipes) c.share_at.ensures.beside)) c.close_at.ensures.chain

pub returns-clause-locked : goal.returns-clause-locked
returns-clause-locked c =
    subst (λ (shelf : List (Option HeldLock)). IsLockTable shelf c.close_at.new.locks) (sym (ap (λ (h : Heap). h.locks) c.share_at.ensures.beside)) c.close_at.ensures.locked
