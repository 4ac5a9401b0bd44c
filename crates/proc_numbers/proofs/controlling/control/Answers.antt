use Rattle.std.proofs.Common.{◌≡◌, ◌∙◌, Some, ap, is_some, pos, subst, sym, w64, arith, refl}
use Rattle.std.proofs.lemmas.Int.{to_z-of_z}
use Rattle.kabi_types.specs.Arguments.{count_of}
use Rattle.kabi_types.specs.declared.errnos.Errno.TheVariants.{EBADF, EINVAL}
use Rattle.kabi_types.specs.declared.replies.Reply.TheVariants.{Val}
use Rattle.kheap_slabs.specs.Heap.{Heap}
use Rattle.open_laws.specs.Described.{counted_in}
use Rattle.posix_defs.specs.Answer.{replied}
use Rattle.posix_defs.specs.Calls.OnDescriptors.{cloexec_bit, cloexec_set, duplicated, fcntl}
use Rattle.posix_defs.specs.Files.Descriptions.{has_flag, o_append, o_nonblock, with_status}
use Rattle.posix_defs.specs.Files.Descriptors.{descriptor_at, lowest_free_from}
use Rattle.posix_defs.specs.Files.State.{described_as, descriptors_of, with_open}
use Rattle.pipe_ends.proofs.LinkLemmas.{links_same}
use Rattle.proc_numbers.specs.Having.{HaveOpen}
use Rattle.proc_numbers.proofs.NumberCloses.{listed_on, no_some}
use Rattle.proc_numbers.specs.Answering.{with_flags}
use Rattle.proc_numbers.proofs.Answered.{answers_as, cloexec_is, fcntl_is, fcntl_unknown, on_nothing, refused}
use Rattle.proc_numbers.proofs.Changes.{changes_after, changes_nothing}
use Rattle.proc_numbers.proofs.OpenedBy.{is_counted, is_held, is_held_at, is_none, is_there}
use Rattle.proc_numbers.specs.Found.{held_in}
use Rattle.kheap_laws.proofs.PaidLemmas.{IsPaid-nothing, IsPaid-refl}
use Rattle.proc_numbers.proofs.controlling.control.Goals as goal

-- ---- it isn't open

pub returns-in_default-clause-answers : goal.returns-in_default-clause-answers
unfolding fcntl
returns-in_default-clause-answers c = λ numbers script plain have.
    refused numbers c.args.heap.now c.args.procs.now script plain c.args.place.pid (fcntl script plain c.args.place.pid c.args.on.now.fd c.args.cmd c.args.arg) EBADF
    (on_nothing numbers c.args.heap.now c.args.procs.now script plain c.args.place.pid have c.args.on.now.fd _ (is_none c.args.heap.now c.args.procs.now c.args.place.pid c.args.on.now c.requires.opened (no_some c.args.on.now.found c.in_default.not-Some))) have

pub returns-in_default-clause-changes : goal.returns-in_default-clause-changes
returns-in_default-clause-changes c = changes_nothing c.args.heap.now c.args.procs.now c.args.place.pid c.requires.listed (ap is_some c.requires.there)

-- ---- a further number

pub share_lowest-requires-clause-used : goal.share_lowest-requires-clause-used
share_lowest-requires-clause-used c =
    ap is_some (is_there c.args.heap.now c.args.procs.now c.args.place.pid c.args.on.now c.requires.opened c.in-Some.found c.in-Some.is)

pub share_lowest-requires-clause-left : goal.share_lowest-requires-clause-left
share_lowest-requires-clause-left c =
    c.requires.left (sym (subst (λ z. c.count_of.result ≡ count_of z) (to_z-of_z w64 c.args.cmd c.ranges.cmd) c.count_of.ensures) ∙ c.in-0.is)

pub returns-in-0-clause-answers : goal.returns-in-0-clause-answers
returns-in-0-clause-answers c = λ numbers script plain have.
    let is = is_held c.args.heap.now c.args.procs.now c.args.place.pid c.args.on.now c.requires.opened c.in-Some.found c.in-Some.is in
    let there = is_there c.args.heap.now c.args.procs.now c.args.place.pid c.args.on.now c.requires.opened c.in-Some.found c.in-Some.is in
    let cmd : count_of c.args.cmd ≡ 0 = sym (subst (λ z. c.count_of.result ≡ count_of z) (to_z-of_z w64 c.args.cmd c.ranges.cmd) c.count_of.ensures) ∙ c.in-0.is in
    let arg : c.count_of-in-0.result ≡ count_of c.args.arg = subst (λ z. c.count_of-in-0.result ≡ count_of z) (to_z-of_z w64 c.args.arg c.ranges.arg) c.count_of-in-0.ensures in
    answers_as numbers c.share_lowest.new.heap c.args.procs.now script plain c.args.place.pid (fcntl script plain c.args.place.pid c.args.on.now.fd c.args.cmd c.args.arg) _ _
    (fcntl_is numbers c.args.heap.now c.args.procs.now script plain c.args.place.pid have c.args.on.now.fd (held_in c.in-Some.found) c.in-Some.found.desc is there c.args.cmd c.args.arg 0 cmd
    ∙ ap (λ n. duplicated script plain c.args.place.pid (record { place = numbers.descs c.in-Some.found.key; is = (counted_in numbers c.in-Some.found.desc).is }) (lowest_free_from (descriptors_of plain.files c.args.place.pid) n)) (sym arg))
    (c.share_lowest.ensures.answers numbers script plain (counted_in numbers c.in-Some.found.desc).is have)

-- ---- a number's flags

pub returns-in-1-clause-answers : goal.returns-in-1-clause-answers
returns-in-1-clause-answers c = λ numbers script plain have.
    let is = is_held c.args.heap.now c.args.procs.now c.args.place.pid c.args.on.now c.requires.opened c.in-Some.found c.in-Some.is in
    let there = is_there c.args.heap.now c.args.procs.now c.args.place.pid c.args.on.now c.requires.opened c.in-Some.found c.in-Some.is in
    let cmd : count_of c.args.cmd ≡ 1 = sym (subst (λ z. c.count_of.result ≡ count_of z) (to_z-of_z w64 c.args.cmd c.ranges.cmd) c.count_of.ensures) ∙ c.in-1.is in
    record {
      files = plain.files;
      replies =
          fcntl_is numbers c.args.heap.now c.args.procs.now script plain c.args.place.pid have c.args.on.now.fd (held_in c.in-Some.found) c.in-Some.found.desc is there c.args.cmd c.args.arg 1 cmd
          ∙ ap (λ b. replied script plain c.args.place.pid (Val (pos (cloexec_bit b)))) (cloexec_is numbers c.args.heap.now c.args.procs.now script plain c.args.place.pid have c.args.on.now.fd (held_in c.in-Some.found) c.in-Some.found.desc is there)
          ∙ ap (λ n. replied script plain c.args.place.pid (Val (pos n))) (sym c.bit.ensures);
      stands = have;
    }

pub returns-in-1-clause-changes : goal.returns-in-1-clause-changes
returns-in-1-clause-changes c = changes_nothing c.args.heap.now c.args.procs.now c.args.place.pid c.requires.listed (ap is_some c.requires.there)

pub mark_one-requires-clause-names : goal.mark_one-requires-clause-names
mark_one-requires-clause-names c =
    is_held_at c.args.heap.now c.args.procs.now c.args.place.pid c.args.on.now c.requires.opened c.in-Some.found c.in-Some.is ∙ ap Some (sym c.descriptor-held.ensures)

pub returns-in-2-clause-answers : goal.returns-in-2-clause-answers
returns-in-2-clause-answers c = λ numbers script plain have.
    let is = is_held c.args.heap.now c.args.procs.now c.args.place.pid c.args.on.now c.requires.opened c.in-Some.found c.in-Some.is in
    let there = is_there c.args.heap.now c.args.procs.now c.args.place.pid c.args.on.now c.requires.opened c.in-Some.found c.in-Some.is in
    let cmd : count_of c.args.cmd ≡ 2 = sym (subst (λ z. c.count_of.result ≡ count_of z) (to_z-of_z w64 c.args.cmd c.ranges.cmd) c.count_of.ensures) ∙ c.in-2.is in
    let number = is_counted c.args.heap.now c.args.procs.now c.args.place.pid c.args.on.now c.requires.opened c.in-Some.found c.in-Some.is in
    let flag : c.has_flag-cloexec.result ≡ has_flag c.args.arg 1 = subst (λ z. c.has_flag-cloexec.result ≡ has_flag z 1) (to_z-of_z w64 c.args.arg c.ranges.arg) c.has_flag-cloexec.ensures in
    record {
      files = with_open plain.files c.args.place.pid (count_of c.args.on.now.fd) (cloexec_set (has_flag c.args.arg 1) (descriptor_at (descriptors_of plain.files c.args.place.pid) (count_of c.args.on.now.fd)));
      replies = fcntl_is numbers c.args.heap.now c.args.procs.now script plain c.args.place.pid have c.args.on.now.fd (held_in c.in-Some.found) c.in-Some.found.desc is there c.args.cmd c.args.arg 2 cmd;
      stands =
          subst (λ b. HaveOpen numbers c.mark_one.new.heap c.args.procs.now (with_open plain.files c.args.place.pid (count_of c.args.on.now.fd) (cloexec_set b (descriptor_at (descriptors_of plain.files c.args.place.pid) (count_of c.args.on.now.fd))))) flag
          (subst (λ n. HaveOpen numbers c.mark_one.new.heap c.args.procs.now (with_open plain.files c.args.place.pid n (cloexec_set c.has_flag-cloexec.result (descriptor_at (descriptors_of plain.files c.args.place.pid) n)))) number
          (c.mark_one.ensures.marked numbers plain.files have));
    }

-- ---- a description's flags

pub returns-in-3-clause-answers : goal.returns-in-3-clause-answers
returns-in-3-clause-answers c = λ numbers script plain have.
    let is = is_held c.args.heap.now c.args.procs.now c.args.place.pid c.args.on.now c.requires.opened c.in-Some.found c.in-Some.is in
    let cmd : count_of c.args.cmd ≡ 3 = sym (subst (λ z. c.count_of.result ≡ count_of z) (to_z-of_z w64 c.args.cmd c.ranges.cmd) c.count_of.ensures) ∙ c.in-3.is in
    record {
      files = plain.files;
      replies =
          fcntl_is numbers c.args.heap.now c.args.procs.now script plain c.args.place.pid have c.args.on.now.fd (held_in c.in-Some.found) c.in-Some.found.desc is (is_there c.args.heap.now c.args.procs.now c.args.place.pid c.args.on.now c.requires.opened c.in-Some.found c.in-Some.is) c.args.cmd c.args.arg 3 cmd
          ∙ ap (λ n. replied script plain c.args.place.pid (Val (pos n))) (sym (c.status_bits.ensures numbers));
      stands = have;
    }

pub returns-in-3-clause-changes : goal.returns-in-3-clause-changes
returns-in-3-clause-changes c = changes_nothing c.args.heap.now c.args.procs.now c.args.place.pid c.requires.listed (ap is_some c.requires.there)

pub set_flags-requires : goal.set_flags-requires
set_flags-requires c =
    record { used = ap is_some (is_there c.args.heap.now c.args.procs.now c.args.place.pid c.args.on.now c.requires.opened c.in-Some.found c.in-Some.is) }

pub returns-in-4-clause-answers : goal.returns-in-4-clause-answers
returns-in-4-clause-answers c = λ numbers script plain have.
    let is = is_held c.args.heap.now c.args.procs.now c.args.place.pid c.args.on.now c.requires.opened c.in-Some.found c.in-Some.is in
    let there = is_there c.args.heap.now c.args.procs.now c.args.place.pid c.args.on.now c.requires.opened c.in-Some.found c.in-Some.is in
    let cmd : count_of c.args.cmd ≡ 4 = sym (subst (λ z. c.count_of.result ≡ count_of z) (to_z-of_z w64 c.args.cmd c.ranges.cmd) c.count_of.ensures) ∙ c.in-4.is in
    let arg = to_z-of_z w64 c.args.arg c.ranges.arg in
    let append : c.flags_in.result.append ≡ has_flag c.args.arg o_append = subst (λ z. c.flags_in.result.append ≡ has_flag z o_append) arg c.flags_in.ensures.append in
    let nonblock : c.flags_in.result.nonblock ≡ has_flag c.args.arg o_nonblock = subst (λ z. c.flags_in.result.nonblock ≡ has_flag z o_nonblock) arg c.flags_in.ensures.nonblock in
    record {
      files = described_as plain.files (numbers.descs c.in-Some.found.key) (with_status (counted_in numbers c.in-Some.found.desc).is c.args.arg);
      replies = fcntl_is numbers c.args.heap.now c.args.procs.now script plain c.args.place.pid have c.args.on.now.fd (held_in c.in-Some.found) c.in-Some.found.desc is there c.args.cmd c.args.arg 4 cmd;
      stands =
          subst (λ b. HaveOpen numbers c.set_flags.new.heap c.args.procs.now
          (described_as plain.files (numbers.descs c.in-Some.found.key) (with_flags (counted_in numbers c.in-Some.found.desc).is (has_flag c.args.arg o_append) b))) nonblock
          (subst (λ b. HaveOpen numbers c.set_flags.new.heap c.args.procs.now
          (described_as plain.files (numbers.descs c.in-Some.found.key) (with_flags (counted_in numbers c.in-Some.found.desc).is b c.flags_in.result.nonblock))) append
          (c.set_flags.ensures.flags numbers c.args.procs.now plain.files c.in-Some.found.desc there have));
    }

pub returns-in-4-clause-changes : goal.returns-in-4-clause-changes
returns-in-4-clause-changes c =
    let same = ap (λ (h : Heap). h.procs) c.set_flags.ensures.beside in
    changes_after c.args.heap.now c.set_flags.new.heap c.set_flags.new.heap c.args.procs.now c.args.place.pid same
    (ap (λ (h : Heap). record h { procs = c.set_flags.new.heap.procs; leaves = c.set_flags.new.heap.leaves; descs = c.set_flags.new.heap.descs; pipes = c.set_flags.new.heap.pipes; chunks = c.set_flags.new.heap.chunks; socks = c.set_flags.new.heap.socks; high = c.set_flags.new.heap.high }) c.set_flags.ensures.beside)
    (links_same c.args.heap.now c.set_flags.new.heap (ap (λ (h : Heap). h.pipes) c.set_flags.ensures.beside))
    (changes_nothing c.set_flags.new.heap c.args.procs.now c.args.place.pid (listed_on c.args.heap.now c.set_flags.new.heap c.args.procs.now same (ap (λ (h : Heap). h.leaves) c.set_flags.ensures.beside) c.requires.listed) (ap is_some c.requires.there))

-- ---- another command

pub returns-in_default-count_of-clause-answers : goal.returns-in_default-count_of-clause-answers
returns-in_default-count_of-clause-answers c = λ numbers script plain have.
    let is = is_held c.args.heap.now c.args.procs.now c.args.place.pid c.args.on.now c.requires.opened c.in-Some.found c.in-Some.is in
    let there = is_there c.args.heap.now c.args.procs.now c.args.place.pid c.args.on.now c.requires.opened c.in-Some.found c.in-Some.is in
    let cmd : count_of c.args.cmd ≡ c.count_of.result = sym (subst (λ z. c.count_of.result ≡ count_of z) (to_z-of_z w64 c.args.cmd c.ranges.cmd) c.count_of.ensures) in
    refused numbers c.args.heap.now c.args.procs.now script plain c.args.place.pid (fcntl script plain c.args.place.pid c.args.on.now.fd c.args.cmd c.args.arg) EINVAL
    (fcntl_unknown numbers c.args.heap.now c.args.procs.now script plain c.args.place.pid have c.args.on.now.fd (held_in c.in-Some.found) c.in-Some.found.desc is there c.args.cmd c.args.arg c.count_of.result cmd
    (λ e. omega (arith, e)) (λ e. omega (arith, e)) (λ e. omega (arith, e)) (λ e. omega (arith, e)) (λ e. omega (arith, e))) have

pub returns-in_default-count_of-clause-changes : goal.returns-in_default-count_of-clause-changes
returns-in_default-count_of-clause-changes c = changes_nothing c.args.heap.now c.args.procs.now c.args.place.pid c.requires.listed (ap is_some c.requires.there)

pub returns-in_default-clause-paid : goal.returns-in_default-clause-paid
returns-in_default-clause-paid c = IsPaid-refl c.args.heap.now c.args.purse.now

pub returns-in-1-clause-paid : goal.returns-in-1-clause-paid
returns-in-1-clause-paid c = IsPaid-refl c.args.heap.now c.args.purse.now

pub returns-in-3-clause-paid : goal.returns-in-3-clause-paid
returns-in-3-clause-paid c = IsPaid-refl c.args.heap.now c.args.purse.now

pub returns-in_default-count_of-clause-paid : goal.returns-in_default-count_of-clause-paid
returns-in_default-count_of-clause-paid c = IsPaid-refl c.args.heap.now c.args.purse.now

pub returns-in-2-clause-paid : goal.returns-in-2-clause-paid
returns-in-2-clause-paid c = c.mark_one.ensures.paid

pub returns-in-4-clause-paid : goal.returns-in-4-clause-paid
returns-in-4-clause-paid c = IsPaid-nothing c.args.heap.now c.set_flags.new.heap c.args.purse.now c.args.purse.now c.set_flags.ensures.takes refl refl
