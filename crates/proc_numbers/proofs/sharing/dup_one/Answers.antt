use Rattle.std.proofs.Common.{ap, is_some}
use Rattle.kabi_types.specs.declared.errnos.Errno.TheVariants.{EBADF}
use Rattle.open_laws.specs.Described.{counted_in}
use Rattle.posix_defs.specs.Calls.OnDescriptors.{dup}
use Rattle.proc_numbers.proofs.NumberCloses.{no_some}
use Rattle.proc_numbers.proofs.Answered.{answers_as, on_it, on_nothing, refused}
use Rattle.proc_numbers.proofs.Changes.{changes_nothing}
use Rattle.proc_numbers.proofs.OpenedBy.{is_held, is_none, is_there}
use Rattle.proc_numbers.specs.Found.{held_in}
use Rattle.kheap_laws.proofs.PaidLemmas.{IsPaid-refl}
use Rattle.proc_numbers.proofs.sharing.dup_one.Goals as goal

-- ---- it isn't open

pub returns-in_default-clause-answers : goal.returns-in_default-clause-answers
unfolding dup
returns-in_default-clause-answers c = λ numbers script plain have.
    refused numbers c.args.heap.now c.args.procs.now script plain c.args.place.pid (dup script plain c.args.place.pid c.args.on.now.fd) EBADF
    (on_nothing numbers c.args.heap.now c.args.procs.now script plain c.args.place.pid have c.args.on.now.fd _ (is_none c.args.heap.now c.args.procs.now c.args.place.pid c.args.on.now c.requires.opened (no_some c.args.on.now.found c.in_default.not-Some))) have

pub returns-in_default-clause-changes : goal.returns-in_default-clause-changes
returns-in_default-clause-changes c = changes_nothing c.args.heap.now c.args.procs.now c.args.place.pid c.requires.listed (ap is_some c.requires.there)

-- ---- it is

pub share_lowest-requires-clause-used : goal.share_lowest-requires-clause-used
share_lowest-requires-clause-used c =
    ap is_some (is_there c.args.heap.now c.args.procs.now c.args.place.pid c.args.on.now c.requires.opened c.in-Some.found c.in-Some.is)

pub returns-clause-answers : goal.returns-clause-answers
unfolding dup
returns-clause-answers c = λ numbers script plain have.
    let is = is_held c.args.heap.now c.args.procs.now c.args.place.pid c.args.on.now c.requires.opened c.in-Some.found c.in-Some.is in
    let there = is_there c.args.heap.now c.args.procs.now c.args.place.pid c.args.on.now c.requires.opened c.in-Some.found c.in-Some.is in
    answers_as numbers c.share_lowest.new.heap c.args.procs.now script plain c.args.place.pid (dup script plain c.args.place.pid c.args.on.now.fd) _ _
    (on_it numbers c.args.heap.now c.args.procs.now script plain c.args.place.pid have c.args.on.now.fd (held_in c.in-Some.found) c.in-Some.found.desc is there _)
    (c.share_lowest.ensures.answers numbers script plain (counted_in numbers c.in-Some.found.desc).is have)

pub returns-in_default-clause-paid : goal.returns-in_default-clause-paid
returns-in_default-clause-paid c = IsPaid-refl c.args.heap.now c.args.purse.now
