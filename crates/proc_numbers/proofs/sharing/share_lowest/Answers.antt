use Rattle.std.proofs.Common.{is_some, ◌∙◌, Some, false, ap, subst}
use Rattle.std.specs.Prelude.{IfSome}
use Rattle.kabi_types.specs.declared.errnos.Errno.TheVariants.{EMFILE}
use Rattle.posix_defs.specs.Calls.OnDescriptors.{duplicated}
use Rattle.posix_defs.specs.Files.State.{with_open}
use Rattle.proc_numbers.proofs.NumberCloses.{no_some}
use Rattle.proc_numbers.proofs.Answered.{refused}
use Rattle.proc_numbers.proofs.Changes.{changes_nothing}
use Rattle.proc_numbers.proofs.Lowest.{IsLowest}
use Rattle.kheap_laws.proofs.PaidLemmas.{IsPaid-refl}
use Rattle.proc_numbers.proofs.sharing.share_lowest.Goals as goal

pub returns-in_default-clause-answers : goal.returns-in_default-clause-answers
returns-in_default-clause-answers c = λ numbers script plain is have.
    let none = no_some c.lowest_from.result c.in_default.not-Some in
    refused numbers c.args.heap.now c.args.procs.now script plain c.args.place.pid _ EMFILE
    (ap (duplicated script plain c.args.place.pid (record { place = numbers.descs c.args.desc; is = is })) (c.lowest_from.ensures.lowest numbers plain.files have ∙ none)) have

pub returns-in_default-clause-changes : goal.returns-in_default-clause-changes
returns-in_default-clause-changes c = changes_nothing c.args.heap.now c.args.procs.now c.args.place.pid c.requires.listed (ap is_some c.requires.there)

pub share_at-requires-clause-number : goal.share_at-requires-clause-number
share_at-requires-clause-number c =
    (subst (λ o. IfSome o (IsLowest c.args.heap.now c.args.procs.now c.args.place.pid c.args.from)) c.in-Some.is c.lowest_from.ensures.free).0

pub share_at-requires-clause-free : goal.share_at-requires-clause-free
share_at-requires-clause-free c =
    (subst (λ o. IfSome o (IsLowest c.args.heap.now c.args.procs.now c.args.place.pid c.args.from)) c.in-Some.is c.lowest_from.ensures.free).2

pub returns-clause-answers : goal.returns-clause-answers
returns-clause-answers c = λ numbers script plain is have.
    record {
      files = with_open plain.files c.args.place.pid c.in-Some.fd (Some (record { description = numbers.descs c.args.desc; cloexec = false }));
      replies = ap (duplicated script plain c.args.place.pid (record { place = numbers.descs c.args.desc; is = is })) (c.lowest_from.ensures.lowest numbers plain.files have ∙ c.in-Some.is);
      stands = c.share_at.ensures.opened numbers plain.files have;
    }

pub returns-in_default-clause-paid : goal.returns-in_default-clause-paid
returns-in_default-clause-paid c = IsPaid-refl c.args.heap.now c.args.purse.now
