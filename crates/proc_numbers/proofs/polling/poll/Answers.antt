use Rattle.std.proofs.Common.{◌==◌, ◌&&◌, ◌∙◌, ap, sym, w64}
use Rattle.std.proofs.lemmas.Int.{to_z-of_z}
use Rattle.kabi_types.specs.Arguments.{is_minus_one}
use Rattle.posix_defs.specs.Calls.Polling.{hits_of, revents_of}
use Rattle.proc_numbers.proofs.Polls.{leads_polled, leads_waiting}
use Rattle.proc_numbers.proofs.polling.poll.Goals as goal

pub returns-then-sleeps : goal.returns-then-sleeps
returns-then-sleeps c = λ script numbers plain account stands.
    leads_waiting script plain c.args.place.pid c.args.timeout c.args.entries.now numbers c.args.heap.now c.args.procs.now account c.requires.kept stands c.hits_of-hits.result c.revents_of-revents.result
    (c.revents_of-revents.ensures numbers plain.files stands.opened ∙ ap (revents_of plain.files c.args.place.pid) c.items.ensures.same)
    (c.hits_of-hits.ensures ∙ ap hits_of c.items-2.ensures.same)
    (ap (λ z. (c.hits_of-hits.result == 0) && is_minus_one z) (sym (to_z-of_z w64 c.args.timeout c.ranges.timeout)) ∙ sym c.sleeps.ensures ∙ c.if-sleeps.true)

pub returns-else-sleeps : goal.returns-else-sleeps
returns-else-sleeps c = λ script numbers plain account stands.
    leads_polled script plain c.args.place.pid c.args.timeout c.args.entries.now numbers c.args.heap.now c.args.procs.now account c.requires.kept stands c.hits_of-hits.result c.revents_of-revents.result
    (c.revents_of-revents.ensures numbers plain.files stands.opened ∙ ap (revents_of plain.files c.args.place.pid) c.items.ensures.same)
    (c.hits_of-hits.ensures ∙ ap hits_of c.items-2.ensures.same)
    (ap (λ z. (c.hits_of-hits.result == 0) && is_minus_one z) (sym (to_z-of_z w64 c.args.timeout c.ranges.timeout)) ∙ sym c.sleeps.ensures ∙ c.if-sleeps.false)
