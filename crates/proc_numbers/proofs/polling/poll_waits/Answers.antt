use Rattle.std.proofs.Common.{◌==◌, ◌&&◌, ◌∙◌, ap, sym, w64}
use Rattle.std.proofs.lemmas.Int.{to_z-of_z}
use Rattle.kabi_types.specs.Arguments.{is_minus_one}
use Rattle.posix_defs.specs.Calls.Polling.{hits_of, revents_of}
use Rattle.proc_numbers.proofs.Polls.{poll_blocks}
use Rattle.proc_numbers.proofs.polling.poll_waits.Goals as goal

pub returns : goal.returns
returns c = λ script numbers plain have.
    c.sleeps.ensures
    ∙ ap (λ z. (c.hits_of.result == 0) && is_minus_one z) (to_z-of_z w64 c.args.timeout c.ranges.timeout)
    ∙ ap (λ n. (n == 0) && is_minus_one c.args.timeout)
    (c.hits_of.ensures ∙ ap hits_of (c.items-2.ensures.same ∙ c.revents_of-revents.ensures numbers plain.files have ∙ ap (revents_of plain.files c.args.place.pid) c.items.ensures.same))
    ∙ sym (poll_blocks script plain c.args.place.pid c.args.timeout c.args.entries.now)
