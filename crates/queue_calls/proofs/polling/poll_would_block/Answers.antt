use Rattle.std.proofs.Common.{◌≡◌, ◌∙◌, subst, sym, w64}
use Rattle.std.proofs.lemmas.Int.{to_z-of_z}
use Rattle.posix_defs.specs.Calls.Polling.{poll}
use Rattle.posix_defs.specs.Machine.{blocks}
use Rattle.queue_calls.proofs.Blocking.{poll_alike}
use Rattle.queue_calls.proofs.Queueing.{is_kept}
use Rattle.queue_calls.proofs.polling.poll_would_block.Goals as goal

pub poll_waits-requires-clause-kept : goal.poll_waits-requires-clause-kept
poll_waits-requires-clause-kept c = let some = c.requires.stands in is_kept some.0 c.args.objects.now some.2.kept

pub returns : goal.returns
returns c = λ script world stands.
    subst (λ z. c.poll_waits.result ≡ blocks (poll script world.plain c.args.place.pid z c.args.entries.now)) (to_z-of_z w64 c.args.timeout c.ranges.timeout)
    (c.poll_waits.ensures script stands.files.numbers world.plain stands.files.opened)
    ∙ sym (poll_alike script world.plain c.args.place.pid c.args.timeout c.args.entries.now)
