use Rattle.std.proofs.Common.{◌≡◌, ◌∙◌, subst, w64}
use Rattle.std.proofs.lemmas.Int.{to_z-of_z}
use Rattle.posix_defs.specs.Calls.OnSockets.{accept}
use Rattle.posix_defs.specs.Machine.{blocks}
use Rattle.store_objects.proofs.Keeping.{listed_in}
use Rattle.queue_calls.proofs.accepting.accept_would_block.Goals as goal

pub opened-on-requires-clause-listed : goal.opened-on-requires-clause-listed
opened-on-requires-clause-listed c = let some = c.requires.stands in listed_in some.0 c.args.objects.now some.2.kept

pub opened-on-requires-clause-owners : goal.opened-on-requires-clause-owners
opened-on-requires-clause-owners c = let some = c.requires.stands in some.2.kept.owners

pub accept_waits-requires-clause-listed : goal.accept_waits-requires-clause-listed
accept_waits-requires-clause-listed c = let some = c.requires.stands in listed_in some.0 c.args.objects.now some.2.kept

pub accept_waits-requires-clause-owners : goal.accept_waits-requires-clause-owners
accept_waits-requires-clause-owners c = let some = c.requires.stands in some.2.kept.owners

pub returns : goal.returns
returns c = λ script world stands.
    -- the number that was looked up is that of the call
    subst (λ z. c.accept_waits.result ≡ blocks (accept script world.plain c.args.place.pid z)) (c.opened-on.ensures.number ∙ to_z-of_z w64 c.args.fd c.ranges.fd)
    (c.accept_waits.ensures stands.files.numbers script world.plain stands.files.opened)
