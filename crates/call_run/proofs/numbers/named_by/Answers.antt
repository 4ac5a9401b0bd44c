use Rattle.store_objects.proofs.Keeping.{listed_in}
use Rattle.call_run.proofs.numbers.named_by.Goals as goal

pub opened-requires-clause-listed : goal.opened-requires-clause-listed
opened-requires-clause-listed c = let kept = c.requires.kept in listed_in kept.0 c.args.objects.now kept.1

pub opened-requires-clause-owners : goal.opened-requires-clause-owners
opened-requires-clause-owners c = let kept = c.requires.kept in kept.1.owners
