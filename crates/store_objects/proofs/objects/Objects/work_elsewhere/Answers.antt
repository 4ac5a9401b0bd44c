use Rattle.std.proofs.Common.{refl}
use Rattle.store_objects.proofs.objects.Objects.work_elsewhere.Goals as goal

pub returns : goal.returns
returns c = record {
  proc = c.at-proc.result.now;
  key = c.args.place.key;
  found = c.at-proc.ensures.found;
  turns = record { found = c.requires.there; there = c.at-proc.ensures.kept; same = refl; awake = λ still. still; after = c.set_proc.ensures.kept };
  same = refl;
  tree = refl;
  names = refl;
  fifos = refl;
  locks = refl;
  takes = c.set_proc.ensures.takes;
}
