use Rattle.std.proofs.Common.{refl}
use Rattle.memfs_dir.proofs.finding.look_in.Goals as goal

pub returns-in_default-clause-none : goal.returns-in_default-clause-none
returns-in_default-clause-none c = λ _. c.in_default.ensures.none refl
