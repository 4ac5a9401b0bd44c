use Rattle.std.proofs.Common.{refl}
use Rattle.cached_disk.proofs.dirs.CachedDirsDirs.look.Goals as goal

pub returns-clause-value : goal.returns-clause-value
returns-clause-value c = λ tree stands. c.find_name.ensures.value tree stands

pub returns-clause-stands : goal.returns-clause-stands
returns-clause-stands c = λ tree stands. c.find_name.ensures.stands tree stands

pub returns-clause-follows : goal.returns-clause-follows
returns-clause-follows c = (refl, refl, refl, refl, refl, refl, c.find_name.ensures.goes_on)

pub returns-clause-asked : goal.returns-clause-asked
returns-clause-asked c = record { stands = λ tree stands. c.find_name.ensures.stands tree stands; told = c.find_name.ensures.asked }
