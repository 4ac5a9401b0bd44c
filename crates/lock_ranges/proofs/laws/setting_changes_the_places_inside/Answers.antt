use Rattle.lock_ranges.proofs.Shape.{IsCanonical-set, kind_at-set}
use Rattle.lock_ranges.proofs.laws.setting_changes_the_places_inside.Goals as goal

pub returns-clause-meaning : goal.returns-clause-meaning
returns-clause-meaning c = kind_at-set

pub returns-clause-canonical : goal.returns-clause-canonical
returns-clause-canonical c = IsCanonical-set
