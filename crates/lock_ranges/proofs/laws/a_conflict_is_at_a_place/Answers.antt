use Rattle.lock_ranges.proofs.Conflicts.{conflict_at_place, place_of_conflict}
use Rattle.lock_ranges.proofs.laws.a_conflict_is_at_a_place.Goals as goal

pub returns : goal.returns
returns c ranges asked canonical order = (
  λ some. let way = place_of_conflict ranges asked canonical order some in (way.0, way.1.0, way.1.1),
  λ way. conflict_at_place ranges asked way.0 (way.1, way.2),
)
