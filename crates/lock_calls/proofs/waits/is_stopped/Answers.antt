use Rattle.std.proofs.Common.{◌≡◌, ◌∙◌, not, Option, None, Some, is_none, is_some, refl, ap}
use Rattle.std.specs.Option.{option_map}
use Rattle.lock_table.specs.Holding.{info_of}
use Rattle.posix_defs.specs.Locks.{Lock}
use Rattle.lock_calls.proofs.waits.is_stopped.Goals as goal

some_is : (first : Option Lock) → is_some (option_map info_of first) ≡ not (is_none first)
some_is None = refl
some_is (Some lock) = refl

pub returns : goal.returns
returns c = λ locks holds. c.is_some.ensures ∙ ap is_some (c.conflict-first.ensures locks holds) ∙ some_is _
