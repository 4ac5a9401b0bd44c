-- Who chooses the events of a run that are still to come.
use Rattle.std.specs.Prelude.{ℕ, suc, Option, None, Some, slice_get}
use Rattle.posix_defs.specs.Generator.{state_after, choice_of}
use Rattle.kern_core.specs.declared.choosing.Choosing.{Choosing}
use Rattle.kern_core.specs.declared.choosing.Choosing.TheVariants.{Default, Numbers, Generator}

-- the number that chooses the event with so many before it; None where the default is taken
abbrev pub given : Choosing → ℕ → Option ℕ
given Default i = None
given (Numbers numbers) i = slice_get numbers.now i
given (Generator x) i = Some (choice_of (state_after x (suc i)))
