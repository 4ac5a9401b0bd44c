-- Lists of what belongs to each process ever made: process 1 stands first, and no pid is used twice.
use Rattle.std.specs.Prelude.{ℕ, zero, suc, List, Option, None, slice_get, slice_set}

-- what belongs to a pid; None for 0, and for a pid that was not made
abbrev pub at_pid : {X : Type 0} → List X → ℕ → Option X
at_pid xs zero = None
at_pid xs (suc before) = slice_get xs before

-- the same list with another item for a pid
abbrev pub with_pid : {X : Type 0} → List X → ℕ → X → List X
with_pid xs zero x = xs
with_pid xs (suc before) x = slice_set xs before x
