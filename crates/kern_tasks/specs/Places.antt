-- Where the task of a pid is.
use Rattle.std.specs.Prelude.{ℕ, ◌+◌, ◌==◌, if◌then◌else◌, List, [], ◌∷◌, Option, None, Some}
use Rattle.posix_defs.specs.declared.phases.Task.{Task}

-- the place of a pid's task in a list whose first place has this number
abbrev pub place_from : ℕ → List Task → ℕ → Option ℕ
place_from first [] pid = None
place_from first (task ∷ tasks) pid = if task.pid == pid then Some first else place_from (first + 1) tasks pid
