-- Calls that wait for room, by how much room there is.
use Rattle.std.specs.Prelude.{ℕ, ◌==◌, Bool, true, false, not, nat_le, if◌then◌else◌, List, [], ◌∷◌, Option, None, Some}
use Rattle.posix_defs.specs.declared.phases.Phase.{Phase}
use Rattle.posix_defs.specs.declared.phases.Phase.TheVariants.{User, Waiting, Admitted, Asleep, Stranded, Dead}
use Rattle.posix_defs.specs.declared.phases.Task.{Task}

-- the call waits, and so much room is enough for it
abbrev pub waits_within : ℕ → Phase → Bool
waits_within room (Waiting asked) = nat_le asked.bound room
waits_within room _ = false

-- the call waits, and so much room isn't enough for it
abbrev pub waits_without : ℕ → Phase → Bool
waits_without room (Waiting asked) = not (nat_le asked.bound room)
waits_without room _ = false

-- the call can go on at once: it waits and so much room is enough for it, or it is admitted and holds nothing
abbrev pub goes_within : ℕ → Phase → Bool
goes_within room (Waiting asked) = nat_le asked.bound room
goes_within room (Admitted asked) = asked.bound == 0
goes_within room (Stranded asked) = asked.bound == 0
goes_within room _ = false

abbrev pub is_asleep : Phase → Bool
is_asleep (Asleep _) = true
is_asleep _ = false

-- a process in this phase has an event, whatever its call would do, where so much room is left
abbrev pub has_event : ℕ → Phase → Bool
has_event room User = true
has_event room (Waiting asked) = nat_le asked.bound room
has_event room (Admitted _) = true
has_event room (Asleep _) = false
has_event room (Stranded _) = true
has_event room Dead = false

-- the lowest pid whose call can go on
abbrev pub first_going : ℕ → List Task → Option ℕ
first_going room [] = None
first_going room (task ∷ tasks) = if goes_within room task.phase then Some task.pid else first_going room tasks
