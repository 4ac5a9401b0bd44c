-- Who sleeps, told by the entries alone.
use Rattle.std.specs.Prelude.{ℕ, ◌==◌, Bool, false}
use Rattle.kabi_types.specs.declared.entries.Entry.{Entry}
use Rattle.kabi_types.specs.declared.entries.Entry.TheVariants as entry

-- the entry is one of this process
abbrev pub is_of : ℕ → Entry → Bool
is_of pid (entry.Done other _ _) = other == pid
is_of pid (entry.Part other _ _) = other == pid
is_of pid (entry.Slept other _) = other == pid
is_of pid (entry.Ended other _ _) = other == pid
is_of pid (entry.Refused other _ _) = other == pid
is_of pid (entry.Gone other _) = other == pid
is_of pid (entry.Killed other _ _ _) = other == pid
is_of pid (entry.Evicted _) = false

-- the entry says that this process's call slept or did a part
abbrev pub sleeps_by : ℕ → Entry → Bool
sleeps_by pid (entry.Part other _ _) = other == pid
sleeps_by pid (entry.Slept other _) = other == pid
sleeps_by pid _ = false
