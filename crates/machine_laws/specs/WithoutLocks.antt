-- Calls that don't ask for places of a file.
use Rattle.std.specs.Prelude.{Bool, true, false}
use Rattle.kabi_types.specs.declared.calls.Call.{Call}
use Rattle.kabi_types.specs.declared.calls.Call.TheVariants as calls

-- the call is none of those on record locks
abbrev pub minds_no_lock : Call → Bool
minds_no_lock (calls.Setlk fd kind start size) = false
minds_no_lock (calls.Setlkw fd kind start size) = false
minds_no_lock (calls.Getlk fd kind start size) = false
minds_no_lock _ = true
