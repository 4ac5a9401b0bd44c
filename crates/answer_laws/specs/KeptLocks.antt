-- Which calls leave the locks of files as they are.
use Rattle.std.specs.Prelude.{◌≡◌, Bool, true, false}
use Rattle.kabi_types.specs.declared.calls.Call.{Call}
use Rattle.kabi_types.specs.declared.calls.Call.TheVariants as call
use Rattle.posix_defs.specs.Answer.{Answer, Blocked, Done, Ended, Part}
use Rattle.posix_defs.specs.Plain.{Plain}

-- whatever machine an answer leads to, but for one in which its caller has ended, has the same locks
abbrev pub LeavesLocks : Plain → Answer → Type 0
LeavesLocks plain Blocked = Unit {0}
LeavesLocks plain (Done reply next) = next.files.locks ≡ plain.files.locks
LeavesLocks plain (Part moved next) = next.files.locks ≡ plain.files.locks
LeavesLocks plain (Ended status next) = Unit {0}

-- the call closes no number but where its caller ends, ends no other process, and holds and lets go nothing
abbrev pub keeps_locks : Call → Bool
keeps_locks (call.Close fd) = false
keeps_locks (call.Dup2 fd to) = false
keeps_locks (call.Exec path) = false
keeps_locks (call.Kill target signal) = false
keeps_locks (call.Setlk fd kind start length) = false
keeps_locks (call.Setlkw fd kind start length) = false
keeps_locks _ = true
