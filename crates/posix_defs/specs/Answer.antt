-- What the machine answers to one call.
use Rattle.std.specs.Prelude.{ℕ}
use Rattle.kabi_types.specs.declared.errnos.Errno.{Errno}
use Rattle.kabi_types.specs.declared.replies.Reply.{Reply}
use Rattle.kabi_types.specs.declared.replies.Reply.TheVariants as reply
use Rattle.kabi_types.specs.declared.scripts.Script.{Script}
use Rattle.posix_defs.specs.Plain.{Plain, answered}

-- What the machine answers to one call of a live process: exactly one of these four.
pub data Answer : Type 0 where
  -- the call would block, and nothing changes
  Blocked : Answer
  -- the call is over
  Done : Reply → Plain → Answer
  -- a write moved so many bytes, or an open of a FIFO made its one end; it goes on later
  Part : ℕ → Plain → Answer
  -- the process has ended with a wait status
  Ended : ℕ → Plain → Answer

-- a call that is over: its caller goes on behind it
abbrev pub replied : Script → Plain → ℕ → Reply → Answer
replied script plain pid reply = Done reply (answered script plain pid reply)

-- a call that fails changes nothing but its caller's control
abbrev pub failed : Script → Plain → ℕ → Errno → Answer
failed script plain pid errno = replied script plain pid (reply.Fail errno)
