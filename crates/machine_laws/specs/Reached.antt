-- The machines that all forty-three calls lead to.
use Rattle.std.specs.Prelude.{ℕ, ◌≡◌, true}
use Rattle.kabi_types.specs.declared.errnos.Errno.TheVariants.{ENOMEM}
use Rattle.kabi_types.specs.declared.replies.Reply.{Reply}
use Rattle.kabi_types.specs.declared.replies.Reply.TheVariants.{Fail}
use Rattle.kabi_types.specs.declared.scripts.Script.{Script}
use Rattle.posix_defs.specs.Answer.{Done, Ended, Part}
use Rattle.posix_defs.specs.Ending.{die}
use Rattle.posix_defs.specs.Plain.{Plain, answered, boot_plain, call_of}
use Rattle.posix_defs.specs.Machine.{machine}
use Rattle.posix_defs.specs.Process.{is_alive}

-- A machine of a script is reached from its beginning by answers to the calls that live processes make, by refusals, and by
-- kills.
pub data IsReached (script : Script) : Plain → Type 0 where
  boots : IsReached script (boot_plain script)
  -- a call is over
  replies : (plain : Plain) (pid : ℕ) (reply : Reply) (next : Plain) → IsReached script plain → is_alive plain.table pid ≡ true
      → machine script plain pid (call_of script plain pid) ≡ Done reply next → IsReached script next
  -- a part of a write is done
  moves : (plain : Plain) (pid moved : ℕ) (next : Plain) → IsReached script plain → is_alive plain.table pid ≡ true
      → machine script plain pid (call_of script plain pid) ≡ Part moved next → IsReached script next
  -- the caller ends
  ends : (plain : Plain) (pid status : ℕ) (next : Plain) → IsReached script plain → is_alive plain.table pid ≡ true
      → machine script plain pid (call_of script plain pid) ≡ Ended status next → IsReached script next
  -- a call that never fits the heap is refused
  refuses : (plain : Plain) (pid : ℕ) → IsReached script plain → IsReached script (answered script plain pid (Fail ENOMEM))
  -- a process is killed, so that the call of another fits
  kills : (plain : Plain) (pid status : ℕ) → IsReached script plain → IsReached script (die plain pid status)
