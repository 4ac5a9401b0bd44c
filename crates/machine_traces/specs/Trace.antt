-- Calls that processes make one after another on the plain machine, and what each of them is told.
use Rattle.std.specs.Prelude.{ℕ, List, [], ◌∷◌, map}
use Rattle.kabi_types.specs.declared.calls.Call.{Call}
use Rattle.kabi_types.specs.declared.errnos.Errno.{Errno}
use Rattle.kabi_types.specs.declared.replies.NodeKind.{NodeKind}
use Rattle.kabi_types.specs.declared.replies.Reply.{Reply}
use Rattle.kabi_types.specs.declared.replies.Reply.TheVariants as reply
use Rattle.kabi_types.specs.declared.replies.StatInfo.{StatInfo}
use Rattle.kabi_types.specs.declared.scripts.Chooser.TheVariants as chooser
use Rattle.kabi_types.specs.declared.scripts.Policy.TheVariants.{Heaviest}
use Rattle.kabi_types.specs.declared.scripts.Script.{Script}
use Rattle.posix_defs.specs.declared.turner.Turned.{Turned}
use Rattle.posix_defs.specs.declared.turner.Turned.TheVariants as turned
use Rattle.posix_defs.specs.Plain.{Plain, boot_plain}
use Rattle.posix_defs.specs.Answer.{Answer, Blocked, Done, Part, Ended}
use Rattle.posix_defs.specs.Machine.{machine}
use Rattle.posix_defs.specs.Account.{Account, no_account, base}
use Rattle.posix_defs.specs.Turn.{account_after}
use Rattle.posix_defs.specs.World.{pins}

-- ---- what is made, and what is told

-- one call of a process, and what it is told
pub record Line : Type 0 where
  pub pid : ℕ
  pub call : Call
  pub told : Turned

-- the call is over, with this reply
abbrev pub gets : ℕ → Call → Reply → Line
gets pid call reply = record { pid = pid; call = call; told = turned.Done reply }

-- it is over, and has failed
abbrev pub fails : ℕ → Call → Errno → Line
fails pid call errno = gets pid call (reply.Fail errno)

-- a write that moved so many bytes, or an open of a FIFO that made its end, which goes on later
abbrev pub moves : ℕ → Call → ℕ → Line
moves pid call count = record { pid = pid; call = call; told = turned.Part count }

-- the call would block
abbrev pub sleeps : ℕ → Call → Line
sleeps pid call = record { pid = pid; call = call; told = turned.Sleep }

-- the process has ended, with this wait status
abbrev pub ends : ℕ → Call → ℕ → Line
ends pid call status = record { pid = pid; call = call; told = turned.Ended status }

-- what a node is, its number, its links and its size
abbrev pub info : NodeKind → ℕ → ℕ → ℕ → StatInfo
info kind number nlink size = record { kind = kind; number = number; nlink = nlink; size = size }

abbrev pub told_of : List Line → List Turned
told_of lines = map (λ line. line.told) lines

-- ---- playing them

-- what is told along the way, and after each call the heap that the machine takes without caches, in bytes, and how many nodes
-- have to be cached
pub record Told : Type 0 where
  pub told : List Turned
  pub heap : List ℕ
  pub pinned : List ℕ

-- where one call leads
pub record Step : Type 0 where
  pub told : Turned
  pub plain : Plain
  pub account : Account

abbrev pub step_to : Plain → Account → Line → Answer → Step
step_to plain account line Blocked = record { told = turned.Sleep; plain = plain; account = account }
step_to plain account line (Done reply next) =
    record { told = turned.Done reply; plain = next; account = account_after account plain line.pid line.call (Done reply next) }
step_to plain account line (Part moved next) =
    record { told = turned.Part moved; plain = next; account = account_after account plain line.pid line.call (Part moved next) }
step_to plain account line (Ended status next) =
    record { told = turned.Ended status; plain = next; account = account_after account plain line.pid line.call (Ended status next) }

abbrev pub step : Script → Plain → Account → Line → Step
step script plain account line = step_to plain account line (machine script plain line.pid line.call)

abbrev pub and_then : Step → Told → Told
and_then went later = record {
  told = went.told ∷ later.told;
  heap = base went.plain went.account ∷ later.heap;
  pinned = pins went.plain ∷ later.pinned;
}

abbrev pub played_from : Script → Plain → Account → List Line → Told
played_from script plain account [] = record { told = []; heap = []; pinned = [] }
played_from script plain account (line ∷ lines) =
    let went = step script plain account line in and_then went (played_from script went.plain went.account lines)

-- a script with these programs, of which nothing but the names counts here, on a disk of so many blocks
abbrev pub script_of : ℕ → List (List ℕ) → Script
script_of disk names = record {
  heap = 65536;
  disk = disk;
  steps = 1000;
  policy = Heaviest;
  chooser = chooser.Plain;
  programs = map (λ name. record { name = name; body = [] }) names;
}

-- all calls of a trace, from boot on, with what the machine tells of them
abbrev pub played : Script → List Line → Told
played script lines = played_from script (boot_plain script) no_account lines
