-- What a turn of a call may do to a world.
use Rattle.std.specs.Prelude.{ℕ, ◌+◌, ◌≡◌, ◌≤◌, Bool, true, false, length}
use Rattle.kabi_types.specs.declared.calls.Call.{Call}
use Rattle.kabi_types.specs.declared.replies.Reply.{Reply}
use Rattle.kabi_types.specs.declared.scripts.Script.{Script}
use Rattle.posix_defs.specs.declared.turner.Turned.{Turned}
use Rattle.posix_defs.specs.declared.turner.Turned.TheVariants as turned
use Rattle.posix_defs.specs.Needs.{bound, need_of}
use Rattle.posix_defs.specs.Process.{is_alive}
use Rattle.posix_defs.specs.Plain.{Plain}
use Rattle.posix_defs.specs.Answer.{Answer, Blocked, Done, Part, Ended}
use Rattle.posix_defs.specs.Machine.{machine}
use Rattle.posix_defs.specs.MemoryCalls.{frames_after}
use Rattle.posix_defs.specs.Account.{account_on, with_frames}
use Rattle.posix_defs.specs.Reaching.{reaches_node, name_to_leave, knows_way, has_succeeded, IsLeft}
use Rattle.posix_defs.specs.World.{World, Account, MayKeep, live_of}

-- what is told, and the plain machine after it, where POSIX gives this answer
abbrev pub Tells : Answer → Plain → Turned → Plain → Type 0
Tells Blocked old told new = (told ≡ turned.Sleep) × (new ≡ old)
Tells (Done reply next) old told new = (told ≡ turned.Done reply) × (new ≡ next)
Tells (Part moved next) old told new = (told ≡ turned.Part moved) × (new ≡ next)
Tells (Ended status next) old told new = (told ≡ turned.Ended status) × (new ≡ next)

-- what a process's call that is over did to the frames
abbrev pub touched : Account → ℕ → Call → Reply → Account
touched account pid call reply = with_frames account (frames_after account.frames pid call reply)

-- the account after an answer: a call that would block leaves it, one that is over may have put bytes in memory, and the
-- machine has gone on
abbrev pub account_after : Account → Plain → ℕ → Call → Answer → Account
account_after account plain pid call Blocked = account
account_after account plain pid call (Done reply next) = account_on plain next (touched account pid call reply)
account_after account plain pid call (Part moved next) = account_on plain next account
account_after account plain pid call (Ended status next) = account_on plain next account

-- A call of a live process is answered as POSIX answers it. It may change what is kept, by no more than its need has; one that
-- reaches no node leaves what is kept and reads nothing.
pub record Answers (script : Script) (old : World) (pid : ℕ) (call : Call) (told : Turned) (new : World) : Type 0 where
  pub answer : Tells (machine script old.plain pid call) old.plain told new.plain
  pub account : new.account ≡ account_after old.account old.plain pid call (machine script old.plain pid call)
  pub may_keep : MayKeep new.plain new.kept
  pub live : live_of new ≤ live_of old + bound call
  pub names : length new.kept.names ≤ length old.kept.names + (need_of call).name
  pub blocks : length new.kept.blocks ≤ length old.kept.blocks + (need_of call).block
  pub vnodes : length new.kept.vnodes ≤ length old.kept.vnodes + (need_of call).vnode
  pub reads : old.reads ≤ new.reads
  pub untouched : reaches_node old.plain pid call new.plain ≡ false → (new.kept ≡ old.kept) × (new.reads ≡ old.reads)
  pub left : has_succeeded told ≡ true → IsLeft new.plain.files.tree new.kept (name_to_leave old.plain pid call)
  pub known : knows_way old.plain old.kept pid call ≡ true → new.reads ≡ old.reads

-- a turn of a call: it is answered where its process is alive, else it is gone and changes nothing
abbrev pub TurnsWhere : Bool → Script → World → ℕ → Call → Turned → World → Type 0
TurnsWhere true script old pid call told new = Answers script old pid call told new
TurnsWhere false script old pid call told new = (told ≡ turned.Gone) × (new ≡ old)

-- a call of a process that has ended is gone, and changes nothing
abbrev pub TurnsTo : Script → World → ℕ → Call → Turned → World → Type 0
TurnsTo script old pid call told new = TurnsWhere (is_alive old.plain.table pid) script old pid call told new
