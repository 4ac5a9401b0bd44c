-- Legal histories: entries that the plain machine allows one after another, whichever way calls interleave.
use Rattle.std.specs.Prelude.{ℕ, ◌+◌, ◌*◌, ◌==◌, ◌≡◌, ◌≢◌, ◌≤◌, ◌<◌, Bool, true, false, not, List, [], ◌∷◌, ◌++◌, filter, Some}
use Rattle.std.specs.List.{list_any}
use Rattle.kabi_types.specs.Call.{kind_of}
use Rattle.kabi_types.specs.Class.{size}
use Rattle.kabi_types.specs.declared.classes.Class.TheVariants as class
use Rattle.kabi_types.specs.declared.classes.Need.{Need}
use Rattle.kabi_types.specs.declared.calls.Call.{Call}
use Rattle.kabi_types.specs.declared.calls.CallKind.{CallKind}
use Rattle.kabi_types.specs.declared.entries.Cached.{Cached}
use Rattle.kabi_types.specs.declared.entries.Cached.TheVariants as cached
use Rattle.kabi_types.specs.declared.entries.Entry.{Entry}
use Rattle.kabi_types.specs.declared.entries.Entry.TheVariants as entry
use Rattle.kabi_types.specs.declared.errnos.Errno.TheVariants.{ENOMEM}
use Rattle.kabi_types.specs.declared.replies.Reply.TheVariants.{Fail}
use Rattle.kabi_types.specs.declared.scripts.Script.{Script}
use Rattle.posix_defs.specs.Needs.{bound, need_of}
use Rattle.posix_defs.specs.Sizes.{reserve, room}
use Rattle.posix_defs.specs.Process.{is_alive}
use Rattle.posix_defs.specs.Plain.{Plain, answered, boot_plain, call_of, last_pid}
use Rattle.posix_defs.specs.Answer.{Answer, Blocked, Done, Part, Ended}
use Rattle.posix_defs.specs.Ending.{die}
use Rattle.posix_defs.specs.Killing.{sigkill}
use Rattle.posix_defs.specs.Machine.{machine, would_block}
use Rattle.posix_defs.specs.Account.{Account, account_on, base, no_account}
use Rattle.posix_defs.specs.World.{pins}
use Rattle.posix_defs.specs.Turn.{account_after}
use Rattle.posix_defs.specs.Victim.{victim_of}

-- how many objects of the three caches
pub record Fills : Type 0 where
  pub names : ℕ
  pub blocks : ℕ
  pub vnodes : ℕ

-- What a history has led to.
pub record Past : Type 0 where
  pub plain : Plain
  pub account : Account
  -- who sleeps: its last entry says that it slept or did a part, and its call would have blocked ever since
  pub asleep : List ℕ
  -- whose call was given up, since it had ended
  pub gone : List ℕ
  -- what the calls so far could have put into the caches, and what was evicted
  pub filled : Fills
  pub evicted : Fills

-- no object of any cache
abbrev pub no_fills : Fills
no_fills = record { names = 0; blocks = 0; vnodes = 0 }

-- before the first entry
abbrev pub boot_past : Script → Past
boot_past script = record { plain = boot_plain script; account = no_account; asleep = []; gone = []; filled = no_fills; evicted = no_fills }

-- the process is one of these
abbrev pub is_among : ℕ → List ℕ → Bool
is_among pid pids = list_any (λ other. other == pid) pids

-- the process doesn't sleep
abbrev pub is_up : Past → ℕ → Bool
is_up past pid = not (is_among pid past.asleep)

-- these processes but the one
abbrev pub others : ℕ → List ℕ → List ℕ
others pid pids = filter (λ other. not (other == pid)) pids

-- who of these still sleeps
abbrev pub still_asleep : Script → Plain → List ℕ → List ℕ
still_asleep script plain pids = filter (would_block script plain) pids

-- a call could have put so many objects into the caches
abbrev pub fills_after : Fills → Need → Fills
fills_after fills need = record { names = fills.names + need.name; blocks = fills.blocks + need.block; vnodes = fills.vnodes + need.vnode }

-- one more object of a cache
abbrev pub one_more : Fills → Cached → Fills
one_more fills cached.Name = record fills { names = fills.names + 1 }
one_more fills cached.Block = record fills { blocks = fills.blocks + 1 }
one_more fills cached.Vnode = record fills { vnodes = fills.vnodes + 1 }

-- no more was evicted of any cache than calls have put there
pub record AreCovered (evicted filled : Fills) : Type 0 where
  pub names : evicted.names ≤ filled.names
  pub blocks : evicted.blocks ≤ filled.blocks
  pub vnodes : evicted.vnodes ≤ filled.vnodes

-- the machine has gone on, and the sleepers are those of before who would still block
abbrev pub moves_on : Script → Past → Plain → Account → List ℕ → Past
moves_on script past plain account sleepers = record past { plain = plain; account = account; asleep = still_asleep script plain sleepers }

-- a call had its turn: what it needs may be cached now
abbrev pub had_turn : Past → Call → Past
had_turn past call = record past { filled = fills_after past.filled (need_of call) }

-- The process is alive, and this is the kind of its call, which may be admitted.
pub record MayRun (script : Script) (past : Past) (pid : ℕ) (kind : CallKind) : Type 0 where
  pub alive : is_alive past.plain.table pid ≡ true
  pub of_kind : kind ≡ kind_of (call_of script past.plain pid)
  pub fits_ever : bound (call_of script past.plain pid) ≤ room script.heap

-- A call was answered, and the machine has gone on as POSIX says.
pub record IsAnswered (script : Script) (past : Past) (pid : ℕ) (kind : CallKind) (answer : Plain → Answer) (sleepers : List ℕ) (next : Past) : Type 0 where
  pub may_run : MayRun script past pid kind
  pub plain : Plain
  pub answers : machine script past.plain pid (call_of script past.plain pid) ≡ answer plain
  pub leads : next ≡ moves_on script (had_turn past (call_of script past.plain pid)) plain (account_after past.account past.plain pid (call_of script past.plain pid) (answer plain)) sleepers

-- A call would block, and its process sleeps from now on.
pub record FallsAsleep (script : Script) (past : Past) (pid : ℕ) (kind : CallKind) (next : Past) : Type 0 where
  pub may_run : MayRun script past pid kind
  pub up : is_up past pid ≡ true
  pub blocked : machine script past.plain pid (call_of script past.plain pid) ≡ Blocked
  pub leads : next ≡ moves_on script (had_turn past (call_of script past.plain pid)) past.plain past.account (pid ∷ past.asleep)

-- A call's bound is above what the heap can ever give, and it is answered ENOMEM.
pub record IsRefused (script : Script) (past : Past) (pid : ℕ) (kind : CallKind) (asked : ℕ) (next : Past) : Type 0 where
  pub alive : is_alive past.plain.table pid ≡ true
  pub of_kind : kind ≡ kind_of (call_of script past.plain pid)
  pub is_bound : asked ≡ bound (call_of script past.plain pid)
  pub never_fits : room script.heap < asked
  pub leads : next ≡ moves_on script past (answered script past.plain pid (Fail ENOMEM)) past.account (others pid past.asleep)

-- The call of a process that has ended is given up, once.
pub record IsGone (script : Script) (past : Past) (pid : ℕ) (kind : CallKind) (next : Past) : Type 0 where
  pub made : (0 < pid) × (pid ≤ last_pid past.plain)
  pub ended : is_alive past.plain.table pid ≡ false
  pub first : is_among pid past.gone ≡ false
  pub of_kind : kind ≡ kind_of (call_of script past.plain pid)
  pub leads : next ≡ record (moves_on script past past.plain past.account (others pid past.asleep)) { gone = pid ∷ past.gone }

-- The victim is killed, so that the call of a process that doesn't sleep may fit, which it doesn't with nothing left to evict.
pub record IsKilled (script : Script) (past : Past) (pid waiter need live : ℕ) (next : Past) : Type 0 where
  pub victim : victim_of script.policy past.plain past.account ≡ Some pid
  pub alive : is_alive past.plain.table waiter ≡ true
  pub up : is_up past waiter ≡ true
  pub is_bound : need ≡ bound (call_of script past.plain waiter)
  pub fits_ever : need ≤ room script.heap
  pub all_pinned : live ≡ base past.plain past.account + size class.Vnode * pins past.plain
  pub too_much : script.heap < live + reserve + need
  pub leads : next ≡ moves_on script past (die past.plain pid sigkill) (account_on past.plain (die past.plain pid sigkill) past.account) (others pid past.asleep)

-- An object that a call has put into a cache goes.
pub record IsEvicted (script : Script) (past : Past) (what : Cached) (next : Past) : Type 0 where
  pub covered : AreCovered (one_more past.evicted what) past.filled
  pub leads : next ≡ record (moves_on script past past.plain past.account past.asleep) { evicted = one_more past.evicted what }

-- the entry may come next, and leads there
abbrev pub MayFollow : Script → Past → Entry → Past → Type 0
MayFollow script past (entry.Done pid kind reply) next = IsAnswered script past pid kind (Done reply) (others pid past.asleep) next
MayFollow script past (entry.Part pid kind moved) next = IsAnswered script past pid kind (Part moved) (pid ∷ others pid past.asleep) next
MayFollow script past (entry.Ended pid kind status) next = IsAnswered script past pid kind (Ended status) (others pid past.asleep) next
MayFollow script past (entry.Slept pid kind) next = FallsAsleep script past pid kind next
MayFollow script past (entry.Refused pid kind asked) next = IsRefused script past pid kind asked next
MayFollow script past (entry.Gone pid kind) next = IsGone script past pid kind next
MayFollow script past (entry.Killed pid waiter need live) next = IsKilled script past pid waiter need live next
MayFollow script past (entry.Evicted what) next = IsEvicted script past what next

-- The entries of a run from boot, one after another, and what they have led to.
pub data IsRun (script : Script) : List Entry → Past → Type 0 where
  boots : IsRun script [] (boot_past script)
  goes_on : (history : List Entry) (past next : Past) (added : Entry) → IsRun script history past → MayFollow script past added next
      → IsRun script (history ++ added ∷ []) next

-- an entry doesn't answer ENOMEM, but as a refusal
abbrev pub WantsNothing : Entry → Type 0
WantsNothing (entry.Done _ _ reply) = reply ≢ Fail ENOMEM
WantsNothing _ = Unit {0}
