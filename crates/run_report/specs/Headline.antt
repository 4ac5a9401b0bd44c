-- What is so of a run that is reported: it stays within the heap, and its replies are those of a machine with unlimited memory.
use Rattle.std.specs.Prelude.{ℕ, ◌≡◌, ◌≢◌, ◌<◌, ◌≤◌, true, false, List, [], ◌∷◌, ◌++◌, length, take, Some, slice_get}
use Rattle.kabi_types.specs.declared.errnos.Errno.TheVariants.{ENOMEM}
use Rattle.kabi_types.specs.declared.replies.Reply.TheVariants.{Fail}
use Rattle.kabi_types.specs.declared.entries.End.{End}
use Rattle.kabi_types.specs.declared.entries.Entry.{Entry}
use Rattle.kabi_types.specs.declared.entries.Entry.TheVariants as entry
use Rattle.kabi_types.specs.declared.entries.Event.TheVariants.{Kill}
use Rattle.kabi_types.specs.declared.entries.Noted.{Noted}
use Rattle.kabi_types.specs.declared.scripts.Script.{Script}
use Rattle.posix_defs.specs.Needs.{bound}
use Rattle.posix_defs.specs.Sizes.{room}
use Rattle.posix_defs.specs.Process.{is_alive}
use Rattle.posix_defs.specs.Plain.{call_of}
use Rattle.posix_defs.specs.World.{World}
use Rattle.posix_defs.specs.Victim.{victim_of}
use Rattle.posix_defs.specs.CoreState.{CoreState, charged_in, none_admitted, reserved_in, some_fits, some_wait_in_vain}
use Rattle.posix_defs.specs.Licence.{can_evict_any}
use Rattle.posix_defs.specs.CoreEvent.{Steps}
use Rattle.posix_defs.specs.CoreRun.{entries_of, peak_of}
use Rattle.posix_defs.specs.Ends.{end_of}
use Rattle.posix_defs.specs.History.{IsRun, MayFollow, Past}
use Rattle.posix_defs.specs.Lines.{report}
use Rattle.kern_core.specs.RunOver.{IsRunOver, LeavesWithin}

-- Some call waits for which there is no room, no call is admitted, none that waits fits, and nothing can be evicted. The
-- process is the victim by the script's policy, is alive, and isn't the first.
pub record IsLastResort (script : Script) (s : CoreState) (pid : ℕ) : Type 0 where
  pub in_vain : some_wait_in_vain script s ≡ true
  pub admitted : none_admitted s ≡ true
  pub fitting : some_fits script s ≡ false
  pub evictable : can_evict_any s.world ≡ false
  pub victim : victim_of script.policy s.world.plain s.world.account ≡ Some pid
  pub other : pid ≢ 1
  pub alive : is_alive s.world.plain.table pid ≡ true

-- An event of a run, from the state and the store that the events before it led to, to those that it led to. What is told as
-- charged is what is charged behind it, at most the heap. It left the store as it was, or marked it once, and since the mark before
-- what was in use and what is reserved for all other calls stayed within the heap. A process that it kills was the last resort.
pub record EventKeeps {T : Type 0} (stands_for : T → World → Type 0) (marks high : T → ℕ) (script : Script) (before : List Noted) (noted : Noted) : Type 0 where
  pub old : CoreState
  pub store : T
  pub led : IsRunOver stands_for marks high script script.steps before old store
  pub new : CoreState
  pub store' : T
  pub leads : IsRunOver stands_for marks high script script.steps (before ++ noted ∷ []) new store'
  pub steps : Steps script old noted new
  pub charged : noted.charged ≡ charged_in new
  pub within : noted.charged ≤ script.heap
  pub inside : LeavesWithin marks high script.heap (reserved_in new.tasks) store store'
  pub licensed : (pid : ℕ) → noted.event ≡ Kill pid → IsLastResort script old pid

-- A refusal answers a call whose bound is above the room, and every other answer one whose bound isn't, and is never ENOMEM.
abbrev pub KeepsToRoom : Script → Past → Entry → Type 0
KeepsToRoom script past (entry.Refused pid _ asked) = (asked ≡ bound (call_of script past.plain pid)) × (room script.heap < asked)
KeepsToRoom script past (entry.Done pid _ reply) = (bound (call_of script past.plain pid) ≤ room script.heap) × (reply ≢ Fail ENOMEM)
KeepsToRoom script past (entry.Part pid _ moved) = bound (call_of script past.plain pid) ≤ room script.heap
KeepsToRoom script past (entry.Slept pid _) = bound (call_of script past.plain pid) ≤ room script.heap
KeepsToRoom script past (entry.Ended pid _ status) = bound (call_of script past.plain pid) ≤ room script.heap
KeepsToRoom script past (entry.Gone _ _) = Unit {0}
KeepsToRoom script past (entry.Killed _ _ _ _) = Unit {0}
KeepsToRoom script past (entry.Evicted _) = Unit {0}

-- An entry of a history, from what the entries before it led to: the machine allows it there, and it keeps to the room.
pub record EntryKeeps (script : Script) (before : List Entry) (added : Entry) : Type 0 where
  pub past : Past
  pub led : IsRun script before past
  pub next : Past
  pub follows : MayFollow script past added next
  pub room : KeepsToRoom script past added

-- The text tells a run to its end. The store went through that run event by event, and stands for the world in which it ended.
-- No charge that is told is above the heap, the peak among them; nor was, while an event ran, what was in use with what is
-- reserved for all other calls. The entries that are told are a legal history of the machine, which has unlimited memory, and
-- lead it to where the run ended. A call is refused exactly where its bound is above the room, and no other is answered ENOMEM.
-- Each kill was the last resort.
pub record KeepsHeadline {T : Type 0} (stands_for : T → World → Type 0) (marks high : T → ℕ) (script : Script) (store : T) (end : End) (text : List ℕ) : Type 0 where
  pub run : List Noted
  pub state : CoreState
  pub told : text ≡ report run end (charged_in state) state.world.reads
  pub went : IsRunOver stands_for marks high script script.steps run state store
  pub ended : end_of script script.steps (length run) state ≡ Some end
  pub left : stands_for store state.world
  pub charged : charged_in state ≤ script.heap
  pub peak : peak_of run ≤ script.heap
  pub events : (i : ℕ) (noted : Noted) → slice_get run i ≡ Some noted → EventKeeps stands_for marks high script (take i run) noted
  pub past : Past
  pub legal : IsRun script (entries_of run) past
  pub machine : past.plain ≡ state.world.plain
  pub account : past.account ≡ state.world.account
  pub entries : (i : ℕ) (added : Entry) → slice_get (entries_of run) i ≡ Some added → EntryKeeps script (take i (entries_of run)) added
