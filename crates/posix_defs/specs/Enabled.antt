-- Which events may be taken in a state of the core.
use Rattle.std.specs.Prelude.{ℕ, ◌+◌, ◌≡◌, ◌≤◌, true, false, Some}
use Rattle.kabi_types.specs.declared.entries.Cached.{Cached}
use Rattle.kabi_types.specs.declared.entries.Event.{Event}
use Rattle.kabi_types.specs.declared.entries.Event.TheVariants.{Ask, Admit, Turn, Wake, Abandon, Evict, Kill}
use Rattle.kabi_types.specs.declared.scripts.Script.{Script}
use Rattle.posix_defs.specs.declared.phases.Asked.{Asked}
use Rattle.posix_defs.specs.declared.phases.Phase.{Phase}
use Rattle.posix_defs.specs.declared.phases.Phase.TheVariants.{User, Waiting, Admitted, Asleep, Stranded}
use Rattle.posix_defs.specs.Machine.{would_block}
use Rattle.posix_defs.specs.World.{can_evict}
use Rattle.posix_defs.specs.Victim.{victim_of}
use Rattle.posix_defs.specs.CoreState.{CoreState, charged_in, lives, phase_of}
use Rattle.posix_defs.specs.Licence.{is_licensed}

-- The process has asked for something, and is this far with it.
pub record IsIn (s : CoreState) (pid : ℕ) (phase : Asked → Phase) : Type 0 where
  pub asked : Asked
  pub is : phase_of s pid ≡ phase asked

-- The call waits, and there is room for its bound.
pub record HasRoom (script : Script) (s : CoreState) (pid : ℕ) : Type 0 where
  pub waits : IsIn s pid Waiting
  pub room : charged_in s + waits.asked.bound ≤ script.heap

-- The call sleeps, and wouldn't block now.
pub record IsReady (script : Script) (s : CoreState) (pid : ℕ) : Type 0 where
  pub sleeps : IsIn s pid Asleep
  pub ready : would_block script s.world.plain pid ≡ false

-- The process is the one to kill, and it may be killed.
pub record MayKill (script : Script) (s : CoreState) (pid : ℕ) : Type 0 where
  pub licensed : is_licensed script s ≡ true
  pub victim : victim_of script.policy s.world.plain s.world.account ≡ Some pid

-- The first process lives, and the cache keeps something that isn't pinned.
pub record MayEvict (s : CoreState) (what : Cached) : Type 0 where
  pub lives : lives s 1 ≡ true
  pub unpinned : can_evict s.world.plain s.world.kept what ≡ true

-- The event may be taken.
abbrev pub IsEnabled : Script → CoreState → Event → Type 0
IsEnabled script s (Ask pid) = phase_of s pid ≡ User
IsEnabled script s (Admit pid) = HasRoom script s pid
IsEnabled script s (Turn pid) = IsIn s pid Admitted
IsEnabled script s (Wake pid) = IsReady script s pid
IsEnabled script s (Abandon pid) = IsIn s pid Stranded
IsEnabled script s (Evict what) = MayEvict s what
IsEnabled script s (Kill pid) = MayKill script s pid
