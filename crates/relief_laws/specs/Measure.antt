-- How far relief can go from a state of the core: what each eviction and each kill lowers.
use Rattle.std.specs.Prelude.{ℕ, ◌+◌, ◌-◌, ◌≡◌, ◌<◌, ◌⊎◌, Bool, true, not, ◌||◌, is_some, List, length, count_by}
use Rattle.kabi_types.specs.declared.entries.Cached.{Cached}
use Rattle.kabi_types.specs.declared.entries.Noted.{Noted}
use Rattle.kabi_types.specs.declared.scripts.Script.{Script}
use Rattle.posix_defs.specs.CoreEvent.{EvictsOne, KillsOne}
use Rattle.posix_defs.specs.CoreState.{CoreState, is_admitted, some_fits, some_wait_in_vain}
use Rattle.posix_defs.specs.History.{Past}
use Rattle.posix_defs.specs.Licence.{can_evict_any, is_licensed}
use Rattle.posix_defs.specs.Plain.{Plain}
use Rattle.posix_defs.specs.Process.{Table, is_alive_in}
use Rattle.posix_defs.specs.Victim.{victim_of}
use Rattle.posix_defs.specs.World.{Kept, World, is_in, pinned_nodes}
use Rattle.kern_tasks.specs.View.{CoreView, IsAt}
use Rattle.kern_events.specs.declared.reliefs.Relief.{Relief}
use Rattle.kern_events.specs.declared.reliefs.Relief.TheVariants.{Evicted, Killed}

-- how many processes are alive
abbrev pub living : Table → ℕ
living table = count_by is_alive_in table

-- how many of these nodes aren't pinned
abbrev pub unpinned : Plain → List ℕ → ℕ
unpinned plain nodes = count_by (λ node. not (is_in node (pinned_nodes plain))) nodes

-- how many cached objects could be evicted: every name, every block, and the nodes that aren't pinned
abbrev pub evictable : Plain → Kept → ℕ
evictable plain kept = length kept.names + length kept.blocks + unpinned plain kept.vnodes

-- How many processes are alive, calls are admitted, and objects could be evicted.
pub record Measure : Type 0 where
  pub living : ℕ
  pub admitted : ℕ
  pub evictable : ℕ

-- the measure of a state
abbrev pub measure_of : CoreState → Measure
measure_of s = record {
  living = living s.world.plain.table;
  admitted = count_by (λ task. is_admitted task.phase) s.tasks;
  evictable = evictable s.world.plain s.world.kept;
}

-- a measure is less than another, the first number that differs deciding
abbrev pub IsLess : Measure → Measure → Type 0
IsLess new old =
    (new.living < old.living)
    ⊎ ((new.living ≡ old.living) × ((new.admitted < old.admitted) ⊎ ((new.admitted ≡ old.admitted) × (new.evictable < old.evictable))))

-- one state leads to another by an eviction or by a kill
abbrev pub IsRelieved : Script → CoreState → CoreState → Type 0
IsRelieved script old new =
    ((what : Cached) × (noted : Noted) × EvictsOne script old what noted new) ⊎ ((pid : ℕ) × (noted : Noted) × KillsOne script old pid noted new)

-- No chain of evictions and kills from this state goes on for ever: each state that one of them leads to is such a state.
pub data ComesToAnEnd (script : Script) : CoreState → Type 0 where
  unless_relieved : (s : CoreState) → ((new : CoreState) → IsRelieved script s new → ComesToAnEnd script new) → ComesToAnEnd script s

-- The core is in a state of a lower measure.
pub record HasLowered {T : Type 0} (stands_for : T → World → Type 0) (old : CoreState) (core : CoreView T) : Type 0 where
  pub state : CoreState
  pub is_at : IsAt stands_for core state
  pub less : IsLess (measure_of state) (measure_of old)

-- what an answer of relief says, from a state: an eviction and a kill have lowered the measure, and else nothing has changed
abbrev pub Lowers : {T : Type 0} → (T → World → Type 0) → CoreState → CoreView T → Relief → CoreView T → Type 0
Lowers stands_for s old (Evicted what) new = HasLowered stands_for s new
Lowers stands_for s old (Killed pid) new = HasLowered stands_for s new
Lowers stands_for s old _ new = new ≡ old

-- no call waits in vain, or one that waits fits, or nobody but the first process is alive
abbrev pub is_helped : Script → CoreState → Bool
is_helped script s =
    not (some_wait_in_vain script s) || some_fits script s || not (is_some (victim_of script.policy s.world.plain s.world.account))

-- Finitely many evictions and kills help: the calls that wait are helped, or an eviction or a kill is at hand, and each of them leads
-- to such a state.
pub data IsHelpedInTheEnd (script : Script) : CoreState → Type 0 where
  at_once : (s : CoreState) → is_helped script s ≡ true → IsHelpedInTheEnd script s
  by_relief : (s : CoreState) → (can_evict_any s.world || is_licensed script s) ≡ true
      → ((new : CoreState) → IsRelieved script s new → IsHelpedInTheEnd script new) → IsHelpedInTheEnd script s

-- By a history alone: how many objects its calls may have put into the caches that weren't evicted since.
abbrev pub left_to_evict : Past → ℕ
left_to_evict past =
    (past.filled.names - past.evicted.names) + (past.filled.blocks - past.evicted.blocks) + (past.filled.vnodes - past.evicted.vnodes)
