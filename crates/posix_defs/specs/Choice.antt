-- Which events may be taken in a state, and which one is.
use Rattle.std.specs.Prelude.{ℕ, zero, suc, ◌%◌, Bool, true, false, if◌then◌else◌, List, filter, [], ◌∷◌, ◌++◌, length, Option, None, Some, is_some, slice_get}
use Rattle.kabi_types.specs.declared.entries.Cached.{Cached}
use Rattle.kabi_types.specs.declared.entries.Cached.TheVariants.{Name, Block, Vnode}
use Rattle.kabi_types.specs.declared.entries.Event.{Event}
use Rattle.kabi_types.specs.declared.entries.Event.TheVariants.{Ask, Admit, Turn, Wake, Abandon, Evict, Kill}
use Rattle.kabi_types.specs.declared.scripts.Chooser.{Chooser}
use Rattle.kabi_types.specs.declared.scripts.Chooser.TheVariants as chooser
use Rattle.kabi_types.specs.declared.scripts.Script.{Script}
use Rattle.posix_defs.specs.declared.phases.Phase.{Phase}
use Rattle.posix_defs.specs.declared.phases.Phase.TheVariants.{User, Waiting, Admitted, Asleep, Stranded, Dead}
use Rattle.posix_defs.specs.declared.phases.Task.{Task}
use Rattle.posix_defs.specs.Plain.{Plain}
use Rattle.posix_defs.specs.World.{Kept, can_evict}
use Rattle.posix_defs.specs.Machine.{would_block}
use Rattle.posix_defs.specs.Victim.{victim_of}
use Rattle.posix_defs.specs.Licence.{is_licensed}
use Rattle.posix_defs.specs.Ends.{end_of}
use Rattle.posix_defs.specs.Generator.{state_after, choice_of}
use Rattle.posix_defs.specs.CoreState.{CoreState, fits, lives, some_wait_in_vain}

-- the one event of a task, if it may be taken
abbrev pub events_of : Script → CoreState → ℕ → Phase → List Event
events_of script s pid User = Ask pid ∷ []
events_of script s pid (Waiting asked) = if fits script s asked then Admit pid ∷ [] else []
events_of script s pid (Admitted _) = Turn pid ∷ []
events_of script s pid (Asleep _) = if would_block script s.world.plain pid then [] else Wake pid ∷ []
events_of script s pid (Stranded _) = Abandon pid ∷ []
events_of script s pid Dead = []

-- the events of these tasks
abbrev pub events_in : Script → CoreState → List Task → List Event
events_in script s [] = []
events_in script s (task ∷ tasks) = events_of script s task.pid task.phase ++ events_in script s tasks

-- the eviction from a cache, where something can go from it
abbrev pub evict_of : Bool → Cached → List Event
evict_of can what = if can then Evict what ∷ [] else []

-- the evictions from caches that keep this: of names, of blocks, of nodes
abbrev pub evicts_from : Plain → Kept → List Event
evicts_from plain kept =
    evict_of (can_evict plain kept Name) Name ++ (evict_of (can_evict plain kept Block) Block ++ evict_of (can_evict plain kept Vnode) Vnode)

-- the evictions, none after the first process has ended
abbrev pub evicts_in : CoreState → List Event
evicts_in s = if lives s 1 then evicts_from s.world.plain s.world.kept else []

-- the kill of the victim, where it is licensed
abbrev pub kill_of : Bool → Option ℕ → List Event
kill_of false victim = []
kill_of true None = []
kill_of true (Some pid) = Kill pid ∷ []

-- the kill of the victim that the script's policy names, where a kill is licensed; else no event
abbrev pub kills_in : Script → CoreState → List Event
kills_in script s = kill_of (is_licensed script s) (victim_of script.policy s.world.plain s.world.account)

-- the events that are of no process
abbrev pub others_in : Script → CoreState → List Event
others_in script s = evicts_in s ++ kills_in script s

-- the enabled events: those of processes, by rising pid, then evictions, and then a kill
abbrev pub enabled_in : Script → CoreState → List Event
enabled_in script s = events_in script s s.tasks ++ others_in script s

-- the event brings no call nearer to the heap
abbrev pub asks_nothing : Event → Bool
asks_nothing (Ask _) = false
asks_nothing (Wake _) = false
asks_nothing _ = true

-- the default: the first enabled event; where some call waits in vain, the first that asks for no more heap
abbrev pub default_of : Script → CoreState → Option Event
default_of script s =
    slice_get (if some_wait_in_vain script s then filter asks_nothing (enabled_in script s) else enabled_in script s) 0

-- the event that is taken where so many of so many events were taken: none where an end stands
abbrev pub default_in : Script → ℕ → ℕ → CoreState → Option Event
default_in script steps taken s = if is_some (end_of script steps taken s) then None else default_of script s

-- the number that chooses the j-th event, from 1; None where nothing chooses it
abbrev pub chosen : Chooser → ℕ → Option ℕ
chosen chooser.Plain j = None
chosen (chooser.Choices numbers) zero = None
chosen (chooser.Choices numbers) (suc before) = slice_get numbers before
chosen (chooser.Seed seed) j = Some (choice_of (state_after seed j))

-- the event that a number names: it counts round the enabled events. Without a number it is the default.
abbrev pub named_by : Option ℕ → Script → CoreState → Option Event
named_by None script s = default_of script s
named_by (Some number) script s = slice_get (enabled_in script s) (number % length (enabled_in script s))

-- the event that is taken as the j-th, from 1
abbrev pub picked_of : Script → ℕ → CoreState → Option Event
picked_of script j s = named_by (chosen script.chooser j) script s
