-- The core's atomic steps: what each event asks for, what is noted of it, and the state after it.
use Rattle.std.specs.Prelude.{ℕ, zero, suc, ◌+◌, ◌-◌, ◌==◌, ◌≡◌, ◌≤◌, ◌<◌, ◌⊎◌, Bool, true, false, not, if◌then◌else◌, List, [], ◌∷◌, ◌++◌, map, filter, Option, None, Some, slice_get}
use Rattle.kabi_types.specs.declared.calls.CallKind.{CallKind}
use Rattle.kabi_types.specs.declared.entries.Cached.{Cached}
use Rattle.kabi_types.specs.declared.entries.Entry.{Entry}
use Rattle.kabi_types.specs.declared.entries.Entry.TheVariants as entry
use Rattle.kabi_types.specs.declared.entries.Event.{Event}
use Rattle.kabi_types.specs.declared.entries.Event.TheVariants.{Ask, Admit, Turn, Wake, Abandon, Evict, Kill}
use Rattle.kabi_types.specs.declared.entries.Noted.{Noted}
use Rattle.kabi_types.specs.declared.scripts.Script.{Script}
use Rattle.posix_defs.specs.declared.phases.Asked.{Asked}
use Rattle.posix_defs.specs.declared.phases.Phase.{Phase}
use Rattle.posix_defs.specs.declared.phases.Phase.TheVariants.{User, Waiting, Admitted, Asleep, Stranded, Dead}
use Rattle.posix_defs.specs.declared.phases.Task.{Task}
use Rattle.posix_defs.specs.declared.turner.Turned.{Turned}
use Rattle.posix_defs.specs.declared.turner.Turned.TheVariants as turned
use Rattle.posix_defs.specs.Sizes.{room}
use Rattle.posix_defs.specs.Process.{is_alive}
use Rattle.posix_defs.specs.Plain.{Plain, last_pid}
use Rattle.posix_defs.specs.World.{live_of}
use Rattle.posix_defs.specs.Turn.{Answers}
use Rattle.posix_defs.specs.Relief.{Evicts, Kills, refused_in}
use Rattle.posix_defs.specs.CoreState.{CoreState, asked_by, charged_in, next_call, waiting_in, with_phase, with_phase_in}
use Rattle.posix_defs.specs.Enabled.{IsEnabled}

-- what is noted of an event of a process: what it had asked for, and what is charged afterwards
abbrev pub note : Asked → Event → Option Entry → CoreState → Noted
note asked event told new = record { event = event; kind = Some asked.kind; entry = told; bound = asked.bound; charged = charged_in new }

-- A process asks for its next call, and waits for room.
pub record Asks (script : Script) (old : CoreState) (pid : ℕ) (noted : Noted) (new : CoreState) : Type 0 where
  pub enabled : IsEnabled script old (Ask pid)
  pub fits_ever : (asked_by script old.world.plain pid).bound ≤ room script.heap
  pub after : new ≡ with_phase old pid (Waiting (asked_by script old.world.plain pid))
  pub noted_so : noted ≡ note (asked_by script old.world.plain pid) (Ask pid) None new

-- the entry of a call that is refused
abbrev pub refusal : ℕ → Asked → Entry
refusal pid asked = entry.Refused pid asked.kind asked.bound

-- A process asks for a call whose bound is above what the heap can ever give, and is answered at once.
pub record Refuses (script : Script) (old : CoreState) (pid : ℕ) (noted : Noted) (new : CoreState) : Type 0 where
  pub enabled : IsEnabled script old (Ask pid)
  pub never_fits : room script.heap < (asked_by script old.world.plain pid).bound
  pub after : new ≡ record (with_phase old pid User) { world = refused_in script old.world pid }
  pub noted_so : noted ≡ note (asked_by script old.world.plain pid) (Ask pid) (Some (refusal pid (asked_by script old.world.plain pid))) new

-- A waiting call reserves its bound, where the heap has room for it.
pub record Admits (script : Script) (old : CoreState) (pid : ℕ) (noted : Noted) (new : CoreState) : Type 0 where
  pub enabled : IsEnabled script old (Admit pid)
  pub after : new ≡ with_phase old pid (Admitted enabled.waits.asked)
  pub noted_so : noted ≡ note enabled.waits.asked (Admit pid) None new

-- the phase that a turn leaves its process in; a call that sleeps is asked for anew, since a part of it may be done
abbrev pub phase_after : Asked → Turned → Phase
phase_after asked (turned.Done _) = User
phase_after asked (turned.Part _) = Asleep asked
phase_after asked turned.Sleep = Asleep asked
phase_after asked (turned.Ended _) = Dead
phase_after asked turned.Gone = Dead

-- the entry that a turn adds to the history
abbrev pub entry_of : ℕ → CallKind → Turned → Entry
entry_of pid kind (turned.Done reply) = entry.Done pid kind reply
entry_of pid kind (turned.Part moved) = entry.Part pid kind moved
entry_of pid kind turned.Sleep = entry.Slept pid kind
entry_of pid kind (turned.Ended status) = entry.Ended pid kind status
entry_of pid kind turned.Gone = entry.Gone pid kind

-- what the end of its process leaves of a phase: a call that is admitted stays so until it is abandoned
abbrev pub stranded : Phase → Phase
stranded (Admitted asked) = Stranded asked
stranded (Stranded asked) = Stranded asked
stranded _ = Dead

-- the task, where its process may have ended
abbrev pub bury : Plain → Task → Task
bury plain task = if is_alive plain.table task.pid then task else record task { phase = stranded task.phase }

-- the process has ended, and no call of it is admitted any more
abbrev pub is_dead : Phase → Bool
is_dead Dead = true
is_dead _ = false

-- so many tasks of new processes, from this pid on
abbrev pub born : ℕ → ℕ → List Task
born pid zero = []
born pid (suc count) = record { pid = pid; phase = User } ∷ born (pid + 1) count

-- the tasks that there still are, where processes may have ended
abbrev pub buried : Plain → List Task → List Task
buried plain tasks = filter (λ task. not (is_dead task.phase)) (map (bury plain) tasks)

-- the tasks after the machine has gone on: those that there still are, and those of the processes that were made
abbrev pub tasks_after : Plain → Plain → List Task → List Task
tasks_after old new tasks = buried new tasks ++ born (last_pid old + 1) (last_pid new - last_pid old)

-- An admitted call of a live process runs, and gives its reserve back.
pub record Turns (script : Script) (old : CoreState) (pid : ℕ) (noted : Noted) (new : CoreState) : Type 0 where
  pub enabled : IsEnabled script old (Turn pid)
  pub told : Turned
  pub answers : Answers script old.world pid (next_call script old pid) told new.world
  pub tasks : new.tasks ≡ tasks_after old.world.plain new.world.plain (with_phase_in old.tasks pid (phase_after (asked_by script new.world.plain pid) told))
  pub noted_so : noted ≡ note enabled.asked (Turn pid) (Some (entry_of pid enabled.asked.kind told)) new

-- A call that slept, and wouldn't block now, waits for room again.
pub record Wakes (script : Script) (old : CoreState) (pid : ℕ) (noted : Noted) (new : CoreState) : Type 0 where
  pub enabled : IsEnabled script old (Wake pid)
  pub after : new ≡ with_phase old pid (Waiting enabled.sleeps.asked)
  pub noted_so : noted ≡ note enabled.sleeps.asked (Wake pid) None new

-- the tasks but that of a pid
abbrev pub tasks_without : List Task → ℕ → List Task
tasks_without [] pid = []
tasks_without (task ∷ tasks) pid = if task.pid == pid then tasks else task ∷ tasks_without tasks pid

-- The call of a process that has ended gives its reserve back.
pub record Abandons (script : Script) (old : CoreState) (pid : ℕ) (noted : Noted) (new : CoreState) : Type 0 where
  pub enabled : IsEnabled script old (Abandon pid)
  pub after : new ≡ record old { tasks = tasks_without old.tasks pid }
  pub noted_so : noted ≡ note enabled.asked (Abandon pid) None new

-- what is noted where no process's call is spoken of
abbrev pub note_alone : Event → Entry → CoreState → Noted
note_alone event told new = record { event = event; kind = None; entry = Some told; bound = 0; charged = charged_in new }

-- A cache loses an object that isn't pinned.
pub record EvictsOne (script : Script) (old : CoreState) (what : Cached) (noted : Noted) (new : CoreState) : Type 0 where
  pub enabled : IsEnabled script old (Evict what)
  pub evicts : Evicts old.world what new.world
  pub tasks : new.tasks ≡ old.tasks
  pub noted_so : noted ≡ note_alone (Evict what) (entry.Evicted what) new

-- The victim is killed for the lowest process that waits.
pub record KillsOne (script : Script) (old : CoreState) (pid : ℕ) (noted : Noted) (new : CoreState) : Type 0 where
  pub enabled : IsEnabled script old (Kill pid)
  pub waiter : ℕ
  pub asked : Asked
  pub lowest : slice_get (waiting_in old.tasks) 0 ≡ Some (record { pid = waiter; phase = Waiting asked })
  pub kills : Kills old.world pid new.world
  pub tasks : new.tasks ≡ buried new.world.plain old.tasks
  pub noted_so : noted ≡ note_alone (Kill pid) (entry.Killed pid waiter asked.bound (live_of old.world)) new

-- one step of the core by this event, each kind by its own rule; an Ask waits, or is refused where its bound is above room
abbrev pub StepsBy : Script → CoreState → Event → Noted → CoreState → Type 0
StepsBy script old (Ask pid) noted new = Asks script old pid noted new ⊎ Refuses script old pid noted new
StepsBy script old (Admit pid) noted new = Admits script old pid noted new
StepsBy script old (Turn pid) noted new = Turns script old pid noted new
StepsBy script old (Wake pid) noted new = Wakes script old pid noted new
StepsBy script old (Abandon pid) noted new = Abandons script old pid noted new
StepsBy script old (Evict what) noted new = EvictsOne script old what noted new
StepsBy script old (Kill pid) noted new = KillsOne script old pid noted new

-- one step of the core, by the event that is noted
abbrev pub Steps : Script → CoreState → Noted → CoreState → Type 0
Steps script old noted new = StepsBy script old noted.event noted new
