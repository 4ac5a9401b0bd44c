-- Who sleeps and is known to block has no event: the events of all tasks are those of the runnable ones.
use Rattle.std.proofs.Common.{◌≡◌, ℕ, ◌&&◌, not, Bool, true, false, if◌then◌else◌, List, [], ◌∷◌, filter, refl, ap, sym, ◌∙◌, subst}
use Rattle.std.specs.List.{AllByRecursion, list_all}
use Rattle.kabi_types.specs.declared.entries.Event.TheVariants.{Wake}
use Rattle.kabi_types.specs.declared.scripts.Script.{Script}
use Rattle.posix_defs.specs.declared.phases.Phase.{Phase}
use Rattle.posix_defs.specs.declared.phases.Phase.TheVariants.{User, Waiting, Admitted, Asleep, Stranded, Dead}
use Rattle.posix_defs.specs.declared.phases.Task.{Task}
use Rattle.posix_defs.specs.Choice.{events_in, events_of}
use Rattle.posix_defs.specs.CoreState.{CoreState}
use Rattle.posix_defs.specs.Ends.{sleeps_on}
use Rattle.posix_defs.specs.Machine.{would_block}
use Rattle.posix_defs.specs.Process.{is_alive}
use Rattle.posix_defs.specs.World.{World}
use Rattle.posix_defs.specs.Enabled.{IsReady}
use Rattle.posix_defs.specs.SoundTasks.{IsSound, PhaseFits, TaskFits}
use Rattle.kern_laws.proofs.Tasks.{found_fits}
use Rattle.kern_tasks.specs.Room.{has_event, is_asleep}
use Rattle.kern_tasks.specs.Runnable.{is_runnable}
use Rattle.kern_tasks.proofs.Picked.{all_picked, events_picked}

-- of a process that is known to block it is so, where it is alive
abbrev pub Blocks : Script → CoreState → (ℕ → Bool) → Type 0
Blocks script s settled = (pid : ℕ) → settled pid ≡ true → is_alive s.world.plain.table pid ≡ true → would_block script s.world.plain pid ≡ true

module _ (script : Script) (s : CoreState) (settled : ℕ → Bool) (law : Blocks script s settled) where
  known : (pid : ℕ) → not (true && settled pid) ≡ false → settled pid ≡ true
  known pid e = go (settled pid) e
    where
      go : (b : Bool) → not (true && b) ≡ false → b ≡ true
      go true f = refl
      go false f = cc

  blocks : (task : Task) → PhaseFits script s.world.plain task.pid task.phase → is_runnable settled task ≡ false → sleeps_on script s task.pid task.phase ≡ true
  blocks task fits out = go task.phase fits out
    where
      go : (phase : Phase) → PhaseFits script s.world.plain task.pid phase → not (is_asleep phase && settled task.pid) ≡ false → sleeps_on script s task.pid phase ≡ true
      go (Asleep asked) fits out = law task.pid (known task.pid out) fits.0
      go User fits out = cc
      go (Waiting asked) fits out = cc
      go (Admitted asked) fits out = cc
      go (Stranded asked) fits out = cc
      go Dead fits out = cc

  silent : (task : Task) → PhaseFits script s.world.plain task.pid task.phase → is_runnable settled task ≡ false → events_of script s task.pid task.phase ≡ []
  silent task fits out = go task.phase fits out
    where
      go : (phase : Phase) → PhaseFits script s.world.plain task.pid phase → not (is_asleep phase && settled task.pid) ≡ false → events_of script s task.pid phase ≡ []
      go (Asleep asked) fits out = ap (λ b. if b then [] else Wake task.pid ∷ []) (law task.pid (known task.pid out) fits.0)
      go User fits out = cc
      go (Waiting asked) fits out = cc
      go (Admitted asked) fits out = cc
      go (Stranded asked) fits out = cc
      go Dead fits out = cc

  all_silent : (tasks : List Task) → AllByRecursion (TaskFits script s.world.plain) tasks
      → AllByRecursion (λ task. is_runnable settled task ≡ false → events_of script s task.pid task.phase ≡ []) tasks
  all_silent [] fits = tt
  all_silent (task ∷ tasks) fits = (silent task (let it : TaskFits script s.world.plain task = fits.0 in it.phase), all_silent tasks fits.1)

  all_block : (tasks : List Task) → AllByRecursion (TaskFits script s.world.plain) tasks
      → AllByRecursion (λ task. is_runnable settled task ≡ false → sleeps_on script s task.pid task.phase ≡ true) tasks
  all_block [] fits = tt
  all_block (task ∷ tasks) fits = (blocks task (let it : TaskFits script s.world.plain task = fits.0 in it.phase), all_block tasks fits.1)

  pub events_runnable : IsSound script s → (tasks : List Task) → s.tasks ≡ tasks → events_in script s (filter (is_runnable settled) tasks) ≡ events_in script s s.tasks
  events_runnable sound tasks are =
      sym (ap (events_in script s) are ∙ events_picked script s (is_runnable settled) tasks (all_silent tasks (subst (AllByRecursion (TaskFits script s.world.plain)) are sound.each)))

  pub sleep_runnable : IsSound script s → (tasks : List Task) → s.tasks ≡ tasks
      → list_all (λ task. sleeps_on script s task.pid task.phase) (filter (is_runnable settled) tasks) ≡ list_all (λ task. sleeps_on script s task.pid task.phase) s.tasks
  sleep_runnable sound tasks are =
      sym (ap (list_all (λ task. sleeps_on script s task.pid task.phase)) are
      ∙ all_picked (λ task. sleeps_on script s task.pid task.phase) (is_runnable settled) tasks (all_block tasks (subst (AllByRecursion (TaskFits script s.world.plain)) are sound.each)))

-- where each runnable task has an event, all of these do
pub all_have : (settled : ℕ → Bool) (room : ℕ) (tasks : List Task) → AllByRecursion (λ task. is_runnable settled task ≡ true → has_event room task.phase ≡ true) tasks
    → list_all (λ task. has_event room task.phase) (filter (is_runnable settled) tasks) ≡ true
all_have settled room [] each = refl
all_have settled room (task ∷ tasks) each = go (is_runnable settled task) refl (all_have settled room tasks each.1)
  where
    go : (b : Bool) → is_runnable settled task ≡ b → list_all (λ t. has_event room t.phase) (filter (is_runnable settled) tasks) ≡ true
        → list_all (λ t. has_event room t.phase) (if b then task ∷ filter (is_runnable settled) tasks else filter (is_runnable settled) tasks) ≡ true
    go true is rest = ap (λ b. b && list_all (λ t. has_event room t.phase) (filter (is_runnable settled) tasks)) (each.0 is) ∙ rest
    go false is rest = rest

-- who wouldn't block isn't settled
pub ready_unsettled : {T : Type 0} (stands_for : T → World → Type 0) (settled : T → ℕ → Bool) (script_of : T → Script)
    → ((store : T) (world : World) (pid : ℕ) → stands_for store world → settled store pid ≡ true → is_alive world.plain.table pid ≡ true → would_block (script_of store) world.plain pid ≡ true)
    → (store : T) (s : CoreState) (pid : ℕ) → IsSound (script_of store) s → stands_for store s.world → IsReady (script_of store) s pid → settled store pid ≡ false
ready_unsettled stands_for settled script_of law store s pid sound stands ready = go (settled store pid) refl
  where
    fits : TaskFits (script_of store) s.world.plain (record { pid = pid; phase = Asleep ready.sleeps.asked })
    fits = found_fits (script_of store) s.world.plain s.tasks pid (Asleep ready.sleeps.asked) sound.each ready.sleeps.is (λ e. (cc))

    wrong : true ≡ false → ⊥
    wrong e = cc

    go : (b : Bool) → settled store pid ≡ b → settled store pid ≡ false
    go true e = absurd (wrong (sym (law store s.world pid stands e fits.phase.0) ∙ ready.ready))
    go false e = e
