-- Which calls fit, by the room that there is; and a task that fits its process.
use Rattle.std.proofs.Common.{◌≡◌, ℕ, zero, suc, ◌+◌, not, Bool, true, false, List, [], ◌∷◌, ◌||◌, Some, slice_get, refl, ap, sym, ◌∙◌, subst, arith}
use Rattle.std.specs.Prelude.{nat_le}
use Rattle.std.specs.List.{AllByRecursion, list_any}
use Rattle.std.proofs.lemmas.Bool.Decides.{nat_tests}
use Rattle.kabi_types.specs.declared.scripts.Script.{Script}
use Rattle.posix_defs.specs.declared.phases.Asked.{Asked}
use Rattle.posix_defs.specs.declared.phases.Phase.{Phase}
use Rattle.posix_defs.specs.declared.phases.Phase.TheVariants.{User, Waiting, Admitted, Asleep, Stranded, Dead}
use Rattle.posix_defs.specs.declared.phases.Task.{Task}
use Rattle.posix_defs.specs.Process.{is_alive}
use Rattle.posix_defs.specs.CoreState.{CoreState, charged_in, fits, some_fits, some_wait_in_vain, waits_and_fits, waits_in_vain}
use Rattle.posix_defs.specs.SoundTasks.{IsSound, PhaseFits, TaskFits}
use Rattle.kern_tasks.specs.Room.{waits_within, waits_without}
use Rattle.kern_tasks.specs.View.{Has}

-- a call fits where the room is enough for it
pub room_fits : (script : Script) (s : CoreState) (room charged : ℕ) (asked : Asked) → charged_in s ≡ charged → room + charged ≡ script.heap
    → nat_le asked.bound room ≡ fits script s asked
room_fits script s room charged asked same whole =
    ap (λ n. n) (grind (arith, nat_tests))

within_fits : (script : Script) (s : CoreState) (room charged : ℕ) (p : Phase) → charged_in s ≡ charged → room + charged ≡ script.heap
    → waits_within room p ≡ waits_and_fits script s p
within_fits script s room charged (Waiting asked) same whole = room_fits script s room charged asked same whole
within_fits script s room charged User same whole = refl
within_fits script s room charged (Admitted _) same whole = refl
within_fits script s room charged (Asleep _) same whole = refl
within_fits script s room charged (Stranded _) same whole = refl
within_fits script s room charged Dead same whole = refl

without_vain : (script : Script) (s : CoreState) (room charged : ℕ) (p : Phase) → charged_in s ≡ charged → room + charged ≡ script.heap
    → waits_without room p ≡ waits_in_vain script s p
without_vain script s room charged (Waiting asked) same whole = ap not (room_fits script s room charged asked same whole)
without_vain script s room charged User same whole = refl
without_vain script s room charged (Admitted _) same whole = refl
without_vain script s room charged (Asleep _) same whole = refl
without_vain script s room charged (Stranded _) same whole = refl
without_vain script s room charged Dead same whole = refl

any_same : (f g : Task → Bool) → ((task : Task) → f task ≡ g task) → (tasks : List Task) → list_any f tasks ≡ list_any g tasks
any_same f g same [] = refl
any_same f g same (task ∷ tasks) = ap (λ b. b || list_any f tasks) (same task) ∙ ap (λ b. g task || b) (any_same f g same tasks)

pub some_fit : (script : Script) (s : CoreState) (room charged : ℕ) (tasks : List Task) → s.tasks ≡ tasks → charged_in s ≡ charged → room + charged ≡ script.heap
    → list_any (λ task. waits_within room task.phase) tasks ≡ some_fits script s
some_fit script s room charged tasks are same whole =
    any_same (λ task. waits_within room task.phase) (λ task. waits_and_fits script s task.phase) (λ task. within_fits script s room charged task.phase same whole) tasks
    ∙ ap (λ ts. list_any (λ task. waits_and_fits script s task.phase) ts) (sym are)

pub some_in_vain : (script : Script) (s : CoreState) (room charged : ℕ) (tasks : List Task) → s.tasks ≡ tasks → charged_in s ≡ charged → room + charged ≡ script.heap
    → list_any (λ task. waits_without room task.phase) tasks ≡ some_wait_in_vain script s
some_in_vain script s room charged tasks are same whole =
    any_same (λ task. waits_without room task.phase) (λ task. waits_in_vain script s task.phase) (λ task. without_vain script s room charged task.phase same whole) tasks
    ∙ ap (λ ts. list_any (λ task. waits_in_vain script s task.phase) ts) (sym are)

each_at : (P : Task → Type 0) (tasks : List Task) (place : ℕ) (task : Task) → AllByRecursion P tasks → slice_get tasks place ≡ Some task → P task
each_at P [] place task all e = absurd (cc)
each_at P (first ∷ tasks) zero task all e = subst P (let same : first ≡ task = (cc) in same) all.0
each_at P (first ∷ tasks) (suc place) task all e = each_at P tasks place task all.1 e

-- a task that sleeps is of a live process
pub sleeper_is_alive : (script : Script) (s : CoreState) (tasks : List Task) (task : Task) (asked : Asked) → IsSound script s → s.tasks ≡ tasks → Has tasks task
    → task.phase ≡ Asleep asked → is_alive s.world.plain.table task.pid ≡ true
sleeper_is_alive script s tasks task asked sound are has sleeps =
    let fits = each_at (TaskFits script s.world.plain) s.tasks has.place task sound.each (ap (λ ts. slice_get ts has.place) are ∙ has.is) in
    go task.phase sleeps fits.phase
  where
    go : (p : Phase) → p ≡ Asleep asked → PhaseFits script s.world.plain task.pid p → is_alive s.world.plain.table task.pid ≡ true
    go (Asleep _) e fits = fits.0
    go User e fits = absurd (cc)
    go (Waiting _) e fits = absurd (cc)
    go (Admitted _) e fits = absurd (cc)
    go (Stranded _) e fits = absurd (cc)
    go Dead e fits = absurd (cc)

pub not_not : (b : Bool) → not (not b) ≡ b
not_not true = refl
not_not false = refl

pub opposite : (r b : Bool) → r ≡ not b → b ≡ not r
opposite r b e = sym (not_not b) ∙ ap not (sym e)
