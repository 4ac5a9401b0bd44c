-- A kill: for whom it is, and what it leads to.
use Rattle.std.proofs.Common.{◌≡◌, ◌≢◌, ℕ, ◌+◌, ◌≤◌, ◌&&◌, ◌||◌, not, if◌then◌else◌, Bool, true, false, List, [], ◌∷◌, Some, slice_get, refl, ap, ◌∙◌, subst, arith}
use Rattle.std.specs.List.{list_any}
use Rattle.std.specs.Option.{is_some}
use Rattle.kabi_types.specs.declared.scripts.Script.{Script}
use Rattle.posix_defs.specs.declared.phases.Asked.{Asked}
use Rattle.posix_defs.specs.declared.phases.Phase.{Phase}
use Rattle.posix_defs.specs.declared.phases.Phase.TheVariants.{User, Waiting, Admitted, Asleep, Stranded, Dead}
use Rattle.posix_defs.specs.declared.phases.Task.{Task}
use Rattle.posix_defs.specs.Sizes.{reserve}
use Rattle.posix_defs.specs.World.{World, live_of}
use Rattle.posix_defs.specs.Process.{is_alive}
use Rattle.posix_defs.specs.Relief.{Kills}
use Rattle.posix_defs.specs.Enabled.{MayKill}
use Rattle.posix_defs.specs.CoreState.{CoreState, charged_in, is_waiting, none_admitted, reserved_in, some_fits, some_wait_in_vain, waiting_in, waits_in_vain}
use Rattle.posix_defs.specs.Victim.{victim_of}
use Rattle.posix_defs.specs.Licence.{can_evict_any, is_licensed}
use Rattle.kern_laws.proofs.LivingVictim.{victim_lives}
use Rattle.kern_tasks.specs.View.{CoreView, IsAt, IsKept}
use Rattle.kern_tasks.proofs.NextRun.{within_heap}

-- the task of the lowest pid whose call waits
abbrev pub IsFirst : List Task → Type 0
IsFirst tasks = (waiter : ℕ) × (asked : Asked) × (slice_get (waiting_in tasks) 0 ≡ Some (record { pid = waiter; phase = Waiting asked }))

-- where some call waits in vain there is one
first_in : (script : Script) (s : CoreState) (tasks : List Task) → list_any (λ task. waits_in_vain script s task.phase) tasks ≡ true → IsFirst tasks
first_in script s [] e = cc
first_in script s (task ∷ tasks) e = go (first_in script s tasks) task.phase refl e
  where
    heads : (p : Phase) → task.phase ≡ p
        → slice_get (waiting_in (task ∷ tasks)) 0 ≡ slice_get (if is_waiting p then record { pid = task.pid; phase = p } ∷ waiting_in tasks else waiting_in tasks) 0
    heads p same = ap (λ q. slice_get (if is_waiting q then record { pid = task.pid; phase = q } ∷ waiting_in tasks else waiting_in tasks) 0) same

    Later : Type 0
    Later = list_any (λ task. waits_in_vain script s task.phase) tasks ≡ true → IsFirst tasks

    go : Later → (p : Phase) → task.phase ≡ p → (waits_in_vain script s p || list_any (λ task. waits_in_vain script s task.phase) tasks) ≡ true → IsFirst (task ∷ tasks)
    go later (Waiting asked) same e = (task.pid, asked, heads (Waiting asked) same)
    go later User same e = let rest = later e in (rest.0, rest.1, heads User same ∙ rest.2)
    go later (Admitted asked) same e = let rest = later e in (rest.0, rest.1, heads (Admitted asked) same ∙ rest.2)
    go later (Asleep asked) same e = let rest = later e in (rest.0, rest.1, heads (Asleep asked) same ∙ rest.2)
    go later (Stranded asked) same e = let rest = later e in (rest.0, rest.1, heads (Stranded asked) same ∙ rest.2)
    go later Dead same e = let rest = later e in (rest.0, rest.1, heads Dead same ∙ rest.2)

first_of_five : (a b c d e : Bool) → (a && b && c && d && e) ≡ true → a ≡ true
first_of_five true b c d e h = refl
first_of_five false b c d e h = h

vain_first : (script : Script) (s : CoreState) → is_licensed script s ≡ true → some_wait_in_vain script s ≡ true
vain_first script s e =
    first_of_five (some_wait_in_vain script s) (none_admitted s) (not (can_evict_any s.world)) (not (some_fits script s))
    (is_some (victim_of script.policy s.world.plain s.world.account)) e

-- where somebody may be killed some call waits
pub some_waiter : (script : Script) (s : CoreState) (tasks : List Task) (pid : ℕ) → s.tasks ≡ tasks → MayKill script s pid → IsFirst tasks
some_waiter script s tasks pid same may =
    subst IsFirst same (first_in script s s.tasks (vain_first script s may.licensed))

-- the victim is alive, and not the first
pub is_victim : (script : Script) (s : CoreState) (pid : ℕ) → MayKill script s pid → (is_alive s.world.plain.table pid ≡ true) × (pid ≢ 1)
is_victim script s pid may = victim_lives script.policy s.world.plain s.world.account pid may.victim

-- what is charged behind a kill is within the heap
pub less_charged : {T : Type 0} (stands_for : T → World → Type 0) (script : Script) (core : CoreView T) (heap run_room task_room : ℕ) (s : CoreState) (pid live : ℕ)
    (world : World) → IsKept stands_for script core heap run_room task_room → IsAt stands_for core s → Kills s.world pid world → live ≡ live_of world
    → live + reserve + core.reserved ≤ script.heap
less_charged stands_for script core heap run_room task_room s pid live world kept at kills live_is =
    let within : core.charged ≤ script.heap = within_heap stands_for script core heap run_room task_room kept in
    let charged : charged_in s ≡ core.charged = at.charged in
    let reserved : reserved_in s.tasks ≡ core.reserved = at.reserved in
    let less : live_of world ≤ live_of s.world = kills.live in
    omega arith

pub same_some : {X : Type 0} (a b : X) → Some a ≡ Some b → a ≡ b
same_some a b e = cc
