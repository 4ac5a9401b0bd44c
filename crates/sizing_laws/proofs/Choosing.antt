-- Under two heaps that have what a state asks for, the same event is taken, and the same end stands.
use Rattle.std.proofs.Common.{◌≡◌, ℕ, ◌≤◌, ◌%◌, ◌==◌, Bool, true, false, not, ◌&&◌, cond, List, [], ◌∷◌, ◌++◌, filter, length, Option, None, Some, slice_get, refl, ap, sym, ◌∙◌, arith}
use Rattle.std.specs.Prelude.{is_some}
use Rattle.std.specs.List.{list_all}
use Rattle.kabi_types.specs.declared.entries.End.TheVariants.{Finished, AllAsleep, Spent}
use Rattle.kabi_types.specs.declared.entries.Event.TheVariants.{Admit, Wake}
use Rattle.kabi_types.specs.declared.scripts.Script.{Script}
use Rattle.posix_defs.specs.declared.phases.Phase.{Phase}
use Rattle.posix_defs.specs.declared.phases.Phase.TheVariants.{User, Waiting, Admitted, Asleep, Stranded, Dead}
use Rattle.posix_defs.specs.declared.phases.Task.{Task}
use Rattle.posix_defs.specs.Choice.{asks_nothing, chosen, default_of, enabled_in, events_in, events_of, evicts_in, kill_of, kills_in, named_by, picked_of}
use Rattle.posix_defs.specs.CoreState.{CoreState, charged_in, none_admitted, phase_of, some_fits}
use Rattle.posix_defs.specs.Ends.{all_asleep, end_of, has_finished, sleeps_on, starved_or, starves_for, vain_need}
use Rattle.posix_defs.specs.Licence.{can_evict_any, is_licensed}
use Rattle.posix_defs.specs.Victim.{victim_of}
use Rattle.sizing_laws.specs.Demand.{demand_in, demand_of, wants, with_heap}
use Rattle.sizing_laws.proofs.Fitting.{all_fit, below_both, fits_so, phase_within}
use Rattle.sizing_laws.proofs.Machines.{same_block}

-- ---- which events may be taken

same_of : (script : Script) (heap : ℕ) (s : CoreState) (pid : ℕ) (phase : Phase) → wants (charged_in s) phase ≤ script.heap
    → wants (charged_in s) phase ≤ heap → events_of (with_heap script heap) s pid phase ≡ events_of script s pid phase
same_of script heap s pid User within below = refl
same_of script heap s pid (Waiting asked) within below =
    ap (λ b. cond b (Admit pid ∷ []) []) (fits_so (with_heap script heap) s asked below ∙ sym (fits_so script s asked within))
same_of script heap s pid (Admitted asked) within below = refl
same_of script heap s pid (Asleep asked) within below = ap (λ b. cond b [] (Wake pid ∷ [])) (same_block script heap s.world.plain pid)
same_of script heap s pid (Stranded asked) within below = refl
same_of script heap s pid Dead within below = refl

same_in : (script : Script) (heap : ℕ) (s : CoreState) (tasks : List Task) → demand_in (charged_in s) tasks ≤ script.heap
    → demand_in (charged_in s) tasks ≤ heap → events_in (with_heap script heap) s tasks ≡ events_in script s tasks
same_in script heap s [] within below = refl
same_in script heap s (task ∷ tasks) within below =
    let here = below_both (wants (charged_in s) task.phase) (demand_in (charged_in s) tasks) script.heap within in
    let there = below_both (wants (charged_in s) task.phase) (demand_in (charged_in s) tasks) heap below in
    ap (λ events. events ++ events_in (with_heap script heap) s tasks) (same_of script heap s task.pid task.phase here.0 there.0)
    ∙ ap (λ events. events_of script s task.pid task.phase ++ events) (same_in script heap s tasks here.1 there.1)

-- nobody may be killed
pub unlicensed : (script : Script) (s : CoreState) → demand_of s ≤ script.heap → is_licensed script s ≡ false
unlicensed script s within =
    ap (λ b. b && none_admitted s && not (can_evict_any s.world) && not (some_fits script s) && is_some (victim_of script.policy s.world.plain s.world.account))
    (all_fit script s within)

no_kills : (script : Script) (s : CoreState) → demand_of s ≤ script.heap → kills_in script s ≡ []
no_kills script s within = ap (λ b. kill_of b (victim_of script.policy s.world.plain s.world.account)) (unlicensed script s within)

same_enabled : (script : Script) (heap : ℕ) (s : CoreState) → demand_of s ≤ script.heap → demand_of s ≤ heap
    → enabled_in (with_heap script heap) s ≡ enabled_in script s
same_enabled script heap s within below =
    ap (λ events. events ++ (evicts_in s ++ kills_in (with_heap script heap) s)) (same_in script heap s s.tasks within below)
    ∙ ap (λ kills. events_in script s s.tasks ++ (evicts_in s ++ kills)) (no_kills (with_heap script heap) s below ∙ sym (no_kills script s within))

-- ---- which one is taken

first_enabled : (script : Script) (s : CoreState) → demand_of s ≤ script.heap → default_of script s ≡ slice_get (enabled_in script s) 0
first_enabled script s within =
    ap (λ b. slice_get (cond b (filter asks_nothing (enabled_in script s)) (enabled_in script s)) 0) (all_fit script s within)

same_named : (script : Script) (heap : ℕ) (s : CoreState) (number : Option ℕ) → demand_of s ≤ script.heap → demand_of s ≤ heap
    → named_by number (with_heap script heap) s ≡ named_by number script s
same_named script heap s None within below =
    first_enabled (with_heap script heap) s below ∙ ap (λ events. slice_get events 0) (same_enabled script heap s within below)
    ∙ sym (first_enabled script s within)
same_named script heap s (Some number) within below =
    ap (λ events. slice_get events (number % length events)) (same_enabled script heap s within below)

pub same_picked : (script : Script) (heap j : ℕ) (s : CoreState) → demand_of s ≤ script.heap → demand_of s ≤ heap
    → picked_of (with_heap script heap) j s ≡ picked_of script j s
same_picked script heap j s within below = same_named script heap s (chosen script.chooser j) within below

-- ---- which end stands

no_need : (script : Script) (s : CoreState) (phase : Phase) → wants (charged_in s) phase ≤ script.heap → vain_need script s phase ≡ None
no_need script s User within = refl
no_need script s (Waiting asked) within = ap (λ b. cond b None (Some asked.bound)) (fits_so script s asked within)
no_need script s (Admitted asked) within = refl
no_need script s (Asleep asked) within = refl
no_need script s (Stranded asked) within = refl
no_need script s Dead within = refl

-- nobody starves
unstarved : (script : Script) (s : CoreState) → demand_of s ≤ script.heap → starves_for script s ≡ None
unstarved script s within =
    go (list_all (λ task. task.pid == 1) s.tasks && none_admitted s && not (can_evict_any s.world))
    (no_need script s (phase_of s 1) (let least : wants (charged_in s) (phase_of s 1) ≤ demand_of s = phase_within (charged_in s) s.tasks 1 in omega arith))
  where
    go : (b : Bool) → vain_need script s (phase_of s 1) ≡ None → cond b (vain_need script s (phase_of s 1)) None ≡ None
    go true none = none
    go false none = refl

same_sleep : (script : Script) (heap : ℕ) (s : CoreState) (pid : ℕ) (phase : Phase) → sleeps_on (with_heap script heap) s pid phase ≡ sleeps_on script s pid phase
same_sleep script heap s pid User = refl
same_sleep script heap s pid (Waiting asked) = refl
same_sleep script heap s pid (Admitted asked) = refl
same_sleep script heap s pid (Asleep asked) = same_block script heap s.world.plain pid
same_sleep script heap s pid (Stranded asked) = refl
same_sleep script heap s pid Dead = refl

same_sleepers : (script : Script) (heap : ℕ) (s : CoreState) (tasks : List Task)
    → list_all (λ task. sleeps_on (with_heap script heap) s task.pid task.phase) tasks ≡ list_all (λ task. sleeps_on script s task.pid task.phase) tasks
same_sleepers script heap s [] = refl
same_sleepers script heap s (task ∷ tasks) =
    ap (λ b. b && list_all (λ task. sleeps_on (with_heap script heap) s task.pid task.phase) tasks) (same_sleep script heap s task.pid task.phase)
    ∙ ap (λ b. sleeps_on script s task.pid task.phase && b) (same_sleepers script heap s tasks)

pub same_end : (script : Script) (heap steps taken : ℕ) (s : CoreState) → demand_of s ≤ script.heap → demand_of s ≤ heap
    → end_of (with_heap script heap) steps taken s ≡ end_of script steps taken s
same_end script heap steps taken s within below =
    ap (λ need. cond (has_finished s) (Some Finished) (starved_or need (cond (all_asleep (with_heap script heap) s) (Some AllAsleep) (cond (taken == steps) (Some Spent) None))))
    (unstarved (with_heap script heap) s below ∙ sym (unstarved script s within))
    ∙ ap (λ b. cond (has_finished s) (Some Finished) (starved_or (starves_for script s) (cond b (Some AllAsleep) (cond (taken == steps) (Some Spent) None))))
    (same_sleepers script heap s s.tasks)
