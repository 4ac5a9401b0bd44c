-- How a run of the core ends.
use Rattle.std.specs.Prelude.{ℕ, Bool, false, ◌&&◌, not, ◌==◌, if◌then◌else◌, Option, None, Some}
use Rattle.std.specs.List.{list_all}
use Rattle.kabi_types.specs.declared.entries.End.{End}
use Rattle.kabi_types.specs.declared.entries.End.TheVariants.{Finished, Starved, AllAsleep, Spent}
use Rattle.kabi_types.specs.declared.scripts.Script.{Script}
use Rattle.posix_defs.specs.declared.phases.Phase.{Phase}
use Rattle.posix_defs.specs.declared.phases.Phase.TheVariants.{Waiting, Asleep}
use Rattle.posix_defs.specs.Licence.{can_evict_any}
use Rattle.posix_defs.specs.Machine.{would_block}
use Rattle.posix_defs.specs.CoreState.{CoreState, fits, lives, none_admitted, phase_of}

-- the first process has ended, and no call is admitted
abbrev pub has_finished : CoreState → Bool
has_finished s = not (lives s 1) && none_admitted s

-- the need of a call that waits in vain
abbrev pub vain_need : Script → CoreState → Phase → Option ℕ
vain_need script s (Waiting asked) = if fits script s asked then None else Some asked.bound
vain_need script s _ = None

-- what the first process's call needs, where it waits in vain, nothing is admitted or can be evicted, and nobody else is alive
abbrev pub starves_for : Script → CoreState → Option ℕ
starves_for script s =
    if list_all (λ task. task.pid == 1) s.tasks && none_admitted s && not (can_evict_any s.world)
    then vain_need script s (phase_of s 1) else None

-- the task's process sleeps on a call that would still block
abbrev pub sleeps_on : Script → CoreState → ℕ → Phase → Bool
sleeps_on script s pid (Asleep _) = would_block script s.world.plain pid
sleeps_on script s pid _ = false

-- every process that is alive sleeps on a call that would still block, and no call is admitted
abbrev pub all_asleep : Script → CoreState → Bool
all_asleep script s = list_all (λ task. sleeps_on script s task.pid task.phase) s.tasks

-- Starved by the first process, where it has a need that can't be met; else the other end, if one stands
abbrev pub starved_or : Option ℕ → Option End → Option End
starved_or None otherwise = otherwise
starved_or (Some need) otherwise = Some (Starved 1 need)

-- the end that stands where so many of so many events were taken, the first that holds
abbrev pub end_of : Script → ℕ → ℕ → CoreState → Option End
end_of script steps taken s =
    if has_finished s then Some Finished
    else starved_or (starves_for script s)
    (if all_asleep script s then Some AllAsleep else (if taken == steps then Some Spent else None))
