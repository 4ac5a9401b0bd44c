-- The loops over the places of the tasks that are runnable.
use Rattle.std.proofs.Common.{◌≡◌, ℕ, ◌<◌, ◌≤◌, Bool, List, length, filter, get_or, sym, ap, ◌∙◌, subst}
use Rattle.std.proofs.lemmas.Option.{slice_get-get_or}
use Rattle.kabi_types.specs.declared.scripts.Script.{Script}
use Rattle.posix_defs.specs.declared.phases.Task.{Task}
use Rattle.kern_tasks.specs.Runnable.{is_runnable, runnable_in}
use Rattle.kern_tasks.proofs.Picked.{IsThere, as_many_places, is_there}
use Rattle.kern_tasks.proofs.Runnables.{no_more_places}

-- at each place the task is found that is picked with its number
pub found_there : (settled : ℕ → Bool) (tasks : List Task) (items : List ℕ) (i d : ℕ) → items ≡ runnable_in settled tasks → i < length items
    → IsThere (is_runnable settled) tasks i (get_or items i d)
found_there settled tasks items i d same within = is_there (is_runnable settled) tasks items i (get_or items i d) same (slice_get-get_or items i d within)

-- behind all places all that are picked were found
pub all_found : (settled : ℕ → Bool) (tasks : List Task) (items : List ℕ) (i : ℕ) → items ≡ runnable_in settled tasks → length items ≤ i
    → length (filter (is_runnable settled) tasks) ≤ i
all_found settled tasks items i same behind =
    subst (λ n. n ≤ i) (ap length same ∙ as_many_places (is_runnable settled) 0 tasks) behind

-- there are no more places than tasks
pub few_places : (settled : ℕ → Bool) (tasks : List Task) (items : List ℕ) → items ≡ runnable_in settled tasks → length items ≤ length tasks
few_places settled tasks items same = subst (λ ps. length ps ≤ length tasks) (sym same) (no_more_places (is_runnable settled) 0 tasks)
