-- Which calls fit, by what a state asks of the heap.
use Rattle.std.proofs.Common.{◌≡◌, ℕ, ◌+◌, ◌≤◌, ◌==◌, max, Bool, true, false, not, ◌||◌, cond, List, [], ◌∷◌, refl, ap, ◌∙◌, arith}
use Rattle.std.specs.List.{list_any}
use borrow.Author.Tests.{leb-true}
use Rattle.std.proofs.lemmas.Bool.Decides.{nat_tests}
use Rattle.kabi_types.specs.declared.scripts.Script.{Script}
use Rattle.posix_defs.specs.declared.phases.Asked.{Asked}
use Rattle.posix_defs.specs.declared.phases.Phase.{Phase}
use Rattle.posix_defs.specs.declared.phases.Phase.TheVariants.{User, Waiting, Admitted, Asleep, Stranded, Dead}
use Rattle.posix_defs.specs.declared.phases.Task.{Task}
use Rattle.posix_defs.specs.CoreState.{CoreState, charged_in, fits, phase_in, some_wait_in_vain, waits_in_vain}
use Rattle.sizing_laws.specs.Demand.{demand_in, demand_of, wants}

-- who is below the greater is below both, and the other way round
pub below_both : (a b n : ℕ) → max a b ≤ n → (a ≤ n) × (b ≤ n)
below_both a b n within = (omega arith, omega arith)

pub greater_below : (a b n : ℕ) → a ≤ n → b ≤ n → max a b ≤ n
greater_below a b n first second = omega arith

-- what is asked for is there
pub fits_so : (script : Script) (s : CoreState) (asked : Asked) → charged_in s + asked.bound ≤ script.heap → fits script s asked ≡ true
fits_so script s asked within = grind (arith, nat_tests)

fits_now : (script : Script) (s : CoreState) (phase : Phase) → wants (charged_in s) phase ≤ script.heap → waits_in_vain script s phase ≡ false
fits_now script s User within = refl
fits_now script s (Waiting asked) within = ap not (fits_so script s asked within)
fits_now script s (Admitted asked) within = refl
fits_now script s (Asleep asked) within = refl
fits_now script s (Stranded asked) within = refl
fits_now script s Dead within = refl

none_vain : (script : Script) (s : CoreState) (tasks : List Task) → demand_in (charged_in s) tasks ≤ script.heap
    → list_any (λ task. waits_in_vain script s task.phase) tasks ≡ false
none_vain script s [] within = refl
none_vain script s (task ∷ tasks) within =
    let both = below_both (wants (charged_in s) task.phase) (demand_in (charged_in s) tasks) script.heap within in
    ap (λ b. b || list_any (λ task. waits_in_vain script s task.phase) tasks) (fits_now script s task.phase both.0) ∙ none_vain script s tasks both.1

-- where the heap has what a state asks for, no call waits in vain
pub all_fit : (script : Script) (s : CoreState) → demand_of s ≤ script.heap → some_wait_in_vain script s ≡ false
all_fit script s within = none_vain script s s.tasks within

is_not : (b : Bool) → not b ≡ false → b ≡ true
is_not true none = refl
is_not false none = cc

wants_now : (script : Script) (s : CoreState) (phase : Phase) → waits_in_vain script s phase ≡ false → wants (charged_in s) phase ≤ script.heap
wants_now script s User none = omega arith
wants_now script s (Waiting asked) none = leb-true (charged_in s + asked.bound) script.heap (is_not (fits script s asked) none)
wants_now script s (Admitted asked) none = omega arith
wants_now script s (Asleep asked) none = omega arith
wants_now script s (Stranded asked) none = omega arith
wants_now script s Dead none = omega arith

pub neither : (a b : Bool) → (a || b) ≡ false → (a ≡ false) × (b ≡ false)
neither false b none = (refl, none)
neither true b none = cc

demand_so : (script : Script) (s : CoreState) (tasks : List Task) → list_any (λ task. waits_in_vain script s task.phase) tasks ≡ false
    → demand_in (charged_in s) tasks ≤ script.heap
demand_so script s [] none = omega arith
demand_so script s (task ∷ tasks) none =
    let both = neither (waits_in_vain script s task.phase) (list_any (λ task. waits_in_vain script s task.phase) tasks) none in
    greater_below (wants (charged_in s) task.phase) (demand_in (charged_in s) tasks) script.heap
    (wants_now script s task.phase both.0) (demand_so script s tasks both.1)

-- where no call waits in vain, the heap has what a state asks for
pub demand_within : (script : Script) (s : CoreState) → some_wait_in_vain script s ≡ false → demand_of s ≤ script.heap
demand_within script s none = demand_so script s s.tasks none

-- no task asks for more than all of them together
pub phase_within : (charged : ℕ) (tasks : List Task) (pid : ℕ) → wants charged (phase_in tasks pid) ≤ demand_in charged tasks
phase_within charged [] pid = omega arith
phase_within charged (task ∷ tasks) pid = go (task.pid == pid) (phase_within charged tasks pid)
  where
    go : (b : Bool) → wants charged (phase_in tasks pid) ≤ demand_in charged tasks
        → wants charged (cond b task.phase (phase_in tasks pid)) ≤ max (wants charged task.phase) (demand_in charged tasks)
    go true later = omega arith
    go false later = omega arith
