-- While no end holds, something can be taken.
use Rattle.std.proofs.Common.{◌≡◌, ℕ, zero, suc, ◌+◌, ◌<◌, ◌==◌, Bool, true, false, not, ◌&&◌, ◌||◌, cond, List, [], ◌∷◌, ◌++◌, filter, length, Option, None, Some, IsSome, is_some, slice_get, unwrap_or, refl, ap, sym, ◌∙◌, subst, arith, ◌⊎◌, inl, inr}
use Rattle.std.specs.List.{AllByRecursion, list_any, list_all}
use borrow.Author.Tests.{eqb-true, eq-eqb}
use Rattle.kabi_types.specs.declared.classes.Weight.{Weight}
use Rattle.kabi_types.specs.declared.entries.Cached.TheVariants.{Name, Block, Vnode}
use Rattle.kabi_types.specs.declared.entries.End.TheVariants.{Finished, AllAsleep, Spent}
use Rattle.kabi_types.specs.declared.entries.Event.{Event}
use Rattle.kabi_types.specs.declared.entries.Event.TheVariants.{Admit, Wake, Kill, Evict}
use Rattle.kabi_types.specs.declared.entries.Noted.{Noted}
use Rattle.kabi_types.specs.declared.scripts.Policy.{Policy}
use Rattle.kabi_types.specs.declared.scripts.Script.{Script}
use Rattle.posix_defs.specs.declared.phases.Asked.{Asked}
use Rattle.posix_defs.specs.declared.phases.Phase.{Phase}
use Rattle.posix_defs.specs.declared.phases.Phase.TheVariants.{User, Waiting, Admitted, Asleep, Stranded, Dead}
use Rattle.posix_defs.specs.declared.phases.Task.{Task}
use Rattle.posix_defs.specs.Process.{Table, is_alive, is_alive_in, runs}
use Rattle.posix_defs.specs.Plain.{Plain}
use Rattle.posix_defs.specs.World.{Account, can_evict}
use Rattle.posix_defs.specs.Machine.{would_block}
use Rattle.posix_defs.specs.Victim.{pid_of_greatest, victim_of, weight_of, weights_from}
use Rattle.posix_defs.specs.CoreState.{CoreState, fits, is_admitted, none_admitted, phase_in, phase_of, some_fits, some_wait_in_vain, waits_and_fits, waits_in_vain, lives, is_waiting}
use Rattle.posix_defs.specs.Ends.{all_asleep, end_of, has_finished, sleeps_on, starved_or, starves_for, vain_need}
use Rattle.posix_defs.specs.Licence.{can_evict_any, is_licensed}
use Rattle.posix_defs.specs.Choice.{asks_nothing, events_of, events_in, enabled_in, default_of, kill_of, kills_in, evict_of, evicts_from, evicts_in, others_in}
use Rattle.posix_defs.specs.SoundTasks.{AreRising, IsSound, PhaseFits, TaskFits}
use Rattle.posix_defs.specs.CoreRun.{IsRunBy}
use Rattle.kern_laws.proofs.EnabledEvents.{found_front, found_behind}
use Rattle.kern_laws.proofs.Sounds.{is_sound}

true_or_false : (b : Bool) → (b ≡ true) ⊎ (b ≡ false)
true_or_false true = inl refl
true_or_false false = inr refl

-- Where no end stands each of them fails.
pub record NoEnd (script : Script) (s : CoreState) : Type 0 where
  pub unfinished : has_finished s ≡ false
  pub fed : starves_for script s ≡ None
  pub awake : all_asleep script s ≡ false

pub no_end : (script : Script) (steps taken : ℕ) (s : CoreState) → end_of script steps taken s ≡ None → NoEnd script s
no_end script steps taken s none = go (has_finished s) refl (starves_for script s) refl (all_asleep script s) refl none
  where
    go : (f : Bool) → has_finished s ≡ f → (h : Option ℕ) → starves_for script s ≡ h → (a : Bool) → all_asleep script s ≡ a
        → cond f (Some Finished) (starved_or h (cond a (Some AllAsleep) (cond (taken == steps) (Some Spent) None))) ≡ None → NoEnd script s
    go true f h s a e none = cc
    go false f (Some need) s a e none = cc
    go false f None s true e none = cc
    go false f None s false e none = record { unfinished = f; fed = s; awake = e }

-- tasks of which none has an event, and none waits in vain, all sleep
all_sleep : (script : Script) (s : CoreState) (tasks : List Task) → AllByRecursion (TaskFits script s.world.plain) tasks
    → list_any (λ task. waits_in_vain script s task.phase) tasks ≡ false → slice_get (events_in script s tasks) 0 ≡ None
    → list_all (λ task. sleeps_on script s task.pid task.phase) tasks ≡ true
all_sleep script s [] each vain none = refl
all_sleep script s (task ∷ tasks) each vain none = go (all_sleep script s tasks each.1) task.phase each.0.phase vain none
  where
    waits : (asked : Asked) → (b : Bool)
        → (not b || list_any (λ task. waits_in_vain script s task.phase) tasks) ≡ false
        → slice_get (cond b (Admit task.pid ∷ []) [] ++ events_in script s tasks) 0 ≡ None → ⊥
    waits asked true vain none = cc
    waits asked false vain none = cc

    sleeps : (list_any (λ task. waits_in_vain script s task.phase) tasks ≡ false → slice_get (events_in script s tasks) 0 ≡ None
        → list_all (λ task. sleeps_on script s task.pid task.phase) tasks ≡ true)
        → (b : Bool) → list_any (λ task. waits_in_vain script s task.phase) tasks ≡ false
        → slice_get (cond b [] (Wake task.pid ∷ []) ++ events_in script s tasks) 0 ≡ None
        → (b && list_all (λ task. sleeps_on script s task.pid task.phase) tasks) ≡ true
    sleeps rest true vain none = rest vain none
    sleeps rest false vain none = cc

    go : (list_any (λ task. waits_in_vain script s task.phase) tasks ≡ false → slice_get (events_in script s tasks) 0 ≡ None
        → list_all (λ task. sleeps_on script s task.pid task.phase) tasks ≡ true)
        → (phase : Phase) → PhaseFits script s.world.plain task.pid phase
        → (waits_in_vain script s phase || list_any (λ task. waits_in_vain script s task.phase) tasks) ≡ false
        → slice_get (events_of script s task.pid phase ++ events_in script s tasks) 0 ≡ None
        → (sleeps_on script s task.pid phase && list_all (λ task. sleeps_on script s task.pid task.phase) tasks) ≡ true
    go rest User fit vain none = cc
    go rest (Waiting asked) fit vain none = absurd (waits asked (fits script s asked) vain none)
    go rest (Admitted asked) fit vain none = cc
    go rest (Asleep asked) fit vain none = sleeps rest (would_block script s.world.plain task.pid) vain none
    go rest (Stranded asked) fit vain none = cc
    go rest Dead fit vain none = absurd fit

-- the first of what is behind a front that may be skipped
later_kept : (e : Event) (xs : List Event) → IsSome (slice_get (filter asks_nothing xs) 0) → IsSome (slice_get (filter asks_nothing (e ∷ xs)) 0)
later_kept e xs some = go (asks_nothing e)
  where
    go : (b : Bool) → IsSome (slice_get (cond b (e ∷ filter asks_nothing xs) (filter asks_nothing xs)) 0)
    go true = refl
    go false = some

-- where a call is admitted, or one that waits fits, an event brings the heap nearer
moves : (script : Script) (s : CoreState) (tasks : List Task) (behind : List Event)
    → list_any (λ task. is_admitted task.phase || waits_and_fits script s task.phase) tasks ≡ true
    → IsSome (slice_get (filter asks_nothing (events_in script s tasks ++ behind)) 0)
moves script s [] behind any = cc
moves script s (task ∷ tasks) behind any = go (moves script s tasks behind) task.phase any
  where
    waits : (b : Bool)
        → (list_any (λ task. is_admitted task.phase || waits_and_fits script s task.phase) tasks ≡ true
        → IsSome (slice_get (filter asks_nothing (events_in script s tasks ++ behind)) 0))
        → (b || list_any (λ task. is_admitted task.phase || waits_and_fits script s task.phase) tasks) ≡ true
        → IsSome (slice_get (filter asks_nothing ((cond b (Admit task.pid ∷ []) [] ++ events_in script s tasks) ++ behind)) 0)
    waits true rest any = refl
    waits false rest any = rest any

    sleeps : (b : Bool) → IsSome (slice_get (filter asks_nothing (events_in script s tasks ++ behind)) 0)
        → IsSome (slice_get (filter asks_nothing ((cond b [] (Wake task.pid ∷ []) ++ events_in script s tasks) ++ behind)) 0)
    sleeps true some = some
    sleeps false some = some

    go : (list_any (λ task. is_admitted task.phase || waits_and_fits script s task.phase) tasks ≡ true
        → IsSome (slice_get (filter asks_nothing (events_in script s tasks ++ behind)) 0))
        → (phase : Phase)
        → ((is_admitted phase || waits_and_fits script s phase) || list_any (λ task. is_admitted task.phase || waits_and_fits script s task.phase) tasks) ≡ true
        → IsSome (slice_get (filter asks_nothing ((events_of script s task.pid phase ++ events_in script s tasks) ++ behind)) 0)
    go rest User any = rest any
    go rest (Waiting asked) any = waits (fits script s asked) rest any
    go rest (Admitted asked) any = refl
    go rest (Asleep asked) any = sleeps (would_block script s.world.plain task.pid) (rest any)
    go rest (Stranded asked) any = refl
    go rest Dead any = rest any

-- one of two tests that some item passes
any_or : (P Q : Task → Bool) (tasks : List Task) → (list_any P tasks ≡ true) ⊎ (list_any Q tasks ≡ true) → list_any (λ t. P t || Q t) tasks ≡ true
any_or P Q [] either = elim either [ inl e ↦ (cc) | inr e ↦ (cc) ]
any_or P Q (task ∷ tasks) either = go (any_or P Q tasks) (P task) (Q task) either
  where
    go : ((list_any P tasks ≡ true) ⊎ (list_any Q tasks ≡ true) → list_any (λ t. P t || Q t) tasks ≡ true) → (p q : Bool)
        → ((p || list_any P tasks) ≡ true) ⊎ ((q || list_any Q tasks) ≡ true) → ((p || q) || list_any (λ t. P t || Q t) tasks) ≡ true
    go rest true q e = refl
    go rest false true e = refl
    go rest false false e = rest e

-- where nobody weighs anything, only the first process may be alive
nobody_weighs : (plain : Plain) (account : Account) (first i : ℕ) (table : Table) → weights_from plain account first table ≡ []
    → is_alive_in (unwrap_or (slice_get table i) None) ≡ true → first + i ≡ 1
nobody_weighs plain account first i [] none alive = cc
nobody_weighs plain account first zero (there ∷ table) none alive = go (is_alive_in there) (first == 1) alive none refl
  where
    go : (a b : Bool) → a ≡ true → cond (a && not b) (weight_of plain account first ∷ weights_from plain account (first + 1) table) (weights_from plain account (first + 1) table) ≡ []
        → (first == 1) ≡ b → first + 0 ≡ 1
    go true true e none is = let same : first ≡ 1 = eqb-true first 1 is in omega arith
    go true false e none is = cc
    go false b e none is = cc
nobody_weighs plain account first (suc i) (there ∷ table) none alive =
    let later : first + 1 + i ≡ 1 = nobody_weighs plain account (first + 1) i table (go (is_alive_in there && not (first == 1)) none) alive in omega arith
  where
    go : (b : Bool) → cond b (weight_of plain account first ∷ weights_from plain account (first + 1) table) (weights_from plain account (first + 1) table) ≡ []
        → weights_from plain account (first + 1) table ≡ []
    go true e = cc
    go false e = e

pub no_victim : (policy : Policy) (plain : Plain) (account : Account) (pid : ℕ) → victim_of policy plain account ≡ None → is_alive plain.table pid ≡ true → pid ≡ 1
no_victim policy plain account zero none alive = cc
no_victim policy plain account (suc i) none alive =
    let one : 1 + i ≡ 1 = nobody_weighs plain account 1 i plain.table (go (weights_from plain account 1 plain.table) none) alive in omega arith
  where
    go : (weights : List Weight) → pid_of_greatest policy weights ≡ None → weights ≡ []
    go [] e = refl
    go (w ∷ weights) e = cc

-- tasks of which none is admitted are of live processes, so of the first alone
all_first : (script : Script) (plain : Plain) (tasks : List Task) → AllByRecursion (TaskFits script plain) tasks
    → list_any (λ task. is_admitted task.phase) tasks ≡ false → ((pid : ℕ) → is_alive plain.table pid ≡ true → pid ≡ 1)
    → list_all (λ task. task.pid == 1) tasks ≡ true
all_first script plain [] each none one = refl
all_first script plain (task ∷ tasks) each none one = go (all_first script plain tasks each.1) task.phase each.0.phase none
  where
    lives : is_alive plain.table task.pid ≡ true
        → (list_any (λ task. is_admitted task.phase) tasks ≡ false → ((pid : ℕ) → is_alive plain.table pid ≡ true → pid ≡ 1)
        → list_all (λ task. task.pid == 1) tasks ≡ true)
        → list_any (λ task. is_admitted task.phase) tasks ≡ false → ((task.pid == 1) && list_all (λ task. task.pid == 1) tasks) ≡ true
    lives alive rest none = ap (λ b. b && list_all (λ task. task.pid == 1) tasks) (eq-eqb task.pid 1 (one task.pid alive)) ∙ rest none one

    go : (list_any (λ task. is_admitted task.phase) tasks ≡ false → ((pid : ℕ) → is_alive plain.table pid ≡ true → pid ≡ 1)
        → list_all (λ task. task.pid == 1) tasks ≡ true)
        → (phase : Phase) → PhaseFits script plain task.pid phase → (is_admitted phase || list_any (λ task. is_admitted task.phase) tasks) ≡ false
        → ((task.pid == 1) && list_all (λ task. task.pid == 1) tasks) ≡ true
    go rest User fit none = lives fit rest none
    go rest (Waiting asked) fit none = lives fit.0 rest none
    go rest (Admitted asked) fit none = cc
    go rest (Asleep asked) fit none = lives fit.0 rest none
    go rest (Stranded asked) fit none = cc
    go rest Dead fit none = absurd fit

-- the first process alone, whose call waits in vain
first_vain : (script : Script) (s : CoreState) (tasks : List Task) → AreRising 0 tasks → list_all (λ task. task.pid == 1) tasks ≡ true
    → list_any (λ task. waits_in_vain script s task.phase) tasks ≡ true → (need : ℕ) × (vain_need script s (phase_in tasks 1) ≡ Some need)
first_vain script s [] rising all vain = cc
first_vain script s (task ∷ []) rising all vain = go (task.pid == 1) all (task.phase) vain
  where
    waits : (asked : Asked) (b : Bool) → (not b || false) ≡ true → (need : ℕ) × (cond b None (Some asked.bound) ≡ Some need)
    waits asked true e = cc
    waits asked false e = (asked.bound, refl)

    go : (b : Bool) → (b && true) ≡ true → (phase : Phase) → (waits_in_vain script s phase || false) ≡ true
        → (need : ℕ) × (vain_need script s (cond b phase Dead) ≡ Some need)
    go false e phase v = cc
    go true e User v = cc
    go true e (Waiting asked) v = waits asked (fits script s asked) v
    go true e (Admitted asked) v = cc
    go true e (Asleep asked) v = cc
    go true e (Stranded asked) v = cc
    go true e Dead v = cc
first_vain script s (task ∷ other ∷ tasks) rising all vain = absurd (go (task.pid == 1) refl (other.pid == 1) refl all)
  where
    go : (a : Bool) → (task.pid == 1) ≡ a → (b : Bool) → (other.pid == 1) ≡ b → (a && (b && list_all (λ task. task.pid == 1) tasks)) ≡ true → ⊥
    go true a true b e =
        let one : task.pid ≡ 1 = eqb-true task.pid 1 a in let too : other.pid ≡ 1 = eqb-true other.pid 1 b in
        let less : task.pid < other.pid = rising.1.0 in omega arith
    go true a false b e = cc
    go false a b c e = cc

-- where something can be evicted, an eviction is listed
some_eviction : (script : Script) (s : CoreState) → lives s 1 ≡ true → can_evict_any s.world ≡ true
    → (event : Event) × (asks_nothing event ≡ true) × (slice_get (others_in script s) 0 ≡ Some event)
some_eviction script s alive can =
    let found = go (can_evict s.world.plain s.world.kept Name) (can_evict s.world.plain s.world.kept Block) (can_evict s.world.plain s.world.kept Vnode) can in
    (found.0, found.1, ap (λ b. slice_get (cond b (evicts_from s.world.plain s.world.kept) [] ++ kills_in script s) 0) alive ∙ found.2)
  where
    go : (a b c : Bool) → (a || b || c) ≡ true → (event : Event) × (asks_nothing event ≡ true)
        × (slice_get ((evict_of a Name ++ (evict_of b Block ++ evict_of c Vnode)) ++ kills_in script s) 0 ≡ Some event)
    go true b c e = (Evict Name, refl, refl)
    go false true c e = (Evict Block, refl, refl)
    go false false true e = (Evict Vnode, refl, refl)
    go false false false e = cc

-- an event that asks for nothing is found among those of a list that do
kept_somewhere : (xs : List Event) (j : ℕ) (e : Event) → slice_get xs j ≡ Some e → asks_nothing e ≡ true → IsSome (slice_get (filter asks_nothing xs) 0)
kept_somewhere [] j e at keeps = cc
kept_somewhere (x ∷ xs) zero e at keeps =
    let same : x ≡ e = (cc) in
    subst (λ b. IsSome (slice_get (cond b (x ∷ filter asks_nothing xs) (filter asks_nothing xs)) 0)) (sym (ap asks_nothing same ∙ keeps)) refl
kept_somewhere (x ∷ xs) (suc j) e at keeps = later_kept x xs (kept_somewhere xs j e at keeps)

-- while a run goes on with no call admitted the first process lives
pub first_lives : (s : CoreState) → has_finished s ≡ false → list_any (λ task. is_admitted task.phase) s.tasks ≡ false → lives s 1 ≡ true
first_lives s unfinished unadmitted = go (lives s 1) (ap (λ b. not (lives s 1) && not b) (sym unadmitted) ∙ unfinished)
  where
    go : (b : Bool) → (not b && true) ≡ false → b ≡ true
    go true e = refl
    go false e = cc

-- without a victim there is no licence
pub no_licence : (script : Script) (s : CoreState) → victim_of script.policy s.world.plain s.world.account ≡ None → is_licensed script s ≡ true → ⊥
no_licence script s v e =
    last_of (some_wait_in_vain script s && none_admitted s && not (can_evict_any s.world) && not (some_fits script s))
    (ap (λ o. (some_wait_in_vain script s && none_admitted s && not (can_evict_any s.world) && not (some_fits script s)) && is_some o) (sym v) ∙ e)
  where
    last_of : (a : Bool) → (a && false) ≡ true → ⊥
    last_of true e = cc
    last_of false e = cc

-- where a call waits in vain, and nothing else helps, a kill is licensed
licence : (script : Script) (s : CoreState) → IsSound script s → NoEnd script s → some_wait_in_vain script s ≡ true
    → list_any (λ task. is_admitted task.phase) s.tasks ≡ false → some_fits script s ≡ false → can_evict_any s.world ≡ false
    → is_licensed script s ≡ true
licence script s sound open_end vain unadmitted unfit evict = go (victim_of script.policy s.world.plain s.world.account) refl
  where
    go : (victim : Option ℕ) → victim_of script.policy s.world.plain s.world.account ≡ victim → is_licensed script s ≡ true
    go (Some pid) v =
        ap (λ b. b && none_admitted s && not (can_evict_any s.world) && not (some_fits script s) && is_some (victim_of script.policy s.world.plain s.world.account)) vain
        ∙ ap (λ b. not b && not (can_evict_any s.world) && not (some_fits script s) && is_some (victim_of script.policy s.world.plain s.world.account)) unadmitted
        ∙ ap (λ b. not b && not (some_fits script s) && is_some (victim_of script.policy s.world.plain s.world.account)) evict
        ∙ ap (λ b. not b && is_some (victim_of script.policy s.world.plain s.world.account)) unfit
        ∙ ap is_some v
    go None v =
        absurd (
        let first : list_all (λ task. task.pid == 1) s.tasks ≡ true =
        all_first script s.world.plain s.tasks sound.each unadmitted (λ pid alive. no_victim script.policy s.world.plain s.world.account pid v alive) in
        let need = first_vain script s s.tasks sound.rising first vain in
        let starves : starves_for script s ≡ Some need.0 =
        ap (λ b. cond (b && none_admitted s && not (can_evict_any s.world)) (vain_need script s (phase_of s 1)) None) first
        ∙ ap (λ b. cond (not b && not (can_evict_any s.world)) (vain_need script s (phase_of s 1)) None) unadmitted
        ∙ ap (λ b. cond (not b) (vain_need script s (phase_of s 1)) None) evict
        ∙ need.1 in
        let fed : starves_for script s ≡ None = open_end.fed in cc)

-- a call that waits fits, or waits in vain
in_vain : (script : Script) (s : CoreState) (tasks : List Task) → list_any (λ task. is_waiting task.phase) tasks ≡ true
    → list_any (λ task. waits_and_fits script s task.phase) tasks ≡ false → list_any (λ task. waits_in_vain script s task.phase) tasks ≡ true
in_vain script s [] some unfit = cc
in_vain script s (task ∷ tasks) some unfit = go (in_vain script s tasks) task.phase some unfit
  where
    Later : Type 0
    Later = list_any (λ task. is_waiting task.phase) tasks ≡ true → list_any (λ task. waits_and_fits script s task.phase) tasks ≡ false
        → list_any (λ task. waits_in_vain script s task.phase) tasks ≡ true

    waits : (b : Bool) → (b || list_any (λ task. waits_and_fits script s task.phase) tasks) ≡ false
        → (not b || list_any (λ task. waits_in_vain script s task.phase) tasks) ≡ true
    waits true e = cc
    waits false e = refl

    go : Later → (phase : Phase) → (is_waiting phase || list_any (λ task. is_waiting task.phase) tasks) ≡ true
        → (waits_and_fits script s phase || list_any (λ task. waits_and_fits script s task.phase) tasks) ≡ false
        → (waits_in_vain script s phase || list_any (λ task. waits_in_vain script s task.phase) tasks) ≡ true
    go later User some unfit = later some unfit
    go later (Waiting asked) some unfit = waits (fits script s asked) unfit
    go later (Admitted asked) some unfit = later some unfit
    go later (Asleep asked) some unfit = later some unfit
    go later (Stranded asked) some unfit = later some unfit
    go later Dead some unfit = later some unfit

-- where a call waits and no end stands something helps it
pub helped : (script : Script) (steps taken : ℕ) (s : CoreState) → IsSound script s → end_of script steps taken s ≡ None
    → list_any (λ task. is_waiting task.phase) s.tasks ≡ true
    → (not (none_admitted s) || some_fits script s || can_evict_any s.world || is_licensed script s) ≡ true
helped script steps taken s sound none some =
    go (list_any (λ task. is_admitted task.phase) s.tasks) refl (some_fits script s) refl (can_evict_any s.world) refl
  where
    go : (a : Bool) → list_any (λ task. is_admitted task.phase) s.tasks ≡ a → (b : Bool) → some_fits script s ≡ b → (c : Bool) → can_evict_any s.world ≡ c
        → (not (not a) || b || c || is_licensed script s) ≡ true
    go true e b f c g = refl
    go false e true f c g = refl
    go false e false f true g = refl
    go false e false f false g = licence script s sound (no_end script steps taken s none) (in_vain script s s.tasks some f) e f g

-- in a sound state where no end stands some event is the default
pub some_default : (script : Script) (steps taken : ℕ) (s : CoreState) → IsSound script s → end_of script steps taken s ≡ None → IsSome (default_of script s)
some_default script steps taken s sound none = go (some_wait_in_vain script s) refl
  where
    open_end : NoEnd script s
    open_end = no_end script steps taken s none

    first_event : (found : Option Event) → slice_get (events_in script s s.tasks) 0 ≡ found → some_wait_in_vain script s ≡ false
        → IsSome (slice_get (enabled_in script s) 0)
    first_event (Some event) e vain = ap is_some (found_front (events_in script s s.tasks) (others_in script s) 0 event e)
    first_event None e vain =
        absurd (let asleep : all_asleep script s ≡ true = all_sleep script s s.tasks sound.each vain e in let awake : all_asleep script s ≡ false = open_end.awake in cc)

    behind : (event : Event) (j : ℕ) → slice_get (others_in script s) j ≡ Some event → asks_nothing event ≡ true
        → IsSome (slice_get (filter asks_nothing (enabled_in script s)) 0)
    behind event j at keeps =
        let found = found_behind (events_in script s s.tasks) (others_in script s) j event at in
        kept_somewhere (enabled_in script s) found.0 event found.1 keeps

    killed : (victim : Option ℕ) → victim_of script.policy s.world.plain s.world.account ≡ victim → is_licensed script s ≡ true
        → IsSome (slice_get (filter asks_nothing (enabled_in script s)) 0)
    killed (Some pid) v licensed =
        let kills : kills_in script s ≡ Kill pid ∷ [] =
        ap (λ b. kill_of b (victim_of script.policy s.world.plain s.world.account)) licensed ∙ ap (kill_of true) v in
        let found = found_behind (evicts_in s) (kills_in script s) 0 (Kill pid) (ap (λ ks. slice_get ks 0) kills) in
        behind (Kill pid) found.0 found.1 refl
    killed None v licensed = absurd (no_licence script s v licensed)

    freed : some_wait_in_vain script s ≡ true → list_any (λ task. is_admitted task.phase) s.tasks ≡ false → some_fits script s ≡ false
        → IsSome (slice_get (filter asks_nothing (enabled_in script s)) 0)
    freed vain unadmitted unfit = elim (true_or_false (can_evict_any s.world)) [
      | inl can ↦
          let found = some_eviction script s (first_lives s open_end.unfinished unadmitted) can in
          behind found.0 0 found.2 found.1
      | inr none ↦ killed (victim_of script.policy s.world.plain s.world.account) refl (licence script s sound open_end vain unadmitted unfit none)
    ]

    moved : (list_any (λ task. is_admitted task.phase) s.tasks ≡ true) ⊎ (some_fits script s ≡ true)
        → IsSome (slice_get (filter asks_nothing (enabled_in script s)) 0)
    moved either =
        moves script s s.tasks (others_in script s)
        (any_or (λ task. is_admitted task.phase) (λ task. waits_and_fits script s task.phase) s.tasks either)

    go : (vain : Bool) → some_wait_in_vain script s ≡ vain → IsSome (default_of script s)
    go false e = subst (λ b. IsSome (slice_get (cond b (filter asks_nothing (enabled_in script s)) (enabled_in script s)) 0)) (sym e)
        (first_event (slice_get (events_in script s s.tasks) 0) refl e)
    go true e = subst (λ b. IsSome (slice_get (cond b (filter asks_nothing (enabled_in script s)) (enabled_in script s)) 0)) (sym e)
        (elim (true_or_false (list_any (λ task. is_admitted task.phase) s.tasks)) [
          | inl admitted ↦ moved (inl admitted)
          | inr unadmitted ↦ elim (true_or_false (some_fits script s)) [
            | inl fit ↦ moved (inr fit)
            | inr unfit ↦ freed e unadmitted unfit
          ]
        ])

pub progress : {rule : ℕ → CoreState → Event → Type 0} {script : Script} {steps : ℕ} {run : List Noted} {s : CoreState} → IsRunBy rule script steps run s
    → end_of script steps (length run) s ≡ None → IsSome (default_of script s)
progress {script = script} {steps = steps} {run = run} {s = s} runs none = some_default script steps (length run) s (is_sound runs) none
