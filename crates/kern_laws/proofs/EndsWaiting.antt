-- Which ends leave a call waiting, and that nothing helps it then.
use Rattle.std.proofs.Common.{◌≡◌, ℕ, ◌<◌, ◌==◌, Bool, true, false, not, ◌&&◌, ◌||◌, cond, List, [], ◌∷◌, ◌++◌, Option, None, Some, refl, ap, sym, ◌∙◌, arith, ◌⊎◌, inl, inr}
use Rattle.std.specs.List.{AllByRecursion, list_any, list_all}
use borrow.Author.Tests.{eqb-true}
use Rattle.kabi_types.specs.declared.entries.Cached.TheVariants.{Name, Block, Vnode}
use Rattle.kabi_types.specs.declared.entries.End.{End}
use Rattle.kabi_types.specs.declared.entries.End.TheVariants.{Finished, Starved, AllAsleep, Spent}
use Rattle.kabi_types.specs.declared.entries.Event.TheVariants.{Admit}
use Rattle.kabi_types.specs.declared.scripts.Script.{Script}
use Rattle.posix_defs.specs.declared.phases.Asked.{Asked}
use Rattle.posix_defs.specs.declared.phases.Phase.{Phase}
use Rattle.posix_defs.specs.declared.phases.Phase.TheVariants.{User, Waiting, Admitted, Asleep, Stranded, Dead}
use Rattle.posix_defs.specs.declared.phases.Task.{Task}
use Rattle.posix_defs.specs.Family.{IsFamily}
use Rattle.posix_defs.specs.Machine.{would_block}
use Rattle.posix_defs.specs.Process.{is_alive}
use Rattle.posix_defs.specs.Plain.{Plain}
use Rattle.posix_defs.specs.World.{can_evict}
use Rattle.posix_defs.specs.Victim.{victim_of}
use Rattle.posix_defs.specs.CoreState.{CoreState, fits, is_waiting, lives, none_admitted, phase_in, phase_of}
use Rattle.posix_defs.specs.Ends.{all_asleep, end_of, has_finished, sleeps_on, starved_or, starves_for, vain_need}
use Rattle.posix_defs.specs.Licence.{can_evict_any, is_licensed}
use Rattle.posix_defs.specs.Choice.{enabled_in, events_in, events_of, evict_of, evicts_from, evicts_in, kill_of, kills_in, others_in}
use Rattle.posix_defs.specs.SoundTasks.{AreRising, IsSound, PhaseFits, TaskFits}
use Rattle.kern_laws.proofs.Families.{nobody_alive}
use Rattle.kern_laws.proofs.LivingVictim.{victim_lives}

-- where all sleep none waits
none_waits : (script : Script) (s : CoreState) (tasks : List Task) → list_all (λ task. sleeps_on script s task.pid task.phase) tasks ≡ true
    → list_any (λ task. is_waiting task.phase) tasks ≡ true → ⊥
none_waits script s [] all some = cc
none_waits script s (task ∷ tasks) all some = go (none_waits script s tasks) task.phase all some
  where
    Later : Type 0
    Later = list_all (λ task. sleeps_on script s task.pid task.phase) tasks ≡ true → list_any (λ task. is_waiting task.phase) tasks ≡ true → ⊥

    sleeps : Later → (b : Bool) → (b && list_all (λ task. sleeps_on script s task.pid task.phase) tasks) ≡ true
        → list_any (λ task. is_waiting task.phase) tasks ≡ true → ⊥
    sleeps later true all some = later all some
    sleeps later false all some = cc

    go : Later → (phase : Phase) → (sleeps_on script s task.pid phase && list_all (λ task. sleeps_on script s task.pid task.phase) tasks) ≡ true
        → (is_waiting phase || list_any (λ task. is_waiting task.phase) tasks) ≡ true → ⊥
    go later User all some = cc
    go later (Waiting asked) all some = cc
    go later (Admitted asked) all some = cc
    go later (Asleep asked) all some = sleeps later (would_block script s.world.plain task.pid) all some
    go later (Stranded asked) all some = cc
    go later Dead all some = cc

-- who waits is alive
waiter_lives : (script : Script) (plain : Plain) (tasks : List Task) → AllByRecursion (TaskFits script plain) tasks
    → list_any (λ task. is_waiting task.phase) tasks ≡ true → (pid : ℕ) × (is_alive plain.table pid ≡ true)
waiter_lives script plain [] each some = cc
waiter_lives script plain (task ∷ tasks) each some = go (waiter_lives script plain tasks each.1) task.phase each.0.phase some
  where
    Later : Type 0
    Later = list_any (λ task. is_waiting task.phase) tasks ≡ true → (pid : ℕ) × (is_alive plain.table pid ≡ true)

    go : Later → (phase : Phase) → PhaseFits script plain task.pid phase → (is_waiting phase || list_any (λ task. is_waiting task.phase) tasks) ≡ true
        → (pid : ℕ) × (is_alive plain.table pid ≡ true)
    go later User fit some = later some
    go later (Waiting asked) fit some = (task.pid, fit.0)
    go later (Admitted asked) fit some = later some
    go later (Asleep asked) fit some = later some
    go later (Stranded asked) fit some = later some
    go later Dead fit some = later some

-- while a call waits the first process lives
waits_first : (script : Script) (s : CoreState) → IsSound script s → IsFamily s.world.plain.table → list_any (λ task. is_waiting task.phase) s.tasks ≡ true
    → lives s 1 ≡ true
waits_first script s sound family some =
    let waiter = waiter_lives script s.world.plain s.tasks sound.each some in
    go (lives s 1) refl waiter.0 waiter.1
  where
    go : (b : Bool) → lives s 1 ≡ b → (pid : ℕ) → is_alive s.world.plain.table pid ≡ true → b ≡ true
    go true e pid alive = refl
    go false e pid alive = absurd (let dead = nobody_alive s.world.plain.table family e pid in cc)

-- of all ends these alone leave a call waiting
pub leaves_waiting : (script : Script) (steps taken : ℕ) (s : CoreState) (end : End) → IsSound script s → IsFamily s.world.plain.table
    → end_of script steps taken s ≡ Some end → list_any (λ task. is_waiting task.phase) s.tasks ≡ true → ((need : ℕ) × (end ≡ Starved 1 need)) ⊎ (end ≡ Spent)
leaves_waiting script steps taken s end sound family ends some =
    go (has_finished s) refl (starves_for script s) (all_asleep script s) refl (taken == steps) ends
  where
    unfinished : has_finished s ≡ true → ⊥
    unfinished e = over (lives s 1) (none_admitted s) (waits_first script s sound family some) e
      where
        over : (a b : Bool) → a ≡ true → (not a && b) ≡ true → ⊥
        over true b alive e = cc
        over false b alive e = cc

    go : (f : Bool) → has_finished s ≡ f → (h : Option ℕ) → (a : Bool) → all_asleep script s ≡ a → (t : Bool)
        → cond f (Some Finished) (starved_or h (cond a (Some AllAsleep) (cond t (Some Spent) None))) ≡ Some end
        → ((need : ℕ) × (end ≡ Starved 1 need)) ⊎ (end ≡ Spent)
    go true f h a e t is = absurd (unfinished f)
    go false f (Some need) a e t is = inl (need, (cc))
    go false f None true e t is = absurd (none_waits script s s.tasks e some)
    go false f None false e true is = inr (cc)
    go false f None false e false is = cc

-- what stands where a run starves
pub record IsStarved (script : Script) (s : CoreState) (need : ℕ) : Type 0 where
  pub alone : list_all (λ task. task.pid == 1) s.tasks ≡ true
  pub unpinned : can_evict_any s.world ≡ false
  pub vain : vain_need script s (phase_of s 1) ≡ Some need

pub is_starved : (script : Script) (steps taken : ℕ) (s : CoreState) (pid need : ℕ) → end_of script steps taken s ≡ Some (Starved pid need)
    → (pid ≡ 1) × IsStarved script s need
is_starved script steps taken s pid need ends = go (has_finished s) (starves_for script s) refl (all_asleep script s) (taken == steps) ends
  where
    why : (a : Bool) → list_all (λ task. task.pid == 1) s.tasks ≡ a → (b c : Bool) → can_evict_any s.world ≡ c
        → cond (a && b && not c) (vain_need script s (phase_of s 1)) None ≡ Some need → IsStarved script s need
    why true a true false c is = record { alone = a; unpinned = c; vain = is }
    why true a true true c is = cc
    why true a false d c is = cc
    why false a b d c is = cc

    go : (f : Bool) → (h : Option ℕ) → starves_for script s ≡ h → (a t : Bool)
        → cond f (Some Finished) (starved_or h (cond a (Some AllAsleep) (cond t (Some Spent) None))) ≡ Some (Starved pid need)
        → (pid ≡ 1) × IsStarved script s need
    go true h e a t is = cc
    go false (Some n) e a t is =
        let same : n ≡ need = (cc) in
        let one : pid ≡ 1 = (cc) in
        (one, why (list_all (λ task. task.pid == 1) s.tasks) refl (none_admitted s) (can_evict_any s.world) refl (e ∙ ap Some same))
    go false None e true t is = cc
    go false None e false true is = cc
    go false None e false false is = cc

-- the call that it leaves waiting, for which there is no room
pub vain_call : (script : Script) (s : CoreState) (phase : Phase) (need : ℕ) → vain_need script s phase ≡ Some need
    → (asked : Asked) × (phase ≡ Waiting asked) × (asked.bound ≡ need) × (fits script s asked ≡ false)
vain_call script s (Waiting asked) need is = go (fits script s asked) refl is
  where
    go : (b : Bool) → fits script s asked ≡ b → cond b None (Some asked.bound) ≡ Some need
        → (one : Asked) × (Waiting asked ≡ Waiting one) × (one.bound ≡ need) × (fits script s one ≡ false)
    go true e is = cc
    go false e is = (asked, refl, (cc), e)
vain_call script s User need is = cc
vain_call script s (Admitted asked) need is = cc
vain_call script s (Asleep asked) need is = cc
vain_call script s (Stranded asked) need is = cc
vain_call script s Dead need is = cc

-- the first process alone, which waits in vain, has no event
no_event : (script : Script) (s : CoreState) (need : ℕ) (tasks : List Task) → AreRising 0 tasks → list_all (λ task. task.pid == 1) tasks ≡ true
    → vain_need script s (phase_in tasks 1) ≡ Some need → events_in script s tasks ≡ []
no_event script s need [] rising all vain = refl
no_event script s need (task ∷ []) rising all vain = go (task.pid == 1) all task.phase vain
  where
    waits : (asked : Asked) (b : Bool) → cond b None (Some asked.bound) ≡ Some need → cond b (Admit task.pid ∷ []) [] ++ [] ≡ []
    waits asked true e = cc
    waits asked false e = refl

    go : (b : Bool) → (b && true) ≡ true → (phase : Phase) → vain_need script s (cond b phase Dead) ≡ Some need → events_of script s task.pid phase ++ [] ≡ []
    go false e phase v = cc
    go true e User v = cc
    go true e (Waiting asked) v = waits asked (fits script s asked) v
    go true e (Admitted asked) v = cc
    go true e (Asleep asked) v = cc
    go true e (Stranded asked) v = cc
    go true e Dead v = cc
no_event script s need (task ∷ other ∷ tasks) rising all vain = absurd (go (task.pid == 1) refl (other.pid == 1) refl all)
  where
    go : (a : Bool) → (task.pid == 1) ≡ a → (b : Bool) → (other.pid == 1) ≡ b → (a && (b && list_all (λ task. task.pid == 1) tasks)) ≡ true → ⊥
    go true a true b e =
        let one : task.pid ≡ 1 = eqb-true task.pid 1 a in let too : other.pid ≡ 1 = eqb-true other.pid 1 b in
        let less : task.pid < other.pid = rising.1.0 in omega arith
    go true a false b e = cc
    go false a b c e = cc

-- where all tasks are of one process no other has one
of_one : (tasks : List Task) (pid : ℕ) → list_all (λ task. task.pid == 1) tasks ≡ true → list_any (λ task. task.pid == pid) tasks ≡ true → pid ≡ 1
of_one [] pid all some = cc
of_one (task ∷ tasks) pid all some = go (of_one tasks pid) (task.pid == 1) refl (task.pid == pid) refl all some
  where
    go : (list_all (λ task. task.pid == 1) tasks ≡ true → list_any (λ task. task.pid == pid) tasks ≡ true → pid ≡ 1)
        → (a : Bool) → (task.pid == 1) ≡ a → (b : Bool) → (task.pid == pid) ≡ b → (a && list_all (λ task. task.pid == 1) tasks) ≡ true
        → (b || list_any (λ task. task.pid == pid) tasks) ≡ true → pid ≡ 1
    go later true a true b all some = sym (eqb-true task.pid pid b) ∙ eqb-true task.pid 1 a
    go later true a false b all some = later all some
    go later false a b e all some = cc

no_evictions : (s : CoreState) → can_evict_any s.world ≡ false → evicts_in s ≡ []
no_evictions s none = last (lives s 1) (go (can_evict s.world.plain s.world.kept Name) (can_evict s.world.plain s.world.kept Block) (can_evict s.world.plain s.world.kept Vnode) none)
  where
    go : (a b c : Bool) → (a || b || c) ≡ false → evict_of a Name ++ (evict_of b Block ++ evict_of c Vnode) ≡ []
    go true b c e = cc
    go false true c e = cc
    go false false true e = cc
    go false false false e = refl

    last : (b : Bool) → evicts_from s.world.plain s.world.kept ≡ [] → cond b (evicts_from s.world.plain s.world.kept) [] ≡ []
    last true e = e
    last false e = refl

no_kills : (script : Script) (s : CoreState) → IsSound script s → list_all (λ task. task.pid == 1) s.tasks ≡ true → kills_in script s ≡ []
no_kills script s sound alone = go (victim_of script.policy s.world.plain s.world.account) refl
  where
    of : (b : Bool) (victim : Option ℕ) → victim ≡ None → kill_of b victim ≡ []
    of true None e = refl
    of false None e = refl
    of b (Some pid) e = cc

    go : (victim : Option ℕ) → victim_of script.policy s.world.plain s.world.account ≡ victim → kills_in script s ≡ []
    go None v = of (is_licensed script s) (victim_of script.policy s.world.plain s.world.account) v
    go (Some pid) v =
        absurd (
        let victim = victim_lives script.policy s.world.plain s.world.account pid v in
        victim.1 (of_one s.tasks pid alone (sound.all pid victim.0)))

-- and then no event may be taken
pub nothing_helps : (script : Script) (s : CoreState) (need : ℕ) → IsSound script s → IsStarved script s need → enabled_in script s ≡ []
nothing_helps script s need sound starved =
    ap (λ events. events ++ others_in script s) (no_event script s need s.tasks sound.rising starved.alone starved.vain)
    ∙ ap (λ events. events ++ kills_in script s) (no_evictions s starved.unpinned)
    ∙ no_kills script s sound starved.alone
