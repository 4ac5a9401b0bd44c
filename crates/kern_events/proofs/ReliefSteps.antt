-- What is known where relief has come to an eviction or a kill.
use Rattle.std.proofs.Common.{◌≡◌, ℕ, ◌+◌, ◌-◌, ◌==◌, not, ◌||◌, cond, Bool, true, false, List, [], ◌∷◌, None, Some, refl, ap, sym, ◌∙◌, subst, arith}
use Rattle.std.specs.Prelude.{nat_le}
use Rattle.std.specs.List.{list_any}
use Rattle.std.proofs.lemmas.List.Sums.{sum_by-cons}
use Rattle.kabi_types.specs.declared.entries.Cached.{Cached}
use Rattle.kabi_types.specs.declared.entries.Cached.TheVariants.{Name, Block, Vnode}
use Rattle.kabi_types.specs.declared.scripts.Script.{Script}
use Rattle.posix_defs.specs.declared.phases.Phase.{Phase}
use Rattle.posix_defs.specs.declared.phases.Phase.TheVariants.{User, Waiting, Admitted, Asleep, Stranded, Dead}
use Rattle.posix_defs.specs.declared.phases.Task.{Task}
use Rattle.posix_defs.specs.World.{World, can_evict, live_of}
use Rattle.posix_defs.specs.Victim.{victim_of}
use Rattle.posix_defs.specs.CoreState.{CoreState, charged_in, held, is_admitted, is_waiting, lives, none_admitted, reserved_in, some_fits, waits_and_fits}
use Rattle.posix_defs.specs.SoundTasks.{IsSound}
use Rattle.posix_defs.specs.Licence.{can_evict_any, is_licensed}
use Rattle.posix_defs.specs.Ends.{end_of}
use Rattle.kern_laws.proofs.Progress.{first_lives, helped, no_end, no_licence}
use Rattle.kern_tasks.specs.Room.{first_going, goes_within}
use Rattle.kern_events.specs.Reliefs.{evicted_or, first_evictable, fits_or, killed_or, relief_of}
use Rattle.kern_events.specs.declared.reliefs.Relief.{Relief}
use Rattle.kern_events.specs.declared.reliefs.Relief.TheVariants.{NoneWaiting, Outstanding, Killed, Evicted}
use Rattle.kern_tasks.proofs.RoomFits.{room_fits}
use Rattle.kern_tasks.specs.View.{CoreView, IsAt}

-- a sum of nothing has no part
no_part : (a b : ℕ) → a + b ≡ 0 → a ≡ 0
no_part a b e = omega arith

no_rest : (a b : ℕ) → a + b ≡ 0 → b ≡ 0
no_rest a b e = omega arith

-- what isn't told to be nothing isn't
is_nothing : (n : ℕ) → n ≡ 0 → (n == 0) ≡ true
is_nothing n e = ap (λ m. m == 0) e

-- where no call can go on and nothing is in reserve, no call is admitted
pub none_holds : (room : ℕ) (tasks : List Task) → first_going room tasks ≡ None → reserved_in tasks ≡ 0
    → list_any (λ task. is_admitted task.phase) tasks ≡ false
none_holds room [] none empty = refl
none_holds room (task ∷ tasks) none empty =
    let sum : held task.phase + reserved_in tasks ≡ 0 = sym (sum_by-cons (λ t. held t.phase) task tasks) ∙ empty in
    go task.phase none (no_part (held task.phase) (reserved_in tasks) sum) (λ rest. none_holds room tasks rest (no_rest (held task.phase) (reserved_in tasks) sum))
  where
    Rest : Type 0
    Rest = first_going room tasks ≡ None → list_any (λ task. is_admitted task.phase) tasks ≡ false

    holds : (b : Bool) → b ≡ true → cond b (Some task.pid) (first_going room tasks) ≡ None → ⊥
    holds true e none = cc
    holds false e none = cc

    waits : (b : Bool) → cond b (Some task.pid) (first_going room tasks) ≡ None → first_going room tasks ≡ None
    waits true none = cc
    waits false none = none

    go : (phase : Phase) → cond (goes_within room phase) (Some task.pid) (first_going room tasks) ≡ None → held phase ≡ 0 → Rest
        → (is_admitted phase || list_any (λ task. is_admitted task.phase) tasks) ≡ false
    go User none zero rest = rest none
    go (Waiting asked) none zero rest = rest (waits (nat_le asked.bound room) none)
    go (Admitted asked) none zero rest = absurd (holds (asked.bound == 0) (is_nothing asked.bound zero) none)
    go (Asleep asked) none zero rest = rest none
    go (Stranded asked) none zero rest = absurd (holds (asked.bound == 0) (is_nothing asked.bound zero) none)
    go Dead none zero rest = rest none

-- and no call that waits fits
pub none_fits : (script : Script) (s : CoreState) (room charged : ℕ) (tasks : List Task) → charged_in s ≡ charged → room + charged ≡ script.heap
    → first_going room tasks ≡ None → list_any (λ task. waits_and_fits script s task.phase) tasks ≡ false
none_fits script s room charged [] same whole none = refl
none_fits script s room charged (task ∷ tasks) same whole none = go task.phase none (λ rest. none_fits script s room charged tasks same whole rest)
  where
    Rest : Type 0
    Rest = first_going room tasks ≡ None → list_any (λ task. waits_and_fits script s task.phase) tasks ≡ false

    waits : (b : Bool) → cond b (Some task.pid) (first_going room tasks) ≡ None → Rest → (b || list_any (λ task. waits_and_fits script s task.phase) tasks) ≡ false
    waits true none rest = cc
    waits false none rest = rest none

    holds : (b : Bool) → cond b (Some task.pid) (first_going room tasks) ≡ None → first_going room tasks ≡ None
    holds true none = cc
    holds false none = none

    go : (phase : Phase) → cond (goes_within room phase) (Some task.pid) (first_going room tasks) ≡ None → Rest
        → (waits_and_fits script s phase || list_any (λ task. waits_and_fits script s task.phase) tasks) ≡ false
    go User none rest = rest none
    go (Waiting asked) none rest =
        ap (λ b. b || list_any (λ task. waits_and_fits script s task.phase) tasks) (sym (room_fits script s room charged asked same whole))
        ∙ waits (nat_le asked.bound room) none rest
    go (Admitted asked) none rest = rest (holds (asked.bound == 0) none)
    go (Asleep asked) none rest = rest none
    go (Stranded asked) none rest = rest (holds (asked.bound == 0) none)
    go Dead none rest = rest none

-- the first cache that can lose something can
pub can_lose : (world : World) (what : Cached) → first_evictable world ≡ Some what → can_evict world.plain world.kept what ≡ true
can_lose world what e = go (can_evict world.plain world.kept Name) refl (can_evict world.plain world.kept Block) refl (can_evict world.plain world.kept Vnode) refl e
  where
    same : (which : Cached) → can_evict world.plain world.kept which ≡ true → Some which ≡ Some what → can_evict world.plain world.kept what ≡ true
    same which can e = subst (λ w. can_evict world.plain world.kept w ≡ true) (let is : which ≡ what = (cc) in is) can

    go : (a : Bool) → can_evict world.plain world.kept Name ≡ a → (b : Bool) → can_evict world.plain world.kept Block ≡ b
        → (c : Bool) → can_evict world.plain world.kept Vnode ≡ c
        → cond a (Some Name) (cond b (Some Block) (cond c (Some Vnode) None)) ≡ Some what → can_evict world.plain world.kept what ≡ true
    go true e b f c g h = same Name e h
    go false e true f c g h = same Block f h
    go false e false f true g h = same Vnode g h
    go false e false f false g h = cc

pub none_lost : (world : World) → first_evictable world ≡ None → can_evict_any world ≡ false
none_lost world e = go (can_evict world.plain world.kept Name) (can_evict world.plain world.kept Block) (can_evict world.plain world.kept Vnode) e
  where
    go : (a b c : Bool) → cond a (Some Name) (cond b (Some Block) (cond c (Some Vnode) None)) ≡ None → (a || b || c) ≡ false
    go true b c h = cc
    go false true c h = cc
    go false false true h = cc
    go false false false h = refl

-- How far relief has come: a call waits, none can go on, and nothing is in reserve.
pub record IsStuck (script : Script) (s : CoreState) : Type 0 where
  pub waits : list_any (λ task. is_waiting task.phase) s.tasks ≡ true
  pub unadmitted : list_any (λ task. is_admitted task.phase) s.tasks ≡ false
  pub unfit : some_fits script s ≡ false

pub stuck : {T : Type 0} (stands_for : T → World → Type 0) (script : Script) (inside core : CoreView T) (s : CoreState) (room : ℕ) (tasks : List Task) (waits : Bool)
    → inside ≡ core → IsAt stands_for core s → tasks ≡ inside.tasks → waits ≡ list_any (λ task. is_waiting task.phase) core.tasks → waits ≡ true
    → room + core.charged ≡ script.heap → first_going room tasks ≡ None → inside.reserved ≡ 0 → IsStuck script s
stuck stands_for script inside core s room tasks waits same at tasks_are waits_is is_true whole none empty =
    let here : s.tasks ≡ tasks = at.tasks ∙ sym (ap (λ c. c.tasks) same) ∙ sym tasks_are in
    let stays : first_going room s.tasks ≡ None = ap (first_going room) here ∙ none in
    record {
      waits = ap (list_any (λ task. is_waiting task.phase)) at.tasks ∙ sym waits_is ∙ is_true;
      unadmitted = none_holds room s.tasks stays (at.reserved ∙ sym (ap (λ c. c.reserved) same) ∙ empty);
      unfit = none_fits script s room core.charged s.tasks at.charged whole stays;
    }

-- and the room is what isn't charged
pub going_now : {T : Type 0} (stands_for : T → World → Type 0) (script : Script) (inside core : CoreView T) (s : CoreState) (room : ℕ) (tasks : List Task)
    → inside ≡ core → IsAt stands_for core s → tasks ≡ inside.tasks → room + core.charged ≡ script.heap
    → first_going (script.heap - charged_in s) s.tasks ≡ first_going room tasks
going_now stands_for script inside core s room tasks same at tasks_are whole =
    let here : s.tasks ≡ tasks = at.tasks ∙ sym (ap (λ c. c.tasks) same) ∙ sym tasks_are in
    let charged : charged_in s ≡ core.charged = at.charged in
    let rest : script.heap - charged_in s ≡ room = omega arith in
    ap (λ n. first_going n s.tasks) rest ∙ ap (first_going room) here

pub first_up : (script : Script) (steps taken : ℕ) (s : CoreState) → end_of script steps taken s ≡ None → IsStuck script s → lives s 1 ≡ true
first_up script steps taken s none stuck = let open_end = no_end script steps taken s none in first_lives s open_end.unfinished stuck.unadmitted

-- where nothing can be evicted either, a kill is licensed
pub has_licence : (script : Script) (steps taken : ℕ) (s : CoreState) → IsSound script s → end_of script steps taken s ≡ None → IsStuck script s
    → first_evictable s.world ≡ None → is_licensed script s ≡ true
has_licence script steps taken s sound none stuck lost =
    go (none_admitted s) (ap not stuck.unadmitted) (some_fits script s) stuck.unfit (can_evict_any s.world) (none_lost s.world lost) (helped script steps taken s sound none stuck.waits)
  where
    go : (a : Bool) → a ≡ true → (b : Bool) → b ≡ false → (c : Bool) → c ≡ false → (not a || b || c || is_licensed script s) ≡ true → is_licensed script s ≡ true
    go true e false f false g h = h
    go false e b f c g h = cc
    go true e true f c g h = cc
    go true e false f true g h = cc

-- a licence has a victim
pub no_victim_no_licence : (script : Script) (s : CoreState) → is_licensed script s ≡ true → victim_of script.policy s.world.plain s.world.account ≡ None → ⊥
no_victim_no_licence script s e none = no_licence script s none e

-- what relief is behind the calls that can go on
abbrev reserved_or : Script → CoreState → ℕ → Relief
reserved_or script s reserved =
    cond (not (reserved == 0)) (Outstanding (charged_in s) (live_of s.world))
    (evicted_or (first_evictable s.world) (killed_or (cond (is_licensed script s) (victim_of script.policy s.world.plain s.world.account) None)))

-- what relief is then
pub kill_is_told : (script : Script) (s : CoreState) (pid : ℕ) → list_any (λ task. is_waiting task.phase) s.tasks ≡ true
    → first_going (script.heap - charged_in s) s.tasks ≡ None → reserved_in s.tasks ≡ 0 → first_evictable s.world ≡ None → is_licensed script s ≡ true
    → victim_of script.policy s.world.plain s.world.account ≡ Some pid → Killed pid ≡ relief_of script s
kill_is_told script s pid waits stays empty lost licensed victim = sym (
    ap (λ b. cond (not b) NoneWaiting (fits_or (first_going (script.heap - charged_in s) s.tasks) (reserved_or script s (reserved_in s.tasks)))) waits
    ∙ ap (λ o. fits_or o (reserved_or script s (reserved_in s.tasks))) stays
    ∙ ap (reserved_or script s) empty
    ∙ ap (λ o. evicted_or o (killed_or (cond (is_licensed script s) (victim_of script.policy s.world.plain s.world.account) None))) lost
    ∙ ap (λ b. killed_or (cond b (victim_of script.policy s.world.plain s.world.account) None)) licensed
    ∙ ap killed_or victim)

-- what it is where a cache keeps something that isn't pinned
pub evict_is_told : (script : Script) (s : CoreState) (what : Cached) → list_any (λ task. is_waiting task.phase) s.tasks ≡ true
    → first_going (script.heap - charged_in s) s.tasks ≡ None → reserved_in s.tasks ≡ 0 → first_evictable s.world ≡ Some what
    → Evicted what ≡ relief_of script s
evict_is_told script s what waits stays empty can = sym (
    ap (λ b. cond (not b) NoneWaiting (fits_or (first_going (script.heap - charged_in s) s.tasks) (reserved_or script s (reserved_in s.tasks)))) waits
    ∙ ap (λ o. fits_or o (reserved_or script s (reserved_in s.tasks))) stays
    ∙ ap (reserved_or script s) empty
    ∙ ap (λ o. evicted_or o (killed_or (cond (is_licensed script s) (victim_of script.policy s.world.plain s.world.account) None))) can)
