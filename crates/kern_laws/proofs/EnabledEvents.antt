-- The list of enabled events has just those that may be taken.
use Rattle.std.proofs.Common.{◌≡◌, ◌≢◌, ℕ, zero, suc, ◌+◌, ◌<◌, ◌≤◌, ◌==◌, Bool, true, false, cond, List, [], ◌∷◌, ◌++◌, length, append_assoc, Option, None, Some, slice_get, refl, ap, sym, ◌∙◌, subst, arith, ◌⊎◌, inl, inr}
use Rattle.std.specs.List.{AllByRecursion}
use borrow.Author.Tests.{leb-true, eqb-true, eq-eqb}
use Rattle.std.proofs.lemmas.Bool.Decides.{nat_tests}
use Rattle.kabi_types.specs.declared.entries.Event.{Event}
use Rattle.kabi_types.specs.declared.entries.Event.TheVariants.{Ask, Admit, Turn, Wake, Abandon, Evict, Kill}
use Rattle.kabi_types.specs.declared.scripts.Script.{Script}
use Rattle.posix_defs.specs.declared.phases.Phase.{Phase}
use Rattle.posix_defs.specs.declared.phases.Phase.TheVariants.{User, Waiting, Admitted, Asleep, Stranded, Dead}
use Rattle.posix_defs.specs.declared.phases.Task.{Task}
use Rattle.posix_defs.specs.Machine.{would_block}
use Rattle.posix_defs.specs.Victim.{victim_of}
use Rattle.posix_defs.specs.Licence.{is_licensed}
use Rattle.posix_defs.specs.CoreState.{CoreState, charged_in, fits, phase_in, phase_of, lives}
use Rattle.posix_defs.specs.Enabled.{IsEnabled, MayEvict}
use Rattle.posix_defs.specs.SoundTasks.{AreRising}
use Rattle.posix_defs.specs.Choice.{events_of, events_in, enabled_in, kill_of, kills_in, evict_of, evicts_from, evicts_in, others_in}
use Rattle.kern_laws.proofs.Tasks.{rising_above}
use Rattle.posix_defs.specs.World.{can_evict}
use Rattle.kabi_types.specs.declared.entries.Cached.{Cached}
use Rattle.kabi_types.specs.declared.entries.Cached.TheVariants.{Name, Block, Vnode}

-- behind a front comes what follows it
pub get_behind : {X : Type 0} (before : List X) (x : X) (rest : List X) → slice_get (before ++ x ∷ rest) (length before) ≡ Some x
get_behind [] x rest = refl
get_behind (b ∷ before) x rest = ap (slice_get (b ∷ before ++ x ∷ rest)) (let e : length (b ∷ before) ≡ suc (length before) = omega arith in e) ∙ get_behind before x rest

-- a list of one has no other
only : {X : Type 0} (a b : X) (i : ℕ) → slice_get (a ∷ []) i ≡ Some b → a ≡ b
only a b zero e = cc
only a b (suc i) e = cc

-- what is found in two lists, one behind the other, is in one of them
either : {X : Type 0} (xs ys : List X) (i : ℕ) (x : X) → slice_get (xs ++ ys) i ≡ Some x
    → ((j : ℕ) × (slice_get xs j ≡ Some x)) ⊎ ((j : ℕ) × (slice_get ys j ≡ Some x))
either [] ys i x e = inr (i, e)
either (a ∷ xs) ys zero x e = inl (zero, e)
either (a ∷ xs) ys (suc i) x e = elim (either xs ys i x e) [ inl found ↦ inl (suc found.0, found.1) | inr found ↦ inr found ]

-- what is found in a front, and behind one
pub found_front : {X : Type 0} (front rest : List X) (i : ℕ) (x : X) → slice_get front i ≡ Some x → slice_get (front ++ rest) i ≡ Some x
found_front [] rest i x e = cc
found_front (a ∷ front) rest zero x e = e
found_front (a ∷ front) rest (suc i) x e = found_front front rest i x e

pub found_behind : {X : Type 0} (front rest : List X) (i : ℕ) (x : X) → slice_get rest i ≡ Some x → (j : ℕ) × (slice_get (front ++ rest) j ≡ Some x)
found_behind [] rest i x e = (i, e)
found_behind (a ∷ front) rest i x e = let found = found_behind front rest i x e in (suc found.0, found.1)

-- the event of a task in this phase
one : (script : Script) (s : CoreState) (pid : ℕ) (phase : Phase) (event : Event) (i : ℕ) → phase_of s pid ≡ phase
    → slice_get (events_of script s pid phase) i ≡ Some event → IsEnabled script s event
one script s pid User event i is e = subst (IsEnabled script s) (only (Ask pid) event i e) is
one script s pid (Waiting asked) event i is e = go (fits script s asked) refl e
  where
    go : (b : Bool) → fits script s asked ≡ b → slice_get (cond b (Admit pid ∷ []) []) i ≡ Some event → IsEnabled script s event
    go true p q = subst (IsEnabled script s) (only (Admit pid) event i q) (record { waits = record { asked = asked; is = is }; room = leb-true _ _ p })
    go false p q = cc
one script s pid (Admitted asked) event i is e = subst (IsEnabled script s) (only (Turn pid) event i e) (record { asked = asked; is = is })
one script s pid (Asleep asked) event i is e = go (would_block script s.world.plain pid) refl e
  where
    go : (b : Bool) → would_block script s.world.plain pid ≡ b → slice_get (cond b [] (Wake pid ∷ [])) i ≡ Some event → IsEnabled script s event
    go true p q = cc
    go false p q = subst (IsEnabled script s) (only (Wake pid) event i q) (record { sleeps = record { asked = asked; is = is }; ready = p })
one script s pid (Stranded asked) event i is e = subst (IsEnabled script s) (only (Abandon pid) event i e) (record { asked = asked; is = is })
one script s pid Dead event i is e = cc

-- a task behind others of rising pids is the one that is found for its pid
pub phase_behind : (n : ℕ) (before : List Task) (task : Task) (rest : List Task) → AreRising n (before ++ task ∷ rest)
    → phase_in (before ++ task ∷ rest) task.pid ≡ task.phase
phase_behind n [] task rest rising = ap (λ b. cond b task.phase (phase_in rest task.pid)) (eq-eqb task.pid task.pid refl)
phase_behind n (first ∷ before) task rest rising =
    go (first.pid == task.pid) refl (phase_behind first.pid before task rest rising.1) (above first.pid before task rest (rising_above first.pid (before ++ task ∷ rest) rising.1))
  where
    above : (m : ℕ) (before : List Task) (task : Task) (rest : List Task) → AllByRecursion (λ t. m < t.pid) (before ++ task ∷ rest) → m < task.pid
    above m [] task rest all = all.0
    above m (b ∷ before) task rest all = above m before task rest all.1

    go : (b : Bool) → (first.pid == task.pid) ≡ b → phase_in (before ++ task ∷ rest) task.pid ≡ task.phase → first.pid < task.pid
        → cond b first.phase (phase_in (before ++ task ∷ rest) task.pid) ≡ task.phase
    go true e later less = absurd (let same : first.pid ≡ task.pid = eqb-true first.pid task.pid e in omega arith)
    go false e later less = later

enabled_behind : (script : Script) (s : CoreState) (before rest : List Task) (i : ℕ) (event : Event) → AreRising 0 s.tasks → s.tasks ≡ before ++ rest
    → slice_get (events_in script s rest) i ≡ Some event → IsEnabled script s event
enabled_behind script s before [] i event rising at e = cc
enabled_behind script s before (task ∷ rest) i event rising at e =
    elim (either (events_of script s task.pid task.phase) (events_in script s rest) i event e) [
      | inl found ↦ one script s task.pid task.phase event found.0
          (ap (λ tasks. phase_in tasks task.pid) at ∙ phase_behind 0 before task rest (subst (AreRising 0) at rising)) found.1
      | inr found ↦ enabled_behind script s (before ++ task ∷ []) rest found.0 event rising
          (at ∙ sym (append_assoc before (task ∷ []) rest)) found.1
    ]

one_kill : (script : Script) (s : CoreState) (licensed : Bool) (victim : Option ℕ) (i : ℕ) (event : Event) → is_licensed script s ≡ licensed
    → victim_of script.policy s.world.plain s.world.account ≡ victim → slice_get (kill_of licensed victim) i ≡ Some event → IsEnabled script s event
one_kill script s false victim i event l v e = cc
one_kill script s true None i event l v e = cc
one_kill script s true (Some pid) i event l v e = subst (IsEnabled script s) (only (Kill pid) event i e) (record { licensed = l; victim = v })

-- a listed eviction may be taken
one_evict : (script : Script) (s : CoreState) (what : Cached) (can : Bool) (i : ℕ) (event : Event) → lives s 1 ≡ true
    → can_evict s.world.plain s.world.kept what ≡ can → slice_get (evict_of can what) i ≡ Some event → IsEnabled script s event
one_evict script s what false i event alive c e = cc
one_evict script s what true i event alive c e = subst (IsEnabled script s) (only (Evict what) event i e) (record { lives = alive; unpinned = c })

-- the evictions that are listed, of a cache
abbrev evict_here : CoreState → Cached → List Event
evict_here s what = evict_of (can_evict s.world.plain s.world.kept what) what

evict_enabled : (script : Script) (s : CoreState) (i : ℕ) (event : Event) → slice_get (evicts_in s) i ≡ Some event → IsEnabled script s event
evict_enabled script s i event e = go (lives s 1) refl e
  where
    among : lives s 1 ≡ true → slice_get (evicts_from s.world.plain s.world.kept) i ≡ Some event → IsEnabled script s event
    among alive e = elim (either (evict_here s Name) (evict_here s Block ++ evict_here s Vnode) i event e) [
      | inl found ↦ one_evict script s Name (can_evict s.world.plain s.world.kept Name) found.0 event alive refl found.1
      | inr later ↦ elim (either (evict_here s Block) (evict_here s Vnode) later.0 event later.1) [
        | inl found ↦ one_evict script s Block (can_evict s.world.plain s.world.kept Block) found.0 event alive refl found.1
        | inr found ↦ one_evict script s Vnode (can_evict s.world.plain s.world.kept Vnode) found.0 event alive refl found.1
      ]
    ]

    go : (b : Bool) → lives s 1 ≡ b → slice_get (cond b (evicts_from s.world.plain s.world.kept) []) i ≡ Some event → IsEnabled script s event
    go true alive e = among alive e
    go false dead e = cc

-- an eviction that may be taken is listed
evict_listed : (script : Script) (s : CoreState) (what : Cached) → MayEvict s what → (j : ℕ) × (slice_get (evicts_in s) j ≡ Some (Evict what))
evict_listed script s what may =
    let found = at what may.unpinned in
    (found.0, ap (λ b. slice_get (cond b (evicts_from s.world.plain s.world.kept) []) found.0) may.lives ∙ found.1)
  where
    first : (which : Cached) → can_evict s.world.plain s.world.kept which ≡ true → slice_get (evict_here s which) 0 ≡ Some (Evict which)
    first which e = ap (λ b. slice_get (evict_of b which) 0) e

    at : (which : Cached) → can_evict s.world.plain s.world.kept which ≡ true
        → (j : ℕ) × (slice_get (evicts_from s.world.plain s.world.kept) j ≡ Some (Evict which))
    at Name e = (0, found_front (evict_here s Name) (evict_here s Block ++ evict_here s Vnode) 0 (Evict Name) (first Name e))
    at Block e =
        found_behind (evict_here s Name) (evict_here s Block ++ evict_here s Vnode) 0 (Evict Block)
        (found_front (evict_here s Block) (evict_here s Vnode) 0 (Evict Block) (first Block e))
    at Vnode e =
        let later = found_behind (evict_here s Block) (evict_here s Vnode) 0 (Evict Vnode) (first Vnode e) in
        found_behind (evict_here s Name) (evict_here s Block ++ evict_here s Vnode) later.0 (Evict Vnode) later.1

-- in a state whose tasks rise what is listed may be taken
pub enabled : (script : Script) (s : CoreState) (i : ℕ) (event : Event) → AreRising 0 s.tasks → slice_get (enabled_in script s) i ≡ Some event
    → IsEnabled script s event
enabled script s i event rising e = elim (either (events_in script s s.tasks) (others_in script s) i event e) [
  | inl found ↦ enabled_behind script s [] s.tasks found.0 event rising refl found.1
  | inr later ↦ elim (either (evicts_in s) (kills_in script s) later.0 event later.1) [
    | inl found ↦ evict_enabled script s found.0 event found.1
    | inr found ↦ one_kill script s (is_licensed script s) (victim_of script.policy s.world.plain s.world.account) found.0 event refl refl found.1
  ]
]

-- where a task has one event, it is listed
listed_task : (script : Script) (s : CoreState) (pid : ℕ) (tasks : List Task) (phase : Phase) (event : Event) → phase_in tasks pid ≡ phase → Dead ≢ phase
    → events_of script s pid phase ≡ event ∷ [] → (j : ℕ) × (slice_get (events_in script s tasks) j ≡ Some event)
listed_task script s pid [] phase event is other one_event = absurd (other is)
listed_task script s pid (task ∷ tasks) phase event is other one_event =
    go (λ e. listed_task script s pid tasks phase event e other one_event) (task.pid == pid) refl is
  where
    go : (phase_in tasks pid ≡ phase → (j : ℕ) × (slice_get (events_in script s tasks) j ≡ Some event)) → (b : Bool) → (task.pid == pid) ≡ b
        → cond b task.phase (phase_in tasks pid) ≡ phase
        → (j : ℕ) × (slice_get (events_of script s task.pid task.phase ++ events_in script s tasks) j ≡ Some event)
    go later true same e = (
      0,
      ap (λ events. slice_get (events ++ events_in script s tasks) 0)
          (ap (λ p. events_of script s p task.phase) (eqb-true task.pid pid same) ∙ ap (events_of script s pid) e ∙ one_event),
    )
    go later false apart e = let found = later e in found_behind (events_of script s task.pid task.phase) (events_in script s tasks) found.0 event found.1

listed_pid : (script : Script) (s : CoreState) (pid : ℕ) (phase : Phase) (event : Event) → phase_of s pid ≡ phase → Dead ≢ phase
    → events_of script s pid phase ≡ event ∷ [] → (j : ℕ) × (slice_get (enabled_in script s) j ≡ Some event)
listed_pid script s pid phase event is other one_event =
    let found = listed_task script s pid s.tasks phase event is other one_event in
    (found.0, found_front (events_in script s s.tasks) (others_in script s) found.0 event found.1)

pub listed : (script : Script) (s : CoreState) (event : Event) → IsEnabled script s event
    → (i : ℕ) × (slice_get (enabled_in script s) i ≡ Some event)
listed script s (Ask pid) may = listed_pid script s pid User (Ask pid) may (λ e. (cc)) refl
listed script s (Admit pid) may =
    let asked = may.waits.asked in
    let fit : fits script s asked ≡ true = let within : charged_in s + asked.bound ≤ script.heap = may.room in grind (arith, nat_tests) in
    listed_pid script s pid (Waiting asked) (Admit pid) may.waits.is (λ e. (cc)) (ap (λ b. cond b (Admit pid ∷ []) []) fit)
listed script s (Turn pid) may = listed_pid script s pid (Admitted may.asked) (Turn pid) may.is (λ e. (cc)) refl
listed script s (Wake pid) may =
    listed_pid script s pid (Asleep may.sleeps.asked) (Wake pid) may.sleeps.is (λ e. (cc)) (ap (λ b. cond b [] (Wake pid ∷ [])) may.ready)
listed script s (Abandon pid) may = listed_pid script s pid (Stranded may.asked) (Abandon pid) may.is (λ e. (cc)) refl
listed script s (Evict what) may =
    let found = evict_listed script s what may in
    found_behind (events_in script s s.tasks) (others_in script s) found.0 (Evict what) (found_front (evicts_in s) (kills_in script s) found.0 (Evict what) found.1)
listed script s (Kill pid) may =
    let found = found_behind (evicts_in s) (kills_in script s) 0 (Kill pid)
    (ap (λ b. slice_get (kill_of b (victim_of script.policy s.world.plain s.world.account)) 0) may.licensed
    ∙ ap (λ v. slice_get (kill_of true v) 0) may.victim) in
    found_behind (events_in script s s.tasks) (others_in script s) found.0 (Kill pid) found.1
