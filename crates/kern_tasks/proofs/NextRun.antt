-- A core that took an event has run one event further.
use Rattle.std.proofs.Common.{◌≡◌, ◌≢◌, ℕ, ◌+◌, ◌-◌, ◌≤◌, ◌<◌, ◌==◌, eq-eqb, max, Bool, true, false, cond, List, [], ◌∷◌, ◌++◌, length, Option, None, Some, slice_get, refl, ap, sym, ◌∙◌, subst, arith, length-append, inl, inr}
use Rattle.kabi_types.specs.declared.calls.Call.{Call}
use Rattle.kabi_types.specs.declared.entries.End.TheVariants.{Finished, AllAsleep, Spent}
use Rattle.kabi_types.specs.declared.entries.Entry.{Entry}
use Rattle.kabi_types.specs.declared.entries.Entry.TheVariants as entry
use Rattle.kabi_types.specs.declared.entries.Event.{Event}
use Rattle.kabi_types.specs.declared.entries.Event.TheVariants.{Ask, Turn, Abandon, Kill, Evict}
use Rattle.kabi_types.specs.declared.entries.Noted.{Noted}
use Rattle.kabi_types.specs.declared.scripts.Script.{Script}
use Rattle.posix_defs.specs.declared.phases.Asked.{Asked}
use Rattle.posix_defs.specs.declared.phases.Phase.{Phase}
use Rattle.posix_defs.specs.declared.phases.Phase.TheVariants.{User, Waiting, Admitted, Stranded, Dead}
use Rattle.posix_defs.specs.declared.phases.Task.{Task}
use Rattle.posix_defs.specs.declared.turner.Turned.{Turned}
use Rattle.posix_defs.specs.Sizes.{fixed, room}
use Rattle.posix_defs.specs.Plain.{last_pid}
use Rattle.posix_defs.specs.World.{World, live_of}
use Rattle.posix_defs.specs.Turn.{TurnsTo, TurnsWhere}
use Rattle.posix_defs.specs.Relief.{Kills, refused_in, Evicts}
use Rattle.posix_defs.specs.CoreState.{CoreState, asked_by, charged_in, held, next_call, phase_in, phase_of, reserved_in, waiting_in, with_phase, with_phase_in}
use Rattle.posix_defs.specs.CoreEvent.{Steps, buried, entry_of, phase_after, refusal, tasks_after, tasks_without}
use Rattle.posix_defs.specs.Ends.{all_asleep, end_of, has_finished, starved_or, starves_for}
use Rattle.posix_defs.specs.Enabled.{IsEnabled, IsIn}
use Rattle.posix_defs.specs.SoundTasks.{IsSound, AreRising}
use Rattle.posix_defs.specs.CoreRun.{IsCoreRun, goes_on, peak_of}
use Rattle.kern_laws.proofs.Charged.{charged_within, nothing_held}
use Rattle.kern_laws.proofs.Progress.{progress}
use Rattle.kern_laws.proofs.Sounds.{is_sound}
use Rattle.kern_laws.proofs.Tasks.{found_fits, reserved_with, reserved_without}
use Rattle.kern_laws.proofs.BuriedTasks.{reserved_born, reserved_buried}
use Rattle.kern_tasks.specs.View.{CoreView, IsAt, GoesOn, MayTake, Takes, Took, IsKept, HasRun}
use Rattle.kabi_types.specs.declared.entries.Cached.{Cached}
use Rattle.kern_laws.proofs.Caches.{less_live}

-- the greatest charge, one event further
pub peak_of-append : (run : List Noted) (noted : Noted) → peak_of (run ++ noted ∷ []) ≡ max (peak_of run) noted.charged
peak_of-append [] noted = grind arith
peak_of-append (first ∷ run) noted = ap (max first.charged) (peak_of-append run noted) ∙ grind arith

-- what is charged is within the heap
pub within_heap : {T : Type 0} (stands_for : T → World → Type 0) (script : Script) (core : CoreView T) (heap run_room task_room : ℕ)
    → IsKept stands_for script core heap run_room task_room → core.charged ≤ script.heap
within_heap stands_for script core heap run_room task_room kept =
    subst (λ n. n ≤ script.heap) kept.has_run.is_at.charged
    (charged_within kept.has_run.runs (subst (λ n. fixed ≤ n) kept.same_heap kept.least_heap))

-- where no end holds, the run has room for one more event
pub not_spent : (script : Script) (steps taken : ℕ) (s : CoreState) → end_of script steps taken s ≡ None → taken ≢ steps
not_spent script steps taken s none same = go (has_finished s) (starves_for script s) (all_asleep script s) none
  where
    spent : (b : Bool) → b ≡ true → cond b (Some Spent) None ≡ None → ⊥
    spent true e f = cc
    spent false e f = cc

    go : (f : Bool) (h : Option ℕ) (a : Bool)
        → cond f (Some Finished) (starved_or h (cond a (Some AllAsleep) (cond (taken == steps) (Some Spent) None))) ≡ None → ⊥
    go true h a e = cc
    go false (Some need) a e = cc
    go false None true e = cc
    go false None false e = spent (taken == steps) (eq-eqb taken steps same) e

-- The step that was taken leads the run on, and what the core keeps holds again.
pub kept_next : {T : Type 0} (stands_for : T → World → Type 0) (script script' : Script) (old new : CoreView T) (event : Event) (noted : Noted)
    (heap run_room run_room' task_room task_room' : ℕ)
    → IsKept stands_for script old heap run_room task_room → (may : MayTake stands_for script old event)
    → (t : CoreState) × IsAt stands_for new t × Steps script may.state noted t
    → new.run ≡ old.run ++ noted ∷ [] → new.steps ≡ old.steps → new.peak ≡ max old.peak noted.charged → run_room' ≡ run_room
    → task_room' ≡ task_room → length new.tasks ≤ length old.tasks + 1 → script' ≡ script → IsKept stands_for script' new heap run_room' task_room'
kept_next stands_for script script' old new event noted heap run_room run_room' task_room task_room' kept may led run steps peak runs tasks few same_script =
    let longer : length new.run ≡ length old.run + 1 = ap length run ∙ length-append old.run (noted ∷ []) in
    subst (λ script. IsKept stands_for script new heap run_room' task_room') (sym same_script) (record {
      has_run = record {
        state = led.0;
        is_at = led.1;
        runs = subst (λ r. IsCoreRun script new.steps r led.0) (sym run)
            (subst (λ n. IsCoreRun script n (old.run ++ noted ∷ []) led.0) (sym steps)
            (goes_on old.run may.state led.0 noted may.runs may.no_end tt led.2));
        peak = peak ∙ ap (λ p. max p noted.charged) kept.has_run.peak ∙ sym (peak_of-append old.run noted) ∙ ap peak_of (sym run);
        within =
            let more : length old.run ≢ old.steps = not_spent script old.steps (length old.run) may.state may.no_end in
            let within : length old.run ≤ old.steps = kept.has_run.within in
            omega arith;
      };
      same_heap = kept.same_heap;
      least_heap = kept.least_heap;
      most_heap = kept.most_heap;
      room = let before : old.steps ≤ run_room = kept.room in omega arith;
      most_steps = let before : old.steps ≤ 100000 = kept.most_steps in omega arith;
      few = let before : length old.tasks ≤ length old.run + 1 = kept.few in omega arith;
      tasks_fit = let before : old.steps + 1 ≤ task_room = kept.tasks_fit in omega arith;
    })

-- where no end holds, some event may be taken
pub may_go_on : {T : Type 0} (stands_for : T → World → Type 0) (script_of : T → Script) (inside core : CoreView T) (heap run_room task_room : ℕ)
    → inside ≡ core → IsKept stands_for (script_of inside.store) inside heap run_room task_room
    → ((s : CoreState) → IsAt stands_for core s → IsSound (script_of core.store) s → None ≡ end_of (script_of core.store) core.steps (length core.run) s) → GoesOn stands_for (script_of core.store) core
may_go_on stands_for script_of inside core heap run_room task_room same kept none =
    let at : IsAt stands_for core kept.has_run.state = subst (λ c. IsAt stands_for c kept.has_run.state) same kept.has_run.is_at in
    let sound : IsSound (script_of core.store) kept.has_run.state = subst (λ c. IsSound (script_of c.store) kept.has_run.state) same (is_sound kept.has_run.runs) in
    let runs : IsCoreRun (script_of core.store) core.steps core.run kept.has_run.state =
    subst (λ c. IsCoreRun (script_of c.store) c.steps c.run kept.has_run.state) same kept.has_run.runs in
    record {
      state = kept.has_run.state;
      is_at = at;
      runs = runs;
      some = progress runs (sym (none kept.has_run.state at sound));
      room =
          let more : length core.run ≢ core.steps = not_spent (script_of core.store) core.steps (length core.run) kept.has_run.state (sym (none kept.has_run.state at sound)) in
          let within : length core.run ≤ core.steps = subst (λ c. length c.run ≤ c.steps) same kept.has_run.within in
          omega arith;
    }

-- the run has room for what is noted next
pub has_room : {T : Type 0} (stands_for : T → World → Type 0) (script : Script) (core : CoreView T) (heap run_room task_room : ℕ) (s : CoreState)
    → IsKept stands_for script core heap run_room task_room → end_of script core.steps (length core.run) s ≡ None → length core.run < run_room
has_room stands_for script core heap run_room task_room s kept none =
    let more : length core.run ≢ core.steps = not_spent script core.steps (length core.run) s none in
    let within : length core.run ≤ core.steps = kept.has_run.within in
    let room : core.steps ≤ run_room = kept.room in
    omega arith

-- and the tasks have room for one more
pub has_task_room : {T : Type 0} (stands_for : T → World → Type 0) (script : Script) (core : CoreView T) (heap run_room task_room : ℕ) (s : CoreState)
    → IsKept stands_for script core heap run_room task_room → end_of script core.steps (length core.run) s ≡ None → length core.tasks < task_room
has_task_room stands_for script core heap run_room task_room s kept none =
    let more : length core.run ≢ core.steps = not_spent script core.steps (length core.run) s none in
    let within : length core.run ≤ core.steps = kept.has_run.within in
    let few : length core.tasks ≤ length core.run + 1 = kept.few in
    let room : core.steps + 1 ≤ task_room = kept.tasks_fit in
    omega arith

-- So many tasks are few, and their places fit.
pub record PlacesFit (many place_room : ℕ) : Type 0 where
  pub few : many ≤ 100001
  pub room : many < place_room

pub places_fit : {T : Type 0} (stands_for : T → World → Type 0) (script : Script) (core : CoreView T) (heap run_room task_room place_room : ℕ) (s : CoreState) (many : ℕ)
    → IsKept stands_for script core heap run_room task_room → end_of script core.steps (length core.run) s ≡ None → core.steps + 2 ≤ place_room
    → many ≤ length core.tasks + 1 → PlacesFit many place_room
places_fit stands_for script core heap run_room task_room place_room s many kept none room less =
    let more : length core.run ≢ core.steps = not_spent script core.steps (length core.run) s none in
    let within : length core.run ≤ core.steps = kept.has_run.within in
    let few : length core.tasks ≤ length core.run + 1 = kept.few in
    let most : core.steps ≤ 100000 = kept.most_steps in
    record { few = omega arith; room = omega arith }

-- there are few tasks
pub few_tasks : {T : Type 0} (stands_for : T → World → Type 0) (script : Script) (core : CoreView T) (heap run_room task_room : ℕ)
    → IsKept stands_for script core heap run_room task_room → length core.tasks ≤ 100001
few_tasks stands_for script core heap run_room task_room kept =
    let within : length core.run ≤ core.steps = kept.has_run.within in
    let few : length core.tasks ≤ length core.run + 1 = kept.few in
    let most : core.steps ≤ 100000 = kept.most_steps in
    omega arith

-- A step that is taken from every state that the core is at was taken.
pub took_all : {T : Type 0} (stands_for : T → World → Type 0) (script_of : T → Script) (inside old new : CoreView T) (event : Event) (told noted : Noted)
    → inside ≡ old → told ≡ noted → noted.event ≡ event → new.run ≡ inside.run ++ noted ∷ [] → new.steps ≡ inside.steps
    → ((s : CoreState) → IsAt stands_for inside s → IsEnabled (script_of inside.store) s event → IsSound (script_of inside.store) s
    → (t : CoreState) × IsAt stands_for new t × Steps (script_of inside.store) s noted t)
    → Took stands_for (script_of old.store) old event told new
took_all stands_for script_of inside old new event told noted same same_noted taken run steps leads =
    subst (λ core. Took stands_for (script_of core.store) core event told new) same
    (record {
      steps = steps;
      taken = ap (λ n. n.event) same_noted ∙ taken;
      run = run ∙ ap (λ n. inside.run ++ n ∷ []) (sym same_noted);
      leads = λ s at enabled sound. subst (λ n. (t : CoreState) × IsAt stands_for new t × Steps (script_of inside.store) s n t) (sym same_noted) (leads s at enabled sound);
    })

pub takes_all : {T : Type 0} (stands_for : T → World → Type 0) (script_of : T → Script) (inside old new : CoreView T) (event : Event) (noted : Noted)
    → inside ≡ old → noted.event ≡ event → new.run ≡ inside.run ++ noted ∷ [] → new.steps ≡ inside.steps
    → ((s : CoreState) → IsAt stands_for inside s → IsEnabled (script_of inside.store) s event → IsSound (script_of inside.store) s
    → (t : CoreState) × IsAt stands_for new t × Steps (script_of inside.store) s noted t)
    → Takes stands_for (script_of old.store) old event new
takes_all stands_for script_of inside old new event noted same taken run steps leads =
    (noted, took_all stands_for script_of inside old new event noted noted same refl taken run steps leads)

-- what a task holds is a part of what is reserved
pub held_back : {T : Type 0} (stands_for : T → World → Type 0) (script : Script) (core : CoreView T) (heap run_room task_room : ℕ) (pid : ℕ) (phase : Phase)
    → IsKept stands_for script core heap run_room task_room → phase_in core.tasks pid ≡ phase → Dead ≢ phase → held phase ≤ core.reserved
held_back stands_for script core heap run_room task_room pid phase kept found other =
    let rest : reserved_in (tasks_without core.tasks pid) + held phase ≡ reserved_in core.tasks = reserved_without core.tasks pid phase found other in
    let same : reserved_in core.tasks ≡ core.reserved = ap reserved_in (sym kept.has_run.is_at.tasks) ∙ kept.has_run.is_at.reserved in
    omega arith

-- and what is reserved a part of what is charged
pub reserved_charged : {T : Type 0} (stands_for : T → World → Type 0) (script : Script) (core : CoreView T) (heap run_room task_room : ℕ)
    → IsKept stands_for script core heap run_room task_room → core.reserved ≤ core.charged
reserved_charged stands_for script core heap run_room task_room kept =
    let same : reserved_in kept.has_run.state.tasks ≡ core.reserved = kept.has_run.is_at.reserved in
    let charged : charged_in kept.has_run.state ≡ core.charged = kept.has_run.is_at.charged in
    omega arith

-- two lists that are the same have the same call of a process
pub same_asked : (tasks others : List Task) (pid : ℕ) (a b : Asked) (phase : Asked → Phase) → ((x y : Asked) → phase x ≡ phase y → x ≡ y)
    → tasks ≡ others → phase_in tasks pid ≡ phase a → phase_in others pid ≡ phase b → a ≡ b
same_asked tasks others pid a b phase apart same one other =
    apart a b (sym one ∙ ap (λ ts. phase_in ts pid) same ∙ other)

-- what is noted of a process's event
abbrev pub said : Event → Asked → Option Entry → ℕ → Noted
said event asked told charged = record { event = event; kind = Some asked.kind; entry = told; bound = asked.bound; charged = charged }

-- a process asks for its next call, and waits for room
pub asks : {T : Type 0} (stands_for : T → World → Type 0) (script : Script) (core : CoreView T) (s : CoreState) (pid : ℕ) (asked : Asked) (tasks : List Task) (run : List Noted) (peak : ℕ)
    → IsAt stands_for core s → phase_of s pid ≡ User → asked ≡ asked_by script s.world.plain pid → asked.bound ≤ room script.heap
    → tasks ≡ with_phase_in core.tasks pid (Waiting asked)
    → (t : CoreState) × IsAt stands_for (record core { tasks = tasks; run = run; peak = peak }) t
    × Steps script s (said (Ask pid) asked None core.charged) t
asks stands_for script core s pid asked tasks run peak at user asked_is ever tasks_are =
    let after = with_phase s pid (Waiting (asked_by script s.world.plain pid)) in
    let same : after.tasks ≡ tasks =
    ap (λ ts. with_phase_in ts pid (Waiting (asked_by script s.world.plain pid))) at.tasks ∙ ap (λ a. with_phase_in core.tasks pid (Waiting a)) (sym asked_is) ∙ sym tasks_are in
    let held_too : reserved_in after.tasks + held User ≡ reserved_in s.tasks + held (Waiting asked) =
    reserved_with s.tasks pid User (Waiting (asked_by script s.world.plain pid)) user (λ e. (cc)) in
    let reserved : reserved_in after.tasks ≡ core.reserved = (let before : reserved_in s.tasks ≡ core.reserved = at.reserved in omega arith) in
    let charged : charged_in after ≡ core.charged = (let before : charged_in s ≡ core.charged = at.charged in let b : reserved_in s.tasks ≡ core.reserved = at.reserved in omega arith) in (
      after,
      record { stands = at.stands; tasks = same; reserved = reserved; charged = charged },
      inl (record {
        enabled = user;
        fits_ever = subst (λ a. a.bound ≤ room script.heap) asked_is ever;
        after = refl;
        noted_so = ap (λ a. said (Ask pid) a None core.charged) asked_is ∙ ap (said (Ask pid) (asked_by script s.world.plain pid) None) (sym charged);
      }),
    )

-- a process asks for a call that can never be admitted
pub refuses : {T : Type 0} (stands_for : T → World → Type 0) (script : Script) (core : CoreView T) (s : CoreState) (pid : ℕ) (asked : Asked) (store : T) (tasks : List Task) (run : List Noted) (peak : ℕ)
    → IsAt stands_for core s → phase_of s pid ≡ User → asked ≡ asked_by script s.world.plain pid → room script.heap < asked.bound
    → tasks ≡ with_phase_in core.tasks pid User → stands_for store (refused_in script s.world pid)
    → (t : CoreState) × IsAt stands_for (record core { store = store; tasks = tasks; run = run; peak = peak }) t
    × Steps script s (said (Ask pid) asked (Some (refusal pid asked)) core.charged) t
refuses stands_for script core s pid asked store tasks run peak at user asked_is never tasks_are stands =
    let after : CoreState = record (with_phase s pid User) { world = refused_in script s.world pid } in
    let same : after.tasks ≡ tasks = ap (λ ts. with_phase_in ts pid User) at.tasks ∙ sym tasks_are in
    let held_too : reserved_in after.tasks + held User ≡ reserved_in s.tasks + held User = reserved_with s.tasks pid User User user (λ e. (cc)) in
    let reserved : reserved_in after.tasks ≡ core.reserved = (let before : reserved_in s.tasks ≡ core.reserved = at.reserved in omega arith) in
    let charged : charged_in after ≡ core.charged = (let before : charged_in s ≡ core.charged = at.charged in let b : reserved_in s.tasks ≡ core.reserved = at.reserved in omega arith) in (
      after,
      record { stands = stands; tasks = same; reserved = reserved; charged = charged },
      inr (record {
        enabled = user;
        never_fits = subst (λ a. room script.heap < a.bound) asked_is never;
        after = refl;
        noted_so = ap (λ a. said (Ask pid) a (Some (refusal pid a)) core.charged) asked_is
            ∙ ap (said (Ask pid) (asked_by script s.world.plain pid) (Some (refusal pid (asked_by script s.world.plain pid)))) (sym charged);
      }),
    )

-- a call is abandoned, and its bound given back
pub abandons : {T : Type 0} (stands_for : T → World → Type 0) (script : Script) (core : CoreView T) (s : CoreState) (pid : ℕ) (asked : Asked) (tasks : List Task) (run : List Noted) (peak : ℕ)
    → IsAt stands_for core s → (enabled : IsIn s pid Stranded) → enabled.asked ≡ asked → tasks ≡ tasks_without core.tasks pid
    → (t : CoreState) × IsAt stands_for (record core { tasks = tasks; reserved = core.reserved - asked.bound; charged = core.charged - asked.bound; run = run; peak = peak }) t
    × Steps script s (said (Abandon pid) asked None (core.charged - asked.bound)) t
abandons stands_for script core s pid asked tasks run peak at enabled asked_is tasks_are =
    let mine = enabled.asked in
    let after : CoreState = record s { tasks = tasks_without s.tasks pid } in
    let same : after.tasks ≡ tasks = ap (λ ts. tasks_without ts pid) at.tasks ∙ sym tasks_are in
    let held_too : reserved_in after.tasks + held (Stranded mine) ≡ reserved_in s.tasks =
    reserved_without s.tasks pid (Stranded mine) enabled.is (λ e. (cc)) in
    let bounds : mine.bound ≡ asked.bound = ap (λ a. a.bound) asked_is in
    let before : reserved_in s.tasks ≡ core.reserved = at.reserved in
    let reserved : reserved_in after.tasks ≡ core.reserved - asked.bound = omega arith in
    let charged : charged_in after ≡ core.charged - asked.bound = (let b : charged_in s ≡ core.charged = at.charged in omega arith) in (
      after,
      record { stands = at.stands; tasks = same; reserved = reserved; charged = charged },
      record {
        enabled = enabled;
        after = refl;
        noted_so = ap (λ a. said (Abandon pid) a None (core.charged - asked.bound)) (sym asked_is) ∙ ap (said (Abandon pid) mine None) (sym charged);
      },
    )

-- an admitted call has its turn, and gives its reserve back
pub turns : {T : Type 0} (stands_for : T → World → Type 0) (script : Script) (core : CoreView T) (s : CoreState) (pid : ℕ) (asked : Asked)
    (call : Call) (store : T) (world : World) (told : Turned) (entry : Entry) (tasks : List Task) (live : ℕ) (run : List Noted) (peak : ℕ)
    → IsAt stands_for core s → IsSound script s → (enabled : IsIn s pid Admitted) → enabled.asked ≡ asked
    → entry ≡ entry_of pid asked.kind told → call ≡ next_call script s pid → stands_for store world → TurnsTo script s.world pid call told world
    → tasks ≡ tasks_after s.world.plain world.plain (with_phase_in core.tasks pid (phase_after (asked_by script world.plain pid) told)) → live ≡ live_of world
    → (t : CoreState) × IsAt stands_for (record core { store = store; tasks = tasks; reserved = core.reserved - asked.bound; charged = live + 2176 + (core.reserved - asked.bound); run = run; peak = peak }) t
    × Steps script s (said (Turn pid) asked (Some entry) (live + 2176 + (core.reserved - asked.bound))) t
turns stands_for script core s pid asked call store world told entry tasks live run peak at sound enabled asked_is entry_is call_is stands turned tasks_are live_is =
    let mine = enabled.asked in
    let phase = phase_after (asked_by script world.plain pid) told in
    let alive = (found_fits script s.world.plain s.tasks pid (Admitted mine) sound.each enabled.is (λ e. (cc))).phase.0 in
    let changed : reserved_in (with_phase_in s.tasks pid phase) + held (Admitted mine) ≡ reserved_in s.tasks + held phase =
    reserved_with s.tasks pid (Admitted mine) phase enabled.is (λ e. (cc)) in
    let none : held phase ≡ 0 = nothing_held (asked_by script world.plain pid) told in
    let same : tasks ≡ tasks_after s.world.plain world.plain (with_phase_in s.tasks pid phase) =
    tasks_are ∙ ap (λ ts. tasks_after s.world.plain world.plain (with_phase_in ts pid phase)) (sym at.tasks) in
    let kept : reserved_in tasks ≡ reserved_in (with_phase_in s.tasks pid phase) =
    ap reserved_in same ∙ reserved_born (buried world.plain (with_phase_in s.tasks pid phase)) (last_pid s.world.plain + 1) (last_pid world.plain - last_pid s.world.plain)
    ∙ reserved_buried world.plain (with_phase_in s.tasks pid phase) in
    let bounds : mine.bound ≡ asked.bound = ap (λ a. a.bound) asked_is in
    let before : reserved_in s.tasks ≡ core.reserved = at.reserved in
    let reserved : reserved_in tasks ≡ core.reserved - asked.bound = omega arith in
    let after : CoreState = record { world = world; tasks = tasks } in
    let charged : charged_in after ≡ live + 2176 + (core.reserved - asked.bound) = omega arith in (
      after,
      record { stands = stands; tasks = refl; reserved = reserved; charged = charged },
      record {
        enabled = enabled;
        told = told;
        answers = subst (λ b. TurnsWhere b script s.world pid (next_call script s pid) told world) alive
            (subst (λ call. TurnsTo script s.world pid call told world) call_is turned);
        tasks = same;
        noted_so = ap (λ e. said (Turn pid) asked (Some e) (live + 2176 + (core.reserved - asked.bound))) entry_is
            ∙ ap (λ a. said (Turn pid) a (Some (entry_of pid a.kind told)) (live + 2176 + (core.reserved - asked.bound))) (sym asked_is)
            ∙ ap (said (Turn pid) mine (Some (entry_of pid mine.kind told))) (sym charged);
      },
    )

-- the victim is killed
pub kills : {T : Type 0} (stands_for : T → World → Type 0) (script : Script) (core : CoreView T) (s : CoreState) (pid waiter : ℕ) (asked : Asked)
    (store : T) (world : World) (tasks : List Task) (live live' : ℕ) (run : List Noted) (peak : ℕ)
    → IsAt stands_for core s → IsEnabled script s (Kill pid) → slice_get (waiting_in core.tasks) 0 ≡ Some (record { pid = waiter; phase = Waiting asked })
    → stands_for store world → Kills s.world pid world → tasks ≡ buried world.plain core.tasks → live ≡ live_of s.world → live' ≡ live_of world
    → (t : CoreState) × IsAt stands_for (record core { store = store; tasks = tasks; charged = live' + 2176 + core.reserved; run = run; peak = peak }) t
    × Steps script s (record { event = Kill pid; kind = None; entry = Some (entry.Killed pid waiter asked.bound live); bound = 0; charged = live' + 2176 + core.reserved }) t
kills stands_for script core s pid waiter asked store world tasks live live' run peak at enabled lowest stands killed tasks_are live_is live_is' =
    let same : tasks ≡ buried world.plain s.tasks = tasks_are ∙ ap (buried world.plain) (sym at.tasks) in
    let kept : reserved_in tasks ≡ reserved_in s.tasks = ap reserved_in same ∙ reserved_buried world.plain s.tasks in
    let before : reserved_in s.tasks ≡ core.reserved = at.reserved in
    let reserved : reserved_in tasks ≡ core.reserved = omega arith in
    let after : CoreState = record { world = world; tasks = tasks } in
    let charged : charged_in after ≡ live' + 2176 + core.reserved = omega arith in (
      after,
      record { stands = stands; tasks = refl; reserved = reserved; charged = charged },
      record {
        enabled = enabled;
        waiter = waiter;
        asked = asked;
        lowest = ap (λ ts. slice_get (waiting_in ts) 0) at.tasks ∙ lowest;
        kills = killed;
        tasks = same;
        noted_so = ap (λ n. record { event = Kill pid; kind = None; entry = Some (entry.Killed pid waiter asked.bound n); bound = 0; charged = live' + 2176 + core.reserved }) live_is
            ∙ ap (λ n. record { event = Kill pid; kind = None; entry = Some (entry.Killed pid waiter asked.bound (live_of s.world)); bound = 0; charged = n }) (sym charged);
      },
    )

-- an object is evicted
pub evicts : {T : Type 0} (stands_for : T → World → Type 0) (script : Script) (core : CoreView T) (s : CoreState) (what : Cached)
    (store : T) (world : World) (live : ℕ) (run : List Noted) (peak : ℕ)
    → IsAt stands_for core s → IsEnabled script s (Evict what) → stands_for store world → Evicts s.world what world → live ≡ live_of world
    → (t : CoreState) × IsAt stands_for (record core { store = store; charged = live + 2176 + core.reserved; run = run; peak = peak }) t
    × Steps script s (record { event = Evict what; kind = None; entry = Some (entry.Evicted what); bound = 0; charged = live + 2176 + core.reserved }) t
evicts stands_for script core s what store world live run peak at enabled stands evicted live_is =
    let after : CoreState = record { world = world; tasks = s.tasks } in
    let reserved : reserved_in s.tasks ≡ core.reserved = at.reserved in
    let charged : charged_in after ≡ live + 2176 + core.reserved = omega arith in (
      after,
      record { stands = stands; tasks = at.tasks; reserved = at.reserved; charged = charged },
      record {
        enabled = enabled;
        evicts = evicted;
        tasks = refl;
        noted_so = ap (λ n. record { event = Evict what; kind = None; entry = Some (entry.Evicted what); bound = 0; charged = n }) (sym charged);
      },
    )

-- what is charged behind an eviction is within the heap
pub evicted_charged : {T : Type 0} (stands_for : T → World → Type 0) (script : Script) (core : CoreView T) (heap run_room task_room : ℕ) (s : CoreState) (what : Cached) (live : ℕ)
    (world : World) → IsKept stands_for script core heap run_room task_room → IsAt stands_for core s → Evicts s.world what world → live ≡ live_of world
    → live + 2176 + core.reserved ≤ script.heap
evicted_charged stands_for script core heap run_room task_room s what live world kept at evicted live_is =
    let within : core.charged ≤ script.heap = within_heap stands_for script core heap run_room task_room kept in
    let charged : charged_in s ≡ core.charged = at.charged in
    let reserved : reserved_in s.tasks ≡ core.reserved = at.reserved in
    let less : live_of world < live_of s.world = less_live s.world what world evicted in
    omega arith

-- the tasks of a core have rising pids
pub rising_now : {T : Type 0} (stands_for : T → World → Type 0) (script : Script) (core : CoreView T) → HasRun stands_for script core → AreRising 0 core.tasks
rising_now stands_for script core has_run =
    let sound = is_sound has_run.runs in subst (AreRising 0) has_run.is_at.tasks sound.rising
