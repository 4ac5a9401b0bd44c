-- What the turn of an admitted call leads to.
use Rattle.std.proofs.Common.{◌≡◌, ℕ, ◌+◌, ◌-◌, ◌≤◌, true, List, ◌++◌, length, refl, ap, sym, ◌∙◌, subst, arith, length-append}
use Rattle.kabi_types.specs.declared.calls.Call.{Call}
use Rattle.kabi_types.specs.declared.entries.Event.{Event}
use Rattle.kabi_types.specs.declared.entries.Noted.{Noted}
use Rattle.kabi_types.specs.declared.scripts.Script.{Script}
use Rattle.posix_defs.specs.declared.phases.Asked.{Asked}
use Rattle.posix_defs.specs.declared.phases.Phase.{Phase}
use Rattle.posix_defs.specs.declared.phases.Phase.TheVariants.{Admitted}
use Rattle.posix_defs.specs.declared.phases.Task.{Task}
use Rattle.posix_defs.specs.declared.turner.Turned.{Turned}
use Rattle.posix_defs.specs.declared.turner.Turned.TheVariants.{Sleep}
use Rattle.posix_defs.specs.Needs.{bound}
use Rattle.posix_defs.specs.Sizes.{reserve}
use Rattle.posix_defs.specs.Process.{is_alive}
use Rattle.posix_defs.specs.Plain.{Plain, last_pid}
use Rattle.posix_defs.specs.Answer.{Answer, Blocked, Done, Part, Ended}
use Rattle.posix_defs.specs.Machine.{machine}
use Rattle.posix_defs.specs.World.{World, live_of}
use Rattle.posix_defs.specs.Turn.{Answers, Tells, TurnsTo, TurnsWhere}
use Rattle.posix_defs.specs.CoreState.{CoreState, asked_by, charged_in, held, next_call, reserved_in, with_phase_in}
use Rattle.posix_defs.specs.CoreEvent.{Steps, born, buried, phase_after, tasks_after, tasks_without}
use Rattle.posix_defs.specs.Enabled.{IsIn}
use Rattle.posix_defs.specs.SoundTasks.{AreRising, IsSound}
use Rattle.posix_defs.specs.CoreRun.{goes_on}
use Rattle.kern_laws.proofs.Nexts.{AnswerGoes, posix_goes}
use Rattle.kern_laws.proofs.Sounds.{is_sound, own_left}
use Rattle.kern_laws.proofs.Tasks.{found_fits, length-with, reserved_without}
use Rattle.kern_laws.proofs.BuriedTasks.{length-born, length-buried}
use Rattle.kern_tasks.specs.View.{CoreView, IsAt, IsKept, IsSleep, MayTake}
use Rattle.kern_tasks.proofs.NextRun.{within_heap}

-- a process whose call sleeps is alive
sleeper_lives : (old new : Plain) (pid : ℕ) (told : Turned) (a : Answer) → is_alive old.table pid ≡ true → Tells a old told new → AnswerGoes old pid a
    → IsSleep told → is_alive new.table pid ≡ true
sleeper_lives old new pid told Blocked alive tells goes sleeps = ap (λ p. is_alive p.table pid) tells.1 ∙ alive
sleeper_lives old new pid told (Part moved plain) alive tells goes sleeps = ap (λ p. is_alive p.table pid) tells.1 ∙ goes.1
sleeper_lives old new pid told (Done reply plain) alive tells goes sleeps = absurd (subst IsSleep tells.0 sleeps)
sleeper_lives old new pid told (Ended status plain) alive tells goes sleeps = absurd (subst IsSleep tells.0 sleeps)

-- and it leaves the machine, where it would block
sleeper_leaves : (old new : Plain) (told : Turned) (a : Answer) → Tells a old told new → told ≡ Sleep → new ≡ old
sleeper_leaves old new told Blocked tells sleeps = tells.1
sleeper_leaves old new told (Part moved plain) tells sleeps = cc
sleeper_leaves old new told (Done reply plain) tells sleeps = cc
sleeper_leaves old new told (Ended status plain) tells sleeps = cc

-- The turn has led to a world, in which a process whose call sleeps is alive; one process was made at most, and no more heap
-- is in use than was reserved.
pub record Led {T : Type 0} (stands_for : T → World → Type 0) (script : Script) (s : CoreState) (pid : ℕ) (call : Call) (told : Turned) (store : T) : Type 0 where
  pub world : World
  pub stands : stands_for store world
  pub turned : TurnsTo script s.world pid call told world
  pub lives : IsSleep told → is_alive world.plain.table pid ≡ true
  pub leaves : told ≡ Sleep → world.plain ≡ s.world.plain
  pub one : last_pid world.plain ≤ last_pid s.world.plain + 1
  pub live : live_of world ≤ live_of s.world + bound call

-- the bound of the call is what was asked for
pub same_bound : (script : Script) (s : CoreState) (pid : ℕ) → IsSound script s → (enabled : IsIn s pid Admitted) → bound (next_call script s pid) ≡ enabled.asked.bound
same_bound script s pid sound enabled =
    let fits = found_fits script s.world.plain s.tasks pid (Admitted enabled.asked) sound.each enabled.is (λ e. (cc)) in
    ap (λ a. a.bound) (sym fits.phase.1.same)

pub is_there : (script : Script) (s : CoreState) (pid : ℕ) → IsSound script s → (enabled : IsIn s pid Admitted) → is_alive s.world.plain.table pid ≡ true
is_there script s pid sound enabled =
    let fits = found_fits script s.world.plain s.tasks pid (Admitted enabled.asked) sound.each enabled.is (λ e. (cc)) in fits.phase.0

pub led : {T : Type 0} (stands_for : T → World → Type 0) (script : Script) (s : CoreState) (pid : ℕ) (call : Call) (told : Turned) (store : T)
    → IsSound script s → IsIn s pid Admitted → call ≡ next_call script s pid
    → (after : World) × stands_for store after × TurnsTo script s.world pid call told after → Led stands_for script s pid call told store
led stands_for script s pid call told store sound enabled call_is after =
    let fits = found_fits script s.world.plain s.tasks pid (Admitted enabled.asked) sound.each enabled.is (λ e. (cc)) in
    let old = s.world.plain in
    let answers : Answers script s.world pid call told after.0 = subst (λ b. TurnsWhere b script s.world pid call told after.0) fits.phase.0 after.2 in
    let tells : Tells (machine script old pid (next_call script s pid)) old told after.0.plain =
    subst (λ c. Tells (machine script old pid c) old told after.0.plain) call_is answers.answer in
    let own = own_left script old after.0.plain pid enabled.asked told (phase_after (asked_by script after.0.plain pid) told) sound.made fits.phase.0 fits.made fits.phase.1 tells refl in
    record {
      world = after.0;
      stands = after.1;
      turned = after.2;
      lives = sleeper_lives old after.0.plain pid told (machine script old pid (next_call script s pid)) fits.phase.0 tells
          (posix_goes script old pid (next_call script s pid) sound.made fits.phase.0);
      leaves = sleeper_leaves old after.0.plain told (machine script old pid (next_call script s pid)) tells;
      one = own.0.one;
      live = answers.live;
    }

-- a call that would block is the one that was asked for
pub asked_still : (script script' : Script) (s : CoreState) (pid : ℕ) (asked : Asked) (told : Turned) (world : World) → IsSound script s
    → (enabled : IsIn s pid Admitted) → enabled.asked ≡ asked → script' ≡ script → (told ≡ Sleep → world.plain ≡ s.world.plain)
    → told ≡ Sleep → asked ≡ asked_by script' world.plain pid
asked_still script script' s pid asked told world sound enabled asked_is same leaves sleeps =
    let fits = found_fits script s.world.plain s.tasks pid (Admitted enabled.asked) sound.each enabled.is (λ e. (cc)) in
    sym asked_is ∙ fits.phase.1.same ∙ sym (ap (λ p. asked_by script p pid) (leaves sleeps)) ∙ sym (ap (λ t. asked_by t world.plain pid) same)

-- the tasks behind a turn
pub tasks_then : (script script' : Script) (old new : Plain) (pid before after : ℕ) (told : Turned) (phase : Phase) (items placed kept all : List Task)
    → script' ≡ script → phase ≡ phase_after (asked_by script' new pid) told → placed ≡ with_phase_in items pid phase → kept ≡ buried new placed
    → before ≡ last_pid old → after ≡ last_pid new → all ≡ kept ++ born (before + 1) (after - before)
    → all ≡ tasks_after old new (with_phase_in items pid (phase_after (asked_by script new pid) told))
tasks_then script script' old new pid before after told phase items placed kept all same phase_is placed_is kept_is before_is after_is all_is =
    let tasks = with_phase_in items pid (phase_after (asked_by script new pid) told) in
    all_is
    ∙ ap (λ k. k ++ born (before + 1) (after - before))
    (kept_is ∙ ap (buried new) (placed_is ∙ ap (with_phase_in items pid) (phase_is ∙ ap (λ s. phase_after (asked_by s new pid) told) same)))
    ∙ ap (λ b. buried new tasks ++ born (b + 1) (after - b)) before_is
    ∙ ap (λ a. buried new tasks ++ born (last_pid old + 1) (a - last_pid old)) after_is

-- those that there still are aren't more than before
pub few_kept : (new : Plain) (pid : ℕ) (phase : Phase) (items placed kept : List Task) → placed ≡ with_phase_in items pid phase → kept ≡ buried new placed
    → length kept ≤ length items
few_kept new pid phase items placed kept placed_is kept_is =
    let less : length (buried new placed) ≤ length placed = length-buried new placed in
    let same : length kept ≡ length (buried new placed) = ap length kept_is in
    let many : length placed ≡ length items = ap length placed_is ∙ length-with items pid phase in
    omega arith

-- and one more at most with who was made
pub few_then : (kept all : List Task) (before after most : ℕ) → all ≡ kept ++ born (before + 1) (after - before) → after ≤ before + 1 → length kept ≤ most
    → length all ≤ most + 1
few_then kept all before after most all_is one less =
    let many : length all ≡ length kept + length (born (before + 1) (after - before)) = ap length all_is ∙ length-append kept (born (before + 1) (after - before)) in
    let made : length (born (before + 1) (after - before)) ≡ after - before = length-born (before + 1) (after - before) in
    omega arith

-- what was reserved is enough for the call, and what is charged behind it is within the heap
pub record IsPaid (script : Script) (core_reserved live : ℕ) (s : CoreState) (call : Call) (asked : Asked) : Type 0 where
  pub before : live_of s.world + bound call + reserve ≤ script.heap
  pub after : live + reserve + (core_reserved - asked.bound) ≤ script.heap

pub is_paid : {T : Type 0} (stands_for : T → World → Type 0) (script : Script) (core : CoreView T) (heap run_room task_room : ℕ) (s : CoreState) (pid live : ℕ)
    (call : Call) (asked : Asked) → IsKept stands_for script core heap run_room task_room → IsAt stands_for core s → IsSound script s
    → (enabled : IsIn s pid Admitted) → enabled.asked ≡ asked → call ≡ next_call script s pid → live ≤ live_of s.world + bound call
    → IsPaid script core.reserved live s call asked
is_paid stands_for script core heap run_room task_room s pid live call asked kept at sound enabled asked_is call_is less =
    let price : bound call ≡ asked.bound = ap bound call_is ∙ same_bound script s pid sound enabled ∙ ap (λ a. a.bound) asked_is in
    let within : core.charged ≤ script.heap = within_heap stands_for script core heap run_room task_room kept in
    let charged : charged_in s ≡ core.charged = at.charged in
    let reserved : reserved_in s.tasks ≡ core.reserved = at.reserved in
    let rest : reserved_in (tasks_without s.tasks pid) + held (Admitted enabled.asked) ≡ reserved_in s.tasks =
    reserved_without s.tasks pid (Admitted enabled.asked) enabled.is (λ e. (cc)) in
    let bounds : enabled.asked.bound ≡ asked.bound = ap (λ a. a.bound) asked_is in
    record { before = omega arith; after = omega arith }

-- the tasks that a step leads to have rising pids
pub rising_then : {T : Type 0} (stands_for : T → World → Type 0) (script : Script) (old new : CoreView T) (event : Event) (noted : Noted)
    → (may : MayTake stands_for script old event) → (t : CoreState) × IsAt stands_for new t × Steps script may.state noted t → AreRising 0 new.tasks
rising_then stands_for script old new event noted may led =
    let sound = is_sound (goes_on old.run may.state led.0 noted may.runs may.no_end tt led.2) in
    subst (AreRising 0) led.1.tasks sound.rising
