-- Every state that a run leads to is sound.
use Rattle.std.proofs.Common.{◌≡◌, ◌≢◌, ℕ, zero, suc, ◌+◌, ◌-◌, ◌<◌, ◌≤◌, ◌==◌, ℤ, Bool, true, false, List, [], ◌∷◌, length, Some, unwrap_or, refl, ap, sym, ◌∙◌, subst, arith, ◌⊎◌, inl, inr}
use Rattle.std.specs.List.{AllByRecursion, list_any}
use Rattle.kabi_types.specs.Call.{kind_of}
use Rattle.kabi_types.specs.declared.calls.Call.TheVariants as call
use Rattle.kabi_types.specs.declared.entries.Event.{Event}
use Rattle.kabi_types.specs.declared.entries.Event.TheVariants.{Ask, Admit, Turn, Wake, Abandon, Evict, Kill}
use Rattle.kabi_types.specs.declared.entries.Noted.{Noted}
use Rattle.kabi_types.specs.declared.errnos.Errno.TheVariants.{ENOMEM}
use Rattle.kabi_types.specs.declared.replies.Reply.{Reply}
use Rattle.kabi_types.specs.declared.replies.Reply.TheVariants.{Fail}
use Rattle.kabi_types.specs.declared.scripts.Control.{Control}
use Rattle.kabi_types.specs.declared.scripts.Script.{Script}
use Rattle.posix_defs.specs.declared.phases.Asked.{Asked}
use Rattle.posix_defs.specs.declared.phases.Phase.{Phase}
use Rattle.posix_defs.specs.declared.phases.Phase.TheVariants.{User, Waiting, Admitted, Asleep, Stranded, Dead}
use Rattle.posix_defs.specs.declared.phases.Task.{Task}
use Rattle.posix_defs.specs.declared.turner.Turned.{Turned}
use Rattle.posix_defs.specs.Sizes.{room}
use Rattle.posix_defs.specs.Process.{Process, is_alive, process_at}
use Rattle.posix_defs.specs.Plain.{Plain, answered, at_start, call_of, control_of, first_process, last_pid, root, with_control, with_files}
use Rattle.posix_defs.specs.Control as program
use Rattle.posix_defs.specs.Answer.{Answer, Blocked, Done, Part, failed, replied}
use Rattle.posix_defs.specs.Answer as answer
use Rattle.posix_defs.specs.Killing.{ends}
use Rattle.posix_defs.specs.Needs.{bound}
use Rattle.posix_defs.specs.Control.{after_part}
use Rattle.posix_defs.specs.Made.{further}
use Rattle.posix_defs.specs.Files.State.{Files}
use Rattle.posix_defs.specs.Machine.{machine}
use Rattle.posix_defs.specs.Turn.{Tells}
use Rattle.posix_defs.specs.Relief.{refused_in}
use Rattle.posix_defs.specs.CoreState.{CoreState, asked_by, boot_state, with_phase, with_phase_in}
use Rattle.posix_defs.specs.CoreEvent.{Turns, KillsOne, StepsBy, born, buried, phase_after, tasks_after, tasks_without}
use Rattle.posix_defs.specs.CoreRun.{IsRunBy, boots, goes_on}
use Rattle.posix_defs.specs.SoundTasks.{AreRising, HasAsked, IsSound, PhaseFits, TaskFits}
use Rattle.answer_laws.specs.Shapes as shape
use Rattle.answer_laws.specs.Shapes.{HasShape}
use Rattle.answer_laws.proofs.Shapes.{machine_shape}
use Rattle.answer_laws.proofs.GoingOn.{call_part}
use Rattle.posix_defs.proofs.PriceLemmas.{write_falls}
use Rattle.kern_laws.proofs.TablePlaces.{was_made}
use Rattle.kern_laws.proofs.Nexts.{IsNext, AnswerGoes, alive_is_there, answered_next, at_own, die_next, posix_goes, same_next}
use Rattle.kern_laws.proofs.Tasks.{any_with, any_without, each_and, each_map, each_append, rising_above, each_with, each_without, found_fits, rising_with, rising_without}
use Rattle.kern_laws.proofs.BuriedTasks.{IsLeft, LeftBy, StrandedFits, any_behind, any_born, any_buried, any_front, each_born, each_buried, pids_buried, rising_born, rising_buried}
use Rattle.kern_laws.proofs.Caches.{keeps_left}
use Rattle.posix_defs.specs.World.{MayKeep}

asked_in : Script → Control → Asked
asked_in script control = record { kind = kind_of (program.call_of script control); bound = bound (program.call_of script control) }

-- what a process has asked for stays, where its control does
asked_stays : (script : Script) (old new : Plain) (pid : ℕ) (asked : Asked) → control_of new pid ≡ control_of old pid → HasAsked script old pid asked
    → HasAsked script new pid asked
unfolding asked_in
asked_stays script old new pid asked same has = record {
  same = has.same ∙ sym (ap (asked_in script) same);
  fits_ever = has.fits_ever;
}

-- a task of a process that didn't call is left as it has to be
other_left : (script : Script) (old new : Plain) (pid : ℕ) (task : Task) → IsNext old new pid → task.pid ≢ pid → TaskFits script old task
    → IsLeft script new task
other_left script old new pid task next apart fits = go (is_alive new.table task.pid) refl
  where
    made : task.pid ≤ last_pid new
    made = let h : task.pid ≤ last_pid old = fits.made in let k : last_pid old ≤ last_pid new = next.more in omega arith

    stays : (asked : Asked) → HasAsked script old task.pid asked → HasAsked script new task.pid asked
    stays asked has = asked_stays script old new task.pid asked (next.controls task.pid apart fits.made) has

    alive_phase : is_alive new.table task.pid ≡ true → (phase : Phase) → PhaseFits script old task.pid phase → PhaseFits script new task.pid phase
    alive_phase is User phase = is
    alive_phase is (Waiting asked) phase = (is, stays asked phase.1)
    alive_phase is (Admitted asked) phase = (is, stays asked phase.1)
    alive_phase is (Asleep asked) phase = (is, stays asked phase.1)
    alive_phase is (Stranded asked) phase =
        absurd (let lived : is_alive old.table task.pid ≡ true = next.revived task.pid fits.made is in let died = phase.0 in cc)
    alive_phase is Dead phase = absurd phase

    dead_phase : (phase : Phase) → PhaseFits script old task.pid phase → StrandedFits script new task.pid phase
    dead_phase User phase = tt
    dead_phase (Waiting asked) phase = tt
    dead_phase (Admitted asked) phase = stays asked phase.1
    dead_phase (Asleep asked) phase = tt
    dead_phase (Stranded asked) phase = stays asked phase.1
    dead_phase Dead phase = tt

    go : (b : Bool) → is_alive new.table task.pid ≡ b → LeftBy script new b task
    go true is = record { made = made; phase = alive_phase is task.phase fits.phase }
    go false is = (made, dead_phase task.phase fits.phase)

blocked_no_part : (moved : ℕ) (next : Plain) → Blocked ≡ Part moved next → ⊥
blocked_no_part moved next e = cc

done_no_part : (reply : Reply) (plain : Plain) (moved : ℕ) (next : Plain) → Done reply plain ≡ Part moved next → ⊥
done_no_part reply plain moved next e = cc

ended_no_part : (status : ℕ) (plain : Plain) (moved : ℕ) (next : Plain) → answer.Ended status plain ≡ Part moved next → ⊥
ended_no_part status plain moved next e = cc

same_part : (one other : ℕ) (plain next : Plain) → Part one plain ≡ Part other next → plain ≡ next
same_part one other plain next e = cc

-- a part of a write leaves its caller at that write, further on, which costs no more
part_costs : (script : Script) (old next : Plain) (pid moved : ℕ) → 0 < pid → pid ≤ last_pid old → machine script old pid (call_of script old pid) ≡ Part moved next
    → bound (call_of script next pid) ≤ bound (call_of script old pid)
part_costs script old next pid moved some within is = go (machine_shape script old pid (call_of script old pid))
  where
    further_on : (fd addr n : ℤ) (done k : ℕ) (files : Files) → call_of script old pid ≡ call.Write fd addr n done
        → with_control (with_files old files) pid (after_part (control_of old pid) k) ≡ next → bound (call_of script next pid) ≤ bound (call_of script old pid)
    further_on fd addr n done k files of next_is =
        let control : control_of next pid ≡ after_part (control_of old pid) k =
        ap (λ p. control_of p pid) (sym next_is) ∙ ap (λ found. unwrap_or found (at_start 0)) (at_own old.controls pid (after_part (control_of old pid) k) some within) in
        let goes_on : call_of script next pid ≡ call.Write fd addr n (done + k) =
        ap (program.call_of script) control ∙ call_part script (control_of old pid) k ∙ ap (further k) of in
        let less = write_falls fd addr n done k in
        let one = ap bound goes_on in
        let two = ap bound of in
        omega arith

    -- the call of an open is the same
    opens_on : (path : List ℕ) (flags : ℤ) (k : ℕ) (files : Files) → call_of script old pid ≡ call.OpenFile path flags
        → with_control (with_files old files) pid (after_part (control_of old pid) k) ≡ next → bound (call_of script next pid) ≤ bound (call_of script old pid)
    opens_on path flags k files of next_is =
        let control : control_of next pid ≡ after_part (control_of old pid) k =
        ap (λ p. control_of p pid) (sym next_is) ∙ ap (λ found. unwrap_or found (at_start 0)) (at_own old.controls pid (after_part (control_of old pid) k) some within) in
        let goes_on : call_of script next pid ≡ call.OpenFile path flags =
        ap (program.call_of script) control ∙ call_part script (control_of old pid) k ∙ ap (further k) of in
        let one = ap bound goes_on in
        let two = ap bound of in
        omega arith

    go : HasShape script old pid (call_of script old pid) (machine script old pid (call_of script old pid)) → bound (call_of script next pid) ≤ bound (call_of script old pid)
    go (shape.blocks may e) = absurd (blocked_no_part moved next (sym e ∙ is))
    go (shape.fails errno other e) = absurd (done_no_part _ _ moved next (sym e ∙ is))
    go (shape.tells files reply said e) = absurd (done_no_part _ _ moved next (sym e ∙ is))
    go (shape.puts files memory reply said put e) = absurd (done_no_part _ _ moved next (sym e ∙ is))
    go (shape.moves path directory of entered e) = absurd (done_no_part _ _ moved next (sym e ∙ is))
    go (shape.disposes signal disposition ignores before of e) = absurd (done_no_part _ _ moved next (sym e ∙ is))
    go (shape.parts files k part e) =
        further_on part.fd part.addr part.n part.done k files part.which (same_part k moved (with_control (with_files old files) pid (after_part (control_of old pid) k)) next (sym e ∙ is))
    go (shape.awaits files begun e) =
        opens_on begun.path begun.flags 1 files begun.which (same_part 1 moved (with_control (with_files old files) pid (after_part (control_of old pid) 1)) next (sym e ∙ is))
    go (shape.starts place e) = absurd (done_no_part _ _ moved next (sym e ∙ is))
    go (shape.forks e) = absurd (done_no_part _ _ moved next (sym e ∙ is))
    go (shape.reaps child status ended e) = absurd (done_no_part _ _ moved next (sym e ∙ is))
    go (shape.ends status e) = absurd (ended_no_part _ _ moved next (sym e ∙ is))
    go (shape.ends_another target signal of first own lives e) = absurd (done_no_part _ _ moved next (sym e ∙ is))

-- the task of the process that called
pub own_left : (script : Script) (old new : Plain) (pid : ℕ) (asked : Asked) (told : Turned) (phase : Phase) → length old.table ≡ last_pid old → is_alive old.table pid ≡ true
    → pid ≤ last_pid old → HasAsked script old pid asked → Tells (machine script old pid (call_of script old pid)) old told new
    → phase ≡ phase_after (asked_by script new pid) told
    → IsNext old new pid × IsLeft script new (record { pid = pid; phase = phase })
own_left script old new pid asked told phase counted alive made has tells is =
    go (machine script old pid (call_of script old pid)) refl tells (posix_goes script old pid (call_of script old pid) counted alive)
  where
    live_task : IsNext old new pid → is_alive new.table pid ≡ true → (p : Phase) → PhaseFits script new pid p → phase ≡ p → IsLeft script new (record { pid = pid; phase = phase })
    live_task next lives p fits same =
        subst (λ b. LeftBy script new b (record { pid = pid; phase = phase })) (sym lives)
        (record {
          made = let k : last_pid old ≤ last_pid new = next.more in omega arith;
          phase = subst (PhaseFits script new pid) (sym same) fits;
        })

    go : (a : Answer) → machine script old pid (call_of script old pid) ≡ a → Tells a old told new → AnswerGoes old pid a
        → IsNext old new pid × IsLeft script new (record { pid = pid; phase = phase })
    go Blocked e t goes =
        let next : IsNext old new pid = subst (λ p. IsNext old p pid) (sym t.1) (same_next old pid counted) in
        let lives : is_alive new.table pid ≡ true = ap (λ p. is_alive p.table pid) t.1 ∙ alive in
        let slept : phase ≡ Asleep (asked_by script new pid) = is ∙ ap (phase_after (asked_by script new pid)) t.0 in
        let kept : (asked_by script new pid).bound ≤ room script.heap =
        subst (λ n. n ≤ room script.heap) (ap (λ a. a.bound) has.same ∙ ap (λ p. (asked_by script p pid).bound) (sym t.1)) has.fits_ever in
        (next, live_task next lives (Asleep (asked_by script new pid)) (lives, record { same = refl; fits_ever = kept }) slept)
    go (Done reply plain) e t goes =
        let next : IsNext old new pid = subst (λ p. IsNext old p pid) (sym t.1) goes.0 in
        let lives : is_alive new.table pid ≡ true = ap (λ p. is_alive p.table pid) t.1 ∙ goes.1 in
        (next, live_task next lives User lives (is ∙ ap (phase_after (asked_by script new pid)) t.0))
    go (Part moved plain) e t goes =
        let next : IsNext old new pid = subst (λ p. IsNext old p pid) (sym t.1) goes.0 in
        let lives : is_alive new.table pid ≡ true = ap (λ p. is_alive p.table pid) t.1 ∙ goes.1 in
        let slept : phase ≡ Asleep (asked_by script new pid) = is ∙ ap (phase_after (asked_by script new pid)) t.0 in
        let there = alive_is_there old.table pid alive in
        let less : bound (call_of script plain pid) ≤ bound (call_of script old pid) = part_costs script old plain pid moved (was_made old.table pid there.0 there.1).0 made e in
        let asked_for : asked.bound ≡ bound (call_of script old pid) = ap (λ a. a.bound) has.same in
        let now : bound (call_of script new pid) ≡ bound (call_of script plain pid) = ap (λ p. bound (call_of script p pid)) t.1 in
        let ever : asked.bound ≤ room script.heap = has.fits_ever in
        (next, live_task next lives (Asleep (asked_by script new pid)) (lives, record { same = refl; fits_ever = omega arith }) slept)
    go (answer.Ended status plain) e t goes =
        let next : IsNext old new pid = subst (λ p. IsNext old p pid) (sym t.1) goes.0 in
        let dead : is_alive new.table pid ≡ false = ap (λ p. is_alive p.table pid) t.1 ∙ goes.1 in
        let ended : phase ≡ Dead = is ∙ ap (phase_after (asked_by script new pid)) t.0 in (
          next,
          subst (λ b. LeftBy script new b (record { pid = pid; phase = phase })) (sym dead)
              (let k : last_pid old ≤ last_pid new = next.more in omega arith, subst (StrandedFits script new pid) (sym ended) tt),
        )

-- a pid was made before, or is new
pub old_or_new : (pid last : ℕ) → (pid ≤ last) ⊎ (last < pid)
old_or_new pid zero = pick pid
  where
    pick : (pid : ℕ) → (pid ≤ 0) ⊎ (0 < pid)
    pick zero = inl (omega arith)
    pick (suc n) = inr (omega arith)
old_or_new zero (suc last) = inl (omega arith)
old_or_new (suc pid) (suc last) = elim (old_or_new pid last) [ inl h ↦ inl (omega arith) | inr h ↦ inr (omega arith) ]

-- Behind a change of the machine, where all tasks are left as they have to be.
record StaySound (script : Script) (new : Plain) (tasks : List Task) : Type 0 where
  rising : AreRising 0 tasks
  each : AllByRecursion (TaskFits script new) tasks
  all : (pid : ℕ) → is_alive new.table pid ≡ true → list_any (λ task. task.pid == pid) tasks ≡ true

after_sound : (script : Script) (old new : Plain) (pid : ℕ) (tasks : List Task) → IsNext old new pid → length old.table ≡ last_pid old
    → AreRising 0 tasks → AllByRecursion (IsLeft script new) tasks → AllByRecursion (λ task. task.pid ≤ last_pid old) tasks
    → ((other : ℕ) → is_alive old.table other ≡ true → list_any (λ task. task.pid == other) tasks ≡ true)
    → StaySound script new (tasks_after old new tasks)
after_sound script old new pid tasks next made rising left within all = record {
  rising = rising_born 0 (last_pid old + 1) count (buried new tasks) (rising_buried 0 new tasks rising)
      (each_map (λ task. task.pid ≤ last_pid old) (λ task. task.pid < last_pid old + 1) (buried new tasks)
      (λ task h. omega (arith, h)) (pids_buried (λ p. p ≤ last_pid old) new tasks within)) (omega arith);
  each = each_append (TaskFits script new) (buried new tasks) (born (last_pid old + 1) count) (each_buried script new tasks left)
      (each_born script new (last_pid old + 1) count (let more : last_pid old ≤ last_pid new = next.more in omega arith)
      (λ other above below. next.born other (omega arith) (let more : last_pid old ≤ last_pid new = next.more in omega arith)));
  all = λ other alive. elim (old_or_new other (last_pid old)) [
    | inl h ↦ any_front (buried new tasks) (born (last_pid old + 1) count) other
        (any_buried script new tasks other left alive (all other (next.revived other h alive)))
    | inr h ↦ any_behind (buried new tasks) (born (last_pid old + 1) count) other
        (any_born (last_pid old + 1) count other (omega arith)
        (let there = alive_is_there new.table other alive in
        let few : other ≤ length new.table = (was_made new.table other there.0 there.1).1 in
        let same : length new.table ≡ last_pid new = next.made in
        let more : last_pid old ≤ last_pid new = next.more in omega arith))
  ];
}
  where
    count : ℕ
    count = last_pid new - last_pid old

-- the tasks' pids were made
made_pids : (script : Script) (plain : Plain) (tasks : List Task) → AllByRecursion (TaskFits script plain) tasks
    → AllByRecursion (λ task. task.pid ≤ last_pid plain) tasks
made_pids script plain tasks each = each_map (TaskFits script plain) (λ task. task.pid ≤ last_pid plain) tasks (λ task fits. fits.made) each

turn_sound : (script : Script) (old : CoreState) (pid : ℕ) (noted : Noted) (new : CoreState) → IsSound script old → Turns script old pid noted new
    → IsSound script new
turn_sound script old pid noted new sound step =
    let before = old.world.plain in
    let after = new.world.plain in
    let phase = phase_after (asked_by script after pid) step.told in
    let fits = found_fits script before old.tasks pid (Admitted step.enabled.asked) sound.each step.enabled.is (λ e. (cc)) in
    let own = own_left script before after pid step.enabled.asked step.told phase sound.made fits.phase.0 fits.made fits.phase.1 step.answers.answer refl in
    let left = each_with (TaskFits script before) (IsLeft script after) 0 old.tasks pid phase sound.rising
    (λ task apart fits. other_left script before after pid task own.0 apart fits)
    (λ task same fits. subst (λ p. IsLeft script after (record { pid = p; phase = phase })) (sym same) own.1) sound.each in
    let stays = after_sound script before after pid (with_phase_in old.tasks pid phase) own.0 sound.made (rising_with 0 old.tasks pid phase sound.rising) left
    (each_with (TaskFits script before) (λ task. task.pid ≤ last_pid before) 0 old.tasks pid phase sound.rising
    (λ task apart fits. fits.made) (λ task same fits. fits.made) sound.each)
    (λ other alive. any_with old.tasks pid other phase ∙ sound.all other alive) in
    record {
      made = own.0.made;
      rising = subst (AreRising 0) (sym step.tasks) stays.rising;
      each = subst (AllByRecursion (TaskFits script after)) (sym step.tasks) stays.each;
      all = λ other alive. ap (list_any (λ task. task.pid == other)) step.tasks ∙ stays.all other alive;
      may_keep = step.answers.may_keep;
    }

-- a turn leaves what others ask for
pub turn_keeps : (script : Script) (old : CoreState) (pid : ℕ) (noted : Noted) (new : CoreState) (other : ℕ) → IsSound script old
    → Turns script old pid noted new → other ≢ pid → other ≤ last_pid old.world.plain
    → asked_by script new.world.plain other ≡ asked_by script old.world.plain other
unfolding asked_in
turn_keeps script old pid noted new other sound step apart made =
    let before = old.world.plain in
    let after = new.world.plain in
    let phase = phase_after (asked_by script after pid) step.told in
    let fits = found_fits script before old.tasks pid (Admitted step.enabled.asked) sound.each step.enabled.is (λ e. (cc)) in
    let own = own_left script before after pid step.enabled.asked step.told phase sound.made fits.phase.0 fits.made fits.phase.1 step.answers.answer refl in
    ap (asked_in script) (own.0.controls other apart made)

-- no pid is 0
positive : (task : Task) → 0 < task.pid → task.pid ≢ 0
positive task h e = omega (arith, h, e)

kill_sound : (script : Script) (old : CoreState) (pid : ℕ) (noted : Noted) (new : CoreState) → IsSound script old → KillsOne script old pid noted new
    → IsSound script new
kill_sound script old pid noted new sound step =
    let before = old.world.plain in
    let after = new.world.plain in
    let next : IsNext before after 0 = subst (λ p. IsNext before p 0) (sym step.kills.plain) (die_next before 0 pid 9 sound.made) in
    let same : last_pid after ≡ last_pid before = ap last_pid step.kills.plain in
    let both = each_and (TaskFits script before) (λ task. 0 < task.pid) old.tasks sound.each (rising_above 0 old.tasks sound.rising) in
    let left = each_map (λ task. TaskFits script before task × (0 < task.pid)) (IsLeft script after) old.tasks
    (λ task fits. other_left script before after 0 task next (positive task fits.1) fits.0) both in
    record {
      made = next.made;
      rising = subst (AreRising 0) (sym step.tasks) (rising_buried 0 after old.tasks sound.rising);
      each = subst (AllByRecursion (TaskFits script after)) (sym step.tasks) (each_buried script after old.tasks left);
      all = λ other alive. ap (list_any (λ task. task.pid == other)) step.tasks
          ∙ any_buried script after old.tasks other left alive
          (sound.all other
          (let there = alive_is_there after.table other alive in
          let few : other ≤ length after.table = (was_made after.table other there.0 there.1).1 in
          let counted : length after.table ≡ last_pid after = next.made in
          next.revived other (omega arith) alive));
      may_keep = step.kills.may_keep;
    }

-- one task in another phase, which fits
phase_sound : (script : Script) (old : CoreState) (pid : ℕ) (phase : Phase) → IsSound script old → PhaseFits script old.world.plain pid phase
    → IsSound script (with_phase old pid phase)
phase_sound script old pid phase sound fits = record {
  made = sound.made;
  rising = rising_with 0 old.tasks pid phase sound.rising;
  each = each_with (TaskFits script old.world.plain) (TaskFits script old.world.plain) 0 old.tasks pid phase sound.rising
      (λ task apart fit. fit)
      (λ task same fit. record { made = fit.made; phase = subst (λ p. PhaseFits script old.world.plain p phase) (sym same) fits }) sound.each;
  all = λ other alive. any_with old.tasks pid other phase ∙ sound.all other alive;
  may_keep = sound.may_keep;
}

-- a task of a process that wasn't answered fits still
answered_fits : (script : Script) (plain : Plain) (pid : ℕ) (reply : Reply) (task : Task) → length plain.table ≡ last_pid plain → task.pid ≢ pid → TaskFits script plain task
    → TaskFits script (answered script plain pid reply) task
answered_fits script plain pid reply task counted apart fits = record {
  made = let h : task.pid ≤ last_pid plain = fits.made in let k : last_pid plain ≤ last_pid (answered script plain pid reply) = next.more in omega arith;
  phase = go task.phase fits.phase;
}
  where
    next : IsNext plain (answered script plain pid reply) pid
    next = answered_next script plain plain pid reply (same_next plain pid counted)

    stays : (asked : Asked) → HasAsked script plain task.pid asked → HasAsked script (answered script plain pid reply) task.pid asked
    stays asked has = asked_stays script plain (answered script plain pid reply) task.pid asked (next.controls task.pid apart fits.made) has

    go : (phase : Phase) → PhaseFits script plain task.pid phase → PhaseFits script (answered script plain pid reply) task.pid phase
    go User fit = fit
    go (Waiting asked) fit = (fit.0, stays asked fit.1)
    go (Admitted asked) fit = (fit.0, stays asked fit.1)
    go (Asleep asked) fit = (fit.0, stays asked fit.1)
    go (Stranded asked) fit = (fit.0, stays asked fit.1)
    go Dead fit = absurd fit

refuse_sound : (script : Script) (old : CoreState) (pid : ℕ) → IsSound script old → is_alive old.world.plain.table pid ≡ true
    → IsSound script (record (with_phase old pid User) { world = refused_in script old.world pid })
refuse_sound script old pid sound alive =
    let plain = old.world.plain in
    let next = answered_next script plain plain pid (Fail ENOMEM) (same_next plain pid sound.made) in
    let after = answered script plain pid (Fail ENOMEM) in
    record {
      made = next.made;
      rising = rising_with 0 old.tasks pid User sound.rising;
      each = each_with (TaskFits script plain) (TaskFits script after) 0 old.tasks pid User sound.rising
          (λ task apart fit. answered_fits script plain pid (Fail ENOMEM) task sound.made apart fit)
          (λ task same fit. record {
            made = let h : task.pid ≤ last_pid plain = fit.made in let k : last_pid plain ≤ last_pid after = next.more in omega arith;
            phase = ap (is_alive plain.table) same ∙ alive;
          }) sound.each;
      all = λ other lives. any_with old.tasks pid other User ∙ sound.all other lives;
      may_keep = record { names = sound.may_keep.names; blocks = sound.may_keep.blocks; vnodes = sound.may_keep.vnodes; pinned = sound.may_keep.pinned; true_names = sound.may_keep.true_names; on_disk = sound.may_keep.on_disk; in_use = sound.may_keep.in_use };
    }

abandon_sound : (script : Script) (old : CoreState) (pid : ℕ) → IsSound script old → is_alive old.world.plain.table pid ≡ false
    → IsSound script (record old { tasks = tasks_without old.tasks pid })
abandon_sound script old pid sound dead = record {
  made = sound.made;
  rising = rising_without 0 old.tasks pid sound.rising;
  each = each_without (TaskFits script old.world.plain) old.tasks pid sound.each;
  all = λ other lives. any_without old.tasks pid other (apart other lives) ∙ sound.all other lives;
  may_keep = sound.may_keep;
}
  where
    apart : (other : ℕ) → is_alive old.world.plain.table other ≡ true → other ≢ pid
    apart other lives same = let e : is_alive old.world.plain.table other ≡ false = ap (is_alive old.world.plain.table) same ∙ dead in let f = lives in cc

step_sound : (script : Script) (old : CoreState) (event : Event) (noted : Noted) (new : CoreState) → StepsBy script old event noted new
    → IsSound script old → IsSound script new
step_sound script old (Ask pid) noted new step sound = elim step [
  | inl asks ↦
      let fits = found_fits script old.world.plain old.tasks pid User sound.each asks.enabled (λ e. (cc)) in
      subst (IsSound script) (sym asks.after) (phase_sound script old pid (Waiting (asked_by script old.world.plain pid)) sound
      (fits.phase, record { same = refl; fits_ever = asks.fits_ever }))
  | inr refuses ↦
      let fits = found_fits script old.world.plain old.tasks pid User sound.each refuses.enabled (λ e. (cc)) in
      subst (IsSound script) (sym refuses.after) (refuse_sound script old pid sound fits.phase)
]
step_sound script old (Admit pid) noted new step sound =
    let asked = step.enabled.waits.asked in
    let fits = found_fits script old.world.plain old.tasks pid (Waiting asked) sound.each step.enabled.waits.is (λ e. (cc)) in
    subst (IsSound script) (sym step.after) (phase_sound script old pid (Admitted asked) sound fits.phase)
step_sound script old (Turn pid) noted new step sound = turn_sound script old pid noted new sound step
step_sound script old (Wake pid) noted new step sound =
    let asked = step.enabled.sleeps.asked in
    let fits = found_fits script old.world.plain old.tasks pid (Asleep asked) sound.each step.enabled.sleeps.is (λ e. (cc)) in
    subst (IsSound script) (sym step.after) (phase_sound script old pid (Waiting asked) sound fits.phase)
step_sound script old (Abandon pid) noted new step sound =
    let asked = step.enabled.asked in
    let fits = found_fits script old.world.plain old.tasks pid (Stranded asked) sound.each step.enabled.is (λ e. (cc)) in
    subst (IsSound script) (sym step.after) (abandon_sound script old pid sound fits.phase.0)
step_sound script old (Evict what) noted new step sound =
    let plain : new.world.plain ≡ old.world.plain = step.evicts.plain in
    record {
      made = subst (λ p. length p.table ≡ last_pid p) (sym plain) sound.made;
      rising = subst (AreRising 0) (sym step.tasks) sound.rising;
      each = subst (AllByRecursion (TaskFits script new.world.plain)) (sym step.tasks)
          (subst (λ p. AllByRecursion (TaskFits script p) old.tasks) (sym plain) sound.each);
      all = λ other alive. ap (list_any (λ task. task.pid == other)) step.tasks ∙ sound.all other (subst (λ p. is_alive p.table other ≡ true) plain alive);
      may_keep = subst (λ p. MayKeep p new.world.kept) (sym plain) (keeps_left old.world.plain old.world.kept what new.world.kept step.evicts.kept sound.may_keep);
    }
step_sound script old (Kill pid) noted new step sound = kill_sound script old pid noted new sound step

abbrev first_task : List Task
first_task = record { pid = 1; phase = User } ∷ []

first_alone : (pid : ℕ) → is_alive (Some first_process ∷ []) pid ≡ true → list_any (λ task. task.pid == pid) first_task ≡ true
first_alone zero e = cc
first_alone (suc zero) e = refl
first_alone (suc (suc n)) e = cc

boot_sound : (script : Script) → IsSound script (boot_state script)
boot_sound script = record {
  made = refl;
  rising = (let h : 0 < 1 = omega arith in h, tt);
  each = (record { made = let h : 1 ≤ 1 = omega arith in h; phase = refl }, tt);
  all = first_alone;
  may_keep = record { names = tt; blocks = tt; vnodes = (tt, tt); pinned = λ node e. e; true_names = tt; on_disk = tt; in_use = (refl, tt) };
}

pub is_sound : {rule : ℕ → CoreState → Event → Type 0} {script : Script} {steps : ℕ} {run : List Noted} {s : CoreState} → IsRunBy rule script steps run s
    → IsSound script s
is_sound {script = script} boots = boot_sound script
is_sound {script = script} (goes_on run old new noted before ends follows step) = step_sound script old noted.event noted new step (is_sound before)
