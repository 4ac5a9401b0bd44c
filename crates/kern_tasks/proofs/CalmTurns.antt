-- A turn that ends nobody leaves all tasks.
use Rattle.std.proofs.Common.{◌≡◌, ℕ, not, ◌||◌, Bool, true, false, cond, List, [], ◌∷◌, filter, map, refl, ap, sym, ◌∙◌, subst}
use Rattle.std.specs.List.{AllByRecursion}
use Rattle.kabi_types.specs.Call.{kind_of}
use Rattle.kabi_types.specs.declared.calls.Call.{Call}
use Rattle.kabi_types.specs.declared.scripts.Script.{Script}
use Rattle.posix_defs.specs.declared.phases.Asked.{Asked}
use Rattle.posix_defs.specs.declared.phases.Phase.{Phase}
use Rattle.posix_defs.specs.declared.phases.Phase.TheVariants.{User, Waiting, Admitted, Asleep, Stranded, Dead}
use Rattle.posix_defs.specs.declared.phases.Task.{Task}
use Rattle.posix_defs.specs.declared.turner.Turned.{Turned}
use Rattle.posix_defs.specs.declared.turner.Turned.TheVariants as turned
use Rattle.posix_defs.specs.Process.{is_alive, process_at}
use Rattle.posix_defs.specs.Memory.{no_memory}
use Rattle.posix_defs.specs.Plain.{Plain}
use Rattle.posix_defs.specs.Answer.{Answer, Blocked, Done, Part}
use Rattle.posix_defs.specs.Answer as answer
use Rattle.posix_defs.specs.Forking.{child_of}
use Rattle.posix_defs.specs.Machine.{machine}
use Rattle.posix_defs.specs.World.{World}
use Rattle.posix_defs.specs.Turn.{Answers, Tells, TurnsTo, TurnsWhere}
use Rattle.posix_defs.specs.CoreState.{CoreState, asked_by, next_call, with_phase_in}
use Rattle.posix_defs.specs.CoreEvent.{bury, buried, is_dead, phase_after, stranded}
use Rattle.posix_defs.specs.Enabled.{IsIn}
use Rattle.posix_defs.specs.SoundTasks.{IsSound, PhaseFits, TaskFits}
use Rattle.answer_laws.specs.Shapes as shape
use Rattle.answer_laws.specs.Shapes.{HasShape}
use Rattle.answer_laws.proofs.Shapes.{machine_shape}
use Rattle.kern_laws.proofs.Families.{still_alive}
use Rattle.kern_laws.proofs.Nexts.{reaped_keeps}
use Rattle.kern_laws.proofs.Remembering.{alive_ignoring, alive_still, alive_working}
use Rattle.kern_laws.proofs.Tasks.{each_with, found_fits}
use Rattle.kern_tasks.specs.Calm.{is_kill, is_over, may_end}

-- who is alive stays so, but behind an answer that ends the caller
abbrev Stays : Plain → Answer → Type 0
Stays plain Blocked = Unit {0}
Stays plain (Done reply next) = (other : ℕ) → is_alive plain.table other ≡ true → is_alive next.table other ≡ true
Stays plain (Part moved next) = (other : ℕ) → is_alive plain.table other ≡ true → is_alive next.table other ≡ true
Stays plain (answer.Ended status next) = Unit {0}

-- by its shape: another process is ended by `kill` alone
by_shape : (script : Script) (plain : Plain) (pid : ℕ) (which : Call) (given : Answer) → is_kill (kind_of which) ≡ false → HasShape script plain pid which given → Stays plain given
by_shape script plain pid which given calm (shape.blocks may is) = subst (Stays plain) (sym is) tt
by_shape script plain pid which given calm (shape.fails errno apart is) = subst (Stays plain) (sym is) (λ other alive. alive)
by_shape script plain pid which given calm (shape.tells files reply said is) = subst (Stays plain) (sym is) (λ other alive. alive)
by_shape script plain pid which given calm (shape.puts files memory reply said put is) = subst (Stays plain) (sym is) (λ other alive. alive_still plain.table pid other memory ∙ alive)
by_shape script plain pid which given calm (shape.moves path directory of entered is) = subst (Stays plain) (sym is) (λ other alive. alive_working plain.table pid other directory ∙ alive)
by_shape script plain pid which given calm (shape.disposes signal disposition ignores before of is) = subst (Stays plain) (sym is) (λ other alive. alive_ignoring plain.table pid other ignores ∙ alive)
by_shape script plain pid which given calm (shape.parts files moved part is) = subst (Stays plain) (sym is) (λ other alive. alive)
by_shape script plain pid which given calm (shape.awaits files begun is) = subst (Stays plain) (sym is) (λ other alive. alive)
by_shape script plain pid which given calm (shape.starts place is) = subst (Stays plain) (sym is) (λ other alive. alive_still plain.table pid other no_memory ∙ alive)
by_shape script plain pid which given calm (shape.forks is) = subst (Stays plain) (sym is) (λ other alive. still_alive plain.table (child_of pid (process_at plain.table pid)) other alive)
by_shape script plain pid which given calm (shape.reaps child status ended is) = subst (Stays plain) (sym is) (λ other alive. reaped_keeps plain.table child other ended alive)
by_shape script plain pid which given calm (shape.ends status is) = subst (Stays plain) (sym is) tt
by_shape script plain pid which given calm (shape.ends_another target signal of first own lives is) =
    absurd (kills (ap (λ w. is_kill (kind_of w)) (sym of) ∙ calm))
  where
    kills : true ≡ false → ⊥
    kills e = cc

-- a call that isn't `kill` ends nobody else
stays : (script : Script) (plain : Plain) (pid : ℕ) (which : Call) → is_kill (kind_of which) ≡ false → Stays plain (machine script plain pid which)
stays script plain pid which calm = by_shape script plain pid which (machine script plain pid which) calm (machine_shape script plain pid which)

-- behind a turn that isn't the caller's last
told_stays : (answer : Answer) (old new : Plain) (told : Turned) → Tells answer old told new → Stays old answer → is_over told ≡ false
    → (other : ℕ) → is_alive old.table other ≡ true → is_alive new.table other ≡ true
told_stays Blocked old new told tells stay calm other alive = ap (λ p. is_alive p.table other) tells.1 ∙ alive
told_stays (Done reply next) old new told tells stay calm other alive = ap (λ p. is_alive p.table other) tells.1 ∙ stay other alive
told_stays (Part moved next) old new told tells stay calm other alive = ap (λ p. is_alive p.table other) tells.1 ∙ stay other alive
told_stays (answer.Ended status next) old new told tells stay calm other alive = absurd (over (ap is_over (sym tells.0) ∙ calm))
  where
    over : true ≡ false → ⊥
    over e = cc

-- a task that is left as it is
record IsCalm (new : Plain) (task : Task) : Type 0 where
  same : bury new task ≡ task
  there : is_dead task.phase ≡ false

lives_calm : (new : Plain) (task : Task) → is_alive new.table task.pid ≡ true → is_dead task.phase ≡ false → IsCalm new task
lives_calm new task alive there = record { same = ap (λ b. cond b task (record task { phase = stranded task.phase })) alive; there = there }

kept : (new : Plain) (tasks : List Task) → AllByRecursion (IsCalm new) tasks → buried new tasks ≡ tasks
kept new [] all = refl
kept new (task ∷ tasks) all =
    ap (λ t. filter (λ task. not (is_dead task.phase)) (t ∷ map (bury new) tasks)) all.0.same
    ∙ ap (λ b. cond (not b) (task ∷ buried new tasks) (buried new tasks)) all.0.there ∙ ap (λ ts. task ∷ ts) (kept new tasks all.1)

-- a task of another process
other_calm : (script : Script) (old new : Plain) (task : Task) → ((other : ℕ) → is_alive old.table other ≡ true → is_alive new.table other ≡ true)
    → TaskFits script old task → IsCalm new task
other_calm script old new task stay fits = go task.phase refl fits.phase
  where
    alive_phase : (p : Phase) → task.phase ≡ p → is_dead p ≡ false → is_alive old.table task.pid ≡ true → IsCalm new task
    alive_phase p is there alive = lives_calm new task (stay task.pid alive) (ap is_dead is ∙ there)

    stranded_stays : (b : Bool) (asked : Asked) → task.phase ≡ Stranded asked → cond b task (record task { phase = stranded task.phase }) ≡ task
    stranded_stays true asked is = refl
    stranded_stays false asked is = ap (λ p. record task { phase = p }) (ap stranded is ∙ sym is)

    go : (p : Phase) → task.phase ≡ p → PhaseFits script old task.pid p → IsCalm new task
    go User is fit = alive_phase User is refl fit
    go (Waiting asked) is fit = alive_phase (Waiting asked) is refl fit.0
    go (Admitted asked) is fit = alive_phase (Admitted asked) is refl fit.0
    go (Asleep asked) is fit = alive_phase (Asleep asked) is refl fit.0
    go (Stranded asked) is fit = record { same = stranded_stays (is_alive new.table task.pid) asked is; there = ap is_dead is }
    go Dead is fit = absurd fit

-- what a turn that isn't the last leaves of its own task
own_there : (asked : Asked) (told : Turned) → is_over told ≡ false → is_dead (phase_after asked told) ≡ false
own_there asked (turned.Done _) calm = refl
own_there asked (turned.Part _) calm = refl
own_there asked turned.Sleep calm = refl
own_there asked (turned.Ended _) calm = cc
own_there asked turned.Gone calm = cc

neither : (a b : Bool) → (a || b) ≡ false → (a ≡ false) × (b ≡ false)
neither true b e = cc
neither false true e = cc
neither false false e = (refl, refl)

-- a turn that ends nobody leaves all tasks
pub calm : (script script' : Script) (s : CoreState) (pid : ℕ) (which : Call) (told : Turned) (world : World) (asked : Asked) (items placed : List Task)
    (phase : Phase) (ends : Bool) → IsSound script s → (enabled : IsIn s pid Admitted) → enabled.asked ≡ asked → which ≡ next_call script s pid
    → TurnsTo script s.world pid which told world → s.tasks ≡ items → script' ≡ script → phase ≡ phase_after (asked_by script' world.plain pid) told
    → placed ≡ with_phase_in items pid phase → ends ≡ may_end asked.kind told → ends ≡ false → buried world.plain placed ≡ placed
calm script script' s pid which told world asked items placed phase ends sound enabled asked_is which_is turns items_are same phase_is placed_is ends_is none =
    let old = s.world.plain in
    let new = world.plain in
    let fits = found_fits script old s.tasks pid (Admitted enabled.asked) sound.each enabled.is (λ e. (cc)) in
    let answers : Answers script s.world pid which told world = subst (λ b. TurnsWhere b script s.world pid which told world) fits.phase.0 turns in
    let quiet = neither (is_kill asked.kind) (is_over told) (sym ends_is ∙ none) in
    let kind : kind_of which ≡ asked.kind = ap kind_of which_is ∙ ap (λ a. a.kind) (sym fits.phase.1.same) ∙ ap (λ a. a.kind) asked_is in
    let stay = told_stays (machine script old pid which) old new told answers.answer (stays script old pid which (ap is_kill kind ∙ quiet.0)) quiet.1 in
    let there : is_dead phase ≡ false = ap is_dead phase_is ∙ own_there (asked_by script' new pid) told quiet.1 in
    let each = each_with (TaskFits script old) (IsCalm new) 0 s.tasks pid phase sound.rising
    (λ task apart fit. other_calm script old new task stay fit)
    (λ task is fit. subst (λ p. IsCalm new (record { pid = p; phase = phase })) (sym is) (lives_calm new (record { pid = pid; phase = phase }) (stay pid fits.phase.0) there)) sound.each in
    let tasks : placed ≡ with_phase_in s.tasks pid phase = placed_is ∙ ap (λ ts. with_phase_in ts pid phase) (sym items_are) in
    ap (buried new) tasks ∙ kept new (with_phase_in s.tasks pid phase) each ∙ sym tasks
