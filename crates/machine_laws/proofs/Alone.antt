-- Whatever another process's call is answered, a process that lives before it and after it keeps its own.
use Rattle.std.proofs.Common.{◌≡◌, ◌≢◌, ℕ, ◌+◌, ◌≤◌, ◌==◌, ℤ, pos, negsuc, Bool, true, false, cond, [], ◌∷◌, length, Option, None, Some, unwrap_or, refl, ap, sym, ◌∙◌, subst, inl, inr, arith}
use Rattle.std.proofs.lemmas.Bool.Decides.{eqb_tells}
use Rattle.kabi_types.specs.Arguments.{argument_fault, count_of}
use Rattle.kabi_types.specs.declared.calls.Call.{Call}
use Rattle.kabi_types.specs.declared.calls.Call.TheVariants as calls
use Rattle.kabi_types.specs.declared.errnos.Errno.{Errno}
use Rattle.kabi_types.specs.declared.errnos.Errno.TheVariants.{EAGAIN, ENOMEM, EPERM, ESRCH}
use Rattle.kabi_types.specs.declared.replies.Reply.{Reply}
use Rattle.kabi_types.specs.declared.replies.Reply.TheVariants.{Fail, Val, Waited}
use Rattle.kabi_types.specs.declared.scripts.Control.{Control}
use Rattle.kabi_types.specs.declared.scripts.Script.{Script}
use Rattle.posix_defs.specs.Answer as answer
use Rattle.posix_defs.specs.Answer.{Answer, failed, replied}
use Rattle.posix_defs.specs.Control as program
use Rattle.posix_defs.specs.Ending.{closed_by, die, die_in}
use Rattle.posix_defs.specs.Forking.{child_of, is_full, with_child}
use Rattle.posix_defs.specs.Killing.{is_asking, is_ended_by, kill, sent_to, struck}
use Rattle.posix_defs.specs.Machine.{machine, unless_wrong}
use Rattle.posix_defs.specs.Memory.{no_memory}
use Rattle.posix_defs.specs.Plain.{Plain, answered, at_start, control_of, last_pid, with_control, with_files}
use Rattle.posix_defs.specs.Process.{Process, ignoring, is_alive, is_alive_in, process_at, remembering, working_in}
use Rattle.posix_defs.specs.Files.State.{Files, with_heir}
use Rattle.answer_laws.specs.Shapes as shape
use Rattle.answer_laws.specs.Shapes.{HasShape}
use Rattle.answer_laws.proofs.Shapes.{machine_shape}
use Rattle.kern_laws.proofs.Families.{alive_there}
use Rattle.kern_laws.proofs.TablePlaces.{same_in_front, was_made}
use Rattle.machine_laws.specs.Described.{AreDescribed}
use Rattle.machine_laws.specs.FileSteps.{IsStep, LeadsTo, Steps, may_end_other}
use Rattle.machine_laws.specs.Placed.{IsPlaced}
use Rattle.machine_laws.specs.Reached.{IsReached}
use Rattle.machine_laws.proofs.Naming.{answers_described, die_described}
use Rattle.machine_laws.proofs.Reaches.{reached_keeps}
use Rattle.machine_laws.proofs.Stepping.{step_of}
use Rattle.machine_laws.specs.Own.{IsLeftAlone}
use Rattle.machine_laws.proofs.Numbers.{Spares, ends, execs, has_heir, leaves_spare, names_same, names_still, step_spares}
use Rattle.machine_laws.proofs.Signalled.{ended_runs}
use Rattle.machine_laws.proofs.Tables.{KeepsPlace, at_front, at_other, die_place, ended_dead, none_alive, other_place, same_place, true_false}

-- What a process keeps of table, controls and files.
pub record Parts (pid who : ℕ) (old new : Plain) : Type 0 where
  pub process : KeepsPlace who old.table new.table
  pub control : control_of new who ≡ control_of old who
  pub files : Spares pid who old.files new.files

-- it is left alone where also all that is named is there
pub left_alone : (pid who : ℕ) (old new : Plain) → Parts pid who old new → AreDescribed new.files → IsLeftAlone pid who old new
left_alone pid who old new parts described = record {
  own = record {
    memory = (let process = parts.process in process.memory);
    directory = (let process = parts.process in process.directory);
    ignores = (let process = parts.process in process.ignores);
    control = parts.control;
    numbers = (let files = parts.files in files.numbers);
    waits = (let files = parts.files in files.waits);
    names = names_still pid who old.files new.files parts.files described;
  };
  unshared = λ fd was named none. names_same pid who old.files new.files parts.files described fd was named none;
}

-- of another than who goes on the control stays
other_control : (plain base : Plain) (pid who : ℕ) (control : Control) → who ≢ pid → control_of base who ≡ control_of plain who → control_of (with_control base pid control) who ≡ control_of plain who
other_control plain base pid who control apart same = ap (λ found. unwrap_or found (at_start 0)) (at_other base.controls pid who control apart) ∙ same

-- another process ends, which isn't the caller or is
pub die_parts : (plain : Plain) (pid target status who : ℕ) → who ≢ target → is_alive plain.table who ≡ true → is_alive (die_in plain.table target status) who ≡ true
    → Parts pid who plain (die plain target status)
die_parts plain pid target status who apart alive still = record {
  process = die_place plain.table target status who apart alive still;
  control = refl;
  files = leaves_spare pid who plain.files (closed_by plain.files target) (ends who target plain.files apart (λ first. true_false
      (subst (λ t. is_alive (die_in plain.table t status) who ≡ true) first still) (none_alive plain.table who)));
}

module _ (script : Script) (plain : Plain) (pid who : ℕ) (apart : who ≢ pid) where
  -- its caller goes on behind a call, whatever else has changed
  pub goes_on : (base : Plain) (said : Reply) → Parts pid who plain base → Parts pid who plain (answered script base pid said)
  goes_on base said parts = record {
    process = parts.process;
    control = other_control plain base pid who (program.after script (control_of base pid) said) apart parts.control;
    files = parts.files;
  }

  pub nothing : Parts pid who plain plain
  nothing = record {
    process = same_place who plain.table plain.table refl;
    control = refl;
    files = leaves_spare pid who plain.files plain.files (record { numbers = refl; each = λ place was is. inl is; waits = refl });
  }

  with_new : (files : Files) → Spares pid who plain.files files → Parts pid who plain (with_files plain files)
  with_new files spares = record { process = same_place who plain.table plain.table refl; control = refl; files = spares }

  -- what is asked of an answer: it holds if the process lives still
  abbrev Sparing : Answer → Type 0
  Sparing given = LeadsTo (λ next. is_alive next.table who ≡ true → Parts pid who plain next) given

  module _ (placed : IsPlaced plain) (alive : is_alive plain.table who ≡ true) where
    made : who ≤ length plain.table
    made = let there = alive_there plain.table who alive in let it = was_made plain.table who there.0 there.1 in it.1

    forks : (said : Reply) → Parts pid who plain (answered script (with_child script plain pid) pid said)
    forks said = goes_on (with_child script plain pid) said (record {
      process = same_place who plain.table (with_child script plain pid).table (same_in_front plain.table (child_of pid (process_at plain.table pid)) who made);
      control = ap (λ found. unwrap_or found (at_start 0)) (at_front plain.controls (program.after script (control_of plain pid) (Val (pos 0)) ∷ []) who (let h = made in let c : length plain.table ≡ last_pid plain = placed.counted in omega arith));
      files = leaves_spare pid who plain.files (with_heir plain.files pid) (has_heir who pid plain.files
          (let h = made in let c : length plain.table ≡ last_pid plain = placed.counted in let d : length plain.files.descriptors ≡ last_pid plain = (let places = placed.places in places.counted) in omega arith)
          (let h = made in let c : length plain.table ≡ last_pid plain = placed.counted in let d : length plain.files.openings ≡ last_pid plain = (let places = placed.places in places.openings) in omega arith));
    })

    -- a process is ended, by its own call or by another's
    ended : (target status : ℕ) → is_alive plain.table target ≡ true → is_alive (die_in plain.table target status) who ≡ true → Parts pid who plain (die plain target status)
    ended target status lived still = elim (eqb_tells who target) [
      | inr other ↦ die_parts plain pid target status who other.1 alive still
      | inl alike ↦ absurd (true_false still (ap (is_alive (die_in plain.table target status)) alike.1 ∙ ended_dead plain.table target status lived))
    ]

    by_shape : (call : Call) → is_alive plain.table pid ≡ true → (given : Answer) → ((files : Files) → IsStep plain pid call true files → Spares pid who plain.files files)
        → Steps plain pid call given → HasShape script plain pid call given → Sparing given
    by_shape call lives given spared stepped (shape.blocks may is) = subst Sparing (sym is) tt
    by_shape call lives given spared stepped (shape.fails errno other is) = subst Sparing (sym is) (λ still. goes_on plain (Fail errno) nothing)
    by_shape call lives given spared stepped (shape.tells files said is_said is) = subst Sparing (sym is) (λ still.
        goes_on (with_files plain files) said (with_new files (spared files (subst (Steps plain pid call) is stepped))))
    by_shape call lives given spared stepped (shape.puts files memory said is_said put is) = subst Sparing (sym is) (λ still.
        goes_on _ said (record {
          process = other_place who pid plain.table (remembering memory (process_at plain.table pid)) apart;
          control = refl;
          files = spared files (subst (Steps plain pid call) is stepped);
        }))
    by_shape call lives given spared stepped (shape.moves path directory called led is) = subst Sparing (sym is) (λ still.
        goes_on _ (Val (pos 0)) (record {
          process = other_place who pid plain.table (working_in directory (process_at plain.table pid)) apart;
          control = refl;
          files = (let none = nothing in none.files);
        }))
    by_shape call lives given spared stepped (shape.disposes signal disposition ignores before called is) = subst Sparing (sym is) (λ still.
        goes_on _ (Val (pos before)) (record {
          process = other_place who pid plain.table (ignoring ignores (process_at plain.table pid)) apart;
          control = refl;
          files = (let none = nothing in none.files);
        }))
    by_shape call lives given spared stepped (shape.parts files moved part is) = subst Sparing (sym is) (λ still. record {
      process = same_place who plain.table plain.table refl;
      control = other_control plain (with_files plain files) pid who _ apart refl;
      files = spared files (subst (Steps plain pid call) is stepped);
    })
    by_shape call lives given spared stepped (shape.awaits files begun is) = subst Sparing (sym is) (λ still. record {
      process = same_place who plain.table plain.table refl;
      control = other_control plain (with_files plain files) pid who _ apart refl;
      files = spared files (subst (Steps plain pid call) is stepped);
    })
    by_shape call lives given spared stepped (shape.starts place is) = subst Sparing (sym is) (λ still. record {
      process = other_place who pid plain.table (remembering no_memory (process_at plain.table pid)) apart;
      control = other_control plain plain pid who (program.restarted (program.settled script (control_of plain pid)) place) apart refl;
      files = leaves_spare pid who plain.files _ (execs who pid plain.files apart);
    })
    by_shape call lives given spared stepped (shape.forks is) = subst Sparing (sym is) (λ still. forks (Val (pos (last_pid plain + 1))))
    by_shape call lives given spared stepped (shape.reaps child status over is) = subst Sparing (sym is) (λ still.
        goes_on _ (Waited child status) (record {
          process = other_place who child plain.table None (λ same. true_false (ap (is_alive plain.table) (sym same) ∙ alive) over);
          control = refl;
          files = (let none = nothing in none.files);
        }))
    by_shape call lives given spared stepped (shape.ends status is) = subst Sparing (sym is) (λ still. ended pid status lives still)
    by_shape call lives given spared stepped (shape.ends_another target signal called first own lived is) = subst Sparing (sym is) (λ still.
        goes_on (die plain target (count_of signal)) (Val (pos 0)) (ended target (count_of signal) lived still))

    -- ---- calls that make or end a process

    either : (b : Bool) (one two : Answer) → Sparing one → Sparing two → Sparing (cond b one two)
    either true one two this that = this
    either false one two this that = that

    fails : (errno : Errno) → Sparing (failed script plain pid errno)
    fails errno still = goes_on plain (Fail errno) nothing

    fork_spares : Sparing (machine script plain pid calls.Fork)
    fork_spares = either (is_full plain) (failed script plain pid EAGAIN) (replied script (with_child script plain pid) pid (Val (pos (last_pid plain + 1))))
        (fails EAGAIN) (λ still. forks (Val (pos (last_pid plain + 1))))

    unless_fault : (fault : Option Errno) (given : Answer) → Sparing given → Sparing (unless_wrong script plain pid fault given)
    unless_fault None given rest = rest
    unless_fault (Some errno) given rest = fails errno

    kill_spares : is_alive plain.table pid ≡ true → (target signal : ℤ) → Sparing (kill script plain pid target signal)
    kill_spares lives (negsuc n) signal = fails ESRCH
    kill_spares lives (pos target) signal = go (process_at plain.table target) refl
      where
        strikes : is_alive plain.table target ≡ true → Sparing (struck script plain pid target (count_of signal))
        strikes lived = either (target == pid) _ _ (λ still. ended pid (count_of signal) lives still) (λ still. goes_on (die plain target (count_of signal)) (Val (pos 0)) (ended target (count_of signal) lived still))

        by_life : (b : Bool) → (b ≡ true → is_alive plain.table target ≡ true) → Sparing (cond b (struck script plain pid target (count_of signal)) (replied script plain pid (Val (pos 0))))
        by_life true lived = strikes (lived refl)
        by_life false over = λ still. goes_on plain (Val (pos 0)) nothing

        go : (o : Option Process) → process_at plain.table target ≡ o → Sparing (sent_to script plain pid target signal o)
        go None is = fails ESRCH
        go (Some process) is = either (is_asking signal) _ _ (λ still. goes_on plain (Val (pos 0)) nothing)
            (either (target == 1) _ _ (fails EPERM) (by_life (is_ended_by (count_of signal) process) (λ ended. ap is_alive_in is ∙ ended_runs (count_of signal) process ended)))

    -- every other call
    other_spares : (call : Call) → is_alive plain.table pid ≡ true → call ≢ calls.Fork → may_end_other call ≡ false → Sparing (machine script plain pid call)
    other_spares call lives no_fork no_other = by_shape call lives (machine script plain pid call) (λ files stepped. step_spares plain pid who call files apart no_fork no_other stepped)
        (step_of script plain pid call) (machine_shape script plain pid call)

    -- whose call is `fork`, or may end another
    pub data Kind (call : Call) : Type 0 where
      makes : call ≡ calls.Fork → Kind call
      kills : (target signal : ℤ) → call ≡ calls.Kill target signal → Kind call
      else_ : call ≢ calls.Fork → may_end_other call ≡ false → Kind call

    kind_of : (call : Call) → Kind call
    kind_of calls.Fork = makes refl
    kind_of (calls.Kill target signal) = kills target signal refl
    kind_of _ = else_ (λ same. cc) refl

    pub answers_spare : is_alive plain.table pid ≡ true → (call : Call) → Sparing (machine script plain pid call)
    answers_spare lives call = go (kind_of call)
      where
        go : Kind call → Sparing (machine script plain pid call)
        go (makes is) = subst (λ c. Sparing (machine script plain pid c)) (sym is) fork_spares
        go (kills target signal is) = subst (λ c. Sparing (machine script plain pid c)) (sym is)
            (unless_fault (argument_fault (calls.Kill target signal)) (kill script plain pid target signal) (kill_spares lives target signal))
        go (else_ no_fork no_other) = other_spares call lives no_fork no_other

pub answers_leave_alone : (script : Script) (plain : Plain) → IsReached script plain → (pid who : ℕ) (call : Call) → is_alive plain.table pid ≡ true
    → who ≢ pid → is_alive plain.table who ≡ true
    → LeadsTo (λ next. is_alive next.table who ≡ true → IsLeftAlone pid who plain next) (machine script plain pid call)
answers_leave_alone script plain reached pid who call lives apart alive = both (machine script plain pid call)
    (answers_spare script plain pid who apart kept.0 alive lives call) (answers_described script plain pid call kept.0 kept.1 lives)
  where
    kept : IsPlaced plain × AreDescribed plain.files
    kept = reached_keeps reached

    both : (given : Answer) → LeadsTo (λ next. is_alive next.table who ≡ true → Parts pid who plain next) given → LeadsTo (λ next. AreDescribed next.files) given
        → LeadsTo (λ next. is_alive next.table who ≡ true → IsLeftAlone pid who plain next) given
    both answer.Blocked parts described = tt
    both (answer.Done reply next) parts described = λ still. left_alone pid who plain next (parts still) described
    both (answer.Part moved next) parts described = λ still. left_alone pid who plain next (parts still) described
    both (answer.Ended status next) parts described = λ still. left_alone pid who plain next (parts still) described

pub refused_leaves_alone : (script : Script) (plain : Plain) → IsReached script plain → (pid who : ℕ) → who ≢ pid → IsLeftAlone pid who plain (answered script plain pid (Fail ENOMEM))
refused_leaves_alone script plain reached pid who apart = let kept = reached_keeps reached in
    left_alone pid who plain (answered script plain pid (Fail ENOMEM)) (goes_on script plain pid who apart plain (Fail ENOMEM) (nothing script plain pid who apart)) kept.1

pub killed_leaves_alone : (script : Script) (plain : Plain) → IsReached script plain → (pid status who : ℕ) → who ≢ pid → is_alive plain.table who ≡ true
    → is_alive (die plain pid status).table who ≡ true → IsLeftAlone pid who plain (die plain pid status)
killed_leaves_alone script plain reached pid status who apart alive still = let kept = reached_keeps reached in
    left_alone pid who plain (die plain pid status) (die_parts plain pid pid status who apart alive still) (die_described plain pid status kept.1)
