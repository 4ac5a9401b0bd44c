-- What signals that may be ignored do to processes, by the shapes of answers.
use Rattle.std.proofs.Common.{◌≡◌, ◌≢◌, ℕ, zero, suc, ◌==◌, ◌&&◌, ◌||◌, ℤ, pos, negsuc, Bool, true, false, not, cond, [], ◌∷◌, ◌++◌, map, Option, None, Some, refl, ap, sym, ◌∙◌, subst, inl, inr}
use Rattle.std.proofs.lemmas.Bool.Decides.{eqb_tells}
use Rattle.kabi_types.specs.Arguments.{argument_fault, count_of, is_number}
use Rattle.kabi_types.specs.declared.calls.Call.{Call}
use Rattle.kabi_types.specs.declared.calls.Call.TheVariants as calls
use Rattle.kabi_types.specs.declared.errnos.Errno.{Errno}
use Rattle.kabi_types.specs.declared.errnos.Errno.TheVariants.{EPERM}
use Rattle.kabi_types.specs.declared.replies.Reply.{Reply}
use Rattle.kabi_types.specs.declared.replies.Reply.TheVariants.{Val}
use Rattle.kabi_types.specs.declared.scripts.Script.{Script}
use Rattle.posix_defs.specs.Answer.{Answer, Blocked, Done, Ended, Part, failed, replied}
use Rattle.posix_defs.specs.ByPid.{with_pid}
use Rattle.posix_defs.specs.Ending.{die, die_in, ended_as, leaves, left_behind, left_child}
use Rattle.posix_defs.specs.Forking.{child_of}
use Rattle.posix_defs.specs.Killing.{is_asking, is_ended_by, kill, sent_to, struck}
use Rattle.posix_defs.specs.Killing as killing
use Rattle.posix_defs.specs.Machine.{answer_to, machine, unless_wrong}
use Rattle.posix_defs.specs.Memory.{Memory, no_memory}
use Rattle.posix_defs.specs.Plain.{Plain, boot_plain, first_process}
use Rattle.posix_defs.specs.Process.{Alive, Ended as HasEnded, Ignores, Process, Status, Table, ignores_both, ignores_in, ignores_of, is_alive, process_at, remembering, runs, working_in}
use Rattle.posix_defs.specs.Signals.{is_ignored, sigpipe}
use Rattle.posix_defs.specs.Calls.Writing.{write, write_ends}
use Rattle.posix_defs.proofs.SignalLemmas.{ends_by, ignoring_goes_on, of_write, write_goes_on}
use Rattle.answer_laws.specs.Shapes as shape
use Rattle.answer_laws.specs.Shapes.{HasShape}
use Rattle.answer_laws.proofs.Shapes.{machine_shape}
use Rattle.kern_laws.proofs.Families.{others_live}
use Rattle.kern_laws.proofs.TablePlaces.{each_changed, in_longer}
use Rattle.machine_laws.specs.FileSteps.{LeadsTo}
use Rattle.machine_laws.specs.Signals.{AllIgnore, EndsByPipe, answer_before, kill_before, machine_before, minds_no_signal, sent_before}
use Rattle.machine_laws.proofs.ProcessesKept.{at_with}
use Rattle.machine_laws.proofs.Quiet as quiet
use Rattle.machine_laws.proofs.Quiet.{Told, writes_told}

-- ---- who ignores a signal

abbrev Stays : Plain → Answer → Type 0
Stays plain given = LeadsTo (λ next. next.table ≡ plain.table) given

-- who ignores it isn't ended by it
not_ended : (signal : ℕ) (process : Process) → is_ignored process.ignores signal ≡ true → is_ended_by signal process ≡ false
not_ended signal process ignores = go (runs process.status) (is_ignored process.ignores signal) ignores
  where
    go : (a b : Bool) → b ≡ true → (a && not b) ≡ false
    go true true e = refl
    go false true e = refl
    go a false e = cc

pub sent_leaves : (script : Script) (plain : Plain) (pid target : ℕ) (signal : ℤ) → is_ignored (ignores_of plain.table target) (count_of signal) ≡ true
    → LeadsTo (λ next. next.table ≡ plain.table) (machine script plain pid (calls.Kill (pos target) signal))
sent_leaves script plain pid target signal ignores = right (argument_fault (calls.Kill (pos target) signal))
  where
    running : (process : Process) (b : Bool) → b ≡ false → Stays plain (cond b (struck script plain pid target (count_of signal)) (replied script plain pid (Val (pos 0))))
    running process true e = cc
    running process false e = refl

    first : (process : Process) → is_ended_by (count_of signal) process ≡ false → (b : Bool)
        → Stays plain (cond b (failed script plain pid EPERM) (killing.ends script plain pid target (count_of signal) process))
    first process spared true = refl
    first process spared false = running process (is_ended_by (count_of signal) process) spared

    asks : (process : Process) → is_ended_by (count_of signal) process ≡ false → (b : Bool)
        → Stays plain (cond b (replied script plain pid (Val (pos 0))) (cond (target == 1) (failed script plain pid EPERM) (killing.ends script plain pid target (count_of signal) process)))
    asks process spared true = refl
    asks process spared false = first process spared (target == 1)

    go : (o : Option Process) → process_at plain.table target ≡ o → Stays plain (sent_to script plain pid target signal o)
    go None is = refl
    go (Some process) is =
        asks process (not_ended (count_of signal) process (ap (λ o. is_ignored (ignores_in o) (count_of signal)) (sym is) ∙ ignores)) (is_asking signal)

    right : (fault : Option Errno) → Stays plain (unless_wrong script plain pid fault (kill script plain pid (pos target) signal))
    right None = go (process_at plain.table target) refl
    right (Some e) = refl

blocked_ended : (status : ℕ) (next : Plain) → Blocked ≡ Ended status next → ⊥
blocked_ended status next e = cc

done_ended : (said : Reply) (plain : Plain) (status : ℕ) (next : Plain) → Done said plain ≡ Ended status next → ⊥
done_ended said plain status next e = cc

part_ended : (moved : ℕ) (plain : Plain) (status : ℕ) (next : Plain) → Part moved plain ≡ Ended status next → ⊥
part_ended moved plain status next e = cc

-- what leaves the table of processes ends nobody
told_goes_on : (script : Script) (plain : Plain) (pid status : ℕ) (next : Plain) (given : Answer) → Told script plain pid given → given ≢ Ended status next
told_goes_on script plain pid status next _ quiet.blocks = λ e. blocked_ended status next e
told_goes_on script plain pid status next _ (quiet.fails e) = λ f. done_ended _ _ status next f
told_goes_on script plain pid status next _ (quiet.tells files said) = λ e. done_ended _ _ status next e
told_goes_on script plain pid status next _ (quiet.parts files moved) = λ e. part_ended _ _ status next e

-- a write that ends its caller
abbrev Ends : Plain → (pid done status : ℕ) → Plain → Answer → Type 0
Ends plain pid done status next given = given ≡ Ended status next → EndsByPipe plain pid done status next

pub write_ends_so : (script : Script) (plain : Plain) (pid : ℕ) (fd addr n : ℤ) (done status : ℕ) (next : Plain)
    → machine script plain pid (calls.Write fd addr n done) ≡ Ended status next → EndsByPipe plain pid done status next
write_ends_so script plain pid fd addr n done status next is = right (argument_fault (calls.Write fd addr n done)) is
  where
    zero_is : (m : ℕ) → (m == 0) ≡ true → m ≡ 0
    zero_is m e = elim (eqb_tells m 0) [ inl same ↦ same.1 | inr apart ↦ absurd (let f = apart.0 in cc) ]

    ended : write_ends plain pid fd addr n done ≡ true → Ends plain pid done status next (Ended sigpipe (die plain pid sigpipe))
    ended ends e = let by = ends_by script plain pid fd addr n done ends in record {
      nothing_moved = zero_is done by.1;
      heeded = by.0;
      signal = (let f = e in cc);
      ended = (let f = e in cc);
    }

    right : (fault : Option Errno) → Ends plain pid done status next (unless_wrong script plain pid fault (write script plain pid fd addr n done))
    right None = of_write script plain pid fd addr n done (Ends plain pid done status next) ended
        (λ goes e. absurd (told_goes_on script plain pid status next _ (writes_told script plain pid fd addr n done) e))
    right (Some errno) = λ e. absurd (told_goes_on script plain pid status next _ (quiet.fails errno) e)

pub ignoring_never_ends : (script : Script) (plain : Plain) (pid : ℕ) (fd addr n : ℤ) (done status : ℕ) (next : Plain) → (ignores_of plain.table pid).broken_pipe ≡ true
    → machine script plain pid (calls.Write fd addr n done) ≢ Ended status next
ignoring_never_ends script plain pid fd addr n done status next ignores is =
    let ends : EndsByPipe plain pid done status next = write_ends_so script plain pid fd addr n done status next is in
    both (ignores_of plain.table pid).broken_pipe ignores ends.heeded
  where
    both : (b : Bool) → b ≡ true → b ≡ false → ⊥
    both b e f = cc

-- ---- the first process

abbrev Lives : Answer → Type 0
Lives given = LeadsTo (λ next. is_alive next.table 1 ≡ true) given

spared : (table : Table) (target status : ℕ) → target ≢ 1 → is_alive table 1 ≡ true → is_alive (die_in table target status) 1 ≡ true
spared table zero status other alive = others_live table zero 1 status alive (λ e. cc)
spared table (suc zero) status other alive = absurd (other refl)
spared table (suc (suc n)) status other alive = others_live table (suc (suc n)) 1 status alive (λ same. other (sym same))

pub kill_spares_first : (script : Script) (plain : Plain) (pid : ℕ) (target signal : ℤ) → is_alive plain.table 1 ≡ true
    → LeadsTo (λ next. is_alive next.table 1 ≡ true) (machine script plain pid (calls.Kill target signal))
kill_spares_first script plain pid target signal alive = right (argument_fault (calls.Kill target signal))
  where
    strikes : (at : ℕ) → at ≢ 1 → (own : Bool) → (at == pid) ≡ own
        → Lives (cond own (Ended (count_of signal) (die plain pid (count_of signal))) (replied script (die plain at (count_of signal)) pid (Val (pos 0))))
    strikes at other true is = elim (eqb_tells at pid) [
      | inl same ↦ subst (λ who. is_alive (die_in plain.table who (count_of signal)) 1 ≡ true) same.1 (spared plain.table at (count_of signal) other alive)
      | inr apart ↦ absurd (let f = apart.0 in cc)
    ]
    strikes at other false is = spared plain.table at (count_of signal) other alive

    running : (at : ℕ) → at ≢ 1 → (b : Bool) → Lives (cond b (struck script plain pid at (count_of signal)) (replied script plain pid (Val (pos 0))))
    running at other true = strikes at other (at == pid) refl
    running at other false = alive

    first : (at : ℕ) (process : Process) (b : Bool) → (at == 1) ≡ b → Lives (cond b (failed script plain pid EPERM) (killing.ends script plain pid at (count_of signal) process))
    first at process true is = alive
    first at process false is =
        running at (λ same. elim (eqb_tells at 1) [ inl alike ↦ (let f = alike.0 in cc) | inr two ↦ two.1 same ]) (is_ended_by (count_of signal) process)

    asks : (at : ℕ) (process : Process) (b : Bool)
        → Lives (cond b (replied script plain pid (Val (pos 0))) (cond (at == 1) (failed script plain pid EPERM) (killing.ends script plain pid at (count_of signal) process)))
    asks at process true = alive
    asks at process false = first at process (at == 1) refl

    there : (at : ℕ) (o : Option Process) → Lives (sent_to script plain pid at signal o)
    there at None = alive
    there at (Some process) = asks at process (is_asking signal)

    sent : (target : ℤ) → Lives (kill script plain pid target signal)
    sent (negsuc n) = alive
    sent (pos at) = there at (process_at plain.table at)

    right : (fault : Option Errno) → Lives (unless_wrong script plain pid fault (kill script plain pid target signal))
    right None = sent target
    right (Some e) = alive

-- ---- where all ignore both

abbrev AllIn : Table → Type 0
AllIn table = (who : ℕ) → ignores_of table who ≡ ignores_both

pub boot_ignores : (script : Script) → AllIgnore (boot_plain script)
boot_ignores script = each
  where
    each : (who : ℕ) → ignores_of (Some first_process ∷ []) who ≡ ignores_both
    each zero = refl
    each (suc zero) = refl
    each (suc (suc n)) = refl

changed : (table : Table) (pid : ℕ) (there : Option Process) → ignores_in there ≡ ignores_both → AllIn table → AllIn (with_pid table pid there)
changed table pid there own all who = go (process_at (with_pid table pid there) who) refl
  where
    go : (o : Option Process) → process_at (with_pid table pid there) who ≡ o → ignores_of (with_pid table pid there) who ≡ ignores_both
    go None is = ap ignores_in is
    go (Some process) is = ap ignores_in is ∙ elim (at_with table pid there who process is) [
      | inl here ↦ sym (ap ignores_in here) ∙ own
      | inr old ↦ sym (ap ignores_in old) ∙ all who
    ]

remembers : (memory : Memory) (o : Option Process) → ignores_in (remembering memory o) ≡ ignores_in o
remembers memory None = refl
remembers memory (Some process) = refl

works : (directory : ℕ) (o : Option Process) → ignores_in (working_in directory o) ≡ ignores_in o
works directory None = refl
works directory (Some process) = refl

ends : (status : ℕ) (o : Option Process) → ignores_in (ended_as status o) ≡ ignores_in o
ends status None = refl
ends status (Some process) = refl

begins : (parent : ℕ) (o : Option Process) → ignores_in (child_of parent o) ≡ ignores_in o
begins parent None = refl
begins parent (Some process) = refl

left : (pid : ℕ) (o : Option Process) → ignores_in o ≡ ignores_both → ignores_in (left_behind pid o) ≡ ignores_both
left pid None e = refl
left pid (Some process) e = go (process.parent == pid) process.status
  where
    go : (b : Bool) (status : Status) → ignores_in (cond b (left_child status process) (Some process)) ≡ ignores_both
    go true Alive = e
    go true (HasEnded code) = refl
    go false status = e

left_all : (table : Table) (pid status : ℕ) → AllIn table → AllIn (leaves table pid status)
left_all table pid status all = changed (map (left_behind pid) table) pid (ended_as status (process_at table pid)) (ends status (process_at table pid) ∙ all pid)
    (λ who. ap ignores_in (each_changed (left_behind pid) table who refl) ∙ left pid (process_at table who) (all who))

pub die_all : (table : Table) (pid status : ℕ) → AllIn table → AllIn (die_in table pid status)
die_all table zero status all = left_all table zero status all
die_all table (suc zero) status all = λ who. ap ignores_in (each_changed (λ _. None) table who refl)
die_all table (suc (suc n)) status all = left_all table (suc (suc n)) status all

child_all : (table : Table) (pid : ℕ) → AllIn table → AllIn (table ++ child_of pid (process_at table pid) ∷ [])
child_all table pid all who = go (process_at (table ++ child_of pid (process_at table pid) ∷ []) who) refl
  where
    go : (o : Option Process) → process_at (table ++ child_of pid (process_at table pid) ∷ []) who ≡ o → ignores_of (table ++ child_of pid (process_at table pid) ∷ []) who ≡ ignores_both
    go None is = ap ignores_in is
    go (Some process) is = ap ignores_in is ∙ elim (in_longer table (child_of pid (process_at table pid)) who process is) [
      | inl old ↦ sym (ap ignores_in old.1) ∙ all who
      | inr last ↦ sym (ap ignores_in last.1) ∙ begins pid (process_at table pid) ∙ all pid
    ]

module _ (script : Script) (plain : Plain) (pid : ℕ) (all : AllIgnore plain) where
  by_shape : (call : Call) → ((which disposition : ℤ) → call ≢ calls.Signal which disposition) → (given : Answer) → HasShape script plain pid call given → LeadsTo AllIgnore given
  by_shape call other given (shape.blocks may is) = subst (LeadsTo AllIgnore) (sym is) tt
  by_shape call other given (shape.fails errno apart is) = subst (LeadsTo AllIgnore) (sym is) all
  by_shape call other given (shape.tells files said is_said is) = subst (LeadsTo AllIgnore) (sym is) all
  by_shape call other given (shape.puts files memory said is_said put is) = subst (LeadsTo AllIgnore) (sym is)
      (changed plain.table pid (remembering memory (process_at plain.table pid)) (remembers memory (process_at plain.table pid) ∙ all pid) all)
  by_shape call other given (shape.moves path directory called led is) = subst (LeadsTo AllIgnore) (sym is)
      (changed plain.table pid (working_in directory (process_at plain.table pid)) (works directory (process_at plain.table pid) ∙ all pid) all)
  by_shape call other given (shape.disposes signal disposition ignores before called is) = absurd (other signal disposition called)
  by_shape call other given (shape.parts files moved part is) = subst (LeadsTo AllIgnore) (sym is) all
  by_shape call other given (shape.awaits files begun is) = subst (LeadsTo AllIgnore) (sym is) all
  by_shape call other given (shape.starts place is) = subst (LeadsTo AllIgnore) (sym is)
      (changed plain.table pid (remembering no_memory (process_at plain.table pid)) (remembers no_memory (process_at plain.table pid) ∙ all pid) all)
  by_shape call other given (shape.forks is) = subst (LeadsTo AllIgnore) (sym is) (child_all plain.table pid all)
  by_shape call other given (shape.reaps child status over is) = subst (LeadsTo AllIgnore) (sym is) (changed plain.table child None refl all)
  by_shape call other given (shape.ends status is) = subst (LeadsTo AllIgnore) (sym is) (die_all plain.table pid status all)
  by_shape call other given (shape.ends_another target signal called first own lives is) = subst (LeadsTo AllIgnore) (sym is) (die_all plain.table target (count_of signal) all)

  pub stay_ignoring : (call : Call) → ((which disposition : ℤ) → call ≢ calls.Signal which disposition) → LeadsTo AllIgnore (machine script plain pid call)
  stay_ignoring call other = by_shape call other (machine script plain pid call) (machine_shape script plain pid call)

  -- ---- as before

  -- SIGKILL ends who runs
  nine : (target : ℕ) (o : Option Process) → sent_to script plain pid target (pos 9) o ≡ sent_before script plain pid target (pos 9) o
  nine target None = refl
  nine target (Some process) =
      ap (λ b. cond (target == 1) (failed script plain pid EPERM) (cond b (struck script plain pid target 9) (replied script plain pid (Val (pos 0))))) (no_more (runs process.status))
    where
      no_more : (b : Bool) → (b && true) ≡ b
      no_more true = refl
      no_more false = refl

  asked : (target : ℕ) (o : Option Process) → sent_to script plain pid target (pos 0) o ≡ sent_before script plain pid target (pos 0) o
  asked target None = refl
  asked target (Some process) = refl

  kill_same : (target signal : ℤ) → (is_number 0 signal || is_number 9 signal) ≡ true → kill script plain pid target signal ≡ kill_before script plain pid target signal
  kill_same (negsuc n) signal few = refl
  kill_same (pos target) (negsuc n) few = cc
  kill_same (pos target) (pos n) few = elim (eqb_tells n 0) [
    | inl none ↦ subst (λ k. kill script plain pid (pos target) (pos k) ≡ kill_before script plain pid (pos target) (pos k)) (sym none.1) (asked target (process_at plain.table target))
    | inr some ↦ elim (eqb_tells n 9) [
      | inl is ↦ subst (λ k. kill script plain pid (pos target) (pos k) ≡ kill_before script plain pid (pos target) (pos k)) (sym is.1) (nine target (process_at plain.table target))
      | inr other ↦ absurd (let zero = some.0 in let no = other.0 in cc)
    ]
  ]

  same_answer : (call : Call) → minds_no_signal call ≡ true → answer_to script plain pid call ≡ answer_before script plain pid call
  same_answer (calls.Signal which disposition) e = refl
  same_answer (calls.Kill target signal) e = kill_same target signal e
  same_answer (calls.Write fd addr n done) e =
      write_goes_on script plain pid fd addr n done (ignoring_goes_on script plain pid fd addr n done (ap (λ (ignores : Ignores). ignores.broken_pipe) (all pid)))
  same_answer _ e = refl

  pub same_machine : (call : Call) → minds_no_signal call ≡ true → machine script plain pid call ≡ machine_before script plain pid call
  same_machine call e = ap (unless_wrong script plain pid (argument_fault call)) (same_answer call e)
