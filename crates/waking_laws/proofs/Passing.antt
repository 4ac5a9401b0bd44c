-- Behind a turn that passes by each other process lives, and its next call blocks where it would have before.
use Rattle.std.proofs.Common.{◌≡◌, ◌≢◌, ℕ, ◌≤◌, ◌&&◌, Bool, true, false, [], ◌∷◌, inl, inr, arith, unwrap_or, length, refl, ap, sym, ◌∙◌, subst}
use Rattle.std.proofs.lemmas.Bool.Decides.{eqb_tells}
use Rattle.kabi_types.specs.declared.calls.Call.{Call}
use Rattle.kabi_types.specs.declared.errnos.Errno.{Errno}
use Rattle.kabi_types.specs.declared.replies.Reply.TheVariants as reply
use Rattle.kabi_types.specs.declared.scripts.Control.{Control}
use Rattle.kabi_types.specs.declared.scripts.Script.{Script}
use Rattle.kern_laws.proofs.Errors.{fails_alone}
use Rattle.kern_laws.proofs.Families.{alive_there}
use Rattle.kern_laws.proofs.TablePlaces.{was_made}
use Rattle.machine_laws.specs.Own.{IsLeftAlone}
use Rattle.machine_laws.proofs.Alone.{answers_leave_alone}
use Rattle.machine_laws.proofs.Tables.{at_other, true_false}
use Rattle.machine_laws.specs.Described.{AreDescribed}
use Rattle.machine_laws.specs.FileSteps.{LeadsTo}
use Rattle.machine_laws.specs.Reached.{IsReached}
use Rattle.machine_laws.proofs.Reaches.{reached_keeps}
use Rattle.posix_defs.specs.Answer.{Answer, Blocked, Done, Ended, Part}
use Rattle.posix_defs.specs.Control as program
use Rattle.posix_defs.specs.Files.State.{Files, descriptors_of, opening_at, pipe_at}
use Rattle.posix_defs.specs.Locks.{Locks}
use Rattle.posix_defs.specs.Machine.{machine}
use Rattle.posix_defs.specs.Pipe.{opens_of}
use Rattle.posix_defs.specs.Plain.{Plain, at_start, call_of, control_of, with_control}
use Rattle.posix_defs.specs.Process.{is_alive, is_alive_in}
use Rattle.posix_defs.specs.Turn.{Tells, TurnsTo, TurnsWhere}
use Rattle.posix_defs.specs.World.{World}
use Rattle.posix_defs.specs.declared.turner.Turned.{Turned}
use Rattle.posix_defs.specs.declared.turner.Turned.TheVariants as turned
use Rattle.waking_laws.specs.Waking.{StaysAsItWas, awaited, no_fifo, no_lock, passes_by, wakes_nobody}
use Rattle.waking_laws.proofs.Kin.{same_table}
use Rattle.waking_laws.proofs.QuietCalls.{IsQuiet, QuietIf, quiet_answer, same_files}
use Rattle.waking_laws.proofs.QuietFiles.{KeepsDescribed}
use Rattle.waking_laws.proofs.Seeing.{blocks_alike}
use Rattle.waking_laws.proofs.Staying.{itself, sees, sees_queues}

-- ---- nobody holds a lock

pub none_held : (files : Files) → no_lock files ≡ true → files.locks ≡ []
none_held files is = elim (eqb_tells (length files.locks) 0) [ inl alike ↦ go files.locks alike.1 | inr apart ↦ absurd (true_false is apart.0) ]
  where
    go : (locks : Locks) → length locks ≡ 0 → locks ≡ []
    go [] e = refl
    go (lock ∷ locks) e = absurd (omega arith)

-- ---- a machine that is seen as the same

stays_so : (script : Script) (who : ℕ) (old new : Plain) → AreDescribed old.files → control_of new who ≡ control_of old who
    → descriptors_of new.files who ≡ descriptors_of old.files who → opening_at new.files who ≡ opening_at old.files who → IsQuiet who old new → new.files.locks ≡ [] → StaysAsItWas script who old new
stays_so script who old new described control numbers waits quiet none =
    let kept : KeepsDescribed old.files new.files = (let files = quiet.files in files.described) in
    let opens : (place : ℕ) (writing : Bool) → opens_of (pipe_at new.files place) writing ≡ opens_of (pipe_at old.files place) writing =
    (λ place writing. ap (λ pipe. opens_of pipe writing) (let files = quiet.files in files.pipes place)) in
    record {
      itself = itself who old new described control numbers kept quiet.kin waits opens script;
      waits = blocks_alike script who old new (sees who old new described control numbers kept quiet.kin waits opens (sym (let files = quiet.files in files.locks) ∙ none, none))
          (sees_queues who old.files new.files quiet.files (awaited (call_of script old who)));
    }

-- nothing has changed
pub nothing_changed : (script : Script) (who : ℕ) (old new : Plain) → new ≡ old → StaysAsItWas script who old new
nothing_changed script who old new same = subst (StaysAsItWas script who old) (sym same) (record { itself = record { lives = refl; asks = refl; opens = λ fd. refl }; waits = refl })

-- another process has come further in its program, where nobody holds a lock
pub came_further : (script : Script) (plain : Plain) (pid who : ℕ) (control : Control) → IsReached script plain → who ≢ pid
    → no_lock plain.files ≡ true → StaysAsItWas script who plain (with_control plain pid control)
came_further script plain pid who control reached apart none =
    stays_so script who plain (with_control plain pid control) (reached_keeps reached).1
    (ap (λ found. unwrap_or found (at_start 0)) (at_other plain.controls pid who control apart)) refl refl
    (record { files = same_files plain.files; kin = same_table who plain.table }) (none_held plain.files none)

-- ---- a turn

pub both_true : (a b : Bool) → (a && b) ≡ true → (a ≡ true) × (b ≡ true)
both_true true b e = (refl, e)
both_true false b e = cc

module _ (script : Script) (old : Plain) (pid who : ℕ) (reached : IsReached script old) (lives : is_alive old.table pid ≡ true) (apart : who ≢ pid)
    (alive : is_alive old.table who ≡ true) where
  made : who ≤ length old.table
  made = let there = alive_there old.table who alive in let it = was_made old.table who there.0 there.1 in it.1

  quietly : (new : Plain) → (is_alive new.table who ≡ true → IsLeftAlone pid who old new) → IsQuiet who old new → new.files.locks ≡ [] → StaysAsItWas script who old new
  quietly new alone quiet none =
      let own : IsLeftAlone pid who old new = alone (ap is_alive_in (let kin = quiet.kin in kin.itself) ∙ alive) in
      stays_so script who old new (reached_keeps reached).1 (let it = own.own in it.control) (let it = own.own in it.numbers) (let it = own.own in it.waits) quiet none

  -- the answer leads to this machine, in which a FIFO is open or none
  there : (which : Call) (new next : Plain) → new ≡ next → wakes_nobody (no_fifo new.files) which ≡ true → wakes_nobody (no_fifo next.files) which ≡ true
  there which new next same e = ap (λ (plain : Plain). wakes_nobody (no_fifo plain.files) which) (sym same) ∙ e

  held : (new next : Plain) → new ≡ next → new.files.locks ≡ [] → next.files.locks ≡ []
  held new next same none = ap (λ (plain : Plain). plain.files.locks) (sym same) ∙ none

  by_answer : (which : Call) (given : Answer) (told : Turned) (new : Plain) → wakes_nobody (no_fifo new.files) which ≡ true → new.files.locks ≡ [] → Tells given old told new
      → LeadsTo (λ next. is_alive next.table who ≡ true → IsLeftAlone pid who old next) given → LeadsTo (QuietIf who old which) given → StaysAsItWas script who old new
  by_answer which Blocked told new e none tells alone quiet = nothing_changed script who old new tells.1
  by_answer which (Done said next) told new e none tells alone quiet = subst (StaysAsItWas script who old) (sym tells.1) (quietly next alone (quiet (there which new next tells.1 e)) (held new next tells.1 none))
  by_answer which (Part moved next) told new e none tells alone quiet = subst (StaysAsItWas script who old) (sym tells.1) (quietly next alone (quiet (there which new next tells.1 e)) (held new next tells.1 none))
  by_answer which (Ended status next) told new e none tells alone quiet = subst (StaysAsItWas script who old) (sym tells.1) (quietly next alone (quiet (there which new next tells.1 e)) (held new next tells.1 none))

  by_call : (which : Call) (told : Turned) (new : Plain) → (no_lock new.files && wakes_nobody (no_fifo new.files) which) ≡ true → Tells (machine script old pid which) old told new
      → StaysAsItWas script who old new
  by_call which told new e tells = let both = both_true (no_lock new.files) (wakes_nobody (no_fifo new.files) which) e in
      by_answer which (machine script old pid which) told new both.1 (none_held new.files both.0) tells (answers_leave_alone script old reached pid who which lives apart alive)
      (quiet_answer script old pid who apart made which)

  -- a turn that came to nothing, or to an errno
  slept : (given : Answer) (new : Plain) → Tells given old turned.Sleep new → new ≡ old
  slept Blocked new tells = tells.1
  slept (Done said next) new tells = cc
  slept (Part moved next) new tells = cc
  slept (Ended status next) new tells = cc

  gone : (given : Answer) (new : Plain) → Tells given old turned.Gone new → new ≡ old
  gone Blocked new tells = tells.1
  gone (Done said next) new tells = cc
  gone (Part moved next) new tells = cc
  gone (Ended status next) new tells = cc

  failed_so : (which : Call) (given : Answer) (errno : Errno) (new : Plain) → no_lock new.files ≡ true → machine script old pid which ≡ given → Tells given old (turned.Done (reply.Fail errno)) new
      → StaysAsItWas script who old new
  failed_so which Blocked errno new none is tells = nothing_changed script who old new tells.1
  failed_so which (Done (reply.Fail other) next) errno new none is tells =
      subst (StaysAsItWas script who old) (sym (tells.1 ∙ fails_alone script old pid which other next is))
      (came_further script old pid who (program.after script (control_of old pid) (reply.Fail other)) reached apart
      (ap (λ (plain : Plain). no_lock plain.files) (sym (tells.1 ∙ fails_alone script old pid which other next is)) ∙ none))
  failed_so which (Done said next) errno new none is tells = cc
  failed_so which (Part moved next) errno new none is tells = cc
  failed_so which (Ended status next) errno new none is tells = cc

  answered_so : (which : Call) (told : Turned) (new : Plain) → passes_by (no_fifo new.files) (no_lock new.files) which told ≡ true → Tells (machine script old pid which) old told new → StaysAsItWas script who old new
  answered_so which turned.Sleep new e tells = nothing_changed script who old new (slept _ new tells)
  answered_so which turned.Gone new e tells = nothing_changed script who old new (gone _ new tells)
  answered_so which (turned.Done (reply.Fail errno)) new e tells = failed_so which _ errno new e refl tells
  answered_so which (turned.Done (reply.Val value)) new e tells = by_call which _ new e tells
  answered_so which (turned.Done said) new e tells = by_call which (turned.Done said) new e tells
  answered_so which (turned.Part moved) new e tells = cc
  answered_so which (turned.Ended status) new e tells = cc

pub passed_by : (script : Script) (old new : World) (pid who : ℕ) (which : Call) (told : Turned) → IsReached script old.plain
    → TurnsTo script old pid which told new → passes_by (no_fifo new.plain.files) (no_lock new.plain.files) which told ≡ true → who ≢ pid → is_alive old.plain.table who ≡ true
    → StaysAsItWas script who old.plain new.plain
passed_by script old new pid who which told reached turns passes apart alive = go (is_alive old.plain.table pid) refl turns
  where
    go : (lives : Bool) → is_alive old.plain.table pid ≡ lives → TurnsWhere lives script old pid which told new → StaysAsItWas script who old.plain new.plain
    go true is answers = answered_so script old.plain pid who reached is apart alive which told new.plain passes answers.answer
    go false is over = nothing_changed script who old.plain new.plain (ap (λ (world : World). world.plain) over.1)
