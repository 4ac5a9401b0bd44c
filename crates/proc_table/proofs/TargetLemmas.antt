-- The process that a call names, and whether a signal ends it.
use Rattle.std.proofs.Common.{◌≡◌, ℕ, ◌==◌, ◌&&◌, ℤ, pos, negsuc, Bool, true, false, cond, not, List, Option, None, Some, is_some, Result, Ok, refl, sym, ap, ◌∙◌}
use Rattle.std.specs.Option.{option_map}
use Rattle.kabi_types.specs.Arguments.{count_of}
use Rattle.kabi_types.specs.declared.replies.Reply.TheVariants.{Val}
use Rattle.kabi_types.specs.declared.scripts.Script.{Script}
use Rattle.kabi_types.specs.declared.errnos.Errno.{Errno}
use Rattle.kheap_slabs.specs.Objects.{object}
use Rattle.kheap_slabs.specs.declared.objects.Proc.{Proc}
use Rattle.kheap_slabs.specs.Heap.{Heap}
use Rattle.posix_defs.specs.Answer.{replied}
use Rattle.posix_defs.specs.Killing.{ends, is_asking, kill, sent_to, signalled, struck}
use Rattle.posix_defs.specs.Plain.{Plain}
use Rattle.posix_defs.specs.Process.{runs}
use Rattle.posix_defs.specs.Signals.{is_ignored}
use Rattle.proc_table.specs.Changes.{is_ended_by, verdict}
use Rattle.proc_table.specs.Procs.{ignored_by, proc_of, process_of, status_of, target_of}
use Rattle.proc_table.specs.Standing.{AreFrom, IsTable, answered_by}
use Rattle.proc_table.specs.Table.{AreStored, TableView, key_of_target, processes, procs_at}
use Rattle.proc_table.specs.declared.places.Place.{Place}
use Rattle.proc_table.proofs.FamilyLemmas.{process_is, proc_has_pid}
use Rattle.proc_table.proofs.PlaceLemmas.{key_of-none, key_of-proc}

pub key_of_target-proc : (objects : List (Option Proc)) (places : List Place) (target : ℤ) (key : ℕ) → AreStored objects places → key_of_target places target ≡ Some key
    → (proc : Proc) × (object objects key ≡ Some proc) × (target_of (procs_at objects places) target ≡ Some proc)
key_of_target-proc objects places (pos pid) key stored is = let found = key_of-proc objects places pid key stored is in (found.0, found.1, found.3)
key_of_target-proc objects places (negsuc n) key stored is = cc

pub key_of_target-none : (objects : List (Option Proc)) (places : List Place) (target : ℤ) → AreStored objects places → key_of_target places target ≡ None
    → target_of (procs_at objects places) target ≡ None
key_of_target-none objects places (pos pid) stored is = key_of-none objects places pid stored is
key_of_target-none objects places (negsuc n) stored is = refl

-- what the caller is answered is what the verdict on its target says
pub kill_is : (script : Script) (plain : Plain) (h : Heap) (procs : List Proc) (pid : ℕ) (target signal : ℤ) → AreFrom h 1 plain.table procs
    → kill script plain pid target signal ≡ answered_by script plain pid target signal (verdict signal (target_of procs target))
kill_is script plain h procs pid (negsuc n) signal are = refl
kill_is script plain h procs pid (pos number) signal are =
    ap (sent_to script plain pid number signal) (process_is h plain.table procs number are) ∙ by_case (proc_of procs number) refl
  where
    runs_is : (status : Option ℕ) → runs (status_of status) ≡ not (is_some status)
    runs_is None = refl
    runs_is (Some over) = refl

    so : (b : Bool) → cond b (struck script plain pid number (count_of signal)) (replied script plain pid (Val (pos 0))) ≡ answered_by script plain pid (pos number) signal (Ok b)
    so true = refl
    so false = refl

    ended : (proc : Proc) → ends script plain pid number (count_of signal) (process_of h proc) ≡ answered_by script plain pid (pos number) signal (Ok (is_ended_by signal proc))
    ended proc =
        ap (λ b. cond (b && not (is_ignored (ignored_by proc) (count_of signal))) (struck script plain pid number (count_of signal)) (replied script plain pid (Val (pos 0))))
        (runs_is proc.status) ∙ so (is_ended_by signal proc)

    asked : (proc : Proc) (asks first : Bool) → (number == 1) ≡ first → (proc.pid == 1) ≡ first → is_asking signal ≡ asks
        → signalled script plain pid number signal (process_of h proc) ≡ answered_by script plain pid (pos number) signal (verdict signal (Some proc))
    asked proc true first one same asks = rw asks refl
    asked proc false true one same asks = rw (asks, one, same) refl
    asked proc false false one same asks = rw (asks, one, same) (ended proc)

    by_case : (o : Option Proc) → proc_of procs number ≡ o
        → sent_to script plain pid number signal (option_map (process_of h) o) ≡ answered_by script plain pid (pos number) signal (verdict signal o)
    by_case None is = refl
    by_case (Some proc) is =
        asked proc (is_asking signal) (number == 1) refl (ap (λ n. n == 1) (proc_has_pid procs number proc is)) refl

-- and whatever it says
pub kill_by_verdict : (script : Script) (plain : Plain) (h : Heap) (kept : TableView) (pid : ℕ) (target signal : ℤ) (said : Result Bool Errno)
    → said ≡ verdict signal (target_of (processes h kept) target) → IsTable h kept plain.table
    → kill script plain pid target signal ≡ answered_by script plain pid target signal said
kill_by_verdict script plain h kept pid target signal said is table =
    kill_is script plain h (processes h kept) pid target signal table.present ∙ ap (answered_by script plain pid target signal) (sym is)
