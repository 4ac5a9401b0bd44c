-- A process ignores a signal from now on, or is ended by it.
use Rattle.std.proofs.Common.{◌≡◌, ℕ, zero, suc, ◌==◌, Bool, true, false, cond, [], ◌∷◌, None, Some, unwrap_or, slice_get, slice_set, refl, ap, sym, ◌∙◌, subst}
use Rattle.std.specs.Option.{option_map}
use Rattle.kabi_types.specs.declared.scripts.Control.{Control}
use Rattle.kabi_types.specs.declared.scripts.Script.{Script}
use Rattle.kern_laws.proofs.Kin.{KeepsKin, changed_family}
use Rattle.kheap_slabs.specs.Paid.{TakesNothing}
use Rattle.kheap_slabs.specs.declared.objects.Proc.{Proc}
use Rattle.posix_defs.specs.Control.{settled}
use Rattle.posix_defs.specs.Plain.{Plain, control_of}
use Rattle.posix_defs.specs.Process.{Ignores, Table, ignores_in, ignores_of, ignoring, runs, with_ignores}
use Rattle.posix_defs.specs.Signals.{with_disposition}
use Rattle.posix_defs.specs.World.{World, directories_of}
use Rattle.proc_table.specs.Changes.{replaced}
use Rattle.proc_table.specs.Moves.{Disposes}
use Rattle.proc_table.specs.Procs.{ignored_by, proc_of, process_of, with_ignored}
use Rattle.proc_table.specs.Standing.{IsTable}
use Rattle.proc_table.specs.Table.{TableView}
use Rattle.proc_table.specs.declared.places.Place.{Place}
use Rattle.proc_table.proofs.FamilyLemmas.{proc_has_pid, process_is}
use Rattle.proc_table.proofs.LawLemmas.{on-disposed}
use Rattle.proc_table.proofs.OwnLemmas.{has_it}
use Rattle.proc_table.proofs.PlaceLemmas.{eqb_is, eqb_same}
use Rattle.store_objects.proofs.LockedOn.{holds_on, stay_moved}
use Rattle.store_objects.specs.declared.objects.Objects.{Objects}
use Rattle.store_objects.specs.Objects.{AreKept, IsAtCall, OneChanges, Runs, procs_of}
use Rattle.store_objects.specs.Standing.{AreProcesses, StandsFor, disposed_in}
use Rattle.store_objects.specs.Trees.{TreeStays}
use Rattle.store_objects.proofs.GoingOn.{account_changed, descriptors_changed, found_changed, kept_changed, mapped_from, moves_changed, some_same}
use Rattle.store_objects.proofs.Keeping.{moved_caches}
use Rattle.store_objects.proofs.Opening.{files_moved}
use Rattle.store_objects.proofs.TreesOn.{tree_goes_on, works_on}

-- what a process in the heap ignores, the machine's ignores
pub ignores_are : (script : Script) (objects : Objects) (plain : Plain) (pid : ℕ) (proc : Proc) → AreProcesses script objects plain
    → proc_of (procs_of objects) pid ≡ Some proc → ignores_of plain.table pid ≡ ignored_by proc
ignores_are script objects plain pid proc are found =
    ap ignores_in (process_is objects.heap plain.table (procs_of objects) pid are.table.present ∙ ap (option_map (process_of objects.heap)) found)

-- ---- the machine's table, where a process ignores others

ignoring_kin : (ignores : Ignores) → KeepsKin (ignoring ignores)
ignoring_kin ignores = record { none = refl; some = λ old. (record old { ignores = ignores }, refl, record { parent = refl; status = refl }) }

-- all work where they worked
works_at : (table : Table) (place : ℕ) (ignores : Ignores) → directories_of (slice_set table place (ignoring ignores (unwrap_or (slice_get table place) None))) ≡ directories_of table
works_at [] place ignores = refl
works_at (None ∷ table) zero ignores = refl
works_at (Some process ∷ table) zero ignores = refl
works_at (None ∷ table) (suc place) ignores = works_at table place ignores
works_at (Some process ∷ table) (suc place) ignores = ap (λ rest. cond (runs process.status) (process.directory ∷ rest) rest) (works_at table place ignores)

works_there : (table : Table) (pid : ℕ) (ignores : Ignores) → directories_of (with_ignores table pid ignores) ≡ directories_of table
works_there table zero ignores = refl
works_there table (suc place) ignores = works_at table place ignores

-- ---- a step

-- the process, where it ignores the signal or doesn't
abbrev pub disposing : ℕ → Bool → Proc → Proc
disposing signal ignored proc = with_ignored proc (with_disposition (ignored_by proc) signal ignored)

-- what the table did is that one process has become another
pub one_disposed : (old new : Objects) (place : Place) (signal : ℕ) (ignored before : Bool) → Disposes old.heap new.heap old.procs place signal ignored before
    → new.procs ≡ old.procs → new.tree ≡ old.tree → new.names ≡ old.names → new.fifos ≡ old.fifos → new.locks ≡ old.locks → TakesNothing old.heap new.heap → OneChanges old place.pid (disposing signal ignored) new
one_disposed old new place signal ignored before disposes same tree names fifos locks takes = record {
  proc = disposes.proc;
  key = place.key;
  found = disposes.found;
  turns = disposes.turns;
  same = same;
  tree = tree;
  names = names;
  fifos = fifos;
  locks = locks;
  takes = takes;
}

module _ (script : Script) (old new : Objects) (pid signal : ℕ) (ignored : Bool) (kept : AreKept script old) (changes : OneChanges old pid (disposing signal ignored) new) where
  abbrev became : Proc
  became = disposing signal ignored changes.proc

  own : changes.proc.pid ≡ pid
  own = proc_has_pid (procs_of old) pid changes.proc changes.found

  pub kept_disposed : AreKept script new
  kept_disposed = kept_changed script old new pid (disposing signal ignored) kept changes
      (λ up.
      let at : IsAtCall script changes.proc = has_it (λ proc. proc.status ≡ None → IsAtCall script proc) (procs_of old) pid changes.proc kept.calls changes.found up in
      record { stands = at.stands; rests = at.rests })

  found_then : (q : ℕ) → proc_of (procs_of new) q ≡ option_map (replaced pid became) (proc_of (procs_of old) q)
  found_then q = found_changed script old new pid (disposing signal ignored) kept changes q own

  it_was : (proc : Proc) → proc_of (procs_of old) pid ≡ Some proc → changes.proc ≡ proc
  it_was proc found = some_same (proc_of (procs_of old) pid) changes.proc proc changes.found found

  pub runs_disposed : (control : Control) → Runs old pid control → Runs new pid control
  runs_disposed control runs = record {
    proc = became;
    found = found_then pid ∙ ap (option_map (replaced pid became)) changes.found ∙ ap (λ b. Some (cond b became changes.proc)) (eqb_same changes.proc.pid pid own);
    up = ap (λ (proc : Proc). proc.status) (it_was runs.proc runs.found) ∙ runs.up;
    at_call = ap (λ (proc : Proc). proc.control) (it_was runs.proc runs.found) ∙ runs.at_call;
  }

  -- a process is as it was but for what it ignores
  as_it_was : (q : ℕ) (was now : Proc) → proc_of (procs_of old) q ≡ Some was → now ≡ replaced pid became was → (now.control ≡ was.control) × (now.status ≡ was.status)
  as_it_was q was now found is = by_pid (was.pid == pid) refl is
    where
      by_pid : (b : Bool) → (was.pid == pid) ≡ b → now ≡ cond b became was → (now.control ≡ was.control) × (now.status ≡ was.status)
      by_pid true e is =
          let here : q ≡ pid = sym (proc_has_pid (procs_of old) q was found) ∙ eqb_is was.pid pid e in
          let same : changes.proc ≡ was = it_was was (subst (λ n. proc_of (procs_of old) n ≡ Some was) here found) in
          (ap (λ (p : Proc). p.control) is ∙ ap (λ (p : Proc). p.control) same, ap (λ (p : Proc). p.status) is ∙ ap (λ (p : Proc). p.status) same)
      by_pid false e is = (ap (λ (p : Proc). p.control) is, ap (λ (p : Proc). p.status) is)

  -- The objects stand for the world in which it is so.
  pub stands_disposed : (world : World) → StandsFor script old world → StandsFor script new (disposed_in world pid signal ignored)
  stands_disposed world stands = record {
    valid = stands.valid;
    kept = kept_disposed;
    processes = record {
      table = subst (λ (view : TableView). IsTable new.heap view next.plain.table) (sym changes.same)
          (subst (λ (ignores : Ignores). IsTable new.heap old.procs (with_ignores world.plain.table pid (with_disposition ignores signal ignored)))
          (sym (ignores_are script old world.plain pid changes.proc stands.processes changes.found))
          (on-disposed old.heap new.heap old.procs pid changes.key changes.proc became kept.holds changes.turns world.plain.table refl stands.processes.table));
      last = ap (λ (view : TableView). view.last) changes.same ∙ stands.processes.last;
      controls = controls;
    };
    memory = account_changed script old new pid (disposing signal ignored) kept changes world.account.frames stands.memory;
    files = files_moved old new world.plain.files world.plain.files world.account world.account (moves_changed script old new pid (disposing signal ignored) kept changes)
        refl refl refl refl refl (λ number have. descriptors_changed script old new pid (disposing signal ignored) kept changes refl world.plain.files number have) stands.files;
    locks = holds_on old new (stay_moved old new (moves_changed script old new pid (disposing signal ignored) kept changes) changes.locks) world.plain.files.locks stands.locks;
    tree = tree_goes_on script old new world next stands refl works stays refl refl refl;
    family = changed_family (ignoring those) (ignoring_kin those) world.plain.table pid stands.family;
    works = works_on world.plain next.plain refl works stands.works;
  }
    where
      those : Ignores
      those = with_disposition (ignores_of world.plain.table pid) signal ignored

      next : World
      next = disposed_in world pid signal ignored

      works : directories_of next.plain.table ≡ directories_of world.plain.table
      works = works_there world.plain.table pid those

      stays : TreeStays old new
      stays = record { tree = changes.tree; names = changes.names; caches = moved_caches old.heap new.heap old.procs new.procs (moves_changed script old new pid (disposing signal ignored) kept changes) }

      controls : (q : ℕ) (it : Proc) → proc_of (procs_of new) q ≡ Some it → it.status ≡ None → settled script (control_of next.plain q) ≡ it.control
      controls q it found runs =
          let was = mapped_from (replaced pid became) (proc_of (procs_of old) q) it (sym (found_then q) ∙ found) in
          let same = as_it_was q was.0 it was.1 was.2 in
          stands.processes.controls q was.0 was.1 (sym same.1 ∙ runs) ∙ sym same.0
