-- A process sleeps in another open of a FIFO from now on, or in none any more.
use Rattle.std.proofs.Common.{◌≡◌, ℕ, ◌==◌, Bool, true, false, cond, Option, None, Some, refl, ap, sym, ◌∙◌, subst}
use Rattle.std.specs.Option.{option_map}
use Rattle.kabi_types.specs.declared.scripts.Control.{Control}
use Rattle.kabi_types.specs.declared.scripts.Script.{Script}
use Rattle.kheap_slabs.specs.declared.objects.HalfOpen.{HalfOpen}
use Rattle.kheap_slabs.specs.declared.objects.Proc.{Proc}
use Rattle.posix_defs.specs.Control.{settled}
use Rattle.posix_defs.specs.Plain.{control_of}
use Rattle.posix_defs.specs.World.{World}
use Rattle.proc_table.specs.Changes.{replaced}
use Rattle.proc_table.specs.Opening.{half_in}
use Rattle.proc_table.specs.Procs.{proc_of}
use Rattle.proc_table.specs.Standing.{IsTable}
use Rattle.proc_table.specs.Table.{TableView}
use Rattle.proc_table.proofs.FamilyLemmas.{proc_has_pid}
use Rattle.proc_table.proofs.LawLemmas.{on-table}
use Rattle.proc_table.proofs.OwnLemmas.{has_it}
use Rattle.proc_table.proofs.PlaceLemmas.{eqb_is, eqb_same}
use Rattle.store_objects.proofs.LockedOn.{holds_on, stay_moved}
use Rattle.store_objects.specs.declared.objects.Objects.{Objects}
use Rattle.store_objects.specs.Objects.{AreKept, IsAtCall, Runs, WaitsIn, procs_of}
use Rattle.store_objects.specs.Standing.{StandsFor, waiting_in}
use Rattle.store_objects.proofs.GoingOn.{account_changed, descriptors_slept, found_changed, kept_changed, mapped_from, moves_changed, some_same}
use Rattle.store_objects.proofs.Keeping.{moved_caches}
use Rattle.store_objects.proofs.Opening.{files_moved}
use Rattle.store_objects.proofs.TreesOn.{tree_on}

abbrev pub sleeping : Option HalfOpen → Proc → Proc
sleeping opening proc = record proc { opening = opening }

module _ (script : Script) (old new : Objects) (pid : ℕ) (opening : Option HalfOpen) (kept : AreKept script old) (changes : WaitsIn old pid opening new) where
  abbrev became : Proc
  became = sleeping opening changes.proc

  own : changes.proc.pid ≡ pid
  own = proc_has_pid (procs_of old) pid changes.proc changes.found

  pub kept_sleeping : AreKept script new
  kept_sleeping = kept_changed script old new pid (sleeping opening) kept changes
      (λ up.
      let at : IsAtCall script changes.proc = has_it (λ proc. proc.status ≡ None → IsAtCall script proc) (procs_of old) pid changes.proc kept.calls changes.found up in
      record { stands = at.stands; rests = at.rests })

  found_then : (q : ℕ) → proc_of (procs_of new) q ≡ option_map (replaced pid became) (proc_of (procs_of old) q)
  found_then q = found_changed script old new pid (sleeping opening) kept changes q own

  it_was : (proc : Proc) → proc_of (procs_of old) pid ≡ Some proc → changes.proc ≡ proc
  it_was proc found = some_same (proc_of (procs_of old) pid) changes.proc proc changes.found found

  pub runs_sleeping : (control : Control) → Runs old pid control → Runs new pid control
  runs_sleeping control runs = record {
    proc = became;
    found = found_then pid ∙ ap (option_map (replaced pid became)) changes.found ∙ ap (λ b. Some (cond b became changes.proc)) (eqb_same changes.proc.pid pid own);
    up = ap (λ (proc : Proc). proc.status) (it_was runs.proc runs.found) ∙ runs.up;
    at_call = ap (λ (proc : Proc). proc.control) (it_was runs.proc runs.found) ∙ runs.at_call;
  }

  -- a process is as it was but for the open that it sleeps in
  as_it_was : (q : ℕ) (was now : Proc) → proc_of (procs_of old) q ≡ Some was → now ≡ replaced pid became was → (now.control ≡ was.control) × (now.status ≡ was.status)
  as_it_was q was now found is = by_pid (was.pid == pid) refl is
    where
      by_pid : (b : Bool) → (was.pid == pid) ≡ b → now ≡ cond b became was → (now.control ≡ was.control) × (now.status ≡ was.status)
      by_pid true e is =
          let here : q ≡ pid = sym (proc_has_pid (procs_of old) q was found) ∙ eqb_is was.pid pid e in
          let same : changes.proc ≡ was = it_was was (subst (λ n. proc_of (procs_of old) n ≡ Some was) here found) in
          (ap (λ (p : Proc). p.control) is ∙ ap (λ (p : Proc). p.control) same, ap (λ (p : Proc). p.status) is ∙ ap (λ (p : Proc). p.status) same)
      by_pid false e is = (ap (λ (p : Proc). p.control) is, ap (λ (p : Proc). p.status) is)

  -- The objects stand for the world in which it does so.
  pub stands_sleeping : (world : World) → StandsFor script old world → StandsFor script new (waiting_in world pid (option_map half_in opening))
  stands_sleeping world stands = record {
    valid = stands.valid;
    kept = kept_sleeping;
    processes = record {
      table = subst (λ (view : TableView). IsTable new.heap view world.plain.table) (sym changes.same)
          (on-table old.heap new.heap old.procs pid changes.key changes.proc became kept.holds changes.turns world.plain.table refl refl stands.processes.table);
      last = ap (λ (view : TableView). view.last) changes.same ∙ stands.processes.last;
      controls = controls;
    };
    memory = account_changed script old new pid (sleeping opening) kept changes world.account.frames stands.memory;
    files = files_moved old new world.plain.files next.plain.files world.account world.account (moves_changed script old new pid (sleeping opening) kept changes)
        refl refl refl refl refl (λ number have. descriptors_slept script old new pid (sleeping opening) kept changes world.plain.files number have) stands.files;
    locks = holds_on old new (stay_moved old new (moves_changed script old new pid (sleeping opening) kept changes) changes.locks) world.plain.files.locks stands.locks;
    tree = tree_on old new world next
        (record { tree = changes.tree; names = changes.names; caches = moved_caches old.heap new.heap old.procs new.procs (moves_changed script old new pid (sleeping opening) kept changes) })
        refl refl refl refl stands.tree;
    family = stands.family;
    works = stands.works;
  }
    where
      next : World
      next = waiting_in world pid (option_map half_in opening)

      controls : (q : ℕ) (it : Proc) → proc_of (procs_of new) q ≡ Some it → it.status ≡ None → settled script (control_of next.plain q) ≡ it.control
      controls q it found runs =
          let was = mapped_from (replaced pid became) (proc_of (procs_of old) q) it (sym (found_then q) ∙ found) in
          let same = as_it_was q was.0 it was.1 was.2 in
          stands.processes.controls q was.0 was.1 (sym same.1 ∙ runs) ∙ sym same.0
