-- The processes of a store when one has closed all that it had open.
use Rattle.std.proofs.Common.{◌≡◌, ◌≢◌, ◌⊎◌, ℕ, ◌<◌, ◌==◌, Bool, true, false, cond, List, [], ◌∷◌, map, length, Option, None, Some, refl, ap, sym, ◌∙◌, subst, inl, inr}
use Rattle.std.proofs.lemmas.Bool.Decides.{eqb_tells}
use Rattle.fifo_nodes.specs.Chain.{IsChain}
use Rattle.std.specs.List.{AllByRecursion}
use Rattle.std.specs.Option.{option_map}
use Rattle.kabi_types.specs.declared.scripts.Script.{Script}
use Rattle.kheap_slabs.specs.Leaves.{no_row}
use Rattle.kheap_slabs.specs.Objects.{object, put}
use Rattle.kheap_slabs.specs.declared.objects.Descriptor.{Descriptor as HeldDescriptor}
use Rattle.kheap_slabs.specs.declared.objects.Proc.{Proc}
use Rattle.kheap_slabs.specs.Heap.{Heap}
use Rattle.kheap_slabs.specs.Owners.{OwnsItsObjects}
use Rattle.lock_table.specs.Chain.{IsLockTable}
use Rattle.memfs_ops.specs.FileTree.{TreeView}
use Rattle.open_laws.specs.Owned.{HasItsOwners}
use Rattle.posix_defs.specs.Memory.{Frames}
use Rattle.posix_defs.specs.Process.{Table}
use Rattle.proc_numbers.specs.Having.{AreListed}
use Rattle.proc_files.specs.Ending.{ClosesEach}
use Rattle.proc_files.specs.Names.{AreBound, name_of}
use Rattle.proc_table.specs.Accounting.{HasAccount}
use Rattle.proc_table.specs.Changes.{replaced}
use Rattle.proc_table.specs.Procs.{IsAlive, IsLight, closed_all, proc_of, process_of}
use Rattle.proc_table.specs.Standing.{AreFrom, IsTable}
use Rattle.proc_table.specs.Table.{Holds, TableView, processes, procs_at}
use Rattle.proc_table.proofs.AccountLemmas.{becomes_account}
use Rattle.proc_table.proofs.FamilyLemmas.{changed_table}
use Rattle.proc_table.proofs.HoldLemmas.{content_kept}
use Rattle.proc_table.proofs.MemoryLemmas.{process_of-same}
use Rattle.proc_table.proofs.OwnLemmas.{all_by}
use Rattle.proc_table.proofs.PlaceLemmas.{Follows, eqb_same, follows_one, follows_procs, key_of-proc, some_same}
use Rattle.proc_table.proofs.TurnLemmas.{all_changed, all_kept}
use Rattle.store_objects.specs.declared.objects.Objects.{Objects}
use Rattle.store_objects.specs.Objects.{AreAtCalls, AreKept, IsAtCall, most_nodes, procs_of}
use Rattle.store_objects.specs.Trees.{KeepsTree}
use Rattle.store_objects.proofs.Peeling.{by_pid}
use Rattle.process_calls.specs.Endings.{shut, silent}
use Rattle.process_calls.proofs.Shutting.{all_changing, changing_nodes, changing_other, changing_pid, found_changing, light_closed}

-- the process of that pid has nothing open any more
abbrev pub closed_at : ℕ → Proc → Proc
closed_at pid proc = cond (proc.pid == pid) (closed_all proc) proc

closed_pid : (pid : ℕ) (proc : Proc) → (closed_at pid proc).pid ≡ proc.pid
closed_pid pid proc = changing_pid closed_all (λ p. refl) (λ p. refl) pid proc

closed_nodes : (pid : ℕ) (proc : Proc) → (closed_at pid proc).nodes ≡ proc.nodes
closed_nodes pid proc = changing_nodes closed_all (λ p. refl) (λ p. refl) pid proc

all_closed : (P : Proc → Type 0) (pid : ℕ) (procs : List Proc) → ((proc : Proc) → P proc → P (closed_all proc)) → AllByRecursion P procs → AllByRecursion P (map (closed_at pid) procs)
all_closed P pid procs lasts all = all_changing closed_all (λ p. refl) (λ p. refl) P pid procs lasts all

-- ---- the table

module _ (old new : Heap) (kept : TableView) (pid : ℕ) (holds : Holds old kept) (closes : ClosesEach old new kept pid) where
  abbrev becomes : Proc → Option Proc
  becomes proc = Some (closed_at pid proc)

  abbrev was : Proc
  was = closes.changes.proc

  abbrev at : ℕ
  at = closes.changes.key

  has_pid : was.pid ≡ pid
  has_pid =
      let named = key_of-proc old.procs kept.listed pid at holds.stored closes.changes.named in
      ap (λ (p : Proc). p.pid) (some_same (object old.procs at) was named.0 closes.changes.there named.1) ∙ named.2

  empties : new.procs ≡ put old.procs at (closed_all was)
  empties =
      closes.changes.procs
      ∙ ap (λ (p : Proc). put old.procs at p)
      (closes.changes.same
      ∙ (ap (λ (places : List (Option HeldDescriptor)). record was { descriptors = places; leaves = closes.changes.now.leaves }) closes.none.0
      ∙ ap (λ (keys : List (Option ℕ)). record was { descriptors = no_row; leaves = keys }) closes.none.1))

  follows : Follows becomes old.procs new.procs kept.listed
  follows = subst (λ procs. Follows becomes old.procs procs kept.listed) (sym empties)
      (follows_one becomes old.procs at pid was (Some (closed_all was)) kept.listed 0 kept.last
      (λ proc apart. ap Some (changing_other closed_all (λ p. refl) (λ p. refl) pid proc apart)) closes.changes.there
      (ap (λ b. Some (cond b (closed_all was) was)) (eqb_same was.pid pid has_pid)) holds.stored holds.rising closes.changes.named)

  pub shut_procs : processes new kept ≡ map (closed_at pid) (processes old kept)
  shut_procs =
      ap (procs_at new.procs) (sym (all_kept (closed_at pid) old.procs kept.listed holds.stored))
      ∙ follows_procs becomes old.procs new.procs kept.listed holds.stored follows
      ∙ all_changed (closed_at pid) (processes old kept)

  same_nodes : new.nodes ≡ old.nodes
  same_nodes = ap (λ (h : Heap). h.nodes) closes.changes.beside

  same_pages : new.pages ≡ old.pages
  same_pages = ap (λ (h : Heap). h.pages) closes.changes.beside

  -- they are the machine's still
  pub shut_table : (table : Table) → IsTable old kept table → IsTable new kept table
  shut_table table is = record {
    present = subst (AreFrom new 1 table) (sym shut_procs)
        (changed_table is.present new (closed_at pid)
        (all_by (λ proc. (process_of new (closed_at pid proc) ≡ process_of old proc) × ((closed_at pid proc).pid ≡ proc.pid)) (processes old kept)
        (λ proc. (by_pid proc (proc.pid == pid), closed_pid pid proc))));
    made = is.made;
  }
    where
      in_heap : (proc : Proc) → process_of new proc ≡ process_of old proc
      in_heap proc = process_of-same old new proc (λ page. content_kept old new proc.nodes page same_nodes same_pages)

      by_pid : (proc : Proc) (b : Bool) → process_of new (cond b (closed_all proc) proc) ≡ process_of old proc
      by_pid proc true = in_heap proc
      by_pid proc false = in_heap proc

  becomes_it : (proc now : Proc) → becomes proc ≡ Some now → now ≡ closed_at pid proc
  becomes_it proc now is = some_same (Some now) now (closed_at pid proc) refl (sym is)

  never : {X : Type 0} (proc : Proc) → Some proc ≡ None → X
  never proc e = cc

  -- with the memory that they had
  pub shut_account : (frames : Frames) → HasAccount old kept frames → HasAccount new kept frames
  shut_account frames has =
      becomes_account (λ (proc : Proc). Unit {0}) becomes old new kept kept frames
      (λ proc now is. ap (λ (p : Proc). p.pid) (becomes_it proc now is) ∙ closed_pid pid proc)
      (λ proc now its is. ap (λ (p : Proc). p.nodes) (becomes_it proc now is) ∙ closed_nodes pid proc)
      (λ proc its is. never (closed_at pid proc) is)
      (all_by (λ (proc : Proc). Unit {0}) (processes old kept) (λ proc. tt))
      (shut_procs ∙ sym (all_changed (closed_at pid) (processes old kept))) refl same_nodes same_pages has

  -- the table holds
  pub shut_holds : AreListed new kept → OwnsItsObjects new → Holds new kept
  shut_holds listed owns =
      let by = by_pid new kept listed owns in
      record {
        stored = listed.stored;
        rising = listed.rising;
        light = subst (AllByRecursion IsLight) (sym shut_procs) (all_closed IsLight pid (processes old kept) light_closed holds.light);
        owned = (record { spaces = []; queues = by.queues }, by.owned);
      }

-- who closes is alive still
pub alive_shut : (procs now : List Proc) (pid : ℕ) → now ≡ map (closed_at pid) procs → IsAlive procs pid → IsAlive now pid
alive_shut procs now pid is alive = record {
  proc = closed_at pid alive.proc;
  there = ap (λ all. proc_of all pid) is ∙ found_changing closed_all (λ p. refl) (λ p. refl) pid procs pid ∙ ap (option_map (closed_at pid)) alive.there;
  runs = by_pid (alive.proc.pid == pid) ∙ alive.runs;
}
  where
    by_pid : (b : Bool) → (cond b (closed_all alive.proc) alive.proc).status ≡ alive.proc.status
    by_pid true = refl
    by_pid false = refl

-- the objects with another heap, another tree, other names and other chains, of FIFOs' pipes and of locks
abbrev pub with_heap : Objects → Heap → TreeView → List (Option ℕ) → Option ℕ → Option ℕ → Objects
with_heap old heap tree names first held = record { heap = heap; procs = old.procs; tree = tree; names = names; fifos = first; locks = held }

-- What the objects keep they keep.
pub kept_shut : (script : Script) (old : Objects) (heap : Heap) (tree : TreeView) (names : List (Option ℕ)) (first held : Option ℕ) (pid : ℕ) → AreKept script old → ClosesEach old.heap heap old.procs pid
    → AreListed heap old.procs → HasItsOwners heap [] → AreBound (name_of heap.socks) names → length names ≡ length old.names → IsChain heap first → IsLockTable heap.locks held → KeepsTree heap tree
    → AreKept script (with_heap old heap tree names first held)
kept_shut script old heap tree names first held pid kept closes listed owners bound long chain locked caches = record {
  holds = shut_holds old.heap heap old.procs pid kept.holds closes listed owners.objects;
  all = listed.all;
  leaves = listed.leaves;
  owners = owners;
  groups = subst (AllByRecursion (λ proc. length proc.nodes ≡ 4)) (sym is) (all_closed (λ proc. length proc.nodes ≡ 4) pid (procs_of old) (λ proc four. four) kept.groups);
  calls = subst (AreAtCalls script) (sym is)
      (all_closed (λ proc. proc.status ≡ None → IsAtCall script proc) pid (procs_of old)
      (λ proc at up. let here : IsAtCall script proc = at up in record { stands = here.stands; rests = here.rests }) kept.calls);
  bound = bound;
  places = subst (λ n. most_nodes < n) (sym long) kept.places;
  chain = chain;
  locked = locked;
  caches = caches;
  size = ap (λ (h : Heap). h.heap) closes.changes.beside ∙ kept.size;
}
  where
    is : processes heap old.procs ≡ map (closed_at pid) (procs_of old)
    is = shut_procs old.heap heap old.procs pid kept.holds closes

-- ---- and then sleeps in no open

-- a process that has closed all, and sleeps in none then, is silent
pub silent_then : (pid : ℕ) (before : Proc) (procs : List Proc) → AllByRecursion (λ p. p.pid ≡ pid → p ≡ before) procs
    → map (replaced pid (silent before)) (map (closed_at pid) procs) ≡ map (shut pid) procs
silent_then pid before [] only = refl
silent_then pid before (proc ∷ procs) only =
    ap (λ p. p ∷ map (replaced pid (silent before)) (map (closed_at pid) procs)) (by_pid (eqb_tells proc.pid pid))
    ∙ ap (λ rest. shut pid proc ∷ rest) (silent_then pid before procs only.1)
  where
    by_pid : (((proc.pid == pid) ≡ true) × (proc.pid ≡ pid)) ⊎ (((proc.pid == pid) ≡ false) × (proc.pid ≢ pid)) → replaced pid (silent before) (closed_at pid proc) ≡ shut pid proc
    by_pid (inl own) =
        ap (λ n. cond (n == pid) (silent before) (closed_at pid proc)) (closed_pid pid proc)
        ∙ ap (λ b. cond b (silent before) (closed_at pid proc)) own.0
        ∙ ap silent (sym (only.0 own.1))
        ∙ sym (ap (λ b. cond b (silent proc) proc) own.0)
    by_pid (inr other) =
        ap (λ n. cond (n == pid) (silent before) (closed_at pid proc)) (closed_pid pid proc)
        ∙ ap (λ b. cond b (silent before) (cond b (closed_all proc) proc)) other.0
        ∙ sym (ap (λ b. cond b (silent proc) proc) other.0)
