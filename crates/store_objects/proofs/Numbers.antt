-- A store of which a call changes what one process has open.
use Rattle.std.proofs.Common.{◌≡◌, ◌≢◌, ◌⊎◌, ℕ, ◌==◌, Bool, true, false, cond, [], map, Option, None, Some, refl, ap, sym, ◌∙◌, subst, inl, inr}
use Rattle.std.specs.List.{AllByRecursion}
use Rattle.std.specs.Option.{option_map}
use Rattle.std.proofs.lemmas.Bool.Decides.{eqb_tells}
use Rattle.fifo_nodes.specs.Chain.{IsChain}
use Rattle.fifo_nodes.proofs.ChainLemmas.{chain_kept}
use Rattle.kheap_slabs.specs.declared.objects.Proc.{Proc}
use Rattle.kheap_slabs.specs.Heap.{Heap}
use Rattle.kheap_slabs.specs.Owners.{OwnsItsObjects}
use Rattle.open_laws.specs.Owned.{HasItsOwners}
use Rattle.posix_defs.specs.Memory.{Frames}
use Rattle.posix_defs.specs.Process.{Table}
use Rattle.proc_numbers.specs.Having.{AreListed}
use Rattle.proc_numbers.specs.Naming.{ChangesNumbers}
use Rattle.proc_numbers.proofs.Listing.{found_before, found_now, found_others}
use Rattle.proc_files.specs.Names.{name_of}
use Rattle.proc_table.specs.Accounting.{HasAccount}
use Rattle.proc_table.specs.Procs.{HasNoneOpenOnce, IsAlive, IsAwakeOnce, IsLight, first_proc, proc_of, process_of}
use Rattle.proc_table.specs.Standing.{AreFrom, IsTable}
use Rattle.proc_table.specs.Table.{Holds, TableView, processes, procs_at}
use Rattle.proc_table.proofs.AccountLemmas.{becomes_account}
use Rattle.proc_table.proofs.FamilyLemmas.{changed_table, proc_has_pid}
use Rattle.proc_table.proofs.HoldLemmas.{content_kept}
use Rattle.proc_table.proofs.MemoryLemmas.{process_of-same}
use Rattle.proc_table.proofs.OwnLemmas.{all_by, has_it, rising_procs}
use Rattle.proc_table.proofs.PlaceLemmas.{Follows, eqb_other, eqb_same, follows_one, follows_procs, some_same}
use Rattle.proc_table.proofs.TurnLemmas.{all_changed, all_kept}
use Rattle.store_objects.specs.declared.objects.Objects.{Objects}
use Rattle.store_objects.specs.Objects.{procs_of}
use Rattle.store_objects.proofs.Peeling.{by_pid}
use Rattle.store_objects.proofs.RunningProcs.{all_found}
use Rattle.store_objects.specs.OpenMoves.{OpenMoves, opening}

-- the process of the pid has other numbers
abbrev with_places : ℕ → Proc → Proc → Proc
with_places pid now proc = cond (proc.pid == pid) (opening now proc) proc

places_pid : (pid : ℕ) (now proc : Proc) → (with_places pid now proc).pid ≡ proc.pid
places_pid pid now proc = by_test (proc.pid == pid)
  where
    by_test : (b : Bool) → (cond b (opening now proc) proc).pid ≡ proc.pid
    by_test true = refl
    by_test false = refl

places_nodes : (pid : ℕ) (now proc : Proc) → (with_places pid now proc).nodes ≡ proc.nodes
places_nodes pid now proc = by_test (proc.pid == pid)
  where
    by_test : (b : Bool) → (cond b (opening now proc) proc).nodes ≡ proc.nodes
    by_test true = refl
    by_test false = refl

-- the Proc itself
pub own_of : Option Proc → Proc
own_of None = first_proc
own_of (Some proc) = proc

-- with its own numbers a process is what it is
pub opening_own : (o : Option Proc) → o ≡ option_map (opening (own_of o)) o
unfolding own_of
opening_own None = refl
opening_own (Some proc) = refl

module _ (old new : Heap) (kept : TableView) (pid : ℕ) (holds : Holds old kept) (changes : ChangesNumbers old new kept pid) where
  abbrev now : Proc
  now = changes.now

  own : now.pid ≡ changes.proc.pid
  own = ap (λ (p : Proc). p.pid) changes.same

  here : proc_of (processes new kept) pid ≡ Some now
  here =
      ap (λ procs. proc_of (procs_at procs kept.listed) pid) changes.procs
      ∙ found_now old.procs changes.key changes.proc now changes.there own kept.listed pid holds.stored changes.named

  before : proc_of (processes old kept) pid ≡ Some changes.proc
  before = found_before old.procs changes.key changes.proc now changes.there own kept.listed pid holds.stored changes.named

  others : (q : ℕ) → q ≢ pid → proc_of (processes new kept) q ≡ proc_of (processes old kept) q
  others q apart =
      ap (λ procs. proc_of (procs_at procs kept.listed) q) changes.procs
      ∙ found_others old.procs changes.key changes.proc now changes.there own kept.listed pid holds.stored changes.named q apart

  -- each process is there with other descriptors, or with its own
  pub each : (q : ℕ) → (is : Proc) × (proc_of (processes new kept) q ≡ option_map (opening is) (proc_of (processes old kept) q))
  each q = by_pid_of (eqb_tells q pid)
    where
      by_pid_of : (((q == pid) ≡ true) × (q ≡ pid)) ⊎ (((q == pid) ≡ false) × (q ≢ pid))
          → (is : Proc) × (proc_of (processes new kept) q ≡ option_map (opening is) (proc_of (processes old kept) q))
      by_pid_of (inl same) = (
        changes.now,
        subst (λ n. proc_of (processes new kept) n ≡ option_map (opening changes.now) (proc_of (processes old kept) n)) (sym same.1)
            (here ∙ ap (λ (p : Proc). Some p) changes.same ∙ sym (ap (option_map (opening changes.now)) before)),
      )
      by_pid_of (inr apart) = (own_of (proc_of (processes old kept) q), others q apart.1 ∙ opening_own (proc_of (processes old kept) q))

  -- ---- the processes together

  abbrev becomes : Proc → Option Proc
  becomes proc = Some (with_places pid changes.now proc)

  has_pid : changes.proc.pid ≡ pid
  has_pid = proc_has_pid (processes old kept) pid changes.proc before

  follows : Follows becomes old.procs new.procs kept.listed
  follows = subst (λ procs. Follows becomes old.procs procs kept.listed) (sym changes.procs)
      (follows_one becomes old.procs changes.key pid changes.proc (Some now) kept.listed 0 kept.last
      (λ proc apart. ap (λ b. Some (cond b (opening changes.now proc) proc)) (eqb_other proc.pid pid apart)) changes.there
      (ap (λ b. Some (cond b (opening changes.now changes.proc) changes.proc)) (eqb_same changes.proc.pid pid has_pid) ∙ ap (λ (p : Proc). Some p) (sym changes.same)) holds.stored holds.rising changes.named)

  procs_are : processes new kept ≡ map (with_places pid changes.now) (processes old kept)
  procs_are =
      ap (procs_at new.procs) (sym (all_kept (with_places pid changes.now) old.procs kept.listed holds.stored))
      ∙ follows_procs becomes old.procs new.procs kept.listed holds.stored follows
      ∙ all_changed (with_places pid changes.now) (processes old kept)

  same_nodes : new.nodes ≡ old.nodes
  same_nodes = ap (λ (h : Heap). h.nodes) changes.beside

  same_pages : new.pages ≡ old.pages
  same_pages = ap (λ (h : Heap). h.pages) changes.beside

  -- They are the machine's still.
  pub table_opened : (table : Table) → IsTable old kept table → IsTable new kept table
  table_opened table is = record {
    present = subst (AreFrom new 1 table) (sym procs_are)
        (changed_table is.present new (with_places pid changes.now)
        (all_by (λ proc. (process_of new (with_places pid changes.now proc) ≡ process_of old proc) × ((with_places pid changes.now proc).pid ≡ proc.pid)) (processes old kept)
        (λ proc. (by_test proc (proc.pid == pid), places_pid pid changes.now proc))));
    made = is.made;
  }
    where
      in_heap : (proc : Proc) → process_of new proc ≡ process_of old proc
      in_heap proc = process_of-same old new proc (λ page. content_kept old new proc.nodes page same_nodes same_pages)

      by_test : (proc : Proc) (b : Bool) → process_of new (cond b (opening changes.now proc) proc) ≡ process_of old proc
      by_test proc true = in_heap proc
      by_test proc false = in_heap proc

  becomes_it : (proc is : Proc) → becomes proc ≡ Some is → is ≡ with_places pid changes.now proc
  becomes_it proc is e = some_same (Some is) is (with_places pid changes.now proc) refl (sym e)

  never : {X : Type 0} (proc : Proc) → Some proc ≡ None → X
  never proc e = cc

  -- with the memory that they had
  pub account_opened : (frames : Frames) → HasAccount old kept frames → HasAccount new kept frames
  account_opened frames has =
      becomes_account (λ (proc : Proc). Unit {0}) becomes old new kept kept frames
      (λ proc is e. ap (λ (p : Proc). p.pid) (becomes_it proc is e) ∙ places_pid pid changes.now proc)
      (λ proc is its e. ap (λ (p : Proc). p.nodes) (becomes_it proc is e) ∙ places_nodes pid changes.now proc)
      (λ proc its e. never (with_places pid changes.now proc) e)
      (all_by (λ (proc : Proc). Unit {0}) (processes old kept) (λ proc. tt))
      (procs_are ∙ sym (all_changed (with_places pid changes.now) (processes old kept))) refl same_nodes same_pages has

  -- ---- the table holds

  -- who runs may have anything open
  light : IsAlive (processes old kept) pid → AreListed new kept → AllByRecursion IsLight (processes new kept)
  light alive listed =
      all_found IsLight (processes new kept) 0 (rising_procs new.procs kept.listed 0 kept.last listed.stored listed.rising)
      (λ q proc above is. by_pid_of q proc is (eqb_tells q pid))
    where
      up : changes.proc.status ≡ None
      up = ap (λ (p : Proc). p.status) (some_same (proc_of (processes old kept) pid) changes.proc alive.proc before alive.there) ∙ alive.runs

      was : IsLight changes.proc
      was = has_it IsLight (processes old kept) pid changes.proc holds.light before

      of_pid : IsLight now
      of_pid = subst IsLight (sym changes.same) (record {
        memory = was.memory;
        descriptors = subst (λ status. HasNoneOpenOnce status changes.now.descriptors changes.now.leaves) (sym up) tt;
        awake = subst (λ status. IsAwakeOnce status changes.proc.opening) (sym up) tt;
      })

      by_pid_of : (q : ℕ) (proc : Proc) → proc_of (processes new kept) q ≡ Some proc
          → (((q == pid) ≡ true) × (q ≡ pid)) ⊎ (((q == pid) ≡ false) × (q ≢ pid)) → IsLight proc
      by_pid_of q proc is (inl same) =
          subst IsLight (some_same (proc_of (processes new kept) q) now proc (ap (proc_of (processes new kept)) same.1 ∙ here) is) of_pid
      by_pid_of q proc is (inr apart) = has_it IsLight (processes old kept) q proc holds.light (sym (others q apart.1) ∙ is)

  pub holds_opened : IsAlive (processes old kept) pid → AreListed new kept → OwnsItsObjects new → Holds new kept
  holds_opened alive listed owns =
      let by = by_pid new kept listed owns in
      record {
        stored = listed.stored;
        rising = listed.rising;
        light = light alive listed;
        owned = (record { spaces = []; queues = by.queues }, by.owned);
      }

-- Where a call changes what a process has open that runs, only what is open has changed of the store.
pub moves_opened : (old new : Objects) (pid : ℕ) → Holds old.heap old.procs → new.procs ≡ old.procs → new.tree ≡ old.tree → new.names ≡ old.names → new.fifos ≡ old.fifos → new.locks ≡ old.locks → IsChain old.heap old.fifos → IsAlive (procs_of old) pid
    → ChangesNumbers old.heap new.heap old.procs pid → AreListed new.heap old.procs → HasItsOwners new.heap [] → ((key : ℕ) → name_of new.heap.socks key ≡ name_of old.heap.socks key) → OpenMoves old new
moves_opened old new pid holds same tree table fifos locks chain alive changes listed owners names =
    subst (λ (procs : TableView). OpenMoves old (record { heap = new.heap; procs = procs; tree = new.tree; names = new.names; fifos = new.fifos; locks = new.locks })) (sym same) (record {
      procs = record { same = refl; each = each old.heap new.heap old.procs pid holds changes };
      holds = holds_opened old.heap new.heap old.procs pid holds changes alive listed owners.objects;
      all = listed.all;
      leaves = listed.leaves;
      owners = owners;
      names = names;
      chain = subst (IsChain new.heap) (sym fifos) (chain_kept old.heap new.heap old.fifos changes.links chain);
      locks = record { shelf = ap (λ (h : Heap). h.locks) changes.beside; first = locks };
      tree = record {
        tree = tree;
        names = table;
        caches = record {
          vnodes = ap (λ (h : Heap). h.vnodes) changes.beside;
          names = ap (λ (h : Heap). h.names) changes.beside;
          blocks = ap (λ (h : Heap). h.blocks) changes.beside;
          size = ap (λ (h : Heap). h.heap) changes.beside;
        };
      };
    })
