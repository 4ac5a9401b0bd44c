-- What a call on files leaves of processes, and of their memory.
use Rattle.std.proofs.Common.{◌≡◌, ◌≢◌, ◌⊎◌, ℕ, ◌==◌, true, false, [], None, Some, length, refl, ap, sym, ◌∙◌, subst, inl, inr}
use Rattle.std.specs.List.{AllByRecursion}
use Rattle.std.specs.Option.{option_map}
use Rattle.std.proofs.lemmas.Bool.Decides.{eqb_tells}
use Rattle.fifo_nodes.specs.Chain.{IsChain}
use Rattle.kheap_slabs.specs.declared.objects.Proc.{Proc}
use Rattle.kheap_slabs.specs.Heap.{Heap}
use Rattle.kheap_slabs.specs.Owners.{OwnsItsObjects}
use Rattle.lock_table.specs.Chain.{IsLockTable}
use Rattle.open_laws.specs.Owned.{HasItsOwners}
use Rattle.posix_defs.specs.Memory.{Frames}
use Rattle.posix_defs.specs.Process.{Table}
use Rattle.proc_numbers.specs.Having.{AreListed}
use Rattle.proc_numbers.specs.Naming.{ChangesNumbers}
use Rattle.proc_numbers.proofs.Listing.{found_before, found_now, found_others}
use Rattle.proc_files.specs.Closing.{ChangesHolding}
use Rattle.proc_files.specs.Names.{AreBound, name_of}
use Rattle.proc_numbers.specs.Standing.{IsKept}
use Rattle.proc_table.specs.Accounting.{HasAccount}
use Rattle.proc_table.specs.Procs.{HasNoneOpenOnce, IsAlive, IsAwakeOnce, IsLight, proc_of}
use Rattle.proc_table.specs.Standing.{IsTable}
use Rattle.proc_table.specs.Table.{Holds, TableView, processes, procs_at}
use Rattle.proc_table.proofs.LawLemmas.{elsewhere_account, elsewhere_table}
use Rattle.proc_table.proofs.OwnLemmas.{has_it, rising_procs}
use Rattle.proc_table.proofs.PlaceLemmas.{some_same}
use Rattle.store_objects.specs.declared.objects.Objects.{Objects}
use Rattle.store_objects.specs.Objects.{procs_of}
use Rattle.store_objects.specs.Trees.{KeepsTree}
use Rattle.store_objects.proofs.Peeling.{by_pid}
use Rattle.store_objects.proofs.RunningProcs.{all_found}
use Rattle.store_objects.specs.OpenMoves.{ProcsStay, opening}
use Rattle.store_objects.proofs.Numbers.{account_opened, opening_own, own_of, table_opened}
use Rattle.store_objects.specs.FileMoves.{FileMoves, MemoryStays}

-- a table that has all processes of a heap holds, where each that has ended has nothing
holds_all : (h : Heap) (kept : TableView) → AreListed h kept → OwnsItsObjects h → AllByRecursion IsLight (processes h kept) → Holds h kept
holds_all h kept listed owns light =
    let by = by_pid h kept listed owns in
    record { stored = listed.stored; rising = listed.rising; light = light; owned = (record { spaces = []; queues = by.queues }, by.owned) }

-- ---- where no process has other numbers

module _ (old new : Objects) (same : new.procs ≡ old.procs) (procs : new.heap.procs ≡ old.heap.procs) where
  processes_same : processes new.heap old.procs ≡ procs_of old
  processes_same = ap (λ there. procs_at there old.procs.listed) procs

  pub procs_elsewhere : ProcsStay old new
  procs_elsewhere = record {
    same = same;
    each = λ pid. (
      own_of (proc_of (procs_of old) pid),
      ap (λ (view : TableView). proc_of (processes new.heap view) pid) same ∙ ap (λ all. proc_of all pid) processes_same ∙ opening_own (proc_of (procs_of old) pid),
    );
  }

  -- the table holds still
  pub holds_elsewhere : Holds old.heap old.procs → AreListed new.heap old.procs → HasItsOwners new.heap [] → Holds new.heap old.procs
  holds_elsewhere holds listed owners = holds_all new.heap old.procs listed owners.objects (subst (AllByRecursion IsLight) (sym processes_same) holds.light)

  pub memory_elsewhere : new.heap.nodes ≡ old.heap.nodes → new.heap.pages ≡ old.heap.pages → MemoryStays old new
  memory_elsewhere nodes pages = record {
    table = λ table is. subst (λ (view : TableView). IsTable new.heap view table) (sym same) (elsewhere_table old.heap new.heap old.procs table procs nodes pages is);
    account = λ frames has. subst (λ (view : TableView). HasAccount new.heap view frames) (sym same) (elsewhere_account old.heap new.heap old.procs frames procs nodes pages has);
  }

  -- so the store goes on
  pub moves_elsewhere : IsKept new.heap old.procs → AreBound (name_of new.heap.socks) new.names → length new.names ≡ length old.names → KeepsTree new.heap new.tree
      → new.heap.heap ≡ old.heap.heap → IsChain new.heap new.fifos → IsLockTable new.heap.locks new.locks → FileMoves old new
  moves_elsewhere is bound places keeps size chain locked = record {
    procs = procs_elsewhere;
    holds = subst (Holds new.heap) (sym same) is.holds;
    all = (subst (AreListed new.heap) (sym same) is.listed).all;
    leaves = (subst (AreListed new.heap) (sym same) is.listed).leaves;
    owners = is.owners;
    bound = bound;
    places = places;
    chain = chain;
    locked = locked;
    keeps = keeps;
    size = size;
  }

-- ---- where one process has other numbers

module _ (old new : Heap) (kept : TableView) (pid : ℕ) (changes : ChangesHolding old new kept pid) where
  -- the heap with what the caches had, and with its pipes
  abbrev mid : Heap
  mid = record old { procs = new.procs; leaves = new.leaves; descs = new.descs; chunks = new.chunks; socks = new.socks; high = new.high }

  numbers : ChangesNumbers old mid kept pid
  numbers = record {
    key = changes.key;
    proc = changes.proc;
    now = changes.now;
    named = changes.named;
    there = changes.there;
    same = changes.same;
    procs = changes.procs;
    beside = refl;
    links = λ key. refl;
  }

  same_nodes : new.nodes ≡ mid.nodes
  same_nodes = ap (λ (h : Heap). h.nodes) changes.beside

  same_pages : new.pages ≡ mid.pages
  same_pages = ap (λ (h : Heap). h.pages) changes.beside

  pub table_holding : (table : Table) → Holds old kept → IsTable old kept table → IsTable new kept table
  table_holding table holds is = elsewhere_table mid new kept table refl same_nodes same_pages (table_opened old mid kept pid holds numbers table is)

  pub account_holding : (frames : Frames) → Holds old kept → HasAccount old kept frames → HasAccount new kept frames
  account_holding frames holds has = elsewhere_account mid new kept frames refl same_nodes same_pages (account_opened old mid kept pid holds numbers frames has)

  -- ---- the processes

  abbrev now : Proc
  now = changes.now

  own : now.pid ≡ changes.proc.pid
  own = ap (λ (p : Proc). p.pid) changes.same

  module _ (holds : Holds old kept) where
    here : proc_of (processes new kept) pid ≡ Some now
    here =
        ap (λ procs. proc_of (procs_at procs kept.listed) pid) changes.procs
        ∙ found_now old.procs changes.key changes.proc now changes.there own kept.listed pid holds.stored changes.named

    before : proc_of (processes old kept) pid ≡ Some changes.proc
    before = found_before old.procs changes.key changes.proc now changes.there own kept.listed pid holds.stored changes.named

    others : (q : ℕ) → q ≢ pid → proc_of (processes new kept) q ≡ proc_of (processes old kept) q
    others q apart =
        ap (λ procs. proc_of (procs_at procs kept.listed) q) changes.procs
        ∙ found_others old.procs changes.key changes.proc now changes.there own kept.listed pid holds.stored changes.named q apart

    -- each is there with other descriptors, or with its own
    each : (q : ℕ) → (is : Proc) × (proc_of (processes new kept) q ≡ option_map (opening is) (proc_of (processes old kept) q))
    each q = by_test (eqb_tells q pid)
      where
        by_test : (((q == pid) ≡ true) × (q ≡ pid)) ⊎ (((q == pid) ≡ false) × (q ≢ pid))
            → (is : Proc) × (proc_of (processes new kept) q ≡ option_map (opening is) (proc_of (processes old kept) q))
        by_test (inl same) = (
          changes.now,
          subst (λ n. proc_of (processes new kept) n ≡ option_map (opening changes.now) (proc_of (processes old kept) n)) (sym same.1)
              (here ∙ ap (λ (p : Proc). Some p) changes.same ∙ sym (ap (option_map (opening changes.now)) before)),
        )
        by_test (inr apart) = (own_of (proc_of (processes old kept) q), others q apart.1 ∙ opening_own (proc_of (processes old kept) q))

    -- who runs may have anything open
    light : IsAlive (processes old kept) pid → AreListed new kept → AllByRecursion IsLight (processes new kept)
    light alive listed =
        all_found IsLight (processes new kept) 0 (rising_procs new.procs kept.listed 0 kept.last listed.stored listed.rising)
        (λ q proc above is. by_test q proc is (eqb_tells q pid))
      where
        up : changes.proc.status ≡ None
        up = ap (λ (p : Proc). p.status) (some_same (proc_of (processes old kept) pid) changes.proc alive.proc before alive.there) ∙ alive.runs

        was : IsLight changes.proc
        was = has_it IsLight (processes old kept) pid changes.proc holds.light before

        of_pid : IsLight now
        of_pid = subst IsLight (sym changes.same) (record {
          memory = was.memory;
          descriptors = subst (λ status. HasNoneOpenOnce status changes.now.descriptors changes.now.leaves) (sym up) tt;
          awake = subst (λ status. IsAwakeOnce status changes.proc.opening) (sym up) tt;
        })

        by_test : (q : ℕ) (proc : Proc) → proc_of (processes new kept) q ≡ Some proc
            → (((q == pid) ≡ true) × (q ≡ pid)) ⊎ (((q == pid) ≡ false) × (q ≢ pid)) → IsLight proc
        by_test q proc is (inl same) =
            subst IsLight (some_same (proc_of (processes new kept) q) now proc (ap (proc_of (processes new kept)) same.1 ∙ here) is) of_pid
        by_test q proc is (inr apart) = has_it IsLight (processes old kept) q proc holds.light (sym (others q apart.1) ∙ is)

    pub holds_holding : IsAlive (processes old kept) pid → AreListed new kept → HasItsOwners new [] → Holds new kept
    holds_holding alive listed owners = holds_all new kept listed owners.objects (light alive listed)

-- Where a call changes what a process has open that runs, with what the caches keep, the store goes on.
module _ (old new : Objects) (pid : ℕ) (same : new.procs ≡ old.procs) (changes : ChangesHolding old.heap new.heap old.procs pid) (holds : Holds old.heap old.procs) where
  pub memory_holding : MemoryStays old new
  memory_holding = record {
    table = λ table is. subst (λ (view : TableView). IsTable new.heap view table) (sym same) (table_holding old.heap new.heap old.procs pid changes table holds is);
    account = λ frames has. subst (λ (view : TableView). HasAccount new.heap view frames) (sym same) (account_holding old.heap new.heap old.procs pid changes frames holds has);
  }

  pub moves_holding : IsAlive (procs_of old) pid → AreListed new.heap old.procs → HasItsOwners new.heap [] → AreBound (name_of new.heap.socks) new.names
      → length new.names ≡ length old.names → KeepsTree new.heap new.tree → IsChain new.heap new.fifos → IsLockTable new.heap.locks new.locks → FileMoves old new
  moves_holding alive listed owners bound places keeps chain locked = record {
    procs = record {
      same = same;
      each = λ q.
          let one = each old.heap new.heap old.procs pid changes holds q in
          (one.0, ap (λ (view : TableView). proc_of (processes new.heap view) q) same ∙ one.1);
    };
    holds = subst (Holds new.heap) (sym same) (holds_holding old.heap new.heap old.procs pid changes holds alive listed owners);
    all = (subst (AreListed new.heap) (sym same) listed).all;
    leaves = (subst (AreListed new.heap) (sym same) listed).leaves;
    owners = owners;
    bound = bound;
    places = places;
    chain = chain;
    locked = locked;
    keeps = keeps;
    size = ap (λ (h : Heap). h.heap) changes.beside;
  }
