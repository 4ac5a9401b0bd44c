-- The objects of a store after a call that changed queues and its caller's memory.
use Rattle.std.proofs.Common.{◌≡◌, ℕ, ℤ, false, List, Option, length, unwrap_or, ap, refl, sym, subst, ◌∙◌}
use Rattle.std.specs.List.{AllByRecursion}
use Rattle.std.specs.Prelude.{IsSome}
use Rattle.kabi_types.specs.declared.scripts.Control.{Control}
use Rattle.kabi_types.specs.declared.scripts.Script.{Script}
use Rattle.fifo_nodes.proofs.ChainLemmas.{chain_kept}
use Rattle.kheap_slabs.specs.declared.objects.Lock.{Lock as HeldLock}
use Rattle.kheap_slabs.specs.declared.objects.Proc.{Proc}
use Rattle.kheap_slabs.specs.Heap.{Heap}
use Rattle.lock_table.specs.Chain.{HoldsLocks, IsLockTable}
use Rattle.pipe_ends.specs.Links.{KeepsLinks}
use Rattle.posix_defs.specs.Account.{Account}
use Rattle.posix_defs.specs.ByPid.{at_pid}
use Rattle.posix_defs.specs.Calls.Opened.{opened_at}
use Rattle.posix_defs.specs.Control.{settled}
use Rattle.posix_defs.specs.Plain.{Plain, at_start}
use Rattle.posix_defs.specs.World.{World}
use Rattle.proc_numbers.specs.Found.{IsOffNodes, is_in_tree}
use Rattle.proc_files.specs.Names.{name_of}
use Rattle.proc_files.proofs.Bindings.{bound_on}
use Rattle.proc_numbers.specs.Standing.{IsKept, StandsFor as QueuesStandFor}
use Rattle.proc_numbers.proofs.MayMove.{alive_listed}
use Rattle.proc_table.specs.Procs.{IsAlive, proc_of}
use Rattle.proc_table.specs.Table.{key_of, procs_at}
use Rattle.store_objects.specs.declared.objects.Objects.{Objects}
use Rattle.store_objects.specs.Files.{AreSettled, HaveFiles}
use Rattle.store_objects.specs.Objects.{AreAtCalls, AreKept, Runs, procs_of}
use Rattle.store_objects.specs.Standing.{StandsFor}
use Rattle.store_objects.proofs.TreesOn.{caches_on, tree_goes_on, works_on}
use Rattle.store_objects.specs.Trees.{CachesStay}
use Rattle.store_objects.proofs.Keeping.{listed_in}
use Rattle.queue_calls.proofs.Choosing.{off_in}
use Rattle.queue_calls.proofs.Remaining.{Remains}

-- ---- what calls ask

-- processes and what is open are kept
pub is_kept : (script : Script) (objects : Objects) → AreKept script objects → IsKept objects.heap objects.procs
is_kept script objects kept = record { holds = kept.holds; listed = listed_in script objects kept; owners = kept.owners }

-- who runs is alive, and has a key
pub runs_alive : (objects : Objects) (pid : ℕ) (control : Control) → Runs objects pid control → IsAlive (procs_of objects) pid
runs_alive objects pid control runs = record { proc = runs.proc; there = runs.found; runs = runs.up }

pub has_key : (script : Script) (objects : Objects) (pid : ℕ) → AreKept script objects → IsAlive (procs_of objects) pid → IsSome (key_of objects.procs.listed pid)
has_key script objects pid kept alive = alive_listed objects.heap objects.procs pid kept.holds.stored alive

-- what a number is open on is no node of the machine either
pub off_world : (script : Script) (objects : Objects) (world : World) (pid : ℕ) (fd : ℤ) → StandsFor script objects world → IsOffNodes objects.heap objects.procs pid fd
    → is_in_tree (opened_at world.plain.files pid fd) ≡ false
off_world script objects world pid fd stands off =
    off_in stands.files.numbers objects.heap objects.procs world.plain.files pid fd (listed_in script objects stands.kept) stands.kept.owners stands.files.opened off

-- they stand for the machine, by the store's numbers
pub queues_stand : (script : Script) (objects : Objects) (world : World) → (stands : StandsFor script objects world)
    → QueuesStandFor stands.files.numbers objects.heap objects.procs world.plain world.account
queues_stand script objects world stands = record {
  table = stands.processes.table;
  opened = stands.files.opened;
  frames = stands.memory;
  fronts = stands.files.fronts;
}

-- ---- what they leave

-- A heap but for descriptions, nodes, pages, pipes, sockets, chunks, and how high it was; the pipes of FIFOs stand as they stood.
pub record LeavesRest (old new : Heap) : Type 0 where
  pub procs : new.procs ≡ old.procs
  pub vnodes : new.vnodes ≡ old.vnodes
  pub names : new.names ≡ old.names
  pub blocks : new.blocks ≡ old.blocks
  pub size : new.heap ≡ old.heap
  pub locks : new.locks ≡ old.locks
  pub links : KeepsLinks old new

pub leaves_rest : (old new : Heap) → new ≡ record old { nodes = new.nodes; pages = new.pages; pipes = new.pipes; chunks = new.chunks; socks = new.socks; high = new.high } → KeepsLinks old new → LeavesRest old new
leaves_rest old new beside links = record {
  procs = ap (λ (h : Heap). h.procs) beside;
  vnodes = ap (λ (h : Heap). h.vnodes) beside;
  names = ap (λ (h : Heap). h.names) beside;
  blocks = ap (λ (h : Heap). h.blocks) beside;
  size = ap (λ (h : Heap). h.heap) beside;
  locks = ap (λ (h : Heap). h.locks) beside;
  links = links;
}

pub leaves_more : (old new : Heap) → new ≡ record old { pipes = new.pipes; chunks = new.chunks; socks = new.socks; high = new.high } → KeepsLinks old new → LeavesRest old new
leaves_more old new beside links = record {
  procs = ap (λ (h : Heap). h.procs) beside;
  vnodes = ap (λ (h : Heap). h.vnodes) beside;
  names = ap (λ (h : Heap). h.names) beside;
  blocks = ap (λ (h : Heap). h.blocks) beside;
  size = ap (λ (h : Heap). h.heap) beside;
  locks = ap (λ (h : Heap). h.locks) beside;
  links = links;
}

module _ (script : Script) (old : Objects) (new : Heap) (is : IsKept new old.procs) (rest : LeavesRest old.heap new) (names : (key : ℕ) → name_of new.socks key ≡ name_of old.heap.socks key) where
  abbrev pub mid : Objects
  mid = record { heap = new; procs = old.procs; tree = old.tree; names = old.names; fifos = old.fifos; locks = old.locks }

  caches : CachesStay old.heap new
  caches = record { vnodes = rest.vnodes; names = rest.names; blocks = rest.blocks; size = rest.size }

  -- the objects are kept
  pub kept_mid : AreKept script old → AreKept script mid
  kept_mid kept = record {
    holds = is.holds;
    all = is.listed.all;
    leaves = is.listed.leaves;
    owners = is.owners;
    groups = subst (λ (procs : List (Option Proc)). AllByRecursion (λ proc. length proc.nodes ≡ 4) (procs_at procs old.procs.listed)) (sym rest.procs) kept.groups;
    calls = subst (λ (procs : List (Option Proc)). AreAtCalls script (procs_at procs old.procs.listed)) (sym rest.procs) kept.calls;
    bound = bound_on (name_of old.heap.socks) (name_of new.socks) old.names kept.bound names;
    places = kept.places;
    chain = chain_kept old.heap new old.fifos rest.links kept.chain;
    locked = subst (λ (shelf : List (Option HeldLock)). IsLockTable shelf old.locks) (sym rest.locks) kept.locked;
    caches = caches_on old.heap new old.tree old.tree refl caches kept.caches;
    size = rest.size ∙ kept.size;
  }

  -- who ran runs
  pub runs_mid : (pid : ℕ) (control : Control) → Runs old pid control → Runs mid pid control
  runs_mid pid control runs =
      subst (λ (procs : List (Option Proc)). Runs (record mid { heap = record new { procs = procs } }) pid control) (sym rest.procs)
      (record { proc = runs.proc; found = runs.found; up = runs.up; at_call = runs.at_call })

  -- The objects stand for the world with another machine and its account, where heap and table stand for these.
  pub stands_mid : (world : World) → (stands : StandsFor script old world) → (next : Plain) (account : Account)
      → QueuesStandFor stands.files.numbers new old.procs next account → next.controls ≡ world.plain.controls → Remains world.plain next
      → AreSettled next.files account → StandsFor script mid (record world { plain = next; account = account })
  stands_mid world stands next account leads controls remains settles = record {
    valid = stands.valid;
    kept = kept_mid stands.kept;
    processes = record {
      table = leads.table;
      last = stands.processes.last ∙ sym (ap (λ (list : List Control). length list) controls);
      controls = λ pid proc found up.
          ap (λ (list : List Control). settled script (unwrap_or (at_pid list pid) (at_start 0))) controls
          ∙ stands.processes.controls pid proc (sym (ap (λ (procs : List (Option Proc)). proc_of (procs_at procs old.procs.listed) pid) rest.procs) ∙ found) up;
    };
    memory = leads.frames;
    files = files;
    tree = tree_goes_on script old mid world (record world { plain = next; account = account }) stands remains.nodes.opens remains.works
        (record { tree = refl; names = refl; caches = caches }) remains.nodes.tree refl refl;
    locks = subst (HoldsLocks new.locks old.locks) (sym remains.locks)
        (subst (λ (shelf : List (Option HeldLock)). HoldsLocks shelf old.locks world.plain.files.locks) (sym rest.locks) stands.locks);
    family = remains.family stands.family;
    works = works_on world.plain next remains.nodes.tree remains.works stands.works;
  }
    where
      files : HaveFiles mid next.files account
      files = record {
        numbers = stands.files.numbers;
        opened = leads.opened;
        fronts = leads.fronts;
        settled = settles;
      }
