-- What the objects of a store keep when processes change.
use Rattle.std.proofs.Common.{◌≡◌, ℕ, ◌<◌, List, [], ◌∷◌, ◌++◌, length, Option, is_some, refl, ap, sym, ◌∙◌, subst, inl, inr, arith, append-nil}
use Rattle.std.specs.List.{AllByRecursion, Contains}
use Rattle.kabi_types.specs.declared.scripts.Script.{Script}
use Rattle.fifo_nodes.specs.Chain.{IsChain}
use Rattle.fifo_nodes.proofs.ChainLemmas.{chain_kept}
use Rattle.kheap_slabs.specs.Leaves.{HoldLeaves}
use Rattle.kheap_slabs.specs.declared.objects.Leaf.{Leaf}
use Rattle.kheap_laws.proofs.TableLemmas.{OwnsItsObjects-along}
use Rattle.kheap_slabs.specs.Objects.{InUse, object}
use Rattle.kheap_slabs.specs.declared.objects.Lock.{Lock as HeldLock}
use Rattle.kheap_slabs.specs.declared.objects.Proc.{Proc}
use Rattle.kheap_slabs.specs.declared.objects.Sock.{Sock}
use Rattle.kheap_slabs.specs.Heap.{Heap}
use Rattle.kheap_slabs.specs.Keys.{AreKeysOf, IsOnce}
use Rattle.kheap_slabs.specs.Owners.{OwnsItsObjects, pipe_queues, sock_queues}
use Rattle.kheap_laws.proofs.KeyLemmas.{AreKeysOf-changes}
use Rattle.kheap_laws.proofs.OnceLemmas.{IsOnce-cons}
use Rattle.lock_table.specs.Chain.{IsLockTable}
use Rattle.open_laws.specs.Owned.{CountsItsNames, HasItsOwners, IsHeldOpen, desc_count_at, leaf_namings_of}
use Rattle.open_laws.proofs.GoingLemmas.{held_open_on}
use Rattle.pipe_ends.proofs.LinkLemmas.{links_same}
use Rattle.proc_numbers.specs.Having.{AreListed}
use Rattle.proc_files.specs.Names.{AreBound, name_of}
use Rattle.proc_table.specs.Moves.{TableMoves}
use Rattle.proc_table.specs.Table.{AreBetween, AreStored, TableView, keys_of, processes}
use Rattle.proc_table.specs.declared.places.Place.{Place}
use Rattle.proc_table.proofs.PlaceLemmas.{Contains-cases, IsAt, Misses, Misses-lower, stored_is}
use Rattle.store_objects.specs.declared.objects.Objects.{Objects}
use Rattle.store_objects.specs.Objects.{AreAtCalls, AreKept, most_nodes, procs_of}
use Rattle.store_objects.specs.Trees.{CachesStay, KeepsTree}
use Rattle.memfs_ops.specs.FileTree.{TreeView}
use Rattle.store_objects.proofs.TreesOn.{caches_on}
use Rattle.store_objects.proofs.Namings.{names_in, namings_are}
use Rattle.store_objects.proofs.Peeling.{OwnedByPid, by_key, by_pid}

misses_none : (places : List Place) (key : ℕ) → Misses key places → Contains (keys_of places) key → ⊥
misses_none [] key misses there = omega (arith, there.1)
misses_none (place ∷ places) key misses there = elim (Contains-cases place.key key (keys_of places) there) [
  | inl same ↦ misses.0 same
  | inr behind ↦ misses_none places key misses.1 behind
]

-- no two places have one key
keys_once : (objects : List (Option Proc)) (places : List Place) (before last : ℕ) → AreStored objects places → AreBetween before places last → IsOnce (keys_of places)
keys_once objects [] before last stored rising = λ i j less below. absurd (omega arith)
keys_once objects (place ∷ places) before last stored rising =
    let at : IsAt objects place = stored_is objects place stored.0 in
    IsOnce-cons place.key (keys_of places)
    (misses_none places place.key (Misses-lower objects places place.pid last place.key at.proc stored.1 rising.1 at.is (let e : at.proc.pid ≡ place.pid = at.pid in omega arith)))
    (keys_once objects places place.pid last stored.1 rising.1)

-- each has its object
keys_used : (objects : List (Option Proc)) (places : List Place) (key : ℕ) → AreStored objects places → Contains (keys_of places) key → InUse objects key
keys_used objects [] key stored there = absurd (omega (arith, there.1))
keys_used objects (place ∷ places) key stored there = elim (Contains-cases place.key key (keys_of places) there) [
  | inl same ↦ (let at : IsAt objects place = stored_is objects place stored.0 in ap is_some (ap (object objects) (sym same) ∙ at.is))
  | inr behind ↦ keys_used objects places key stored.1 behind
]

-- the table has all processes in the heap still
pub all_on : (old new : Heap) (was now : TableView) → AreKeysOf old.procs (keys_of was.listed) → TableMoves old was new now
    → AreKeysOf new.procs (keys_of now.listed)
all_on old new was now all moves =
    subst (AreKeysOf new.procs) (append-nil (keys_of now.listed))
    (AreKeysOf-changes old.procs new.procs (keys_of was.listed) (keys_of now.listed) []
    (subst (AreKeysOf old.procs) (sym (append-nil (keys_of was.listed))) all) moves.keys
    (λ key there. keys_used new.procs now.listed key moves.holds.stored there)
    (keys_once new.procs now.listed 0 now.last moves.holds.stored moves.holds.rising))

pub listed_on : (old new : Heap) (was now : TableView) → AreKeysOf old.procs (keys_of was.listed) → HoldLeaves new.leaves (processes new now) → TableMoves old was new now → AreListed new now
listed_on old new was now all leaves moves =
    record { stored = moves.holds.stored; rising = moves.holds.rising; all = all_on old new was now all moves; leaves = leaves }

-- the processes of a store are all in its table
pub listed_in : (script : Script) (objects : Objects) → AreKept script objects → AreListed objects.heap objects.procs
listed_in script objects kept = record { stored = kept.holds.stored; rising = kept.holds.rising; all = kept.all; leaves = kept.leaves }

-- All has its owner where a table moves on, with these namings of Descs. Leaves that came for a process that is being made are its own
-- then; before, they were no process's.
pub owners_so : (old new : Heap) (was now : TableView) (without : List (Option Leaf)) → AreListed (record old { leaves = without }) was → HoldLeaves new.leaves (processes new now) → TableMoves old was new now
    → OwnsItsObjects old → IsHeldOpen old → CountsItsNames new [] → HasItsOwners new []
owners_so old new was now without listed leaves moves objects held named = record {
  objects = by_key new now (listed_on old new was now listed.all leaves moves) (record {
    queues = by.queues;
    are = by.are ∙ sym (ap (λ (h : Heap). pipe_queues h.pipes ++ sock_queues h.socks) moves.kept);
    owned = moves.owners (record { spaces = []; queues = by.queues })
        (let own = by.owned in record { nodes = own.nodes; mapped = own.mapped; pages = own.pages; chunks = own.chunks; queues = own.queues });
  });
  named = named;
  held = held_open_on old new (ap (λ (h : Heap). h.descs) moves.kept) (ap (λ (h : Heap). h.pipes) moves.kept) (ap (λ (h : Heap). h.socks) moves.kept) (ap (λ (h : Heap). h.chunks) moves.kept) held;
}
  where
    by : OwnedByPid (record old { leaves = without }) was
    by = by_pid (record old { leaves = without }) was listed (OwnsItsObjects-along old (record old { leaves = without }) refl refl refl refl refl refl objects)

-- Where the processes name as many Descs as before, and the Leaves are the same.
pub owners_on : (old new : Heap) (was now : TableView) → AreListed (record old { leaves = old.leaves }) was → HoldLeaves new.leaves (processes new now) → TableMoves old was new now
    → HasItsOwners old [] → ((key : ℕ) → names_in key (processes new now) ≡ names_in key (processes old was)) → HasItsOwners new []
owners_on old new was now listed leaves moves owners names =
    owners_so old new was now old.leaves listed leaves moves owners.objects owners.held (record {
      counts = λ key.
          let count = ap (λ descs. desc_count_at descs key) same in
          let before = owners.named.counts key in
          let were = namings_are (record old { leaves = old.leaves }) was key listed in
          let are = namings_are new now key (listed_on old new was now listed.all leaves moves) in
          let in_leaves = ap (λ (h : Heap). leaf_namings_of h.leaves key) moves.kept in
          let as_many = names key in
          omega (arith, count, before, were, are, in_leaves, as_many);
      named = λ key used. subst (λ descs. 0 < desc_count_at descs key) (sym same) (owners.named.named key (subst (λ descs. InUse descs key) same used));
    })
  where
    same : new.descs ≡ old.descs
    same = ap (λ (h : Heap). h.descs) moves.kept

-- a table that moves on leaves what caches have in the heap
pub moved_caches : (old new : Heap) (was now : TableView) → TableMoves old was new now → CachesStay old new
moved_caches old new was now moves = record {
  vnodes = ap (λ (h : Heap). h.vnodes) moves.kept;
  names = ap (λ (h : Heap). h.names) moves.kept;
  blocks = ap (λ (h : Heap). h.blocks) moves.kept;
  size = ap (λ (h : Heap). h.heap) moves.kept;
}

-- What is kept of a heap, a table, a tree of files, a table of names, the chain of FIFOs' pipes and that of locks, but for what is
-- open. Some Leaves may have come that no process has yet.
pub record KeepsHeap (script : Script) (h : Heap) (kept : TableView) (fs : TreeView) (names : List (Option ℕ)) (first held : Option ℕ) : Type 0 where
  pub without : List (Option Leaf)
  pub listed : AreListed (record h { leaves = without }) kept
  pub bound : AreBound (name_of h.socks) names
  pub places : most_nodes < length names
  pub chain : IsChain h first
  pub locked : IsLockTable h.locks held
  pub caches : KeepsTree h fs
  pub size : h.heap ≡ script.heap

pub keeps_heap : (script : Script) (objects : Objects) → AreKept script objects → KeepsHeap script objects.heap objects.procs objects.tree objects.names objects.fifos objects.locks
keeps_heap script objects kept = record {
  without = objects.heap.leaves;
  listed = record { stored = kept.holds.stored; rising = kept.holds.rising; all = kept.all; leaves = kept.leaves };
  bound = kept.bound;
  places = kept.places;
  chain = kept.chain;
  locked = kept.locked;
  caches = kept.caches;
  size = kept.size;
}

-- The objects are kept where a table moves on, each process has four groups and stands at its call, and all has its owner.
pub kept_with : (script : Script) (old : Heap) (was : TableView) (fs : TreeView) (names : List (Option ℕ)) (first held : Option ℕ) (new : Objects) → KeepsHeap script old was fs names first held → new.tree ≡ fs → new.names ≡ names → new.fifos ≡ first → new.locks ≡ held
    → TableMoves old was new.heap new.procs → HoldLeaves new.heap.leaves (procs_of new) → HasItsOwners new.heap []
    → AllByRecursion (λ proc. length proc.nodes ≡ 4) (procs_of new) → AreAtCalls script (procs_of new) → AreKept script new
kept_with script old was fs table first held new keeps tree same fifos locks moves leaves owners groups calls = record {
  holds = moves.holds;
  all = all_on old new.heap was new.procs keeps.listed.all moves;
  leaves = leaves;
  owners = owners;
  groups = groups;
  calls = calls;
  bound = subst (λ (list : List (Option ℕ)). AreBound (name_of new.heap.socks) list) (sym same)
      (subst (λ (socks : List (Option Sock)). AreBound (name_of socks) table) (sym (ap (λ (h : Heap). h.socks) moves.kept)) keeps.bound);
  places = subst (λ (list : List (Option ℕ)). most_nodes < length list) (sym same) keeps.places;
  chain = subst (IsChain new.heap) (sym fifos) (chain_kept old new.heap first (links_same old new.heap (ap (λ (h : Heap). h.pipes) moves.kept)) keeps.chain);
  locked = subst (IsLockTable new.heap.locks) (sym locks) (subst (λ (shelf : List (Option HeldLock)). IsLockTable shelf held) (sym (ap (λ (h : Heap). h.locks) moves.kept)) keeps.locked);
  caches = caches_on old new.heap fs new.tree tree (moved_caches old new.heap was new.procs moves) keeps.caches;
  size = ap (λ (h : Heap). h.heap) moves.kept ∙ keeps.size;
}

pub kept_on : (script : Script) (old new : Objects) → AreKept script old → new.tree ≡ old.tree → new.names ≡ old.names → new.fifos ≡ old.fifos → new.locks ≡ old.locks → TableMoves old.heap old.procs new.heap new.procs
    → HoldLeaves new.heap.leaves (procs_of new) → AllByRecursion (λ proc. length proc.nodes ≡ 4) (procs_of new) → AreAtCalls script (procs_of new)
    → ((key : ℕ) → names_in key (procs_of new) ≡ names_in key (procs_of old)) → AreKept script new
unfolding keeps_heap
kept_on script old new kept tree same fifos locks moves leaves groups calls names =
    let keeps = keeps_heap script old kept in
    kept_with script old.heap old.procs old.tree old.names old.fifos old.locks new keeps tree same fifos locks moves leaves
    (owners_on old.heap new.heap old.procs new.procs keeps.listed leaves moves kept.owners names) groups calls
