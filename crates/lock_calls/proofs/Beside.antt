-- A heap of which locks alone are others stands for the same of all else.
use Rattle.std.proofs.Common.{◌≡◌, ℕ, List, [], Option, refl, ap, sym, subst}
use Rattle.fifo_nodes.specs.Chain.{IsChain}
use Rattle.fifo_nodes.proofs.ChainLemmas.{chain_kept}
use Rattle.kheap_laws.proofs.TableLemmas.{OwnsItsObjects-along}
use Rattle.kheap_slabs.specs.Heap.{Heap}
use Rattle.kheap_slabs.specs.declared.objects.Lock.{Lock as HeldLock}
use Rattle.kheap_slabs.specs.declared.objects.Sock.{Sock}
use Rattle.memfs_ops.specs.FileTree.{TreeView}
use Rattle.open_laws.specs.Owned.{HasItsOwners}
use Rattle.open_laws.specs.Placed.{Numbers}
use Rattle.open_laws.proofs.GoingLemmas.{held_open_on, named_on, open_on}
use Rattle.pipe_ends.proofs.LinkLemmas.{links_same}
use Rattle.posix_defs.specs.Files.State.{Files, with_locks}
use Rattle.posix_defs.specs.Locks.{Locks}
use Rattle.proc_files.specs.Closing.{ChangesHolding}
use Rattle.proc_files.specs.Holders.{holders}
use Rattle.proc_files.specs.Holding.{HoldFiles}
use Rattle.proc_files.specs.Names.{AreBound, name_of}
use Rattle.proc_files.proofs.Holding.{stands_on}
use Rattle.proc_numbers.proofs.Fronts.{queues_same}
use Rattle.proc_numbers.proofs.WithLocks.{have_locked}
use Rattle.proc_numbers.specs.Having.{AreListed, HaveOpen}
use Rattle.proc_numbers.specs.Queues.{QueuesStand}
use Rattle.proc_table.specs.Table.{TableView}

module _ (h : Heap) (locks : List (Option HeldLock)) (high : ℕ) where
  abbrev with : Heap
  with = record h { locks = locks; high = high }

  listed_with : (kept : TableView) → AreListed h kept → AreListed with kept
  listed_with kept listed = record { stored = listed.stored; rising = listed.rising; all = listed.all; leaves = listed.leaves }

  owners_with : HasItsOwners h [] → HasItsOwners with []
  owners_with owners = record {
    objects = OwnsItsObjects-along h with refl refl refl refl refl refl owners.objects;
    named = named_on h with [] refl (λ key. refl) owners.named;
    held = held_open_on h with refl refl refl refl owners.held;
  }

  have_with : (numbers : Numbers) (kept : TableView) (files : Files) → HaveOpen numbers h kept files → HaveOpen numbers with kept files
  have_with numbers kept files have = record {
    list = have.list;
    opened = open_on numbers h with have.list files files refl refl refl refl refl refl refl have.opened;
    descriptors = record { each = have.descriptors.each; made = have.descriptors.made; openings = have.descriptors.openings };
  }

  hold_with : (numbers : Numbers) (others : ℕ → ℕ) (kept : TableView) (fs : TreeView) (files : Files) → HoldFiles numbers others h kept fs files → HoldFiles numbers others with kept fs files
  hold_with numbers others kept fs files hold = record {
    opened = have_with numbers kept files hold.opened;
    tree = stands_on h with fs files.tree (holders others files) (record { vnodes = refl; names = refl; blocks = refl; size = refl }) hold.tree;
    nodes = hold.nodes;
    beside = hold.beside;
  }

  changes_with : (kept : TableView) (pid : ℕ) → ChangesHolding h h kept pid → ChangesHolding h with kept pid
  changes_with kept pid changes = record {
    key = changes.key;
    proc = changes.proc;
    now = changes.now;
    named = changes.named;
    there = changes.there;
    same = changes.same;
    procs = changes.procs;
    beside = refl;
  }

-- whichever locks the machine has, it stands for the same files
pub hold_locked : (numbers : Numbers) (others : ℕ → ℕ) (h : Heap) (kept : TableView) (fs : TreeView) (files : Files) (locks : Locks) → HoldFiles numbers others h kept fs files
    → HoldFiles numbers others h kept fs (with_locks files locks)
hold_locked numbers others h kept fs files locks hold =
    record { opened = have_locked numbers h kept files locks hold.opened; tree = hold.tree; nodes = hold.nodes; beside = hold.beside }

module _ (old heap : Heap) (is : heap ≡ record old { locks = heap.locks; high = heap.high }) where
  pub listed_so : (kept : TableView) → AreListed old kept → AreListed heap kept
  listed_so kept listed = subst (λ h. AreListed h kept) (sym is) (listed_with old heap.locks heap.high kept listed)

  pub owners_so : HasItsOwners old [] → HasItsOwners heap []
  owners_so owners = subst (λ h. HasItsOwners h []) (sym is) (owners_with old heap.locks heap.high owners)

  pub chain_so : (first : Option ℕ) → IsChain old first → IsChain heap first
  chain_so first chain = chain_kept old heap first (links_same old heap (ap (λ (h : Heap). h.pipes) is)) chain

  pub bound_so : (names : List (Option ℕ)) → AreBound (name_of old.socks) names → AreBound (name_of heap.socks) names
  bound_so names bound = subst (λ (socks : List (Option Sock)). AreBound (name_of socks) names) (sym (ap (λ (h : Heap). h.socks) is)) bound

  pub queues_so : QueuesStand old heap
  queues_so = queues_same old heap (ap (λ (h : Heap). h.pipes) is) (ap (λ (h : Heap). h.socks) is)

  pub hold_so : (numbers : Numbers) (others : ℕ → ℕ) (kept : TableView) (fs : TreeView) (files : Files) → HoldFiles numbers others old kept fs files → HoldFiles numbers others heap kept fs files
  hold_so numbers others kept fs files hold = subst (λ h. HoldFiles numbers others h kept fs files) (sym is) (hold_with old heap.locks heap.high numbers others kept fs files hold)

  pub changes_so : (kept : TableView) (pid : ℕ) → ChangesHolding old old kept pid → ChangesHolding old heap kept pid
  changes_so kept pid changes = subst (λ h. ChangesHolding old h kept pid) (sym is) (changes_with old heap.locks heap.high kept pid changes)
