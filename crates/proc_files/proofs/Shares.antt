-- A number names a description that is open: heap, table, tree and names go on standing for files.
use Rattle.std.proofs.Common.{◌≡◌, ◌≤◌, ℕ, ◌+◌, List, Option, refl, ap, subst, sym, arith}
use Rattle.kheap_slabs.specs.declared.objects.Sock.{Sock}
use Rattle.kheap_slabs.specs.Heap.{Heap, live_bytes}
use Rattle.memfs_ops.specs.FileTree.{TreeView}
use Rattle.open_laws.specs.Placed.{Numbers}
use Rattle.posix_defs.specs.Files.Descriptors.{Descriptor}
use Rattle.posix_defs.specs.Files.State.{Files, with_open}
use Rattle.proc_table.specs.Table.{TableView}
use Rattle.proc_numbers.specs.Having.{HaveOpen}
use Rattle.proc_files.specs.Holding.{CachesStay}
use Rattle.proc_files.specs.Holders.{holders, times}
use Rattle.proc_files.proofs.Holding.{same_pins, stands_on}
use Rattle.proc_files.proofs.Openings.{all_same, same_nodes}
use Rattle.proc_files.specs.Names.{AreBound, name_of}
use Rattle.proc_files.specs.NameHolding.{HoldNames}
use Rattle.kheap_laws.proofs.PaidLemmas.{IsPaid-bytes}
use Rattle.kheap_slabs.specs.Paid.{CanPay, IsPaid}
use Rattle.kheap_slabs.specs.Purse.{Purse, left_bytes}

-- a share leaves the caches
caches_shared : (old new : Heap) → new ≡ record old { procs = new.procs; leaves = new.leaves; descs = new.descs; high = new.high } → CachesStay old new
caches_shared old new beside = record {
  vnodes = ap (λ (h : Heap). h.vnodes) beside;
  names = ap (λ (h : Heap). h.names) beside;
  blocks = ap (λ (h : Heap). h.blocks) beside;
  size = ap (λ (h : Heap). h.heap) beside;
}

-- descriptors alone are others
pub hold_named : (numbers : Numbers) (others : ℕ → ℕ) (old new : Heap) (kept : TableView) (fs : TreeView) (names : List (Option ℕ)) (files : Files) (pid fd : ℕ) (descriptor : Option Descriptor)
    → new ≡ record old { procs = new.procs; leaves = new.leaves; descs = new.descs; high = new.high } → HoldNames numbers others old kept fs names files → HaveOpen numbers new kept (with_open files pid fd descriptor)
    → HoldNames numbers others new kept fs names (with_open files pid fd descriptor)
hold_named numbers others old new kept fs names files pid fd descriptor beside hold have = record {
  held = record {
    opened = have;
    tree =
        same_pins new fs files.tree (holders others files) (holders others (with_open files pid fd descriptor))
        (λ n. ap (λ nodes. others n + times n nodes) (same_nodes files (with_open files pid fd descriptor) files.descriptions (all_same files (with_open files pid fd descriptor) files.descriptions refl)))
        (stands_on old new fs files.tree (holders others files) (caches_shared old new beside) hold.held.tree);
    nodes = hold.held.nodes;
    beside = hold.held.beside;
  };
  bound = subst (λ (socks : List (Option Sock)). AreBound (name_of socks) names) (sym (ap (λ (h : Heap). h.socks) beside)) hold.bound;
  named = record { bound = hold.named.bound; waiting = hold.named.waiting };
  places = hold.places;
}

-- what another purse may spend is there still where one was used and is as it was
pub can_pay_beside : (old new : Heap) (before after purse : Purse) → IsPaid old before new after → after ≡ before → CanPay old purse → CanPay new purse
can_pay_beside old new before after purse paid same can =
    let bytes : live_bytes new + left_bytes after ≤ live_bytes old + left_bytes before = IsPaid-bytes old new before after paid in
    let left : left_bytes after ≡ left_bytes before = ap left_bytes same in
    let size : new.heap ≡ old.heap = paid.heap in
    let room : live_bytes old + left_bytes purse ≤ old.heap = can in
    omega (arith, bytes, left, size, room)
