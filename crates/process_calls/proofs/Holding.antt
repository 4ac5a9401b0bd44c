-- What the objects hold of files through the steps of an end.
use Rattle.std.proofs.Common.{◌≡◌, ℕ, ◌+◌, ◌<◌, List, Option, length, ap, sym, subst, arith}
use Rattle.kheap_slabs.specs.Heap.{Heap}
use Rattle.kheap_slabs.specs.declared.objects.Sock.{Sock}
use Rattle.memfs_ops.specs.FileTree.{Stands, TreeView}
use Rattle.open_laws.specs.Placed.{Numbers}
use Rattle.posix_defs.specs.DiskFormat.{table_nodes}
use Rattle.posix_defs.specs.Files.State.{Files}
use Rattle.posix_defs.specs.Plain.{root}
use Rattle.posix_defs.specs.Tree.{Tree}
use Rattle.proc_numbers.specs.Having.{HaveOpen}
use Rattle.proc_files.specs.Holding.{CachesStay}
use Rattle.proc_files.specs.Holders.{holders}
use Rattle.proc_files.proofs.Holding.{same_pins, stands_on}
use Rattle.proc_files.specs.Names.{AreBound, name_of}
use Rattle.proc_files.specs.NameHolding.{HoldNames}
use Rattle.proc_table.specs.Moves.{TableMoves}
use Rattle.proc_table.specs.Table.{TableView}
use Rattle.store_objects.specs.declared.objects.Objects.{Objects}
use Rattle.store_objects.specs.Trees.{KeepsTree}
use Rattle.store_objects.specs.Working.{OnlyPins, left_pins}
use Rattle.store_objects.proofs.Pinning.{pinned_open}
use Rattle.store_objects.proofs.WorkPlaces.{away, left_others}
use Rattle.process_calls.specs.Endings.{HoldBeside}

-- a table that moves on leaves what caches have in the heap
pub table_caches : (old new : Heap) (was now : TableView) → TableMoves old was new now → CachesStay old new
table_caches old new was now moves = record {
  vnodes = ap (λ (h : Heap). h.vnodes) moves.kept;
  names = ap (λ (h : Heap). h.names) moves.kept;
  blocks = ap (λ (h : Heap). h.blocks) moves.kept;
  size = ap (λ (h : Heap). h.heap) moves.kept;
}

-- the table moves on
pub held_moved : (numbers : Numbers) (others : ℕ → ℕ) (mid new : Heap) (was now : TableView) (fs : TreeView) (names : List (Option ℕ)) (files : Files) → TableMoves mid was new now
    → HaveOpen numbers new now files → HoldNames numbers others mid was fs names files → HoldNames numbers others new now fs names files
held_moved numbers others mid new was now fs names files moves have hold = record {
  held = record {
    opened = have;
    tree = stands_on mid new fs files.tree (holders others files) (table_caches mid new was now moves) hold.held.tree;
    nodes = hold.held.nodes;
    beside = hold.held.beside;
  };
  bound = subst (λ (socks : List (Option Sock)). AreBound (name_of socks) names) (sym (ap (λ (h : Heap). h.socks) moves.kept)) hold.bound;
  named = hold.named;
  places = hold.places;
}

-- what they stand for they keep
pub keeps_some : (numbers : Numbers) (others : ℕ → ℕ) (objects : Objects) (files : Files) → HoldBeside numbers others objects files → KeepsTree objects.heap objects.tree
keeps_some numbers others objects files hold = (files.tree, holders others files, hold.held.tree)

-- ---- a directory is let go

-- Who works in a directory lets it go: these are all others that hold nodes.
pub held_left : (numbers : Numbers) (others next : ℕ → ℕ) (mid new : Objects) (directory : ℕ) (files : Files) → OnlyPins mid new
    → ((tree : Tree) (pins : ℕ → ℕ) → Stands mid.heap mid.tree tree pins → Stands new.heap new.tree tree (left_pins pins directory))
    → ((n : ℕ) → others n ≡ away directory n + next n) → 0 < next root → HoldBeside numbers others mid files → HoldBeside numbers next new files
held_left numbers others next mid new directory files only lets split root_held hold = record {
  held = record {
    opened = pinned_open mid new only numbers files hold.held.opened;
    tree = same_pins new.heap new.tree files.tree (left_pins (holders others files) directory) (holders next files) (λ n. left_others others files directory n (next n) (split n))
        (lets files.tree (holders others files) hold.held.tree);
    nodes = hold.held.nodes;
    beside = record {
      root = root_held;
      directories = λ n held. hold.held.beside.directories n (let all = split n in omega (arith, held, all));
      few = λ n. (let all = split n in let few = hold.held.beside.few n in omega (arith, all, few));
    };
  };
  bound = subst (λ (names : List (Option ℕ)). AreBound (name_of new.heap.socks) names) (sym only.names)
      (subst (λ (socks : List (Option Sock)). AreBound (name_of socks) mid.names) (sym (ap (λ (h : Heap). h.socks) only.heap)) hold.bound);
  named = hold.named;
  places = subst (λ (names : List (Option ℕ)). table_nodes files.tree.blocks < length names) (sym only.names) hold.places;
}
