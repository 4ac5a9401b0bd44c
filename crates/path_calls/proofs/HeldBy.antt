-- The nodes that the processes of a store hold are those that the machine has in use, and those of which the tree is told.
use Rattle.std.proofs.Common.{◌≡◌, ◌≢◌, ℕ, ◌<◌, ◌≤◌, ◌==◌, ◌&&◌, ◌||◌, Bool, true, false, List, [], ◌∷◌, length, Option, None, Some, is_none, nat_lt, refl, ap, sym, ◌∙◌, arith}
use Rattle.std.specs.List.{list_any}
use Rattle.std.proofs.lemmas.Bool.{lt-ltb, ltb-true}
use Rattle.kabi_types.specs.declared.scripts.Script.{Script}
use Rattle.kheap_slabs.specs.declared.objects.Proc.{Proc}
use Rattle.kheap_slabs.specs.Heap.{Heap}
use Rattle.memfs_ops.specs.FileTree.{Stands, TreeView}
use Rattle.memfs_ops.specs.Removing.{is_held}
use Rattle.posix_defs.specs.Calls.OnNames.{is_busy, works_in}
use Rattle.posix_defs.specs.DiskFormat.{table_nodes}
use Rattle.posix_defs.specs.Files.State.{opens}
use Rattle.posix_defs.specs.Plain.{root}
use Rattle.posix_defs.specs.Process.{Table, runs}
use Rattle.posix_defs.specs.Tree.{Tree}
use Rattle.posix_defs.specs.World.{World}
use Rattle.proc_table.specs.Procs.{numbers_in, process_of, status_of}
use Rattle.proc_table.specs.Standing.{AreFrom, gone, nobody, there}
use Rattle.store_objects.specs.declared.objects.Objects.{Objects}
use Rattle.store_objects.specs.Objects.{procs_of}
use Rattle.store_objects.specs.Standing.{StandsFor}
use Rattle.store_objects.specs.Trees.{pins_in}
use Rattle.store_objects.proofs.Keeping.{listed_in}
use Rattle.path_calls.specs.Nodes.{holds_node, most_nodes, some_holds, some_opens, works_at}
use Rattle.path_calls.proofs.Busy.{held_busy}
use Rattle.path_calls.proofs.Opened.{opens_same}

-- ---- who works where

-- a process of the heap works where the machine's does
works_same : (h : Heap) (n : ℕ) (proc : Proc) → works_in n (Some (process_of h proc)) ≡ works_at n proc
works_same h n proc = ap (λ b. b && proc.cwd == n) (same proc.status)
  where
    same : (o : Option ℕ) → runs (status_of o) ≡ is_none o
    same None = refl
    same (Some status) = refl

works_from : {h : Heap} {first : ℕ} {table : Table} {procs : List Proc} → AreFrom h first table procs → (n : ℕ) → list_any (works_in n) table ≡ list_any (works_at n) procs
works_from (nobody h first) n = refl
works_from (gone h first table procs rest) n = works_from rest n
works_from (there h first proc table procs e rest) n =
    ap (λ b. b || list_any (works_in n) table) (works_same h n proc) ∙ ap (λ b. works_at n proc || b) (works_from rest n)

-- ---- who holds what

-- some hold it where some work in it, or have it open
either : (h : Heap) (procs : List Proc) (n : ℕ)
    → some_holds h procs n ≡ (list_any (λ proc. some_opens h (numbers_in h proc) n) procs || list_any (works_at n) procs)
either h [] n = refl
either h (proc ∷ procs) n =
    ap (λ b. holds_node h n proc || b) (either h procs n)
    ∙ swapped (works_at n proc) (some_opens h (numbers_in h proc) n) (list_any (λ p. some_opens h (numbers_in h p) n) procs) (list_any (works_at n) procs)
  where
    swapped : (works opens others others_work : Bool) → ((works || opens) || (others || others_work)) ≡ ((opens || others) || (works || others_work))
    swapped true true others others_work = refl
    swapped true false true others_work = refl
    swapped true false false others_work = refl
    swapped false true others others_work = refl
    swapped false false others others_work = refl

-- a node that is held has a number that a set may have
within : (h : Heap) (fs : TreeView) (tree : Tree) (pins : ℕ → ℕ) (n : ℕ) → Stands h fs tree pins → 0 < pins n → n < most_nodes
within h fs tree pins n stands some =
    let at = stands.held.held n some in
    let has = (stands.true_nodes at.0 at.1 at.2).0.number.1 in
    few n at.1.number (length fs.disk.blocks) tree.blocks at.3 has stands.behind.blocks stands.is_tree.most
  where
    few : (n number blocks most : ℕ) → number ≡ n → number ≤ table_nodes blocks → blocks ≡ most → most ≤ 4096 → n < most_nodes
    few n number blocks most same less all greatest = omega arith

module _ (script : Script) (objects : Objects) (world : World) (stands : StandsFor script objects world) where
  -- what processes hold is busy in the machine
  holds_busy : (n : ℕ) → some_holds objects.heap (procs_of objects) n ≡ is_busy world.plain n
  holds_busy n =
      either objects.heap (procs_of objects) n
      ∙ ap (λ b. b || list_any (works_at n) (procs_of objects))
      (opens_same stands.files.numbers objects.heap objects.procs world.plain.files stands.files.opened (listed_in script objects stands.kept) stands.kept.owners n)
      ∙ ap (λ b. opens world.plain.files n || b) (sym (works_from stands.processes.table.present n))

  -- and of each node but the root it is told whether it is held
  pub told_held : (n : ℕ) → n ≢ root → (nat_lt n most_nodes && some_holds objects.heap (procs_of objects) n) ≡ is_held (pins_in world.plain) n
  told_held n other = by_held (is_held (pins_in world.plain) n) refl
    where
      same : some_holds objects.heap (procs_of objects) n ≡ is_held (pins_in world.plain) n
      same = holds_busy n ∙ held_busy world.plain n other

      by_held : (b : Bool) → is_held (pins_in world.plain) n ≡ b → (nat_lt n most_nodes && some_holds objects.heap (procs_of objects) n) ≡ is_held (pins_in world.plain) n
      by_held true held =
          ap (λ b. b && some_holds objects.heap (procs_of objects) n)
          (lt-ltb n most_nodes (within objects.heap objects.tree world.plain.files.tree (pins_in world.plain) n stands.tree.stands (ltb-true 0 (pins_in world.plain n) held)))
          ∙ same
      by_held false none = ap (λ b. nat_lt n most_nodes && b) (same ∙ none) ∙ neither (nat_lt n most_nodes) ∙ sym none
        where
          neither : (b : Bool) → (b && false) ≡ false
          neither true = refl
          neither false = refl
