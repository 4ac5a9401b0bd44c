-- Of a store that stands for a world, others than descriptions hold directories alone, and who runs works in one.
use Rattle.std.proofs.Common.{◌≡◌, ℕ, ◌<◌, ◌==◌, Bool, true, false, cond, ◌⊎◌, ◌≢◌, List, [], ◌∷◌, None, Some, refl, ap, subst, arith, inl, inr}
use Rattle.std.proofs.lemmas.Bool.Decides.{eqb_tells}
use Rattle.kabi_types.specs.declared.scripts.Script.{Script}
use Rattle.kheap_slabs.specs.declared.objects.Proc.{Proc}
use Rattle.kheap_slabs.specs.Heap.{IsWellFormed}
use Rattle.posix_defs.specs.Plain.{Plain, root}
use Rattle.posix_defs.specs.Tree.{Tree, is_directory}
use Rattle.posix_defs.specs.World.{World, directories_of}
use Rattle.proc_files.specs.Holders.{HoldDirectories}
use Rattle.proc_table.specs.Procs.{proc_of}
use Rattle.store_objects.specs.declared.objects.Objects.{Objects}
use Rattle.store_objects.specs.Objects.{procs_of}
use Rattle.store_objects.specs.Standing.{StandsFor}
use Rattle.store_objects.specs.Trees.{but_root, others_in}
use Rattle.store_objects.specs.Working.{AreDirectories}
use Rattle.store_objects.proofs.FewPins.{few_others}
use Rattle.store_objects.proofs.HeldNodes.{one_if, whole}
use Rattle.store_objects.proofs.TreesOn.{works_in}
use Rattle.store_objects.proofs.WorkPlaces.{count}
use Rattle.store_objects.proofs.WorkingOn.{works_among}

-- who isn't the root and is held so is a directory
away_is : (tree : Tree) (n : ℕ) (nodes : List ℕ) → AreDirectories tree nodes → 0 < count n (but_root nodes) → is_directory tree n ≡ true
away_is tree n [] are some = absurd (let none : count n [] ≡ 0 = refl in omega (arith, some, none))
away_is tree n (node ∷ nodes) are some = by_root (node == root) (λ held. away_is tree n nodes are.1 held) some
  where
    by_node : (((node == n) ≡ true) × (node ≡ n)) ⊎ (((node == n) ≡ false) × (node ≢ n)) → (0 < count n (but_root nodes) → is_directory tree n ≡ true)
        → 0 < count n (node ∷ but_root nodes) → is_directory tree n ≡ true
    by_node (inl same) later held = subst (λ k. is_directory tree k ≡ true) same.1 are.0
    by_node (inr apart) later held = later (let all = whole n node (but_root nodes) in let none : one_if (node == n) ≡ 0 = ap one_if apart.0 in omega (arith, held, all, none))

    by_root : (b : Bool) → (0 < count n (but_root nodes) → is_directory tree n ≡ true) → 0 < count n (cond b (but_root nodes) (node ∷ but_root nodes)) → is_directory tree n ≡ true
    by_root true later held = later held
    by_root false later held = by_node (eqb_tells node n) later held

directories : (tree : Tree) (plain : Plain) → is_directory tree root ≡ true → AreDirectories tree (directories_of plain.table) → (n : ℕ) → 0 < others_in plain n → is_directory tree n ≡ true
directories tree plain root_is are n some = by_root (eqb_tells root n)
  where
    by_root : (((root == n) ≡ true) × (root ≡ n)) ⊎ (((root == n) ≡ false) × (root ≢ n)) → is_directory tree n ≡ true
    by_root (inl same) = subst (λ k. is_directory tree k ≡ true) same.1 root_is
    by_root (inr apart) =
        away_is tree n (directories_of plain.table) are
        (let all = whole n root (but_root (directories_of plain.table)) in let none : one_if (root == n) ≡ 0 = ap one_if apart.0 in omega (arith, some, all, none))

-- the root is held by itself
root_held : (plain : Plain) → 0 < others_in plain root
root_held plain = let all = whole root root (but_root (directories_of plain.table)) in let one : one_if (root == root) ≡ 1 = refl in omega (arith, all, one)

-- who runs works in a directory
pub works_in_directory : (script : Script) (objects : Objects) (world : World) (pid : ℕ) (proc : Proc) → StandsFor script objects world → proc_of (procs_of objects) pid ≡ Some proc → proc.status ≡ None
    → is_directory world.plain.files.tree proc.cwd ≡ true
works_in_directory script objects world pid proc stands found up =
    works_among (λ node. is_directory world.plain.files.tree node ≡ true) (procs_of objects) pid proc
    (works_in objects world.plain.files.tree world.plain.table stands.processes.table stands.works) found up

module _ (script : Script) (objects : Objects) (world : World) (stands : StandsFor script objects world) (well : IsWellFormed objects.heap) where
  -- others than descriptions hold directories alone
  pub hold_directories : HoldDirectories (others_in world.plain) world.plain.files.tree
  hold_directories = record {
    root = root_held world.plain;
    directories = directories world.plain.files.tree world.plain stands.tree.stands.is_tree.root_directory stands.works;
    few = few_others script objects world stands well;
  }
