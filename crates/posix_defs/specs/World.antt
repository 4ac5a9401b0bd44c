-- What the core knows of a store: the plain machine, its account, what the caches keep, and the count of reads.
use Rattle.std.specs.Prelude.{ℕ, ◌+◌, ◌*◌, ◌==◌, ◌≡◌, ◌≢◌, ◌<◌, Bool, true, false, not, if◌then◌else◌, List, [], ◌∷◌, ◌++◌, length, None, Some, is_some}
use Rattle.std.specs.List.{AllByRecursion, list_any}
use Rattle.kabi_types.specs.Class.{size}
use Rattle.kabi_types.specs.declared.classes.Class.TheVariants as class
use Rattle.kabi_types.specs.declared.entries.Cached.{Cached}
use Rattle.kabi_types.specs.declared.entries.Cached.TheVariants.{Name, Block, Vnode}
use Rattle.kabi_types.specs.declared.scripts.Script.{Script}
use Rattle.kabi_types.specs.PathParts.{is_dots}
use Rattle.posix_defs.specs.Process.{Table, runs}
use Rattle.posix_defs.specs.Tree.{Tree, root, found, is_in_use}
use Rattle.posix_defs.specs.Plain.{Plain, boot_plain}
use Rattle.posix_defs.specs.Files.State.{opened_nodes}
pub use Rattle.posix_defs.specs.Account.{Account, no_account, base}

-- what the three caches keep: directory entries, numbers of blocks, numbers of nodes
pub record Kept : Type 0 where
  pub names : List (ℕ × List ℕ)
  pub blocks : List ℕ
  pub vnodes : List ℕ

-- What the core knows of a store; `reads` counts the blocks that were read of its disk.
pub record World : Type 0 where
  pub plain : Plain
  pub account : Account
  pub kept : Kept
  pub reads : ℕ

-- the working directories of live processes, and before them the root
abbrev pub directories_of : Table → List ℕ
directories_of [] = []
directories_of (None ∷ table) = directories_of table
directories_of (Some process ∷ table) = if runs process.status then process.directory ∷ directories_of table else directories_of table

-- each number once
abbrev pub distinct : List ℕ → List ℕ
distinct [] = []
distinct (n ∷ ns) = if list_any (λ m. m == n) ns then distinct ns else n ∷ distinct ns

-- the nodes that have to stay cached: the root, those that descriptions open, and the working directories of live processes
abbrev pub pinned_nodes : Plain → List ℕ
pinned_nodes plain = distinct (root ∷ opened_nodes plain.files ++ directories_of plain.table)

-- how many these are
abbrev pub pins : Plain → ℕ
pins plain = length (pinned_nodes plain)

-- a cache keeps something that isn't pinned; names and blocks never are
abbrev pub can_evict : Plain → Kept → Cached → Bool
can_evict plain kept Name = not (length kept.names == 0)
can_evict plain kept Block = not (length kept.blocks == 0)
can_evict plain kept Vnode = list_any (λ node. not (list_any (λ pinned. pinned == node) (pinned_nodes plain))) kept.vnodes

-- the heap that the caches take
abbrev pub cached : Kept → ℕ
cached kept = length kept.names * size class.Name + length kept.blocks * size class.Block + length kept.vnodes * size class.Vnode

-- all heap in use
abbrev pub live_of : World → ℕ
live_of world = base world.plain world.account + cached world.kept

-- no element stands there twice
abbrev pub AreOnce : {X : Type 0} → List X → Type 0
AreOnce [] = Unit {0}
AreOnce (x ∷ xs) = AllByRecursion (λ y. x ≢ y) xs × AreOnce xs

-- the number is one of these
abbrev pub is_in : ℕ → List ℕ → Bool
is_in n ns = list_any (λ m. m == n) ns

-- a directory has an entry of this name, which is neither `.` nor `..`
pub record IsTrueName (tree : Tree) (name : ℕ × List ℕ) : Type 0 where
  pub there : is_some (found tree name.0 name.1) ≡ true
  pub proper : is_dots name.1 ≡ false

-- What caches may keep: nothing twice; names of true entries, blocks of the disk, and nodes in use, every pinned one among them.
pub record MayKeep (plain : Plain) (kept : Kept) : Type 0 where
  pub names : AreOnce kept.names
  pub blocks : AreOnce kept.blocks
  pub vnodes : AreOnce kept.vnodes
  pub pinned : (node : ℕ) → is_in node (pinned_nodes plain) ≡ true → is_in node kept.vnodes ≡ true
  pub true_names : AllByRecursion (IsTrueName plain.files.tree) kept.names
  pub on_disk : AllByRecursion (λ block. block < plain.files.tree.blocks) kept.blocks
  pub in_use : AllByRecursion (λ node. is_in_use plain.files.tree node ≡ true) kept.vnodes

-- only the root's node is kept
abbrev pub boot_kept : Kept
boot_kept = record { names = []; blocks = []; vnodes = root ∷ [] }

-- one process, which has made no call
abbrev pub boot_world : Script → World
boot_world script = record { plain = boot_plain script; account = no_account; kept = boot_kept; reads = 0 }
