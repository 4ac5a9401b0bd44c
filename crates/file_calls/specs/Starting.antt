-- The worlds of a process that starts a program.
use Rattle.std.specs.Prelude.{ℕ, ◌≤◌}
use Rattle.kabi_types.specs.declared.scripts.Script.{Script}
use Rattle.kheap_slabs.specs.Objects.{count}
use Rattle.memfs_ops.specs.Closing.{KeepsCached}
use Rattle.memfs_ops.specs.FileTree.{TreeView}
use Rattle.posix_defs.specs.Control.{restarted, settled}
use Rattle.posix_defs.specs.Files.Closing.{after_exec_of}
use Rattle.posix_defs.specs.Memory.{after_clear, no_memory}
use Rattle.posix_defs.specs.Plain.{Plain, control_of, with_control, with_files}
use Rattle.posix_defs.specs.World.{World}
use Rattle.proc_numbers.specs.Queues.{fronts_on}
use Rattle.store_objects.specs.declared.objects.Objects.{Objects}
use Rattle.store_objects.specs.Standing.{remembered_in}
use Rattle.store_objects.specs.Trees.{kept_by}

-- the process has nothing in memory any more
abbrev pub forgotten_in : World → ℕ → World
forgotten_in world pid = remembered_in world pid no_memory (after_clear world.account.frames pid)

-- the machine once the process has closed what an exec closes
abbrev pub shed_of : Plain → ℕ → Plain
shed_of plain pid = with_files plain (after_exec_of plain.files pid)

-- it has closed that, and what is cached and how much was read is as this tree has it
abbrev pub shed_in : TreeView → World → ℕ → World
shed_in fs world pid =
    record { plain = shed_of world.plain pid; account = fronts_on world.plain.files (after_exec_of world.plain.files pid) world.account; kept = kept_by fs; reads = fs.disk.reads }

-- it is at the beginning of a program, with the registers that it has
abbrev pub begun_in : Script → World → ℕ → ℕ → World
begun_in script world pid place = record world { plain = with_control world.plain pid (restarted (settled script (control_of world.plain pid)) place) }

-- all of that
abbrev pub started_in : Script → TreeView → World → ℕ → ℕ → World
started_in script fs world pid place = begun_in script (shed_in fs (forgotten_in world pid) pid) pid place

-- The caches have no more objects, and keep all names, and of the nodes that they had each that is there still; no read of the disk is
-- taken back.
pub record CachesShed (old new : Objects) : Type 0 where
  pub names : count new.heap.names ≤ count old.heap.names
  pub blocks : count new.heap.blocks ≤ count old.heap.blocks
  pub vnodes : count new.heap.vnodes ≤ count old.heap.vnodes
  pub reads : old.tree.disk.reads ≤ new.tree.disk.reads
  pub cached : KeepsCached old.tree new.tree
