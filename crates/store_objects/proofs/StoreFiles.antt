-- A store that stands for a world holds its files and names of sockets.
use Rattle.std.proofs.Common.{ℕ, ◌<◌, ◌≤◌, length, ap, arith}
use Rattle.proc_files.specs.Holders.{holders}
use Rattle.kabi_types.specs.declared.scripts.Script.{Script}
use Rattle.kheap_slabs.specs.declared.objects.Proc.{Proc}
use Rattle.kheap_slabs.specs.Heap.{IsWellFormed}
use Rattle.posix_defs.specs.DiskFormat.{table_nodes}
use Rattle.posix_defs.specs.World.{World}
use Rattle.proc_files.specs.Holding.{HoldFiles}
use Rattle.proc_files.specs.Opening.{WorksSomewhere}
use Rattle.proc_files.specs.NameHolding.{HoldNames, WorksInSome}
use Rattle.proc_table.specs.Procs.{IsAlive, proc_of}
use Rattle.proc_table.proofs.PlaceLemmas.{some_same}
use Rattle.store_objects.specs.declared.objects.Objects.{Objects}
use Rattle.store_objects.specs.Objects.{most_nodes, procs_of}
use Rattle.store_objects.specs.Standing.{IsSound, StandsFor}
use Rattle.store_objects.specs.Trees.{others_in, pins_in}
use Rattle.store_objects.proofs.HeldNodes.{pins_split}
use Rattle.store_objects.proofs.HoldsFiles.{hold_directories, works_in_directory}
use Rattle.store_objects.proofs.TreesOn.{same_pins}

-- a disk has no more nodes than the greatest
few_nodes : (blocks : ℕ) → blocks ≤ 4096 → table_nodes blocks ≤ most_nodes
few_nodes blocks most = omega arith

module _ (script : Script) (objects : Objects) (world : World) (stands : StandsFor script objects world) (well : IsWellFormed objects.heap) (sound : IsSound world.plain) where
  pub holds_files : HoldFiles stands.files.numbers (others_in world.plain) objects.heap objects.procs objects.tree world.plain.files
  holds_files = record {
    opened = stands.files.opened;
    tree = same_pins objects.heap objects.tree world.plain.files.tree (pins_in world.plain) (holders (others_in world.plain) world.plain.files) (pins_split world.plain) stands.tree.stands;
    nodes = sound.nodes;
    beside = hold_directories script objects world stands well;
  }

  pub holds_names : HoldNames stands.files.numbers (others_in world.plain) objects.heap objects.procs objects.tree objects.names world.plain.files
  holds_names = record {
    held = holds_files;
    bound = stands.kept.bound;
    named = sound.names;
    places = places;
  }
    where
      places : table_nodes world.plain.files.tree.blocks < length objects.names
      places =
          let few = few_nodes world.plain.files.tree.blocks stands.tree.stands.is_tree.most in let many : most_nodes < length objects.names = stands.kept.places in omega (arith, few, many)

  pub works_somewhere : (pid : ℕ) → IsAlive (procs_of objects) pid → WorksSomewhere objects.heap objects.procs objects.tree pid
  works_somewhere pid alive = record {
    numbers = stands.files.numbers;
    others = others_in world.plain;
    files = world.plain.files;
    proc = alive.proc;
    hold = holds_files;
    found = alive.there;
    directory = works_in_directory script objects world pid alive.proc stands alive.there alive.runs;
  }

  pub works_in_some : (pid : ℕ) → IsAlive (procs_of objects) pid → WorksInSome objects.heap objects.procs objects.tree objects.names pid
  works_in_some pid alive = record {
    some = record { numbers = stands.files.numbers; others = others_in world.plain; files = world.plain.files; hold = holds_names };
    directory = alive.proc.cwd;
    works = λ proc there. ap (λ (p : Proc). p.cwd) (some_same (proc_of (procs_of objects) pid) proc alive.proc there alive.there);
    is_dir = works_in_directory script objects world pid alive.proc stands alive.there alive.runs;
  }
