-- A store goes on where what is open, memory, the tree of files and names of sockets have changed.
use Rattle.std.proofs.Common.{ℕ, ◌<◌, ap, sym, ◌∙◌, subst}
use Rattle.std.specs.Option.{option_map}
use Rattle.kabi_types.specs.declared.scripts.Control.{Control}
use Rattle.kabi_types.specs.declared.scripts.Script.{Script}
use Rattle.lock_table.specs.Chain.{HoldsLocks}
use Rattle.posix_defs.specs.World.{World}
use Rattle.proc_files.specs.Holders.{holders}
use Rattle.proc_table.specs.Procs.{IsAlive}
use Rattle.store_objects.specs.declared.objects.Objects.{Objects}
use Rattle.store_objects.specs.Objects.{AreKept, Runs, most_nodes, procs_of}
use Rattle.store_objects.specs.Standing.{StandsFor}
use Rattle.store_objects.specs.Trees.{others_in, pins_in}
use Rattle.store_objects.proofs.HeldNodes.{pins_split}
use Rattle.store_objects.proofs.TreesOn.{same_pins}
use Rattle.store_objects.specs.OpenMoves.{opening}
use Rattle.store_objects.proofs.OpenMoving.{calls_stay, groups_stay, processes_stay, runs_stay}
use Rattle.store_objects.specs.FileMoves.{FileMoves}
use Rattle.store_objects.specs.FileWorlds.{HasTurned}

-- The objects are kept.
pub kept_turned : (script : Script) (old new : Objects) → AreKept script old → FileMoves old new → AreKept script new
kept_turned script old new kept moves = record {
  holds = moves.holds;
  all = moves.all;
  leaves = moves.leaves;
  owners = moves.owners;
  groups = groups_stay old new moves.procs moves.holds kept.groups;
  calls = calls_stay script old new moves.procs moves.holds kept.calls;
  bound = moves.bound;
  places = subst (λ n. most_nodes < n) (sym moves.places) kept.places;
  chain = moves.chain;
  locked = moves.locked;
  caches = moves.keeps;
  size = moves.size ∙ kept.size;
}

-- who ran runs, where he stood
pub runs_turned : (old new : Objects) (pid : ℕ) (control : Control) → FileMoves old new → Runs old pid control → Runs new pid control
runs_turned old new pid control moves runs = runs_stay old new pid control moves.procs runs

pub alive_turned : (old new : Objects) (pid : ℕ) → FileMoves old new → IsAlive (procs_of old) pid → IsAlive (procs_of new) pid
alive_turned old new pid moves alive =
    let one = moves.procs.each pid in
    record { proc = opening one.0 alive.proc; there = one.1 ∙ ap (option_map (opening one.0)) alive.there; runs = alive.runs }

-- The objects stand for a world of which they have what has changed.
pub stands_turned : (script : Script) (old new : Objects) (world next : World) → StandsFor script old world → FileMoves old new → HasTurned new world next
    → HoldsLocks new.heap.locks new.locks next.plain.files.locks → StandsFor script new next
stands_turned script old new world next stands moves turned locks = record {
  valid = stands.valid;
  kept = kept_turned script old new stands.kept moves;
  processes = processes_stay script old new world.plain next.plain moves.procs stands.processes turned.table turned.controls;
  memory = turned.memory;
  files = turned.files;
  locks = locks;
  tree = record {
    stands = same_pins new.heap new.tree next.plain.files.tree (holders (others_in next.plain) next.plain.files) (pins_in next.plain) (λ number. sym (pins_split next.plain number)) turned.tree;
    kept = turned.kept;
    reads = turned.reads;
  };
  family = turned.family;
  works = turned.works;
}
