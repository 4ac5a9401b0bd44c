-- A mark of the heap changes nothing that a store stands for.
use Rattle.std.proofs.Common.{ℕ, refl}
use Rattle.kabi_types.specs.declared.scripts.Script.{Script}
use Rattle.posix_defs.specs.World.{World}
use Rattle.store_objects.specs.declared.objects.Objects.{Objects}
use Rattle.store_objects.specs.Objects.{AreKept}
use Rattle.store_objects.specs.Standing.{StandsFor}
use Rattle.store_objects.specs.Trees.{CachesStay}
use Rattle.store_objects.proofs.Beside.{kept_beside, stands_beside}
use Rattle.store_objects.proofs.TreesOn.{caches_on, tree_on}

-- the objects with another mark of their heap
abbrev pub marked_as : Objects → ℕ → ℕ → ℕ → Objects
marked_as objects high marks last_high = record { heap = record objects.heap { high = high; marks = marks; last_high = last_high }; procs = objects.procs; tree = objects.tree; names = objects.names; fifos = objects.fifos; locks = objects.locks }

-- a mark leaves what caches have in the heap
marked_caches : (objects : Objects) (high marks last_high : ℕ) → CachesStay objects.heap (marked_as objects high marks last_high).heap
marked_caches objects high marks last_high = record { vnodes = refl; names = refl; blocks = refl; size = refl }

pub kept_marked : (script : Script) (objects : Objects) (high marks last_high : ℕ) → AreKept script objects → AreKept script (marked_as objects high marks last_high)
kept_marked script objects high marks last_high kept =
    kept_beside script objects objects.heap.vnodes objects.heap.names objects.heap.blocks high marks last_high objects.tree kept
    (caches_on objects.heap (marked_as objects high marks last_high).heap objects.tree objects.tree refl (marked_caches objects high marks last_high) kept.caches)

pub stands_marked : (script : Script) (objects : Objects) (high marks last_high : ℕ) (world : World) → StandsFor script objects world → StandsFor script (marked_as objects high marks last_high) world
stands_marked script objects high marks last_high world stands =
    stands_beside script objects objects.heap.vnodes objects.heap.names objects.heap.blocks high marks last_high objects.tree world world.plain.files.tree world.kept world.reads stands stands.works
    (tree_on objects (marked_as objects high marks last_high) world world (record { tree = refl; names = refl; caches = marked_caches objects high marks last_high }) refl refl refl refl stands.tree)
