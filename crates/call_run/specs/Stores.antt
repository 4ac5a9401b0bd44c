-- What the store that the core runs stands for.
use Rattle.std.specs.Prelude.{ℕ, ◌≡◌, ◌+◌, ◌≤◌, Bool, List, Option}
use Rattle.kabi_types.specs.declared.scripts.Script.{Script}
use Rattle.kheap_slabs.specs.Heap.{live_bytes}
use Rattle.machine_laws.specs.Reached.{IsReached}
use Rattle.posix_defs.specs.Sizes.{reserve}
use Rattle.posix_defs.specs.World.{World, live_of}
use Rattle.store_objects.specs.declared.objects.Objects.{Objects}
use Rattle.store_objects.specs.Standing.{StandsFor}
use Rattle.call_run.specs.declared.sleepers.Channel.{Channel}
use Rattle.call_run.specs.declared.sleepers.Sleeper.{Sleeper}
use Rattle.call_run.specs.Sleepers.{AreMinded}

-- A store stands for the worlds that its objects stand for and whose machine calls lead to from the beginning. What is kept back
-- for closings is free.
pub record IsStoreOf (script : Script) (objects : Objects) (world : World) : Type 0 where
  pub stands : StandsFor script objects world
  pub reached : IsReached script world.plain
  pub spare : live_of world + reserve ≤ script.heap

-- Since the heap was marked no more was in use at any moment than is now: so it is between two calls.
abbrev pub IsAtRest : Objects → Type 0
IsAtRest objects = objects.heap.high ≡ live_bytes objects.heap

-- What contracts see of what a store keeps in mind of sleepers: who is told, the channels, whether there may be one, and who was stirred.
pub record SleepersView : Type 0 where
  pub told : List Sleeper
  pub channels : List (Option Channel)
  pub is_open : Bool
  pub stirred : List ℕ

-- A store: its script, its objects, and what it keeps in mind of the calls that sleep.
pub record StoreView : Type 0 where
  pub script : Script
  pub objects : Objects
  pub sleepers : SleepersView

-- What the core's store stands for: what its objects do, while it rests, and what is kept in mind of the calls that sleep is so.
pub record Stands (store : StoreView) (world : World) : Type 0 where
  pub objects : IsStoreOf store.script store.objects world
  pub rests : IsAtRest store.objects
  pub told : AreMinded store.script world.plain store.sleepers.told store.sleepers.channels
