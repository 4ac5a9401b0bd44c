-- A store whose core ends a process.
use Rattle.std.proofs.Common.{◌≡◌, ℕ, ◌≤◌, arith}
use Rattle.kabi_types.specs.declared.scripts.Script.{Script}
use Rattle.kheap_slabs.specs.Heap.{IsWellFormed, live_bytes}
use Rattle.machine_laws.proofs.Turning.{killed_reached}
use Rattle.posix_defs.specs.Killing.{sigkill}
use Rattle.posix_defs.specs.Relief.{Kills}
use Rattle.posix_defs.specs.World.{World, live_of}
use Rattle.process_calls.specs.Ending.{WorldWithout}
use Rattle.store_objects.specs.declared.objects.Objects.{Objects}
use Rattle.store_objects.proofs.LiveIs.{live_is}
use Rattle.store_objects.proofs.KeptNow.{may_keep_in}
use Rattle.call_run.specs.Stores.{IsStoreOf}
use Rattle.call_run.proofs.Stores.{store_on}

pub kills_in : (script : Script) (old new : Objects) (world : World) (pid : ℕ) → IsStoreOf script old world → IsWellFormed old.heap
    → WorldWithout script new world pid sigkill → IsWellFormed new.heap → live_bytes new.heap ≤ live_bytes old.heap → (after : World) × IsStoreOf script new after × Kills world pid after
kills_in script old new world pid was whole led whole_after less =
    let after = led.next in
    let kills : Kills world pid after = record {
      plain = led.plain;
      account = led.account;
      may_keep = may_keep_in script new after led.stands;
      live = fewer (live_bytes old.heap) (live_bytes new.heap) (live_of world) (live_of after) (live_is script old world was.stands whole) (live_is script new after led.stands whole_after) less;
      names = led.names;
      blocks = led.blocks;
      vnodes = led.vnodes;
      reads = led.reads;
      untouched = led.untouched;
    } in
    (after, store_on script old new world after was whole led.stands (killed_reached script world after pid was.reached kills) whole_after less, kills)
  where
    fewer : (a b c d : ℕ) → a ≡ c → b ≡ d → b ≤ a → d ≤ c
    fewer a b c d e f less = omega (arith, e, f, less)
