-- The worlds that a store stands for after a turn.
use Rattle.std.proofs.Common.{◌≡◌, ℕ, ◌+◌, ◌≤◌, true, false, refl, sym, subst, arith}
use Rattle.kabi_types.specs.declared.calls.Call.{Call}
use Rattle.kabi_types.specs.declared.scripts.Script.{Script}
use Rattle.kheap_slabs.specs.Heap.{IsWellFormed, live_bytes}
use Rattle.machine_laws.proofs.Turning.{turned_reached}
use Rattle.machine_laws.specs.Reached.{IsReached}
use Rattle.posix_defs.specs.Machine.{machine}
use Rattle.posix_defs.specs.Needs.{bound}
use Rattle.posix_defs.specs.Plain.{call_of}
use Rattle.posix_defs.specs.Process.{is_alive}
use Rattle.posix_defs.specs.Sizes.{reserve}
use Rattle.posix_defs.specs.Turn.{TurnsTo, TurnsWhere}
use Rattle.posix_defs.specs.World.{World, live_of}
use Rattle.posix_defs.specs.declared.turner.Turned.{Turned}
use Rattle.posix_defs.specs.declared.turner.Turned.TheVariants as turned
use Rattle.store_objects.specs.declared.objects.Objects.{Objects}
use Rattle.store_objects.specs.Walking.{WorldReached}
use Rattle.store_objects.proofs.LiveIs.{live_is}
use Rattle.store_objects.proofs.KeptNow.{may_keep_in}
use Rattle.call_run.specs.Stores.{IsStoreOf}

-- A turn of a live process leads to the world to which its answer leads.
pub turns_on : (script : Script) (old new : Objects) (world : World) (pid : ℕ) (which : Call) (told : Turned)
    → is_alive world.plain.table pid ≡ true → IsReached script world.plain → which ≡ call_of script world.plain pid → live_of world + bound which + reserve ≤ script.heap
    → live_bytes old.heap ≡ live_of world → IsWellFormed new.heap → live_bytes new.heap ≤ live_bytes old.heap + bound which
    → WorldReached script new world pid which (machine script world.plain pid which) told
    → (after : World) × IsStoreOf script new after × TurnsTo script world pid which told after
turns_on script old new world pid which told alive reached own room before well few led =
    let after = led.next in
    let behind : live_bytes new.heap ≡ live_of after = live_is script new after led.stands well in
    let live = few_still (live_bytes old.heap) (live_bytes new.heap) (live_of world) (live_of after) (bound which) before behind few in
    let turns : TurnsTo script world pid which told after = subst (λ b. TurnsWhere b script world pid which told after) (sym alive) (record {
      answer = led.tells;
      account = led.account;
      may_keep = may_keep_in script new after led.stands;
      live = live;
      names = led.keeps.names;
      blocks = led.keeps.blocks;
      vnodes = led.keeps.vnodes;
      reads = led.keeps.reads;
      untouched = led.keeps.untouched;
      left = led.keeps.left;
      known = led.keeps.known;
    }) in (
      after,
      record {
        stands = led.stands;
        reached = turned_reached script world after pid told reached (subst (λ w. TurnsTo script world pid w told after) own turns);
        spare = spared (live_of world) (live_of after) (bound which) script.heap live room;
      },
      turns,
    )
  where
    few_still : (a b c d n : ℕ) → a ≡ c → b ≡ d → b ≤ a + n → d ≤ c + n
    few_still a b c d n e f less = omega (arith, e, f, less)

    spared : (a b n size : ℕ) → b ≤ a + n → a + n + reserve ≤ size → b + reserve ≤ size
    spared a b n size less fits = omega (arith, less, fits)

-- a turn of a process that has ended, or that was never made, leads nowhere
pub gone_on : (script : Script) (objects : Objects) (world : World) (pid : ℕ) (which : Call) → IsStoreOf script objects world → is_alive world.plain.table pid ≡ false
    → (after : World) × IsStoreOf script objects after × TurnsTo script world pid which turned.Gone after
gone_on script objects world pid which stands dead =
    (world, stands, subst (λ b. TurnsWhere b script world pid which turned.Gone world) (sym dead) (refl, refl))
