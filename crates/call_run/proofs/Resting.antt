-- A mark behind a call: what it keeps is the most of the whole call, and the heap is at rest.
use Rattle.std.proofs.Common.{◌≡◌, ℕ, ◌+◌, ◌%◌, ◌^◌, ◌≤◌, ◌∙◌, max, le_refl, ap, refl, sym, arith}
use Rattle.kabi_types.specs.declared.scripts.Script.{Script}
use Rattle.kheap_slabs.specs.Heap.{Heap, IsWellFormed, live_bytes}
use Rattle.posix_defs.specs.World.{World, live_of}
use Rattle.store_objects.specs.declared.objects.Objects.{Objects}
use Rattle.store_objects.specs.Objects.{AreKept}
use Rattle.store_objects.specs.Standing.{StandsFor}
use Rattle.store_objects.specs.Uses.{UsesAtMost}
use Rattle.store_objects.proofs.LiveIs.{live_is}
use Rattle.store_objects.proofs.Marking.{kept_marked, stands_marked}
use Rattle.call_run.specs.Stores.{IsAtRest, IsStoreOf}

pub nothing_used : (h : Heap) (bytes meanwhile : ℕ) → UsesAtMost h h bytes meanwhile
nothing_used h bytes meanwhile = record {
  live = above (live_bytes h) bytes;
  high = below h.high (live_bytes h + bytes + meanwhile);
  rises = le_refl _;
  heap = refl;
  marks = refl;
}
  where
    above : (live more : ℕ) → live ≤ live + more
    above live more = omega arith

    below : (high other : ℕ) → high ≤ max high other
    below high other = omega arith

-- a heap that was marked
abbrev pub marked : Heap → Heap
marked h = record h { high = live_bytes h; marks = (h.marks + 1) % 2 ^ 64; last_high = h.high }

-- objects with another heap
abbrev pub with_heap : Objects → Heap → Objects
with_heap objects h = record { heap = h; procs = objects.procs; tree = objects.tree; names = objects.names; fifos = objects.fifos; locks = objects.locks }

module _ (objects : Objects) (h : Heap) (is : h ≡ marked objects.heap) where
  pub mark_keeps : (script : Script) → AreKept script objects → AreKept script (with_heap objects h)
  mark_keeps script kept = rw is (kept_marked script objects _ _ _ kept)

  pub mark_stands : (script : Script) (world : World) → StandsFor script objects world → StandsFor script (with_heap objects h) world
  mark_stands script world stands = rw is (stands_marked script objects _ _ _ world stands)

  pub mark_goes_on : (script : Script) (world : World) → IsStoreOf script objects world → IsStoreOf script (with_heap objects h) world
  mark_goes_on script world at = record { stands = mark_stands script world at.stands; reached = at.reached; spare = at.spare }

  pub mark_rests : IsAtRest (with_heap objects h)
  mark_rests = ap (λ (heap : Heap). heap.high) is ∙ sym (ap live_bytes is)

-- where the heap was at rest before a call that makes no mark
module _ (script : Script) (old : Objects) (world : World) (new h : Heap) (is : h ≡ marked new) (rests : IsAtRest old) (stands : StandsFor script old world) (whole : IsWellFormed old.heap) where
  pub mark_since : old.heap.high ≤ new.high → live_of world ≤ h.last_high
  mark_since rises = since old.heap.high (live_bytes old.heap) new.high h.last_high (live_of world) rests (live_is script old world stands whole) (ap (λ (heap : Heap). heap.last_high) is) rises
    where
      since : (was live high last of : ℕ) → was ≡ live → live ≡ of → last ≡ high → was ≤ high → of ≤ last
      since was live high last of rest same kept rising = omega (arith, rest, same, kept, rising)

  pub mark_high : (bytes meanwhile : ℕ) → UsesAtMost old.heap new bytes meanwhile → h.last_high ≤ live_of world + bytes + meanwhile
  mark_high bytes meanwhile uses =
      most old.heap.high (live_bytes old.heap) new.high h.last_high (live_of world) bytes meanwhile rests (live_is script old world stands whole) (ap (λ (heap : Heap). heap.last_high) is) uses.high
    where
      most : (was live high last of bytes meanwhile : ℕ) → was ≡ live → live ≡ of → last ≡ high → high ≤ max was (live + bytes + meanwhile) → last ≤ of + bytes + meanwhile
      most was live high last of bytes meanwhile rest same kept less = omega arith

  pub mark_still : new.high ≡ old.heap.high → h.last_high ≤ live_of world
  mark_still still = least old.heap.high (live_bytes old.heap) new.high h.last_high (live_of world) rests (live_is script old world stands whole) (ap (λ (heap : Heap). heap.last_high) is) still
    where
      least : (was live high last of : ℕ) → was ≡ live → live ≡ of → last ≡ high → high ≡ was → last ≤ of
      least was live high last of rest same kept still = omega (arith, rest, same, kept, still)

-- a call that makes no mark, and one mark behind it
pub mark_counts : (old new h : Heap) → h ≡ marked new → new.marks ≡ old.marks → h.marks ≡ (old.marks + 1) % 2 ^ 64
mark_counts old new h is same = ap (λ (heap : Heap). heap.marks) is ∙ ap (λ (n : ℕ). (n + 1) % 2 ^ 64) same
