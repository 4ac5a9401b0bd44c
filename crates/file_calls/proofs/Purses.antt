-- The purse of one closing: it pays for what that asks for, and is then as it was.
use Rattle.std.proofs.Common.{◌≡◌, ℕ, ◌+◌, ◌≤◌, max, refl, sym, ap, subst, arith}
use Rattle.kheap_laws.proofs.FillLemmas.{AreFills-none}
use Rattle.kheap_laws.proofs.PaidLemmas.{CanPay-kept, IsPaid-bytes, TakesNothing-bytes}
use Rattle.kheap_slabs.specs.Purse.{Purse, left_bytes}
use Rattle.kheap_slabs.specs.Heap.{Heap, live_bytes}
use Rattle.kheap_slabs.specs.Paid.{CanPay, HasFills, IsPaid, TakesNothing}
use Rattle.posix_defs.specs.Sizes.{reserve}
use Rattle.proc_files.specs.Closing.{MayClose}
use Rattle.store_objects.specs.Purses.{closing_need, unspent}
use Rattle.store_objects.specs.Uses.{UsesAtMost}

no_fills : (h : Heap) → HasFills h (unspent closing_need)
no_fills h = record { vnodes = AreFills-none h.vnodes 0; names = AreFills-none h.names 0; blocks = AreFills-none h.blocks 2 }

-- it may pay for what a closing takes
pub may_close : (h : Heap) (purse : Purse) → purse ≡ unspent closing_need → CanPay h purse → MayClose h purse
may_close h purse is can =
    subst (MayClose h) (sym is) (record {
      free = record {
        fetch = record { pays = subst (CanPay h) is can; fills = no_fills h; few = omega arith; some = omega arith };
        few = omega arith;
      };
      vnodes = refl;
      blocks = refl;
    })

-- the heap has room for it
pub can_pay : (h : Heap) (purse : Purse) → left_bytes purse ≡ reserve → live_bytes h + reserve ≤ h.heap → CanPay h purse
can_pay h purse bytes room = subst (λ n. live_bytes h + n ≤ h.heap) (sym bytes) room

-- and has it still
pub can_still : (old new : Heap) (before after : Purse) → IsPaid old before new after → CanPay old before → CanPay new after
can_still old new before after paid can = CanPay-kept old new before after paid can

-- what is kept back is there beside what a call may use
pub room_kept : (h : Heap) (bytes : ℕ) → live_bytes h + bytes + reserve ≤ h.heap → live_bytes h + reserve ≤ h.heap
room_kept h bytes room = less (live_bytes h) bytes h.heap room
  where
    less : (live bytes size : ℕ) → live + bytes + reserve ≤ size → live + reserve ≤ size
    less live bytes size fits = omega (arith, fits)

-- what is given back was used meanwhile alone
pub uses_back : (old new : Heap) (before after : Purse) → after ≡ before → left_bytes before ≡ reserve → IsPaid old before new after → UsesAtMost old new 0 reserve
uses_back old new before after same bytes paid = record {
  live = no_more (live_bytes old) (live_bytes new) (left_bytes before) (left_bytes after) (ap left_bytes same) (IsPaid-bytes old new before after paid);
  high = no_higher old.high new.high (live_bytes old) (left_bytes before) reserve bytes paid.high;
  rises = paid.rises;
  heap = paid.heap;
  marks = paid.marks;
}
  where
    no_more : (a b left same : ℕ) → same ≡ left → b + same ≤ a + left → b ≤ a + 0
    no_more a b left same e less = omega arith

    no_higher : (a b live left more : ℕ) → left ≡ more → b ≤ max a (live + left) → b ≤ max a (live + 0 + more)
    no_higher a b live left more e less = omega arith

-- where nothing is taken there is room for it still
pub room_still : (old new : Heap) → TakesNothing old new → live_bytes old + reserve ≤ old.heap → live_bytes new + reserve ≤ new.heap
room_still old new takes room = fits (live_bytes old) (live_bytes new) reserve old.heap new.heap (TakesNothing-bytes old new takes) takes.heap room
  where
    fits : (a b n h i : ℕ) → b ≤ a → i ≡ h → a + n ≤ h → b + n ≤ i
    fits a b n h i less same room = omega arith
