-- How much of the heap a call uses.
use Rattle.std.proofs.Common.{◌≡◌, ℕ, ◌+◌, ◌-◌, ◌*◌, ◌≤◌, max, Bool, true, false, cond, None, is_some, ap, le_refl, le_trans, refl, subst, sym, ◌∙◌, arith}
use Rattle.kabi_types.specs.Arguments.{argument_fault, count_of}
use Rattle.kabi_types.specs.Call.{kind_of}
use Rattle.kabi_types.specs.declared.calls.Call.{Call}
use Rattle.kabi_types.specs.declared.calls.Call.TheVariants as call
use Rattle.kabi_types.specs.Class.{size}
use Rattle.kabi_types.specs.declared.classes.Class.TheVariants as class
use Rattle.kabi_types.specs.declared.classes.Need.{Need}
use Rattle.kabi_types.specs.Counts.{need_bytes}
use Rattle.kheap_slabs.specs.Purse.{Purse, left_bytes}
use Rattle.kheap_slabs.specs.Heap.{Heap, live_bytes}
use Rattle.kheap_slabs.specs.Paid.{CanPay, IsPaid, TakesNothing}
use Rattle.kheap_laws.proofs.PaidLemmas.{IsPaid-bytes, TakesNothing-bytes}
use Rattle.posix_defs.specs.Needs.{bound, chunks_for, is_write, need_of, objects_of, write_need}
use Rattle.posix_defs.specs.Sizes.{no_need}
use Rattle.posix_defs.proofs.PriceLemmas.{greater, right_needs, sums}
use Rattle.store_objects.specs.Purses.{need_for, unspent}
use Rattle.store_objects.specs.Uses.{UsesAtMost}
use Rattle.store_objects.specs.declared.purses.Target.{Target}
use Rattle.store_objects.specs.declared.purses.Target.TheVariants.{File, Queue}

more_live : (new old bytes : ℕ) → new ≤ old → new ≤ old + bytes
more_live new old bytes less = omega arith

below : (old new n : ℕ) → new ≡ old → new ≤ max old n
below old new n same = omega arith

-- what takes nothing uses no more than any number of bytes
pub uses_nothing : (old new : Heap) (bytes meanwhile : ℕ) → TakesNothing old new → UsesAtMost old new bytes meanwhile
uses_nothing old new bytes meanwhile takes = record {
  live = more_live (live_bytes new) (live_bytes old) bytes (TakesNothing-bytes old new takes);
  high = below old.high new.high (live_bytes old + bytes + meanwhile) takes.high;
  rises = rw takes.high (le_refl _);
  heap = takes.heap;
  marks = takes.marks;
}

still_live : (new left old bytes was : ℕ) → new + left ≤ old + was → was ≤ bytes → new ≤ old + bytes
still_live new left old bytes was less same = omega arith

-- what is paid uses no more than the purse had
pub uses_paid : (old new : Heap) (before after : Purse) (bytes meanwhile : ℕ) → IsPaid old before new after → left_bytes before ≤ bytes → UsesAtMost old new bytes meanwhile
uses_paid old new before after bytes meanwhile paid had = record {
  live = still_live (live_bytes new) (left_bytes after) (live_bytes old) bytes (left_bytes before) (IsPaid-bytes old new before after paid) had;
  high = still_high new.high old.high (live_bytes old) bytes (left_bytes before) meanwhile paid.high had;
  rises = paid.rises;
  heap = paid.heap;
  marks = paid.marks;
}
  where
    still_high : (new old live bytes was more : ℕ) → new ≤ max old (live + was) → was ≤ bytes → new ≤ max old (live + bytes + more)
    still_high new old live bytes was more less same = omega arith

-- two steps that give back what they use are one
pub uses_then : (old mid new : Heap) (meanwhile : ℕ) → UsesAtMost old mid 0 meanwhile → UsesAtMost mid new 0 meanwhile → UsesAtMost old new 0 meanwhile
uses_then old mid new meanwhile first second = record {
  live = no_more (live_bytes old) (live_bytes mid) (live_bytes new) first.live second.live;
  high = no_higher old.high mid.high new.high (live_bytes old) (live_bytes mid) meanwhile first.live first.high second.high;
  rises = le_trans first.rises second.rises;
  heap = second.heap ∙ first.heap;
  marks = second.marks ∙ first.marks;
}
  where
    no_more : (a b c : ℕ) → b ≤ a + 0 → c ≤ b + 0 → c ≤ a + 0
    no_more a b c first second = omega arith

    no_higher : (a b c live then more : ℕ) → then ≤ live + 0 → b ≤ max a (live + 0 + more) → c ≤ max b (then + 0 + more) → c ≤ max a (live + 0 + more)
    no_higher a b c live then more less first second = omega arith

-- two steps use what both use
pub uses_both : (old mid new : Heap) (one other both meanwhile : ℕ) → UsesAtMost old mid one meanwhile → UsesAtMost mid new other meanwhile → one + other ≤ both → UsesAtMost old new both meanwhile
uses_both old mid new one other both meanwhile first second fits = record {
  live = no_more (live_bytes old) (live_bytes mid) (live_bytes new) first.live second.live;
  high = no_higher old.high mid.high new.high (live_bytes old) (live_bytes mid) meanwhile first.live first.high second.high;
  rises = le_trans first.rises second.rises;
  heap = second.heap ∙ first.heap;
  marks = second.marks ∙ first.marks;
}
  where
    no_more : (a b c : ℕ) → b ≤ a + one → c ≤ b + other → c ≤ a + both
    no_more a b c less then = omega (arith, fits)

    no_higher : (a b c live then more : ℕ) → then ≤ live + one → b ≤ max a (live + one + more) → c ≤ max b (then + other + more) → c ≤ max a (live + both + more)
    no_higher a b c live then more less first second = omega (arith, fits)

-- what a step gives back it may as well keep
pub uses_more : (old new : Heap) (bytes meanwhile : ℕ) → UsesAtMost old new 0 meanwhile → UsesAtMost old new bytes meanwhile
uses_more old new bytes meanwhile uses = record {
  live = more (live_bytes old) (live_bytes new) bytes uses.live;
  high = higher old.high new.high (live_bytes old) bytes meanwhile uses.high;
  rises = uses.rises;
  heap = uses.heap;
  marks = uses.marks;
}
  where
    more : (a b n : ℕ) → b ≤ a + 0 → b ≤ a + n
    more a b n less = omega arith

    higher : (a b live n more : ℕ) → b ≤ max a (live + 0 + more) → b ≤ max a (live + n + more)
    higher a b live n more less = omega arith

-- what a need counts for one target
less_chunks : (n : Need) → need_bytes (record n { chunk = 0 }) ≤ need_bytes n
less_chunks n = omega arith

less_blocks : (n : Need) → need_bytes (record n { block = 0 }) ≤ need_bytes n
less_blocks n = omega arith

less_for : (target : Target) (n : Need) → need_bytes (need_for target n) ≤ need_bytes n
less_for File n = less_chunks n
less_for Queue n = less_blocks n

-- a need of blocks and chunks alone
abbrev of_write : ℕ → ℕ → Need
of_write blocks chunks = record no_need { block = blocks; chunk = chunks }

write_for : (target : Target) (blocks chunks : ℕ) → need_bytes (need_for target (of_write blocks chunks)) ≤ max (blocks * size class.Block) (chunks * size class.Chunk)
write_for File blocks chunks = omega arith
write_for Queue blocks chunks = omega arith

write_where : (wrong : Bool) (left : ℕ) → (blocks : ℕ) × (chunks : ℕ) × (cond wrong no_need (write_need left) ≡ of_write blocks chunks)
write_where true left = (0, 0, refl)
write_where false left = (2, chunks_for left, refl)

-- a write needs blocks and chunks, and nothing else
write_needs : (which : Call) → is_write (kind_of which) ≡ true → (blocks : ℕ) × (chunks : ℕ) × (need_of which ≡ of_write blocks chunks)
unfolding need_of
write_needs (call.Write fd addr n done) is = write_where (is_some (argument_fault (call.Write fd addr n done))) (count_of n - done)
write_needs (call.Pwrite fd addr n at) is = write_where (is_some (argument_fault (call.Pwrite fd addr n at))) (count_of n)
write_needs _ is = cc

-- what a purse for a target has is within the call's bound
pub purse_fits : (target : Target) (which : Call) → need_bytes (need_for target (need_of which)) ≤ bound which
purse_fits target which = go (is_write (kind_of which)) refl
  where
    go : (write : Bool) → is_write (kind_of which) ≡ write → need_bytes (need_for target (need_of which)) ≤ bound which
    go false is = subst (λ n. need_bytes (need_for target (need_of which)) ≤ n) (sym (sums which is)) (less_for target (need_of which))
    go true is =
        let needs = write_needs which is in
        subst (λ n. need_bytes (need_for target (need_of which)) ≤ n) (sym (greater which is))
        (subst (λ n. need_bytes (need_for target n) ≤ max (n.block * size class.Block) (n.chunk * size class.Chunk)) (sym needs.2) (write_for target needs.0 needs.1))

pub can_pay : (heap : Heap) (purse : Purse) (which : Call) → left_bytes purse ≤ bound which → live_bytes heap + bound which ≤ heap.heap → CanPay heap purse
can_pay heap purse which has room = fits (live_bytes heap) (bound which) (left_bytes purse) heap.heap has room
  where
    fits : (live bytes left size : ℕ) → left ≤ bytes → live + bytes ≤ size → live + left ≤ size
    fits live bytes left size same room = omega arith

-- the objects that it may make
pub left_is : (purse : Purse) (target : Target) (need : Need) (which that : Call) → purse ≡ unspent (need_for target need) → need ≡ need_of which → argument_fault which ≡ None → which ≡ that
    → purse.left ≡ need_for target (objects_of that)
left_is purse target need which that is_of needed right is = ap (λ (p : Purse). p.left) is_of ∙ ap (need_for target) (needed ∙ right_needs which right ∙ ap objects_of is)
