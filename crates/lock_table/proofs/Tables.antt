-- What a table of locks stands for, before and after its calls.
use Rattle.std.proofs.Common.{◌≡◌, ℕ, ◌≤◌, ◌↔◌, ◌&&◌, eqb, List, [], ◌∷◌, length, Option, None, Some, refl, ap, sym, subst, ◌∙◌, arith, replicate}
use Rattle.std.specs.Option.{option_map}
use Rattle.chunk_queue.proofs.AccountLemmas.{count-keys}
use Rattle.kabi_types.specs.Counts.{with_count}
use Rattle.kabi_types.specs.declared.classes.Class.TheVariants as class
use Rattle.kheap_laws.proofs.PaidLemmas.{CanPay-kept, IsPaid-nothing}
use Rattle.kheap_slabs.specs.Heap.{Heap}
use Rattle.kheap_slabs.specs.Objects.{count}
use Rattle.kheap_slabs.specs.Paid.{CanPay, TakesNothing}
use Rattle.kheap_slabs.specs.Purse.{Purse}
use Rattle.kheap_slabs.specs.declared.objects.Lock.{Lock as HeldLock}
use Rattle.kheap_slabs.proofs.ObjectLemmas.{object-none, object_of}
use Rattle.kabi_types.specs.Ranges.{greatest}
use Rattle.kabi_types.specs.declared.ranges.Range.{Range}
use Rattle.posix_defs.specs.Locks.{Locks, Request, after_set, first_in_way, is_in_way, stops, without}
use Rattle.lock_table.specs.Chain.{Chained, HasLocks, HoldsLocks, IsLockChain, IsLockTable, plain_of}
use Rattle.lock_table.specs.Holding.{earliest, info_of}
use Rattle.lock_table.specs.Reordered.{empty}
use Rattle.lock_table.specs.Setting.{cut, held_wide, let_go}
use Rattle.lock_table.proofs.Chaining.{as_many, none_behind}
use Rattle.lock_table.proofs.Earliest.{earliest_is}
use Rattle.lock_table.proofs.Keeping.{all_let_go}
use Rattle.lock_table.proofs.Reordering.{any_same, as_long}
use Rattle.lock_table.proofs.Setting.{canonical_after, canonical_without, set_let_go, set_to_hold}

module _ (objects : List (Option HeldLock)) (first : Option ℕ) where
  pub has_locks : IsLockTable objects first → HasLocks objects first
  has_locks table = (table.1.held, table.1.chain)

  module _ (locks : Locks) (holds : HoldsLocks objects first locks) where
    pub each_counts : count objects ≡ length locks
    each_counts = count-keys objects holds.chain.keys holds.chain.are ∙ as_many objects first holds.chain.keys holds.held holds.chain.chained ∙ as_long holds.same

    pub first_is : (pid node : ℕ) (asked : Request) → earliest pid node asked None holds.held ≡ first_in_way locks pid node asked
    first_is pid node asked = earliest_is holds.held locks pid node asked holds.same holds.canonical

    pub stops_is : (pid node : ℕ) (asked : Request) (by : ℕ) → stops holds.held pid node asked by ≡ stops locks pid node asked by
    stops_is pid node asked by = any_same (λ lock. eqb lock.pid by && is_in_way pid node asked lock) holds.same

    module _ (new : List (Option HeldLock)) (now : Option ℕ) (pid node : ℕ) where
      pub holds_held : (range : Range) → range.start ≤ range.last → range.last ≤ greatest → IsLockChain new now (held_wide pid node range holds.held)
          → HoldsLocks new now (after_set locks pid node (record { kind = Some range.kind; start = range.start; last = range.last }))
      holds_held range order within chain = record {
        held = held_wide pid node range holds.held;
        chain = chain;
        same = set_to_hold holds.held locks pid node range holds.same order within (holds.canonical pid node);
        canonical = canonical_after locks pid node (record { kind = Some range.kind; start = range.start; last = range.last }) order within holds.canonical;
      }

      pub holds_less : (start last : ℕ) → start ≤ last → last ≤ greatest → IsLockChain new now (let_go pid node start last holds.held)
          → HoldsLocks new now (after_set locks pid node (record { kind = None; start = start; last = last }))
      holds_less start last order within chain = record {
        held = let_go pid node start last holds.held;
        chain = chain;
        same = set_let_go holds.held locks pid node start last holds.same order within (holds.canonical pid node);
        canonical = canonical_after locks pid node (record { kind = None; start = start; last = last }) order within holds.canonical;
      }

      pub holds_none : IsLockChain new now (cut pid node 0 greatest [] holds.held) → HoldsLocks new now (without locks pid node)
      holds_none chain = record {
        held = cut pid node 0 greatest [] holds.held;
        chain = chain;
        same = all_let_go holds.held locks pid node holds.same (holds.canonical pid node);
        canonical = canonical_without locks pid node holds.canonical;
      }

    -- the table has no first exactly where no lock is held
    pub none_held : first ≡ None ↔ locks ≡ []
    none_held = (
      λ none. no_length locks (sym (as_long holds.same) ∙ ap length (none_behind objects holds.chain.keys holds.held (subst (λ f. Chained objects f holds.chain.keys holds.held) none holds.chain.chained)).1),
      λ none. no_first holds.chain.keys holds.held (as_long holds.same ∙ ap length none) holds.chain.chained,
    )
      where
        no_length : (some : Locks) → length some ≡ 0 → some ≡ []
        no_length [] none = refl
        no_length (lock ∷ some) none = absurd (omega (arith, none))

        no_first : (keys : List ℕ) (some : Locks) → length some ≡ 0 → Chained objects first keys some → first ≡ None
        no_first [] [] none chained = chained
        no_first [] (lock ∷ some) none chained = absurd chained
        no_first (key ∷ keys) [] none chained = absurd chained
        no_first (key ∷ keys) (lock ∷ some) none chained = absurd (omega (arith, none))

-- a heap without Locks
pub holds_at_boot : (limit : ℕ) → HoldsLocks (replicate limit None) None []
holds_at_boot limit = record {
  held = [];
  chain = record {
    keys = [];
    chained = refl;
    are = record {
      used = λ key there. absurd (omega (arith, there.1));
      listed = λ key used. let it = object_of (replicate limit None) key used in absurd (object-none limit key it.0 it.1);
      once = λ i j before within. absurd (omega arith);
    };
  };
  same = empty;
  canonical = λ pid node. tt;
}

-- what is told of a lock of the heap is told of the lock that it stands for
pub told_is : (lock : Option HeldLock) → option_map (λ held. info_of (plain_of held)) lock ≡ option_map info_of (option_map plain_of lock)
told_is None = refl
told_is (Some lock) = refl

-- ---- one change after another

pub spent_on : (a b c : Purse) → b ≡ record a { left = with_count a.left class.Lock b.left.lock } → c ≡ record b { left = with_count b.left class.Lock c.left.lock }
    → c ≡ record a { left = with_count a.left class.Lock c.left.lock }
spent_on a b c one two = two ∙ ap (λ (p : Purse). record p { left = with_count p.left class.Lock c.left.lock }) one

pub kept_on : (a b c : Heap) → b ≡ record a { locks = b.locks; high = b.high } → c ≡ record b { locks = c.locks; high = c.high } → c ≡ record a { locks = c.locks; high = c.high }
kept_on a b c one two = two ∙ ap (λ (h : Heap). record h { locks = c.locks; high = c.high }) one

pub kept_first : (a b c : Heap) → b ≡ record a { locks = b.locks } → c ≡ record b { locks = c.locks; high = c.high } → c ≡ record a { locks = c.locks; high = c.high }
kept_first a b c one two = two ∙ ap (λ (h : Heap). record h { locks = c.locks; high = c.high }) one

pub kept_high : (a b : Heap) → b ≡ record a { locks = b.locks } → b ≡ record a { locks = b.locks; high = b.high }
kept_high a b one = one ∙ ap (λ n. record a { locks = b.locks; high = n }) (sym (ap (λ (h : Heap). h.high) one))

-- a call without a purse leaves room for what it has left
pub still_pays : (old new : Heap) (purse : Purse) → TakesNothing old new → CanPay old purse → CanPay new purse
still_pays old new purse takes pays = CanPay-kept old new purse purse (IsPaid-nothing old new purse purse takes refl refl) pays
