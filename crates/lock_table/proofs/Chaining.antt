-- The chain of locks, by its keys.
use Rattle.std.proofs.Common.{◌≡◌, ℕ, zero, suc, ◌≤◌, List, [], ◌∷◌, length, Option, None, Some, IsSome, refl, sym, ap, subst, ◌∙◌, arith, inl, inr, Contains}
use Rattle.std.proofs.lemmas.List.Elements.{Contains-append_left}
use Rattle.chunk_queue.proofs.AccountLemmas.{count-keys}
use Rattle.chunk_queue.proofs.JoinedLemmas.{Contains-cons}
use Rattle.kheap_laws.proofs.KeyLemmas.{AreKeysOf-changes}
use Rattle.kheap_laws.proofs.OnceLemmas.{Contains-single, IsOnce-cons}
use Rattle.kheap_laws.proofs.OutsideLemmas.{KeepsOutside-put, KeepsOutside-without}
use Rattle.kheap_slabs.specs.Keys.{AreKeysOf, IsOnce}
use Rattle.kheap_slabs.specs.Objects.{object, InUse, count, put, without}
use Rattle.kheap_slabs.specs.declared.objects.Lock.{Lock as HeldLock}
use Rattle.kheap_slabs.proofs.ObjectLemmas.{InUse-put, InUse-within, object-put_other, object-without}
use Rattle.posix_defs.specs.Locks.{Lock, Locks}
use Rattle.lock_table.specs.Chain.{Chained, IsLockChain, held_of}
use Rattle.lock_table.specs.Walking.{chain_left, next_of}

-- ---- keys that lead from the first one on

-- the first of them, where there is one
pub record Head (objects : List (Option HeldLock)) (key : ℕ) (keys : List ℕ) (locks : Locks) : Type 0 where
  pub behind : List ℕ
  pub lock : Lock
  pub rest : Locks
  pub next : Option ℕ
  pub keys_are : keys ≡ key ∷ behind
  pub locks_are : locks ≡ lock ∷ rest
  pub there : object objects key ≡ Some (held_of lock next)
  pub chained : Chained objects next behind rest

pub head_of : (objects : List (Option HeldLock)) (key : ℕ) (keys : List ℕ) (locks : Locks) → Chained objects (Some key) keys locks → Head objects key keys locks
head_of objects key [] [] chained = absurd (cc)
head_of objects key [] (lock ∷ locks) chained = absurd chained
head_of objects key (k ∷ keys) [] chained = absurd chained
head_of objects key (k ∷ keys) (lock ∷ locks) chained =
    let same : k ≡ key = (let is : Some key ≡ Some k = chained.0 in cc) in record {
      behind = keys;
      lock = lock;
      rest = locks;
      next = chained.1;
      keys_are = ap (λ x. x ∷ keys) same;
      locks_are = refl;
      there = subst (λ x. object objects x ≡ Some (held_of lock chained.1)) same chained.2;
      chained = chained.3;
    }

pub none_behind : (objects : List (Option HeldLock)) (keys : List ℕ) (locks : Locks) → Chained objects None keys locks → (keys ≡ []) × (locks ≡ [])
none_behind objects [] [] chained = (refl, refl)
none_behind objects [] (lock ∷ locks) chained = absurd chained
none_behind objects (k ∷ keys) [] chained = absurd chained
none_behind objects (k ∷ keys) (lock ∷ locks) chained = absurd (let is : None ≡ Some k = chained.0 in cc)

pub as_many : (objects : List (Option HeldLock)) (first : Option ℕ) (keys : List ℕ) (locks : Locks) → Chained objects first keys locks → length keys ≡ length locks
as_many objects first [] [] chained = refl
as_many objects first [] (lock ∷ locks) chained = absurd chained
as_many objects first (k ∷ keys) [] chained = absurd chained
as_many objects first (k ∷ keys) (lock ∷ locks) chained = ap (λ n. suc n) (as_many objects chained.1 keys locks chained.3)

-- the chain stays where its keys name what they named
pub chained_still : (old new : List (Option HeldLock)) (first : Option ℕ) (keys : List ℕ) (locks : Locks) → ((key : ℕ) → Contains keys key → object new key ≡ object old key)
    → Chained old first keys locks → Chained new first keys locks
chained_still old new first [] [] same chained = chained
chained_still old new first [] (lock ∷ locks) same chained = absurd chained
chained_still old new first (k ∷ keys) [] same chained = absurd chained
chained_still old new first (k ∷ keys) (lock ∷ locks) same chained =
    (chained.0, chained.1, same k (0, omega arith, refl) ∙ chained.2, chained_still old new chained.1 keys locks (λ key among. same key (Contains-cons k key keys among)) chained.3)

-- ---- all keys

unused : (objects : List (Option HeldLock)) (key : ℕ) → object objects key ≡ None → InUse objects key → ⊥
unused objects key vacant used = grind arith

pub keys_freed : (objects : List (Option HeldLock)) (key : ℕ) (keys : List ℕ) → AreKeysOf objects (key ∷ keys) → AreKeysOf (without objects key) keys
keys_freed objects key keys are =
    AreKeysOf-changes objects (without objects key) (key ∷ []) [] keys are
    (record {
      outside = KeepsOutside-without objects key;
      fresh = λ other there. absurd (omega (arith, there.1));
      left = λ other here used. absurd (unused (without objects key) other
          (subst (λ k. object (without objects key) k ≡ None) (Contains-single key other here) (object-without objects key (InUse-within objects key (are.used key (0, omega arith, refl))))) used);
    })
    (λ other there. absurd (omega (arith, there.1)))
    (λ i j before within. absurd (omega arith))

once_alone : (key : ℕ) → IsOnce (key ∷ [])
once_alone key = IsOnce-cons key [] (λ there. omega (arith, there.1)) (λ i j before within. absurd (omega arith))

pub keys_put : (objects : List (Option HeldLock)) (key : ℕ) (keys : List ℕ) (value : HeldLock) → AreKeysOf objects (key ∷ keys) → AreKeysOf (put objects key value) (key ∷ keys)
keys_put objects key keys value are =
    let used = are.used key (0, omega arith, refl) in
    AreKeysOf-changes objects (put objects key value) (key ∷ []) (key ∷ []) keys are
    (record {
      outside = λ other apart. KeepsOutside-put objects key value other (λ there. apart (Contains-append_left (key ∷ []) (key ∷ []) other there));
      fresh = λ other there. inl there;
      left = λ other here now. here;
    })
    (λ other there. InUse-put objects key value other used (subst (InUse objects) (Contains-single key other there) used))
    (once_alone key)

pub keys_made : (objects : List (Option HeldLock)) (key : ℕ) (keys : List ℕ) (value : HeldLock) → AreKeysOf objects keys → object objects key ≡ None → object (put objects key value) key ≡ Some value
    → AreKeysOf (put objects key value) (key ∷ keys)
keys_made objects key keys value are vacant stored =
    AreKeysOf-changes objects (put objects key value) [] (key ∷ []) keys are
    (record {
      outside = KeepsOutside-put objects key value;
      fresh = λ other there. inr (subst (λ k. object objects k ≡ None) (Contains-single key other there) vacant);
      left = λ other there now. absurd (omega (arith, there.1));
    })
    (λ other there. subst (InUse (put objects key value)) (Contains-single key other there) (subst IsSome (sym stored) refl))
    (once_alone key)

-- ---- one more lock

pub chain_more : (objects : List (Option HeldLock)) (first : Option ℕ) (locks : Locks) (key : ℕ) (lock : Lock) → object objects key ≡ None
    → object (put objects key (held_of lock first)) key ≡ Some (held_of lock first) → IsLockChain objects first locks
    → IsLockChain (put objects key (held_of lock first)) (Some key) (lock ∷ locks)
chain_more objects first locks key lock vacant stored chain = record {
  keys = key ∷ chain.keys;
  chained = (
    refl,
    first,
    stored,
    chained_still objects (put objects key (held_of lock first)) first chain.keys locks (λ other among. object-put_other objects key other (held_of lock first) (λ same. unused objects other (subst (λ k. object objects k ≡ None) (sym same) vacant) (chain.are.used other among))) chain.chained,
  );
  are = keys_made objects key chain.keys (held_of lock first) chain.are vacant stored;
}

-- ---- how many are left

pub left_is : (n : ℕ) (objects : List (Option HeldLock)) (at : Option ℕ) (keys : List ℕ) (locks : Locks) → Chained objects at keys locks → length keys ≤ n → chain_left n objects at ≡ length keys
unfolding chain_left
left_is zero objects at [] [] chained few = refl
left_is zero objects at [] (lock ∷ locks) chained few = absurd chained
left_is zero objects at (k ∷ keys) locks chained few = absurd (omega (arith, few))
left_is (suc n) objects None [] [] chained few = refl
left_is (suc n) objects None [] (lock ∷ locks) chained few = absurd chained
left_is (suc n) objects None (k ∷ keys) locks chained few = absurd (let none = (none_behind objects (k ∷ keys) locks chained).0 in cc)
left_is (suc n) objects (Some key) keys locks chained few =
    let head = head_of objects key keys locks chained in
    let size : length keys ≡ suc (length head.behind) = ap length head.keys_are in
    ap (λ m. suc m) (ap (λ o. chain_left n objects (next_of o)) head.there ∙ left_is n objects head.next head.behind head.rest head.chained (omega (arith, few, size))) ∙ sym size

pub few_keys : (objects : List (Option HeldLock)) (keys : List ℕ) → AreKeysOf objects keys → length keys ≤ count objects
few_keys objects keys are = omega (arith, count-keys objects keys are)
