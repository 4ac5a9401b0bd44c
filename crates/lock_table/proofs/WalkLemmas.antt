-- The chain is walked from its first one on, and made anew.
use Rattle.std.proofs.Common.{◌≡◌, ◌≢◌, ℕ, suc, ◌+◌, ◌<◌, List, [], ◌∷◌, ◌++◌, length, Option, None, Some, IsSome, refl, sym, ap, subst, ◌∙◌, arith, Contains}
use Rattle.std.proofs.lemmas.List.{append-nil}
use Rattle.std.proofs.lemmas.List.Elements.{Contains-append_left, Contains-append_right}
use Rattle.kheap_laws.proofs.KeyLemmas.{AreKeysOf-swap}
use Rattle.kheap_laws.proofs.OnceLemmas.{IsOnce-head}
use Rattle.kheap_slabs.specs.Heap.{Heap}
use Rattle.kheap_slabs.specs.Keys.{AreKeysOf}
use Rattle.kheap_slabs.specs.Objects.{object, InUse, count, put, without}
use Rattle.kheap_slabs.specs.declared.objects.Lock.{Lock as HeldLock}
use Rattle.kheap_slabs.proofs.ObjectLemmas.{InUse-within, object-put, object-put_other, object-without_other}
use Rattle.kabi_types.specs.declared.ranges.Range.{Range}
use Rattle.posix_defs.specs.Locks.{Lock, Locks}
use Rattle.lock_table.specs.Chain.{Chained, IsLockChain, held_of, plain_of}
use Rattle.lock_table.specs.Setting.{cut, kept_by, over, over_by, stays}
use Rattle.lock_table.specs.Walking.{Cuts, Walks, chain_left, chained_again, first_again}
use Rattle.lock_table.proofs.Chaining.{chained_still, few_keys, head_of, keys_freed, keys_put, left_is, none_behind}

-- ---- a walk that changes nothing

pub walks_from : (objects : List (Option HeldLock)) (first : Option ℕ) (locks : Locks) (P : Locks → Type 0) → IsLockChain objects first locks → P locks → Walks objects first P
walks_from objects first locks P chain so = record { keys = chain.keys; rest = locks; chained = chain.chained; few = few_keys objects chain.keys chain.are; so = so }

pub walk_used : (objects : List (Option HeldLock)) (key : ℕ) (P : Locks → Type 0) → Walks objects (Some key) P → InUse objects key
walk_used objects key P walks =
    let head = head_of objects key walks.keys walks.rest walks.chained in subst IsSome (sym head.there) refl

-- what is there is the first of those that are left
module _ (objects : List (Option HeldLock)) (key : ℕ) (held : HeldLock) (there : object objects key ≡ Some held) where
  pub walks_on : (P Q : Locks → Type 0) → Walks objects (Some key) P → ((rest : Locks) → P (plain_of held ∷ rest) → Q rest) → Walks objects held.next Q
  walks_on P Q walks on =
      let head = head_of objects key walks.keys walks.rest walks.chained in
      let same : held_of head.lock head.next ≡ held = (let one = head.there in let two = there in cc) in
      let size : length walks.keys ≡ suc (length head.behind) = ap length head.keys_are in record {
        keys = head.behind;
        rest = head.rest;
        chained = subst (λ (h : HeldLock). Chained objects h.next head.behind head.rest) same head.chained;
        few = omega (arith, walks.few, size);
        so = on head.rest (subst (λ (h : HeldLock). P (plain_of h ∷ head.rest)) same (subst P head.locks_are walks.so));
      }

  -- and what is so of those that are left
  pub walk_at : (P : Locks → Type 0) → Walks objects (Some key) P → (rest : Locks) × P (plain_of held ∷ rest)
  walk_at P walks =
      let head = head_of objects key walks.keys walks.rest walks.chained in
      let same : held_of head.lock head.next ≡ held = (let one = head.there in let two = there in cc) in
      (head.rest, subst (λ (h : HeldLock). P (plain_of h ∷ head.rest)) same (subst P head.locks_are walks.so))

  pub walk_less : (P : Locks → Type 0) → Walks objects (Some key) P → chain_left (count objects) objects held.next < chain_left (count objects) objects (Some key)
  walk_less P walks =
      let head = head_of objects key walks.keys walks.rest walks.chained in
      let same : held_of head.lock head.next ≡ held = (let one = head.there in let two = there in cc) in
      let size : length walks.keys ≡ suc (length head.behind) = ap length head.keys_are in
      let from = left_is (count objects) objects (Some key) walks.keys walks.rest walks.chained walks.few in
      let behind = left_is (count objects) objects held.next head.behind head.rest (subst (λ (h : HeldLock). Chained objects h.next head.behind head.rest) same head.chained) (omega (arith, walks.few, size)) in
      omega (arith, from, behind, size)

pub walked : (objects : List (Option HeldLock)) (P : Locks → Type 0) → Walks objects None P → P []
walked objects P walks = subst P (none_behind objects walks.keys walks.rest walks.chained).1 walks.so

-- ---- the chain is made anew

pub cuts_from : (objects : List (Option HeldLock)) (first : Option ℕ) (pid node start last : ℕ) (locks : Locks) → IsLockChain objects first locks
    → Cuts objects (count objects) None first None pid node start last locks
cuts_from objects first pid node start last locks chain = record {
  done_keys = [];
  done = [];
  anew = refl;
  keys = chain.keys;
  rest = locks;
  chained = chain.chained;
  are = chain.are;
  few = few_keys objects chain.keys chain.are;
  cut_is = refl;
  over_is = refl;
}

module _ (objects : List (Option HeldLock)) (most : ℕ) (first : Option ℕ) (left : Option Range) (pid node start last : ℕ) (locks : Locks) where
  pub cut_used : (key : ℕ) → Cuts objects most first (Some key) left pid node start last locks → InUse objects key
  cut_used key cuts = let head = head_of objects key cuts.keys cuts.rest cuts.chained in subst IsSome (sym head.there) refl

  -- at the end all that stayed are chained
  pub cut_whole : Cuts objects most first None left pid node start last locks → IsLockChain objects first (cut pid node start last [] locks) × (left ≡ over pid node start last None locks)
  cut_whole cuts =
      let none = none_behind objects cuts.keys cuts.rest cuts.chained in (
        record {
          keys = cuts.done_keys;
          chained = subst (Chained objects first cuts.done_keys) (ap (cut pid node start last cuts.done) (sym none.1) ∙ cuts.cut_is) cuts.anew;
          are = subst (AreKeysOf objects) (append-nil cuts.done_keys) (subst (λ ks. AreKeysOf objects (cuts.done_keys ++ ks)) none.0 cuts.are);
        },
        ap (over pid node start last left) (sym none.1) ∙ cuts.over_is,
      )

  module _ (key : ℕ) (held : HeldLock) (there : object objects key ≡ Some held) where
    -- the lock that is looked at, and those behind it
    record Here (done_keys : List ℕ) (done : Locks) : Type 0 where
      behind : List ℕ
      others : Locks
      all : AreKeysOf objects (key ∷ (done_keys ++ behind))
      anew : Chained objects first done_keys done
      chained : Chained objects held.next behind others
      few : length behind < most
      cut_is : cut pid node start last (stays pid node start last (kept_by pid node start last (plain_of held)) (plain_of held) done) others ≡ cut pid node start last [] locks
      over_is : over pid node start last (over_by pid node start last left (plain_of held)) others ≡ over pid node start last None locks

    here : (cuts : Cuts objects most first (Some key) left pid node start last locks) → Here cuts.done_keys cuts.done
    here cuts =
        let head = head_of objects key cuts.keys cuts.rest cuts.chained in
        let same : held_of head.lock head.next ≡ held = (let one = head.there in let two = there in cc) in
        let size : length cuts.keys ≡ suc (length head.behind) = ap length head.keys_are in
        let rest_is : cuts.rest ≡ plain_of held ∷ head.rest = head.locks_are ∙ ap (λ (l : Lock). l ∷ head.rest) (ap plain_of same) in record {
          behind = head.behind;
          others = head.rest;
          all = AreKeysOf-swap objects cuts.done_keys (key ∷ []) head.behind (subst (λ ks. AreKeysOf objects (cuts.done_keys ++ ks)) head.keys_are cuts.are);
          anew = cuts.anew;
          chained = subst (λ (g : HeldLock). Chained objects g.next head.behind head.rest) same head.chained;
          few = omega (arith, cuts.few, size);
          cut_is = sym (ap (cut pid node start last cuts.done) rest_is) ∙ cuts.cut_is;
          over_is = sym (ap (over pid node start last left) rest_is) ∙ cuts.over_is;
        }

    -- no other key is this one
    others_differ : (done_keys behind : List ℕ) → AreKeysOf objects (key ∷ (done_keys ++ behind)) → (other : ℕ) → Contains (done_keys ++ behind) other → other ≢ key
    others_differ done_keys behind all other among equal = IsOnce-head key (done_keys ++ behind) all.once (subst (Contains (done_keys ++ behind)) equal among)

    pub cuts_on : (now : Option Range) → now ≡ kept_by pid node start last (plain_of held) → Cuts objects most first (Some key) left pid node start last locks
        → Cuts (chained_again objects key held first now) most (first_again key first now) held.next (over_by pid node start last left (plain_of held)) pid node start last locks
    cuts_on None is cuts =
        let it = here cuts in
        let differ = others_differ cuts.done_keys it.behind it.all in record {
          done_keys = cuts.done_keys;
          done = cuts.done;
          anew = chained_still objects (without objects key) first cuts.done_keys cuts.done
              (λ other among. object-without_other objects key other (differ other (Contains-append_left cuts.done_keys it.behind other among))) it.anew;
          keys = it.behind;
          rest = it.others;
          chained = chained_still objects (without objects key) held.next it.behind it.others
              (λ other among. object-without_other objects key other (differ other (Contains-append_right cuts.done_keys it.behind other among))) it.chained;
          are = keys_freed objects key (cuts.done_keys ++ it.behind) it.all;
          few = omega (arith, it.few);
          cut_is = ap (λ r. cut pid node start last (stays pid node start last r (plain_of held) cuts.done) it.others) is ∙ it.cut_is;
          over_is = it.over_is;
        }
    cuts_on (Some range) is cuts =
        let it = here cuts in
        let differ = others_differ cuts.done_keys it.behind it.all in
        let value : HeldLock = record held { range = range; next = first } in
        let within = InUse-within objects key (subst IsSome (sym there) refl) in record {
          done_keys = key ∷ cuts.done_keys;
          done = record (plain_of held) { range = range } ∷ cuts.done;
          anew = (
            refl,
            first,
            object-put objects key value within,
            chained_still objects (put objects key value) first cuts.done_keys cuts.done
                (λ other among. object-put_other objects key other value (differ other (Contains-append_left cuts.done_keys it.behind other among))) it.anew,
          );
          keys = it.behind;
          rest = it.others;
          chained = chained_still objects (put objects key value) held.next it.behind it.others
              (λ other among. object-put_other objects key other value (differ other (Contains-append_right cuts.done_keys it.behind other among))) it.chained;
          are = keys_put objects key (cuts.done_keys ++ it.behind) value it.all;
          few = omega (arith, it.few);
          cut_is = ap (λ r. cut pid node start last (stays pid node start last r (plain_of held) cuts.done) it.others) is ∙ it.cut_is;
          over_is = it.over_is;
        }

    -- fewer are left then
    pub cut_less : (now : Option Range) → Cuts objects most first (Some key) left pid node start last locks
        → chain_left most (chained_again objects key held first now) held.next < chain_left most objects (Some key)
    unfolding here
    cut_less now cuts =
        let it = here cuts in
        let differ = others_differ cuts.done_keys it.behind it.all in
        let from = left_is most objects (Some key) cuts.keys cuts.rest cuts.chained cuts.few in
        let to = left_is most (chained_again objects key held first now) held.next it.behind it.others
        (chained_still objects (chained_again objects key held first now) held.next it.behind it.others
        (λ other among. others_same now other (differ other (Contains-append_right cuts.done_keys it.behind other among))) it.chained) (omega (arith, it.few)) in
        let size : length cuts.keys ≡ suc (length it.behind) = ap length (head_of objects key cuts.keys cuts.rest cuts.chained).keys_are in
        omega (arith, from, to, size)
      where
        others_same : (range : Option Range) (other : ℕ) → other ≢ key → object (chained_again objects key held first range) other ≡ object objects other
        others_same None other differs = object-without_other objects key other differs
        others_same (Some range) other differs = object-put_other objects key other (record held { range = range; next = first }) differs

-- one more lock of the chain is looked at, by what the code has of it
pub cuts_step : (objects new : List (Option HeldLock)) (most : ℕ) (first first_now : Option ℕ) (key : ℕ) (held : HeldLock) (left left_now now : Option Range) (pid node start last : ℕ) (locks : Locks)
    → object objects key ≡ Some held → now ≡ kept_by pid node start last (plain_of held) → new ≡ chained_again objects key held first now → first_now ≡ first_again key first now
    → left_now ≡ over_by pid node start last left (plain_of held) → Cuts objects most first (Some key) left pid node start last locks
    → Cuts new most first_now held.next left_now pid node start last locks
cuts_step objects new most first first_now key held left left_now now pid node start last locks there is changed begins over_is cuts =
    subst (λ (os : List (Option HeldLock)). Cuts os most first_now held.next left_now pid node start last locks) (sym changed)
    (subst (λ f. Cuts (chained_again objects key held first now) most f held.next left_now pid node start last locks) (sym begins)
    (subst (λ l. Cuts (chained_again objects key held first now) most (first_again key first now) held.next l pid node start last locks) (sym over_is)
    (cuts_on objects most first left pid node start last locks key held there now is cuts)))

pub kept_through : (a b c : Heap) (locks : List (Option HeldLock)) → b ≡ record a { locks = b.locks } → c ≡ record b { locks = locks } → c ≡ record a { locks = c.locks }
kept_through a b c locks one two =
    two ∙ ap (λ (h : Heap). record h { locks = locks }) one ∙ ap (λ l. record a { locks = l }) (sym (ap (λ (h : Heap). h.locks) two))
