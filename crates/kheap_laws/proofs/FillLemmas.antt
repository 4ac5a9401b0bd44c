-- What a purse keeps as filled, after a fill and after one is dropped.
use Rattle.std.proofs.Common.{◌≡◌, ◌⊎◌, ℕ, suc, ◌+◌, ◌-◌, ◌<◌, List, [], ◌∷◌, ◌++◌, Option, Some, None, length, get_or, take, drop, sym, ap, ◌∙◌, refl, inl, inr, arith, Contains, length-append}
use Rattle.std.specs.Prelude.{remove}
use Rattle.std.proofs.lemmas.List.{take-append-drop}
use Rattle.std.proofs.lemmas.List.Elements.{Contains-append_cases}
use Rattle.std.proofs.Math.Seq.{drop-cons}
use Rattle.slab.proofs.SlabLemmas.{Contains-cons}
use Rattle.kheap_slabs.specs.Objects.{object, InUse, put, without}
use Rattle.kheap_slabs.specs.Keys.{IsOnce}
use Rattle.kheap_slabs.specs.Paid.{AreFills}
use Rattle.kheap_slabs.proofs.ObjectLemmas.{object-put_other, object-without_other}
use Rattle.kheap_laws.proofs.OnceLemmas.{Contains-single, IsOnce-head, IsOnce-tail, IsOnce-push}
use Rattle.kheap_laws.proofs.KeyLemmas.{Contains-swap, IsOnce-swap}

module _ {X : Type 0} where
  -- a purse keeps nothing at its beginning
  pub AreFills-none : (objects : List (Option X)) (need : ℕ) → AreFills objects [] need need
  AreFills-none objects need = record {
    used = λ key there. absurd (omega (arith, there.1));
    once = λ i j before within same. omega arith;
    spent = omega arith;
  }

  -- an object is made under a key that was free, spent, and kept as the last that was filled
  pub AreFills-add : (objects : List (Option X)) (keys : List ℕ) (left need key : ℕ) (value : X) → 0 < left → object objects key ≡ None → object (put objects key value) key ≡ Some value → AreFills objects keys left need → AreFills (put objects key value) (keys ++ key ∷ []) (left - 1) need
  AreFills-add objects keys left need key value some vacant stored fills = record {
    used = λ other there. used other (Contains-append_cases keys (key ∷ []) other there);
    once = IsOnce-push keys key fills.once absent;
    spent = rw length-append (omega (arith, fills.spent));
  }
    where
      unused : object objects key ≡ None → InUse objects key → ⊥
      unused vacant used = grind arith

      absent : Contains keys key → ⊥
      absent there = unused vacant (fills.used key there)

      used : (other : ℕ) → Contains keys other ⊎ Contains (key ∷ []) other → InUse (put objects key value) other
      used other (inl there) = rw (object-put_other objects key other value (λ same. absent (rw same at there))) (fills.used other there)
      used other (inr it) = rw (← Contains-single key other it, stored) refl

  -- an object stays or is freed that isn't kept as filled, or is put anew
  pub AreFills-kept : (old new : List (Option X)) (keys : List ℕ) (left need : ℕ) → ((key : ℕ) → Contains keys key → InUse old key → InUse new key) → AreFills old keys left need → AreFills new keys left need
  AreFills-kept old new keys left need kept fills = record {
    used = λ key there. kept key there (fills.used key there);
    once = fills.once;
    spent = fills.spent;
  }

  -- a key at some place is forgotten, its object freed, and the purse has one more left
  pub AreFills-drop : (objects : List (Option X)) (keys : List ℕ) (left need at : ℕ) → at < length keys → AreFills objects keys left need → AreFills (without objects (get_or keys at 0)) (remove keys at) (left + 1) need
  AreFills-drop objects keys left need at within fills = record {
    used = λ other there. rw (object-without_other objects (get_or keys at 0) other (λ same. IsOnce-head (get_or keys at 0) (remove keys at) once (rw same at there))) (fills.used other (rw parts (Contains-swap (get_or keys at 0 ∷ []) (take at keys) (drop (suc at) keys) other (Contains-cons (get_or keys at 0) other (remove keys at) there))));
    once = IsOnce-tail (get_or keys at 0) (remove keys at) once;
    spent =
        let long : length keys ≡ length (take at keys) + suc (length (drop (suc at) keys)) = ap length parts ∙ length-append (take at keys) (get_or keys at 0 ∷ drop (suc at) keys) in
        rw length-append (omega (arith, fills.spent));
  }
    where
      parts : keys ≡ take at keys ++ (get_or keys at 0 ∷ drop (suc at) keys)
      parts = sym (take-append-drop at keys) ∙ ap (λ back. take at keys ++ back) (drop-cons keys at 0 within)

      once : IsOnce (get_or keys at 0 ∷ remove keys at)
      once = IsOnce-swap (take at keys) (get_or keys at 0 ∷ []) (drop (suc at) keys) (rw parts at fills.once)
