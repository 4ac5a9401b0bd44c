-- A walk along the order of use, from the coldest node on.
use Rattle.std.proofs.Common.{◌≡◌, ℕ, suc, ◌<◌, true, false, cond, List, ◌∷◌, [], ◌++◌, length, Option, Some, None, refl, sym, ap, ◌∙◌, subst, arith, nat_eq, eqb-true, append_assoc, append-nil}
use Rattle.std.specs.List.{IsDistinct, AllByRecursion}
use Rattle.std.specs.Map.{keys_of, lookup}
use Rattle.std.specs.Option.{option_map, option_map_or, option_and_then}
use Rattle.std.specs.Cmp.{nat_eq_equiv}
use Rattle.std.proofs.lemmas.Map.Keys.{IsDistinct-head, IsDistinct-tail}
use Rattle.kheap_slabs.specs.Objects.{object}
use Rattle.kheap_slabs.specs.declared.objects.Vnode.{Vnode}
use Rattle.lru_index.specs.Order.{Order, first_key, warmer, coldest_of}
use Rattle.cache_laws.specs.Caches.{slot_of, Keeps}
use Rattle.vnode_cache.specs.Nodes.{Nodes, is_loose, IsLoose, node_slot, node_is_loose, cached_pins, KeepsNodes, AreHeld, IsColdestLoose, loose_count}
use Rattle.kheap_slabs.proofs.ObjectLemmas.{object_of}
use Rattle.cache_laws.proofs.KeepsLemmas.{keeps_used, cached_is}
use Rattle.vnode_cache.proofs.LooseLemmas.{loose_none}

all_at : (P : ℕ → Type 0) (front : List (ℕ × ℕ)) (p : ℕ × ℕ) (back : List (ℕ × ℕ)) → AllByRecursion P (keys_of (front ++ p ∷ back)) → P p.0
all_at P [] p back all = all.0
all_at P (q ∷ front) p back all = all_at P front p back all.1

-- what is warmer than the node of a pair stands behind it
pub warmer_at : (front : List (ℕ × ℕ)) (p : ℕ × ℕ) (back : List (ℕ × ℕ)) → IsDistinct nat_eq (keys_of (front ++ p ∷ back)) → warmer (nat_eq p.0) (front ++ p ∷ back) ≡ back
warmer_at [] p back distinct = ap (λ b. cond b back (warmer (nat_eq p.0) back)) (nat_eq_equiv.refl p.0)
warmer_at (q ∷ front) p back distinct =
    let apart : nat_eq q.0 p.0 ≡ false = all_at (λ y. nat_eq q.0 y ≡ false) front p back (IsDistinct-head nat_eq q.0 (keys_of (front ++ p ∷ back)) distinct) in
    ap (λ b. cond b (front ++ p ∷ back) (warmer (nat_eq p.0) (front ++ p ∷ back))) (nat_eq_equiv.symm p.0 q.0 ∙ apart) ∙ warmer_at front p back (IsDistinct-tail nat_eq q.0 (keys_of (front ++ p ∷ back)) distinct)

-- one more pair whose node is held
pub held_more : (objects : List (Option Vnode)) (o : Order ℕ) (front : List (ℕ × ℕ)) (p : ℕ × ℕ) → AreHeld objects o front → node_is_loose objects o p.0 ≡ false → AreHeld objects o (front ++ p ∷ [])
held_more objects o [] p all held = (held, tt)
held_more objects o (q ∷ front) p all held = (all.0, held_more objects o front p all.1 held)

held_at : (objects : List (Option Vnode)) (o : Order ℕ) (ps : List (ℕ × ℕ)) (number slot : ℕ) → AreHeld objects o ps → lookup (nat_eq number) ps ≡ Some slot → node_is_loose objects o number ≡ false
held_at objects o [] number slot all is = cc
held_at objects o (p ∷ ps) number slot all is = (elim (nat_eq number p.0) as (λ y. nat_eq number p.0 ≡ y → cond y (Some p.1) (lookup (nat_eq number) ps) ≡ Some slot → node_is_loose objects o number ≡ false) [
  | true ↦ λ t e. ap (node_is_loose objects o) (eqb-true number p.0 t) ∙ all.0
  | false ↦ λ t e. held_at objects o ps number slot all.1 e
]) refl is

-- where each node is held no one may go
pub all_held : (objects : List (Option Vnode)) (o : Order ℕ) → Keeps nat_eq (λ v. v.number) objects o → AreHeld objects o o.pairs → loose_count objects ≡ 0
all_held objects o keeps all = loose_none objects (λ slot. by_case slot (object objects slot) refl)
  where
    by_case : (slot : ℕ) (x : Option Vnode) → object objects slot ≡ x → is_loose (object objects slot) ≡ false
    by_case slot None none = ap is_loose none
    by_case slot (Some v) some =
        let at : slot_of nat_eq o v.number ≡ Some slot = keeps.only v.number slot (ap (option_map (λ w. w.number)) some) in
        sym (ap (λ s. is_loose (option_and_then (object objects) s)) at) ∙ held_at objects o o.pairs v.number slot all at

-- each pair before the next node is held
abbrev pub Parts : List (Option Vnode) → Order ℕ → Option ℕ → Type 0
Parts objects o next = (front : List (ℕ × ℕ)) × (rest : List (ℕ × ℕ)) × (o.pairs ≡ front ++ rest) × AreHeld objects o front × (next ≡ first_key rest)

-- how many pairs there are from the next node on
abbrev pub size_from : Order ℕ → Option ℕ → ℕ
size_from o next = option_map_or (λ number. suc (length (warmer (nat_eq number) o.pairs))) next 0

module _ (objects : List (Option Vnode)) (o : Order ℕ) where
  pub parts_first : (next : Option ℕ) → next ≡ first_key o.pairs → Parts objects o next
  parts_first next is = ([], o.pairs, refl, tt, is)

  warmer_is : (front back : List (ℕ × ℕ)) (p : ℕ × ℕ) (number : ℕ) → IsDistinct nat_eq (keys_of o.pairs) → o.pairs ≡ front ++ p ∷ back → number ≡ p.0 → warmer (nat_eq number) o.pairs ≡ back
  warmer_is front back p number distinct is one = (λ i. warmer (nat_eq (one i)) (is i)) ∙ warmer_at front p back (subst (λ ps. IsDistinct nat_eq (keys_of ps)) is distinct)

  pub parts_next : (number : ℕ) (next : Option ℕ) → IsDistinct nat_eq (keys_of o.pairs) → Parts objects o (Some number) → node_is_loose objects o number ≡ false → next ≡ coldest_of nat_eq (Some number) o.pairs → Parts objects o next
  parts_next number next distinct parts held then_is = by_rest parts.0 parts.1 parts.2 parts.3 parts.4
    where
      by_rest : (front rest : List (ℕ × ℕ)) → o.pairs ≡ front ++ rest → AreHeld objects o front → Some number ≡ first_key rest → Parts objects o next
      by_rest front [] is all at = cc
      by_rest front (p ∷ back) is all at =
          let one : number ≡ p.0 = cc in
          (front ++ p ∷ [], back, is ∙ sym (append_assoc front (p ∷ []) back), held_more objects o front p all (ap (node_is_loose objects o) (sym one) ∙ held), then_is ∙ ap first_key (warmer_is front back p number distinct is one))

  parts_size : (next : Option ℕ) (front rest : List (ℕ × ℕ)) → IsDistinct nat_eq (keys_of o.pairs) → o.pairs ≡ front ++ rest → next ≡ first_key rest → size_from o next ≡ length rest
  parts_size next front [] distinct is at = ap (size_from o) at
  parts_size next front (p ∷ back) distinct is at = ap (size_from o) at ∙ ap (λ l. suc (length l)) (warmer_is front back p p.0 distinct is refl)

  pub parts_smaller : (number : ℕ) (next : Option ℕ) → IsDistinct nat_eq (keys_of o.pairs) → Parts objects o (Some number) → next ≡ coldest_of nat_eq (Some number) o.pairs → size_from o next < size_from o (Some number)
  parts_smaller number next distinct parts then_is = by_rest parts.0 parts.1 parts.2 parts.4
    where
      by_rest : (front rest : List (ℕ × ℕ)) → o.pairs ≡ front ++ rest → Some number ≡ first_key rest → size_from o next < size_from o (Some number)
      by_rest front [] is at = cc
      by_rest front (p ∷ back) is at =
          let one : number ≡ p.0 = cc in
          let here : size_from o (Some number) ≡ suc (length back) = parts_size (Some number) front (p ∷ back) distinct is at in
          let there : size_from o next ≡ length back = parts_size next (front ++ p ∷ []) back distinct (is ∙ sym (append_assoc front (p ∷ []) back)) (then_is ∙ ap first_key (warmer_is front back p number distinct is one)) in
          omega arith

  pub parts_all : Parts objects o None → AreHeld objects o o.pairs
  parts_all parts = by_rest parts.0 parts.1 parts.2 parts.3 parts.4
    where
      by_rest : (front rest : List (ℕ × ℕ)) → o.pairs ≡ front ++ rest → AreHeld objects o front → None ≡ first_key rest → AreHeld objects o o.pairs
      by_rest front [] is held at = subst (AreHeld objects o) (sym (is ∙ append-nil front)) held
      by_rest front (p ∷ back) is held at = cc

  pub parts_found : (number : ℕ) → Parts objects o (Some number) → node_is_loose objects o number ≡ true → IsColdestLoose objects o number
  parts_found number parts free = by_rest parts.0 parts.1 parts.2 parts.3 parts.4
    where
      by_rest : (front rest : List (ℕ × ℕ)) → o.pairs ≡ front ++ rest → AreHeld objects o front → Some number ≡ first_key rest → IsColdestLoose objects o number
      by_rest front [] is held at = cc
      by_rest front (p ∷ back) is held at =
          let one : number ≡ p.0 = cc in
          record { front = front; back = back; slot = p.1; pairs = is ∙ (λ i. front ++ (sym one i, p.1) ∷ back); held = held; loose = free }

-- a cached node without pins is one that no one holds
pub unpinned_is_loose : (objects : List (Option Vnode)) (cache : Nodes) (number slot : ℕ) → KeepsNodes objects cache → node_slot cache number ≡ Some slot → ((pins : ℕ) → cached_pins objects cache number ≡ Some pins → pins ≡ 0) → IsLoose objects slot
unpinned_is_loose objects cache number slot keeps at none =
    let found = object_of objects slot (keeps_used nat_eq_equiv eqb-true (λ (v : Vnode). v.number) objects cache.order number slot keeps.kept at) in
    ap is_loose found.1 ∙ ap (λ n. nat_eq n 0) (none found.0.pins (cached_is nat_eq_equiv eqb-true (λ (v : Vnode). v.number) (λ v. v.pins) objects cache.order number slot found.0 at found.1))

pub loose_at : (objects : List (Option Vnode)) (o : Order ℕ) (number slot : ℕ) → slot_of nat_eq o number ≡ Some slot → IsLoose objects slot → node_is_loose objects o number ≡ true
loose_at objects o number slot at free = ap (λ s. is_loose (option_and_then (object objects) s)) at ∙ free
