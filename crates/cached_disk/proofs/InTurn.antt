-- Blocks that are asked for one after another.
use Rattle.std.proofs.Common.{◌≡◌, ℕ, List, [], ◌∷◌, ◌++◌, Option, Some, None, IsSome, nat_eq, refl, sym, ap, ◌∙◌, subst}
use Rattle.std.specs.Prelude.{MatchOption}
use Rattle.std.specs.Option.{option_map, option_and_then}
use Rattle.std.specs.List.{AllByRecursion}
use Rattle.kheap_slabs.specs.Objects.{object}
use Rattle.kheap_slabs.specs.declared.objects.Block.{Block}
use Rattle.lru_index.specs.Order.{Order}
use Rattle.posix_defs.specs.Asking.{AskedInTurn}
use Rattle.block_cache.specs.Blocks.{block_slot, cached_block}
use Rattle.cached_disk.specs.Lent.{Parts, IsReordered, IsFound, IsFetched, Asked, IsCached}

found_if : (A B : Type 0) (o : Option ℕ) → IsSome o → MatchOption o A (λ _. B) → B
found_if A B None some is = absurd (cc)
found_if A B (Some slot) some is = is

pub reordered_refl : (before after : Parts) → after ≡ before → IsReordered before after
reordered_refl before after is = record {
  heap = ap (λ (p : Parts). p.heap) is;
  purse = ap (λ (p : Parts). p.purse) is;
  disk = ap (λ (p : Parts). p.disk) is;
  capacity = ap (λ (p : Parts). p.cache.capacity) is;
  same = λ number. ap (λ (p : Parts). block_slot p.cache number) is;
}

reordered_trans : (a b c : Parts) → IsReordered a b → IsReordered b c → IsReordered a c
reordered_trans a b c one other = record {
  heap = other.heap ∙ one.heap;
  purse = other.purse ∙ one.purse;
  disk = other.disk ∙ one.disk;
  capacity = other.capacity ∙ one.capacity;
  same = λ number. other.same number ∙ one.same number;
}

still_cached : (numbers : List ℕ) (old new : Order ℕ) → ((number : ℕ) → block_slot new number ≡ block_slot old number) → AllByRecursion (IsCached old) numbers → AllByRecursion (IsCached new) numbers
still_cached [] old new same all = all
still_cached (number ∷ numbers) old new same all = (subst (λ (o : Option ℕ). IsSome o) (sym (same number)) all.0, still_cached numbers old new same all.1)

-- where all are cached nothing is read
pub nothing_read : (numbers : List ℕ) (before after : Parts) → AllByRecursion (IsCached before.cache) numbers → AskedInTurn Asked before numbers after → IsReordered before after
nothing_read [] before after all asked = reordered_refl before after asked
nothing_read (number ∷ numbers) before after all asked =
    let found : IsFound number before asked.0 = found_if (IsFetched number before asked.0) (IsFound number before asked.0) (block_slot before.cache number) all.0 asked.1 in
    reordered_trans before asked.0 after found.rest (nothing_read numbers asked.0 after (still_cached numbers before.cache asked.0.cache found.rest.same all.1) asked.2)

-- what has bytes in the cache is cached
has_slot : (objects : List (Option Block)) (cache : Order ℕ) (number : ℕ) (bytes : List ℕ) → cached_block objects cache number ≡ Some bytes → IsCached cache number
has_slot objects cache number bytes is = by_case (block_slot cache number) is
  where
    by_case : (o : Option ℕ) → option_and_then (λ slot. option_map (λ (b : Block). b.bytes) (object objects slot)) o ≡ Some bytes → IsSome o
    by_case None none = cc
    by_case (Some slot) some = refl

one_cached : (number : ℕ) (before after : Parts) → Asked before number after → IsCached after.cache number
one_cached number before after asked = by_case (block_slot before.cache number) refl asked
  where
    by_case : (o : Option ℕ) → block_slot before.cache number ≡ o → MatchOption o (IsFetched number before after) (λ _. IsFound number before after) → IsCached after.cache number
    by_case None is fetched = has_slot after.heap.blocks after.cache number fetched.bytes fetched.cached
    by_case (Some slot) is found = subst (λ (o : Option ℕ). IsSome o) (sym (found.rest.same number ∙ is)) refl

-- what was asked for last is cached
pub last_cached : (numbers : List ℕ) (last : ℕ) (before after : Parts) → AskedInTurn Asked before (numbers ++ last ∷ []) after → IsCached after.cache last
last_cached [] last before after asked = subst (λ (p : Parts). IsCached p.cache last) (sym asked.2) (one_cached last before asked.0 asked.1)
last_cached (number ∷ numbers) last before after asked = last_cached numbers last asked.0 after asked.2
