-- How many nodes a space has, by what the account says of its pages.
use Rattle.std.proofs.Common.{◌≡◌, ℕ, zero, suc, ◌+◌, ◌*◌, ◌/◌, ◌%◌, ◌<◌, Bool, true, false, cond, is_some, List, [], ◌∷◌, Option, None, Some, length, get_or, take, drop, count_by, refl, sym, ap, ◌∙◌, arith}
use Rattle.std.specs.List.{Contains, sum_by, list_any, range_with_len}
use Rattle.std.proofs.lemmas.Bool.{or_left, or_right, or_from, cond-true}
use Rattle.std.proofs.lemmas.List.{get_or-take, get_or-drop, length-take, length-drop}
use Rattle.std.proofs.lemmas.List.Elements.{Contains-append_right}
use Rattle.std.proofs.lemmas.List.Sums.{sum_by-cons}
use Rattle.posix_defs.specs.Memory.{Places, Unmapped, is_place, nodes_in}
use Rattle.kheap_slabs.specs.Objects.{object, InUse, count}
use Rattle.kheap_slabs.specs.declared.objects.Node.{Node}
use Rattle.kheap_slabs.specs.declared.objects.PageEntry.{PageEntry}
use Rattle.kheap_slabs.specs.declared.objects.PageEntry.TheVariants as entry
use Rattle.kheap_slabs.specs.Heap.{Heap, IsWellFormed}
use Rattle.kheap_slabs.specs.Keys.{AreKeysOf}
use Rattle.kheap_slabs.specs.Owners.{Owners, node_keys, IsOwned}
use Rattle.kheap_slabs.specs.Spaces.{is_mapped, keys_in, OwnsNodes}
use Rattle.kheap_slabs.proofs.ObjectLemmas.{object_of}
use Rattle.page_space.specs.Accounts.{place_of, HasPlaces}
use Rattle.page_space.specs.Entries.{entry_at}
use Rattle.page_space.proofs.CountLemmas.{sum_of_keys, sum_shift, sum_range_agree}
use Rattle.kheap_laws.proofs.KeyPlaces.{key_there}
use Rattle.page_space.proofs.TurnLemmas.{entry_known, entry_none}

-- some item of a list passes, or none does
any_at : {X : Type 0} (p : X → Bool) (d : X) (xs : List X) (i : ℕ) → i < length xs → p (get_or xs i d) ≡ true → list_any p xs ≡ true
any_at p d [] i within passes = absurd (omega arith)
any_at p d (x ∷ xs) zero within passes = or_left (p x) (list_any p xs) passes
any_at p d (x ∷ xs) (suc i) within passes = or_right (p x) (list_any p xs) (any_at p d xs i (omega arith) passes)

none_at : {X : Type 0} (p : X → Bool) (d : X) (xs : List X) → ((i : ℕ) → i < length xs → p (get_or xs i d) ≡ false) → list_any p xs ≡ false
none_at p d [] none = refl
none_at p d (x ∷ xs) none = or_from (p x) (list_any p xs) (none 0 (omega arith)) (none_at p d xs (λ i within. none (suc i) (omega arith)))

is_place_of : (number : ℕ → ℕ) (e : PageEntry) → is_place (place_of number e) ≡ is_mapped e
is_place_of number entry.Unmapped = refl
is_place_of number entry.Zero = refl
is_place_of number (entry.Frame key) = refl

-- where some are mapped, there is one
mapped_there : (entries : List PageEntry) → 0 < count_by is_mapped entries → (at : ℕ) × (at < length entries) × (is_mapped (get_or entries at entry.Unmapped) ≡ true)
mapped_there [] some = absurd (omega arith)
mapped_there (entry.Zero ∷ entries) some = (0, omega arith, refl)
mapped_there (entry.Frame key ∷ entries) some = (0, omega arith, refl)
mapped_there (entry.Unmapped ∷ entries) some =
    let found = mapped_there entries (omega (arith, some, sum_by-cons (λ e. cond {A = ℕ} (is_mapped e) 1 0) entry.Unmapped entries)) in
    (suc found.0, omega (arith, found.1), found.2)

module _ (nodes : List (Option Node)) (space : List (Option ℕ)) (number : ℕ → ℕ) (places : Places)
    (owns : OwnsNodes nodes space) (long : (key : ℕ) (node : Node) → object nodes key ≡ Some node → length node.entries ≡ 64)
    (placed : HasPlaces number nodes space places) (whole : length places ≡ 256) where
  -- what the account says of a page of a group
  group_place : (group at : ℕ) → group < 4 → at < 64 → is_place (get_or (take 64 (drop (64 * group) places)) at Unmapped) ≡ is_mapped (entry_at nodes space (64 * group + at))
  group_place group at low within =
      ap is_place (get_or-take 64 (drop (64 * group) places) at Unmapped within ∙ (get_or-drop (64 * group) places at Unmapped ∙ placed (64 * group + at) (omega arith)))
      ∙ is_place_of number (entry_at nodes space (64 * group + at))

  group_long : (group : ℕ) → group < 4 → length (take 64 (drop (64 * group) places)) ≡ 64
  group_long group low = omega (arith, length-take 64 (drop (64 * group) places), length-drop (64 * group) places, whole)

  -- a group has a mapped page exactly where it has a node
  group_any : (group : ℕ) → group < 4 → list_any is_place (take 64 (drop (64 * group) places)) ≡ is_some (get_or space group None)
  group_any group low = by (get_or space group None) refl
    where
      by : (key : Option ℕ) → get_or space group None ≡ key → list_any is_place (take 64 (drop (64 * group) places)) ≡ is_some (get_or space group None)
      by None none =
          none_at is_place Unmapped (take 64 (drop (64 * group) places)) (λ at within.
          let small : at < 64 = omega (arith, group_long group low) in
          let of_group : (64 * group + at) / 64 ≡ group = omega arith in
          group_place group at low small
          ∙ ap is_mapped (entry_none nodes space (64 * group + at) (ap (λ g. get_or space g None) of_group ∙ none)))
          ∙ sym (ap is_some none)
      by (Some key) named =
          let found = object_of nodes key (owns.used key (key_there space group key named)) in
          let mapped = mapped_there found.0.entries (owns.mapped key found.0 (key_there space group key named) found.1) in
          let small : mapped.0 < 64 = omega (arith, mapped.1, long key found.0 found.1) in
          let of_group : (64 * group + mapped.0) / 64 ≡ group = omega arith in
          let place : (64 * group + mapped.0) % 64 ≡ mapped.0 = omega arith in
          any_at is_place Unmapped (take 64 (drop (64 * group) places)) mapped.0 (omega (arith, group_long group low))
          (group_place group mapped.0 low small
          ∙ (ap is_mapped (entry_known nodes space (64 * group + mapped.0) key found.0 (ap (λ g. get_or space g None) of_group ∙ named) found.1
          ∙ ap (λ a. get_or found.0.entries a entry.Unmapped) place)
          ∙ mapped.2))
          ∙ sym (ap is_some named)

-- the keys that are there, by their places
keys_counted : (space : List (Option ℕ)) → count_by (λ group. is_some (get_or space group None)) (range_with_len 0 (length space)) ≡ length (keys_in space)
keys_counted [] = refl
keys_counted (key ∷ space) = by key (keys_counted space)
  where
    later : (k : Option ℕ) → count_by (λ group. is_some (get_or space group None)) (range_with_len 0 (length space)) ≡ length (keys_in space)
        → count_by (λ group. is_some (get_or (k ∷ space) group None)) (range_with_len 1 (length space)) ≡ length (keys_in space)
    later k rest =
        sum_shift (λ group. cond {A = ℕ} (is_some (get_or (k ∷ space) group None)) 1 0) 1 (length space) 0
        ∙ (sum_range_agree (λ group. cond {A = ℕ} (is_some (get_or (k ∷ space) (1 + group) None)) 1 0) (λ group. cond {A = ℕ} (is_some (get_or space group None)) 1 0) (length space) 0
        (λ g above below. let next : 1 + g ≡ suc g = omega arith in ap (λ (i : ℕ). cond {A = ℕ} (is_some (get_or (k ∷ space) i None)) 1 0) next)
        ∙ rest)

    by : (k : Option ℕ) → count_by (λ group. is_some (get_or space group None)) (range_with_len 0 (length space)) ≡ length (keys_in space)
        → count_by (λ group. is_some (get_or (k ∷ space) group None)) (range_with_len 0 (length (k ∷ space))) ≡ length (keys_in (k ∷ space))
    by None rest = omega (arith, sum_by-cons (λ group. cond {A = ℕ} (is_some (get_or (None ∷ space) group None)) 1 0) 0 (range_with_len 1 (length space)), later None rest)
    by (Some k) rest = omega (arith, sum_by-cons (λ group. cond {A = ℕ} (is_some (get_or (Some k ∷ space) group None)) 1 0) 0 (range_with_len 1 (length space)), later (Some k) rest)

-- a space has as many nodes as the account counts for it
pub nodes_by_places : (h : Heap) (space : List (Option ℕ)) (number : ℕ → ℕ) (places : Places) → IsWellFormed h → OwnsNodes h.nodes space → length space ≡ 4
    → HasPlaces number h.nodes space places → length places ≡ 256 → nodes_in places ≡ length (keys_in space)
nodes_by_places h space number places well owns four placed whole =
    sum_range_agree (λ group. cond {A = ℕ} (list_any is_place (take 64 (drop (64 * group) places))) 1 0) (λ group. cond {A = ℕ} (is_some (get_or space group None)) 1 0) 4 0
    (λ group above below. ap (λ b. cond {A = ℕ} b 1 0) (group_any h.nodes space number places owns well.entries placed whole group (omega arith)))
    ∙ (ap (λ n. count_by (λ group. is_some (get_or space group None)) (range_with_len 0 n)) (sym four) ∙ keys_counted space)

-- as many objects are in use as there are keys of them
module _ {X : Type 0} where
  each_once : (objects : List (Option X)) (keys : List ℕ) → ((key : ℕ) → Contains keys key → InUse objects key)
      → sum_by (λ key. cond {A = ℕ} (is_some (object objects key)) 1 0) keys ≡ length keys
  each_once objects [] used = refl
  each_once objects (key ∷ keys) used =
      omega (
        arith,
        sum_by-cons (λ k. cond {A = ℕ} (is_some (object objects k)) 1 0) key keys,
        cond-true {A = ℕ} (is_some (object objects key)) 1 0 (used key (0, omega arith, refl)),
        each_once objects keys (λ k there. used k (Contains-append_right (key ∷ []) keys k there)),
      )

  pub count_of_keys : (objects : List (Option X)) (keys : List ℕ) → AreKeysOf objects keys → count objects ≡ length keys
  count_of_keys objects keys are =
      sum_of_keys (λ (o : Option X). cond {A = ℕ} (is_some o) 1 0) refl keys objects are ∙ each_once objects keys are.used

-- and the heap has as many as all spaces
pub nodes_of_spaces : (h : Heap) (owners : Owners) → IsOwned h owners → count h.nodes ≡ length (node_keys owners.spaces)
nodes_of_spaces h owners owned = count_of_keys h.nodes (node_keys owners.spaces) owned.nodes
