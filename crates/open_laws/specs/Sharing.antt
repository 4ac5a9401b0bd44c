-- All descriptors of a process are shared, as a fork does.
use Rattle.std.specs.Prelude.{◌≡◌, ◌+◌, ◌<◌, ℕ, List, [], ◌∷◌, Option, None, Some, count_by, slice_set}
use Rattle.std.specs.Option.{option_map}
use Rattle.kheap_slabs.specs.Objects.{object, InUse}
use Rattle.kheap_slabs.specs.declared.objects.Desc.{Desc}
use Rattle.kheap_slabs.specs.declared.objects.Descriptor.{Descriptor}
use Rattle.open_laws.specs.Described.{CountedList, counting, after_share}
use Rattle.open_laws.specs.Owned.{names_desc, desc_count_at}

-- one descriptor more names the Desc of a key
abbrev pub share_one : List (Option Desc) → ℕ → List (Option Desc)
share_one descs key = slice_set descs key (option_map (λ desc. counting desc (desc.count + 1)) (object descs key))

-- each of these descriptors is there once more
abbrev pub share_all : List (Option Desc) → List (Option Descriptor) → List (Option Desc)
share_all descs [] = descs
share_all descs (None ∷ places) = share_all descs places
share_all descs (Some descriptor ∷ places) = share_all (share_one descs descriptor.desc) places

-- the descriptions, by place, after that
abbrev pub after_shares : (ℕ → ℕ) → CountedList → List (Option Descriptor) → CountedList
after_shares number list [] = list
after_shares number list (None ∷ places) = after_shares number list places
after_shares number list (Some descriptor ∷ places) = after_shares number (after_share list (number descriptor.desc)) places

-- the keys in hand after that
abbrev pub hand_with : List (Option Descriptor) → List ℕ → List ℕ
hand_with [] hand = hand
hand_with (None ∷ places) hand = hand_with places hand
hand_with (Some descriptor ∷ places) hand = hand_with places (descriptor.desc ∷ hand)

-- Each Desc that these descriptors name is there, and its count has room for as many more as name it.
pub record CanShare (descs : List (Option Desc)) (places : List (Option Descriptor)) : Type 0 where
  pub there : (key : ℕ) → 0 < count_by (names_desc key) places → InUse descs key
  pub small : (key : ℕ) → 0 < count_by (names_desc key) places → desc_count_at descs key + count_by (names_desc key) places < 4294967296
