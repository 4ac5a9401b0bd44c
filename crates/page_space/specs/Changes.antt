-- Which keys of the heap a change of one space may touch.
use Rattle.std.specs.Prelude.{◌≡◌, ◌⊎◌, ℕ, ◌<◌, List, Option, None}
use Rattle.std.specs.List.{Contains}
use Rattle.kheap_slabs.specs.Objects.{object, InUse}
use Rattle.kheap_slabs.specs.declared.objects.Node.{Node}
use Rattle.kheap_slabs.specs.declared.objects.PageEntry.TheVariants as entry
use Rattle.kheap_slabs.specs.Heap.{Heap}
use Rattle.kheap_slabs.specs.Keys.{ChangesKeys}
use Rattle.kheap_slabs.specs.Outside.{KeepsOutside}
use Rattle.kheap_slabs.specs.Spaces.{keys_in, bytes_at}
use Rattle.page_space.specs.Entries.{entry_at}

-- some entry of the space names the page
abbrev pub NamesPage : List (Option Node) → List (Option ℕ) → ℕ → Type 0
NamesPage nodes space key = (page : ℕ) × (page < 256) × (entry_at nodes space page ≡ entry.Frame key)

-- Nodes change at the keys that the space had or has. Of the pages that were there only those change that the space named,
-- and it names none that it hasn't named and that was there.
pub record OwnChanges (old new : Heap) (space now : List (Option ℕ)) : Type 0 where
  pub nodes : ChangesKeys old.nodes new.nodes (keys_in space) (keys_in now)
  pub stay : (key : ℕ) → InUse old.pages key → (NamesPage old.nodes space key → ⊥) → object new.pages key ≡ object old.pages key
  pub fresh : (key : ℕ) → NamesPage new.nodes now key → NamesPage old.nodes space key ⊎ (object old.pages key ≡ None)

-- a space goes: nodes change at its keys alone, and of the pages only those that it named
pub record OwnGoes (old new : Heap) (space : List (Option ℕ)) : Type 0 where
  pub nodes : KeepsOutside (keys_in space) old.nodes new.nodes
  pub pages : (key : ℕ) → InUse old.pages key → (NamesPage old.nodes space key → ⊥) → object new.pages key ≡ object old.pages key

-- A space joins that has the pages of another one: nodes change at its keys alone, which were free, and of the pages only
-- those whose count rises, which the other names; every page keeps its bytes.
pub record OwnForks (old new : Heap) (of now : List (Option ℕ)) : Type 0 where
  pub nodes : KeepsOutside (keys_in now) old.nodes new.nodes
  pub fresh : (key : ℕ) → Contains (keys_in now) key → object old.nodes key ≡ None
  pub pages : (key : ℕ) → (NamesPage old.nodes of key → ⊥) → object new.pages key ≡ object old.pages key
  pub bytes : (key : ℕ) → bytes_at new.pages key ≡ bytes_at old.pages key
