-- The nodes of an address space, and the page entries that name a page.
use Rattle.std.specs.Prelude.{◌≡◌, ◌≢◌, ℕ, ◌+◌, ◌<◌, Bool, true, false, List, [], ◌∷◌, Option, None, Some, length, count_by, slice_index_or, slice_set, sum_by, eqb, if◌then◌else◌}
use Rattle.std.specs.List.{Contains}
use Rattle.std.specs.Option.{option_map}
use Rattle.kheap_slabs.specs.Objects.{object, InUse, put}
use Rattle.kheap_slabs.specs.declared.objects.Node.{Node}
use Rattle.kheap_slabs.specs.declared.objects.Page.{Page}
use Rattle.kheap_slabs.specs.declared.objects.PageEntry.{PageEntry}
use Rattle.kheap_slabs.specs.declared.objects.PageEntry.TheVariants as entry
use Rattle.kheap_slabs.specs.Keys.{IsOnce}

-- whether a page is mapped
abbrev pub is_mapped : PageEntry → Bool
is_mapped entry.Unmapped = false
is_mapped entry.Zero = true
is_mapped (entry.Frame key) = true

-- how many of a node's pages are mapped
abbrev pub mapped_count : Node → ℕ
mapped_count node = count_by is_mapped node.entries

-- the keys that are there, in order
abbrev pub keys_in : List (Option ℕ) → List ℕ
keys_in [] = []
keys_in (None ∷ rest) = keys_in rest
keys_in (Some key ∷ rest) = key ∷ keys_in rest

-- the nodes that an address space names are in use, each has a mapped page, and it names none twice
pub record OwnsNodes (nodes : List (Option Node)) (space : List (Option ℕ)) : Type 0 where
  pub used : (key : ℕ) → Contains (keys_in space) key → InUse nodes key
  pub mapped : (key : ℕ) (node : Node) → Contains (keys_in space) key → object nodes key ≡ Some node → 0 < mapped_count node
  pub once : IsOnce (keys_in space)

-- the entry names no page
abbrev pub NamesNone : PageEntry → Type 0
NamesNone entry.Unmapped = Unit {0}
NamesNone entry.Zero = Unit {0}
NamesNone (entry.Frame key) = ⊥

-- 1 where the entry names the page, else 0
abbrev pub names_page : ℕ → PageEntry → ℕ
names_page page (entry.Frame key) = if eqb key page then 1 else 0
names_page page entry.Unmapped = 0
names_page page entry.Zero = 0

-- how many entries of a node name the page
abbrev pub names_in : ℕ → Option Node → ℕ
names_in page None = 0
names_in page (Some node) = sum_by (names_page page) node.entries

-- how many entries of all nodes name the page
abbrev pub names_of : List (Option Node) → ℕ → ℕ
names_of nodes page = sum_by (names_in page) nodes

-- the count of a page, 0 where there is none
abbrev pub page_count : Option Page → ℕ
page_count None = 0
page_count (Some page) = page.count

-- the count that is kept of the page of a key
abbrev pub count_at : List (Option Page) → ℕ → ℕ
count_at pages key = page_count (object pages key)

-- the count of each page is how many entries name it, a page that no entry names isn't there, and no entry names
-- a page that isn't there
pub record IsCounted (nodes : List (Option Node)) (pages : List (Option Page)) : Type 0 where
  pub counts : (page : ℕ) → count_at pages page ≡ names_of nodes page
  pub named : (page : ℕ) → InUse pages page → 0 < count_at pages page

-- one entry of one node becomes another
pub record EntryChanges (old new : List (Option Node)) (was now : PageEntry) : Type 0 where
  pub key : ℕ
  pub at : ℕ
  pub node : Node
  pub changed : Node
  pub is : object old key ≡ Some node
  pub within : at < length node.entries
  pub was_there : slice_index_or node.entries at was ≡ was
  pub written : changed.entries ≡ slice_set node.entries at now
  pub stored : new ≡ put old key changed

-- a page is named once more; all others are as before
pub record CountRises (old new : List (Option Page)) (page : ℕ) : Type 0 where
  pub more : count_at new page ≡ count_at old page + 1
  pub others : (other : ℕ) → other ≢ page → object new other ≡ object old other

-- a page is named once less, and the last entry takes it along; all others are as before
pub record CountFalls (old new : List (Option Page)) (page : ℕ) : Type 0 where
  pub less : count_at new page + 1 ≡ count_at old page
  pub left : InUse new page → 0 < count_at new page
  pub others : (other : ℕ) → other ≢ page → object new other ≡ object old other

-- the bytes of the page of a key
abbrev pub bytes_at : List (Option Page) → ℕ → Option (List ℕ)
bytes_at pages key = option_map (λ page. page.bytes) (object pages key)

-- every page but these is there if it was, with the bytes that it had; its count may be another
abbrev pub KeepsBytes : List ℕ → List (Option Page) → List (Option Page) → Type 0
KeepsBytes keys old new = (key : ℕ) → (Contains keys key → ⊥) → bytes_at new key ≡ bytes_at old key
