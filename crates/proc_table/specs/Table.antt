-- The table: where in the heap the Proc of each process stands.
use Rattle.std.specs.Prelude.{ℕ, ◌≡◌, ◌==◌, ℤ, pos, negsuc, ◌<◌, ◌≤◌, if◌then◌else◌, Bool, List, [], ◌∷◌, ◌++◌, filter, map, Option, None, Some, is_some, IsSomeAnd, slice_set}
use Rattle.std.specs.List.{AllByRecursion, filter_map}
use Rattle.std.specs.Option.{option_and_then}
use Rattle.kheap_slabs.specs.Objects.{object}
use Rattle.kheap_slabs.specs.declared.objects.Proc.{Proc}
use Rattle.kheap_slabs.specs.Heap.{Heap}
use Rattle.kheap_slabs.specs.Owners.{Owners, IsOwned}
use Rattle.proc_table.specs.Procs.{IsLight}
use Rattle.proc_table.specs.declared.places.Place.{Place}

-- the places of the processes that are there, and the last pid that was given
pub record TableView : Type 0 where
  pub listed : List Place
  pub last : ℕ

-- nobody, before the first process is made
abbrev pub no_table : TableView
no_table = record { listed = []; last = 0 }

-- the key of the process of that pid
abbrev pub key_of : List Place → ℕ → Option ℕ
key_of [] pid = None
key_of (place ∷ places) pid = if place.pid == pid then Some place.key else key_of places pid

-- the same by a number as a call has it, which may be no pid
abbrev pub key_of_target : List Place → ℤ → Option ℕ
key_of_target places (pos pid) = key_of places pid
key_of_target places (negsuc _) = None

-- the process of that pid stands at this place
abbrev pub IsPlaced : TableView → Place → Type 0
IsPlaced kept place = key_of kept.listed place.pid ≡ Some place.key

-- the keys of all
abbrev pub keys_of : List Place → List ℕ
keys_of listed = map (λ place. place.key) listed

-- the processes that stand at these places
abbrev pub procs_at : List (Option Proc) → List Place → List Proc
procs_at objects listed = filter_map (λ place. object objects place.key) listed

-- the processes of a table, by rising pid
abbrev pub processes : Heap → TableView → List Proc
processes h kept = procs_at h.procs kept.listed

-- each place has its process
abbrev pub AreStored : List (Option Proc) → List Place → Type 0
AreStored objects [] = Unit {0}
AreStored objects (place ∷ places) = IsSomeAnd (object objects place.key) (λ proc. proc.pid ≡ place.pid) × AreStored objects places

-- the places stand by rising pid, behind one pid and up to another
abbrev pub AreBetween : ℕ → List Place → ℕ → Type 0
AreBetween before [] last = before ≤ last
AreBetween before (place ∷ places) last = (before < place.pid) × AreBetween place.pid places last

-- the objects after each of these processes, in turn, became what it becomes
abbrev pub objects_after : (Proc → Option Proc) → List (Option Proc) → List Place → List (Option Proc)
objects_after becomes objects [] = objects
objects_after becomes objects (place ∷ places) =
    objects_after becomes (slice_set objects place.key (option_and_then becomes (object objects place.key))) places

-- the process of a place stays when each becomes what it becomes
abbrev pub is_kept : (Proc → Option Proc) → List (Option Proc) → Place → Bool
is_kept becomes objects place = is_some (option_and_then becomes (object objects place.key))

-- the places of those that stay
abbrev pub places_kept : (Proc → Option Proc) → List (Option Proc) → List Place → List Place
places_kept becomes objects places = filter (is_kept becomes objects) places

-- the owners that these processes and others are
abbrev pub with_procs : List Proc → Owners → Owners
with_procs procs others = record others { spaces = map (λ proc. proc.nodes) procs ++ others.spaces }

-- The table's processes stand in the heap, each at its key; their spaces are among those that own the heap's nodes.
pub record Holds (h : Heap) (kept : TableView) : Type 0 where
  pub stored : AreStored h.procs kept.listed
  pub rising : AreBetween 0 kept.listed kept.last
  pub light : AllByRecursion IsLight (processes h kept)
  pub owned : (others : Owners) × IsOwned h (with_procs (processes h kept) others)
