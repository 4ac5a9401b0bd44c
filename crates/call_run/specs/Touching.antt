-- What numbers are open on, in the heap and in the machine.
use Rattle.std.specs.Prelude.{ℕ, ◌≡◌, ◌==◌, Bool, true, false, List, Option, Some}
use Rattle.std.specs.List.{AllByRecursion}
use Rattle.kabi_types.specs.declared.short_lists.PollEntry.{PollEntry}
use Rattle.kheap_slabs.specs.Heap.{Heap}
use Rattle.kheap_slabs.specs.Objects.{object}
use Rattle.kheap_slabs.specs.declared.objects.Desc.{Desc}
use Rattle.kheap_slabs.specs.declared.objects.Target.{Target as Held}
use Rattle.kheap_slabs.specs.declared.objects.Target.TheVariants as held
use Rattle.posix_defs.specs.Files.Descriptions.{Target}
use Rattle.posix_defs.specs.Files.State.{Files}
use Rattle.waking_laws.specs.Waking.{meet, target_at}

-- by keys: both are the same pipe, or they are sockets
abbrev pub meet_in : Held → Held → Bool
meet_in (held.Pipe key) (held.Pipe other) = key == other
meet_in (held.Sock key) (held.Sock other) = true
meet_in one other = false

-- a Desc of the heap is open on it
abbrev pub IsOpenOn : Heap → Held → Type 0
IsOpenOn h what = (key : ℕ) × (desc : Desc) × (object h.descs key ≡ Some desc) × (desc.target ≡ what)

-- none of these entries is of a number that is open on what to move bytes of this may change
abbrev pub MeetsNone : Files → ℕ → Option Target → List PollEntry → Type 0
MeetsNone files who target entries = AllByRecursion (λ entry. meet target (target_at files who entry.fd) ≡ false) entries
