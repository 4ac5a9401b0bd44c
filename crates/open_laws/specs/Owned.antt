-- Who owns what is open in the heap: Descs are named by descriptors, the ends of a pipe by Descs, and a socket by a Desc or by
-- the backlog that it waits in.
use Rattle.std.specs.Prelude.{◌≡◌, ◌≢◌, ◌+◌, ◌<◌, ◌==◌, ◌&&◌, ℕ, Bool, false, List, [], ◌∷◌, Option, None, Some, count_by, sum_by}
use Rattle.kheap_slabs.specs.Objects.{object, InUse}
use Rattle.kheap_slabs.specs.declared.objects.Access.{Access}
use Rattle.kheap_slabs.specs.declared.objects.Access.TheVariants.{Both}
use Rattle.kheap_slabs.specs.declared.objects.Desc.{Desc}
use Rattle.kheap_slabs.specs.declared.objects.Descriptor.{Descriptor}
use Rattle.kheap_slabs.specs.declared.objects.Leaf.{Leaf}
use Rattle.kheap_slabs.specs.declared.objects.Pipe.{Pipe}
use Rattle.kheap_slabs.specs.declared.objects.Proc.{Proc}
use Rattle.kheap_slabs.specs.declared.objects.Target.{Target}
use Rattle.kheap_slabs.specs.declared.objects.Target.TheVariants as target
use Rattle.kheap_slabs.specs.Heap.{Heap}
use Rattle.kheap_slabs.specs.Owners.{OwnsItsObjects}
use Rattle.posix_defs.specs.Files.Descriptions.{may_read, may_write}
use Rattle.posix_defs.specs.Files.State.{beside}
use Rattle.pipe_ends.specs.Standing.{IsPipeAt}
use Rattle.usock_core.specs.Standing.{IsHeldIn}
use Rattle.open_laws.specs.Described.{access_in}

-- ---- Descs, by the descriptors that name them

abbrev pub names_desc : ℕ → Option Descriptor → Bool
names_desc key None = false
names_desc key (Some descriptor) = descriptor.desc == key

-- how many descriptors of a Proc name the Desc of a key
abbrev pub namings_in : ℕ → Option Proc → ℕ
namings_in key None = 0
namings_in key (Some proc) = count_by (names_desc key) proc.descriptors

-- how many of all Procs name it
abbrev pub namings_of : List (Option Proc) → ℕ → ℕ
namings_of procs key = sum_by (namings_in key) procs

-- how many descriptors of a Leaf name it
abbrev pub leaf_namings_in : ℕ → Option Leaf → ℕ
leaf_namings_in key None = 0
leaf_namings_in key (Some leaf) = count_by (names_desc key) leaf.descriptors

-- how many of all Leaves name it
abbrev pub leaf_namings_of : List (Option Leaf) → ℕ → ℕ
leaf_namings_of leaves key = sum_by (leaf_namings_in key) leaves

-- how many descriptors of all processes name it, wherever they stand
abbrev pub all_namings : Heap → ℕ → ℕ
all_namings h key = namings_of h.procs key + leaf_namings_of h.leaves key

abbrev pub desc_count : Option Desc → ℕ
desc_count None = 0
desc_count (Some desc) = desc.count

-- the count that is kept of the Desc of a key
abbrev pub desc_count_at : List (Option Desc) → ℕ → ℕ
desc_count_at descs key = desc_count (object descs key)

-- Each Desc counts the descriptors that name it: those of the processes, and those in hand, which no process has yet or none
-- has any more. A Desc that none names isn't there, and none names a Desc that isn't there.
pub record CountsItsNames (h : Heap) (hand : List ℕ) : Type 0 where
  pub counts : (key : ℕ) → desc_count_at h.descs key ≡ all_namings h key + count_by (λ other. other == key) hand
  pub named : (key : ℕ) → InUse h.descs key → 0 < desc_count_at h.descs key

-- ---- pipes, by the Descs on their ends

abbrev pub is_on_pipe : ℕ → Target → Bool
is_on_pipe key (target.Inode number) = false
is_on_pipe key (target.Pipe other) = other == key
is_on_pipe key (target.Sock other) = false

-- the Desc is open on the read end of a pipe
abbrev pub has_read_end : ℕ → Option Desc → Bool
has_read_end key None = false
has_read_end key (Some desc) = is_on_pipe key desc.target && may_read (access_in desc.access)

-- the Desc is open on the write end of a pipe
abbrev pub has_write_end : ℕ → Option Desc → Bool
has_write_end key None = false
has_write_end key (Some desc) = is_on_pipe key desc.target && may_write (access_in desc.access)

-- a pipe has as many readers and writers as Descs are open on its ends, and some of them
pub record HasItsEnds (descs : List (Option Desc)) (key : ℕ) (pipe : Pipe) : Type 0 where
  pub readers : pipe.readers ≡ count_by (has_read_end key) descs
  pub writers : pipe.writers ≡ count_by (has_write_end key) descs
  pub some_end : 0 < pipe.readers + pipe.writers

-- ---- sockets, by the Descs on them

abbrev pub sock_of : Target → Option ℕ
sock_of (target.Inode number) = None
sock_of (target.Pipe key) = None
sock_of (target.Sock key) = Some key

abbrev pub sock_in : Option Desc → Option ℕ
sock_in None = None
sock_in (Some desc) = sock_of desc.target

-- the keys of the sockets that Descs are open on
abbrev pub socks_named : List (Option Desc) → List ℕ
socks_named [] = []
socks_named (desc ∷ descs) = beside (sock_in desc) (socks_named descs)

-- ---- all of it

-- what a Desc is open on is there: a pipe, of which it has one end, or a socket
abbrev pub IsThereFor : Heap → Access → Target → Type 0
IsThereFor h access (target.Inode number) = Unit {0}
IsThereFor h access (target.Pipe key) = InUse h.pipes key × (access ≢ Both)
IsThereFor h access (target.Sock key) = InUse h.socks key

-- What Descs are open on is there; a pipe has the ends that Descs are open on, and a socket is one Desc's or waits for a listener.
pub record IsHeldOpen (h : Heap) : Type 0 where
  pub targets : (key : ℕ) (desc : Desc) → object h.descs key ≡ Some desc → IsThereFor h desc.access desc.target
  pub pipes : (key : ℕ) (pipe : Pipe) → object h.pipes key ≡ Some pipe → HasItsEnds h.descs key pipe
  pub stand : (key : ℕ) → InUse h.pipes key → IsPipeAt h key
  pub socks : IsHeldIn h (socks_named h.descs)
  pub once : (one other sock : ℕ) → sock_in (object h.descs one) ≡ Some sock → sock_in (object h.descs other) ≡ Some sock → one ≡ other

-- All objects of the heap but the processes and what caches keep have their owners: nodes, pages and chunks; Descs the descriptors
-- that name them, also those in hand; pipes and sockets the Descs that are open on them.
pub record HasItsOwners (h : Heap) (hand : List ℕ) : Type 0 where
  pub objects : OwnsItsObjects h
  pub named : CountsItsNames h hand
  pub held : IsHeldOpen h
