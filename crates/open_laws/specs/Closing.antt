-- What is closed with a description that goes: an end of a pipe, or a socket with those that wait for it.
use Rattle.std.specs.Prelude.{◌≡◌, ◌<◌, ℕ, Bool, List, ◌∷◌, None, Some}
use Rattle.std.specs.List.{Contains}
use Rattle.kheap_slabs.specs.Objects.{object}
use Rattle.kheap_slabs.specs.declared.objects.Access.{Access as HeldAccess}
use Rattle.kheap_slabs.specs.declared.objects.Desc.{Desc}
use Rattle.kheap_slabs.specs.declared.objects.Target.{Target as HeldTarget}
use Rattle.kheap_slabs.specs.declared.objects.Target.TheVariants as target
use Rattle.kheap_slabs.specs.Heap.{Heap}
use Rattle.posix_defs.specs.Pipe.{Pipe, after_close as pipe_after_close}
use Rattle.posix_defs.specs.Sockets.{Sockets, after_close as sockets_after_close}
use Rattle.posix_defs.specs.Files.Descriptions.{may_write}
use Rattle.pipe_ends.specs.Links.{AreRelinked, ClosesLink, KeepsLinks}
use Rattle.pipe_ends.specs.Standing.{StandsFor as PipeStandsFor, HasEndAt, place_with, LeavesOthers as LeavesOtherPipes}
use Rattle.usock_core.specs.Standing.{StandsFor as SocketsStandFor, IsClosableIn, IsHeldIn, QueuesStay, LeavesOthers as LeavesOtherThanSockets}
use Rattle.open_laws.specs.Described.{access_in, descs_left}

-- the target of a description can be closed: the side of a pipe that it opens has an end, and a socket waits in no backlog
abbrev pub IsClosable : Heap → HeldAccess → HeldTarget → Type 0
IsClosable h access (target.Inode number) = Unit {0}
IsClosable h access (target.Pipe key) = HasEndAt h key (may_write (access_in access))
IsClosable h access (target.Sock key) = IsClosableIn h key

-- the key is that of a Desc that some descriptor names, and what it is open on can be closed
pub record IsDroppable (h : Heap) (key : ℕ) : Type 0 where
  pub desc : Desc
  pub there : object h.descs key ≡ Some desc
  pub named : 0 < desc.count
  pub closable : IsClosable h desc.access desc.target

-- An end of a pipe is closed, and with the last one the pipe. Of the other objects only Descs and chunks are others, and
-- every other pipe and every socket has the bytes that it had.
pub record EndCloses (old new : Heap) (key : ℕ) (writing : Bool) : Type 0 where
  pub gone : (pipe : Pipe) (at : ℕ) → PipeStandsFor old key pipe at → pipe_after_close pipe writing ≡ None → object new.pipes key ≡ None
  pub stands : (pipe : Pipe) (at : ℕ) (left : Pipe) → PipeStandsFor old key pipe at → pipe_after_close pipe writing ≡ Some left
      → PipeStandsFor new key left (place_with left.bytes at)
  pub others : LeavesOtherPipes (record old { descs = new.descs }) new key

-- A socket is closed, and those that wait for it. Of the other objects only Descs and chunks are others, and every pipe and
-- every other socket has the bytes that it had.
pub record SocketCloses (old new : Heap) (key : ℕ) : Type 0 where
  pub stands : (sockets : Sockets) → SocketsStandFor old sockets → SocketsStandFor new (sockets_after_close sockets key)
  pub held : (named : List ℕ) → IsHeldIn old (key ∷ named) → (Contains named key → ⊥) → IsHeldIn new named
  pub others : LeavesOtherThanSockets (record old { descs = new.descs }) new
  pub queues : QueuesStay old new

-- what a description was open on is closed; a node is closed by who keeps nodes
abbrev pub TargetCloses : Heap → Heap → HeldAccess → HeldTarget → Type 0
TargetCloses old new access (target.Inode number) = new ≡ record old { descs = new.descs }
TargetCloses old new access (target.Pipe key) = EndCloses old new key (may_write (access_in access))
TargetCloses old new access (target.Sock key) = SocketCloses old new key

-- of the heap's objects only pipes, sockets and chunks are others
abbrev pub QueuesChange : Heap → Heap → Type 0
QueuesChange old new = new ≡ record old { pipes = new.pipes; chunks = new.chunks; socks = new.socks }

-- A descriptor fewer names a Desc. Where another one names it still, its count falls and nothing else is other than before; with
-- the last one it goes, and what it was open on is closed.
pub record Drops (old new : Heap) (key : ℕ) (desc : Desc) : Type 0 where
  pub descs : new.descs ≡ descs_left old.descs key desc
  pub stays : 1 < desc.count → new ≡ record old { descs = new.descs }
  pub closes : desc.count ≡ 1 → TargetCloses old new desc.access desc.target

-- the same, once at most one FIFO's pipe stands before another one
pub record DropsRelinked (old new : Heap) (key : ℕ) (desc : Desc) : Type 0 where
  pub mid : Heap
  pub relinked : AreRelinked old mid
  pub drops : Drops mid new key desc

-- of the pipes of FIFOs that one alone is other than before whose end is closed
abbrev pub ClosesLinks : Heap → Heap → HeldAccess → HeldTarget → Type 0
ClosesLinks old new access (target.Inode number) = KeepsLinks old new
ClosesLinks old new access (target.Pipe key) = ClosesLink old new key (may_write (access_in access))
ClosesLinks old new access (target.Sock key) = KeepsLinks old new

-- the pipes of FIFOs, once a descriptor fewer names a Desc
pub record DropsLinks (old new : Heap) (desc : Desc) : Type 0 where
  pub stays : 1 < desc.count → KeepsLinks old new
  pub closes : desc.count ≡ 1 → ClosesLinks old new desc.access desc.target
