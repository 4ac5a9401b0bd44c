-- What `poll` tells of the descriptors of a process.
use Rattle.std.specs.Prelude.{◌≡◌, ℕ, ℤ, Option, None, Some, if◌then◌else◌}
use Rattle.kheap_slabs.specs.Objects.{object}
use Rattle.kheap_slabs.specs.declared.objects.Desc.{Desc}
use Rattle.kheap_slabs.specs.declared.objects.Target.{Target as HeldTarget}
use Rattle.kheap_slabs.specs.declared.objects.Target.TheVariants as target
use Rattle.kheap_slabs.specs.Heap.{Heap}
use Rattle.posix_defs.specs.Calls.Polling.{polled_node}
use Rattle.posix_defs.specs.Files.Descriptions.{Access, may_write}
use Rattle.posix_defs.specs.Files.Descriptors.{Descriptor}
use Rattle.posix_defs.specs.Pipe.{Pipe, polled_to_read, polled_to_write}
use Rattle.posix_defs.specs.Sockets.{Sockets, sock_polled}
use Rattle.pipe_ends.specs.Standing.{StandsFor as PipeStandsFor, IsPipeAt}
use Rattle.usock_core.specs.Standing.{StandsFor as SocketsStandFor, IsSocketIn}
use Rattle.open_laws.specs.Described.{access_in}

-- a pipe and a socket that a description is open on are there
abbrev pub IsTargetIn : Heap → HeldTarget → Type 0
IsTargetIn h (target.Inode number) = Unit {0}
IsTargetIn h (target.Pipe key) = IsPipeAt h key
IsTargetIn h (target.Sock key) = IsSocketIn h key

-- a descriptor that is open names a Desc whose target is there
abbrev pub IsOpenIn : Heap → Option Descriptor → Type 0
IsOpenIn h None = Unit {0}
IsOpenIn h (Some descriptor) = (desc : Desc) × (object h.descs descriptor.description ≡ Some desc) × IsTargetIn h desc.target

-- this is what poll tells of a description that is open on such a target
abbrev pub TellsTarget : Heap → Access → ℤ → ℕ → HeldTarget → Type 0
TellsTarget h access events told (target.Inode number) = told ≡ polled_node events
TellsTarget h access events told (target.Pipe key) =
    (pipe : Pipe) (at : ℕ) → PipeStandsFor h key pipe at → told ≡ (if may_write access then polled_to_write pipe events else polled_to_read pipe events)
TellsTarget h access events told (target.Sock key) = (sockets : Sockets) → SocketsStandFor h sockets → told ≡ sock_polled sockets key events

-- POLLNVAL of a descriptor that isn't open
abbrev pub TellsOpen : Heap → ℤ → ℕ → Option Descriptor → Type 0
TellsOpen h events told None = told ≡ 32
TellsOpen h events told (Some descriptor) =
    (desc : Desc) → object h.descs descriptor.description ≡ Some desc → TellsTarget h (access_in desc.access) events told desc.target
