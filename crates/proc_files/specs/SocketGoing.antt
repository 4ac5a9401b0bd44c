-- The socket that goes with a descriptor, and the machine once it has no name.
use Rattle.std.specs.Prelude.{ℕ, ◌==◌, if◌then◌else◌, Option, None, Some}
use Rattle.kheap_slabs.specs.declared.objects.Desc.{Desc}
use Rattle.open_laws.specs.Owned.{sock_of}
use Rattle.open_laws.specs.Placed.{Numbers}
use Rattle.posix_defs.specs.Files.State.{Files, with_sockets}
use Rattle.posix_defs.specs.Sockets.{with_name}

-- the socket that goes with one descriptor less of a Desc, if one does
abbrev pub socket_going : Desc → Option ℕ
socket_going desc = if desc.count == 1 then sock_of desc.target else None

-- the files once the socket of a key, if there is one, has no name
abbrev pub unnamed : Numbers → Files → Option ℕ → Files
unnamed numbers files None = files
unnamed numbers files (Some key) = with_sockets files (with_name files.sockets (numbers.socks key) None)
