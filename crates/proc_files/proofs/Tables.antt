-- Which key of the heap has which name, as the table of sockets says it.
use Rattle.std.proofs.Common.{◌≡◌, ◌≢◌, ℕ, ◌≤◌, length, Option, None, Some, IsSome, unwrap_or, refl, sym, ap, ◌∙◌, arith}
use Rattle.kheap_slabs.specs.Objects.{InUse, object}
use Rattle.kheap_slabs.specs.declared.objects.Sock.{Sock}
use Rattle.kheap_slabs.proofs.ObjectLemmas.{InUse-within}
use Rattle.kheap_slabs.specs.Heap.{Heap}
use Rattle.posix_defs.specs.Socket.{Socket, new_socket}
use Rattle.posix_defs.specs.Sockets.{Sockets, sock_at, socket_at, with_name}
use Rattle.socket_laws.proofs.SocketTable.{sock_at-with, sock_at-with_other}
use Rattle.usock_core.specs.Standing.{IsTable, StandsFor}
use Rattle.usock_core.proofs.StandingLemmas.{found, free_from}
use Rattle.proc_files.specs.Names.{name_in, name_of}

-- what a table says of a place
abbrev pub node_of : Sockets → ℕ → Option ℕ
node_of sockets place = (socket_at sockets place).node

pub name_says : (h : Heap) (sockets : Sockets) → IsTable h sockets → (key : ℕ) → name_of h.socks key ≡ node_of sockets key
name_says h sockets table key = by_sock (object h.socks key) refl
  where
    by_sock : (o : Option Sock) → object h.socks key ≡ o → name_in o ≡ node_of sockets key
    by_sock None is = sym (ap (λ (o : Option Socket). (unwrap_or o new_socket).node) (free_from h sockets key table is))
    by_sock (Some sock) is = (found h sockets key sock table is).kept.shape.node

-- who has a name is there
pub named_used : (h : Heap) (key node : ℕ) → name_of h.socks key ≡ Some node → InUse h.socks key
named_used h key node is = by_sock (object h.socks key) is
  where
    by_sock : (o : Option Sock) → name_in o ≡ Some node → IsSome o
    by_sock None is = cc
    by_sock (Some sock) is = refl

-- the same of a table
pub node_there : (sockets : Sockets) (place node : ℕ) → node_of sockets place ≡ Some node → IsSome (sock_at sockets place)
node_there sockets place node is = by_socket (sock_at sockets place) is
  where
    by_socket : (o : Option Socket) → (unwrap_or o new_socket).node ≡ Some node → IsSome o
    by_socket None is = cc
    by_socket (Some socket) is = refl

-- once a socket has another name, its key has it, and every other key the one that it had
module _ (old new : Heap) (key : ℕ) (node : Option ℕ) (sockets : Sockets) (stood : StandsFor old sockets) (used : InUse old.socks key) (stands : StandsFor new (with_name sockets key node)) where
  within : key ≤ length sockets
  within = let below = InUse-within old.socks key used in let long = stood.table.places in omega (arith, below, long)

  pub named_now : name_of new.socks key ≡ node
  named_now =
      name_says new (with_name sockets key node) stands.table key
      ∙ ap (λ (o : Option Socket). (unwrap_or o new_socket).node) (sock_at-with sockets key (Some (record (socket_at sockets key) { node = node })) within)

  pub named_others : (other : ℕ) → other ≢ key → name_of new.socks other ≡ name_of old.socks other
  named_others other apart =
      name_says new (with_name sockets key node) stands.table other
      ∙ ap (λ (o : Option Socket). (unwrap_or o new_socket).node) (sock_at-with_other sockets key other (Some (record (socket_at sockets key) { node = node })) within apart)
      ∙ sym (name_says old sockets stood.table other)
