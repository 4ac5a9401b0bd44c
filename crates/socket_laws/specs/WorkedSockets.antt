-- Sockets for worked examples.
use Rattle.std.specs.Prelude.{ℕ, zero, suc, ◌+◌, ◌*◌, pos, false, [], None, Some, codes}
use Rattle.posix_defs.specs.Socket.{Socket, Connected}
use Rattle.posix_defs.specs.Sockets.{Sockets, with_name, with_new, with_pair, after_listen, after_connect, after_accept, after_read, after_write, after_shut, after_close}

-- two that are connected, and the first of them shut for writing
abbrev pub two_connected : Sockets
two_connected = with_pair [] 0 1

abbrev pub one_shut : Sockets
one_shut = after_shut two_connected 0 (pos 1)

-- one that is bound to node 2 and listens, a client, and the peer that waits
abbrev pub one_listens : Sockets
one_listens = after_listen (with_name (with_new [] 0) 0 (Some 2)) 0

abbrev pub one_waits : Sockets
one_waits = after_connect (with_new one_listens 1) 1 0 2

-- the peer is accepted, the client writes `hi` and closes, and the peer reads it
abbrev pub one_accepted : Sockets
one_accepted = after_accept one_waits 0

abbrev pub hi_written : Sockets
hi_written = after_write one_accepted 1 (codes "hi") 2

abbrev pub client_closed : Sockets
client_closed = after_close hi_written 1

abbrev pub hi_read : Sockets
hi_read = after_read client_closed 2 2

-- so many clients that wait
abbrev pub with_clients : ℕ → Sockets
with_clients zero = one_listens
with_clients (suc n) = after_connect (with_new (with_clients n) (2 * n + 1)) (2 * n + 1) 0 (2 * n + 2)

-- a client that is connected to nobody any more
abbrev pub left_client : Socket
left_client = record { stage = Connected None false false; bytes = []; node = None }
