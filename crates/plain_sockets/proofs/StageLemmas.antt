-- What a read, a write and a poll come to, by what a stage is asked.
use Rattle.std.proofs.Common.{◌≡◌, ℕ, ℤ, Bool, true, false, List, length, None, refl, ap}
use Rattle.std.specs.Prelude.{◌&&◌, ◌||◌, nat_lt, unwrap_or, if◌then◌else◌}
use Rattle.kabi_types.specs.declared.errnos.Errno.TheVariants as errno
use Rattle.posix_defs.specs.Calls.Writing.{is_unread_in}
use Rattle.posix_defs.specs.Files.SocketNames.{listens}
use Rattle.posix_defs.specs.Pipe.{Fails, is_asked}
use Rattle.posix_defs.specs.Socket.{Stage, Idle, Listening, Connected, is_connected, is_shut_read, is_shut_write, new_socket, peer_of, waiting_of}
use Rattle.posix_defs.specs.Sockets.{Sockets, polled_connected, polled_in_stage, read_connected, read_in_stage, reads_no_more, sock_at, socket_at, write_in_stage, write_to}

-- a place without a socket
pub none_there : (sockets : Sockets) (place : ℕ) → sock_at sockets place ≡ None → socket_at sockets place ≡ new_socket
none_there sockets place none = ap (λ o. unwrap_or o new_socket) none

module _ (sockets : Sockets) where
  pub read_apart : (stage : Stage) (bytes : List ℕ) (nonblock : Bool) (n : ℕ) → is_connected stage ≡ false
      → read_in_stage sockets stage bytes nonblock n ≡ Fails errno.ENOTCONN
  read_apart Idle bytes nonblock n is = refl
  read_apart (Listening waiting) bytes nonblock n is = refl
  read_apart (Connected peer shut_read shut_write) bytes nonblock n is = absurd (cc)

  pub read_joined : (stage : Stage) (bytes : List ℕ) (nonblock : Bool) (n : ℕ) → is_connected stage ≡ true
      → read_in_stage sockets stage bytes nonblock n ≡ read_connected sockets bytes (peer_of stage) (is_shut_read stage) nonblock n
  read_joined Idle bytes nonblock n is = absurd (cc)
  read_joined (Listening waiting) bytes nonblock n is = absurd (cc)
  read_joined (Connected peer shut_read shut_write) bytes nonblock n is = refl

  pub write_apart : (stage : Stage) (nonblock : Bool) (m : ℕ) → is_connected stage ≡ false → write_in_stage sockets stage nonblock m ≡ Fails errno.ENOTCONN
  write_apart Idle nonblock m is = refl
  write_apart (Listening waiting) nonblock m is = refl
  write_apart (Connected peer shut_read shut_write) nonblock m is = absurd (cc)

  pub write_joined : (stage : Stage) (nonblock : Bool) (m : ℕ) → is_connected stage ≡ true
      → write_in_stage sockets stage nonblock m ≡ (if is_shut_write stage then Fails errno.EPIPE else write_to sockets (peer_of stage) nonblock m)
  write_joined Idle nonblock m is = absurd (cc)
  write_joined (Listening waiting) nonblock m is = absurd (cc)
  write_joined (Connected peer shut_read shut_write) nonblock m is = refl

  pub unread_is : (stage : Stage) → is_unread_in sockets stage ≡ (is_connected stage && (is_shut_write stage || reads_no_more sockets (peer_of stage)))
  unread_is Idle = refl
  unread_is (Listening waiting) = refl
  unread_is (Connected peer shut_read shut_write) = refl

  pub polled_joined : (stage : Stage) (bytes : List ℕ) (events : ℤ) → is_connected stage ≡ true
      → polled_in_stage sockets stage bytes events ≡ polled_connected sockets bytes (peer_of stage) events
  polled_joined Idle bytes events is = absurd (cc)
  polled_joined (Listening waiting) bytes events is = absurd (cc)
  polled_joined (Connected peer shut_read shut_write) bytes events is = refl

  pub polled_listening : (stage : Stage) (bytes : List ℕ) (events : ℤ) → listens stage ≡ true
      → polled_in_stage sockets stage bytes events ≡ (if is_asked events 1 && nat_lt 0 (length (waiting_of stage)) then 1 else 0)
  polled_listening Idle bytes events is = absurd (cc)
  polled_listening (Listening waiting) bytes events is = refl
  polled_listening (Connected peer shut_read shut_write) bytes events is = absurd (cc)

  pub polled_idle : (stage : Stage) (bytes : List ℕ) (events : ℤ) → is_connected stage ≡ false → listens stage ≡ false
      → polled_in_stage sockets stage bytes events ≡ 16
  polled_idle Idle bytes events apart deaf = refl
  polled_idle (Listening waiting) bytes events apart deaf = absurd (cc)
  polled_idle (Connected peer shut_read shut_write) bytes events apart deaf = absurd (cc)
