-- No call moves more bytes than a queue holds, so the others of a longer one don't matter.
use Rattle.std.proofs.Common.{◌≡◌, ℕ, zero, suc, ◌<◌, ◌≤◌, ◌==◌, Bool, true, false, List, [], ◌∷◌, ◌++◌, length, min, take, Option, None, Some, if◌then◌else◌, inl, inr, refl, sym, ap, ◌∙◌, arith}
use Rattle.std.proofs.lemmas.Bool.{cases_lt, lt-leb}
use Rattle.kabi_types.specs.declared.errnos.Errno.TheVariants as errno
use Rattle.posix_defs.specs.Pipe.{Pipe, Moves, Fails, capacity, free_in, pipe_read, pipe_write, after_write}
use Rattle.posix_defs.specs.Socket.{Stage, Idle, Listening, Connected, peer_of, is_shut_read}
use Rattle.posix_defs.specs.Sockets.{Sockets, socket_at, stage_at, free_at, sent_to, write_within, write_to, write_in_stage, sock_write, read_in_stage, sock_read, after_write as after_sock_write}
use Rattle.posix_defs.specs.SocketLinks.{room_of, AreLinked}
use Rattle.socket_laws.proofs.SocketCalls.{fits}

-- the front of a front is the shorter one
take_within : (k n : ℕ) (bytes : List ℕ) → k ≤ n → take k (take n bytes) ≡ take k bytes
take_within zero n bytes le = refl
take_within (suc k) zero bytes le = absurd (omega arith)
take_within (suc k) (suc n) [] le = refl
take_within (suc k) (suc n) (byte ∷ rest) le = ap (λ bytes. byte ∷ bytes) (take_within k n rest (omega arith))

-- into room for at most 4096 bytes go no more than those
within_most : (free m : ℕ) (nonblock : Bool) → free ≤ 4096 → write_within free nonblock m ≡ write_within free nonblock (min m 4096)
within_most free m nonblock le = elim (cases_lt 4096 m) [
  | inl long ↦ (
      let most : min m 4096 ≡ 4096 = omega arith in
      elim (cases_lt free 4096) [
        | inl less ↦ rw (most, lt-leb m free (omega arith), lt-leb 4096 free less) refl
        | inr all ↦ let same : free ≡ 4096 = omega arith in rw (most, same, lt-leb m 4096 long) refl
      ]
      )
  | inr short ↦ let same : min m 4096 ≡ m = omega arith in rw same refl
]

-- a write of more than 512 bytes to a pipe
long_write : (pipe : Pipe) (nonblock : Bool) (n m : ℕ) → 512 < n → pipe_write pipe nonblock n m ≡ (if pipe.readers == 0 then Fails errno.EPIPE else write_within (free_in pipe) nonblock m)
long_write pipe nonblock n m long = rw (lt-leb n 512 long) refl

pub pipe_write_most : (pipe : Pipe) (nonblock : Bool) (n m : ℕ) → 512 < n → pipe_write pipe nonblock n m ≡ pipe_write pipe nonblock (min n capacity) (min m capacity)
pipe_write_most pipe nonblock n m long =
    long_write pipe nonblock n m long
    ∙ ap (λ moving. if pipe.readers == 0 then Fails errno.EPIPE else moving) (within_most (free_in pipe) m nonblock (omega arith))
    ∙ sym (long_write pipe nonblock (min n capacity) (min m capacity) (omega arith))

or_refused : (refused : Bool) (free m k : ℕ) (nonblock : Bool) → (if refused then Fails errno.EPIPE else write_within free nonblock m) ≡ Moves k → k ≤ free
or_refused true free m k nonblock is = absurd (cc)
or_refused false free m k nonblock is = fits free m k nonblock is

pub pipe_written_most : (pipe : Pipe) (nonblock : Bool) (n : ℕ) (bytes : List ℕ) (k : ℕ) → 512 < n → pipe_write pipe nonblock n (length bytes) ≡ Moves k → after_write pipe bytes k ≡ after_write pipe (take capacity bytes) k
pipe_written_most pipe nonblock n bytes k long is =
    let fit = or_refused (pipe.readers == 0) (free_in pipe) (length bytes) k nonblock (sym (long_write pipe nonblock n (length bytes) long) ∙ is) in
    ap (λ more. record pipe { bytes = pipe.bytes ++ more }) (sym (take_within k capacity bytes (omega (arith, fit))))

pub pipe_read_most : (pipe : Pipe) (nonblock : Bool) (n : ℕ) → length pipe.bytes ≤ capacity → pipe_read pipe nonblock n ≡ pipe_read pipe nonblock (min n capacity)
pipe_read_most pipe nonblock n within =
    let same : min (min n capacity) (length pipe.bytes) ≡ min n (length pipe.bytes) = omega arith in
    rw same refl

pub sock_write_most : (sockets : Sockets) (place : ℕ) (nonblock : Bool) (m : ℕ) → sock_write sockets place nonblock m ≡ sock_write sockets place nonblock (min m capacity)
sock_write_most sockets place nonblock m = go (stage_at sockets place)
  where
    to : (peer : Option ℕ) → write_to sockets peer nonblock m ≡ write_to sockets peer nonblock (min m capacity)
    to None = refl
    to (Some peer) = ap (λ moving. if is_shut_read (stage_at sockets peer) then Fails errno.EPIPE else moving) (within_most (free_at sockets peer) m nonblock (omega arith))

    go : (stage : Stage) → write_in_stage sockets stage nonblock m ≡ write_in_stage sockets stage nonblock (min m capacity)
    go Idle = refl
    go (Listening waiting) = refl
    go (Connected peer shut_read shut_write) = ap (λ moving. if shut_write then Fails errno.EPIPE else moving) (to peer)

sock_fits : (sockets : Sockets) (stage : Stage) (nonblock : Bool) (m k : ℕ) → write_in_stage sockets stage nonblock m ≡ Moves k → k ≤ capacity
sock_fits sockets Idle nonblock m k is = absurd (cc)
sock_fits sockets (Listening waiting) nonblock m k is = absurd (cc)
sock_fits sockets (Connected peer shut_read true) nonblock m k is = absurd (cc)
sock_fits sockets (Connected None shut_read false) nonblock m k is = absurd (cc)
sock_fits sockets (Connected (Some peer) shut_read false) nonblock m k is =
    let fit = or_refused (is_shut_read (stage_at sockets peer)) (free_at sockets peer) m k nonblock is in omega (arith, fit)

pub sock_written_most : (sockets : Sockets) (place : ℕ) (nonblock : Bool) (bytes : List ℕ) (k : ℕ) → sock_write sockets place nonblock (length bytes) ≡ Moves k → after_sock_write sockets place bytes k ≡ after_sock_write sockets place (take capacity bytes) k
sock_written_most sockets place nonblock bytes k is =
    ap (sent_to sockets (peer_of (stage_at sockets place))) (sym (take_within k capacity bytes (sock_fits sockets (stage_at sockets place) nonblock (length bytes) k is)))

room_most : (stage : Stage) → room_of stage ≤ capacity
room_most Idle = omega arith
room_most (Listening waiting) = omega arith
room_most (Connected peer true shut_write) = omega arith
room_most (Connected peer false shut_write) = omega arith

pub sock_read_most : (sockets : Sockets) (place : ℕ) (nonblock : Bool) (n : ℕ) → AreLinked sockets → sock_read sockets place nonblock n ≡ sock_read sockets place nonblock (min n capacity)
sock_read_most sockets place nonblock n linked = go (stage_at sockets place)
  where
    bytes : List ℕ
    bytes = (socket_at sockets place).bytes

    go : (stage : Stage) → read_in_stage sockets stage bytes nonblock n ≡ read_in_stage sockets stage bytes nonblock (min n capacity)
    go Idle = refl
    go (Listening waiting) = refl
    go (Connected peer shut_read shut_write) =
        let few = linked.room place in
        let same : min (min n capacity) (length bytes) ≡ min n (length bytes) = omega (arith, few, room_most (stage_at sockets place)) in
        rw same refl
