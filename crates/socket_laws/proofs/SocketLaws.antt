-- What goes through a connection, and what its ends and its listener answer.
use Rattle.std.proofs.Common.{◌≡◌, ◌≢◌, inl, inr, ℕ, ℤ, ◌<◌, ◌≤◌, Bool, true, false, List, [], ◌∷◌, ◌++◌, length, take, drop, None, Some, IsSome, refl, sym, ap, ◌∙◌, arith}
use Rattle.std.proofs.lemmas.Bool.{le-leb, lt-leb}
use Rattle.std.proofs.lemmas.List.{take_all}
use Rattle.std.specs.Prelude.{nat_lt, min, ◌||◌}
use Rattle.kabi_types.specs.declared.errnos.Errno.TheVariants as errno
use Rattle.posix_defs.specs.Pipe.{Moves, Fails}
use Rattle.socket_laws.specs.QueueRuns.{QueueStep, Puts, Takes, left_after, put_in, taken_out}
use Rattle.posix_defs.specs.Socket.{Stage, Idle, Listening, Connected, Socket, connected_to, peer_of, waiting_of, is_connected, is_shut_read, is_shut_write, without_first, without_peer, shuts_reading, shuts_writing, shut_further, after_shutdown, accept, Takes as Accepts}
use Rattle.posix_defs.specs.Sockets.{Sockets, sock_at, socket_at, stage_at, with_socket, with_stage, with_bytes, is_refused, after_connect, after_accept, after_read, sock_read, read_in_stage, writes_no_more, sock_write, write_in_stage, sent_to, after_write, after_shut, gone, all_gone, after_close, backlog}
use Rattle.posix_defs.specs.SocketLinks.{WaitsNowhere, AreLinked}
use Rattle.socket_laws.specs.SocketRuns.{after_steps}
use Rattle.socket_laws.proofs.QueueOrder.{order_kept}
use Rattle.socket_laws.proofs.SocketTable.{sock_at-with, length-with, there_within, Changed, Changed-with}
use Rattle.socket_laws.proofs.SocketLinked.{is_or_not, waiting_of-without_peer, is_connected-without_peer, peer_of-without_peer}
use Rattle.socket_laws.proofs.SocketCalls.{has_peer, connected_there, gone_parted, listening_there}

-- one that is a peer is there
pub peer_there : (sockets : Sockets) (place peer : ℕ) → AreLinked sockets → peer_of (stage_at sockets place) ≡ Some peer → IsSome (sock_at sockets peer)
peer_there sockets place peer linked is = connected_there sockets peer (has_peer (stage_at sockets peer) place (linked.paired place peer is))

pub peers_differ : (sockets : Sockets) (place peer : ℕ) → AreLinked sockets → peer_of (stage_at sockets place) ≡ Some peer → place ≢ peer
peers_differ sockets place peer linked is same = linked.apart place (is ∙ ap Some (sym same))

-- a change of one that is there
pub change_there : (sockets : Sockets) (place : ℕ) (socket : Socket) → IsSome (sock_at sockets place) → Changed sockets (with_socket sockets place (Some socket)) place socket
change_there sockets place socket there = Changed-with sockets place (Some socket) (let within = there_within sockets place there in omega arith)

pub still_there : (sockets : Sockets) (place : ℕ) (socket : Socket) → IsSome (sock_at sockets place) → IsSome (sock_at (with_socket sockets place (Some socket)) place)
still_there sockets place socket there = rw (sock_at-with sockets place (Some socket) (let within = there_within sockets place there in omega arith)) refl

-- what is written stands in the peer's queue
wrote : (sockets : Sockets) (writer reader : ℕ) (bytes : List ℕ) (k : ℕ) → peer_of (stage_at sockets writer) ≡ Some reader → after_write sockets writer bytes k ≡ with_bytes sockets reader ((socket_at sockets reader).bytes ++ take k bytes)
wrote sockets writer reader bytes k is = ap (λ peer. sent_to sockets peer (take k bytes)) is

bytes_after : (sockets : Sockets) (writer reader : ℕ) (steps : List QueueStep) → writer ≢ reader → peer_of (stage_at sockets writer) ≡ Some reader → IsSome (sock_at sockets reader) → (socket_at (after_steps sockets writer reader steps) reader).bytes ≡ left_after (socket_at sockets reader).bytes steps
bytes_after sockets writer reader [] differ is there = refl
bytes_after sockets writer reader (Puts bytes ∷ steps) differ is there =
    let next = with_bytes sockets reader ((socket_at sockets reader).bytes ++ take (length bytes) bytes) in
    let is_next : after_write sockets writer bytes (length bytes) ≡ next = wrote sockets writer reader bytes (length bytes) is in
    let changed = change_there sockets reader (record (socket_at sockets reader) { bytes = (socket_at sockets reader).bytes ++ take (length bytes) bytes }) there in
    let behind = bytes_after next writer reader steps differ (ap (λ s. peer_of s.stage) (changed.others writer differ) ∙ is) (still_there sockets reader (record (socket_at sockets reader) { bytes = (socket_at sockets reader).bytes ++ take (length bytes) bytes }) there) in
    ap (λ s. (socket_at (after_steps s writer reader steps) reader).bytes) is_next ∙ behind
    ∙ ap (λ b. left_after b steps) (ap (λ s. s.bytes) changed.at ∙ ap (λ b. (socket_at sockets reader).bytes ++ b) (take_all (length bytes) bytes (omega arith)))
bytes_after sockets writer reader (Takes n ∷ steps) differ is there =
    let changed = change_there sockets reader (record (socket_at sockets reader) { bytes = drop n (socket_at sockets reader).bytes }) there in
    bytes_after (after_read sockets reader n) writer reader steps differ (ap (λ s. peer_of s.stage) (changed.others writer differ) ∙ is) (still_there sockets reader (record (socket_at sockets reader) { bytes = drop n (socket_at sockets reader).bytes }) there)
    ∙ ap (λ b. left_after b steps) (ap (λ s. s.bytes) changed.at)

pub directions_keep_order : (sockets : Sockets) (writer reader : ℕ) (steps : List QueueStep) → AreLinked sockets → peer_of (stage_at sockets writer) ≡ Some reader → (socket_at sockets reader).bytes ++ put_in steps ≡ taken_out (socket_at sockets reader).bytes steps ++ (socket_at (after_steps sockets writer reader steps) reader).bytes
directions_keep_order sockets writer reader steps linked is =
    order_kept (socket_at sockets reader).bytes steps
    ∙ ap (λ b. taken_out (socket_at sockets reader).bytes steps ++ b) (sym (bytes_after sockets writer reader steps (peers_differ sockets writer reader linked is) is (peer_there sockets writer reader linked is)))

pub write_touches_one : (sockets : Sockets) (writer reader other : ℕ) (bytes : List ℕ) (k : ℕ) → AreLinked sockets → peer_of (stage_at sockets writer) ≡ Some reader → other ≢ reader → socket_at (after_write sockets writer bytes k) other ≡ socket_at sockets other
write_touches_one sockets writer reader other bytes k linked is differs =
    ap (λ s. socket_at s other) (wrote sockets writer reader bytes k is)
    ∙ (change_there sockets reader (record (socket_at sockets reader) { bytes = (socket_at sockets reader).bytes ++ take k bytes }) (peer_there sockets writer reader linked is)).others other differs

pub read_touches_one : (sockets : Sockets) (reader other k : ℕ) → IsSome (sock_at sockets reader) → other ≢ reader → socket_at (after_read sockets reader k) other ≡ socket_at sockets other
read_touches_one sockets reader other k there differs = (change_there sockets reader (record (socket_at sockets reader) { bytes = drop k (socket_at sockets reader).bytes }) there).others other differs

or-true : (b : Bool) → (b || true) ≡ true
or-true true = refl
or-true false = refl

shut_writes : (stage : Stage) (reading writing : Bool) → is_connected stage ≡ true → writing ≡ true → is_shut_write (shut_further reading writing stage) ≡ true
shut_writes Idle reading writing is so = absurd (cc)
shut_writes (Listening waiting) reading writing is so = absurd (cc)
shut_writes (Connected peer shut_read shut_write) reading writing is so = rw so (or-true shut_write)

-- a change of one socket by shutdown
shut : (sockets : Sockets) (place : ℕ) (how : ℤ) → is_connected (stage_at sockets place) ≡ true → Changed sockets (after_shut sockets place how) place (after_shutdown (socket_at sockets place) how)
shut sockets place how is = change_there sockets place (after_shutdown (socket_at sockets place) how) (connected_there sockets place is)

writer_connected : (sockets : Sockets) (writer reader : ℕ) → peer_of (stage_at sockets writer) ≡ Some reader → is_connected (stage_at sockets writer) ≡ true
writer_connected sockets writer reader is = has_peer (stage_at sockets writer) reader is

pub shut_leaves : (sockets : Sockets) (writer reader : ℕ) (how : ℤ) → AreLinked sockets → peer_of (stage_at sockets writer) ≡ Some reader → (socket_at (after_shut sockets writer how) reader).bytes ≡ (socket_at sockets reader).bytes
shut_leaves sockets writer reader how linked is =
    ap (λ s. s.bytes) ((shut sockets writer how (writer_connected sockets writer reader is)).others reader (λ same. peers_differ sockets writer reader linked is (sym same)))

pub reads_what_is_there : (sockets : Sockets) (reader n : ℕ) (nonblock : Bool) → is_connected (stage_at sockets reader) ≡ true → is_shut_read (stage_at sockets reader) ≡ false → 0 < length (socket_at sockets reader).bytes → sock_read sockets reader nonblock n ≡ Moves (min n (length (socket_at sockets reader).bytes))
reads_what_is_there sockets reader n nonblock is open_side some = go (stage_at sockets reader) is open_side (socket_at sockets reader).bytes (lt_true (length (socket_at sockets reader).bytes) some)
  where
    lt_true : (m : ℕ) → 0 < m → nat_lt 0 m ≡ true
    lt_true m some = le-leb 1 m (omega arith)

    go : (stage : Stage) → is_connected stage ≡ true → is_shut_read stage ≡ false → (bytes : List ℕ) → nat_lt 0 (length bytes) ≡ true → read_in_stage sockets stage bytes nonblock n ≡ Moves (min n (length bytes))
    go Idle is open_side bytes some = absurd (cc)
    go (Listening waiting) is open_side bytes some = absurd (cc)
    go (Connected peer true shut_write) is open_side bytes some = absurd (cc)
    go (Connected peer false shut_write) is open_side bytes some = rw some refl

-- a read where nothing is there and nothing can come
at_end : (sockets : Sockets) (stage : Stage) (bytes : List ℕ) (nonblock : Bool) (n : ℕ) → is_connected stage ≡ true → writes_no_more sockets (peer_of stage) ≡ true → bytes ≡ [] → read_in_stage sockets stage bytes nonblock n ≡ Moves 0
at_end sockets Idle bytes nonblock n is no_more none = absurd (cc)
at_end sockets (Listening waiting) bytes nonblock n is no_more none = absurd (cc)
at_end sockets (Connected peer true shut_write) bytes nonblock n is no_more none = refl
at_end sockets (Connected peer false shut_write) bytes nonblock n is no_more none = rw (none, no_more) refl

pub shut_ends : (sockets : Sockets) (writer reader n : ℕ) (nonblock : Bool) (how : ℤ) → AreLinked sockets → peer_of (stage_at sockets writer) ≡ Some reader → shuts_writing how ≡ true → (socket_at sockets reader).bytes ≡ [] → sock_read (after_shut sockets writer how) reader nonblock n ≡ Moves 0
shut_ends sockets writer reader n nonblock how linked is writing none =
    let so = writer_connected sockets writer reader is in
    let changed = shut sockets writer how so in
    let back = linked.paired writer reader is in
    let same : socket_at (after_shut sockets writer how) reader ≡ socket_at sockets reader = changed.others reader (λ eq. peers_differ sockets writer reader linked is (sym eq)) in
    let no_more : writes_no_more (after_shut sockets writer how) (Some writer) ≡ true = ap (λ s. is_shut_write s.stage) changed.at ∙ shut_writes (stage_at sockets writer) (shuts_reading how) (shuts_writing how) so writing in
    at_end (after_shut sockets writer how) (stage_at (after_shut sockets writer how) reader) (socket_at (after_shut sockets writer how) reader).bytes nonblock n
    (ap (λ s. is_connected s.stage) same ∙ has_peer (stage_at sockets reader) writer back)
    (ap (λ s. writes_no_more (after_shut sockets writer how) (peer_of s.stage)) same ∙ ap (writes_no_more (after_shut sockets writer how)) back ∙ no_more)
    (ap (λ s. s.bytes) same ∙ none)

-- one that was shut for writing can't write, nor one whose peer has closed
shut_refuses : (sockets : Sockets) (stage : Stage) (nonblock : Bool) (m : ℕ) → is_connected stage ≡ true → is_shut_write stage ≡ true → write_in_stage sockets stage nonblock m ≡ Fails errno.EPIPE
shut_refuses sockets Idle nonblock m is shut = absurd (cc)
shut_refuses sockets (Listening waiting) nonblock m is shut = absurd (cc)
shut_refuses sockets (Connected peer shut_read true) nonblock m is shut = refl
shut_refuses sockets (Connected peer shut_read false) nonblock m is shut = absurd (cc)

shut_connected : (stage : Stage) (reading writing : Bool) → is_connected (shut_further reading writing stage) ≡ is_connected stage
shut_connected Idle reading writing = refl
shut_connected (Listening waiting) reading writing = refl
shut_connected (Connected peer shut_read shut_write) reading writing = refl

pub shut_writes_nothing : (sockets : Sockets) (writer m : ℕ) (nonblock : Bool) (how : ℤ) → is_connected (stage_at sockets writer) ≡ true → shuts_writing how ≡ true → sock_write (after_shut sockets writer how) writer nonblock m ≡ Fails errno.EPIPE
shut_writes_nothing sockets writer m nonblock how is writing =
    let changed = shut sockets writer how is in
    shut_refuses (after_shut sockets writer how) (stage_at (after_shut sockets writer how) writer) nonblock m
    (ap (λ s. is_connected s.stage) changed.at ∙ shut_connected (stage_at sockets writer) (shuts_reading how) (shuts_writing how) ∙ is)
    (ap (λ s. is_shut_write s.stage) changed.at ∙ shut_writes (stage_at sockets writer) (shuts_reading how) (shuts_writing how) is writing)

connected_no_waiting : (stage : Stage) → is_connected stage ≡ true → waiting_of stage ≡ []
connected_no_waiting Idle is = refl
connected_no_waiting (Listening waiting) is = absurd (cc)
connected_no_waiting (Connected peer shut_read shut_write) is = refl

-- a connected one that closes takes nobody along
pub close_is_gone : (sockets : Sockets) (place : ℕ) → is_connected (stage_at sockets place) ≡ true → after_close sockets place ≡ gone sockets place
close_is_gone sockets place is = ap (all_gone (gone sockets place)) (connected_no_waiting (stage_at sockets place) is)

left_by : (sockets : Sockets) (closed left : ℕ) → AreLinked sockets → peer_of (stage_at sockets closed) ≡ Some left → socket_at (after_close sockets closed) left ≡ record (socket_at sockets left) { stage = without_peer (stage_at sockets left) }
left_by sockets closed left linked is =
    let so = has_peer (stage_at sockets closed) left is in
    ap (λ s. socket_at s left) (close_is_gone sockets closed so) ∙ (gone_parted sockets closed linked (connected_there sockets closed so)).alone left is

pub closed_stays : (sockets : Sockets) (closed left : ℕ) → AreLinked sockets → peer_of (stage_at sockets closed) ≡ Some left → is_connected (stage_at (after_close sockets closed) left) ≡ true
closed_stays sockets closed left linked is =
    ap (λ s. is_connected s.stage) (left_by sockets closed left linked is) ∙ is_connected-without_peer (stage_at sockets left) ∙ has_peer (stage_at sockets left) closed (linked.paired closed left is)

pub closed_bytes : (sockets : Sockets) (closed left : ℕ) → AreLinked sockets → peer_of (stage_at sockets closed) ≡ Some left → (socket_at (after_close sockets closed) left).bytes ≡ (socket_at sockets left).bytes
closed_bytes sockets closed left linked is = ap (λ s. s.bytes) (left_by sockets closed left linked is)

closed_peer : (sockets : Sockets) (closed left : ℕ) → AreLinked sockets → peer_of (stage_at sockets closed) ≡ Some left → peer_of (stage_at (after_close sockets closed) left) ≡ None
closed_peer sockets closed left linked is = ap (λ s. peer_of s.stage) (left_by sockets closed left linked is) ∙ peer_of-without_peer (stage_at sockets left)

pub closed_ends : (sockets : Sockets) (closed left n : ℕ) (nonblock : Bool) → AreLinked sockets → peer_of (stage_at sockets closed) ≡ Some left → (socket_at sockets left).bytes ≡ [] → sock_read (after_close sockets closed) left nonblock n ≡ Moves 0
closed_ends sockets closed left n nonblock linked is none =
    at_end (after_close sockets closed) (stage_at (after_close sockets closed) left) (socket_at (after_close sockets closed) left).bytes nonblock n (closed_stays sockets closed left linked is) (ap (writes_no_more (after_close sockets closed)) (closed_peer sockets closed left linked is)) (closed_bytes sockets closed left linked is ∙ none)

alone_refuses : (sockets : Sockets) (stage : Stage) (nonblock : Bool) (m : ℕ) → is_connected stage ≡ true → peer_of stage ≡ None → write_in_stage sockets stage nonblock m ≡ Fails errno.EPIPE
alone_refuses sockets Idle nonblock m is none = absurd (cc)
alone_refuses sockets (Listening waiting) nonblock m is none = absurd (cc)
alone_refuses sockets (Connected peer shut_read true) nonblock m is none = refl
alone_refuses sockets (Connected None shut_read false) nonblock m is none = refl
alone_refuses sockets (Connected (Some peer) shut_read false) nonblock m is none = absurd (cc)

pub closed_writes_nothing : (sockets : Sockets) (closed left m : ℕ) (nonblock : Bool) → AreLinked sockets → peer_of (stage_at sockets closed) ≡ Some left → sock_write (after_close sockets closed) left nonblock m ≡ Fails errno.EPIPE
closed_writes_nothing sockets closed left m nonblock linked is =
    alone_refuses (after_close sockets closed) (stage_at (after_close sockets closed) left) nonblock m (closed_stays sockets closed left linked is) (closed_peer sockets closed left linked is)

pub waits_last : (sockets : Sockets) (client listener made : ℕ) (waiting : List ℕ) → AreLinked sockets → stage_at sockets client ≡ Idle → IsSome (sock_at sockets client) → sock_at sockets made ≡ None → made ≤ length sockets → stage_at sockets listener ≡ Listening waiting → stage_at (after_connect sockets client listener made) listener ≡ Listening (waiting ++ made ∷ [])
waits_last sockets client listener made waiting linked idle there free within listens =
    let one = with_socket sockets made (Some (connected_to client)) in
    let longer = length-with sockets made (Some (connected_to client)) in
    let two = with_stage one client (Connected (Some made) false false) in
    let longer_too = length-with one client (Some (record (socket_at one client) { stage = Connected (Some made) false false })) in
    let listener_within = there_within sockets listener (listening_there sockets listener waiting listens) in
    let now = Changed-with two listener (Some (record (socket_at two listener) { stage = Listening (waiting_of (stage_at sockets listener) ++ made ∷ []) })) (omega (arith, listener_within, longer, longer_too)) in
    ap (λ s. s.stage) now.at ∙ ap (λ stage. Listening (waiting_of stage ++ made ∷ [])) listens

pub first_is_taken : (sockets : Sockets) (listener first : ℕ) (rest : List ℕ) (nonblock : Bool) → IsSome (sock_at sockets listener) → stage_at sockets listener ≡ Listening (first ∷ rest) → (accept (stage_at sockets listener) true nonblock ≡ Accepts first) × (stage_at (after_accept sockets listener) listener ≡ Listening rest)
first_is_taken sockets listener first rest nonblock there is =
    (ap (λ stage. accept stage true nonblock) is, ap (λ s. s.stage) (change_there sockets listener (record (socket_at sockets listener) { stage = without_first (stage_at sockets listener) }) there).at ∙ ap without_first is)

pub ninth_is_refused : (sockets : Sockets) (listener : ℕ) → length (waiting_of (stage_at sockets listener)) ≡ 8 → is_refused sockets (Some listener) ≡ true
ninth_is_refused sockets listener full = le-leb backlog (length (waiting_of (stage_at sockets listener))) (omega (arith, full))

pub eighth_is_taken : (sockets : Sockets) (listener : ℕ) → length (waiting_of (stage_at sockets listener)) < 8 → is_refused sockets (Some listener) ≡ false
eighth_is_taken sockets listener room = lt-leb backlog (length (waiting_of (stage_at sockets listener))) room

pub closed_still_wait : (sockets : Sockets) (client listener : ℕ) → AreLinked sockets → is_connected (stage_at sockets client) ≡ true → client ≢ listener → WaitsNowhere sockets client → waiting_of (stage_at (after_close sockets client) listener) ≡ waiting_of (stage_at sockets listener)
closed_still_wait sockets client listener linked is differ nowhere =
    let parted = gone_parted sockets client linked (connected_there sockets client is) in
    ap (λ s. waiting_of (stage_at s listener)) (close_is_gone sockets client is) ∙ elim (is_or_not (peer_of (stage_at sockets client)) listener) [
      | inl peer ↦ ap (λ s. waiting_of s.stage) (parted.alone listener peer) ∙ waiting_of-without_peer (stage_at sockets listener)
      | inr isnt ↦ ap (λ s. waiting_of s.stage) (parted.others listener (λ same. differ (sym same)) isnt)
    ]
