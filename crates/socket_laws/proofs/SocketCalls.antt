-- What each call on sockets leaves is linked again.
use Rattle.std.proofs.Common.{◌≡◌, ◌≢◌, ℕ, ℤ, ◌<◌, ◌≤◌, Bool, true, false, List, [], ◌∷◌, ◌++◌, length, take, drop, Option, None, Some, IsSome, unwrap_or, refl, sym, ap, ◌∙◌, arith, Contains, length-append, length-drop}
use Rattle.std.proofs.lemmas.Bool.{leb-true, leb-false}
use Rattle.std.proofs.lemmas.List.{length-take}
use Rattle.std.proofs.lemmas.List.Elements.{Contains-append_right}
use Rattle.std.specs.Prelude.{if◌then◌else◌, nat_le, ◌==◌}
use Rattle.kabi_types.specs.declared.errnos.Errno.TheVariants as errno
use Rattle.posix_defs.specs.Pipe.{Moves, Fails, capacity, not_now}
use Rattle.posix_defs.specs.Socket.{Stage, Idle, Listening, Connected, Socket, new_socket, connected_to, peer_of, waiting_of, is_connected, is_shut_read, listening, behind_first, without_first, without_peer, shuts_reading, shuts_writing, shut_further, after_shutdown}
use Rattle.posix_defs.specs.Sockets.{Sockets, sock_at, socket_at, stage_at, with_socket, with_stage, with_bytes, with_name, with_new, with_pair, after_listen, is_refused, after_connect, after_accept, after_read, sock_write, write_in_stage, write_to, write_within, free_at, sent_to, after_write, after_shut, left_alone, gone, all_gone, after_close, backlog}
use Rattle.posix_defs.specs.SocketLinks.{NoneTwice, room_of, WaitsNowhere, AreLinked, AreLoose}
use Rattle.socket_laws.proofs.SocketTable.{length-with, there_within, Changed, Changed-with}
use Rattle.socket_laws.proofs.SocketLinked.{Eases, AreLinked-eased, Parted, AreLinked-parted, parted_waits, parted_connected, Paired, paired_waits, AreLinked-paired, AreLinked-queued}

-- a socket that is there gets another form, and all stay linked where that one eases it
eased : (sockets : Sockets) (place : ℕ) (socket : Socket) → AreLinked sockets → IsSome (sock_at sockets place) → Eases (socket_at sockets place) socket → AreLinked (with_socket sockets place (Some socket))
eased sockets place socket linked there eases =
    AreLinked-eased sockets (with_socket sockets place (Some socket)) place socket (Changed-with sockets place (Some socket) (let within = there_within sockets place there in omega arith)) eases linked

pub named_linked : (sockets : Sockets) (place : ℕ) (node : Option ℕ) → AreLinked sockets → IsSome (sock_at sockets place) → AreLinked (with_name sockets place node)
named_linked sockets place node linked there = eased sockets place (record (socket_at sockets place) { node = node }) linked there (record {
  peer = refl;
  connected = refl;
  fewer = λ other here. here;
  once = linked.once place;
  backlog = linked.backlog place;
  room = linked.room place;
})

pub none_there : (sockets : Sockets) (place : ℕ) → sock_at sockets place ≡ None → socket_at sockets place ≡ new_socket
none_there sockets place none = ap (λ o. unwrap_or o new_socket) none

pub new_linked : (sockets : Sockets) (made : ℕ) → AreLinked sockets → sock_at sockets made ≡ None → made ≤ length sockets → AreLinked (with_new sockets made)
new_linked sockets made linked none within =
    AreLinked-eased sockets (with_new sockets made) made new_socket (Changed-with sockets made (Some new_socket) within) (rw (none_there sockets made none) (record {
      peer = refl;
      connected = refl;
      fewer = λ other here. here;
      once = tt;
      backlog = omega arith;
      room = omega arith;
    })) linked

listening_eases : (stage : Stage) (bytes : List ℕ) (bound : Option ℕ) → NoneTwice (waiting_of stage) → length (waiting_of stage) ≤ backlog → length bytes ≤ room_of stage → Eases (record { stage = stage; bytes = bytes; node = bound }) (record { stage = listening stage; bytes = bytes; node = bound })
listening_eases Idle bytes bound once few room = record { peer = refl; connected = refl; fewer = λ other here. here; once = tt; backlog = omega arith; room = room }
listening_eases (Listening waiting) bytes bound once few room = record { peer = refl; connected = refl; fewer = λ other here. here; once = once; backlog = few; room = room }
listening_eases (Connected peer shut_read shut_write) bytes bound once few room = record { peer = refl; connected = refl; fewer = λ other here. here; once = once; backlog = few; room = room }

pub listen_linked : (sockets : Sockets) (place : ℕ) → AreLinked sockets → IsSome (sock_at sockets place) → AreLinked (after_listen sockets place)
listen_linked sockets place linked there =
    eased sockets place (record (socket_at sockets place) { stage = listening (stage_at sockets place) }) linked there (listening_eases (stage_at sockets place) (socket_at sockets place).bytes (socket_at sockets place).node (linked.once place) (linked.backlog place) (linked.room place))

behind_first_fewer : (waiting : List ℕ) (other : ℕ) → Contains (behind_first waiting) other → Contains waiting other
behind_first_fewer [] other here = here
behind_first_fewer (first ∷ rest) other here = Contains-append_right (first ∷ []) rest other here

behind_first_once : (waiting : List ℕ) → NoneTwice waiting → NoneTwice (behind_first waiting)
behind_first_once [] once = tt
behind_first_once (first ∷ rest) once = once.1

behind_first_short : (waiting : List ℕ) → length waiting ≤ 8 → length (behind_first waiting) ≤ 8
behind_first_short [] few = few
behind_first_short (first ∷ rest) few = omega arith

accept_eases : (stage : Stage) (bytes : List ℕ) (bound : Option ℕ) → NoneTwice (waiting_of stage) → length (waiting_of stage) ≤ backlog → length bytes ≤ room_of stage → Eases (record { stage = stage; bytes = bytes; node = bound }) (record { stage = without_first stage; bytes = bytes; node = bound })
accept_eases Idle bytes bound once few room = record { peer = refl; connected = refl; fewer = λ other here. here; once = tt; backlog = omega arith; room = room }
accept_eases (Listening waiting) bytes bound once few room = record { peer = refl; connected = refl; fewer = behind_first_fewer waiting; once = behind_first_once waiting once; backlog = behind_first_short waiting few; room = room }
accept_eases (Connected peer shut_read shut_write) bytes bound once few room = record { peer = refl; connected = refl; fewer = λ other here. here; once = once; backlog = few; room = room }

pub accept_linked : (sockets : Sockets) (place : ℕ) → AreLinked sockets → IsSome (sock_at sockets place) → AreLinked (after_accept sockets place)
accept_linked sockets place linked there =
    eased sockets place (record (socket_at sockets place) { stage = without_first (stage_at sockets place) }) linked there (accept_eases (stage_at sockets place) (socket_at sockets place).bytes (socket_at sockets place).node (linked.once place) (linked.backlog place) (linked.room place))

-- a socket has other bytes, for which there is room
bytes_linked : (sockets : Sockets) (place : ℕ) (bytes : List ℕ) → AreLinked sockets → IsSome (sock_at sockets place) → length bytes ≤ room_of (stage_at sockets place) → AreLinked (with_bytes sockets place bytes)
bytes_linked sockets place bytes linked there room = eased sockets place (record (socket_at sockets place) { bytes = bytes }) linked there (record {
  peer = refl;
  connected = refl;
  fewer = λ other here. here;
  once = linked.once place;
  backlog = linked.backlog place;
  room = room;
})

pub read_linked : (sockets : Sockets) (place k : ℕ) → AreLinked sockets → IsSome (sock_at sockets place) → AreLinked (after_read sockets place k)
read_linked sockets place k linked there =
    bytes_linked sockets place (drop k (socket_at sockets place).bytes) linked there (rw length-drop (let fits = linked.room place in omega (arith, fits)))

shut_eases : (stage : Stage) (bytes : List ℕ) (bound : Option ℕ) (reading writing : Bool) → NoneTwice (waiting_of stage) → length (waiting_of stage) ≤ backlog → length bytes ≤ room_of stage → Eases (record { stage = stage; bytes = bytes; node = bound }) (record { stage = shut_further reading writing stage; bytes = if reading then [] else bytes; node = bound })
shut_eases Idle bytes bound true writing once few room = record { peer = refl; connected = refl; fewer = λ other here. here; once = once; backlog = few; room = omega arith }
shut_eases Idle bytes bound false writing once few room = record { peer = refl; connected = refl; fewer = λ other here. here; once = once; backlog = few; room = room }
shut_eases (Listening waiting) bytes bound true writing once few room = record { peer = refl; connected = refl; fewer = λ other here. here; once = once; backlog = few; room = omega arith }
shut_eases (Listening waiting) bytes bound false writing once few room = record { peer = refl; connected = refl; fewer = λ other here. here; once = once; backlog = few; room = room }
shut_eases (Connected peer true shut_write) bytes bound true writing once few room = record { peer = refl; connected = refl; fewer = λ other here. here; once = once; backlog = few; room = omega arith }
shut_eases (Connected peer true shut_write) bytes bound false writing once few room = record { peer = refl; connected = refl; fewer = λ other here. here; once = once; backlog = few; room = room }
shut_eases (Connected peer false shut_write) bytes bound true writing once few room = record { peer = refl; connected = refl; fewer = λ other here. here; once = once; backlog = few; room = omega arith }
shut_eases (Connected peer false shut_write) bytes bound false writing once few room = record { peer = refl; connected = refl; fewer = λ other here. here; once = once; backlog = few; room = room }

pub shut_linked : (sockets : Sockets) (place : ℕ) (how : ℤ) → AreLinked sockets → IsSome (sock_at sockets place) → AreLinked (after_shut sockets place how)
shut_linked sockets place how linked there =
    eased sockets place (after_shutdown (socket_at sockets place) how) linked there (shut_eases (stage_at sockets place) (socket_at sockets place).bytes (socket_at sockets place).node (shuts_reading how) (shuts_writing how) (linked.once place) (linked.backlog place) (linked.room place))

-- one that has a peer or is connected is there
pub connected_there : (sockets : Sockets) (place : ℕ) → is_connected (stage_at sockets place) ≡ true → IsSome (sock_at sockets place)
connected_there sockets place is = go (sock_at sockets place) refl is
  where
    go : (o : Option Socket) → sock_at sockets place ≡ o → is_connected (unwrap_or o new_socket).stage ≡ true → IsSome o
    go None e is = cc
    go (Some socket) e is = refl

pub has_peer : (stage : Stage) (peer : ℕ) → peer_of stage ≡ Some peer → is_connected stage ≡ true
has_peer Idle peer is = absurd (cc)
has_peer (Listening waiting) peer is = absurd (cc)
has_peer (Connected other shut_read shut_write) peer is = refl

-- a socket without its peer
abbrev pub to_nobody : Socket → Socket
to_nobody socket = record socket { stage = without_peer socket.stage }

-- how one that goes leaves its peer
pub gone_parted : (sockets : Sockets) (place : ℕ) → AreLinked sockets → IsSome (sock_at sockets place) → Parted sockets (gone sockets place) place
gone_parted sockets place linked there = go (peer_of (stage_at sockets place)) refl
  where
    without : Changed sockets (with_socket sockets place None) place new_socket
    without = Changed-with sockets place None (let within = there_within sockets place there in omega arith)

    go : (peer : Option ℕ) → peer_of (stage_at sockets place) ≡ peer → Parted sockets (left_alone (with_socket sockets place None) peer) place
    go None e = record {
      gone = without.at;
      alone = λ peer is. absurd (cc);
      others = λ other differs isnt. without.others other differs;
    }
    go (Some peer) e =
        let differs : peer ≢ place = λ same. linked.apart place (e ∙ ap Some same) in
        let back = linked.paired place peer e in
        let peer_within : peer < length sockets = there_within sockets peer (connected_there sockets peer (has_peer (stage_at sockets peer) place back)) in
        let longer = length-with sockets place None in
        let same : socket_at (with_socket sockets place None) peer ≡ socket_at sockets peer = without.others peer differs in
        let left = Changed-with (with_socket sockets place None) peer (Some (record (socket_at (with_socket sockets place None) peer) { stage = without_peer (stage_at (with_socket sockets place None) peer) })) (omega (arith, peer_within, longer)) in
        record {
          gone = left.others place (λ is. differs (sym is)) ∙ without.at;
          alone = λ other is. let named : other ≡ peer = cc in rw named (left.at ∙ ap to_nobody same);
          others = λ other differs_too isnt. left.others other (λ is. isnt (e ∙ ap Some (sym is))) ∙ without.others other differs_too;
        }

pub gone_linked : (sockets : Sockets) (place : ℕ) → AreLinked sockets → IsSome (sock_at sockets place) → WaitsNowhere sockets place → AreLinked (gone sockets place)
gone_linked sockets place linked there nowhere = AreLinked-parted sockets (gone sockets place) place (gone_parted sockets place linked there) linked nowhere

pub first_loose : (sockets : Sockets) (place : ℕ) (rest : List ℕ) → AreLoose sockets (place ∷ rest) → IsSome (sock_at sockets place)
first_loose sockets place rest loose = connected_there sockets place (loose.connected place (0, omega arith, refl))

pub rest_loose : (sockets : Sockets) (place : ℕ) (rest : List ℕ) → AreLinked sockets → AreLoose sockets (place ∷ rest) → AreLoose (gone sockets place) rest
rest_loose sockets place rest linked loose =
    let parted = gone_parted sockets place linked (first_loose sockets place rest loose) in
    let nowhere = loose.nowhere place (0, omega arith, refl) in
    record {
      once = loose.once.1;
      connected = λ other here. parted_connected sockets (gone sockets place) place parted linked nowhere other (λ same. loose.once.0 (rw same at here)) ∙ loose.connected other (Contains-append_right (place ∷ []) rest other here);
      nowhere = λ other here listener there. loose.nowhere other (Contains-append_right (place ∷ []) rest other here) listener (parted_waits sockets (gone sockets place) place parted linked nowhere listener other there);
    }

pub all_gone_linked : (sockets : Sockets) (places : List ℕ) → AreLinked sockets → AreLoose sockets places → AreLinked (all_gone sockets places)
all_gone_linked sockets [] linked loose = linked
all_gone_linked sockets (place ∷ rest) linked loose =
    all_gone_linked (gone sockets place) rest (gone_linked sockets place linked (first_loose sockets place rest loose) (loose.nowhere place (0, omega arith, refl))) (rest_loose sockets place rest linked loose)

-- those that waited for a socket that has gone wait nowhere
pub waiting_loose : (sockets : Sockets) (place : ℕ) → AreLinked sockets → IsSome (sock_at sockets place) → WaitsNowhere sockets place → AreLoose (gone sockets place) (waiting_of (stage_at sockets place))
waiting_loose sockets place linked there nowhere =
    let parted = gone_parted sockets place linked there in
    record {
      once = linked.once place;
      connected = λ other here. parted_connected sockets (gone sockets place) place parted linked nowhere other (λ same. nowhere place (rw same at here)) ∙ linked.waiting place other here;
      nowhere = λ other here listener waits.
          let was = parted_waits sockets (gone sockets place) place parted linked nowhere listener other waits in
          let same : listener ≡ place = linked.one_place listener place other was here in
          let none : waiting_of (stage_at (gone sockets place) listener) ≡ [] = ap (λ n. waiting_of (stage_at (gone sockets place) n)) same ∙ ap (λ s. waiting_of s.stage) parted.gone in
          no_member other (waiting_of (stage_at (gone sockets place) listener)) none waits;
    }
  where
    no_member : (other : ℕ) (places : List ℕ) → places ≡ [] → Contains places other → ⊥
    no_member other [] none here = omega (arith, here.1)
    no_member other (first ∷ rest) none here = cc

pub close_linked : (sockets : Sockets) (place : ℕ) → AreLinked sockets → IsSome (sock_at sockets place) → WaitsNowhere sockets place → AreLinked (after_close sockets place)
close_linked sockets place linked there nowhere =
    all_gone_linked (gone sockets place) (waiting_of (stage_at sockets place)) (gone_linked sockets place linked there nowhere) (waiting_loose sockets place linked there nowhere)

pub pair_linked : (sockets : Sockets) (one other : ℕ) → AreLinked sockets → one ≢ other → sock_at sockets one ≡ None → sock_at sockets other ≡ None → one ≤ length sockets → other ≤ length (with_socket sockets one (Some (connected_to other))) → AreLinked (with_pair sockets one other)
pair_linked sockets one other linked differ one_free other_free one_within other_within =
    let first = Changed-with sockets one (Some (connected_to other)) one_within in
    let second = Changed-with (with_socket sockets one (Some (connected_to other))) other (Some (connected_to one)) other_within in
    let one_is : socket_at (with_pair sockets one other) one ≡ connected_to other = second.others one differ ∙ first.at in
    AreLinked-paired sockets (with_pair sockets one other) one other differ (record {
      one_is = ap (λ s. s.stage) one_is;
      other_is = ap (λ s. s.stage) second.at;
      one_bytes = rw one_is (omega arith);
      other_bytes = rw second.at (omega arith);
      others = λ place differs differs_too. second.others place differs_too ∙ first.others place differs;
    }) linked (ap (λ s. peer_of s.stage) (none_there sockets one one_free)) (ap (λ s. peer_of s.stage) (none_there sockets other other_free))

-- one that listens is there
pub listening_there : (sockets : Sockets) (place : ℕ) (waiting : List ℕ) → stage_at sockets place ≡ Listening waiting → IsSome (sock_at sockets place)
listening_there sockets place waiting is = go (sock_at sockets place) refl is
  where
    go : (o : Option Socket) → sock_at sockets place ≡ o → (unwrap_or o new_socket).stage ≡ Listening waiting → IsSome o
    go None e is = cc
    go (Some socket) e is = refl

-- what a connection leaves: the client and a new socket are connected, and the new one waits
pub connect_linked : (sockets : Sockets) (client listener made : ℕ) → AreLinked sockets → stage_at sockets client ≡ Idle → IsSome (sock_at sockets client) → sock_at sockets made ≡ None → made ≤ length sockets → is_refused sockets (Some listener) ≡ false → (waiting : List ℕ) → stage_at sockets listener ≡ Listening waiting → AreLinked (after_connect sockets client listener made)
connect_linked sockets client listener made linked idle there free within room waiting listens =
    let made_new = Changed-with sockets made (Some (connected_to client)) within in
    let longer = length-with sockets made (Some (connected_to client)) in
    let client_within = there_within sockets client there in
    let named : made ≢ client = λ same. let none : IsSome (sock_at sockets client) = there in let gone : sock_at sockets client ≡ None = ap (sock_at sockets) (sym same) ∙ free in grind arith in
    let one = with_socket sockets made (Some (connected_to client)) in
    let client_now = Changed-with one client (Some (record (socket_at one client) { stage = Connected (Some made) false false })) (omega (arith, client_within, longer)) in
    let two = with_stage one client (Connected (Some made) false false) in
    let longer_too = length-with one client (Some (record (socket_at one client) { stage = Connected (Some made) false false })) in
    let client_same : socket_at one client ≡ socket_at sockets client = made_new.others client (λ is. named (sym is)) in
    let made_is : socket_at two made ≡ connected_to client = client_now.others made named ∙ made_new.at in
    let bytes_none : length (socket_at sockets client).bytes ≤ 0 = let fits = linked.room client in rw idle at fits in
    let paired : Paired sockets two client made = record {
      one_is = ap (λ s. s.stage) client_now.at;
      other_is = ap (λ s. s.stage) made_is;
      one_bytes = rw (client_now.at, client_same) (omega (arith, bytes_none));
      other_bytes = rw made_is (omega arith);
      others = λ place differs differs_too. client_now.others place differs ∙ made_new.others place differs_too;
    } in
    let no_peer : peer_of (stage_at sockets client) ≡ None = ap peer_of idle in
    let no_peer_too : peer_of (stage_at sockets made) ≡ None = ap (λ s. peer_of s.stage) (none_there sockets made free) in
    let linked_two : AreLinked two = AreLinked-paired sockets two client made (λ is. named (sym is)) paired linked no_peer no_peer_too in
    let apart : listener ≢ client = λ same. let it : stage_at sockets listener ≡ Idle = ap (stage_at sockets) same ∙ idle in cc in
    let apart_too : listener ≢ made = λ same. let it : stage_at sockets listener ≡ Idle = ap (stage_at sockets) same ∙ ap (λ s. s.stage) (none_there sockets made free) in cc in
    let listener_same : socket_at two listener ≡ socket_at sockets listener = client_now.others listener apart ∙ made_new.others listener apart_too in
    let listener_there : IsSome (sock_at sockets listener) = listening_there sockets listener waiting listens in
    let listener_within = there_within sockets listener listener_there in
    let listener_now = Changed-with two listener (Some (record (socket_at two listener) { stage = Listening (waiting_of (stage_at sockets listener) ++ made ∷ []) })) (omega (arith, listener_within, longer, longer_too)) in
    AreLinked-queued two (after_connect sockets client listener made) listener made waiting (record {
      stage = ap (λ s. s.stage) listener_same ∙ listens;
      now = ap (λ s. s.stage) listener_now.at ∙ ap (λ stage. Listening (waiting_of stage ++ made ∷ [])) listens;
      bytes = ap (λ s. s.bytes) listener_now.at;
      others = listener_now.others;
      few = leb-false backlog (length waiting) (ap (λ stage. nat_le backlog (length (waiting_of stage))) (sym listens) ∙ room);
      connected = ap (λ s. is_connected s.stage) made_is;
      nowhere = λ other waits.
          let was = linked.waiting other made (paired_waits sockets two client made (λ is. named (sym is)) paired linked no_peer no_peer_too other made waits) in
          let isnt : is_connected (stage_at sockets made) ≡ false = ap (λ s. is_connected s.stage) (none_there sockets made free) in cc;
    }) linked_two

-- a write that moves bytes had room for them
pub fits : (free m k : ℕ) (nonblock : Bool) → write_within free nonblock m ≡ Moves k → k ≤ free
fits free m k nonblock is = go (nat_le m free) refl is
  where
    rest : (full : Bool) → (free == 0) ≡ full → (if full then not_now nonblock else Moves free) ≡ Moves k → k ≤ free
    rest true e is = absurd (blocked nonblock is)
      where
        blocked : (now : Bool) → not_now now ≡ Moves k → ⊥
        blocked true is = cc
        blocked false is = cc
    rest false e is = let same : free ≡ k = cc in omega arith

    go : (all : Bool) → nat_le m free ≡ all → (if all then Moves m else (if free == 0 then not_now nonblock else Moves free)) ≡ Moves k → k ≤ free
    go true e is = let same : m ≡ k = cc in let le = leb-true m free e in omega arith
    go false e is = rest (free == 0) refl is

take_short : (k : ℕ) (bytes : List ℕ) → length (take k bytes) ≤ k
take_short k bytes = rw length-take (omega arith)

-- what a write needs of the peer that it goes to
sent_linked : (sockets : Sockets) (peer : Option ℕ) (bytes : List ℕ) (k : ℕ) (nonblock : Bool) → AreLinked sockets → ((place : ℕ) → peer ≡ Some place → is_connected (stage_at sockets place) ≡ true) → write_to sockets peer nonblock (length bytes) ≡ Moves k → AreLinked (sent_to sockets peer (take k bytes))
sent_linked sockets None bytes k nonblock linked connected is = linked
sent_linked sockets (Some peer) bytes k nonblock linked connected is = go (is_shut_read (stage_at sockets peer)) refl is
  where
    open_room : (stage : Stage) → is_connected stage ≡ true → is_shut_read stage ≡ false → room_of stage ≡ capacity
    open_room Idle is_so is_open = absurd (cc)
    open_room (Listening waiting) is_so is_open = absurd (cc)
    open_room (Connected other true shut_write) is_so is_open = absurd (cc)
    open_room (Connected other false shut_write) is_so is_open = refl

    go : (shut : Bool) → is_shut_read (stage_at sockets peer) ≡ shut → (if shut then Fails errno.EPIPE else write_within (free_at sockets peer) nonblock (length bytes)) ≡ Moves k → AreLinked (with_bytes sockets peer ((socket_at sockets peer).bytes ++ take k bytes))
    go true e is = absurd (cc)
    go false e is =
        let so = connected peer refl in
        let room = open_room (stage_at sockets peer) so e in
        let had = linked.room peer in
        let within = fits (free_at sockets peer) (length bytes) k nonblock is in
        let taken : length (take k bytes) ≤ k = take_short k bytes in
        bytes_linked sockets peer ((socket_at sockets peer).bytes ++ take k bytes) linked (connected_there sockets peer so) (rw (room, length-append) (let h : length (socket_at sockets peer).bytes ≤ capacity = rw room at had in omega (arith, h, within, taken)))

pub write_linked : (sockets : Sockets) (place : ℕ) (bytes : List ℕ) (k : ℕ) (nonblock : Bool) → AreLinked sockets → sock_write sockets place nonblock (length bytes) ≡ Moves k → AreLinked (after_write sockets place bytes k)
write_linked sockets place bytes k nonblock linked is = go (stage_at sockets place) refl is
  where
    go : (stage : Stage) → stage_at sockets place ≡ stage → write_in_stage sockets stage nonblock (length bytes) ≡ Moves k → AreLinked (sent_to sockets (peer_of stage) (take k bytes))
    go Idle e is = absurd (cc)
    go (Listening waiting) e is = absurd (cc)
    go (Connected peer shut_read true) e is = absurd (cc)
    go (Connected peer shut_read false) e is =
        sent_linked sockets peer bytes k nonblock linked (λ other named. has_peer (stage_at sockets other) place (linked.paired place other (ap peer_of e ∙ named))) is
