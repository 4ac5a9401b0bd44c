-- Calls on sockets that name nobody.
use Rattle.std.proofs.Common.{◌≡◌, ℕ, ℤ, ◌+◌, ◌≤◌, ◌++◌, Bool, List, [], ◌∷◌, length, take, drop, Option, None, Some, IsSome, unwrap_or, refl, sym, ap, ◌∙◌, arith, inl, Contains}
use Rattle.std.proofs.lemmas.List.{get_or_past}
use Rattle.std.proofs.lemmas.List.Elements.{Contains-append_right}
use Rattle.posix_defs.specs.Files.State.{Files, with_sockets}
use Rattle.posix_defs.specs.Socket.{Stage, Idle, Listening, Connected, Socket, after_shutdown, behind_first, connected_to, listening, new_socket, peer_of, shut_further, shuts_reading, shuts_writing, waiting_of, without_first}
use Rattle.posix_defs.specs.SocketLinks.{AreLinked, WaitsFor}
use Rattle.posix_defs.specs.Sockets.{Sockets, after_accept, after_listen, after_read, after_shut, after_write, sent_to, sock_at, socket_at, stage_at, with_new, with_pair, with_socket}
use Rattle.socket_laws.proofs.SocketLaws.{peer_there}
use Rattle.socket_laws.proofs.SocketLinked.{each}
use Rattle.socket_laws.proofs.SocketTable.{Changed, Changed-with, there_within, with-length}
use Rattle.std.proofs.Common.{length-append}
use Rattle.proc_files.specs.Holders.{HaveNames}
use Rattle.proc_files.proofs.Named.{names_fewer}
use Rattle.proc_files.proofs.Tables.{node_of}
use Rattle.proc_files.proofs.Ties.{none_is}

-- ---- one socket becomes another, which has the same name, and for which nobody waits anew

module _ (files : Files) (place : ℕ) (socket : Socket) (within : place ≤ length files.sockets) (same : socket.node ≡ node_of files.sockets place)
    (fewer : (other : ℕ) → Contains (waiting_of socket.stage) other → WaitsFor files.sockets place other) (names : HaveNames files) where
  change : Changed files.sockets (with_socket files.sockets place (Some socket)) place socket
  change = Changed-with files.sockets place (Some socket) within

  nodes : (other : ℕ) → node_of (with_socket files.sockets place (Some socket)) other ≡ node_of files.sockets other
  nodes = each (λ other s. s.node ≡ node_of files.sockets other) files.sockets (with_socket files.sockets place (Some socket)) place socket change same (λ other apart. refl)

  waits : (listener other : ℕ) → WaitsFor (with_socket files.sockets place (Some socket)) listener other → WaitsFor files.sockets listener other
  waits =
      each (λ listener s. (other : ℕ) → Contains (waiting_of s.stage) other → WaitsFor files.sockets listener other) files.sockets (with_socket files.sockets place (Some socket)) place socket change fewer
      (λ listener apart other among. among)

  pub names_left : HaveNames (with_sockets files (with_socket files.sockets place (Some socket)))
  names_left =
      names_fewer None files (with_socket files.sockets place (Some socket)) names (λ other number is. (sym (nodes other) ∙ is, λ none. none_is none)) (λ listener other among. inl (waits listener other among))

nobody : (other : ℕ) → Contains [] other → ⊥
nobody other among = omega (arith, among.1)

-- no socket is at the end
past : (sockets : Sockets) → None ≡ node_of sockets (length sockets)
past sockets = sym (ap (λ (o : Option Socket). (unwrap_or o new_socket).node) (get_or_past sockets (length sockets) None (omega arith)))

there_le : (sockets : Sockets) (place : ℕ) → IsSome (sock_at sockets place) → place ≤ length sockets
there_le sockets place there = let within = there_within sockets place there in omega (arith, within)

pub new_left : (files : Files) → HaveNames files → HaveNames (with_sockets files (with_new files.sockets (length files.sockets)))
new_left files names = names_left files (length files.sockets) new_socket (omega arith) (past files.sockets) (λ other among. absurd (nobody other among)) names

pub pair_left : (files : Files) → HaveNames files → HaveNames (with_sockets files (with_pair files.sockets (length files.sockets) (length files.sockets + 1)))
pair_left files names =
    let first = with_sockets files (with_socket files.sockets (length files.sockets) (Some (connected_to (length files.sockets + 1)))) in
    let one = names_left files (length files.sockets) (connected_to (length files.sockets + 1)) (omega arith) (past files.sockets) (λ other among. absurd (nobody other among)) names in
    let long : length first.sockets ≡ length files.sockets + 1 =
    ap length (with-length files.sockets (Some (connected_to (length files.sockets + 1))))
    ∙ (let more = length-append files.sockets (Some (connected_to (length files.sockets + 1)) ∷ []) in let single : length (Some (connected_to (length files.sockets + 1)) ∷ []) ≡ 1 = refl in omega (arith, more, single)) in
    names_left first (length files.sockets + 1) (connected_to (length files.sockets)) (omega (arith, long)) (past first.sockets ∙ ap (node_of first.sockets) long) (λ other among. absurd (nobody other among)) one

listening_waits : (stage : Stage) (other : ℕ) → Contains (waiting_of (listening stage)) other → Contains (waiting_of stage) other
listening_waits Idle other among = among
listening_waits (Listening waiting) other among = among
listening_waits (Connected peer shut_read shut_write) other among = among

pub listen_left : (files : Files) (place : ℕ) → IsSome (sock_at files.sockets place) → HaveNames files → HaveNames (with_sockets files (after_listen files.sockets place))
listen_left files place there names =
    names_left files place (record (socket_at files.sockets place) { stage = listening (stage_at files.sockets place) }) (there_le files.sockets place there) refl
    (listening_waits (stage_at files.sockets place)) names

behind_waits : (waiting : List ℕ) (other : ℕ) → Contains (behind_first waiting) other → Contains waiting other
behind_waits [] other among = among
behind_waits (first ∷ rest) other among = Contains-append_right (first ∷ []) rest other among

accepted_waits : (stage : Stage) (other : ℕ) → Contains (waiting_of (without_first stage)) other → Contains (waiting_of stage) other
accepted_waits Idle other among = among
accepted_waits (Listening waiting) other among = behind_waits waiting other among
accepted_waits (Connected peer shut_read shut_write) other among = among

pub accept_left : (files : Files) (place : ℕ) → IsSome (sock_at files.sockets place) → HaveNames files → HaveNames (with_sockets files (after_accept files.sockets place))
accept_left files place there names =
    names_left files place (record (socket_at files.sockets place) { stage = without_first (stage_at files.sockets place) }) (there_le files.sockets place there) refl
    (accepted_waits (stage_at files.sockets place)) names

pub read_left : (files : Files) (place count : ℕ) → IsSome (sock_at files.sockets place) → HaveNames files → HaveNames (with_sockets files (after_read files.sockets place count))
read_left files place count there names =
    names_left files place (record (socket_at files.sockets place) { bytes = drop count (socket_at files.sockets place).bytes }) (there_le files.sockets place there) refl (λ other among. among) names

pub write_left : (files : Files) (place : ℕ) (bytes : List ℕ) (count : ℕ) → AreLinked files.sockets → HaveNames files → HaveNames (with_sockets files (after_write files.sockets place bytes count))
write_left files place bytes count linked names = by_peer (peer_of (stage_at files.sockets place)) refl
  where
    by_peer : (o : Option ℕ) → peer_of (stage_at files.sockets place) ≡ o → HaveNames (with_sockets files (sent_to files.sockets o (take count bytes)))
    by_peer None is = names
    by_peer (Some peer) is =
        names_left files peer (record (socket_at files.sockets peer) { bytes = (socket_at files.sockets peer).bytes ++ take count bytes }) (there_le files.sockets peer (peer_there files.sockets place peer linked is)) refl
        (λ other among. among) names

shut_waits : (reading writing : Bool) (stage : Stage) (other : ℕ) → Contains (waiting_of (shut_further reading writing stage)) other → Contains (waiting_of stage) other
shut_waits reading writing Idle other among = among
shut_waits reading writing (Listening waiting) other among = among
shut_waits reading writing (Connected peer shut_read shut_write) other among = among

pub shut_left : (files : Files) (place : ℕ) (how : ℤ) → IsSome (sock_at files.sockets place) → HaveNames files → HaveNames (with_sockets files (after_shut files.sockets place how))
shut_left files place how there names =
    names_left files place (after_shutdown (socket_at files.sockets place) how) (there_le files.sockets place there) refl (shut_waits (shuts_reading how) (shuts_writing how) (stage_at files.sockets place)) names
