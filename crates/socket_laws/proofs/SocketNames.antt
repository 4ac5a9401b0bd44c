-- A node names at most one socket, before and after each call.
use Rattle.std.proofs.Common.{◌≡◌, ◌≢◌, inl, inr, ℕ, ℤ, ◌≤◌, false, List, [], ◌∷◌, ◌++◌, length, take, drop, Option, None, Some, IsSome, refl, sym, ap, ◌∙◌, arith}
use Rattle.std.proofs.lemmas.Bool.{cases_eq}
use Rattle.posix_defs.specs.Socket.{Stage, Listening, Connected, Socket, new_socket, connected_to, peer_of, waiting_of, listening, without_first, after_shutdown}
use Rattle.posix_defs.specs.Sockets.{Sockets, sock_at, socket_at, stage_at, with_socket, with_stage, with_name, with_new, with_pair, after_listen, after_connect, after_accept, after_read, sent_to, after_write, after_shut, gone, all_gone, after_close}
use Rattle.posix_defs.specs.SocketLinks.{AreLoose, AreLinked, AreNamedOnce, NamesNone, WaitsNowhere}
use Rattle.socket_laws.proofs.SocketTable.{length-with, there_within, Changed-with}
use Rattle.socket_laws.proofs.SocketLinked.{is_or_not}
use Rattle.socket_laws.proofs.SocketCalls.{gone_parted, gone_linked, listening_there, first_loose, rest_loose, waiting_loose}
use Rattle.socket_laws.proofs.SocketLaws.{peer_there}

-- who has a name has it still as before: no socket has got one
abbrev NoneGot : Sockets → Sockets → Type 0
NoneGot old new = (place number : ℕ) → (socket_at new place).node ≡ Some number → (socket_at old place).node ≡ Some number

fewer : (old new : Sockets) → NoneGot old new → AreNamedOnce old → AreNamedOnce new
fewer old new none once = record { one_socket = λ one other number here there. once.one_socket one other number (none one number here) (none other number there) }

-- one socket becomes another that has no other name
none_with : (sockets : Sockets) (place : ℕ) (socket : Socket) → place ≤ length sockets → ((number : ℕ) → socket.node ≡ Some number → (socket_at sockets place).node ≡ Some number) → NoneGot sockets (with_socket sockets place (Some socket))
none_with sockets place socket within same other number named =
    let changed = Changed-with sockets place (Some socket) within in
    elim (cases_eq other place) [
      | inl equal ↦ rw equal (same number (ap (λ (s : Socket). s.node) (sym changed.at) ∙ (rw equal at named)))
      | inr differs ↦ ap (λ (s : Socket). s.node) (sym (changed.others other differs)) ∙ named
    ]

-- in particular one that keeps its name, and one that has none
kept_with : (sockets : Sockets) (place : ℕ) (socket : Socket) → place ≤ length sockets → socket.node ≡ (socket_at sockets place).node → NoneGot sockets (with_socket sockets place (Some socket))
kept_with sockets place socket within same = none_with sockets place socket within (λ number named. sym same ∙ named)

nameless_with : (sockets : Sockets) (place : ℕ) (socket : Socket) → place ≤ length sockets → socket.node ≡ None → NoneGot sockets (with_socket sockets place (Some socket))
nameless_with sockets place socket within none = none_with sockets place socket within (λ number named. cc)

there_le : (sockets : Sockets) (place : ℕ) → IsSome (sock_at sockets place) → place ≤ length sockets
there_le sockets place there = let within = there_within sockets place there in omega arith

pub new_once : (sockets : Sockets) (made : ℕ) → made ≤ length sockets → AreNamedOnce sockets → AreNamedOnce (with_new sockets made)
new_once sockets made within = fewer sockets (with_new sockets made) (nameless_with sockets made new_socket within refl)

pub pair_once : (sockets : Sockets) (one other : ℕ) → one ≤ length sockets → other ≤ length (with_socket sockets one (Some (connected_to other))) → AreNamedOnce sockets → AreNamedOnce (with_pair sockets one other)
pair_once sockets one other one_within other_within once =
    let first = with_socket sockets one (Some (connected_to other)) in
    fewer first (with_pair sockets one other) (nameless_with first other (connected_to one) other_within refl) (fewer sockets first (nameless_with sockets one (connected_to other) one_within refl) once)

stage_once : (sockets : Sockets) (place : ℕ) (stage : Stage) → place ≤ length sockets → AreNamedOnce sockets → AreNamedOnce (with_stage sockets place stage)
stage_once sockets place stage within = fewer sockets (with_stage sockets place stage) (kept_with sockets place (record (socket_at sockets place) { stage = stage }) within refl)

pub connect_once : (sockets : Sockets) (client listener made : ℕ) (waiting : List ℕ) → IsSome (sock_at sockets client) → made ≤ length sockets → stage_at sockets listener ≡ Listening waiting → AreNamedOnce sockets → AreNamedOnce (after_connect sockets client listener made)
connect_once sockets client listener made waiting there within listens once =
    let one = with_socket sockets made (Some (connected_to client)) in
    let longer = length-with sockets made (Some (connected_to client)) in
    let client_within = there_le sockets client there in
    let two = with_stage one client (Connected (Some made) false false) in
    let longer_too = length-with one client (Some (record (socket_at one client) { stage = Connected (Some made) false false })) in
    let listener_within = there_le sockets listener (listening_there sockets listener waiting listens) in
    stage_once two listener (Listening (waiting_of (stage_at sockets listener) ++ made ∷ [])) (omega (arith, listener_within, longer, longer_too))
    (stage_once one client (Connected (Some made) false false) (omega (arith, client_within, longer))
    (fewer sockets one (nameless_with sockets made (connected_to client) within refl) once))

pub named_once : (sockets : Sockets) (place : ℕ) (node : Option ℕ) → IsSome (sock_at sockets place) → ((number : ℕ) → node ≡ Some number → NamesNone sockets number) → AreNamedOnce sockets → AreNamedOnce (with_name sockets place node)
named_once sockets place node there free once = record {
  one_socket = λ one other number here there_too. elim (cases_eq one place) [
    | inl same ↦ elim (cases_eq other place) [
      | inl same_too ↦ same ∙ sym same_too
      | inr differs ↦ absurd (free number (taken one number same here) other (left other number differs there_too))
    ]
    | inr differs ↦ elim (cases_eq other place) [
      | inl same ↦ absurd (free number (taken other number same there_too) one (left one number differs here))
      | inr differs_too ↦ once.one_socket one other number (left one number differs here) (left other number differs_too there_too)
    ]
  ];
}
  where
    next : Socket
    next = record (socket_at sockets place) { node = node }

    taken : (one number : ℕ) → one ≡ place → (socket_at (with_name sockets place node) one).node ≡ Some number → node ≡ Some number
    taken one number same here = ap (λ (s : Socket). s.node) (sym (Changed-with sockets place (Some next) (there_le sockets place there)).at) ∙ (rw same at here)

    left : (one number : ℕ) → one ≢ place → (socket_at (with_name sockets place node) one).node ≡ Some number → (socket_at sockets one).node ≡ Some number
    left one number differs here = ap (λ (s : Socket). s.node) (sym ((Changed-with sockets place (Some next) (there_le sockets place there)).others one differs)) ∙ here

pub listen_once : (sockets : Sockets) (place : ℕ) → IsSome (sock_at sockets place) → AreNamedOnce sockets → AreNamedOnce (after_listen sockets place)
listen_once sockets place there = stage_once sockets place (listening (stage_at sockets place)) (there_le sockets place there)

pub accept_once : (sockets : Sockets) (place : ℕ) → IsSome (sock_at sockets place) → AreNamedOnce sockets → AreNamedOnce (after_accept sockets place)
accept_once sockets place there = stage_once sockets place (without_first (stage_at sockets place)) (there_le sockets place there)

pub read_once : (sockets : Sockets) (place k : ℕ) → IsSome (sock_at sockets place) → AreNamedOnce sockets → AreNamedOnce (after_read sockets place k)
read_once sockets place k there = fewer sockets (after_read sockets place k) (kept_with sockets place (record (socket_at sockets place) { bytes = drop k (socket_at sockets place).bytes }) (there_le sockets place there) refl)

pub write_once : (sockets : Sockets) (place : ℕ) (bytes : List ℕ) (k : ℕ) → AreLinked sockets → AreNamedOnce sockets → AreNamedOnce (after_write sockets place bytes k)
write_once sockets place bytes k linked once = go (peer_of (stage_at sockets place)) refl
  where
    go : (peer : Option ℕ) → peer_of (stage_at sockets place) ≡ peer → AreNamedOnce (sent_to sockets peer (take k bytes))
    go None e = once
    go (Some peer) e = fewer sockets (sent_to sockets (Some peer) (take k bytes)) (kept_with sockets peer (record (socket_at sockets peer) { bytes = (socket_at sockets peer).bytes ++ take k bytes }) (there_le sockets peer (peer_there sockets place peer linked e)) refl) once

pub shut_once : (sockets : Sockets) (place : ℕ) (how : ℤ) → IsSome (sock_at sockets place) → AreNamedOnce sockets → AreNamedOnce (after_shut sockets place how)
shut_once sockets place how there = fewer sockets (after_shut sockets place how) (kept_with sockets place (after_shutdown (socket_at sockets place) how) (there_le sockets place there) refl)

gone_once : (sockets : Sockets) (place : ℕ) → AreLinked sockets → IsSome (sock_at sockets place) → AreNamedOnce sockets → AreNamedOnce (gone sockets place)
gone_once sockets place linked there = fewer sockets (gone sockets place) none
  where
    none : NoneGot sockets (gone sockets place)
    none other number named =
        let parted = gone_parted sockets place linked there in
        elim (cases_eq other place) [
          | inl same ↦ absurd (let it : (socket_at (gone sockets place) other).node ≡ None = ap (λ n. (socket_at (gone sockets place) n).node) same ∙ ap (λ (s : Socket). s.node) parted.gone in cc)
          | inr differs ↦ elim (is_or_not (peer_of (stage_at sockets place)) other) [
            | inl is ↦ ap (λ (s : Socket). s.node) (sym (parted.alone other is)) ∙ named
            | inr isnt ↦ ap (λ (s : Socket). s.node) (sym (parted.others other differs isnt)) ∙ named
          ]
        ]

all_gone_once : (sockets : Sockets) (places : List ℕ) → AreLinked sockets → AreLoose sockets places → AreNamedOnce sockets → AreNamedOnce (all_gone sockets places)
all_gone_once sockets [] linked loose once = once
all_gone_once sockets (place ∷ rest) linked loose once =
    let there = first_loose sockets place rest loose in
    all_gone_once (gone sockets place) rest (gone_linked sockets place linked there (loose.nowhere place (0, omega arith, refl))) (rest_loose sockets place rest linked loose) (gone_once sockets place linked there once)

pub close_once : (sockets : Sockets) (place : ℕ) → AreLinked sockets → IsSome (sock_at sockets place) → WaitsNowhere sockets place → AreNamedOnce sockets → AreNamedOnce (after_close sockets place)
close_once sockets place linked there nowhere once =
    all_gone_once (gone sockets place) (waiting_of (stage_at sockets place)) (gone_linked sockets place linked there nowhere) (waiting_loose sockets place linked there nowhere) (gone_once sockets place linked there once)
