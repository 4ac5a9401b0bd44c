-- Changes of several sockets, one after another.
use Rattle.std.proofs.Common.{◌≡◌, ◌≢◌, ℕ, ◌+◌, ◌<◌, ◌≤◌, true, false, List, [], ◌∷◌, ◌++◌, length, get_or, drop, cond, Option, None, Some, IsSome, refl, ap, sym, ◌∙◌, subst, inl, inr, arith}
use Rattle.std.specs.Prelude.{IfSome, unwrap_or}
use Rattle.std.specs.List.{position_from}
use Rattle.std.proofs.lemmas.Bool.{false≢true}
use Rattle.std.proofs.lemmas.Bool.Decides.{eqb_tells}
use Rattle.std.proofs.lemmas.List.{drop_more, length_push}
use Rattle.posix_defs.specs.Files.SocketNames.{listens_at}
use Rattle.posix_defs.specs.Files.State.{is_number}
use Rattle.posix_defs.specs.Socket.{Socket, Connected, Listening, connected_to, new_socket, peer_of, waiting_of}
use Rattle.posix_defs.specs.SocketLinks.{AreLinked, AreLoose, NamesNone}
use Rattle.posix_defs.specs.Sockets.{Sockets, after_connect, all_gone, gone, left_alone, sock_at, socket_at, stage_at, with_pair, with_socket, with_stage}
use Rattle.socket_laws.proofs.SocketCalls.{first_loose, gone_linked, rest_loose}
use Rattle.socket_laws.proofs.SocketLaws.{peer_there, peers_differ}
use Rattle.socket_laws.proofs.SocketTable.{sock_at-with_other, there_within, with-length}
use Rattle.plain_bytes.proofs.PlaceLemmas.{passes_nowhere, passes_there}
use Rattle.kept_places.specs.Places.{there_from}
use Rattle.plain_sockets.specs.Held.{Held, first_bound, first_listening, is_bound_to, sockets_in}

-- one that is there is there still after a change elsewhere
pub still : (sockets : Sockets) (place other : ℕ) (socket : Option Socket) → place ≤ length sockets → other ≢ place → IsSome (sock_at sockets other)
    → IsSome (sock_at (with_socket sockets place socket) other)
still sockets place other socket within differs there = subst (λ o. IsSome o) (sym (sock_at-with_other sockets place other socket within differs)) there

-- ---- connect

module _ (sockets : Sockets) (client listener : ℕ) (client_there : IsSome (sock_at sockets client)) (listener_there : IsSome (sock_at sockets listener)) (apart : client ≢ listener) where
  pub client_still : IsSome (sock_at (with_socket sockets (length sockets) (Some (connected_to client))) client)
  client_still =
      let within : client < length sockets = there_within sockets client client_there in
      still sockets (length sockets) client (Some (connected_to client)) (omega arith) (λ same. omega arith) client_there

  listener_beside : IsSome (sock_at (with_socket sockets (length sockets) (Some (connected_to client))) listener)
  listener_beside =
      let within : listener < length sockets = there_within sockets listener listener_there in
      still sockets (length sockets) listener (Some (connected_to client)) (omega arith) (λ same. omega arith) listener_there

  client_within : client ≤ length (with_socket sockets (length sockets) (Some (connected_to client)))
  client_within =
      let within : client < length (with_socket sockets (length sockets) (Some (connected_to client))) =
      there_within (with_socket sockets (length sockets) (Some (connected_to client))) client client_still in omega arith

  pub listener_still : (made : ℕ) → made ≡ length sockets
      → IsSome (sock_at (with_stage (with_socket sockets (length sockets) (Some (connected_to client))) client (Connected (Some made) false false)) listener)
  listener_still made is =
      still (with_socket sockets (length sockets) (Some (connected_to client))) client listener _ client_within (λ same. apart (sym same)) listener_beside

  listener_stage : stage_at (with_stage (with_socket sockets (length sockets) (Some (connected_to client))) client (Connected (Some (length sockets)) false false)) listener
      ≡ stage_at sockets listener
  listener_stage =
      let within : listener < length sockets = there_within sockets listener listener_there in
      ap (λ o. (unwrap_or o new_socket).stage)
      (sock_at-with_other (with_socket sockets (length sockets) (Some (connected_to client))) client listener _ client_within (λ same. apart (sym same))
      ∙ sock_at-with_other sockets (length sockets) listener (Some (connected_to client)) (omega arith) (λ same. omega arith))

  pub connected : with_stage (with_stage (with_socket sockets (length sockets) (Some (connected_to client))) client (Connected (Some (length sockets)) false false)) listener
      (Listening (waiting_of (stage_at (with_stage (with_socket sockets (length sockets) (Some (connected_to client))) client (Connected (Some (length sockets)) false false)) listener) ++ length sockets ∷ []))
      ≡ after_connect sockets client listener (length sockets)
  connected =
      ap (λ stage. with_stage (with_stage (with_socket sockets (length sockets) (Some (connected_to client))) client (Connected (Some (length sockets)) false false)) listener
      (Listening (waiting_of stage ++ length sockets ∷ []))) listener_stage

-- ---- two that are connected to each other

longer : (sockets : Sockets) (socket : Option Socket) → length (with_socket sockets (length sockets) socket) ≡ length sockets + 1
longer sockets socket = ap length (with-length sockets socket) ∙ length_push sockets socket

pub longer_by_one : (sockets added : Sockets) (socket : Option Socket) → added ≡ with_socket sockets (length sockets) socket → length added ≡ length sockets + 1
longer_by_one sockets added socket is = ap length is ∙ longer sockets socket

pub paired : (sockets joined both : Sockets) (one : ℕ) (first second : Held) → one ≡ length sockets
    → first ≡ record { socket = connected_to (one + 1); front = 0 } → joined ≡ with_socket sockets (length sockets) (Some first.socket)
    → second ≡ record { socket = connected_to one; front = 0 } → both ≡ with_socket joined (length joined) (Some second.socket)
    → both ≡ with_pair sockets (length sockets) (length sockets + 1)
paired sockets joined both one first second at first_is added second_is last =
    let made : joined ≡ with_socket sockets (length sockets) (Some (connected_to (length sockets + 1))) =
    added ∙ ap (λ (held : Held). with_socket sockets (length sockets) (Some held.socket)) first_is
    ∙ ap (λ n. with_socket sockets (length sockets) (Some (connected_to (n + 1)))) at in
    last
    ∙ ap (λ n. with_socket joined n (Some second.socket)) (longer_by_one sockets joined (Some first.socket) added)
    ∙ ap (λ (held : Held). with_socket joined (length sockets + 1) (Some held.socket)) second_is
    ∙ ap (λ n. with_socket joined (length sockets + 1) (Some (connected_to n))) at
    ∙ ap (λ all. with_socket all (length sockets + 1) (Some (connected_to (length sockets)))) made

-- ---- going

pub peer_still : (sockets : Sockets) (place peer : ℕ) → AreLinked sockets → IsSome (sock_at sockets place) → peer_of (stage_at sockets place) ≡ Some peer
    → IsSome (sock_at (with_socket sockets place None) peer)
peer_still sockets place peer linked there is =
    let within : place < length sockets = there_within sockets place there in
    still sockets place peer None (omega arith) (λ same. peers_differ sockets place peer linked is (sym same)) (peer_there sockets place peer linked is)

pub peers_still : (sockets : Sockets) (place : ℕ) (peer : Option ℕ) → AreLinked sockets → IsSome (sock_at sockets place) → peer_of (stage_at sockets place) ≡ peer
    → IfSome peer (λ other. IsSome (sock_at (with_socket sockets place None) other))
peers_still sockets place None linked there is = tt
peers_still sockets place (Some peer) linked there is = peer_still sockets place peer linked there is

pub gone_with : (sockets : Sockets) (place : ℕ) (peer : Option ℕ) → peer_of (stage_at sockets place) ≡ peer → gone sockets place ≡ left_alone (with_socket sockets place None) peer
gone_with sockets place peer is = ap (left_alone (with_socket sockets place None)) is

-- of those that go one after another the next is there, and once it has gone the others can
pub next_there : (sockets : Sockets) (places : List ℕ) (i : ℕ) → i < length places → AreLoose sockets (drop i places) → IsSome (sock_at sockets (get_or places i 0))
next_there sockets places i lt loose = first_loose sockets (get_or places i 0) (drop (i + 1) places) (subst (AreLoose sockets) (drop_more places i 0 lt) loose)

pub next_linked : (sockets : Sockets) (places : List ℕ) (i : ℕ) → i < length places → AreLinked sockets → AreLoose sockets (drop i places) → AreLinked (gone sockets (get_or places i 0))
next_linked sockets places i lt linked loose =
    let whole = subst (AreLoose sockets) (drop_more places i 0 lt) loose in
    gone_linked sockets (get_or places i 0) linked (next_there sockets places i lt loose) (whole.nowhere (get_or places i 0) (0, omega arith, refl))

pub next_loose : (sockets : Sockets) (places : List ℕ) (i : ℕ) → i < length places → AreLinked sockets → AreLoose sockets (drop i places)
    → AreLoose (gone sockets (get_or places i 0)) (drop (i + 1) places)
next_loose sockets places i lt linked loose =
    rest_loose sockets (get_or places i 0) (drop (i + 1) places) linked (subst (AreLoose sockets) (drop_more places i 0 lt) loose)

pub next_gone : (sockets all : Sockets) (places : List ℕ) (i : ℕ) → i < length places → all_gone sockets (drop i places) ≡ all
    → all_gone (gone sockets (get_or places i 0)) (drop (i + 1) places) ≡ all
next_gone sockets all places i lt is = ap (all_gone sockets) (sym (drop_more places i 0 lt)) ∙ is

-- ---- who is bound to a node

is_same : (number : ℕ) (node : Option ℕ) → is_number number node ≡ true → node ≡ Some number
is_same number None is = absurd (cc)
is_same number (Some other) is = elim (eqb_tells other number) [
  | inl (holds, same) ↦ ap Some same
  | inr (fails, differs) ↦ absurd (false≢true (sym fails ∙ is))
]

number_same : (number : ℕ) → is_number number (Some number) ≡ true
number_same number = elim (eqb_tells number number) [
  | inl (holds, same) ↦ holds
  | inr (fails, differs) ↦ absurd (differs refl)
]

bound_there : (number : ℕ) (o : Option Socket) → is_bound_to number o ≡ true → IsSome o
bound_there number None is = absurd (cc)
bound_there number (Some socket) is = refl

bound_name : (number : ℕ) (o : Option Socket) → is_bound_to number o ≡ true → (unwrap_or o new_socket).node ≡ Some number
bound_name number None is = absurd (cc)
bound_name number (Some socket) is = is_same number socket.node is

bound_not : (number : ℕ) (o : Option Socket) → is_bound_to number o ≡ false → (unwrap_or o new_socket).node ≢ Some number
bound_not number None fails name = cc
bound_not number (Some socket) fails name = false≢true (sym fails ∙ ap (is_number number) name ∙ number_same number)

pub is_bound : (number : ℕ) (sockets : Sockets) (place : ℕ) → position_from (is_bound_to number) 0 sockets ≡ Some place
    → IsSome (sock_at sockets place) × ((socket_at sockets place).node ≡ Some number)
is_bound number sockets place is =
    let passes = passes_there (is_bound_to number) sockets place is in
    (bound_there number (sock_at sockets place) passes, bound_name number (sock_at sockets place) passes)

pub nobody_bound : (number : ℕ) (sockets : Sockets) → position_from (is_bound_to number) 0 sockets ≡ None → NamesNone sockets number
nobody_bound number sockets is place = bound_not number (sock_at sockets place) (passes_nowhere (is_bound_to number) 0 sockets refl is place)

-- ---- the first of those that are there

pub listening_there : (number from : ℕ) (held : List (Option Held)) → first_listening number (there_from from held) ≡ position_from (listens_at number) from (sockets_in held)
listening_there number from [] = refl
listening_there number from (None ∷ rest) = listening_there number (from + 1) rest
listening_there number from (Some old ∷ rest) = ap (cond (listens_at number (Some old.socket)) (Some from)) (listening_there number (from + 1) rest)

pub bound_first : (number from : ℕ) (held : List (Option Held)) → first_bound number (there_from from held) ≡ position_from (is_bound_to number) from (sockets_in held)
bound_first number from [] = refl
bound_first number from (None ∷ rest) = bound_first number (from + 1) rest
bound_first number from (Some old ∷ rest) = ap (cond (is_number number old.socket.node) (Some from)) (bound_first number (from + 1) rest)
