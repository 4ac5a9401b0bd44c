-- A table of sockets by key and the same one by place, where a socket changes and where sockets go.
use Rattle.std.proofs.Common.{◌≡◌, ◌≢◌, ℕ, zero, suc, ◌<◌, List, [], ◌∷◌, set, map, length, Option, None, Some, IsSome, unwrap_or, refl, sym, ap, subst, ◌∙◌, arith}
use Rattle.std.specs.Option.{option_map}
use Rattle.kheap_slabs.proofs.ObjectLemmas.{object_of}
use Rattle.posix_defs.specs.Socket.{Stage, Idle, Listening, Connected, Socket, new_socket, peer_of, waiting_of, without_peer}
use Rattle.posix_defs.specs.Sockets.{Sockets, sock_at, socket_at, stage_at, with_socket, left_alone, gone, all_gone, after_close}
use Rattle.posix_defs.specs.SocketLinks.{AreLinked, AreLoose, WaitsNowhere}
use Rattle.socket_laws.proofs.SocketTable.{sock_at-with_other, there_within}
use Rattle.socket_laws.proofs.SocketLaws.{peer_there, peers_differ}
use Rattle.socket_laws.proofs.SocketCalls.{gone_linked, first_loose, rest_loose, waiting_loose}
use Rattle.open_laws.proofs.PlaceLemmas.{law_changes, law_goes}
use Rattle.open_laws.specs.Socketed.{stage_by, socket_by, AreRenamed}

-- ---- a socket at its place

-- what stands at the place of a key that is in use
pub placed_there : (number : ℕ → ℕ) (keyed sockets : Sockets) (key : ℕ) → AreRenamed number keyed sockets → IsSome (sock_at keyed key)
    → sock_at sockets (number key) ≡ Some (socket_by number (socket_at keyed key))
placed_there number keyed sockets key are used =
    let o = object_of keyed key used in let f = are.there key o.0 o.1 in
    f.1 ∙ ap Some (are.means key o.0 f.0 o.1 f.1 ∙ ap (λ (held : Option Socket). socket_by number (unwrap_or held new_socket)) (sym o.1))

pub placed_at : (number : ℕ → ℕ) (keyed sockets : Sockets) (key : ℕ) → AreRenamed number keyed sockets → IsSome (sock_at keyed key)
    → socket_at sockets (number key) ≡ socket_by number (socket_at keyed key)
placed_at number keyed sockets key are used = ap (λ (held : Option Socket). unwrap_or held new_socket) (placed_there number keyed sockets key are used)

pub placed_stage : (number : ℕ → ℕ) (keyed sockets : Sockets) (key : ℕ) → AreRenamed number keyed sockets → IsSome (sock_at keyed key)
    → stage_at sockets (number key) ≡ stage_by number (stage_at keyed key)
placed_stage number keyed sockets key are used = ap (λ (socket : Socket). socket.stage) (placed_at number keyed sockets key are used)

placed_within : (number : ℕ → ℕ) (keyed sockets : Sockets) (key : ℕ) → AreRenamed number keyed sockets → IsSome (sock_at keyed key) → number key < length sockets
placed_within number keyed sockets key are used =
    there_within sockets (number key) (subst IsSome (sym (placed_there number keyed sockets key are used)) refl)

-- ---- one changes

with_set : (sockets : Sockets) (place : ℕ) (socket : Option Socket) → place < length sockets → with_socket sockets place socket ≡ set sockets place socket
with_set [] place socket within = absurd (omega (arith, within))
with_set (other ∷ rest) zero socket within = refl
with_set (other ∷ rest) (suc place) socket within = ap (λ (list : Sockets). other ∷ list) (with_set rest place socket (omega (arith, within)))

-- a socket becomes another at its key and at its place
pub renamed_changed : (number : ℕ → ℕ) (keyed sockets : Sockets) (key : ℕ) (now : Socket) → AreRenamed number keyed sockets → IsSome (sock_at keyed key)
    → AreRenamed number (with_socket keyed key (Some now)) (with_socket sockets (number key) (Some (socket_by number now)))
renamed_changed number keyed sockets key now are used =
    subst (λ (list : Sockets). AreRenamed number list (with_socket sockets (number key) (Some (socket_by number now)))) (sym (with_set keyed key (Some now) (there_within keyed key used)))
    (subst (λ (list : Sockets). AreRenamed number (set keyed key (Some now)) list) (sym (with_set sockets (number key) (Some (socket_by number now)) (placed_within number keyed sockets key are used)))
    (law_changes (λ k socket. socket_by number socket) number keyed sockets key now used are))

renamed_without : (number : ℕ → ℕ) (keyed sockets : Sockets) (key : ℕ) → AreRenamed number keyed sockets → IsSome (sock_at keyed key)
    → AreRenamed number (with_socket keyed key None) (with_socket sockets (number key) None)
renamed_without number keyed sockets key are used =
    subst (λ (list : Sockets). AreRenamed number list (with_socket sockets (number key) None)) (sym (with_set keyed key None (there_within keyed key used)))
    (subst (λ (list : Sockets). AreRenamed number (set keyed key None) list) (sym (with_set sockets (number key) None (placed_within number keyed sockets key are used)))
    (law_goes (λ k socket. socket_by number socket) number keyed sockets key used are))

-- ---- sockets go

peer_of-by : (number : ℕ → ℕ) (stage : Stage) → peer_of (stage_by number stage) ≡ option_map number (peer_of stage)
peer_of-by number Idle = refl
peer_of-by number (Listening waiting) = refl
peer_of-by number (Connected peer shut_read shut_write) = refl

waiting_of-by : (number : ℕ → ℕ) (stage : Stage) → waiting_of (stage_by number stage) ≡ map number (waiting_of stage)
waiting_of-by number Idle = refl
waiting_of-by number (Listening waiting) = refl
waiting_of-by number (Connected peer shut_read shut_write) = refl

without_peer-by : (number : ℕ → ℕ) (stage : Stage) → without_peer (stage_by number stage) ≡ stage_by number (without_peer stage)
without_peer-by number Idle = refl
without_peer-by number (Listening waiting) = refl
without_peer-by number (Connected peer shut_read shut_write) = refl

-- a socket without its peer
abbrev to_nobody : Socket → Socket
to_nobody socket = record socket { stage = without_peer socket.stage }

pub gone_renamed : (number : ℕ → ℕ) (keyed sockets : Sockets) (key : ℕ) → AreLinked keyed → IsSome (sock_at keyed key)
    → AreRenamed number keyed sockets → AreRenamed number (gone keyed key) (gone sockets (number key))
gone_renamed number keyed sockets key linked used are =
    subst (λ (peer : Option ℕ). AreRenamed number (gone keyed key) (left_alone placed peer))
    (sym (ap peer_of (placed_stage number keyed sockets key are used) ∙ peer_of-by number (stage_at keyed key)))
    (go (peer_of (stage_at keyed key)) refl)
  where
    without : Sockets
    without = with_socket keyed key None

    placed : Sockets
    placed = with_socket sockets (number key) None

    left : AreRenamed number without placed
    left = renamed_without number keyed sockets key are used

    go : (peer : Option ℕ) → peer_of (stage_at keyed key) ≡ peer → AreRenamed number (left_alone without peer) (left_alone placed (option_map number peer))
    go None is = left
    go (Some peer) is =
        let within = there_within keyed key used in
        let apart : peer ≢ key = λ same. peers_differ keyed key peer linked is (sym same) in
        let there : IsSome (sock_at without peer) = subst IsSome (sym (sock_at-with_other keyed key peer None (omega (arith, within)) apart)) (peer_there keyed key peer linked is) in
        let same : to_nobody (socket_at placed (number peer)) ≡ socket_by number (to_nobody (socket_at without peer)) =
        ap to_nobody (placed_at number without placed peer left there)
        ∙ ap (λ (stage : Stage). record (socket_at without peer) { stage = stage }) (without_peer-by number (stage_at without peer)) in
        subst (λ (socket : Socket). AreRenamed number (left_alone without (Some peer)) (with_socket placed (number peer) (Some socket))) (sym same)
        (renamed_changed number without placed peer (to_nobody (socket_at without peer)) left there)

pub all_gone_renamed : (number : ℕ → ℕ) (keyed sockets : Sockets) (keys : List ℕ) → AreLinked keyed → AreLoose keyed keys
    → AreRenamed number keyed sockets → AreRenamed number (all_gone keyed keys) (all_gone sockets (map number keys))
all_gone_renamed number keyed sockets [] linked loose are = are
all_gone_renamed number keyed sockets (key ∷ rest) linked loose are =
    let used = first_loose keyed key rest loose in
    all_gone_renamed number (gone keyed key) (gone sockets (number key)) rest
    (gone_linked keyed key linked used (loose.nowhere key (0, omega arith, refl))) (rest_loose keyed key rest linked loose)
    (gone_renamed number keyed sockets key linked used are)

-- a socket is closed with those that wait for it
pub closed_renamed : (number : ℕ → ℕ) (keyed sockets : Sockets) (key : ℕ) → AreLinked keyed → IsSome (sock_at keyed key) → WaitsNowhere keyed key
    → AreRenamed number keyed sockets → AreRenamed number (after_close keyed key) (after_close sockets (number key))
closed_renamed number keyed sockets key linked used nowhere are =
    subst (λ (places : List ℕ). AreRenamed number (after_close keyed key) (all_gone (gone sockets (number key)) places))
    (sym (ap waiting_of (placed_stage number keyed sockets key are used) ∙ waiting_of-by number (stage_at keyed key)))
    (all_gone_renamed number (gone keyed key) (gone sockets (number key)) (waiting_of (stage_at keyed key))
    (gone_linked keyed key linked used nowhere) (waiting_loose keyed key linked used nowhere)
    (gone_renamed number keyed sockets key linked used are))
