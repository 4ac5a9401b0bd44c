-- What the list of sockets has at a place, and the lengths of all.
use Rattle.std.proofs.Common.{◌≡◌, ℕ, List, [], ◌∷◌, length, Option, None, Some, refl, ap, sym, ◌∙◌}
use Rattle.std.specs.Prelude.{unwrap_or}
use Rattle.std.specs.Option.{option_map}
use Rattle.posix_defs.specs.Account.{fronts_after}
use Rattle.posix_defs.specs.Socket.{new_socket}
use Rattle.posix_defs.specs.Sockets.{sock_at, socket_at}
use Rattle.kept_places.specs.Places.{IsThere, at}
use Rattle.plain_bytes.specs.Many.{Follow, lengths, queues_of}
use Rattle.plain_bytes.proofs.PlaceLemmas.{at_mapped, is_there}
use Rattle.plain_sockets.specs.Held.{FrontsFollow, HasSocket, Held, fronts_in, lengths_in, queue_of, socket_of, sockets_in}

pub sock_here : (held : List (Option Held)) (place : ℕ) (old : Held) → at held place ≡ Some old → sock_at (sockets_in held) place ≡ Some old.socket
sock_here held place old there = at_mapped socket_of held place ∙ ap (option_map socket_of) there

pub socket_is : (held : List (Option Held)) (place : ℕ) (old : Held) → at held place ≡ Some old → socket_at (sockets_in held) place ≡ old.socket
socket_is held place old there = ap (λ o. unwrap_or o new_socket) (sock_here held place old there)

-- a socket that is there is kept
pub is_kept : (held : List (Option Held)) (place : ℕ) → HasSocket held place → IsThere held place
is_kept held place has = is_there socket_of held place has

pub lengths_same : (held : List (Option Held)) → lengths_in held ≡ lengths (queues_of queue_of held)
lengths_same [] = refl
lengths_same (None ∷ rest) = ap (λ xs. 0 ∷ xs) (lengths_same rest)
lengths_same (Some old ∷ rest) = ap (λ xs. length old.socket.bytes ∷ xs) (lengths_same rest)

-- the account's lengths are those of the queues
pub fronts_follow : (old new : List (Option Held)) → Follow (queues_of queue_of old) (queues_of queue_of new) → FrontsFollow old new
fronts_follow old new follow =
    follow ∙ ap (λ n. fronts_after n (lengths (queues_of queue_of new)) (fronts_in old)) (sym (lengths_same old))
    ∙ ap (λ n. fronts_after (lengths_in old) n (fronts_in old)) (sym (lengths_same new))
