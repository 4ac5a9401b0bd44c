-- What one socket's change, its going and its coming leave of the list of sockets and of the fronts.
use Rattle.std.proofs.Common.{◌≡◌, ℕ, zero, suc, ◌<◌, List, [], ◌∷◌, ◌++◌, length, set, Option, None, Some, refl, ap, sym, ◌∙◌, subst, inl, arith}
use Rattle.std.specs.Prelude.{is_some}
use Rattle.std.specs.Option.{option_map}
use Rattle.std.proofs.lemmas.List.{map-set, map_push}
use Rattle.posix_defs.specs.Socket.{Socket}
use Rattle.posix_defs.specs.Sockets.{Sockets, socket_at, with_socket}
use Rattle.socket_laws.proofs.SocketTable.{there_within, with-length}
use Rattle.kept_places.specs.Places.{at, put, without}
use Rattle.plain_bytes.specs.Unread.{nothing}
use Rattle.plain_bytes.specs.Many.{AreKept, Fade, queues_of}
use Rattle.plain_bytes.proofs.ManyLemmas.{fade_further, fade_same, follow_fade, follow_set}
use Rattle.plain_bytes.proofs.KeptLemmas.{fade_added, fade_out, fade_put, follow_put, queue_here}
use Rattle.plain_sockets.specs.Held.{FrontsFollow, Held, OnlyFades, queue_of, socket_of, sockets_in, with_unread}
use Rattle.plain_sockets.proofs.PlaceLemmas.{fronts_follow, sock_here, socket_is}

with_set : (sockets : Sockets) (place : ℕ) (socket : Option Socket) → place < length sockets → with_socket sockets place socket ≡ set sockets place socket
with_set [] place socket lt = absurd (omega arith)
with_set (first ∷ rest) zero socket lt = refl
with_set (first ∷ rest) (suc place) socket lt = ap (λ xs. first ∷ xs) (with_set rest place socket (omega arith))

module _ (held : List (Option Held)) (place : ℕ) (old : Held) (there : at held place ≡ Some old) where
  within : place < length (sockets_in held)
  within = there_within (sockets_in held) place (ap is_some (sock_here held place old there))

  pub sockets_turned : (next : Socket → Socket) (now : Held) → now.socket ≡ next old.socket
      → sockets_in (put held place now) ≡ with_socket (sockets_in held) place (Some (next (socket_at (sockets_in held) place)))
  sockets_turned next now same =
      map-set (option_map socket_of) held place (Some now)
      ∙ ap (λ s. set (sockets_in held) place (Some s)) (same ∙ ap next (sym (socket_is held place old there)))
      ∙ sym (with_set (sockets_in held) place (Some (next (socket_at (sockets_in held) place))) within)

  -- where its bytes stay
  pub fades_put : (chunks : ℕ) (now : Held) → AreKept queue_of held chunks → queue_of now ≡ queue_of old → OnlyFades held (put held place now)
  fades_put chunks now are same = record { queues = are.queues; fade = fade_put queue_of held place old there now (inl same) }

  -- where its front moves with them
  pub fronts_put : (chunks : ℕ) (now : Held) → AreKept queue_of held chunks → now.front ≡ (with_unread old now.socket.bytes).front
      → FrontsFollow held (put held place now)
  fronts_put chunks now are moved =
      fronts_follow held (put held place now)
      (follow_put queue_of held place old there now are.queues
      (follow_set (queues_of queue_of held) place (queue_of old) (queue_of now) are.queues (queue_here queue_of held place old there) moved))

  -- the same where the bytes are given
  pub fronts_unread : (chunks : ℕ) (bytes : List ℕ) (now : Held) → AreKept queue_of held chunks → now ≡ with_unread old bytes
      → FrontsFollow held (put held place now)
  fronts_unread chunks bytes now are is =
      subst (λ n. FrontsFollow held (put held place n)) (sym is) (fronts_put chunks (with_unread old bytes) are refl)

  pub sockets_gone : sockets_in (without held place) ≡ with_socket (sockets_in held) place None
  sockets_gone = map-set (option_map socket_of) held place None ∙ sym (with_set (sockets_in held) place None within)

  pub fades_gone : (chunks : ℕ) → AreKept queue_of held chunks → OnlyFades held (without held place)
  fades_gone chunks are = record { queues = are.queues; fade = fade_out queue_of held place old there }

-- ---- one comes behind the others

pub sockets_added : (held : List (Option Held)) (new : Held)
    → sockets_in (held ++ Some new ∷ []) ≡ with_socket (sockets_in held) (length (sockets_in held)) (Some new.socket)
sockets_added held new = map_push (option_map socket_of) held (Some new) ∙ sym (with-length (sockets_in held) (Some new.socket))

pub fades_added : (held : List (Option Held)) (new : Held) (chunks : ℕ) → queue_of new ≡ nothing → AreKept queue_of held chunks
    → OnlyFades held (held ++ Some new ∷ [])
fades_added held new chunks empty are = record { queues = are.queues; fade = fade_added queue_of held new empty }

-- ---- several changes

pub fades_follow : (old new : List (Option Held)) → OnlyFades old new → FrontsFollow old new
fades_follow old new fades = fronts_follow old new (follow_fade (queues_of queue_of old) (queues_of queue_of new) fades.queues fades.fade)

pub fades_further : (old middle new : List (Option Held)) → OnlyFades old middle → OnlyFades middle new → OnlyFades old new
fades_further old middle new first second = record {
  queues = first.queues;
  fade = fade_further (queues_of queue_of old) (queues_of queue_of middle) (queues_of queue_of new) first.fade second.fade;
}

pub fades_same : (held : List (Option Held)) (chunks : ℕ) → AreKept queue_of held chunks → OnlyFades held held
fades_same held chunks are = record { queues = are.queues; fade = fade_same (queues_of queue_of held) }

pub fades_then : (old middle new : List (Option Held)) → OnlyFades old middle → Fade (queues_of queue_of middle) (queues_of queue_of new) → OnlyFades old new
fades_then old middle new first second = record {
  queues = first.queues;
  fade = fade_further (queues_of queue_of old) (queues_of queue_of middle) (queues_of queue_of new) first.fade second;
}
