-- What the list of pipes has at a place, and the lengths of all.
use Rattle.std.proofs.Common.{◌≡◌, ℕ, List, [], ◌∷◌, length, get_or, Option, None, Some, refl, ap, sym, ◌∙◌}
use Rattle.std.specs.Prelude.{unwrap_or}
use Rattle.std.specs.Option.{option_map}
use Rattle.posix_defs.specs.Account.{fronts_after}
use Rattle.posix_defs.specs.Pipe.{new_pipe}
use Rattle.posix_defs.specs.Files.State.{Files, pipe_at, pipe_there}
use Rattle.kept_places.specs.Places.{IsThere, at}
use Rattle.plain_bytes.specs.Many.{Follow, lengths, queues_of}
use Rattle.plain_bytes.proofs.PlaceLemmas.{at_mapped, is_there}
use Rattle.plain_pipes.specs.Held.{FrontsFollow, HasPipe, Held, fronts_in, lengths_in, pipe_in, pipe_of, pipes_in, queue_of}

pub pipe_here : (held : List (Option Held)) (files : Files) (place : ℕ) (old : Held) → files.pipes ≡ pipes_in held → at held place ≡ Some old
    → pipe_there files place ≡ Some old.pipe
pipe_here held files place old same there = ap (λ pipes. get_or pipes place None) same ∙ at_mapped pipe_of held place ∙ ap (option_map pipe_of) there

pub pipe_is : (held : List (Option Held)) (files : Files) (place : ℕ) (old : Held) → files.pipes ≡ pipes_in held → at held place ≡ Some old
    → pipe_at files place ≡ old.pipe
pipe_is held files place old same there = ap (λ o. unwrap_or o new_pipe) (pipe_here held files place old same there)

pub pipe_is_in : (held : List (Option Held)) (place : ℕ) (old : Held) → at held place ≡ Some old → pipe_in held place ≡ old.pipe
pipe_is_in held place old there = ap (λ o. unwrap_or o new_pipe) (at_mapped pipe_of held place ∙ ap (option_map pipe_of) there)

-- a pipe that is there is kept
pub is_kept : (held : List (Option Held)) (place : ℕ) → HasPipe held place → IsThere held place
is_kept held place has = is_there pipe_of held place has

pub lengths_same : (held : List (Option Held)) → lengths_in held ≡ lengths (queues_of queue_of held)
lengths_same [] = refl
lengths_same (None ∷ rest) = ap (λ xs. 0 ∷ xs) (lengths_same rest)
lengths_same (Some old ∷ rest) = ap (λ xs. length old.pipe.bytes ∷ xs) (lengths_same rest)

-- the account's lengths are those of the queues
pub fronts_follow : (old new : List (Option Held)) → Follow (queues_of queue_of old) (queues_of queue_of new) → FrontsFollow old new
fronts_follow old new follow =
    follow ∙ ap (λ n. fronts_after n (lengths (queues_of queue_of new)) (fronts_in old)) (sym (lengths_same old))
    ∙ ap (λ n. fronts_after (lengths_in old) n (fronts_in old)) (sym (lengths_same new))
