-- The pipe of a FIFO, found among all, and what opening one more end of it leaves.
use Rattle.std.proofs.Common.{◌≡◌, ℕ, ◌+◌, ◌<◌, Bool, true, false, List, [], ◌∷◌, ◌++◌, cond, get_or, length, set, Option, None, Some, refl, ap, sym, ◌∙◌, arith}
use Rattle.std.specs.Prelude.{◌==◌, unwrap_or}
use Rattle.std.specs.List.{position_from}
use Rattle.posix_defs.specs.Pipe.{is_of_fifo, new_pipe, opens_of, unopened, with_end}
use Rattle.posix_defs.specs.Files.State.{Files, pipe_at}
use Rattle.posix_defs.specs.Calls.OnFiles.{fifo_at, fifo_pipe, fifo_place, fifo_there, most_opens, with_fifo}
use Rattle.kept_places.specs.Places.{there_from}
use Rattle.plain_bytes.specs.Unread.{nothing}
use Rattle.plain_bytes.proofs.PlaceLemmas.{passes_there, passing_there}
use Rattle.plain_pipes.specs.Held.{HasPipe, Held, becomes, fifo_at_in, fifo_in, fifo_there_in, first_of_fifo, opened_in, pipe_in, pipes_in, place_in, queue_of}

-- the first of those that are there is the first of all
pub first_there : (number from : ℕ) (held : List (Option Held)) → first_of_fifo number (there_from from held) ≡ position_from (is_of_fifo number) from (pipes_in held)
first_there number from [] = refl
first_there number from (None ∷ rest) = first_there number (from + 1) rest
first_there number from (Some old ∷ rest) = ap (cond (old.pipe.node == number) (Some from)) (first_there number (from + 1) rest)

-- what was found is there
pub found_has : (held : List (Option Held)) (number place : ℕ) → fifo_at_in held number ≡ Some place → HasPipe held place
found_has held number place is =
    passing_there (is_of_fifo number) refl (get_or (pipes_in held) place None) (passes_there (is_of_fifo number) (pipes_in held) place is)

-- the pipe of a FIFO by what was found
pub fifo_found : (held : List (Option Held)) (number place : ℕ) → fifo_at_in held number ≡ Some place → fifo_in held number ≡ pipe_in held place
fifo_found held number place found = ap (fifo_there_in held number) found

pub fifo_unfound : (held : List (Option Held)) (number : ℕ) → fifo_at_in held number ≡ None → fifo_in held number ≡ unopened number
fifo_unfound held number found = ap (fifo_there_in held number) found

-- ---- a FIFO that nobody has open

pub no_opens : (number : ℕ) (writing : Bool) → opens_of (unopened number) writing ≡ 0
no_opens number true = refl
no_opens number false = refl

pub few_opens : (number : ℕ) (writing : Bool) → opens_of (unopened number) writing < most_opens
few_opens number writing = omega (arith, no_opens number writing)

pub no_byte : (number : ℕ) (writing : Bool) → queue_of (becomes (record { pipe = unopened number; front = 0 }) (with_end (unopened number) writing)) ≡ nothing
no_byte number true = refl
no_byte number false = refl

-- ---- files with these pipes

module _ (held : List (Option Held)) (files : Files) (same : files.pipes ≡ pipes_in held) where
  pub pipe_same : (place : ℕ) → pipe_in held place ≡ pipe_at files place
  pipe_same place = ap (λ pipes. unwrap_or (get_or pipes place None) new_pipe) (sym same)

  pub found_same : (number : ℕ) → fifo_at_in held number ≡ fifo_at files number
  found_same number = ap (position_from (is_of_fifo number) 0) (sym same)

  there_same : (number : ℕ) (o : Option ℕ) → fifo_there_in held number o ≡ fifo_there files number o
  there_same number None = refl
  there_same number (Some place) = pipe_same place

  pub fifo_same : (number : ℕ) → fifo_in held number ≡ fifo_pipe files number
  fifo_same number = there_same number (fifo_at_in held number) ∙ ap (fifo_there files number) (found_same number)

  place_of : (o : Option ℕ) → place_in held o ≡ fifo_place files o
  place_of None = ap length (sym same)
  place_of (Some place) = refl

  pub place_same : (number : ℕ) → place_in held (fifo_at_in held number) ≡ fifo_place files (fifo_at files number)
  place_same number = place_of (fifo_at_in held number) ∙ ap (fifo_place files) (found_same number)

  opened_of : (number : ℕ) (writing : Bool) (o : Option ℕ) → opened_in held number writing o ≡ (with_fifo files o (with_end (fifo_there files number o) writing)).pipes
  opened_of number writing None = ap (λ pipes. pipes ++ Some (with_end (unopened number) writing) ∷ []) (sym same)
  opened_of number writing (Some place) = ap (λ pipes. set pipes place (Some (with_end (unwrap_or (get_or pipes place None) new_pipe) writing))) (sym same)

  pub opened_same : (number : ℕ) (writing : Bool)
      → opened_in held number writing (fifo_at_in held number) ≡ (with_fifo files (fifo_at files number) (with_end (fifo_pipe files number) writing)).pipes
  opened_same number writing =
      opened_of number writing (fifo_at_in held number)
      ∙ ap (λ o. (with_fifo files o (with_end (fifo_there files number o) writing)).pipes) (found_same number)
