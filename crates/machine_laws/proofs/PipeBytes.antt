-- Pipes hold bytes, after one of them has changed.
use Rattle.std.proofs.Common.{◌≡◌, ℕ, ◌<◌, ◌==◌, ◌&&◌, ◌^◌, Bool, true, false, cond, List, [], Option, None, Some, slice_set, unwrap_or, refl, subst, inl, inr}
use Rattle.std.proofs.lemmas.List.Elements.{All-nil}
use Rattle.posix_defs.specs.Pipe.{Pipe, after_close, new_pipe, while_open, without_reader, without_writer}
use Rattle.machine_laws.proofs.Places.{not_some, some_same}
use Rattle.machine_laws.specs.Bytes.{AreBytes}
use Rattle.machine_laws.specs.Piped.{pipe_in}
use Rattle.machine_laws.proofs.Items.{changed_is}

abbrev pub IsByte : ℕ → Type 0
IsByte byte = byte < 2 ^ 8

-- each pipe that is there holds bytes
abbrev pub HasPipeBytes : List (Option Pipe) → Type 0
HasPipeBytes pipes = (place : ℕ) (pipe : Pipe) → pipe_in pipes place ≡ Some pipe → AreBytes pipe.bytes

-- the bytes of the pipe of a place, if one is there
pub pipe_bytes : (pipes : List (Option Pipe)) (place : ℕ) → HasPipeBytes pipes → AreBytes (unwrap_or (pipe_in pipes place) new_pipe).bytes
pipe_bytes pipes place has = go (pipe_in pipes place) refl
  where
    go : (o : Option Pipe) → pipe_in pipes place ≡ o → AreBytes (unwrap_or o new_pipe).bytes
    go None is = All-nil IsByte
    go (Some pipe) is = has place pipe is

-- one becomes another, or goes
pub piped_bytes : (pipes : List (Option Pipe)) (place : ℕ) (o : Option Pipe) → ((pipe : Pipe) → o ≡ Some pipe → AreBytes pipe.bytes) → HasPipeBytes pipes → HasPipeBytes (slice_set pipes place o)
piped_bytes pipes place o are has other pipe is = elim (changed_is pipes place o other pipe is) [ inl old ↦ has other pipe old.1 | inr here ↦ are pipe here.1 ]

pub some_bytes : (made : Pipe) → AreBytes made.bytes → (pipe : Pipe) → Some made ≡ Some pipe → AreBytes pipe.bytes
some_bytes made are pipe is = subst (λ p. AreBytes p.bytes) (some_same (Some made) made pipe refl is) are

-- an end goes
pub closed_bytes : (pipe : Pipe) (writing : Bool) → AreBytes pipe.bytes → (left : Pipe) → after_close pipe writing ≡ Some left → AreBytes left.bytes
closed_bytes pipe writing are left is = go (cond writing (without_writer pipe) (without_reader pipe)) (ends writing) is
  where
    dropped : (b : Bool) → AreBytes (cond b [] pipe.bytes)
    dropped true = All-nil IsByte
    dropped false = are

    ends : (writing : Bool) → AreBytes (cond writing (without_writer pipe) (without_reader pipe)).bytes
    ends true = are
    ends false = dropped (pipe.readers == 1)

    go : (after : Pipe) → AreBytes after.bytes → while_open after ≡ Some left → AreBytes left.bytes
    go after has e = open_it ((after.readers == 0) && (after.writers == 0)) e
      where
        open_it : (b : Bool) → cond b None (Some after) ≡ Some left → AreBytes left.bytes
        open_it true f = absurd (not_some refl f)
        open_it false f = some_bytes after has left f
