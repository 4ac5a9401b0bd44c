-- Open descriptions: what an open made, which descriptors share.
use Rattle.std.specs.Prelude.{ℕ, ◌+◌, ◌/◌, ◌%◌, ◌==◌, ℤ, Bool, true, false, if◌then◌else◌, List, Option, None, slice_index_or, slice_set}
use Rattle.std.specs.Int.{cast_unsigned, w64}

-- what a description is open on: a node by its number, a pipe or a socket by its place
pub data Target : Type 0 where
  OnNode : ℕ → Target
  OnPipe : ℕ → Target
  OnSocket : ℕ → Target

-- what a description may be used for
pub data Access : Type 0 where
  ReadOnly : Access
  WriteOnly : Access
  ReadWrite : Access

-- an open description; its offset is one in a file or a directory
pub record Description : Type 0 where
  pub target : Target
  pub offset : ℕ
  pub access : Access
  -- each write goes to the end of the file (O_APPEND)
  pub append : Bool
  -- a call that would block fails with EAGAIN (O_NONBLOCK)
  pub nonblock : Bool

-- every description that was made, by its place; none once no descriptor names it
abbrev pub Descriptions : Type 0
Descriptions = List (Option Description)

-- the description of a place; None where it has gone, and where none was made
abbrev pub description_at : Descriptions → ℕ → Option Description
description_at descriptions place = slice_index_or descriptions place None

-- the same descriptions with another one, or none, at a place
abbrev pub with_description : Descriptions → ℕ → Option Description → Descriptions
with_description descriptions place description = slice_set descriptions place description

-- a new description for this access, at the beginning and without flags
abbrev pub new_description : Target → Access → Description
new_description target access = record { target = target; offset = 0; access = access; append = false; nonblock = false }

-- open for reading, or for both
abbrev pub may_read : Access → Bool
may_read ReadOnly = true
may_read WriteOnly = false
may_read ReadWrite = true

-- open for writing, or for both
abbrev pub may_write : Access → Bool
may_write ReadOnly = false
may_write WriteOnly = true
may_write ReadWrite = true

-- whether a flag, which is a power of 2, is among these bits
abbrev pub has_flag : ℤ → ℕ → Bool
has_flag bits flag = cast_unsigned w64 bits / flag % 2 == 1

-- O_CREAT: a file that is missing is made
abbrev pub o_creat : ℕ
o_creat = 64

-- O_EXCL: with O_CREAT, what is there already is EEXIST; without O_CREAT it has no effect
abbrev pub o_excl : ℕ
o_excl = 128

-- O_TRUNC: the size of the file becomes 0
abbrev pub o_trunc : ℕ
o_trunc = 512

-- O_APPEND: each write goes to the end of the file
abbrev pub o_append : ℕ
o_append = 1024

-- O_NONBLOCK: a call that would block fails with EAGAIN, or a write tells what it has moved
abbrev pub o_nonblock : ℕ
o_nonblock = 2048

-- O_CLOEXEC: `exec` closes the new descriptor
abbrev pub o_cloexec : ℕ
o_cloexec = 524288

-- the access mode that the two lowest bits of the flags of `open` ask for: O_RDONLY 0, O_WRONLY 1, O_RDWR 2
abbrev pub access_of : ℤ → Access
access_of bits = if has_flag bits 2 then ReadWrite else (if has_flag bits 1 then WriteOnly else ReadOnly)

-- the access mode as F_GETFL tells it: O_RDONLY 0, O_WRONLY 1, O_RDWR 2
abbrev pub access_bits : Access → ℕ
access_bits ReadOnly = 0
access_bits WriteOnly = 1
access_bits ReadWrite = 2

-- the bits that F_GETFL tells: the access mode, O_APPEND and O_NONBLOCK
abbrev pub status_bits : Description → ℕ
status_bits description =
    access_bits description.access + (if description.append then o_append else 0) + (if description.nonblock then o_nonblock else 0)

-- F_SETFL: O_APPEND and O_NONBLOCK are set as in these bits, and no other bit counts
abbrev pub with_status : Description → ℤ → Description
with_status description bits = record description { append = has_flag bits o_append; nonblock = has_flag bits o_nonblock }

-- at another offset
abbrev pub at_offset : Description → ℕ → Description
at_offset description offset = record description { offset = offset }
