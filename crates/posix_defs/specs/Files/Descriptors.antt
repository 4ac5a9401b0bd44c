-- The descriptors of a process: for each number nothing, or the open description that it names.
use Rattle.std.specs.Prelude.{ℕ, ◌+◌, ◌==◌, ℤ, pos, negsuc, Bool, false, List, replicate, drop, Option, None, Some, is_some, is_none, slice_index_or, slice_set}
use Rattle.std.specs.List.{count_by, list_any, position_from}
use Rattle.std.specs.Option.{option_and_then, option_map}
use Rattle.kabi_types.specs.Arguments.{most_descriptors}

-- an open descriptor: the place of the description that it names, and whether `exec` closes it
pub record Descriptor : Type 0 where
  pub description : ℕ
  pub cloexec : Bool

-- the descriptors of one process, that of number 0 first
abbrev pub Descriptors : Type 0
Descriptors = List (Option Descriptor)

-- a process without an open descriptor
unfoldable pub none_open : Descriptors
none_open = replicate most_descriptors None

-- the descriptor of a number, if it is open
abbrev pub descriptor_at : Descriptors → ℕ → Option Descriptor
descriptor_at descriptors fd = slice_index_or descriptors fd None

-- the same of the number that a call has
abbrev pub descriptor_of : Descriptors → ℤ → Option Descriptor
descriptor_of descriptors (pos fd) = descriptor_at descriptors fd
descriptor_of descriptors (negsuc _) = None

-- the same descriptors with another one, or none, at a number
abbrev pub with_descriptor : Descriptors → ℕ → Option Descriptor → Descriptors
with_descriptor descriptors fd descriptor = slice_set descriptors fd descriptor

-- the lowest number at or above one that isn't open; the numbers end with the list
abbrev pub lowest_free_from : Descriptors → ℕ → Option ℕ
lowest_free_from descriptors from = position_from is_none from (drop from descriptors)

-- the lowest number that isn't open
abbrev pub lowest_free : Descriptors → Option ℕ
lowest_free descriptors = lowest_free_from descriptors 0

-- two numbers, the first one below the second
pub record Two : Type 0 where
  pub first : ℕ
  pub second : ℕ

-- this number, and the lowest above it that isn't open; None where there is none
abbrev pub and_next : Descriptors → ℕ → Option Two
and_next descriptors first = option_map (λ second. record { first = first; second = second }) (lowest_free_from descriptors (first + 1))

-- the two lowest numbers that aren't open; None where fewer than two are free
abbrev pub two_lowest_free : Descriptors → Option Two
two_lowest_free descriptors = option_and_then (and_next descriptors) (lowest_free descriptors)

-- how many are open
abbrev pub open_count : Descriptors → ℕ
open_count descriptors = count_by is_some descriptors

-- the descriptor names the description of a place
abbrev pub names_place : ℕ → Option Descriptor → Bool
names_place place None = false
names_place place (Some descriptor) = descriptor.description == place

-- some descriptor of some process names the description of a place
abbrev pub is_named : List Descriptors → ℕ → Bool
is_named processes place = list_any (list_any (names_place place)) processes

-- the descriptor is open, and `exec` closes it
abbrev pub has_cloexec : Option Descriptor → Bool
has_cloexec None = false
has_cloexec (Some descriptor) = descriptor.cloexec

-- `exec` closes the descriptor of this number
abbrev pub is_cloexec : Descriptors → ℕ → Bool
is_cloexec descriptors fd = has_cloexec (descriptor_at descriptors fd)
