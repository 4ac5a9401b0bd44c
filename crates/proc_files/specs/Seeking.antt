-- Where a seek leads.
use Rattle.std.specs.Prelude.{ℕ, zero, suc, ◌%◌, ◌==◌, ◌&&◌, not, nat_lt, ◌≡◌, ℤ, pos, negsuc, ◌+ℤ◌, Bool, if◌then◌else◌, Result, Ok, Err}
use Rattle.kabi_types.specs.Arguments.{count_of}
use Rattle.kabi_types.specs.declared.errnos.Errno.{Errno}
use Rattle.kabi_types.specs.declared.errnos.Errno.TheVariants.{EINVAL, EOVERFLOW}
use Rattle.kheap_slabs.specs.Objects.{put}
use Rattle.kheap_slabs.specs.declared.objects.Desc.{Desc}
use Rattle.kheap_slabs.specs.Heap.{Heap}
use Rattle.posix_defs.specs.Calls.OnFiles.{greatest_offset}
use Rattle.posix_defs.specs.Tree.{Tree, is_directory, size_at}

-- the place from which an offset counts: the beginning, the offset that there is, or the end
abbrev pub origin_in : ℕ → ℕ → ℕ → ℕ
origin_in zero offset size = 0
origin_in (suc zero) offset size = offset
origin_in (suc (suc _)) offset size = size

-- no offset lies before the beginning or above the greatest one
abbrev pub offset_at : ℤ → Result ℕ Errno
offset_at (pos place) = if nat_lt greatest_offset place then Err EOVERFLOW else Ok place
offset_at (negsuc _) = Err EINVAL

-- nor, in a directory, within an entry
abbrev pub between_entries : Bool → Result ℕ Errno → Result ℕ Errno
between_entries directory (Ok place) = if directory && not (place % 32 == 0) then Err EINVAL else Ok place
between_entries directory (Err errno) = Err errno

-- the offset that a seek on a node asks for, from the one that there is
abbrev pub sought : Tree → ℕ → ℕ → ℤ → ℤ → Result ℕ Errno
sought tree number had offset whence =
    between_entries (is_directory tree number) (offset_at (pos (origin_in (count_of whence) had (size_at tree number)) +ℤ offset))

-- a Desc at another offset
abbrev pub moved : Desc → ℕ → Desc
moved desc offset = record desc { offset = offset }

-- the Desc of a key is at another offset, and nothing else is other than before
abbrev pub MovesDesc : Heap → Heap → ℕ → Desc → ℕ → Type 0
MovesDesc old new key desc offset = new ≡ record old { descs = put old.descs key (moved desc offset) }
