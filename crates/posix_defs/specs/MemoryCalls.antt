-- The calls on memory: `mmap`, `munmap`, and `store` and `load`, which move bytes between a program and its memory.
use Rattle.std.specs.Prelude.{ℕ, ◌*◌, ◌/◌, pos, ℤ, if◌then◌else◌, List, length, Option, None, Some}
use Rattle.kabi_types.specs.Arguments.{count_of, page_size}
use Rattle.kabi_types.specs.declared.calls.Call.{Call}
use Rattle.kabi_types.specs.declared.calls.Call.TheVariants as call
use Rattle.kabi_types.specs.declared.errnos.Errno.TheVariants.{EFAULT, EMFILE}
use Rattle.kabi_types.specs.declared.replies.Reply.{Reply}
use Rattle.kabi_types.specs.declared.replies.Reply.TheVariants.{Val, Bytes}
use Rattle.kabi_types.specs.declared.scripts.Script.{Script}
use Rattle.posix_defs.specs.Needs.{pages_in, pages_touched}
use Rattle.posix_defs.specs.Memory.{Frames, Memory, after_clear, after_fork, after_map, after_put, after_unmap, is_mapped_range, loaded, lowest_run, stored, with_pages, without_pages}
use Rattle.posix_defs.specs.Process.{memory_of, with_memory}
use Rattle.posix_defs.specs.Plain.{Plain, with_table}
use Rattle.posix_defs.specs.Answer.{Answer, failed, replied}

-- the plain machine, where a process has something else in memory
abbrev pub remembered : Plain → ℕ → Memory → Plain
remembered plain pid memory = with_table plain (with_memory plain.table pid memory)

-- so many pages are mapped from this one on, and its address is told; EMFILE where there is no room for them in a row
abbrev pub mapped_from : Script → Plain → ℕ → ℕ → Option ℕ → Answer
mapped_from script plain pid count None = failed script plain pid EMFILE
mapped_from script plain pid count (Some first) =
    replied script (remembered plain pid (with_pages (memory_of plain.table pid) first count)) pid (Val (pos (page_size * first)))

-- so many bytes of zeros, in the lowest run of pages that aren't mapped
abbrev pub mmap : Script → Plain → ℕ → ℤ → Answer
mmap script plain pid length =
    mapped_from script plain pid (pages_in (count_of length)) (lowest_run (memory_of plain.table pid) (pages_in (count_of length)))

-- each page that the range touches is mapped no more; where it wasn't, nothing is said
abbrev pub munmap : Script → Plain → ℕ → ℤ → ℤ → Answer
munmap script plain pid addr length =
    replied script
    (remembered plain pid (without_pages (memory_of plain.table pid) (count_of addr / page_size) (pages_touched (count_of addr) (count_of length))))
    pid (Val (pos 0))

-- an answer, where each page that the range touches is mapped; else EFAULT
abbrev pub in_range : Script → Plain → ℕ → ℤ → ℕ → Answer → Answer
in_range script plain pid addr n answer =
    if is_mapped_range (memory_of plain.table pid) (count_of addr) n then answer else failed script plain pid EFAULT

-- bytes are put in memory, and their number is told
abbrev pub store : Script → Plain → ℕ → ℤ → List ℕ → Answer
store script plain pid addr bytes =
    in_range script plain pid addr (length bytes)
    (replied script (remembered plain pid (stored (memory_of plain.table pid) (count_of addr) bytes)) pid (Val (pos (length bytes))))

-- the bytes in memory are told
abbrev pub load : Script → Plain → ℕ → ℤ → ℤ → Answer
load script plain pid addr n =
    in_range script plain pid addr (count_of n)
    (replied script plain pid (Bytes (loaded (memory_of plain.table pid) (count_of addr) (count_of n))))

-- what a call that was told this number did to the frames
abbrev pub frames_of : Frames → ℕ → Call → ℕ → Frames
frames_of frames pid call.Fork child = after_fork frames pid
frames_of frames pid (call.Mmap length) addr = after_map frames pid (addr / page_size) (pages_in (count_of length))
frames_of frames pid (call.Munmap addr length) none = after_unmap frames pid (count_of addr / page_size) (pages_touched (count_of addr) (count_of length))
frames_of frames pid (call.Store addr bytes) stored = after_put frames pid (count_of addr) (length bytes)
frames_of frames pid (call.Read fd addr n) count = after_put frames pid (count_of addr) count
frames_of frames pid (call.Pread fd addr n at) count = after_put frames pid (count_of addr) count
frames_of frames pid (call.Readdir fd addr n) count = after_put frames pid (count_of addr) count
frames_of frames pid (call.Exec path) none = after_clear frames pid
frames_of frames pid _ value = frames

-- what a call with this reply did to the frames: one that failed did nothing
abbrev pub frames_after : Frames → ℕ → Call → Reply → Frames
frames_after frames pid call (Val value) = frames_of frames pid call (count_of value)
frames_after frames pid call _ = frames
