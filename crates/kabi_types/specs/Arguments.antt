-- The argument check: what is wrong with the operands of a call, before anything else is looked at.
use Rattle.std.specs.Prelude.{ℕ, ◌+◌, ◌-◌, ◌%◌, ◌==◌, ℤ, pos, negsuc, Bool, false, not, ◌&&◌, ◌||◌, nat_le, nat_lt, if◌then◌else◌, List, length, Option, None, Some}
use Rattle.std.specs.List.{list_any}
use Rattle.std.specs.Option.{option_or}
use Rattle.std.specs.Int.RustNames.{bit_and}
use Rattle.kabi_types.specs.declared.calls.Call.{Call}
use Rattle.kabi_types.specs.declared.calls.Call.TheVariants as call
use Rattle.kabi_types.specs.declared.errnos.Errno.{Errno}
use Rattle.kabi_types.specs.declared.errnos.Errno.TheVariants.{EINVAL, EFAULT, ENOENT, ENAMETOOLONG, EOVERFLOW}
use Rattle.kabi_types.specs.OpenFlags.{are_open_flags}
use Rattle.kabi_types.specs.PathParts.{components, is_long, ends_in_dots}

-- the size of a page, and that of the address space
abbrev pub page_size : ℕ
page_size = 4096

abbrev pub space_size : ℕ
space_size = 1048576

-- the number is this one or a greater one
abbrev pub is_from : ℕ → ℤ → Bool
is_from low (pos n) = nat_le low n
is_from low (negsuc _) = false

-- how many descriptors a process has: their numbers are those below it
abbrev pub most_descriptors : ℕ
most_descriptors = 128

-- the number is one that a descriptor may have
abbrev pub may_be_descriptor : ℤ → Bool
may_be_descriptor (pos n) = nat_lt n most_descriptors
may_be_descriptor (negsuc _) = false

-- the number lies between these, both among them
abbrev pub is_within : ℕ → ℕ → ℤ → Bool
is_within low high (pos n) = nat_le low n && nat_le n high
is_within low high (negsuc _) = false

abbrev pub is_number : ℕ → ℤ → Bool
is_number n (pos m) = m == n
is_number n (negsuc _) = false

abbrev pub is_minus_one : ℤ → Bool
is_minus_one (pos _) = false
is_minus_one (negsuc n) = n == 0

-- SIGPIPE or SIGTERM, the two signals that a process may ignore
abbrev pub may_be_ignored : ℤ → Bool
may_be_ignored signal = is_number 13 signal || is_number 15 signal

-- `kill` sends these two and SIGKILL, and asks with 0
abbrev pub is_sendable : ℤ → Bool
is_sendable signal = is_number 0 signal || is_number 9 signal || may_be_ignored signal

-- so many bytes from an address on lie in the address space
abbrev pub lie_in_space : ℤ → ℕ → Bool
lie_in_space (pos addr) n = nat_le (addr + n) space_size
lie_in_space (negsuc _) n = false

-- the address is that of a page, and what lies behind it to the length's end lies in the address space
abbrev pub is_page_range : ℤ → ℤ → Bool
is_page_range (pos addr) (pos length) = (addr % page_size == 0) && nat_le (addr + length) space_size
is_page_range _ _ = false

-- O_TRUNC, which isn't asked for by who only reads
abbrev pub truncates_unwritten : ℤ → Bool
truncates_unwritten (pos bits) = (bit_and bits 512 == 512) && (bit_and bits 3 == 0)
truncates_unwritten (negsuc _) = false

-- the number of bytes that an operand gives; no call whose operands are right gives one below 0
abbrev pub count_of : ℤ → ℕ
count_of (pos n) = n
count_of (negsuc _) = 0

-- an operand is wrong
abbrev pub invalid_unless : Bool → Option Errno
invalid_unless right = if right then None else Some EINVAL

-- the bytes from an address on that a call reads or writes; no bytes lie anywhere
abbrev pub range_fault : ℤ → ℕ → Option Errno
range_fault addr n = if (n == 0) || lie_in_space addr n then None else Some EFAULT

-- how many bytes a call moves, at most SSIZE_MAX, and the memory that they are in
abbrev pub moved_fault : ℕ → ℤ → ℤ → Option Errno
moved_fault least addr n = option_or (invalid_unless (is_within least 32767 n)) (range_fault addr (count_of n))

-- the same of a call that names a place in a file
abbrev pub placed_fault : ℤ → ℤ → ℤ → Option Errno
placed_fault addr n at = option_or (invalid_unless (is_within 0 32767 n && is_from 0 at)) (range_fault addr (count_of n))

abbrev pub path_fault : List ℕ → Option Errno
path_fault path = if length path == 0 then Some ENOENT else (if list_any is_long (components path) then Some ENAMETOOLONG else None)

-- of two paths the first is looked at first
abbrev pub paths_fault : List ℕ → List ℕ → Option Errno
paths_fault old new = option_or (path_fault old) (path_fault new)

-- what `load` gives is at most 64 bytes
abbrev pub loaded_fault : ℤ → ℤ → Option Errno
loaded_fault addr n = option_or (invalid_unless (is_within 0 64 n)) (range_fault addr (count_of n))

abbrev pub open_fault : List ℕ → ℤ → Option Errno
open_fault path flags = option_or (invalid_unless (are_open_flags flags && not (truncates_unwritten flags))) (path_fault path)

-- the greatest place of a file that a process may hold
abbrev pub greatest_place : ℕ
greatest_place = 9223372036854775807

-- the last of so many places from a start on; of 0 places the greatest that there is
abbrev pub last_place : ℕ → ℕ → ℕ
last_place start length = if length == 0 then greatest_place else start + length - 1

-- F_RDLCK 0 and F_WRLCK 1, and up to 2, where it may be asked for, F_UNLCK; then the places end at one that there is
abbrev pub locked_fault : ℕ → ℤ → ℤ → ℤ → Option Errno
locked_fault most kind start length =
    option_or (invalid_unless (is_within 0 most kind && (is_from 0 start && is_from 0 length)))
    (if nat_lt greatest_place (count_of start + (count_of length - 1)) then Some EOVERFLOW else None)

-- neither path of `rename` ends in `.` or `..`
abbrev pub renamed_fault : List ℕ → List ℕ → Option Errno
renamed_fault old new = option_or (paths_fault old new) (invalid_unless (not (ends_in_dots old || ends_in_dots new)))

-- the first fault of a call's operands: for each call the tests in the order in which their faults are told
abbrev pub argument_fault : Call → Option Errno
argument_fault call.Getpid = None
argument_fault call.Getppid = None
argument_fault call.SchedYield = None
argument_fault call.Fork = None
argument_fault (call.Exec path) = path_fault path
argument_fault (call.Exit _) = None
argument_fault (call.Waitpid pid options) = invalid_unless ((is_minus_one pid || is_from 1 pid) && is_within 0 1 options)
argument_fault (call.Kill pid signal) = invalid_unless (is_from 1 pid && is_sendable signal)
argument_fault (call.Mmap length) = invalid_unless (is_from 1 length)
argument_fault (call.Munmap addr length) = invalid_unless (is_from 1 length && is_page_range addr length)
argument_fault (call.Store addr bytes) = range_fault addr (length bytes)
argument_fault (call.Load addr n) = loaded_fault addr n
argument_fault (call.OpenFile path flags) = open_fault path flags
argument_fault (call.Close _) = None
argument_fault (call.Dup _) = None
argument_fault (call.Dup2 _ _) = None
argument_fault (call.Fcntl _ cmd arg) = invalid_unless (is_within 1 4 cmd || (is_number 0 cmd && may_be_descriptor arg))
argument_fault (call.Read _ addr n) = moved_fault 0 addr n
argument_fault (call.Write _ addr n _) = moved_fault 0 addr n
argument_fault (call.Pread _ addr n at) = placed_fault addr n at
argument_fault (call.Pwrite _ addr n at) = placed_fault addr n at
argument_fault (call.Lseek _ _ whence) = invalid_unless (is_within 0 2 whence)
argument_fault (call.Readdir _ addr n) = moved_fault 32 addr n
argument_fault (call.Ftruncate _ length) = invalid_unless (is_from 0 length)
argument_fault (call.Fstat _) = None
argument_fault (call.Stat path) = path_fault path
argument_fault (call.Chdir path) = path_fault path
argument_fault (call.Mkdir path) = path_fault path
argument_fault (call.Rmdir path) = path_fault path
argument_fault (call.Unlink path) = path_fault path
argument_fault (call.Link old new) = paths_fault old new
argument_fault (call.Rename old new) = renamed_fault old new
argument_fault call.Pipe = None
argument_fault call.Socket = None
argument_fault call.Socketpair = None
argument_fault (call.Bind _ path) = path_fault path
argument_fault (call.Listen _) = None
argument_fault (call.Connect _ path) = path_fault path
argument_fault (call.Accept _) = None
argument_fault (call.Shutdown _ how) = invalid_unless (is_within 0 2 how)
argument_fault (call.Poll timeout _) = invalid_unless (is_number 0 timeout || is_minus_one timeout)
argument_fault (call.Signal signal disposition) = invalid_unless (may_be_ignored signal && is_within 0 1 disposition)
argument_fault (call.Mkfifo path) = path_fault path
argument_fault (call.Setlk _ kind start length) = locked_fault 2 kind start length
argument_fault (call.Setlkw _ kind start length) = locked_fault 2 kind start length
argument_fault (call.Getlk _ kind start length) = locked_fault 1 kind start length
