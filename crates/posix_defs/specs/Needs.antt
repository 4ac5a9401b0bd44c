-- What each call may make in the kernel heap, and how many bytes of it it may use.
use Rattle.std.specs.Prelude.{ℕ, ◌+◌, ◌-◌, ◌*◌, ◌/◌, ◌==◌, min, max, Bool, true, false, if◌then◌else◌, List, [], length, is_some}
use Rattle.kabi_types.specs.Arguments.{argument_fault, count_of, is_number, page_size}
use Rattle.kabi_types.specs.Call.{kind_of}
use Rattle.kabi_types.specs.declared.calls.Call.{Call}
use Rattle.kabi_types.specs.declared.calls.Call.TheVariants as call
use Rattle.kabi_types.specs.declared.calls.CallKind.{CallKind}
use Rattle.kabi_types.specs.declared.calls.CallKind.TheVariants as kind
use Rattle.kabi_types.specs.declared.classes.Need.{Need}
use Rattle.posix_defs.specs.PriceList.{price_of}
use Rattle.posix_defs.specs.Sizes.{no_need, reserve}
use Rattle.posix_defs.specs.declared.prices.Price.{Price}
use Rattle.posix_defs.specs.declared.prices.Price.TheVariants.{Always, Mapped, Touched, Moved, Copied}

-- how many pages the bytes from an address on lie in
abbrev pub pages_touched : ℕ → ℕ → ℕ
pages_touched addr n = if n == 0 then 0 else (addr + n - 1) / page_size - addr / page_size + 1

-- how many pages so many bytes take
abbrev pub pages_in : ℕ → ℕ
pages_in n = (n + 4095) / page_size

-- how many groups of 64 page entries so many pages in a row may lie in; an address space has four
abbrev pub nodes_for : ℕ → ℕ
nodes_for pages = min 4 ((pages + 62) / 64 + 1)

-- how many chunks of 512 bytes a queue may need for so many bytes, of which it takes at most 4096
abbrev pub chunks_for : ℕ → ℕ
chunks_for n = (min n 4096 + 511) / 512

-- what a call may use of the reserve, in bytes: those that close something or end a process may use all of it, and so a write, which
-- may end its caller
abbrev pub slack : Call → ℕ
slack (call.Close _) = reserve
slack (call.Dup2 _ _) = reserve
slack (call.Exec _) = reserve
slack (call.Exit _) = reserve
slack (call.Kill _ _) = reserve
slack (call.Write _ _ _ _) = reserve
slack _ = 0

-- the pages that a call maps
abbrev pub mapped_pages : Call → ℕ
mapped_pages (call.Mmap length) = pages_in (count_of length)
mapped_pages _ = 0

-- the pages that a call puts bytes into
abbrev pub touched_pages : Call → ℕ
touched_pages (call.Store addr bytes) = pages_touched (count_of addr) (length bytes)
touched_pages (call.Read _ addr n) = pages_touched (count_of addr) (count_of n)
touched_pages (call.Pread _ addr n _) = pages_touched (count_of addr) (count_of n)
touched_pages (call.Readdir _ addr n) = pages_touched (count_of addr) (count_of n)
touched_pages _ = 0

-- the bytes that a write has still to move; none where more were moved than it asks for
abbrev pub left_bytes : Call → ℕ
left_bytes (call.Write _ _ n done) = count_of n - done
left_bytes (call.Pwrite _ _ n _) = count_of n
left_bytes _ = 0

-- the bytes that a `store` has at hand
abbrev pub stored_bytes : Call → List ℕ
stored_bytes (call.Store _ bytes) = bytes
stored_bytes _ = []

-- the call makes a further descriptor: of the commands of `fcntl` the first one, F_DUPFD, does
abbrev pub makes_copy : Call → Bool
makes_copy (call.Fcntl _ cmd _) = is_number 0 cmd
makes_copy _ = false

-- what a price comes to for a call
abbrev pub cost : Price → Call → ℕ
cost (Always bytes) call = bytes
cost (Mapped node) call = node * nodes_for (mapped_pages call)
cost (Touched page more) call = page * touched_pages call + more
cost (Moved file chunk) call = max file (chunk * chunks_for (left_bytes call))
cost (Copied bytes) call = if makes_copy call then bytes else 0

-- the heap that a call may use, in bytes: what the price list says, and nothing where an operand is wrong
unfoldable pub bound : Call → ℕ
bound call = if is_some (argument_fault call) then 0 else cost (price_of (kind_of call)) call

-- a write needs room for a file or for a queue, and never for both
abbrev pub is_write : CallKind → Bool
is_write kind.Write = true
is_write kind.Pwrite = true
is_write _ = false

-- what walking a path may fill: two inodes, two names and two blocks
abbrev pub walk_need : Need
walk_need = record no_need { vnode = 2; name = 2; block = 2 }

-- the same of two paths, which need no more blocks at once
abbrev pub two_walks_need : Need
two_walks_need = record no_need { vnode = 4; name = 4; block = 2 }

-- so many pages that are read into, and two blocks
abbrev pub read_need : ℕ → Need
read_need pages = record no_need { page = pages; block = 2 }

-- two blocks for a file, or for a queue the chunks of so many bytes
abbrev pub write_need : ℕ → Need
write_need left = record no_need { block = 2; chunk = chunks_for left }

-- one Leaf: the lowest number that is free may be the first of its 32 that is open, and of the two lowest one at most is, since where
-- no Leaf is there all 32 are free
abbrev pub leaf_need : Need
leaf_need = record no_need { leaf = 1 }

-- two Locks: a range that is cut in the middle is two, and between them is a third
abbrev pub lock_need : Need
lock_need = record no_need { lock = 2 }

-- the objects that a call whose operands are right may make; an open may find a FIFO, which it makes a pipe for
abbrev pub objects_of : Call → Need
objects_of call.Getpid = no_need
objects_of call.Getppid = no_need
objects_of call.SchedYield = no_need
objects_of call.Fork = record no_need { proc = 1; node = 4; leaf = 3 }
objects_of (call.Exec _) = walk_need
objects_of (call.Exit _) = no_need
objects_of (call.Waitpid _ _) = no_need
objects_of (call.Kill _ _) = no_need
objects_of (call.Mmap length) = record no_need { node = nodes_for (pages_in (count_of length)) }
objects_of (call.Munmap _ _) = no_need
objects_of (call.Store addr bytes) = record no_need { page = pages_touched (count_of addr) (length bytes) }
objects_of (call.Load _ _) = no_need
objects_of (call.OpenFile _ _) = record walk_need { desc = 1; leaf = 1; pipe = 1 }
objects_of (call.Close _) = no_need
objects_of (call.Dup _) = leaf_need
objects_of (call.Dup2 _ _) = leaf_need
objects_of (call.Fcntl _ cmd _) = if is_number 0 cmd then leaf_need else no_need
objects_of (call.Read _ addr n) = read_need (pages_touched (count_of addr) (count_of n))
objects_of (call.Write _ _ n done) = write_need (count_of n - done)
objects_of (call.Pread _ addr n _) = read_need (pages_touched (count_of addr) (count_of n))
objects_of (call.Pwrite _ _ n _) = write_need (count_of n)
objects_of (call.Lseek _ _ _) = no_need
objects_of (call.Readdir _ addr n) = read_need (pages_touched (count_of addr) (count_of n))
objects_of (call.Ftruncate _ _) = record no_need { block = 2 }
objects_of (call.Fstat _) = no_need
objects_of (call.Stat _) = walk_need
objects_of (call.Chdir _) = walk_need
objects_of (call.Mkdir _) = walk_need
objects_of (call.Rmdir _) = walk_need
objects_of (call.Unlink _) = walk_need
objects_of (call.Link _ _) = two_walks_need
objects_of (call.Rename _ _) = two_walks_need
objects_of call.Pipe = record leaf_need { desc = 2; pipe = 1 }
objects_of call.Socket = record leaf_need { desc = 1; sock = 1 }
objects_of call.Socketpair = record leaf_need { desc = 2; sock = 2 }
objects_of (call.Bind _ _) = walk_need
objects_of (call.Listen _) = no_need
objects_of (call.Connect _ _) = record walk_need { sock = 1 }
objects_of (call.Accept _) = record leaf_need { desc = 1 }
objects_of (call.Shutdown _ _) = no_need
objects_of (call.Poll _ _) = no_need
objects_of (call.Signal _ _) = no_need
objects_of (call.Mkfifo _) = walk_need
objects_of (call.Setlk _ _ _ _) = lock_need
objects_of (call.Setlkw _ _ _ _) = lock_need
objects_of (call.Getlk _ _ _ _) = no_need

-- the objects that a call may make: none where an operand is wrong
unfoldable pub need_of : Call → Need
need_of call = if is_some (argument_fault call) then no_need else objects_of call
