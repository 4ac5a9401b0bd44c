-- Traces of calls on pipes.
use Rattle.std.specs.Prelude.{ℕ, pos, negsuc, List, [], ◌∷◌}
use Rattle.kabi_types.specs.declared.calls.Call.TheVariants as call
use Rattle.kabi_types.specs.declared.errnos.Errno.TheVariants as errno
use Rattle.kabi_types.specs.declared.replies.Reply.TheVariants as reply
use Rattle.kabi_types.specs.declared.replies.NodeKind.TheVariants as node
use Rattle.machine_traces.specs.Trace.{Line, gets, fails, moves, sleeps, ends, info}

-- The faults of the calls on descriptors, at a pipe: operands first, then the descriptor, its access, the pages, nothing to do.
abbrev pub faults_on_pipes : List Line
faults_on_pipes =
    gets 1 (call.Mmap (pos 4096)) (reply.Val (pos 4096))
    ∷ gets 1 call.Pipe (reply.Pair 0 1)
    ∷ fails 1 (call.Read (pos 0) (pos 4096) (negsuc 0)) errno.EINVAL
    ∷ fails 1 (call.Read (pos 9) (pos 4096) (pos 32768)) errno.EINVAL
    ∷ fails 1 (call.Read (pos 9) (negsuc 0) (pos 1)) errno.EFAULT
    ∷ fails 1 (call.Read (pos 9) (pos 1048576) (pos 1)) errno.EFAULT
    ∷ fails 1 (call.Read (pos 9) (pos 4096) (pos 1)) errno.EBADF
    ∷ fails 1 (call.Read (pos 32) (pos 4096) (pos 1)) errno.EBADF
    ∷ fails 1 (call.Read (negsuc 0) (pos 4096) (pos 1)) errno.EBADF
    ∷ fails 1 (call.Read (pos 1) (pos 4096) (pos 1)) errno.EBADF
    ∷ fails 1 (call.Write (pos 0) (pos 4096) (pos 1) 0) errno.EBADF
    ∷ fails 1 (call.Read (pos 0) (pos 8192) (pos 1)) errno.EFAULT
    ∷ fails 1 (call.Read (pos 0) (pos 8191) (pos 2)) errno.EFAULT
    ∷ gets 1 (call.Read (pos 0) (pos 8192) (pos 0)) (reply.Val (pos 0))
    ∷ fails 1 (call.Write (pos 1) (pos 0) (pos 1) 0) errno.EFAULT
    ∷ gets 1 (call.Write (pos 1) (pos 0) (pos 0) 0) (reply.Val (pos 0))
    ∷ fails 1 (call.Write (pos 9) (pos 0) (pos 0) 0) errno.EBADF
    ∷ fails 1 (call.Pread (pos 0) (pos 4096) (pos 1) (pos 0)) errno.ESPIPE
    ∷ fails 1 (call.Pread (pos 0) (pos 4096) (pos 0) (pos 0)) errno.ESPIPE
    ∷ fails 1 (call.Pread (pos 1) (pos 4096) (pos 1) (pos 0)) errno.EBADF
    ∷ fails 1 (call.Pwrite (pos 1) (pos 4096) (pos 1) (pos 0)) errno.ESPIPE
    ∷ fails 1 (call.Pwrite (pos 0) (pos 4096) (pos 1) (pos 0)) errno.EBADF
    ∷ fails 1 (call.Pwrite (pos 1) (pos 4096) (pos 1) (negsuc 0)) errno.EINVAL
    ∷ fails 1 (call.Lseek (pos 0) (pos 0) (pos 0)) errno.ESPIPE
    ∷ fails 1 (call.Lseek (pos 0) (pos 0) (pos 3)) errno.EINVAL
    ∷ fails 1 (call.Ftruncate (pos 1) (pos 0)) errno.EINVAL
    ∷ fails 1 (call.Ftruncate (pos 1) (negsuc 0)) errno.EINVAL
    ∷ fails 1 (call.Ftruncate (pos 9) (pos 0)) errno.EBADF
    ∷ fails 1 (call.Readdir (pos 0) (pos 4096) (pos 32)) errno.ENOTDIR
    ∷ fails 1 (call.Readdir (pos 0) (pos 4096) (pos 31)) errno.EINVAL
    ∷ gets 1 (call.Fstat (pos 0)) (reply.Stat (info node.Pipe 0 0 0))
    ∷ gets 1 (call.Fstat (pos 1)) (reply.Stat (info node.Pipe 0 0 0))
    ∷ fails 1 (call.Fstat (pos 9)) errno.EBADF
    ∷ fails 1 (call.Close (pos 32)) errno.EBADF
    ∷ fails 1 (call.Close (negsuc 0)) errno.EBADF
    ∷ ends 1 (call.Exit (pos 0)) 0
    ∷ []

-- the heap that is taken after each of these, and how many nodes have to be cached
abbrev pub faults_on_pipes_take : List ℕ
faults_on_pipes_take = 1024 ∷ 1280 ∷ 1280 ∷ 1280 ∷ 1280 ∷ 1280 ∷ 1280 ∷ 1280 ∷ 1280 ∷ 1280 ∷ 1280 ∷ 1280 ∷ 1280 ∷ 1280 ∷ 1280 ∷ 1280 ∷ 1280 ∷ 1280 ∷ 1280 ∷ 1280 ∷ 1280 ∷ 1280 ∷ 1280 ∷ 1280 ∷ 1280 ∷ 1280 ∷ 1280 ∷ 1280 ∷ 1280 ∷ 1280 ∷ 1280 ∷ 1280 ∷ 1280 ∷ 1280 ∷ 1280 ∷ 0 ∷ []

abbrev pub faults_on_pipes_pin : List ℕ
faults_on_pipes_pin = 1 ∷ 1 ∷ 1 ∷ 1 ∷ 1 ∷ 1 ∷ 1 ∷ 1 ∷ 1 ∷ 1 ∷ 1 ∷ 1 ∷ 1 ∷ 1 ∷ 1 ∷ 1 ∷ 1 ∷ 1 ∷ 1 ∷ 1 ∷ 1 ∷ 1 ∷ 1 ∷ 1 ∷ 1 ∷ 1 ∷ 1 ∷ 1 ∷ 1 ∷ 1 ∷ 1 ∷ 1 ∷ 1 ∷ 1 ∷ 1 ∷ 1 ∷ []

-- Writes without waiting where 512 bytes are free, or 511: one of at most 512 goes whole or not at all, a greater one in part.
abbrev pub writes_at_the_border : List Line
writes_at_the_border =
    gets 1 (call.Mmap (pos 8192)) (reply.Val (pos 4096))
    ∷ gets 1 call.Pipe (reply.Pair 0 1)
    ∷ gets 1 (call.Fcntl (pos 1) (pos 4) (pos 2048)) (reply.Val (pos 0))
    ∷ gets 1 (call.Write (pos 1) (pos 4096) (pos 3585) 0) (reply.Val (pos 3585))
    ∷ fails 1 (call.Write (pos 1) (pos 4096) (pos 512) 0) errno.EAGAIN
    ∷ gets 1 (call.Write (pos 1) (pos 4096) (pos 511) 0) (reply.Val (pos 511))
    ∷ fails 1 (call.Write (pos 1) (pos 4096) (pos 1) 0) errno.EAGAIN
    ∷ gets 1 (call.Write (pos 1) (pos 4096) (pos 0) 0) (reply.Val (pos 0))
    ∷ gets 1 (call.Read (pos 0) (pos 4096) (pos 511)) (reply.Val (pos 511))
    ∷ gets 1 (call.Write (pos 1) (pos 4096) (pos 513) 0) (reply.Val (pos 511))
    ∷ fails 1 (call.Write (pos 1) (pos 4096) (pos 513) 0) errno.EAGAIN
    ∷ gets 1 (call.Read (pos 0) (pos 4096) (pos 512)) (reply.Val (pos 512))
    ∷ gets 1 (call.Write (pos 1) (pos 4096) (pos 512) 0) (reply.Val (pos 512))
    ∷ gets 1 (call.Read (pos 0) (pos 4096) (pos 513)) (reply.Val (pos 513))
    ∷ gets 1 (call.Write (pos 1) (pos 4096) (pos 513) 0) (reply.Val (pos 513))
    ∷ gets 1 (call.Read (pos 0) (pos 4096) (pos 8192)) (reply.Val (pos 4096))
    ∷ gets 1 (call.Write (pos 1) (pos 4096) (pos 4097) 0) (reply.Val (pos 4096))
    ∷ ends 1 (call.Exit (pos 0)) 0
    ∷ []

-- the heap that is taken after each of these, and how many nodes have to be cached
abbrev pub writes_at_the_border_take : List ℕ
writes_at_the_border_take = 1024 ∷ 1280 ∷ 1280 ∷ 5888 ∷ 5888 ∷ 5888 ∷ 5888 ∷ 5888 ∷ 9984 ∷ 10560 ∷ 10560 ∷ 9984 ∷ 10560 ∷ 9408 ∷ 9984 ∷ 5376 ∷ 9984 ∷ 0 ∷ []

abbrev pub writes_at_the_border_pin : List ℕ
writes_at_the_border_pin = 1 ∷ 1 ∷ 1 ∷ 1 ∷ 1 ∷ 1 ∷ 1 ∷ 1 ∷ 1 ∷ 1 ∷ 1 ∷ 1 ∷ 1 ∷ 1 ∷ 1 ∷ 1 ∷ 1 ∷ 1 ∷ []

-- Without readers a write fails; without writers what is there is read, and then the end.
abbrev pub broken_pipes : List Line
broken_pipes =
    gets 1 (call.Mmap (pos 4096)) (reply.Val (pos 4096))
    ∷ gets 1 call.Pipe (reply.Pair 0 1)
    ∷ gets 1 (call.Write (pos 1) (pos 4096) (pos 1000) 0) (reply.Val (pos 1000))
    ∷ gets 1 (call.Close (pos 0)) (reply.Val (pos 0))
    ∷ fails 1 (call.Write (pos 1) (pos 4096) (pos 1) 0) errno.EPIPE
    ∷ gets 1 (call.Write (pos 1) (pos 4096) (pos 0) 0) (reply.Val (pos 0))
    ∷ fails 1 (call.Write (pos 1) (pos 4096) (pos 4096) 0) errno.EPIPE
    ∷ gets 1 (call.Close (pos 1)) (reply.Val (pos 0))
    ∷ gets 1 call.Pipe (reply.Pair 0 1)
    ∷ gets 1 (call.Write (pos 1) (pos 4096) (pos 600) 0) (reply.Val (pos 600))
    ∷ gets 1 (call.Close (pos 1)) (reply.Val (pos 0))
    ∷ gets 1 (call.Read (pos 0) (pos 4096) (pos 512)) (reply.Val (pos 512))
    ∷ gets 1 (call.Read (pos 0) (pos 4096) (pos 512)) (reply.Val (pos 88))
    ∷ gets 1 (call.Read (pos 0) (pos 4096) (pos 512)) (reply.Val (pos 0))
    ∷ gets 1 (call.Read (pos 0) (pos 4096) (pos 0)) (reply.Val (pos 0))
    ∷ gets 1 (call.Close (pos 0)) (reply.Val (pos 0))
    ∷ fails 1 (call.Close (pos 0)) errno.EBADF
    ∷ ends 1 (call.Exit (pos 0)) 0
    ∷ []

-- the heap that is taken after each of these, and how many nodes have to be cached
abbrev pub broken_pipes_take : List ℕ
broken_pipes_take = 1024 ∷ 1280 ∷ 2432 ∷ 1216 ∷ 1216 ∷ 1216 ∷ 1216 ∷ 1024 ∷ 1280 ∷ 2432 ∷ 2368 ∷ 5888 ∷ 5312 ∷ 5312 ∷ 5312 ∷ 5120 ∷ 5120 ∷ 0 ∷ []

abbrev pub broken_pipes_pin : List ℕ
broken_pipes_pin = 1 ∷ 1 ∷ 1 ∷ 1 ∷ 1 ∷ 1 ∷ 1 ∷ 1 ∷ 1 ∷ 1 ∷ 1 ∷ 1 ∷ 1 ∷ 1 ∷ 1 ∷ 1 ∷ 1 ∷ 1 ∷ []

-- A write that has moved a part is told it where the readers go, or where it may wait no more.
abbrev pub parts_that_end : List Line
parts_that_end =
    gets 1 (call.Mmap (pos 8192)) (reply.Val (pos 4096))
    ∷ gets 1 call.Pipe (reply.Pair 0 1)
    ∷ gets 1 call.Fork (reply.Val (pos 2))
    ∷ moves 1 (call.Write (pos 1) (pos 4096) (pos 5000) 0) 4096
    ∷ gets 2 (call.Fcntl (pos 1) (pos 4) (pos 2048)) (reply.Val (pos 0))
    ∷ gets 1 (call.Write (pos 1) (pos 4096) (pos 5000) 4096) (reply.Val (pos 4096))
    ∷ gets 1 (call.Fcntl (pos 1) (pos 4) (pos 0)) (reply.Val (pos 0))
    ∷ gets 1 (call.Read (pos 0) (pos 4096) (pos 96)) (reply.Val (pos 96))
    ∷ sleeps 1 (call.Write (pos 1) (pos 4096) (pos 300) 0)
    ∷ gets 2 (call.Fcntl (pos 1) (pos 3) (pos 0)) (reply.Val (pos 1))
    ∷ gets 2 (call.Read (pos 0) (pos 4096) (pos 500)) (reply.Val (pos 500))
    ∷ gets 1 (call.Write (pos 1) (pos 4096) (pos 300) 0) (reply.Val (pos 300))
    ∷ gets 1 (call.Close (pos 0)) (reply.Val (pos 0))
    ∷ moves 1 (call.Write (pos 1) (pos 4096) (pos 6000) 0) 296
    ∷ gets 2 call.SchedYield (reply.Val (pos 0))
    ∷ gets 2 (call.Close (pos 0)) (reply.Val (pos 0))
    ∷ gets 1 (call.Write (pos 1) (pos 4096) (pos 6000) 296) (reply.Val (pos 296))
    ∷ sleeps 1 (call.Waitpid (negsuc 0) (pos 0))
    ∷ ends 2 (call.Exit (pos 0)) 0
    ∷ gets 1 (call.Waitpid (negsuc 0) (pos 0)) (reply.Waited 2 0)
    ∷ ends 1 (call.Exit (pos 0)) 0
    ∷ []

-- the heap that is taken after each of these, and how many nodes have to be cached
abbrev pub parts_that_end_take : List ℕ
parts_that_end_take = 1024 ∷ 1280 ∷ 2304 ∷ 6912 ∷ 6912 ∷ 6912 ∷ 6912 ∷ 11008 ∷ 11008 ∷ 11008 ∷ 14528 ∷ 15104 ∷ 15104 ∷ 15680 ∷ 15680 ∷ 10432 ∷ 10432 ∷ 10432 ∷ 5824 ∷ 5312 ∷ 0 ∷ []

abbrev pub parts_that_end_pin : List ℕ
parts_that_end_pin = 1 ∷ 1 ∷ 1 ∷ 1 ∷ 1 ∷ 1 ∷ 1 ∷ 1 ∷ 1 ∷ 1 ∷ 1 ∷ 1 ∷ 1 ∷ 1 ∷ 1 ∷ 1 ∷ 1 ∷ 1 ∷ 1 ∷ 1 ∷ 1 ∷ []

-- An end of a pipe is closed with the last descriptor of all processes that names it.
abbrev pub last_copies : List Line
last_copies =
    gets 1 (call.Mmap (pos 4096)) (reply.Val (pos 4096))
    ∷ gets 1 call.Pipe (reply.Pair 0 1)
    ∷ gets 1 (call.Dup (pos 1)) (reply.Val (pos 2))
    ∷ gets 1 call.Fork (reply.Val (pos 2))
    ∷ gets 1 (call.Close (pos 1)) (reply.Val (pos 0))
    ∷ gets 1 (call.Close (pos 2)) (reply.Val (pos 0))
    ∷ sleeps 1 (call.Read (pos 0) (pos 4096) (pos 9))
    ∷ gets 2 (call.Close (pos 0)) (reply.Val (pos 0))
    ∷ gets 2 (call.Close (pos 1)) (reply.Val (pos 0))
    ∷ gets 2 (call.Write (pos 2) (pos 4096) (pos 4) 0) (reply.Val (pos 4))
    ∷ gets 1 (call.Read (pos 0) (pos 4096) (pos 9)) (reply.Val (pos 4))
    ∷ sleeps 1 (call.Read (pos 0) (pos 4096) (pos 9))
    ∷ gets 2 (call.Dup2 (pos 2) (pos 9)) (reply.Val (pos 9))
    ∷ gets 2 (call.Close (pos 2)) (reply.Val (pos 0))
    ∷ gets 2 call.SchedYield (reply.Val (pos 0))
    ∷ gets 2 (call.Write (pos 9) (pos 4096) (pos 2) 0) (reply.Val (pos 2))
    ∷ gets 1 (call.Read (pos 0) (pos 4096) (pos 9)) (reply.Val (pos 2))
    ∷ sleeps 1 (call.Read (pos 0) (pos 4096) (pos 9))
    ∷ ends 2 (call.Exit (pos 5)) 1280
    ∷ gets 1 (call.Read (pos 0) (pos 4096) (pos 9)) (reply.Val (pos 0))
    ∷ gets 1 (call.Waitpid (negsuc 0) (pos 0)) (reply.Waited 2 1280)
    ∷ ends 1 (call.Exit (pos 0)) 0
    ∷ []

-- the heap that is taken after each of these, and how many nodes have to be cached
abbrev pub last_copies_take : List ℕ
last_copies_take = 1024 ∷ 1280 ∷ 1280 ∷ 2304 ∷ 2304 ∷ 2304 ∷ 2304 ∷ 2304 ∷ 2304 ∷ 2880 ∷ 6400 ∷ 6400 ∷ 6400 ∷ 6400 ∷ 6400 ∷ 6976 ∷ 6400 ∷ 6400 ∷ 5824 ∷ 5824 ∷ 5312 ∷ 0 ∷ []

abbrev pub last_copies_pin : List ℕ
last_copies_pin = 1 ∷ 1 ∷ 1 ∷ 1 ∷ 1 ∷ 1 ∷ 1 ∷ 1 ∷ 1 ∷ 1 ∷ 1 ∷ 1 ∷ 1 ∷ 1 ∷ 1 ∷ 1 ∷ 1 ∷ 1 ∷ 1 ∷ 1 ∷ 1 ∷ 1 ∷ []

-- The lowest descriptors that are free, and their flags.
abbrev pub numbers_of_descriptors : List Line
numbers_of_descriptors =
    gets 1 call.Pipe (reply.Pair 0 1)
    ∷ gets 1 (call.Dup (pos 0)) (reply.Val (pos 2))
    ∷ fails 1 (call.Dup (pos 7)) errno.EBADF
    ∷ gets 1 (call.Dup2 (pos 1) (pos 5)) (reply.Val (pos 5))
    ∷ gets 1 (call.Dup2 (pos 5) (pos 5)) (reply.Val (pos 5))
    ∷ fails 1 (call.Dup2 (pos 9) (pos 0)) errno.EBADF
    ∷ fails 1 (call.Dup2 (pos 0) (pos 128)) errno.EBADF
    ∷ fails 1 (call.Dup2 (pos 0) (negsuc 0)) errno.EBADF
    ∷ fails 1 (call.Dup2 (pos 9) (pos 9)) errno.EBADF
    ∷ gets 1 (call.Fcntl (pos 0) (pos 0) (pos 4)) (reply.Val (pos 4))
    ∷ gets 1 (call.Fcntl (pos 0) (pos 0) (pos 4)) (reply.Val (pos 6))
    ∷ gets 1 (call.Fcntl (pos 0) (pos 0) (pos 31)) (reply.Val (pos 31))
    ∷ gets 1 (call.Fcntl (pos 0) (pos 0) (pos 31)) (reply.Val (pos 32))
    ∷ gets 1 (call.Fcntl (pos 0) (pos 0) (pos 127)) (reply.Val (pos 127))
    ∷ fails 1 (call.Fcntl (pos 0) (pos 0) (pos 127)) errno.EMFILE
    ∷ fails 1 (call.Fcntl (pos 0) (pos 0) (pos 128)) errno.EINVAL
    ∷ gets 1 (call.Close (pos 32)) (reply.Val (pos 0))
    ∷ fails 1 (call.Fcntl (pos 0) (pos 0) (negsuc 0)) errno.EINVAL
    ∷ fails 1 (call.Fcntl (pos 9) (pos 1) (pos 0)) errno.EBADF
    ∷ fails 1 (call.Fcntl (pos 9) (pos 5) (pos 0)) errno.EINVAL
    ∷ gets 1 (call.Fcntl (pos 0) (pos 1) (pos 0)) (reply.Val (pos 0))
    ∷ gets 1 (call.Fcntl (pos 0) (pos 2) (pos 1)) (reply.Val (pos 0))
    ∷ gets 1 (call.Fcntl (pos 0) (pos 1) (pos 0)) (reply.Val (pos 1))
    ∷ gets 1 (call.Fcntl (pos 2) (pos 1) (pos 0)) (reply.Val (pos 0))
    ∷ gets 1 (call.Fcntl (pos 0) (pos 2) (pos 2)) (reply.Val (pos 0))
    ∷ gets 1 (call.Fcntl (pos 0) (pos 1) (pos 0)) (reply.Val (pos 0))
    ∷ gets 1 (call.Fcntl (pos 0) (pos 3) (pos 0)) (reply.Val (pos 0))
    ∷ gets 1 (call.Fcntl (pos 5) (pos 3) (pos 0)) (reply.Val (pos 1))
    ∷ gets 1 (call.Fcntl (pos 1) (pos 4) (pos 3138)) (reply.Val (pos 0))
    ∷ gets 1 (call.Fcntl (pos 5) (pos 3) (pos 0)) (reply.Val (pos 3073))
    ∷ gets 1 (call.Fcntl (pos 0) (pos 3) (pos 0)) (reply.Val (pos 0))
    ∷ gets 1 (call.Fcntl (pos 0) (pos 2) (pos 1)) (reply.Val (pos 0))
    ∷ gets 1 (call.Dup2 (pos 0) (pos 0)) (reply.Val (pos 0))
    ∷ gets 1 (call.Fcntl (pos 0) (pos 1) (pos 0)) (reply.Val (pos 1))
    ∷ gets 1 (call.Dup (pos 0)) (reply.Val (pos 3))
    ∷ gets 1 (call.Fcntl (pos 3) (pos 1) (pos 0)) (reply.Val (pos 0))
    ∷ gets 1 (call.Dup2 (pos 0) (pos 5)) (reply.Val (pos 5))
    ∷ gets 1 (call.Fcntl (pos 5) (pos 3) (pos 0)) (reply.Val (pos 0))
    ∷ gets 1 (call.Dup (pos 0)) (reply.Val (pos 7))
    ∷ gets 1 call.SchedYield (reply.Val (pos 0))
    ∷ gets 1 (call.Dup (pos 0)) (reply.Val (pos 8))
    ∷ gets 1 call.SchedYield (reply.Val (pos 0))
    ∷ gets 1 (call.Dup (pos 0)) (reply.Val (pos 9))
    ∷ []

-- the heap that is taken after each of these, and how many nodes have to be cached
abbrev pub numbers_of_descriptors_take : List ℕ
numbers_of_descriptors_take = 768 ∷ 768 ∷ 768 ∷ 768 ∷ 768 ∷ 768 ∷ 768 ∷ 768 ∷ 768 ∷ 768 ∷ 768 ∷ 768 ∷ 1024 ∷ 1280 ∷ 1280 ∷ 1280 ∷ 1024 ∷ 1024 ∷ 1024 ∷ 1024 ∷ 1024 ∷ 1024 ∷ 1024 ∷ 1024 ∷ 1024 ∷ 1024 ∷ 1024 ∷ 1024 ∷ 1024 ∷ 1024 ∷ 1024 ∷ 1024 ∷ 1024 ∷ 1024 ∷ 1024 ∷ 1024 ∷ 1024 ∷ 1024 ∷ 1024 ∷ 1024 ∷ 1024 ∷ 1024 ∷ 1024 ∷ []

abbrev pub numbers_of_descriptors_pin : List ℕ
numbers_of_descriptors_pin = 1 ∷ 1 ∷ 1 ∷ 1 ∷ 1 ∷ 1 ∷ 1 ∷ 1 ∷ 1 ∷ 1 ∷ 1 ∷ 1 ∷ 1 ∷ 1 ∷ 1 ∷ 1 ∷ 1 ∷ 1 ∷ 1 ∷ 1 ∷ 1 ∷ 1 ∷ 1 ∷ 1 ∷ 1 ∷ 1 ∷ 1 ∷ 1 ∷ 1 ∷ 1 ∷ 1 ∷ 1 ∷ 1 ∷ 1 ∷ 1 ∷ 1 ∷ 1 ∷ 1 ∷ 1 ∷ 1 ∷ 1 ∷ 1 ∷ 1 ∷ []
