-- Traces of sockets that socketpair makes.
use Rattle.std.specs.Prelude.{ℕ, pos, List, [], ◌∷◌}
use Rattle.kabi_types.specs.declared.calls.Call.TheVariants as call
use Rattle.kabi_types.specs.declared.errnos.Errno.TheVariants as errno
use Rattle.kabi_types.specs.declared.replies.Reply.TheVariants as reply
use Rattle.kabi_types.specs.declared.replies.NodeKind.TheVariants as node
use Rattle.machine_traces.specs.Trace.{Line, gets, fails, ends, info}

-- The faults of the calls on sockets, in the order in which they are told.
abbrev pub faults_on_pairs : List Line
faults_on_pairs =
    gets 1 (call.Mmap (pos 4096)) (reply.Val (pos 4096))
    ∷ gets 1 call.Socket (reply.Val (pos 0))
    ∷ fails 1 (call.Read (pos 0) (pos 4096) (pos 1)) errno.ENOTCONN
    ∷ fails 1 (call.Write (pos 0) (pos 4096) (pos 1) 0) errno.ENOTCONN
    ∷ gets 1 (call.Read (pos 0) (pos 4096) (pos 0)) (reply.Val (pos 0))
    ∷ gets 1 (call.Write (pos 0) (pos 4096) (pos 0) 0) (reply.Val (pos 0))
    ∷ fails 1 (call.Read (pos 0) (pos 8192) (pos 1)) errno.EFAULT
    ∷ fails 1 (call.Shutdown (pos 0) (pos 0)) errno.ENOTCONN
    ∷ fails 1 (call.Shutdown (pos 0) (pos 3)) errno.EINVAL
    ∷ fails 1 (call.Listen (pos 0)) errno.EDESTADDRREQ
    ∷ fails 1 (call.Accept (pos 0)) errno.EINVAL
    ∷ fails 1 (call.Pread (pos 0) (pos 4096) (pos 1) (pos 0)) errno.ESPIPE
    ∷ fails 1 (call.Pwrite (pos 0) (pos 4096) (pos 1) (pos 0)) errno.ESPIPE
    ∷ fails 1 (call.Lseek (pos 0) (pos 0) (pos 2)) errno.ESPIPE
    ∷ fails 1 (call.Ftruncate (pos 0) (pos 1)) errno.EINVAL
    ∷ fails 1 (call.Readdir (pos 0) (pos 4096) (pos 64)) errno.ENOTDIR
    ∷ gets 1 (call.Fstat (pos 0)) (reply.Stat (info node.Sock 0 0 0))
    ∷ gets 1 (call.Fcntl (pos 0) (pos 3) (pos 0)) (reply.Val (pos 2))
    ∷ gets 1 call.Pipe (reply.Pair 1 2)
    ∷ fails 1 (call.Listen (pos 1)) errno.ENOTSOCK
    ∷ fails 1 (call.Accept (pos 2)) errno.ENOTSOCK
    ∷ fails 1 (call.Shutdown (pos 1) (pos 1)) errno.ENOTSOCK
    ∷ fails 1 (call.Listen (pos 9)) errno.EBADF
    ∷ fails 1 (call.Accept (pos 9)) errno.EBADF
    ∷ fails 1 (call.Shutdown (pos 9) (pos 1)) errno.EBADF
    ∷ gets 1 call.Socketpair (reply.Pair 3 4)
    ∷ fails 1 (call.Listen (pos 3)) errno.EINVAL
    ∷ fails 1 (call.Accept (pos 3)) errno.EINVAL
    ∷ ends 1 (call.Exit (pos 0)) 0
    ∷ []

-- the heap that is taken after each of these, and how many nodes have to be cached
abbrev pub faults_on_pairs_take : List ℕ
faults_on_pairs_take = 1024 ∷ 1216 ∷ 1216 ∷ 1216 ∷ 1216 ∷ 1216 ∷ 1216 ∷ 1216 ∷ 1216 ∷ 1216 ∷ 1216 ∷ 1216 ∷ 1216 ∷ 1216 ∷ 1216 ∷ 1216 ∷ 1216 ∷ 1216 ∷ 1472 ∷ 1472 ∷ 1472 ∷ 1472 ∷ 1472 ∷ 1472 ∷ 1472 ∷ 1856 ∷ 1856 ∷ 1856 ∷ 0 ∷ []

abbrev pub faults_on_pairs_pin : List ℕ
faults_on_pairs_pin = 1 ∷ 1 ∷ 1 ∷ 1 ∷ 1 ∷ 1 ∷ 1 ∷ 1 ∷ 1 ∷ 1 ∷ 1 ∷ 1 ∷ 1 ∷ 1 ∷ 1 ∷ 1 ∷ 1 ∷ 1 ∷ 1 ∷ 1 ∷ 1 ∷ 1 ∷ 1 ∷ 1 ∷ 1 ∷ 1 ∷ 1 ∷ 1 ∷ 1 ∷ []

-- A socket that is shut for reading, and its peer.
abbrev pub shut_reading : List Line
shut_reading =
    gets 1 (call.Mmap (pos 4096)) (reply.Val (pos 4096))
    ∷ gets 1 call.Socketpair (reply.Pair 0 1)
    ∷ gets 1 (call.Write (pos 1) (pos 4096) (pos 2000) 0) (reply.Val (pos 2000))
    ∷ gets 1 (call.Shutdown (pos 0) (pos 0)) (reply.Val (pos 0))
    ∷ gets 1 (call.Read (pos 0) (pos 4096) (pos 10)) (reply.Val (pos 0))
    ∷ fails 1 (call.Write (pos 1) (pos 4096) (pos 1) 0) errno.EPIPE
    ∷ gets 1 (call.Write (pos 0) (pos 4096) (pos 600) 0) (reply.Val (pos 600))
    ∷ gets 1 (call.Read (pos 1) (pos 4096) (pos 600)) (reply.Val (pos 600))
    ∷ gets 1 (call.Write (pos 1) (pos 4096) (pos 0) 0) (reply.Val (pos 0))
    ∷ gets 1 (call.Shutdown (pos 0) (pos 0)) (reply.Val (pos 0))
    ∷ gets 1 (call.Shutdown (pos 1) (pos 2)) (reply.Val (pos 0))
    ∷ gets 1 (call.Read (pos 0) (pos 4096) (pos 1)) (reply.Val (pos 0))
    ∷ gets 1 (call.Read (pos 1) (pos 4096) (pos 1)) (reply.Val (pos 0))
    ∷ fails 1 (call.Write (pos 0) (pos 4096) (pos 1) 0) errno.EPIPE
    ∷ fails 1 (call.Shutdown (pos 1) (pos 3)) errno.EINVAL
    ∷ fails 1 (call.Shutdown (pos 9) (pos 0)) errno.EBADF
    ∷ ends 1 (call.Exit (pos 0)) 0
    ∷ []

-- the heap that is taken after each of these, and how many nodes have to be cached
abbrev pub shut_reading_take : List ℕ
shut_reading_take = 1024 ∷ 1408 ∷ 3712 ∷ 1408 ∷ 1408 ∷ 1408 ∷ 2560 ∷ 5504 ∷ 5504 ∷ 5504 ∷ 5504 ∷ 5504 ∷ 5504 ∷ 5504 ∷ 5504 ∷ 5504 ∷ 0 ∷ []

abbrev pub shut_reading_pin : List ℕ
shut_reading_pin = 1 ∷ 1 ∷ 1 ∷ 1 ∷ 1 ∷ 1 ∷ 1 ∷ 1 ∷ 1 ∷ 1 ∷ 1 ∷ 1 ∷ 1 ∷ 1 ∷ 1 ∷ 1 ∷ 1 ∷ []

-- What a socket reads and writes after its peer has closed.
abbrev pub closed_peers : List Line
closed_peers =
    gets 1 (call.Mmap (pos 4096)) (reply.Val (pos 4096))
    ∷ gets 1 call.Socketpair (reply.Pair 0 1)
    ∷ gets 1 (call.Write (pos 0) (pos 4096) (pos 1500) 0) (reply.Val (pos 1500))
    ∷ gets 1 (call.Write (pos 1) (pos 4096) (pos 40) 0) (reply.Val (pos 40))
    ∷ gets 1 (call.Close (pos 1)) (reply.Val (pos 0))
    ∷ fails 1 (call.Write (pos 0) (pos 4096) (pos 1) 0) errno.EPIPE
    ∷ gets 1 (call.Read (pos 0) (pos 4096) (pos 99)) (reply.Val (pos 40))
    ∷ gets 1 (call.Read (pos 0) (pos 4096) (pos 99)) (reply.Val (pos 0))
    ∷ gets 1 (call.Shutdown (pos 0) (pos 2)) (reply.Val (pos 0))
    ∷ fails 1 (call.Listen (pos 0)) errno.EINVAL
    ∷ gets 1 (call.Close (pos 0)) (reply.Val (pos 0))
    ∷ gets 1 call.Socketpair (reply.Pair 0 1)
    ∷ gets 1 (call.Dup2 (pos 0) (pos 1)) (reply.Val (pos 1))
    ∷ gets 1 (call.Read (pos 1) (pos 4096) (pos 1)) (reply.Val (pos 0))
    ∷ fails 1 (call.Write (pos 0) (pos 4096) (pos 1) 0) errno.EPIPE
    ∷ ends 1 (call.Exit (pos 0)) 0
    ∷ []

-- the heap that is taken after each of these, and how many nodes have to be cached
abbrev pub closed_peers_take : List ℕ
closed_peers_take = 1024 ∷ 1408 ∷ 3136 ∷ 3712 ∷ 1792 ∷ 1792 ∷ 5312 ∷ 5312 ∷ 5312 ∷ 5312 ∷ 5120 ∷ 5504 ∷ 5312 ∷ 5312 ∷ 5312 ∷ 0 ∷ []

abbrev pub closed_peers_pin : List ℕ
closed_peers_pin = 1 ∷ 1 ∷ 1 ∷ 1 ∷ 1 ∷ 1 ∷ 1 ∷ 1 ∷ 1 ∷ 1 ∷ 1 ∷ 1 ∷ 1 ∷ 1 ∷ 1 ∷ 1 ∷ []
