-- Traces of the signals that a process may ignore.
use Rattle.std.specs.Prelude.{ℕ, pos, negsuc, List, [], ◌∷◌}
use Rattle.kabi_types.specs.declared.calls.Call.TheVariants as call
use Rattle.kabi_types.specs.declared.errnos.Errno.TheVariants as errno
use Rattle.kabi_types.specs.declared.replies.Reply.TheVariants as reply
use Rattle.machine_traces.specs.Trace.{Line, gets, fails, ends}

-- The first process ignores both signals, a child begins as its parent is, and who ignores a signal isn't ended by it.
abbrev pub dispositions : List Line
dispositions =
    fails 1 (call.Signal (pos 9) (pos 0)) errno.EINVAL
    ∷ fails 1 (call.Signal (pos 0) (pos 1)) errno.EINVAL
    ∷ fails 1 (call.Signal (negsuc 12) (pos 1)) errno.EINVAL
    ∷ fails 1 (call.Signal (pos 13) (pos 2)) errno.EINVAL
    ∷ fails 1 (call.Signal (pos 15) (negsuc 0)) errno.EINVAL
    ∷ gets 1 (call.Signal (pos 13) (pos 1)) (reply.Val (pos 1))
    ∷ gets 1 (call.Signal (pos 15) (pos 1)) (reply.Val (pos 1))
    ∷ gets 1 call.Fork (reply.Val (pos 2))
    ∷ gets 2 (call.Signal (pos 15) (pos 0)) (reply.Val (pos 1))
    ∷ gets 1 (call.Signal (pos 15) (pos 1)) (reply.Val (pos 1))
    ∷ gets 2 (call.Signal (pos 15) (pos 0)) (reply.Val (pos 0))
    ∷ gets 2 call.Fork (reply.Val (pos 3))
    ∷ gets 3 (call.Signal (pos 15) (pos 1)) (reply.Val (pos 0))
    ∷ gets 1 (call.Kill (pos 3) (pos 15)) (reply.Val (pos 0))
    ∷ gets 3 (call.Kill (pos 3) (pos 15)) (reply.Val (pos 0))
    ∷ gets 3 (call.Signal (pos 13) (pos 0)) (reply.Val (pos 1))
    ∷ gets 2 (call.Kill (pos 3) (pos 13)) (reply.Val (pos 0))
    ∷ gets 2 (call.Waitpid (pos 3) (pos 0)) (reply.Waited 3 13)
    ∷ gets 2 (call.Kill (pos 2) (pos 13)) (reply.Val (pos 0))
    ∷ ends 2 (call.Kill (pos 2) (pos 15)) 15
    ∷ gets 1 (call.Kill (pos 2) (pos 15)) (reply.Val (pos 0))
    ∷ gets 1 (call.Signal (pos 15) (pos 0)) (reply.Val (pos 1))
    ∷ fails 1 (call.Kill (pos 1) (pos 15)) errno.EPERM
    ∷ fails 1 (call.Kill (pos 1) (pos 13)) errno.EPERM
    ∷ gets 1 (call.Waitpid (pos 2) (pos 0)) (reply.Waited 2 15)
    ∷ fails 1 (call.Kill (pos 2) (pos 15)) errno.ESRCH
    ∷ ends 1 (call.Exit (pos 0)) 0
    ∷ []

-- the heap that is taken after each of these, and how many nodes have to be cached
abbrev pub dispositions_take : List ℕ
dispositions_take = 512 ∷ 512 ∷ 512 ∷ 512 ∷ 512 ∷ 512 ∷ 512 ∷ 1024 ∷ 1024 ∷ 1024 ∷ 1024 ∷ 1536 ∷ 1536 ∷ 1536 ∷ 1536 ∷ 1536 ∷ 1536 ∷ 1024 ∷ 1024 ∷ 1024 ∷ 1024 ∷ 1024 ∷ 1024 ∷ 1024 ∷ 512 ∷ 512 ∷ 0 ∷ []

abbrev pub dispositions_pin : List ℕ
dispositions_pin = 1 ∷ 1 ∷ 1 ∷ 1 ∷ 1 ∷ 1 ∷ 1 ∷ 1 ∷ 1 ∷ 1 ∷ 1 ∷ 1 ∷ 1 ∷ 1 ∷ 1 ∷ 1 ∷ 1 ∷ 1 ∷ 1 ∷ 1 ∷ 1 ∷ 1 ∷ 1 ∷ 1 ∷ 1 ∷ 1 ∷ 1 ∷ []

-- A write that nobody reads ends who doesn't ignore SIGPIPE, the first process too, unless it has another fault or has moved a part.
abbrev pub unread_writes : List Line
unread_writes =
    gets 1 (call.Mmap (pos 4096)) (reply.Val (pos 4096))
    ∷ gets 1 call.Pipe (reply.Pair 0 1)
    ∷ gets 1 call.Fork (reply.Val (pos 2))
    ∷ gets 2 (call.Signal (pos 13) (pos 0)) (reply.Val (pos 1))
    ∷ gets 1 (call.Close (pos 0)) (reply.Val (pos 0))
    ∷ gets 2 (call.Close (pos 0)) (reply.Val (pos 0))
    ∷ fails 2 (call.Write (pos 1) (pos 8192) (pos 1) 0) errno.EFAULT
    ∷ gets 2 (call.Write (pos 1) (pos 4096) (pos 0) 0) (reply.Val (pos 0))
    ∷ fails 2 (call.Write (pos 0) (pos 4096) (pos 1) 0) errno.EBADF
    ∷ fails 1 (call.Write (pos 1) (pos 4096) (pos 1) 0) errno.EPIPE
    ∷ gets 2 (call.Write (pos 1) (pos 4096) (pos 600) 256) (reply.Val (pos 256))
    ∷ gets 2 (call.Fcntl (pos 1) (pos 4) (pos 2048)) (reply.Val (pos 0))
    ∷ ends 2 (call.Write (pos 1) (pos 4096) (pos 1) 0) 13
    ∷ gets 1 (call.Waitpid (pos 2) (pos 0)) (reply.Waited 2 13)
    ∷ gets 1 (call.Close (pos 1)) (reply.Val (pos 0))
    ∷ gets 1 call.Socketpair (reply.Pair 0 1)
    ∷ gets 1 call.Socket (reply.Val (pos 2))
    ∷ gets 1 (call.Signal (pos 13) (pos 0)) (reply.Val (pos 1))
    ∷ fails 1 (call.Write (pos 2) (pos 4096) (pos 1) 0) errno.ENOTCONN
    ∷ gets 1 (call.Shutdown (pos 1) (pos 0)) (reply.Val (pos 0))
    ∷ gets 1 (call.Write (pos 1) (pos 4096) (pos 600) 0) (reply.Val (pos 600))
    ∷ ends 1 (call.Write (pos 0) (pos 4096) (pos 1) 0) 13
    ∷ []

-- the heap that is taken after each of these, and how many nodes have to be cached
abbrev pub unread_writes_take : List ℕ
unread_writes_take = 1024 ∷ 1280 ∷ 2304 ∷ 2304 ∷ 2304 ∷ 2240 ∷ 2240 ∷ 2240 ∷ 2240 ∷ 2240 ∷ 2240 ∷ 2240 ∷ 1728 ∷ 1216 ∷ 1024 ∷ 1408 ∷ 1600 ∷ 1600 ∷ 1600 ∷ 1600 ∷ 2752 ∷ 0 ∷ []

abbrev pub unread_writes_pin : List ℕ
unread_writes_pin = 1 ∷ 1 ∷ 1 ∷ 1 ∷ 1 ∷ 1 ∷ 1 ∷ 1 ∷ 1 ∷ 1 ∷ 1 ∷ 1 ∷ 1 ∷ 1 ∷ 1 ∷ 1 ∷ 1 ∷ 1 ∷ 1 ∷ 1 ∷ 1 ∷ 1 ∷ []
