-- Traces of processes and of their memory.
use Rattle.std.specs.Prelude.{ℕ, pos, negsuc, List, [], ◌∷◌}
use Rattle.kabi_types.specs.declared.calls.Call.TheVariants as call
use Rattle.kabi_types.specs.declared.errnos.Errno.TheVariants as errno
use Rattle.kabi_types.specs.declared.replies.Reply.TheVariants as reply
use Rattle.machine_traces.specs.Trace.{Line, gets, fails, ends}

-- Pages mapped and unmapped.
abbrev pub breaks : List Line
breaks =
    fails 1 (call.Mmap (pos 0)) errno.EINVAL
    ∷ gets 1 (call.Mmap (pos 1044480)) (reply.Val (pos 4096))
    ∷ fails 1 (call.Mmap (pos 1)) errno.EMFILE
    ∷ fails 1 (call.Munmap (pos 4097) (pos 1)) errno.EINVAL
    ∷ gets 1 (call.Munmap (pos 4096) (pos 4096)) (reply.Val (pos 0))
    ∷ gets 1 (call.Mmap (pos 1)) (reply.Val (pos 4096))
    ∷ gets 1 (call.Munmap (pos 8192) (pos 100000)) (reply.Val (pos 0))
    ∷ gets 1 (call.Mmap (pos 40960)) (reply.Val (pos 8192))
    ∷ fails 1 (call.Mmap (pos 70000)) errno.EMFILE
    ∷ fails 1 (call.Munmap (pos 1048575) (pos 1)) errno.EINVAL
    ∷ fails 1 (call.Munmap (pos 0) (pos 1048577)) errno.EINVAL
    ∷ gets 1 (call.Munmap (pos 0) (pos 1048576)) (reply.Val (pos 0))
    ∷ gets 1 (call.Mmap (pos 1)) (reply.Val (pos 4096))
    ∷ ends 1 (call.Exit (pos 0)) 0
    ∷ []

-- the heap that is taken after each of these, and how many nodes have to be cached
abbrev pub breaks_take : List ℕ
breaks_take = 512 ∷ 2560 ∷ 2560 ∷ 2560 ∷ 2560 ∷ 2560 ∷ 2560 ∷ 2560 ∷ 2560 ∷ 2560 ∷ 2560 ∷ 512 ∷ 1024 ∷ 0 ∷ []

abbrev pub breaks_pin : List ℕ
breaks_pin = 1 ∷ 1 ∷ 1 ∷ 1 ∷ 1 ∷ 1 ∷ 1 ∷ 1 ∷ 1 ∷ 1 ∷ 1 ∷ 1 ∷ 1 ∷ 1 ∷ []

-- The faults of calls on processes.
abbrev pub faults_of_processes : List Line
faults_of_processes =
    fails 1 (call.Waitpid (pos 0) (pos 0)) errno.EINVAL
    ∷ fails 1 (call.Waitpid (negsuc 1) (pos 0)) errno.EINVAL
    ∷ fails 1 (call.Waitpid (negsuc 0) (pos 2)) errno.EINVAL
    ∷ fails 1 (call.Kill (pos 0) (pos 9)) errno.EINVAL
    ∷ fails 1 (call.Kill (negsuc 0) (pos 9)) errno.EINVAL
    ∷ fails 1 (call.Kill (pos 1) (pos 14)) errno.EINVAL
    ∷ gets 1 (call.Kill (pos 1) (pos 0)) (reply.Val (pos 0))
    ∷ fails 1 (call.Kill (pos 1) (pos 9)) errno.EPERM
    ∷ fails 1 (call.Kill (pos 7) (pos 9)) errno.ESRCH
    ∷ fails 1 (call.Kill (pos 7) (pos 14)) errno.EINVAL
    ∷ gets 1 call.Fork (reply.Val (pos 2))
    ∷ gets 1 (call.Kill (pos 2) (pos 0)) (reply.Val (pos 0))
    ∷ ends 1 (call.Exit (pos 0)) 0
    ∷ []

-- the heap that is taken after each of these, and how many nodes have to be cached
abbrev pub faults_of_processes_take : List ℕ
faults_of_processes_take = 512 ∷ 512 ∷ 512 ∷ 512 ∷ 512 ∷ 512 ∷ 512 ∷ 512 ∷ 512 ∷ 512 ∷ 1024 ∷ 1024 ∷ 0 ∷ []

abbrev pub faults_of_processes_pin : List ℕ
faults_of_processes_pin = 1 ∷ 1 ∷ 1 ∷ 1 ∷ 1 ∷ 1 ∷ 1 ∷ 1 ∷ 1 ∷ 1 ∷ 1 ∷ 1 ∷ 1 ∷ []

-- Who gets the children of a process that ends.
abbrev pub orphans : List Line
orphans =
    gets 1 call.Fork (reply.Val (pos 2))
    ∷ gets 2 call.Fork (reply.Val (pos 3))
    ∷ gets 2 call.Fork (reply.Val (pos 4))
    ∷ ends 2 (call.Exit (pos 5)) 1280
    ∷ gets 3 call.Getppid (reply.Val (pos 1))
    ∷ ends 3 (call.Exit (pos 6)) 1536
    ∷ gets 4 call.Getppid (reply.Val (pos 1))
    ∷ gets 4 call.SchedYield (reply.Val (pos 0))
    ∷ gets 4 call.Getppid (reply.Val (pos 1))
    ∷ ends 4 (call.Exit (pos 7)) 1792
    ∷ gets 1 (call.Waitpid (negsuc 0) (pos 0)) (reply.Waited 2 1280)
    ∷ gets 1 (call.Waitpid (negsuc 0) (pos 0)) (reply.Waited 3 1536)
    ∷ gets 1 (call.Waitpid (negsuc 0) (pos 0)) (reply.Waited 4 1792)
    ∷ ends 1 (call.Exit (pos 0)) 0
    ∷ []

-- the heap that is taken after each of these, and how many nodes have to be cached
abbrev pub orphans_take : List ℕ
orphans_take = 1024 ∷ 1536 ∷ 2048 ∷ 2048 ∷ 2048 ∷ 2048 ∷ 2048 ∷ 2048 ∷ 2048 ∷ 2048 ∷ 1536 ∷ 1024 ∷ 512 ∷ 0 ∷ []

abbrev pub orphans_pin : List ℕ
orphans_pin = 1 ∷ 1 ∷ 1 ∷ 1 ∷ 1 ∷ 1 ∷ 1 ∷ 1 ∷ 1 ∷ 1 ∷ 1 ∷ 1 ∷ 1 ∷ 1 ∷ []
