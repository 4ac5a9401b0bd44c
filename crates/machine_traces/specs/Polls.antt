-- Traces of poll.
use Rattle.std.specs.Prelude.{ℕ, pos, negsuc, List, [], ◌∷◌}
use Rattle.kabi_types.specs.declared.calls.Call.TheVariants as call
use Rattle.kabi_types.specs.declared.errnos.Errno.TheVariants as errno
use Rattle.kabi_types.specs.declared.replies.Reply.TheVariants as reply
use Rattle.machine_traces.specs.Trace.{Line, gets, fails, sleeps, ends}

-- What `poll` tells of descriptors that are open, closed, below 0 and past the last.
abbrev pub polled_entries : List Line
polled_entries =
    gets 1 call.Pipe (reply.Pair 0 1)
    ∷ gets 1 (call.Poll (pos 0) []) (reply.Polled (record { hits = 0; revents = [] }))
    ∷ fails 1 (call.Poll (pos 1) []) errno.EINVAL
    ∷ fails 1 (call.Poll (negsuc 1) (record { fd = pos 0; events = pos 1 } ∷ [])) errno.EINVAL
    ∷ gets 1 (call.Poll (pos 0) (record { fd = negsuc 0; events = pos 1 } ∷ [])) (reply.Polled (record { hits = 0; revents = 0 ∷ [] }))
    ∷ gets 1 (call.Poll (pos 0) (record { fd = negsuc 0; events = pos 1 } ∷ record { fd = negsuc 98; events = pos 0 } ∷ [])) (reply.Polled (record { hits = 0; revents = 0 ∷ 0 ∷ [] }))
    ∷ gets 1 (call.Poll (pos 0) (record { fd = pos 2; events = pos 1 } ∷ [])) (reply.Polled (record { hits = 1; revents = 32 ∷ [] }))
    ∷ gets 1 (call.Poll (pos 0) (record { fd = pos 2; events = pos 0 } ∷ [])) (reply.Polled (record { hits = 1; revents = 32 ∷ [] }))
    ∷ gets 1 (call.Poll (pos 0) (record { fd = pos 31; events = pos 0 } ∷ record { fd = pos 32; events = pos 0 } ∷ record { fd = pos 1000000; events = pos 0 } ∷ [])) (reply.Polled (record { hits = 3; revents = 32 ∷ 32 ∷ 32 ∷ [] }))
    ∷ gets 1 (call.Poll (pos 0) (record { fd = pos 9223372036854775807; events = pos 1 } ∷ record { fd = negsuc 9223372036854775807; events = pos 1 } ∷ [])) (reply.Polled (record { hits = 1; revents = 32 ∷ 0 ∷ [] }))
    ∷ gets 1 (call.Poll (pos 0) (record { fd = pos 1; events = pos 4 } ∷ record { fd = pos 1; events = pos 4 } ∷ record { fd = negsuc 0; events = pos 4 } ∷ record { fd = pos 1; events = pos 4 } ∷ record { fd = pos 0; events = pos 1 } ∷ record { fd = pos 1; events = pos 0 } ∷ record { fd = pos 9; events = pos 0 } ∷ record { fd = pos 1; events = pos 5 } ∷ [])) (reply.Polled (record { hits = 5; revents = 4 ∷ 4 ∷ 0 ∷ 4 ∷ 0 ∷ 0 ∷ 32 ∷ 4 ∷ [] }))
    ∷ ends 1 (call.Exit (pos 0)) 0
    ∷ []

-- the heap that is taken after each of these, and how many nodes have to be cached
abbrev pub polled_entries_take : List ℕ
polled_entries_take = 768 ∷ 768 ∷ 768 ∷ 768 ∷ 768 ∷ 768 ∷ 768 ∷ 768 ∷ 768 ∷ 768 ∷ 768 ∷ 0 ∷ []

abbrev pub polled_entries_pin : List ℕ
polled_entries_pin = 1 ∷ 1 ∷ 1 ∷ 1 ∷ 1 ∷ 1 ∷ 1 ∷ 1 ∷ 1 ∷ 1 ∷ 1 ∷ 1 ∷ []

-- What it tells of a pipe whose other end goes.
abbrev pub hung_up_ends : List Line
hung_up_ends =
    gets 1 (call.Mmap (pos 4096)) (reply.Val (pos 4096))
    ∷ gets 1 call.Pipe (reply.Pair 0 1)
    ∷ gets 1 call.Pipe (reply.Pair 2 3)
    ∷ gets 1 call.Fork (reply.Val (pos 2))
    ∷ gets 1 (call.Close (pos 1)) (reply.Val (pos 0))
    ∷ gets 1 (call.Close (pos 2)) (reply.Val (pos 0))
    ∷ gets 1 (call.Write (pos 3) (pos 4096) (pos 4000) 0) (reply.Val (pos 4000))
    ∷ sleeps 1 (call.Poll (negsuc 0) (record { fd = pos 0; events = pos 1 } ∷ record { fd = pos 3; events = pos 4 } ∷ []))
    ∷ gets 2 (call.Close (pos 0)) (reply.Val (pos 0))
    ∷ gets 2 (call.Close (pos 3)) (reply.Val (pos 0))
    ∷ gets 2 (call.Close (pos 1)) (reply.Val (pos 0))
    ∷ gets 1 (call.Poll (negsuc 0) (record { fd = pos 0; events = pos 1 } ∷ record { fd = pos 3; events = pos 4 } ∷ [])) (reply.Polled (record { hits = 1; revents = 16 ∷ 0 ∷ [] }))
    ∷ sleeps 1 (call.Poll (negsuc 0) (record { fd = pos 3; events = pos 4 } ∷ []))
    ∷ gets 2 call.Getpid (reply.Val (pos 2))
    ∷ ends 2 (call.Exit (pos 4)) 1024
    ∷ gets 1 (call.Poll (negsuc 0) (record { fd = pos 3; events = pos 4 } ∷ [])) (reply.Polled (record { hits = 1; revents = 8 ∷ [] }))
    ∷ fails 1 (call.Write (pos 3) (pos 4096) (pos 1) 0) errno.EPIPE
    ∷ gets 1 (call.Waitpid (negsuc 0) (pos 0)) (reply.Waited 2 1024)
    ∷ gets 1 call.Pipe (reply.Pair 1 2)
    ∷ gets 1 call.Fork (reply.Val (pos 3))
    ∷ gets 1 (call.Close (pos 2)) (reply.Val (pos 0))
    ∷ gets 1 call.Fork (reply.Val (pos 4))
    ∷ sleeps 1 (call.Poll (negsuc 0) (record { fd = pos 1; events = pos 0 } ∷ []))
    ∷ sleeps 3 (call.Poll (negsuc 0) [])
    ∷ gets 4 (call.Kill (pos 3) (pos 9)) (reply.Val (pos 0))
    ∷ gets 1 (call.Poll (negsuc 0) (record { fd = pos 1; events = pos 0 } ∷ [])) (reply.Polled (record { hits = 1; revents = 16 ∷ [] }))
    ∷ gets 1 (call.Waitpid (negsuc 0) (pos 0)) (reply.Waited 3 9)
    ∷ sleeps 1 (call.Waitpid (negsuc 0) (pos 0))
    ∷ ends 4 (call.Exit (pos 2)) 512
    ∷ gets 1 (call.Waitpid (negsuc 0) (pos 0)) (reply.Waited 4 512)
    ∷ ends 1 (call.Exit (pos 0)) 0
    ∷ []

-- the heap that is taken after each of these, and how many nodes have to be cached
abbrev pub hung_up_ends_take : List ℕ
hung_up_ends_take = 1024 ∷ 1280 ∷ 1536 ∷ 2560 ∷ 2560 ∷ 2560 ∷ 7168 ∷ 7168 ∷ 7168 ∷ 7168 ∷ 7104 ∷ 7104 ∷ 7104 ∷ 7104 ∷ 1920 ∷ 1920 ∷ 1920 ∷ 1408 ∷ 1664 ∷ 2688 ∷ 2688 ∷ 3712 ∷ 3712 ∷ 3712 ∷ 3136 ∷ 3136 ∷ 2624 ∷ 2624 ∷ 2112 ∷ 1600 ∷ 0 ∷ []

abbrev pub hung_up_ends_pin : List ℕ
hung_up_ends_pin = 1 ∷ 1 ∷ 1 ∷ 1 ∷ 1 ∷ 1 ∷ 1 ∷ 1 ∷ 1 ∷ 1 ∷ 1 ∷ 1 ∷ 1 ∷ 1 ∷ 1 ∷ 1 ∷ 1 ∷ 1 ∷ 1 ∷ 1 ∷ 1 ∷ 1 ∷ 1 ∷ 1 ∷ 1 ∷ 1 ∷ 1 ∷ 1 ∷ 1 ∷ 1 ∷ 1 ∷ []
