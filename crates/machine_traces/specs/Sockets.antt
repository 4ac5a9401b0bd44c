-- Traces of sockets with names.
use Rattle.std.specs.Prelude.{ℕ, pos, List, [], ◌∷◌, codes}
use Rattle.kabi_types.specs.declared.calls.Call.TheVariants as call
use Rattle.kabi_types.specs.declared.errnos.Errno.TheVariants as errno
use Rattle.kabi_types.specs.declared.replies.Reply.TheVariants as reply
use Rattle.kabi_types.specs.declared.replies.NodeKind.TheVariants as node
use Rattle.machine_traces.specs.Trace.{Line, gets, fails, ends, info}

-- Each answer of `bind`.
abbrev pub bound_sockets : List Line
bound_sockets =
    gets 1 (call.Mkdir (codes "/d")) (reply.Val (pos 0))
    ∷ gets 1 (call.OpenFile (codes "/f") (pos 66)) (reply.Val (pos 0))
    ∷ gets 1 call.Socket (reply.Val (pos 1))
    ∷ gets 1 call.Socketpair (reply.Pair 2 3)
    ∷ fails 1 (call.Bind (pos 9) []) errno.ENOENT
    ∷ fails 1 (call.Bind (pos 9) (codes "/aaaaaaaaaaaaaaaaaaaaaaaaaaaa")) errno.ENAMETOOLONG
    ∷ fails 1 (call.Bind (pos 9) (codes "/s")) errno.EBADF
    ∷ fails 1 (call.Bind (pos 0) (codes "/s")) errno.ENOTSOCK
    ∷ fails 1 (call.Bind (pos 2) (codes "/s")) errno.EISCONN
    ∷ fails 1 (call.Bind (pos 2) (codes "/f/x")) errno.EISCONN
    ∷ fails 1 (call.Bind (pos 1) (codes "/x/s")) errno.ENOENT
    ∷ fails 1 (call.Bind (pos 1) (codes "/f/s")) errno.ENOTDIR
    ∷ fails 1 (call.Bind (pos 1) (codes "/f/")) errno.ENOTDIR
    ∷ fails 1 (call.Bind (pos 1) (codes "/f")) errno.EADDRINUSE
    ∷ fails 1 (call.Bind (pos 1) (codes "/d")) errno.EADDRINUSE
    ∷ fails 1 (call.Bind (pos 1) (codes "/")) errno.EADDRINUSE
    ∷ fails 1 (call.Bind (pos 1) (codes ".")) errno.EADDRINUSE
    ∷ fails 1 (call.Bind (pos 1) (codes "/s/")) errno.ENOENT
    ∷ gets 1 (call.Bind (pos 1) (codes "/d/s")) (reply.Val (pos 0))
    ∷ fails 1 (call.Bind (pos 1) (codes "/t")) errno.EINVAL
    ∷ fails 1 (call.Bind (pos 1) (codes "/d/s")) errno.EINVAL
    ∷ fails 1 (call.Bind (pos 1) (codes "/x/y")) errno.EINVAL
    ∷ gets 1 call.Socket (reply.Val (pos 4))
    ∷ fails 1 (call.Bind (pos 4) (codes "/d/s")) errno.EADDRINUSE
    ∷ fails 1 (call.Bind (pos 4) (codes "/d/s/")) errno.ENOTDIR
    ∷ fails 1 (call.Bind (pos 4) (codes "/d/s/x")) errno.ENOTDIR
    ∷ gets 1 (call.Bind (pos 4) (codes "t")) (reply.Val (pos 0))
    ∷ gets 1 (call.Listen (pos 1)) (reply.Val (pos 0))
    ∷ fails 1 (call.Bind (pos 1) (codes "/u")) errno.EINVAL
    ∷ gets 1 (call.Connect (pos 4) (codes "/d/s")) (reply.Val (pos 0))
    ∷ fails 1 (call.Bind (pos 4) (codes "/u")) errno.EINVAL
    ∷ gets 1 (call.Stat (codes "/t")) (reply.Stat (info node.Sock 5 1 0))
    ∷ ends 1 (call.Exit (pos 0)) 0
    ∷ []

-- the heap that is taken after each of these, and how many nodes have to be cached
abbrev pub bound_sockets_take : List ℕ
bound_sockets_take = 512 ∷ 576 ∷ 768 ∷ 1152 ∷ 1152 ∷ 1152 ∷ 1152 ∷ 1152 ∷ 1152 ∷ 1152 ∷ 1152 ∷ 1152 ∷ 1152 ∷ 1152 ∷ 1152 ∷ 1152 ∷ 1152 ∷ 1152 ∷ 1152 ∷ 1152 ∷ 1152 ∷ 1152 ∷ 1344 ∷ 1344 ∷ 1344 ∷ 1344 ∷ 1344 ∷ 1344 ∷ 1344 ∷ 1472 ∷ 1472 ∷ 1472 ∷ 0 ∷ []

abbrev pub bound_sockets_pin : List ℕ
bound_sockets_pin = 1 ∷ 2 ∷ 2 ∷ 2 ∷ 2 ∷ 2 ∷ 2 ∷ 2 ∷ 2 ∷ 2 ∷ 2 ∷ 2 ∷ 2 ∷ 2 ∷ 2 ∷ 2 ∷ 2 ∷ 2 ∷ 2 ∷ 2 ∷ 2 ∷ 2 ∷ 2 ∷ 2 ∷ 2 ∷ 2 ∷ 2 ∷ 2 ∷ 2 ∷ 2 ∷ 2 ∷ 2 ∷ 1 ∷ []

-- Each answer of `connect`.
abbrev pub connected_sockets : List Line
connected_sockets =
    gets 1 (call.Mkdir (codes "/d")) (reply.Val (pos 0))
    ∷ gets 1 (call.OpenFile (codes "/f") (pos 66)) (reply.Val (pos 0))
    ∷ gets 1 call.Socket (reply.Val (pos 1))
    ∷ gets 1 call.Socket (reply.Val (pos 2))
    ∷ gets 1 call.Socketpair (reply.Pair 3 4)
    ∷ gets 1 (call.Bind (pos 1) (codes "/s")) (reply.Val (pos 0))
    ∷ gets 1 (call.Bind (pos 2) (codes "/t")) (reply.Val (pos 0))
    ∷ fails 1 (call.Connect (pos 9) []) errno.ENOENT
    ∷ fails 1 (call.Connect (pos 9) (codes "/x")) errno.EBADF
    ∷ fails 1 (call.Connect (pos 0) (codes "/x")) errno.ENOTSOCK
    ∷ fails 1 (call.Connect (pos 3) (codes "/x")) errno.EISCONN
    ∷ gets 1 call.Socket (reply.Val (pos 5))
    ∷ fails 1 (call.Connect (pos 5) (codes "/aaaaaaaaaaaaaaaaaaaaaaaaaaaa")) errno.ENAMETOOLONG
    ∷ fails 1 (call.Connect (pos 5) (codes "/x")) errno.ENOENT
    ∷ fails 1 (call.Connect (pos 5) (codes "/x/y")) errno.ENOENT
    ∷ fails 1 (call.Connect (pos 5) (codes "/f/y")) errno.ENOTDIR
    ∷ fails 1 (call.Connect (pos 5) (codes "/s/")) errno.ENOTDIR
    ∷ fails 1 (call.Connect (pos 5) (codes "/f")) errno.ECONNREFUSED
    ∷ fails 1 (call.Connect (pos 5) (codes "/d")) errno.ECONNREFUSED
    ∷ fails 1 (call.Connect (pos 5) (codes "/")) errno.ECONNREFUSED
    ∷ fails 1 (call.Connect (pos 5) (codes "/s")) errno.ECONNREFUSED
    ∷ gets 1 (call.Listen (pos 1)) (reply.Val (pos 0))
    ∷ fails 1 (call.Connect (pos 1) (codes "/s")) errno.EOPNOTSUPP
    ∷ fails 1 (call.Connect (pos 1) (codes "/x")) errno.EOPNOTSUPP
    ∷ gets 1 (call.Connect (pos 2) (codes "/s")) (reply.Val (pos 0))
    ∷ fails 1 (call.Connect (pos 2) (codes "/s")) errno.EISCONN
    ∷ gets 1 (call.Connect (pos 5) (codes "s")) (reply.Val (pos 0))
    ∷ fails 1 (call.Listen (pos 5)) errno.EINVAL
    ∷ gets 1 (call.Shutdown (pos 5) (pos 2)) (reply.Val (pos 0))
    ∷ fails 1 (call.Connect (pos 5) (codes "/s")) errno.EISCONN
    ∷ gets 1 (call.Close (pos 1)) (reply.Val (pos 0))
    ∷ gets 1 call.Socket (reply.Val (pos 1))
    ∷ fails 1 (call.Connect (pos 1) (codes "/s")) errno.ECONNREFUSED
    ∷ fails 1 (call.Connect (pos 1) (codes "/t")) errno.ECONNREFUSED
    ∷ fails 1 (call.Connect (pos 1) (codes "/x")) errno.ENOENT
    ∷ ends 1 (call.Exit (pos 0)) 0
    ∷ []

-- the heap that is taken after each of these, and how many nodes have to be cached
abbrev pub connected_sockets_take : List ℕ
connected_sockets_take = 512 ∷ 576 ∷ 768 ∷ 960 ∷ 1344 ∷ 1344 ∷ 1344 ∷ 1344 ∷ 1344 ∷ 1344 ∷ 1344 ∷ 1536 ∷ 1536 ∷ 1536 ∷ 1536 ∷ 1536 ∷ 1536 ∷ 1536 ∷ 1536 ∷ 1536 ∷ 1536 ∷ 1536 ∷ 1536 ∷ 1536 ∷ 1664 ∷ 1664 ∷ 1792 ∷ 1792 ∷ 1792 ∷ 1792 ∷ 1344 ∷ 1536 ∷ 1536 ∷ 1536 ∷ 1536 ∷ 0 ∷ []

abbrev pub connected_sockets_pin : List ℕ
connected_sockets_pin = 1 ∷ 2 ∷ 2 ∷ 2 ∷ 2 ∷ 2 ∷ 2 ∷ 2 ∷ 2 ∷ 2 ∷ 2 ∷ 2 ∷ 2 ∷ 2 ∷ 2 ∷ 2 ∷ 2 ∷ 2 ∷ 2 ∷ 2 ∷ 2 ∷ 2 ∷ 2 ∷ 2 ∷ 2 ∷ 2 ∷ 2 ∷ 2 ∷ 2 ∷ 2 ∷ 2 ∷ 2 ∷ 2 ∷ 2 ∷ 2 ∷ 1 ∷ []

-- Each answer of `accept`.
abbrev pub accepted_sockets : List Line
accepted_sockets =
    gets 1 call.Socket (reply.Val (pos 0))
    ∷ fails 1 (call.Accept (pos 9)) errno.EBADF
    ∷ fails 1 (call.Accept (pos 0)) errno.EINVAL
    ∷ gets 1 (call.Bind (pos 0) (codes "/s")) (reply.Val (pos 0))
    ∷ fails 1 (call.Accept (pos 0)) errno.EINVAL
    ∷ gets 1 (call.Listen (pos 0)) (reply.Val (pos 0))
    ∷ gets 1 (call.Fcntl (pos 0) (pos 4) (pos 2048)) (reply.Val (pos 0))
    ∷ fails 1 (call.Accept (pos 0)) errno.EAGAIN
    ∷ gets 1 call.Socket (reply.Val (pos 1))
    ∷ gets 1 (call.Fcntl (pos 1) (pos 4) (pos 2048)) (reply.Val (pos 0))
    ∷ gets 1 (call.Connect (pos 1) (codes "/s")) (reply.Val (pos 0))
    ∷ gets 1 (call.Accept (pos 0)) (reply.Val (pos 2))
    ∷ gets 1 (call.Fcntl (pos 2) (pos 3) (pos 0)) (reply.Val (pos 2))
    ∷ gets 1 (call.Fcntl (pos 2) (pos 1) (pos 0)) (reply.Val (pos 0))
    ∷ fails 1 (call.Accept (pos 1)) errno.EINVAL
    ∷ fails 1 (call.Accept (pos 2)) errno.EINVAL
    ∷ gets 1 (call.Dup (pos 0)) (reply.Val (pos 3))
    ∷ gets 1 call.SchedYield (reply.Val (pos 0))
    ∷ gets 1 (call.Dup (pos 0)) (reply.Val (pos 4))
    ∷ gets 1 call.SchedYield (reply.Val (pos 0))
    ∷ gets 1 (call.Dup (pos 0)) (reply.Val (pos 5))
    ∷ gets 1 call.SchedYield (reply.Val (pos 0))
    ∷ gets 1 (call.Dup (pos 0)) (reply.Val (pos 6))
    ∷ gets 1 call.SchedYield (reply.Val (pos 0))
    ∷ gets 1 (call.Dup (pos 0)) (reply.Val (pos 7))
    ∷ gets 1 call.SchedYield (reply.Val (pos 0))
    ∷ gets 1 (call.Dup (pos 0)) (reply.Val (pos 8))
    ∷ gets 1 call.SchedYield (reply.Val (pos 0))
    ∷ gets 1 (call.Dup (pos 0)) (reply.Val (pos 9))
    ∷ gets 1 call.SchedYield (reply.Val (pos 0))
    ∷ gets 1 (call.Dup (pos 0)) (reply.Val (pos 10))
    ∷ gets 1 call.SchedYield (reply.Val (pos 0))
    ∷ gets 1 (call.Dup (pos 0)) (reply.Val (pos 11))
    ∷ gets 1 call.SchedYield (reply.Val (pos 0))
    ∷ gets 1 (call.Dup (pos 0)) (reply.Val (pos 12))
    ∷ gets 1 call.SchedYield (reply.Val (pos 0))
    ∷ gets 1 (call.Dup (pos 0)) (reply.Val (pos 13))
    ∷ gets 1 call.SchedYield (reply.Val (pos 0))
    ∷ gets 1 (call.Dup (pos 0)) (reply.Val (pos 14))
    ∷ gets 1 call.SchedYield (reply.Val (pos 0))
    ∷ []

-- the heap that is taken after each of these, and how many nodes have to be cached
abbrev pub accepted_sockets_take : List ℕ
accepted_sockets_take = 704 ∷ 704 ∷ 704 ∷ 704 ∷ 704 ∷ 704 ∷ 704 ∷ 704 ∷ 896 ∷ 896 ∷ 1024 ∷ 1088 ∷ 1088 ∷ 1088 ∷ 1088 ∷ 1088 ∷ 1088 ∷ 1088 ∷ 1088 ∷ 1088 ∷ 1088 ∷ 1088 ∷ 1088 ∷ 1088 ∷ 1088 ∷ 1088 ∷ 1088 ∷ 1088 ∷ 1088 ∷ 1088 ∷ 1088 ∷ 1088 ∷ 1088 ∷ 1088 ∷ 1088 ∷ 1088 ∷ 1088 ∷ 1088 ∷ 1088 ∷ 1088 ∷ []

abbrev pub accepted_sockets_pin : List ℕ
accepted_sockets_pin = 1 ∷ 1 ∷ 1 ∷ 1 ∷ 1 ∷ 1 ∷ 1 ∷ 1 ∷ 1 ∷ 1 ∷ 1 ∷ 1 ∷ 1 ∷ 1 ∷ 1 ∷ 1 ∷ 1 ∷ 1 ∷ 1 ∷ 1 ∷ 1 ∷ 1 ∷ 1 ∷ 1 ∷ 1 ∷ 1 ∷ 1 ∷ 1 ∷ 1 ∷ 1 ∷ 1 ∷ 1 ∷ 1 ∷ 1 ∷ 1 ∷ 1 ∷ 1 ∷ 1 ∷ 1 ∷ 1 ∷ []

-- At most eight wait, and the first is accepted first.
abbrev pub waiting_sockets : List Line
waiting_sockets =
    gets 1 (call.Mmap (pos 4096)) (reply.Val (pos 4096))
    ∷ gets 1 call.Socket (reply.Val (pos 0))
    ∷ gets 1 (call.Bind (pos 0) (codes "/s")) (reply.Val (pos 0))
    ∷ gets 1 (call.Listen (pos 0)) (reply.Val (pos 0))
    ∷ gets 1 call.Socket (reply.Val (pos 1))
    ∷ gets 1 (call.Connect (pos 1) (codes "/s")) (reply.Val (pos 0))
    ∷ gets 1 call.Socket (reply.Val (pos 2))
    ∷ gets 1 (call.Connect (pos 2) (codes "/s")) (reply.Val (pos 0))
    ∷ gets 1 call.Socket (reply.Val (pos 3))
    ∷ gets 1 (call.Connect (pos 3) (codes "/s")) (reply.Val (pos 0))
    ∷ gets 1 call.Socket (reply.Val (pos 4))
    ∷ gets 1 (call.Connect (pos 4) (codes "/s")) (reply.Val (pos 0))
    ∷ gets 1 call.Socket (reply.Val (pos 5))
    ∷ gets 1 (call.Connect (pos 5) (codes "/s")) (reply.Val (pos 0))
    ∷ gets 1 call.Socket (reply.Val (pos 6))
    ∷ gets 1 (call.Connect (pos 6) (codes "/s")) (reply.Val (pos 0))
    ∷ gets 1 call.Socket (reply.Val (pos 7))
    ∷ gets 1 (call.Connect (pos 7) (codes "/s")) (reply.Val (pos 0))
    ∷ gets 1 call.Socket (reply.Val (pos 8))
    ∷ gets 1 (call.Connect (pos 8) (codes "/s")) (reply.Val (pos 0))
    ∷ gets 1 call.Socket (reply.Val (pos 9))
    ∷ fails 1 (call.Connect (pos 9) (codes "/s")) errno.ECONNREFUSED
    ∷ gets 1 (call.Write (pos 1) (pos 4096) (pos 3) 0) (reply.Val (pos 3))
    ∷ gets 1 (call.Write (pos 2) (pos 4096) (pos 4096) 0) (reply.Val (pos 4096))
    ∷ gets 1 (call.Close (pos 1)) (reply.Val (pos 0))
    ∷ fails 1 (call.Connect (pos 9) (codes "/s")) errno.ECONNREFUSED
    ∷ gets 1 (call.Accept (pos 0)) (reply.Val (pos 1))
    ∷ gets 1 (call.Connect (pos 9) (codes "/s")) (reply.Val (pos 0))
    ∷ gets 1 (call.Read (pos 1) (pos 4096) (pos 9)) (reply.Val (pos 3))
    ∷ gets 1 (call.Read (pos 1) (pos 4096) (pos 9)) (reply.Val (pos 0))
    ∷ gets 1 (call.Accept (pos 0)) (reply.Val (pos 10))
    ∷ gets 1 (call.Read (pos 10) (pos 4096) (pos 4096)) (reply.Val (pos 4096))
    ∷ gets 1 (call.Write (pos 10) (pos 4096) (pos 5) 0) (reply.Val (pos 5))
    ∷ gets 1 (call.Read (pos 2) (pos 4096) (pos 9)) (reply.Val (pos 5))
    ∷ gets 1 (call.Listen (pos 0)) (reply.Val (pos 0))
    ∷ gets 1 call.Socket (reply.Val (pos 11))
    ∷ gets 1 (call.Connect (pos 11) (codes "/s")) (reply.Val (pos 0))
    ∷ fails 1 (call.Connect (pos 11) (codes "/s")) errno.EISCONN
    ∷ ends 1 (call.Exit (pos 0)) 0
    ∷ []

-- the heap that is taken after each of these, and how many nodes have to be cached
abbrev pub waiting_sockets_take : List ℕ
waiting_sockets_take = 1024 ∷ 1216 ∷ 1216 ∷ 1216 ∷ 1408 ∷ 1536 ∷ 1728 ∷ 1856 ∷ 2048 ∷ 2176 ∷ 2368 ∷ 2496 ∷ 2688 ∷ 2816 ∷ 3008 ∷ 3136 ∷ 3328 ∷ 3456 ∷ 3648 ∷ 3776 ∷ 3968 ∷ 3968 ∷ 4544 ∷ 9152 ∷ 8960 ∷ 8960 ∷ 9024 ∷ 9152 ∷ 12672 ∷ 12672 ∷ 12736 ∷ 8128 ∷ 8704 ∷ 8128 ∷ 8128 ∷ 8320 ∷ 8448 ∷ 8448 ∷ 0 ∷ []

abbrev pub waiting_sockets_pin : List ℕ
waiting_sockets_pin = 1 ∷ 1 ∷ 1 ∷ 1 ∷ 1 ∷ 1 ∷ 1 ∷ 1 ∷ 1 ∷ 1 ∷ 1 ∷ 1 ∷ 1 ∷ 1 ∷ 1 ∷ 1 ∷ 1 ∷ 1 ∷ 1 ∷ 1 ∷ 1 ∷ 1 ∷ 1 ∷ 1 ∷ 1 ∷ 1 ∷ 1 ∷ 1 ∷ 1 ∷ 1 ∷ 1 ∷ 1 ∷ 1 ∷ 1 ∷ 1 ∷ 1 ∷ 1 ∷ 1 ∷ 1 ∷ []

-- What other calls answer on sockets.
abbrev pub calls_on_sockets : List Line
calls_on_sockets =
    gets 1 call.Socket (reply.Val (pos 0))
    ∷ gets 1 (call.Bind (pos 0) (codes "/s")) (reply.Val (pos 0))
    ∷ fails 1 (call.OpenFile (codes "/s") (pos 0)) errno.EOPNOTSUPP
    ∷ fails 1 (call.OpenFile (codes "/s") (pos 66)) errno.EOPNOTSUPP
    ∷ fails 1 (call.OpenFile (codes "/s") (pos 513)) errno.EOPNOTSUPP
    ∷ fails 1 (call.OpenFile (codes "/s") (pos 192)) errno.EEXIST
    ∷ fails 1 (call.Exec (codes "/s")) errno.EACCES
    ∷ fails 1 (call.Chdir (codes "/s")) errno.ENOTDIR
    ∷ fails 1 (call.Mkdir (codes "/s")) errno.EEXIST
    ∷ fails 1 (call.Rmdir (codes "/s")) errno.ENOTDIR
    ∷ fails 1 (call.Stat (codes "/s/")) errno.ENOTDIR
    ∷ fails 1 (call.Stat (codes "/s/x")) errno.ENOTDIR
    ∷ gets 1 (call.Link (codes "/s") (codes "/t")) (reply.Val (pos 0))
    ∷ gets 1 (call.Stat (codes "/t")) (reply.Stat (info node.Sock 2 2 0))
    ∷ gets 1 (call.Mkdir (codes "/d")) (reply.Val (pos 0))
    ∷ fails 1 (call.Rename (codes "/s") (codes "/d")) errno.EISDIR
    ∷ fails 1 (call.Rename (codes "/d") (codes "/s")) errno.ENOTDIR
    ∷ gets 1 (call.Rename (codes "/s") (codes "/t")) (reply.Val (pos 0))
    ∷ gets 1 (call.Rename (codes "/s") (codes "/d/s")) (reply.Val (pos 0))
    ∷ gets 1 (call.OpenFile (codes "/f") (pos 66)) (reply.Val (pos 1))
    ∷ gets 1 (call.Rename (codes "/f") (codes "/t")) (reply.Val (pos 0))
    ∷ gets 1 (call.Stat (codes "/d/s")) (reply.Stat (info node.Sock 2 1 0))
    ∷ gets 1 (call.Unlink (codes "/d/s")) (reply.Val (pos 0))
    ∷ gets 1 (call.Stat (codes "/d")) (reply.Stat (info node.Dir 3 1 64))
    ∷ fails 1 (call.Ftruncate (pos 0) (pos 0)) errno.EINVAL
    ∷ ends 1 (call.Exit (pos 0)) 0
    ∷ []

-- the heap that is taken after each of these, and how many nodes have to be cached
abbrev pub calls_on_sockets_take : List ℕ
calls_on_sockets_take = 704 ∷ 704 ∷ 704 ∷ 704 ∷ 704 ∷ 704 ∷ 704 ∷ 704 ∷ 704 ∷ 704 ∷ 704 ∷ 704 ∷ 704 ∷ 704 ∷ 704 ∷ 704 ∷ 704 ∷ 704 ∷ 704 ∷ 768 ∷ 768 ∷ 768 ∷ 768 ∷ 768 ∷ 768 ∷ 0 ∷ []

abbrev pub calls_on_sockets_pin : List ℕ
calls_on_sockets_pin = 1 ∷ 1 ∷ 1 ∷ 1 ∷ 1 ∷ 1 ∷ 1 ∷ 1 ∷ 1 ∷ 1 ∷ 1 ∷ 1 ∷ 1 ∷ 1 ∷ 1 ∷ 1 ∷ 1 ∷ 1 ∷ 1 ∷ 2 ∷ 2 ∷ 2 ∷ 2 ∷ 2 ∷ 2 ∷ 1 ∷ []
