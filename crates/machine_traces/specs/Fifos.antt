-- Traces of FIFOs, and of opens that sleep.
use Rattle.std.specs.Prelude.{ℕ, pos, List, [], ◌∷◌, codes}
use Rattle.kabi_types.specs.declared.calls.Call.TheVariants as call
use Rattle.kabi_types.specs.declared.errnos.Errno.TheVariants as errno
use Rattle.kabi_types.specs.declared.replies.Reply.TheVariants as reply
use Rattle.kabi_types.specs.declared.replies.NodeKind.TheVariants as node
use Rattle.machine_traces.specs.Trace.{Line, gets, fails, moves, sleeps, ends, info}

-- A reader sleeps in its open until a writer opens the FIFO, and reads what that one wrote; the node stays while it is open.
abbrev pub sleeping_opens : List Line
sleeping_opens =
    gets 1 (call.Mkfifo (codes "/p")) (reply.Val (pos 0))
    ∷ gets 1 call.Fork (reply.Val (pos 2))
    ∷ moves 1 (call.OpenFile (codes "/p") (pos 0)) 1
    ∷ sleeps 1 (call.OpenFile (codes "/p") (pos 0))
    ∷ gets 2 (call.Mmap (pos 4096)) (reply.Val (pos 4096))
    ∷ gets 2 (call.Store (pos 4096) (codes "hi")) (reply.Val (pos 2))
    ∷ gets 2 (call.OpenFile (codes "/p") (pos 1)) (reply.Val (pos 0))
    ∷ gets 2 (call.Write (pos 0) (pos 4096) (pos 2) 0) (reply.Val (pos 2))
    ∷ gets 1 (call.OpenFile (codes "/p") (pos 0)) (reply.Val (pos 0))
    ∷ gets 1 (call.Mmap (pos 4096)) (reply.Val (pos 4096))
    ∷ gets 1 (call.Read (pos 0) (pos 4096) (pos 8)) (reply.Val (pos 2))
    ∷ gets 1 (call.Load (pos 4096) (pos 2)) (reply.Bytes (codes "hi"))
    ∷ gets 1 (call.Stat (codes "/p")) (reply.Stat (info node.Fifo 2 1 0))
    ∷ gets 1 (call.Fstat (pos 0)) (reply.Stat (info node.Fifo 2 1 0))
    ∷ gets 1 (call.OpenFile (codes "/p") (pos 2049)) (reply.Val (pos 1))
    ∷ gets 1 (call.Unlink (codes "/p")) (reply.Val (pos 0))
    ∷ gets 1 (call.Fstat (pos 1)) (reply.Stat (info node.Fifo 2 0 0))
    ∷ gets 1 (call.Close (pos 0)) (reply.Val (pos 0))
    ∷ gets 1 (call.Close (pos 1)) (reply.Val (pos 0))
    ∷ ends 2 (call.Exit (pos 0)) 0
    ∷ ends 1 (call.Exit (pos 0)) 0
    ∷ []

-- the heap that is taken after each of these, and how many nodes have to be cached
abbrev pub sleeping_opens_take : List ℕ
sleeping_opens_take = 512 ∷ 1024 ∷ 1216 ∷ 1216 ∷ 1728 ∷ 5824 ∷ 5888 ∷ 6464 ∷ 6464 ∷ 6976 ∷ 10496 ∷ 10496 ∷ 10496 ∷ 10496 ∷ 10560 ∷ 10560 ∷ 10560 ∷ 10496 ∷ 10432 ∷ 5632 ∷ 0 ∷ []

abbrev pub sleeping_opens_pin : List ℕ
sleeping_opens_pin = 1 ∷ 1 ∷ 2 ∷ 2 ∷ 2 ∷ 2 ∷ 2 ∷ 2 ∷ 2 ∷ 2 ∷ 2 ∷ 2 ∷ 2 ∷ 2 ∷ 2 ∷ 2 ∷ 2 ∷ 2 ∷ 2 ∷ 1 ∷ 1 ∷ []

-- What `mkfifo` and an open of a FIFO refuse, and what an end of one does.
abbrev pub faults_on_fifos : List Line
faults_on_fifos =
    fails 1 (call.Mkfifo (codes "")) errno.ENOENT
    ∷ fails 1 (call.Mkfifo (codes "/no/p")) errno.ENOENT
    ∷ fails 1 (call.Mkfifo (codes "/p/")) errno.ENOENT
    ∷ fails 1 (call.Mkfifo (codes "/")) errno.EEXIST
    ∷ gets 1 (call.Mkfifo (codes "/p")) (reply.Val (pos 0))
    ∷ fails 1 (call.Mkfifo (codes "/p")) errno.EEXIST
    ∷ fails 1 (call.Mkfifo (codes "/p/q")) errno.ENOTDIR
    ∷ fails 1 (call.OpenFile (codes "/p") (pos 2)) errno.EINVAL
    ∷ fails 1 (call.OpenFile (codes "/p") (pos 194)) errno.EEXIST
    ∷ fails 1 (call.OpenFile (codes "/p") (pos 2049)) errno.ENXIO
    ∷ fails 1 (call.OpenFile (codes "/p/") (pos 0)) errno.ENOTDIR
    ∷ fails 1 (call.Exec (codes "/p")) errno.EACCES
    ∷ gets 1 (call.OpenFile (codes "/p") (pos 2048)) (reply.Val (pos 0))
    ∷ gets 1 (call.OpenFile (codes "/p") (pos 1)) (reply.Val (pos 1))
    ∷ gets 1 (call.OpenFile (codes "/p") (pos 524353)) (reply.Val (pos 2))
    ∷ fails 1 (call.Lseek (pos 0) (pos 0) (pos 0)) errno.ESPIPE
    ∷ fails 1 (call.Ftruncate (pos 1) (pos 0)) errno.EINVAL
    ∷ gets 1 (call.Close (pos 0)) (reply.Val (pos 0))
    ∷ fails 1 (call.OpenFile (codes "/p") (pos 2049)) errno.ENXIO
    ∷ gets 1 (call.Close (pos 1)) (reply.Val (pos 0))
    ∷ gets 1 (call.Close (pos 2)) (reply.Val (pos 0))
    ∷ gets 1 (call.Unlink (codes "/p")) (reply.Val (pos 0))
    ∷ fails 1 (call.Stat (codes "/p")) errno.ENOENT
    ∷ ends 1 (call.Exit (pos 0)) 0
    ∷ []

-- the heap that is taken after each of these, and how many nodes have to be cached
abbrev pub faults_on_fifos_take : List ℕ
faults_on_fifos_take = 512 ∷ 512 ∷ 512 ∷ 512 ∷ 512 ∷ 512 ∷ 512 ∷ 512 ∷ 512 ∷ 512 ∷ 512 ∷ 512 ∷ 704 ∷ 768 ∷ 832 ∷ 832 ∷ 832 ∷ 768 ∷ 768 ∷ 704 ∷ 512 ∷ 512 ∷ 512 ∷ 0 ∷ []

abbrev pub faults_on_fifos_pin : List ℕ
faults_on_fifos_pin = 1 ∷ 1 ∷ 1 ∷ 1 ∷ 1 ∷ 1 ∷ 1 ∷ 1 ∷ 1 ∷ 1 ∷ 1 ∷ 1 ∷ 2 ∷ 2 ∷ 2 ∷ 2 ∷ 2 ∷ 2 ∷ 2 ∷ 2 ∷ 1 ∷ 1 ∷ 1 ∷ 1 ∷ []

-- An open that sleeps is over once the other side was opened, though it is closed again; one that is killed closes its end.
abbrev pub other_sides_that_went : List Line
other_sides_that_went =
    gets 1 (call.Mkfifo (codes "/p")) (reply.Val (pos 0))
    ∷ gets 1 call.Fork (reply.Val (pos 2))
    ∷ moves 1 (call.OpenFile (codes "/p") (pos 0)) 1
    ∷ gets 2 (call.OpenFile (codes "/p") (pos 1)) (reply.Val (pos 0))
    ∷ gets 2 (call.Close (pos 0)) (reply.Val (pos 0))
    ∷ gets 1 (call.OpenFile (codes "/p") (pos 0)) (reply.Val (pos 0))
    ∷ gets 1 (call.Close (pos 0)) (reply.Val (pos 0))
    ∷ moves 1 (call.OpenFile (codes "/p") (pos 1)) 1
    ∷ sleeps 1 (call.OpenFile (codes "/p") (pos 1))
    ∷ gets 2 (call.OpenFile (codes "/p") (pos 2048)) (reply.Val (pos 0))
    ∷ gets 2 (call.Close (pos 0)) (reply.Val (pos 0))
    ∷ gets 1 (call.OpenFile (codes "/p") (pos 1)) (reply.Val (pos 0))
    ∷ moves 2 (call.OpenFile (codes "/p") (pos 1)) 1
    ∷ gets 1 (call.Kill (pos 2) (pos 9)) (reply.Val (pos 0))
    ∷ gets 1 (call.Unlink (codes "/p")) (reply.Val (pos 0))
    ∷ gets 1 (call.Fstat (pos 0)) (reply.Stat (info node.Fifo 2 0 0))
    ∷ ends 1 (call.Exit (pos 0)) 0
    ∷ []

-- the heap that is taken after each of these, and how many nodes have to be cached
abbrev pub other_sides_that_went_take : List ℕ
other_sides_that_went_take = 512 ∷ 1024 ∷ 1216 ∷ 1280 ∷ 1216 ∷ 1216 ∷ 1024 ∷ 1216 ∷ 1216 ∷ 1280 ∷ 1216 ∷ 1216 ∷ 1280 ∷ 1216 ∷ 1216 ∷ 1216 ∷ 0 ∷ []

abbrev pub other_sides_that_went_pin : List ℕ
other_sides_that_went_pin = 1 ∷ 1 ∷ 2 ∷ 2 ∷ 2 ∷ 2 ∷ 1 ∷ 2 ∷ 2 ∷ 2 ∷ 2 ∷ 2 ∷ 2 ∷ 2 ∷ 2 ∷ 2 ∷ 1 ∷ []
