-- Traces of exec.
use Rattle.std.specs.Prelude.{ℕ, pos, List, [], ◌∷◌, codes}
use Rattle.kabi_types.specs.declared.calls.Call.TheVariants as call
use Rattle.kabi_types.specs.declared.errnos.Errno.TheVariants as errno
use Rattle.kabi_types.specs.declared.replies.Reply.TheVariants as reply
use Rattle.kabi_types.specs.declared.replies.NodeKind.TheVariants as node
use Rattle.machine_traces.specs.Trace.{Line, gets, fails, ends, info}

-- A file that names a program starts it: memory is gone, descriptors stay.
abbrev pub started_programs : List Line
started_programs =
    gets 1 (call.Mmap (pos 8192)) (reply.Val (pos 4096))
    ∷ gets 1 (call.Store (pos 4096) (35 ∷ 33 ∷ 111 ∷ 116 ∷ 104 ∷ 101 ∷ 114 ∷ 10 ∷ 114 ∷ 101 ∷ 115 ∷ 116 ∷ 32 ∷ 111 ∷ 102 ∷ 32 ∷ 105 ∷ 116 ∷ [])) (reply.Val (pos 18))
    ∷ gets 1 (call.Mkdir (codes "/d")) (reply.Val (pos 0))
    ∷ gets 1 (call.OpenFile (codes "/d/x") (pos 66)) (reply.Val (pos 0))
    ∷ gets 1 (call.Write (pos 0) (pos 4096) (pos 18) 0) (reply.Val (pos 18))
    ∷ gets 1 (call.Chdir (codes "/d")) (reply.Val (pos 0))
    ∷ gets 1 (call.Exec (codes "x")) (reply.Val (pos 0))
    ∷ fails 1 (call.Load (pos 4096) (pos 1)) errno.EFAULT
    ∷ gets 1 (call.Mmap (pos 4096)) (reply.Val (pos 4096))
    ∷ gets 1 (call.Pread (pos 0) (pos 4096) (pos 64) (pos 0)) (reply.Val (pos 18))
    ∷ gets 1 (call.Load (pos 4096) (pos 8)) (reply.Bytes (35 ∷ 33 ∷ 111 ∷ 116 ∷ 104 ∷ 101 ∷ 114 ∷ 10 ∷ []))
    ∷ gets 1 (call.Stat (codes "../d/x")) (reply.Stat (info node.File 3 1 18))
    ∷ gets 1 call.Getpid (reply.Val (pos 1))
    ∷ gets 1 (call.Lseek (pos 0) (pos 0) (pos 1)) (reply.Val (pos 18))
    ∷ ends 1 (call.Exit (pos 5)) 1280
    ∷ []

-- the heap that is taken after each of these, and how many nodes have to be cached
abbrev pub started_programs_take : List ℕ
started_programs_take = 1024 ∷ 5120 ∷ 5120 ∷ 5184 ∷ 5184 ∷ 5184 ∷ 576 ∷ 576 ∷ 1088 ∷ 5184 ∷ 5184 ∷ 5184 ∷ 5184 ∷ 5184 ∷ 0 ∷ []

abbrev pub started_programs_pin : List ℕ
started_programs_pin = 1 ∷ 1 ∷ 1 ∷ 2 ∷ 2 ∷ 3 ∷ 3 ∷ 3 ∷ 3 ∷ 3 ∷ 3 ∷ 3 ∷ 3 ∷ 3 ∷ 1 ∷ []

-- What `exec` refuses.
abbrev pub refused_programs : List Line
refused_programs =
    gets 1 (call.Mmap (pos 4096)) (reply.Val (pos 4096))
    ∷ gets 1 (call.Mkdir (codes "/d")) (reply.Val (pos 0))
    ∷ gets 1 (call.OpenFile (codes "/x") (pos 66)) (reply.Val (pos 0))
    ∷ fails 1 (call.Exec []) errno.ENOENT
    ∷ fails 1 (call.Exec (codes "/y")) errno.ENOENT
    ∷ fails 1 (call.Exec (codes "/y/")) errno.ENOENT
    ∷ fails 1 (call.Exec (codes "/d/y")) errno.ENOENT
    ∷ fails 1 (call.Exec (codes "/x/")) errno.ENOTDIR
    ∷ fails 1 (call.Exec (codes "/x/y")) errno.ENOTDIR
    ∷ fails 1 (call.Exec (codes "/d")) errno.EACCES
    ∷ fails 1 (call.Exec (codes "/")) errno.EACCES
    ∷ fails 1 (call.Exec (codes ".")) errno.EACCES
    ∷ fails 1 (call.Exec (codes "/x")) errno.ENOEXEC
    ∷ gets 1 (call.Store (pos 4096) (codes "#!other")) (reply.Val (pos 7))
    ∷ gets 1 (call.Write (pos 0) (pos 4096) (pos 7) 0) (reply.Val (pos 7))
    ∷ fails 1 (call.Exec (codes "/x")) errno.ENOEXEC
    ∷ gets 1 (call.Store (pos 4096) (13 ∷ 10 ∷ [])) (reply.Val (pos 2))
    ∷ gets 1 (call.Write (pos 0) (pos 4096) (pos 2) 0) (reply.Val (pos 2))
    ∷ fails 1 (call.Exec (codes "/x")) errno.ENOEXEC
    ∷ gets 1 (call.Store (pos 4096) (35 ∷ 33 ∷ 111 ∷ 116 ∷ 104 ∷ 101 ∷ 10 ∷ [])) (reply.Val (pos 7))
    ∷ gets 1 (call.Pwrite (pos 0) (pos 4096) (pos 7) (pos 0)) (reply.Val (pos 7))
    ∷ fails 1 (call.Exec (codes "/x")) errno.ENOEXEC
    ∷ gets 1 (call.Store (pos 4096) (35 ∷ 33 ∷ 32 ∷ 111 ∷ 116 ∷ 104 ∷ 101 ∷ 114 ∷ 10 ∷ [])) (reply.Val (pos 9))
    ∷ gets 1 (call.Pwrite (pos 0) (pos 4096) (pos 9) (pos 0)) (reply.Val (pos 9))
    ∷ fails 1 (call.Exec (codes "/x")) errno.ENOEXEC
    ∷ gets 1 (call.Store (pos 4096) (35 ∷ 35 ∷ 111 ∷ 116 ∷ 104 ∷ 101 ∷ 114 ∷ 10 ∷ [])) (reply.Val (pos 8))
    ∷ gets 1 (call.Pwrite (pos 0) (pos 4096) (pos 8) (pos 0)) (reply.Val (pos 8))
    ∷ fails 1 (call.Exec (codes "/x")) errno.ENOEXEC
    ∷ gets 1 (call.Store (pos 4096) (35 ∷ 33 ∷ 111 ∷ 116 ∷ 104 ∷ 101 ∷ 114 ∷ 32 ∷ 10 ∷ [])) (reply.Val (pos 9))
    ∷ gets 1 (call.Pwrite (pos 0) (pos 4096) (pos 9) (pos 0)) (reply.Val (pos 9))
    ∷ fails 1 (call.Exec (codes "/x")) errno.ENOEXEC
    ∷ gets 1 (call.Store (pos 4096) (35 ∷ 33 ∷ 109 ∷ 105 ∷ 115 ∷ 115 ∷ 105 ∷ 110 ∷ 103 ∷ 10 ∷ [])) (reply.Val (pos 10))
    ∷ gets 1 (call.Pwrite (pos 0) (pos 4096) (pos 10) (pos 0)) (reply.Val (pos 10))
    ∷ fails 1 (call.Exec (codes "/x")) errno.ENOEXEC
    ∷ gets 1 (call.Store (pos 4096) (35 ∷ 33 ∷ 97 ∷ 98 ∷ 99 ∷ 100 ∷ 101 ∷ 102 ∷ 103 ∷ 104 ∷ 105 ∷ 106 ∷ 107 ∷ 108 ∷ 109 ∷ 110 ∷ 111 ∷ 112 ∷ 113 ∷ 114 ∷ 115 ∷ 116 ∷ 117 ∷ 118 ∷ 119 ∷ 120 ∷ 121 ∷ 122 ∷ 48 ∷ 10 ∷ [])) (reply.Val (pos 30))
    ∷ gets 1 (call.Pwrite (pos 0) (pos 4096) (pos 30) (pos 0)) (reply.Val (pos 30))
    ∷ gets 1 (call.Exec (codes "/x")) (reply.Val (pos 0))
    ∷ fails 1 (call.Store (pos 4096) (codes "x")) errno.EFAULT
    ∷ gets 1 (call.Mmap (pos 4096)) (reply.Val (pos 4096))
    ∷ gets 1 (call.Store (pos 4096) (35 ∷ 33 ∷ 111 ∷ 116 ∷ 104 ∷ 101 ∷ 114 ∷ 10 ∷ [])) (reply.Val (pos 8))
    ∷ []

-- the heap that is taken after each of these, and how many nodes have to be cached
abbrev pub refused_programs_take : List ℕ
refused_programs_take = 1024 ∷ 1024 ∷ 1088 ∷ 1088 ∷ 1088 ∷ 1088 ∷ 1088 ∷ 1088 ∷ 1088 ∷ 1088 ∷ 1088 ∷ 1088 ∷ 1088 ∷ 5184 ∷ 5184 ∷ 5184 ∷ 5184 ∷ 5184 ∷ 5184 ∷ 5184 ∷ 5184 ∷ 5184 ∷ 5184 ∷ 5184 ∷ 5184 ∷ 5184 ∷ 5184 ∷ 5184 ∷ 5184 ∷ 5184 ∷ 5184 ∷ 5184 ∷ 5184 ∷ 5184 ∷ 5184 ∷ 5184 ∷ 576 ∷ 576 ∷ 1088 ∷ 5184 ∷ []

abbrev pub refused_programs_pin : List ℕ
refused_programs_pin = 1 ∷ 1 ∷ 2 ∷ 2 ∷ 2 ∷ 2 ∷ 2 ∷ 2 ∷ 2 ∷ 2 ∷ 2 ∷ 2 ∷ 2 ∷ 2 ∷ 2 ∷ 2 ∷ 2 ∷ 2 ∷ 2 ∷ 2 ∷ 2 ∷ 2 ∷ 2 ∷ 2 ∷ 2 ∷ 2 ∷ 2 ∷ 2 ∷ 2 ∷ 2 ∷ 2 ∷ 2 ∷ 2 ∷ 2 ∷ 2 ∷ 2 ∷ 2 ∷ 2 ∷ 2 ∷ 2 ∷ []

-- What `exec` closes is freed.
abbrev pub freed_by_starts : List Line
freed_by_starts =
    gets 1 (call.Mmap (pos 4096)) (reply.Val (pos 4096))
    ∷ gets 1 (call.Store (pos 4096) (35 ∷ 33 ∷ 110 ∷ 101 ∷ 120 ∷ 116 ∷ 10 ∷ [])) (reply.Val (pos 7))
    ∷ gets 1 (call.OpenFile (codes "/x") (pos 66)) (reply.Val (pos 0))
    ∷ gets 1 (call.Write (pos 0) (pos 4096) (pos 7) 0) (reply.Val (pos 7))
    ∷ gets 1 (call.Mkdir (codes "/d")) (reply.Val (pos 0))
    ∷ gets 1 (call.OpenFile (codes "/d") (pos 524288)) (reply.Val (pos 1))
    ∷ gets 1 (call.OpenFile (codes "/big") (pos 524354)) (reply.Val (pos 2))
    ∷ gets 1 (call.Ftruncate (pos 2) (pos 10240)) (reply.Val (pos 0))
    ∷ gets 1 (call.Unlink (codes "/big")) (reply.Val (pos 0))
    ∷ fails 1 (call.Rmdir (codes "/d")) errno.EBUSY
    ∷ fails 1 (call.Ftruncate (pos 0) (pos 3072)) errno.ENOSPC
    ∷ gets 1 (call.Ftruncate (pos 0) (pos 2048)) (reply.Val (pos 0))
    ∷ fails 1 (call.Mkdir (codes "/e")) errno.ENOSPC
    ∷ gets 1 (call.Exec (codes "d/../x")) (reply.Val (pos 0))
    ∷ fails 1 (call.Fstat (pos 1)) errno.EBADF
    ∷ gets 1 (call.Rmdir (codes "/d")) (reply.Val (pos 0))
    ∷ gets 1 (call.Ftruncate (pos 0) (pos 12288)) (reply.Val (pos 0))
    ∷ fails 1 (call.Ftruncate (pos 0) (pos 12289)) errno.ENOSPC
    ∷ gets 1 (call.OpenFile (codes "/y") (pos 66)) (reply.Val (pos 1))
    ∷ gets 1 (call.Fstat (pos 1)) (reply.Stat (info node.File 3 1 0))
    ∷ ends 1 (call.Exit (pos 0)) 0
    ∷ []

-- the heap that is taken after each of these, and how many nodes have to be cached
abbrev pub freed_by_starts_take : List ℕ
freed_by_starts_take = 1024 ∷ 5120 ∷ 5184 ∷ 5184 ∷ 5184 ∷ 5248 ∷ 5312 ∷ 5312 ∷ 5312 ∷ 5312 ∷ 5312 ∷ 5312 ∷ 5312 ∷ 576 ∷ 576 ∷ 576 ∷ 576 ∷ 576 ∷ 640 ∷ 640 ∷ 0 ∷ []

abbrev pub freed_by_starts_pin : List ℕ
freed_by_starts_pin = 1 ∷ 1 ∷ 2 ∷ 2 ∷ 2 ∷ 3 ∷ 4 ∷ 4 ∷ 4 ∷ 4 ∷ 4 ∷ 4 ∷ 4 ∷ 2 ∷ 2 ∷ 2 ∷ 2 ∷ 2 ∷ 3 ∷ 3 ∷ 1 ∷ []
