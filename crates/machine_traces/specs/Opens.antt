-- Traces of calls on files that are open.
use Rattle.std.specs.Prelude.{ℕ, pos, negsuc, List, [], ◌∷◌, codes}
use Rattle.kabi_types.specs.declared.calls.Call.TheVariants as call
use Rattle.kabi_types.specs.declared.errnos.Errno.TheVariants as errno
use Rattle.kabi_types.specs.declared.replies.Reply.TheVariants as reply
use Rattle.kabi_types.specs.declared.replies.NodeKind.TheVariants as node
use Rattle.machine_traces.specs.Trace.{Line, gets, fails, sleeps, ends, info}

-- The faults of the calls on files, in the order in which they are told.
abbrev pub faults_on_files : List Line
faults_on_files =
    gets 1 (call.Mmap (pos 4096)) (reply.Val (pos 4096))
    ∷ gets 1 (call.OpenFile (codes "/r") (pos 64)) (reply.Val (pos 0))
    ∷ gets 1 (call.OpenFile (codes "/w") (pos 65)) (reply.Val (pos 1))
    ∷ fails 1 (call.Read (pos 9) (pos 4096) (negsuc 0)) errno.EINVAL
    ∷ fails 1 (call.Read (pos 9) (pos 4096) (pos 32768)) errno.EINVAL
    ∷ fails 1 (call.Read (pos 9) (pos 1048575) (pos 2)) errno.EFAULT
    ∷ fails 1 (call.Read (pos 9) (negsuc 0) (pos 0)) errno.EBADF
    ∷ fails 1 (call.Read (pos 1) (pos 8192) (pos 1)) errno.EBADF
    ∷ fails 1 (call.Read (pos 0) (pos 8192) (pos 1)) errno.EFAULT
    ∷ gets 1 (call.Read (pos 0) (pos 8192) (pos 0)) (reply.Val (pos 0))
    ∷ gets 1 (call.Read (pos 0) (pos 4096) (pos 1)) (reply.Val (pos 0))
    ∷ fails 1 (call.Write (pos 9) (pos 4096) (negsuc 0) 0) errno.EINVAL
    ∷ fails 1 (call.Write (pos 0) (pos 8192) (pos 1) 0) errno.EBADF
    ∷ fails 1 (call.Write (pos 1) (pos 8192) (pos 1) 0) errno.EFAULT
    ∷ gets 1 (call.Write (pos 1) (pos 8192) (pos 0) 0) (reply.Val (pos 0))
    ∷ fails 1 (call.Write (pos 1) (pos 4096) (pos 4097) 0) errno.EFAULT
    ∷ fails 1 (call.Pread (pos 9) (pos 4096) (pos 1) (negsuc 0)) errno.EINVAL
    ∷ fails 1 (call.Pread (pos 9) (pos 4096) (pos 1) (pos 0)) errno.EBADF
    ∷ fails 1 (call.Pread (pos 1) (pos 8192) (pos 1) (pos 0)) errno.EBADF
    ∷ fails 1 (call.Pread (pos 0) (pos 8192) (pos 1) (pos 0)) errno.EFAULT
    ∷ gets 1 (call.Pread (pos 0) (pos 8192) (pos 0) (pos 0)) (reply.Val (pos 0))
    ∷ fails 1 (call.Pwrite (pos 9) (pos 4096) (pos 1) (negsuc 0)) errno.EINVAL
    ∷ fails 1 (call.Pwrite (pos 0) (pos 8192) (pos 1) (pos 0)) errno.EBADF
    ∷ fails 1 (call.Pwrite (pos 1) (pos 8192) (pos 1) (pos 0)) errno.EFAULT
    ∷ gets 1 (call.Pwrite (pos 1) (pos 8192) (pos 0) (pos 67381248)) (reply.Val (pos 0))
    ∷ fails 1 (call.Pwrite (pos 1) (pos 4096) (pos 1) (pos 67381248)) errno.EFBIG
    ∷ fails 1 (call.Fstat (pos 128)) errno.EBADF
    ∷ fails 1 (call.Fstat (negsuc 0)) errno.EBADF
    ∷ fails 1 (call.Dup (pos 9)) errno.EBADF
    ∷ fails 1 (call.Dup2 (pos 0) (pos 128)) errno.EBADF
    ∷ fails 1 (call.Fcntl (pos 9) (pos 3) (pos 0)) errno.EBADF
    ∷ ends 1 (call.Exit (pos 0)) 0
    ∷ []

-- the heap that is taken after each of these, and how many nodes have to be cached
abbrev pub faults_on_files_take : List ℕ
faults_on_files_take = 1024 ∷ 1088 ∷ 1152 ∷ 1152 ∷ 1152 ∷ 1152 ∷ 1152 ∷ 1152 ∷ 1152 ∷ 1152 ∷ 1152 ∷ 1152 ∷ 1152 ∷ 1152 ∷ 1152 ∷ 1152 ∷ 1152 ∷ 1152 ∷ 1152 ∷ 1152 ∷ 1152 ∷ 1152 ∷ 1152 ∷ 1152 ∷ 1152 ∷ 1152 ∷ 1152 ∷ 1152 ∷ 1152 ∷ 1152 ∷ 1152 ∷ 0 ∷ []

abbrev pub faults_on_files_pin : List ℕ
faults_on_files_pin = 1 ∷ 2 ∷ 3 ∷ 3 ∷ 3 ∷ 3 ∷ 3 ∷ 3 ∷ 3 ∷ 3 ∷ 3 ∷ 3 ∷ 3 ∷ 3 ∷ 3 ∷ 3 ∷ 3 ∷ 3 ∷ 3 ∷ 3 ∷ 3 ∷ 3 ∷ 3 ∷ 3 ∷ 3 ∷ 3 ∷ 3 ∷ 3 ∷ 3 ∷ 3 ∷ 3 ∷ 1 ∷ []

-- What an open directory refuses.
abbrev pub open_directories : List Line
open_directories =
    gets 1 (call.Mmap (pos 4096)) (reply.Val (pos 4096))
    ∷ gets 1 (call.OpenFile (codes "/") (pos 0)) (reply.Val (pos 0))
    ∷ fails 1 (call.Read (pos 0) (pos 4096) (pos 1)) errno.EISDIR
    ∷ fails 1 (call.Read (pos 0) (pos 0) (pos 1)) errno.EISDIR
    ∷ fails 1 (call.Read (pos 0) (pos 4096) (pos 0)) errno.EISDIR
    ∷ fails 1 (call.Pread (pos 0) (pos 4096) (pos 1) (pos 0)) errno.EISDIR
    ∷ fails 1 (call.Write (pos 0) (pos 4096) (pos 1) 0) errno.EBADF
    ∷ fails 1 (call.Pwrite (pos 0) (pos 4096) (pos 1) (pos 0)) errno.EBADF
    ∷ fails 1 (call.Ftruncate (pos 0) (pos 0)) errno.EINVAL
    ∷ gets 1 (call.Fstat (pos 0)) (reply.Stat (info node.Dir 1 1 64))
    ∷ gets 1 (call.Fcntl (pos 0) (pos 3) (pos 0)) (reply.Val (pos 0))
    ∷ gets 1 (call.Fcntl (pos 0) (pos 4) (pos 1024)) (reply.Val (pos 0))
    ∷ gets 1 (call.Fcntl (pos 0) (pos 3) (pos 0)) (reply.Val (pos 1024))
    ∷ gets 1 (call.Close (pos 0)) (reply.Val (pos 0))
    ∷ fails 1 (call.Close (pos 0)) errno.EBADF
    ∷ ends 1 (call.Exit (pos 0)) 0
    ∷ []

-- the heap that is taken after each of these, and how many nodes have to be cached
abbrev pub open_directories_take : List ℕ
open_directories_take = 1024 ∷ 1088 ∷ 1088 ∷ 1088 ∷ 1088 ∷ 1088 ∷ 1088 ∷ 1088 ∷ 1088 ∷ 1088 ∷ 1088 ∷ 1088 ∷ 1088 ∷ 1024 ∷ 1024 ∷ 0 ∷ []

abbrev pub open_directories_pin : List ℕ
open_directories_pin = 1 ∷ 1 ∷ 1 ∷ 1 ∷ 1 ∷ 1 ∷ 1 ∷ 1 ∷ 1 ∷ 1 ∷ 1 ∷ 1 ∷ 1 ∷ 1 ∷ 1 ∷ 1 ∷ []

-- Offsets from the beginning, from where it stands and from the end.
abbrev pub places_in_files : List Line
places_in_files =
    gets 1 (call.Mmap (pos 4096)) (reply.Val (pos 4096))
    ∷ gets 1 (call.OpenFile (codes "/f") (pos 66)) (reply.Val (pos 0))
    ∷ gets 1 (call.Write (pos 0) (pos 4096) (pos 100) 0) (reply.Val (pos 100))
    ∷ gets 1 (call.Lseek (pos 0) (pos 0) (pos 1)) (reply.Val (pos 100))
    ∷ gets 1 (call.Lseek (pos 0) (negsuc 99) (pos 1)) (reply.Val (pos 0))
    ∷ fails 1 (call.Lseek (pos 0) (negsuc 0) (pos 1)) errno.EINVAL
    ∷ fails 1 (call.Lseek (pos 0) (negsuc 100) (pos 2)) errno.EINVAL
    ∷ gets 1 (call.Lseek (pos 0) (negsuc 99) (pos 2)) (reply.Val (pos 0))
    ∷ gets 1 (call.Lseek (pos 0) (pos 9223372036854775807) (pos 0)) (reply.Val (pos 9223372036854775807))
    ∷ fails 1 (call.Lseek (pos 0) (pos 1) (pos 1)) errno.EOVERFLOW
    ∷ fails 1 (call.Lseek (pos 0) (pos 9223372036854775807) (pos 2)) errno.EOVERFLOW
    ∷ fails 1 (call.Lseek (pos 0) (negsuc 9223372036854775807) (pos 1)) errno.EINVAL
    ∷ gets 1 (call.Read (pos 0) (pos 4096) (pos 1)) (reply.Val (pos 0))
    ∷ fails 1 (call.Write (pos 0) (pos 4096) (pos 1) 0) errno.EFBIG
    ∷ gets 1 (call.Write (pos 0) (pos 4096) (pos 0) 0) (reply.Val (pos 0))
    ∷ fails 1 (call.Lseek (pos 0) (pos 0) (pos 3)) errno.EINVAL
    ∷ fails 1 (call.Lseek (pos 0) (pos 0) (negsuc 0)) errno.EINVAL
    ∷ fails 1 (call.Lseek (pos 9) (pos 0) (pos 3)) errno.EINVAL
    ∷ fails 1 (call.Lseek (pos 9) (pos 0) (pos 0)) errno.EBADF
    ∷ gets 1 (call.Lseek (pos 0) (pos 1000) (pos 0)) (reply.Val (pos 1000))
    ∷ gets 1 (call.Fstat (pos 0)) (reply.Stat (info node.File 2 1 100))
    ∷ gets 1 (call.Mkdir (codes "/d")) (reply.Val (pos 0))
    ∷ gets 1 (call.OpenFile (codes "/d") (pos 0)) (reply.Val (pos 1))
    ∷ gets 1 (call.Lseek (pos 1) (pos 0) (pos 2)) (reply.Val (pos 64))
    ∷ fails 1 (call.Lseek (pos 1) (pos 1) (pos 0)) errno.EINVAL
    ∷ fails 1 (call.Lseek (pos 1) (pos 33) (pos 1)) errno.EINVAL
    ∷ gets 1 (call.Lseek (pos 1) (negsuc 31) (pos 1)) (reply.Val (pos 32))
    ∷ fails 1 (call.Lseek (pos 1) (negsuc 63) (pos 1)) errno.EINVAL
    ∷ fails 1 (call.Lseek (pos 1) (negsuc 32) (pos 1)) errno.EINVAL
    ∷ gets 1 (call.Lseek (pos 1) (pos 9223372036854775776) (pos 0)) (reply.Val (pos 9223372036854775776))
    ∷ fails 1 (call.Lseek (pos 1) (pos 31) (pos 1)) errno.EINVAL
    ∷ fails 1 (call.Lseek (pos 1) (pos 32) (pos 1)) errno.EOVERFLOW
    ∷ gets 1 (call.Readdir (pos 1) (pos 4096) (pos 64)) (reply.Val (pos 0))
    ∷ gets 1 (call.Lseek (pos 1) (pos 320) (pos 0)) (reply.Val (pos 320))
    ∷ gets 1 (call.Readdir (pos 1) (pos 4096) (pos 64)) (reply.Val (pos 0))
    ∷ gets 1 (call.Lseek (pos 1) (pos 0) (pos 1)) (reply.Val (pos 320))
    ∷ ends 1 (call.Exit (pos 0)) 0
    ∷ []

-- the heap that is taken after each of these, and how many nodes have to be cached
abbrev pub places_in_files_take : List ℕ
places_in_files_take = 1024 ∷ 1088 ∷ 1088 ∷ 1088 ∷ 1088 ∷ 1088 ∷ 1088 ∷ 1088 ∷ 1088 ∷ 1088 ∷ 1088 ∷ 1088 ∷ 1088 ∷ 1088 ∷ 1088 ∷ 1088 ∷ 1088 ∷ 1088 ∷ 1088 ∷ 1088 ∷ 1088 ∷ 1088 ∷ 1152 ∷ 1152 ∷ 1152 ∷ 1152 ∷ 1152 ∷ 1152 ∷ 1152 ∷ 1152 ∷ 1152 ∷ 1152 ∷ 1152 ∷ 1152 ∷ 1152 ∷ 1152 ∷ 0 ∷ []

abbrev pub places_in_files_pin : List ℕ
places_in_files_pin = 1 ∷ 2 ∷ 2 ∷ 2 ∷ 2 ∷ 2 ∷ 2 ∷ 2 ∷ 2 ∷ 2 ∷ 2 ∷ 2 ∷ 2 ∷ 2 ∷ 2 ∷ 2 ∷ 2 ∷ 2 ∷ 2 ∷ 2 ∷ 2 ∷ 2 ∷ 3 ∷ 3 ∷ 3 ∷ 3 ∷ 3 ∷ 3 ∷ 3 ∷ 3 ∷ 3 ∷ 3 ∷ 3 ∷ 3 ∷ 3 ∷ 3 ∷ 1 ∷ []

-- Which flags of `open` are faults, and what each asks for.
abbrev pub flags_of_open : List Line
flags_of_open =
    gets 1 (call.Mmap (pos 4096)) (reply.Val (pos 4096))
    ∷ gets 1 (call.Mkdir (codes "/d")) (reply.Val (pos 0))
    ∷ fails 1 (call.OpenFile (codes "/f") (pos 3)) errno.EINVAL
    ∷ fails 1 (call.OpenFile (codes "/f") (pos 4)) errno.EINVAL
    ∷ fails 1 (call.OpenFile (codes "/f") (pos 1048576)) errno.EINVAL
    ∷ fails 1 (call.OpenFile (codes "/f") (negsuc 0)) errno.EINVAL
    ∷ fails 1 (call.OpenFile (codes "/f") (pos 512)) errno.EINVAL
    ∷ fails 1 (call.OpenFile (codes "/f") (pos 576)) errno.EINVAL
    ∷ fails 1 (call.OpenFile [] (pos 512)) errno.EINVAL
    ∷ fails 1 (call.OpenFile (codes "/f") (pos 2)) errno.ENOENT
    ∷ fails 1 (call.OpenFile (codes "/f") (pos 130)) errno.ENOENT
    ∷ gets 1 (call.OpenFile (codes "/f") (pos 194)) (reply.Val (pos 0))
    ∷ gets 1 (call.Write (pos 0) (pos 4096) (pos 10) 0) (reply.Val (pos 10))
    ∷ fails 1 (call.OpenFile (codes "/f") (pos 194)) errno.EEXIST
    ∷ fails 1 (call.OpenFile (codes "/f") (pos 524480)) errno.EEXIST
    ∷ gets 1 (call.OpenFile (codes "/f") (pos 130)) (reply.Val (pos 1))
    ∷ gets 1 (call.OpenFile (codes "/f") (pos 64)) (reply.Val (pos 2))
    ∷ gets 1 (call.OpenFile (codes "/f") (pos 527361)) (reply.Val (pos 3))
    ∷ gets 1 (call.Fstat (pos 3)) (reply.Stat (info node.File 3 1 10))
    ∷ gets 1 (call.Fcntl (pos 0) (pos 3) (pos 0)) (reply.Val (pos 2))
    ∷ gets 1 (call.Fcntl (pos 2) (pos 3) (pos 0)) (reply.Val (pos 0))
    ∷ gets 1 (call.Fcntl (pos 3) (pos 3) (pos 0)) (reply.Val (pos 3073))
    ∷ gets 1 (call.Fcntl (pos 3) (pos 1) (pos 0)) (reply.Val (pos 1))
    ∷ gets 1 (call.Fcntl (pos 2) (pos 1) (pos 0)) (reply.Val (pos 0))
    ∷ gets 1 (call.OpenFile (codes "/f") (pos 513)) (reply.Val (pos 4))
    ∷ gets 1 (call.Fstat (pos 0)) (reply.Stat (info node.File 3 1 0))
    ∷ gets 1 (call.OpenFile (codes "/d") (pos 0)) (reply.Val (pos 5))
    ∷ gets 1 (call.OpenFile (codes "/d") (pos 1152)) (reply.Val (pos 6))
    ∷ fails 1 (call.OpenFile (codes "/d") (pos 1)) errno.EISDIR
    ∷ fails 1 (call.OpenFile (codes "/d") (pos 514)) errno.EISDIR
    ∷ fails 1 (call.OpenFile (codes "/d") (pos 64)) errno.EISDIR
    ∷ fails 1 (call.OpenFile (codes "/d") (pos 194)) errno.EEXIST
    ∷ fails 1 (call.OpenFile (codes "/") (pos 64)) errno.EISDIR
    ∷ fails 1 (call.OpenFile (codes ".") (pos 192)) errno.EEXIST
    ∷ gets 1 (call.OpenFile (codes "/") (pos 0)) (reply.Val (pos 7))
    ∷ gets 1 (call.OpenFile (codes "/d/") (pos 0)) (reply.Val (pos 8))
    ∷ gets 1 (call.OpenFile (codes "/d/x") (pos 64)) (reply.Val (pos 9))
    ∷ gets 1 (call.Stat (codes "/d/x")) (reply.Stat (info node.File 4 1 0))
    ∷ ends 1 (call.Exit (pos 0)) 0
    ∷ []

-- the heap that is taken after each of these, and how many nodes have to be cached
abbrev pub flags_of_open_take : List ℕ
flags_of_open_take = 1024 ∷ 1024 ∷ 1024 ∷ 1024 ∷ 1024 ∷ 1024 ∷ 1024 ∷ 1024 ∷ 1024 ∷ 1024 ∷ 1024 ∷ 1088 ∷ 1088 ∷ 1088 ∷ 1088 ∷ 1152 ∷ 1216 ∷ 1280 ∷ 1280 ∷ 1280 ∷ 1280 ∷ 1280 ∷ 1280 ∷ 1280 ∷ 1344 ∷ 1344 ∷ 1408 ∷ 1472 ∷ 1472 ∷ 1472 ∷ 1472 ∷ 1472 ∷ 1472 ∷ 1472 ∷ 1536 ∷ 1600 ∷ 1664 ∷ 1664 ∷ 0 ∷ []

abbrev pub flags_of_open_pin : List ℕ
flags_of_open_pin = 1 ∷ 1 ∷ 1 ∷ 1 ∷ 1 ∷ 1 ∷ 1 ∷ 1 ∷ 1 ∷ 1 ∷ 1 ∷ 2 ∷ 2 ∷ 2 ∷ 2 ∷ 2 ∷ 2 ∷ 2 ∷ 2 ∷ 2 ∷ 2 ∷ 2 ∷ 2 ∷ 2 ∷ 2 ∷ 2 ∷ 3 ∷ 3 ∷ 3 ∷ 3 ∷ 3 ∷ 3 ∷ 3 ∷ 3 ∷ 3 ∷ 3 ∷ 4 ∷ 4 ∷ 1 ∷ []

-- A file without a name is there as long as it is open.
abbrev pub files_without_names : List Line
files_without_names =
    gets 1 (call.Mmap (pos 4096)) (reply.Val (pos 4096))
    ∷ gets 1 (call.Store (pos 4096) (codes "still here")) (reply.Val (pos 10))
    ∷ gets 1 (call.OpenFile (codes "/f") (pos 66)) (reply.Val (pos 0))
    ∷ gets 1 (call.Ftruncate (pos 0) (pos 12288)) (reply.Val (pos 0))
    ∷ gets 1 (call.Write (pos 0) (pos 4096) (pos 10) 0) (reply.Val (pos 10))
    ∷ gets 1 (call.Unlink (codes "/f")) (reply.Val (pos 0))
    ∷ fails 1 (call.Stat (codes "/f")) errno.ENOENT
    ∷ gets 1 (call.Fstat (pos 0)) (reply.Stat (info node.File 2 0 12288))
    ∷ gets 1 (call.OpenFile (codes "/g") (pos 66)) (reply.Val (pos 1))
    ∷ gets 1 (call.Fstat (pos 1)) (reply.Stat (info node.File 3 1 0))
    ∷ fails 1 (call.Write (pos 1) (pos 4096) (pos 1) 0) errno.ENOSPC
    ∷ gets 1 call.Fork (reply.Val (pos 2))
    ∷ gets 1 (call.Close (pos 0)) (reply.Val (pos 0))
    ∷ sleeps 1 (call.Waitpid (negsuc 0) (pos 0))
    ∷ gets 2 (call.Pread (pos 0) (pos 4200) (pos 10) (pos 0)) (reply.Val (pos 10))
    ∷ gets 2 (call.Load (pos 4200) (pos 10)) (reply.Bytes (codes "still here"))
    ∷ gets 2 (call.Ftruncate (pos 0) (pos 12287)) (reply.Val (pos 0))
    ∷ ends 2 (call.Exit (pos 1)) 256
    ∷ gets 1 (call.Waitpid (negsuc 0) (pos 0)) (reply.Waited 2 256)
    ∷ gets 1 (call.Write (pos 1) (pos 4096) (pos 1) 0) (reply.Val (pos 1))
    ∷ gets 1 (call.OpenFile (codes "/h") (pos 66)) (reply.Val (pos 0))
    ∷ gets 1 (call.Fstat (pos 0)) (reply.Stat (info node.File 2 1 0))
    ∷ gets 1 (call.Close (pos 0)) (reply.Val (pos 0))
    ∷ gets 1 (call.Unlink (codes "/h")) (reply.Val (pos 0))
    ∷ gets 1 (call.OpenFile (codes "/h") (pos 66)) (reply.Val (pos 0))
    ∷ gets 1 (call.Dup (pos 0)) (reply.Val (pos 2))
    ∷ gets 1 (call.Unlink (codes "/h")) (reply.Val (pos 0))
    ∷ gets 1 (call.Ftruncate (pos 0) (pos 11264)) (reply.Val (pos 0))
    ∷ gets 1 (call.Dup2 (pos 1) (pos 0)) (reply.Val (pos 0))
    ∷ gets 1 (call.Fstat (pos 2)) (reply.Stat (info node.File 2 0 11264))
    ∷ gets 1 (call.Write (pos 1) (pos 4096) (pos 2000) 0) (reply.Val (pos 1023))
    ∷ gets 1 (call.Dup2 (pos 1) (pos 2)) (reply.Val (pos 2))
    ∷ gets 1 (call.Write (pos 1) (pos 4096) (pos 2000) 0) (reply.Val (pos 2000))
    ∷ ends 1 (call.Exit (pos 0)) 0
    ∷ []

-- the heap that is taken after each of these, and how many nodes have to be cached
abbrev pub files_without_names_take : List ℕ
files_without_names_take = 1024 ∷ 5120 ∷ 5184 ∷ 5184 ∷ 5184 ∷ 5184 ∷ 5184 ∷ 5184 ∷ 5248 ∷ 5248 ∷ 5248 ∷ 6272 ∷ 6272 ∷ 6272 ∷ 10368 ∷ 10368 ∷ 10368 ∷ 5696 ∷ 5184 ∷ 5184 ∷ 5248 ∷ 5248 ∷ 5184 ∷ 5184 ∷ 5248 ∷ 5248 ∷ 5248 ∷ 5248 ∷ 5248 ∷ 5248 ∷ 5248 ∷ 5184 ∷ 5184 ∷ 0 ∷ []

abbrev pub files_without_names_pin : List ℕ
files_without_names_pin = 1 ∷ 1 ∷ 2 ∷ 2 ∷ 2 ∷ 2 ∷ 2 ∷ 2 ∷ 3 ∷ 3 ∷ 3 ∷ 3 ∷ 3 ∷ 3 ∷ 3 ∷ 3 ∷ 3 ∷ 2 ∷ 2 ∷ 2 ∷ 3 ∷ 3 ∷ 2 ∷ 2 ∷ 3 ∷ 3 ∷ 3 ∷ 3 ∷ 3 ∷ 3 ∷ 3 ∷ 2 ∷ 2 ∷ 1 ∷ []

-- Sizes that are set: what is cut is gone, what grows is zero, and offsets stay.
abbrev pub cut_and_grown : List Line
cut_and_grown =
    gets 1 (call.Mmap (pos 8192)) (reply.Val (pos 4096))
    ∷ gets 1 (call.Store (pos 4096) (codes "ABCDEFGH")) (reply.Val (pos 8))
    ∷ gets 1 (call.OpenFile (codes "/f") (pos 66)) (reply.Val (pos 0))
    ∷ gets 1 (call.Write (pos 0) (pos 4096) (pos 8) 0) (reply.Val (pos 8))
    ∷ gets 1 (call.Ftruncate (pos 0) (pos 3)) (reply.Val (pos 0))
    ∷ gets 1 (call.Fstat (pos 0)) (reply.Stat (info node.File 2 1 3))
    ∷ gets 1 (call.Ftruncate (pos 0) (pos 6)) (reply.Val (pos 0))
    ∷ gets 1 (call.Pread (pos 0) (pos 8192) (pos 10) (pos 0)) (reply.Val (pos 6))
    ∷ gets 1 (call.Load (pos 8192) (pos 7)) (reply.Bytes (65 ∷ 66 ∷ 67 ∷ 0 ∷ 0 ∷ 0 ∷ 0 ∷ []))
    ∷ gets 1 (call.Write (pos 0) (pos 4096) (pos 2) 0) (reply.Val (pos 2))
    ∷ gets 1 (call.Fstat (pos 0)) (reply.Stat (info node.File 2 1 10))
    ∷ gets 1 (call.Pread (pos 0) (pos 8192) (pos 10) (pos 0)) (reply.Val (pos 10))
    ∷ gets 1 (call.Load (pos 8192) (pos 10)) (reply.Bytes (65 ∷ 66 ∷ 67 ∷ 0 ∷ 0 ∷ 0 ∷ 0 ∷ 0 ∷ 65 ∷ 66 ∷ []))
    ∷ gets 1 (call.OpenFile (codes "/f") (pos 513)) (reply.Val (pos 1))
    ∷ gets 1 (call.Fstat (pos 0)) (reply.Stat (info node.File 2 1 0))
    ∷ gets 1 (call.Read (pos 0) (pos 8192) (pos 1)) (reply.Val (pos 0))
    ∷ gets 1 (call.Lseek (pos 0) (pos 0) (pos 1)) (reply.Val (pos 10))
    ∷ gets 1 (call.Write (pos 0) (pos 4096) (pos 1) 0) (reply.Val (pos 1))
    ∷ gets 1 (call.Fstat (pos 1)) (reply.Stat (info node.File 2 1 11))
    ∷ gets 1 (call.Ftruncate (pos 1) (pos 5000)) (reply.Val (pos 0))
    ∷ gets 1 (call.Ftruncate (pos 1) (pos 1025)) (reply.Val (pos 0))
    ∷ gets 1 (call.Ftruncate (pos 1) (pos 1025)) (reply.Val (pos 0))
    ∷ gets 1 (call.Pread (pos 0) (pos 8192) (pos 2000) (pos 1000)) (reply.Val (pos 25))
    ∷ gets 1 (call.Ftruncate (pos 1) (pos 0)) (reply.Val (pos 0))
    ∷ gets 1 (call.OpenFile (codes "/f") (pos 0)) (reply.Val (pos 2))
    ∷ fails 1 (call.Ftruncate (pos 2) (pos 0)) errno.EBADF
    ∷ fails 1 (call.Ftruncate (pos 2) (negsuc 0)) errno.EINVAL
    ∷ fails 1 (call.Ftruncate (pos 2) (pos 67381249)) errno.EBADF
    ∷ fails 1 (call.Ftruncate (pos 1) (pos 67381249)) errno.EFBIG
    ∷ fails 1 (call.Ftruncate (pos 1) (pos 9223372036854775807)) errno.EFBIG
    ∷ gets 1 (call.OpenFile (codes "/") (pos 0)) (reply.Val (pos 3))
    ∷ fails 1 (call.Ftruncate (pos 3) (pos 0)) errno.EINVAL
    ∷ fails 1 (call.Ftruncate (pos 3) (pos 67381249)) errno.EINVAL
    ∷ fails 1 (call.Ftruncate (pos 9) (pos 0)) errno.EBADF
    ∷ ends 1 (call.Exit (pos 0)) 0
    ∷ []

-- the heap that is taken after each of these, and how many nodes have to be cached
abbrev pub cut_and_grown_take : List ℕ
cut_and_grown_take = 1024 ∷ 5120 ∷ 5184 ∷ 5184 ∷ 5184 ∷ 5184 ∷ 5184 ∷ 9280 ∷ 9280 ∷ 9280 ∷ 9280 ∷ 9280 ∷ 9280 ∷ 9344 ∷ 9344 ∷ 9344 ∷ 9344 ∷ 9344 ∷ 9344 ∷ 9344 ∷ 9344 ∷ 9344 ∷ 9344 ∷ 9344 ∷ 9408 ∷ 9408 ∷ 9408 ∷ 9408 ∷ 9408 ∷ 9408 ∷ 9472 ∷ 9472 ∷ 9472 ∷ 9472 ∷ 0 ∷ []

abbrev pub cut_and_grown_pin : List ℕ
cut_and_grown_pin = 1 ∷ 1 ∷ 2 ∷ 2 ∷ 2 ∷ 2 ∷ 2 ∷ 2 ∷ 2 ∷ 2 ∷ 2 ∷ 2 ∷ 2 ∷ 2 ∷ 2 ∷ 2 ∷ 2 ∷ 2 ∷ 2 ∷ 2 ∷ 2 ∷ 2 ∷ 2 ∷ 2 ∷ 2 ∷ 2 ∷ 2 ∷ 2 ∷ 2 ∷ 2 ∷ 2 ∷ 2 ∷ 2 ∷ 2 ∷ 1 ∷ []

-- The least disk: a write is as long as there is room, with the block for pointers.
abbrev pub full_disks : List Line
full_disks =
    gets 1 (call.Mmap (pos 24576)) (reply.Val (pos 4096))
    ∷ gets 1 (call.OpenFile (codes "/f") (pos 66)) (reply.Val (pos 0))
    ∷ gets 1 (call.Write (pos 0) (pos 4096) (pos 10240) 0) (reply.Val (pos 10240))
    ∷ gets 1 (call.OpenFile (codes "/g") (pos 66)) (reply.Val (pos 1))
    ∷ gets 1 (call.Write (pos 1) (pos 4096) (pos 2000) 0) (reply.Val (pos 2000))
    ∷ fails 1 (call.Write (pos 0) (pos 4096) (pos 1) 0) errno.ENOSPC
    ∷ gets 1 (call.Lseek (pos 0) (pos 0) (pos 1)) (reply.Val (pos 10240))
    ∷ gets 1 (call.Write (pos 1) (pos 4096) (pos 2000) 0) (reply.Val (pos 1072))
    ∷ fails 1 (call.Write (pos 1) (pos 4096) (pos 1) 0) errno.ENOSPC
    ∷ gets 1 (call.Fstat (pos 1)) (reply.Stat (info node.File 3 1 3072))
    ∷ gets 1 (call.Ftruncate (pos 1) (pos 1024)) (reply.Val (pos 0))
    ∷ gets 1 (call.Write (pos 0) (pos 4096) (pos 3000) 0) (reply.Val (pos 1024))
    ∷ gets 1 (call.Fstat (pos 0)) (reply.Stat (info node.File 2 1 11264))
    ∷ fails 1 (call.Write (pos 0) (pos 4096) (pos 1) 0) errno.ENOSPC
    ∷ gets 1 (call.Pwrite (pos 0) (pos 4096) (pos 1) (pos 11263)) (reply.Val (pos 1))
    ∷ gets 1 (call.Pwrite (pos 0) (pos 4096) (pos 4096) (pos 8000)) (reply.Val (pos 3264))
    ∷ fails 1 (call.Pwrite (pos 0) (pos 4096) (pos 1) (pos 20000)) errno.ENOSPC
    ∷ fails 1 (call.Ftruncate (pos 0) (pos 11265)) errno.ENOSPC
    ∷ fails 1 (call.Ftruncate (pos 1) (pos 2048)) errno.ENOSPC
    ∷ gets 1 (call.Ftruncate (pos 1) (pos 0)) (reply.Val (pos 0))
    ∷ fails 1 (call.Pwrite (pos 0) (pos 4096) (pos 1) (pos 13000)) errno.ENOSPC
    ∷ gets 1 (call.Pwrite (pos 0) (pos 4096) (pos 900) (pos 12000)) (reply.Val (pos 288))
    ∷ gets 1 (call.Fstat (pos 0)) (reply.Stat (info node.File 2 1 12288))
    ∷ gets 1 (call.Fstat (pos 1)) (reply.Stat (info node.File 3 1 0))
    ∷ fails 1 (call.Write (pos 1) (pos 4096) (pos 1) 0) errno.ENOSPC
    ∷ gets 1 (call.Write (pos 1) (pos 4096) (pos 0) 0) (reply.Val (pos 0))
    ∷ gets 1 (call.Close (pos 0)) (reply.Val (pos 0))
    ∷ gets 1 (call.Unlink (codes "/f")) (reply.Val (pos 0))
    ∷ gets 1 (call.Write (pos 1) (pos 4096) (pos 14000) 0) (reply.Val (pos 9216))
    ∷ gets 1 (call.Fstat (pos 1)) (reply.Stat (info node.File 3 1 12288))
    ∷ ends 1 (call.Exit (pos 0)) 0
    ∷ []

-- the heap that is taken after each of these, and how many nodes have to be cached
abbrev pub full_disks_take : List ℕ
full_disks_take = 1024 ∷ 1088 ∷ 1088 ∷ 1152 ∷ 1152 ∷ 1152 ∷ 1152 ∷ 1152 ∷ 1152 ∷ 1152 ∷ 1152 ∷ 1152 ∷ 1152 ∷ 1152 ∷ 1152 ∷ 1152 ∷ 1152 ∷ 1152 ∷ 1152 ∷ 1152 ∷ 1152 ∷ 1152 ∷ 1152 ∷ 1152 ∷ 1152 ∷ 1152 ∷ 1088 ∷ 1088 ∷ 1088 ∷ 1088 ∷ 0 ∷ []

abbrev pub full_disks_pin : List ℕ
full_disks_pin = 1 ∷ 2 ∷ 2 ∷ 3 ∷ 3 ∷ 3 ∷ 3 ∷ 3 ∷ 3 ∷ 3 ∷ 3 ∷ 3 ∷ 3 ∷ 3 ∷ 3 ∷ 3 ∷ 3 ∷ 3 ∷ 3 ∷ 3 ∷ 3 ∷ 3 ∷ 3 ∷ 3 ∷ 3 ∷ 3 ∷ 2 ∷ 2 ∷ 2 ∷ 2 ∷ 1 ∷ []
