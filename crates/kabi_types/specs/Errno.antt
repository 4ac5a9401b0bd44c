-- The numbers of the errnos, and their names.
use Rattle.std.specs.Prelude.{ℕ, List, codes}
use Rattle.kabi_types.specs.declared.errnos.Errno.{Errno}
use Rattle.kabi_types.specs.declared.errnos.Errno.TheVariants as errno

-- an errno's number, which is above 0
abbrev pub number_of : Errno → ℕ
number_of errno.EPERM = 1
number_of errno.ENOENT = 2
number_of errno.ESRCH = 3
number_of errno.ENXIO = 6
number_of errno.ENOEXEC = 8
number_of errno.EBADF = 9
number_of errno.ECHILD = 10
number_of errno.EAGAIN = 11
number_of errno.ENOMEM = 12
number_of errno.EACCES = 13
number_of errno.EFAULT = 14
number_of errno.EBUSY = 16
number_of errno.EEXIST = 17
number_of errno.ENOTDIR = 20
number_of errno.EISDIR = 21
number_of errno.EINVAL = 22
number_of errno.EMFILE = 24
number_of errno.EFBIG = 27
number_of errno.ENOSPC = 28
number_of errno.ESPIPE = 29
number_of errno.EMLINK = 31
number_of errno.EPIPE = 32
number_of errno.EDEADLK = 35
number_of errno.ENAMETOOLONG = 36
number_of errno.ENOTEMPTY = 39
number_of errno.EOVERFLOW = 75
number_of errno.ENOTSOCK = 88
number_of errno.EDESTADDRREQ = 89
number_of errno.EOPNOTSUPP = 95
number_of errno.EADDRINUSE = 98
number_of errno.EISCONN = 106
number_of errno.ENOTCONN = 107
number_of errno.ECONNREFUSED = 111

-- an errno's name
abbrev pub name_of : Errno → List ℕ
name_of errno.EPERM = codes "EPERM"
name_of errno.ENOENT = codes "ENOENT"
name_of errno.ESRCH = codes "ESRCH"
name_of errno.ENXIO = codes "ENXIO"
name_of errno.ENOEXEC = codes "ENOEXEC"
name_of errno.EBADF = codes "EBADF"
name_of errno.ECHILD = codes "ECHILD"
name_of errno.EAGAIN = codes "EAGAIN"
name_of errno.ENOMEM = codes "ENOMEM"
name_of errno.EACCES = codes "EACCES"
name_of errno.EFAULT = codes "EFAULT"
name_of errno.EBUSY = codes "EBUSY"
name_of errno.EEXIST = codes "EEXIST"
name_of errno.ENOTDIR = codes "ENOTDIR"
name_of errno.EISDIR = codes "EISDIR"
name_of errno.EINVAL = codes "EINVAL"
name_of errno.EMFILE = codes "EMFILE"
name_of errno.EFBIG = codes "EFBIG"
name_of errno.ENOSPC = codes "ENOSPC"
name_of errno.ESPIPE = codes "ESPIPE"
name_of errno.EMLINK = codes "EMLINK"
name_of errno.EPIPE = codes "EPIPE"
name_of errno.EDEADLK = codes "EDEADLK"
name_of errno.ENAMETOOLONG = codes "ENAMETOOLONG"
name_of errno.ENOTEMPTY = codes "ENOTEMPTY"
name_of errno.EOVERFLOW = codes "EOVERFLOW"
name_of errno.ENOTSOCK = codes "ENOTSOCK"
name_of errno.EDESTADDRREQ = codes "EDESTADDRREQ"
name_of errno.EOPNOTSUPP = codes "EOPNOTSUPP"
name_of errno.EADDRINUSE = codes "EADDRINUSE"
name_of errno.EISCONN = codes "EISCONN"
name_of errno.ENOTCONN = codes "ENOTCONN"
name_of errno.ECONNREFUSED = codes "ECONNREFUSED"
