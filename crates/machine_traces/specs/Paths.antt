-- Traces of calls on paths.
use Rattle.std.specs.Prelude.{ℕ, pos, List, [], ◌∷◌, codes}
use Rattle.kabi_types.specs.declared.calls.Call.TheVariants as call
use Rattle.kabi_types.specs.declared.errnos.Errno.TheVariants as errno
use Rattle.kabi_types.specs.declared.replies.Reply.TheVariants as reply
use Rattle.kabi_types.specs.declared.replies.NodeKind.TheVariants as node
use Rattle.machine_traces.specs.Trace.{Line, gets, fails, ends, info}

-- Directories made, entered and removed.
abbrev pub made_and_removed : List Line
made_and_removed =
    fails 1 (call.Stat (codes "/a")) errno.ENOENT
    ∷ fails 1 (call.Chdir (codes "/a")) errno.ENOENT
    ∷ fails 1 (call.Rmdir (codes "/a")) errno.ENOENT
    ∷ fails 1 (call.Mkdir (codes "/a/b")) errno.ENOENT
    ∷ gets 1 (call.Mkdir (codes "/a/")) (reply.Val (pos 0))
    ∷ fails 1 (call.Mkdir (codes "/a")) errno.EEXIST
    ∷ fails 1 (call.Mkdir (codes "/a/.")) errno.EEXIST
    ∷ gets 1 (call.Mkdir (codes "/a/b")) (reply.Val (pos 0))
    ∷ gets 1 (call.Mkdir (codes "/a/b/c")) (reply.Val (pos 0))
    ∷ gets 1 (call.Stat (codes "/a")) (reply.Stat (info node.Dir 2 1 96))
    ∷ gets 1 (call.Stat (codes "/a/b")) (reply.Stat (info node.Dir 3 1 96))
    ∷ gets 1 (call.Stat (codes "/a/b/c")) (reply.Stat (info node.Dir 4 1 64))
    ∷ fails 1 (call.Rmdir (codes "/a")) errno.ENOTEMPTY
    ∷ fails 1 (call.Rmdir (codes "/a/b/")) errno.ENOTEMPTY
    ∷ fails 1 (call.Rmdir (codes "/a/b/c/.")) errno.EINVAL
    ∷ fails 1 (call.Rmdir (codes "/a/b/c/..")) errno.ENOTEMPTY
    ∷ fails 1 (call.Rmdir (codes "/")) errno.EBUSY
    ∷ gets 1 (call.Chdir (codes "/a/b/c")) (reply.Val (pos 0))
    ∷ fails 1 (call.Rmdir (codes "/a/b/c")) errno.EBUSY
    ∷ fails 1 (call.Rmdir (codes "../c")) errno.EBUSY
    ∷ gets 1 (call.Stat (codes "../..")) (reply.Stat (info node.Dir 2 1 96))
    ∷ fails 1 (call.Chdir (codes "/aaaaaaaaaaaaaaaaaaaaaaaaaaaa")) errno.ENAMETOOLONG
    ∷ fails 1 (call.Chdir []) errno.ENOENT
    ∷ fails 1 (call.Mkdir []) errno.ENOENT
    ∷ fails 1 (call.Stat []) errno.ENOENT
    ∷ fails 1 (call.Rmdir []) errno.ENOENT
    ∷ gets 1 (call.Chdir (codes "../..")) (reply.Val (pos 0))
    ∷ gets 1 (call.Rmdir (codes "b/c")) (reply.Val (pos 0))
    ∷ gets 1 (call.Mkdir (codes "x")) (reply.Val (pos 0))
    ∷ gets 1 (call.Stat (codes "x")) (reply.Stat (info node.Dir 4 1 64))
    ∷ gets 1 (call.Stat (codes "b")) (reply.Stat (info node.Dir 3 1 64))
    ∷ gets 1 (call.Rmdir (codes "b")) (reply.Val (pos 0))
    ∷ gets 1 (call.Mkdir (codes "/a/x/y")) (reply.Val (pos 0))
    ∷ gets 1 (call.Stat (codes "/a/x/y")) (reply.Stat (info node.Dir 3 1 64))
    ∷ gets 1 (call.Stat (codes "/a")) (reply.Stat (info node.Dir 2 1 96))
    ∷ ends 1 (call.Exit (pos 0)) 0
    ∷ []

-- the heap that is taken after each of these, and how many nodes have to be cached
abbrev pub made_and_removed_take : List ℕ
made_and_removed_take = 512 ∷ 512 ∷ 512 ∷ 512 ∷ 512 ∷ 512 ∷ 512 ∷ 512 ∷ 512 ∷ 512 ∷ 512 ∷ 512 ∷ 512 ∷ 512 ∷ 512 ∷ 512 ∷ 512 ∷ 512 ∷ 512 ∷ 512 ∷ 512 ∷ 512 ∷ 512 ∷ 512 ∷ 512 ∷ 512 ∷ 512 ∷ 512 ∷ 512 ∷ 512 ∷ 512 ∷ 512 ∷ 512 ∷ 512 ∷ 512 ∷ 0 ∷ []

abbrev pub made_and_removed_pin : List ℕ
made_and_removed_pin = 1 ∷ 1 ∷ 1 ∷ 1 ∷ 1 ∷ 1 ∷ 1 ∷ 1 ∷ 1 ∷ 1 ∷ 1 ∷ 1 ∷ 1 ∷ 1 ∷ 1 ∷ 1 ∷ 1 ∷ 2 ∷ 2 ∷ 2 ∷ 2 ∷ 2 ∷ 2 ∷ 2 ∷ 2 ∷ 2 ∷ 2 ∷ 2 ∷ 2 ∷ 2 ∷ 2 ∷ 2 ∷ 2 ∷ 2 ∷ 2 ∷ 1 ∷ []

-- What a walk refuses: long names, names that are missing, files on the way or before a slash.
abbrev pub refused_walks : List Line
refused_walks =
    gets 1 (call.Mkdir (codes "/d")) (reply.Val (pos 0))
    ∷ gets 1 (call.OpenFile (codes "/f") (pos 66)) (reply.Val (pos 0))
    ∷ fails 1 (call.Stat []) errno.ENOENT
    ∷ fails 1 (call.Stat (codes "/aaaaaaaaaaaaaaaaaaaaaaaaaaaa")) errno.ENAMETOOLONG
    ∷ fails 1 (call.Stat (codes "/aaaaaaaaaaaaaaaaaaaaaaaaaaa")) errno.ENOENT
    ∷ fails 1 (call.Stat (codes "/nosuch/aaaaaaaaaaaaaaaaaaaaaaaaaaaa/x")) errno.ENAMETOOLONG
    ∷ fails 1 (call.Stat (codes "/f/aaaaaaaaaaaaaaaaaaaaaaaaaaaa")) errno.ENAMETOOLONG
    ∷ fails 1 (call.Stat (codes "/x")) errno.ENOENT
    ∷ fails 1 (call.Stat (codes "/x/")) errno.ENOENT
    ∷ fails 1 (call.Stat (codes "/x/.")) errno.ENOENT
    ∷ fails 1 (call.Stat (codes "/x/..")) errno.ENOENT
    ∷ fails 1 (call.Stat (codes "/x/y")) errno.ENOENT
    ∷ fails 1 (call.Stat (codes "/f/")) errno.ENOTDIR
    ∷ fails 1 (call.Stat (codes "/f//")) errno.ENOTDIR
    ∷ fails 1 (call.Stat (codes "/f/.")) errno.ENOTDIR
    ∷ fails 1 (call.Stat (codes "/f/..")) errno.ENOTDIR
    ∷ fails 1 (call.Stat (codes "/f/y")) errno.ENOTDIR
    ∷ fails 1 (call.Stat (codes "/f/y/z")) errno.ENOTDIR
    ∷ gets 1 (call.Stat (codes "/d/../f")) (reply.Stat (info node.File 3 1 0))
    ∷ fails 1 (call.Stat (codes "/d/../f/../d")) errno.ENOTDIR
    ∷ fails 1 (call.Chdir []) errno.ENOENT
    ∷ fails 1 (call.Chdir (codes "/x")) errno.ENOENT
    ∷ fails 1 (call.Chdir (codes "/f")) errno.ENOTDIR
    ∷ fails 1 (call.Chdir (codes "/f/")) errno.ENOTDIR
    ∷ fails 1 (call.Chdir (codes "/f/x")) errno.ENOTDIR
    ∷ fails 1 (call.Chdir (codes "/aaaaaaaaaaaaaaaaaaaaaaaaaaaa")) errno.ENAMETOOLONG
    ∷ fails 1 (call.OpenFile [] (pos 0)) errno.ENOENT
    ∷ fails 1 (call.OpenFile (codes "/x") (pos 0)) errno.ENOENT
    ∷ fails 1 (call.OpenFile (codes "/x/y") (pos 64)) errno.ENOENT
    ∷ fails 1 (call.OpenFile (codes "/f/") (pos 2)) errno.ENOTDIR
    ∷ fails 1 (call.OpenFile (codes "/f/") (pos 66)) errno.ENOTDIR
    ∷ fails 1 (call.OpenFile (codes "/f/") (pos 192)) errno.ENOTDIR
    ∷ fails 1 (call.OpenFile (codes "/f/y") (pos 64)) errno.ENOTDIR
    ∷ fails 1 (call.OpenFile (codes "/x/") (pos 64)) errno.ENOENT
    ∷ fails 1 (call.OpenFile (codes "/aaaaaaaaaaaaaaaaaaaaaaaaaaaa") (pos 64)) errno.ENAMETOOLONG
    ∷ fails 1 (call.Exec []) errno.ENOENT
    ∷ fails 1 (call.Exec (codes "/x")) errno.ENOENT
    ∷ fails 1 (call.Exec (codes "/f/")) errno.ENOTDIR
    ∷ fails 1 (call.Exec (codes "/f/x")) errno.ENOTDIR
    ∷ fails 1 (call.Exec (codes "/aaaaaaaaaaaaaaaaaaaaaaaaaaaa")) errno.ENAMETOOLONG
    ∷ []

-- the heap that is taken after each of these, and how many nodes have to be cached
abbrev pub refused_walks_take : List ℕ
refused_walks_take = 512 ∷ 576 ∷ 576 ∷ 576 ∷ 576 ∷ 576 ∷ 576 ∷ 576 ∷ 576 ∷ 576 ∷ 576 ∷ 576 ∷ 576 ∷ 576 ∷ 576 ∷ 576 ∷ 576 ∷ 576 ∷ 576 ∷ 576 ∷ 576 ∷ 576 ∷ 576 ∷ 576 ∷ 576 ∷ 576 ∷ 576 ∷ 576 ∷ 576 ∷ 576 ∷ 576 ∷ 576 ∷ 576 ∷ 576 ∷ 576 ∷ 576 ∷ 576 ∷ 576 ∷ 576 ∷ 576 ∷ []

abbrev pub refused_walks_pin : List ℕ
refused_walks_pin = 1 ∷ 2 ∷ 2 ∷ 2 ∷ 2 ∷ 2 ∷ 2 ∷ 2 ∷ 2 ∷ 2 ∷ 2 ∷ 2 ∷ 2 ∷ 2 ∷ 2 ∷ 2 ∷ 2 ∷ 2 ∷ 2 ∷ 2 ∷ 2 ∷ 2 ∷ 2 ∷ 2 ∷ 2 ∷ 2 ∷ 2 ∷ 2 ∷ 2 ∷ 2 ∷ 2 ∷ 2 ∷ 2 ∷ 2 ∷ 2 ∷ 2 ∷ 2 ∷ 2 ∷ 2 ∷ 2 ∷ []

-- Further names of a file, and its count of links.
abbrev pub linked_names : List Line
linked_names =
    gets 1 (call.Mkdir (codes "/d")) (reply.Val (pos 0))
    ∷ gets 1 (call.OpenFile (codes "/f") (pos 66)) (reply.Val (pos 0))
    ∷ fails 1 (call.Link [] (codes "/x")) errno.ENOENT
    ∷ fails 1 (call.Link (codes "/f") []) errno.ENOENT
    ∷ fails 1 (call.Link [] (codes "/aaaaaaaaaaaaaaaaaaaaaaaaaaaa")) errno.ENOENT
    ∷ fails 1 (call.Link (codes "/aaaaaaaaaaaaaaaaaaaaaaaaaaaa") []) errno.ENAMETOOLONG
    ∷ fails 1 (call.Link (codes "/x") (codes "/y")) errno.ENOENT
    ∷ fails 1 (call.Link (codes "/x") (codes "/f")) errno.ENOENT
    ∷ fails 1 (call.Link (codes "/x/y") (codes "/z/y")) errno.ENOENT
    ∷ fails 1 (call.Link (codes "/f/y") (codes "/z")) errno.ENOTDIR
    ∷ fails 1 (call.Link (codes "/f/") (codes "/z")) errno.ENOTDIR
    ∷ fails 1 (call.Link (codes "/d") (codes "/z")) errno.EPERM
    ∷ fails 1 (call.Link (codes "/") (codes "/z")) errno.EPERM
    ∷ fails 1 (call.Link (codes "/d") (codes "/f/z")) errno.EPERM
    ∷ fails 1 (call.Link (codes "/f") (codes "/x/y")) errno.ENOENT
    ∷ fails 1 (call.Link (codes "/f") (codes "/f/y")) errno.ENOTDIR
    ∷ fails 1 (call.Link (codes "/f") (codes "/f")) errno.EEXIST
    ∷ fails 1 (call.Link (codes "/f") (codes "/f/")) errno.ENOTDIR
    ∷ fails 1 (call.Link (codes "/f") (codes "/d")) errno.EEXIST
    ∷ fails 1 (call.Link (codes "/f") (codes "/d/")) errno.EEXIST
    ∷ fails 1 (call.Link (codes "/f") (codes "/")) errno.EEXIST
    ∷ fails 1 (call.Link (codes "/f") (codes ".")) errno.EEXIST
    ∷ fails 1 (call.Link (codes "/f") (codes "/z/")) errno.ENOENT
    ∷ gets 1 (call.Link (codes "/f") (codes "/d/g")) (reply.Val (pos 0))
    ∷ gets 1 (call.Link (codes "/d/g") (codes "/h")) (reply.Val (pos 0))
    ∷ gets 1 (call.Fstat (pos 0)) (reply.Stat (info node.File 3 3 0))
    ∷ gets 1 (call.Stat (codes "/d/g")) (reply.Stat (info node.File 3 3 0))
    ∷ gets 1 (call.Unlink (codes "/f")) (reply.Val (pos 0))
    ∷ gets 1 (call.Stat (codes "/h")) (reply.Stat (info node.File 3 2 0))
    ∷ gets 1 (call.Unlink (codes "/d/g")) (reply.Val (pos 0))
    ∷ gets 1 (call.Unlink (codes "/h")) (reply.Val (pos 0))
    ∷ gets 1 (call.Fstat (pos 0)) (reply.Stat (info node.File 3 0 0))
    ∷ gets 1 (call.Stat (codes "/")) (reply.Stat (info node.Dir 1 1 96))
    ∷ ends 1 (call.Exit (pos 0)) 0
    ∷ []

-- the heap that is taken after each of these, and how many nodes have to be cached
abbrev pub linked_names_take : List ℕ
linked_names_take = 512 ∷ 576 ∷ 576 ∷ 576 ∷ 576 ∷ 576 ∷ 576 ∷ 576 ∷ 576 ∷ 576 ∷ 576 ∷ 576 ∷ 576 ∷ 576 ∷ 576 ∷ 576 ∷ 576 ∷ 576 ∷ 576 ∷ 576 ∷ 576 ∷ 576 ∷ 576 ∷ 576 ∷ 576 ∷ 576 ∷ 576 ∷ 576 ∷ 576 ∷ 576 ∷ 576 ∷ 576 ∷ 576 ∷ 0 ∷ []

abbrev pub linked_names_pin : List ℕ
linked_names_pin = 1 ∷ 2 ∷ 2 ∷ 2 ∷ 2 ∷ 2 ∷ 2 ∷ 2 ∷ 2 ∷ 2 ∷ 2 ∷ 2 ∷ 2 ∷ 2 ∷ 2 ∷ 2 ∷ 2 ∷ 2 ∷ 2 ∷ 2 ∷ 2 ∷ 2 ∷ 2 ∷ 2 ∷ 2 ∷ 2 ∷ 2 ∷ 2 ∷ 2 ∷ 2 ∷ 2 ∷ 2 ∷ 2 ∷ 1 ∷ []

-- Each answer of `rmdir`.
abbrev pub removed_directories : List Line
removed_directories =
    gets 1 (call.Mkdir (codes "/a")) (reply.Val (pos 0))
    ∷ gets 1 (call.Mkdir (codes "/a/b")) (reply.Val (pos 0))
    ∷ gets 1 (call.OpenFile (codes "/f") (pos 66)) (reply.Val (pos 0))
    ∷ fails 1 (call.Rmdir []) errno.ENOENT
    ∷ fails 1 (call.Rmdir (codes ".")) errno.EINVAL
    ∷ fails 1 (call.Rmdir (codes "/x/.")) errno.EINVAL
    ∷ fails 1 (call.Rmdir (codes "/f/./")) errno.EINVAL
    ∷ fails 1 (call.Rmdir (codes "..")) errno.ENOTEMPTY
    ∷ fails 1 (call.Rmdir (codes "/x/..")) errno.ENOTEMPTY
    ∷ fails 1 (call.Rmdir (codes "/x")) errno.ENOENT
    ∷ fails 1 (call.Rmdir (codes "/x/")) errno.ENOENT
    ∷ fails 1 (call.Rmdir (codes "/x/y")) errno.ENOENT
    ∷ fails 1 (call.Rmdir (codes "/f/y")) errno.ENOTDIR
    ∷ fails 1 (call.Rmdir (codes "/aaaaaaaaaaaaaaaaaaaaaaaaaaaa")) errno.ENAMETOOLONG
    ∷ fails 1 (call.Rmdir (codes "/")) errno.EBUSY
    ∷ fails 1 (call.Rmdir (codes "//")) errno.EBUSY
    ∷ fails 1 (call.Rmdir (codes "/f")) errno.ENOTDIR
    ∷ fails 1 (call.Rmdir (codes "/f/")) errno.ENOTDIR
    ∷ fails 1 (call.Rmdir (codes "/a")) errno.ENOTEMPTY
    ∷ gets 1 (call.OpenFile (codes "/a/b") (pos 0)) (reply.Val (pos 1))
    ∷ fails 1 (call.Rmdir (codes "/a/b")) errno.EBUSY
    ∷ gets 1 (call.Dup (pos 1)) (reply.Val (pos 2))
    ∷ gets 1 (call.Close (pos 1)) (reply.Val (pos 0))
    ∷ fails 1 (call.Rmdir (codes "/a/b")) errno.EBUSY
    ∷ gets 1 (call.Close (pos 2)) (reply.Val (pos 0))
    ∷ gets 1 (call.Chdir (codes "/a/b")) (reply.Val (pos 0))
    ∷ fails 1 (call.Rmdir (codes "/a/b")) errno.EBUSY
    ∷ fails 1 (call.Rmdir (codes "../b")) errno.EBUSY
    ∷ gets 1 (call.Chdir (codes "..")) (reply.Val (pos 0))
    ∷ gets 1 (call.Rmdir (codes "b/")) (reply.Val (pos 0))
    ∷ gets 1 (call.Stat (codes ".")) (reply.Stat (info node.Dir 2 1 64))
    ∷ fails 1 (call.Rmdir (codes "/a")) errno.EBUSY
    ∷ gets 1 (call.Chdir (codes "/")) (reply.Val (pos 0))
    ∷ gets 1 (call.Rmdir (codes "a")) (reply.Val (pos 0))
    ∷ gets 1 (call.Stat (codes "/")) (reply.Stat (info node.Dir 1 1 96))
    ∷ fails 1 (call.Stat (codes "a")) errno.ENOENT
    ∷ ends 1 (call.Exit (pos 0)) 0
    ∷ []

-- the heap that is taken after each of these, and how many nodes have to be cached
abbrev pub removed_directories_take : List ℕ
removed_directories_take = 512 ∷ 512 ∷ 576 ∷ 576 ∷ 576 ∷ 576 ∷ 576 ∷ 576 ∷ 576 ∷ 576 ∷ 576 ∷ 576 ∷ 576 ∷ 576 ∷ 576 ∷ 576 ∷ 576 ∷ 576 ∷ 576 ∷ 640 ∷ 640 ∷ 640 ∷ 640 ∷ 640 ∷ 576 ∷ 576 ∷ 576 ∷ 576 ∷ 576 ∷ 576 ∷ 576 ∷ 576 ∷ 576 ∷ 576 ∷ 576 ∷ 576 ∷ 0 ∷ []

abbrev pub removed_directories_pin : List ℕ
removed_directories_pin = 1 ∷ 1 ∷ 2 ∷ 2 ∷ 2 ∷ 2 ∷ 2 ∷ 2 ∷ 2 ∷ 2 ∷ 2 ∷ 2 ∷ 2 ∷ 2 ∷ 2 ∷ 2 ∷ 2 ∷ 2 ∷ 2 ∷ 3 ∷ 3 ∷ 3 ∷ 3 ∷ 3 ∷ 2 ∷ 3 ∷ 3 ∷ 3 ∷ 3 ∷ 3 ∷ 3 ∷ 3 ∷ 2 ∷ 2 ∷ 2 ∷ 2 ∷ 1 ∷ []

-- Each answer of `unlink`.
abbrev pub removed_names : List Line
removed_names =
    gets 1 (call.Mkdir (codes "/d")) (reply.Val (pos 0))
    ∷ gets 1 (call.OpenFile (codes "/f") (pos 66)) (reply.Val (pos 0))
    ∷ gets 1 (call.Close (pos 0)) (reply.Val (pos 0))
    ∷ fails 1 (call.Unlink []) errno.ENOENT
    ∷ fails 1 (call.Unlink (codes "/")) errno.EPERM
    ∷ fails 1 (call.Unlink (codes ".")) errno.EPERM
    ∷ fails 1 (call.Unlink (codes "/d")) errno.EPERM
    ∷ fails 1 (call.Unlink (codes "/d/")) errno.EPERM
    ∷ fails 1 (call.Unlink (codes "/d/..")) errno.EPERM
    ∷ fails 1 (call.Unlink (codes "/x")) errno.ENOENT
    ∷ fails 1 (call.Unlink (codes "/x/")) errno.ENOENT
    ∷ fails 1 (call.Unlink (codes "/x/y")) errno.ENOENT
    ∷ fails 1 (call.Unlink (codes "/f/y")) errno.ENOTDIR
    ∷ fails 1 (call.Unlink (codes "/f/")) errno.ENOTDIR
    ∷ fails 1 (call.Unlink (codes "/aaaaaaaaaaaaaaaaaaaaaaaaaaaa")) errno.ENAMETOOLONG
    ∷ gets 1 (call.Stat (codes "/f")) (reply.Stat (info node.File 3 1 0))
    ∷ gets 1 (call.Unlink (codes "/f")) (reply.Val (pos 0))
    ∷ fails 1 (call.Stat (codes "/f")) errno.ENOENT
    ∷ fails 1 (call.Unlink (codes "/f")) errno.ENOENT
    ∷ gets 1 (call.OpenFile (codes "/g") (pos 66)) (reply.Val (pos 0))
    ∷ gets 1 (call.Fstat (pos 0)) (reply.Stat (info node.File 3 1 0))
    ∷ ends 1 (call.Exit (pos 0)) 0
    ∷ []

-- the heap that is taken after each of these, and how many nodes have to be cached
abbrev pub removed_names_take : List ℕ
removed_names_take = 512 ∷ 576 ∷ 512 ∷ 512 ∷ 512 ∷ 512 ∷ 512 ∷ 512 ∷ 512 ∷ 512 ∷ 512 ∷ 512 ∷ 512 ∷ 512 ∷ 512 ∷ 512 ∷ 512 ∷ 512 ∷ 512 ∷ 576 ∷ 576 ∷ 0 ∷ []

abbrev pub removed_names_pin : List ℕ
removed_names_pin = 1 ∷ 2 ∷ 1 ∷ 1 ∷ 1 ∷ 1 ∷ 1 ∷ 1 ∷ 1 ∷ 1 ∷ 1 ∷ 1 ∷ 1 ∷ 1 ∷ 1 ∷ 1 ∷ 1 ∷ 1 ∷ 1 ∷ 2 ∷ 2 ∷ 1 ∷ []

-- Each answer of `mkdir`.
abbrev pub made_directories : List Line
made_directories =
    gets 1 (call.OpenFile (codes "/f") (pos 66)) (reply.Val (pos 0))
    ∷ fails 1 (call.Mkdir []) errno.ENOENT
    ∷ fails 1 (call.Mkdir (codes "/")) errno.EEXIST
    ∷ fails 1 (call.Mkdir (codes ".")) errno.EEXIST
    ∷ fails 1 (call.Mkdir (codes "..")) errno.EEXIST
    ∷ fails 1 (call.Mkdir (codes "/f")) errno.EEXIST
    ∷ fails 1 (call.Mkdir (codes "/f/")) errno.ENOTDIR
    ∷ fails 1 (call.Mkdir (codes "/f/x")) errno.ENOTDIR
    ∷ fails 1 (call.Mkdir (codes "/x/y")) errno.ENOENT
    ∷ fails 1 (call.Mkdir (codes "/x/.")) errno.ENOENT
    ∷ fails 1 (call.Mkdir (codes "/x/..")) errno.ENOENT
    ∷ fails 1 (call.Mkdir (codes "/aaaaaaaaaaaaaaaaaaaaaaaaaaaa")) errno.ENAMETOOLONG
    ∷ gets 1 (call.Mkdir (codes "/a")) (reply.Val (pos 0))
    ∷ fails 1 (call.Mkdir (codes "/a")) errno.EEXIST
    ∷ fails 1 (call.Mkdir (codes "/a/")) errno.EEXIST
    ∷ fails 1 (call.Mkdir (codes "/a/.")) errno.EEXIST
    ∷ gets 1 (call.Mkdir (codes "/b//")) (reply.Val (pos 0))
    ∷ gets 1 (call.Mkdir (codes "/a/c")) (reply.Val (pos 0))
    ∷ gets 1 (call.Stat (codes "/a")) (reply.Stat (info node.Dir 3 1 96))
    ∷ gets 1 (call.Stat (codes "/b")) (reply.Stat (info node.Dir 4 1 64))
    ∷ gets 1 (call.Stat (codes "/a/c")) (reply.Stat (info node.Dir 5 1 64))
    ∷ gets 1 (call.Rmdir (codes "/b")) (reply.Val (pos 0))
    ∷ gets 1 (call.Mkdir (codes "/a/c/d")) (reply.Val (pos 0))
    ∷ gets 1 (call.Stat (codes "/a/c/d")) (reply.Stat (info node.Dir 4 1 64))
    ∷ gets 1 (call.Stat (codes "/")) (reply.Stat (info node.Dir 1 1 128))
    ∷ ends 1 (call.Exit (pos 0)) 0
    ∷ []

-- the heap that is taken after each of these, and how many nodes have to be cached
abbrev pub made_directories_take : List ℕ
made_directories_take = 576 ∷ 576 ∷ 576 ∷ 576 ∷ 576 ∷ 576 ∷ 576 ∷ 576 ∷ 576 ∷ 576 ∷ 576 ∷ 576 ∷ 576 ∷ 576 ∷ 576 ∷ 576 ∷ 576 ∷ 576 ∷ 576 ∷ 576 ∷ 576 ∷ 576 ∷ 576 ∷ 576 ∷ 576 ∷ 0 ∷ []

abbrev pub made_directories_pin : List ℕ
made_directories_pin = 2 ∷ 2 ∷ 2 ∷ 2 ∷ 2 ∷ 2 ∷ 2 ∷ 2 ∷ 2 ∷ 2 ∷ 2 ∷ 2 ∷ 2 ∷ 2 ∷ 2 ∷ 2 ∷ 2 ∷ 2 ∷ 2 ∷ 2 ∷ 2 ∷ 2 ∷ 2 ∷ 2 ∷ 2 ∷ 1 ∷ []

-- The answers of `rename`, each where an earlier one does not hold.
abbrev pub renamed_in_order : List Line
renamed_in_order =
    gets 1 (call.Mkdir (codes "/a")) (reply.Val (pos 0))
    ∷ gets 1 (call.Mkdir (codes "/a/b")) (reply.Val (pos 0))
    ∷ gets 1 (call.Mkdir (codes "/a/b/c")) (reply.Val (pos 0))
    ∷ gets 1 (call.Mkdir (codes "/e")) (reply.Val (pos 0))
    ∷ gets 1 (call.OpenFile (codes "/f") (pos 66)) (reply.Val (pos 0))
    ∷ gets 1 (call.OpenFile (codes "/g") (pos 66)) (reply.Val (pos 1))
    ∷ gets 1 (call.Link (codes "/f") (codes "/f2")) (reply.Val (pos 0))
    ∷ fails 1 (call.Rename [] (codes "/x/.")) errno.ENOENT
    ∷ fails 1 (call.Rename (codes "/x") []) errno.ENOENT
    ∷ fails 1 (call.Rename (codes "/a/.") (codes "/y")) errno.EINVAL
    ∷ fails 1 (call.Rename (codes "/x/..") (codes "/y")) errno.EINVAL
    ∷ fails 1 (call.Rename (codes "/f") (codes "/y/..")) errno.EINVAL
    ∷ fails 1 (call.Rename (codes "/f") (codes ".")) errno.EINVAL
    ∷ fails 1 (call.Rename (codes "/aaaaaaaaaaaaaaaaaaaaaaaaaaaa") (codes ".")) errno.ENAMETOOLONG
    ∷ fails 1 (call.Rename (codes "/x") (codes "/")) errno.ENOENT
    ∷ fails 1 (call.Rename (codes "/x/y") (codes "/f/y")) errno.ENOENT
    ∷ fails 1 (call.Rename (codes "/f/y") (codes "/x/y")) errno.ENOTDIR
    ∷ fails 1 (call.Rename (codes "/f/") (codes "/x/y")) errno.ENOTDIR
    ∷ fails 1 (call.Rename (codes "/") (codes "/x/y")) errno.ENOENT
    ∷ fails 1 (call.Rename (codes "/a") (codes "/f/y")) errno.ENOTDIR
    ∷ fails 1 (call.Rename (codes "/a") (codes "/f/")) errno.ENOTDIR
    ∷ fails 1 (call.Rename (codes "/") (codes "/x")) errno.EBUSY
    ∷ fails 1 (call.Rename (codes "/a") (codes "/")) errno.EBUSY
    ∷ fails 1 (call.Rename (codes "/") (codes "/")) errno.EBUSY
    ∷ fails 1 (call.Rename (codes "/a") (codes "/a/x")) errno.EINVAL
    ∷ fails 1 (call.Rename (codes "/a") (codes "/a/b")) errno.EINVAL
    ∷ fails 1 (call.Rename (codes "/a") (codes "/a/b/c/x")) errno.EINVAL
    ∷ fails 1 (call.Rename (codes "/a") (codes "/a/b/c/x/")) errno.EINVAL
    ∷ gets 1 (call.Rename (codes "/a") (codes "/a")) (reply.Val (pos 0))
    ∷ gets 1 (call.Rename (codes "/a/b") (codes "/a/b/")) (reply.Val (pos 0))
    ∷ gets 1 (call.Rename (codes "/f") (codes "/f2")) (reply.Val (pos 0))
    ∷ gets 1 (call.Stat (codes "/f")) (reply.Stat (info node.File 6 2 0))
    ∷ gets 1 (call.Rename (codes "/f") (codes "/f")) (reply.Val (pos 0))
    ∷ fails 1 (call.Rename (codes "/f") (codes "/a")) errno.EISDIR
    ∷ fails 1 (call.Rename (codes "/f") (codes "/e/")) errno.EISDIR
    ∷ fails 1 (call.Rename (codes "/a") (codes "/f")) errno.ENOTDIR
    ∷ fails 1 (call.Rename (codes "/e") (codes "/a")) errno.ENOTEMPTY
    ∷ fails 1 (call.Rename (codes "/a/b/c") (codes "/a")) errno.ENOTEMPTY
    ∷ gets 1 (call.OpenFile (codes "/e") (pos 0)) (reply.Val (pos 2))
    ∷ fails 1 (call.Rename (codes "/a/b/c") (codes "/e")) errno.EBUSY
    ∷ []

-- the heap that is taken after each of these, and how many nodes have to be cached
abbrev pub renamed_in_order_take : List ℕ
renamed_in_order_take = 512 ∷ 512 ∷ 512 ∷ 512 ∷ 576 ∷ 640 ∷ 640 ∷ 640 ∷ 640 ∷ 640 ∷ 640 ∷ 640 ∷ 640 ∷ 640 ∷ 640 ∷ 640 ∷ 640 ∷ 640 ∷ 640 ∷ 640 ∷ 640 ∷ 640 ∷ 640 ∷ 640 ∷ 640 ∷ 640 ∷ 640 ∷ 640 ∷ 640 ∷ 640 ∷ 640 ∷ 640 ∷ 640 ∷ 640 ∷ 640 ∷ 640 ∷ 640 ∷ 640 ∷ 704 ∷ 704 ∷ []

abbrev pub renamed_in_order_pin : List ℕ
renamed_in_order_pin = 1 ∷ 1 ∷ 1 ∷ 1 ∷ 2 ∷ 3 ∷ 3 ∷ 3 ∷ 3 ∷ 3 ∷ 3 ∷ 3 ∷ 3 ∷ 3 ∷ 3 ∷ 3 ∷ 3 ∷ 3 ∷ 3 ∷ 3 ∷ 3 ∷ 3 ∷ 3 ∷ 3 ∷ 3 ∷ 3 ∷ 3 ∷ 3 ∷ 3 ∷ 3 ∷ 3 ∷ 3 ∷ 3 ∷ 3 ∷ 3 ∷ 3 ∷ 3 ∷ 3 ∷ 4 ∷ 4 ∷ []
