-- What kind a call is of.
use Rattle.std.specs.Prelude.{List, [], ◌∷◌}
use Rattle.kabi_types.specs.declared.calls.Call.{Call}
use Rattle.kabi_types.specs.declared.calls.Call.TheVariants as call
use Rattle.kabi_types.specs.declared.calls.CallKind.{CallKind}
use Rattle.kabi_types.specs.declared.calls.CallKind.TheVariants as kind

-- the call without its operands
abbrev pub kind_of : Call → CallKind
kind_of call.Getpid = kind.Getpid
kind_of call.Getppid = kind.Getppid
kind_of call.SchedYield = kind.SchedYield
kind_of call.Fork = kind.Fork
kind_of (call.Exec _) = kind.Exec
kind_of (call.Exit _) = kind.Exit
kind_of (call.Waitpid _ _) = kind.Waitpid
kind_of (call.Kill _ _) = kind.Kill
kind_of (call.Mmap _) = kind.Mmap
kind_of (call.Munmap _ _) = kind.Munmap
kind_of (call.Store _ _) = kind.Store
kind_of (call.Load _ _) = kind.Load
kind_of (call.OpenFile _ _) = kind.OpenFile
kind_of (call.Close _) = kind.Close
kind_of (call.Dup _) = kind.Dup
kind_of (call.Dup2 _ _) = kind.Dup2
kind_of (call.Fcntl _ _ _) = kind.Fcntl
kind_of (call.Read _ _ _) = kind.Read
kind_of (call.Write _ _ _ _) = kind.Write
kind_of (call.Pread _ _ _ _) = kind.Pread
kind_of (call.Pwrite _ _ _ _) = kind.Pwrite
kind_of (call.Lseek _ _ _) = kind.Lseek
kind_of (call.Readdir _ _ _) = kind.Readdir
kind_of (call.Ftruncate _ _) = kind.Ftruncate
kind_of (call.Fstat _) = kind.Fstat
kind_of (call.Stat _) = kind.Stat
kind_of (call.Chdir _) = kind.Chdir
kind_of (call.Mkdir _) = kind.Mkdir
kind_of (call.Rmdir _) = kind.Rmdir
kind_of (call.Unlink _) = kind.Unlink
kind_of (call.Link _ _) = kind.Link
kind_of (call.Rename _ _) = kind.Rename
kind_of call.Pipe = kind.Pipe
kind_of call.Socket = kind.Socket
kind_of call.Socketpair = kind.Socketpair
kind_of (call.Bind _ _) = kind.Bind
kind_of (call.Listen _) = kind.Listen
kind_of (call.Connect _ _) = kind.Connect
kind_of (call.Accept _) = kind.Accept
kind_of (call.Shutdown _ _) = kind.Shutdown
kind_of (call.Poll _ _) = kind.Poll
kind_of (call.Signal _ _) = kind.Signal
kind_of (call.Mkfifo _) = kind.Mkfifo
kind_of (call.Setlk _ _ _ _) = kind.Setlk
kind_of (call.Setlkw _ _ _ _) = kind.Setlkw
kind_of (call.Getlk _ _ _ _) = kind.Getlk

-- every call, in the order of `Call`
abbrev pub all_kinds : List CallKind
all_kinds =
    kind.Getpid ∷ kind.Getppid ∷ kind.SchedYield ∷ kind.Fork ∷ kind.Exec ∷ kind.Exit ∷ kind.Waitpid ∷ kind.Kill
    ∷ kind.Mmap ∷ kind.Munmap ∷ kind.Store ∷ kind.Load ∷ kind.OpenFile ∷ kind.Close ∷ kind.Dup ∷ kind.Dup2
    ∷ kind.Fcntl ∷ kind.Read ∷ kind.Write ∷ kind.Pread ∷ kind.Pwrite ∷ kind.Lseek ∷ kind.Readdir ∷ kind.Ftruncate
    ∷ kind.Fstat ∷ kind.Stat ∷ kind.Chdir ∷ kind.Mkdir ∷ kind.Rmdir ∷ kind.Unlink ∷ kind.Link ∷ kind.Rename
    ∷ kind.Pipe ∷ kind.Socket ∷ kind.Socketpair ∷ kind.Bind ∷ kind.Listen ∷ kind.Connect ∷ kind.Accept ∷ kind.Shutdown
    ∷ kind.Poll ∷ kind.Signal ∷ kind.Mkfifo ∷ kind.Setlk ∷ kind.Setlkw ∷ kind.Getlk ∷ []
