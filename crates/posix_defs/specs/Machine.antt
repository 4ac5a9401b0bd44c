-- The machine of POSIX.1-2017: what one call of a live process is answered, the argument check first. No heap and no cache
-- occur in it.
use Rattle.std.specs.Prelude.{ℕ, pos, Bool, true, false, Option, None, Some}
use Rattle.kabi_types.specs.Arguments.{argument_fault}
use Rattle.kabi_types.specs.declared.calls.Call.{Call}
use Rattle.kabi_types.specs.declared.calls.Call.TheVariants as call
use Rattle.kabi_types.specs.declared.errnos.Errno.{Errno}
use Rattle.kabi_types.specs.declared.replies.Reply.TheVariants as reply
use Rattle.kabi_types.specs.declared.scripts.Script.{Script}
use Rattle.posix_defs.specs.Process.{parent_of}
use Rattle.posix_defs.specs.Plain.{Plain, call_of}
use Rattle.posix_defs.specs.Answer.{Answer, Blocked, Ended, failed, replied}
use Rattle.posix_defs.specs.Ending.{die, exit_status}
use Rattle.posix_defs.specs.Forking.{fork}
use Rattle.posix_defs.specs.Waiting.{waitpid}
use Rattle.posix_defs.specs.Killing.{kill}
use Rattle.posix_defs.specs.Signals.{signal}
use Rattle.posix_defs.specs.MemoryCalls.{mmap, munmap, store, load}
use Rattle.posix_defs.specs.Calls.OnDescriptors.{close, dup, dup2, fcntl}
use Rattle.posix_defs.specs.Calls.Reading.{read, pread, readdir}
use Rattle.posix_defs.specs.Calls.Writing.{write, pwrite}
use Rattle.posix_defs.specs.Calls.OnFiles.{open_file, lseek, ftruncate, fstat}
use Rattle.posix_defs.specs.Calls.OnNames.{stat, chdir, mkdir, mkfifo, rmdir, unlink, link, rename}
use Rattle.posix_defs.specs.Calls.Starting.{exec}
use Rattle.posix_defs.specs.Calls.OnPipes.{pipe}
use Rattle.posix_defs.specs.Calls.OnSockets.{socket, socketpair, bind, listen, connect, accept, shutdown}
use Rattle.posix_defs.specs.Calls.OnLocks.{setlk, setlkw, getlk}
use Rattle.posix_defs.specs.Calls.Polling.{poll}

-- what each call is answered where no operand is wrong
abbrev pub answer_to : Script → Plain → ℕ → Call → Answer
answer_to script plain pid call.Getpid = replied script plain pid (reply.Val (pos pid))
answer_to script plain pid call.Getppid = replied script plain pid (reply.Val (pos (parent_of plain.table pid)))
answer_to script plain pid call.SchedYield = replied script plain pid (reply.Val (pos 0))
answer_to script plain pid call.Fork = fork script plain pid
answer_to script plain pid (call.Exec path) = exec script plain pid path
answer_to script plain pid (call.Exit status) = Ended (exit_status status) (die plain pid (exit_status status))
answer_to script plain pid (call.Waitpid which options) = waitpid script plain pid which options
answer_to script plain pid (call.Kill target signal) = kill script plain pid target signal
answer_to script plain pid (call.Mmap length) = mmap script plain pid length
answer_to script plain pid (call.Munmap addr length) = munmap script plain pid addr length
answer_to script plain pid (call.Store addr bytes) = store script plain pid addr bytes
answer_to script plain pid (call.Load addr n) = load script plain pid addr n
answer_to script plain pid (call.OpenFile path flags) = open_file script plain pid path flags
answer_to script plain pid (call.Close fd) = close script plain pid fd
answer_to script plain pid (call.Dup fd) = dup script plain pid fd
answer_to script plain pid (call.Dup2 fd to) = dup2 script plain pid fd to
answer_to script plain pid (call.Fcntl fd cmd arg) = fcntl script plain pid fd cmd arg
answer_to script plain pid (call.Read fd addr n) = read script plain pid fd addr n
answer_to script plain pid (call.Write fd addr n done) = write script plain pid fd addr n done
answer_to script plain pid (call.Pread fd addr n at) = pread script plain pid fd addr n at
answer_to script plain pid (call.Pwrite fd addr n at) = pwrite script plain pid fd addr n at
answer_to script plain pid (call.Lseek fd offset whence) = lseek script plain pid fd offset whence
answer_to script plain pid (call.Readdir fd addr n) = readdir script plain pid fd addr n
answer_to script plain pid (call.Ftruncate fd length) = ftruncate script plain pid fd length
answer_to script plain pid (call.Fstat fd) = fstat script plain pid fd
answer_to script plain pid (call.Stat path) = stat script plain pid path
answer_to script plain pid (call.Chdir path) = chdir script plain pid path
answer_to script plain pid (call.Mkdir path) = mkdir script plain pid path
answer_to script plain pid (call.Rmdir path) = rmdir script plain pid path
answer_to script plain pid (call.Unlink path) = unlink script plain pid path
answer_to script plain pid (call.Link old new) = link script plain pid old new
answer_to script plain pid (call.Rename old new) = rename script plain pid old new
answer_to script plain pid call.Pipe = pipe script plain pid
answer_to script plain pid call.Socket = socket script plain pid
answer_to script plain pid call.Socketpair = socketpair script plain pid
answer_to script plain pid (call.Bind fd path) = bind script plain pid fd path
answer_to script plain pid (call.Listen fd) = listen script plain pid fd
answer_to script plain pid (call.Connect fd path) = connect script plain pid fd path
answer_to script plain pid (call.Accept fd) = accept script plain pid fd
answer_to script plain pid (call.Shutdown fd how) = shutdown script plain pid fd how
answer_to script plain pid (call.Poll timeout entries) = poll script plain pid timeout entries
answer_to script plain pid (call.Signal which disposition) = signal script plain pid which disposition
answer_to script plain pid (call.Mkfifo path) = mkfifo script plain pid path
answer_to script plain pid (call.Setlk fd kind start length) = setlk script plain pid fd kind start length
answer_to script plain pid (call.Setlkw fd kind start length) = setlkw script plain pid fd kind start length
answer_to script plain pid (call.Getlk fd kind start length) = getlk script plain pid fd kind start length

-- a wrong operand is told before anything else is looked at
abbrev pub unless_wrong : Script → Plain → ℕ → Option Errno → Answer → Answer
unless_wrong script plain pid None answer = answer
unless_wrong script plain pid (Some errno) answer = failed script plain pid errno

-- what a live process's call is answered
abbrev pub machine : Script → Plain → ℕ → Call → Answer
machine script plain pid call = unless_wrong script plain pid (argument_fault call) (answer_to script plain pid call)

-- the answer is that the call would block
abbrev pub blocks : Answer → Bool
blocks Blocked = true
blocks _ = false

-- the process's next call would block
abbrev pub would_block : Script → Plain → ℕ → Bool
would_block script plain pid = blocks (machine script plain pid (call_of script plain pid))
