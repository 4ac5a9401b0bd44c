-- Traces of record locks: two clerks and one ledger, a circle of three, and what is told of locks by one who holds none.
use Rattle.std.specs.Prelude.{ℕ, ℤ, pos, negsuc, List, [], ◌∷◌, map, codes, None, Some}
use Rattle.kabi_types.specs.declared.calls.Call.TheVariants as call
use Rattle.kabi_types.specs.declared.calls.CallKind.{CallKind}
use Rattle.kabi_types.specs.declared.calls.CallKind.TheVariants as kind
use Rattle.kabi_types.specs.declared.errnos.Errno.TheVariants as errno
use Rattle.kabi_types.specs.declared.replies.Reply.TheVariants as reply
use Rattle.kabi_types.specs.declared.scripts.Operand.TheVariants.{Reg, Number}
use Rattle.kabi_types.specs.declared.scripts.Script.{Script}
use Rattle.kabi_types.specs.declared.scripts.Statement.{Statement}
use Rattle.kabi_types.specs.declared.scripts.Statement.TheVariants as statement
use Rattle.kabi_types.specs.declared.scripts.Test.TheVariants.{Eq}
use Rattle.machine_traces.specs.Trace.{Line, gets, fails, sleeps, ends, script_of}

-- ---- programs: who waits for whom goes by the calls that come next

-- a call of numbers alone, whose values go nowhere
abbrev pub calls : CallKind → List ℤ → Statement
calls which numbers = statement.Invoke which (map Number numbers) [] None None

-- a fork that tells a register, and the child's way on
abbrev pub forks_to : ℕ → ℕ → List Statement → List Statement
forks_to register place rest =
    statement.Invoke kind.Fork [] [] (Some register) None ∷ statement.If (Reg register) Eq (Number (pos 0)) place ∷ rest

-- the file of all, open for reading and writing
abbrev pub opens_it : Statement
opens_it = statement.Invoke kind.OpenFile (Number (pos 66) ∷ []) (codes "/f" ∷ []) None None

-- a script with one program
abbrev pub script_with : List Statement → Script
script_with body = record (script_of 64 []) { programs = record { name = codes "init"; body = body } ∷ [] }

-- ---- two clerks and one ledger

-- what the first clerk does, and behind the jump the second, who is its child
abbrev pub clerks_apart : List Statement
clerks_apart =
    calls kind.Read (pos 1 ∷ pos 4096 ∷ pos 1 ∷ [])
    ∷ calls kind.Getlk (pos 0 ∷ pos 0 ∷ pos 0 ∷ pos 0 ∷ [])
    ∷ calls kind.Setlkw (pos 0 ∷ pos 1 ∷ pos 25 ∷ pos 1 ∷ [])
    ∷ calls kind.Setlk (pos 0 ∷ pos 1 ∷ pos 29 ∷ pos 1 ∷ [])
    ∷ calls kind.Setlk (pos 0 ∷ pos 2 ∷ pos 4 ∷ pos 2 ∷ [])
    ∷ calls kind.Waitpid (pos 2 ∷ pos 0 ∷ [])
    ∷ statement.Jump 17
    ∷ calls kind.Setlk (pos 0 ∷ pos 1 ∷ pos 20 ∷ pos 10 ∷ [])
    ∷ calls kind.Write (pos 2 ∷ pos 4096 ∷ pos 1 ∷ [])
    ∷ calls kind.Setlkw (pos 0 ∷ pos 1 ∷ pos 4 ∷ pos 2 ∷ [])
    ∷ calls kind.Close (pos 0 ∷ [])
    ∷ []

abbrev pub two_clerks : List Statement
two_clerks =
    calls kind.Mmap (pos 4096 ∷ [])
    ∷ opens_it
    ∷ calls kind.Setlk (pos 0 ∷ pos 1 ∷ pos 0 ∷ pos 10 ∷ [])
    ∷ calls kind.Pipe []
    ∷ forks_to 0 13 clerks_apart

-- Each holds what the other waits for, so the second to wait is refused; it lets some of the middle go, and the other goes on. To close the
-- file lets all of it go.
abbrev pub clerks_in_a_circle : List Line
clerks_in_a_circle =
    gets 1 (call.Mmap (pos 4096)) (reply.Val (pos 4096))
    ∷ gets 1 (call.OpenFile (codes "/f") (pos 66)) (reply.Val (pos 0))
    ∷ gets 1 (call.Setlk (pos 0) (pos 1) (pos 0) (pos 10)) (reply.Val (pos 0))
    ∷ gets 1 call.Pipe (reply.Pair 1 2)
    ∷ gets 1 call.Fork (reply.Val (pos 2))
    ∷ sleeps 1 (call.Read (pos 1) (pos 4096) (pos 1))
    ∷ gets 2 (call.Setlk (pos 0) (pos 1) (pos 20) (pos 10)) (reply.Val (pos 0))
    ∷ gets 2 (call.Write (pos 2) (pos 4096) (pos 1) 0) (reply.Val (pos 1))
    ∷ sleeps 2 (call.Setlkw (pos 0) (pos 1) (pos 4) (pos 2))
    ∷ gets 1 (call.Read (pos 1) (pos 4096) (pos 1)) (reply.Val (pos 1))
    ∷ gets 1 (call.Getlk (pos 0) (pos 0) (pos 0) (pos 0)) (reply.Pair 2 1)
    ∷ fails 1 (call.Setlkw (pos 0) (pos 1) (pos 25) (pos 1)) errno.EDEADLK
    ∷ fails 1 (call.Setlk (pos 0) (pos 1) (pos 29) (pos 1)) errno.EAGAIN
    ∷ gets 1 (call.Setlk (pos 0) (pos 2) (pos 4) (pos 2)) (reply.Val (pos 0))
    ∷ gets 2 (call.Setlkw (pos 0) (pos 1) (pos 4) (pos 2)) (reply.Val (pos 0))
    ∷ gets 2 (call.Close (pos 0)) (reply.Val (pos 0))
    ∷ ends 2 (call.Exit (pos 0)) 0
    ∷ gets 1 (call.Waitpid (pos 2) (pos 0)) (reply.Waited 2 0)
    ∷ ends 1 (call.Exit (pos 0)) 0
    ∷ []

-- the heap that is taken after each of these, and how many nodes have to be cached
abbrev pub clerks_in_a_circle_take : List ℕ
clerks_in_a_circle_take = 1024 ∷ 1088 ∷ 1152 ∷ 1408 ∷ 2432 ∷ 2432 ∷ 2496 ∷ 3072 ∷ 3072 ∷ 6592 ∷ 6592 ∷ 6592 ∷ 6592 ∷ 6656 ∷ 6720 ∷ 6592 ∷ 6080 ∷ 5568 ∷ 0 ∷ []

abbrev pub clerks_in_a_circle_pin : List ℕ
clerks_in_a_circle_pin = 1 ∷ 2 ∷ 2 ∷ 2 ∷ 2 ∷ 2 ∷ 2 ∷ 2 ∷ 2 ∷ 2 ∷ 2 ∷ 2 ∷ 2 ∷ 2 ∷ 2 ∷ 2 ∷ 2 ∷ 2 ∷ 1 ∷ []

-- ---- a circle of three

-- each holds a place, and wants that of the next: the parent, and behind each jump a child
abbrev pub three_apart : List Statement
three_apart =
    calls kind.Setlk (pos 0 ∷ pos 1 ∷ pos 0 ∷ pos 1 ∷ [])
    ∷ calls kind.Setlkw (pos 0 ∷ pos 1 ∷ pos 1 ∷ pos 1 ∷ [])
    ∷ calls kind.Close (pos 0 ∷ [])
    ∷ statement.Jump 14
    ∷ calls kind.Setlk (pos 0 ∷ pos 1 ∷ pos 1 ∷ pos 1 ∷ [])
    ∷ calls kind.Setlkw (pos 0 ∷ pos 1 ∷ pos 2 ∷ pos 1 ∷ [])
    ∷ statement.Jump 14
    ∷ calls kind.Setlk (pos 0 ∷ pos 1 ∷ pos 2 ∷ pos 1 ∷ [])
    ∷ calls kind.Setlkw (pos 0 ∷ pos 1 ∷ pos 0 ∷ pos 1 ∷ [])
    ∷ []

abbrev pub three_in_turn : List Statement
three_in_turn = opens_it ∷ forks_to 0 9 (forks_to 1 12 three_apart)

-- Who would close the circle is refused; once it has ended the others go on, and what touches is one range.
abbrev pub three_in_a_circle : List Line
three_in_a_circle =
    gets 1 (call.OpenFile (codes "/f") (pos 66)) (reply.Val (pos 0))
    ∷ gets 1 call.Fork (reply.Val (pos 2))
    ∷ gets 1 call.Fork (reply.Val (pos 3))
    ∷ gets 1 (call.Setlk (pos 0) (pos 1) (pos 0) (pos 1)) (reply.Val (pos 0))
    ∷ gets 2 (call.Setlk (pos 0) (pos 1) (pos 1) (pos 1)) (reply.Val (pos 0))
    ∷ sleeps 1 (call.Setlkw (pos 0) (pos 1) (pos 1) (pos 1))
    ∷ gets 3 (call.Setlk (pos 0) (pos 1) (pos 2) (pos 1)) (reply.Val (pos 0))
    ∷ fails 3 (call.Setlkw (pos 0) (pos 1) (pos 0) (pos 1)) errno.EDEADLK
    ∷ sleeps 2 (call.Setlkw (pos 0) (pos 1) (pos 2) (pos 1))
    ∷ ends 3 (call.Exit (pos 0)) 0
    ∷ gets 2 (call.Setlkw (pos 0) (pos 1) (pos 2) (pos 1)) (reply.Val (pos 0))
    ∷ ends 2 (call.Exit (pos 0)) 0
    ∷ gets 1 (call.Setlkw (pos 0) (pos 1) (pos 1) (pos 1)) (reply.Val (pos 0))
    ∷ gets 1 (call.Close (pos 0)) (reply.Val (pos 0))
    ∷ ends 1 (call.Exit (pos 0)) 0
    ∷ []

-- the heap that is taken after each of these, and how many nodes have to be cached
abbrev pub three_in_a_circle_take : List ℕ
three_in_a_circle_take = 576 ∷ 1088 ∷ 1600 ∷ 1664 ∷ 1728 ∷ 1728 ∷ 1792 ∷ 1792 ∷ 1792 ∷ 1728 ∷ 1728 ∷ 1664 ∷ 1664 ∷ 1536 ∷ 0 ∷ []

abbrev pub three_in_a_circle_pin : List ℕ
three_in_a_circle_pin = 2 ∷ 2 ∷ 2 ∷ 2 ∷ 2 ∷ 2 ∷ 2 ∷ 2 ∷ 2 ∷ 2 ∷ 2 ∷ 2 ∷ 2 ∷ 1 ∷ 1 ∷ []

-- ---- what goes with a descriptor, and what is refused

-- Reading is held by several at once, writing by one; to close any descriptor of a file lets its places go. What is no regular file, isn't
-- open for that, or has no such places is refused.
abbrev pub locks_that_go : List Line
locks_that_go =
    gets 1 (call.OpenFile (codes "/f") (pos 66)) (reply.Val (pos 0))
    ∷ gets 1 (call.OpenFile (codes "/f") (pos 66)) (reply.Val (pos 1))
    ∷ gets 1 (call.Setlk (pos 0) (pos 0) (pos 0) (pos 10)) (reply.Val (pos 0))
    ∷ gets 1 (call.Setlk (pos 1) (pos 1) (pos 5) (pos 2)) (reply.Val (pos 0))
    ∷ gets 1 call.Fork (reply.Val (pos 2))
    ∷ fails 2 (call.Setlk (pos 0) (pos 0) (pos 0) (pos 6)) errno.EAGAIN
    ∷ gets 2 (call.Getlk (pos 0) (pos 0) (pos 0) (pos 0)) (reply.Pair 1 1)
    ∷ gets 2 (call.Getlk (pos 0) (pos 1) (pos 0) (pos 0)) (reply.Pair 1 0)
    ∷ gets 2 (call.Setlk (pos 0) (pos 0) (pos 0) (pos 5)) (reply.Val (pos 0))
    ∷ gets 2 (call.Getlk (pos 0) (pos 1) (pos 20) (pos 0)) (reply.Pair 0 2)
    ∷ sleeps 2 (call.Setlkw (pos 0) (pos 1) (pos 6) (pos 1))
    ∷ gets 1 (call.Close (pos 1)) (reply.Val (pos 0))
    ∷ gets 2 (call.Setlkw (pos 0) (pos 1) (pos 6) (pos 1)) (reply.Val (pos 0))
    ∷ fails 1 (call.Setlk (pos 0) (pos 3) (pos 0) (pos 1)) errno.EINVAL
    ∷ fails 1 (call.Setlk (pos 0) (pos 1) (negsuc 0) (pos 1)) errno.EINVAL
    ∷ fails 1 (call.Setlkw (pos 0) (pos 1) (pos 9223372036854775807) (pos 2)) errno.EOVERFLOW
    ∷ fails 1 (call.Setlk (pos 9) (pos 1) (pos 0) (pos 1)) errno.EBADF
    ∷ fails 1 (call.Getlk (pos 0) (pos 2) (pos 0) (pos 1)) errno.EINVAL
    ∷ gets 1 (call.OpenFile (codes "/") (pos 0)) (reply.Val (pos 1))
    ∷ fails 1 (call.Setlk (pos 1) (pos 0) (pos 0) (pos 1)) errno.EINVAL
    ∷ gets 1 (call.OpenFile (codes "/f") (pos 0)) (reply.Val (pos 2))
    ∷ fails 1 (call.Setlkw (pos 2) (pos 1) (pos 0) (pos 1)) errno.EBADF
    ∷ gets 1 (call.Setlk (pos 2) (pos 2) (pos 0) (pos 0)) (reply.Val (pos 0))
    ∷ gets 1 (call.Setlk (pos 0) (pos 1) (pos 9223372036854775807) (pos 1)) (reply.Val (pos 0))
    ∷ gets 1 (call.Setlk (pos 0) (pos 1) (pos 100) (pos 0)) (reply.Val (pos 0))
    ∷ ends 1 (call.Exit (pos 0)) 0
    ∷ []

-- the heap that is taken after each of these, and how many nodes have to be cached
abbrev pub locks_that_go_take : List ℕ
locks_that_go_take = 576 ∷ 640 ∷ 704 ∷ 832 ∷ 1344 ∷ 1344 ∷ 1344 ∷ 1344 ∷ 1408 ∷ 1408 ∷ 1408 ∷ 1216 ∷ 1280 ∷ 1280 ∷ 1280 ∷ 1280 ∷ 1280 ∷ 1280 ∷ 1344 ∷ 1344 ∷ 1408 ∷ 1408 ∷ 1408 ∷ 1472 ∷ 1472 ∷ 0 ∷ []

abbrev pub locks_that_go_pin : List ℕ
locks_that_go_pin = 2 ∷ 2 ∷ 2 ∷ 2 ∷ 2 ∷ 2 ∷ 2 ∷ 2 ∷ 2 ∷ 2 ∷ 2 ∷ 2 ∷ 2 ∷ 2 ∷ 2 ∷ 2 ∷ 2 ∷ 2 ∷ 2 ∷ 2 ∷ 2 ∷ 2 ∷ 2 ∷ 2 ∷ 2 ∷ 1 ∷ []
