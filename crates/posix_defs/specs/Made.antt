-- The call that a statement makes of its operands.
use Rattle.std.specs.Prelude.{ℕ, ◌+◌, ℤ, pos, List, [], ◌∷◌, drop, slice_index_or}
use Rattle.kabi_types.specs.declared.short_lists.PollEntry.{PollEntry}
use Rattle.kabi_types.specs.declared.calls.Call.{Call}
use Rattle.kabi_types.specs.declared.calls.Call.TheVariants as call
use Rattle.kabi_types.specs.declared.calls.CallKind.{CallKind}
use Rattle.kabi_types.specs.declared.calls.CallKind.TheVariants as kind

-- an operand that is a number
abbrev pub number_at : List ℤ → ℕ → ℤ
number_at numbers i = slice_index_or numbers i (pos 0)

-- an operand that is a text
abbrev pub text_at : List (List ℕ) → ℕ → List ℕ
text_at texts i = slice_index_or texts i []

-- numbers two by two, a descriptor and its events
abbrev pub pairs_of : List ℤ → List PollEntry
pairs_of [] = []
pairs_of (fd ∷ []) = []
pairs_of (fd ∷ events ∷ numbers) = record { fd = fd; events = events } ∷ pairs_of numbers

-- numbers and texts go to the call's fields in their order; a write goes on behind what it has done
abbrev pub made : CallKind → List ℤ → List (List ℕ) → ℕ → Call
made kind.Getpid numbers texts done = call.Getpid
made kind.Getppid numbers texts done = call.Getppid
made kind.SchedYield numbers texts done = call.SchedYield
made kind.Fork numbers texts done = call.Fork
made kind.Exec numbers texts done = call.Exec (text_at texts 0)
made kind.Exit numbers texts done = call.Exit (number_at numbers 0)
made kind.Waitpid numbers texts done = call.Waitpid (number_at numbers 0) (number_at numbers 1)
made kind.Kill numbers texts done = call.Kill (number_at numbers 0) (number_at numbers 1)
made kind.Mmap numbers texts done = call.Mmap (number_at numbers 0)
made kind.Munmap numbers texts done = call.Munmap (number_at numbers 0) (number_at numbers 1)
made kind.Store numbers texts done = call.Store (number_at numbers 0) (text_at texts 0)
made kind.Load numbers texts done = call.Load (number_at numbers 0) (number_at numbers 1)
made kind.OpenFile numbers texts done = call.OpenFile (text_at texts 0) (number_at numbers 0)
made kind.Close numbers texts done = call.Close (number_at numbers 0)
made kind.Dup numbers texts done = call.Dup (number_at numbers 0)
made kind.Dup2 numbers texts done = call.Dup2 (number_at numbers 0) (number_at numbers 1)
made kind.Fcntl numbers texts done = call.Fcntl (number_at numbers 0) (number_at numbers 1) (number_at numbers 2)
made kind.Read numbers texts done = call.Read (number_at numbers 0) (number_at numbers 1) (number_at numbers 2)
made kind.Write numbers texts done = call.Write (number_at numbers 0) (number_at numbers 1) (number_at numbers 2) done
made kind.Pread numbers texts done = call.Pread (number_at numbers 0) (number_at numbers 1) (number_at numbers 2) (number_at numbers 3)
made kind.Pwrite numbers texts done = call.Pwrite (number_at numbers 0) (number_at numbers 1) (number_at numbers 2) (number_at numbers 3)
made kind.Lseek numbers texts done = call.Lseek (number_at numbers 0) (number_at numbers 1) (number_at numbers 2)
made kind.Readdir numbers texts done = call.Readdir (number_at numbers 0) (number_at numbers 1) (number_at numbers 2)
made kind.Ftruncate numbers texts done = call.Ftruncate (number_at numbers 0) (number_at numbers 1)
made kind.Fstat numbers texts done = call.Fstat (number_at numbers 0)
made kind.Stat numbers texts done = call.Stat (text_at texts 0)
made kind.Chdir numbers texts done = call.Chdir (text_at texts 0)
made kind.Mkdir numbers texts done = call.Mkdir (text_at texts 0)
made kind.Rmdir numbers texts done = call.Rmdir (text_at texts 0)
made kind.Unlink numbers texts done = call.Unlink (text_at texts 0)
made kind.Link numbers texts done = call.Link (text_at texts 0) (text_at texts 1)
made kind.Rename numbers texts done = call.Rename (text_at texts 0) (text_at texts 1)
made kind.Pipe numbers texts done = call.Pipe
made kind.Socket numbers texts done = call.Socket
made kind.Socketpair numbers texts done = call.Socketpair
made kind.Bind numbers texts done = call.Bind (number_at numbers 0) (text_at texts 0)
made kind.Listen numbers texts done = call.Listen (number_at numbers 0)
made kind.Connect numbers texts done = call.Connect (number_at numbers 0) (text_at texts 0)
made kind.Accept numbers texts done = call.Accept (number_at numbers 0)
made kind.Shutdown numbers texts done = call.Shutdown (number_at numbers 0) (number_at numbers 1)
made kind.Poll numbers texts done = call.Poll (number_at numbers 0) (pairs_of (drop 1 numbers))
made kind.Signal numbers texts done = call.Signal (number_at numbers 0) (number_at numbers 1)
made kind.Mkfifo numbers texts done = call.Mkfifo (text_at texts 0)
made kind.Setlk numbers texts done = call.Setlk (number_at numbers 0) (number_at numbers 1) (number_at numbers 2) (number_at numbers 3)
made kind.Setlkw numbers texts done = call.Setlkw (number_at numbers 0) (number_at numbers 1) (number_at numbers 2) (number_at numbers 3)
made kind.Getlk numbers texts done = call.Getlk (number_at numbers 0) (number_at numbers 1) (number_at numbers 2) (number_at numbers 3)

-- the same call with so much more done of it; a write alone is done in parts
abbrev pub further : ℕ → Call → Call
further moved (call.Write fd addr n done) = call.Write fd addr n (done + moved)
further moved other = other
