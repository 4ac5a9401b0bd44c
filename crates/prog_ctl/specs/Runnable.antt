-- Where a control may stand, and what running its program needs.
use Rattle.std.specs.Prelude.{ℕ, ⊤, Bool, true, false, ◌<◌, ◌≤◌, ◌≡◌, List, length, Option, None, Some, slice_get, IfSome}
use Rattle.std.specs.List.{AllByRecursion}
use Rattle.kabi_types.specs.declared.calls.CallKind.{CallKind}
use Rattle.kabi_types.specs.declared.calls.CallKind.TheVariants as kind
use Rattle.kabi_types.specs.declared.scripts.Operand.{Operand}
use Rattle.kabi_types.specs.declared.scripts.Operand.TheVariants.{Reg, Number}
use Rattle.kabi_types.specs.declared.scripts.Statement.{Statement}
use Rattle.kabi_types.specs.declared.scripts.Statement.TheVariants as statement
use Rattle.kabi_types.specs.declared.scripts.Script.{Script}
use Rattle.kabi_types.specs.declared.scripts.Control.{Control}
use Rattle.posix_defs.specs.declared.said.Shape.{Shape}
use Rattle.posix_defs.specs.declared.said.Shape.TheVariants as shape
use Rattle.posix_defs.specs.ScriptLines.{shape_of}
use Rattle.posix_defs.specs.Control.{body_of, local_at, statement_of}
use Rattle.posix_defs.specs.ValidScript.{IsRegister, IsValid}

abbrev pub IsOperand : Operand → Type 0
IsOperand (Reg register) = IsRegister register
IsOperand (Number value) = ⊤

-- the most bytes of a text of a call whose operands have this shape
abbrev pub most_text : Shape → ℕ
most_text shape.ValueBytes = 64
most_text _ = 255

-- the calls of this kind take one path and nothing else
abbrev pub TakesPath : CallKind → Type 0
TakesPath kind.Exec = ⊤
TakesPath kind.Stat = ⊤
TakesPath kind.Chdir = ⊤
TakesPath kind.Mkdir = ⊤
TakesPath kind.Rmdir = ⊤
TakesPath kind.Unlink = ⊤
TakesPath kind.Mkfifo = ⊤
TakesPath _ = ⊥

-- of these all but `mkfifo`, which is made by itself
abbrev pub IsMadeOnPath : CallKind → Type 0
IsMadeOnPath kind.Exec = ⊤
IsMadeOnPath kind.Stat = ⊤
IsMadeOnPath kind.Chdir = ⊤
IsMadeOnPath kind.Mkdir = ⊤
IsMadeOnPath kind.Rmdir = ⊤
IsMadeOnPath kind.Unlink = ⊤
IsMadeOnPath _ = ⊥

-- no operand of a call of this kind can be wrong, and the call may make objects
abbrev pub IsNeverWrong : CallKind → Type 0
IsNeverWrong kind.Fork = ⊤
IsNeverWrong kind.Dup = ⊤
IsNeverWrong kind.Dup2 = ⊤
IsNeverWrong kind.Pipe = ⊤
IsNeverWrong kind.Socket = ⊤
IsNeverWrong kind.Socketpair = ⊤
IsNeverWrong kind.Accept = ⊤
IsNeverWrong _ = ⊥

-- the calls of this kind take bytes, two paths, a path and flags, or a list of entries
abbrev pub TakesMore : CallKind → Type 0
TakesMore kind.Store = ⊤
TakesMore kind.OpenFile = ⊤
TakesMore kind.Link = ⊤
TakesMore kind.Rename = ⊤
TakesMore kind.Poll = ⊤
TakesMore _ = ⊥

-- the calls of this kind move bytes or entries between a descriptor and memory
abbrev pub MovesBytes : CallKind → Type 0
MovesBytes kind.Read = ⊤
MovesBytes kind.Write = ⊤
MovesBytes kind.Pread = ⊤
MovesBytes kind.Pwrite = ⊤
MovesBytes kind.Readdir = ⊤
MovesBytes _ = ⊥

-- the calls of this kind ask about a descriptor, copy or close it, or change what it stands for
abbrev pub TakesDescriptor : CallKind → Type 0
TakesDescriptor kind.Close = ⊤
TakesDescriptor kind.Dup = ⊤
TakesDescriptor kind.Dup2 = ⊤
TakesDescriptor kind.Fcntl = ⊤
TakesDescriptor kind.Lseek = ⊤
TakesDescriptor kind.Ftruncate = ⊤
TakesDescriptor kind.Fstat = ⊤
TakesDescriptor _ = ⊥

-- the calls of this kind make a socket, or do something with one
abbrev pub TakesSocket : CallKind → Type 0
TakesSocket kind.Socket = ⊤
TakesSocket kind.Socketpair = ⊤
TakesSocket kind.Bind = ⊤
TakesSocket kind.Listen = ⊤
TakesSocket kind.Connect = ⊤
TakesSocket kind.Accept = ⊤
TakesSocket kind.Shutdown = ⊤
TakesSocket _ = ⊥

-- the calls of this kind are on record locks
abbrev pub TakesLock : CallKind → Type 0
TakesLock kind.Setlk = ⊤
TakesLock kind.Setlkw = ⊤
TakesLock kind.Getlk = ⊤
TakesLock _ = ⊥

-- The calls of this kind go through descriptors, and are neither `read` nor `write` nor of one that was named: those of processes
-- and memory, and those that name nodes by their paths alone, have their cases beside them.
abbrev pub TakesFiles : CallKind → Type 0
TakesFiles kind.Getpid = ⊥
TakesFiles kind.Getppid = ⊥
TakesFiles kind.SchedYield = ⊥
TakesFiles kind.Fork = ⊥
TakesFiles kind.Exec = ⊥
TakesFiles kind.Exit = ⊥
TakesFiles kind.Waitpid = ⊥
TakesFiles kind.Kill = ⊥
TakesFiles kind.Signal = ⊥
TakesFiles kind.Mmap = ⊥
TakesFiles kind.Munmap = ⊥
TakesFiles kind.Store = ⊥
TakesFiles kind.Load = ⊥
TakesFiles kind.OpenFile = ⊥
TakesFiles kind.Read = ⊥
TakesFiles kind.Write = ⊥
TakesFiles kind.Stat = ⊥
TakesFiles kind.Chdir = ⊥
TakesFiles kind.Mkdir = ⊥
TakesFiles kind.Rmdir = ⊥
TakesFiles kind.Unlink = ⊥
TakesFiles kind.Link = ⊥
TakesFiles kind.Rename = ⊥
TakesFiles kind.Mkfifo = ⊥
TakesFiles _ = ⊤

-- a later place
abbrev pub IsLater : ℕ → ℕ → Type 0
IsLater at place = (at < place) × (place < 4294967296)

-- a statement at a place of a program: its registers are there, it jumps forward and loops backward, its texts fit a call
abbrev pub IsRunnableAt : ℕ → Statement → Type 0
IsRunnableAt at (statement.Set register value) = IsRegister register × IsOperand value
IsRunnableAt at (statement.Add register value) = IsRegister register × IsOperand value
IsRunnableAt at (statement.If left test right place) = IsOperand left × IsOperand right × IsLater at place
IsRunnableAt at (statement.Jump place) = IsLater at place
IsRunnableAt at (statement.Label _) = ⊤
IsRunnableAt at (statement.Loop register place) = IsRegister register × (place < at)
IsRunnableAt at (statement.Invoke kind operands texts first second) =
    AllByRecursion IsOperand operands × AllByRecursion (λ text. length text ≤ most_text (shape_of kind)) texts × (length operands ≤ 17)
    × IfSome first IsRegister × IfSome second IsRegister

-- each statement of a program
abbrev pub IsRunnable : List Statement → Type 0
IsRunnable body = (at : ℕ) → IfSome (slice_get body at) (IsRunnableAt at)

-- The script is one that some text may say, and the control stands in a program of it, or at that program's end.
pub record Stands (script : Script) (control : Control) : Type 0 where
  pub valid : IsValid script
  pub program : control.program < length script.programs
  pub place : control.place ≤ length (body_of script control)

-- a local statement left this control, or it makes a call and left all as it was
abbrev pub Moves : Bool → Control → Control → Option Control → Type 0
Moves true old new next = next ≡ Some new
Moves false old new next = (next ≡ None) × (new ≡ old)

-- the next statement makes a call, or the program ends there
abbrev pub Rests : Script → Control → Type 0
Rests script control = local_at control (statement_of script control) ≡ None
