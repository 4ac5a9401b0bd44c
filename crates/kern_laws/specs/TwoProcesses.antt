-- A worked example: a process makes another, sleeps until that one ends, and is told its status.
use Rattle.std.specs.Prelude.{ℕ, pos, List, [], ◌∷◌, None, Some, codes}
use Rattle.kabi_types.specs.declared.calls.CallKind.TheVariants as kind
use Rattle.kabi_types.specs.declared.entries.Entry.{Entry}
use Rattle.kabi_types.specs.declared.entries.Entry.TheVariants as entry
use Rattle.kabi_types.specs.declared.replies.Reply.TheVariants.{Val, Waited}
use Rattle.kabi_types.specs.declared.scripts.Chooser.TheVariants as chooser
use Rattle.kabi_types.specs.declared.scripts.Operand.TheVariants.{Number, Reg}
use Rattle.kabi_types.specs.declared.scripts.Policy.TheVariants.{Heaviest}
use Rattle.kabi_types.specs.declared.scripts.Script.{Script}
use Rattle.kabi_types.specs.declared.scripts.Statement.{Statement}
use Rattle.kabi_types.specs.declared.scripts.Statement.TheVariants.{If, Invoke, Label}
use Rattle.kabi_types.specs.declared.scripts.Test.TheVariants.{Eq}
use Rattle.posix_defs.specs.Plain.{Plain, call_of}
use Rattle.posix_defs.specs.Answer.{Answer}
use Rattle.posix_defs.specs.Machine.{machine}

-- `r1 = fork`, `if r1 == 0 kid`, `r2 r3 = waitpid r1 0`, `exit 0`, `label kid`, `exit 7`
abbrev pub two_body : List Statement
two_body =
    Invoke kind.Fork [] [] (Some 1) None
    ∷ If (Reg 1) Eq (Number (pos 0)) 4
    ∷ Invoke kind.Waitpid (Reg 1 ∷ Number (pos 0) ∷ []) [] (Some 2) (Some 3)
    ∷ Invoke kind.Exit (Number (pos 0) ∷ []) [] None None
    ∷ Label (codes "kid")
    ∷ Invoke kind.Exit (Number (pos 7) ∷ []) [] None None
    ∷ []

abbrev pub two_script : Script
two_script = record {
  heap = 65536;
  disk = 64;
  steps = 1000;
  policy = Heaviest;
  chooser = chooser.Plain;
  programs = record { name = codes "init"; body = two_body } ∷ [];
}

-- the parent waits before its child ends, and is told 7 as 256 times the status
abbrev pub two_entries : List Entry
two_entries =
    entry.Done 1 kind.Fork (Val (pos 2))
    ∷ entry.Slept 1 kind.Waitpid
    ∷ entry.Ended 2 kind.Exit 1792
    ∷ entry.Done 1 kind.Waitpid (Waited 2 1792)
    ∷ entry.Ended 1 kind.Exit 0
    ∷ []

-- what a process's next call is answered
abbrev pub next_answer : Plain → ℕ → Answer
next_answer plain pid = machine two_script plain pid (call_of two_script plain pid)
