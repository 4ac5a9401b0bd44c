-- The script that `gen` writes: rounds of calls on a few files, pipes and children, as the generator chooses them.
use Rattle.std.specs.Prelude.{ℕ, zero, suc, ◌+◌, ◌%◌, ◌==◌, pos, if◌then◌else◌, List, [], ◌∷◌, ◌++◌, length, None, Some, codes, decimal}
use Rattle.kabi_types.specs.declared.calls.CallKind.{CallKind}
use Rattle.kabi_types.specs.declared.calls.CallKind.TheVariants as kind
use Rattle.kabi_types.specs.declared.scripts.Chooser.TheVariants.{Plain}
use Rattle.kabi_types.specs.declared.scripts.Operand.{Operand}
use Rattle.kabi_types.specs.declared.scripts.Operand.TheVariants.{Reg, Number}
use Rattle.kabi_types.specs.declared.scripts.Policy.TheVariants.{Heaviest}
use Rattle.kabi_types.specs.declared.scripts.Script.{Script}
use Rattle.kabi_types.specs.declared.scripts.Statement.{Statement}
use Rattle.kabi_types.specs.declared.scripts.Statement.TheVariants.{If, Jump, Label, Invoke}
use Rattle.kabi_types.specs.declared.scripts.Test.TheVariants.{Eq}
use Rattle.posix_defs.specs.Generator.{state_after, choice_of}

-- a number as an operand
abbrev pub number : ℕ → Operand
number n = Number (pos n)

-- a call whose value goes to a register
abbrev pub asks : ℕ → CallKind → List Operand → Statement
asks register kind values = Invoke kind values [] (Some register) None

-- the same of a call that has a text or two
abbrev pub names : ℕ → CallKind → List Operand → List (List ℕ) → Statement
names register kind values texts = Invoke kind values texts (Some register) None

-- a call whose two values go to two registers
abbrev pub asks_two : ℕ → ℕ → CallKind → List Operand → Statement
asks_two first second kind values = Invoke kind values [] (Some first) (Some second)

-- the process ends with this exit status
abbrev pub exits : ℕ → Statement
exits status = Invoke kind.Exit (number status ∷ []) [] None None

-- the path of the directory of a number
abbrev pub directory : ℕ → List ℕ
directory q = codes "/d" ++ decimal q

-- the path of the file in the directory of a number
abbrev pub inside : ℕ → List ℕ
inside q = codes "/d" ++ decimal q ++ codes "/f"

-- the path of the file of a number
abbrev pub file : ℕ → List ℕ
file q = codes "/f" ++ decimal q

-- the path under which the file of a number may get a further name
abbrev pub other_file : ℕ → List ℕ
other_file q = codes "/g" ++ decimal q

-- where the child of a round goes on
abbrev pub child_label : ℕ → List ℕ
child_label i = codes "k" ++ decimal i

-- where the parent of a round's child goes on
abbrev pub parent_label : ℕ → List ℕ
parent_label i = codes "m" ++ decimal i

-- a file is made, written once and closed
abbrev pub writes_file : ℕ → ℕ → List Statement
writes_file q w =
    names 2 kind.OpenFile (number 66 ∷ []) (file q ∷ [])
    ∷ asks 3 kind.Write (Reg 2 ∷ Reg 1 ∷ number w ∷ [])
    ∷ asks 3 kind.Close (Reg 2 ∷ [])
    ∷ []

-- 100 bytes go through a pipe
abbrev pub fills_pipe : List Statement
fills_pipe =
    asks_two 2 3 kind.Pipe []
    ∷ asks 4 kind.Write (Reg 3 ∷ Reg 1 ∷ number 100 ∷ [])
    ∷ asks 4 kind.Read (Reg 2 ∷ Reg 1 ∷ number 100 ∷ [])
    ∷ asks 4 kind.Close (Reg 2 ∷ [])
    ∷ asks 4 kind.Close (Reg 3 ∷ [])
    ∷ []

-- a child writes into its memory and exits, and its parent waits for it; the first of these statements stands at a place
abbrev pub forks : ℕ → ℕ → ℕ → List Statement
forks i q at =
    asks 2 kind.Fork []
    ∷ If (Reg 2) Eq (number 0) (at + 4)
    ∷ asks_two 3 4 kind.Waitpid (Reg 2 ∷ number 0 ∷ [])
    ∷ Jump (at + 7)
    ∷ Label (child_label i)
    ∷ names 3 kind.Store (Reg 1 ∷ []) (codes "x" ∷ [])
    ∷ exits q
    ∷ Label (parent_label i)
    ∷ []

-- a round by its kind: i is its number, q chooses among the files, w is how much is written
abbrev pub round_of : ℕ → ℕ → ℕ → ℕ → ℕ → List Statement
round_of which i q w at =
    if which == 0 then names 2 kind.Mkdir [] (directory q ∷ []) ∷ []
    else if which == 1 then writes_file q w
    else if which == 2 then names 2 kind.Unlink [] (file q ∷ []) ∷ []
    else if which == 3 then names 2 kind.Rename [] (file q ∷ inside q ∷ []) ∷ []
    else if which == 4 then fills_pipe
    else if which == 5 then forks i q at
    else if which == 6 then names 2 kind.Stat [] (inside q ∷ []) ∷ []
    else names 2 kind.Link [] (file q ∷ other_file q ∷ []) ∷ []

-- the round that a state of the generator chooses
abbrev pub round : ℕ → ℕ → ℕ → List Statement
round i state at = round_of (choice_of state % 8) i (i % 16) (state % 20000) at

-- the first statement, and so many rounds behind it
abbrev pub rounds_to : ℕ → ℕ → List Statement
rounds_to n zero = asks 1 kind.Mmap (number 65536 ∷ []) ∷ []
rounds_to n (suc i) = let before = rounds_to n i in before ++ round i (state_after n (suc i)) (length before)

-- the whole program: memory is mapped, so many rounds follow, and it exits with 0
abbrev pub body_to : ℕ → List Statement
body_to n = rounds_to n n ++ exits 0 ∷ []

-- the script of so many rounds
abbrev pub generated : ℕ → Script
generated n = record {
  heap = 8388608;
  disk = 4096;
  steps = 100000;
  policy = Heaviest;
  chooser = Plain;
  programs = record { name = codes "init"; body = body_to n } ∷ [];
}
