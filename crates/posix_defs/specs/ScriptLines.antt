-- What a line of a script says, by its words.
use Rattle.std.specs.Prelude.{ℕ, ◌%◌, pos, unsigned_abs, ◌==◌, nat_le, if◌then◌else◌, List, [], ◌∷◌, length, Option, None, Some, Result, Ok, Err, codes}
use Rattle.kabi_types.specs.Call.{all_kinds}
use Rattle.kabi_types.specs.Words.{word_of}
use Rattle.kabi_types.specs.declared.calls.CallKind.{CallKind}
use Rattle.kabi_types.specs.declared.calls.CallKind.TheVariants as kind
use Rattle.kabi_types.specs.declared.scripts.Chooser.TheVariants.{Choices, Seed}
use Rattle.kabi_types.specs.declared.scripts.FaultKind.{FaultKind}
use Rattle.kabi_types.specs.declared.scripts.FaultKind.TheVariants.{UnknownWord, OutOfRange}
use Rattle.kabi_types.specs.declared.scripts.Operand.{Operand}
use Rattle.kabi_types.specs.declared.scripts.Policy.{Policy}
use Rattle.kabi_types.specs.declared.scripts.Policy.TheVariants.{Heaviest, Youngest}
use Rattle.kabi_types.specs.declared.scripts.Statement.TheVariants as statement
use Rattle.kabi_types.specs.declared.scripts.Test.{Test}
use Rattle.kabi_types.specs.declared.scripts.Test.TheVariants.{Eq, Ne, Lt, Le}
use Rattle.posix_defs.specs.declared.said.AtTop.{AtTop}
use Rattle.posix_defs.specs.declared.said.AtTop.TheVariants as top
use Rattle.posix_defs.specs.declared.said.InProgram.{InProgram}
use Rattle.posix_defs.specs.declared.said.InProgram.TheVariants as inside
use Rattle.posix_defs.specs.declared.said.Setting.TheVariants as setting
use Rattle.posix_defs.specs.declared.said.Shape.{Shape}
use Rattle.posix_defs.specs.declared.said.Shape.TheVariants as shape
use Rattle.posix_defs.specs.declared.said.Spoken.{Spoken}
use Rattle.posix_defs.specs.declared.said.Spoken.TheVariants as spoken
use Rattle.posix_defs.specs.declared.said.Word.{Word}
use Rattle.posix_defs.specs.ScriptValues.{both, with, ◌>>=◌, each, is_word, register, number, value, name, path, stored}

-- the call of these that a word names, if one does; a text in quotes names none
abbrev pub kind_among : List CallKind → Word → Option CallKind
kind_among [] word = None
kind_among (kind ∷ kinds) word = if is_word (word_of kind) word then Some kind else kind_among kinds word

-- the call that a word names
abbrev pub kind_said : Word → Option CallKind
kind_said word = kind_among all_kinds word

-- the operands of a call, in the order of its fields
abbrev pub shape_of : CallKind → Shape
shape_of kind.Getpid = shape.Values 0
shape_of kind.Getppid = shape.Values 0
shape_of kind.SchedYield = shape.Values 0
shape_of kind.Fork = shape.Values 0
shape_of kind.Exec = shape.OnePath
shape_of kind.Exit = shape.Values 1
shape_of kind.Waitpid = shape.Values 2
shape_of kind.Kill = shape.Values 2
shape_of kind.Mmap = shape.Values 1
shape_of kind.Munmap = shape.Values 2
shape_of kind.Store = shape.ValueBytes
shape_of kind.Load = shape.Values 2
shape_of kind.OpenFile = shape.PathValue
shape_of kind.Close = shape.Values 1
shape_of kind.Dup = shape.Values 1
shape_of kind.Dup2 = shape.Values 2
shape_of kind.Fcntl = shape.Values 3
shape_of kind.Read = shape.Values 3
shape_of kind.Write = shape.Values 3
shape_of kind.Pread = shape.Values 4
shape_of kind.Pwrite = shape.Values 4
shape_of kind.Lseek = shape.Values 3
shape_of kind.Readdir = shape.Values 3
shape_of kind.Ftruncate = shape.Values 2
shape_of kind.Fstat = shape.Values 1
shape_of kind.Stat = shape.OnePath
shape_of kind.Chdir = shape.OnePath
shape_of kind.Mkdir = shape.OnePath
shape_of kind.Rmdir = shape.OnePath
shape_of kind.Unlink = shape.OnePath
shape_of kind.Link = shape.TwoPaths
shape_of kind.Rename = shape.TwoPaths
shape_of kind.Pipe = shape.Values 0
shape_of kind.Socket = shape.Values 0
shape_of kind.Socketpair = shape.Values 0
shape_of kind.Bind = shape.ValuePath
shape_of kind.Listen = shape.Values 1
shape_of kind.Connect = shape.ValuePath
shape_of kind.Accept = shape.Values 1
shape_of kind.Shutdown = shape.Values 2
shape_of kind.Poll = shape.Pairs
shape_of kind.Signal = shape.Values 2
shape_of kind.Mkfifo = shape.OnePath
shape_of kind.Setlk = shape.Values 4
shape_of kind.Setlkw = shape.Values 4
shape_of kind.Getlk = shape.Values 4

-- what a call gets: its values, and its texts
abbrev pub CallOperands : Type 0
CallOperands = List Operand × List (List ℕ)

-- values as operands, without a text
abbrev pub values_only : List Operand → CallOperands
values_only values = (values, [])

-- so many values; UnknownWord for any other count of words, whatever they are
abbrev pub counted : ℕ → List Word → Result CallOperands FaultKind
counted count words = if length words == count then with values_only (each value words) else Err UnknownWord

-- one path, and nothing else
abbrev pub one_path : List Word → Result CallOperands FaultKind
one_path (word ∷ []) = with (λ text. ([], text ∷ [])) (path word)
one_path _ = Err UnknownWord

-- two paths, the old one and the new one; of their faults the least is told
abbrev pub two_paths : List Word → Result CallOperands FaultKind
two_paths (first ∷ second ∷ []) = with (λ p. ([], p.0 ∷ p.1 ∷ [])) (both (path first) (path second))
two_paths _ = Err UnknownWord

-- a path and then a value; of their faults the least is told
abbrev pub path_value : List Word → Result CallOperands FaultKind
path_value (first ∷ second ∷ []) = with (λ p. (p.1 ∷ [], p.0 ∷ [])) (both (path first) (value second))
path_value _ = Err UnknownWord

-- a value and then a path; of their faults the least is told
abbrev pub value_path : List Word → Result CallOperands FaultKind
value_path (first ∷ second ∷ []) = with (λ p. (p.0 ∷ [], p.1 ∷ [])) (both (value first) (path second))
value_path _ = Err UnknownWord

-- a value and then the bytes of a `store`; of their faults the least is told
abbrev pub value_bytes : List Word → Result CallOperands FaultKind
value_bytes (first ∷ second ∷ []) = with (λ p. (p.0 ∷ [], p.1 ∷ [])) (both (value first) (stored second))
value_bytes _ = Err UnknownWord

-- a list that is no longer than so many items, else OutOfRange
abbrev pub at_most : {A : Type 0} → ℕ → List A → Result (List A) FaultKind
at_most most list = if nat_le (length list) most then Ok list else Err OutOfRange

-- a timeout, and up to eight pairs of a descriptor and its events
abbrev pub pairs : List Word → Result CallOperands FaultKind
pairs words = if length words % 2 == 1 then with values_only (each value words >>= at_most 17) else Err UnknownWord

-- the operands of a call that has this shape; UnknownWord where a word is missing, and where one is too many
abbrev pub operands_said : Shape → List Word → Result CallOperands FaultKind
operands_said (shape.Values count) words = counted count words
operands_said shape.OnePath words = one_path words
operands_said shape.TwoPaths words = two_paths words
operands_said shape.PathValue words = path_value words
operands_said shape.ValuePath words = value_path words
operands_said shape.ValueBytes words = value_bytes words
operands_said shape.Pairs words = pairs words

-- the statement that makes a call, and names the registers that get its values
abbrev pub invoked : CallKind → Option ℕ → Option ℕ → CallOperands → Spoken
invoked kind first second operands = spoken.Whole (statement.Invoke kind operands.0 operands.1 first second)

-- the call with its operands; UnknownWord where the word names no call
abbrev pub call_of_kind : Option ℕ → Option ℕ → Option CallKind → List Word → Result Spoken FaultKind
call_of_kind first second None words = Err UnknownWord
call_of_kind first second (Some kind) words = with (invoked kind first second) (operands_said (shape_of kind) words)

-- a call, and the registers that get its values
abbrev pub call_said : Option ℕ → Option ℕ → List Word → Result Spoken FaultKind
call_said first second [] = Err UnknownWord
call_said first second (word ∷ words) = call_of_kind first second (kind_said word) words

-- behind `set`: the register, and the value that it becomes
abbrev pub set_said : List Word → Result Spoken FaultKind
set_said (target ∷ amount ∷ []) = register target >>= λ r. value amount >>= λ v. Ok (spoken.Whole (statement.Set r v))
set_said _ = Err UnknownWord

-- behind `add`: the register, and the value by which it grows
abbrev pub add_said : List Word → Result Spoken FaultKind
add_said (target ∷ amount ∷ []) = register target >>= λ r. value amount >>= λ v. Ok (spoken.Whole (statement.Add r v))
add_said _ = Err UnknownWord

-- one of the four signs of comparison, else UnknownWord
abbrev pub test_said : Word → Result Test FaultKind
test_said word =
    if is_word (codes "==") word then Ok Eq
    else if is_word (codes "!=") word then Ok Ne
    else if is_word (codes "<") word then Ok Lt
    else if is_word (codes "<=") word then Ok Le
    else Err UnknownWord

-- behind `if`: a comparison between two values, and the label of its jump
abbrev pub if_said : List Word → Result Spoken FaultKind
if_said (left ∷ test ∷ right ∷ label ∷ []) =
    test_said test >>= λ t. name label >>= λ l. both (value left) (value right) >>= λ p. Ok (spoken.If p.0 t p.1 l)
if_said _ = Err UnknownWord

-- behind `jump`: the label where the program goes on
abbrev pub jump_said : List Word → Result Spoken FaultKind
jump_said (label ∷ []) = with spoken.Jump (name label)
jump_said _ = Err UnknownWord

-- behind `label`: the name that this place gets
abbrev pub label_said : List Word → Result Spoken FaultKind
label_said (label ∷ []) = with spoken.Label (name label)
label_said _ = Err UnknownWord

-- behind `loop`: the register that counts down, and the label to go back to
abbrev pub loop_said : List Word → Result Spoken FaultKind
loop_said (counter ∷ label ∷ []) = register counter >>= λ r. name label >>= λ l. Ok (spoken.Loop r l)
loop_said _ = Err UnknownWord

-- a call of which the first value goes to a register
abbrev pub call_for_one : Word → List Word → Result Spoken FaultKind
call_for_one first call = register first >>= λ a. call_said (Some a) None call

-- a call of which the first value goes to one register, and the second to another
abbrev pub call_for_both : Word → Word → List Word → Result Spoken FaultKind
call_for_both first second call = register first >>= λ a. register second >>= λ b. call_said (Some a) (Some b) call

-- a call whose second word may be a register too
abbrev pub call_for_two : Word → Word → List Word → Result Spoken FaultKind
call_for_two first second [] = call_said None None (first ∷ second ∷ [])
call_for_two first second (equals ∷ call) =
    if is_word (codes "=") equals then call_for_both first second call else call_said None None (first ∷ second ∷ equals ∷ call)

-- a call, behind the registers that get its values, if they are named
abbrev pub call_for : Word → List Word → Result Spoken FaultKind
call_for first [] = call_said None None (first ∷ [])
call_for first (equals ∷ call) = if is_word (codes "=") equals then call_for_one first call else call_for_two first equals call

-- `set`, `add`, `if`, `jump`, `label` and `loop` by the first word; every other statement is a call
abbrev pub statement_said : Word → List Word → Result Spoken FaultKind
statement_said first words =
    if is_word (codes "set") first then set_said words
    else if is_word (codes "add") first then add_said words
    else if is_word (codes "if") first then if_said words
    else if is_word (codes "jump") first then jump_said words
    else if is_word (codes "label") first then label_said words
    else if is_word (codes "loop") first then loop_said words
    else call_for first words

-- what is said where no further word stands, else UnknownWord
abbrev pub alone : {A : Type 0} → A → List Word → Result A FaultKind
alone said [] = Ok said
alone said (_ ∷ _) = Err UnknownWord

-- what a line of a program says
abbrev pub said_in_program : List Word → Result InProgram FaultKind
said_in_program [] = Ok inside.Silent
said_in_program (first ∷ words) =
    if is_word (codes "end") first then alone inside.Ends words else with inside.Says (statement_said first words)

-- a number without a sign, from low to high
abbrev pub natural : ℕ → ℕ → Word → Result ℕ FaultKind
natural low high word = with unsigned_abs (number (pos low) (pos high) word)

-- what the one word says; UnknownWord where none stands there, or more than one
abbrev pub only : {A : Type 0} → (Word → Result A FaultKind) → List Word → Result A FaultKind
only reads (word ∷ []) = reads word
only reads _ = Err UnknownWord

-- one of the two policies, else UnknownWord
abbrev pub policy_said : Word → Result Policy FaultKind
policy_said word =
    if is_word (codes "heaviest") word then Ok Heaviest
    else if is_word (codes "youngest") word then Ok Youngest
    else Err UnknownWord

-- up to 1000 numbers, and one at least
abbrev pub choices_said : List Word → Result (List ℕ) FaultKind
choices_said [] = Err UnknownWord
choices_said (word ∷ words) = each (natural 0 4294967295) (word ∷ words) >>= at_most 1000

-- what a line outside programs says by its first word: the heap in bytes, the disk in blocks, the steps, the policy, who chooses,
-- or that a program begins; OutOfRange where a number is past its limits, UnknownWord for any other first word
abbrev pub top_said : Word → List Word → Result AtTop FaultKind
top_said first words =
    if is_word (codes "heap") first then with (λ n. top.Sets (setting.Heap n)) (only (natural 8192 8388608) words)
    else if is_word (codes "disk") first then with (λ n. top.Sets (setting.Disk n)) (only (natural 16 4096) words)
    else if is_word (codes "steps") first then with (λ n. top.Sets (setting.Steps n)) (only (natural 1 100000) words)
    else if is_word (codes "policy") first then with (λ p. top.Sets (setting.Victims p)) (only policy_said words)
    else if is_word (codes "choices") first then with (λ c. top.Sets (setting.Choosing (Choices c))) (choices_said words)
    else if is_word (codes "seed") first then with (λ n. top.Sets (setting.Choosing (Seed n))) (only (natural 0 2147483647) words)
    else if is_word (codes "program") first then with top.Begins (only name words)
    else Err UnknownWord

-- what a line outside programs says
abbrev pub said_at_top : List Word → Result AtTop FaultKind
said_at_top [] = Ok top.Silent
said_at_top (first ∷ words) = top_said first words
