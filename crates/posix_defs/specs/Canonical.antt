-- The one text in which a script is printed.
use Rattle.std.specs.Prelude.{ℕ, ◌==◌, ◌||◌, if◌then◌else◌, List, [], ◌∷◌, ◌++◌, map, Option, None, Some, slice_get, codes, decimal}
use Rattle.std.specs.Fmt.{signed_decimal}
use Rattle.std.specs.List.{flat_map}
use Rattle.kabi_types.specs.Words.{word_of}
use Rattle.kabi_types.specs.declared.scripts.Chooser.{Chooser}
use Rattle.kabi_types.specs.declared.scripts.Chooser.TheVariants.{Plain, Choices, Seed}
use Rattle.kabi_types.specs.declared.scripts.Operand.{Operand}
use Rattle.kabi_types.specs.declared.scripts.Operand.TheVariants.{Reg, Number}
use Rattle.kabi_types.specs.declared.scripts.Policy.{Policy}
use Rattle.kabi_types.specs.declared.scripts.Policy.TheVariants.{Heaviest, Youngest}
use Rattle.kabi_types.specs.declared.scripts.Program.{Program}
use Rattle.kabi_types.specs.declared.scripts.Script.{Script}
use Rattle.kabi_types.specs.declared.scripts.Statement.{Statement}
use Rattle.kabi_types.specs.declared.scripts.Statement.TheVariants as statement
use Rattle.kabi_types.specs.declared.scripts.Test.{Test}
use Rattle.kabi_types.specs.declared.scripts.Test.TheVariants.{Eq, Ne, Lt, Le}
use Rattle.posix_defs.specs.declared.said.Shape.{Shape}
use Rattle.posix_defs.specs.declared.said.Shape.TheVariants as shape
use Rattle.posix_defs.specs.declared.said.Word.{Word}
use Rattle.posix_defs.specs.declared.said.Word.TheVariants.{Bare, Quoted}
use Rattle.posix_defs.specs.Lines.{newline, blank, hex_byte}
use Rattle.posix_defs.specs.ScriptWords.{is_within}
use Rattle.posix_defs.specs.ScriptLines.{shape_of}

-- a backslash, and a letter
abbrev pub escape : ℕ → List ℕ
escape letter = 92 ∷ letter ∷ []

-- the escape of any byte: its two hexadecimal digits
abbrev pub digits_of : ℕ → List ℕ
digits_of byte = escape 120 ++ hex_byte byte

-- a byte of a text: itself where it can be printed and is neither a quote nor a backslash, else an escape
abbrev pub shown : ℕ → List ℕ
shown byte =
    if byte == 10 then escape 110
    else if byte == 34 || byte == 92 then digits_of byte
    else if is_within 32 126 byte then byte ∷ []
    else digits_of byte

-- the bytes of a text one after another, each as itself or as its escape
abbrev pub shown_bytes : List ℕ → List ℕ
shown_bytes bytes = flat_map shown bytes

-- a word as it is printed
abbrev pub word_text : Word → List ℕ
word_text (Bare word) = word
word_text (Quoted text) = 34 ∷ shown_bytes text ++ 34 ∷ []

-- words, a blank before each
abbrev pub further_words : List Word → List ℕ
further_words words = flat_map (λ word. blank ++ word_text word) words

-- words, one blank between them
abbrev pub words_text : List Word → List ℕ
words_text [] = []
words_text (first ∷ words) = word_text first ++ further_words words

-- a line of words
abbrev pub line_text : List Word → List ℕ
line_text words = words_text words ++ newline

-- a number that isn't below 0, in decimal digits without leading zeros
abbrev pub number_word : ℕ → Word
number_word n = Bare (decimal n)

-- A name stands as it is; a byte that no name may have is printed as in a text.
abbrev pub name_word : List ℕ → Word
name_word name = Bare (shown_bytes name)

-- a register: the letter r and its number
abbrev pub register_word : ℕ → Word
register_word register = Bare (codes "r" ++ decimal register)

-- a register by its name, a value as a decimal number; constants are printed as the number that they come to
abbrev pub operand_word : Operand → Word
operand_word (Reg register) = register_word register
operand_word (Number value) = Bare (signed_decimal value)

-- the sign of a comparison
abbrev pub test_text : Test → List ℕ
test_text Eq = codes "=="
test_text Ne = codes "!="
test_text Lt = codes "<"
test_text Le = codes "<="

-- the word of a policy
abbrev pub policy_text : Policy → List ℕ
policy_text Heaviest = codes "heaviest"
policy_text Youngest = codes "youngest"

-- the name of the label at a place; no bytes where none stands there, which is so of no jump and no loop in a valid script
abbrev pub label_name : Option Statement → List ℕ
label_name (Some (statement.Label name)) = name
label_name (Some _) = []
label_name None = []

-- a place of a program is told by the name of the label that stands there
abbrev pub label_word : List Statement → ℕ → Word
label_word body place = name_word (label_name (slice_get body place))

-- The operands of a call in the order of its fields: the path of a call whose path is its first field, before its value.
abbrev pub operand_words : Shape → List Operand → List (List ℕ) → List Word
operand_words shape.PathValue values texts = map Quoted texts ++ map operand_word values
operand_words _ values texts = map operand_word values ++ map Quoted texts

-- the registers that get a call's values
abbrev pub target_words : Option ℕ → Option ℕ → List Word
target_words None _ = []
target_words (Some first) None = register_word first ∷ Bare (codes "=") ∷ []
target_words (Some first) (Some second) = register_word first ∷ register_word second ∷ Bare (codes "=") ∷ []

-- the words of a statement of a program
abbrev pub statement_words : List Statement → Statement → List Word
statement_words body (statement.Set register value) = Bare (codes "set") ∷ register_word register ∷ operand_word value ∷ []
statement_words body (statement.Add register value) = Bare (codes "add") ∷ register_word register ∷ operand_word value ∷ []
statement_words body (statement.If left test right place) =
    Bare (codes "if") ∷ operand_word left ∷ Bare (test_text test) ∷ operand_word right ∷ label_word body place ∷ []
statement_words body (statement.Jump place) = Bare (codes "jump") ∷ label_word body place ∷ []
statement_words body (statement.Label name) = Bare (codes "label") ∷ name_word name ∷ []
statement_words body (statement.Loop register place) = Bare (codes "loop") ∷ register_word register ∷ label_word body place ∷ []
statement_words body (statement.Invoke kind values texts first second) =
    target_words first second ++ Bare (word_of kind) ∷ operand_words (shape_of kind) values texts

-- the lines of a program: its name, its statements, its end
abbrev pub program_lines : Program → List (List Word)
program_lines program =
    (Bare (codes "program") ∷ name_word program.name ∷ []) ∷ map (statement_words program.body) program.body ++ (Bare (codes "end") ∷ []) ∷ []

-- the line of whoever chooses the events: the choices or the seed; no line where neither was given
abbrev pub chooser_lines : Chooser → List (List Word)
chooser_lines Plain = []
chooser_lines (Choices choices) = (Bare (codes "choices") ∷ map number_word choices) ∷ []
chooser_lines (Seed seed) = (Bare (codes "seed") ∷ number_word seed ∷ []) ∷ []

-- the lines of a script: its settings, who chooses, and its programs
abbrev pub script_lines : Script → List (List Word)
script_lines script =
    (Bare (codes "heap") ∷ number_word script.heap ∷ [])
    ∷ (Bare (codes "disk") ∷ number_word script.disk ∷ [])
    ∷ (Bare (codes "steps") ∷ number_word script.steps ∷ [])
    ∷ (Bare (codes "policy") ∷ Bare (policy_text script.policy) ∷ [])
    ∷ chooser_lines script.chooser ++ flat_map program_lines script.programs

-- the canonical text of a script
abbrev pub canonical : Script → List ℕ
canonical script = flat_map line_text (script_lines script)
