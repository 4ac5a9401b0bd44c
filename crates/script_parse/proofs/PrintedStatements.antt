-- What a printed line says is what it was printed for.
use Rattle.std.proofs.Common.{append-nil, ◌≡◌, ◌<◌, ◌≤◌, ◌%◌, ◌^◌, ℕ, Bool, true, false, ◌==◌, List, [], ◌∷◌, ◌++◌, map, length, Option, None, Some, slice_get, Ok, Err, refl, sym, ap, ◌∙◌, subst, arith}
use Rattle.std.specs.Prelude.{not, ◌&&◌, nat_le, if◌then◌else◌, codes}
use Rattle.std.specs.List.{AllByRecursion}
use Rattle.std.proofs.lemmas.Bool.{and_parts}
use Rattle.std.proofs.lemmas.List.{length-map}
use Rattle.kabi_types.specs.Words.{word_of}
use Rattle.kabi_types.specs.declared.calls.CallKind.{CallKind}
use Rattle.kabi_types.specs.declared.calls.CallKind.TheVariants as kind
use Rattle.kabi_types.specs.declared.scripts.Chooser.TheVariants.{Choices, Seed}
use Rattle.kabi_types.specs.declared.scripts.FaultKind.TheVariants.{UnknownWord, OutOfRange}
use Rattle.kabi_types.specs.declared.scripts.Operand.{Operand}
use Rattle.kabi_types.specs.declared.scripts.Policy.{Policy}
use Rattle.kabi_types.specs.declared.scripts.Policy.TheVariants.{Heaviest, Youngest}
use Rattle.kabi_types.specs.declared.scripts.Statement.{Statement}
use Rattle.kabi_types.specs.declared.scripts.Statement.TheVariants as statement
use Rattle.kabi_types.specs.declared.scripts.Test.{Test}
use Rattle.kabi_types.specs.declared.scripts.Test.TheVariants.{Eq, Ne, Lt, Le}
use Rattle.posix_defs.specs.declared.said.AtTop.TheVariants as top
use Rattle.posix_defs.specs.declared.said.InProgram.TheVariants as inside
use Rattle.posix_defs.specs.declared.said.Setting.TheVariants as setting
use Rattle.posix_defs.specs.declared.said.Shape.{Shape}
use Rattle.posix_defs.specs.declared.said.Shape.TheVariants as shape
use Rattle.posix_defs.specs.declared.said.Spoken.{Spoken}
use Rattle.posix_defs.specs.declared.said.Spoken.TheVariants as spoken
use Rattle.posix_defs.specs.declared.said.Word.{Word}
use Rattle.posix_defs.specs.declared.said.Word.TheVariants.{Bare, Quoted}
use Rattle.posix_defs.specs.ScriptValues.{both, with, ◌>>=◌, each, is_word, register, value, is_name, name, path, stored}
use Rattle.posix_defs.specs.ScriptLines.{kind_said, shape_of, values_only, operands_said, at_most, invoked, call_of_kind, call_said, test_said, call_for_one, call_for_both, call_for_two, call_for, said_in_program, natural, choices_said, said_at_top}
use Rattle.posix_defs.specs.Canonical.{number_word, name_word, register_word, operand_word, test_text, policy_text, label_name, label_word, operand_words, target_words, statement_words}
use Rattle.posix_defs.specs.ValidScript.{IsRegister, IsOperand, IsBytes, IsPath, IsStored, IsValues, HasText, HasTwoPaths, IsPairs, Fits, AreTargets, IsLabel, IsStatement, IsChooser}
use Rattle.script_parse.proofs.Holds.{all_append}
use Rattle.script_parse.proofs.PrintedWords.{IsPrinted, IsLine}
use Rattle.script_parse.proofs.PrintedValues.{is_plain_word, plain_printed, number_printed, natural_read, register_read, register_printed, operand_read, operand_printed, operand_no_equals, name_read, name_printed}

-- lists of values

values_read : (values : List Operand) → AllByRecursion IsOperand values → each value (map operand_word values) ≡ Ok values
values_read [] all = refl
values_read (operand ∷ values) all =
    ap (λ said. with (λ p. p.0 ∷ p.1) (both said (each value (map operand_word values)))) (operand_read operand all.0)
    ∙ ap (λ rest. with (λ p. p.0 ∷ p.1) (both (Ok operand) rest)) (values_read values all.1)

-- the operands of a call

path_read : (text : List ℕ) → IsPath text → path (Quoted text) ≡ Ok text
path_read text is = ap (λ b. if b then Ok text else Err OutOfRange) is.0

stored_read : (text : List ℕ) → IsStored text → stored (Quoted text) ≡ Ok text
stored_read text is = ap (λ b. if b then Ok text else Err OutOfRange) (let fits : nat_le (length text) 64 ≡ true = grind (arith, is.0) in fits)

-- the operands of this shape are read as they were printed
abbrev ReadsOperands : Shape → List Operand → List (List ℕ) → Type 0
ReadsOperands shape values texts = operands_said shape (operand_words shape values texts) ≡ Ok (values, texts)

-- a list of one
alone : {A : Type 0} (list : List A) → length list ≡ 1 → (a : A) × (list ≡ a ∷ [])
alone [] one = absurd (omega (arith, one))
alone (a ∷ []) one = (a, refl)
alone (a ∷ b ∷ list) one = absurd (omega (arith, one))

nothing_in : {A : Type 0} (list : List A) → length list ≡ 0 → list ≡ []
nothing_in [] none = refl
nothing_in (a ∷ list) none = absurd (omega (arith, none))

values_words : (count : ℕ) (values : List Operand) (texts : List (List ℕ)) → AllByRecursion IsOperand values → IsValues count values texts
    → ReadsOperands (shape.Values count) values texts
values_words count values texts all fits =
    subst (λ t. ReadsOperands (shape.Values count) values t) (sym fits.texts_are)
    (ap (λ words. if length words == count then with values_only (each value words) else Err UnknownWord) (append-nil (map operand_word values))
    ∙ ap (λ b. if b then with values_only (each value (map operand_word values)) else Err UnknownWord)
    (let is : (length (map operand_word values) == count) ≡ true = grind (arith, length-map values operand_word, fits.values_are) in is)
    ∙ ap (with values_only) (values_read values all))

pairs_words : (values : List Operand) (texts : List (List ℕ)) → AllByRecursion IsOperand values → IsPairs values texts → ReadsOperands shape.Pairs values texts
pairs_words values texts all fits =
    subst (λ t. ReadsOperands shape.Pairs values t) (sym fits.texts_are)
    (ap (λ words. if length words % 2 == 1 then with values_only (each value words >>= at_most 17) else Err UnknownWord) (append-nil (map operand_word values))
    ∙ ap (λ n. if n % 2 == 1 then with values_only (each value (map operand_word values) >>= at_most 17) else Err UnknownWord) (length-map values operand_word)
    ∙ ap (λ n. if n == 1 then with values_only (each value (map operand_word values) >>= at_most 17) else Err UnknownWord) fits.pairs
    ∙ ap (λ said. with values_only (said >>= at_most 17)) (values_read values all)
    ∙ ap (λ b. with values_only (if b then Ok values else Err OutOfRange)) (let is : nat_le (length values) 17 ≡ true = grind (arith, fits.most) in is))

one_path_words : (values : List Operand) (texts : List (List ℕ)) → HasText IsPath 0 values texts → ReadsOperands shape.OnePath values texts
one_path_words values texts fits =
    subst (λ v. ReadsOperands shape.OnePath v texts) (sym (nothing_in values fits.values_are))
    (subst (λ t. ReadsOperands shape.OnePath [] t) (sym fits.texts_are) (ap (with (λ text. ([], text ∷ []))) (path_read fits.text fits.fits)))

two_paths_words : (values : List Operand) (texts : List (List ℕ)) → HasTwoPaths values texts → ReadsOperands shape.TwoPaths values texts
two_paths_words values texts fits =
    subst (λ v. ReadsOperands shape.TwoPaths v texts) (sym fits.values_are)
    (subst (λ t. ReadsOperands shape.TwoPaths [] t) (sym fits.texts_are)
    (ap (λ said. with (λ p. ([], p.0 ∷ p.1 ∷ [])) (both said (path (Quoted fits.new)))) (path_read fits.old fits.is_old)
    ∙ ap (λ said. with (λ p. ([], p.0 ∷ p.1 ∷ [])) (both (Ok fits.old) said)) (path_read fits.new fits.is_new)))

-- a value and a text
value_text_words : (of : Shape) (values : List Operand) (texts : List (List ℕ)) (is_text : List ℕ → Type 0) → HasText is_text 1 values texts → AllByRecursion IsOperand values
    → ((operand : Operand) (text : List ℕ) → IsOperand operand → is_text text → ReadsOperands of (operand ∷ []) (text ∷ [])) → ReadsOperands of values texts
value_text_words of values texts is_text fits all one =
    let only_value = alone values fits.values_are in
    subst (λ v. ReadsOperands of v texts) (sym only_value.1)
    (subst (λ t. ReadsOperands of (only_value.0 ∷ []) t) (sym fits.texts_are)
    (one only_value.0 fits.text (subst (AllByRecursion IsOperand) only_value.1 all).0 fits.fits))

pub operands_read : (of : Shape) (values : List Operand) (texts : List (List ℕ)) → AllByRecursion IsOperand values → Fits of values texts → ReadsOperands of values texts
operands_read (shape.Values count) values texts all fits = values_words count values texts all fits
operands_read shape.OnePath values texts all fits = one_path_words values texts fits
operands_read shape.TwoPaths values texts all fits = two_paths_words values texts fits
operands_read shape.Pairs values texts all fits = pairs_words values texts all fits
operands_read shape.PathValue values texts all fits =
    value_text_words shape.PathValue values texts IsPath fits all (λ operand text is_value is_text.
    ap (λ said. with (λ p. (p.1 ∷ [], p.0 ∷ [])) (both said (value (operand_word operand)))) (path_read text is_text)
    ∙ ap (λ said. with (λ p. (p.1 ∷ [], p.0 ∷ [])) (both (Ok text) said)) (operand_read operand is_value))
operands_read shape.ValuePath values texts all fits =
    value_text_words shape.ValuePath values texts IsPath fits all (λ operand text is_value is_text.
    ap (λ said. with (λ p. (p.0 ∷ [], p.1 ∷ [])) (both said (path (Quoted text)))) (operand_read operand is_value)
    ∙ ap (λ said. with (λ p. (p.0 ∷ [], p.1 ∷ [])) (both (Ok operand) said)) (path_read text is_text))
operands_read shape.ValueBytes values texts all fits =
    value_text_words shape.ValueBytes values texts IsStored fits all (λ operand text is_value is_text.
    ap (λ said. with (λ p. (p.0 ∷ [], p.1 ∷ [])) (both said (stored (Quoted text)))) (operand_read operand is_value)
    ∙ ap (λ said. with (λ p. (p.0 ∷ [], p.1 ∷ [])) (both (Ok operand) said)) (stored_read text is_text))

-- a word that may begin a line, tested by computing
abbrev pub is_first_word : List ℕ → Bool
is_first_word [] = false
is_first_word (first ∷ word) = not (first == 35) && is_plain_word (first ∷ word)

first_printed : (word : List ℕ) → is_first_word word ≡ true → IsPrinted (Bare word)
first_printed [] is = absurd (let wrong : false ≡ true = is in cc)
first_printed (first ∷ word) is = plain_printed (first ∷ word) (and_parts (not (first == 35)) (is_plain_word (first ∷ word)) is).1

first_line : (word : List ℕ) (words : List Word) → is_first_word word ≡ true → AllByRecursion IsPrinted words → IsLine (Bare word ∷ words)
first_line [] words is all = absurd (let wrong : false ≡ true = is in cc)
first_line (first ∷ word) words is all =
    let parts = and_parts (not (first == 35)) (is_plain_word (first ∷ word)) is in (
      (λ same. let yes : (first == 35) ≡ true = grind (arith, same) in
          let wrong : false ≡ true = sym (ap not yes) ∙ parts.0 in cc),
      (plain_printed (first ∷ word) parts.1, all),
    )

register_line : (r : ℕ) (words : List Word) → IsRegister r → AllByRecursion IsPrinted words → IsLine (register_word r ∷ words)
register_line r words is all = ((λ same. omega (arith, same)), (register_printed r is, all))

-- calls: each has a word of its own, which begins no other statement

pub kind_read : (call : CallKind) → kind_said (Bare (word_of call)) ≡ Some call
kind_read kind.Getpid = refl
kind_read _ = refl

pub call_alone : (call : CallKind) (words : List Word) → said_in_program (Bare (word_of call) ∷ words) ≡ with inside.Says (call_for (Bare (word_of call)) words)
call_alone kind.Getpid words = refl
call_alone _ words = refl

call_first : (call : CallKind) → is_first_word (word_of call) ≡ true
call_first kind.Getpid = refl
call_first _ = refl

-- no operand is a sign of equality, so that no register is taken to stand before it

abbrev AreNoEquals : List Word → Type 0
AreNoEquals words = AllByRecursion (λ word. is_word (codes "=") word ≡ false) words

pub values_no_equals : (values : List Operand) → AllByRecursion IsOperand values → AreNoEquals (map operand_word values)
values_no_equals [] all = tt
values_no_equals (operand ∷ values) all = (operand_no_equals operand all.0, values_no_equals values all.1)

pub texts_no_equals : (texts : List (List ℕ)) → AreNoEquals (map Quoted texts)
texts_no_equals [] = tt
texts_no_equals (text ∷ texts) = (refl, texts_no_equals texts)

-- what holds of each printed value and text holds of each operand
pub operands_all : (P : Word → Type 0) (of : Shape) (values : List Operand) (texts : List (List ℕ)) → AllByRecursion P (map operand_word values)
    → AllByRecursion P (map Quoted texts) → AllByRecursion P (operand_words of values texts)
operands_all P shape.PathValue values texts first second = all_append P (map Quoted texts) (map operand_word values) second first
operands_all P (shape.Values count) values texts first second = all_append P (map operand_word values) (map Quoted texts) first second
operands_all P shape.OnePath values texts first second = all_append P (map operand_word values) (map Quoted texts) first second
operands_all P shape.TwoPaths values texts first second = all_append P (map operand_word values) (map Quoted texts) first second
operands_all P shape.ValuePath values texts first second = all_append P (map operand_word values) (map Quoted texts) first second
operands_all P shape.ValueBytes values texts first second = all_append P (map operand_word values) (map Quoted texts) first second
operands_all P shape.Pairs values texts first second = all_append P (map operand_word values) (map Quoted texts) first second

pub call_for_plain : (first : Word) (words : List Word) → AreNoEquals words → call_for first words ≡ call_said None None (first ∷ words)
call_for_plain first [] none = refl
call_for_plain first (second ∷ []) none = ap (λ b. if b then call_for_one first [] else call_for_two first second []) none.0
call_for_plain first (second ∷ third ∷ words) none =
    ap (λ b. if b then call_for_one first (third ∷ words) else call_for_two first second (third ∷ words)) none.0
    ∙ ap (λ b. if b then call_for_both first second words else call_said None None (first ∷ second ∷ third ∷ words)) none.1.0

-- the texts of a call are made of bytes

abbrev AreBytes : List (List ℕ) → Type 0
AreBytes texts = AllByRecursion IsBytes texts

pub texts_bytes : (of : Shape) (values : List Operand) (texts : List (List ℕ)) → Fits of values texts → AreBytes texts
texts_bytes (shape.Values count) values texts fits = subst AreBytes (sym fits.texts_are) tt
texts_bytes shape.OnePath values texts fits = subst AreBytes (sym fits.texts_are) (fits.fits.1, tt)
texts_bytes shape.TwoPaths values texts fits = subst AreBytes (sym fits.texts_are) (fits.is_old.1, (fits.is_new.1, tt))
texts_bytes shape.PathValue values texts fits = subst AreBytes (sym fits.texts_are) (fits.fits.1, tt)
texts_bytes shape.ValuePath values texts fits = subst AreBytes (sym fits.texts_are) (fits.fits.1, tt)
texts_bytes shape.ValueBytes values texts fits = subst AreBytes (sym fits.texts_are) (fits.fits.1, tt)
texts_bytes shape.Pairs values texts fits = subst AreBytes (sym fits.texts_are) tt

pub texts_printed : (texts : List (List ℕ)) → AreBytes texts → AllByRecursion IsPrinted (map Quoted texts)
texts_printed [] all = tt
texts_printed (text ∷ texts) all = (all.0, texts_printed texts all.1)

pub values_printed : (values : List Operand) → AllByRecursion IsOperand values → AllByRecursion IsPrinted (map operand_word values)
values_printed [] all = tt
values_printed (operand ∷ values) all = (operand_printed operand all.0, values_printed values all.1)

-- a call behind its registers, as its words say it
call_read : (first second : Option ℕ) (call : CallKind) (values : List Operand) (texts : List (List ℕ)) → AllByRecursion IsOperand values
    → Fits (shape_of call) values texts
    → call_said first second (Bare (word_of call) ∷ operand_words (shape_of call) values texts) ≡ Ok (spoken.Whole (statement.Invoke call values texts first second))
call_read first second call values texts all fits =
    ap (λ found. call_of_kind first second found (operand_words (shape_of call) values texts)) (kind_read call)
    ∙ ap (with (invoked call first second)) (operands_read (shape_of call) values texts all fits)

-- statements

-- a statement as its line says it
abbrev pub spoken_as : List Statement → Statement → Spoken
spoken_as body (statement.Set register value) = spoken.Whole (statement.Set register value)
spoken_as body (statement.Add register value) = spoken.Whole (statement.Add register value)
spoken_as body (statement.If left test right place) = spoken.If left test right (label_name (slice_get body place))
spoken_as body (statement.Jump place) = spoken.Jump (label_name (slice_get body place))
spoken_as body (statement.Label name) = spoken.Label name
spoken_as body (statement.Loop register place) = spoken.Loop register (label_name (slice_get body place))
spoken_as body (statement.Invoke call values texts first second) = spoken.Whole (statement.Invoke call values texts first second)

-- the labels of a program have names
abbrev pub AreNamed : List Statement → Type 0
AreNamed body = (place : ℕ) → IsLabel body place → is_name (label_name (slice_get body place)) ≡ true

test_read : (test : Test) → test_said (Bare (test_text test)) ≡ Ok test
test_read Eq = refl
test_read Ne = refl
test_read Lt = refl
test_read Le = refl

test_plain : (test : Test) → is_plain_word (test_text test) ≡ true
test_plain Eq = refl
test_plain Ne = refl
test_plain Lt = refl
test_plain Le = refl

invoke_read : (body : List Statement) (call : CallKind) (values : List Operand) (texts : List (List ℕ)) (first second : Option ℕ)
    → AllByRecursion IsOperand values → Fits (shape_of call) values texts → AreTargets first second
    → said_in_program (statement_words body (statement.Invoke call values texts first second)) ≡ Ok (inside.Says (spoken.Whole (statement.Invoke call values texts first second)))
invoke_read body call values texts None None all fits targets =
    let words = operand_words (shape_of call) values texts in
    call_alone call words
    ∙ ap (with inside.Says) (call_for_plain (Bare (word_of call)) words
    (operands_all (λ word. is_word (codes "=") word ≡ false) (shape_of call) values texts (values_no_equals values all) (texts_no_equals texts)))
    ∙ ap (with inside.Says) (call_read None None call values texts all fits)
invoke_read body call values texts None (Some b) all fits targets = absurd (let wrong : false ≡ true = targets.0 in cc)
invoke_read body call values texts (Some a) None all fits targets =
    ap (λ said. with inside.Says (said >>= λ a. call_said (Some a) None (Bare (word_of call) ∷ operand_words (shape_of call) values texts))) (register_read a targets)
    ∙ ap (with inside.Says) (call_read (Some a) None call values texts all fits)
invoke_read body call values texts (Some a) (Some b) all fits targets =
    ap (λ said. with inside.Says (said >>= λ a. register (register_word b) >>= λ b. call_said (Some a) (Some b) (Bare (word_of call) ∷ operand_words (shape_of call) values texts)))
    (register_read a targets.1)
    ∙ ap (λ said. with inside.Says (said >>= λ b. call_said (Some a) (Some b) (Bare (word_of call) ∷ operand_words (shape_of call) values texts))) (register_read b targets.2)
    ∙ ap (with inside.Says) (call_read (Some a) (Some b) call values texts all fits)

pub statement_read : (body : List Statement) (at : ℕ) (s : Statement) → AreNamed body → IsStatement body at s
    → said_in_program (statement_words body s) ≡ Ok (inside.Says (spoken_as body s))
statement_read body at (statement.Set r v) named is =
    ap (λ said. with inside.Says (said >>= λ r. value (operand_word v) >>= λ v. Ok (spoken.Whole (statement.Set r v)))) (register_read r is.0)
    ∙ ap (λ said. with inside.Says (said >>= λ v. Ok (spoken.Whole (statement.Set r v)))) (operand_read v is.1)
statement_read body at (statement.Add r v) named is =
    ap (λ said. with inside.Says (said >>= λ r. value (operand_word v) >>= λ v. Ok (spoken.Whole (statement.Add r v)))) (register_read r is.0)
    ∙ ap (λ said. with inside.Says (said >>= λ v. Ok (spoken.Whole (statement.Add r v)))) (operand_read v is.1)
statement_read body at (statement.If left test right place) named is =
    ap (λ said. with inside.Says (said >>= λ t. name (label_word body place) >>= λ l. both (value (operand_word left)) (value (operand_word right)) >>= λ p. Ok (spoken.If p.0 t p.1 l)))
    (test_read test)
    ∙ ap (λ said. with inside.Says (said >>= λ l. both (value (operand_word left)) (value (operand_word right)) >>= λ p. Ok (spoken.If p.0 test p.1 l)))
    (name_read (label_name (slice_get body place)) (named place is.3))
    ∙ ap (λ said. with inside.Says (both said (value (operand_word right)) >>= λ p. Ok (spoken.If p.0 test p.1 (label_name (slice_get body place))))) (operand_read left is.0)
    ∙ ap (λ said. with inside.Says (both (Ok left) said >>= λ p. Ok (spoken.If p.0 test p.1 (label_name (slice_get body place))))) (operand_read right is.1)
statement_read body at (statement.Jump place) named is =
    ap (λ said. with inside.Says (with spoken.Jump said)) (name_read (label_name (slice_get body place)) (named place is.1))
statement_read body at (statement.Label label) named is = ap (λ said. with inside.Says (with spoken.Label said)) (name_read label is.0)
statement_read body at (statement.Loop r place) named is =
    ap (λ said. with inside.Says (said >>= λ r. name (label_word body place) >>= λ l. Ok (spoken.Loop r l))) (register_read r is.0)
    ∙ ap (λ said. with inside.Says (said >>= λ l. Ok (spoken.Loop r l))) (name_read (label_name (slice_get body place)) (named place is.2))
statement_read body at (statement.Invoke call values texts first second) named is = invoke_read body call values texts first second is.0 is.1 is.2

-- the words of a printed statement

pub target_line : (first second : Option ℕ) (call : CallKind) (words : List Word) → AreTargets first second → AllByRecursion IsPrinted words
    → IsLine (target_words first second ++ Bare (word_of call) ∷ words)
target_line None None call words targets all = first_line (word_of call) words (call_first call) all
target_line None (Some b) call words targets all = absurd (let wrong : false ≡ true = targets.0 in cc)
target_line (Some a) None call words targets all =
    register_line a (Bare (codes "=") ∷ Bare (word_of call) ∷ words) targets
    (plain_printed (codes "=") refl, (first_printed (word_of call) (call_first call), all))
target_line (Some a) (Some b) call words targets all =
    register_line a (register_word b ∷ Bare (codes "=") ∷ Bare (word_of call) ∷ words) targets.1
    (register_printed b targets.2, (plain_printed (codes "=") refl, (first_printed (word_of call) (call_first call), all)))

pub statement_line : (body : List Statement) (at : ℕ) (s : Statement) → AreNamed body → IsStatement body at s → IsLine (statement_words body s)
statement_line body at (statement.Set r v) named is = first_line (codes "set") (register_word r ∷ operand_word v ∷ []) refl (register_printed r is.0, (operand_printed v is.1, tt))
statement_line body at (statement.Add r v) named is = first_line (codes "add") (register_word r ∷ operand_word v ∷ []) refl (register_printed r is.0, (operand_printed v is.1, tt))
statement_line body at (statement.If left test right place) named is =
    first_line (codes "if") (operand_word left ∷ Bare (test_text test) ∷ operand_word right ∷ label_word body place ∷ []) refl
    (operand_printed left is.0, (plain_printed (test_text test) (test_plain test), (operand_printed right is.1, (name_printed (label_name (slice_get body place)) (named place is.3), tt))))
statement_line body at (statement.Jump place) named is = first_line (codes "jump") (label_word body place ∷ []) refl (name_printed (label_name (slice_get body place)) (named place is.1), tt)
statement_line body at (statement.Label label) named is = first_line (codes "label") (name_word label ∷ []) refl (name_printed label is.0, tt)
statement_line body at (statement.Loop r place) named is =
    first_line (codes "loop") (register_word r ∷ label_word body place ∷ []) refl (register_printed r is.0, (name_printed (label_name (slice_get body place)) (named place is.2), tt))
statement_line body at (statement.Invoke call values texts first second) named is =
    target_line first second call (operand_words (shape_of call) values texts) is.2
    (operands_all IsPrinted (shape_of call) values texts (values_printed values is.0) (texts_printed texts (texts_bytes (shape_of call) values texts is.1)))

-- lines outside programs

abbrev IsChoice : ℕ → Type 0
IsChoice n = n ≤ 4294967295

choices_each : (choices : List ℕ) → AllByRecursion IsChoice choices → each (natural 0 4294967295) (map number_word choices) ≡ Ok choices
choices_each [] all = refl
choices_each (n ∷ choices) all =
    ap (λ said. with (λ p. p.0 ∷ p.1) (both said (each (natural 0 4294967295) (map number_word choices)))) (natural_read 0 4294967295 n (omega arith) all.0 (omega arith))
    ∙ ap (λ rest. with (λ p. p.0 ∷ p.1) (both (Ok n) rest)) (choices_each choices all.1)

choices_read : (choices : List ℕ) → IsChooser (Choices choices) → choices_said (map number_word choices) ≡ Ok choices
choices_read [] is = absurd (omega (arith, is.0))
choices_read (n ∷ choices) is =
    ap (λ said. said >>= at_most 1000) (choices_each (n ∷ choices) is.2)
    ∙ ap (λ b. if b then Ok (n ∷ choices) else Err OutOfRange) (let few : nat_le (length (n ∷ choices)) 1000 ≡ true = grind (arith, is.1) in few)

pub heap_read : (n : ℕ) → 8192 ≤ n → n ≤ 8388608 → said_at_top (Bare (codes "heap") ∷ number_word n ∷ []) ≡ Ok (top.Sets (setting.Heap n))
heap_read n low high = ap (with (λ n. top.Sets (setting.Heap n))) (natural_read 8192 8388608 n low high (omega arith))

pub disk_read : (n : ℕ) → 16 ≤ n → n ≤ 4096 → said_at_top (Bare (codes "disk") ∷ number_word n ∷ []) ≡ Ok (top.Sets (setting.Disk n))
disk_read n low high = ap (with (λ n. top.Sets (setting.Disk n))) (natural_read 16 4096 n low high (omega arith))

pub steps_read : (n : ℕ) → 1 ≤ n → n ≤ 100000 → said_at_top (Bare (codes "steps") ∷ number_word n ∷ []) ≡ Ok (top.Sets (setting.Steps n))
steps_read n low high = ap (with (λ n. top.Sets (setting.Steps n))) (natural_read 1 100000 n low high (omega arith))

pub policy_read : (p : Policy) → said_at_top (Bare (codes "policy") ∷ Bare (policy_text p) ∷ []) ≡ Ok (top.Sets (setting.Victims p))
policy_read Heaviest = refl
policy_read Youngest = refl

pub choosing_read : (choices : List ℕ) → IsChooser (Choices choices)
    → said_at_top (Bare (codes "choices") ∷ map number_word choices) ≡ Ok (top.Sets (setting.Choosing (Choices choices)))
choosing_read choices is = ap (with (λ c. top.Sets (setting.Choosing (Choices c)))) (choices_read choices is)

pub seed_read : (n : ℕ) → n ≤ 2147483647 → said_at_top (Bare (codes "seed") ∷ number_word n ∷ []) ≡ Ok (top.Sets (setting.Choosing (Seed n)))
seed_read n high = ap (with (λ n. top.Sets (setting.Choosing (Seed n)))) (natural_read 0 2147483647 n (omega arith) high (omega arith))

pub program_read : (said : List ℕ) → is_name said ≡ true → said_at_top (Bare (codes "program") ∷ name_word said ∷ []) ≡ Ok (top.Begins said)
program_read said is = ap (with top.Begins) (name_read said is)

-- a line of a word and a number
pub number_line : (word : List ℕ) (n : ℕ) → is_first_word word ≡ true → n < 2 ^ 64 → IsLine (Bare word ∷ number_word n ∷ [])
number_line word n is small = first_line word (number_word n ∷ []) is (number_printed n small, tt)

pub policy_line : (p : Policy) → IsLine (Bare (codes "policy") ∷ Bare (policy_text p) ∷ [])
policy_line Heaviest = first_line (codes "policy") (Bare (codes "heaviest") ∷ []) refl (plain_printed (codes "heaviest") refl, tt)
policy_line Youngest = first_line (codes "policy") (Bare (codes "youngest") ∷ []) refl (plain_printed (codes "youngest") refl, tt)

numbers_printed : (choices : List ℕ) → AllByRecursion IsChoice choices → AllByRecursion IsPrinted (map number_word choices)
numbers_printed [] all = tt
numbers_printed (n ∷ choices) all = (number_printed n (omega (arith, all.0)), numbers_printed choices all.1)

pub choices_line : (choices : List ℕ) → IsChooser (Choices choices) → IsLine (Bare (codes "choices") ∷ map number_word choices)
choices_line choices is = first_line (codes "choices") (map number_word choices) refl (numbers_printed choices is.2)

pub program_line : (said : List ℕ) → is_name said ≡ true → IsLine (Bare (codes "program") ∷ name_word said ∷ [])
program_line said is = first_line (codes "program") (name_word said ∷ []) refl (name_printed said is, tt)

pub end_line : IsLine (Bare (codes "end") ∷ [])
end_line = first_line (codes "end") [] refl tt
