-- What a line of a script says keeps the promises of a script.
use Rattle.std.proofs.Common.{◌≡◌, ◌≤◌, ◌%◌, ℕ, true, ◌==◌, List, [], ◌∷◌, length, Option, None, Some, Result, Ok, Err, IfOk, refl, arith}
use Rattle.std.specs.Prelude.{⊤, nat_le, codes}
use Rattle.std.specs.List.{AllByRecursion}
use Rattle.kabi_types.specs.declared.calls.CallKind.{CallKind}
use Rattle.kabi_types.specs.declared.scripts.Chooser.TheVariants.{Choices, Seed}
use Rattle.kabi_types.specs.declared.scripts.FaultKind.{FaultKind}
use Rattle.kabi_types.specs.declared.scripts.Operand.{Operand}
use Rattle.kabi_types.specs.declared.scripts.Statement.{Statement}
use Rattle.kabi_types.specs.declared.scripts.Statement.TheVariants as statement
use Rattle.posix_defs.specs.declared.said.AtTop.{AtTop}
use Rattle.posix_defs.specs.declared.said.AtTop.TheVariants as top
use Rattle.posix_defs.specs.declared.said.InProgram.{InProgram}
use Rattle.posix_defs.specs.declared.said.InProgram.TheVariants as inside
use Rattle.posix_defs.specs.declared.said.Setting.{Setting}
use Rattle.posix_defs.specs.declared.said.Setting.TheVariants as setting
use Rattle.posix_defs.specs.declared.said.Shape.{Shape}
use Rattle.posix_defs.specs.declared.said.Shape.TheVariants as shape
use Rattle.posix_defs.specs.declared.said.Spoken.{Spoken}
use Rattle.posix_defs.specs.declared.said.Spoken.TheVariants as spoken
use Rattle.posix_defs.specs.declared.said.Word.{Word}
use Rattle.posix_defs.specs.ScriptValues.{both, with, ◌>>=◌, each, is_word, register, value, is_name, name, path, stored}
use Rattle.posix_defs.specs.ScriptLines.{kind_said, shape_of, CallOperands, values_only, counted, one_path, two_paths, path_value, value_path, value_bytes, at_most, pairs, operands_said, invoked, call_of_kind, call_said, set_said, add_said, test_said, if_said, jump_said, label_said, loop_said, call_for_one, call_for_both, call_for_two, call_for, statement_said, alone, said_in_program, natural, only, policy_said, choices_said, top_said, said_at_top}
use Rattle.posix_defs.specs.ValidScript.{IsRegister, IsOperand, IsPath, IsStored, Fits, AreTargets, IsChooser}
use Rattle.script_parse.proofs.Holds.{any, when, with_holds, then_holds, both_hold, AreAll, each_holds}
use Rattle.script_parse.proofs.ValidWords.{IsTextWord}
use Rattle.script_parse.proofs.ValidValues.{register_is, natural_is, value_is, name_is, path_is, stored_is}

abbrev AreTextWords : List Word → Type 0
AreTextWords words = AllByRecursion IsTextWord words

-- the operands of a call

abbrev Operates : Shape → CallOperands → Type 0
Operates shape operands = AllByRecursion IsOperand operands.0 × Fits shape operands.0 operands.1

abbrev Operands : Shape → Result CallOperands FaultKind → Type 0
Operands shape said = IfOk said (Operates shape)

all_values : (words : List Word) → IfOk (each value words) (AreAll IsOperand words)
all_values words = each_holds IsOperand value value_is words

counted_fit : (count : ℕ) (words : List Word) → Operands (shape.Values count) (counted count words)
counted_fit count words =
    when (Operands (shape.Values count)) (length words == count) _ _
    (λ is. with_holds (AreAll IsOperand words) (Operates (shape.Values count)) values_only (each value words)
    (λ values all. (all.0, record { values_are = omega (arith, all.1, (let k : length words ≡ count = grind (arith, is) in k)); texts_are = refl })) (all_values words))
    (λ _. tt)

one_path_fits : (words : List Word) → AreTextWords words → Operands shape.OnePath (one_path words)
one_path_fits [] bytes = tt
one_path_fits (word ∷ []) bytes =
    with_holds IsPath (Operates shape.OnePath) (λ text. ([], text ∷ [])) (path word)
    (λ text is. (tt, record { text = text; values_are = refl; texts_are = refl; fits = is })) (path_is word bytes.0)
one_path_fits (word ∷ more ∷ words) bytes = tt

two_paths_fit : (words : List Word) → AreTextWords words → Operands shape.TwoPaths (two_paths words)
two_paths_fit [] bytes = tt
two_paths_fit (first ∷ []) bytes = tt
two_paths_fit (first ∷ second ∷ []) bytes =
    with_holds (λ p. IsPath p.0 × IsPath p.1) (Operates shape.TwoPaths) (λ p. ([], p.0 ∷ p.1 ∷ [])) (both (path first) (path second))
    (λ p is. (tt, record { old = p.0; new = p.1; values_are = refl; texts_are = refl; is_old = is.0; is_new = is.1 }))
    (both_hold IsPath IsPath (path first) (path second) (path_is first bytes.0) (path_is second bytes.1.0))
two_paths_fit (first ∷ second ∷ more ∷ words) bytes = tt

path_value_fits : (words : List Word) → AreTextWords words → Operands shape.PathValue (path_value words)
path_value_fits [] bytes = tt
path_value_fits (first ∷ []) bytes = tt
path_value_fits (first ∷ second ∷ []) bytes =
    with_holds (λ p. IsPath p.0 × IsOperand p.1) (Operates shape.PathValue) (λ p. (p.1 ∷ [], p.0 ∷ [])) (both (path first) (value second))
    (λ p is. ((is.1, tt), record { text = p.0; values_are = refl; texts_are = refl; fits = is.0 }))
    (both_hold IsPath IsOperand (path first) (value second) (path_is first bytes.0) (value_is second))
path_value_fits (first ∷ second ∷ more ∷ words) bytes = tt

value_path_fits : (words : List Word) → AreTextWords words → Operands shape.ValuePath (value_path words)
value_path_fits [] bytes = tt
value_path_fits (first ∷ []) bytes = tt
value_path_fits (first ∷ second ∷ []) bytes =
    with_holds (λ p. IsOperand p.0 × IsPath p.1) (Operates shape.ValuePath) (λ p. (p.0 ∷ [], p.1 ∷ [])) (both (value first) (path second))
    (λ p is. ((is.0, tt), record { text = p.1; values_are = refl; texts_are = refl; fits = is.1 }))
    (both_hold IsOperand IsPath (value first) (path second) (value_is first) (path_is second bytes.1.0))
value_path_fits (first ∷ second ∷ more ∷ words) bytes = tt

value_bytes_fit : (words : List Word) → AreTextWords words → Operands shape.ValueBytes (value_bytes words)
value_bytes_fit [] bytes = tt
value_bytes_fit (first ∷ []) bytes = tt
value_bytes_fit (first ∷ second ∷ []) bytes =
    with_holds (λ p. IsOperand p.0 × IsStored p.1) (Operates shape.ValueBytes) (λ p. (p.0 ∷ [], p.1 ∷ [])) (both (value first) (stored second))
    (λ p is. ((is.0, tt), record { text = p.1; values_are = refl; texts_are = refl; fits = is.1 }))
    (both_hold IsOperand IsStored (value first) (stored second) (value_is first) (stored_is second bytes.1.0))
value_bytes_fit (first ∷ second ∷ more ∷ words) bytes = tt

-- a list that is short enough keeps what holds of it
short : {A : Type 0} (P : List A → Type 0) (most : ℕ) (list : List A) → P list → IfOk (at_most most list) (λ list. P list × (length list ≤ most))
short P most list holds =
    when (λ r. IfOk r (λ list. P list × (length list ≤ most))) (nat_le (length list) most) _ _ (λ is. (holds, grind (arith, is))) (λ _. tt)

pairs_fit : (words : List Word) → Operands shape.Pairs (pairs words)
pairs_fit words =
    when (Operands shape.Pairs) (length words % 2 == 1) _ _
    (λ is. with_holds (λ values. AreAll IsOperand words values × (length values ≤ 17)) (Operates shape.Pairs) values_only (each value words >>= at_most 17)
    (λ values all. (all.0.0, record { pairs = odd values is all.0.1; most = all.1; texts_are = refl }))
    (then_holds (AreAll IsOperand words) (λ values. AreAll IsOperand words values × (length values ≤ 17)) (each value words) (at_most 17)
    (all_values words) (λ values all. short (AreAll IsOperand words) 17 values all)))
    (λ _. tt)
  where
    odd : (values : List Operand) → (length words % 2 == 1) ≡ true → length values ≡ length words → length values % 2 ≡ 1
    odd values is same = omega (arith, same, (let k : length words % 2 ≡ 1 = grind (arith, is) in k))

operands_fit : (shape : Shape) (words : List Word) → AreTextWords words → Operands shape (operands_said shape words)
operands_fit (shape.Values count) words bytes = counted_fit count words
operands_fit shape.OnePath words bytes = one_path_fits words bytes
operands_fit shape.TwoPaths words bytes = two_paths_fit words bytes
operands_fit shape.PathValue words bytes = path_value_fits words bytes
operands_fit shape.ValuePath words bytes = value_path_fits words bytes
operands_fit shape.ValueBytes words bytes = value_bytes_fit words bytes
operands_fit shape.Pairs words bytes = pairs_fit words

-- what a statement that names no place promises; no other stands alone
abbrev pub IsWhole : Statement → Type 0
IsWhole (statement.Set register value) = IsRegister register × IsOperand value
IsWhole (statement.Add register value) = IsRegister register × IsOperand value
IsWhole (statement.Invoke kind values texts first second) =
    AllByRecursion IsOperand values × Fits (shape_of kind) values texts × AreTargets first second
IsWhole (statement.If _ _ _ _) = ⊥
IsWhole (statement.Jump _) = ⊥
IsWhole (statement.Label _) = ⊥
IsWhole (statement.Loop _ _) = ⊥

-- what a statement promises before its label is looked up
abbrev pub IsSpoken : Spoken → Type 0
IsSpoken (spoken.Whole said) = IsWhole said
IsSpoken (spoken.If left test right label) = IsOperand left × IsOperand right
IsSpoken (spoken.Jump label) = ⊤
IsSpoken (spoken.Label label) = is_name label ≡ true
IsSpoken (spoken.Loop register label) = IsRegister register

abbrev Speaks : Result Spoken FaultKind → Type 0
Speaks said = IfOk said IsSpoken

kind_fits : (first second : Option ℕ) (kind : Option CallKind) (words : List Word) → AreTargets first second → AreTextWords words
    → Speaks (call_of_kind first second kind words)
kind_fits first second None words targets bytes = tt
kind_fits first second (Some kind) words targets bytes =
    with_holds (Operates (shape_of kind)) IsSpoken (invoked kind first second) (operands_said (shape_of kind) words)
    (λ operands fit. (fit.0, fit.1, targets)) (operands_fit (shape_of kind) words bytes)

call_fits : (first second : Option ℕ) (words : List Word) → AreTargets first second → AreTextWords words → Speaks (call_said first second words)
call_fits first second [] targets bytes = tt
call_fits first second (word ∷ words) targets bytes = kind_fits first second (kind_said word) words targets bytes.1

set_fits : (words : List Word) → Speaks (set_said words)
set_fits [] = tt
set_fits (target ∷ []) = tt
set_fits (target ∷ amount ∷ []) =
    then_holds IsRegister IsSpoken (register target) (λ r. value amount >>= λ v. Ok (spoken.Whole (statement.Set r v))) (register_is target)
    (λ r is. then_holds IsOperand IsSpoken (value amount) (λ v. Ok (spoken.Whole (statement.Set r v))) (value_is amount) (λ v of. (is, of)))
set_fits (target ∷ amount ∷ more ∷ words) = tt

add_fits : (words : List Word) → Speaks (add_said words)
add_fits [] = tt
add_fits (target ∷ []) = tt
add_fits (target ∷ amount ∷ []) =
    then_holds IsRegister IsSpoken (register target) (λ r. value amount >>= λ v. Ok (spoken.Whole (statement.Add r v))) (register_is target)
    (λ r is. then_holds IsOperand IsSpoken (value amount) (λ v. Ok (spoken.Whole (statement.Add r v))) (value_is amount) (λ v of. (is, of)))
add_fits (target ∷ amount ∷ more ∷ words) = tt

if_fits : (words : List Word) → Speaks (if_said words)
if_fits [] = tt
if_fits (left ∷ []) = tt
if_fits (left ∷ test ∷ []) = tt
if_fits (left ∷ test ∷ right ∷ []) = tt
if_fits (left ∷ test ∷ right ∷ label ∷ []) =
    then_holds (λ _. ⊤) IsSpoken (test_said test) (λ t. name label >>= λ l. both (value left) (value right) >>= λ p. Ok (spoken.If p.0 t p.1 l)) (any (test_said test))
    (λ t _. then_holds (λ _. ⊤) IsSpoken (name label) (λ l. both (value left) (value right) >>= λ p. Ok (spoken.If p.0 t p.1 l)) (any (name label))
    (λ l _. then_holds (λ p. IsOperand p.0 × IsOperand p.1) IsSpoken (both (value left) (value right)) (λ p. Ok (spoken.If p.0 t p.1 l))
    (both_hold IsOperand IsOperand (value left) (value right) (value_is left) (value_is right)) (λ p is. is)))
if_fits (left ∷ test ∷ right ∷ label ∷ more ∷ words) = tt

jump_fits : (words : List Word) → Speaks (jump_said words)
jump_fits [] = tt
jump_fits (label ∷ []) = with_holds (λ _. ⊤) IsSpoken spoken.Jump (name label) (λ _ _. tt) (any (name label))
jump_fits (label ∷ more ∷ words) = tt

label_fits : (words : List Word) → Speaks (label_said words)
label_fits [] = tt
label_fits (label ∷ []) = with_holds (λ said. is_name said ≡ true) IsSpoken spoken.Label (name label) (λ _ is. is) (name_is label)
label_fits (label ∷ more ∷ words) = tt

loop_fits : (words : List Word) → Speaks (loop_said words)
loop_fits [] = tt
loop_fits (counter ∷ []) = tt
loop_fits (counter ∷ label ∷ []) =
    then_holds IsRegister IsSpoken (register counter) (λ r. name label >>= λ l. Ok (spoken.Loop r l)) (register_is counter)
    (λ r is. then_holds (λ _. ⊤) IsSpoken (name label) (λ l. Ok (spoken.Loop r l)) (any (name label)) (λ _ _. is))
loop_fits (counter ∷ label ∷ more ∷ words) = tt

one_fits : (first : Word) (call : List Word) → AreTextWords call → Speaks (call_for_one first call)
one_fits first call bytes =
    then_holds IsRegister IsSpoken (register first) (λ a. call_said (Some a) None call) (register_is first) (λ a is. call_fits (Some a) None call is bytes)

both_fit : (first second : Word) (call : List Word) → AreTextWords call → Speaks (call_for_both first second call)
both_fit first second call bytes =
    then_holds IsRegister IsSpoken (register first) (λ a. register second >>= λ b. call_said (Some a) (Some b) call) (register_is first)
    (λ a is. then_holds IsRegister IsSpoken (register second) (λ b. call_said (Some a) (Some b) call) (register_is second)
    (λ b of. call_fits (Some a) (Some b) call (refl, is, of) bytes))

two_fit : (first second : Word) (words : List Word) → AreTextWords (first ∷ second ∷ words) → Speaks (call_for_two first second words)
two_fit first second [] bytes = call_fits None None (first ∷ second ∷ []) tt bytes
two_fit first second (equals ∷ call) bytes =
    when Speaks (is_word (codes "=") equals) _ _ (λ _. both_fit first second call bytes.1.1.1) (λ _. call_fits None None (first ∷ second ∷ equals ∷ call) tt bytes)

for_fits : (first : Word) (words : List Word) → AreTextWords (first ∷ words) → Speaks (call_for first words)
for_fits first [] bytes = call_fits None None (first ∷ []) tt bytes
for_fits first (equals ∷ call) bytes =
    when Speaks (is_word (codes "=") equals) _ _ (λ _. one_fits first call bytes.1.1) (λ _. two_fit first equals call bytes)

statement_fits : (first : Word) (words : List Word) → AreTextWords (first ∷ words) → Speaks (statement_said first words)
statement_fits first words bytes =
    when Speaks (is_word (codes "set") first) _ _ (λ _. set_fits words)
    (λ _. when Speaks (is_word (codes "add") first) _ _ (λ _. add_fits words)
    (λ _. when Speaks (is_word (codes "if") first) _ _ (λ _. if_fits words)
    (λ _. when Speaks (is_word (codes "jump") first) _ _ (λ _. jump_fits words)
    (λ _. when Speaks (is_word (codes "label") first) _ _ (λ _. label_fits words)
    (λ _. when Speaks (is_word (codes "loop") first) _ _ (λ _. loop_fits words) (λ _. for_fits first words bytes))))))

-- what a line of a program promises
abbrev pub IsInside : InProgram → Type 0
IsInside inside.Silent = ⊤
IsInside (inside.Says said) = IsSpoken said
IsInside inside.Ends = ⊤

alone_fits : (words : List Word) → IfOk (alone inside.Ends words) IsInside
alone_fits [] = tt
alone_fits (word ∷ words) = tt

pub inside_fits : (words : List Word) → AllByRecursion IsTextWord words → IfOk (said_in_program words) IsInside
inside_fits [] bytes = tt
inside_fits (first ∷ words) bytes =
    when (λ r. IfOk r IsInside) (is_word (codes "end") first) _ _ (λ _. alone_fits words)
    (λ _. with_holds IsSpoken IsInside inside.Says (statement_said first words) (λ _ is. is) (statement_fits first words bytes))

-- what a setting promises
abbrev pub IsSetting : Setting → Type 0
IsSetting (setting.Heap n) = (8192 ≤ n) × (n ≤ 8388608)
IsSetting (setting.Disk n) = (16 ≤ n) × (n ≤ 4096)
IsSetting (setting.Steps n) = (1 ≤ n) × (n ≤ 100000)
IsSetting (setting.Victims policy) = ⊤
IsSetting (setting.Choosing chooser) = IsChooser chooser

-- what a line outside programs promises
abbrev pub IsTop : AtTop → Type 0
IsTop top.Silent = ⊤
IsTop (top.Sets said) = IsSetting said
IsTop (top.Begins name) = is_name name ≡ true

abbrev Tops : Result AtTop FaultKind → Type 0
Tops said = IfOk said IsTop

only_holds : {A : Type 0} (P : A → Type 0) (reads : Word → Result A FaultKind) → ((word : Word) → IfOk (reads word) P) → (words : List Word) → IfOk (only reads words) P
only_holds P reads one [] = tt
only_holds P reads one (word ∷ []) = one word
only_holds P reads one (word ∷ more ∷ words) = tt

sets : (low high : ℕ) (make : ℕ → AtTop) (words : List Word) → ((n : ℕ) → (low ≤ n) × (n ≤ high) → IsTop (make n)) → Tops (with make (only (natural low high) words))
sets low high make words goes =
    with_holds (λ n. (low ≤ n) × (n ≤ high)) IsTop make (only (natural low high) words) goes
    (only_holds (λ n. (low ≤ n) × (n ≤ high)) (natural low high) (natural_is low high) words)

abbrev IsChoice : ℕ → Type 0
IsChoice n = n ≤ 4294967295

choice_is : (word : Word) → IfOk (natural 0 4294967295 word) IsChoice
choice_is word = weaker (natural 0 4294967295 word) (natural_is 0 4294967295 word)
  where
    weaker : (said : Result ℕ FaultKind) → IfOk said (λ n. (0 ≤ n) × (n ≤ 4294967295)) → IfOk said IsChoice
    weaker (Ok n) is = is.1
    weaker (Err kind) is = tt

choices_fit : (words : List Word) → IfOk (choices_said words) (λ choices. IsChooser (Choices choices))
choices_fit [] = tt
choices_fit (word ∷ words) =
    then_holds (AreAll IsChoice (word ∷ words)) (λ choices. IsChooser (Choices choices)) (each (natural 0 4294967295) (word ∷ words)) (at_most 1000)
    (each_holds IsChoice (natural 0 4294967295) choice_is (word ∷ words))
    (λ choices all. kept (at_most 1000 choices) (short (AreAll IsChoice (word ∷ words)) 1000 choices all))
  where
    kept : (said : Result (List ℕ) FaultKind) → IfOk said (λ choices. AreAll IsChoice (word ∷ words) choices × (length choices ≤ 1000))
        → IfOk said (λ choices. IsChooser (Choices choices))
    kept (Ok choices) all = (omega (arith, all.0.1), all.1, all.0.0)
    kept (Err kind) all = tt

first_fits : (first : Word) (words : List Word) → Tops (top_said first words)
first_fits first words =
    when Tops (is_word (codes "heap") first) _ _ (λ _. sets 8192 8388608 (λ n. top.Sets (setting.Heap n)) words (λ n is. is))
    (λ _. when Tops (is_word (codes "disk") first) _ _ (λ _. sets 16 4096 (λ n. top.Sets (setting.Disk n)) words (λ n is. is))
    (λ _. when Tops (is_word (codes "steps") first) _ _ (λ _. sets 1 100000 (λ n. top.Sets (setting.Steps n)) words (λ n is. is))
    (λ _. when Tops (is_word (codes "policy") first) _ _
    (λ _. with_holds (λ _. ⊤) IsTop (λ p. top.Sets (setting.Victims p)) (only policy_said words) (λ _ _. tt) (any (only policy_said words)))
    (λ _. when Tops (is_word (codes "choices") first) _ _
    (λ _. with_holds (λ choices. IsChooser (Choices choices)) IsTop (λ c. top.Sets (setting.Choosing (Choices c))) (choices_said words)
    (λ _ is. is) (choices_fit words))
    (λ _. when Tops (is_word (codes "seed") first) _ _
    (λ _. sets 0 2147483647 (λ n. top.Sets (setting.Choosing (Seed n))) words (λ n is. is.1))
    (λ _. when Tops (is_word (codes "program") first) _ _
    (λ _. with_holds (λ said. is_name said ≡ true) IsTop top.Begins (only name words) (λ _ is. is)
    (only_holds (λ said. is_name said ≡ true) name name_is words))
    (λ _. tt)))))))

pub top_fits : (words : List Word) → IfOk (said_at_top words) IsTop
top_fits [] = tt
top_fits (first ∷ words) = first_fits first words
