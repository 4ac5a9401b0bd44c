-- Texts of ASCII read as they compute, since their lines are UTF-8.
use Rattle.std.proofs.Common.{◌≡◌, ℕ, ◌+◌, Bool, true, ◌==◌, List, [], ◌∷◌, length, Result, refl, ap, ◌∙◌, subst, arith}
use Rattle.std.specs.Prelude.{nat_lt, nat_le}
use Rattle.std.specs.List.{list_all, slice_split}
use Rattle.std.specs.Str.{IsAscii}
use Rattle.std.proofs.lemmas.Bool.{and_parts}
use Rattle.std.proofs.lemmas.Str.{IsUtf8-from_ascii, is_utf8-from_IsUtf8}
use Rattle.std.proofs.lemmas.Str.Ascii.{IsAscii-nil, IsAscii-cons}
use Rattle.kabi_types.specs.declared.scripts.FaultKind.{FaultKind}
use Rattle.kabi_types.specs.declared.scripts.Script.{Script}
use Rattle.kabi_types.specs.declared.scripts.ScriptFault.{ScriptFault}
use Rattle.posix_defs.specs.declared.said.Word.{Word}
use Rattle.posix_defs.specs.ScriptWords.{is_comment}
use Rattle.posix_defs.specs.ScriptText.{most_bytes, ReadsText}
use Rattle.script_read.specs.Drafting.{State, step, finish, at_start}
use Rattle.script_parse.proofs.OneReading.{line_by, line_read, lines_step, lines_read, reading_by, same_step}
use Rattle.script_parse.proofs.TextReads.{has_reading}

abbrev pub is_ascii : List ℕ → Bool
is_ascii line = list_all (λ byte. nat_lt byte 128) line

-- a line of ASCII, as a function reads it
abbrev pub ascii_line : List ℕ → Result (List Word) FaultKind
ascii_line line = line_by true (is_comment line) line

abbrev pub ascii_lines : State → ℕ → List (List ℕ) → Result Script ScriptFault
ascii_lines state line [] = finish state
ascii_lines state line (first ∷ lines) = lines_step (λ next. ascii_lines next (line + 1) lines) (step state line (ascii_line first))

all_ascii : (line : List ℕ) → is_ascii line ≡ true → IsAscii line
all_ascii [] is = IsAscii-nil
all_ascii (byte ∷ line) is =
    let both = and_parts (nat_lt byte 128) (is_ascii line) is in
    IsAscii-cons byte line (grind (arith, both.0)) (all_ascii line both.1)

pub ascii_line_is : (line : List ℕ) → is_ascii line ≡ true → line_read line ≡ ascii_line line
ascii_line_is line is = ap (λ b. line_by b (is_comment line) line) (is_utf8-from_IsUtf8 line (IsUtf8-from_ascii line (all_ascii line is)))

pub ascii_lines_are : (state : State) (number : ℕ) (texts : List (List ℕ)) → list_all is_ascii texts ≡ true
    → lines_read state number texts ≡ ascii_lines state number texts
ascii_lines_are state number [] is = refl
ascii_lines_are state number (text ∷ texts) is =
    let both = and_parts (is_ascii text) (list_all is_ascii texts) is in
    ap (λ w. lines_step (λ s. lines_read s (number + 1) texts) (step state number w)) (ascii_line_is text both.0)
    ∙ same_step (λ s. lines_read s (number + 1) texts) (λ s. ascii_lines s (number + 1) texts) (step state number (ascii_line text))
    (λ s. ascii_lines_are s (number + 1) texts both.1)

-- a short text of ASCII reads as its lines compute
pub ascii_reads : (text : List ℕ) (outcome : Result Script ScriptFault) → nat_le (length text) most_bytes ≡ true
    → list_all is_ascii (slice_split (λ byte. byte == 10) text) ≡ true
    → ascii_lines at_start 1 (slice_split (λ byte. byte == 10) text) ≡ outcome → ReadsText text outcome
ascii_reads text outcome short ascii computes =
    subst (ReadsText text)
    (ap (λ b. reading_by b text) short ∙ ascii_lines_are at_start 1 (slice_split (λ byte. byte == 10) text) ascii ∙ computes)
    (has_reading text)
