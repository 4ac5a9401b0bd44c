-- How long words, lines and texts of lines are.
use Rattle.std.proofs.Common.{◌≤◌, ◌*◌, ℕ, zero, suc, List, [], ◌∷◌, ◌++◌, map, length, sym, subst, arith}
use Rattle.std.specs.List.{AllByRecursion, flat_map}
use Rattle.std.proofs.lemmas.List.{length-append}
use Rattle.kabi_types.specs.declared.scripts.Statement.{Statement}
use Rattle.kabi_types.specs.declared.scripts.Statement.TheVariants as statement
use Rattle.posix_defs.specs.declared.said.Word.{Word}
use Rattle.posix_defs.specs.declared.said.Word.TheVariants.{Quoted}
use Rattle.posix_defs.specs.Lines.{newline}
use Rattle.posix_defs.specs.Canonical.{word_text, further_words, words_text, line_text, name_word, label_word, statement_words}
use Rattle.script_laws.proofs.Names.{IsShort, shown_as_is}

abbrev pub IsShortWord : Word → Type 0
IsShortWord word = length (word_text word) ≤ 12

pub record IsShortLine (words : List Word) : Type 0 where
  pub each : AllByRecursion IsShortWord words
  pub few : length words ≤ 7

further_length : (words : List Word) → AllByRecursion IsShortWord words → length (further_words words) ≤ 13 * length words
further_length [] all = omega arith
further_length (word ∷ words) all =
    omega (arith, all.0, length-append (word_text word) (further_words words), further_length words all.1)

words_length : (words : List Word) → AllByRecursion IsShortWord words → length (words_text words) ≤ 13 * length words
words_length [] all = omega arith
words_length (word ∷ words) all = omega (arith, all.0, length-append (word_text word) (further_words words), further_length words all.1)

line_length : (words : List Word) → IsShortLine words → length (line_text words) ≤ 100
line_length words is = omega (arith, is.few, words_length words is.each, length-append (words_text words) newline)

-- a text of so many short lines
pub lines_length : (lines : List (List Word)) → AllByRecursion IsShortLine lines → length (flat_map line_text lines) ≤ 100 * length lines
lines_length [] all = omega arith
lines_length (words ∷ lines) all =
    omega (arith, line_length words all.0, lines_length lines all.1, length-append (line_text words) (flat_map line_text lines))

-- short texts make short words

pub short_text : (text : List ℕ) → IsShort text → IsShortWord (Quoted text)
short_text text is =
    subst (λ l. length (34 ∷ l ++ 34 ∷ []) ≤ 12) (sym (shown_as_is text is.plain)) (omega (arith, is.short, length-append text (34 ∷ [])))

pub short_name : (name : List ℕ) → IsShort name → IsShortWord (name_word name)
short_name name is = subst (λ l. length l ≤ 12) (sym (shown_as_is name is.plain)) (omega (arith, is.short))

-- A statement whose line is short. A jump's label stands elsewhere, and counts as nothing.
abbrev pub IsShortStatement : Statement → Type 0
IsShortStatement s = IsShortLine (statement_words [] s)

pub short_label : (body : List Statement) (place : ℕ) → AllByRecursion IsShortStatement body → IsShortWord (label_word body place)
short_label [] place all = omega arith
short_label (statement.Label name ∷ body) zero all = all.0.each.1.0
short_label (statement.Set r v ∷ body) zero all = omega arith
short_label (statement.Add r v ∷ body) zero all = omega arith
short_label (statement.If left test right to ∷ body) zero all = omega arith
short_label (statement.Jump to ∷ body) zero all = omega arith
short_label (statement.Loop r to ∷ body) zero all = omega arith
short_label (statement.Invoke _ _ _ _ _ ∷ body) zero all = omega arith
short_label (s ∷ body) (suc place) all = short_label body place all.1

-- the line of a statement in a program all of whose statements are short
short_line : (body : List Statement) (s : Statement) → AllByRecursion IsShortStatement body → IsShortStatement s → IsShortLine (statement_words body s)
short_line body (statement.Set r v) all is = is
short_line body (statement.Add r v) all is = is
short_line body (statement.If left test right place) all is = record {
  each = (is.each.0, (is.each.1.0, (is.each.1.1.0, (is.each.1.1.1.0, (short_label body place all, tt)))));
  few = is.few;
}
short_line body (statement.Jump place) all is = record { each = (is.each.0, (short_label body place all, tt)); few = is.few }
short_line body (statement.Label name) all is = is
short_line body (statement.Loop r place) all is = record { each = (is.each.0, (is.each.1.0, (short_label body place all, tt))); few = is.few }
short_line body (statement.Invoke _ _ _ _ _) all is = is

pub short_lines : (body statements : List Statement) → AllByRecursion IsShortStatement body → AllByRecursion IsShortStatement statements
    → AllByRecursion IsShortLine (map (statement_words body) statements)
short_lines body [] all each = tt
short_lines body (s ∷ statements) all each = (short_line body s all each.0, short_lines body statements all each.1)
