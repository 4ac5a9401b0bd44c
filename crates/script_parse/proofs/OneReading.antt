-- A text reads in one way: as a function would read it.
use Rattle.std.proofs.Common.{◌≡◌, ◌≢◌, ℕ, zero, suc, ◌+◌, ◌<◌, Bool, true, false, ◌==◌, ◌||◌, List, [], ◌∷◌, ◌++◌, length, Option, None, Some, Result, Ok, Err, refl, sym, ap, ◌∙◌, subst, arith}
use Rattle.std.specs.Prelude.{⊤, if◌then◌else◌, nat_le}
use Rattle.std.specs.List.{All, slice_split}
use Rattle.std.specs.Str.{IsUtf8, is_utf8}
use Rattle.std.proofs.lemmas.Bool.{ne_eqb, false_from_ne_true}
use Rattle.std.proofs.lemmas.List.{length-append}
use Rattle.std.proofs.lemmas.List.Elements.{All-cons, All-head, All-nil, All-tail}
use Rattle.std.proofs.lemmas.Str.{IsUtf8-from_is_utf8, is_utf8-from_IsUtf8}
use Rattle.kabi_types.specs.declared.scripts.FaultKind.{FaultKind}
use Rattle.kabi_types.specs.declared.scripts.FaultKind.TheVariants.{NotUtf8, UnknownWord, TooLong}
use Rattle.kabi_types.specs.declared.scripts.Script.{Script}
use Rattle.kabi_types.specs.declared.scripts.ScriptFault.{ScriptFault}
use Rattle.posix_defs.specs.declared.said.Word.{Word}
use Rattle.posix_defs.specs.declared.said.Word.TheVariants.{Bare, Quoted}
use Rattle.posix_defs.specs.ScriptWords.{is_blank, ends_word, hex_number, hex_value, hex_piece, gives, escape_piece, piece, with_byte, SaysText, closed, holds, broken, with_word, Words, nothing, blank, bare, quoted, joined, unclosed, is_comment, LineWords, not_utf8, comment, spelled, misspelled}
use Rattle.posix_defs.specs.ScriptText.{most_bytes}
use Rattle.script_read.specs.Drafting.{State, step, finish, at_start, fault_at, Reads, ended, goes_on, stops}

-- what follows is shorter
abbrev Shortens : List ℕ → Option (Option ℕ × List ℕ) → Type 0
Shortens bytes None = ⊤
Shortens bytes (Some p) = length p.1 < length bytes

gives_shorter : (bytes rest : List ℕ) (byte : Option ℕ) → length rest < length bytes → Shortens bytes (gives rest byte)
gives_shorter bytes rest None short = tt
gives_shorter bytes rest (Some byte) short = short

hex_shorter : (bytes rest : List ℕ) → length rest < length bytes → Shortens bytes (hex_piece rest)
hex_shorter bytes [] short = tt
hex_shorter bytes (high ∷ []) short = tt
hex_shorter bytes (high ∷ low ∷ rest) short = gives_shorter bytes rest (hex_number (hex_value high) (hex_value low)) (omega (arith, short))

escape_by : (bytes rest : List ℕ) (code : ℕ) (newline itself hex : Bool) → length rest < length bytes
    → Shortens bytes (if newline then Some (Some 10, rest) else if itself then Some (Some code, rest) else if hex then hex_piece rest else None)
escape_by bytes rest code true itself hex short = short
escape_by bytes rest code false true hex short = short
escape_by bytes rest code false false true short = hex_shorter bytes rest short
escape_by bytes rest code false false false short = tt

escape_shorter : (bytes rest : List ℕ) → length rest < length bytes → Shortens bytes (escape_piece rest)
escape_shorter bytes [] short = tt
escape_shorter bytes (code ∷ rest) short = escape_by bytes rest code (code == 110) (code == 92 || code == 34) (code == 120) (omega (arith, short))

piece_by : (byte : ℕ) (rest : List ℕ) (quote slash : Bool)
    → Shortens (byte ∷ rest) (if quote then Some (None, rest) else if slash then escape_piece rest else Some (Some byte, rest))
piece_by byte rest true slash = omega arith
piece_by byte rest false true = escape_shorter (byte ∷ rest) rest (omega arith)
piece_by byte rest false false = omega arith

piece_shorter : (bytes : List ℕ) → Shortens bytes (piece bytes)
piece_shorter [] = tt
piece_shorter (byte ∷ rest) = piece_by byte rest (byte == 34) (byte == 92)

-- a text in quotes, as a function reads it
abbrev text_piece : (List ℕ → Option (List ℕ × List ℕ)) → Option ℕ → List ℕ → Option (List ℕ × List ℕ)
text_piece more None rest = Some ([], rest)
text_piece more (Some byte) rest = with_byte byte (more rest)

abbrev text_step : (List ℕ → Option (List ℕ × List ℕ)) → Option (Option ℕ × List ℕ) → Option (List ℕ × List ℕ)
text_step more None = None
text_step more (Some p) = text_piece more p.0 p.1

abbrev text_read : ℕ → List ℕ → Option (List ℕ × List ℕ)
text_read zero bytes = None
text_read (suc n) bytes = text_step (λ rest. text_read n rest) (piece bytes)

rest_shorter : (bytes rest : List ℕ) (byte : Option ℕ) → piece bytes ≡ Some (byte, rest) → length rest < length bytes
rest_shorter bytes rest byte is = subst (Shortens bytes) is (piece_shorter bytes)

text_is : (bytes : List ℕ) (said : Option (List ℕ × List ℕ)) → SaysText bytes said → (n : ℕ) → length bytes < n → text_read n bytes ≡ said
text_is _ _ (closed bytes rest is) zero short = absurd (omega (arith, short))
text_is _ _ (closed bytes rest is) (suc n) short = ap (text_step (λ more. text_read n more)) is
text_is _ _ (holds bytes rest byte said is says) zero short = absurd (omega (arith, short))
text_is _ _ (holds bytes rest byte said is says) (suc n) short =
    ap (text_step (λ more. text_read n more)) is ∙ ap (with_byte byte) (text_is rest said says n (omega (arith, short, rest_shorter bytes rest (Some byte) is)))
text_is _ _ (broken bytes is) zero short = absurd (omega (arith, short))
text_is _ _ (broken bytes is) (suc n) short = ap (text_step (λ more. text_read n more)) is

text_says_by : (n : ℕ) (bytes : List ℕ) → length bytes < suc n → ((rest : List ℕ) → length rest < n → SaysText rest (text_read n rest))
    → (first : Option (Option ℕ × List ℕ)) → piece bytes ≡ first → SaysText bytes (text_step (λ rest. text_read n rest) first)
text_says_by n bytes short more None is = broken bytes is
text_says_by n bytes short more (Some (None, rest)) is = closed bytes rest is
text_says_by n bytes short more (Some (Some byte, rest)) is =
    holds bytes rest byte (text_read n rest) is (more rest (omega (arith, short, rest_shorter bytes rest (Some byte) is)))

text_says : (n : ℕ) (bytes : List ℕ) → length bytes < n → SaysText bytes (text_read n bytes)
text_says zero bytes short = absurd (omega (arith, short))
text_says (suc n) bytes short = text_says_by n bytes short (λ rest shorter. text_says n rest shorter) (piece bytes) refl

-- behind a text the rest is shorter
abbrev Leaves : List ℕ → Option (List ℕ × List ℕ) → Type 0
Leaves bytes None = ⊤
Leaves bytes (Some p) = length p.1 < length bytes

leaves_more : (bytes rest : List ℕ) (byte : ℕ) (said : Option (List ℕ × List ℕ)) → length rest < length bytes → Leaves rest said → Leaves bytes (with_byte byte said)
leaves_more bytes rest byte None short left = tt
leaves_more bytes rest byte (Some p) short left = omega (arith, short, left)

text_leaves : (bytes : List ℕ) (said : Option (List ℕ × List ℕ)) → SaysText bytes said → Leaves bytes said
text_leaves _ _ (closed bytes rest is) = rest_shorter bytes rest None is
text_leaves _ _ (holds bytes rest byte said is says) = leaves_more bytes rest byte said (rest_shorter bytes rest (Some byte) is) (text_leaves rest said says)
text_leaves _ _ (broken bytes is) = tt

-- what stands before the first blank, and the rest
abbrev cut_by : Bool → ℕ → List ℕ → List ℕ × List ℕ → List ℕ × List ℕ
cut_by true byte rest more = ([], byte ∷ rest)
cut_by false byte rest more = (byte ∷ more.0, more.1)

abbrev cut : List ℕ → List ℕ × List ℕ
cut [] = ([], [])
cut (byte ∷ rest) = cut_by (is_blank byte) byte rest (cut rest)

abbrev IsNoBlank : ℕ → Type 0
IsNoBlank byte = is_blank byte ≡ false

cut_end : (rest : List ℕ) → ends_word rest ≡ true → cut rest ≡ ([], rest)
cut_end [] ends = refl
cut_end (byte ∷ rest) ends = ap (λ b. cut_by b byte rest (cut rest)) ends

cut_is : (word rest : List ℕ) → All IsNoBlank word → ends_word rest ≡ true → cut (word ++ rest) ≡ (word, rest)
cut_is [] rest plain ends = cut_end rest ends
cut_is (byte ∷ word) rest plain ends =
    ap (λ b. cut_by b byte (word ++ rest) (cut (word ++ rest))) (All-head IsNoBlank byte word plain)
    ∙ ap (cut_by false byte (word ++ rest)) (cut_is word rest (All-tail IsNoBlank byte word plain) ends)

record IsCut (line : List ℕ) (parts : List ℕ × List ℕ) : Type 0 where
  whole : parts.0 ++ parts.1 ≡ line
  plain : All IsNoBlank parts.0
  ends : ends_word parts.1 ≡ true

cut_more : (byte : ℕ) (rest : List ℕ) (blank : Bool) → is_blank byte ≡ blank → IsCut rest (cut rest) → IsCut (byte ∷ rest) (cut_by blank byte rest (cut rest))
cut_more byte rest true is more = record { whole = refl; plain = All-nil IsNoBlank; ends = is }
cut_more byte rest false is more = record {
  whole = ap (λ l. byte ∷ l) more.whole;
  plain = All-cons IsNoBlank byte (cut rest).0 is more.plain;
  ends = more.ends;
}

cut_of : (line : List ℕ) → IsCut line (cut line)
cut_of [] = record { whole = refl; plain = All-nil IsNoBlank; ends = refl }
cut_of (byte ∷ rest) = cut_more byte rest (is_blank byte) refl (cut_of rest)

-- the words of a line, as a function reads them
abbrev Reader : Type 0
Reader = List ℕ → Option (List Word)

abbrev quote_by : Bool → Reader → List ℕ → List ℕ → Option (List Word)
quote_by true more text rest = with_word (Quoted text) (more rest)
quote_by false more text rest = None

abbrev quote_step : Reader → Option (List ℕ × List ℕ) → Option (List Word)
quote_step more None = None
quote_step more (Some p) = quote_by (ends_word p.1) more p.0 p.1

abbrev bare_step : Reader → ℕ → List ℕ × List ℕ → Option (List Word)
bare_step more byte parts = with_word (Bare (byte ∷ parts.0)) (more parts.1)

abbrev word_by : Bool → Bool → Reader → ℕ → List ℕ → Option (List Word)
word_by true quote more byte line = more line
word_by false true more byte line = quote_step more (text_read (length line + 1) line)
word_by false false more byte line = bare_step more byte (cut line)

abbrev words_read : ℕ → List ℕ → Option (List Word)
words_read zero line = Some []
words_read (suc n) [] = Some []
words_read (suc n) (byte ∷ line) = word_by (is_blank byte) (byte == 34) (λ rest. words_read n rest) byte line

quote_is : (line text rest : List ℕ) (more : Reader) → SaysText line (Some (text, rest))
    → quote_step more (text_read (length line + 1) line) ≡ quote_by (ends_word rest) more text rest
quote_is line text rest more says = ap (quote_step more) (text_is line (Some (text, rest)) says (length line + 1) (omega arith))

words_are : (line : List ℕ) (said : Option (List Word)) → Words line said → (n : ℕ) → length line < n → words_read n line ≡ said
words_are _ _ nothing zero short = absurd (omega (arith, short))
words_are _ _ nothing (suc n) short = refl
words_are _ _ (blank byte line said is words) zero short = absurd (omega (arith, short))
words_are _ _ (blank byte line said is words) (suc n) short =
    ap (λ b. word_by b (byte == 34) (λ rest. words_read n rest) byte line) is ∙ words_are line said words n (omega (arith, short))
words_are _ _ (bare first word rest said unquoted plain ends words) zero short = absurd (omega (arith, short))
words_are _ _ (bare first word rest said unquoted plain ends words) (suc n) short =
    ap (λ b. word_by b (first == 34) (λ r. words_read n r) first (word ++ rest)) (All-head IsNoBlank first word plain)
    ∙ ap (λ b. word_by false b (λ r. words_read n r) first (word ++ rest)) (ne_eqb first 34 unquoted)
    ∙ ap (bare_step (λ r. words_read n r) first) (cut_is word rest (All-tail IsNoBlank first word plain) ends)
    ∙ ap (with_word (Bare (first ∷ word))) (words_are rest said words n (omega (arith, short, length-append word rest)))
words_are _ _ (quoted line text rest said says ends words) zero short = absurd (omega (arith, short))
words_are _ _ (quoted line text rest said says ends words) (suc n) short =
    quote_is line text rest (λ r. words_read n r) says
    ∙ ap (λ b. quote_by b (λ r. words_read n r) text rest) ends
    ∙ ap (with_word (Quoted text)) (words_are rest said words n (omega (arith, short, text_leaves line (Some (text, rest)) says)))
words_are _ _ (joined line text rest says is) zero short = absurd (omega (arith, short))
words_are _ _ (joined line text rest says is) (suc n) short =
    quote_is line text rest (λ r. words_read n r) says ∙ ap (λ b. quote_by b (λ r. words_read n r) text rest) is
words_are _ _ (unclosed line says) zero short = absurd (omega (arith, short))
words_are _ _ (unclosed line says) (suc n) short = ap (quote_step (λ r. words_read n r)) (text_is line None says (length line + 1) (omega arith))

-- Whatever stands behind the front, its words are had.
abbrev Has : ℕ → Type 0
Has n = (line : List ℕ) → length line < n → Words line (words_read n line)

quote_ends : (n : ℕ) (line text rest : List ℕ) (ends : Bool) → Has n → length line < n → SaysText line (Some (text, rest)) → ends_word rest ≡ ends
    → Words (34 ∷ line) (quote_by ends (λ r. words_read n r) text rest)
quote_ends n line text rest true more short says is =
    quoted line text rest (words_read n rest) says is (more rest (omega (arith, short, text_leaves line (Some (text, rest)) says)))
quote_ends n line text rest false more short says is = joined line text rest says is

quote_has : (n : ℕ) (line : List ℕ) (said : Option (List ℕ × List ℕ)) → Has n → length line < n → SaysText line said
    → Words (34 ∷ line) (quote_step (λ r. words_read n r) said)
quote_has n line None more short says = unclosed line says
quote_has n line (Some (text, rest)) more short says = quote_ends n line text rest (ends_word rest) more short says refl

bare_has : (n byte : ℕ) (line : List ℕ) → Has n → length line < n → is_blank byte ≡ false → byte ≢ 34 → Words (byte ∷ line) (bare_step (λ r. words_read n r) byte (cut line))
bare_has n byte line more short plain unquoted =
    let parts = cut line in
    let is = cut_of line in
    subst (λ l. Words (byte ∷ l) (bare_step (λ r. words_read n r) byte parts)) is.whole
    (bare byte parts.0 parts.1 (words_read n parts.1) unquoted (All-cons IsNoBlank byte parts.0 plain is.plain) is.ends
    (more parts.1 (omega (arith, short, ap length is.whole, length-append parts.0 parts.1))))

word_has : (n byte : ℕ) (line : List ℕ) (blank quote : Bool) → Has n → length line < n → is_blank byte ≡ blank → (byte == 34) ≡ quote
    → Words (byte ∷ line) (word_by blank quote (λ r. words_read n r) byte line)
word_has n byte line true quote more short is_blank is_quote = blank byte line (words_read n line) is_blank (more line short)
word_has n byte line false true more short is_blank is_quote =
    let same : 34 ≡ byte = grind (arith, is_quote) in
    subst (λ b. Words (b ∷ line) (quote_step (λ r. words_read n r) (text_read (length line + 1) line))) same
    (quote_has n line (text_read (length line + 1) line) more short (text_says (length line + 1) line (omega arith)))
word_has n byte line false false more short is_blank is_quote = bare_has n byte line more short is_blank (λ same. grind (arith, same, is_quote))

words_have : (n : ℕ) → Has n
words_have zero line short = absurd (omega (arith, short))
words_have (suc n) [] short = nothing
words_have (suc n) (byte ∷ line) short = word_has n byte line (is_blank byte) (byte == 34) (words_have n) (omega (arith, short)) refl refl

-- what a line has to say, as a function reads it
abbrev words_or_fault : Option (List Word) → Result (List Word) FaultKind
words_or_fault None = Err UnknownWord
words_or_fault (Some words) = Ok words

abbrev pub line_by : Bool → Bool → List ℕ → Result (List Word) FaultKind
line_by false remark line = Err NotUtf8
line_by true true line = Ok []
line_by true false line = words_or_fault (words_read (length line + 1) line)

abbrev pub line_read : List ℕ → Result (List Word) FaultKind
line_read line = line_by (is_utf8 line) (is_comment line) line

pub line_is : (line : List ℕ) (said : Result (List Word) FaultKind) → LineWords line said → line_read line ≡ said
line_is _ _ (not_utf8 line none) = ap (λ b. line_by b (is_comment line) line) (false_from_ne_true (is_utf8 line) (λ yes. none (IsUtf8-from_is_utf8 line yes)))
line_is _ _ (comment line utf8 is) = ap (λ b. line_by b (is_comment line) line) (is_utf8-from_IsUtf8 line utf8) ∙ ap (λ b. line_by true b line) is
line_is _ _ (spelled line words utf8 is says) =
    ap (λ b. line_by b (is_comment line) line) (is_utf8-from_IsUtf8 line utf8) ∙ ap (λ b. line_by true b line) is
    ∙ ap words_or_fault (words_are line (Some words) says (length line + 1) (omega arith))
line_is _ _ (misspelled line utf8 is says) =
    ap (λ b. line_by b (is_comment line) line) (is_utf8-from_IsUtf8 line utf8) ∙ ap (λ b. line_by true b line) is
    ∙ ap words_or_fault (words_are line None says (length line + 1) (omega arith))

line_spelled : (line : List ℕ) (said : Option (List Word)) → IsUtf8 line → is_comment line ≡ false → Words line said → LineWords line (words_or_fault said)
line_spelled line None utf8 is says = misspelled line utf8 is says
line_spelled line (Some words) utf8 is says = spelled line words utf8 is says

line_by_has : (line : List ℕ) (utf8 remark : Bool) → is_utf8 line ≡ utf8 → is_comment line ≡ remark → LineWords line (line_by utf8 remark line)
line_by_has line false remark is_text is_remark =
    not_utf8 line (λ yes. let wrong : false ≡ true = sym is_text ∙ is_utf8-from_IsUtf8 line yes in cc)
line_by_has line true true is_text is_remark = comment line (IsUtf8-from_is_utf8 line is_text) is_remark
line_by_has line true false is_text is_remark =
    line_spelled line (words_read (length line + 1) line) (IsUtf8-from_is_utf8 line is_text) is_remark (words_have (length line + 1) line (omega arith))

pub line_has : (line : List ℕ) → LineWords line (line_read line)
line_has line = line_by_has line (is_utf8 line) (is_comment line) refl refl

-- lines, as a function reads them
abbrev pub lines_step : (State → Result Script ScriptFault) → Result State ScriptFault → Result Script ScriptFault
lines_step more (Ok next) = more next
lines_step more (Err fault) = Err fault

pub same_step : (first second : State → Result Script ScriptFault) (next : Result State ScriptFault) → ((s : State) → first s ≡ second s)
    → lines_step first next ≡ lines_step second next
same_step first second (Ok next) same = same next
same_step first second (Err fault) same = refl

abbrev pub lines_read : State → ℕ → List (List ℕ) → Result Script ScriptFault
lines_read state line [] = finish state
lines_read state line (first ∷ lines) = lines_step (λ next. lines_read next (line + 1) lines) (step state line (line_read first))

pub lines_are : (state : State) (line : ℕ) (lines : List (List ℕ)) (outcome : Result Script ScriptFault) → Reads state line lines outcome → lines_read state line lines ≡ outcome
lines_are _ _ _ _ (ended state line) = refl
lines_are _ _ _ _ (goes_on state next line first lines words outcome says is rest) =
    ap (λ w. lines_step (λ s. lines_read s (line + 1) lines) (step state line w)) (line_is first words says)
    ∙ ap (lines_step (λ s. lines_read s (line + 1) lines)) is ∙ lines_are next (line + 1) lines outcome rest
lines_are _ _ _ _ (stops state line first lines words fault says is) =
    ap (λ w. lines_step (λ s. lines_read s (line + 1) lines) (step state line w)) (line_is first words says)
    ∙ ap (lines_step (λ s. lines_read s (line + 1) lines)) is

lines_by : (state : State) (line : ℕ) (first : List ℕ) (lines : List (List ℕ)) (next : Result State ScriptFault) → step state line (line_read first) ≡ next
    → ((s : State) → Reads s (line + 1) lines (lines_read s (line + 1) lines))
    → Reads state line (first ∷ lines) (lines_step (λ s. lines_read s (line + 1) lines) next)
lines_by state line first lines (Ok next) is more = goes_on state next line first lines (line_read first) (lines_read next (line + 1) lines) (line_has first) is (more next)
lines_by state line first lines (Err fault) is more = stops state line first lines (line_read first) fault (line_has first) is

pub lines_have : (state : State) (line : ℕ) (lines : List (List ℕ)) → Reads state line lines (lines_read state line lines)
lines_have state line [] = ended state line
lines_have state line (first ∷ lines) = lines_by state line first lines (step state line (line_read first)) refl (λ s. lines_have s (line + 1) lines)

abbrev pub reading_by : Bool → List ℕ → Result Script ScriptFault
reading_by true text = lines_read at_start 1 (slice_split (λ byte. byte == 10) text)
reading_by false text = fault_at 0 TooLong

-- a whole text, as a function reads it
abbrev pub reading : List ℕ → Result Script ScriptFault
reading text = reading_by (nat_le (length text) most_bytes) text
