-- The words of a printed line, and the lines of a printed text, are read as they were printed.
use Rattle.std.proofs.Common.{◌≡◌, ◌≢◌, ◌<◌, ◌≤◌, ◌+◌, ◌*◌, ◌-◌, ◌/◌, ◌%◌, ℕ, true, false, ◌==◌, List, [], ◌∷◌, ◌++◌, map, None, Some, Ok, refl, sym, ap, ◌∙◌, subst, arith}
use Rattle.std.specs.Prelude.{◌||◌, nat_lt, if◌then◌else◌}
use Rattle.std.specs.List.{AllByRecursion, flat_map, slice_split}
use Rattle.std.specs.Fmt.{digits, digit_glyph}
use Rattle.std.specs.Str.{IsUtf8}
use Rattle.std.proofs.lemmas.Bool.{or_parts, ne_eqb}
use Rattle.std.proofs.lemmas.Fmt.{hex_one_digit}
use Rattle.std.proofs.lemmas.List.{append_assoc}
use Rattle.std.proofs.lemmas.List.Elements.{All-from_recursion}
use Rattle.std.proofs.lemmas.List.Splits.{slice_split_at}
use Rattle.std.proofs.lemmas.Str.{IsUtf8-from_ascii}
use Rattle.std.proofs.lemmas.Str.Ascii.{IsAscii-from_all}
use Rattle.posix_defs.specs.declared.said.Word.{Word}
use Rattle.posix_defs.specs.declared.said.Word.TheVariants.{Bare, Quoted}
use Rattle.posix_defs.specs.Lines.{newline, hex_byte}
use Rattle.posix_defs.specs.ScriptWords.{is_blank, is_within, ends_word, hex_value, hex_number, gives, hex_piece, escape_piece, piece, SaysText, closed, holds, Words, nothing, blank as behind_blank, bare, quoted, is_comment, LineWords, spelled}
use Rattle.posix_defs.specs.Canonical.{digits_of, shown, shown_bytes, word_text, further_words, words_text, line_text}
use Rattle.posix_defs.specs.ValidScript.{IsBytes}
use Rattle.script_parse.proofs.Holds.{when, within_le, all_append}

-- texts

hex_glyph : (n : ℕ) → n < 16 → hex_value (digit_glyph false n) ≡ Some n
hex_glyph n small =
    when (λ glyph. hex_value glyph ≡ Some n) (nat_lt n 10) (48 + n) (87 + n)
    (λ low. let few : n < 10 = grind (arith, low) in
    ap (λ b. if b then Some (48 + n - 48) else if is_within 65 70 (48 + n) then Some (48 + n - 55) else if is_within 97 102 (48 + n) then Some (48 + n - 87) else None)
    (let is : is_within 48 57 (48 + n) ≡ true = grind (arith, few) in is)
    ∙ ap Some (let is : 48 + n - 48 ≡ n = omega arith in is))
    (λ high. let many : 10 ≤ n = grind (arith, high) in
    ap (λ b. if b then Some (87 + n - 48) else if is_within 65 70 (87 + n) then Some (87 + n - 55) else if is_within 97 102 (87 + n) then Some (87 + n - 87) else None)
    (let is : is_within 48 57 (87 + n) ≡ false = grind (arith, many) in is)
    ∙ ap (λ b. if b then Some (87 + n - 55) else if is_within 97 102 (87 + n) then Some (87 + n - 87) else None)
    (let is : is_within 65 70 (87 + n) ≡ false = grind (arith, many) in is)
    ∙ ap (λ b. if b then Some (87 + n - 87) else None) (let is : is_within 97 102 (87 + n) ≡ true = grind (arith, many, small) in is)
    ∙ ap Some (let is : 87 + n - 87 ≡ n = omega arith in is))

-- an escape of two digits is read as its byte
hex_read : (byte : ℕ) (tail : List ℕ) → byte < 256 → hex_piece (hex_byte byte ++ tail) ≡ Some (Some byte, tail)
hex_read byte tail small =
    ap (λ l. hex_piece ((l ++ digits 16 false (byte % 16)) ++ tail)) (hex_one_digit false (byte / 16) (omega (arith, small)))
    ∙ ap (λ l. hex_piece ((digit_glyph false (byte / 16) ∷ l) ++ tail)) (hex_one_digit false (byte % 16) (omega arith))
    ∙ ap (λ high. gives tail (hex_number high (hex_value (digit_glyph false (byte % 16))))) (hex_glyph (byte / 16) (omega (arith, small)))
    ∙ ap (λ low. gives tail (hex_number (Some (byte / 16)) low)) (hex_glyph (byte % 16) (omega arith))
    ∙ ap (λ b. Some (Some b, tail)) (let is : 16 * (byte / 16) + byte % 16 ≡ byte = omega arith in is)

-- a byte that is printed in a text is read
piece_shown : (byte : ℕ) (tail : List ℕ) → byte < 256 → piece (shown byte ++ tail) ≡ Some (Some byte, tail)
piece_shown byte tail small =
    let P : List ℕ → Type 0 = λ l. piece (l ++ tail) ≡ Some (Some byte, tail) in
    when P (byte == 10) _ _ (λ is. ap (λ b. Some (Some b, tail)) (let same : 10 ≡ byte = grind (arith, is) in same))
    (λ _. when P (byte == 34 || byte == 92) _ _ (λ _. hex_read byte tail small)
    (λ plain. let parts = or_parts (byte == 34) (byte == 92) plain in
    when P (is_within 32 126 byte) _ _
    (λ _. ap (λ b. if b then Some (None, tail) else if byte == 92 then escape_piece tail else Some (Some byte, tail)) parts.0
    ∙ ap (λ b. if b then escape_piece tail else Some (Some byte, tail)) parts.1)
    (λ _. hex_read byte tail small)))

text_read : (text rest : List ℕ) → IsBytes text → SaysText (shown_bytes text ++ 34 ∷ rest) (Some (text, rest))
text_read [] rest all = closed (34 ∷ rest) rest refl
text_read (byte ∷ text) rest all =
    let tail : List ℕ = shown_bytes text ++ 34 ∷ rest in
    subst (λ l. SaysText l (Some (byte ∷ text, rest))) (sym (append_assoc (shown byte) (shown_bytes text) (34 ∷ rest)))
    (holds (shown byte ++ tail) tail byte (Some (text, rest)) (piece_shown byte tail all.0) (text_read text rest all.1))

-- words

-- a byte that is printed and is no blank
abbrev pub IsInk : ℕ → Type 0
IsInk byte = (33 ≤ byte) × (byte ≤ 126)

-- a word as it is printed: no blanks in it and no quote before it, or a text of bytes
abbrev pub IsPrinted : Word → Type 0
IsPrinted (Bare []) = ⊥
IsPrinted (Bare (first ∷ word)) = (first ≢ 34) × AllByRecursion IsInk (first ∷ word)
IsPrinted (Quoted text) = IsBytes text

ink_no_blank : (byte : ℕ) → IsInk byte → is_blank byte ≡ false
ink_no_blank byte ink = grind (arith, ink.0)

inks_no_blank : (word : List ℕ) → AllByRecursion IsInk word → AllByRecursion (λ byte. is_blank byte ≡ false) word
inks_no_blank [] ink = tt
inks_no_blank (byte ∷ word) ink = (ink_no_blank byte ink.0, inks_no_blank word ink.1)

further_ends : (words : List Word) → ends_word (further_words words) ≡ true
further_ends [] = refl
further_ends (word ∷ words) = refl

word_read : (word : Word) (words : List Word) (rest : List ℕ) → IsPrinted word → ends_word rest ≡ true → Words rest (Some words)
    → Words (word_text word ++ rest) (Some (word ∷ words))
word_read (Bare []) words rest is ends read = absurd is
word_read (Bare (first ∷ word)) words rest is ends read =
    bare first word rest (Some words) is.0 (All-from_recursion (λ byte. is_blank byte ≡ false) (first ∷ word) (inks_no_blank (first ∷ word) is.1)) ends read
word_read (Quoted text) words rest is ends read =
    let same : shown_bytes text ++ 34 ∷ rest ≡ (shown_bytes text ++ 34 ∷ []) ++ rest = sym (append_assoc (shown_bytes text) (34 ∷ []) rest) in
    subst (λ l. Words (34 ∷ l) (Some (Quoted text ∷ words))) same
    (quoted (shown_bytes text ++ 34 ∷ rest) text rest (Some words) (text_read text rest is) ends read)

further_read : (words : List Word) → AllByRecursion IsPrinted words → Words (further_words words) (Some words)
further_read [] all = nothing
further_read (word ∷ words) all =
    let line : List ℕ = word_text word ++ further_words words in
    behind_blank 32 line (Some (word ∷ words)) refl (word_read word words (further_words words) all.0 (further_ends words) (further_read words all.1))

words_read : (words : List Word) → AllByRecursion IsPrinted words → Words (words_text words) (Some words)
words_read [] all = nothing
words_read (word ∷ words) all = word_read word words (further_words words) all.0 (further_ends words) (further_read words all.1)

-- printed bytes

abbrev IsPlain : ℕ → Type 0
IsPlain byte = (32 ≤ byte) × (byte ≤ 126)

glyph_plain : (n : ℕ) → n < 16 → IsPlain (digit_glyph false n)
glyph_plain n small = when IsPlain (nat_lt n 10) (48 + n) (87 + n) (λ low. (omega arith, grind (arith, low))) (λ _. (omega arith, omega (arith, small)))

digits_plain : (byte : ℕ) → byte < 256 → AllByRecursion IsPlain (digits_of byte)
digits_plain byte small = (
  (omega arith, omega arith),
  (
    (omega arith, omega arith),
    subst (AllByRecursion IsPlain) (sym (ap (λ l. l ++ digits 16 false (byte % 16)) (hex_one_digit false (byte / 16) (omega (arith, small)))
        ∙ ap (λ l. digit_glyph false (byte / 16) ∷ l) (hex_one_digit false (byte % 16) (omega arith))))
        (glyph_plain (byte / 16) (omega (arith, small)), (glyph_plain (byte % 16) (omega arith), tt)),
  ),
)

shown_plain : (byte : ℕ) → byte < 256 → AllByRecursion IsPlain (shown byte)
shown_plain byte small =
    let P : List ℕ → Type 0 = λ l. AllByRecursion IsPlain l in
    when P (byte == 10) _ _ (λ _. ((omega arith, omega arith), ((omega arith, omega arith), tt)))
    (λ _. when P (byte == 34 || byte == 92) _ _ (λ _. digits_plain byte small)
    (λ _. when P (is_within 32 126 byte) _ _ (λ is. (within_le 32 126 byte is, tt)) (λ _. digits_plain byte small)))

shown_all_plain : (text : List ℕ) → IsBytes text → AllByRecursion IsPlain (shown_bytes text)
shown_all_plain [] all = tt
shown_all_plain (byte ∷ text) all = all_append IsPlain (shown byte) (shown_bytes text) (shown_plain byte all.0) (shown_all_plain text all.1)

ink_plain : (word : List ℕ) → AllByRecursion IsInk word → AllByRecursion IsPlain word
ink_plain [] ink = tt
ink_plain (byte ∷ word) ink = ((omega (arith, ink.0.0), ink.0.1), ink_plain word ink.1)

word_plain : (word : Word) → IsPrinted word → AllByRecursion IsPlain (word_text word)
word_plain (Bare []) is = absurd is
word_plain (Bare (first ∷ word)) is = ink_plain (first ∷ word) is.1
word_plain (Quoted text) is =
    ((omega arith, omega arith), all_append IsPlain (shown_bytes text) (34 ∷ []) (shown_all_plain text is) ((omega arith, omega arith), tt))

further_plain : (words : List Word) → AllByRecursion IsPrinted words → AllByRecursion IsPlain (further_words words)
further_plain [] all = tt
further_plain (word ∷ words) all =
    ((omega arith, omega arith), all_append IsPlain (word_text word) (further_words words) (word_plain word all.0) (further_plain words all.1))

words_plain : (words : List Word) → AllByRecursion IsPrinted words → AllByRecursion IsPlain (words_text words)
words_plain [] all = tt
words_plain (word ∷ words) all = all_append IsPlain (word_text word) (further_words words) (word_plain word all.0) (further_plain words all.1)

-- lines

plain_ascii : (line : List ℕ) → AllByRecursion IsPlain line → AllByRecursion (λ byte. byte < 128) line
plain_ascii [] all = tt
plain_ascii (byte ∷ line) all = (omega (arith, all.0.1), plain_ascii line all.1)

plain_utf8 : (line : List ℕ) → AllByRecursion IsPlain line → IsUtf8 line
plain_utf8 line all = IsUtf8-from_ascii line (IsAscii-from_all line (All-from_recursion (λ byte. byte < 128) line (plain_ascii line all)))

plain_no_newline : (line : List ℕ) → AllByRecursion IsPlain line → AllByRecursion (λ byte. (byte == 10) ≡ false) line
plain_no_newline [] all = tt
plain_no_newline (byte ∷ line) all = (grind (arith, all.0.0), plain_no_newline line all.1)

-- the words of a printed line: the first is no text and no comment
abbrev pub IsLine : List Word → Type 0
IsLine [] = ⊥
IsLine (Quoted _ ∷ words) = ⊥
IsLine (Bare [] ∷ words) = ⊥
IsLine (Bare (first ∷ word) ∷ words) = (first ≢ 35) × AllByRecursion IsPrinted (Bare (first ∷ word) ∷ words)

line_printed : (words : List Word) → IsLine words → AllByRecursion IsPrinted words
line_printed [] is = absurd is
line_printed (Quoted _ ∷ words) is = absurd is
line_printed (Bare [] ∷ words) is = absurd is
line_printed (Bare (first ∷ word) ∷ words) is = is.1

line_no_comment : (words : List Word) → IsLine words → is_comment (words_text words) ≡ false
line_no_comment [] is = absurd is
line_no_comment (Quoted _ ∷ words) is = absurd is
line_no_comment (Bare [] ∷ words) is = absurd is
line_no_comment (Bare (first ∷ word) ∷ words) is =
    ap (λ b. if b then is_comment (word ++ further_words words) else first == 35) (ink_no_blank first is.1.0.1.0) ∙ ne_eqb first 35 is.0

-- a printed line has the words that it was printed with
pub line_read : (words : List Word) → IsLine words → LineWords (words_text words) (Ok words)
line_read words is =
    let all = line_printed words is in
    spelled (words_text words) words (plain_utf8 (words_text words) (words_plain words all)) (line_no_comment words is) (words_read words all)

-- the lines of a printed text are those that were printed, and an empty one behind the last newline
pub lines_split : (lines : List (List Word)) → AllByRecursion IsLine lines
    → slice_split (λ byte. byte == 10) (flat_map line_text lines) ≡ map words_text lines ++ [] ∷ []
lines_split [] all = refl
lines_split (words ∷ lines) all =
    let rest : List ℕ = flat_map line_text lines in
    ap (slice_split (λ byte. byte == 10)) (append_assoc (words_text words) newline rest)
    ∙ slice_split_at (λ byte. byte == 10) (words_text words) 10 rest
    (All-from_recursion (λ byte. (byte == 10) ≡ false) (words_text words) (plain_no_newline (words_text words) (words_plain words (line_printed words all.0)))) refl
    ∙ ap (λ l. words_text words ∷ l) (lines_split lines all.1)
