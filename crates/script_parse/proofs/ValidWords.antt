-- What the words of a line say is made of bytes.
use Rattle.std.proofs.Common.{inl, inr, ◌/◌, ◌%◌, ◌≡◌, ◌<◌, ◌+◌, ℕ, Bool, true, false, cond, ◌==◌, List, [], ◌∷◌, Option, None, Some, IfSome, Result, IfOk, refl, subst, arith, ltb-true}
use Rattle.std.specs.Prelude.{⊤, ◌||◌, nat_lt}
use Rattle.std.specs.List.{AllByRecursion}
use Rattle.std.specs.Str.{IsUtf8}
use Rattle.std.proofs.lemmas.Bool.{and_parts}
use lib.Utf8.{scalar, scalars, scalar_cases, encode, encodes}
use Rattle.kabi_types.specs.declared.scripts.FaultKind.{FaultKind}
use Rattle.posix_defs.specs.declared.said.Word.{Word}
use Rattle.posix_defs.specs.declared.said.Word.TheVariants.{Bare, Quoted}
use Rattle.posix_defs.specs.ScriptWords.{is_within, hex_value, hex_number, gives, hex_piece, escape_piece, piece, with_byte, SaysText, closed, holds, broken, with_word, Words, nothing, blank, bare, quoted, joined, unclosed, LineWords, not_utf8, comment, spelled, misspelled}
use Rattle.posix_defs.specs.ValidScript.{IsBytes}
use Rattle.script_parse.proofs.Holds.{when, within_le, all_append, all_behind}

abbrev IsByte : ℕ → Type 0
IsByte byte = byte < 256

-- the bytes of a character
encoded : (c : ℕ) → scalar c ≡ true → (one two three : Bool) → nat_lt c 128 ≡ one → nat_lt c 2048 ≡ two → nat_lt c 65536 ≡ three
    → IsBytes (cond one (c ∷ []) (cond two ((192 + c / 64) ∷ (128 + c % 64) ∷ [])
    (cond three ((224 + c / 4096) ∷ (128 + c / 64 % 64) ∷ (128 + c % 64) ∷ []) ((240 + c / 262144) ∷ (128 + c / 4096 % 64) ∷ (128 + c / 64 % 64) ∷ (128 + c % 64) ∷ []))))
encoded c ok true two three is_one is_two is_three = (omega (arith, ltb-true _ _ is_one), tt)
encoded c ok false true three is_one is_two is_three = (omega (arith, ltb-true _ _ is_two), (omega arith, tt))
encoded c ok false false true is_one is_two is_three = (omega (arith, ltb-true _ _ is_three), (omega arith, (omega arith, tt)))
encoded c ok false false false is_one is_two is_three =
    let below : c < 1114112 = elim (scalar_cases c ok) [ inl low ↦ omega (arith, low) | inr high ↦ high.1 ] in
    (omega (arith, below), (omega arith, (omega arith, (omega arith, tt))))

encode_bytes : (c : ℕ) → scalar c ≡ true → IsBytes (encode c)
unfolding encode
encode_bytes c ok = encoded c ok (nat_lt c 128) (nat_lt c 2048) (nat_lt c 65536) refl refl refl

encodes_bytes : (cs : List ℕ) → scalars cs ≡ true → IsBytes (encodes cs)
encodes_bytes [] ok = tt
encodes_bytes (c ∷ cs) ok = let parts = and_parts _ _ ok in all_append IsByte (encode c) (encodes cs) (encode_bytes c parts.0) (encodes_bytes cs parts.1)

utf8_bytes : (line : List ℕ) → IsUtf8 line → IsBytes line
utf8_bytes line u = subst IsBytes u.1.1 (encodes_bytes u.0 u.1.0)

-- a byte of a text, and what follows it
abbrev ArePieces : Option (Option ℕ × List ℕ) → Type 0
ArePieces said = IfSome said (λ p. IfSome p.0 IsByte × IsBytes p.1)

hex_small : (byte : ℕ) → IfSome (hex_value byte) (λ value. value < 16)
hex_small byte =
    let P : Option ℕ → Type 0 = λ o. IfSome o (λ value. value < 16) in
    when P (is_within 48 57 byte) _ _ (λ yes. omega (arith, within_le 48 57 byte yes))
    (λ _. when P (is_within 65 70 byte) _ _ (λ yes. omega (arith, within_le 65 70 byte yes))
    (λ _. when P (is_within 97 102 byte) _ _ (λ yes. omega (arith, within_le 97 102 byte yes)) (λ _. tt)))

hex_given : (rest : List ℕ) (high low : Option ℕ) → IsBytes rest → IfSome high (λ value. value < 16) → IfSome low (λ value. value < 16)
    → ArePieces (gives rest (hex_number high low))
hex_given rest None low all is_high is_low = tt
hex_given rest (Some high) None all is_high is_low = tt
hex_given rest (Some high) (Some low) all is_high is_low = (omega (arith, is_high, is_low), all)

hex_bytes : (bytes : List ℕ) → IsBytes bytes → ArePieces (hex_piece bytes)
hex_bytes [] all = tt
hex_bytes (high ∷ []) all = tt
hex_bytes (high ∷ low ∷ rest) all = hex_given rest (hex_value high) (hex_value low) all.1.1 (hex_small high) (hex_small low)

escape_bytes : (bytes : List ℕ) → IsBytes bytes → ArePieces (escape_piece bytes)
escape_bytes [] all = tt
escape_bytes (code ∷ rest) all =
    when ArePieces (code == 110) _ _ (λ _. (omega arith, all.1))
    (λ _. when ArePieces (code == 92 || code == 34) _ _ (λ _. (all.0, all.1))
    (λ _. when ArePieces (code == 120) _ _ (λ _. hex_bytes rest all.1) (λ _. tt)))

piece_bytes : (bytes : List ℕ) → IsBytes bytes → ArePieces (piece bytes)
piece_bytes [] all = tt
piece_bytes (byte ∷ rest) all =
    when ArePieces (byte == 34) _ _ (λ _. (tt, all.1)) (λ _. when ArePieces (byte == 92) _ _ (λ _. escape_bytes rest all.1) (λ _. (all.0, all.1)))

-- a text, and what follows it
abbrev AreTexts : Option (List ℕ × List ℕ) → Type 0
AreTexts said = IfSome said (λ p. IsBytes p.0 × IsBytes p.1)

byte_before : (byte : ℕ) (said : Option (List ℕ × List ℕ)) → IsByte byte → AreTexts said → AreTexts (with_byte byte said)
byte_before byte None is all = tt
byte_before byte (Some p) is all = ((is, all.0), all.1)

text_bytes : (bytes : List ℕ) (said : Option (List ℕ × List ℕ)) → SaysText bytes said → IsBytes bytes → AreTexts said
text_bytes _ _ (closed bytes rest is) all = (tt, (subst ArePieces is (piece_bytes bytes all)).1)
text_bytes _ _ (holds bytes rest byte said is says) all =
    let first = subst ArePieces is (piece_bytes bytes all) in
    byte_before byte said first.0 (text_bytes rest said says first.1)
text_bytes _ _ (broken bytes is) all = tt

-- a text in quotes is one of bytes
abbrev pub IsTextWord : Word → Type 0
IsTextWord (Bare word) = ⊤
IsTextWord (Quoted text) = IsBytes text

abbrev AreTextWords : Option (List Word) → Type 0
AreTextWords said = IfSome said (AllByRecursion IsTextWord)

word_before : (word : Word) (said : Option (List Word)) → IsTextWord word → AreTextWords said → AreTextWords (with_word word said)
word_before word None is all = tt
word_before word (Some words) is all = (is, all)

words_bytes : (line : List ℕ) (said : Option (List Word)) → Words line said → IsBytes line → AreTextWords said
words_bytes _ _ nothing all = tt
words_bytes _ _ (blank byte line said is words) all = words_bytes line said words all.1
words_bytes _ _ (bare first word rest said unquoted plain ends words) all =
    word_before (Bare (first ∷ word)) said tt (words_bytes rest said words (all_behind IsByte word rest all.1))
words_bytes _ _ (quoted line text rest said says ends words) all =
    let parts = text_bytes line (Some (text, rest)) says all.1 in
    word_before (Quoted text) said parts.0 (words_bytes rest said words parts.1)
words_bytes _ _ (joined line text rest says is) all = tt
words_bytes _ _ (unclosed line says) all = tt

-- the texts among the words of a line are made of bytes
pub line_bytes : (line : List ℕ) (words : Result (List Word) FaultKind) → LineWords line words → IfOk words (AllByRecursion IsTextWord)
line_bytes _ _ (not_utf8 line none) = tt
line_bytes _ _ (comment line utf8 is) = tt
line_bytes _ _ (spelled line words utf8 is says) = words_bytes line (Some words) says (utf8_bytes line utf8)
line_bytes _ _ (misspelled line utf8 is says) = tt
