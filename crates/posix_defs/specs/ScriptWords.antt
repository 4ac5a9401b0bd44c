-- The words of a line of a script.
use Rattle.std.specs.Prelude.{ℕ, ◌+◌, ◌*◌, ◌-◌, ◌≡◌, ◌≢◌, Bool, true, false, ◌==◌, ◌||◌, ◌&&◌, nat_le, if◌then◌else◌, List, [], ◌∷◌, ◌++◌, Option, None, Some, option_map, Result, Ok, Err}
use Rattle.std.specs.List.{All}
use Rattle.std.specs.Str.{IsUtf8}
use Rattle.kabi_types.specs.declared.scripts.FaultKind.{FaultKind}
use Rattle.kabi_types.specs.declared.scripts.FaultKind.TheVariants.{NotUtf8, UnknownWord}
use Rattle.posix_defs.specs.declared.said.Word.{Word}
use Rattle.posix_defs.specs.declared.said.Word.TheVariants.{Bare, Quoted}

-- a space, a tab, a carriage return
abbrev pub is_blank : ℕ → Bool
is_blank byte = byte == 32 || byte == 9 || byte == 13

-- the number is from the least to the most, both of them allowed
abbrev pub is_within : ℕ → ℕ → ℕ → Bool
is_within least most n = nat_le least n && nat_le n most

-- the value of a hexadecimal digit
abbrev pub hex_value : ℕ → Option ℕ
hex_value byte =
    if is_within 48 57 byte then Some (byte - 48)
    else if is_within 65 70 byte then Some (byte - 55)
    else if is_within 97 102 byte then Some (byte - 87)
    else None

-- the byte of a high and a low digit; None unless both are hexadecimal digits
abbrev pub hex_number : Option ℕ → Option ℕ → Option ℕ
hex_number (Some high) (Some low) = Some (16 * high + low)
hex_number (Some high) None = None
hex_number None low = None

-- A text gives a byte, and goes on so.
abbrev pub gives : List ℕ → Option ℕ → Option (Option ℕ × List ℕ)
gives rest None = None
gives rest (Some byte) = Some (Some byte, rest)

-- the byte of two hexadecimal digits
abbrev pub hex_piece : List ℕ → Option (Option ℕ × List ℕ)
hex_piece [] = None
hex_piece (high ∷ []) = None
hex_piece (high ∷ low ∷ rest) = gives rest (hex_number (hex_value high) (hex_value low))

-- the byte that an escape stands for, which a backslash begins
abbrev pub escape_piece : List ℕ → Option (Option ℕ × List ℕ)
escape_piece [] = None
escape_piece (code ∷ rest) =
    if code == 110 then Some (Some 10, rest)
    else if code == 92 || code == 34 then Some (Some code, rest)
    else if code == 120 then hex_piece rest
    else None

-- What stands first behind an opening quote, and what follows it: a byte of the text, or none, which is the closing quote.
abbrev pub piece : List ℕ → Option (Option ℕ × List ℕ)
piece [] = None
piece (byte ∷ rest) = if byte == 34 then Some (None, rest) else if byte == 92 then escape_piece rest else Some (Some byte, rest)

-- a byte stands before what a text goes on with; without a text there is none
abbrev pub with_byte : ℕ → Option (List ℕ × List ℕ) → Option (List ℕ × List ℕ)
with_byte byte said = option_map (λ p. (byte ∷ p.0, p.1)) said

-- Behind an opening quote stands this text, and behind its closing quote this rest; or no text, where it isn't closed or
-- an escape is none.
pub data SaysText : List ℕ → Option (List ℕ × List ℕ) → Type 0 where
  closed : (bytes rest : List ℕ) → piece bytes ≡ Some (None, rest) → SaysText bytes (Some ([], rest))
  holds : (bytes rest : List ℕ) (byte : ℕ) (said : Option (List ℕ × List ℕ)) → piece bytes ≡ Some (Some byte, rest) → SaysText rest said
      → SaysText bytes (with_byte byte said)
  broken : (bytes : List ℕ) → piece bytes ≡ None → SaysText bytes None

-- the line ends there, or a blank stands there
abbrev pub ends_word : List ℕ → Bool
ends_word [] = true
ends_word (byte ∷ rest) = is_blank byte

-- a word stands before the further ones of its line; where one of those is broken the line has no words
abbrev pub with_word : Word → Option (List Word) → Option (List Word)
with_word word said = option_map (λ words. word ∷ words) said

-- A line has these words, which blanks part; or none, where a text in it is broken or something stands right behind one.
pub data Words : List ℕ → Option (List Word) → Type 0 where
  nothing : Words [] (Some [])
  blank : (byte : ℕ) (line : List ℕ) (said : Option (List Word)) → is_blank byte ≡ true → Words line said → Words (byte ∷ line) said
  bare : (first : ℕ) (word rest : List ℕ) (said : Option (List Word)) → first ≢ 34 → All (λ byte. is_blank byte ≡ false) (first ∷ word)
      → ends_word rest ≡ true → Words rest said → Words (first ∷ word ++ rest) (with_word (Bare (first ∷ word)) said)
  quoted : (line text rest : List ℕ) (said : Option (List Word)) → SaysText line (Some (text, rest)) → ends_word rest ≡ true
      → Words rest said → Words (34 ∷ line) (with_word (Quoted text) said)
  joined : (line text rest : List ℕ) → SaysText line (Some (text, rest)) → ends_word rest ≡ false → Words (34 ∷ line) None
  unclosed : (line : List ℕ) → SaysText line None → Words (34 ∷ line) None

-- the first byte that is no blank is the sign of a comment
abbrev pub is_comment : List ℕ → Bool
is_comment [] = false
is_comment (byte ∷ line) = if is_blank byte then is_comment line else byte == 35

-- What a line has to say: its words, none in a comment, or the fault that it has whatever may stand there.
pub data LineWords : List ℕ → Result (List Word) FaultKind → Type 0 where
  not_utf8 : (line : List ℕ) → (IsUtf8 line → ⊥) → LineWords line (Err NotUtf8)
  comment : (line : List ℕ) → IsUtf8 line → is_comment line ≡ true → LineWords line (Ok [])
  spelled : (line : List ℕ) (words : List Word) → IsUtf8 line → is_comment line ≡ false → Words line (Some words) → LineWords line (Ok words)
  misspelled : (line : List ℕ) → IsUtf8 line → is_comment line ≡ false → Words line None → LineWords line (Err UnknownWord)
