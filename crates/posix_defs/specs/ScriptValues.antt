-- Registers, numbers, constants, names, texts: what a word says where it stands.
use Rattle.std.specs.Prelude.{ℕ, ◌-◌, ℤ, pos, neg_ℤ, int_le, Bool, true, false, not, ◌==◌, ◌||◌, ◌&&◌, nat_le, if◌then◌else◌, List, [], ◌∷◌, length, Option, None, Some, option_map, Result, Ok, Err, codes, bit_or}
use Rattle.std.specs.List.{list_all, slice_split}
use Rattle.std.specs.Str.{bytes_eq, all_ascii_digits}
use Rattle.std.specs.Str.Parse.{signed_digits_value}
use Rattle.kabi_types.specs.declared.scripts.FaultKind.{FaultKind}
use Rattle.kabi_types.specs.declared.scripts.FaultKind.TheVariants as fault
use Rattle.kabi_types.specs.declared.scripts.FaultKind.TheVariants.{UnknownWord, BadNumber, OutOfRange}
use Rattle.kabi_types.specs.declared.scripts.Operand.{Operand}
use Rattle.kabi_types.specs.declared.scripts.Operand.TheVariants.{Reg, Number}
use Rattle.posix_defs.specs.declared.said.Word.{Word}
use Rattle.posix_defs.specs.declared.said.Word.TheVariants.{Bare, Quoted}
use Rattle.posix_defs.specs.ScriptWords.{is_within}

-- the number of a fault: of several on a line the least is told
abbrev pub rank : FaultKind → ℕ
rank fault.NotUtf8 = 1
rank fault.UnknownWord = 2
rank fault.BadNumber = 3
rank fault.OutOfRange = 4
rank fault.NoSuchLabel = 5
rank fault.WrongWay = 6
rank fault.TwiceDefined = 7
rank fault.Unended = 8
rank fault.NoInit = 9
rank fault.TooLong = 10

-- of two faults the one that is told, which has the lower number
abbrev pub least : FaultKind → FaultKind → FaultKind
least a b = if nat_le (rank a) (rank b) then a else b

-- two parts of one line, or the least of their faults
abbrev pub both : {A B : Type 0} → Result A FaultKind → Result B FaultKind → Result (A × B) FaultKind
both (Ok a) (Ok b) = Ok (a, b)
both (Ok a) (Err f) = Err f
both (Err e) (Ok b) = Err e
both (Err e) (Err f) = Err (least e f)

-- what is made of a part, unless it has a fault
abbrev pub with : {A B : Type 0} → (A → B) → Result A FaultKind → Result B FaultKind
with make (Ok a) = Ok (make a)
with make (Err e) = Err e

infixl 10 ◌>>=◌
-- a part leads on to what follows; where it has a fault that one is told, and none of what follows
abbrev pub ◌>>=◌ : {A B : Type 0} → Result A FaultKind → (A → Result B FaultKind) → Result B FaultKind
(Ok a) >>= next = next a
(Err e) >>= next = Err e

-- of each word what it says, or the least of their faults
abbrev pub each : {A : Type 0} → (Word → Result A FaultKind) → List Word → Result (List A) FaultKind
each reads [] = Ok []
each reads (word ∷ words) = with (λ p. p.0 ∷ p.1) (both (reads word) (each reads words))

-- what a word says, else UnknownWord
abbrev pub known : {A : Type 0} → Option A → Result A FaultKind
known None = Err UnknownWord
known (Some a) = Ok a

-- a word that has to stand without quotes
abbrev pub bare : {A : Type 0} → (List ℕ → Result A FaultKind) → Word → Result A FaultKind
bare reads (Bare word) = reads word
bare reads (Quoted _) = Err UnknownWord

-- a word that has to be a text
abbrev pub quoted : {A : Type 0} → (List ℕ → Result A FaultKind) → Word → Result A FaultKind
quoted reads (Bare _) = Err UnknownWord
quoted reads (Quoted text) = reads text

-- the word is this one
abbrev pub is_word : List ℕ → Word → Bool
is_word text (Bare word) = bytes_eq word text
is_word text (Quoted _) = false

-- 0 to 9
abbrev pub is_digit : ℕ → Bool
is_digit byte = is_within 48 57 byte

-- a to z, and no capital
abbrev pub is_letter : ℕ → Bool
is_letter byte = is_within 97 122 byte

-- `r0` to `r15`, without a leading zero
abbrev pub register_said : List ℕ → Option ℕ
register_said (r ∷ ones ∷ []) = if r == 114 && is_digit ones then Some (ones - 48) else None
register_said (r ∷ tens ∷ ones ∷ []) = if r == 114 && tens == 49 && is_within 48 53 ones then Some (ones - 38) else None
register_said _ = None

-- a word that has to be a register, else UnknownWord
abbrev pub register : Word → Result ℕ FaultKind
register word = bare (λ w. known (register_said w)) word

-- a word that can only be a number
abbrev pub begins_number : List ℕ → Bool
begins_number [] = false
begins_number (byte ∷ _) = is_digit byte || byte == 45

-- one digit or more
abbrev pub is_digits : List ℕ → Bool
is_digits [] = false
is_digits (byte ∷ rest) = is_digit byte && all_ascii_digits rest

-- digits, behind a sign or not
abbrev pub is_decimal : List ℕ → Bool
is_decimal [] = false
is_decimal (byte ∷ rest) = if byte == 45 then is_digits rest else is_digits (byte ∷ rest)

-- a number from low to high, else OutOfRange
abbrev pub in_range : ℤ → ℤ → ℤ → Result ℤ FaultKind
in_range low high n = if int_le low n then (if int_le n high then Ok n else Err OutOfRange) else Err OutOfRange

-- the least value of 64 bits
abbrev pub least_value : ℤ
least_value = neg_ℤ (pos 9223372036854775808)

-- the greatest value of 64 bits
abbrev pub greatest_value : ℤ
greatest_value = pos 9223372036854775807

-- a decimal number of 64 bits, by whether the word can only be one, and whether it is one
abbrev pub number_by : Bool → Bool → ℤ → Result ℤ FaultKind
number_by false decimal n = Err UnknownWord
number_by true false n = Err BadNumber
number_by true true n = in_range least_value greatest_value n

-- a decimal number: UnknownWord where the word begins with neither a digit nor a minus, BadNumber where it isn't decimal,
-- OutOfRange past 64 bits
abbrev pub number_said : List ℕ → Result ℤ FaultKind
number_said word = number_by (begins_number word) (is_decimal word) (signed_digits_value 10 word)

-- a decimal number from low to high
abbrev pub number : ℤ → ℤ → Word → Result ℤ FaultKind
number low high word = bare (λ w. number_said w >>= in_range low high) word

-- the number that goes with a word
abbrev pub among : List (List ℕ × ℕ) → List ℕ → Option ℕ
among [] word = None
among (entry ∷ entries) word = if bytes_eq word entry.0 then Some entry.1 else among entries word

-- the constants of `open`: access modes and flags
abbrev pub open_constants : List (List ℕ × ℕ)
open_constants =
    (codes "O_RDONLY", 0) ∷ (codes "O_WRONLY", 1) ∷ (codes "O_RDWR", 2) ∷ (codes "O_CREAT", 64) ∷ (codes "O_EXCL", 128)
    ∷ (codes "O_TRUNC", 512) ∷ (codes "O_APPEND", 1024) ∷ (codes "O_NONBLOCK", 2048) ∷ (codes "O_CLOEXEC", 524288) ∷ []

-- the constants of `lseek` and `fcntl`, and of the calls on record locks
abbrev pub descriptor_constants : List (List ℕ × ℕ)
descriptor_constants =
    (codes "SEEK_SET", 0) ∷ (codes "SEEK_CUR", 1) ∷ (codes "SEEK_END", 2) ∷ (codes "F_DUPFD", 0) ∷ (codes "F_GETFD", 1)
    ∷ (codes "F_SETFD", 2) ∷ (codes "F_GETFL", 3) ∷ (codes "F_SETFL", 4) ∷ (codes "FD_CLOEXEC", 1)
    ∷ (codes "F_RDLCK", 0) ∷ (codes "F_WRLCK", 1) ∷ (codes "F_UNLCK", 2) ∷ []

-- the constants of `waitpid`, `kill`, `signal`, `shutdown` and `poll`
abbrev pub other_constants : List (List ℕ × ℕ)
other_constants =
    (codes "WNOHANG", 1) ∷ (codes "SIGKILL", 9) ∷ (codes "SIGPIPE", 13) ∷ (codes "SIGTERM", 15) ∷ (codes "SIG_DFL", 0)
    ∷ (codes "SIG_IGN", 1) ∷ (codes "SHUT_RD", 0) ∷ (codes "SHUT_WR", 1) ∷ (codes "SHUT_RDWR", 2)
    ∷ (codes "POLLIN", 1) ∷ (codes "POLLOUT", 4) ∷ (codes "POLLERR", 8) ∷ (codes "POLLHUP", 16) ∷ (codes "POLLNVAL", 32) ∷ []

-- the first number where there is one, else the second
abbrev pub or_else : Option ℕ → Option ℕ → Option ℕ
or_else None second = second
or_else (Some n) second = Some n

-- the number of a constant
abbrev pub constant_said : List ℕ → Option ℕ
constant_said word = or_else (among open_constants word) (or_else (among descriptor_constants word) (among other_constants word))

-- a number with the bits of a constant besides; None where that is no constant
abbrev pub joined_to : ℕ → Option ℕ → Option ℕ
joined_to n None = None
joined_to n (Some m) = Some (bit_or n m)

-- constants, joined bit by bit
abbrev pub joined : Option ℕ → List (List ℕ) → Option ℕ
joined None parts = None
joined (Some n) [] = Some n
joined (Some n) (part ∷ parts) = joined (joined_to n (constant_said part)) parts

-- constants that a bar joins
abbrev pub constants_said : List ℕ → Option ℕ
constants_said word = joined (Some 0) (slice_split (λ byte. byte == 124) word)

-- a number where the word begins like one, else constants, or UnknownWord where one of them is none
abbrev pub number_or_constants : List ℕ → Result Operand FaultKind
number_or_constants word =
    if begins_number word then with Number (number_said word)
    else known (option_map (λ n. Number (pos n)) (constants_said word))

-- the register that the word is, else a number or constants
abbrev pub register_or : List ℕ → Option ℕ → Result Operand FaultKind
register_or word None = number_or_constants word
register_or word (Some r) = Ok (Reg r)

-- a register, a number, or constants
abbrev pub value : Word → Result Operand FaultKind
value word = bare (λ w. register_or w (register_said w)) word

-- a byte of a name behind its first: a letter, a digit or an underscore
abbrev pub is_name_byte : ℕ → Bool
is_name_byte byte = is_letter byte || is_digit byte || byte == 95

-- 1 to 27 bytes, of which the first is a letter
abbrev pub is_name : List ℕ → Bool
is_name [] = false
is_name (first ∷ rest) = is_letter first && list_all is_name_byte rest && nat_le (length rest) 26

-- a word that has to be a name, else UnknownWord
abbrev pub name : Word → Result (List ℕ) FaultKind
name word = bare (λ w. if is_name w then Ok w else Err UnknownWord) word

-- at most 255 bytes, none of them zero
abbrev pub is_path : List ℕ → Bool
is_path text = nat_le (length text) 255 && list_all (λ byte. not (byte == 0)) text

-- a text that has to be a path: UnknownWord without quotes, OutOfRange where it is too long or has a zero byte
abbrev pub path : Word → Result (List ℕ) FaultKind
path word = quoted (λ text. if is_path text then Ok text else Err OutOfRange) word

-- the bytes of a `store`
abbrev pub stored : Word → Result (List ℕ) FaultKind
stored word = quoted (λ text. if nat_le (length text) 64 then Ok text else Err OutOfRange) word
