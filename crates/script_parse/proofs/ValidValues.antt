-- What a word says where it stands keeps the promises of a script.
use Rattle.std.proofs.Common.{rules, ◌≡◌, ◌<◌, ◌≤◌, ◌^◌, ℕ, ℤ, pos, negsuc, Bool, true, false, ◌==◌, List, [], ◌∷◌, length, Option, None, Some, IfSome, Result, Ok, Err, IfOk, refl, arith}
use Rattle.std.specs.Prelude.{◌&&◌, nat_le, int_le, unsigned_abs, option_map, if◌then◌else◌}
use Rattle.std.specs.List.{AllByRecursion, slice_split}
use Rattle.std.specs.Str.{bytes_eq}
use Rattle.std.proofs.lemmas.Bool.{and_parts}
use Rattle.std.proofs.lemmas.Nat.{or_lt}
use Rattle.kabi_types.specs.declared.scripts.FaultKind.{FaultKind}
use Rattle.kabi_types.specs.declared.scripts.FaultKind.TheVariants.{UnknownWord}
use Rattle.kabi_types.specs.declared.scripts.Operand.{Operand}
use Rattle.kabi_types.specs.declared.scripts.Operand.TheVariants.{Number}
use Rattle.posix_defs.specs.declared.said.Word.{Word}
use Rattle.posix_defs.specs.declared.said.Word.TheVariants.{Bare, Quoted}
use Rattle.posix_defs.specs.ScriptWords.{is_within}
use Rattle.posix_defs.specs.ScriptValues.{◌>>=◌, known, bare, is_digit, register_said, register, in_range, least_value, greatest_value, begins_number, is_decimal, number_by, number_said, number, among, open_constants, descriptor_constants, other_constants, or_else, constant_said, joined_to, joined, constants_said, number_or_constants, register_or, value, is_name, name, is_path, path, stored}
use Rattle.posix_defs.specs.ScriptLines.{natural}
use Rattle.posix_defs.specs.ValidScript.{IsRegister, IsOperand, IsPath, IsStored}
use Rattle.script_parse.proofs.Holds.{when, within_le, with_holds, then_holds, known_holds}
use Rattle.script_parse.proofs.ValidWords.{IsTextWord}

bare_holds : {A : Type 0} (P : A → Type 0) (reads : List ℕ → Result A FaultKind) → ((word : List ℕ) → IfOk (reads word) P) → (word : Word) → IfOk (bare reads word) P
bare_holds P reads one (Bare word) = one word
bare_holds P reads one (Quoted text) = tt

-- registers

abbrev AreRegisters : Option ℕ → Type 0
AreRegisters said = IfSome said IsRegister

pub register_fits : (word : List ℕ) → AreRegisters (register_said word)
register_fits [] = tt
register_fits (r ∷ []) = tt
register_fits (r ∷ ones ∷ []) =
    when AreRegisters (r == 114 && is_digit ones) _ _ (λ yes. omega (arith, within_le 48 57 ones (and_parts (r == 114) (is_digit ones) yes).1)) (λ _. tt)
register_fits (r ∷ tens ∷ ones ∷ []) =
    when AreRegisters (r == 114 && tens == 49 && is_within 48 53 ones) _ _
    (λ yes. omega (arith, within_le 48 53 ones (and_parts (r == 114 && tens == 49) (is_within 48 53 ones) yes).1)) (λ _. tt)
register_fits (r ∷ tens ∷ ones ∷ more ∷ rest) = tt

pub register_is : (word : Word) → IfOk (register word) IsRegister
register_is word = bare_holds IsRegister (λ w. known (register_said w)) (λ w. known_holds IsRegister (register_said w) (register_fits w)) word

-- numbers

abbrev IsBetween : ℤ → ℤ → ℤ → Type 0
IsBetween low high n = (int_le low n ≡ true) × (int_le n high ≡ true)

ranged : (low high n : ℤ) → IfOk (in_range low high n) (IsBetween low high)
ranged low high n =
    let P : Result ℤ FaultKind → Type 0 = λ r. IfOk r (IsBetween low high) in
    when P (int_le low n) _ _ (λ above. when P (int_le n high) _ _ (λ below. (above, below)) (λ _. tt)) (λ _. tt)

number_fits : (begins decimal : Bool) (n : ℤ) → IfOk (number_by begins decimal n) (IsBetween least_value greatest_value)
number_fits false decimal n = tt
number_fits true false n = tt
number_fits true true n = ranged least_value greatest_value n

number_is : (low high : ℤ) (word : Word) → IfOk (number low high word) (IsBetween low high)
number_is low high word =
    bare_holds (IsBetween low high) (λ w. number_said w >>= in_range low high)
    (λ w. then_holds (IsBetween least_value greatest_value) (IsBetween low high) (number_said w) (in_range low high)
    (number_fits (begins_number w) (is_decimal w) _) (λ n _. ranged low high n))
    word

natural_between : (low high : ℕ) (n : ℤ) → IsBetween (pos low) (pos high) n → (low ≤ unsigned_abs n) × (unsigned_abs n ≤ high)
natural_between low high (pos n) is = (grind (arith, is.0), grind (arith, is.1))
natural_between low high (negsuc n) is = absurd (let wrong : false ≡ true = is.0 in cc)

pub natural_is : (low high : ℕ) (word : Word) → IfOk (natural low high word) (λ n. (low ≤ n) × (n ≤ high))
natural_is low high word =
    with_holds (IsBetween (pos low) (pos high)) (λ n. (low ≤ n) × (n ≤ high)) unsigned_abs (number (pos low) (pos high) word)
    (natural_between low high) (number_is (pos low) (pos high) word)

-- constants: each is below 2 ^ 20

abbrev AreConstants : Option ℕ → Type 0
AreConstants said = IfSome said (λ n. n < 2 ^ 20)

abbrev IsTable : List (List ℕ × ℕ) → Type 0
IsTable entries = AllByRecursion (λ entry. entry.1 < 2 ^ 20) entries

among_fits : (entries : List (List ℕ × ℕ)) (word : List ℕ) → IsTable entries → AreConstants (among entries word)
among_fits [] word all = tt
among_fits (entry ∷ entries) word all = when AreConstants (bytes_eq word entry.0) _ _ (λ _. all.0) (λ _. among_fits entries word all.1)

or_fits : (first second : Option ℕ) → AreConstants first → AreConstants second → AreConstants (or_else first second)
or_fits None second one other = other
or_fits (Some n) second one other = one

constant_fits : (word : List ℕ) → AreConstants (constant_said word)
constant_fits word =
    or_fits (among open_constants word) _ (among_fits open_constants word (search rules))
    (or_fits (among descriptor_constants word) (among other_constants word) (among_fits descriptor_constants word (search rules))
    (among_fits other_constants word (search rules)))

joined_fits : (n : ℕ) (said : Option ℕ) → n < 2 ^ 20 → AreConstants said → AreConstants (joined_to n said)
joined_fits n None small fits = tt
joined_fits n (Some m) small fits = or_lt 20 n m small fits

all_joined_fit : (said : Option ℕ) (parts : List (List ℕ)) → AreConstants said → AreConstants (joined said parts)
all_joined_fit None parts fits = tt
all_joined_fit (Some n) [] fits = fits
all_joined_fit (Some n) (part ∷ parts) fits = all_joined_fit (joined_to n (constant_said part)) parts (joined_fits n (constant_said part) fits (constant_fits part))

-- values

constants_operand : (said : Option ℕ) → AreConstants said → IfSome (option_map (λ n. Number (pos n)) said) IsOperand
constants_operand None fits = tt
constants_operand (Some n) fits = (refl, grind (arith, fits))

number_operand : (word : List ℕ) → IfOk (number_or_constants word) IsOperand
number_operand word =
    let P : Result Operand FaultKind → Type 0 = λ r. IfOk r IsOperand in
    when P (begins_number word) _ _
    (λ _. with_holds (IsBetween least_value greatest_value) IsOperand Number (number_said word) (λ n is. is) (number_fits (begins_number word) (is_decimal word) _))
    (λ _. known_holds IsOperand (option_map (λ n. Number (pos n)) (constants_said word))
    (constants_operand (constants_said word) (all_joined_fit (Some 0) (slice_split (λ byte. byte == 124) word) (omega arith))))

register_operand : (word : List ℕ) (said : Option ℕ) → AreRegisters said → IfOk (register_or word said) IsOperand
register_operand word None fits = number_operand word
register_operand word (Some r) fits = fits

pub value_is : (word : Word) → IfOk (value word) IsOperand
value_is word = bare_holds IsOperand (λ w. register_or w (register_said w)) (λ w. register_operand w (register_said w) (register_fits w)) word

-- names and texts

pub name_is : (word : Word) → IfOk (name word) (λ said. is_name said ≡ true)
name_is word =
    bare_holds (λ said. is_name said ≡ true) (λ w. if is_name w then Ok w else Err UnknownWord)
    (λ w. when (λ r. IfOk r (λ said. is_name said ≡ true)) (is_name w) _ _ (λ is. is) (λ _. tt)) word

pub path_is : (word : Word) → IsTextWord word → IfOk (path word) IsPath
path_is (Bare word) bytes = tt
path_is (Quoted text) bytes = when (λ r. IfOk r IsPath) (is_path text) _ _ (λ is. (is, bytes)) (λ _. tt)

pub stored_is : (word : Word) → IsTextWord word → IfOk (stored word) IsStored
stored_is (Bare word) bytes = tt
stored_is (Quoted text) bytes = when (λ r. IfOk r IsStored) (nat_le (length text) 64) _ _ (λ is. (grind (arith, is), bytes)) (λ _. tt)
