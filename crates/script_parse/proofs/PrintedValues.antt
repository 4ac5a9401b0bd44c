-- What a printed word says is what it was printed for.
use Rattle.std.proofs.Common.{◌≡◌, ◌≢◌, ◌<◌, ◌≤◌, ◌-◌, ◌^◌, ℕ, zero, suc, ℤ, pos, negsuc, neg_ℤ, Bool, true, false, cond, not, ◌==◌, List, [], ◌∷◌, ◌++◌, length, Option, None, Some, Ok, Err, refl, sym, ap, ◌∙◌, subst, arith}
use Rattle.std.specs.Prelude.{◌||◌, ◌&&◌, nat_le, int_le, unsigned_abs, option_map, if◌then◌else◌, codes, decimal}
use Rattle.std.specs.List.{AllByRecursion, list_all}
use Rattle.std.specs.Fmt.{signed_decimal, digits}
use Rattle.std.specs.Str.{all_ascii_digits, bytes_eq}
use Rattle.std.specs.Str.Parse.{IsNumeral, digits_value, signed_digits_value, without_leading_plus}
use Rattle.std.proofs.lemmas.Bool.{and_parts}
use Rattle.std.proofs.lemmas.Fmt.{decimal_is_IsNumeral}
use Rattle.std.proofs.lemmas.Str.Parse.{numerals_by_value, tells_all_ascii_digits, without_leading_plus_none}
use Rattle.kabi_types.specs.declared.scripts.FaultKind.TheVariants.{UnknownWord, OutOfRange}
use Rattle.kabi_types.specs.declared.scripts.Operand.{Operand}
use Rattle.kabi_types.specs.declared.scripts.Operand.TheVariants.{Reg, Number}
use Rattle.posix_defs.specs.declared.said.Word.TheVariants.{Bare}
use Rattle.posix_defs.specs.ScriptWords.{is_within}
use Rattle.posix_defs.specs.ScriptValues.{with, ◌>>=◌, known, is_word, is_digit, is_letter, register_said, register, in_range, least_value, greatest_value, begins_number, is_digits, is_decimal, number_by, number_said, constants_said, register_or, value, is_name_byte, is_name, name}
use Rattle.posix_defs.specs.ScriptLines.{natural}
use Rattle.posix_defs.specs.Canonical.{shown, shown_bytes, number_word, name_word, register_word, operand_word}
use Rattle.posix_defs.specs.ValidScript.{IsRegister, IsOperand}
use Rattle.script_parse.proofs.Holds.{when, within_le}
use Rattle.script_parse.proofs.PrintedWords.{IsInk, IsPrinted}

-- words that are tested by computing

abbrev pub is_plain_word : List ℕ → Bool
is_plain_word [] = false
is_plain_word (first ∷ word) = not (first == 34) && list_all (is_within 33 126) (first ∷ word)

inks : (word : List ℕ) → list_all (is_within 33 126) word ≡ true → AllByRecursion IsInk word
inks [] is = tt
inks (byte ∷ word) is = let parts = and_parts (is_within 33 126 byte) (list_all (is_within 33 126) word) is in (within_le 33 126 byte parts.0, inks word parts.1)

not_true : (test : Bool) → not test ≡ true → test ≡ false
not_true true is = absurd (let wrong : false ≡ true = is in cc)
not_true false is = refl

pub plain_printed : (word : List ℕ) → is_plain_word word ≡ true → IsPrinted (Bare word)
plain_printed [] is = absurd (let wrong : false ≡ true = is in cc)
plain_printed (first ∷ word) is =
    let parts = and_parts (not (first == 34)) (list_all (is_within 33 126) (first ∷ word)) is in
    let unquoted : (first == 34) ≡ false = not_true (first == 34) parts.0 in
    ((λ same. grind (arith, same, unquoted)), inks (first ∷ word) parts.1)

-- decimal numbers

record IsDecimal (word : List ℕ) (n : ℕ) : Type 0 where
  first : ℕ
  rest : List ℕ
  word_is : first ∷ rest ≡ word
  low : 48 ≤ first
  high : first ≤ 57
  all : all_ascii_digits (first ∷ rest) ≡ true
  counts : digits_value 10 (first ∷ rest) ≡ n

decimal_of : (word : List ℕ) (n : ℕ) → IsNumeral 10 word → digits_value 10 word ≡ n → IsDecimal word n
decimal_of [] n is counts = absurd (omega (arith, is.0))
decimal_of (first ∷ rest) n is counts =
    let all = (numerals_by_value (λ ds. all_ascii_digits ds ≡ true) tells_all_ascii_digits).from (first ∷ rest) is.1 in
    let here = (tells_all_ascii_digits.parts first rest all).0 in
    record { first = first; rest = rest; word_is = refl; low = here.0; high = here.1; all = all; counts = counts }

decimal_is : (n : ℕ) → n < 2 ^ 64 → IsDecimal (decimal n) n
decimal_is n small = let is = decimal_is_IsNumeral n small in decimal_of (decimal n) n is.0 is.1

digits_ink : (word : List ℕ) → all_ascii_digits word ≡ true → AllByRecursion IsInk word
digits_ink [] all = tt
digits_ink (byte ∷ word) all =
    let parts = tells_all_ascii_digits.parts byte word all in ((omega (arith, parts.0.0), omega (arith, parts.0.1)), digits_ink word parts.1)

pub number_printed : (n : ℕ) → n < 2 ^ 64 → IsPrinted (number_word n)
number_printed n small =
    let is = decimal_is n small in
    subst (λ word. IsPrinted (Bare word)) is.word_is ((λ same. omega (arith, is.low, same)), digits_ink (is.first ∷ is.rest) is.all)

-- a number without a sign

plain_value : (first : ℕ) (rest : List ℕ) → 48 ≤ first → first ≤ 57 → signed_digits_value 10 (first ∷ rest) ≡ pos (digits_value 10 (first ∷ rest))
plain_value first rest low high =
    let unsigned : (first == 45) ≡ false = grind (arith, low) in
    ap (λ b. cond b (neg_ℤ (pos (digits_value 10 (cond b rest (without_leading_plus (first ∷ rest))))))
    (pos (digits_value 10 (cond b rest (without_leading_plus (first ∷ rest)))))) unsigned
    ∙ ap (λ w. pos (digits_value 10 w)) (without_leading_plus_none (first ∷ rest) (λ same. omega (arith, low, same)))

plain_begins : (first : ℕ) (rest : List ℕ) → 48 ≤ first → first ≤ 57 → begins_number (first ∷ rest) ≡ true
plain_begins first rest low high = ap (λ b. b || first == 45) (let is : is_digit first ≡ true = grind (arith, low, high) in is)

plain_decimal : (first : ℕ) (rest : List ℕ) → 48 ≤ first → all_ascii_digits (first ∷ rest) ≡ true → is_decimal (first ∷ rest) ≡ true
plain_decimal first rest low all = ap (λ b. if b then is_digits rest else is_digits (first ∷ rest)) (let is : (first == 45) ≡ false = grind (arith, low) in is) ∙ all

plain_number : (first : ℕ) (rest : List ℕ) (n : ℕ) → 48 ≤ first → first ≤ 57 → all_ascii_digits (first ∷ rest) ≡ true → digits_value 10 (first ∷ rest) ≡ n
    → number_said (first ∷ rest) ≡ in_range least_value greatest_value (pos n)
plain_number first rest n low high all counts =
    ap (λ b. number_by b (is_decimal (first ∷ rest)) (signed_digits_value 10 (first ∷ rest))) (plain_begins first rest low high)
    ∙ ap (λ b. number_by true b (signed_digits_value 10 (first ∷ rest))) (plain_decimal first rest low all)
    ∙ ap (in_range least_value greatest_value) (plain_value first rest low high ∙ ap pos counts)

minus_number : (first : ℕ) (rest : List ℕ) (n : ℕ) → all_ascii_digits (first ∷ rest) ≡ true → digits_value 10 (first ∷ rest) ≡ n
    → number_said (45 ∷ first ∷ rest) ≡ in_range least_value greatest_value (neg_ℤ (pos n))
minus_number first rest n all counts =
    ap (λ b. number_by true b (signed_digits_value 10 (45 ∷ first ∷ rest))) all
    ∙ ap (λ m. in_range least_value greatest_value (neg_ℤ (pos m))) counts

ranged : (low high n : ℤ) → int_le low n ≡ true → int_le n high ≡ true → in_range low high n ≡ Ok n
ranged low high n above below =
    ap (λ b. if b then (if int_le n high then Ok n else Err OutOfRange) else Err OutOfRange) above ∙ ap (λ b. if b then Ok n else Err OutOfRange) below

signed_number : (z : ℤ) → int_le least_value z ≡ true → int_le z greatest_value ≡ true → number_said (signed_decimal z) ≡ Ok z
signed_number (pos n) above below =
    let is = decimal_is n (grind (arith, below)) in
    subst (λ word. number_said word ≡ Ok (pos n)) is.word_is
    (plain_number is.first is.rest n is.low is.high is.all is.counts ∙ ranged least_value greatest_value (pos n) above below)
signed_number (negsuc n) above below =
    let is = decimal_is (suc n) (grind (arith, above)) in
    subst (λ word. number_said (45 ∷ word) ≡ Ok (negsuc n)) is.word_is
    (minus_number is.first is.rest (suc n) is.all is.counts ∙ ranged least_value greatest_value (negsuc n) above below)

-- a printed number without a sign is read
pub natural_read : (low high n : ℕ) → low ≤ n → n ≤ high → high ≤ 9223372036854775807 → natural low high (number_word n) ≡ Ok n
natural_read low high n above below small =
    ap (λ said. with unsigned_abs (said >>= in_range (pos low) (pos high)))
    (signed_number (pos n) refl (let is : int_le (pos n) greatest_value ≡ true = grind (arith, below, small) in is))
    ∙ ap (with unsigned_abs) (ranged (pos low) (pos high) (pos n) (let is : int_le (pos low) (pos n) ≡ true = grind (arith, above) in is)
    (let is : int_le (pos n) (pos high) ≡ true = grind (arith, below) in is))

-- registers

abbrev same_register : ℕ → Option ℕ → Bool
same_register n None = false
same_register n (Some m) = m == n

abbrev registers_below : ℕ → Bool
registers_below zero = true
registers_below (suc n) = same_register n (register_said (codes "r" ++ decimal n)) && registers_below n

is_same : (n : ℕ) (said : Option ℕ) → same_register n said ≡ true → said ≡ Some n
is_same n None is = absurd (let wrong : false ≡ true = is in cc)
is_same n (Some m) is = ap Some (let same : m ≡ n = grind (arith, is) in same)

below_read : (count : ℕ) → registers_below count ≡ true → (r : ℕ) → r < count → register_said (codes "r" ++ decimal r) ≡ Some r
below_read zero is r less = absurd (omega (arith, less))
below_read (suc n) is r less = go (r == n) refl (and_parts (same_register n (register_said (codes "r" ++ decimal n))) (registers_below n) is) (below_read n)
  where
    go : (last : Bool) → (r == n) ≡ last → (same_register n (register_said (codes "r" ++ decimal n)) ≡ true) × (registers_below n ≡ true)
        → (registers_below n ≡ true → (r : ℕ) → r < n → register_said (codes "r" ++ decimal r) ≡ Some r) → register_said (codes "r" ++ decimal r) ≡ Some r
    go true at parts more =
        let same : n ≡ r = grind (arith, at) in
        subst (λ r. register_said (codes "r" ++ decimal r) ≡ Some r) same (is_same n (register_said (codes "r" ++ decimal n)) parts.0)
    go false at parts more = more parts.1 r (grind (arith, at, less))

all_registers : registers_below 16 ≡ true
unfolding digits
all_registers = refl

register_found : (r : ℕ) → IsRegister r → register_said (codes "r" ++ decimal r) ≡ Some r
register_found r is = below_read 16 all_registers r is

-- a printed register is read
pub register_read : (r : ℕ) → IsRegister r → register (register_word r) ≡ Ok r
register_read r is = ap known (register_found r is)

pub register_printed : (r : ℕ) → IsRegister r → IsPrinted (register_word r)
register_printed r is =
    let word = decimal_is r (omega (arith, is)) in
    subst (λ w. IsPrinted (Bare (114 ∷ w))) word.word_is ((λ same. omega (arith, same)), ((omega arith, omega arith), digits_ink (word.first ∷ word.rest) word.all))

-- values

-- what begins with another letter is no register
no_register : (first : ℕ) (rest : List ℕ) → (first == 114) ≡ false → register_said (first ∷ rest) ≡ None
no_register first [] other = refl
no_register first (ones ∷ []) other = ap (λ b. if b && is_digit ones then Some (ones - 48) else None) other
no_register first (tens ∷ ones ∷ []) other = ap (λ b. if b && tens == 49 && is_within 48 53 ones then Some (ones - 38) else None) other
no_register first (tens ∷ ones ∷ more ∷ rest) other = refl

-- a signed number begins with a digit or a sign
record IsSigned (word : List ℕ) : Type 0 where
  first : ℕ
  rest : List ℕ
  word_is : first ∷ rest ≡ word
  begins : (is_digit first || first == 45) ≡ true
  ink : AllByRecursion IsInk (first ∷ rest)

signed_is : (z : ℤ) → int_le least_value z ≡ true → int_le z greatest_value ≡ true → IsSigned (signed_decimal z)
signed_is (pos n) above below =
    let is = decimal_is n (grind (arith, below)) in record {
      first = is.first;
      rest = is.rest;
      word_is = is.word_is;
      begins = plain_begins is.first is.rest is.low is.high;
      ink = digits_ink (is.first ∷ is.rest) is.all;
    }
signed_is (negsuc n) above below =
    let is = decimal_is (suc n) (grind (arith, above)) in record {
      first = 45;
      rest = decimal (suc n);
      word_is = refl;
      begins = refl;
      ink = ((omega arith, omega arith), subst (AllByRecursion IsInk) is.word_is (digits_ink (is.first ∷ is.rest) is.all));
    }

-- a byte that begins a number is no other
begins_other : (first other : ℕ) → (is_digit first || first == 45) ≡ true → is_digit other ≡ false → (other == 45) ≡ false → (first == other) ≡ false
begins_other first other begins digit sign = go (first == other) refl
  where
    go : (same : Bool) → (first == other) ≡ same → (first == other) ≡ false
    go false is = is
    go true is =
        let equal : first ≡ other = grind (arith, is) in
        let wrong : (is_digit other || other == 45) ≡ true = subst (λ b. (is_digit b || b == 45) ≡ true) equal begins in
        let none : (is_digit other || other == 45) ≡ false = ap (λ b. b || other == 45) digit ∙ sign in
        absurd (let bad : false ≡ true = sym none ∙ wrong in cc)

pub operand_read : (operand : Operand) → IsOperand operand → value (operand_word operand) ≡ Ok operand
operand_read (Reg r) is = ap (register_or (codes "r" ++ decimal r)) (register_found r is)
operand_read (Number z) is =
    let word = signed_is z is.0 is.1 in
    let w = signed_decimal z in
    ap (register_or w) (subst (λ w. register_said w ≡ None) word.word_is (no_register word.first word.rest (begins_other word.first 114 word.begins refl refl)))
    ∙ ap (λ b. if b then with Number (number_said w) else known (option_map (λ n. Number (pos n)) (constants_said w))) (subst (λ w. begins_number w ≡ true) word.word_is word.begins)
    ∙ ap (with Number) (signed_number z is.0 is.1)

pub operand_printed : (operand : Operand) → IsOperand operand → IsPrinted (operand_word operand)
operand_printed (Reg r) is = register_printed r is
operand_printed (Number z) is =
    let word = signed_is z is.0 is.1 in
    let unquoted : (word.first == 34) ≡ false = begins_other word.first 34 word.begins refl refl in
    subst (λ w. IsPrinted (Bare w)) word.word_is ((λ same. grind (arith, same, unquoted)), word.ink)

-- a printed value is no sign of equality
pub operand_no_equals : (operand : Operand) → IsOperand operand → is_word (codes "=") (operand_word operand) ≡ false
operand_no_equals (Reg r) is = refl
operand_no_equals (Number z) is =
    let word = signed_is z is.0 is.1 in
    subst (λ w. bytes_eq w (codes "=") ≡ false) word.word_is (ap (λ b. b && bytes_eq word.rest []) (begins_other word.first 61 word.begins refl refl))

-- names

name_byte : (byte : ℕ) → is_name_byte byte ≡ true → IsInk byte × (byte ≢ 34) × (byte ≢ 35) × (byte ≢ 92)
name_byte byte is = go (is_letter byte) (is_digit byte) (byte == 95) refl refl refl is
  where
    go : (letter digit line : Bool) → is_letter byte ≡ letter → is_digit byte ≡ digit → (byte == 95) ≡ line → (letter || digit || line) ≡ true
        → IsInk byte × (byte ≢ 34) × (byte ≢ 35) × (byte ≢ 92)
    go true digit line is_l is_d is_u some =
        let w = within_le 97 122 byte is_l in
        ((omega (arith, w), omega (arith, w)), (λ e. omega (arith, w, e)), (λ e. omega (arith, w, e)), (λ e. omega (arith, w, e)))
    go false true line is_l is_d is_u some =
        let w = within_le 48 57 byte is_d in
        ((omega (arith, w), omega (arith, w)), (λ e. omega (arith, w, e)), (λ e. omega (arith, w, e)), (λ e. omega (arith, w, e)))
    go false false true is_l is_d is_u some =
        let w : byte ≡ 95 = grind (arith, is_u) in
        ((omega (arith, w), omega (arith, w)), (λ e. omega (arith, w, e)), (λ e. omega (arith, w, e)), (λ e. omega (arith, w, e)))
    go false false false is_l is_d is_u some = absurd (let wrong : false ≡ true = some in cc)

-- a byte of a name is printed as itself
shown_itself : (byte : ℕ) → IsInk byte → byte ≢ 34 → byte ≢ 92 → shown byte ≡ byte ∷ []
shown_itself byte ink quote slash =
    let P : List ℕ → Type 0 = λ l. l ≡ byte ∷ [] in
    when P (byte == 10) _ _ (λ is. absurd (let same : byte ≡ 10 = grind (arith, is) in omega (arith, same, ink.0)))
    (λ _. when P (byte == 34 || byte == 92) _ _ (λ is. absurd (none (byte == 34) (byte == 92) refl refl is))
    (λ _. when P (is_within 32 126 byte) _ _ (λ _. refl)
    (λ out. absurd (let within : is_within 32 126 byte ≡ true = grind (arith, ink.0, ink.1) in let bad : false ≡ true = sym out ∙ within in cc))))
  where
    none : (a b : Bool) → (byte == 34) ≡ a → (byte == 92) ≡ b → (a || b) ≡ true → ⊥
    none true b is_a is_b some = quote (grind (arith, is_a))
    none false true is_a is_b some = slash (grind (arith, is_b))
    none false false is_a is_b some = let wrong : false ≡ true = some in cc

name_bytes_shown : (bytes : List ℕ) → list_all is_name_byte bytes ≡ true → (shown_bytes bytes ≡ bytes) × AllByRecursion IsInk bytes
name_bytes_shown [] all = (refl, tt)
name_bytes_shown (byte ∷ bytes) all =
    let parts = and_parts (is_name_byte byte) (list_all is_name_byte bytes) all in
    let here = name_byte byte parts.0 in
    let rest = name_bytes_shown bytes parts.1 in
    ((ap (λ l. l ++ shown_bytes bytes) (shown_itself byte here.0 here.1 here.3) ∙ ap (λ l. byte ∷ l) rest.0), (here.0, rest.1))

-- a name: a letter, and what else it has
name_all : (name : List ℕ) → is_name name ≡ true → list_all is_name_byte name ≡ true
name_all [] is = absurd (let wrong : false ≡ true = is in cc)
name_all (first ∷ rest) is =
    let long = and_parts (is_letter first && list_all is_name_byte rest) (nat_le (length rest) 26) is in
    let parts = and_parts (is_letter first) (list_all is_name_byte rest) long.0 in
    ap (λ b. (b || is_digit first || first == 95) && list_all is_name_byte rest) parts.0 ∙ parts.1

pub name_shown : (name : List ℕ) → is_name name ≡ true → shown_bytes name ≡ name
name_shown name is = (name_bytes_shown name (name_all name is)).0

pub name_read : (said : List ℕ) → is_name said ≡ true → name (name_word said) ≡ Ok said
name_read said is = ap (λ w. name (Bare w)) (name_shown said is) ∙ ap (λ b. if b then Ok said else Err UnknownWord) is

pub name_printed : (said : List ℕ) → is_name said ≡ true → IsPrinted (name_word said)
name_printed said is = subst (λ w. IsPrinted (Bare w)) (sym (name_shown said is)) (go said is (name_all said is) (name_bytes_shown said (name_all said is)).1)
  where
    go : (w : List ℕ) → is_name w ≡ true → list_all is_name_byte w ≡ true → AllByRecursion IsInk w → IsPrinted (Bare w)
    go [] is all ink = absurd (let wrong : false ≡ true = is in cc)
    go (first ∷ rest) is all ink = ((name_byte first (and_parts (is_name_byte first) (list_all is_name_byte rest) all).0).1, ink)
