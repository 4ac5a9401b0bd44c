-- The bytes of the paths and labels of generated scripts: they are printed as they are, and no two labels are one.
use Rattle.std.proofs.Common.{◌≡◌, ◌≢◌, ◌<◌, ◌≤◌, ◌^◌, ℕ, Bool, true, false, not, ◌==◌, List, [], ◌∷◌, ◌++◌, length, refl, ap, ◌∙◌, arith}
use Rattle.std.specs.Prelude.{◌&&◌, ◌||◌, nat_le, if◌then◌else◌, codes, decimal}
use Rattle.std.specs.List.{AllByRecursion, list_all}
use Rattle.std.proofs.lemmas.Bool.{and_from, and_parts, not-true}
use Rattle.std.proofs.lemmas.Fmt.{decimal_by_steps, length-decimal-le, decimal_injective}
use Rattle.std.proofs.lemmas.List.{length-append}
use Rattle.posix_defs.specs.ScriptWords.{is_within}
use Rattle.posix_defs.specs.ScriptValues.{is_letter, is_name_byte, is_name}
use Rattle.posix_defs.specs.Canonical.{escape, digits_of, shown, shown_bytes}
use Rattle.posix_defs.specs.Generated.{directory, inside, file, other_file, child_label, parent_label}
use Rattle.posix_defs.specs.ValidScript.{IsBytes, IsPath}
use Rattle.script_parse.proofs.Holds.{all_append}
use Rattle.script_laws.proofs.Lists.{all_weaker}

-- digits

abbrev IsDigit : ℕ → Type 0
IsDigit byte = (48 ≤ byte) × (byte ≤ 57)

digits : (n : ℕ) → n < 2 ^ 64 → AllByRecursion IsDigit (decimal n)
digits =
    decimal_by_steps (λ n ds. AllByRecursion IsDigit ds) (λ n small. ((omega arith, omega (arith, small)), tt))
    (λ n ds many all. all_append IsDigit ds _ all ((omega arith, omega arith), tt))

-- bytes that are printed as they are

abbrev pub is_plain : ℕ → Bool
is_plain byte = is_within 35 122 byte && not (byte == 92)

pub record IsShort (text : List ℕ) : Type 0 where
  pub plain : AllByRecursion (λ byte. is_plain byte ≡ true) text
  pub short : length text ≤ 10

shown_plain : (byte : ℕ) → is_plain byte ≡ true → shown byte ≡ byte ∷ []
shown_plain byte is =
    let parts = and_parts (is_within 35 122 byte) (not (byte == 92)) is in
    let bounds = and_parts (nat_le 35 byte) (nat_le byte 122) parts.0 in
    let low : 35 ≤ byte = grind (arith, bounds.0) in
    ap (λ b. if b then escape 110 else if byte == 34 || byte == 92 then digits_of byte else if is_within 32 126 byte then byte ∷ [] else digits_of byte)
    (let no : (byte == 10) ≡ false = grind (arith, low) in no)
    ∙ ap (λ b. if b || byte == 92 then digits_of byte else if is_within 32 126 byte then byte ∷ [] else digits_of byte)
    (let no : (byte == 34) ≡ false = grind (arith, low) in no)
    ∙ ap (λ b. if b then digits_of byte else if is_within 32 126 byte then byte ∷ [] else digits_of byte) (not-true (byte == 92) parts.1)
    ∙ ap (λ b. if b then byte ∷ [] else digits_of byte) (let yes : is_within 32 126 byte ≡ true = grind (arith, low, bounds.1) in yes)

pub shown_as_is : (text : List ℕ) → AllByRecursion (λ byte. is_plain byte ≡ true) text → shown_bytes text ≡ text
shown_as_is [] all = refl
shown_as_is (byte ∷ text) all = ap (λ l. l ++ shown_bytes text) (shown_plain byte all.0) ∙ ap (λ l. byte ∷ l) (shown_as_is text all.1)

digit_plain : (byte : ℕ) → IsDigit byte → is_plain byte ≡ true
digit_plain byte is = grind (arith, is.0, is.1)

digits_plain : (n : ℕ) → n < 2 ^ 64 → AllByRecursion (λ byte. is_plain byte ≡ true) (decimal n)
digits_plain n small = all_weaker IsDigit (λ byte. is_plain byte ≡ true) (decimal n) digit_plain (digits n small)

abbrev ArePlain : List ℕ → Type 0
ArePlain text = AllByRecursion (λ byte. is_plain byte ≡ true) text

-- a number behind a short word, and a short word behind both
numbered : (front : List ℕ) (n : ℕ) → ArePlain front → length front ≤ 2 → n < 10 ^ 4 → IsShort (front ++ decimal n)
numbered front n plain few small = record {
  plain = all_append (λ byte. is_plain byte ≡ true) front (decimal n) plain (digits_plain n (omega (arith, small)));
  short = omega (arith, few, length-decimal-le 4 n (omega arith) small (omega (arith, small)), length-append front (decimal n));
}

further : (text back : List ℕ) → IsShort text → length text ≤ 6 → ArePlain back → length back ≤ 2 → IsShort (text ++ back)
further text back is few plain less = record {
  plain = all_append (λ byte. is_plain byte ≡ true) text back is.plain plain;
  short = omega (arith, few, less, length-append text back);
}

pub short_directory : (q : ℕ) → q < 10 ^ 4 → IsShort (directory q)
short_directory q small = numbered (codes "/d") q (refl, (refl, tt)) (omega arith) small

pub short_file : (q : ℕ) → q < 10 ^ 4 → IsShort (file q)
short_file q small = numbered (codes "/f") q (refl, (refl, tt)) (omega arith) small

pub short_other_file : (q : ℕ) → q < 10 ^ 4 → IsShort (other_file q)
short_other_file q small = numbered (codes "/g") q (refl, (refl, tt)) (omega arith) small

pub short_inside : (q : ℕ) → q < 10 ^ 4 → IsShort (inside q)
short_inside q small =
    further (directory q) (codes "/f") (short_directory q small)
    (omega (arith, length-decimal-le 4 q (omega arith) small (omega (arith, small)), length-append (codes "/d") (decimal q))) (refl, (refl, tt)) (omega arith)

pub short_child : (i : ℕ) → i < 10 ^ 4 → IsShort (child_label i)
short_child i small = numbered (codes "k") i (refl, tt) (omega arith) small

pub short_parent : (i : ℕ) → i < 10 ^ 4 → IsShort (parent_label i)
short_parent i small = numbered (codes "m") i (refl, tt) (omega arith) small

-- paths

plain_bytes : (text : List ℕ) → ArePlain text → IsBytes text
plain_bytes text all = all_weaker (λ byte. is_plain byte ≡ true) (λ byte. byte < 256) text (λ byte is. grind (arith, is)) all

plain_no_zero : (text : List ℕ) → ArePlain text → list_all (λ byte. not (byte == 0)) text ≡ true
plain_no_zero [] all = refl
plain_no_zero (byte ∷ text) all =
    and_from (not (byte == 0)) (list_all (λ byte. not (byte == 0)) text) (let is = all.0 in grind (arith, is)) (plain_no_zero text all.1)

pub short_path : (text : List ℕ) → IsShort text → IsPath text
short_path text is = (
  and_from (nat_le (length text) 255) (list_all (λ byte. not (byte == 0)) text) (let few = is.short in grind (arith, few)) (plain_no_zero text is.plain),
  plain_bytes text is.plain,
)

-- labels

digits_named : (ds : List ℕ) → AllByRecursion IsDigit ds → list_all is_name_byte ds ≡ true
digits_named [] all = refl
digits_named (byte ∷ ds) all =
    and_from (is_name_byte byte) (list_all is_name_byte ds) (let low = all.0.0 in let high = all.0.1 in grind (arith, low, high)) (digits_named ds all.1)

label_named : (letter i : ℕ) → is_letter letter ≡ true → i < 10 ^ 4 → is_name (letter ∷ decimal i) ≡ true
label_named letter i is small =
    and_from (is_letter letter && list_all is_name_byte (decimal i)) (nat_le (length (decimal i)) 26)
    (and_from (is_letter letter) (list_all is_name_byte (decimal i)) is (digits_named (decimal i) (digits i (omega (arith, small)))))
    (let few = length-decimal-le 4 i (omega arith) small (omega (arith, small)) in grind (arith, few))

pub child_named : (i : ℕ) → i < 10 ^ 4 → is_name (child_label i) ≡ true
child_named i small = label_named 107 i refl small

pub parent_named : (i : ℕ) → i < 10 ^ 4 → is_name (parent_label i) ≡ true
parent_named i small = label_named 109 i refl small

-- labels of two rounds are two, and so are those of one round
pub children_apart : (i j : ℕ) → i < j → j < 10 ^ 4 → child_label i ≢ child_label j
children_apart i j less small same =
    let digits_same : decimal i ≡ decimal j = cc in
    omega (arith, less, decimal_injective i j (omega (arith, less, small)) (omega (arith, small)) digits_same)

pub parents_apart : (i j : ℕ) → i < j → j < 10 ^ 4 → parent_label i ≢ parent_label j
parents_apart i j less small same =
    let digits_same : decimal i ≡ decimal j = cc in
    omega (arith, less, decimal_injective i j (omega (arith, less, small)) (omega (arith, small)) digits_same)

pub child_no_parent : (i j : ℕ) → child_label i ≢ parent_label j
child_no_parent i j same = let k : ℕ = 107 in let m : ℕ = 109 in let letters : k ≡ m = cc in omega (arith, letters)
