-- Words and pids, read back from where they were written.
use Rattle.std.proofs.Common.{◌≡◌, ℕ, suc, ltb, ◌+◌, ◌-◌, ◌*◌, ◌/◌, ◌%◌, ◌<◌, ◌≤◌, ◌^◌, ◌==◌, ◌&&◌, ◌||◌, not, Bool, true, false, cond, List, [], ◌∷◌, ◌++◌, length, drop, Option, None, Some, option_and_then, decimal, refl, ap, sym, ◌∙◌, subst, arith}
use Rattle.std.proofs.lemmas.Bool.{cond-false, cond-true, le-leb, le-ltb, ne_eqb}
use Rattle.std.proofs.lemmas.Bool.Decides.{Decides-ltb, nat_tests}
use Rattle.std.proofs.lemmas.Fmt.{decimal_by_steps, decimal_nonempty}
use Rattle.posix_defs.specs.Lines.{pid_text}
use Rattle.run_pasts.proofs.Same.{both_true, true_both}
use Rattle.claim_lines.specs.Words.{first_word, is_gap, more_by, number_after, pid_named, rest_of}

-- ---- words

-- no word ends within these bytes
abbrev pub gapless : List ℕ → Bool
gapless [] = true
gapless (byte ∷ bytes) = not (is_gap byte) && gapless bytes

no_gap : (b : Bool) → not b ≡ true → b ≡ false
no_gap true h = sym h
no_gap false h = refl

pub first_back : (word : List ℕ) (gap : ℕ) (rest : List ℕ) → gapless word ≡ true → is_gap gap ≡ true → first_word (word ++ gap ∷ rest) ≡ word
first_back [] gap rest none ends = cond-true (is_gap gap) [] (gap ∷ first_word rest) ends
first_back (byte ∷ word) gap rest none ends =
    let parts = both_true _ _ none in
    cond-false (is_gap byte) [] (byte ∷ first_word (word ++ gap ∷ rest)) (no_gap _ parts.0) ∙ ap (λ w. byte ∷ w) (first_back word gap rest parts.1 ends)

pub rest_back : (word : List ℕ) (gap : ℕ) (rest : List ℕ) → gapless word ≡ true → is_gap gap ≡ true → rest_of (word ++ gap ∷ rest) ≡ rest
rest_back [] gap rest none ends = cond-true (is_gap gap) rest (rest_of rest) ends
rest_back (byte ∷ word) gap rest none ends =
    let parts = both_true _ _ none in
    cond-false (is_gap byte) (word ++ gap ∷ rest) (rest_of (word ++ gap ∷ rest)) (no_gap _ parts.0) ∙ rest_back word gap rest parts.1 ends

gapless-append : (xs ys : List ℕ) → gapless xs ≡ true → gapless ys ≡ true → gapless (xs ++ ys) ≡ true
gapless-append [] ys a b = b
gapless-append (x ∷ xs) ys a b = let parts = both_true _ _ a in true_both _ _ parts.0 (gapless-append xs ys parts.1 b)

-- ---- digits

digit_no_gap : (n : ℕ) → n < 10 → gapless ((48 + n) ∷ []) ≡ true
digit_no_gap n lt =
    let blank : ((48 + n) == 32) ≡ false = ne_eqb (48 + n) 32 (λ h. omega arith) in
    let newline : ((48 + n) == 10) ≡ false = ne_eqb (48 + n) 10 (λ h. omega arith) in
    rw (blank, newline) refl

pub decimal_gapless : (n : ℕ) → n < 2 ^ 64 → gapless (decimal n) ≡ true
decimal_gapless n lt =
    decimal_by_steps (λ m digits. gapless digits ≡ true) digit_no_gap
    (λ m digits le so. gapless-append digits ((48 + m % 10) ∷ []) so (digit_no_gap (m % 10) (omega arith))) n lt

more_digit : (n k : ℕ) → k < 10 → n * 10 + k < 2 ^ 32 → more_by n (48 + k) ≡ Some (n * 10 + k)
more_digit n k lt fits =
    let value : 48 + k - 48 ≡ k = omega arith in
    cond-true _ (Some (n * 10 + (48 + k - 48))) None
    (true_both _ _ (true_both _ _ (le-leb 48 (48 + k) (omega arith)) (le-leb (48 + k) 57 (omega arith))) ((Decides-ltb (n * 10 + (48 + k - 48)) (2 ^ 32)).1 (omega arith)))
    ∙ ap (λ v. Some (n * 10 + v)) value

one_number : (o : Option ℕ) → option_and_then (λ more. Some more) o ≡ o
one_number None = refl
one_number (Some more) = refl

number_next : (digits : List ℕ) (digit : ℕ) → ((n : ℕ) → number_after n (digits ++ digit ∷ []) ≡ option_and_then (λ more. more_by more digit) (number_after n digits))
    → (o : Option ℕ) → option_and_then (λ more. number_after more (digits ++ digit ∷ [])) o ≡ option_and_then (λ more. more_by more digit) (option_and_then (λ more. number_after more digits) o)
number_next digits digit along None = refl
number_next digits digit along (Some more) = along more

number_push : (n : ℕ) (digits : List ℕ) (digit : ℕ) → number_after n (digits ++ digit ∷ []) ≡ option_and_then (λ more. more_by more digit) (number_after n digits)
number_push n [] digit = one_number (more_by n digit)
number_push n (first ∷ digits) digit = number_next digits digit (λ more. number_push more digits digit) (more_by n first)

one_digit : (n : ℕ) → n < 10 → n < 2 ^ 32 → number_after 0 ((48 + n) ∷ []) ≡ Some n
one_digit n lt fits =
    ap (option_and_then (λ more. Some more)) (more_digit 0 n lt (omega arith)) ∙ ap Some (let same : 0 * 10 + n ≡ n = omega arith in same)

pub number_back : (n : ℕ) → n < 2 ^ 32 → number_after 0 (decimal n) ≡ Some n
number_back n lt =
    decimal_by_steps (λ m digits. m < 2 ^ 32 → number_after 0 digits ≡ Some m) one_digit
    (λ m digits le so fits.
    number_push 0 digits (48 + m % 10) ∙ ap (option_and_then (λ more. more_by more (48 + m % 10))) (so (omega arith))
    ∙ more_digit (m / 10) (m % 10) (omega arith) (omega arith) ∙ ap Some (let same : m / 10 * 10 + m % 10 ≡ m = omega arith in same))
    n (omega arith) lt

-- ---- pids

pub pid_gapless : (pid : ℕ) → pid < 2 ^ 32 → gapless (pid_text pid) ≡ true
pid_gapless pid lt = decimal_gapless pid (omega arith)

pub pid_back : (pid : ℕ) → pid < 2 ^ 32 → pid_named (pid_text pid) ≡ Some pid
pid_back pid lt =
    let some : 0 < length (decimal pid) = decimal_nonempty pid (omega arith) in
    let long : ltb (suc (length (decimal pid))) 2 ≡ false = le-ltb (suc (length (decimal pid))) 2 (omega arith) in
    ap (λ b. cond (b || false) None (number_after 0 (decimal pid))) long ∙ number_back pid lt
