-- What holds of what is said, part by part.
use Rattle.std.proofs.Common.{◌≡◌, ◌≤◌, ℕ, Bool, true, false, List, [], ◌∷◌, ◌++◌, length, Option, None, Some, IfSome, Result, Ok, Err, IfOk, refl, arith}
use Rattle.std.specs.Prelude.{⊤, nat_le, if◌then◌else◌}
use Rattle.std.specs.List.{AllByRecursion}
use Rattle.std.proofs.lemmas.Bool.{and_parts}
use Rattle.kabi_types.specs.declared.scripts.FaultKind.{FaultKind}
use Rattle.posix_defs.specs.declared.said.Word.{Word}
use Rattle.posix_defs.specs.ScriptWords.{is_within}
use Rattle.posix_defs.specs.ScriptValues.{both, with, ◌>>=◌, each, known}

-- either branch of a test
pub when : {X : Type 0} (P : X → Type 0) (test : Bool) (x y : X) → (test ≡ true → P x) → (test ≡ false → P y) → P (if test then x else y)
when P true x y one other = one refl
when P false x y one other = other refl

pub within_le : (low high n : ℕ) → is_within low high n ≡ true → (low ≤ n) × (n ≤ high)
within_le low high n is = let parts = and_parts (nat_le low n) (nat_le n high) is in (grind (arith, parts.0), grind (arith, parts.1))

pub all_append : {X : Type 0} (P : X → Type 0) (xs ys : List X) → AllByRecursion P xs → AllByRecursion P ys → AllByRecursion P (xs ++ ys)
all_append P [] ys first second = second
all_append P (x ∷ xs) ys first second = (first.0, all_append P xs ys first.1 second)

pub all_behind : {X : Type 0} (P : X → Type 0) (xs ys : List X) → AllByRecursion P (xs ++ ys) → AllByRecursion P ys
all_behind P [] ys all = all
all_behind P (x ∷ xs) ys all = all_behind P xs ys all.1

pub with_holds : {A B : Type 0} (P : A → Type 0) (Q : B → Type 0) (make : A → B) (said : Result A FaultKind) → ((a : A) → P a → Q (make a))
    → IfOk said P → IfOk (with make said) Q
with_holds P Q make (Ok a) goes holds = goes a holds
with_holds P Q make (Err kind) goes holds = tt

pub then_holds : {A B : Type 0} (P : A → Type 0) (Q : B → Type 0) (said : Result A FaultKind) (next : A → Result B FaultKind)
    → IfOk said P → ((a : A) → P a → IfOk (next a) Q) → IfOk (said >>= next) Q
then_holds P Q (Ok a) next holds goes = goes a holds
then_holds P Q (Err kind) next holds goes = tt

pub both_hold : {A B : Type 0} (P : A → Type 0) (Q : B → Type 0) (first : Result A FaultKind) (second : Result B FaultKind)
    → IfOk first P → IfOk second Q → IfOk (both first second) (λ p. P p.0 × Q p.1)
both_hold P Q (Ok a) (Ok b) one two = (one, two)
both_hold P Q (Ok a) (Err f) one two = tt
both_hold P Q (Err e) (Ok b) one two = tt
both_hold P Q (Err e) (Err f) one two = tt

-- nothing is asked of what is said
pub any : {A : Type 0} (said : Result A FaultKind) → IfOk said (λ _. ⊤)
any (Ok a) = tt
any (Err kind) = tt

pub known_holds : {A : Type 0} (P : A → Type 0) (said : Option A) → IfSome said P → IfOk (known said) P
known_holds P None holds = tt
known_holds P (Some a) holds = holds

-- as many as there are words, each as its word says
abbrev pub AreAll : {A : Type 0} → (A → Type 0) → List Word → List A → Type 0
AreAll P words items = (AllByRecursion P items) × (length items ≡ length words)

pub each_holds : {A : Type 0} (P : A → Type 0) (reads : Word → Result A FaultKind) → ((word : Word) → IfOk (reads word) P)
    → (words : List Word) → IfOk (each reads words) (AreAll P words)
each_holds P reads one [] = (tt, refl)
each_holds P reads one (word ∷ words) =
    with_holds (λ p. P p.0 × AreAll P words p.1) (AreAll P (word ∷ words)) (λ p. p.0 ∷ p.1) (both (reads word) (each reads words))
    (λ p all. ((all.0, all.1.0), omega (arith, all.1.1)))
    (both_hold P (AreAll P words) (reads word) (each reads words) (one word) (each_holds P reads one words))
