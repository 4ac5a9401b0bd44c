-- Facts of each of a list, as elements go from its end or come to it.
use Rattle.std.proofs.Common.{◌≡◌, ◌+◌, ◌<◌, List, [], ◌∷◌, ◌++◌, length, Option, Some, None, refl, ap, sym, ◌∙◌, subst, append_assoc, append-nil, arith, length-append}
use Rattle.std.specs.Prelude.{option_to_list}
use Rattle.std.specs.List.{AllByRecursion}
use Rattle.kern_shared.specs.Closing.{HasLast}

pub all_more : {X : Type 0} (P : X → Type 0) (xs : List X) (x : X) → AllByRecursion P xs → P x → AllByRecursion P (xs ++ x ∷ [])
all_more P [] x all holds = (holds, tt)
all_more P (y ∷ xs) x all holds = (all.0, all_more P xs x all.1 holds)

pub all_less : {X : Type 0} (P : X → Type 0) (xs : List X) (x : X) → AllByRecursion P (xs ++ x ∷ []) → AllByRecursion P xs × P x
all_less P [] x all = (tt, all.0)
all_less P (y ∷ xs) x all = let rest = all_less P xs x all.1 in ((all.0, rest.0), rest.1)

pub all_where : {X : Type 0} (P Q : X → Type 0) → ((x : X) → P x → Q x) → (xs : List X) → AllByRecursion P xs → AllByRecursion Q xs
all_where P Q also [] all = tt
all_where P Q also (x ∷ xs) all = (also x all.0, all_where P Q also xs all.1)

-- the one at the end goes
pub last_goes : {X : Type 0} (old new : List X) (found : Option X) (x : X) → old ≡ new ++ option_to_list found → found ≡ Some x → old ≡ new ++ x ∷ []
last_goes old new found x is some = is ∙ ap (λ o. new ++ option_to_list o) some

pub all_popped : {X : Type 0} (P : X → Type 0) (old new : List X) (found : Option X) (x : X) → old ≡ new ++ option_to_list found → found ≡ Some x → AllByRecursion P old
    → AllByRecursion P new × P x
all_popped P old new found x is some all = all_less P new x (subst (AllByRecursion P) (last_goes old new found x is some) all)

pub none_goes : {X : Type 0} (old new : List X) (found : Option X) → old ≡ new ++ option_to_list found → found ≡ None → old ≡ new
none_goes old new found is none = is ∙ ap (λ o. new ++ option_to_list o) none ∙ append-nil new

-- of all these some are left, and of each that went this holds
abbrev pub HasGone : {X : Type 0} → (X → Type 0) → List X → List X → Type 0
HasGone {X} P left all = (gone : List X) × (all ≡ left ++ gone) × AllByRecursion P gone

pub none_gone : {X : Type 0} (P : X → Type 0) (all : List X) → HasGone P all all
none_gone P all = ([], sym (append-nil all), tt)

pub one_gone : {X : Type 0} (P Q : X → Type 0) (left rest all : List X) (found : Option X) (x : X) → ((y : X) → P y → Q y) → left ≡ rest ++ option_to_list found → found ≡ Some x → Q x
    → HasGone P left all → HasGone Q rest all
one_gone P Q left rest all found x also is some holds gone = (
  x ∷ gone.0,
  gone.1 ∙ ap (λ l. l ++ gone.0) (last_goes left rest found x is some) ∙ append_assoc rest (x ∷ []) gone.0,
  (holds, all_where P Q also gone.0 gone.2),
)

pub all_gone : {X : Type 0} (P : X → Type 0) (left all : List X) → left ≡ [] → HasGone P left all → AllByRecursion P all
all_gone P left all none gone = subst (AllByRecursion P) (sym (gone.1 ∙ ap (λ l. l ++ gone.0) none)) gone.2

none_more : {X : Type 0} (xs : List X) (x : X) → xs ++ x ∷ [] ≡ [] → ⊥
none_more [] x h = cc
none_more (y ∷ xs) x h = cc

-- two lists with one element more each are the same only where both parts are
pub same_last : {X : Type 0} (xs ys : List X) (x y : X) → xs ++ x ∷ [] ≡ ys ++ y ∷ [] → (xs ≡ ys) × (x ≡ y)
same_last [] [] x y h = (refl, cc)
same_last [] (z ∷ ys) x y h = absurd (none_more ys y (sym (cc)))
same_last (z ∷ xs) [] x y h = absurd (none_more xs x (cc))
same_last (z ∷ xs) (w ∷ ys) x y h =
    let rest = same_last xs ys x y (cc) in let first : z ≡ w = cc in (ap (λ l. z ∷ l) rest.0 ∙ ap (λ v. v ∷ ys) first, rest.1)

-- what holds of the last of a list and of those before it holds of the one that goes from its end and of the rest
pub last_popped : {X : Type 0} (Holds : List X → X → Type 0) (old new : List X) (found : Option X) (x : X) → old ≡ new ++ option_to_list found → found ≡ Some x → HasLast Holds old
    → Holds new x
last_popped Holds old new found x is some last =
    let same = same_last last.0 new last.1 x (sym last.2 ∙ last_goes old new found x is some) in
    subst (λ l. Holds l x) same.0 (subst (Holds last.0) same.1 last.3)

-- where there is a last one the list isn't empty
pub some_last : {X : Type 0} (Holds : List X → X → Type 0) (all : List X) → HasLast Holds all → 0 < length all
some_last Holds all last = omega (arith, ap length last.2, length-append last.0 (last.1 ∷ []))

pub length_less : {X : Type 0} (xs : List X) (x : X) → length (xs ++ x ∷ []) ≡ length xs + 1
length_less xs x = omega (arith, length-append xs (x ∷ []))
