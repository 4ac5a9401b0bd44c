-- Lists of pids: one less, one more, some of them, and how many there can be.
use Rattle.std.proofs.Common.{◌≡◌, ◌≢◌, ℕ, zero, suc, ◌<◌, ◌≤◌, ◌==◌, ◌||◌, ◌&&◌, not, ⊎_elim, Bool, true, false, true≢false, cond, List, [], ◌∷◌, ◌++◌, filter, length, refl, ap, sym, ◌∙◌, arith, eq-eqb}
use Rattle.std.proofs.lemmas.Bool.{eqb-true}
use Rattle.std.proofs.lemmas.Bool.Decides.{leb_tells}
use Rattle.std.proofs.lemmas.Map.Views.{any-filter_same}
use Rattle.std.specs.List.{AllByRecursion}
use Rattle.posix_defs.specs.History.{is_among, others}
use Rattle.posix_defs.specs.World.{AreOnce, is_in}
use Rattle.kern_laws.proofs.Caches.{no_more}
use Rattle.turn_words.proofs.Held.{contrary}

pub eq_turned : (n m : ℕ) → (n == m) ≡ (m == n)
eq_turned n m = same (n == m) refl (m == n) refl
  where
    same : (b : Bool) → (n == m) ≡ b → (c : Bool) → (m == n) ≡ c → b ≡ c
    same true is true back = refl
    same true is false back = contrary (m == n) (eq-eqb m n (sym (eqb-true n m is))) back
    same false is true back = contrary (n == m) (eq-eqb n m (sym (eqb-true m n back))) is
    same false is false back = refl

-- the processes of a list but one
pub others_among : (pid : ℕ) (pids : List ℕ) (other : ℕ) → is_among other (others pid pids) ≡ (not (pid == other) && is_among other pids)
others_among pid pids other =
    any-filter_same (λ n. n == other) (λ n. not (n == pid)) (not (pid == other)) (λ n is. ap (λ k. not (k == pid)) (eqb-true n other is) ∙ ap not (eq_turned other pid)) pids

-- and with one more
pub among_more : (pids : List ℕ) (pid other : ℕ) → is_among other (pids ++ pid ∷ []) ≡ (is_among other pids || (pid == other))
among_more [] pid other = one (pid == other)
  where
    one : (b : Bool) → (b || false) ≡ b
    one true = refl
    one false = refl
among_more (p ∷ pids) pid other = ap (λ (b : Bool). (p == other) || b) (among_more pids pid other) ∙ three (p == other) (is_among other pids) (pid == other)
  where
    three : (a b c : Bool) → (a || (b || c)) ≡ ((a || b) || c)
    three true b c = refl
    three false b c = refl

pub all_more : {X : Type 0} (P : X → Type 0) (xs : List X) (x : X) → AllByRecursion P xs → P x → AllByRecursion P (xs ++ x ∷ [])
all_more P [] x all p = (p, tt)
all_more P (y ∷ xs) x all p = (all.0, all_more P xs x all.1 p)

pub all_filtered : {X : Type 0} (P : X → Type 0) (f : X → Bool) (xs : List X) → AllByRecursion P xs → AllByRecursion P (filter f xs)
all_filtered P f [] all = tt
all_filtered P f (x ∷ xs) all = by_test (f x) (all_filtered P f xs all.1)
  where
    by_test : (b : Bool) → AllByRecursion P (filter f xs) → AllByRecursion P (cond b (x ∷ filter f xs) (filter f xs))
    by_test true rest = (all.0, rest)
    by_test false rest = rest

pub once_filtered : {X : Type 0} (f : X → Bool) (xs : List X) → AreOnce xs → AreOnce (filter f xs)
once_filtered f [] once = tt
once_filtered f (x ∷ xs) once = by_test (f x) (once_filtered f xs once.1)
  where
    by_test : (b : Bool) → AreOnce (filter f xs) → AreOnce (cond b (x ∷ filter f xs) (filter f xs))
    by_test true rest = (all_filtered (λ y. x ≢ y) f xs once.0, rest)
    by_test false rest = rest

neither : (b c : Bool) → (b || c) ≡ false → (b ≡ false) × (c ≡ false)
neither true c h = absurd (true≢false h)
neither false c h = (refl, h)

-- one more that isn't among them
pub once_more : (pids : List ℕ) (pid : ℕ) → AreOnce pids → is_among pid pids ≡ false → AreOnce (pids ++ pid ∷ [])
once_more [] pid once apart = (tt, tt)
once_more (p ∷ pids) pid once apart =
    let both = neither (p == pid) (is_among pid pids) apart in
    (all_more (λ y. p ≢ y) pids pid once.0 (λ same. contrary (p == pid) (eq-eqb p pid same) both.0), once_more pids pid once.1 both.1)

-- the numbers from 1 to n
abbrev up_to : ℕ → List ℕ
up_to zero = []
up_to (suc n) = suc n ∷ up_to n

length-up_to : (n : ℕ) → length (up_to n) ≡ n
length-up_to zero = refl
length-up_to (suc n) = ap suc (length-up_to n)

in_up_to : (n k : ℕ) → 0 < k → k ≤ n → is_in k (up_to n) ≡ true
in_up_to zero k above within = absurd (omega arith)
in_up_to (suc n) k above within = ⊎_elim
    (λ h. or_right (suc n == k) (is_in k (up_to n)) (in_up_to n k above h.1))
    (λ h. or_left (suc n == k) (is_in k (up_to n)) (let more = h.1 in let is : suc n ≡ k = omega arith in eq-eqb (suc n) k is))
    (leb_tells k n)
  where
    or_right : (b c : Bool) → c ≡ true → (b || c) ≡ true
    or_right true c is = refl
    or_right false c is = is

    or_left : (b c : Bool) → b ≡ true → (b || c) ≡ true
    or_left true c is = refl
    or_left false c is = absurd (true≢false (sym is))

-- pids that were all made, none twice, are no more than were made
pub few_among : (pids : List ℕ) (last : ℕ) → AreOnce pids → ((pid : ℕ) → is_among pid pids ≡ true → (0 < pid) × (pid ≤ last)) → length pids ≤ last
few_among pids last once made =
    let most : length pids ≤ length (up_to last) = no_more pids (up_to last) once (λ pid among. let within = made pid among in in_up_to last pid within.0 within.1) in
    let all : length (up_to last) ≡ last = length-up_to last in
    omega (arith, most, all)
