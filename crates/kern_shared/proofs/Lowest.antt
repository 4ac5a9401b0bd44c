-- The lowest process of a list that passes a test, and what holds of each of a list.
use Rattle.std.proofs.Common.{◌≡◌, ℕ, ◌<◌, ◌≤◌, ◌==◌, ◌||◌, ◌&&◌, ◌⊎◌, ⊎_elim, Bool, true, false, true≢false, cond, List, [], ◌∷◌, Option, None, Some, refl, ap, sym, ◌∙◌, subst, inl, inr, arith, eq-eqb}
use Rattle.std.specs.Prelude.{nat_lt}
use Rattle.std.specs.List.{list_all}
use Rattle.std.proofs.lemmas.Bool.{eqb-true}
use Rattle.std.proofs.lemmas.Bool.Decides.{Decides-ltb, leb_tells}
use Rattle.posix_defs.specs.History.{is_among}
use Rattle.posix_defs.specs.Plain.{Plain}
use Rattle.posix_defs.specs.Process.{is_alive}
use Rattle.turn_words.proofs.Held.{contrary, not_true}
use Rattle.kern_shared.specs.declared.held.Held.{Held}
use Rattle.kern_shared.specs.Lists.{AreAlive, is_below, is_held, lowest}
use Rattle.kern_shared.specs.Shares.{pids_of}

lt_is : (n m : ℕ) → nat_lt n m ≡ true → n < m
lt_is n m h = (Decides-ltb n m).0 h

lt_is_not : (n m : ℕ) → nat_lt n m ≡ false → m ≤ n
lt_is_not n m h = ⊎_elim (λ k. k.1) (λ k. contrary (nat_lt n m) ((Decides-ltb n m).1 k.1) h) (leb_tells m n)

-- the first of a list, or one behind it
first_or_behind : (x n : ℕ) (pids : List ℕ) → is_among n (x ∷ pids) ≡ true → (x ≡ n) ⊎ (is_among n pids ≡ true)
first_or_behind x n pids h = by_test (x == n) refl h
  where
    by_test : (b : Bool) → (x == n) ≡ b → (b || is_among n pids) ≡ true → (x ≡ n) ⊎ (is_among n pids ≡ true)
    by_test true is h = inl (eqb-true x n is)
    by_test false is h = inr h

is_first : (n : ℕ) (pids : List ℕ) → is_among n (n ∷ pids) ≡ true
is_first n pids = ap (λ (b : Bool). b || is_among n pids) (eq-eqb n n refl)

is_behind : (x n : ℕ) (pids : List ℕ) → is_among n pids ≡ true → is_among n (x ∷ pids) ≡ true
is_behind x n pids h = by_test (x == n)
  where
    by_test : (b : Bool) → (b || is_among n pids) ≡ true
    by_test true = refl
    by_test false = h

-- each of a list is alive, where each that is among it is
pub all_alive : (plain : Plain) (pids : List ℕ) → ((pid : ℕ) → is_among pid pids ≡ true → is_alive plain.table pid ≡ true) → AreAlive plain pids
all_alive plain [] each = tt
all_alive plain (pid ∷ pids) each = (each pid (is_first pid pids), all_alive plain pids (λ other among. each other (is_behind pid other pids among)))

-- what all of a list pass, each that is among it passes
pub all_among : (test : ℕ → Bool) (pids : List ℕ) → list_all test pids ≡ true → (n : ℕ) → is_among n pids ≡ true → test n ≡ true
all_among test [] all n among = absurd (true≢false (sym among))
all_among test (x ∷ pids) all n among =
    let parts = both (test x) (list_all test pids) all in
    ⊎_elim (λ (is : x ≡ n). subst (λ (k : ℕ). test k ≡ true) is parts.0) (λ (h : is_among n pids ≡ true). all_among test pids parts.1 n h) (first_or_behind x n pids among)
  where
    both : (b c : Bool) → (b && c) ≡ true → (b ≡ true) × (c ≡ true)
    both true c h = (refl, h)
    both false c h = absurd (true≢false (sym h))

-- what not all of a list pass, one that is among it doesn't
pub some_fails : (test : ℕ → Bool) (pids : List ℕ) → list_all test pids ≡ false → (n : ℕ) × (is_among n pids ≡ true) × (test n ≡ false)
some_fails test [] none = absurd (true≢false none)
some_fails test (x ∷ pids) none = by_test (λ rest. some_fails test pids rest) (test x) refl none
  where
    by_test : (list_all test pids ≡ false → (n : ℕ) × (is_among n pids ≡ true) × (test n ≡ false)) → (b : Bool) → test x ≡ b → (b && list_all test pids) ≡ false
        → (n : ℕ) × (is_among n (x ∷ pids) ≡ true) × (test n ≡ false)
    by_test later true is rest = let found = later rest in (found.0, is_behind x found.0 pids found.1, found.2)
    by_test later false is rest = (x, is_first x pids, is)

-- who is held, by the list that also tells what each one needs
pub held_among : (pid : ℕ) (held : List Held) → is_held pid held ≡ is_among pid (pids_of held)
held_among pid [] = refl
held_among pid (h ∷ held) = ap (λ (b : Bool). (h.pid == pid) || b) (held_among pid held)

-- where none is found, none was found before and none passes
pub lowest_none : (test : ℕ → Bool) (found : Option ℕ) (pids : List ℕ) → lowest test found pids ≡ None → (found ≡ None) × ((n : ℕ) → is_among n pids ≡ true → test n ≡ false)
lowest_none test found [] none = (none, λ n among. absurd (true≢false (sym among)))
lowest_none test found (x ∷ pids) none = by_test (λ o rest. lowest_none test o pids rest) (is_below x found && test x) refl none
  where
    fails : (o : Option ℕ) → o ≡ None → (is_below x o && test x) ≡ false → test x ≡ false
    fails None is b = b
    fails (Some q) is b = cc

    by_test : ((o : Option ℕ) → lowest test o pids ≡ None → (o ≡ None) × ((n : ℕ) → is_among n pids ≡ true → test n ≡ false)) → (b : Bool) → (is_below x found && test x) ≡ b
        → lowest test (cond b (Some x) found) pids ≡ None → (found ≡ None) × ((n : ℕ) → is_among n (x ∷ pids) ≡ true → test n ≡ false)
    by_test rec true is rest = let no : Some x ≡ None = (rec (Some x) rest).0 in cc
    by_test rec false is rest =
        let later = rec found rest in
        (later.0, λ n among. ⊎_elim (λ (same : x ≡ n). subst (λ (k : ℕ). test k ≡ false) same (fails found later.0 is)) (λ (h : is_among n pids ≡ true). later.1 n h) (first_or_behind x n pids among))

-- what is known of the one that is found
pub record IsLowest (test : ℕ → Bool) (found : Option ℕ) (pids : List ℕ) (pid : ℕ) : Type 0 where
  pub is : (found ≡ Some pid) ⊎ ((is_among pid pids ≡ true) × (test pid ≡ true))
  pub least : (n : ℕ) → is_among n pids ≡ true → test n ≡ true → pid ≤ n
  pub before : (q : ℕ) → found ≡ Some q → pid ≤ q

pub lowest_some : (test : ℕ → Bool) (found : Option ℕ) (pids : List ℕ) (pid : ℕ) → lowest test found pids ≡ Some pid → IsLowest test found pids pid
lowest_some test found [] pid some = record {
  is = inl some;
  least = λ n among passes. absurd (true≢false (sym among));
  before = λ q is. let same : pid ≡ q = cc (some, is) in omega arith;
}
lowest_some test found (x ∷ pids) pid some = by_test (λ o rest. lowest_some test o pids pid rest) (is_below x found && test x) refl some
  where
    both : (b c : Bool) → (b && c) ≡ true → (b ≡ true) × (c ≡ true)
    both true c h = (refl, h)
    both false c h = absurd (true≢false (sym h))

    below : (q : ℕ) (o : Option ℕ) → o ≡ Some q → is_below x o ≡ true → x < q
    below q None is b = cc
    below q (Some k) is b = let same : k ≡ q = cc in let less : x < k = lt_is x k b in omega arith

    above : (o : Option ℕ) → o ≡ found → test x ≡ true → (is_below x o && test x) ≡ false → ((q : ℕ) → found ≡ Some q → pid ≤ q) → pid ≤ x
    above None is passes b before = absurd (true≢false (sym passes ∙ b))
    above (Some k) is passes b before =
        let most : pid ≤ k = before k (sym is) in
        let more : k ≤ x = lt_is_not x k (not_true (nat_lt x k) (λ less. true≢false (sym (ap (λ (t : Bool). t && test x) less ∙ passes) ∙ b))) in
        omega (arith, most, more)

    by_test : ((o : Option ℕ) → lowest test o pids ≡ Some pid → IsLowest test o pids pid) → (b : Bool) → (is_below x found && test x) ≡ b
        → lowest test (cond b (Some x) found) pids ≡ Some pid → IsLowest test found (x ∷ pids) pid
    by_test rec true is rest =
        let later = rec (Some x) rest in
        let parts = both (is_below x found) (test x) is in
        let most : pid ≤ x = later.before x refl in
        record {
          is = ⊎_elim
              (λ (same : Some x ≡ Some pid). inr (let one : x ≡ pid = cc in (subst (λ (k : ℕ). is_among k (x ∷ pids) ≡ true) one (is_first x pids), subst (λ (k : ℕ). test k ≡ true) one parts.1)))
              (λ (h : (is_among pid pids ≡ true) × (test pid ≡ true)). inr (is_behind x pid pids h.0, h.1))
              later.is;
          least = λ n among passes. ⊎_elim (λ (same : x ≡ n). subst (λ (k : ℕ). pid ≤ k) same most) (λ (h : is_among n pids ≡ true). later.least n h passes) (first_or_behind x n pids among);
          before = λ q was. let less : x < q = below q found was parts.0 in omega (arith, most, less);
        }
    by_test rec false is rest =
        let later = rec found rest in
        record {
          is = ⊎_elim (λ (same : found ≡ Some pid). inl same) (λ (h : (is_among pid pids ≡ true) × (test pid ≡ true)). inr (is_behind x pid pids h.0, h.1)) later.is;
          least = λ n among passes. ⊎_elim
              (λ (same : x ≡ n). subst (λ (k : ℕ). pid ≤ k) same (above found refl (subst (λ (k : ℕ). test k ≡ true) (sym same) passes) is later.before))
              (λ (h : is_among n pids ≡ true). later.least n h passes) (first_or_behind x n pids among);
          before = later.before;
        }
