-- What each process holds of each file, where locks go and where others come.
use Rattle.std.proofs.Common.{◌≡◌, ◌≢◌, ℕ, ◌==◌, ◌&&◌, ◌||◌, not, nat_le, Bool, true, false, cond, List, [], ◌∷◌, ◌++◌, map, Option, None, Some, is_none, refl, ap, sym, ◌∙◌, subst, ◌⊎◌, inl, inr, append-nil}
use Rattle.std.specs.List.{filter}
use Rattle.std.proofs.lemmas.Bool.Decides.{eqb_tells}
use Rattle.kabi_types.specs.Ranges.{AreApart, IsCanonical, clashes, first_conflict, set}
use Rattle.kabi_types.specs.declared.ranges.Kind.{Kind}
use Rattle.kabi_types.specs.declared.ranges.Range.{Range}
use Rattle.lock_ranges.proofs.Conflicts.{apart_both, apart_held, apart_let_go}
use Rattle.lock_ranges.proofs.Shape.{IsCanonical-set}
use Rattle.posix_defs.specs.Locks.{Lock, Locks, Request, after_set, comes_first, first_of, first_with, is_in_way, is_of, lock_of, meets, ranges_of, stops, with_ranges, without}
use Rattle.posix_defs.specs.Files.State.{let_go}
use Rattle.posix_defs.specs.Calls.OnLocks.{is_clear}
use Rattle.machine_laws.specs.FileSteps.{ArePlaces}

-- ---- numbers and tests

true_false : {A : Type 0} (b : Bool) → b ≡ true → b ≡ false → A
true_false b one two = absurd (no (sym two ∙ one))
  where
    no : false ≡ true → ⊥
    no e = cc

itself : (n : ℕ) → (n == n) ≡ true
itself n = elim (eqb_tells n n) [ inl alike ↦ alike.0 | inr apart ↦ absurd (apart.1 refl) ]

same_of : (a b : ℕ) → (a == b) ≡ true → a ≡ b
same_of a b is = elim (eqb_tells a b) [ inl alike ↦ alike.1 | inr apart ↦ true_false (a == b) is apart.0 ]

other_of : (a b : ℕ) → a ≢ b → (a == b) ≡ false
other_of a b differ = elim (eqb_tells a b) [ inl alike ↦ absurd (differ alike.1) | inr apart ↦ apart.0 ]

both_true : (a b : Bool) → (a && b) ≡ true → (a ≡ true) × (b ≡ true)
both_true true b e = (refl, e)
both_true false b e = true_false false e refl

either_true : (a b : Bool) → (a || b) ≡ true → (a ≡ true) ⊎ (b ≡ true)
either_true true b e = inl refl
either_true false b e = inr e

and_false : (a : Bool) → (a && false) ≡ false
and_false true = refl
and_false false = refl

-- the lock is another's, or of another file
abbrev pub AreOther : ℕ → ℕ → ℕ → ℕ → Type 0
AreOther pid node who number = (who ≢ pid) ⊎ (number ≢ node)

other_key : (lock : Lock) (pid node who number : ℕ) → AreOther pid node who number → is_of pid node lock ≡ true → is_of who number lock ≡ false
other_key lock pid node who number others is = let parts = both_true (lock.pid == pid) (lock.node == node) is in elim others [
  | inl apart ↦ ap (λ b. b && (lock.node == number)) (other_of lock.pid who (λ e. apart (sym e ∙ same_of lock.pid pid parts.0)))
  | inr apart ↦ ap (λ b. (lock.pid == who) && b) (other_of lock.node number (λ e. apart (sym e ∙ same_of lock.node node parts.1))) ∙ and_false (lock.pid == who)
]

own_key : (pid node : ℕ) (range : Range) → is_of pid node (lock_of pid node range) ≡ true
own_key pid node range = ap (λ b. b && (node == node)) (itself pid) ∙ itself node

-- ---- lists

-- one lock more in front
ranges_cons : (pid node : ℕ) (lock : Lock) (locks : Locks) → ranges_of (lock ∷ locks) pid node ≡ cond (is_of pid node lock) (lock.range ∷ ranges_of locks pid node) (ranges_of locks pid node)
ranges_cons pid node lock locks = go (is_of pid node lock)
  where
    go : (b : Bool) → map (λ (lock : Lock). lock.range) (cond b (lock ∷ filter (is_of pid node) locks) (filter (is_of pid node) locks))
        ≡ cond b (lock.range ∷ ranges_of locks pid node) (ranges_of locks pid node)
    go true = refl
    go false = refl

ranges_own : (pid node : ℕ) (lock : Lock) (locks : Locks) → is_of pid node lock ≡ true → ranges_of (lock ∷ locks) pid node ≡ lock.range ∷ ranges_of locks pid node
ranges_own pid node lock locks is = ranges_cons pid node lock locks ∙ ap (λ b. cond b (lock.range ∷ ranges_of locks pid node) (ranges_of locks pid node)) is

ranges_past : (pid node : ℕ) (lock : Lock) (locks : Locks) → is_of pid node lock ≡ false → ranges_of (lock ∷ locks) pid node ≡ ranges_of locks pid node
ranges_past pid node lock locks is = ranges_cons pid node lock locks ∙ ap (λ b. cond b (lock.range ∷ ranges_of locks pid node) (ranges_of locks pid node)) is

ranges_append : (pid node : ℕ) (one two : Locks) → ranges_of (one ++ two) pid node ≡ ranges_of one pid node ++ ranges_of two pid node
ranges_append pid node [] two = refl
ranges_append pid node (lock ∷ one) two = go (is_of pid node lock) refl (ranges_append pid node one two)
  where
    go : (b : Bool) → is_of pid node lock ≡ b → ranges_of (one ++ two) pid node ≡ ranges_of one pid node ++ ranges_of two pid node
        → ranges_of (lock ∷ one ++ two) pid node ≡ ranges_of (lock ∷ one) pid node ++ ranges_of two pid node
    go true is rest = ranges_own pid node lock (one ++ two) is ∙ ap (λ list. lock.range ∷ list) rest ∙ sym (ap (λ list. list ++ ranges_of two pid node) (ranges_own pid node lock one is))
    go false is rest = ranges_past pid node lock (one ++ two) is ∙ rest ∙ sym (ap (λ list. list ++ ranges_of two pid node) (ranges_past pid node lock one is))

-- ---- locks that go

pub ranges_without : (pid node : ℕ) (locks : Locks) → ranges_of (without locks pid node) pid node ≡ []
ranges_without pid node [] = refl
ranges_without pid node (lock ∷ locks) = go (is_of pid node lock) refl (ranges_without pid node locks)
  where
    go : (b : Bool) → is_of pid node lock ≡ b → ranges_of (without locks pid node) pid node ≡ []
        → ranges_of (cond (not b) (lock ∷ without locks pid node) (without locks pid node)) pid node ≡ []
    go true is rest = rest
    go false is rest = ranges_past pid node lock (without locks pid node) is ∙ rest

pub ranges_others : (pid node who number : ℕ) (locks : Locks) → AreOther pid node who number → ranges_of (without locks pid node) who number ≡ ranges_of locks who number
ranges_others pid node who number [] others = refl
ranges_others pid node who number (lock ∷ locks) others = go (is_of pid node lock) refl (ranges_others pid node who number locks others)
  where
    stays : (b : Bool) → is_of who number lock ≡ b → ranges_of (without locks pid node) who number ≡ ranges_of locks who number
        → ranges_of (lock ∷ without locks pid node) who number ≡ ranges_of (lock ∷ locks) who number
    stays true is rest = ranges_own who number lock (without locks pid node) is ∙ ap (λ list. lock.range ∷ list) rest ∙ sym (ranges_own who number lock locks is)
    stays false is rest = ranges_past who number lock (without locks pid node) is ∙ rest ∙ sym (ranges_past who number lock locks is)

    go : (b : Bool) → is_of pid node lock ≡ b → ranges_of (without locks pid node) who number ≡ ranges_of locks who number
        → ranges_of (cond (not b) (lock ∷ without locks pid node) (without locks pid node)) who number ≡ ranges_of (lock ∷ locks) who number
    go true is rest = rest ∙ sym (ranges_past who number lock locks (other_key lock pid node who number others is))
    go false is rest = stays (is_of who number lock) refl rest

-- ---- locks that come

ranges_new : (pid node : ℕ) (ranges : List Range) → ranges_of (map (lock_of pid node) ranges) pid node ≡ ranges
ranges_new pid node [] = refl
ranges_new pid node (range ∷ ranges) = ranges_own pid node (lock_of pid node range) (map (lock_of pid node) ranges) (own_key pid node range)
    ∙ ap (λ list. range ∷ list) (ranges_new pid node ranges)

ranges_new_others : (pid node who number : ℕ) (ranges : List Range) → AreOther pid node who number → ranges_of (map (lock_of pid node) ranges) who number ≡ []
ranges_new_others pid node who number [] others = refl
ranges_new_others pid node who number (range ∷ ranges) others =
    ranges_past who number (lock_of pid node range) (map (lock_of pid node) ranges) (other_key (lock_of pid node range) pid node who number others (own_key pid node range))
    ∙ ranges_new_others pid node who number ranges others

pub ranges_set : (locks : Locks) (pid node : ℕ) (ranges : List Range) → ranges_of (with_ranges locks pid node ranges) pid node ≡ ranges
ranges_set locks pid node ranges = ranges_append pid node (without locks pid node) (map (lock_of pid node) ranges)
    ∙ ap (λ list. list ++ ranges_of (map (lock_of pid node) ranges) pid node) (ranges_without pid node locks) ∙ ranges_new pid node ranges

pub ranges_set_others : (locks : Locks) (pid node : ℕ) (ranges : List Range) (who number : ℕ) → AreOther pid node who number
    → ranges_of (with_ranges locks pid node ranges) who number ≡ ranges_of locks who number
ranges_set_others locks pid node ranges who number others = ranges_append who number (without locks pid node) (map (lock_of pid node) ranges)
    ∙ ap (λ list. ranges_of (without locks pid node) who number ++ list) (ranges_new_others pid node who number ranges others)
    ∙ append-nil (ranges_of (without locks pid node) who number) ∙ ranges_others pid node who number locks others

-- ---- what is in nobody's way

-- nothing of these is in the way
abbrev AreClear : Request → List Range → Type 0
AreClear asked [] = Unit {0}
AreClear asked (range ∷ ranges) = (meets range asked ≡ false) × AreClear asked ranges

none_first : (locks : Locks) → is_none (first_of locks) ≡ true → locks ≡ []
none_first [] e = refl
none_first (lock ∷ locks) e = some (first_of locks) e
  where
    pick : (b : Bool) (other : Lock) → is_none (cond b (Some lock) (Some other)) ≡ false
    pick true other = refl
    pick false other = refl

    some : (o : Option Lock) → is_none (first_with lock o) ≡ true → lock ∷ locks ≡ []
    some None e = true_false false e refl
    some (Some other) e = true_false _ e (pick (comes_first lock other) other)

none_kept : (test : Lock → Bool) (lock : Lock) (locks : Locks) → filter test (lock ∷ locks) ≡ [] → (test lock ≡ false) × (filter test locks ≡ [])
none_kept test lock locks e = go (test lock) refl e
  where
    go : (b : Bool) → test lock ≡ b → cond b (lock ∷ filter test locks) (filter test locks) ≡ [] → (test lock ≡ false) × (filter test locks ≡ [])
    go true is f = absurd (no f)
      where
        no : lock ∷ filter test locks ≡ [] → ⊥
        no g = cc
    go false is f = (is, f)

not_in_way : (pid number other : ℕ) (asked : Request) (lock : Lock) → other ≢ pid → is_of other number lock ≡ true → is_in_way pid number asked lock ≡ false → meets lock.range asked ≡ false
not_in_way pid number other asked lock apart is none = let parts = both_true (lock.pid == other) (lock.node == number) is in
    go (lock.pid == pid) (lock.node == number) (meets lock.range asked) none (other_of lock.pid pid (λ e. apart (sym (same_of lock.pid other parts.0) ∙ e))) parts.1
  where
    go : (own here meet : Bool) → (not own && (here && meet)) ≡ false → own ≡ false → here ≡ true → meet ≡ false
    go true here meet e f g = true_false true refl f
    go false false meet e f g = true_false false g refl
    go false true meet e f g = e

clear_of : (locks : Locks) (pid number other : ℕ) (asked : Request) → other ≢ pid → filter (is_in_way pid number asked) locks ≡ [] → AreClear asked (ranges_of locks other number)
clear_of [] pid number other asked apart none = tt
clear_of (lock ∷ locks) pid number other asked apart none = let parts = none_kept (is_in_way pid number asked) lock locks none in
    go (is_of other number lock) refl parts.0 (clear_of locks pid number other asked apart parts.1)
  where
    go : (b : Bool) → is_of other number lock ≡ b → is_in_way pid number asked lock ≡ false → AreClear asked (ranges_of locks other number) → AreClear asked (ranges_of (lock ∷ locks) other number)
    go true is not_it rest = subst (AreClear asked) (sym (ranges_own other number lock locks is)) (not_in_way pid number other asked lock apart is not_it, rest)
    go false is not_it rest = subst (AreClear asked) (sym (ranges_past other number lock locks is)) rest

no_conflict : (asked : Request) (kind : Kind) (ranges : List Range) → asked.kind ≡ Some kind → AreClear asked ranges
    → first_conflict ranges (record { kind = kind; start = asked.start; last = asked.last }) ≡ None
no_conflict asked kind [] is clear = refl
no_conflict asked kind (range ∷ ranges) is clear =
    ap (λ b. cond b (Some range) (first_conflict ranges (record { kind = kind; start = asked.start; last = asked.last })))
    (ap (λ o. (nat_le range.start asked.last && nat_le asked.start range.last) && clashes (Some range.kind) o) (sym is) ∙ clear.0) ∙ no_conflict asked kind ranges is clear.1

stay_apart : (ranges others : List Range) (asked : Request) → IsCanonical ranges → ArePlaces asked → AreClear asked others → AreApart ranges others
    → AreApart (set ranges asked.kind asked.start asked.last) others
stay_apart ranges others asked canonical places clear apart = go asked.kind refl
  where
    go : (kind : Option Kind) → asked.kind ≡ kind → AreApart (set ranges kind asked.start asked.last) others
    go None is = apart_let_go ranges others asked.start asked.last canonical places.0 places.1 apart
    go (Some kind) is = apart_held ranges others (record { kind = kind; start = asked.start; last = asked.last }) canonical places.0 places.1 apart (no_conflict asked kind others is clear)

none_apart : (ranges : List Range) → AreApart [] ranges
none_apart ranges place = refl

-- ---- what locks keep

-- What each process holds of a file lies apart, and is one range where it touches, and no two hold a place that they can't both hold so.
pub record AreHeldApart (locks : Locks) : Type 0 where
  pub canonical : (pid number : ℕ) → IsCanonical (ranges_of locks pid number)
  pub apart : (pid other number : ℕ) → pid ≢ other → AreApart (ranges_of locks pid number) (ranges_of locks other number)

pub nobody_holds : AreHeldApart []
nobody_holds = record { canonical = λ pid number. tt; apart = λ pid other number differ place. refl }

-- it is this process and this file, or another
pub key : (pid node who number : ℕ) → ((who ≡ pid) × (number ≡ node)) ⊎ AreOther pid node who number
key pid node who number = elim (eqb_tells who pid) [
  | inr apart ↦ inr (inl apart.1)
  | inl alike ↦ elim (eqb_tells number node) [ inr apart ↦ inr (inr apart.1) | inl here ↦ inl (alike.1, here.1) ]
]

module _ (locks : Locks) (held : AreHeldApart locks) where
  -- other locks are of the same, but for what a process holds of a file, which is as good
  changed : (after : Locks) (pid node : ℕ) → IsCanonical (ranges_of after pid node)
      → ((other : ℕ) → other ≢ pid → AreApart (ranges_of after pid node) (ranges_of locks other node))
      → ((who number : ℕ) → AreOther pid node who number → ranges_of after who number ≡ ranges_of locks who number) → AreHeldApart after
  changed after pid node own apart_own others = record { canonical = canonical; apart = apart }
    where
      canonical : (who number : ℕ) → IsCanonical (ranges_of after who number)
      canonical who number = elim (key pid node who number) [
        | inl same ↦ subst (λ w. IsCanonical (ranges_of after w number)) (sym same.0) (subst (λ n. IsCanonical (ranges_of after pid n)) (sym same.1) own)
        | inr other ↦ subst IsCanonical (sym (others who number other)) (held.canonical who number)
      ]

      -- the one is this process, the other isn't
      one : (other number : ℕ) → other ≢ pid → AreApart (ranges_of after pid number) (ranges_of after other number)
      one other number differ = subst (AreApart (ranges_of after pid number)) (sym (others other number (inl differ))) (elim (eqb_tells number node) [
        | inl here ↦ subst (λ n. AreApart (ranges_of after pid n) (ranges_of locks other n)) (sym here.1) (apart_own other differ)
        | inr there ↦ subst (λ list. AreApart list (ranges_of locks other number)) (sym (others pid number (inr there.1))) (held.apart pid other number (λ e. differ (sym e)))
      ])

      apart : (who other number : ℕ) → who ≢ other → AreApart (ranges_of after who number) (ranges_of after other number)
      apart who other number differ = elim (eqb_tells who pid) [
        | inl this ↦ subst (λ w. AreApart (ranges_of after w number) (ranges_of after other number)) (sym this.1) (one other number (λ e. differ (this.1 ∙ sym e)))
        | inr not_this ↦ elim (eqb_tells other pid) [
          | inl that ↦ subst (λ w. AreApart (ranges_of after who number) (ranges_of after w number)) (sym that.1)
              (apart_both (ranges_of after pid number) (ranges_of after who number) (one who number not_this.1))
          | inr not_that ↦ subst (λ list. AreApart list (ranges_of after other number)) (sym (others who number (inl not_this.1)))
              (subst (AreApart (ranges_of locks who number)) (sym (others other number (inl not_that.1))) (held.apart who other number differ))
        ]
      ]

  -- what a process holds of a file goes
  pub going_apart : (pid : ℕ) (file : Option ℕ) → AreHeldApart (let_go locks pid file)
  going_apart pid None = held
  going_apart pid (Some node) = changed (without locks pid node) pid node (subst IsCanonical (sym (ranges_without pid node locks)) tt)
      (λ other differ. subst (λ list. AreApart list (ranges_of locks other node)) (sym (ranges_without pid node locks)) (none_apart (ranges_of locks other node)))
      (λ who number others. ranges_others pid node who number locks others)

  -- a process holds places as it asks to, where nothing of another is in the way
  pub setting_apart : (pid node : ℕ) (asked : Request) → ArePlaces asked → is_clear locks pid node asked ≡ true → AreHeldApart (after_set locks pid node asked)
  setting_apart pid node asked places clear = changed (after_set locks pid node asked) pid node
      (subst IsCanonical (sym is) (IsCanonical-set (ranges_of locks pid node) asked.kind asked.start asked.last (held.canonical pid node) places.0 places.1))
      (λ other differ. subst (λ list. AreApart list (ranges_of locks other node)) (sym is)
      (stay_apart (ranges_of locks pid node) (ranges_of locks other node) asked (held.canonical pid node) places
      (clear_of locks pid node other asked differ (none_first (filter (is_in_way pid node asked) locks) clear)) (held.apart pid other node (λ e. differ (sym e)))))
      (λ who number others. ranges_set_others locks pid node (set (ranges_of locks pid node) asked.kind asked.start asked.last) who number others)
    where
      is : ranges_of (after_set locks pid node asked) pid node ≡ set (ranges_of locks pid node) asked.kind asked.start asked.last
      is = ranges_set locks pid node (set (ranges_of locks pid node) asked.kind asked.start asked.last)

-- who has let a file's places go holds some of another alone
pub held_before : (locks : Locks) (pid : ℕ) (file : Option ℕ) (who number : ℕ) → ranges_of (let_go locks pid file) who number ≢ [] → ranges_of locks who number ≢ []
held_before locks pid None who number some = some
held_before locks pid (Some node) who number some = elim (key pid node who number) [
  | inl same ↦ absurd (some (ap (λ w. ranges_of (without locks pid node) w number) same.0 ∙ ap (ranges_of (without locks pid node) pid) same.1 ∙ ranges_without pid node locks))
  | inr others ↦ λ none. some (ranges_others pid node who number locks others ∙ none)
]

pub none_of_it : (locks : Locks) (pid : ℕ) (file : Option ℕ) (number : ℕ) → file ≡ Some number → ranges_of (let_go locks pid file) pid number ≡ []
none_of_it locks pid file number is = ap (λ o. ranges_of (let_go locks pid o) pid number) is ∙ ranges_without pid number locks

-- who stops another holds some of the file
pub stopper_holds : (locks : Locks) (pid number by : ℕ) (asked : Request) → stops locks pid number asked by ≡ true → ranges_of locks by number ≢ []
stopper_holds [] pid number by asked e = true_false false e refl
stopper_holds (lock ∷ locks) pid number by asked e = go (is_of by number lock) refl (stopper_holds locks pid number by asked)
  where
    filled : is_of by number lock ≡ true → ranges_of (lock ∷ locks) by number ≢ []
    filled is none = no (sym (ranges_own by number lock locks is) ∙ none)
      where
        no : lock.range ∷ ranges_of locks by number ≡ [] → ⊥
        no f = cc

    itself_in_way : (a b c d : Bool) → (a && (b && (c && d))) ≡ true → (a && c) ≡ true
    itself_in_way true true true d f = refl
    itself_in_way true true false d f = f
    itself_in_way true false c d f = true_false false f refl
    itself_in_way false b c d f = true_false false f refl

    go : (b : Bool) → is_of by number lock ≡ b → (stops locks pid number asked by ≡ true → ranges_of locks by number ≢ []) → ranges_of (lock ∷ locks) by number ≢ []
    go true is rest none = filled is none
    go false is rest none = elim (either_true (lock.pid == by && is_in_way pid number asked lock) (stops locks pid number asked by) e) [
      | inl this ↦ true_false (is_of by number lock) (itself_in_way (lock.pid == by) (not (lock.pid == pid)) (lock.node == number) (meets lock.range asked) this) is
      | inr later ↦ rest later (sym (ranges_past by number lock locks is) ∙ none)
    ]
