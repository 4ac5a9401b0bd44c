-- The first lock in the way: of a list that is gone through from its head, and of any other list of the same locks.
use Rattle.std.proofs.Common.{◌≡◌, ℕ, ◌<◌, ◌≤◌, Bool, true, false, ◌&&◌, ◌||◌, cond, eqb, leb, not, List, [], ◌∷◌, Option, None, Some, refl, ap, sym, subst, ◌∙◌, inl, inr, ◌⊎◌, arith}
use Rattle.std.specs.List.{AllByRecursion, filter}
use Rattle.std.proofs.lemmas.Bool.{and_from, and_parts, cases_lt, eq-eqb, eqb-true, le-leb, le-ltb, lt-leb, lt-ltb}
use Rattle.kabi_types.specs.Ranges.{IsCanonical, LiesBefore}
use Rattle.kabi_types.specs.declared.ranges.Range.{Range}
use Rattle.posix_defs.specs.Locks.{Lock, Locks, Request, comes_first, first_in_way, first_of, first_with, is_in_way, is_of, meets, ranges_of}
use Rattle.lock_table.specs.Holding.{earliest, sooner}
use Rattle.lock_table.specs.Reordered.{IsReordered}
use Rattle.lock_table.proofs.Reordering.{IsIn, all_at, back, filtered, in_filter, in_map, in_still, into_filter}

-- ---- the order of locks

-- by start, then by pid
abbrev pub IsFirst : Lock → Lock → Type 0
IsFirst lock other = (lock.range.start < other.range.start) ⊎ ((lock.range.start ≡ other.range.start) × (lock.pid ≤ other.pid))

from_first : (lock other : Lock) → IsFirst lock other → comes_first lock other ≡ true
from_first lock other (inl before) =
    ap (λ b. b || (eqb lock.range.start other.range.start && leb lock.pid other.pid)) (lt-ltb lock.range.start other.range.start before)
from_first lock other (inr same) =
    ap (λ b. b || (eqb lock.range.start other.range.start && leb lock.pid other.pid)) (le-ltb lock.range.start other.range.start (omega (arith, same.0)))
    ∙ and_from (eqb lock.range.start other.range.start) (leb lock.pid other.pid) (eq-eqb lock.range.start other.range.start same.0) (le-leb lock.pid other.pid same.1)

-- one of two comes first
one_first : (lock other : Lock) → IsFirst lock other ⊎ IsFirst other lock
one_first lock other = elim (cases_lt lock.range.start other.range.start) [
  | inl before ↦ inl (inl before)
  | inr not_before ↦ elim (cases_lt other.range.start lock.range.start) [
    | inl behind ↦ inr (inl behind)
    | inr not_behind ↦ elim (cases_lt other.pid lock.pid) [
      | inl lower ↦ inr (inr (omega arith, omega arith))
      | inr le ↦ inl (inr (omega arith, le))
    ]
  ]
]

first_itself : (lock : Lock) → IsFirst lock lock
first_itself lock = inr (refl, omega arith)

first_through : (one two three : Lock) → IsFirst one two → IsFirst two three → IsFirst one three
first_through one two three (inl before) (inl behind) = inl (omega arith)
first_through one two three (inl before) (inr same) = inl (omega (arith, same.0))
first_through one two three (inr same) (inl behind) = inl (omega (arith, same.0))
first_through one two three (inr same) (inr also) = inr (same.0 ∙ also.0, omega (arith, same.1, also.1))

-- where the test says no the other one comes first
other_first : (lock other : Lock) → comes_first lock other ≡ false → IsFirst other lock
other_first lock other is = elim (one_first lock other) [
  | inl first ↦ absurd (let wrong : true ≡ false = sym (from_first lock other first) ∙ is in cc)
  | inr first ↦ first
]

said_first : (lock other : Lock) → comes_first lock other ≡ true → IsFirst lock other
said_first lock other said = elim (cases_lt lock.range.start other.range.start) [
  | inl before ↦ inl before
  | inr le ↦
      let rest : (eqb lock.range.start other.range.start && leb lock.pid other.pid) ≡ true =
      sym (ap (λ b. b || (eqb lock.range.start other.range.start && leb lock.pid other.pid)) (le-ltb lock.range.start other.range.start le)) ∙ said in
      let parts = and_parts (eqb lock.range.start other.range.start) (leb lock.pid other.pid) rest in
      inr (eqb-true lock.range.start other.range.start parts.0, lower parts.1)
]
  where
    lower : leb lock.pid other.pid ≡ true → lock.pid ≤ other.pid
    lower is = elim (cases_lt other.pid lock.pid) [
      | inl lt ↦ absurd (let wrong : false ≡ true = sym (lt-leb lock.pid other.pid lt) ∙ is in cc)
      | inr le ↦ le
    ]

-- ---- the first of a list

-- it is one of them, and comes before all
pub record IsLeast (locks : Locks) (lock : Lock) : Type 0 where
  pub there : IsIn locks lock
  pub first : AllByRecursion (λ other. IsFirst lock other) locks

all_first : (one two : Lock) (locks : Locks) → IsFirst one two → AllByRecursion (λ other. IsFirst two other) locks → AllByRecursion (λ other. IsFirst one other) locks
all_first one two [] first all = tt
all_first one two (lock ∷ locks) first all = (first_through one two lock first all.0, all_first one two locks first all.1)

-- what is chosen of two comes before both
first_of_two : (lock other : Lock) (b : Bool) → comes_first lock other ≡ b
    → ((cond b lock other ≡ lock) ⊎ (cond b lock other ≡ other)) × IsFirst (cond b lock other) lock × IsFirst (cond b lock other) other
first_of_two lock other true is = (inl refl, first_itself lock, said_first lock other is)
first_of_two lock other false is = (inr refl, other_first lock other is, first_itself other)

least_more : (lock other : Lock) (locks : Locks) (z : Lock) → ((z ≡ lock) ⊎ (z ≡ other)) → IsFirst z lock → IsFirst z other → AllByRecursion (λ o. IsFirst other o) locks
    → IsIn locks other → IsLeast (lock ∷ locks) z
least_more lock other locks z (inl same) one two all there = record { there = inl (sym same); first = (one, all_first z other locks two all) }
least_more lock other locks z (inr same) one two all there = record { there = inr (subst (IsIn locks) (sym same) there); first = (one, all_first z other locks two all) }

-- the definition's
plain_least : (lock : Lock) (locks : Locks) → (z : Lock) × (first_of (lock ∷ locks) ≡ Some z) × IsLeast (lock ∷ locks) z
plain_least lock [] = (lock, refl, record { there = inl refl; first = (first_itself lock, tt) })
plain_least lock (next ∷ locks) =
    let it = plain_least next locks in
    let two = first_of_two lock it.0 (comes_first lock it.0) refl in (
      cond (comes_first lock it.0) lock it.0,
      ap (first_with lock) it.1 ∙ chosen (comes_first lock it.0) lock it.0,
      least_more lock it.0 (next ∷ locks) (cond (comes_first lock it.0) lock it.0) two.0 two.1 two.2 it.2.first it.2.there,
    )
  where
    chosen : (b : Bool) (one other : Lock) → cond b (Some one) (Some other) ≡ Some (cond b one other)
    chosen true one other = refl
    chosen false one other = refl

-- the code's, of those that pass
abbrev soonest : Option Lock → Locks → Option Lock
soonest first [] = first
soonest first (lock ∷ locks) = soonest (Some (sooner first lock)) locks

soonest_of : (pid node : ℕ) (asked : Request) (first : Option Lock) (locks : Locks) → earliest pid node asked first locks ≡ soonest first (filter (is_in_way pid node asked) locks)
soonest_of pid node asked first [] = refl
soonest_of pid node asked first (lock ∷ locks) =
    by (is_in_way pid node asked lock) (soonest_of pid node asked (Some (sooner first lock)) locks) (soonest_of pid node asked first locks)
  where
    by : (b : Bool) → earliest pid node asked (Some (sooner first lock)) locks ≡ soonest (Some (sooner first lock)) (filter (is_in_way pid node asked) locks)
        → earliest pid node asked first locks ≡ soonest first (filter (is_in_way pid node asked) locks)
        → earliest pid node asked (cond b (Some (sooner first lock)) first) locks ≡ soonest first (cond b (lock ∷ filter (is_in_way pid node asked) locks) (filter (is_in_way pid node asked) locks))
    by true passed other = passed
    by false passed other = other

soonest_least : (lock : Lock) (locks : Locks) → (z : Lock) × (soonest (Some lock) locks ≡ Some z) × IsLeast (lock ∷ locks) z
soonest_least lock [] = (lock, refl, record { there = inl refl; first = (first_itself lock, tt) })
soonest_least lock (next ∷ locks) =
    let two = first_of_two lock next (comes_first lock next) refl in
    let it = soonest_least (cond (comes_first lock next) lock next) locks in
    let least = it.2 in
    let before : IsFirst it.0 (cond (comes_first lock next) lock next) = least.first.0 in (
      it.0,
      it.1,
      record {
        there = among it.0 (cond (comes_first lock next) lock next) least.there two.0;
        first = (
          first_through it.0 (cond (comes_first lock next) lock next) lock before two.1,
          (first_through it.0 (cond (comes_first lock next) lock next) next before two.2, least.first.1),
        );
      },
    )
  where
    among : (z chosen : Lock) → IsIn (chosen ∷ locks) z → (chosen ≡ lock) ⊎ (chosen ≡ next) → IsIn (lock ∷ next ∷ locks) z
    among z chosen (inl here) (inl is) = inl (sym is ∙ here)
    among z chosen (inl here) (inr is) = inr (inl (sym is ∙ here))
    among z chosen (inr later) is = inr (inr later)

-- ---- of two that begin at one place and are one process's, of one file, each is the other

same_start : (ranges : List Range) (one other : Range) → IsCanonical ranges → IsIn ranges one → IsIn ranges other → one.start ≡ other.start → one ≡ other
same_start [] one other canonical here there starts = absurd here
same_start (first ∷ ranges) one other canonical (inl is) (inl also) starts = sym is ∙ also
same_start (first ∷ ranges) one other canonical (inl is) (inr later) starts =
    let lies : LiesBefore first other = all_at (LiesBefore first) ranges other canonical.2 later in
    let ends : first.last < other.start = lies.0 in
    let order : first.start ≤ first.last = canonical.0 in
    let begins : first.start ≡ one.start = ap (λ (r : Range). r.start) is in
    absurd (omega arith)
same_start (first ∷ ranges) one other canonical (inr later) (inl is) starts =
    let lies : LiesBefore first one = all_at (LiesBefore first) ranges one canonical.2 later in
    let ends : first.last < one.start = lies.0 in
    let order : first.start ≤ first.last = canonical.0 in
    let begins : first.start ≡ other.start = ap (λ (r : Range). r.start) is in
    absurd (omega arith)
same_start (first ∷ ranges) one other canonical (inr later) (inr behind) starts = same_start ranges one other canonical.3 later behind starts

is_its : (lock : Lock) → is_of lock.pid lock.node lock ≡ true
is_its lock = and_from (eqb lock.pid lock.pid) (eqb lock.node lock.node) (eq-eqb lock.pid lock.pid refl) (eq-eqb lock.node lock.node refl)

its_range : (locks : Locks) (lock : Lock) → IsIn locks lock → IsIn (ranges_of locks lock.pid lock.node) lock.range
its_range locks lock there =
    in_map (λ l. l.range) (filter (is_of lock.pid lock.node) locks) lock (into_filter (is_of lock.pid lock.node) locks lock there (is_its lock))

alike : (one other : Lock) → one.pid ≡ other.pid → one.node ≡ other.node → one.range ≡ other.range → one ≡ other
alike one other pids nodes ranges =
    let by_pid : ℕ → Lock = λ n. record { pid = n; node = one.node; range = one.range } in
    let by_node : ℕ → Lock = λ n. record { pid = other.pid; node = n; range = one.range } in
    let by_range : Range → Lock = λ r. record { pid = other.pid; node = other.node; range = r } in
    ap by_pid pids ∙ ap by_node nodes ∙ ap by_range ranges

same_place : (locks : Locks) (one other : Lock) → ((pid node : ℕ) → IsCanonical (ranges_of locks pid node)) → IsIn locks one → IsIn locks other
    → one.pid ≡ other.pid → one.node ≡ other.node → one.range.start ≡ other.range.start → one ≡ other
same_place locks one other canonical here there pids nodes starts =
    alike one other pids nodes
    (same_start (ranges_of locks one.pid one.node) one.range other.range (canonical one.pid one.node) (its_range locks one here)
    (subst (λ n. IsIn (ranges_of locks n one.node) other.range) (sym pids) (subst (λ n. IsIn (ranges_of locks other.pid n) other.range) (sym nodes) (its_range locks other there)))
    starts)

way_node : (pid node : ℕ) (asked : Request) (lock : Lock) → is_in_way pid node asked lock ≡ true → lock.node ≡ node
way_node pid node asked lock way =
    let parts = and_parts (not (eqb lock.pid pid)) (eqb lock.node node && meets lock.range asked) way in
    eqb-true lock.node node (and_parts (eqb lock.node node) (meets lock.range asked) parts.1).0

-- ---- the code finds what the definition says

one_least : (held locks : Locks) (pid node : ℕ) (asked : Request) (one other : Lock) → IsReordered held locks → ((pid node : ℕ) → IsCanonical (ranges_of locks pid node))
    → IsLeast (filter (is_in_way pid node asked) held) one → IsLeast (filter (is_in_way pid node asked) locks) other → one ≡ other
one_least held locks pid node asked one other same canonical least plain =
    let way = is_in_way pid node asked in
    let here = in_filter way locks one (in_still one (filtered way same) least.there) in
    let there = in_filter way locks other plain.there in
    let before = all_at (λ o. IsFirst one o) (filter way held) other least.first (in_still other (back (filtered way same)) plain.there) in
    let after = all_at (λ o. IsFirst other o) (filter way locks) one plain.first (in_still one (filtered way same) least.there) in
    let equal = both one other before after in
    same_place locks one other canonical here.0 there.0 equal.1 (way_node pid node asked one here.1 ∙ sym (way_node pid node asked other there.1)) equal.0
  where
    both : (lock next : Lock) → IsFirst lock next → IsFirst next lock → (lock.range.start ≡ next.range.start) × (lock.pid ≡ next.pid)
    both lock next (inl before) (inl after) = absurd (omega arith)
    both lock next (inl before) (inr same) = absurd (omega (arith, same.0))
    both lock next (inr same) (inl after) = absurd (omega (arith, same.0))
    both lock next (inr same) (inr also) = (same.0, omega (arith, same.1, also.1))

pub earliest_is : (held locks : Locks) (pid node : ℕ) (asked : Request) → IsReordered held locks → ((pid node : ℕ) → IsCanonical (ranges_of locks pid node))
    → earliest pid node asked None held ≡ first_in_way locks pid node asked
earliest_is held locks pid node asked same canonical =
    soonest_of pid node asked None held
    ∙ go (filter (is_in_way pid node asked) held) (filter (is_in_way pid node asked) locks) refl refl (filtered (is_in_way pid node asked) same)
  where
    go : (hs ls : Locks) → hs ≡ filter (is_in_way pid node asked) held → ls ≡ filter (is_in_way pid node asked) locks → IsReordered hs ls → soonest None hs ≡ first_of ls
    go [] [] his lis so = refl
    go [] (l ∷ ls) his lis so = absurd (in_still l (back so) (inl refl))
    go (h ∷ hs) [] his lis so = absurd (in_still h so (inl refl))
    go (h ∷ hs) (l ∷ ls) his lis so =
        let mine = soonest_least h hs in
        let plain = plain_least l ls in
        let one = one_least held locks pid node asked mine.0 plain.0 same canonical (subst (λ x. IsLeast x mine.0) his mine.2) (subst (λ x. IsLeast x plain.0) lis plain.2) in
        mine.1 ∙ ap (λ z. Some z) one ∙ sym plain.1
