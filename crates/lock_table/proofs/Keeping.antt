-- What is left of locks where places are let go, in whatever order they stand.
use Rattle.std.proofs.Common.{◌≡◌, ℕ, ◌+◌, ◌<◌, ◌≤◌, ◌&&◌, Bool, true, false, cond, eqb, ltb, not, List, [], ◌∷◌, ◌++◌, append_assoc, map, Option, None, Some, refl, ap, sym, subst, ◌∙◌, inl, inr, arith}
use Rattle.std.specs.List.{AllByRecursion, filter}
use Rattle.std.proofs.lemmas.Bool.{and_left, and_parts, cases_Bool, eqb-true, le-ltb, ltb-true}
use Rattle.std.proofs.lemmas.List.{append-nil, map-append}
use Rattle.kabi_types.specs.Ranges.{IsCanonical, LiesBefore, before, behind, beyond, greatest, until}
use Rattle.kabi_types.specs.declared.ranges.Range.{Range}
use Rattle.posix_defs.specs.Locks.{Lock, Locks, is_of, lock_of, ranges_of, without}
use Rattle.lock_table.specs.Reordered.{IsReordered, empty, more, swap, trans}
use Rattle.lock_table.specs.Setting.{cut, is_over, kept_by, left_of, let_go, over, over_by, stays, with_range}
use Rattle.lock_table.proofs.Reordering.{as_often, behind_others, each_still, each_to, interleaved, mapped, one_if, same_list, same_lists, times, times_more, times_none, to_front}

-- ---- a process's lock of a file, or another one

own_lock : (pid node : ℕ) (lock : Lock) (range : Range) → is_of pid node lock ≡ true → record lock { range = range } ≡ lock_of pid node range
own_lock pid node lock range own =
    let parts = and_parts (eqb lock.pid pid) (eqb lock.node node) own in
    let by_pid : ℕ → Lock = λ n. record { pid = n; node = lock.node; range = range } in
    let by_node : ℕ → Lock = λ n. record { pid = pid; node = n; range = range } in
    ap by_pid (eqb-true lock.pid pid parts.0) ∙ ap by_node (eqb-true lock.node node parts.1)

pub ranges_own : (pid node : ℕ) (lock : Lock) (locks : Locks) → is_of pid node lock ≡ true → ranges_of (lock ∷ locks) pid node ≡ lock.range ∷ ranges_of locks pid node
ranges_own pid node lock locks own = ap (λ b. map (λ (l : Lock). l.range) (cond b (lock ∷ filter (is_of pid node) locks) (filter (is_of pid node) locks))) own

pub ranges_other : (pid node : ℕ) (lock : Lock) (locks : Locks) → is_of pid node lock ≡ false → ranges_of (lock ∷ locks) pid node ≡ ranges_of locks pid node
ranges_other pid node lock locks other = ap (λ b. map (λ (l : Lock). l.range) (cond b (lock ∷ filter (is_of pid node) locks) (filter (is_of pid node) locks))) other

pub without_own : (pid node : ℕ) (lock : Lock) (locks : Locks) → is_of pid node lock ≡ true → without (lock ∷ locks) pid node ≡ without locks pid node
without_own pid node lock locks own = ap (λ b. cond (not b) (lock ∷ without locks pid node) (without locks pid node)) own

pub without_other : (pid node : ℕ) (lock : Lock) (locks : Locks) → is_of pid node lock ≡ false → without (lock ∷ locks) pid node ≡ lock ∷ without locks pid node
without_other pid node lock locks other = ap (λ b. cond (not b) (lock ∷ without locks pid node) (without locks pid node)) other

-- ---- what stays, in the order in which it stood

abbrev one_kept : Option Range → Lock → Locks
one_kept None lock = []
one_kept (Some range) lock = record lock { range = range } ∷ []

abbrev kept : (pid node start last : ℕ) → Lock → Locks
kept pid node start last lock = one_kept (kept_by pid node start last lock) lock

abbrev pub all_kept : ℕ → ℕ → ℕ → ℕ → Locks → Locks
all_kept pid node start last locks = each_to (kept pid node start last) locks

stays_kept : (pid node start last : ℕ) (range : Option Range) (lock : Lock) (done : Locks) → stays pid node start last range lock done ≡ one_kept range lock ++ done
stays_kept pid node start last None lock done = refl
stays_kept pid node start last (Some range) lock done = refl

pub cut_kept : (pid node start last : ℕ) (done locks : Locks) → IsReordered (cut pid node start last done locks) (all_kept pid node start last locks ++ done)
cut_kept pid node start last done [] = same_list done
cut_kept pid node start last done (lock ∷ locks) =
    let one = one_kept (kept_by pid node start last lock) lock in
    let rest = all_kept pid node start last locks in
    let now = stays pid node start last (kept_by pid node start last lock) lock done in
    trans (cut pid node start last now locks) (rest ++ now) ((one ++ rest) ++ done)
    (cut_kept pid node start last now locks)
    (subst (λ l. IsReordered (rest ++ l) ((one ++ rest) ++ done)) (sym (stays_kept pid node start last (kept_by pid node start last lock) lock done))
    (subst (IsReordered (rest ++ (one ++ done))) (sym (append_assoc one rest done)) (to_front rest one done)))

-- ---- all places are let go

kept_other : (pid node start last : ℕ) (lock : Lock) → is_of pid node lock ≡ false → kept pid node start last lock ≡ lock ∷ []
kept_other pid node start last lock other = ap (λ b. one_kept (cond b (left_of start last lock.range) (Some lock.range)) lock) other

kept_own : (pid node start last : ℕ) (lock : Lock) → is_of pid node lock ≡ true → kept pid node start last lock ≡ one_kept (left_of start last lock.range) lock
kept_own pid node start last lock own = ap (λ b. one_kept (cond b (left_of start last lock.range) (Some lock.range)) lock) own

none_left : (lock : Lock) → lock.range.last ≤ greatest → one_kept (left_of 0 greatest lock.range) lock ≡ []
none_left lock within =
    ap (λ b. one_kept (cond b (Some (until 0 lock.range)) (cond (ltb greatest lock.range.last) (Some (beyond greatest lock.range)) None)) lock) (le-ltb lock.range.start 0 (omega arith))
    ∙ ap (λ b. one_kept (cond b (Some (beyond greatest lock.range)) None) lock) (le-ltb greatest lock.range.last within)

all_gone : (pid node : ℕ) (locks : Locks) → IsCanonical (ranges_of locks pid node) → all_kept pid node 0 greatest locks ≡ without locks pid node
all_gone pid node [] canonical = refl
all_gone pid node (lock ∷ locks) canonical = elim (cases_Bool (is_of pid node lock)) [
  | inl own ↦
      let ranges : IsCanonical (lock.range ∷ ranges_of locks pid node) = subst IsCanonical (ranges_own pid node lock locks own) canonical in
      ap (λ l. l ++ all_kept pid node 0 greatest locks) (kept_own pid node 0 greatest lock own ∙ none_left lock ranges.1)
      ∙ all_gone pid node locks ranges.3 ∙ sym (without_own pid node lock locks own)
  | inr other ↦
      ap (λ l. l ++ all_kept pid node 0 greatest locks) (kept_other pid node 0 greatest lock other)
      ∙ ap (λ (l : Locks). lock ∷ l) (all_gone pid node locks (subst IsCanonical (ranges_other pid node lock locks other) canonical))
      ∙ sym (without_other pid node lock locks other)
]

pub all_let_go : (held locks : Locks) (pid node : ℕ) → IsReordered held locks → IsCanonical (ranges_of locks pid node)
    → IsReordered (cut pid node 0 greatest [] held) (without locks pid node)
all_let_go held locks pid node same canonical =
    trans (cut pid node 0 greatest [] held) (all_kept pid node 0 greatest held) (without locks pid node)
    (subst (IsReordered (cut pid node 0 greatest [] held)) (append-nil (all_kept pid node 0 greatest held)) (cut_kept pid node 0 greatest [] held))
    (trans (all_kept pid node 0 greatest held) (all_kept pid node 0 greatest locks) (without locks pid node) (each_still (kept pid node 0 greatest) same)
    (same_lists (all_kept pid node 0 greatest locks) (without locks pid node) (all_gone pid node locks canonical)))

-- ---- the pieces of a range

abbrev first_piece : ℕ → Range → List Range
first_piece start range = cond (ltb range.start start) (until start range ∷ []) []

abbrev last_piece : ℕ → Range → List Range
last_piece last range = cond (ltb last range.last) (beyond last range ∷ []) []

abbrev pieces : ℕ → ℕ → Range → List Range
pieces start last range = first_piece start range ++ last_piece last range

first_before : (start : ℕ) (range : Range) (ranges : List Range) → before start (range ∷ ranges) ≡ first_piece start range ++ before start ranges
first_before start range ranges = by (ltb range.start start)
  where
    by : (b : Bool) → cond b (until start range ∷ before start ranges) (before start ranges) ≡ cond b (until start range ∷ []) [] ++ before start ranges
    by true = refl
    by false = refl

last_behind : (last : ℕ) (range : Range) (ranges : List Range) → behind last (range ∷ ranges) ≡ last_piece last range ++ behind last ranges
last_behind last range ranges = by (ltb last range.last)
  where
    by : (b : Bool) → cond b (beyond last range ∷ behind last ranges) (behind last ranges) ≡ cond b (beyond last range ∷ []) [] ++ behind last ranges
    by true = refl
    by false = refl

pieces_apart : (start last : ℕ) (ranges : List Range) → IsReordered (each_to (pieces start last) ranges) (before start ranges ++ behind last ranges)
pieces_apart start last [] = empty
pieces_apart start last (range ∷ ranges) =
    let whole = before start (range ∷ ranges) ++ behind last (range ∷ ranges) in
    trans ((first_piece start range ++ last_piece last range) ++ each_to (pieces start last) ranges)
    ((first_piece start range ++ last_piece last range) ++ (before start ranges ++ behind last ranges)) whole
    (behind_others (first_piece start range ++ last_piece last range) (pieces_apart start last ranges))
    (subst (λ l. IsReordered ((first_piece start range ++ last_piece last range) ++ (before start ranges ++ behind last ranges)) (l ++ behind last (range ∷ ranges))) (sym (first_before start range ranges))
    (subst (λ l. IsReordered ((first_piece start range ++ last_piece last range) ++ (before start ranges ++ behind last ranges)) ((first_piece start range ++ before start ranges) ++ l)) (sym (last_behind last range ranges))
    (interleaved (first_piece start range) (last_piece last range) (before start ranges) (behind last ranges))))

-- ---- the pieces of locks

abbrev lock_pieces : (pid node start last : ℕ) → Lock → Locks
lock_pieces pid node start last lock = cond (is_of pid node lock) (map (lock_of pid node) (pieces start last lock.range)) (lock ∷ [])

pieces_own : (pid node start last : ℕ) (lock : Lock) → is_of pid node lock ≡ true → lock_pieces pid node start last lock ≡ map (lock_of pid node) (pieces start last lock.range)
pieces_own pid node start last lock own = ap (λ b. cond b (map (lock_of pid node) (pieces start last lock.range)) (lock ∷ [])) own

pieces_other : (pid node start last : ℕ) (lock : Lock) → is_of pid node lock ≡ false → lock_pieces pid node start last lock ≡ lock ∷ []
pieces_other pid node start last lock other = ap (λ b. cond b (map (lock_of pid node) (pieces start last lock.range)) (lock ∷ [])) other

-- all that are not the process's, and the pieces of those that are
pieces_beside : (pid node start last : ℕ) (locks : Locks)
    → IsReordered (each_to (lock_pieces pid node start last) locks) (without locks pid node ++ map (lock_of pid node) (each_to (pieces start last) (ranges_of locks pid node)))
pieces_beside pid node start last [] = empty
pieces_beside pid node start last (lock ∷ locks) = elim (cases_Bool (is_of pid node lock)) [
  | inl own ↦
      let mine = map (lock_of pid node) (pieces start last lock.range) in
      let rest = map (lock_of pid node) (each_to (pieces start last) (ranges_of locks pid node)) in
      subst (λ l. IsReordered (l ++ each_to (lock_pieces pid node start last) locks) (without (lock ∷ locks) pid node ++ map (lock_of pid node) (each_to (pieces start last) (ranges_of (lock ∷ locks) pid node)))) (sym (pieces_own pid node start last lock own))
      (subst (λ l. IsReordered (mine ++ each_to (lock_pieces pid node start last) locks) (l ++ map (lock_of pid node) (each_to (pieces start last) (ranges_of (lock ∷ locks) pid node)))) (sym (without_own pid node lock locks own))
      (subst (λ rs. IsReordered (mine ++ each_to (lock_pieces pid node start last) locks) (without locks pid node ++ map (lock_of pid node) (each_to (pieces start last) rs))) (sym (ranges_own pid node lock locks own))
      (subst (λ l. IsReordered (mine ++ each_to (lock_pieces pid node start last) locks) (without locks pid node ++ l)) (sym (map-append (lock_of pid node) (pieces start last lock.range) (each_to (pieces start last) (ranges_of locks pid node))))
      (trans (mine ++ each_to (lock_pieces pid node start last) locks) (mine ++ (without locks pid node ++ rest)) (without locks pid node ++ (mine ++ rest))
      (behind_others mine (pieces_beside pid node start last locks)) (to_front mine (without locks pid node) rest)))))
  | inr other ↦
      subst (λ l. IsReordered (l ++ each_to (lock_pieces pid node start last) locks) (without (lock ∷ locks) pid node ++ map (lock_of pid node) (each_to (pieces start last) (ranges_of (lock ∷ locks) pid node)))) (sym (pieces_other pid node start last lock other))
      (subst (λ l. IsReordered (lock ∷ each_to (lock_pieces pid node start last) locks) (l ++ map (lock_of pid node) (each_to (pieces start last) (ranges_of (lock ∷ locks) pid node)))) (sym (without_other pid node lock locks other))
      (subst (λ rs. IsReordered (lock ∷ each_to (lock_pieces pid node start last) locks) ((lock ∷ without locks pid node) ++ map (lock_of pid node) (each_to (pieces start last) rs))) (sym (ranges_other pid node lock locks other))
      (more lock (each_to (lock_pieces pid node start last) locks) (without locks pid node ++ map (lock_of pid node) (each_to (pieces start last) (ranges_of locks pid node))) (pieces_beside pid node start last locks))))
]

-- ---- one lock at most has both pieces

abbrev is_cut : (pid node start last : ℕ) → Lock → Bool
is_cut pid node start last lock = is_of pid node lock && is_over start last lock.range

all_behind : (start : ℕ) (range : Range) (ranges : List Range) → start ≤ range.last → AllByRecursion (LiesBefore range) ranges → AllByRecursion (λ (r : Range). start ≤ r.start) ranges
all_behind start range [] from lie = tt
all_behind start range (next ∷ ranges) from lie = let first : range.last < next.start = lie.0.0 in (omega arith, all_behind start range ranges from lie.1)

not_over : (start last : ℕ) (range : Range) → start ≤ range.start → is_over start last range ≡ false
not_over start last range from = and_left (ltb range.start start) (ltb last range.last) (le-ltb range.start start from)

none_cut : (pid node start last : ℕ) (locks : Locks) → AllByRecursion (λ (r : Range). start ≤ r.start) (ranges_of locks pid node) → times (is_cut pid node start last) locks ≡ 0
none_cut pid node start last [] from = times_none (is_cut pid node start last)
none_cut pid node start last (lock ∷ locks) from = elim (cases_Bool (is_of pid node lock)) [
  | inl own ↦
      let ranges = subst (AllByRecursion (λ (r : Range). start ≤ r.start)) (ranges_own pid node lock locks own) from in
      let no : (is_of pid node lock && is_over start last lock.range) ≡ false = ap (λ b. b && is_over start last lock.range) own ∙ not_over start last lock.range ranges.0 in
      times_more (is_cut pid node start last) lock locks ∙ ap (λ b. one_if b + times (is_cut pid node start last) locks) no ∙ none_more (none_cut pid node start last locks ranges.1)
  | inr other ↦
      let no : (is_of pid node lock && is_over start last lock.range) ≡ false = and_left (is_of pid node lock) (is_over start last lock.range) other in
      times_more (is_cut pid node start last) lock locks ∙ ap (λ b. one_if b + times (is_cut pid node start last) locks) no
      ∙ none_more (none_cut pid node start last locks (subst (AllByRecursion (λ (r : Range). start ≤ r.start)) (ranges_other pid node lock locks other) from))
]
  where
    none_more : times (is_cut pid node start last) locks ≡ 0 → one_if false + times (is_cut pid node start last) locks ≡ 0
    none_more none = omega (arith, none)

few_cut : (pid node start last : ℕ) (locks : Locks) → start ≤ last → IsCanonical (ranges_of locks pid node) → times (is_cut pid node start last) locks ≤ 1
few_cut pid node start last [] order canonical = omega (arith, times_none (is_cut pid node start last))
few_cut pid node start last (lock ∷ locks) order canonical = elim (cases_Bool (is_of pid node lock)) [
  | inl own ↦
      let ranges : IsCanonical (lock.range ∷ ranges_of locks pid node) = subst IsCanonical (ranges_own pid node lock locks own) canonical in
      by_over (is_over start last lock.range) refl own ranges (few_cut pid node start last locks order ranges.3)
  | inr other ↦
      let no : (is_of pid node lock && is_over start last lock.range) ≡ false = and_left (is_of pid node lock) (is_over start last lock.range) other in
      no_more no (few_cut pid node start last locks order (subst IsCanonical (ranges_other pid node lock locks other) canonical))
]
  where
    no_more : (is_of pid node lock && is_over start last lock.range) ≡ false → times (is_cut pid node start last) locks ≤ 1 → times (is_cut pid node start last) (lock ∷ locks) ≤ 1
    no_more isnt few = omega (arith, times_more (is_cut pid node start last) lock locks ∙ ap (λ b. one_if b + times (is_cut pid node start last) locks) isnt, few)

    one_more : (is_of pid node lock && is_over start last lock.range) ≡ true → times (is_cut pid node start last) locks ≡ 0 → times (is_cut pid node start last) (lock ∷ locks) ≤ 1
    one_more is none = omega (arith, times_more (is_cut pid node start last) lock locks ∙ ap (λ b. one_if b + times (is_cut pid node start last) locks) is, none)

    by_over : (b : Bool) → is_over start last lock.range ≡ b → is_of pid node lock ≡ true → IsCanonical (lock.range ∷ ranges_of locks pid node)
        → times (is_cut pid node start last) locks ≤ 1 → times (is_cut pid node start last) (lock ∷ locks) ≤ 1
    by_over true is own ranges few =
        let longer : last < lock.range.last = ltb-true last lock.range.last (and_parts (ltb lock.range.start start) (ltb last lock.range.last) is).1 in
        one_more (ap (λ b. b && is_over start last lock.range) own ∙ is)
        (none_cut pid node start last locks (all_behind start lock.range (ranges_of locks pid node) (omega arith) ranges.2))
    by_over false is own ranges few = no_more (ap (λ b. b && is_over start last lock.range) own ∙ is) few

-- ---- what stays and what is left over are all the pieces

abbrev rest_of : (pid node : ℕ) → Option Range → Locks
rest_of pid node None = []
rest_of pid node (Some range) = lock_of pid node range ∷ []

not_cut : (pid node start last : ℕ) (lock : Lock) → is_cut pid node start last lock ≡ false → lock_pieces pid node start last lock ≡ kept pid node start last lock
not_cut pid node start last lock isnt = elim (cases_Bool (is_of pid node lock)) [
  | inl own ↦
      pieces_own pid node start last lock own
      ∙ by (ltb lock.range.start start) (ltb last lock.range.last) own (sym (ap (λ b. b && is_over start last lock.range) own) ∙ isnt)
      ∙ sym (kept_own pid node start last lock own)
  | inr other ↦ pieces_other pid node start last lock other ∙ sym (kept_other pid node start last lock other)
]
  where
    by : (b c : Bool) → is_of pid node lock ≡ true → (b && c) ≡ false
        → map (lock_of pid node) (cond b (until start lock.range ∷ []) [] ++ cond c (beyond last lock.range ∷ []) [])
        ≡ one_kept (cond b (Some (until start lock.range)) (cond c (Some (beyond last lock.range)) None)) lock
    by true true own none = absurd (cc)
    by true false own none = ap (λ (l : Lock). l ∷ []) (sym (own_lock pid node lock (until start lock.range) own))
    by false true own none = ap (λ (l : Lock). l ∷ []) (sym (own_lock pid node lock (beyond last lock.range) own))
    by false false own none = refl

is_cut_over : (pid node start last : ℕ) (lock : Lock) (rest : Option Range) (b : Bool) → is_cut pid node start last lock ≡ b → over_by pid node start last rest lock ≡ cond b (Some (beyond last lock.range)) rest
is_cut_over pid node start last lock rest b is = ap (λ c. cond c (Some (beyond last lock.range)) rest) is

-- one that is cut in the middle
cut_middle : (pid node start last : ℕ) (lock : Lock) → is_cut pid node start last lock ≡ true
    → (lock_pieces pid node start last lock ≡ lock_of pid node (until start lock.range) ∷ lock_of pid node (beyond last lock.range) ∷ [])
    × (kept pid node start last lock ≡ lock_of pid node (until start lock.range) ∷ [])
cut_middle pid node start last lock is =
    let parts = and_parts (is_of pid node lock) (is_over start last lock.range) is in
    let ends = and_parts (ltb lock.range.start start) (ltb last lock.range.last) parts.1 in (
      pieces_own pid node start last lock parts.0
          ∙ ap (λ b. map (lock_of pid node) (cond b (until start lock.range ∷ []) [] ++ cond (ltb last lock.range.last) (beyond last lock.range ∷ []) [])) ends.0
          ∙ ap (λ b. map (lock_of pid node) ((until start lock.range ∷ []) ++ cond b (beyond last lock.range ∷ []) [])) ends.1,
      kept_own pid node start last lock parts.0
          ∙ ap (λ b. one_kept (cond b (Some (until start lock.range)) (cond (ltb last lock.range.last) (Some (beyond last lock.range)) None)) lock) ends.0
          ∙ ap (λ (l : Lock). l ∷ []) (own_lock pid node lock (until start lock.range) parts.0),
    )

module _ (pid node start last : ℕ) where
  -- where none is cut in the middle
  nothing_over : (rest : Option Range) (locks : Locks) → times (is_cut pid node start last) locks ≡ 0
      → (over pid node start last rest locks ≡ rest) × (all_kept pid node start last locks ≡ each_to (lock_pieces pid node start last) locks)
  nothing_over rest [] none = (refl, refl)
  nothing_over rest (lock ∷ locks) none = by (is_cut pid node start last lock) refl (nothing_over rest locks)
    where
      by : (b : Bool) → is_cut pid node start last lock ≡ b
          → (times (is_cut pid node start last) locks ≡ 0 → (over pid node start last rest locks ≡ rest) × (all_kept pid node start last locks ≡ each_to (lock_pieces pid node start last) locks))
          → (over pid node start last rest (lock ∷ locks) ≡ rest) × (all_kept pid node start last (lock ∷ locks) ≡ each_to (lock_pieces pid node start last) (lock ∷ locks))
      by true is behind_it = absurd (omega (arith, none, times_more (is_cut pid node start last) lock locks ∙ ap (λ b. one_if b + times (is_cut pid node start last) locks) is))
      by false is behind_it =
          let more_none : times (is_cut pid node start last) locks ≡ 0 =
          omega (arith, none, times_more (is_cut pid node start last) lock locks ∙ ap (λ b. one_if b + times (is_cut pid node start last) locks) is) in
          let later = behind_it more_none in (
            ap (λ r. over pid node start last r locks) (is_cut_over pid node start last lock rest false is) ∙ later.0,
            ap (λ l. l ++ all_kept pid node start last locks) (sym (not_cut pid node start last lock is)) ∙ ap (λ l. lock_pieces pid node start last lock ++ l) later.1,
          )

  -- where one is at most
  one_over : (locks : Locks) → times (is_cut pid node start last) locks ≤ 1
      → IsReordered (rest_of pid node (over pid node start last None locks) ++ all_kept pid node start last locks) (each_to (lock_pieces pid node start last) locks)
  one_over [] few = empty
  one_over (lock ∷ locks) few = by (is_cut pid node start last lock) refl (one_over locks)
    where
      by : (b : Bool) → is_cut pid node start last lock ≡ b
          → (times (is_cut pid node start last) locks ≤ 1 → IsReordered (rest_of pid node (over pid node start last None locks) ++ all_kept pid node start last locks) (each_to (lock_pieces pid node start last) locks))
          → IsReordered (rest_of pid node (over pid node start last None (lock ∷ locks)) ++ all_kept pid node start last (lock ∷ locks)) (each_to (lock_pieces pid node start last) (lock ∷ locks))
      by true is later_on =
          let none : times (is_cut pid node start last) locks ≡ 0 =
          omega (arith, few, times_more (is_cut pid node start last) lock locks ∙ ap (λ b. one_if b + times (is_cut pid node start last) locks) is) in
          let later = nothing_over (Some (beyond last lock.range)) locks none in
          let parts = cut_middle pid node start last lock is in
          let one = lock_of pid node (until start lock.range) in
          let two = lock_of pid node (beyond last lock.range) in
          let behind_it = each_to (lock_pieces pid node start last) locks in
          subst (λ r. IsReordered (rest_of pid node r ++ all_kept pid node start last (lock ∷ locks)) (each_to (lock_pieces pid node start last) (lock ∷ locks)))
          (sym (ap (λ r. over pid node start last r locks) (is_cut_over pid node start last lock None true is) ∙ later.0))
          (subst (λ l. IsReordered (two ∷ (l ++ all_kept pid node start last locks)) (each_to (lock_pieces pid node start last) (lock ∷ locks))) (sym parts.1)
          (subst (λ l. IsReordered (two ∷ one ∷ l) (each_to (lock_pieces pid node start last) (lock ∷ locks))) (sym later.1)
          (subst (λ l. IsReordered (two ∷ one ∷ behind_it) (l ++ behind_it)) (sym parts.0) (swap two one behind_it))))
      by false is later_on =
          let fewer : times (is_cut pid node start last) locks ≤ 1 =
          omega (arith, few, times_more (is_cut pid node start last) lock locks ∙ ap (λ b. one_if b + times (is_cut pid node start last) locks) is) in
          let rest = rest_of pid node (over pid node start last None locks) in
          let mine = kept pid node start last lock in
          let behind_it = each_to (lock_pieces pid node start last) locks in
          subst (λ r. IsReordered (rest_of pid node (over pid node start last r locks) ++ all_kept pid node start last (lock ∷ locks)) (each_to (lock_pieces pid node start last) (lock ∷ locks)))
          (sym (is_cut_over pid node start last lock None false is))
          (subst (λ l. IsReordered (rest ++ (mine ++ all_kept pid node start last locks)) (l ++ behind_it)) (sym (not_cut pid node start last lock is))
          (trans (rest ++ (mine ++ all_kept pid node start last locks)) (mine ++ (rest ++ all_kept pid node start last locks)) (mine ++ behind_it)
          (to_front rest mine (all_kept pid node start last locks)) (behind_others mine (later_on fewer))))

  with_rest : (range : Option Range) (locks : Locks) → with_range pid node start last range locks ≡ rest_of pid node range ++ locks
  with_rest None locks = refl
  with_rest (Some range) locks = refl

-- what is let go of some locks leaves the pieces beside what isn't the process's, whatever the order
pub let_go_is : (held locks : Locks) (pid node start last : ℕ) → IsReordered held locks → start ≤ last → IsCanonical (ranges_of locks pid node)
    → IsReordered (let_go pid node start last held) (without locks pid node ++ map (lock_of pid node) (before start (ranges_of locks pid node) ++ behind last (ranges_of locks pid node)))
let_go_is held locks pid node start last same order canonical =
    let rest = rest_of pid node (over pid node start last None held) in
    let stayed = cut pid node start last [] held in
    let few : times (is_cut pid node start last) held ≤ 1 = omega (arith, as_often (is_cut pid node start last) same, few_cut pid node start last locks order canonical) in
    let ranges = ranges_of locks pid node in
    subst (λ l. IsReordered l (without locks pid node ++ map (lock_of pid node) (before start ranges ++ behind last ranges))) (sym (with_rest pid node start last (over pid node start last None held) stayed))
    (trans (rest ++ stayed) (rest ++ all_kept pid node start last held) (without locks pid node ++ map (lock_of pid node) (before start ranges ++ behind last ranges))
    (behind_others rest (subst (IsReordered stayed) (append-nil (all_kept pid node start last held)) (cut_kept pid node start last [] held)))
    (trans (rest ++ all_kept pid node start last held) (each_to (lock_pieces pid node start last) held) (without locks pid node ++ map (lock_of pid node) (before start ranges ++ behind last ranges))
    (one_over pid node start last held few)
    (trans (each_to (lock_pieces pid node start last) held) (each_to (lock_pieces pid node start last) locks) (without locks pid node ++ map (lock_of pid node) (before start ranges ++ behind last ranges))
    (each_still (lock_pieces pid node start last) same)
    (trans (each_to (lock_pieces pid node start last) locks) (without locks pid node ++ map (lock_of pid node) (each_to (pieces start last) ranges)) (without locks pid node ++ map (lock_of pid node) (before start ranges ++ behind last ranges))
    (pieces_beside pid node start last locks)
    (behind_others (without locks pid node) (mapped (lock_of pid node) (pieces_apart start last ranges)))))))
