-- What is held and let go of locks, in whatever order they stand, is what is set of the ranges of a process.
use Rattle.std.proofs.Common.{◌≡◌, ◌≢◌, ℕ, ◌+◌, ◌-◌, ◌≤◌, ◌&&◌, Bool, true, false, cond, eqb, not, min, max, List, [], ◌∷◌, ◌++◌, append_assoc, map, None, Some, refl, ap, sym, subst, ◌∙◌, inl, inr, ◌⊎◌, arith}
use Rattle.std.specs.List.{AllByRecursion}
use Rattle.std.proofs.lemmas.Bool.{and_from, and_left, and_right, and_parts, cases_Bool, cases_eq, cases_lt, eq-eqb, eqb-true, ne_eqb}
use Rattle.std.proofs.lemmas.List.{append-nil, map-append}
use Rattle.kabi_types.specs.Ranges.{IsCanonical, before, behind, greatest, set}
use Rattle.lock_ranges.specs.Widening.{Begins, Ends, IsAmong, IsWidened, LiesWithin, reaches}
use Rattle.kabi_types.specs.declared.ranges.Range.{Range}
use Rattle.lock_ranges.proofs.Shape.{IsCanonical-set}
use Rattle.lock_ranges.proofs.Widening.{set_held, set_none}
use Rattle.posix_defs.specs.Locks.{Lock, Locks, Request, after_set, is_of, lock_of, ranges_of, with_ranges, without}
use Rattle.lock_table.specs.Reordered.{IsReordered, more, trans}
use Rattle.lock_table.specs.Setting.{held_wide, let_go, taking_in, widened}
use Rattle.lock_table.proofs.Keeping.{let_go_is, ranges_other, ranges_own}
use Rattle.lock_table.proofs.Reordering.{all_still, among_still, back, filtered, from_middle, mapped}

-- ---- what is asked for, with what it reaches

abbrev grows : Range → Range → Range → Range
grows asked wide range = cond (reaches asked range) (taking_in wide range) wide

abbrev all_grown : Range → Range → List Range → Range
all_grown asked wide [] = wide
all_grown asked wide (range ∷ ranges) = all_grown asked (grows asked wide range) ranges

widened_grown : (pid node : ℕ) (asked wide : Range) (locks : Locks) → widened pid node asked wide locks ≡ all_grown asked wide (ranges_of locks pid node)
widened_grown pid node asked wide [] = refl
widened_grown pid node asked wide (lock ∷ locks) = elim (cases_Bool (is_of pid node lock)) [
  | inl own ↦
      ap (λ b. widened pid node asked (cond (b && reaches asked lock.range) (taking_in wide lock.range) wide) locks) own
      ∙ widened_grown pid node asked (cond (reaches asked lock.range) (taking_in wide lock.range) wide) locks
      ∙ ap (all_grown asked wide) (sym (ranges_own pid node lock locks own))
  | inr other ↦
      ap (λ b. widened pid node asked (cond (b && reaches asked lock.range) (taking_in wide lock.range) wide) locks) other
      ∙ widened_grown pid node asked wide locks
      ∙ ap (all_grown asked wide) (sym (ranges_other pid node lock locks other))
]

-- what the wide range is after some ranges, by what it was before
record Grown (asked wide end : Range) (ranges : List Range) : Type 0 where
  kind : end.kind ≡ wide.kind
  from : end.start ≤ wide.start
  to : wide.last ≤ end.last
  all : AllByRecursion (LiesWithin asked end) ranges
  start_is : (end.start ≡ wide.start) ⊎ IsAmong (Begins asked end.start) ranges
  last_is : (end.last ≡ wide.last) ⊎ IsAmong (Ends asked end.last) ranges

min_is : (a b : ℕ) → (min a b ≡ a) ⊎ (min a b ≡ b)
min_is a b = elim (cases_lt a b) [
  | inl lt ↦ inl (omega arith)
  | inr le ↦ inr (omega arith)
]

max_is : (a b : ℕ) → (max a b ≡ a) ⊎ (max a b ≡ b)
max_is a b = elim (cases_lt a b) [
  | inl lt ↦ inr (omega arith)
  | inr le ↦ inl (omega arith)
]

grown : (asked wide : Range) (ranges : List Range) → Grown asked wide (all_grown asked wide ranges) ranges
grown asked wide [] = record { kind = refl; from = omega arith; to = omega arith; all = tt; start_is = inl refl; last_is = inl refl }
grown asked wide (range ∷ ranges) = by (reaches asked range) refl (grown asked (taking_in wide range) ranges) (grown asked wide ranges)
  where
    by : (b : Bool) → reaches asked range ≡ b → Grown asked (taking_in wide range) (all_grown asked (taking_in wide range) ranges) ranges → Grown asked wide (all_grown asked wide ranges) ranges
        → Grown asked wide (all_grown asked (grows asked wide range) ranges) (range ∷ ranges)
    by true is it as_it_was =
        subst (λ w. Grown asked wide (all_grown asked w ranges) (range ∷ ranges)) (sym (ap (λ c. cond c (taking_in wide range) wide) is))
        (record {
          kind = it.kind;
          from = omega (arith, it.from);
          to = omega (arith, it.to);
          all = ((λ reached. (omega (arith, it.from), omega (arith, it.to))), it.all);
          start_is = elim it.start_is [
            | inl same ↦ elim (min_is wide.start range.start) [
              | inl old ↦ inl (same ∙ old)
              | inr new ↦ inr (inl (is, sym (same ∙ new)))
            ]
            | inr among ↦ inr (inr among)
          ];
          last_is = elim it.last_is [
            | inl same ↦ elim (max_is wide.last range.last) [
              | inl old ↦ inl (same ∙ old)
              | inr new ↦ inr (inl (is, sym (same ∙ new)))
            ]
            | inr among ↦ inr (inr among)
          ];
        })
    by false is taken it =
        subst (λ w. Grown asked wide (all_grown asked w ranges) (range ∷ ranges)) (sym (ap (λ c. cond c (taking_in wide range) wide) is))
        (record {
          kind = it.kind;
          from = it.from;
          to = it.to;
          all = ((λ reached. absurd (let wrong : false ≡ true = sym is ∙ reached in cc)), it.all);
          start_is = elim it.start_is [
            | inl same ↦ inl same
            | inr among ↦ inr (inr among)
          ];
          last_is = elim it.last_is [
            | inl same ↦ inl same
            | inr among ↦ inr (inr among)
          ];
        })

-- the ranges of a process of a file are the same, but for their order
ranges_still : {held locks : Locks} (pid node : ℕ) → IsReordered held locks → IsReordered (ranges_of held pid node) (ranges_of locks pid node)
ranges_still pid node same = mapped (λ lock. lock.range) (filtered (is_of pid node) same)

is_widened : (held locks : Locks) (pid node : ℕ) (asked : Range) → IsReordered held locks → IsWidened (ranges_of locks pid node) asked (widened pid node asked asked held)
is_widened held locks pid node asked same =
    subst (λ w. IsWidened (ranges_of locks pid node) asked w) (sym (widened_grown pid node asked asked held))
    (let it = grown asked asked (ranges_of held pid node) in
    let so = ranges_still pid node same in record {
      kind = it.kind;
      from = it.from;
      to = it.to;
      all = all_still (LiesWithin asked (all_grown asked asked (ranges_of held pid node))) so it.all;
      start_is = elim it.start_is [
        | inl is ↦ inl is
        | inr among ↦ inr (among_still (Begins asked (all_grown asked asked (ranges_of held pid node)).start) so among)
      ];
      last_is = elim it.last_is [
        | inl is ↦ inl is
        | inr among ↦ inr (among_still (Ends asked (all_grown asked asked (ranges_of held pid node)).last) so among)
      ];
    })

-- ---- setting

pub set_to_hold : (held locks : Locks) (pid node : ℕ) (range : Range) → IsReordered held locks → range.start ≤ range.last → range.last ≤ greatest
    → IsCanonical (ranges_of locks pid node)
    → IsReordered (held_wide pid node range held) (with_ranges locks pid node (set (ranges_of locks pid node) (Some range.kind) range.start range.last))
set_to_hold held locks pid node range same order within canonical =
    let wide : Range = widened pid node range range held in
    let ranges = ranges_of locks pid node in
    let so = is_widened held locks pid node range same in
    let others = without locks pid node in
    let one = map (lock_of pid node) (before wide.start ranges) in
    let two = map (lock_of pid node) (behind wide.last ranges) in
    subst (λ rs. IsReordered (lock_of pid node wide ∷ let_go pid node wide.start wide.last held) (with_ranges locks pid node rs)) (sym (set_held ranges range wide canonical order within so))
    (subst (λ ls. IsReordered (lock_of pid node wide ∷ let_go pid node wide.start wide.last held) (others ++ ls)) (sym (map-append (lock_of pid node) (before wide.start ranges) (wide ∷ behind wide.last ranges)))
    (trans (lock_of pid node wide ∷ let_go pid node wide.start wide.last held) (lock_of pid node wide ∷ ((others ++ one) ++ two)) (others ++ (one ++ lock_of pid node wide ∷ two))
    (more (lock_of pid node wide) (let_go pid node wide.start wide.last held) ((others ++ one) ++ two)
    (subst (IsReordered (let_go pid node wide.start wide.last held)) (sym (append_assoc others one two))
    (subst (λ ls. IsReordered (let_go pid node wide.start wide.last held) (others ++ ls)) (map-append (lock_of pid node) (before wide.start ranges) (behind wide.last ranges))
    (let_go_is held locks pid node wide.start wide.last same (omega (arith, so.from, so.to)) canonical))))
    (subst (IsReordered (lock_of pid node wide ∷ ((others ++ one) ++ two))) (append_assoc others one (lock_of pid node wide ∷ two))
    (back (from_middle (others ++ one) (lock_of pid node wide) two)))))

pub set_let_go : (held locks : Locks) (pid node start last : ℕ) → IsReordered held locks → start ≤ last → last ≤ greatest → IsCanonical (ranges_of locks pid node)
    → IsReordered (let_go pid node start last held) (with_ranges locks pid node (set (ranges_of locks pid node) None start last))
set_let_go held locks pid node start last same order within canonical =
    subst (λ rs. IsReordered (let_go pid node start last held) (with_ranges locks pid node rs)) (sym (set_none (ranges_of locks pid node) start last canonical order within))
    (let_go_is held locks pid node start last same order canonical)

-- ---- what each process has of each file then

its : (pid node : ℕ) (range : Range) → is_of pid node (lock_of pid node range) ≡ true
its pid node range = and_from (eqb pid pid) (eqb node node) (eq-eqb pid pid refl) (eq-eqb node node refl)

new_ranges : (pid node : ℕ) (ranges : List Range) → ranges_of (map (lock_of pid node) ranges) pid node ≡ ranges
new_ranges pid node [] = refl
new_ranges pid node (range ∷ ranges) = ranges_own pid node (lock_of pid node range) (map (lock_of pid node) ranges) (its pid node range) ∙ ap (λ (l : List Range). range ∷ l) (new_ranges pid node ranges)

ranges_append : (pid node : ℕ) (locks others : Locks) → ranges_of (locks ++ others) pid node ≡ ranges_of locks pid node ++ ranges_of others pid node
ranges_append pid node [] others = refl
ranges_append pid node (lock ∷ locks) others = elim (cases_Bool (is_of pid node lock)) [
  | inl own ↦
      ranges_own pid node lock (locks ++ others) own ∙ ap (λ (l : List Range). lock.range ∷ l) (ranges_append pid node locks others)
      ∙ ap (λ (l : List Range). l ++ ranges_of others pid node) (sym (ranges_own pid node lock locks own))
  | inr other ↦
      ranges_other pid node lock (locks ++ others) other ∙ ranges_append pid node locks others
      ∙ ap (λ (l : List Range). l ++ ranges_of others pid node) (sym (ranges_other pid node lock locks other))
]

-- of what isn't a process's of a file it has none
none_without : (pid node : ℕ) (locks : Locks) → ranges_of (without locks pid node) pid node ≡ []
none_without pid node [] = refl
none_without pid node (lock ∷ locks) = by (is_of pid node lock) refl (none_without pid node locks)
  where
    by : (b : Bool) → is_of pid node lock ≡ b → ranges_of (without locks pid node) pid node ≡ [] → ranges_of (cond (not b) (lock ∷ without locks pid node) (without locks pid node)) pid node ≡ []
    by true is none = none
    by false is none = ranges_other pid node lock (without locks pid node) is ∙ none

-- who asks for another's, or of another file
abbrev IsElse : ℕ → ℕ → ℕ → ℕ → Type 0
IsElse pid node other number = (lock : Lock) → is_of pid node lock ≡ true → is_of other number lock ≡ false

is_else : (pid node other number : ℕ) → (pid ≢ other) ⊎ (node ≢ number) → IsElse pid node other number
is_else pid node other number (inl differs) lock own =
    let parts = and_parts (eqb lock.pid pid) (eqb lock.node node) own in
    and_left (eqb lock.pid other) (eqb lock.node number) (ne_eqb lock.pid other (λ same. differs (sym (eqb-true lock.pid pid parts.0) ∙ same)))
is_else pid node other number (inr differs) lock own =
    let parts = and_parts (eqb lock.pid pid) (eqb lock.node node) own in
    and_right (eqb lock.pid other) (eqb lock.node number) (ne_eqb lock.node number (λ same. differs (sym (eqb-true lock.node node parts.1) ∙ same)))

still_without : (pid node other number : ℕ) (locks : Locks) → IsElse pid node other number → ranges_of (without locks pid node) other number ≡ ranges_of locks other number
still_without pid node other number [] differs = refl
still_without pid node other number (lock ∷ locks) differs = by (is_of pid node lock) refl (still_without pid node other number locks differs)
  where
    by_other : (c : Bool) → is_of other number lock ≡ c → ranges_of (without locks pid node) other number ≡ ranges_of locks other number
        → ranges_of (lock ∷ without locks pid node) other number ≡ ranges_of (lock ∷ locks) other number
    by_other true is same =
        ranges_own other number lock (without locks pid node) is ∙ ap (λ (l : List Range). lock.range ∷ l) same
        ∙ sym (ranges_own other number lock locks is)
    by_other false is same = ranges_other other number lock (without locks pid node) is ∙ same ∙ sym (ranges_other other number lock locks is)

    by : (b : Bool) → is_of pid node lock ≡ b → ranges_of (without locks pid node) other number ≡ ranges_of locks other number
        → ranges_of (cond (not b) (lock ∷ without locks pid node) (without locks pid node)) other number ≡ ranges_of (lock ∷ locks) other number
    by true is same = same ∙ sym (ranges_other other number lock locks (differs lock is))
    by false is same = by_other (is_of other number lock) refl same

none_new : (pid node other number : ℕ) (ranges : List Range) → IsElse pid node other number → ranges_of (map (lock_of pid node) ranges) other number ≡ []
none_new pid node other number [] differs = refl
none_new pid node other number (range ∷ ranges) differs =
    ranges_other other number (lock_of pid node range) (map (lock_of pid node) ranges) (differs (lock_of pid node range) (its pid node range)) ∙ none_new pid node other number ranges differs

same_or_else : (pid node other number : ℕ) → ((pid ≡ other) × (node ≡ number)) ⊎ ((pid ≢ other) ⊎ (node ≢ number))
same_or_else pid node other number = elim (cases_eq pid other) [
  | inl pids ↦ elim (cases_eq node number) [
    | inl nodes ↦ inl (pids, nodes)
    | inr differs ↦ inr (inr differs)
  ]
  | inr differs ↦ inr (inl differs)
]

pub ranges_with : (locks : Locks) (pid node : ℕ) (ranges : List Range) → ranges_of (with_ranges locks pid node ranges) pid node ≡ ranges
ranges_with locks pid node ranges =
    ranges_append pid node (without locks pid node) (map (lock_of pid node) ranges)
    ∙ ap (λ (l : List Range). l ++ ranges_of (map (lock_of pid node) ranges) pid node) (none_without pid node locks)
    ∙ new_ranges pid node ranges

pub ranges_beside : (locks : Locks) (pid node other number : ℕ) (ranges : List Range) → (pid ≢ other) ⊎ (node ≢ number) → ranges_of (with_ranges locks pid node ranges) other number ≡ ranges_of locks other number
ranges_beside locks pid node other number ranges differs =
    ranges_append other number (without locks pid node) (map (lock_of pid node) ranges)
    ∙ ap (λ (l : List Range). ranges_of (without locks pid node) other number ++ l) (none_new pid node other number ranges (is_else pid node other number differs))
    ∙ append-nil (ranges_of (without locks pid node) other number)
    ∙ still_without pid node other number locks (is_else pid node other number differs)

pub canonical_with : (locks : Locks) (pid node : ℕ) (ranges : List Range) → ((other number : ℕ) → IsCanonical (ranges_of locks other number)) → IsCanonical ranges
    → (other number : ℕ) → IsCanonical (ranges_of (with_ranges locks pid node ranges) other number)
canonical_with locks pid node ranges canonical new other number = elim (same_or_else pid node other number) [
  | inl same ↦
      subst (λ n. IsCanonical (ranges_of (with_ranges locks pid node ranges) n number)) same.0
      (subst (λ n. IsCanonical (ranges_of (with_ranges locks pid node ranges) pid n)) same.1 (subst IsCanonical (sym (ranges_with locks pid node ranges)) new))
  | inr differs ↦ subst IsCanonical (sym (ranges_beside locks pid node other number ranges differs)) (canonical other number)
]

pub canonical_after : (locks : Locks) (pid node : ℕ) (asked : Request) → asked.start ≤ asked.last → asked.last ≤ greatest → ((other number : ℕ) → IsCanonical (ranges_of locks other number))
    → (other number : ℕ) → IsCanonical (ranges_of (after_set locks pid node asked) other number)
canonical_after locks pid node asked order within canonical =
    canonical_with locks pid node (set (ranges_of locks pid node) asked.kind asked.start asked.last) canonical
    (IsCanonical-set (ranges_of locks pid node) asked.kind asked.start asked.last (canonical pid node) order within)

pub canonical_without : (locks : Locks) (pid node : ℕ) → ((other number : ℕ) → IsCanonical (ranges_of locks other number))
    → (other number : ℕ) → IsCanonical (ranges_of (without locks pid node) other number)
canonical_without locks pid node canonical other number =
    subst (λ ls. IsCanonical (ranges_of ls other number)) (append-nil (without locks pid node)) (canonical_with locks pid node [] canonical tt other number)
