-- How places are let go and held, one lock after the other, in whatever order they stand.
use Rattle.std.specs.Prelude.{ℕ, nat_lt, min, max, Bool, ◌&&◌, if◌then◌else◌, [], ◌∷◌, Option, None, Some}
use Rattle.kabi_types.specs.Ranges.{beyond, until}
use Rattle.lock_ranges.specs.Widening.{reaches}
use Rattle.kabi_types.specs.declared.ranges.Range.{Range}
use Rattle.posix_defs.specs.Locks.{Lock, Locks, is_of, lock_of}

-- ---- the places that are to be held, with those that they reach

-- a range that takes in another one
abbrev pub taking_in : Range → Range → Range
taking_in wide range = record wide { start = min wide.start range.start; last = max wide.last range.last }

-- what is asked for, with a lock that it reaches
abbrev pub widened_by : ℕ → ℕ → Range → Range → Lock → Range
widened_by pid node asked wide lock = if is_of pid node lock && reaches asked lock.range then taking_in wide lock.range else wide

-- with all that it reaches
abbrev pub widened : ℕ → ℕ → Range → Range → Locks → Range
widened pid node asked wide [] = wide
widened pid node asked wide (lock ∷ locks) = widened pid node asked (widened_by pid node asked wide lock) locks

-- ---- places that are let go, from a start to a last one

-- of a range what lies before the start, or else behind the last place
abbrev pub left_of : ℕ → ℕ → Range → Option Range
left_of start last range =
    if nat_lt range.start start then Some (until start range) else (if nat_lt last range.last then Some (beyond last range) else None)

-- it has places before the start and behind the last one
abbrev pub is_over : ℕ → ℕ → Range → Bool
is_over start last range = nat_lt range.start start && nat_lt last range.last

module _ (pid node start last : ℕ) where
  -- the range that a lock has then, if it stays
  abbrev pub kept_by : Lock → Option Range
  kept_by lock = if is_of pid node lock then left_of start last lock.range else Some lock.range

  -- the second of two ranges that are left of a lock
  abbrev pub over_by : Option Range → Lock → Option Range
  over_by over lock = if is_of pid node lock && is_over start last lock.range then Some (beyond last lock.range) else over

  abbrev pub over : Option Range → Locks → Option Range
  over rest [] = rest
  over rest (lock ∷ locks) = over (over_by rest lock) locks

  -- a lock that stays is put before those that stayed
  abbrev pub stays : Option Range → Lock → Locks → Locks
  stays None lock done = done
  stays (Some range) lock done = record lock { range = range } ∷ done

  abbrev pub cut : Locks → Locks → Locks
  cut done [] = done
  cut done (lock ∷ locks) = cut (stays (kept_by lock) lock done) locks

  -- one lock more, if there is a range
  abbrev pub with_range : Option Range → Locks → Locks
  with_range None locks = locks
  with_range (Some range) locks = lock_of pid node range ∷ locks

  -- a process's locks of a file once it has let the places go
  abbrev pub let_go : Locks → Locks
  let_go locks = with_range (over None locks) (cut [] locks)

-- the process holds these places, with all that they reach
abbrev pub held_wide : ℕ → ℕ → Range → Locks → Locks
held_wide pid node asked locks =
    let wide = widened pid node asked asked locks in
    lock_of pid node wide ∷ let_go pid node wide.start wide.last locks
