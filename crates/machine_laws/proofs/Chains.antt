-- A circle of waits is a chain from a process to itself, and who stands in one doesn't sleep in it.
use Rattle.std.proofs.Common.{◌≡◌, ◌≢◌, ℕ, zero, suc, ◌+◌, ◌-◌, nat_lt, ◌<◌, ◌≤◌, ◌==◌, ◌&&◌, ◌||◌, ℤ, Bool, true, false, cond, List, [], ◌∷◌, length, Option, None, Some, is_none, Result, Ok, Err, refl, ap, sym, ◌∙◌, subst, ◌⊎◌, inl, inr, arith}
use Rattle.std.specs.List.{filter, list_any, range_with_len}
use Rattle.std.proofs.lemmas.List.FromFn.{length-range_with_len, get_or-range_with_len}
use Rattle.std.specs.Option.{option_or}
use Rattle.kabi_types.specs.Arguments.{argument_fault, count_of, greatest_place, invalid_unless, is_from, is_within}
use Rattle.kabi_types.specs.declared.calls.Call.{Call}
use Rattle.kabi_types.specs.declared.calls.Call.TheVariants as call
use Rattle.kabi_types.specs.declared.errnos.Errno.{Errno}
use Rattle.kabi_types.specs.declared.errnos.Errno.TheVariants.{EBADF, EDEADLK, EOVERFLOW}
use Rattle.kabi_types.specs.declared.replies.Reply.TheVariants.{Fail}
use Rattle.kabi_types.specs.declared.scripts.Script.{Script}
use Rattle.kern_laws.proofs.Families.{alive_there}
use Rattle.kern_laws.proofs.TablePlaces.{was_made}
use Rattle.posix_defs.specs.Answer.{Answer, Blocked, Done, failed}
use Rattle.posix_defs.specs.Locks.{Lock, Locks, Request, comes_first, first_of, first_with, is_in_way, stops}
use Rattle.posix_defs.specs.Machine.{blocks, machine, unless_wrong, would_block}
use Rattle.posix_defs.specs.Plain.{Plain, call_of, last_pid}
use Rattle.posix_defs.specs.Process.{is_alive}
use Rattle.posix_defs.specs.Calls.Opened.{Opened, answer_on, opened_at}
use Rattle.posix_defs.specs.Calls.OnLocks.{circles, claim_of, claimed, file_of, granted, granted_or, is_clear, is_stopped_by, leads, may_hold, request_of, setlkw, waits_for, wanted_by, wanted_of, wanted_on}
use Rattle.machine_laws.specs.Chains as chain
use Rattle.machine_laws.specs.Chains.{Chain, among, anyone}
use Rattle.machine_laws.specs.Placed.{IsPlaced}
use Rattle.machine_laws.specs.Reached.{IsReached}
use Rattle.machine_laws.proofs.Reaches.{reached_keeps}

no : {A : Type 0} → false ≡ true → A
no e = absurd (let f = e in cc)

either_true : (a b : Bool) → (a || b) ≡ true → (a ≡ true) ⊎ (b ≡ true)
either_true true b e = inl refl
either_true false b e = inr e

both_true : (a b : Bool) → (a && b) ≡ true → (a ≡ true) × (b ≡ true)
both_true true b e = (refl, e)
both_true false b e = no e

or_true : (a b : Bool) → b ≡ true → (a || b) ≡ true
or_true true b e = refl
or_true false b e = e

and_true : (a b : Bool) → a ≡ true → b ≡ true → (a && b) ≡ true
and_true true b e f = f
and_true false b e f = no e

-- ---- chains

weaker : {waits : ℕ → ℕ → Bool} (One Two : ℕ → Type 0) → ((pid : ℕ) → One pid → Two pid) → {pid other : ℕ} → Chain waits One pid other → Chain waits Two pid other
weaker One Two follows (chain.wait pid other is) = chain.wait pid other is
weaker One Two follows (chain.goes_on pid between other is one later) = chain.goes_on pid between other is (follows between one) (weaker One Two follows later)

joined : {waits : ℕ → ℕ → Bool} {Between : ℕ → Type 0} {pid middle other : ℕ} → Chain waits Between pid middle → Between middle → Chain waits Between middle other → Chain waits Between pid other
joined (chain.wait pid middle is) at rest = chain.goes_on pid middle _ is at rest
joined (chain.goes_on pid between middle is one later) at rest = chain.goes_on pid between _ is one (joined later at rest)

later_one : (first : ℕ) (rest : List ℕ) (pid : ℕ) → among rest pid → among (first ∷ rest) pid
later_one first rest pid (k, h, is) = (suc k, omega arith, is)

first_one : (first : ℕ) (rest : List ℕ) → among (first ∷ rest) first
first_one first rest = (0, omega arith, refl)

module _ (waits : ℕ → ℕ → Bool) where
  wider : (first : ℕ) (rest : List ℕ) {pid other : ℕ} → Chain waits (among rest) pid other → Chain waits (among (first ∷ rest)) pid other
  wider first rest of = weaker (among rest) (among (first ∷ rest)) (later_one first rest) of

  pub chain_of : (between : List ℕ) (pid other : ℕ) → leads waits between pid other ≡ true → Chain waits (among between) pid other
  chain_of [] pid other e = chain.wait pid other e
  chain_of (first ∷ rest) pid other e = elim (either_true (leads waits rest pid other) (leads waits rest pid first && leads waits rest first other) e) [
    | inl direct ↦ wider first rest (chain_of rest pid other direct)
    | inr through ↦ let parts = both_true (leads waits rest pid first) (leads waits rest first other) through in
        joined (wider first rest (chain_of rest pid first parts.0)) (first_one first rest) (wider first rest (chain_of rest first other parts.1))
  ]

  -- a chain goes past the first of those between, or leads to it and on from it
  split : (first : ℕ) (rest : List ℕ) {pid other : ℕ} → Chain waits (among (first ∷ rest)) pid other
      → Chain waits (among rest) pid other ⊎ (Chain waits (among rest) pid first × Chain waits (among rest) first other)
  split first rest (chain.wait pid other is) = inl (chain.wait pid other is)
  split first rest (chain.goes_on pid between other is one later) = by one (split first rest later)
    where
      by : among (first ∷ rest) between → Chain waits (among rest) between other ⊎ (Chain waits (among rest) between first × Chain waits (among rest) first other)
          → Chain waits (among rest) pid other ⊎ (Chain waits (among rest) pid first × Chain waits (among rest) first other)
      by (zero, h, same) (inl direct) = inr (chain.wait pid first (ap (waits pid) same ∙ is), subst (λ n. Chain waits (among rest) n other) (sym same) direct)
      by (zero, h, same) (inr through) = inr (chain.wait pid first (ap (waits pid) same ∙ is), through.1)
      by (suc k, h, at) (inl direct) = inl (chain.goes_on pid between other is (k, omega arith, at) direct)
      by (suc k, h, at) (inr through) = inr (chain.goes_on pid between first is (k, omega arith, at) through.0, through.1)

  pub leads_so : (between : List ℕ) (pid other : ℕ) → Chain waits (among between) pid other → leads waits between pid other ≡ true
  leads_so [] pid other of = go of
    where
      go : {pid other : ℕ} → Chain waits (among []) pid other → waits pid other ≡ true
      go (chain.wait pid other is) = is
      go (chain.goes_on pid between other is one later) = absurd (let h : one.0 < 0 = one.1 in omega arith)
  leads_so (first ∷ rest) pid other of = elim (split first rest of) [
    | inl direct ↦ ap (λ b. b || (leads waits rest pid first && leads waits rest first other)) (leads_so rest pid other direct)
    | inr through ↦ or_true (leads waits rest pid other) (leads waits rest pid first && leads waits rest first other)
        (and_true (leads waits rest pid first) (leads waits rest first other) (leads_so rest pid first through.0) (leads_so rest first other through.1))
  ]

  -- who stands at the head of a chain waits
  heads : {Between : ℕ → Type 0} {pid other : ℕ} → Chain waits Between pid other → (next : ℕ) × (waits pid next ≡ true)
  heads (chain.wait pid other is) = (other, is)
  heads (chain.goes_on pid between other is one later) = (between, is)

  -- whoever waits is one of these, and so is who stands between
  within : (Between : ℕ → Type 0) → ((pid next : ℕ) → waits pid next ≡ true → Between pid) → {pid other : ℕ} → Chain waits anyone pid other → Chain waits Between pid other
  within Between each (chain.wait pid other is) = chain.wait pid other is
  within Between each (chain.goes_on pid between other is one later) = let next = heads later in chain.goes_on pid between other is (each between next.0 next.1) (within Between each later)

-- ---- circles

pub who_is_made : (n pid : ℕ) → 0 < pid → pid ≤ n → among (range_with_len 1 n) pid
who_is_made n zero h below = absurd (omega arith)
who_is_made n (suc i) h below = (i, subst (λ m. i < m) (sym (length-range_with_len 1 n)) (omega arith), get_or-range_with_len 1 n i (suc i) (omega arith) ∙ next)
  where
    next : 1 + i ≡ suc i
    next = omega arith

waiter_lives : (script : Script) (plain : Plain) (pid next : ℕ) → waits_for script plain pid next ≡ true → is_alive plain.table pid ≡ true
unfolding waits_for
waiter_lives script plain pid next e = let parts = both_true (is_alive plain.table pid) (is_stopped_by plain.files.locks pid next (wanted_by plain.files pid (call_of script plain pid))) e in parts.0

module _ (script : Script) (plain : Plain) (reached : IsReached script plain) where
  made : (pid next : ℕ) → waits_for script plain pid next ≡ true → among (range_with_len 1 (last_pid plain)) pid
  made pid next e = let there = alive_there plain.table pid (waiter_lives script plain pid next e) in let was = was_made plain.table pid there.0 there.1 in
      who_is_made (last_pid plain) pid was.0 (let placed : IsPlaced plain = (reached_keeps reached).0 in let as_many : length plain.table ≡ last_pid plain = placed.counted in
      let h : pid ≤ length plain.table = was.1 in omega arith)

  pub circle_chain : (pid : ℕ) → circles script plain pid ≡ true → Chain (waits_for script plain) anyone pid pid
  unfolding circles
  circle_chain pid e = weaker (among (range_with_len 1 (last_pid plain))) anyone (λ who one. tt) (chain_of (waits_for script plain) (range_with_len 1 (last_pid plain)) pid pid e)

  pub chain_circle : (pid : ℕ) → Chain (waits_for script plain) anyone pid pid → circles script plain pid ≡ true
  unfolding circles
  chain_circle pid of = leads_so (waits_for script plain) (range_with_len 1 (last_pid plain)) pid pid
      (within (waits_for script plain) (among (range_with_len 1 (last_pid plain))) made of)

-- ---- what who waits is answered

some_first : (locks : Locks) (pid number by : ℕ) (asked : Request) → stops locks pid number asked by ≡ true → is_none (first_of (filter (is_in_way pid number asked) locks)) ≡ false
some_first [] pid number by asked e = no e
some_first (lock ∷ locks) pid number by asked e = go (is_in_way pid number asked lock) e (some_first locks pid number by asked)
  where
    pick : (b : Bool) (other : Lock) → is_none (cond b (Some lock) (Some other)) ≡ false
    pick true other = refl
    pick false other = refl

    first : (o : Option Lock) → is_none (first_with lock o) ≡ false
    first None = refl
    first (Some other) = pick (comes_first lock other) other

    and_false : (a rest : Bool) → ((a && false) || rest) ≡ true → rest ≡ true
    and_false true rest f = f
    and_false false rest f = f

    go : (b : Bool) → ((lock.pid == by && b) || list_any (λ lock. lock.pid == by && is_in_way pid number asked lock) locks) ≡ true
        → (stops locks pid number asked by ≡ true → is_none (first_of (filter (is_in_way pid number asked) locks)) ≡ false)
        → is_none (first_of (cond b (lock ∷ filter (is_in_way pid number asked) locks) (filter (is_in_way pid number asked) locks))) ≡ false
    go true f rest = first (first_of (filter (is_in_way pid number asked) locks))
    go false f rest = rest (and_false (lock.pid == by) (list_any (λ lock. lock.pid == by && is_in_way pid number asked lock) locks) f)

module _ (script : Script) (plain : Plain) (pid : ℕ) where
  abbrev Stopped : Answer
  Stopped = cond (circles script plain pid) (failed script plain pid EDEADLK) Blocked

  stopped_at : (fd kind start size : ℤ) (other : ℕ) (r : Result ℕ Errno) → is_stopped_by plain.files.locks pid other (wanted_of (request_of kind start size) r) ≡ true
      → granted_or script plain pid (request_of kind start size) Stopped r ≡ Stopped
  stopped_at fd kind start size other (Err e) stopped = no stopped
  stopped_at fd kind start size other (Ok number) stopped =
      ap (λ b. cond b (granted script plain pid number (request_of kind start size)) Stopped) (some_first plain.files.locks pid number other (request_of kind start size) stopped)

  by_call : (which : Call) (other : ℕ) → is_stopped_by plain.files.locks pid other (wanted_by plain.files pid which) ≡ true → machine script plain pid which ≡ Stopped
  unfolding setlkw
  by_call (call.Setlkw fd kind start size) other stopped = go (argument_fault (call.Setlkw fd kind start size)) stopped
    where
      on : (o : Option Opened) → is_stopped_by plain.files.locks pid other (wanted_on plain.files (request_of kind start size) o) ≡ true
          → answer_on script plain pid (λ opened. granted_or script plain pid (request_of kind start size) Stopped (claimed plain.files opened (request_of kind start size).kind)) o ≡ Stopped
      on None is = no is
      on (Some opened) is = stopped_at fd kind start size other (claimed plain.files opened (request_of kind start size).kind) is

      go : (fault : Option Errno) → is_stopped_by plain.files.locks pid other (cond (is_none fault) (wanted_on plain.files (request_of kind start size) (opened_at plain.files pid fd)) None) ≡ true
          → unless_wrong script plain pid fault (setlkw script plain pid fd kind start size) ≡ Stopped
      go None is = on (opened_at plain.files pid fd) is
      go (Some e) is = no is
  by_call _ other stopped = no stopped

  -- who waits for another is refused where it would wait for itself, and else sleeps
  pub waits_so : (other : ℕ) → waits_for script plain pid other ≡ true → machine script plain pid (call_of script plain pid) ≡ Stopped
  unfolding waits_for
  waits_so other e = let parts = both_true (is_alive plain.table pid) (is_stopped_by plain.files.locks pid other (wanted_by plain.files pid (call_of script plain pid))) e in
      by_call (call_of script plain pid) other parts.1

  -- where a circle is nobody sleeps
  pub never_slept : (fd kind start size : ℤ) → circles script plain pid ≡ true → blocks (machine script plain pid (call.Setlkw fd kind start size)) ≡ false
  unfolding setlkw
  never_slept fd kind start size circle = go (argument_fault (call.Setlkw fd kind start size))
    where
      stopped : (b : Bool) → b ≡ true → blocks (cond b (failed script plain pid EDEADLK) Blocked) ≡ false
      stopped true is = refl
      stopped false is = no is

      clear : (b : Bool) (granted : Answer) → blocks granted ≡ false → blocks (cond b granted Stopped) ≡ false
      clear true granted fine = fine
      clear false granted fine = stopped (circles script plain pid) circle

      claims : (r : Result ℕ Errno) → blocks (granted_or script plain pid (request_of kind start size) Stopped r) ≡ false
      claims (Err e) = refl
      claims (Ok number) = clear (is_clear plain.files.locks pid number (request_of kind start size)) (granted script plain pid number (request_of kind start size)) refl

      on : (o : Option Opened) → blocks (answer_on script plain pid (λ opened. granted_or script plain pid (request_of kind start size) Stopped (claimed plain.files opened (request_of kind start size).kind)) o) ≡ false
      on None = refl
      on (Some opened) = claims (claimed plain.files opened (request_of kind start size).kind)

      go : (fault : Option Errno) → blocks (unless_wrong script plain pid fault (setlkw script plain pid fd kind start size)) ≡ false
      go None = on (opened_at plain.files pid fd)
      go (Some e) = refl

  -- a fault of what is asked for is never EDEADLK
  abbrev IsOther : Result ℕ Errno → Type 0
  IsOther (Ok number) = Unit {0}
  IsOther (Err e) = e ≢ EDEADLK

  other_claim : (opened : Opened) (asked : Request) → IsOther (claimed plain.files opened asked.kind)
  other_claim opened asked = go (file_of plain.files.tree opened.is.target)
    where
      may : (number : ℕ) (b : Bool) → IsOther (cond b (Ok number) (Err EBADF))
      may number true = tt
      may number false = λ e. cc

      go : (o : Option ℕ) → IsOther (claim_of opened.is.access asked.kind o)
      go None = λ e. cc
      go (Some number) = may number (may_hold opened.is.access asked.kind)

  other_fault : (right beyond : Bool) → option_or (invalid_unless right) (cond beyond (Some EOVERFLOW) None) ≡ Some EDEADLK → ⊥
  other_fault false beyond e = cc
  other_fault true true e = cc
  other_fault true false e = cc

  -- who is told EDEADLK stands in a circle
  pub told_in_a_circle : (fd kind start size : ℤ) (next : Plain) → machine script plain pid (call.Setlkw fd kind start size) ≡ Done (Fail EDEADLK) next → circles script plain pid ≡ true
  unfolding setlkw
  told_in_a_circle fd kind start size next told = go (argument_fault (call.Setlkw fd kind start size)) refl told
    where
      same_errno : (e : Errno) → failed script plain pid e ≡ Done (Fail EDEADLK) next → e ≡ EDEADLK
      same_errno e is = cc

      stopped : (b : Bool) → cond b (failed script plain pid EDEADLK) Blocked ≡ Done (Fail EDEADLK) next → b ≡ true
      stopped true is = refl
      stopped false is = cc

      clear : (number : ℕ) (b : Bool) → cond b (granted script plain pid number (request_of kind start size)) Stopped ≡ Done (Fail EDEADLK) next → circles script plain pid ≡ true
      clear number true is = cc
      clear number false is = stopped (circles script plain pid) is

      claims : (r : Result ℕ Errno) → IsOther r → granted_or script plain pid (request_of kind start size) Stopped r ≡ Done (Fail EDEADLK) next → circles script plain pid ≡ true
      claims (Err e) other is = absurd (other (same_errno e is))
      claims (Ok number) other is = clear number (is_clear plain.files.locks pid number (request_of kind start size)) is

      on : (o : Option Opened) → answer_on script plain pid (λ opened. granted_or script plain pid (request_of kind start size) Stopped (claimed plain.files opened (request_of kind start size).kind)) o
          ≡ Done (Fail EDEADLK) next → circles script plain pid ≡ true
      on None is = cc
      on (Some opened) is = claims (claimed plain.files opened (request_of kind start size).kind) (other_claim opened (request_of kind start size)) is

      go : (fault : Option Errno) → argument_fault (call.Setlkw fd kind start size) ≡ fault → unless_wrong script plain pid fault (setlkw script plain pid fd kind start size) ≡ Done (Fail EDEADLK) next
          → circles script plain pid ≡ true
      go None fine is = on (opened_at plain.files pid fd) is
      go (Some e) fault is = absurd (other_fault (is_within 0 2 kind && (is_from 0 start && is_from 0 size)) (nat_lt greatest_place (count_of start + (count_of size - 1)))
          (fault ∙ ap (λ errno. Some errno) (same_errno e is)))

-- who would sleep in a `setlkw` stands in no circle
pub sleeps_in_none : (script : Script) (plain : Plain) (pid : ℕ) (fd kind start size : ℤ) → IsReached script plain → call_of script plain pid ≡ call.Setlkw fd kind start size
    → would_block script plain pid ≡ true → Chain (waits_for script plain) anyone pid pid → ⊥
sleeps_in_none script plain pid fd kind start size reached is sleeps of =
    no (sym (ap (λ which. blocks (machine script plain pid which)) is ∙ never_slept script plain pid fd kind start size (chain_circle script plain reached pid of)) ∙ sleeps)
