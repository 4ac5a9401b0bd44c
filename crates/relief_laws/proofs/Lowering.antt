-- What an eviction and a kill lower.
use Rattle.std.proofs.Common.{◌≡◌, ℕ, zero, suc, ◌+◌, ◌<◌, ◌≤◌, inl, inr, ◌==◌, not, Bool, true, false, cond, List, [], ◌∷◌, map, length, Option, None, Some, slice_get, slice_set, unwrap_or, refl, ap, sym, ◌∙◌, subst, arith, length-append}
use Rattle.std.specs.List.{count_by}
use Rattle.std.specs.Option.{option_map}
use Rattle.std.proofs.lemmas.Option.{slice_get-map}
use Rattle.kabi_types.specs.declared.entries.Cached.{Cached}
use Rattle.kabi_types.specs.declared.entries.Cached.TheVariants.{Name, Block, Vnode}
use Rattle.kabi_types.specs.declared.entries.Noted.{Noted}
use Rattle.kabi_types.specs.declared.scripts.Script.{Script}
use Rattle.posix_defs.specs.CoreEvent.{EvictsOne, KillsOne}
use Rattle.posix_defs.specs.CoreState.{CoreState, is_admitted}
use Rattle.posix_defs.specs.Ending.{die_in, ended_as, leaves, left_behind, left_child}
use Rattle.posix_defs.specs.Killing.{sigkill}
use Rattle.posix_defs.specs.Plain.{Plain}
use Rattle.posix_defs.specs.Process.{Alive, Ended, Process, Status, Table, is_alive, is_alive_in, process_at}
use Rattle.posix_defs.specs.Relief.{LosesFrom, LosesOne}
use Rattle.posix_defs.specs.World.{Kept, is_in, pinned_nodes}
use Rattle.kern_laws.proofs.LivingVictim.{victim_lives}
use Rattle.relief_laws.specs.Measure.{ComesToAnEnd, IsLess, evictable, living, measure_of, unless_relieved}
use Rattle.relief_laws.proofs.Counting.{count_loses, count_map, count_set}

-- ---- an eviction

one_fewer : {X : Type 0} (old : List X) (gone : X) (new : List X) → LosesOne old gone new → length new + 1 ≡ length old
one_fewer old gone new loses =
    let was : length old ≡ length loses.front + length (gone ∷ loses.back) = ap length loses.was ∙ length-append loses.front (gone ∷ loses.back) in
    let is : length new ≡ length loses.front + length loses.back = ap length loses.is ∙ length-append loses.front loses.back in
    omega arith

fewer_kept : (plain : Plain) (old new : Kept) (what : Cached) → LosesFrom plain old what new → evictable plain new + 1 ≡ evictable plain old
fewer_kept plain old new Name loses =
    let names : length new.names + 1 ≡ length old.names = one_fewer old.names loses.0 new.names loses.1 in
    let rest : evictable plain new ≡ evictable plain (record old { names = new.names }) = ap (evictable plain) loses.2 in
    omega arith
fewer_kept plain old new Block loses =
    let blocks : length new.blocks + 1 ≡ length old.blocks = one_fewer old.blocks loses.0 new.blocks loses.1 in
    let rest : evictable plain new ≡ evictable plain (record old { blocks = new.blocks }) = ap (evictable plain) loses.2 in
    omega arith
fewer_kept plain old new Vnode loses =
    let free : not (is_in loses.0 (pinned_nodes plain)) ≡ true = ap not loses.1 in
    let vnodes : count_by (λ node. not (is_in node (pinned_nodes plain))) new.vnodes + 1 ≡ count_by (λ node. not (is_in node (pinned_nodes plain))) old.vnodes =
    count_loses (λ node. not (is_in node (pinned_nodes plain))) old.vnodes loses.0 new.vnodes loses.2 free in
    let rest : evictable plain new ≡ evictable plain (record old { vnodes = new.vnodes }) = ap (evictable plain) loses.3 in
    omega arith

-- an eviction leaves one object fewer that could be evicted, and as many alive
pub evicted_fewer : (script : Script) (old new : CoreState) (what : Cached) (noted : Noted) → EvictsOne script old what noted new
    → evictable new.world.plain new.world.kept + 1 ≡ evictable old.world.plain old.world.kept
evicted_fewer script old new what noted evicts =
    let same : evictable new.world.plain new.world.kept ≡ evictable old.world.plain new.world.kept = ap (λ plain. evictable plain new.world.kept) evicts.evicts.plain in
    let fewer : evictable old.world.plain new.world.kept + 1 ≡ evictable old.world.plain old.world.kept =
    fewer_kept old.world.plain old.world.kept new.world.kept what evicts.evicts.kept in
    omega arith

pub evicted_lives : (script : Script) (old new : CoreState) (what : Cached) (noted : Noted) → EvictsOne script old what noted new
    → living new.world.plain.table ≡ living old.world.plain.table
evicted_lives script old new what noted evicts = ap (λ plain. living plain.table) evicts.evicts.plain

pub evicted_less : (script : Script) (old new : CoreState) (what : Cached) (noted : Noted) → EvictsOne script old what noted new → IsLess (measure_of new) (measure_of old)
evicted_less script old new what noted evicts =
    inr (
      evicted_lives script old new what noted evicts,
      inr (
        ap (count_by (λ task. is_admitted task.phase)) evicts.tasks,
        (let fewer : evictable new.world.plain new.world.kept + 1 ≡ evictable old.world.plain old.world.kept = evicted_fewer script old new what noted evicts in omega arith),
      ),
    )

-- ---- a kill

-- who is left behind is as alive as before
alive_behind : (pid : ℕ) (there : Option Process) → is_alive_in (left_behind pid there) ≡ is_alive_in there
alive_behind pid None = refl
alive_behind pid (Some process) = go (process.parent == pid) process.status refl
  where
    go : (b : Bool) (status : Status) → process.status ≡ status
        → is_alive_in (cond b (left_child process.status process) (Some process)) ≡ is_alive_in (Some process)
    go false status is = refl
    go true Alive is = subst (λ status. is_alive_in (left_child status process) ≡ is_alive_in (Some process)) (sym is) refl
    go true (Ended n) is = subst (λ status. is_alive_in (left_child status process) ≡ is_alive_in (Some process)) (sym is) (sym (ap (λ status. is_alive_in (Some (record process { status = status }))) is))

ended_is_over : (status : ℕ) (there : Option Process) → is_alive_in (ended_as status there) ≡ false
ended_is_over status None = refl
ended_is_over status (Some process) = refl

none_alive : (table : Table) → living (map (λ _. None) table) ≡ 0
none_alive [] = refl
none_alive (there ∷ table) = none_alive table

-- who was alive is counted
some_alive : (table : Table) (pid : ℕ) → is_alive table pid ≡ true → 0 < living table
some_alive table zero alive = cc
some_alive table (suc i) alive =
    let fewer : living (slice_set table i None) + 1 ≡ living table = count_set is_alive_in table i None refl alive refl in
    omega arith

-- the process of a pid stays as alive where all are left behind
alive_still : (table : Table) (pid i : ℕ) → is_alive_in (unwrap_or (slice_get (map (left_behind pid) table) i) None) ≡ is_alive_in (unwrap_or (slice_get table i) None)
alive_still table pid i = ap (λ found. is_alive_in (unwrap_or found None)) (slice_get-map (left_behind pid) table i) ∙ go (slice_get table i)
  where
    go : (found : Option (Option Process)) → is_alive_in (unwrap_or (option_map (left_behind pid) found) None) ≡ is_alive_in (unwrap_or found None)
    go None = refl
    go (Some there) = alive_behind pid there

left_fewer : (table : Table) (pid status : ℕ) → is_alive table pid ≡ true → living (leaves table pid status) + 1 ≡ living table
left_fewer table zero status alive = cc
left_fewer table (suc i) status alive =
    let fewer : living (slice_set (map (left_behind (suc i)) table) i (ended_as status (process_at table (suc i)))) + 1 ≡ living (map (left_behind (suc i)) table) =
    count_set is_alive_in (map (left_behind (suc i)) table) i (ended_as status (process_at table (suc i))) refl (alive_still table (suc i) i ∙ alive) (ended_is_over status (process_at table (suc i))) in
    let same : living (map (left_behind (suc i)) table) ≡ living table = count_map is_alive_in (left_behind (suc i)) (alive_behind (suc i)) table in
    omega arith

pub dead_fewer : (table : Table) (pid status : ℕ) → is_alive table pid ≡ true → living (die_in table pid status) < living table
dead_fewer table zero status alive = cc
dead_fewer table (suc zero) status alive =
    let none : living (map (λ _. None) table) ≡ 0 = none_alive table in
    let some : 0 < living table = some_alive table 1 alive in
    omega arith
dead_fewer table (suc (suc i)) status alive =
    let fewer : living (leaves table (suc (suc i)) status) + 1 ≡ living table = left_fewer table (suc (suc i)) status alive in
    omega arith

-- a kill leaves fewer alive
pub killed_fewer : (script : Script) (old new : CoreState) (pid : ℕ) (noted : Noted) → KillsOne script old pid noted new
    → living new.world.plain.table < living old.world.plain.table
killed_fewer script old new pid noted kills =
    let alive : is_alive old.world.plain.table pid ≡ true =
    (victim_lives script.policy old.world.plain old.world.account pid kills.enabled.victim).0 in
    let fewer : living (die_in old.world.plain.table pid sigkill) < living old.world.plain.table = dead_fewer old.world.plain.table pid sigkill alive in
    subst (λ plain. living plain.table < living old.world.plain.table) (sym kills.kills.plain) fewer

pub killed_less : (script : Script) (old new : CoreState) (pid : ℕ) (noted : Noted) → KillsOne script old pid noted new → IsLess (measure_of new) (measure_of old)
killed_less script old new pid noted kills = inl (killed_fewer script old new pid noted kills)

-- ---- chains of them

-- with so many alive at most, and so many objects that could be evicted at most
ends_with : (script : Script) (alive : ℕ) → ((s : CoreState) → living s.world.plain.table < alive → ComesToAnEnd script s)
    → (most : ℕ) (s : CoreState) → living s.world.plain.table ≤ alive → evictable s.world.plain s.world.kept ≤ most → ComesToAnEnd script s
ends_with script alive fewer zero s few none = unless_relieved s (λ new relieved. elim relieved [
  | inl evicts ↦ absurd (let less : evictable new.world.plain new.world.kept + 1 ≡ evictable s.world.plain s.world.kept = evicted_fewer script s new evicts.0 evicts.1 evicts.2 in omega arith)
  | inr kills ↦ fewer new (let less : living new.world.plain.table < living s.world.plain.table = killed_fewer script s new kills.0 kills.1 kills.2 in omega arith)
])
ends_with script alive fewer (suc most) s few some = unless_relieved s (λ new relieved. elim relieved [
  | inl evicts ↦ ends_with script alive fewer most new
      (let same : living new.world.plain.table ≡ living s.world.plain.table = evicted_lives script s new evicts.0 evicts.1 evicts.2 in omega arith)
      (let less : evictable new.world.plain new.world.kept + 1 ≡ evictable s.world.plain s.world.kept = evicted_fewer script s new evicts.0 evicts.1 evicts.2 in omega arith)
  | inr kills ↦ fewer new (let less : living new.world.plain.table < living s.world.plain.table = killed_fewer script s new kills.0 kills.1 kills.2 in omega arith)
])

ends_below : (script : Script) (alive : ℕ) (s : CoreState) → living s.world.plain.table < alive → ComesToAnEnd script s
ends_below script zero s few = absurd (omega arith)
ends_below script (suc alive) s few =
    ends_with script alive (ends_below script alive) (evictable s.world.plain s.world.kept) s (omega arith) (omega arith)

pub comes_to_an_end : (script : Script) (s : CoreState) → ComesToAnEnd script s
comes_to_an_end script s = ends_below script (suc (living s.world.plain.table)) s (omega arith)
