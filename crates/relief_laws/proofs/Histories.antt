-- What a kill and an eviction lower in a history.
use Rattle.std.proofs.Common.{◌≡◌, ℕ, ◌+◌, ◌-◌, ◌<◌, ◌≤◌, true, ap, subst, sym, arith}
use Rattle.kabi_types.specs.declared.entries.Cached.{Cached}
use Rattle.kabi_types.specs.declared.entries.Cached.TheVariants.{Name, Block, Vnode}
use Rattle.kabi_types.specs.declared.scripts.Script.{Script}
use Rattle.posix_defs.specs.Ending.{die_in}
use Rattle.posix_defs.specs.History.{AreCovered, Fills, IsEvicted, IsKilled, Past, one_more}
use Rattle.posix_defs.specs.Killing.{sigkill}
use Rattle.posix_defs.specs.Process.{is_alive}
use Rattle.kern_laws.proofs.LivingVictim.{victim_lives}
use Rattle.relief_laws.specs.Measure.{left_to_evict, living}
use Rattle.relief_laws.proofs.Lowering.{dead_fewer}

pub kill_lowers : (script : Script) (past next : Past) (pid waiter need live : ℕ) → IsKilled script past pid waiter need live next
    → living next.plain.table < living past.plain.table
kill_lowers script past next pid waiter need live kills =
    let alive : is_alive past.plain.table pid ≡ true = (victim_lives script.policy past.plain past.account pid kills.victim).0 in
    let fewer : living (die_in past.plain.table pid sigkill) < living past.plain.table = dead_fewer past.plain.table pid sigkill alive in
    subst (λ after. living after.plain.table < living past.plain.table) (sym kills.leads) fewer

-- what is left of so many where so many went
rest_of : Fills → Fills → ℕ
rest_of filled evicted = (filled.names - evicted.names) + (filled.blocks - evicted.blocks) + (filled.vnodes - evicted.vnodes)

one_goes : (filled evicted : Fills) (what : Cached) → AreCovered (one_more evicted what) filled → rest_of filled (one_more evicted what) < rest_of filled evicted
unfolding rest_of
one_goes filled evicted Name covered = let within : evicted.names + 1 ≤ filled.names = covered.names in omega arith
one_goes filled evicted Block covered = let within : evicted.blocks + 1 ≤ filled.blocks = covered.blocks in omega arith
one_goes filled evicted Vnode covered = let within : evicted.vnodes + 1 ≤ filled.vnodes = covered.vnodes in omega arith

pub eviction_lowers : (script : Script) (past next : Past) (what : Cached) → IsEvicted script past what next
    → (living next.plain.table ≡ living past.plain.table) × (left_to_evict next < left_to_evict past)
unfolding rest_of
eviction_lowers script past next what evicts = (
  ap (λ after. living after.plain.table) evicts.leads,
  subst (λ after. left_to_evict after < left_to_evict past) (sym evicts.leads) (one_goes past.filled past.evicted what evicts.covered),
)
