-- The worked example of two processes is a legal history.
use Rattle.std.proofs.Common.{◌≡◌, ◌≤◌, [], ◌∷◌, None, refl, arith}
use Rattle.posix_defs.specs.Needs.{bound}
use Rattle.posix_defs.specs.History.{Past, IsRun, boots, goes_on}
use Rattle.kern_laws.specs.TwoProcesses.{two_entries, two_script}

-- the bounds of a fork, and of calls that cost nothing, are within the room
fork_fits : 3328 ≤ 62720
fork_fits = omega arith

always_fits : 0 ≤ 62720
always_fits = omega arith

pub two_run : (past : Past) × IsRun two_script two_entries past × (past.plain.table ≡ None ∷ None ∷ [])
unfolding bound
two_run = (
  _,
  goes_on _ _ _ _ (goes_on _ _ _ _ (goes_on _ _ _ _ (goes_on _ _ _ _ (goes_on [] _ _ _ boots
      (record { may_run = record { alive = refl; of_kind = refl; fits_ever = fork_fits }; plain = _; answers = refl; leads = refl }))
      (record { may_run = record { alive = refl; of_kind = refl; fits_ever = always_fits }; up = refl; blocked = refl; leads = refl }))
      (record { may_run = record { alive = refl; of_kind = refl; fits_ever = always_fits }; plain = _; answers = refl; leads = refl }))
      (record { may_run = record { alive = refl; of_kind = refl; fits_ever = always_fits }; plain = _; answers = refl; leads = refl }))
      (record { may_run = record { alive = refl; of_kind = refl; fits_ever = always_fits }; plain = _; answers = refl; leads = refl }),
  refl,
)
