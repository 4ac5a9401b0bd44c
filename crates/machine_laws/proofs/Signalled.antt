-- Whom a signal ends.
use Rattle.std.proofs.Common.{◌≡◌, ℕ, ◌&&◌, Bool, true, false, not, refl}
use Rattle.posix_defs.specs.Killing.{is_ended_by}
use Rattle.posix_defs.specs.Process.{Process, runs}
use Rattle.posix_defs.specs.Signals.{ignores_signal}

-- who is ended runs
pub ended_runs : (signal : ℕ) (process : Process) → is_ended_by signal process ≡ true → runs process.status ≡ true
ended_runs signal process ended = go (runs process.status) (not (ignores_signal process signal)) ended
  where
    go : (a b : Bool) → (a && b) ≡ true → a ≡ true
    go true b e = refl
    go false b e = cc
