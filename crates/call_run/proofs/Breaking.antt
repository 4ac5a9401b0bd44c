-- A write to a queue that ends its caller, and one that doesn't.
use Rattle.std.proofs.Common.{◌≡◌, ℕ, ℤ, true, false, sym, subst}
use Rattle.kabi_types.specs.declared.calls.Call.TheVariants as call
use Rattle.kabi_types.specs.declared.scripts.Script.{Script}
use Rattle.posix_defs.proofs.SignalLemmas.{write_goes_on, write_is_ended}
use Rattle.posix_defs.specs.Answer.{Ended}
use Rattle.posix_defs.specs.Calls.Writing.{write, write_ends, write_ignoring}
use Rattle.posix_defs.specs.Ending.{die}
use Rattle.posix_defs.specs.Signals.{sigpipe}
use Rattle.posix_defs.specs.World.{World}
use Rattle.posix_defs.specs.declared.turner.Turned.{Turned}
use Rattle.store_objects.specs.declared.objects.Objects.{Objects}
use Rattle.store_objects.specs.Standing.{Performs, StandsFor, WorldAfter}
use Rattle.store_objects.specs.Walking.{Serves, WorldReached}

module _ (script : Script) (old new : Objects) (pid : ℕ) (fd addr n : ℤ) (done : ℕ) (told : Turned) where
  -- who goes on is answered as who ignores SIGPIPE
  pub performs_write : ((world : World) → StandsFor script old world → false ≡ write_ends world.plain pid fd addr n done)
      → Performs script old pid (call.Write fd addr n done) (λ plain. write_ignoring script plain pid fd addr n done) told new
      → Performs script old pid (call.Write fd addr n done) (λ plain. write script plain pid fd addr n done) told new
  performs_write goes does = λ world stands alive.
      subst (λ answer. WorldAfter script new world pid (call.Write fd addr n done) answer told)
      (sym (write_goes_on script world.plain pid fd addr n done (sym (goes world stands)))) (does world stands alive)

  -- and any other has ended
  pub serves_broken : ((world : World) → StandsFor script old world → true ≡ write_ends world.plain pid fd addr n done)
      → Serves script old pid (call.Write fd addr n done) (λ plain. Ended sigpipe (die plain pid sigpipe)) told new
      → Serves script old pid (call.Write fd addr n done) (λ plain. write script plain pid fd addr n done) told new
  serves_broken breaks does = λ world stands sound alive.
      subst (λ answer. WorldReached script new world pid (call.Write fd addr n done) answer told)
      (sym (write_is_ended script world.plain pid fd addr n done (sym (breaks world stands)))) (does world stands sound alive)
