use Rattle.std.proofs.Common.{◌≡◌, refl, subst, w64}
use Rattle.std.proofs.lemmas.Int.{to_z-of_z}
use Rattle.kabi_types.specs.declared.calls.Call.TheVariants as call
use Rattle.posix_defs.specs.Answer.{Ended}
use Rattle.posix_defs.specs.Ending.{die, exit_status}
use Rattle.posix_defs.specs.declared.turner.Turned.TheVariants as turned
use Rattle.store_objects.specs.Walking.{Serves}
use Rattle.process_calls.proofs.Striking.{serves_ended}
use Rattle.process_calls.proofs.ends.exit.Goals as goal

pub returns-clause-does : goal.returns-clause-does
returns-clause-does c = λ script.
    let old = c.args.objects.now in
    let status : c.exit_status-status.result ≡ exit_status c.args.status =
    subst (λ z. c.exit_status-status.result ≡ exit_status z) (to_z-of_z w64 c.args.status c.ranges.status) c.exit_status-status.ensures in
    subst (λ n. Serves script old c.args.place.pid (call.Exit c.args.status) (λ plain. Ended n (die plain c.args.place.pid n)) (turned.Ended c.exit_status-status.result) c.end.new.objects) status
    (serves_ended script old c.end.new.objects c.args.place.pid c.exit_status-status.result (call.Exit c.args.status) (turned.Ended c.exit_status-status.result) (λ plain. refl) refl (c.end.ensures.dies script) refl)
