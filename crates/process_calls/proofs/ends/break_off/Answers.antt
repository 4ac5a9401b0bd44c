use Rattle.std.proofs.Common.{refl}
use Rattle.kabi_types.specs.declared.calls.Call.TheVariants as call
use Rattle.posix_defs.specs.Signals.{sigpipe}
use Rattle.posix_defs.specs.declared.turner.Turned.TheVariants as turned
use Rattle.process_calls.proofs.Striking.{serves_ended}
use Rattle.process_calls.proofs.ends.break_off.Goals as goal

pub returns-clause-does : goal.returns-clause-does
returns-clause-does c = λ script fd addr n done.
    serves_ended script c.args.objects.now c.end.new.objects c.args.place.pid sigpipe (call.Write fd addr n done) (turned.Ended sigpipe) (λ plain. refl) refl (c.end.ensures.dies script) refl
