use Rattle.std.proofs.Common.{◌≡◌, ◌∙◌, Bool, true, false, ap, sym, refl, not, option_copied}
use Rattle.store_objects.specs.Objects.{procs_of}
use Rattle.store_objects.proofs.RunningProcs.{running_as, running_none}
use Rattle.store_objects.proofs.objects.Objects.runs.Goals as goal

turned : (a b : Bool) → b ≡ not a → a ≡ not b
turned true b e = sym (ap not e)
turned false b e = sym (ap not e)

pub returns-in-Some : goal.returns-in-Some
returns-in-Some c = turned c.is_none.result _ c.is_none.ensures ∙ sym (running_as (procs_of c.args.self.now) c.args.pid c.in-Some.proc.now _ (sym c.proc.ensures ∙ ap option_copied c.in-Some.is) refl)

pub returns-in-None : goal.returns-in-None
returns-in-None c = sym (running_none (procs_of c.args.self.now) c.args.pid (sym c.proc.ensures ∙ ap option_copied c.in-None.is))
