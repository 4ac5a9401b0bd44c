use Rattle.store_objects.specs.Objects.{procs_of}
use Rattle.call_run.specs.Weights.{weights_in}
use Rattle.call_run.proofs.Weighing.{AreWeighed}
use Rattle.call_run.proofs.victims.weights_of.Given as goal

abbrev pub invariant-loop-place : goal.invariant-loop-place
invariant-loop-place l = AreWeighed l.objects.heap (weights_in l.objects.heap (procs_of l.objects)) l.place-items l.place-index l.weights.items
