use Rattle.std.proofs.Common.{Some, drop}
use Rattle.open_laws.specs.Described.{target_in}
use Rattle.open_laws.specs.Placed.{Numbers}
use Rattle.posix_defs.specs.Files.State.{Files}
use Rattle.proc_numbers.specs.Having.{HaveOpen}
use Rattle.call_run.specs.Touching.{MeetsNone}
use Rattle.call_run.proofs.touching.some_near.Given as goal

-- where none from this entry on meets it, none of all does
abbrev pub invariant-loop-entry : goal.invariant-loop-entry
invariant-loop-entry l =
    (numbers : Numbers) (files : Files) → HaveOpen numbers l.objects.heap l.objects.procs files
    → MeetsNone files l.who.pid (Some (target_in numbers l.target)) (drop l.entry-index l.entries) → MeetsNone files l.who.pid (Some (target_in numbers l.target)) l.entries
