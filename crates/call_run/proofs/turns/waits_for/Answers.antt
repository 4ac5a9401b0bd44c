use Rattle.std.proofs.Common.{◌∙◌, ap, option_copied, sym}
use Rattle.prog_ctl.specs.Waits.{wait_of}
use Rattle.proc_table.specs.Procs.{proc_of}
use Rattle.store_objects.specs.Objects.{procs_of}
use Rattle.store_objects.proofs.RunningProcs.{alive_runs}
use Rattle.store_objects.proofs.NextCalls.{next_is, up_at_call}
use Rattle.call_run.proofs.Turning.{missing}
use Rattle.call_run.proofs.turns.waits_for.Goals as goal

pub proc-requires : goal.proc-requires
proc-requires c = let alive = c.requires in alive.1.kept.holds.stored

pub unreachable-requires : goal.unreachable-requires
unreachable-requires c =
    let alive = c.requires in
    let up = alive_runs c.args.script.now c.args.objects.now alive.0.plain c.args.pid alive.1.processes alive.2 in
    missing (proc_of (procs_of c.args.objects.now) c.args.pid) up.proc (sym c.proc.ensures ∙ ap option_copied c.in_default.is) up.there

pub wait_here-requires : goal.wait_here-requires
wait_here-requires c =
    let alive = c.requires in
    let at = up_at_call c.args.script.now c.args.objects.now alive.0 c.args.pid c.in-Some.proc.now alive.1 alive.2 (sym c.proc.ensures ∙ ap option_copied c.in-Some.is) in
    record { stands = at.stands; rests = at.rests }

pub returns : goal.returns
returns c = λ world stands alive.
    c.wait_here.ensures
    ∙ ap wait_of (next_is c.args.script.now c.args.objects.now world c.args.pid c.in-Some.proc.now stands alive (sym c.proc.ensures ∙ ap option_copied c.in-Some.is))
