use Rattle.std.proofs.Common.{◌≡◌, Some, Ok, rules, sym, subst}
use Rattle.proc_files.specs.declared.opening.Opened.TheVariants as opened
use Rattle.proc_table.specs.Opening.{half_in}
use Rattle.store_objects.specs.Standing.{StandsFor, waiting_in}
use Rattle.store_objects.proofs.Callers.{placed_on}
use Rattle.store_objects.proofs.Sleeping.{kept_sleeping, runs_sleeping, stands_sleeping}
use Rattle.file_calls.specs.Opening.{came_in}
use Rattle.file_calls.proofs.opening.go_on_opened.Goals as goal

-- ---- it waits

pub wait_in-requires-clause-stored : goal.wait_in-requires-clause-stored
wait_in-requires-clause-stored c = c.requires.kept.holds.stored

pub do_part-requires-clause-kept : goal.do_part-requires-clause-kept
do_part-requires-clause-kept c =
    (c.args.script.now, kept_sleeping c.args.script.now c.args.objects.now c.wait_in.new.self c.args.caller.now.place.pid _ c.requires.kept c.wait_in.ensures)

pub do_part-requires-clause-runs : goal.do_part-requires-clause-runs
do_part-requires-clause-runs c =
    runs_sleeping c.args.script.now c.args.objects.now c.wait_in.new.self c.args.caller.now.place.pid _ c.requires.kept c.wait_in.ensures c.args.caller.now.control c.requires.runs

pub do_part-requires-clause-placed : goal.do_part-requires-clause-placed
do_part-requires-clause-placed c = placed_on c.args.objects.now c.wait_in.new.self c.args.caller.now.place c.wait_in.ensures.same c.requires.placed

pub returns-in-Ok-Waits-clause-kept : goal.returns-in-Ok-Waits-clause-kept
returns-in-Ok-Waits-clause-kept c =
    c.do_part.ensures.kept c.args.script.now
    (kept_sleeping c.args.script.now c.args.objects.now c.wait_in.new.self c.args.caller.now.place.pid _ c.requires.kept c.wait_in.ensures)

pub returns-in-Ok-Waits-clause-goes : goal.returns-in-Ok-Waits-clause-goes
returns-in-Ok-Waits-clause-goes c = λ world stands.
    let seen : c.args.came ≡ Ok (opened.Waits c.in-Ok-Waits.opening) = search rules in
    subst (λ came. StandsFor c.args.script.now c.do_part.new.objects (came_in c.args.script.now world c.args.caller.now.place.pid came)) (sym seen)
    (c.do_part.ensures.goes c.args.script.now (waiting_in world c.args.caller.now.place.pid (Some (half_in c.in-Ok-Waits.opening)))
    (stands_sleeping c.args.script.now c.args.objects.now c.wait_in.new.self c.args.caller.now.place.pid _ c.requires.kept c.wait_in.ensures world stands))
