use Rattle.std.proofs.Common.{◌∙◌, sym}
use Rattle.store_objects.proofs.StoreFiles.{works_somewhere}
use Rattle.store_objects.proofs.Keeping.{listed_in}
use Rattle.store_objects.proofs.Paying.{uses_nothing, uses_paid}
use Rattle.path_calls.proofs.Walked.{kept_mid, looked, runs_mid}
use Rattle.store_objects.specs.Trees.{pins_in}
use Rattle.store_objects.proofs.CallingOpens.{alive_who_runs}
use Rattle.file_calls.proofs.Execs.{exec_fits, failed_in, found_of, room_behind, stands_then, started_from, uses_behind, walked_in}
use Rattle.file_calls.proofs.Programs.{are_programs, started_within}
use Rattle.file_calls.proofs.starting.exec.Goals as goal

pub program_for-found-requires-clause-listed : goal.program_for-found-requires-clause-listed
program_for-found-requires-clause-listed c = listed_in c.args.script.now c.args.objects.now c.requires.stands.1.kept

pub program_for-found-requires-clause-works : goal.program_for-found-requires-clause-works
program_for-found-requires-clause-works c =
    let some = c.requires.stands in
    works_somewhere c.args.script.now c.args.objects.now some.0 some.1 c.heap_is_well_formed.ensures some.2 c.args.caller.now.place.pid (alive_who_runs c.args.objects.now c.args.caller.now.place.pid c.args.caller.now.control c.requires.runs)

pub program_for-found-requires-clause-programs : goal.program_for-found-requires-clause-programs
program_for-found-requires-clause-programs c = are_programs c.args.script.now c.requires.stands.1.valid

-- ---- the program starts

pub start-requires-clause-stands : goal.start-requires-clause-stands
start-requires-clause-stands c =
    let some = c.requires.stands in
    let n = c.program_for-found in
    let runs = c.requires.runs in (
      looked c.args.script.now c.args.objects.now n.new.heap n.new.tree n.ensures.pays.only some.0,
      walked_in c.args.script.now c.args.objects.now n.new.heap n.new.tree c.args.purse.now n.new.purse n.ensures.pays c.args.caller.now.place.pid c.args.path.now runs.proc runs.found runs.up c.requires.right c.requires.needed
          c.heap_is_well_formed.ensures n.result n.ensures.value n.ensures.holds n.ensures.kept some.0 some.1 some.2,
      some.2,
    )

pub start-requires-clause-runs : goal.start-requires-clause-runs
start-requires-clause-runs c =
    let n = c.program_for-found in
    runs_mid c.args.script.now c.args.objects.now n.new.heap n.new.tree n.ensures.pays.only c.args.caller.now.place.pid c.args.caller.now.control c.requires.runs

pub start-requires-clause-room : goal.start-requires-clause-room
start-requires-clause-room c =
    let n = c.program_for-found in
    room_behind c.args.objects.now.heap n.new.heap c.args.purse.now n.new.purse _ _ n.ensures.pays.paid (exec_fits c.args.path.now c.args.purse.now c.requires.right c.requires.needed) c.requires.room

pub start-requires-clause-there : goal.start-requires-clause-there
start-requires-clause-there c =
    let n = c.program_for-found in
    let some = c.requires.stands in
    started_within some.0.plain.files.tree _ c.args.path.now c.args.script.now.programs c.in-Ok.program
    (sym c.in-Ok.is ∙ found_of c.args.script.now c.args.objects.now some.0 some.1 some.2 c.heap_is_well_formed.ensures c.args.caller.now.place.pid c.args.path.now n.result n.ensures.value)

pub returns-in-Ok-clause-uses : goal.returns-in-Ok-clause-uses
returns-in-Ok-clause-uses c =
    let n = c.program_for-found in
    uses_behind c.args.objects.now.heap n.new.heap c.start.new.objects.heap _ _
    (uses_paid c.args.objects.now.heap n.new.heap c.args.purse.now n.new.purse _ _ n.ensures.pays.paid (exec_fits c.args.path.now c.args.purse.now c.requires.right c.requires.needed))
    c.start.ensures.uses

pub returns-in-Ok-clause-does : goal.returns-in-Ok-clause-does
returns-in-Ok-clause-does c = λ world stands sound alive.
    let n = c.program_for-found in
    let runs = c.requires.runs in
    started_from c.args.script.now c.args.objects.now n.new.heap n.new.tree c.args.purse.now n.new.purse n.ensures.pays c.args.caller.now.place.pid c.args.path.now runs.proc runs.found runs.up c.requires.right c.requires.needed
    c.heap_is_well_formed.ensures n.result n.ensures.value n.ensures.holds n.ensures.kept world stands sound
    c.in-Ok.program c.start.new.objects c.start.result c.in-Ok.is c.start.ensures.told c.start.ensures.shed c.start.ensures.starts

-- ---- it doesn't

pub go_on-requires-clause-kept : goal.go_on-requires-clause-kept
go_on-requires-clause-kept c =
    let some = c.requires.stands in
    let n = c.program_for-found in
    let runs = c.requires.runs in
    kept_mid c.args.script.now c.args.objects.now n.new.heap n.new.tree n.ensures.pays.only (
      some.0.plain.files.tree,
      pins_in some.0.plain,
      stands_then c.args.script.now c.args.objects.now n.new.heap n.new.tree c.args.purse.now n.new.purse n.ensures.pays c.args.caller.now.place.pid c.args.path.now runs.proc runs.found runs.up c.requires.right c.requires.needed
          c.heap_is_well_formed.ensures n.result n.ensures.value n.ensures.holds n.ensures.kept some.0 some.1 some.2,
    )
    some.1.kept

pub go_on-requires-clause-runs : goal.go_on-requires-clause-runs
go_on-requires-clause-runs c =
    let n = c.program_for-found in
    runs_mid c.args.script.now c.args.objects.now n.new.heap n.new.tree n.ensures.pays.only c.args.caller.now.place.pid c.args.caller.now.control c.requires.runs

pub returns-in-Err-clause-uses : goal.returns-in-Err-clause-uses
returns-in-Err-clause-uses c =
    let n = c.program_for-found in
    uses_behind c.args.objects.now.heap n.new.heap c.go_on.new.objects.heap _ _
    (uses_paid c.args.objects.now.heap n.new.heap c.args.purse.now n.new.purse _ _ n.ensures.pays.paid (exec_fits c.args.path.now c.args.purse.now c.requires.right c.requires.needed))
    (uses_nothing n.new.heap c.go_on.new.objects.heap 0 _ c.go_on.ensures.takes)

pub returns-in-Err-clause-does : goal.returns-in-Err-clause-does
returns-in-Err-clause-does c = λ world stands sound alive.
    let n = c.program_for-found in
    let runs = c.requires.runs in
    failed_in c.args.script.now c.args.objects.now n.new.heap n.new.tree c.args.purse.now n.new.purse n.ensures.pays c.args.caller.now.place.pid c.args.path.now runs.proc runs.found runs.up c.requires.right c.requires.needed
    c.heap_is_well_formed.ensures n.result n.ensures.value n.ensures.holds n.ensures.kept world stands sound
    c.in-Err.errno c.go_on.new.objects c.go_on.result c.in-Err.is c.go_on.ensures.told c.go_on.ensures.goes
