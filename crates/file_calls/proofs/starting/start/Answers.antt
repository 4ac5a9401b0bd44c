use Rattle.std.proofs.Common.{◌∙◌, subst, sym}
use Rattle.memfs_ops.specs.FileTree.{TreeView}
use Rattle.store_objects.specs.Standing.{StandsFor}
use Rattle.store_objects.proofs.Paying.{uses_nothing, uses_then}
use Rattle.file_calls.specs.Starting.{forgotten_in, shed_in, started_in}
use Rattle.store_objects.proofs.CallingOpens.{alive_who_runs}
use Rattle.file_calls.proofs.Purses.{room_still}
use Rattle.file_calls.proofs.Shed.{caches_between}
use Rattle.store_objects.proofs.Callers.{placed_on}
use Rattle.file_calls.proofs.starting.start.Goals as goal

pub forget_memory-requires-clause-kept : goal.forget_memory-requires-clause-kept
forget_memory-requires-clause-kept c = (c.args.script.now, c.requires.stands.1.kept)

pub forget_memory-requires-clause-alive : goal.forget_memory-requires-clause-alive
forget_memory-requires-clause-alive c = alive_who_runs c.args.objects.now c.args.caller.now.place.pid c.args.caller.now.control c.requires.runs

pub shed-requires-clause-stands : goal.shed-requires-clause-stands
shed-requires-clause-stands c =
    let some = c.requires.stands in
    (forgotten_in some.0 c.args.caller.now.place.pid, c.forget_memory.ensures.forgotten c.args.script.now some.0 some.1, record { nodes = some.2.nodes; names = some.2.names; locks = some.2.locks })

pub shed-requires-clause-alive : goal.shed-requires-clause-alive
shed-requires-clause-alive c = alive_who_runs c.forget_memory.new.objects c.args.caller.now.place.pid c.args.caller.now.control (c.forget_memory.ensures.runs c.args.caller.now.control c.requires.runs)

pub shed-requires-clause-room : goal.shed-requires-clause-room
shed-requires-clause-room c = room_still c.args.objects.now.heap c.forget_memory.new.objects.heap c.forget_memory.ensures.takes c.requires.room

pub begin-requires-clause-valid : goal.begin-requires-clause-valid
begin-requires-clause-valid c = c.requires.stands.1.valid

pub begin-requires-clause-runs : goal.begin-requires-clause-runs
begin-requires-clause-runs c = c.shed.ensures.runs c.args.caller.now.control (c.forget_memory.ensures.runs c.args.caller.now.control c.requires.runs)

pub returns-clause-uses : goal.returns-clause-uses
returns-clause-uses c =
    let old = c.args.objects.now.heap in
    let first = c.forget_memory.new.objects.heap in
    let second = c.shed.new.objects.heap in
    uses_then old second c.begin.new.objects.heap _ (uses_then old first second _ (uses_nothing old first 0 _ c.forget_memory.ensures.takes) c.shed.ensures.uses)
    (uses_nothing second c.begin.new.objects.heap 0 _ c.begin.ensures.takes)

pub returns-clause-shed : goal.returns-clause-shed
returns-clause-shed c =
    caches_between c.args.objects.now c.forget_memory.new.objects c.shed.new.objects c.begin.new.objects c.forget_memory.ensures.takes c.forget_memory.ensures.tree c.shed.ensures.shed c.begin.ensures.takes c.begin.ensures.tree

pub returns-clause-starts : goal.returns-clause-starts
returns-clause-starts c = λ world stands sound.
    let script = c.args.script.now in
    let pid = c.args.caller.now.place.pid in
    let first = forgotten_in world pid in
    subst (λ (fs : TreeView). StandsFor script c.begin.new.objects (started_in script fs world pid c.args.program)) (sym c.begin.ensures.tree)
    (c.begin.ensures.begins (shed_in c.shed.new.objects.tree first pid)
    (c.shed.ensures.closed first (c.forget_memory.ensures.forgotten script world stands) (record { nodes = sound.nodes; names = sound.names; locks = sound.locks })))

pub shed-requires-clause-placed : goal.shed-requires-clause-placed
shed-requires-clause-placed c = placed_on c.args.objects.now c.forget_memory.new.objects c.args.caller.now.place c.forget_memory.ensures.procs c.requires.placed

pub begin-requires-clause-placed : goal.begin-requires-clause-placed
begin-requires-clause-placed c = placed_on c.args.objects.now c.shed.new.objects c.args.caller.now.place (c.shed.ensures.procs ∙ c.forget_memory.ensures.procs) c.requires.placed
