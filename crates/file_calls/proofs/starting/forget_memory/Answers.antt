use Rattle.std.proofs.Common.{refl}
use Rattle.file_calls.proofs.Forgotten.{kept_forgotten, runs_forgotten, stands_forgotten}
use Rattle.file_calls.proofs.starting.forget_memory.Goals as goal

pub clear_memory-requires-clause-holds : goal.clear_memory-requires-clause-holds
clear_memory-requires-clause-holds c = c.requires.kept.1.holds

pub returns-clause-kept : goal.returns-clause-kept
returns-clause-kept c = λ script kept.
    kept_forgotten script c.args.objects.now (record { heap = c.clear_memory.new.heap; procs = c.clear_memory.new.self; tree = c.args.objects.now.tree; names = c.args.objects.now.names; fifos = c.args.objects.now.fifos; locks = c.args.objects.now.locks }) c.args.pid
    c.clear_memory.ensures.same refl refl refl refl c.clear_memory.ensures.cleared c.clear_memory.ensures.moves kept

pub returns-clause-runs : goal.returns-clause-runs
returns-clause-runs c = λ control runs.
    runs_forgotten c.requires.kept.0 c.args.objects.now (record { heap = c.clear_memory.new.heap; procs = c.clear_memory.new.self; tree = c.args.objects.now.tree; names = c.args.objects.now.names; fifos = c.args.objects.now.fifos; locks = c.args.objects.now.locks }) c.args.pid
    c.clear_memory.ensures.same refl refl refl refl c.clear_memory.ensures.cleared c.clear_memory.ensures.moves control runs

pub returns-clause-forgotten : goal.returns-clause-forgotten
returns-clause-forgotten c = λ script world stands.
    stands_forgotten script c.args.objects.now (record { heap = c.clear_memory.new.heap; procs = c.clear_memory.new.self; tree = c.args.objects.now.tree; names = c.args.objects.now.names; fifos = c.args.objects.now.fifos; locks = c.args.objects.now.locks }) c.args.pid
    c.clear_memory.ensures.same refl refl refl refl c.clear_memory.ensures.cleared c.clear_memory.ensures.moves world stands
    (c.clear_memory.ensures.table world.plain.table stands.processes.table) (c.clear_memory.ensures.account world.account.frames stands.memory)
