use Rattle.posix_defs.specs.PathCalls as calls
use Rattle.memfs_ops.proofs.ChangeLemmas.{some_done}
use Rattle.stat_cost.proofs.world.make.Goals as goal

pub returns : goal.returns
returns c =
    let s = c.requires in
    let m = c.make_dir in
    let next = some_done m.new.heap m.new.self s.0 (calls.mkdir_path s.0 1 c.args.path.now) s.1 m.result (m.ensures.answer s.0 s.1 s.2) in
    (next.0, s.1, next.1, next.1.is_tree.root_directory)
