use Rattle.std.proofs.Common.{◌≡◌, ◌∙◌, None, Some, ap, sym}
use Rattle.posix_defs.specs.Calls.OnFiles.{end_info}
use Rattle.proc_files.proofs.FifoTargets.{pipe_node, pipe_placed}
use Rattle.proc_files.proofs.telling.end_info.Goals as goal

pub stat_node-requires : goal.stat_node-requires
stat_node-requires c = c.requires.held.1 c.in-Some.node (pipe_node c.args.heap.now c.args.key c.pipe_fifo.result c.requires.held.0 c.pipe_fifo.ensures ∙ c.in-Some.is)

pub returns-in-Some-clause-value : goal.returns-in-Some-clause-value
returns-in-Some-clause-value c = λ numbers files pins are stands.
    ap (end_info files.tree) (pipe_placed numbers c.args.heap.now files are c.args.key c.pipe_fifo.result c.requires.held.0 c.pipe_fifo.ensures ∙ c.in-Some.is)
    ∙ sym (c.stat_node.ensures.value files.tree pins stands)

pub returns-in-Some-clause-stays : goal.returns-in-Some-clause-stays
returns-in-Some-clause-stays c = λ none. absurd (
    let both : Some c.in-Some.node ≡ None = sym (pipe_node c.args.heap.now c.args.key c.pipe_fifo.result c.requires.held.0 c.pipe_fifo.ensures ∙ c.in-Some.is) ∙ none in cc)

pub returns-in-None-clause-value : goal.returns-in-None-clause-value
returns-in-None-clause-value c = λ numbers files pins are stands.
    ap (end_info files.tree) (pipe_placed numbers c.args.heap.now files are c.args.key c.pipe_fifo.result c.requires.held.0 c.pipe_fifo.ensures ∙ c.in-None.is)
    ∙ sym c.without_node.ensures
