use Rattle.std.proofs.Common.{ap, subst, sym, ◌∙◌}
use Rattle.kheap_slabs.specs.declared.objects.Target.TheVariants as target
use Rattle.open_laws.specs.Described.{node_in}
use Rattle.open_laws.specs.Polled.{IsTargetIn}
use Rattle.open_laws.proofs.RelinkedLemmas.{node_stands}
use Rattle.path_calls.proofs.held.node_of.Goals as goal

pub pipe_fifo-requires : goal.pipe_fifo-requires
pipe_fifo-requires c = subst (IsTargetIn c.args.heap.now) c.in-Pipe.is c.requires

pub returns-in-Pipe : goal.returns-in-Pipe
returns-in-Pipe c =
    let at = subst (IsTargetIn c.args.heap.now) c.in-Pipe.is c.requires in
    c.pipe_fifo.ensures at.0 at.1 at.2 ∙ sym (node_stands c.args.heap.now c.in-Pipe.key at.0 at.1 at.2) ∙ ap (node_in c.args.heap.now.pipes) (sym c.in-Pipe.is)
