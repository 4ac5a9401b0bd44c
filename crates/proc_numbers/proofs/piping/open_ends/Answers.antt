use Rattle.kheap_laws.proofs.PaidLemmas.{IsPaid-trans}
use Rattle.std.proofs.Common.{ap, ◌∙◌}
use Rattle.kheap_slabs.specs.Heap.{Heap}
use Rattle.pipe_ends.proofs.LinkLemmas.{links_same, links_then}
use Rattle.proc_numbers.proofs.PipeSteps.{pipe_opens, spent_so}
use Rattle.proc_numbers.proofs.piping.open_ends.Goals as goal

pub returns-clause-opens : goal.returns-clause-opens
returns-clause-opens c =
    pipe_opens c.args.heap.now c.pipe_make-pipe.new.heap c.describe-reading.new.heap c.describe-writing.new.heap c.pipe_make-pipe.result c.describe-reading.result c.describe-writing.result
    c.pipe_make-pipe.ensures.vacant c.pipe_make-pipe.ensures.stands c.pipe_make-pipe.ensures.others c.pipe_make-pipe.ensures.chunks c.pipe_make-pipe.ensures.owned
    c.describe-reading.ensures.vacant c.describe-reading.ensures.within c.describe-reading.ensures.kept
    c.describe-writing.ensures.vacant c.describe-writing.ensures.within c.describe-writing.ensures.kept

pub returns-clause-paid : goal.returns-clause-paid
returns-clause-paid c =
    IsPaid-trans c.args.heap.now c.args.purse.now c.describe-reading.new.heap c.describe-reading.new.purse c.describe-writing.new.heap c.describe-writing.new.purse
    (IsPaid-trans c.args.heap.now c.args.purse.now c.pipe_make-pipe.new.heap c.pipe_make-pipe.new.purse c.describe-reading.new.heap c.describe-reading.new.purse
    c.pipe_make-pipe.ensures.paid c.describe-reading.ensures.paid)
    c.describe-writing.ensures.paid

pub returns-clause-spent : goal.returns-clause-spent
returns-clause-spent c =
    spent_so c.args.purse.now c.pipe_make-pipe.new.purse c.describe-reading.new.purse c.describe-writing.new.purse
    c.pipe_make-pipe.ensures.spent c.describe-reading.ensures.spent c.describe-writing.ensures.spent

pub returns-clause-links : goal.returns-clause-links
returns-clause-links c =
    links_then c.args.heap.now c.pipe_make-pipe.new.heap c.describe-writing.new.heap c.pipe_make-pipe.ensures.links
    (links_same c.pipe_make-pipe.new.heap c.describe-writing.new.heap (ap (λ (h : Heap). h.pipes) c.describe-writing.ensures.kept ∙ ap (λ (h : Heap). h.pipes) c.describe-reading.ensures.kept))
