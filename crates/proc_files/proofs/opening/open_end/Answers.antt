use Rattle.std.proofs.Common.{◌<◌, ◌∙◌, [], None, Some, ap, cond, is_some, not, subst, sym, w64}
use Rattle.std.proofs.lemmas.Int.{to_z-of_z}
use Rattle.fifo_nodes.proofs.ChainLemmas.{chain_kept}
use Rattle.fifo_nodes.specs.Chain.{OpensEnd}
use Rattle.kheap_laws.proofs.PaidLemmas.{IsPaid-trans}
use Rattle.kheap_slabs.specs.Heap.{Heap}
use Rattle.kheap_slabs.specs.Purse.{Purse}
use Rattle.kheap_slabs.specs.declared.objects.Target.TheVariants as target
use Rattle.posix_defs.specs.Calls.OnFiles.{description_on, fifo_at, fifo_pipe, fifo_there, fifo_waits, with_fifo}
use Rattle.posix_defs.specs.Files.Descriptions.{OnPipe, access_of, has_flag, may_write, o_cloexec}
use Rattle.posix_defs.specs.Files.State.{opened_as}
use Rattle.posix_defs.specs.Pipe.{opens_of, with_end}
use Rattle.proc_numbers.proofs.Fronts.{queues_then}
use Rattle.proc_numbers.proofs.NumberCloses.{listed_on}
use Rattle.proc_numbers.specs.Having.{HaveOpen}
use Rattle.proc_numbers.specs.Naming.{named_at}
use Rattle.proc_files.specs.Opening.{HaveAnew, HaveWanting, WantsDesc}
use Rattle.proc_files.proofs.Changing.{holding_of, pipes_before}
use Rattle.proc_files.proofs.EndMade.{end_has, ends_more, has_end, keeps_then, pipe_fills, queues_more, there_before, wants_end}
use Rattle.proc_files.proofs.FifoFaults.{no_fault}
use Rattle.proc_files.proofs.FifoFound.{held_here, is_found, pipe_is}
use Rattle.proc_files.proofs.FifoOpens.{came_over, came_waits}
use Rattle.proc_files.proofs.opening.open_end.Goals as goal

-- ---- the FIFO has an end more

pub open_end-pipe-requires-clause-owned : goal.open_end-pipe-requires-clause-owned
open_end-pipe-requires-clause-owned c = c.requires.owners.objects

pub open_end-pipe-requires-clause-stand : goal.open_end-pipe-requires-clause-stand
open_end-pipe-requires-clause-stand c = λ key fifo. c.requires.owners.held.stand key (ap is_some (held_here c.args.heap.now c.args.node key fifo).1)

pub open_end-pipe-requires-clause-few : goal.open_end-pipe-requires-clause-few
open_end-pipe-requires-clause-few c = λ key pipe at fifo stands.
    let right = c.requires.right in
    let flags = to_z-of_z w64 c.args.flags c.ranges.flags in
    let writing = c.is_to_write.ensures ∙ ap (λ z. may_write (access_of z)) flags in
    let same = pipe_is right.0 c.args.heap.now right.1 c.args.node c.requires.node right.2.opened.piped c.args.fifos.now c.requires.chain key pipe at fifo stands in
    let few = (no_fault (fifo_pipe right.1 c.args.node) c.args.flags right.3).1 in
    subst (λ b. opens_of pipe b < 4294967295) (sym writing) (subst (λ p. opens_of p (may_write (access_of c.args.flags)) < 4294967295) same few)

pub open_end-pipe-requires-clause-left : goal.open_end-pipe-requires-clause-left
open_end-pipe-requires-clause-left c = λ none. c.requires.left_pipe

-- ---- and a number names it

pub open_new-requires-clause-listed : goal.open_new-requires-clause-listed
open_new-requires-clause-listed c =
    let kept = c.open_end-pipe.ensures.opens.others.kept in
    listed_on c.args.heap.now c.open_end-pipe.new.heap c.args.procs.now (ap (λ (h : Heap). h.procs) kept) (ap (λ (h : Heap). h.leaves) kept) c.requires.listed

pub open_new-requires-clause-wants : goal.open_new-requires-clause-wants
open_new-requires-clause-wants c =
    let right = c.requires.right in
    let flags = to_z-of_z w64 c.args.flags c.ranges.flags in
    let mid = c.open_end-pipe.new.heap in
    let writing = c.is_to_write.ensures ∙ ap (λ z. may_write (access_of z)) flags in
    let found = is_found right.0 c.args.heap.now right.1 c.args.node c.requires.node right.2.opened.piped in
    let more = ends_more c.args.heap.now mid c.open_end-pipe.new.self c.args.node c.is_to_write.result c.open_end-pipe.result c.open_end-pipe.ensures.opens c.open_end-pipe.ensures.chain [] c.requires.owners right.0 right.1 found in
    subst (λ z. WantsDesc mid (target.Pipe c.open_end-pipe.result) z) (sym flags)
    (wants_end c.args.heap.now mid c.open_end-pipe.new.self c.args.node c.is_to_write.result c.open_end-pipe.result c.open_end-pipe.ensures.opens c.open_end-pipe.ensures.chain c.requires.owners c.open_end-pipe.ensures.owned more
    c.args.flags (sym writing) (no_fault (fifo_pipe right.1 c.args.node) c.args.flags right.3).0)

pub open_new-requires-clause-free : goal.open_new-requires-clause-free
open_new-requires-clause-free c = ap (λ (h : Heap). named_at h c.args.procs.now c.args.place.pid c.args.fd) c.open_end-pipe.ensures.opens.others.kept ∙ c.requires.free

pub open_new-requires-clause-fills : goal.open_new-requires-clause-fills
open_new-requires-clause-fills c =
    let kept = c.open_end-pipe.ensures.opens.others.kept in
    pipe_fills c.args.heap.now c.open_end-pipe.new.heap c.args.purse.now c.open_end-pipe.new.purse (ap (λ (h : Heap). h.vnodes) kept) (ap (λ (h : Heap). h.names) kept) (ap (λ (h : Heap). h.blocks) kept)
    c.open_end-pipe.ensures.spent c.requires.fills

pub open_new-requires-clause-left : goal.open_new-requires-clause-left
open_new-requires-clause-left c = subst (λ (p : Purse). 0 < p.left.desc) (sym c.open_end-pipe.ensures.spent) c.requires.left

pub open_new-requires-clause-left_leaf : goal.open_new-requires-clause-left_leaf
open_new-requires-clause-left_leaf c = subst (λ (p : Purse). 0 < p.left.leaf) (sym c.open_end-pipe.ensures.spent) c.requires.left_leaf

-- ---- the other side is waited for

pub returns-in-Some-clause-opened : goal.returns-in-Some-clause-opened
returns-in-Some-clause-opened c = λ numbers files have.
    let flags = to_z-of_z w64 c.args.flags c.ranges.flags in
    let old = c.args.heap.now in
    let mid = c.open_end-pipe.new.heap in
    let pipe = c.open_end-pipe.result in
    let writing = may_write (access_of c.args.flags) in
    let place = fifo_at files c.args.node in
    let with_it = with_fifo files place (with_end (fifo_there files c.args.node place) writing) in
    let opens : OpensEnd old mid c.args.node writing pipe = subst (λ b. OpensEnd old mid c.args.node b pipe) (c.is_to_write.ensures ∙ ap (λ z. may_write (access_of z)) flags) c.open_end-pipe.ensures.opens in
    let found = is_found numbers old files c.args.node c.requires.node have.opened.piped in
    let has = end_has old mid c.open_end-pipe.new.self c.args.node writing pipe opens c.open_end-pipe.ensures.chain c.args.procs.now [] c.requires.owners numbers files have found in
    let wanting = has_end old mid c.open_end-pipe.new.self c.args.node writing pipe opens c.open_end-pipe.ensures.chain c.args.procs.now [] c.requires.owners numbers files have c.requires.listed c.args.flags found in
    let anew : HaveAnew has.now mid c.open_new.new.heap c.args.procs.now
    (opened_as with_it c.args.place.pid c.args.fd (has_flag c.args.flags o_cloexec) (description_on (OnPipe (has.now.pipes pipe)) c.args.flags)) =
    subst (λ z. HaveAnew has.now mid c.open_new.new.heap c.args.procs.now (opened_as with_it c.args.place.pid c.args.fd (has_flag z o_cloexec) (description_on (OnPipe (has.now.pipes pipe)) z))) flags
    (c.open_new.ensures.opened has.now with_it (subst (λ z. HaveWanting has.now mid c.args.procs.now with_it (target.Pipe pipe) z) (sym flags) wanting)) in
    record {
      now = anew.now;
      keeps = keeps_then old mid numbers has.now anew.now (ap (λ (h : Heap). h.descs) opens.others.kept) (ap (λ (h : Heap). h.socks) opens.others.kept)
          (there_before old mid c.open_end-pipe.new.self c.args.node writing pipe opens c.open_end-pipe.ensures.chain) has.keeps anew.keeps;
      have =
          subst (λ p. HaveOpen anew.now c.open_new.new.heap c.args.procs.now (opened_as with_it c.args.place.pid c.args.fd (has_flag c.args.flags o_cloexec) (description_on (OnPipe p) c.args.flags))) has.at anew.have;
    }

pub returns-in-Some-clause-changes : goal.returns-in-Some-clause-changes
returns-in-Some-clause-changes c =
    pipes_before c.args.heap.now c.open_end-pipe.new.heap c.open_new.new.heap c.args.procs.now c.args.place.pid c.open_end-pipe.ensures.opens.others.kept
    (holding_of c.open_end-pipe.new.heap c.open_new.new.heap c.args.procs.now c.args.place.pid c.open_new.ensures.changes)

pub returns-in-Some-clause-chain : goal.returns-in-Some-clause-chain
returns-in-Some-clause-chain c = chain_kept c.open_end-pipe.new.heap c.open_new.new.heap c.open_end-pipe.new.self c.open_new.ensures.changes.links c.open_end-pipe.ensures.chain

pub returns-in-Some-clause-stay : goal.returns-in-Some-clause-stay
returns-in-Some-clause-stay c =
    let kept = c.open_end-pipe.ensures.opens.others.kept in
    record {
      vnodes = c.open_new.ensures.stay.vnodes ∙ ap (λ (h : Heap). h.vnodes) kept;
      names = c.open_new.ensures.stay.names ∙ ap (λ (h : Heap). h.names) kept;
      blocks = c.open_new.ensures.stay.blocks ∙ ap (λ (h : Heap). h.blocks) kept;
      size = c.open_new.ensures.stay.size ∙ ap (λ (h : Heap). h.heap) kept;
    }

pub returns-in-Some-clause-queues : goal.returns-in-Some-clause-queues
returns-in-Some-clause-queues c =
    let right = c.requires.right in
    let found = is_found right.0 c.args.heap.now right.1 c.args.node c.requires.node right.2.opened.piped in
    queues_then c.args.heap.now c.open_end-pipe.new.heap c.open_new.new.heap
    (queues_more c.args.heap.now c.open_end-pipe.new.heap c.open_end-pipe.new.self c.args.node c.is_to_write.result c.open_end-pipe.result c.open_end-pipe.ensures.opens c.open_end-pipe.ensures.chain right.0 right.1 found)
    c.open_new.ensures.queues

pub returns-in-Some-clause-socks : goal.returns-in-Some-clause-socks
returns-in-Some-clause-socks c = c.open_new.ensures.socks ∙ ap (λ (h : Heap). h.socks) c.open_end-pipe.ensures.opens.others.kept

pub returns-in-Some-clause-locks : goal.returns-in-Some-clause-locks
returns-in-Some-clause-locks c = c.open_new.ensures.locks ∙ ap (λ (h : Heap). h.locks) c.open_end-pipe.ensures.opens.others.kept

pub returns-in-Some-clause-paid : goal.returns-in-Some-clause-paid
returns-in-Some-clause-paid c =
    IsPaid-trans c.args.heap.now c.args.purse.now c.open_end-pipe.new.heap c.open_end-pipe.new.purse c.open_new.new.heap c.open_new.new.purse c.open_end-pipe.ensures.paid c.open_new.ensures.paid

-- ---- the other side is not waited for

pub returns-in-None-clause-opened : goal.returns-in-None-clause-opened
returns-in-None-clause-opened c = λ numbers files have.
    let flags = to_z-of_z w64 c.args.flags c.ranges.flags in
    let old = c.args.heap.now in
    let mid = c.open_end-pipe.new.heap in
    let pipe = c.open_end-pipe.result in
    let writing = may_write (access_of c.args.flags) in
    let place = fifo_at files c.args.node in
    let with_it = with_fifo files place (with_end (fifo_there files c.args.node place) writing) in
    let opens : OpensEnd old mid c.args.node writing pipe = subst (λ b. OpensEnd old mid c.args.node b pipe) (c.is_to_write.ensures ∙ ap (λ z. may_write (access_of z)) flags) c.open_end-pipe.ensures.opens in
    let found = is_found numbers old files c.args.node c.requires.node have.opened.piped in
    let has = end_has old mid c.open_end-pipe.new.self c.args.node writing pipe opens c.open_end-pipe.ensures.chain c.args.procs.now [] c.requires.owners numbers files have found in
    let wanting = has_end old mid c.open_end-pipe.new.self c.args.node writing pipe opens c.open_end-pipe.ensures.chain c.args.procs.now [] c.requires.owners numbers files have c.requires.listed c.args.flags found in
    let anew : HaveAnew has.now mid c.open_new.new.heap c.args.procs.now
    (opened_as with_it c.args.place.pid c.args.fd (has_flag c.args.flags o_cloexec) (description_on (OnPipe (has.now.pipes pipe)) c.args.flags)) =
    subst (λ z. HaveAnew has.now mid c.open_new.new.heap c.args.procs.now (opened_as with_it c.args.place.pid c.args.fd (has_flag z o_cloexec) (description_on (OnPipe (has.now.pipes pipe)) z))) flags
    (c.open_new.ensures.opened has.now with_it (subst (λ z. HaveWanting has.now mid c.args.procs.now with_it (target.Pipe pipe) z) (sym flags) wanting)) in
    record {
      now = anew.now;
      keeps = keeps_then old mid numbers has.now anew.now (ap (λ (h : Heap). h.descs) opens.others.kept) (ap (λ (h : Heap). h.socks) opens.others.kept)
          (there_before old mid c.open_end-pipe.new.self c.args.node writing pipe opens c.open_end-pipe.ensures.chain) has.keeps anew.keeps;
      have =
          subst (λ p. HaveOpen anew.now c.open_new.new.heap c.args.procs.now (opened_as with_it c.args.place.pid c.args.fd (has_flag c.args.flags o_cloexec) (description_on (OnPipe p) c.args.flags))) has.at anew.have;
    }

pub returns-in-None-clause-changes : goal.returns-in-None-clause-changes
returns-in-None-clause-changes c =
    pipes_before c.args.heap.now c.open_end-pipe.new.heap c.open_new.new.heap c.args.procs.now c.args.place.pid c.open_end-pipe.ensures.opens.others.kept
    (holding_of c.open_end-pipe.new.heap c.open_new.new.heap c.args.procs.now c.args.place.pid c.open_new.ensures.changes)

pub returns-in-None-clause-chain : goal.returns-in-None-clause-chain
returns-in-None-clause-chain c = chain_kept c.open_end-pipe.new.heap c.open_new.new.heap c.open_end-pipe.new.self c.open_new.ensures.changes.links c.open_end-pipe.ensures.chain

pub returns-in-None-clause-stay : goal.returns-in-None-clause-stay
returns-in-None-clause-stay c =
    let kept = c.open_end-pipe.ensures.opens.others.kept in
    record {
      vnodes = c.open_new.ensures.stay.vnodes ∙ ap (λ (h : Heap). h.vnodes) kept;
      names = c.open_new.ensures.stay.names ∙ ap (λ (h : Heap). h.names) kept;
      blocks = c.open_new.ensures.stay.blocks ∙ ap (λ (h : Heap). h.blocks) kept;
      size = c.open_new.ensures.stay.size ∙ ap (λ (h : Heap). h.heap) kept;
    }

pub returns-in-None-clause-queues : goal.returns-in-None-clause-queues
returns-in-None-clause-queues c =
    let right = c.requires.right in
    let found = is_found right.0 c.args.heap.now right.1 c.args.node c.requires.node right.2.opened.piped in
    queues_then c.args.heap.now c.open_end-pipe.new.heap c.open_new.new.heap
    (queues_more c.args.heap.now c.open_end-pipe.new.heap c.open_end-pipe.new.self c.args.node c.is_to_write.result c.open_end-pipe.result c.open_end-pipe.ensures.opens c.open_end-pipe.ensures.chain right.0 right.1 found)
    c.open_new.ensures.queues

pub returns-in-None-clause-socks : goal.returns-in-None-clause-socks
returns-in-None-clause-socks c = c.open_new.ensures.socks ∙ ap (λ (h : Heap). h.socks) c.open_end-pipe.ensures.opens.others.kept

pub returns-in-None-clause-locks : goal.returns-in-None-clause-locks
returns-in-None-clause-locks c = c.open_new.ensures.locks ∙ ap (λ (h : Heap). h.locks) c.open_end-pipe.ensures.opens.others.kept

pub returns-in-None-clause-paid : goal.returns-in-None-clause-paid
returns-in-None-clause-paid c =
    IsPaid-trans c.args.heap.now c.args.purse.now c.open_end-pipe.new.heap c.open_end-pipe.new.purse c.open_new.new.heap c.open_new.new.purse c.open_end-pipe.ensures.paid c.open_new.ensures.paid

pub returns-in-Some-clause-came : goal.returns-in-Some-clause-came
returns-in-Some-clause-came c = λ numbers files have.
    let pipe = fifo_pipe files c.args.node in
    let flags = to_z-of_z w64 c.args.flags c.ranges.flags in
    came_waits (fifo_waits pipe c.args.flags) c.args.fd c.in-Some.seen (opens_of pipe (not (may_write (access_of c.args.flags))))
    (sym c.in-Some.is ∙ c.awaited-awaited.ensures numbers files have.opened.piped ∙ ap (λ z. cond (fifo_waits pipe z) (Some (opens_of pipe (not (may_write (access_of z))))) None) flags)

pub returns-in-None-clause-came : goal.returns-in-None-clause-came
returns-in-None-clause-came c = λ numbers files have.
    let pipe = fifo_pipe files c.args.node in
    let flags = to_z-of_z w64 c.args.flags c.ranges.flags in
    came_over (fifo_waits pipe c.args.flags) c.args.fd (opens_of pipe (not (may_write (access_of c.args.flags))))
    (sym c.in-None.is ∙ c.awaited-awaited.ensures numbers files have.opened.piped ∙ ap (λ z. cond (fifo_waits pipe z) (Some (opens_of pipe (not (may_write (access_of z))))) None) flags)
