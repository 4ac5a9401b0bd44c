use Rattle.std.proofs.Common.{◌≡◌, ◌+◌, ◌≤◌, ◌∙◌, ap, arith, length}
use Rattle.std.specs.Prelude.{None, is_some}
use Rattle.kheap_slabs.specs.Objects.{object, put}
use Rattle.kheap_slabs.specs.Heap.{Heap}
use Rattle.kheap_laws.proofs.PaidLemmas.{TakesNothing-trans}
use Rattle.posix_defs.specs.Memory.{after_unmap, without_pages}
use Rattle.proc_table.specs.Procs.{memory_at}
use Rattle.proc_table.proofs.MemoryLemmas.{length-memory_at}
use Rattle.process_calls.proofs.SpacesInHand.{kept_then, nodes_back, runs_then, stand_then}
use Rattle.process_calls.proofs.WithRanges.{length-with_range}
use Rattle.process_calls.proofs.spaces.unmap.Goals as goal

back_is : (c : goal.After-set_proc_nodes)
    → c.set_proc_nodes.new.self ≡ record c.unmap.new.heap { procs = put c.unmap.new.heap.procs c.args.place.key (record c.space_of-space.ensures.proc { nodes = c.unmap.new.self }) }
back_is c =
    nodes_back c.args.objects.now c.unmap.new.heap c.set_proc_nodes.new.self c.args.place.pid c.args.place.key c.space_of-space.result c.unmap.new.self c.nodes.result c.space_of-space.ensures
    c.unmap.ensures.moves c.set_proc_nodes.ensures.kept c.nodes.ensures.value

pub unmap-requires-clause-owned : goal.unmap-requires-clause-owned
unmap-requires-clause-owned c = c.space_of-space.ensures.owned

pub set_proc_nodes-requires : goal.set_proc_nodes-requires
set_proc_nodes-requires c = ap is_some (ap (λ (h : Heap). object h.procs c.args.place.key) c.unmap.ensures.moves.kept ∙ c.space_of-space.ensures.there)

pub returns-clause-kept : goal.returns-clause-kept
returns-clause-kept c = λ script kept.
    kept_then c.args.objects.now c.unmap.new.heap c.set_proc_nodes.new.self c.args.place.pid c.args.place.key c.space_of-space.result c.unmap.new.self c.space_of-space.ensures c.unmap.ensures.moves (back_is c)
    script kept c.nodes.ensures.groups

pub returns-clause-runs : goal.returns-clause-runs
returns-clause-runs c =
    runs_then c.args.objects.now c.unmap.new.heap c.set_proc_nodes.new.self c.args.place.pid c.args.place.key c.space_of-space.result c.unmap.new.self c.space_of-space.ensures c.unmap.ensures.moves (back_is c)
    c.requires.kept.0 c.requires.kept.1

pub returns-clause-takes : goal.returns-clause-takes
returns-clause-takes c = TakesNothing-trans c.args.objects.now.heap c.unmap.new.heap c.set_proc_nodes.new.self c.unmap.ensures.takes c.set_proc_nodes.ensures.takes

pub returns-clause-unmapped : goal.returns-clause-unmapped
returns-clause-unmapped c = λ script world stands.
    let memory = memory_at c.args.objects.now.heap c.space_of-space.result in
    let whole : length memory ≡ 256 = length-memory_at c.args.objects.now.heap c.space_of-space.result in
    stand_then c.args.objects.now c.unmap.new.heap c.set_proc_nodes.new.self c.args.place.pid c.args.place.key c.space_of-space.result c.unmap.new.self c.space_of-space.ensures c.unmap.ensures.moves (back_is c)
    script world (after_unmap world.account.frames c.args.place.pid c.args.page c.args.count) (λ m. without_pages m c.args.page c.args.count)
    stands c.nodes.ensures.groups
    (c.unmap.ensures.memory memory whole)
    (length-with_range memory c.args.page c.args.count None (let l : c.args.page + c.args.count ≤ 256 = c.requires.within in omega (arith, whole)) ∙ whole)
    (λ number accounted. c.unmap.ensures.account number world.account.frames c.args.place.pid accounted)
