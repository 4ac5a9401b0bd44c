use Rattle.std.proofs.Common.{◌≡◌, ◌∙◌, ap, length, subst, sym}
use Rattle.std.specs.Prelude.{Bool, Err, Ok, Result, if◌then◌else◌}
use Rattle.kabi_types.specs.declared.errnos.Errno.{Errno}
use Rattle.kabi_types.specs.declared.errnos.Errno.TheVariants.{EFAULT}
use Rattle.kabi_types.specs.declared.scripts.Script.{Script}
use Rattle.kheap_slabs.specs.Objects.{put}
use Rattle.kheap_slabs.specs.Heap.{Heap}
use Rattle.posix_defs.specs.Memory.{after_put, is_mapped_range, stored}
use Rattle.page_space.proofs.StoreLemmas.{length-stored}
use Rattle.proc_table.specs.Procs.{memory_at}
use Rattle.proc_table.proofs.MemoryLemmas.{length-memory_at, memory_at-stands}
use Rattle.proc_table.proofs.OwnLemmas.{has_it}
use Rattle.store_objects.specs.Objects.{AreKept, procs_of}
use Rattle.process_calls.proofs.SpacesInHand.{back_as_was, kept_then, memory_is, runs_then, stand_then}
use Rattle.process_calls.proofs.spaces.put.Goals as goal

abbrev answered : Bool → Result (Unit {0}) Errno
answered b = if b then Ok tt else Err EFAULT

pub mapped-requires-clause-owned : goal.mapped-requires-clause-owned
mapped-requires-clause-owned c = c.space_of-space.ensures.owned

pub copy_in-requires-clause-owned : goal.copy_in-requires-clause-owned
copy_in-requires-clause-owned c = c.space_of-space.ensures.owned

pub returns-then-not-mapped-clause-mapped : goal.returns-then-not-mapped-clause-mapped
returns-then-not-mapped-clause-mapped c = λ script world stands.
    let memory = memory_at c.args.objects.now.heap c.space_of-space.result in
    let here = memory_is script c.args.objects.now world.plain c.args.place.pid c.args.place.key c.space_of-space.result c.space_of-space.ensures stands.processes in
    let known = c.mapped.ensures.memory memory (memory_at-stands c.args.objects.now.heap c.space_of-space.result) in
    sym (ap (λ m. answered (is_mapped_range m c.args.addr (length c.args.bytes.now))) here ∙ ap answered (sym known ∙ c.if-not-mapped.true))

back_is : (c : goal.After-copy_in)
    → c.copy_in.new.heap ≡ record c.copy_in.new.heap { procs = put c.copy_in.new.heap.procs c.args.place.key (record c.space_of-space.ensures.proc { nodes = c.space_of-space.result }) }
back_is c = back_as_was c.args.objects.now c.copy_in.new.heap c.args.place.pid c.args.place.key c.space_of-space.result c.space_of-space.ensures (ap (λ (h : Heap). h.procs) c.copy_in.ensures.puts.moves.kept)

-- the space has its four groups still
four : (c : goal.After-copy_in) → (script : Script) → AreKept script c.args.objects.now → length c.space_of-space.result ≡ 4
four c script kept =
    subst (λ nodes. length nodes ≡ 4) c.space_of-space.ensures.nodes
    (has_it (λ p. length p.nodes ≡ 4) (procs_of c.args.objects.now) c.args.place.pid c.space_of-space.ensures.proc kept.groups c.space_of-space.ensures.found)

pub returns-clause-kept : goal.returns-clause-kept
returns-clause-kept c = λ script kept.
    kept_then c.args.objects.now c.copy_in.new.heap c.copy_in.new.heap c.args.place.pid c.args.place.key c.space_of-space.result c.space_of-space.result c.space_of-space.ensures c.copy_in.ensures.puts.moves (back_is c)
    script kept (four c script kept)

pub returns-clause-runs : goal.returns-clause-runs
returns-clause-runs c =
    runs_then c.args.objects.now c.copy_in.new.heap c.copy_in.new.heap c.args.place.pid c.args.place.key c.space_of-space.result c.space_of-space.result c.space_of-space.ensures c.copy_in.ensures.puts.moves (back_is c)
    c.requires.kept.0 c.requires.kept.1

pub returns-clause-mapped : goal.returns-clause-mapped
returns-clause-mapped c = λ script world stands.
    let memory = memory_at c.args.objects.now.heap c.space_of-space.result in
    let here = memory_is script c.args.objects.now world.plain c.args.place.pid c.args.place.key c.space_of-space.result c.space_of-space.ensures stands.processes in
    let known = c.mapped.ensures.memory memory (memory_at-stands c.args.objects.now.heap c.space_of-space.result) in
    sym (ap (λ m. answered (is_mapped_range m c.args.addr (length c.args.bytes.now))) here ∙ ap answered (sym known ∙ c.if-not-mapped.false))

pub returns-clause-stored : goal.returns-clause-stored
returns-clause-stored c = λ script world stands.
    let memory = memory_at c.args.objects.now.heap c.space_of-space.result in
    let whole : length memory ≡ 256 = length-memory_at c.args.objects.now.heap c.space_of-space.result in
    stand_then c.args.objects.now c.copy_in.new.heap c.copy_in.new.heap c.args.place.pid c.args.place.key c.space_of-space.result c.space_of-space.result c.space_of-space.ensures c.copy_in.ensures.puts.moves (back_is c)
    script world (after_put world.account.frames c.args.place.pid c.args.addr (length c.args.bytes.now)) (λ m. stored m c.args.addr c.args.bytes.now)
    stands (four c script stands.kept)
    (c.copy_in.ensures.puts.memory memory whole)
    (length-stored memory c.args.addr c.args.bytes.now ∙ whole)
    (λ number accounted. c.copy_in.ensures.puts.account number world.account.frames c.args.place.pid accounted)
