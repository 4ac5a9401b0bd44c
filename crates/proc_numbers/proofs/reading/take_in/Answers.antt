use Rattle.std.proofs.Common.{◌≡◌, ◌≤◌, ◌∙◌, ap, arith, subst, sym}
use Rattle.std.proofs.lemmas.List.{length-take-le}
use Rattle.posix_defs.specs.Needs.{pages_touched}
use Rattle.posix_defs.specs.Pipe.{Moves, Blocks, Fails}
use Rattle.kheap_slabs.specs.Heap.{Heap}
use Rattle.pipe_ends.proofs.LinkLemmas.{links_same, links_then}
use Rattle.proc_numbers.specs.PipeMoving.{UnlessMoves, told_read}
use Rattle.proc_numbers.specs.QueueEnds.{read_of}
use Rattle.proc_numbers.proofs.Capped.{touched_fewer}
use Rattle.proc_numbers.proofs.EndLemmas.{behind_in, beside_both, beside_none, count_within, out_long, owned_mid, read_capped, reads_so}
use Rattle.proc_numbers.proofs.Took.{paid_both, pays_mid}
use Rattle.proc_numbers.proofs.reading.take_in.Goals as goal

-- ---- bytes come

pub slice_bounds-copy_in-end : goal.slice_bounds-copy_in-end
slice_bounds-copy_in-end c =
    let there = behind_in c.args.heap.now c.args.queue c.requires.there in
    let room = length-take-le c.min.result _ (let few = c.min.ensures in omega (arith, few)) ∙ c.min.ensures in
    let answer = c.in-Bytes.ensures.answer there.0 there.1 ∙ ap (read_of c.args.queue there.0 c.args.nonblock) room in
    sym (length-take-le c.in-Bytes.count c.take.new.out
    (out_long c.args.heap.now c.args.queue there.0 c.args.nonblock c.args.n c.in-Bytes.count there.1 c.requires.some answer _ c.take.new.out (c.in-Bytes.ensures.out there.0 there.1)))

pub copy_in-requires-clause-owned : goal.copy_in-requires-clause-owned
copy_in-requires-clause-owned c = owned_mid c.args.heap.now c.take.new.heap c.args.queue c.args.space.now c.in-Bytes.ensures.leaves c.requires.space

pub copy_in-requires-clause-room : goal.copy_in-requires-clause-room
copy_in-requires-clause-room c = pays_mid c.args.heap.now c.take.new.heap c.args.purse.now c.in-Bytes.ensures.takes c.requires.room

pub copy_in-requires-clause-left : goal.copy_in-requires-clause-left
copy_in-requires-clause-left c =
    let there = behind_in c.args.heap.now c.args.queue c.requires.there in
    let room = length-take-le c.min.result _ (let few = c.min.ensures in omega (arith, few)) ∙ c.min.ensures in
    let answer = c.in-Bytes.ensures.answer there.0 there.1 ∙ ap (read_of c.args.queue there.0 c.args.nonblock) room in
    let long = length-take-le c.in-Bytes.count c.take.new.out
    (out_long c.args.heap.now c.args.queue there.0 c.args.nonblock c.args.n c.in-Bytes.count there.1 c.requires.some answer _ c.take.new.out (c.in-Bytes.ensures.out there.0 there.1)) in
    let fewer = touched_fewer c.args.start c.in-Bytes.count c.args.n (count_within c.args.heap.now c.args.queue there.0 c.args.nonblock c.args.n c.in-Bytes.count there.1 c.requires.some answer) in
    let left = c.requires.left in
    subst (λ n. pages_touched c.args.start n ≤ c.args.purse.now.left.page) (sym long) (omega (arith, fewer, left))

pub returns-in-Bytes-clause-told : goal.returns-in-Bytes-clause-told
returns-in-Bytes-clause-told c = λ behind stands.
    let room = length-take-le c.min.result _ (let few = c.min.ensures in omega (arith, few)) ∙ c.min.ensures in
    c.told_bytes.ensures ∙ ap told_read (c.in-Bytes.ensures.answer behind stands ∙ ap (read_of c.args.queue behind c.args.nonblock) room ∙ read_capped c.args.heap.now c.args.queue behind c.args.nonblock c.args.n stands)

pub returns-in-Bytes-clause-reads : goal.returns-in-Bytes-clause-reads
returns-in-Bytes-clause-reads c = λ behind k stands is.
    let room = length-take-le c.min.result _ (let few = c.min.ensures in omega (arith, few)) ∙ c.min.ensures in
    reads_so c.args.heap.now c.args.purse.now c.take.new.heap c.copy_in.new.heap c.copy_in.new.purse c.args.space.now c.args.queue behind c.args.nonblock c.args.n c.in-Bytes.count c.args.start _ c.take.new.out stands c.requires.some
    (c.in-Bytes.ensures.answer behind stands ∙ ap (read_of c.args.queue behind c.args.nonblock) room) c.in-Bytes.ensures.leaves c.in-Bytes.ensures.takes (c.in-Bytes.ensures.taken behind stands)
    (c.in-Bytes.ensures.out behind stands) c.copy_in.ensures.puts k is

pub returns-in-Bytes-clause-refused : goal.returns-in-Bytes-clause-refused
returns-in-Bytes-clause-refused c = λ behind stands.
    let room = length-take-le c.min.result _ (let few = c.min.ensures in omega (arith, few)) ∙ c.min.ensures in
    subst (λ moving. UnlessMoves moving (c.copy_in.new.heap ≡ c.args.heap.now)) (c.in-Bytes.ensures.answer behind stands ∙ ap (read_of c.args.queue behind c.args.nonblock) room ∙ read_capped c.args.heap.now c.args.queue behind c.args.nonblock c.args.n stands) tt

pub returns-in-Bytes-clause-paid : goal.returns-in-Bytes-clause-paid
returns-in-Bytes-clause-paid c =
    paid_both c.args.heap.now c.take.new.heap c.args.purse.now c.copy_in.new.heap c.copy_in.new.purse c.in-Bytes.ensures.takes c.copy_in.ensures.puts.paid

pub returns-in-Bytes-clause-beside : goal.returns-in-Bytes-clause-beside
returns-in-Bytes-clause-beside c =
    beside_both c.args.heap.now c.take.new.heap c.copy_in.new.heap c.args.queue c.args.space.now c.args.space.now c.in-Bytes.ensures.leaves c.copy_in.ensures.puts.moves

-- ---- none do

pub returns-in-Blocked-clause-told : goal.returns-in-Blocked-clause-told
returns-in-Blocked-clause-told c = λ behind stands.
    let room = length-take-le c.min.result _ (let few = c.min.ensures in omega (arith, few)) ∙ c.min.ensures in
    ap told_read (c.in-Blocked.ensures.answer behind stands ∙ ap (read_of c.args.queue behind c.args.nonblock) room ∙ read_capped c.args.heap.now c.args.queue behind c.args.nonblock c.args.n stands)

pub returns-in-Blocked-clause-reads : goal.returns-in-Blocked-clause-reads
returns-in-Blocked-clause-reads c = λ behind k stands is.
    let room = length-take-le c.min.result _ (let few = c.min.ensures in omega (arith, few)) ∙ c.min.ensures in
    let both : Blocks ≡ Moves k = c.in-Blocked.ensures.answer behind stands ∙ ap (read_of c.args.queue behind c.args.nonblock) room ∙ read_capped c.args.heap.now c.args.queue behind c.args.nonblock c.args.n stands ∙ is in
    absurd (cc)

pub returns-in-Blocked-clause-beside : goal.returns-in-Blocked-clause-beside
returns-in-Blocked-clause-beside c = beside_none c.args.heap.now c.take.new.heap c.in-Blocked.ensures.refused.0

pub returns-in-Fault-clause-told : goal.returns-in-Fault-clause-told
returns-in-Fault-clause-told c = λ behind stands.
    let room = length-take-le c.min.result _ (let few = c.min.ensures in omega (arith, few)) ∙ c.min.ensures in
    ap told_read (c.in-Fault.ensures.answer behind stands ∙ ap (read_of c.args.queue behind c.args.nonblock) room ∙ read_capped c.args.heap.now c.args.queue behind c.args.nonblock c.args.n stands)

pub returns-in-Fault-clause-reads : goal.returns-in-Fault-clause-reads
returns-in-Fault-clause-reads c = λ behind k stands is.
    let room = length-take-le c.min.result _ (let few = c.min.ensures in omega (arith, few)) ∙ c.min.ensures in
    let both : Fails c.in-Fault.errno ≡ Moves k = c.in-Fault.ensures.answer behind stands ∙ ap (read_of c.args.queue behind c.args.nonblock) room ∙ read_capped c.args.heap.now c.args.queue behind c.args.nonblock c.args.n stands ∙ is in
    absurd (cc)

pub returns-in-Fault-clause-beside : goal.returns-in-Fault-clause-beside
returns-in-Fault-clause-beside c = beside_none c.args.heap.now c.take.new.heap c.in-Fault.ensures.refused.0

-- ---- the pipes of FIFOs

pub returns-in-Bytes-clause-links : goal.returns-in-Bytes-clause-links
returns-in-Bytes-clause-links c =
    links_then c.args.heap.now c.take.new.heap c.copy_in.new.heap c.in-Bytes.ensures.links
    (links_same c.take.new.heap c.copy_in.new.heap (ap (λ (h : Heap). h.pipes) c.copy_in.ensures.puts.moves.kept))

pub returns-in-Blocked-clause-links : goal.returns-in-Blocked-clause-links
returns-in-Blocked-clause-links c = c.in-Blocked.ensures.links

pub returns-in-Fault-clause-links : goal.returns-in-Fault-clause-links
returns-in-Fault-clause-links c = c.in-Fault.ensures.links
