use Rattle.std.proofs.Common.{◌≡◌, ◌+◌, ◌∙◌, [], ap, refl, subst, sym, arith}
use Rattle.kheap_slabs.proofs.ObjectLemmas.{object_of}
use Rattle.kheap_slabs.specs.Heap.{Heap}
use Rattle.kheap_laws.proofs.PaidLemmas.{CanPay-kept, IsPaid-nothing, IsPaid-trans}
use Rattle.open_laws.specs.Described.{after_share, counting}
use Rattle.proc_table.specs.Procs.{numbers_in}
use Rattle.proc_table.specs.Table.{processes}
use Rattle.pipe_ends.proofs.LinkLemmas.{links_same}
use Rattle.proc_numbers.specs.Having.{HaveDescriptors, OpensNoNode}
use Rattle.proc_numbers.specs.Naming.{named_at}
use Rattle.proc_numbers.proofs.NumberCloses.{listed_on}
use Rattle.proc_numbers.proofs.NumberNames.{count_is_small}
use Rattle.proc_numbers.proofs.NumberOpens.{beside_named, changes_named}
use Rattle.proc_numbers.proofs.NumberRooms.{spends_so}
use Rattle.proc_numbers.proofs.Changes.{beside_shared, changes_after, put_opens}
use Rattle.proc_numbers.proofs.sharing.share_at.Goals as goal

pub share_desc-requires-clause-small : goal.share_desc-requires-clause-small
share_desc-requires-clause-small c = λ found is.
    count_is_small c.args.heap.now c.args.procs.now [] c.requires.listed c.requires.owners c.is_well_formed.ensures (omega arith) c.args.desc found is

pub open_one-requires-clause-listed : goal.open_one-requires-clause-listed
open_one-requires-clause-listed c =
    let found = object_of c.args.heap.now.descs c.args.desc c.requires.used in
    listed_on c.args.heap.now c.share_desc.new.heap c.args.procs.now (ap (λ (h : Heap). h.procs) (c.share_desc.ensures.kept found.0 found.1)) (ap (λ (h : Heap). h.leaves) (c.share_desc.ensures.kept found.0 found.1)) c.requires.listed

pub open_one-requires-clause-free : goal.open_one-requires-clause-free
open_one-requires-clause-free c =
    let found = object_of c.args.heap.now.descs c.args.desc c.requires.used in
    ap (λ (h : Heap). named_at h c.args.procs.now c.args.place.pid c.args.fd) (c.share_desc.ensures.kept found.0 found.1) ∙ c.requires.free

pub returns-clause-opened : goal.returns-clause-opened
returns-clause-opened c = λ numbers files have.
    let found = object_of c.args.heap.now.descs c.args.desc c.requires.used in
    c.open_one.ensures.opened numbers files (record {
      list = after_share have.list (numbers.descs c.args.desc);
      opened = c.share_desc.ensures.opened numbers have.list files have.opened;
      descriptors = subst (λ (h : Heap). HaveDescriptors (numbers_in h) numbers.descs (processes h c.args.procs.now) c.args.procs.now.last files)
          (sym (c.share_desc.ensures.kept found.0 found.1)) have.descriptors;
    })

pub returns-clause-nodes : goal.returns-clause-nodes
returns-clause-nodes c = λ none.
    let found = object_of c.args.heap.now.descs c.args.desc c.requires.used in
    subst (λ (h : Heap). OpensNoNode h.descs) (sym c.open_one.ensures.names.after)
    (subst (λ (h : Heap). OpensNoNode h.descs) (sym (c.share_desc.ensures.kept found.0 found.1))
    (put_opens c.args.heap.now.descs c.args.desc found.0 (counting found.0 (found.0.count + 1)) found.1 refl none))

pub returns-clause-listed : goal.returns-clause-listed
returns-clause-listed c = c.open_one.ensures.listed

pub returns-clause-owners : goal.returns-clause-owners
returns-clause-owners c = c.open_one.ensures.owners [] (c.share_desc.ensures.owners [] c.requires.owners)

pub returns-clause-changes : goal.returns-clause-changes
returns-clause-changes c =
    let found = object_of c.args.heap.now.descs c.args.desc c.requires.used in
    let shared = c.share_desc.ensures.kept found.0 found.1 in
    changes_after c.args.heap.now c.share_desc.new.heap c.open_one.new.heap c.args.procs.now c.args.place.pid
    (ap (λ (h : Heap). h.procs) shared)
    (subst (λ (h : Heap). h ≡ record c.args.heap.now { procs = h.procs; leaves = h.leaves; descs = h.descs; pipes = h.pipes; chunks = h.chunks; socks = h.socks; high = h.high }) (sym shared) refl)
    (links_same c.args.heap.now c.share_desc.new.heap (ap (λ (h : Heap). h.pipes) shared))
    (changes_named c.share_desc.new.heap c.open_one.new.heap c.args.procs.now c.args.place.pid c.args.fd _
    (listed_on c.args.heap.now c.share_desc.new.heap c.args.procs.now (ap (λ (h : Heap). h.procs) shared) (ap (λ (h : Heap). h.leaves) shared) c.requires.listed) c.open_one.ensures.names)

pub returns-clause-beside : goal.returns-clause-beside
returns-clause-beside c =
    let found = object_of c.args.heap.now.descs c.args.desc c.requires.used in
    let shared = c.share_desc.ensures.kept found.0 found.1 in
    beside_shared c.args.heap.now c.share_desc.new.heap c.open_one.new.heap _ shared
    (beside_named c.share_desc.new.heap c.open_one.new.heap c.args.procs.now c.args.place.pid c.args.fd _
    (listed_on c.args.heap.now c.share_desc.new.heap c.args.procs.now (ap (λ (h : Heap). h.procs) shared) (ap (λ (h : Heap). h.leaves) shared) c.requires.listed) c.open_one.ensures.names)

pub open_one-requires-clause-pays : goal.open_one-requires-clause-pays
open_one-requires-clause-pays c = CanPay-kept c.args.heap.now c.share_desc.new.heap c.args.purse.now c.args.purse.now (IsPaid-nothing c.args.heap.now c.share_desc.new.heap c.args.purse.now c.args.purse.now c.share_desc.ensures.takes refl refl) c.requires.pays

pub returns-clause-paid : goal.returns-clause-paid
returns-clause-paid c =
    IsPaid-trans c.args.heap.now c.args.purse.now c.share_desc.new.heap c.args.purse.now c.open_one.new.heap c.open_one.new.purse (IsPaid-nothing c.args.heap.now c.share_desc.new.heap c.args.purse.now c.args.purse.now c.share_desc.ensures.takes refl refl) c.open_one.ensures.paid

pub open_one-requires-clause-left : goal.open_one-requires-clause-left
open_one-requires-clause-left c = λ none. c.requires.left

pub returns-clause-spent : goal.returns-clause-spent
returns-clause-spent c = spends_so _ c.args.purse.now c.open_one.new.purse c.open_one.ensures.spent
