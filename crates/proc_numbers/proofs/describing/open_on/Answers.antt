use Rattle.std.proofs.Common.{◌≡◌, ◌<◌, ◌∙◌, false, [], ◌∷◌, ap, refl, subst, sym}
use Rattle.desc_table.specs.Copying.{spends_leaves}
use Rattle.kheap_slabs.specs.Heap.{Heap}
use Rattle.kheap_slabs.specs.Purse.{Purse}
use Rattle.kheap_laws.proofs.PaidLemmas.{CanPay-kept, IsPaid-trans}
use Rattle.pipe_ends.proofs.LinkLemmas.{links_same}
use Rattle.proc_numbers.specs.Having.{HaveOpen, OpensNoNode}
use Rattle.proc_numbers.specs.Naming.{has_room, named_at}
use Rattle.proc_numbers.proofs.Fronts.{queues_same, queues_then}
use Rattle.proc_numbers.proofs.NumberCloses.{listed_on}
use Rattle.proc_numbers.proofs.NumberOpens.{changes_named}
use Rattle.proc_numbers.proofs.NumberRooms.{spends_so}
use Rattle.proc_numbers.proofs.Changes.{changes_after}
use Rattle.proc_numbers.specs.SocketOpening.{described_more, with_desc}
use Rattle.proc_numbers.proofs.Opens.{opened_then}
use Rattle.proc_numbers.proofs.Owners.{owners_all}
use Rattle.proc_numbers.proofs.describing.open_on.Goals as goal

pub open_one-requires-clause-listed : goal.open_one-requires-clause-listed
open_one-requires-clause-listed c =
    listed_on c.args.heap.now c.describe-desc.new.heap c.args.procs.now (ap (λ (h : Heap). h.procs) c.describe-desc.ensures.kept) (ap (λ (h : Heap). h.leaves) c.describe-desc.ensures.kept) c.requires.listed

pub open_one-requires-clause-free : goal.open_one-requires-clause-free
open_one-requires-clause-free c = ap (λ (h : Heap). named_at h c.args.procs.now c.args.place.pid c.args.fd) c.describe-desc.ensures.kept ∙ c.requires.free

pub returns-clause-opened : goal.returns-clause-opened
returns-clause-opened c = λ numbers files have. record {
  key = c.describe-desc.result;
  vacant = c.describe-desc.ensures.vacant;
  stands = subst (HaveOpen (with_desc numbers files c.describe-desc.result) c.open_one.new.heap c.args.procs.now)
      (opened_then numbers files c.args.sock c.describe-desc.result c.args.place.pid c.args.fd)
      (c.open_one.ensures.opened (with_desc numbers files c.describe-desc.result) (described_more files (numbers.socks c.args.sock))
      (c.describe-desc.ensures.opened numbers files c.args.procs.now [] c.requires.listed c.requires.named have));
}

pub returns-clause-owners : goal.returns-clause-owners
returns-clause-owners c = λ but.
    c.open_one.ensures.owners [] (owners_all c.describe-desc.new.heap (c.describe-desc.result ∷ []) (c.describe-desc.ensures.owners [] [] but))

pub returns-clause-nodes : goal.returns-clause-nodes
returns-clause-nodes c = λ none.
    subst (λ (h : Heap). OpensNoNode h.descs) (sym c.open_one.ensures.names.after) (c.describe-desc.ensures.nodes none)

pub returns-clause-changes : goal.returns-clause-changes
returns-clause-changes c =
    changes_after c.args.heap.now c.describe-desc.new.heap c.open_one.new.heap c.args.procs.now c.args.place.pid (ap (λ (h : Heap). h.procs) c.describe-desc.ensures.kept)
    (subst (λ (h : Heap). h ≡ record c.args.heap.now { procs = h.procs; leaves = h.leaves; descs = h.descs; pipes = h.pipes; chunks = h.chunks; socks = h.socks; high = h.high }) (sym c.describe-desc.ensures.kept) refl)
    (links_same c.args.heap.now c.describe-desc.new.heap (ap (λ (h : Heap). h.pipes) c.describe-desc.ensures.kept))
    (changes_named c.describe-desc.new.heap c.open_one.new.heap c.args.procs.now c.args.place.pid c.args.fd (record { desc = c.describe-desc.result; close_on_exec = false })
    (listed_on c.args.heap.now c.describe-desc.new.heap c.args.procs.now (ap (λ (h : Heap). h.procs) c.describe-desc.ensures.kept) (ap (λ (h : Heap). h.leaves) c.describe-desc.ensures.kept) c.requires.listed) c.open_one.ensures.names)

pub returns-clause-queues : goal.returns-clause-queues
returns-clause-queues c =
    queues_then c.args.heap.now c.describe-desc.new.heap c.open_one.new.heap
    (queues_same c.args.heap.now c.describe-desc.new.heap (ap (λ (h : Heap). h.pipes) c.describe-desc.ensures.kept) (ap (λ (h : Heap). h.socks) c.describe-desc.ensures.kept))
    (queues_same c.describe-desc.new.heap c.open_one.new.heap (ap (λ (h : Heap). h.pipes) c.open_one.ensures.names.after) (ap (λ (h : Heap). h.socks) c.open_one.ensures.names.after))

pub returns-clause-paid : goal.returns-clause-paid
returns-clause-paid c =
    IsPaid-trans c.args.heap.now c.args.purse.now c.describe-desc.new.heap c.describe-desc.new.purse c.open_one.new.heap c.open_one.new.purse c.describe-desc.ensures.paid c.open_one.ensures.paid

pub returns-clause-pays : goal.returns-clause-pays
returns-clause-pays c = CanPay-kept c.describe-desc.new.heap c.open_one.new.heap c.describe-desc.new.purse c.open_one.new.purse c.open_one.ensures.paid c.describe-desc.ensures.pays

pub returns-clause-socks : goal.returns-clause-socks
returns-clause-socks c = ap (λ (h : Heap). h.socks) c.open_one.ensures.names.after ∙ ap (λ (h : Heap). h.socks) c.describe-desc.ensures.kept

pub returns-clause-spent : goal.returns-clause-spent
returns-clause-spent c =
    spends_so _ c.describe-desc.new.purse c.open_one.new.purse c.open_one.ensures.spent
    ∙ ap (λ (p : Purse). spends_leaves p c.open_one.new.purse) c.describe-desc.ensures.spent

pub open_one-requires-clause-left : goal.open_one-requires-clause-left
open_one-requires-clause-left c = λ none.
    subst (λ (p : Purse). 0 < p.left.leaf) (sym c.describe-desc.ensures.spent)
    (c.requires.left_leaf (ap (λ (h : Heap). has_room h c.args.procs.now c.args.place.pid c.args.fd) (sym c.describe-desc.ensures.kept) ∙ none))

pub open_one-requires-clause-pays : goal.open_one-requires-clause-pays
open_one-requires-clause-pays c = c.describe-desc.ensures.pays
