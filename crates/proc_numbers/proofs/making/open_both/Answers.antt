use Rattle.std.proofs.Common.{◌∙◌, ap, subst, sym}
use Rattle.kheap_slabs.specs.Heap.{Heap}
use Rattle.kheap_laws.proofs.PaidLemmas.{IsPaid-trans}
use Rattle.proc_numbers.specs.Having.{OpensNoNode}
use Rattle.proc_numbers.proofs.Pairing.{kept_both, opens_both, owners_both, queues_both, spent_both}
use Rattle.proc_numbers.proofs.StillUsed.{still_on, still_paired}
use Rattle.proc_numbers.proofs.making.open_both.Goals as goal

pub returns-clause-opened : goal.returns-clause-opened
returns-clause-opened c =
    opens_both c.args.heap.now c.sock_pair-one.new.heap c.describe-on_one.new.heap c.describe-on_other.new.heap c.sock_pair-one.result.0 c.sock_pair-one.result.1 c.describe-on_one.result c.describe-on_other.result
    c.sock_pair-one.ensures.vacant c.sock_pair-one.ensures.vacant_too c.sock_pair-one.ensures.used c.sock_pair-one.ensures.differ c.sock_pair-one.ensures.stands c.sock_pair-one.ensures.held c.sock_pair-one.ensures.owned c.sock_pair-one.ensures.others c.sock_pair-one.ensures.queues
    c.describe-on_one.ensures.vacant c.describe-on_one.ensures.kept c.describe-on_one.ensures.owners c.describe-on_one.ensures.opened
    c.describe-on_other.ensures.vacant c.describe-on_other.ensures.kept c.describe-on_other.ensures.owners c.describe-on_other.ensures.opened c.requires.owners

pub returns-clause-owners : goal.returns-clause-owners
returns-clause-owners c =
    owners_both c.args.heap.now c.sock_pair-one.new.heap c.describe-on_one.new.heap c.describe-on_other.new.heap c.sock_pair-one.result.0 c.sock_pair-one.result.1 c.describe-on_one.result c.describe-on_other.result
    c.sock_pair-one.ensures.vacant c.sock_pair-one.ensures.vacant_too c.sock_pair-one.ensures.used c.sock_pair-one.ensures.differ c.sock_pair-one.ensures.stands c.sock_pair-one.ensures.held c.sock_pair-one.ensures.owned c.sock_pair-one.ensures.others c.sock_pair-one.ensures.queues
    c.describe-on_one.ensures.vacant c.describe-on_one.ensures.kept c.describe-on_one.ensures.owners c.describe-on_one.ensures.opened
    c.describe-on_other.ensures.vacant c.describe-on_other.ensures.kept c.describe-on_other.ensures.owners c.describe-on_other.ensures.opened c.requires.owners

pub returns-clause-kept : goal.returns-clause-kept
returns-clause-kept c =
    kept_both c.args.heap.now c.sock_pair-one.new.heap c.describe-on_one.new.heap c.describe-on_other.new.heap c.sock_pair-one.result.0 c.sock_pair-one.result.1 c.describe-on_one.result c.describe-on_other.result
    c.sock_pair-one.ensures.vacant c.sock_pair-one.ensures.vacant_too c.sock_pair-one.ensures.used c.sock_pair-one.ensures.differ c.sock_pair-one.ensures.stands c.sock_pair-one.ensures.held c.sock_pair-one.ensures.owned c.sock_pair-one.ensures.others c.sock_pair-one.ensures.queues
    c.describe-on_one.ensures.vacant c.describe-on_one.ensures.kept c.describe-on_one.ensures.owners c.describe-on_one.ensures.opened
    c.describe-on_other.ensures.vacant c.describe-on_other.ensures.kept c.describe-on_other.ensures.owners c.describe-on_other.ensures.opened c.requires.owners

pub returns-clause-queues : goal.returns-clause-queues
returns-clause-queues c =
    queues_both c.args.heap.now c.sock_pair-one.new.heap c.describe-on_one.new.heap c.describe-on_other.new.heap c.sock_pair-one.result.0 c.sock_pair-one.result.1 c.describe-on_one.result c.describe-on_other.result
    c.sock_pair-one.ensures.vacant c.sock_pair-one.ensures.vacant_too c.sock_pair-one.ensures.used c.sock_pair-one.ensures.differ c.sock_pair-one.ensures.stands c.sock_pair-one.ensures.held c.sock_pair-one.ensures.owned c.sock_pair-one.ensures.others c.sock_pair-one.ensures.queues
    c.describe-on_one.ensures.vacant c.describe-on_one.ensures.kept c.describe-on_one.ensures.owners c.describe-on_one.ensures.opened
    c.describe-on_other.ensures.vacant c.describe-on_other.ensures.kept c.describe-on_other.ensures.owners c.describe-on_other.ensures.opened c.requires.owners

pub returns-clause-nodes : goal.returns-clause-nodes
returns-clause-nodes c = λ none. c.describe-on_other.ensures.nodes (c.describe-on_one.ensures.nodes (subst (λ (h : Heap). OpensNoNode h.descs) (sym c.sock_pair-one.ensures.others.kept) none))

pub returns-clause-paid : goal.returns-clause-paid
returns-clause-paid c =
    IsPaid-trans c.args.heap.now c.args.purse.now c.describe-on_one.new.heap c.describe-on_one.new.purse c.describe-on_other.new.heap c.describe-on_other.new.purse
    (IsPaid-trans c.args.heap.now c.args.purse.now c.sock_pair-one.new.heap c.sock_pair-one.new.purse c.describe-on_one.new.heap c.describe-on_one.new.purse c.sock_pair-one.ensures.paid c.describe-on_one.ensures.paid)
    c.describe-on_other.ensures.paid

pub returns-clause-spent : goal.returns-clause-spent
returns-clause-spent c =
    spent_both c.args.purse.now c.sock_pair-one.new.purse c.describe-on_one.new.purse c.describe-on_other.new.purse c.sock_pair-one.ensures.spent c.describe-on_one.ensures.spent c.describe-on_other.ensures.spent

pub returns-clause-still : goal.returns-clause-still
returns-clause-still c =
    still_on c.args.heap.now c.sock_pair-one.new.heap c.describe-on_other.new.heap (ap (λ (h : Heap). h.socks) c.describe-on_other.ensures.kept ∙ ap (λ (h : Heap). h.socks) c.describe-on_one.ensures.kept)
    (still_paired c.args.heap.now c.sock_pair-one.new.heap c.requires.owners c.sock_pair-one.result.0 c.sock_pair-one.result.1 c.sock_pair-one.ensures.stands)
