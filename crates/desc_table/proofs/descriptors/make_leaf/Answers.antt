use Rattle.std.proofs.Common.{ap}
use Rattle.kabi_types.specs.declared.classes.Class.TheVariants as class
use Rattle.kheap_slabs.specs.Purse.{Purse}
use Rattle.kheap_laws.proofs.PaidLemmas.{CanPay-kept, IsPaid-spend}
use Rattle.desc_table.proofs.descriptors.make_leaf.Goals as goal

pub returns-clause-pays : goal.returns-clause-pays
returns-clause-pays c =
    CanPay-kept c.args.heap.now c.insert_leaf.new.self c.args.purse.now c.spend.new.self
    (IsPaid-spend class.Leaf c.args.heap.now c.insert_leaf.new.self c.args.purse.now c.spend.new.self c.insert_leaf.ensures.makes c.requires.left
    (ap (λ (p : Purse). p.left) c.spend.ensures.kept) (ap (λ (p : Purse). p.need) c.spend.ensures.kept)) c.requires.pays
