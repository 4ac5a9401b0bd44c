use Rattle.std.proofs.Common.{refl, sym, subst}
use Rattle.kheap_laws.proofs.PaidLemmas.{CanPay-kept, IsPaid-nothing}
use Rattle.fifo_nodes.specs.Chain.{IsFifoAt}
use Rattle.fifo_nodes.proofs.OpenLemmas.{can_open, opens_chain, opens_end}
use Rattle.fifo_nodes.proofs.table.FifoTable.open_end.Goals as goal

pub add_end-requires : goal.add_end-requires
add_end-requires c =
    let is = c.in-Some.ensures.some in record {
      owned = c.requires.owned;
      there = c.requires.stand c.in-Some.key is;
      few = λ pipe at stands. can_open c.args.heap.now c.args.self.now c.args.node c.in-Some.key c.args.writing pipe at c.requires.chain is stands (c.requires.few c.in-Some.key pipe at is stands);
    }

pub returns-in-Some-clause-opens : goal.returns-in-Some-clause-opens
returns-in-Some-clause-opens c =
    opens_end c.args.heap.now c.add_end.new.heap c.args.self.now c.args.node c.in-Some.key c.args.writing c.requires.chain (c.in-Some.ensures.some) c.add_end.ensures.opens

pub returns-in-Some-clause-chain : goal.returns-in-Some-clause-chain
returns-in-Some-clause-chain c =
    opens_chain c.args.heap.now c.add_end.new.heap c.args.self.now c.args.node c.in-Some.key c.args.writing c.requires.chain (c.in-Some.ensures.some) c.add_end.ensures.opens

pub returns-in-Some-clause-paid : goal.returns-in-Some-clause-paid
returns-in-Some-clause-paid c = IsPaid-nothing c.args.heap.now c.add_end.new.heap c.args.purse.now c.args.purse.now c.add_end.ensures.takes refl refl

pub returns-in-Some-clause-pays : goal.returns-in-Some-clause-pays
returns-in-Some-clause-pays c =
    CanPay-kept c.args.heap.now c.add_end.new.heap c.args.purse.now c.args.purse.now (IsPaid-nothing c.args.heap.now c.add_end.new.heap c.args.purse.now c.args.purse.now c.add_end.ensures.takes refl refl) c.requires.pays

pub make-requires : goal.make-requires
make-requires c =
    let none = c.key_of.ensures.none c.in-None.is in record {
      owned = c.requires.owned;
      chain = c.requires.chain;
      node = c.requires.node;
      none = none;
      pays = c.requires.pays;
      left = c.requires.left none;
    }
