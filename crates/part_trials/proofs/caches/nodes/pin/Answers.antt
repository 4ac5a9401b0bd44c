use Rattle.std.proofs.Common.{◌+◌, refl, rules}
use Rattle.kheap_laws.proofs.PaidLemmas.{CanPay-kept, IsPaid-nothing}
use Rattle.vnode_cache.proofs.FillLemmas.{fills_set}
use Rattle.part_trials.proofs.caches.nodes.pin.Goals as goal

pub returns-clause-pays : goal.returns-clause-pays
returns-clause-pays g c = CanPay-kept c.args.heap.now c.pin.new.heap c.args.paid.now c.args.paid.now (IsPaid-nothing c.args.heap.now c.pin.new.heap c.args.paid.now c.args.paid.now c.pin.ensures.takes refl refl) c.requires.pays

pub returns-clause-fills : goal.returns-clause-fills
returns-clause-fills g c = fills_set c.args.number (λ was. record was { pins = was.pins + 1 }) c.args.heap.now c.pin.new.heap c.args.cache.now c.pin.new.self c.args.paid.now c.requires.keeps (search rules) c.pin.ensures.stored c.requires.fills
