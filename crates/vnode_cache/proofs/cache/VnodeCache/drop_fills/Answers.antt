use Rattle.std.proofs.Common.{rules, sym, ap, subst}
use Rattle.std.specs.Prelude.{slice_index_or}
use Rattle.kheap_slabs.specs.Objects.{without}
use Rattle.kheap_laws.proofs.PaidLemmas.{IsPaid-trans}
use Rattle.vnode_cache.specs.Nodes.{AreLoose}
use Rattle.vnode_cache.proofs.HeldLemmas.{held_then}
use Rattle.vnode_cache.proofs.LooseLemmas.{loose_rest}
use Rattle.vnode_cache.proofs.cache.VnodeCache.drop_fills.Goals as goal

pub loop-self-preserved : goal.loop-self-preserved
loop-self-preserved c =
    let inv = c.loop-self.invariant in
    let dropped = c.drop_at-slot.ensures.dropped in
    let left_now = ap (λ p. p.left.vnode) dropped.purse in
    let fills_now = ap (λ p. p.vnodes) dropped.purse in
    let heap_now = ap (λ h. h.vnodes) dropped.heap in
    record {
      keeps = c.drop_at-slot.ensures.keeps;
      fills = c.drop_at-slot.ensures.fills;
      unpinned = subst (λ h. AreLoose h c.drop_at-slot.new.purse.vnodes) (sym heap_now) (subst (AreLoose (without c.loop-self.heap.vnodes (slice_index_or c.loop-self.purse.vnodes 0 0))) (sym fills_now) (loose_rest c.loop-self.heap.vnodes c.loop-self.purse.vnodes inv.fills.once inv.unpinned));
      held = λ other. held_then other c.args.heap.now.vnodes c.loop-self.heap.vnodes c.drop_at-slot.new.heap.vnodes (inv.held other) (c.drop_at-slot.ensures.held other);
      paid = IsPaid-trans c.args.heap.now c.args.purse.now c.loop-self.heap c.loop-self.purse c.drop_at-slot.new.heap c.drop_at-slot.new.purse inv.paid c.drop_at-slot.ensures.paid;
      heap = search rules;
      purse = search rules;
      cache = search rules;
      left = search rules;
      loose = search rules;
      objects = search rules;
      pairs = search rules;
    }
