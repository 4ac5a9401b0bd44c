use Rattle.std.proofs.Common.{ℕ, Contains, sym, ◌∙◌, subst, inl, inr, arith}
use Rattle.kheap_slabs.specs.Objects.{InUse}
use Rattle.vnode_cache.specs.Nodes.{SomeLoose, IsFirstLoose}
use Rattle.vnode_cache.proofs.cache.VnodeCache.make_room.Goals as goal

pub first_loose-at-requires-clause-used : goal.first_loose-at-requires-clause-used
first_loose-at-requires-clause-used c = subst (λ l. (slot : ℕ) → Contains l slot → InUse c.args.heap.now.vnodes slot) (sym c.fills.ensures) c.requires.fills.used

pub first_loose-at-requires-clause-some : goal.first_loose-at-requires-clause-some
first_loose-at-requires-clause-some c = subst (SomeLoose c.args.heap.now.vnodes) (sym c.fills.ensures) (elim c.requires.may [ inl m ↦ absurd (omega (arith, m.0, c.left.ensures, c.if-left-ne0.false)) | inr m ↦ m.1 ])

pub drop_at-slot-requires-clause-at : goal.drop_at-slot-requires-clause-at
drop_at-slot-requires-clause-at c = (subst (λ l. IsFirstLoose c.args.heap.now.vnodes l c.first_loose-at.result) c.fills.ensures c.first_loose-at.ensures).within

pub drop_at-slot-requires-clause-loose : goal.drop_at-slot-requires-clause-loose
drop_at-slot-requires-clause-loose c = (subst (λ l. IsFirstLoose c.args.heap.now.vnodes l c.first_loose-at.result) c.fills.ensures c.first_loose-at.ensures).loose

pub returns-clause-made : goal.returns-clause-made
returns-clause-made c = record {
  enough = λ some. absurd (some (sym c.left.ensures ∙ c.if-left-ne0.false));
  none = λ e. (c.first_loose-at.result, subst (λ l. IsFirstLoose c.args.heap.now.vnodes l c.first_loose-at.result) c.fills.ensures c.first_loose-at.ensures, c.drop_at-slot.ensures.dropped);
}
