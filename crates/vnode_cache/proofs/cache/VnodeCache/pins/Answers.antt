use Rattle.std.proofs.Common.{eqb-true}
use Rattle.std.specs.Cmp.{nat_eq_equiv}
use Rattle.kheap_slabs.specs.declared.objects.Vnode.{Vnode}
use Rattle.cache_laws.proofs.KeepsLemmas.{keeps_used}
use Rattle.vnode_cache.proofs.cache.VnodeCache.pins.Goals as goal

pub get_vnode-requires : goal.get_vnode-requires
get_vnode-requires c = keeps_used nat_eq_equiv eqb-true (λ (v : Vnode). v.number) c.args.heap.now.vnodes c.args.self.now.order c.args.number c.slot_of-slot.result c.requires.keeps.kept c.slot_of-slot.ensures
