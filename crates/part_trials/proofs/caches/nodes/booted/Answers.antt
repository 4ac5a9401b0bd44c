use Rattle.std.proofs.Common.{◌/◌, nat_eq, sym, ap, ◌∙◌, subst}
use Rattle.kabi_types.specs.Class.{size}
use Rattle.kabi_types.specs.declared.classes.Class.TheVariants as class
use Rattle.kheap_slabs.specs.declared.objects.Vnode.{Vnode}
use Rattle.vnode_cache.specs.Nodes.{KeepsNodes}
use Rattle.vnode_cache.proofs.LooseLemmas.{loose_empty}
use Rattle.cache_laws.proofs.KeepsLemmas.{keeps_none}
use Rattle.part_trials.proofs.caches.nodes.booted.Goals as goal

pub returns : goal.returns
returns c =
    let empty = ap (λ h. h.vnodes) c.in_ok-heap.ensures.empty in
    subst (KeepsNodes c.in_ok-heap.heap.vnodes) (sym c.in_ok-cache.ensures.empty) (record {
      kept = keeps_none nat_eq (λ (v : Vnode). v.number) (65536 / size class.Vnode) c.args.capacity c.in_ok-heap.heap.vnodes empty;
      loose = sym (loose_empty c.in_ok-heap.heap.vnodes (65536 / size class.Vnode) empty);
    })
