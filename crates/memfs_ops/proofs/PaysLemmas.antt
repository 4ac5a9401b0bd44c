-- What a call leaves of all else, where it does nothing.
use Rattle.std.proofs.Common.{◌≡◌, ℕ, ◌+◌, ◌≤◌, Option, IsSome, refl, sym, ap, ◌∙◌, subst, le_refl, le_trans}
use Rattle.kheap_slabs.specs.Objects.{put}
use Rattle.kheap_slabs.specs.declared.objects.Vnode.{Vnode}
use Rattle.kheap_slabs.proofs.ObjectLemmas.{InUse-put}
use Rattle.kheap_slabs.specs.Purse.{Purse}
use Rattle.kheap_slabs.specs.Heap.{Heap}
use Rattle.kheap_slabs.specs.Paid.{HasFills, TakesNothing}
use Rattle.kheap_laws.proofs.PaidLemmas.{IsPaid-refl, IsPaid-trans, IsPaid-nothing}
use Rattle.kheap_laws.proofs.FillLemmas.{AreFills-kept}
use Rattle.vnode_cache.specs.Nodes.{KeepsNodes, node_slot}
use Rattle.vnode_cache.specs.Calls.{NodeSet}
use Rattle.cached_disk.specs.TreeLent.{with_cached}
use Rattle.memfs_ops.specs.FileTree.{TreeView, IsUsed, Pays}
use Rattle.memfs_ops.proofs.PinLemmas.{cached_as}

pub pays_nothing : (heap : Heap) (purse : Purse) (fs : TreeView) → HasFills heap purse → Pays heap heap purse purse fs fs
pays_nothing heap purse fs fills = record {
  only = refl;
  purse = refl;
  paid = IsPaid-refl heap purse;
  fills = fills;
  reads = le_refl _;
}

-- what it leaves of all else, where before it an inode was used
pub pays_used : (old new : Heap) (before after : Purse) (was mid is : TreeView) → IsUsed was mid → Pays old new before after mid is → Pays old new before after was is
pays_used old new before after was mid is used pays = record {
  only = pays.only;
  purse = pays.purse;
  paid = pays.paid;
  fills = pays.fills;
  reads = subst (λ (v : TreeView). v.disk.reads ≤ is.disk.reads) used.same pays.reads;
}

-- one call after the other
pub pays_on : (first second third : Heap) (one two three : Purse) (a b c : TreeView) → Pays first second one two a b → Pays second third two three b c → Pays first third one three a c
pays_on first second third one two three a b c former latter = record {
  only = latter.only ∙ ap (λ (h : Heap). record h { vnodes = third.vnodes; names = third.names; blocks = third.blocks; high = third.high }) former.only;
  purse = latter.purse ∙ ap (λ (p : Purse). with_cached p three) former.purse;
  paid = IsPaid-trans first one second two third three former.paid latter.paid;
  fills = latter.fills;
  reads = le_trans former.reads latter.reads;
}

-- where one more holds a node at its end
pub pays_held : (old new last : Heap) (before after : Purse) (was is end : TreeView) (number : ℕ) → Pays old new before after was is → KeepsNodes new.vnodes is.vnodes → IsSome (node_slot is.vnodes number) → NodeSet number (λ w. record w { pins = w.pins + 1 }) new last is.vnodes end.vnodes → TakesNothing new last → end.disk.reads ≡ is.disk.reads
    → Pays old last before after was end
pays_held old new last before after was is end number pays keeps some set takes reads =
    let at = cached_as new.vnodes is.vnodes number keeps some in
    let here = set at.slot at.vnode at.there at.is in
    let used = subst (λ (o : Option Vnode). IsSome o) (sym at.is) refl in
    let held : Vnode = record at.vnode { pins = at.vnode.pins + 1 } in
    let e : last ≡ record old { vnodes = put new.vnodes at.slot held; names = new.names; blocks = new.blocks; high = new.high } = here ∙ ap (λ (h : Heap). record h { vnodes = put new.vnodes at.slot held }) pays.only in
    record {
      only = e ∙ ap (λ (h : Heap). record old { vnodes = h.vnodes; names = h.names; blocks = h.blocks; high = h.high }) (sym e);
      purse = pays.purse;
      paid = IsPaid-trans old before new after last after pays.paid (IsPaid-nothing new last after after takes refl refl);
      fills = subst (λ (h : Heap). HasFills h after) (sym here) (record {
        vnodes = AreFills-kept new.vnodes (put new.vnodes at.slot held) after.vnodes after.left.vnode after.need.vnode (λ key there is_used. InUse-put new.vnodes at.slot held key used is_used) pays.fills.vnodes;
        names = pays.fills.names;
        blocks = pays.fills.blocks;
      });
      reads = subst (λ n. was.disk.reads ≤ n) (sym reads) pays.reads;
    }
