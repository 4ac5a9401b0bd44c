-- What a read of a node reads of the disk, and what it leaves cached.
use Rattle.std.proofs.Common.{◌≡◌, ℕ, ◌+◌, ◌-◌, ◌/◌, ◌<◌, ℤ, Some, ap, refl, subst, sym, ◌∙◌}
use Rattle.std.specs.List.{AllByRecursion}
use Rattle.kabi_types.specs.declared.inodes.Inode.{Inode}
use Rattle.kheap_slabs.specs.Objects.{object}
use Rattle.kheap_slabs.specs.declared.objects.Desc.{Desc}
use Rattle.kheap_slabs.specs.declared.objects.Descriptor.{Descriptor as HeldDescriptor}
use Rattle.kheap_slabs.specs.declared.objects.Target.TheVariants as target
use Rattle.kheap_slabs.specs.Heap.{Heap}
use Rattle.memfs_file.specs.Ranges.{asked_to_read}
use Rattle.cached_disk.specs.Lent.{IsCached}
use Rattle.memfs_ops.specs.FileTree.{IsUsed, TreeView}
use Rattle.open_laws.specs.Described.{inode_in}
use Rattle.posix_defs.specs.DiskContents.{data_block}
use Rattle.posix_defs.specs.DiskFormat.{block_size}
use Rattle.posix_defs.specs.SoundDisk.{HasNode}
use Rattle.proc_table.specs.Table.{TableView}
use Rattle.proc_numbers.specs.Naming.{named_by}
use Rattle.proc_table.proofs.PlaceLemmas.{some_same}
use Rattle.proc_numbers.specs.Found.{IsNamed}
use Rattle.proc_numbers.specs.declared.lookups.Found.{Found}
use Rattle.proc_files.specs.Reading.{KeepsRead, SavesRead}

module _ (h : Heap) (kept : TableView) (pid : ℕ) (fd : ℤ) (was mid : TreeView) (used : IsUsed was mid) where
  -- an inode alone was asked for
  pub saves_used : (at : Desc → ℕ) (count : ℕ) → SavesRead h kept pid fd was mid at count
  saves_used at count = λ held desc number inode named there on has cached. ap (λ (fs : TreeView). fs.disk) used.same

  -- and then bytes
  pub saves_read : (is : TreeView) (it : Found) (node : ℕ) → IsNamed h kept pid fd it → object h.descs it.key ≡ Some it.desc → it.desc.target ≡ target.Inode node → (at : Desc → ℕ) (place count : ℕ) → place ≡ at it.desc
      → ((inode : Inode) → HasNode mid.disk.blocks node inode → AllByRecursion (IsCached mid.blocks) (asked_to_read mid.disk.blocks inode place count) → is.disk ≡ mid.disk)
      → SavesRead h kept pid fd was is at count
  saves_read is it node named there on at place count begins saved = λ held desc number inode named_too there_too on_too has cached.
      let same_held : named.held ≡ held = some_same (named_by h kept pid fd) named.held held named.is named_too in
      let key : held.desc ≡ it.key = sym (ap (λ (d : HeldDescriptor). d.desc) same_held) ∙ named.same in
      let same : desc ≡ it.desc = some_same (object h.descs it.key) desc it.desc (ap (object h.descs) (sym key) ∙ there_too) there in
      let node_same : number ≡ node = some_same (Some number) number node refl (ap inode_in (sym on_too ∙ ap (λ (d : Desc). d.target) same ∙ on)) in
      let has_mid = subst (λ n. HasNode mid.disk.blocks n inode) node_same (subst (λ (fs : TreeView). HasNode fs.disk.blocks number inode) (sym used.same) has) in
      let cached_mid =
      subst (λ n. AllByRecursion (IsCached mid.blocks) (asked_to_read mid.disk.blocks inode n count)) (ap at same ∙ sym begins)
      (subst (λ (fs : TreeView). AllByRecursion (IsCached fs.blocks) (asked_to_read fs.disk.blocks inode (at desc) count)) (sym used.same) cached) in
      saved inode has_mid cached_mid ∙ ap (λ (fs : TreeView). fs.disk) used.same

  -- the block of the last byte that was read is cached
  pub keeps_read : (is : TreeView) (it : Found) (node : ℕ) → IsNamed h kept pid fd it → object h.descs it.key ≡ Some it.desc → it.desc.target ≡ target.Inode node → (at : Desc → ℕ) (place count : ℕ) → place ≡ at it.desc
      → ((inode : Inode) → HasNode mid.disk.blocks node inode → 0 < count → IsCached is.blocks (data_block mid.disk.blocks inode ((place + count - 1) / block_size)))
      → KeepsRead h kept pid fd was is at count
  keeps_read is it node named there on at place count begins last = λ held desc number inode named_too there_too on_too has some.
      let same_held : named.held ≡ held = some_same (named_by h kept pid fd) named.held held named.is named_too in
      let key : held.desc ≡ it.key = sym (ap (λ (d : HeldDescriptor). d.desc) same_held) ∙ named.same in
      let same : desc ≡ it.desc = some_same (object h.descs it.key) desc it.desc (ap (object h.descs) (sym key) ∙ there_too) there in
      let node_same : number ≡ node = some_same (Some number) number node refl (ap inode_in (sym on_too ∙ ap (λ (d : Desc). d.target) same ∙ on)) in
      let has_mid = subst (λ n. HasNode mid.disk.blocks n inode) node_same (subst (λ (fs : TreeView). HasNode fs.disk.blocks number inode) (sym used.same) has) in
      subst (λ (d : Desc). IsCached is.blocks (data_block was.disk.blocks inode ((at d + count - 1) / block_size))) (sym same)
      (subst (λ n. IsCached is.blocks (data_block was.disk.blocks inode ((n + count - 1) / block_size))) begins
      (subst (λ (fs : TreeView). IsCached is.blocks (data_block fs.disk.blocks inode ((place + count - 1) / block_size))) used.same (last inode has_mid some)))
