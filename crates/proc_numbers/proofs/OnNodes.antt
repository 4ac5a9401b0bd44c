-- Whether a number is open on a node, told by its Desc.
use Rattle.std.proofs.Common.{◌≡◌, ℕ, ℤ, true, false, IsSome, Option, None, Some, is_some, refl, ap, sym, subst, ◌∙◌}
use Rattle.kheap_slabs.specs.Objects.{object}
use Rattle.kheap_slabs.specs.declared.objects.Desc.{Desc}
use Rattle.kheap_slabs.specs.declared.objects.Descriptor.{Descriptor as HeldDescriptor}
use Rattle.kheap_slabs.specs.declared.objects.Target.{Target}
use Rattle.kheap_slabs.specs.declared.objects.Target.TheVariants as target
use Rattle.kheap_slabs.specs.Heap.{Heap}
use Rattle.open_laws.specs.Described.{inode_in, target_in}
use Rattle.open_laws.specs.Placed.{Numbers}
use Rattle.proc_table.specs.Table.{TableView}
use Rattle.proc_table.proofs.PlaceLemmas.{some_same}
use Rattle.proc_numbers.specs.Found.{IsOffNodes, IsOnNode, number_in}
use Rattle.proc_numbers.specs.Naming.{named_by}

pub tells_target : (numbers : Numbers) (what : Target) → is_some (inode_in what) ≡ is_some (number_in (target_in numbers what))
tells_target numbers (target.Inode number) = refl
tells_target numbers (target.Pipe key) = refl
tells_target numbers (target.Sock key) = refl

pub on_named_node : (h : Heap) (kept : TableView) (pid : ℕ) (fd : ℤ) (held : HeldDescriptor) (desc : Desc) → named_by h kept pid fd ≡ Some held → object h.descs held.desc ≡ Some desc
    → IsSome (inode_in desc.target) → IsOnNode h kept pid fd
on_named_node h kept pid fd held desc is there on = λ also found also_is found_there.
    let same = some_same (named_by h kept pid fd) held also is also_is in
    subst (λ (d : Desc). IsSome (inode_in d.target))
    (some_same (object h.descs held.desc) desc found there (ap (λ (d : HeldDescriptor). object h.descs d.desc) same ∙ found_there)) on

none_so : {X : Type 0} (o : Option X) → is_some o ≡ false → o ≡ None
none_so None is = refl
none_so (Some x) is = absurd (let both : true ≡ false = is in cc)

pub off_named_node : (h : Heap) (kept : TableView) (pid : ℕ) (fd : ℤ) (held : HeldDescriptor) (desc : Desc) → named_by h kept pid fd ≡ Some held → object h.descs held.desc ≡ Some desc
    → is_some (inode_in desc.target) ≡ false → IsOffNodes h kept pid fd
off_named_node h kept pid fd held desc is there off = λ also found also_is found_there.
    let same = some_same (named_by h kept pid fd) held also is also_is in
    subst (λ (d : Desc). inode_in d.target ≡ None)
    (some_same (object h.descs held.desc) desc found there (ap (λ (d : HeldDescriptor). object h.descs d.desc) same ∙ found_there)) (none_so (inode_in desc.target) off)

-- what isn't open is open on nothing
pub off_unnamed : (h : Heap) (kept : TableView) (pid : ℕ) (fd : ℤ) → named_by h kept pid fd ≡ None → IsOffNodes h kept pid fd
off_unnamed h kept pid fd none = λ held desc is there. absurd (let both : None ≡ Some held = sym none ∙ is in cc)
