use Rattle.std.proofs.Common.{◌∷◌, ◌+◌, sym, subst, refl}
use Rattle.kheap_slabs.specs.Objects.{put}
use Rattle.kheap_slabs.specs.Heap.{Heap}
use Rattle.kheap_slabs.specs.Owners.{OwnsItsObjects}
use Rattle.kheap_laws.proofs.TableLemmas.{OwnsItsObjects-along}
use Rattle.open_laws.specs.Described.{after_share}
use Rattle.open_laws.specs.Open.{AreOpen}
use Rattle.open_laws.specs.Owned.{HasItsOwners}
use Rattle.open_laws.specs.Described.{counting}
use Rattle.open_laws.proofs.DropLemmas.{open_shared}
use Rattle.open_laws.proofs.OwnerLemmas.{owners_shared}
use Rattle.desc_table.proofs.descriptions.share_desc.Goals as goal

pub returns-clause-opened : goal.returns-clause-opened
returns-clause-opened c = λ numbers list files are.
    subst (λ (h : Heap). AreOpen numbers h (after_share list (numbers.descs c.args.desc)) files) (sym c.set_desc.ensures.kept)
    (open_shared numbers c.args.heap.now list files c.args.desc c.get_desc-found.result.now c.get_desc-found.ensures are)

pub returns-clause-owners : goal.returns-clause-owners
returns-clause-owners c = λ hand owners.
    subst (λ (h : Heap). HasItsOwners h (c.args.desc ∷ hand)) (sym c.set_desc.ensures.kept)
    (owners_shared c.args.heap.now hand c.args.desc c.get_desc-found.result.now c.get_desc-found.ensures owners)

pub returns-clause-owned : goal.returns-clause-owned
returns-clause-owned c = λ owned.
    subst (λ (h : Heap). OwnsItsObjects h) (sym c.set_desc.ensures.kept)
    (OwnsItsObjects-along c.args.heap.now (record c.args.heap.now { descs = put c.args.heap.now.descs c.args.desc (counting c.get_desc-found.result.now (c.get_desc-found.result.now.count + 1)) }) refl refl refl refl refl refl owned)
