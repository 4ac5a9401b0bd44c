-- Who owns what is open, while descriptors come and go.
use Rattle.std.proofs.Common.{◌≡◌, ◌+◌, ◌<◌, ℕ, List, ◌∷◌, Option, None, Some, IsSome, refl, sym, ap, subst, ◌∙◌, arith}
use Rattle.kheap_slabs.specs.Objects.{object, InUse}
use Rattle.kheap_slabs.specs.declared.objects.Desc.{Desc}
use Rattle.kheap_slabs.specs.Heap.{Heap}
use Rattle.open_laws.specs.Owned.{HasItsOwners, all_namings, desc_count, desc_count_at}
use Rattle.open_laws.proofs.GoingLemmas.{droppable}
use Rattle.open_laws.proofs.OwnerLemmas.{owners_dropped, owners_shared}
use Rattle.open_laws.proofs.RelinkedLemmas.{owners_relinked}
use Rattle.open_laws.proofs.ShareLemmas.{owners_all}
use Rattle.desc_table.specs.Going.{AreAlike, Goes, begins, closes, dups, forks, relinks}

-- the order of what is in hand says nothing
pub owners_alike : (h : Heap) (hand others : List ℕ) → AreAlike hand others → HasItsOwners h hand → HasItsOwners h others
owners_alike h hand others same owners = record {
  objects = owners.objects;
  named = record { counts = λ key. owners.named.counts key ∙ ap (λ n. all_namings h key + n) (same key); named = owners.named.named };
  held = owners.held;
}

pub owners_on : {first : Heap} {had : List ℕ} {new : Heap} {hand : List ℕ} → Goes first had new hand → HasItsOwners first had → HasItsOwners new hand
owners_on begins owners = owners
owners_on (dups old new hand key desc goes is same) owners = rw same (owners_shared old hand key desc is (owners_on goes owners))
owners_on (forks old new hand places goes can same) owners = rw same (owners_all old hand places can (owners_on goes owners))
owners_on (closes old new hand left key desc goes alike is drops procs leaves owns) owners =
    let before : HasItsOwners old (key ∷ left) = owners_alike old hand (key ∷ left) alike (owners_on goes owners) in
    owners_dropped old new left key desc is (droppable old left key before) drops procs leaves owns before
owners_on (relinks old new hand goes relinked) owners = owners_relinked old new relinked hand (owners_on goes owners)

-- what counts a descriptor is there
pub counted_there : (h : Heap) (key : ℕ) → 0 < desc_count_at h.descs key → InUse h.descs key
counted_there h key some = go (object h.descs key) refl
  where
    go : (o : Option Desc) → object h.descs key ≡ o → InUse h.descs key
    go None none = absurd (let zero : desc_count_at h.descs key ≡ 0 = ap desc_count none in omega (arith, some, zero))
    go (Some desc) is = subst IsSome (sym is) refl
