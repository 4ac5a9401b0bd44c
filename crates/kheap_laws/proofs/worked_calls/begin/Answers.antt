use Rattle.std.proofs.Common.{◌≡◌, ℕ, [], ◌∷◌, None, Some, replicate, set, refl, sym, ap, ◌∙◌, arith}
use Rattle.kheap_slabs.specs.Objects.{object, put}
use Rattle.kheap_slabs.specs.declared.objects.Node.{Node}
use Rattle.kheap_slabs.specs.declared.objects.PageEntry.TheVariants as entry
use Rattle.kheap_slabs.specs.Heap.{Heap}
use Rattle.kheap_slabs.specs.Keys.{Splits}
use Rattle.kheap_slabs.specs.Owners.{Owners, with_space, IsOwned}
use Rattle.kheap_slabs.specs.Spaces.{mapped_count, names_in}
use Rattle.kheap_laws.proofs.OwnerLemmas.{IsOwned-space_joins, IsOwned-space_changes, SpaceChanges-comes}
use Rattle.kheap_laws.proofs.SpaceLemmas.{IsCounted-comes}
use Rattle.kheap_laws.proofs.worked_calls.begin.Goals as goal

abbrev first_node : Node
first_node = record { entries = set (set (set (replicate 64 entry.Unmapped) 0 entry.Zero) 1 entry.Zero) 2 entry.Zero }

three_mapped : mapped_count first_node ≡ 3
three_mapped = refl

none_named : (page : ℕ) → names_in page (Some first_node) ≡ 0
none_named page = refl

alone : (key : ℕ) → Splits (key ∷ []) key []
alone key = record { before = []; after = []; whole_is = refl; rest_is = refl }

begun : (old new : Heap) (owners : Owners) (key : ℕ) → object old.nodes key ≡ None → object new.nodes key ≡ Some first_node → new ≡ record old { nodes = put old.nodes key first_node; high = new.high } → IsOwned old owners → IsOwned new (with_space (Some key ∷ []) owners)
begun old new owners key vacant stored kept owned =
    let nodes = ap (λ (h : Heap). h.nodes) kept in
    let pages = ap (λ (h : Heap). h.pages) kept in
    let joined = IsOwned-space_joins old owners [] refl owned in
    let counted = IsCounted-comes old.nodes old.pages old.pages key first_node vacant (ap (λ list. object list key) (sym nodes) ∙ stored) (λ page. omega (arith, none_named page)) owned.pages.named owned.pages in
    IsOwned-space_changes old new owners [] (Some key ∷ []) (SpaceChanges-comes old new owners [] (Some key ∷ []) key first_node (alone key) vacant stored (omega (arith, three_mapped)) nodes (ap (λ (h : Heap). h.chunks) kept) (rw (nodes, pages) counted) joined) joined

pub returns-clause-owners : goal.returns-clause-owners
returns-clause-owners c owners owned =
    begun c.args.heap.now c.insert_node-key.new.self owners c.insert_node-key.result c.insert_node-key.ensures.vacant c.insert_node-key.ensures.stored c.insert_node-key.ensures.kept owned

pub returns-clause-node : goal.returns-clause-node
returns-clause-node c = c.insert_node-key.ensures.stored
