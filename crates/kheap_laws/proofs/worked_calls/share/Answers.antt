use Rattle.std.proofs.Common.{◌≡◌, ℕ, ◌+◌, ◌<◌, List, Option, Some, length, set, get_or, refl, ap, sym, subst, ◌∙◌, inl, inr, arith, Contains}
use Rattle.std.proofs.lemmas.Bool.Decides.{eqb_tells}
use Rattle.kheap_slabs.specs.Objects.{object, put}
use Rattle.kheap_slabs.specs.declared.objects.Node.{Node}
use Rattle.kheap_slabs.specs.declared.objects.Page.{Page}
use Rattle.kheap_slabs.specs.declared.objects.PageEntry.TheVariants as entry
use Rattle.kheap_slabs.specs.Heap.{Heap}
use Rattle.kheap_slabs.specs.Owners.{Owners, with_space, IsOwned}
use Rattle.kheap_slabs.specs.Spaces.{keys_in, page_count, mapped_count, count_at, names_page, CountRises, EntryChanges}
use Rattle.kheap_slabs.proofs.ObjectLemmas.{InUse-within, InUse-put, object-put}
use Rattle.kheap_laws.proofs.OwnerLemmas.{IsOwned-space_changes, SpaceChanges-sets}
use Rattle.kheap_laws.proofs.PaidLemmas.{TakesNothing-trans}
use Rattle.kheap_laws.proofs.SpaceLemmas.{IsCounted-most, IsCounted-names, CountRises-set, KeepsBytes-count, mapped_count-entry}
use Rattle.kheap_laws.proofs.worked_calls.share.Goals as goal

-- the node and the page of the new heap
record Shared (old new : Heap) (key at page : ℕ) (node : Node) (frame : Page) : Type 0 where
  nodes : new.nodes ≡ put old.nodes key (record node { entries = set node.entries at (entry.Frame page) })
  pages : new.pages ≡ put old.pages page (record frame { count = frame.count + 1 })
  chunks : new.chunks ≡ old.chunks

shared : (old mid new : Heap) (key at page : ℕ) (node : Node) (frame : Page) → object old.pages page ≡ Some frame → mid ≡ record old { nodes = put old.nodes key (record node { entries = set node.entries at (entry.Frame page) }) } → ((q : Page) → object mid.pages page ≡ Some q → new ≡ record mid { pages = put mid.pages page (record q { count = frame.count + 1 }) }) → Shared old new key at page node frame
shared old mid new key at page node frame is first second =
    let pages : mid.pages ≡ old.pages = ap (λ (h : Heap). h.pages) first in
    let last = second frame (rw pages is) in
    record {
      nodes = ap (λ (h : Heap). h.nodes) last ∙ ap (λ (h : Heap). h.nodes) first;
      pages = ap (λ (h : Heap). h.pages) last ∙ rw pages refl;
      chunks = ap (λ (h : Heap). h.chunks) last ∙ ap (λ (h : Heap). h.chunks) first;
    }

-- the change of the entry
change : (old new : Heap) (key at page : ℕ) (node : Node) (frame : Page) → Shared old new key at page node frame → object old.nodes key ≡ Some node → at < length node.entries → get_or node.entries at entry.Zero ≡ entry.Zero → EntryChanges old.nodes new.nodes entry.Zero (entry.Frame page)
change old new key at page node frame shares is within zero = record {
  key = key;
  at = at;
  node = node;
  changed = record node { entries = set node.entries at (entry.Frame page) };
  is = is;
  within = within;
  was_there = zero;
  written = refl;
  stored = shares.nodes;
}

pub overflow_add-count : goal.overflow_add-count
overflow_add-count c =
    let small = IsCounted-most c.args.heap.now c.args.page c.heap-limit.ensures.well_formed c.requires.owned.1.pages in
    let named : page_count (object c.args.heap.now.pages c.args.page) ≡ c.get_page.result.now.count = ap page_count c.get_page.ensures in
    omega (arith, small, named, c.heap-limit.ensures.well_formed.limit)

pub returns-clause-node : goal.returns-clause-node
returns-clause-node c node is =
    let shares = shared c.args.heap.now c.set_node.new.self c.set_page_count.new.self c.args.key c.args.at c.args.page c.get_node.result.now c.get_page.result.now c.get_page.ensures c.set_node.ensures.kept c.set_page_count.ensures.kept in
    let one : node ≡ c.get_node.result.now = let there = c.get_node.ensures in grind arith in
    rw (one, shares.nodes) (object-put c.args.heap.now.nodes c.args.key _ (InUse-within c.args.heap.now.nodes c.args.key (rw is refl)))

pub returns-clause-pages : goal.returns-clause-pages
returns-clause-pages c other used =
    let shares = shared c.args.heap.now c.set_node.new.self c.set_page_count.new.self c.args.key c.args.at c.args.page c.get_node.result.now c.get_page.result.now c.get_page.ensures c.set_node.ensures.kept c.set_page_count.ensures.kept in
    rw shares.pages (InUse-put c.args.heap.now.pages c.args.page _ other c.requires.used used)

pub returns-clause-bytes : goal.returns-clause-bytes
returns-clause-bytes c =
    let shares = shared c.args.heap.now c.set_node.new.self c.set_page_count.new.self c.args.key c.args.at c.args.page c.get_node.result.now c.get_page.result.now c.get_page.ensures c.set_node.ensures.kept c.set_page_count.ensures.kept in
    rw shares.pages (KeepsBytes-count c.args.heap.now.pages c.args.page c.get_page.result.now (record c.get_page.result.now { count = c.get_page.result.now.count + 1 }) c.get_page.ensures refl)

named_more : (old new : List (Option Page)) (page other : ℕ) → CountRises old new page → count_at new other ≡ count_at old other + names_page other (entry.Frame page)
named_more old new page other rises = elim (eqb_tells page other) [
  | inl is ↦ rw is.0 (subst (λ key. count_at new key ≡ count_at old key + 1) is.1 rises.more)
  | inr is ↦ rw is.0 (ap page_count (rises.others other (λ same. is.1 (sym same))) ∙ sym (plus_none (count_at old other)))
]
  where
    plus_none : (n : ℕ) → n + 0 ≡ n
    plus_none n = omega arith

pub returns-clause-counts : goal.returns-clause-counts
returns-clause-counts c other =
    let shares = shared c.args.heap.now c.set_node.new.self c.set_page_count.new.self c.args.key c.args.at c.args.page c.get_node.result.now c.get_page.result.now c.get_page.ensures c.set_node.ensures.kept c.set_page_count.ensures.kept in
    let rises = CountRises-set c.args.heap.now.pages c.args.page c.get_page.result.now (record c.get_page.result.now { count = c.get_page.result.now.count + 1 }) c.get_page.ensures refl in
    named_more c.args.heap.now.pages c.set_page_count.new.self.pages c.args.page other (rw shares.pages rises)

pub returns-clause-takes : goal.returns-clause-takes
returns-clause-takes c = TakesNothing-trans c.args.heap.now c.set_node.new.self c.set_page_count.new.self c.set_node.ensures.takes c.set_page_count.ensures.takes

owned_still : (old new : Heap) (owners : Owners) (space : List (Option ℕ)) (key at page : ℕ) (node : Node) (frame : Page) → Shared old new key at page node frame → object old.nodes key ≡ Some node → object old.pages page ≡ Some frame → at < length node.entries → get_or node.entries at entry.Zero ≡ entry.Zero → Contains (keys_in space) key → IsOwned old (with_space space owners) → IsOwned new (with_space space owners)
unfolding change
owned_still old new owners space key at page node frame shares is there within zero mine owned =
    let changes = change old new key at page node frame shares is within zero in
    let mapped : mapped_count (record node { entries = set node.entries at (entry.Frame page) }) + 1 ≡ mapped_count node + 1 = mapped_count-entry old.nodes new.nodes entry.Zero (entry.Frame page) changes in
    let rises = CountRises-set old.pages page frame (record frame { count = frame.count + 1 }) there refl in
    let counted = IsCounted-names old.nodes new.nodes old.pages new.pages entry.Zero page changes tt (rw shares.pages rises) owned.pages in
    IsOwned-space_changes old new owners space space (SpaceChanges-sets old new owners space key (record node { entries = set node.entries at (entry.Frame page) }) mine (omega (arith, mapped, owned.mapped key node is)) shares.nodes shares.chunks counted owned) owned

pub returns-clause-owners : goal.returns-clause-owners
returns-clause-owners c owners space mine owned =
    let shares = shared c.args.heap.now c.set_node.new.self c.set_page_count.new.self c.args.key c.args.at c.args.page c.get_node.result.now c.get_page.result.now c.get_page.ensures c.set_node.ensures.kept c.set_page_count.ensures.kept in
    let long = c.heap-limit.ensures.well_formed.entries c.args.key c.get_node.result.now c.get_node.ensures in
    owned_still c.args.heap.now c.set_page_count.new.self owners space c.args.key c.args.at c.args.page c.get_node.result.now c.get_page.result.now shares c.get_node.ensures c.get_page.ensures (omega (arith, long, c.requires.within)) (rw c.get_node.ensures at c.requires.zero) mine owned
