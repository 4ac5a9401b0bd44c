use Rattle.std.proofs.Common.{◌≡◌, ℕ, sym, ap, subst, refl, ◌∙◌, arith}
use Rattle.kabi_types.specs.declared.classes.Class.TheVariants as class
use Rattle.kheap_slabs.specs.Objects.{without}
use Rattle.kheap_slabs.specs.declared.objects.Desc.{Desc}
use Rattle.kheap_slabs.specs.Heap.{Heap}
use Rattle.kheap_slabs.specs.Owners.{OwnsItsObjects}
use Rattle.kheap_laws.proofs.PaidLemmas.{TakesNothing-trans, TakesNothing-freed}
use Rattle.kheap_laws.proofs.TableLemmas.{OwnsItsObjects-along}
use Rattle.pipe_ends.specs.Links.{link_at}
use Rattle.open_laws.specs.Closing.{ClosesLinks, Drops, DropsLinks, IsClosable, QueuesChange, TargetCloses}
use Rattle.open_laws.specs.Described.{descs_left, node_in, node_left}
use Rattle.open_laws.proofs.CloseLemmas.{described, closable_without, closes_with, change_with_descs, links_with}
use Rattle.open_laws.proofs.DescribedLemmas.{one_desc, counts_alike, node_more, node_last, left_last}
use Rattle.open_laws.proofs.OwnerLemmas.{owners_dropped}
use Rattle.open_laws.proofs.DropLemmas.{open_dropped, drops_more, drops_last}
use Rattle.desc_table.proofs.descriptions.drop_desc.Goals as goal

-- ---- another descriptor names it

pub returns-then-found-gt1-clause-node : goal.returns-then-found-gt1-clause-node
returns-then-found-gt1-clause-node c = λ found is.
    let same = counts_alike c.args.heap.now.descs c.args.desc c.get_desc-found.result.now found c.get_desc-found.ensures is in
    sym (node_more c.args.heap.now.pipes found (omega (arith, same)))

pub returns-then-found-gt1-clause-drops : goal.returns-then-found-gt1-clause-drops
returns-then-found-gt1-clause-drops c = λ found is.
    subst (λ (d : Desc). Drops c.args.heap.now c.name_less.new.heap c.args.desc d)
    (one_desc c.args.heap.now.descs c.args.desc c.get_desc-found.result.now found c.get_desc-found.ensures is)
    (drops_more c.args.heap.now c.name_less.new.heap c.args.desc c.get_desc-found.result.now (omega arith) c.name_less.ensures.left)

pub returns-then-found-gt1-clause-opened : goal.returns-then-found-gt1-clause-opened
returns-then-found-gt1-clause-opened c = λ numbers list files are.
    open_dropped numbers c.args.heap.now c.name_less.new.heap list files c.args.desc c.get_desc-found.result.now c.get_desc-found.ensures c.requires.there
    (drops_more c.args.heap.now c.name_less.new.heap c.args.desc c.get_desc-found.result.now (omega arith) c.name_less.ensures.left) are

pub returns-then-found-gt1-clause-owned : goal.returns-then-found-gt1-clause-owned
returns-then-found-gt1-clause-owned c =
    subst (λ (h : Heap). OwnsItsObjects h) (sym c.name_less.ensures.left)
    (OwnsItsObjects-along c.args.heap.now (described c.args.heap.now (descs_left c.args.heap.now.descs c.args.desc c.get_desc-found.result.now)) refl refl refl refl refl refl c.requires.owned)

pub returns-then-found-gt1-clause-kept : goal.returns-then-found-gt1-clause-kept
returns-then-found-gt1-clause-kept c =
    subst (λ (h : Heap). h ≡ record c.args.heap.now { descs = h.descs; pipes = h.pipes; chunks = h.chunks; socks = h.socks }) (sym c.name_less.ensures.left) refl

pub returns-then-found-gt1-clause-owners : goal.returns-then-found-gt1-clause-owners
returns-then-found-gt1-clause-owners c = λ hand owners.
    let left = descs_left c.args.heap.now.descs c.args.desc c.get_desc-found.result.now in
    let same = OwnsItsObjects-along c.args.heap.now (described c.args.heap.now left) refl refl refl refl refl refl c.requires.owned in
    owners_dropped c.args.heap.now c.name_less.new.heap hand c.args.desc c.get_desc-found.result.now c.get_desc-found.ensures c.requires.there
    (drops_more c.args.heap.now c.name_less.new.heap c.args.desc c.get_desc-found.result.now (omega arith) c.name_less.ensures.left)
    (ap (λ (h : Heap). h.procs) c.name_less.ensures.left) (ap (λ (h : Heap). h.leaves) c.name_less.ensures.left) (subst (λ (h : Heap). OwnsItsObjects h) (sym c.name_less.ensures.left) same) owners

-- ---- no other does

-- It is taken out, and then what it was open on is closed.
last_drops : (old mid new : Heap) (key : ℕ) (found : Desc) → found.count ≡ 1 → mid ≡ record old { descs = without old.descs key } → new.descs ≡ mid.descs
    → TargetCloses mid new found.access found.target → Drops old new key found
last_drops old mid new key found last kept same closes =
    drops_last old new key found last
    (same ∙ (ap (λ (h : Heap). h.descs) kept ∙ sym (left_last old.descs key found last)))
    (closes_with old new (without old.descs key) found.access found.target (subst (λ (h : Heap). TargetCloses h new found.access found.target) kept closes))

pub close_target-requires : goal.close_target-requires
close_target-requires c =
    let there = c.requires.there in
    let found = c.get_desc-found.result.now in
    let descs = without c.args.heap.now.descs c.args.desc in
    let closable = subst (λ (d : Desc). IsClosable c.args.heap.now d.access d.target) (one_desc c.args.heap.now.descs c.args.desc there.desc found there.there c.get_desc-found.ensures) there.closable in
    record {
      owned = subst (λ (h : Heap). OwnsItsObjects h) (sym c.free_desc-gone.ensures.kept)
          (OwnsItsObjects-along c.args.heap.now (described c.args.heap.now descs) refl refl refl refl refl refl c.requires.owned);
      there = subst (λ (h : Heap). IsClosable h found.access found.target) (sym c.free_desc-gone.ensures.kept)
          (closable_without c.args.heap.now descs found.access found.target closable);
    }

pub returns-clause-node : goal.returns-clause-node
returns-clause-node c = λ found is.
    let there = c.requires.there in
    let alike = counts_alike c.args.heap.now.descs c.args.desc c.get_desc-found.result.now there.desc c.get_desc-found.ensures there.there in
    c.close_target.ensures.node
    ∙ (ap (λ (h : Heap). node_in h.pipes c.get_desc-found.result.now.target) c.free_desc-gone.ensures.kept
    ∙ (sym (node_last c.args.heap.now.pipes c.get_desc-found.result.now (omega (arith, alike, there.named)))
    ∙ ap (node_left c.args.heap.now.pipes) (one_desc c.args.heap.now.descs c.args.desc c.get_desc-found.result.now found c.get_desc-found.ensures is)))

pub returns-clause-drops : goal.returns-clause-drops
returns-clause-drops c = λ found is.
    let there = c.requires.there in
    let alike = counts_alike c.args.heap.now.descs c.args.desc c.get_desc-found.result.now there.desc c.get_desc-found.ensures there.there in
    subst (λ (d : Desc). Drops c.args.heap.now c.close_target.new.heap c.args.desc d)
    (one_desc c.args.heap.now.descs c.args.desc c.get_desc-found.result.now found c.get_desc-found.ensures is)
    (last_drops c.args.heap.now c.free_desc-gone.new.self c.close_target.new.heap c.args.desc c.get_desc-found.result.now (omega (arith, alike, there.named))
    c.free_desc-gone.ensures.kept c.close_target.ensures.descs c.close_target.ensures.closes)

pub returns-clause-opened : goal.returns-clause-opened
returns-clause-opened c = λ numbers list files are.
    let there = c.requires.there in
    let alike = counts_alike c.args.heap.now.descs c.args.desc c.get_desc-found.result.now there.desc c.get_desc-found.ensures there.there in
    open_dropped numbers c.args.heap.now c.close_target.new.heap list files c.args.desc c.get_desc-found.result.now c.get_desc-found.ensures there
    (last_drops c.args.heap.now c.free_desc-gone.new.self c.close_target.new.heap c.args.desc c.get_desc-found.result.now (omega (arith, alike, there.named))
    c.free_desc-gone.ensures.kept c.close_target.ensures.descs c.close_target.ensures.closes) are

pub returns-clause-kept : goal.returns-clause-kept
returns-clause-kept c =
    change_with_descs c.args.heap.now c.close_target.new.heap (without c.args.heap.now.descs c.args.desc)
    (subst (λ (h : Heap). QueuesChange h c.close_target.new.heap) c.free_desc-gone.ensures.kept c.close_target.ensures.kept)

pub returns-clause-owners : goal.returns-clause-owners
returns-clause-owners c = λ hand owners.
    let there = c.requires.there in
    let alike = counts_alike c.args.heap.now.descs c.args.desc c.get_desc-found.result.now there.desc c.get_desc-found.ensures there.there in
    let kept = change_with_descs c.args.heap.now c.close_target.new.heap (without c.args.heap.now.descs c.args.desc)
    (subst (λ (h : Heap). QueuesChange h c.close_target.new.heap) c.free_desc-gone.ensures.kept c.close_target.ensures.kept) in
    owners_dropped c.args.heap.now c.close_target.new.heap hand c.args.desc c.get_desc-found.result.now c.get_desc-found.ensures there
    (last_drops c.args.heap.now c.free_desc-gone.new.self c.close_target.new.heap c.args.desc c.get_desc-found.result.now (omega (arith, alike, there.named))
    c.free_desc-gone.ensures.kept c.close_target.ensures.descs c.close_target.ensures.closes)
    (ap (λ (h : Heap). h.procs) kept) (ap (λ (h : Heap). h.leaves) kept) c.close_target.ensures.owned owners

pub returns-clause-takes : goal.returns-clause-takes
returns-clause-takes c =
    TakesNothing-trans c.args.heap.now c.free_desc-gone.new.self c.close_target.new.heap
    (TakesNothing-freed class.Desc c.args.heap.now c.free_desc-gone.new.self c.free_desc-gone.ensures.frees) c.close_target.ensures.takes

-- ---- the links of FIFOs' pipes

pub returns-then-found-gt1-clause-links : goal.returns-then-found-gt1-clause-links
returns-then-found-gt1-clause-links c = λ found is. record {
  stays = λ more key. ap (λ (h : Heap). link_at h key) c.name_less.ensures.left;
  closes = λ last.
      let same = counts_alike c.args.heap.now.descs c.args.desc c.get_desc-found.result.now found c.get_desc-found.ensures is in
      absurd (omega (arith, same, last));
}

pub returns-clause-links : goal.returns-clause-links
returns-clause-links c = λ found is.
    subst (λ (d : Desc). DropsLinks c.args.heap.now c.close_target.new.heap d)
    (one_desc c.args.heap.now.descs c.args.desc c.get_desc-found.result.now found c.get_desc-found.ensures is) (record {
      stays = λ more. absurd (omega (arith, more));
      closes = λ last. links_with c.args.heap.now c.close_target.new.heap (without c.args.heap.now.descs c.args.desc) c.get_desc-found.result.now.access c.get_desc-found.result.now.target
          (subst (λ (h : Heap). ClosesLinks h c.close_target.new.heap c.get_desc-found.result.now.access c.get_desc-found.result.now.target) c.free_desc-gone.ensures.kept c.close_target.ensures.links);
    })
