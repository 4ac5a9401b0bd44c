use Rattle.std.proofs.Common.{◌≡◌, ℕ, List, ◌∷◌, Option, Some, ap, ◌∙◌}
use Rattle.kheap_slabs.specs.Heap.{Heap}
use Rattle.kheap_laws.proofs.PaidLemmas.{TakesNothing-trans}
use Rattle.pipe_ends.specs.Links.{AreRelinked}
use Rattle.pipe_ends.proofs.RelinkLemmas.{relinked_kept}
use Rattle.open_laws.proofs.RelinkedLemmas.{droppable_relinked, left_relinked, open_relinked, owners_relinked, relinked_descs}
use Rattle.kheap_slabs.specs.Objects.{object}
use Rattle.kheap_slabs.specs.declared.objects.Desc.{Desc}
use Rattle.desc_table.proofs.descriptions.close_desc.Goals as goal

-- the description is the one that it was
still : (old new : Heap) (key : ℕ) (found : Desc) → AreRelinked old new → object old.descs key ≡ Some found → object new.descs key ≡ Some found
still old new key found relinked is = ap (λ (d : List (Option Desc)). object d key) (relinked_descs old new relinked) ∙ is

pub drop_desc-requires-clause-there : goal.drop_desc-requires-clause-there
drop_desc-requires-clause-there c = droppable_relinked c.args.heap.now c.leave_chain.new.heap c.leave_chain.ensures.relinked c.args.desc c.requires.there

pub returns-clause-node : goal.returns-clause-node
returns-clause-node c = λ found is.
    c.drop_desc.ensures.node found (still c.args.heap.now c.leave_chain.new.heap c.args.desc found c.leave_chain.ensures.relinked is) ∙ left_relinked c.args.heap.now c.leave_chain.new.heap c.leave_chain.ensures.relinked found

pub returns-clause-drops : goal.returns-clause-drops
returns-clause-drops c = λ found is. record {
  mid = c.leave_chain.new.heap;
  relinked = c.leave_chain.ensures.relinked;
  drops = c.drop_desc.ensures.drops found (still c.args.heap.now c.leave_chain.new.heap c.args.desc found c.leave_chain.ensures.relinked is);
}

pub returns-clause-chain : goal.returns-clause-chain
returns-clause-chain c =
    let there = c.requires.there in
    c.leave_chain.ensures.chain c.drop_desc.new.heap there.desc there.there (c.drop_desc.ensures.links there.desc (still c.args.heap.now c.leave_chain.new.heap c.args.desc there.desc c.leave_chain.ensures.relinked there.there))

pub returns-clause-opened : goal.returns-clause-opened
returns-clause-opened c = λ numbers list files are.
    c.drop_desc.ensures.opened numbers list files (open_relinked c.args.heap.now c.leave_chain.new.heap c.leave_chain.ensures.relinked numbers list files are)

pub returns-clause-owners : goal.returns-clause-owners
returns-clause-owners c = λ hand owners.
    c.drop_desc.ensures.owners hand (owners_relinked c.args.heap.now c.leave_chain.new.heap c.leave_chain.ensures.relinked (c.args.desc ∷ hand) owners)

pub returns-clause-kept : goal.returns-clause-kept
returns-clause-kept c =
    c.drop_desc.ensures.kept
    ∙ ap (λ (h : Heap). record h { descs = c.drop_desc.new.heap.descs; pipes = c.drop_desc.new.heap.pipes; chunks = c.drop_desc.new.heap.chunks; socks = c.drop_desc.new.heap.socks })
    (relinked_kept c.args.heap.now c.leave_chain.new.heap c.leave_chain.ensures.relinked)

pub returns-clause-takes : goal.returns-clause-takes
returns-clause-takes c = TakesNothing-trans c.args.heap.now c.leave_chain.new.heap c.drop_desc.new.heap c.leave_chain.ensures.takes c.drop_desc.ensures.takes
