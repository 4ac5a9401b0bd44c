use Rattle.std.proofs.Common.{◌≡◌, nat_eq, eqb-true, Option, Some, None, ℕ, IfNone, List, sym, ap, ◌∙◌, subst}
use Rattle.std.specs.Cmp.{nat_eq_equiv}
use Rattle.kheap_slabs.specs.declared.objects.Block.{Block}
use Rattle.lru_index.specs.Order.{Order, order, touched}
use Rattle.lru_index.proofs.Pairs.{touched_absent}
use Rattle.block_cache.specs.Blocks.{block_slot, KeepsBlocks}
use Rattle.cache_laws.proofs.KeepsLemmas.{keeps_touched}
use Rattle.block_cache.proofs.cache.BlockCache.touch.Goals as goal

-- to look for a block that isn't cached changes nothing
unmoved : (old new : Order ℕ) (number : ℕ) (slot : Option ℕ) → slot ≡ block_slot old number → new ≡ order (touched (nat_eq number) old.pairs) old.capacity → IfNone slot (new ≡ old)
unmoved old new number (Some slot) at is = tt
unmoved old new number None at is = is ∙ ap (λ (ps : List (ℕ × ℕ)). order ps old.capacity) (touched_absent nat_eq_equiv old.pairs number (sym at))

pub returns-clause-absent : goal.returns-clause-absent
returns-clause-absent c =
    subst (λ (o : Order ℕ). IfNone c.used.result (c.used.new.self ≡ o)) c.self.view_is (
    unmoved c.self.inside.slots c.used.new.self c.args.number c.used.result c.used.ensures.slot c.used.ensures.pairs)

pub returns-clause-keeps : goal.returns-clause-keeps
returns-clause-keeps c =
    let objects = c.args.heap.now.blocks in
    keeps_touched nat_eq_equiv eqb-true (λ (b : Block). b.number) objects c.self.inside.slots c.used.new.self c.args.number (subst (KeepsBlocks objects) (sym c.self.view_is) c.requires) c.used.ensures.finds c.used.ensures.pairs
