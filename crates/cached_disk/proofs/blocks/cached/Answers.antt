use Rattle.std.proofs.Common.{◌≡◌, ℕ, Some, None, sym, ap, ◌∙◌, subst}
use Rattle.std.specs.Prelude.{MatchOption, Option}
use Rattle.lru_index.specs.Order.{Order}
use Rattle.block_cache.specs.Blocks.{block_slot}
use Rattle.cached_disk.specs.Lent.{Parts, parts, AreLent, GoesOn, IsFetched, IsFound, Asked}
use Rattle.cached_disk.proofs.Held.{has_bytes}
use Rattle.cached_disk.proofs.blocks.cached.Goals as goal

pub returns-in-Some-clause-value : goal.returns-in-Some-clause-value
returns-in-Some-clause-value c = has_bytes c.args.disk.now.blocks c.args.heap.now.blocks c.args.cache.now c.args.number c.in-Some.slot c.requires.lent.true_blocks c.requires.lent.keeps (sym c.in-Some.ensures.slot)

pub filled-requires-clause-lent : goal.filled-requires-clause-lent
filled-requires-clause-lent c = subst (λ (o : Order ℕ). AreLent c.args.heap.now c.args.purse.now o c.args.disk.now) (sym c.in-None.ensures.absent) c.requires.lent

pub filled-requires-clause-absent : goal.filled-requires-clause-absent
filled-requires-clause-absent c = c.touch.ensures.same c.args.number ∙ sym c.in-None.ensures.slot

pub returns-in-None-clause-asked : goal.returns-in-None-clause-asked
returns-in-None-clause-asked c =
    let after = parts c.filled.new.heap c.filled.new.purse c.filled.new.cache c.filled.new.disk in
    subst (λ (o : Order ℕ). Asked (parts c.args.heap.now c.args.purse.now o c.args.disk.now) c.args.number after) c.in-None.ensures.absent c.filled.ensures.asked

pub returns-in-None-clause-goes_on : goal.returns-in-None-clause-goes_on
returns-in-None-clause-goes_on c =
    let after = parts c.filled.new.heap c.filled.new.purse c.filled.new.cache c.filled.new.disk in
    subst (λ (o : Order ℕ). GoesOn (parts c.args.heap.now c.args.purse.now o c.args.disk.now) after) c.in-None.ensures.absent c.filled.ensures.goes_on
