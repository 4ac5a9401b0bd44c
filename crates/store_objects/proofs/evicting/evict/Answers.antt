use Rattle.std.proofs.Common.{◌≡◌, true, false, sym, ◌∙◌}
use Rattle.store_objects.proofs.WhatGoes.{can_where, kept_evicted, may_where, stands_evicted}
use Rattle.store_objects.proofs.evicting.evict.Goals as goal

never : {X : Type 0} → true ≡ false → X
never e = cc

pub evict-requires-clause-may : goal.evict-requires-clause-may
evict-requires-clause-may c = c.evictable.ensures.0 c.if-evictable.true

pub returns-then-evictable-clause-kept : goal.returns-then-evictable-clause-kept
returns-then-evictable-clause-kept c = λ script kept.
    kept_evicted script c.args.objects.now c.args.what c.evict.new.heap c.evict.new.self c.evict.ensures.gone c.evict.ensures.stands kept

pub returns-then-evictable-clause-evicted : goal.returns-then-evictable-clause-evicted
returns-then-evictable-clause-evicted c = λ script world stands _.
    stands_evicted script c.args.objects.now c.args.what c.evict.new.heap c.evict.new.self c.evict.ensures.gone c.evict.ensures.stands world stands

pub returns-then-evictable-clause-same : goal.returns-then-evictable-clause-same
returns-then-evictable-clause-same c = λ script world stands none.
    never (sym (can_where script c.args.objects.now world c.args.what stands (c.evictable.ensures.0 c.if-evictable.true)) ∙ none)

pub returns-else-evictable-clause-evicted : goal.returns-else-evictable-clause-evicted
returns-else-evictable-clause-evicted c = λ script world stands can.
    never (sym (c.evictable.ensures.1 (may_where script c.args.objects.now world c.args.what stands can)) ∙ c.if-evictable.false)
