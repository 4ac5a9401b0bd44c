use Rattle.std.proofs.Common.{◌≡◌, Bool, true, false, not, refl}
use Rattle.call_run.proofs.Telling.{named_more}
use Rattle.call_run.proofs.sleepers.ask.Goals as goal

pub goes_on-blocks-requires-clause-stands : goal.goes_on-blocks-requires-clause-stands
goes_on-blocks-requires-clause-stands c = c.requires.alive

other_way : (a b : Bool) → a ≡ not b → b ≡ not a
other_way true true e = cc
other_way true false e = refl
other_way false true e = refl
other_way false false e = cc

pub returns-then-blocks-sleeper-clause-blocks : goal.returns-then-blocks-sleeper-clause-blocks
returns-then-blocks-sleeper-clause-blocks c = λ world stands reached alive. other_way _ _ (c.goes_on-blocks.ensures.goes world stands reached alive)

pub returns-then-blocks-sleeper-clause-named : goal.returns-then-blocks-sleeper-clause-named
returns-then-blocks-sleeper-clause-named c = λ who none.
    let it = named_more _ _ _ who c.push.ensures.items none in (it.0, (λ same. absurd (it.1 same)))

pub returns-else-blocks-sleeper-clause-named : goal.returns-else-blocks-sleeper-clause-named
returns-else-blocks-sleeper-clause-named c = λ who none. (none, (λ same. refl))
