use Rattle.std.proofs.Common.{◌≡◌, None, replicate}
use Rattle.plain_memory.proofs.spaces.Space.new.Given as goal

abbrev pub invariant-loop : goal.invariant-loop
invariant-loop l = l.pages.items ≡ replicate l.counter None
