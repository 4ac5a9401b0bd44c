use Rattle.std.proofs.Common.{ℕ, ◌<◌}
use Rattle.cache_laws.specs.Caches.{IsAt}
use Rattle.cache_laws.proofs.place_of.Given as goal

abbrev pub invariant-loop-at : goal.invariant-loop-at
invariant-loop-at l = (i : ℕ) → i < l.at → IsAt l.fills l.slot i → ⊥
