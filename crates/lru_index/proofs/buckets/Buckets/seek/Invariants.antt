use Rattle.lru_index.proofs.Seeking.{Passes}
use Rattle.lru_index.proofs.buckets.Buckets.seek.Given as goal

-- the keys before this place were passed, and what is left of the bucket begins at it
abbrev pub invariant-loop : goal.invariant-loop
invariant-loop g l = Passes g.K.PartialEq.eq g.K.Key.scatter l.self l.bucket l.key l.before l.at l.counter
