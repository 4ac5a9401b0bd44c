use Rattle.std.proofs.Common.{◌≡◌, drop}
use Rattle.plain_sockets.specs.Held.{first_bound}
use Rattle.plain_sockets.proofs.sockets.first_bound.Given as goal

-- the first of what is left is the first of all
abbrev pub invariant-loop-kept : goal.invariant-loop-kept
invariant-loop-kept l = first_bound l.number (drop l.kept-index l.there) ≡ first_bound l.number l.there
