use Rattle.std.proofs.Common.{◌≡◌, drop}
use Rattle.plain_sockets.specs.Held.{first_listening}
use Rattle.plain_sockets.proofs.sockets.first_listening.Given as goal

-- the first of what is left is the first of all
abbrev pub invariant-loop-kept : goal.invariant-loop-kept
invariant-loop-kept l = first_listening l.number (drop l.kept-index l.there) ≡ first_listening l.number l.there
