use Rattle.std.proofs.Common.{◌≡◌, drop}
use Rattle.plain_pipes.specs.Held.{first_of_fifo}
use Rattle.plain_pipes.proofs.pipes.first_of_fifo.Given as goal

-- the first of what is left is the first of all
abbrev pub invariant-loop-kept : goal.invariant-loop-kept
invariant-loop-kept l = first_of_fifo l.number (drop l.kept-index l.there) ≡ first_of_fifo l.number l.there
