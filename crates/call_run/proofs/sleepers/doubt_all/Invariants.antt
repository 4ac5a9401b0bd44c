use Rattle.std.proofs.Common.{◌≡◌, ◌++◌, map, take, drop}
use Rattle.call_run.specs.Sleepers.{doubted}
use Rattle.call_run.proofs.sleepers.doubt_all.Given as goal

-- those before it are doubted, and the others are to be doubted still
abbrev pub invariant-loop-channel : goal.invariant-loop-channel
invariant-loop-channel l = take l.channel-index l.channels ++ map doubted (drop l.channel-index l.channels) ≡ map doubted l.fn.channels
