use Rattle.std.proofs.Common.{◌≡◌, ◌++◌, map, take, drop}
use Rattle.call_run.specs.Sleepers.{begun}
use Rattle.call_run.proofs.sleepers.begin_channel.Given as goal

-- those before it are told, and the others are to be told still
abbrev pub invariant-loop-sleeper : goal.invariant-loop-sleeper
invariant-loop-sleeper l = take l.sleeper-index l.told ++ map (begun l.channel) (drop l.sleeper-index l.told) ≡ map (begun l.channel) l.fn.told
