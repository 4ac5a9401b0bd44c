use Rattle.std.proofs.Common.{◌≡◌, ◌+◌, drop}
use Rattle.posix_defs.specs.Memory.{stored}
use Rattle.plain_memory.proofs.spaces.Space.store.Given as goal

abbrev pub invariant-loop-index : goal.invariant-loop-index
invariant-loop-index l = stored l.self (l.addr + l.index) (drop l.index l.bytes) ≡ stored l.initial.self l.addr l.bytes
