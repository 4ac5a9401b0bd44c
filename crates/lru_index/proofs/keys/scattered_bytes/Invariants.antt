use Rattle.std.proofs.Common.{◌≡◌, ◌*◌, ◌%◌, ◌^◌, drop}
use Rattle.lru_index.specs.NameKeys.{scattered_on}
use Rattle.lru_index.proofs.keys.scattered_bytes.Given as goal

abbrev pub invariant-loop-byte : goal.invariant-loop-byte
invariant-loop-byte l = scattered_on l.all (drop l.byte-index l.bytes) ≡ scattered_on (l.fn.start * 11400714819323198485 % 2 ^ 64) l.bytes
