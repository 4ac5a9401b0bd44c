use Rattle.std.proofs.Common.{◌≡◌, ◌*◌, take, length}
use Rattle.disk_laws.proofs.DiskSpelling.{words}
use Rattle.disk_layout.proofs.inodes.pointers_of.Given as goal

abbrev pub invariant-loop-k : goal.invariant-loop-k
invariant-loop-k l = record { count : length l.pointers ≡ 10; read : words (take l.k l.pointers) ≡ take (4 * l.k) l.bytes }
