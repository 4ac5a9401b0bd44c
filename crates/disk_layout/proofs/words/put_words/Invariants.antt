use Rattle.std.proofs.Common.{◌≡◌, ◌+◌, ◌*◌, ◌++◌, take, drop}
use Rattle.disk_laws.proofs.DiskSpelling.{words}
use Rattle.disk_layout.proofs.words.put_words.Given as goal

abbrev pub invariant-loop-k : goal.invariant-loop-k
invariant-loop-k l = l.out ≡ (take l.at l.initial.out ++ words (take l.k l.words)) ++ drop (l.at + 4 * l.k) l.initial.out
