use Rattle.std.proofs.Common.{length}
use Rattle.kabi_types.proofs.replies.+packed.Given as goal

abbrev pub decreases-packed : goal.decreases-packed
decreases-packed l = length l.bytes.now
