use Rattle.std.proofs.Common.{length}
use Rattle.std.specs.List.{AllByRecursion}
use mathlib.Core.List.{IsPrefix}
use Rattle.kern_shared.specs.Closing.{IsFirst, IsFree}
use Rattle.kern_shared.proofs.Crew.{HasGone}
use Rattle.kern_shared.proofs.closing.gather.Given as goal

abbrev pub invariant-loop-pass : goal.invariant-loop-pass
invariant-loop-pass g l =
    record {
      free : IsFree l.turns l.first;
      first : IsFirst (length l.left.items) l.first;
      left : AllByRecursion (λ p. IsFree l.turns p.turn) l.left.items;
      own : IsPrefix l.fn.first.known.seen l.first.known.seen;
      gone : HasGone (λ p. IsPrefix p.turn.known.seen l.first.known.seen) l.left.items l.initial.left.items;
    }

abbrev pub decreases-loop-pass : goal.decreases-loop-pass
decreases-loop-pass g l = length l.left.items
