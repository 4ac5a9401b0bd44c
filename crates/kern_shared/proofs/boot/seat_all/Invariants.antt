use Rattle.std.proofs.Common.{◌≡◌, ◌+◌, length, None, vec_capacity}
use Rattle.std.specs.List.{AllByRecursion}
use Rattle.turn_words.specs.Rule.{opened}
use Rattle.turn_words.specs.Seats.{seat_of}
use Rattle.kern_shared.specs.Closing.{IsEmpty}
use Rattle.kern_shared.specs.Passes.{IsAtRest}
use Rattle.kern_shared.proofs.boot.seat_all.Given as goal

abbrev pub invariant-loop-own : goal.invariant-loop-own
invariant-loop-own g l =
    record {
      first : l.first ≡ seat_of l.turns (record opened { others = length l.passes.items });
      left : AllByRecursion (IsEmpty g.L.RunName.charge) l.left.items;
      each : AllByRecursion (λ p. IsAtRest g.L.RunName.script g.L.RunName.steps g.L.RunName.charge l.turns p.turn p.own p.given × (p.given ≡ None)) l.passes.items;
      count : length l.passes.items + length l.left.items ≡ length l.initial.left.items;
      room : vec_capacity l.passes ≡ vec_capacity l.initial.passes;
    }

abbrev pub decreases-loop-own : goal.decreases-loop-own
decreases-loop-own g l = length l.left.items
