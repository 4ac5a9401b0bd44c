use Rattle.shared_trials.specs.Workers.{IsAsMany, Works}
use Rattle.shared_trials.proofs.rows.plays.Given as goal

abbrev pub invariant-loop-row : goal.invariant-loop-row
invariant-loop-row g l =
    record {
      first : Works g.L.RunName.script g.L.RunName.steps g.L.RunName.charge l.kernel.turns l.first.turn l.first.own l.first.given l.one;
      second : Works g.L.RunName.script g.L.RunName.steps g.L.RunName.charge l.kernel.turns l.second.turn l.second.own l.second.given l.other;
      many : IsAsMany l.fn.first.turn l.first.turn;
    }
