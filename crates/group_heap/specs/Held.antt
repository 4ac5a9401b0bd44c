-- What the seats of a charge word hold where groups run.
use Rattle.std.specs.Prelude.{ℕ, cond, List}
use Rattle.charge_words.specs.declared.rule.ChargeView.{ChargeView}
use Rattle.charge_words.specs.Rule.{counted, total}

-- what the seat of boot holds, beside the groups
abbrev pub held_at_boot : List ChargeView → ℕ
held_at_boot views = total (λ v. cond v.is_boot (counted v) 0) views

-- what all other seats hold: the heaps of the groups that run, since each holds its group's while that runs
abbrev pub held_by_groups : List ChargeView → ℕ
held_by_groups views = total (λ v. cond v.is_boot 0 (counted v)) views
