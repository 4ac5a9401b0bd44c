use Rattle.lock_ranges.proofs.Unique.{set_again}
use Rattle.lock_ranges.proofs.laws.setting_again_changes_nothing.Goals as goal

pub returns : goal.returns
returns c = set_again
