use Rattle.memfs_dir.proofs.Places.{set_others}
use Rattle.memfs_dir.proofs.laws.an_entry_put_in_place_changes_no_other_name.Goals as goal

pub returns : goal.returns
returns c = set_others
