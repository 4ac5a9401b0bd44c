use Rattle.std.proofs.Common.{refl}
use Rattle.posix_defs.specs.DiskContents.{entry_for}
use Rattle.posix_defs.specs.TreeChanges.{place_of}
use Rattle.memfs_dir.proofs.Dots.{found_behind, missing_behind, set_behind, taken_behind}
use Rattle.memfs_dir.proofs.laws.calls_change_the_entries_behind_the_dots.Goals as goal

pub returns-clause-found : goal.returns-clause-found
returns-clause-found c = found_behind

pub returns-clause-missing : goal.returns-clause-missing
returns-clause-missing c = missing_behind

pub returns-clause-put : goal.returns-clause-put
returns-clause-put c = λ dir parent node entries name. refl

pub returns-clause-taken : goal.returns-clause-taken
returns-clause-taken c = taken_behind

pub returns-clause-aimed : goal.returns-clause-aimed
returns-clause-aimed c = λ dir parent node entries name. set_behind dir parent entries (place_of name entries) (entry_for node name)

pub returns-clause-renamed : goal.returns-clause-renamed
returns-clause-renamed c = λ dir parent node entries old new. set_behind dir parent entries (place_of old entries) (entry_for node new)

pub returns-clause-hung : goal.returns-clause-hung
returns-clause-hung c = λ dir parent other entries. refl
