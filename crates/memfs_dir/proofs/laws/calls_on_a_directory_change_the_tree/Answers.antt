use Rattle.memfs_dir.proofs.InTree.{put_in_tree, taken_from_tree, aimed_in_tree, renamed_in_tree, hung_in_tree}
use Rattle.memfs_dir.proofs.laws.calls_on_a_directory_change_the_tree.Goals as goal

pub returns-clause-put : goal.returns-clause-put
returns-clause-put c = put_in_tree

pub returns-clause-taken : goal.returns-clause-taken
returns-clause-taken c = taken_from_tree

pub returns-clause-aimed : goal.returns-clause-aimed
returns-clause-aimed c = aimed_in_tree

pub returns-clause-renamed : goal.returns-clause-renamed
returns-clause-renamed c = renamed_in_tree

pub returns-clause-hung : goal.returns-clause-hung
returns-clause-hung c = hung_in_tree
