use Rattle.tree_laws.proofs.FoundAfter.{unlinked_free}
use Rattle.tree_laws.proofs.TreeKeeps.{unlink_keeps}
use Rattle.tree_laws.proofs.trees.a_removed_name_is_free.Goals as goal

pub returns-clause-free : goal.returns-clause-free
returns-clause-free c = unlinked_free

pub returns-clause-kept : goal.returns-clause-kept
returns-clause-kept c = unlink_keeps
