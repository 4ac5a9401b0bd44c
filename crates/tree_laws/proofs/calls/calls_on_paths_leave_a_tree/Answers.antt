use Rattle.tree_laws.proofs.CallsKeep.{open_path_keeps, mkdir_path_keeps, mkfifo_path_keeps, bind_path_keeps, rmdir_path_keeps, unlink_path_keeps, link_path_keeps, rename_path_keeps}
use Rattle.tree_laws.proofs.calls.calls_on_paths_leave_a_tree.Goals as goal

pub returns-clause-open : goal.returns-clause-open
returns-clause-open c = open_path_keeps

pub returns-clause-mkdir : goal.returns-clause-mkdir
returns-clause-mkdir c = mkdir_path_keeps

pub returns-clause-mkfifo : goal.returns-clause-mkfifo
returns-clause-mkfifo c = mkfifo_path_keeps

pub returns-clause-bind : goal.returns-clause-bind
returns-clause-bind c = bind_path_keeps

pub returns-clause-rmdir : goal.returns-clause-rmdir
returns-clause-rmdir c = rmdir_path_keeps

pub returns-clause-unlink : goal.returns-clause-unlink
returns-clause-unlink c = unlink_path_keeps

pub returns-clause-link : goal.returns-clause-link
returns-clause-link c = link_path_keeps

pub returns-clause-rename : goal.returns-clause-rename
returns-clause-rename c = rename_path_keeps
