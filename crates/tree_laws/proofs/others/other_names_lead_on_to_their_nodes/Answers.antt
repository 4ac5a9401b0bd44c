use Rattle.tree_laws.proofs.OtherNodes.{make_names, unlink_names, link_names, over_names, to_names, write_names, resize_names, closed_names}
use Rattle.tree_laws.proofs.others.other_names_lead_on_to_their_nodes.Goals as goal

pub returns-clause-make : goal.returns-clause-make
returns-clause-make c = make_names

pub returns-clause-unlink : goal.returns-clause-unlink
returns-clause-unlink c = unlink_names

pub returns-clause-link : goal.returns-clause-link
returns-clause-link c = link_names

pub returns-clause-rename_over : goal.returns-clause-rename_over
returns-clause-rename_over c = over_names

pub returns-clause-rename_to : goal.returns-clause-rename_to
returns-clause-rename_to c = to_names

pub returns-clause-write : goal.returns-clause-write
returns-clause-write c = write_names

pub returns-clause-resize : goal.returns-clause-resize
returns-clause-resize c = resize_names

pub returns-clause-closed : goal.returns-clause-closed
returns-clause-closed c = closed_names
