use Rattle.disk_laws.proofs.Leading.{double_leads, had, said}
use Rattle.disk_laws.proofs.ways.a_node_has_the_blocks_of_pointers_that_it_needs.Goals as goal

pub returns-clause-needed : goal.returns-clause-needed
returns-clause-needed c = had

pub returns-clause-many : goal.returns-clause-many
returns-clause-many c = said

pub returns-clause-double : goal.returns-clause-double
returns-clause-double c = double_leads
