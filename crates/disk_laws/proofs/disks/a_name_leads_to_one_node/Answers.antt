use Rattle.disk_laws.proofs.DirectoryEntries.{one_node}
use Rattle.disk_laws.proofs.disks.a_name_leads_to_one_node.Goals as goal

pub returns : goal.returns
returns c = one_node
