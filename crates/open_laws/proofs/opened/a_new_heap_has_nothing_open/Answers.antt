use Rattle.open_laws.proofs.GoingLemmas.{boot_open, boot_owners}
use Rattle.open_laws.proofs.opened.a_new_heap_has_nothing_open.Goals as goal

pub returns : goal.returns
returns c = record { owners = boot_owners; opened = boot_open }
