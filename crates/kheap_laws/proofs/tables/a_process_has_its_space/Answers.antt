use Rattle.kheap_laws.proofs.TableLemmas.{AreOwnersOf-proc_out, AreOwnersOf-proc_back}
use Rattle.kheap_laws.proofs.tables.a_process_has_its_space.Goals as goal

pub returns-clause-out : goal.returns-clause-out
returns-clause-out c = AreOwnersOf-proc_out

pub returns-clause-back : goal.returns-clause-back
returns-clause-back c = AreOwnersOf-proc_back
