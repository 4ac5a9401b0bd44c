use Rattle.kheap_laws.proofs.TableLemmas.{AreOwnersOf-sock_out, AreOwnersOf-sock_back}
use Rattle.kheap_laws.proofs.tables.a_socket_has_its_queue.Goals as goal

pub returns-clause-out : goal.returns-clause-out
returns-clause-out c = AreOwnersOf-sock_out

pub returns-clause-back : goal.returns-clause-back
returns-clause-back c = AreOwnersOf-sock_back
