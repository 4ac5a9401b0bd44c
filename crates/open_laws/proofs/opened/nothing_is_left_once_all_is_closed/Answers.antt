use Rattle.open_laws.proofs.GoingLemmas.{no_chunk, no_desc, no_pipe, no_sock_left}
use Rattle.open_laws.proofs.opened.nothing_is_left_once_all_is_closed.Goals as goal

pub returns : goal.returns
returns c = λ h owners unnamed key. (no_desc h owners unnamed key, no_pipe h owners unnamed key, no_sock_left h owners unnamed key, no_chunk h owners unnamed key)
