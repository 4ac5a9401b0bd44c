use Rattle.proc_table.proofs.OpenLemmas.{bare_closed, bare_ended, bare_forked, bare_moves, bare_nodes, bare_replaced, bare_shares, bare_waited}
use Rattle.proc_table.proofs.laws.nothing_open_stays_nothing_open.Goals as goal

pub returns : goal.returns
returns c = record {
  closed = bare_closed;
  shares = bare_shares;
  moves = bare_moves;
  forked = bare_forked;
  ended = bare_ended;
  waited = bare_waited;
  remembers = bare_nodes;
  replaced = bare_replaced;
}
