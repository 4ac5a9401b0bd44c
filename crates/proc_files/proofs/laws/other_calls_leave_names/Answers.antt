use Rattle.proc_files.proofs.Left.{accept_left, listen_left, new_left, pair_left, read_left, shut_left, write_left}
use Rattle.proc_files.proofs.laws.other_calls_leave_names.Goals as goal

pub returns : goal.returns
returns c = record {
  made = new_left;
  pair = pair_left;
  listening = listen_left;
  accepted = accept_left;
  read = read_left;
  written = write_left;
  shut = shut_left;
}
