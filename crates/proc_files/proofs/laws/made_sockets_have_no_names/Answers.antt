use Rattle.proc_files.proofs.Anew.{names_anew}
use Rattle.proc_files.proofs.laws.made_sockets_have_no_names.Goals as goal

pub returns : goal.returns
returns c = names_anew
