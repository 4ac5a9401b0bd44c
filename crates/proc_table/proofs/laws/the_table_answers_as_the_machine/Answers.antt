use Rattle.proc_table.proofs.EndAll.{all_end}
use Rattle.proc_table.proofs.LawLemmas.{end_is, fork_is, wait_is}
use Rattle.proc_table.proofs.laws.the_table_answers_as_the_machine.Goals as goal

pub returns-clause-forked : goal.returns-clause-forked
returns-clause-forked c = fork_is

pub returns-clause-waited : goal.returns-clause-waited
returns-clause-waited c = wait_is

pub returns-clause-ended : goal.returns-clause-ended
returns-clause-ended c = end_is

pub returns-clause-all : goal.returns-clause-all
returns-clause-all c = λ table status signal more. all_end table status signal more
