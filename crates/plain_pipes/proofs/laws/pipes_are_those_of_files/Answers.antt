use Rattle.plain_pipes.proofs.FifoLemmas.{fifo_same, found_same, opened_same, pipe_same, place_same}
use Rattle.plain_pipes.proofs.laws.pipes_are_those_of_files.Goals as goal

pub returns-clause-pipe : goal.returns-clause-pipe
returns-clause-pipe c held files place same = pipe_same held files same place

pub returns-clause-found : goal.returns-clause-found
returns-clause-found c held files number same = found_same held files same number

pub returns-clause-fifo : goal.returns-clause-fifo
returns-clause-fifo c held files number same = fifo_same held files same number

pub returns-clause-place : goal.returns-clause-place
returns-clause-place c held files number same = place_same held files same number

pub returns-clause-opened : goal.returns-clause-opened
returns-clause-opened c held files number writing same = opened_same held files same number writing
