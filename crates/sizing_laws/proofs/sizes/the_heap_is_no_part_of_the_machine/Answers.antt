use Rattle.sizing_laws.proofs.Machines.{same_call, same_machine}
use Rattle.sizing_laws.proofs.sizes.the_heap_is_no_part_of_the_machine.Goals as goal

pub returns-clause-made : goal.returns-clause-made
returns-clause-made c = same_call

pub returns-clause-answered : goal.returns-clause-answered
returns-clause-answered c = same_machine
