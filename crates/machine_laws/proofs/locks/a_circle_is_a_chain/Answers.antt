use Rattle.machine_laws.proofs.Chains.{chain_circle, chain_of, circle_chain, leads_so}
use Rattle.machine_laws.proofs.locks.a_circle_is_a_chain.Goals as goal

pub returns-clause-chain : goal.returns-clause-chain
returns-clause-chain c = λ waits between pid other. (chain_of waits between pid other, leads_so waits between pid other)

pub returns-clause-circle : goal.returns-clause-circle
returns-clause-circle c = λ script plain reached pid. (circle_chain script plain reached pid, chain_circle script plain reached pid)
