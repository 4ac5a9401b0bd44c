use Rattle.machine_laws.proofs.Turning.{evicted_reached, killed_reached, refused_reached, turned_reached}
use Rattle.machine_laws.proofs.turns.turns_lead_to_machines_that_are_reached.Goals as goal

pub returns-clause-turns : goal.returns-clause-turns
returns-clause-turns c = turned_reached

pub returns-clause-refuses : goal.returns-clause-refuses
returns-clause-refuses c = refused_reached

pub returns-clause-evicts : goal.returns-clause-evicts
returns-clause-evicts c = evicted_reached

pub returns-clause-kills : goal.returns-clause-kills
returns-clause-kills c = killed_reached
