use Rattle.prog_ctl.proofs.Staying.{restarted_stands}
use Rattle.prog_ctl.proofs.laws.a_started_program_stands_at_its_first_statement.Goals as goal

pub returns-clause-stands : goal.returns-clause-stands
returns-clause-stands c = restarted_stands
