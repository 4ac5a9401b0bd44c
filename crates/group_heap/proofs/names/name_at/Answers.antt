use Rattle.group_heap.specs.Texts.{section_said}
use Rattle.group_heap.proofs.Refusals.{refused_at}
use Rattle.group_heap.proofs.names.name_at.Goals as goal

pub returns-in-Err-clause-says : goal.returns-in-Err-clause-says
returns-in-Err-clause-says c = refused_at (section_said c.args.before.now) c.args.line c.args.text.now c.in-Err.refused c.at_line.result c.at_line.ensures c.in-Err.ensures.says
