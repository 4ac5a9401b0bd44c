use Rattle.group_heap.specs.Texts.{front_said}
use Rattle.group_heap.proofs.Refusals.{refused_at}
use Rattle.group_heap.proofs.fronts.whole_at.Goals as goal

pub returns-in-Err : goal.returns-in-Err
returns-in-Err c = refused_at (front_said c.args.whole) c.args.line c.args.text.now c.in-Err.refused c.at_line.result c.at_line.ensures c.in-Err.ensures
