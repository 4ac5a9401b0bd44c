use Rattle.std.proofs.Common.{◌∙◌, ap, subst, arith}
use Rattle.std.proofs.lemmas.List.{length-take-le}
use Rattle.memfs_ops.specs.Changing.{LedTo}
use Rattle.posix_defs.specs.Memory.{loaded}
use Rattle.posix_defs.specs.TreeChanges.{write as tree_write}
use Rattle.proc_files.proofs.writing.write_from.Goals as goal

pub write_node-requires-clause-stands : goal.write_node-requires-clause-stands
write_node-requires-clause-stands c = let it = c.requires.file in (it.tree, it.pins, it.stands, it.held, it.is_file)

pub returns-clause-answer : goal.returns-clause-answer
returns-clause-answer c = λ plain pins memory stands is.
    let room = length-take-le c.args.range.now.count _ (let few = c.requires.few in omega (arith, few)) in
    subst (λ bytes. LedTo c.write_node.new.heap c.write_node.new.self plain (tree_write plain c.args.node c.args.at bytes) pins c.write_node.result)
    (c.copy_out.ensures memory is ∙ ap (loaded memory c.args.range.now.start) room) (c.write_node.ensures.answer plain pins stands)
